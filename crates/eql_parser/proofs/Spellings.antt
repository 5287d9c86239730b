-- Words by their characters and by their bytes.
use Rattle.std.proofs.Common.{◌≡◌, ◌≢◌, ℕ, ◌+◌, ◌-◌, ◌<◌, List, [], ◌∷◌, ◌++◌, length, take, drop, nat_lt, Bool, true, false, if◌then◌else◌, codes, Option, Some, None, encode_utf8_all, refl, sym, ap, ◌∙◌, arith, Decides, length-append, take-append-drop, lit<, subst, get_or}
use Rattle.std.specs.List.{list_all}
use Rattle.std.specs.Str.{chars, bytes_eq, IsUtf8, IsAscii}
use Rattle.std.proofs.lemmas.Bool.{and_parts, false_from_ne_true}
use Rattle.std.proofs.lemmas.Bool.Decides.{same_from_decides, nat_tests}
use Rattle.std.proofs.lemmas.List.{get_or-drop}
use Rattle.std.proofs.lemmas.Slice.Eq.{bytes_eq-Decides}
use Rattle.std.proofs.lemmas.Str.{encodes-chars, encodes-IsAscii, chars-IsAscii, chars-append, encodes-append, IsUtf8-take, IsCharBoundary-before_ascii}
use Rattle.std.proofs.lemmas.Str.Ascii.{IsAscii-nil, IsAscii-cons}
use Rattle.eql_parser.specs.Grammar.{part}
use Rattle.eql_lexer.specs.declared.token.Sign.{Sign}
use Rattle.eql_lexer.specs.declared.token.Sign.TheVariants as sign
use Rattle.eql_parser.specs.Kinds.{Kind, word_in, keywords, word_kind, kind_or, plain_kind, sign_kind, name, folding}
use Rattle.eql_parser.specs.Pieces.{is_plain_table}

pub plain_ascii : (p : List ℕ) → list_all (λ b. nat_lt b 128) p ≡ true → IsAscii p
plain_ascii [] h = IsAscii-nil
plain_ascii (b ∷ bs) h =
    let parts = and_parts (nat_lt b 128) (list_all (λ c. nat_lt c 128) bs) h in
    let here : b < 128 = grind (arith, nat_tests) in
    IsAscii-cons b bs here (plain_ascii bs parts.1)

-- whether a text is an ASCII word, by its characters as by its bytes
pub same_test : (bs p : List ℕ) → IsUtf8 bs → list_all (λ b. nat_lt b 128) p ≡ true → bytes_eq bs p ≡ bytes_eq (chars bs) p
same_test bs p u h =
    let plain = plain_ascii p h in
    let by_bytes = bytes_eq-Decides bs p in
    let by_chars = bytes_eq-Decides (chars bs) p in
    let both : Decides (bytes_eq bs p) (chars bs ≡ p) =
    (λ e. ap chars (by_bytes.0 e) ∙ chars-IsAscii p plain, λ e. by_bytes.1 (sym (encodes-chars bs u) ∙ ap encode_utf8_all e ∙ encodes-IsAscii p plain)) in
    same_from_decides _ (bytes_eq (chars bs) p) both by_chars

-- a text with other bytes than an ASCII word is another text
pub no_word : (bs cs : List ℕ) → IsUtf8 bs → chars bs ≡ cs → (word : List ℕ) → list_all (λ b. nat_lt b 128) word ≡ true → bs ≢ word → bytes_eq cs word ≡ false
no_word bs cs u e word plain other =
    let differ : bytes_eq bs word ≡ false = false_from_ne_true (bytes_eq bs word) (λ t. other ((bytes_eq-Decides bs word).0 t)) in
    rw e at (sym (same_test bs word u plain) ∙ differ)

pub same_entry : (bs : List ℕ) (table : List (List ℕ × Kind)) → IsUtf8 bs → is_plain_table table ≡ true → word_in table bs ≡ word_in table (chars bs)
same_entry bs [] u h = refl
same_entry bs (e ∷ es) u h =
    let parts = and_parts (list_all (λ b. nat_lt b 128) e.0) (is_plain_table es) h in
    ap (λ t. if t then Some e.1 else word_in es bs) (same_test bs e.0 u parts.0) ∙ ap (λ r. if bytes_eq (chars bs) e.0 then Some e.1 else r) (same_entry bs es u parts.1)

drop_front : (xs ys : List ℕ) → drop (length xs) (xs ++ ys) ≡ ys
drop_front [] ys = refl
drop_front (x ∷ xs) ys = drop_front xs ys

take_front : (xs ys : List ℕ) → take (length xs) (xs ++ ys) ≡ xs
take_front [] ys = refl
take_front (x ∷ xs) ys = ap (λ l. x ∷ l) (take_front xs ys)

one_less : (xs : List ℕ) (b : ℕ) → length (xs ++ b ∷ []) - 1 ≡ length xs
one_less xs b = omega (arith, length-append xs (b ∷ []))

tilde_ascii : IsAscii (126 ∷ [])
tilde_ascii = IsAscii-cons 126 [] (lit< tt) IsAscii-nil

same_place : (n : ℕ) → n ≡ n + 0
same_place n = omega arith

front_utf8 : (bs xs : List ℕ) → IsUtf8 bs → bs ≡ xs ++ 126 ∷ [] → IsUtf8 xs
front_utf8 bs xs u e =
    let long : length xs < length bs = omega (arith, ap length e, length-append xs (126 ∷ [])) in
    let here : drop (length xs) bs ≡ 126 ∷ [] = ap (drop (length xs)) e ∙ drop_front xs (126 ∷ []) in
    let byte : get_or bs (length xs) 0 ≡ 126 = ap (λ k. get_or bs k 0) (same_place (length xs)) ∙ sym (get_or-drop (length xs) bs 0 0) ∙ ap (λ l. get_or l 0 0) here in
    subst IsUtf8 (ap (take (length xs)) e ∙ take_front xs (126 ∷ [])) (IsUtf8-take bs (length xs) u (IsCharBoundary-before_ascii bs (length xs) long (omega arith)))

-- a word that ends in `~`
tilde_whole : (w bs xs : List ℕ) → IsUtf8 bs → chars bs ≡ w → bs ≡ xs ++ 126 ∷ [] → w ≡ chars xs ++ 126 ∷ []
tilde_whole w bs xs u e h =
    sym e ∙ ap chars h ∙ chars-append xs (126 ∷ []) (front_utf8 bs xs u h) ∙ ap (λ l. chars xs ++ l) (chars-IsAscii (126 ∷ []) tilde_ascii)

tilde_last : (ys : List ℕ) → bytes_eq (drop (length (ys ++ 126 ∷ []) - 1) (ys ++ 126 ∷ [])) (codes "~") ≡ true
unfolding lib.Utf8.encode
tilde_last ys = ap (λ l. bytes_eq l (126 ∷ [])) (ap (λ n. drop n (ys ++ 126 ∷ [])) (one_less ys 126) ∙ drop_front ys (126 ∷ []))

tilde_front : (ys : List ℕ) → take (length (ys ++ 126 ∷ []) - 1) (ys ++ 126 ∷ []) ≡ ys
tilde_front ys = ap (λ n. take n (ys ++ 126 ∷ [])) (one_less ys 126) ∙ take_front ys (126 ∷ [])

ends_in_tilde : (w bs xs : List ℕ) → IsUtf8 bs → chars bs ≡ w → bs ≡ xs ++ 126 ∷ [] → bytes_eq (drop (length w - 1) w) (codes "~") ≡ true
ends_in_tilde w bs xs u e h = ap (λ l. bytes_eq (drop (length l - 1) l) (codes "~")) (tilde_whole w bs xs u e h) ∙ tilde_last (chars xs)

pub with_tilde : (w bs xs : List ℕ) → IsUtf8 bs → chars bs ≡ w → bs ≡ xs ++ 126 ∷ [] → folding (chars xs) ≡ plain_kind w
with_tilde w bs xs u e h =
    ap folding (sym (ap (λ l. take (length l - 1) l) (tilde_whole w bs xs u e h) ∙ tilde_front (chars xs)))
    ∙ ap (λ t. if t then folding (take (length w - 1) w) else name w) (sym (ends_in_tilde w bs xs u e h))

-- a word that doesn't
ends_in_another : (w bs : List ℕ) → IsUtf8 bs → chars bs ≡ w → ((front : List ℕ) → bs ≢ front ++ 126 ∷ []) → bytes_eq (drop (length w - 1) w) (codes "~") ≡ false
unfolding lib.Utf8.encode
ends_in_another w bs u e h =
    false_from_ne_true _ (λ t.
    let last = (bytes_eq-Decides (drop (length w - 1) w) (126 ∷ [])).0 t in
    let whole : w ≡ take (length w - 1) w ++ 126 ∷ [] = sym (take-append-drop (length w - 1) w) ∙ ap (λ l. take (length w - 1) w ++ l) last in
    h (encode_utf8_all (take (length w - 1) w)) (sym (encodes-chars bs u) ∙ ap encode_utf8_all (e ∙ whole) ∙ encodes-append (take (length w - 1) w) (126 ∷ [])
    ∙ ap (λ l. encode_utf8_all (take (length w - 1) w) ++ l) (encodes-IsAscii (126 ∷ []) tilde_ascii)))

pub without_tilde : (w bs : List ℕ) → IsUtf8 bs → chars bs ≡ w → ((front : List ℕ) → bs ≢ front ++ 126 ∷ []) → name w ≡ plain_kind w
without_tilde w bs u e h = ap (λ t. if t then folding (take (length w - 1) w) else name w) (sym (ends_in_another w bs u e h))

-- what the table says of a word's bytes is what it says of its characters
pub known_word : (w bs : List ℕ) (r : Option Kind) → IsUtf8 bs → chars bs ≡ w → r ≡ word_in keywords bs → kind_or r (plain_kind w) ≡ word_kind w
unfolding lib.Utf8.encode
known_word w bs r u e h = ap (λ q. kind_or q (plain_kind w)) (h ∙ same_entry bs keywords u refl ∙ ap (word_in keywords) e)

-- a word without `~` is a part of a field's name as it is spelled
abbrev pub word_part : List ℕ → Option (List ℕ)
word_part w = if bytes_eq (drop (length w - 1) w) (codes "~") then None else Some w

abbrev AreParts : List (List ℕ × Kind) → Type 0
AreParts [] = Unit {0}
AreParts (e ∷ es) = (part e.1 ≡ word_part e.0) × AreParts es

plain_part : (w : List ℕ) (t : Bool) → part (if t then folding (take (length w - 1) w) else name w) ≡ (if t then None else Some w)
plain_part w true = refl
plain_part w false = refl

part_from_entry : (w : List ℕ) (e : List ℕ × Kind) (es : List (List ℕ × Kind)) (t : Bool) → bytes_eq w e.0 ≡ t → part e.1 ≡ word_part e.0
    → part (kind_or (word_in es w) (plain_kind w)) ≡ word_part w → part (kind_or (if t then Some e.1 else word_in es w) (plain_kind w)) ≡ word_part w
part_from_entry w e es true q h k = h ∙ ap word_part (sym ((bytes_eq-Decides w e.0).0 q))
part_from_entry w e es false q h k = k

part_from_table : (w : List ℕ) (table : List (List ℕ × Kind)) → AreParts table → part (kind_or (word_in table w) (plain_kind w)) ≡ word_part w
part_from_table w [] h = plain_part w (bytes_eq (drop (length w - 1) w) (codes "~"))
part_from_table w (e ∷ es) h = part_from_entry w e es (bytes_eq w e.0) refl h.0 (part_from_table w es h.1)

part_of_word : (w : List ℕ) → part (word_kind w) ≡ word_part w
unfolding lib.Utf8.encode
part_of_word w =
    part_from_table w keywords (refl, (refl, (refl, (refl, (refl, (refl, (refl, (refl, (refl, (refl, (refl, (refl, (refl, (refl, (refl, (refl, (refl, (refl, (refl, (refl, (refl, tt)))))))))))))))))))))

pub marked_part : (w bs xs : List ℕ) → IsUtf8 bs → chars bs ≡ w → bs ≡ xs ++ 126 ∷ [] → None ≡ part (word_kind w)
marked_part w bs xs u e h = sym (part_of_word w ∙ ap (λ t. if t then None else Some w) (ends_in_tilde w bs xs u e h))

pub unmarked_part : (w bs : List ℕ) → IsUtf8 bs → chars bs ≡ w → ((front : List ℕ) → bs ≢ front ++ 126 ∷ []) → Some (chars bs) ≡ part (word_kind w)
unmarked_part w bs u e h = ap Some e ∙ sym (part_of_word w ∙ ap (λ t. if t then None else Some w) (ends_in_another w bs u e h))

pub sign_part : (s : Sign) → None ≡ part (sign_kind s)
sign_part sign.Open = refl
sign_part _ = refl
