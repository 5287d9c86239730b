-- The tokens that a UTF-8 text spells are of kinds that can be printed.
use Rattle.std.proofs.Common.{◌≡◌, ℕ, ◌-◌, ◌<◌, Bool, true, false, cond, List, [], ◌∷◌, ◌++◌, length, drop, take, refl, sym, ap, subst, ◌∙◌, arith, append_assoc, append-nil, inl, inr, ◌⊎◌, ◌==◌, ◌&&◌, Option, Some, None}
use Rattle.std.specs.Prelude.{codes, nat_lt, if◌then◌else◌}
use Rattle.std.specs.Str.{chars, IsUtf8, bytes_eq}
use Rattle.std.proofs.lemmas.Bool.Decides.{nat_tests}
use Rattle.std.proofs.lemmas.List.{take-append-drop}
use Rattle.std.proofs.lemmas.Slice.Eq.{bytes_eq-Decides}
use Rattle.std.proofs.lemmas.Str.{scalars-chars, encodes-chars, IsUtf8-append, IsUtf8-encode}
use lib.Utf8.{encode, encodes, scalars}
use Rattle.eql_lexer.specs.declared.token.Sign.{Sign}
use Rattle.eql_lexer.specs.declared.token.Sign.TheVariants as sign
use Rattle.eql_lexer.specs.declared.token.Tok.{Tok}
use Rattle.eql_lexer.specs.declared.token.Tok.TheVariants as tok
use Rattle.eql_lexer.specs.declared.token.Token.{Token}
use Rattle.eql_lexer.specs.Bytes.{is_letter, is_word}
use Rattle.eql_lexer.specs.Blanks.{gap}
use Rattle.eql_lexer.specs.Strings.{IsContent, closed, plain, escaped, triple, before_triple, quoted_name, name_behind, with_byte, is_name}
use Rattle.eql_lexer.specs.Spelling.{IsLexeme, AreTokensTo, Spells, IsRawString, IsLineString, word_more}
use Rattle.eql_lexer.proofs.Utf8.{split_utf8, escape_utf8, escape_scalar, behind_utf8, raw_utf8, raw_cut}
use Rattle.eql_lexer.proofs.Tails.{Tail, tail_here, tail_more, tail_on, gap_tail, lexeme_tail}
use Rattle.eql_lexer.proofs.Places.{tail_utf8}
use Rattle.eql_parser.specs.Kinds.{Kind, kind, kinds, sign_kind, word_kind, word_in, kind_or, plain_kind, keywords, name, folding}
use Rattle.eql_parser.proofs.Canonical.{IsCount, OneLine, IsThere, IsName, GoesOn, IsWord}
use Rattle.eql_parser.proofs.Spelt.{word_step}
use Rattle.eql_parser.proofs.Printable.{GoodKind, GoodKinds, printable, literal_name}

equal : (b c : ℕ) → (b == c) ≡ true → b ≡ c
equal b c h = grind (arith, nat_tests)

unequal : (b c : ℕ) → (b == c) ≡ false → b ≡ c → ⊥
unequal b c h e = grind (arith, nat_tests)

-- words
letter_shows : (c : ℕ) → is_letter c ≡ true → (nat_lt 31 c && nat_lt c 128) ≡ true
letter_shows c h = grind (arith, nat_tests)

word_shows : (c : ℕ) → is_word c ≡ true → (nat_lt 31 c && nat_lt c 128) ≡ true
word_shows c h = grind (arith, nat_tests)

tilde_shows : (c : ℕ) → c ≡ 126 → (nat_lt 31 c && nat_lt c 128) ≡ true
tilde_shows c h = subst (λ d. (nat_lt 31 d && nat_lt d 128) ≡ true) (sym h) refl

one_more : (c : ℕ) (cs : List ℕ) → (nat_lt 31 c && nat_lt c 128) ≡ true → printable cs ≡ true → printable (c ∷ cs) ≡ true
one_more c cs h k = rw h k

goes_printable : (cs : List ℕ) → GoesOn cs → printable cs ≡ true
goes_printable [] h = refl
goes_printable (c ∷ []) (inl h) = one_more c [] (word_shows c h) refl
goes_printable (c ∷ []) (inr h) = one_more c [] (tilde_shows c h) refl
goes_printable (c ∷ d ∷ cs) h = one_more c (d ∷ cs) (word_shows c h.0) (goes_printable (d ∷ cs) h.1)

word_name : (w : List ℕ) → IsWord w → IsName w
word_name [] h = absurd h
word_name (c ∷ cs) h = literal_name (c ∷ cs) (one_more c cs (letter_shows c h.0) (goes_printable cs h.1)) tt

goes_cons : (c : ℕ) (cs : List ℕ) → is_word c ≡ true → GoesOn cs → GoesOn (c ∷ cs)
goes_cons c [] h k = inl h
goes_cons c (d ∷ ds) h k = (h, k)

stops : (c : ℕ) (cs : List ℕ) → is_word c ≡ false → word_more (c ∷ cs) ≡ (if c == 126 then 1 else 0)
stops c cs h = rw h (omega arith)

tilde_by : (b : Bool) (c : ℕ) (cs : List ℕ) → (c == 126) ≡ b → GoesOn (take (if b then 1 else 0) (c ∷ cs))
tilde_by true c cs e = inr (equal c 126 e)
tilde_by false c cs e = tt

goes_by : (b : Bool) (c : ℕ) (cs : List ℕ) → is_word c ≡ b → GoesOn (take (word_more cs) cs) → GoesOn (take (word_more (c ∷ cs)) (c ∷ cs))
goes_by true c cs h k = subst (λ n. GoesOn (take n (c ∷ cs))) (sym (word_step c cs h)) (goes_cons c (take (word_more cs) cs) h k)
goes_by false c cs h k = subst (λ n. GoesOn (take n (c ∷ cs))) (sym (stops c cs h)) (tilde_by (c == 126) c cs refl)

goes_taken : (bs : List ℕ) → GoesOn (take (word_more bs) bs)
goes_taken [] = tt
goes_taken (c ∷ cs) = goes_by (is_word c) c cs refl (goes_taken cs)

abbrev Free : List (List ℕ × Kind) → Type 0
Free [] = Unit {0}
Free (e ∷ es) = GoodKind e.1 × Free es

pick : (b : Bool) (k : Kind) (o : Option Kind) (other : Kind) → GoodKind k → ((o ≡ None → GoodKind other) → GoodKind (kind_or o other)) → (cond b (Some k) o ≡ None → GoodKind other)
    → GoodKind (kind_or (cond b (Some k) o) other)
pick true k o other h r f = h
pick false k o other h r f = r f

kind_or_good : (table : List (List ℕ × Kind)) (w : List ℕ) (other : Kind) → Free table → (word_in table w ≡ None → GoodKind other) → GoodKind (kind_or (word_in table w) other)
kind_or_good [] w other h f = f refl
kind_or_good (e ∷ es) w other h f = pick (bytes_eq w e.0) e.1 (word_in es w) other h.0 (λ g. kind_or_good es w other h.1 g) f

by_tilde : (b : Bool) (w : List ℕ) → bytes_eq (drop (length w - 1) w) (codes "~") ≡ b → IsWord w → word_kind w ≡ cond b (folding (take (length w - 1) w)) (name w)
    → GoodKind (cond b (folding (take (length w - 1) w)) (name w))
by_tilde true w t h e =
    let tail : drop (length w - 1) w ≡ codes "~" = (bytes_eq-Decides (drop (length w - 1) w) (codes "~")).0 t in
    let whole : take (length w - 1) w ++ codes "~" ≡ w = ap (λ l. take (length w - 1) w ++ l) (sym tail) ∙ take-append-drop (length w - 1) w in
    (subst IsWord (sym whole) h, subst (λ x. word_kind x ≡ folding (take (length w - 1) w)) (sym whole) e)
by_tilde false w t h e = ((h, e), word_name w h)

word_good : (w : List ℕ) → IsWord w → GoodKind (word_kind w)
word_good w h =
    kind_or_good keywords w (plain_kind w) (tt, (tt, (tt, (tt, (tt, (tt, (tt, (tt, (tt, (tt, (tt, (tt, (tt, (tt, (tt, (tt, (tt, (tt, (tt, (tt, (tt, tt)))))))))))))))))))))
    (λ other. by_tilde (bytes_eq (drop (length w - 1) w) (codes "~")) w refl h (ap (λ o. kind_or o (plain_kind w)) other))

-- strings
byte_moves_over : (out bs : List ℕ) (b : ℕ) → IsUtf8 (out ++ b ∷ bs) → IsUtf8 ((out ++ b ∷ []) ++ bs)
byte_moves_over out bs b u = subst IsUtf8 (sym (append_assoc out (b ∷ []) bs)) u

back : (out bs more : List ℕ) → IsUtf8 ((out ++ bs) ++ more) → IsUtf8 (out ++ (bs ++ more))
back out bs more u = subst IsUtf8 (append_assoc out bs more) u

alone : (out : List ℕ) → IsUtf8 out → IsUtf8 (out ++ [])
alone out u = subst IsUtf8 (sym (append-nil out)) u

content_utf8 : (bs s rest out : List ℕ) → IsContent bs s rest → IsUtf8 (out ++ bs) → IsUtf8 (out ++ s)
content_utf8 _ _ _ out (closed {b} {rest} e) u = alone out (split_utf8 out rest b (omega (arith, e)) u).0
content_utf8 _ _ _ out (plain {b} {bs} {s} {rest} p k) u = back out (b ∷ []) s (content_utf8 bs s rest (out ++ b ∷ []) k (byte_moves_over out bs b u))
content_utf8 _ _ _ out (escaped {b} {c} {bs} {more} {s} {t} {rest} e h x k) u =
    let parts = split_utf8 out bs b (omega (arith, e)) u in
    let front = IsUtf8-append out (encode c) parts.0 (IsUtf8-encode c (escape_scalar bs c more h)) in
    let all = IsUtf8-append (out ++ encode c) more front (escape_utf8 bs c more h parts.1) in
    subst (λ l. IsUtf8 (out ++ l)) (sym x) (back out (encode c) s (content_utf8 more s rest (out ++ encode c) k all))

-- names in backticks
abbrev NoTen : List ℕ → Type 0
NoTen [] = Unit {0}
NoTen (b ∷ bs) = (b ≡ 10 → ⊥) × NoTen bs

abbrev Named : List ℕ → List ℕ → Type 0
Named out n = IsUtf8 (out ++ n) × NoTen n

abbrev name_in : List ℕ → Option (List ℕ × List ℕ) → List ℕ
name_in other None = other
name_in other (Some x) = x.0

none_some : (n rest : List ℕ) → ◌≡◌ {A = Option (List ℕ × List ℕ)} None (Some (n, rest)) → ⊥
none_some n rest e = cc

put_some : (b : ℕ) (o : Option (List ℕ × List ℕ)) (n rest : List ℕ) → with_byte b o ≡ Some (n, rest) → (m : List ℕ) × (r : List ℕ) × (o ≡ Some (m, r)) × (b ∷ m ≡ n)
put_some b None n rest e = absurd (none_some n rest e)
put_some b (Some x) n rest e = (x.0, x.1, refl, ap (name_in []) e)

empty_is : (n rest r : List ℕ) → ◌≡◌ {A = Option (List ℕ × List ℕ)} (Some ([], r)) (Some (n, rest)) → [] ≡ n
empty_is n rest r e = ap (name_in []) e

name_by : (t l : Bool) (b : ℕ) (bs n rest out : List ℕ) → (b == 10) ≡ l → cond t (name_behind bs) (cond l None (with_byte b (quoted_name bs))) ≡ Some (n, rest)
    → (t ≡ true → name_behind bs ≡ Some (n, rest) → Named out n) → ((m r : List ℕ) → quoted_name bs ≡ Some (m, r) → Named (out ++ b ∷ []) m) → Named out n
name_by true l b bs n rest out f e behind more = behind refl e
name_by false true b bs n rest out f e behind more = absurd (none_some n rest e)
name_by false false b bs n rest out f e behind more =
    let p = put_some b (quoted_name bs) n rest e in
    let k = more p.0 p.1 p.2 in
    subst (Named out) p.3 (back out (b ∷ []) p.0 k.0, (unequal b 10 f, k.1))

behind_by : (t : Bool) (c : ℕ) (cs n rest out : List ℕ) → (c == 96) ≡ t → cond t (with_byte 96 (quoted_name cs)) (Some ([], c ∷ cs)) ≡ Some (n, rest) → IsUtf8 out
    → (t ≡ true → (m r : List ℕ) → quoted_name cs ≡ Some (m, r) → Named (out ++ 96 ∷ []) m) → Named out n
behind_by true c cs n rest out f e u more =
    let p = put_some 96 (quoted_name cs) n rest e in
    let k = more refl p.0 p.1 p.2 in
    subst (Named out) p.3 (back out (96 ∷ []) p.0 k.0, ((λ x. omega (arith, x)), k.1))
behind_by false c cs n rest out f e u more = subst (Named out) (empty_is n rest (c ∷ cs) e) (alone out u, tt)

mutual
  name_u : (bs n rest out : List ℕ) → quoted_name bs ≡ Some (n, rest) → IsUtf8 (out ++ bs) → Named out n
  name_u [] n rest out e u = absurd (none_some n rest e)
  name_u (b ∷ bs) n rest out e u =
      name_by (b == 96) (b == 10) b bs n rest out refl e (λ t k. behind_u bs n rest out k (subst (λ c. IsUtf8 (out ++ c ∷ bs)) (equal b 96 t) u))
      (λ m r k. name_u bs m r (out ++ b ∷ []) k (byte_moves_over out bs b u))

  behind_u : (bs n rest out : List ℕ) → name_behind bs ≡ Some (n, rest) → IsUtf8 (out ++ 96 ∷ bs) → Named out n
  behind_u [] n rest out e u = subst (Named out) (empty_is n rest [] e) (alone out (split_utf8 out [] 96 (omega arith) u).0, tt)
  behind_u (c ∷ cs) n rest out e u =
      let parts = split_utf8 out (c ∷ cs) 96 (omega arith) u in
      behind_by (c == 96) c cs n rest out refl e parts.0 (λ t m r k. name_u cs m r (out ++ 96 ∷ []) k (byte_moves_over out cs 96 (subst (λ d. IsUtf8 (out ++ d ∷ cs)) (equal c 96 t) (IsUtf8-append out (c ∷ cs) parts.0 parts.1))))

no_ten_behind : (xs ys : List ℕ) → NoTen (xs ++ ys) → NoTen ys
no_ten_behind [] ys h = h
no_ten_behind (x ∷ xs) ys h = no_ten_behind xs ys h.1

not_ten : (c : ℕ) (bs : List ℕ) → NoTen (encode c ++ bs) → c ≡ 10 → ⊥
unfolding encode
not_ten c bs h e = (subst (λ d. NoTen (encode d ++ bs)) e h).0 refl

line_of : (w : List ℕ) → NoTen (encodes w) → OneLine w
line_of [] h = tt
line_of (c ∷ cs) h = (not_ten c (encodes cs) h, line_of cs (no_ten_behind (encode c) (encodes cs) h))

there_of : (w n rest : List ℕ) → encodes w ≡ n → is_name (Some (n, rest)) ≡ true → IsThere w
there_of [] n rest e h = absurd (nothing n rest e h)
  where
    nothing : (n rest : List ℕ) → [] ≡ n → is_name (Some (n, rest)) ≡ true → ⊥
    nothing [] rest e h = cc
    nothing (b ∷ bs) rest e h = cc
there_of (c ∷ cs) n rest e h = tt

name_of : (bytes rest : List ℕ) → Named [] bytes → is_name (Some (bytes, rest)) ≡ true → IsName (chars bytes)
name_of bytes rest h t =
    let same = encodes-chars bytes h.0 in
    (scalars-chars bytes h.0, line_of (chars bytes) (subst NoTen (sym same) h.1), there_of (chars bytes) bytes rest same t)

sign_good : (x : Sign) → GoodKind (sign_kind x)
sign_good sign.Open = tt
sign_good sign.Close = tt
sign_good sign.OpenBracket = tt
sign_good sign.CloseBracket = tt
sign_good sign.Comma = tt
sign_good sign.Dot = tt
sign_good sign.Bar = tt
sign_good sign.Question = tt
sign_good sign.Bang = tt
sign_good sign.Assign = tt
sign_good sign.Equal = tt
sign_good sign.NotEqual = tt
sign_good sign.Less = tt
sign_good sign.AtMost = tt
sign_good sign.Greater = tt
sign_good sign.AtLeast = tt
sign_good sign.Colon = tt
sign_good sign.Plus = tt
sign_good sign.Minus = tt
sign_good sign.Star = tt
sign_good sign.Slash = tt
sign_good sign.Percent = tt

text_good : (b : ℕ) (bs s rest : List ℕ) → b < 128 → IsUtf8 (b ∷ bs) → ((triple (b ∷ bs) ≡ true) × IsRawString (drop 2 bs) s rest) ⊎ ((triple (b ∷ bs) ≡ false) × IsLineString bs s rest) → scalars s ≡ true
text_good b bs s rest small u (inl h) =
    let raw = raw_cut (drop 2 bs) (before_triple (drop 2 bs)) h.1.1 (raw_utf8 (b ∷ bs) bs b refl h.0 u) in
    subst (λ x. scalars x ≡ true) (sym h.1.0) (scalars-chars (take (before_triple (drop 2 bs)) (drop 2 bs)) raw)
text_good b bs s rest small u (inr h) =
    subst (λ x. scalars x ≡ true) (sym h.1.2) (scalars-chars h.1.0 (content_utf8 bs h.1.0 rest [] h.1.1 (behind_utf8 b bs small u)))

tok_good : (from : List ℕ) (t : Tok) (rest : List ℕ) → ((b : ℕ) (more : List ℕ) → from ≡ b ∷ more → b < 128 → IsUtf8 from) → IsLexeme from t rest → GoodKind (kind t)
tok_good [] t rest u h = absurd h
tok_good (b ∷ bs) (tok.Word w) rest u h = subst (λ x. GoodKind (word_kind x)) (sym h.1) (word_good (b ∷ take (word_more bs) bs) (h.0, goes_taken bs))
tok_good (b ∷ bs) (tok.Back w) rest u h =
    let small : b < 128 = omega (arith, h.0) in
    let found = h.1.1 in
    let named = name_u bs h.1.0 rest [] found (behind_utf8 b bs small (u b bs refl small)) in
    subst IsName (sym h.1.3) (name_of h.1.0 rest named (subst (λ o. is_name o ≡ true) found h.1.2))
tok_good (b ∷ bs) (tok.Str s) rest u h =
    let small : b < 128 = omega (arith, h.0) in
    text_good b bs s rest small (u b bs refl small) h.1
tok_good (b ∷ bs) (tok.Num n) rest u h = subst IsCount (sym h.1) h.2
tok_good (b ∷ bs) (tok.Sign x) rest u h = sign_good x

lexeme_rest : (from : List ℕ) (t : Tok) (rest : List ℕ) → IsLexeme from t rest → Tail from rest
lexeme_rest [] t rest h = absurd h
lexeme_rest (b ∷ bs) t rest h = tail_more b bs rest (lexeme_tail b bs t rest h)

kinds_good : (text : List ℕ) (n : ℕ) (at : List ℕ) (ts : List Token) (stop : List ℕ) → IsUtf8 text → Tail text at → AreTokensTo n at ts stop → GoodKinds (kinds ts)
kinds_good text n at [] stop u tail h = tt
kinds_good text n at (t ∷ ts) stop u tail h =
    let here = tail_on text at (gap at) tail (gap_tail at) in (
      tok_good (gap at) t.tok h.0 (λ b more e small. tail_utf8 text (gap at) here b more e small u) h.1,
      kinds_good text n h.0 ts stop u (tail_on text (gap at) h.0 here (lexeme_rest (gap at) t.tok h.0 h.1)) h.4,
    )

-- the tokens of a text
pub spelled : (text : List ℕ) (tokens : List Token) → Spells text tokens → IsUtf8 text → GoodKinds (kinds tokens)
spelled text tokens h u = kinds_good text (length text) text tokens h.0 u (tail_here text) h.1
