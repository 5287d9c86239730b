-- Where tokens stand, and one more token.
use Rattle.std.proofs.Common.{◌≡◌, ℕ, zero, suc, ◌+◌, ◌<◌, ◌≤◌, List, [], ◌∷◌, ◌++◌, length, drop, take, get_or, true, false, Bool, cond, inl, inr, refl, sym, ap, subst, ◌∙◌, arith, length-take, Result, Ok, Err, IfOk, IfErr, Bor, below_more, nat_lt}
use Rattle.std.proofs.lemmas.Bool.Decides.{nat_tests}
use Rattle.std.proofs.lemmas.List.{get_or-take, get_or-drop, get_or_past}
use Rattle.std.proofs.lemmas.List.Sums.{prefix_len_passes}
use Rattle.std.proofs.lemmas.Str.{IsUtf8-append, chars-IsAscii, IsUtf8-from_ascii}
use Rattle.std.specs.List.{prefix_len}
use Rattle.std.specs.Str.{IsUtf8, IsAscii, chars}
use Rattle.eql_lexer.specs.declared.token.Tok.{Tok}
use Rattle.eql_lexer.specs.declared.token.Tok.TheVariants as tok
use Rattle.eql_lexer.specs.declared.token.Token.{Token}
use Rattle.eql_lexer.specs.declared.refusal.Fault.{Fault}
use Rattle.eql_lexer.specs.declared.refusal.Fault.TheVariants as fault
use Rattle.eql_lexer.specs.declared.refusal.Rule.{Rule}
use Rattle.eql_lexer.specs.declared.refusal.Rule.TheVariants as rule
use Rattle.eql_lexer.specs.Bytes.{begins, is_letter, is_word}
use Rattle.eql_lexer.specs.Blanks.{gap}
use Rattle.eql_lexer.specs.Strings.{triple}
use Rattle.eql_lexer.specs.Spelling.{word_more, IsRawString, IsLineString, IsQuotedName, IsLexeme, AreTokensTo}
use Rattle.eql_lexer.specs.Refusing.{BreaksRule, Refuses, BreaksWithin, BreaksAt, RefusesText, HasRawFault, HasContentFault, HasNameFault, refusal_of}
use Rattle.eql_lexer.proofs.Closing.{rest_after}
use Rattle.eql_lexer.proofs.Utf8.{behind_utf8, split_utf8}
use Rattle.eql_lexer.proofs.Tails.{Tail, tail_here, tail_more, tail_on, tail_within, gap_tail, lexeme_tail, bad_within}

one_ascii : (b : ℕ) → b < 128 → IsAscii (b ∷ [])
one_ascii b small zero = small
one_ascii b small (suc i) = omega (arith, get_or_past {X = ℕ} [] i 0 (omega arith))

letter_small : (b : ℕ) → is_letter b ≡ true → b < 128
letter_small b h = grind (arith, nat_tests)

word_small : (b : ℕ) → is_word b ≡ true → b < 128
word_small b h = grind (arith, nat_tests)

tilde_small : (t : Bool) (bs : List ℕ) → begins 126 (drop (prefix_len is_word bs) bs) ≡ t → (i : ℕ) → i < prefix_len is_word bs + cond t 1 0 → get_or bs i 0 < 128
tilde_small false bs e i h = word_small (get_or bs i 0) (prefix_len_passes is_word bs i 0 (omega (arith, h)))
tilde_small true bs e i h =
    let at : get_or bs (prefix_len is_word bs + 0) 0 ≡ 126 = sym (get_or-drop (prefix_len is_word bs) bs 0 0) ∙ ap (λ l. get_or l 0 0) (rest_after 126 (prefix_len is_word bs) bs e) in
    let same : prefix_len is_word bs + 0 ≡ prefix_len is_word bs = omega arith in
    let here : get_or bs (prefix_len is_word bs) 0 < 128 = omega (arith, at, ap (λ k. get_or bs k 0) same) in
    below_more (λ k. get_or bs k 0 < 128) (prefix_len is_word bs) (λ k l. word_small (get_or bs k 0) (prefix_len_passes is_word bs k 0 l)) here i h

front_small : (t : Bool) (bs : List ℕ) (n i : ℕ) → nat_lt i n ≡ t → ((k : ℕ) → k < n → get_or bs k 0 < 128) → get_or (take n bs) i 0 < 128
front_small true bs n i e h =
    let below : i < n = grind (arith, nat_tests) in
    let small : get_or bs i 0 < 128 = h i below in
    omega (arith, small, get_or-take n bs i 0 below)
front_small false bs n i e h =
    let over : n ≤ i = grind (arith, nat_tests) in
    omega (arith, get_or_past (take n bs) i 0 (omega (arith, length-take n bs, over)))

word_ascii : (b : ℕ) (bs : List ℕ) → is_letter b ≡ true → IsAscii (b ∷ take (word_more bs) bs)
word_ascii b bs h zero = letter_small b h
word_ascii b bs h (suc i) = front_small (nat_lt i (word_more bs)) bs (word_more bs) i refl (tilde_small (begins 126 (drop (prefix_len is_word bs) bs)) bs refl)

word_front : (text more : List ℕ) (b n : ℕ) → text ≡ b ∷ more → take (n + 1) text ≡ b ∷ take n more
word_front text more b n e = let one : n + 1 ≡ suc n = omega arith in rw (e, one) refl

pub word_utf8 : (text more : List ℕ) (b n : ℕ) → text ≡ b ∷ more → is_letter b ≡ true → n ≡ word_more more → IsUtf8 (take (n + 1) text)
word_utf8 text more b n e h k =
    subst IsUtf8 (sym (word_front text more b n e ∙ ap (λ m. b ∷ take m more) k)) (IsUtf8-from_ascii (b ∷ take (word_more more) more) (word_ascii b more h))

pub word_found : (text more w rest : List ℕ) (b n : ℕ) → text ≡ b ∷ more → is_letter b ≡ true → n ≡ word_more more → w ≡ chars (take (n + 1) text) → rest ≡ drop n more
    → IsLexeme text (tok.Word w) rest
word_found text more w rest b n e h k s r =
    subst (λ l. IsLexeme l (tok.Word w) rest) (sym e)
    (h, s ∙ ap chars (word_front text more b n e ∙ ap (λ m. b ∷ take m more) k) ∙ chars-IsAscii (b ∷ take (word_more more) more) (word_ascii b more h), r ∙ ap (λ m. drop m more) k)

pub more_utf8 : (text more : List ℕ) (b : ℕ) → text ≡ b ∷ more → b < 128 → IsUtf8 text → IsUtf8 more
more_utf8 text more b e small u = behind_utf8 b more small (subst IsUtf8 e u)

pub raw_found : (text more s rest : List ℕ) (b : ℕ) → text ≡ b ∷ more → b ≡ 34 → triple text ≡ true → IsRawString (drop 2 more) s rest → IsLexeme text (tok.Str s) rest
raw_found text more s rest b e q t h = subst (λ l. IsLexeme l (tok.Str s) rest) (sym e) (q, inl (ap triple (sym e) ∙ t, h))

pub line_found : (text more s rest : List ℕ) (b : ℕ) → text ≡ b ∷ more → b ≡ 34 → triple text ≡ false → IsLineString more s rest → IsLexeme text (tok.Str s) rest
line_found text more s rest b e q t h = subst (λ l. IsLexeme l (tok.Str s) rest) (sym e) (q, inr (ap triple (sym e) ∙ t, h))

pub name_found : (text more s rest : List ℕ) (b : ℕ) → text ≡ b ∷ more → b ≡ 96 → IsQuotedName more s rest → IsLexeme text (tok.Back s) rest
name_found text more s rest b e q h = subst (λ l. IsLexeme l (tok.Back s) rest) (sym e) (q, h)

raw_fault : (b : ℕ) (more : List ℕ) (f : Fault) → b ≡ 34 → triple (b ∷ more) ≡ true → HasRawFault (drop 2 more) (length (b ∷ more)) f → Refuses (b ∷ more) f
raw_fault b more fault.Memory q t h = tt
raw_fault b more (fault.Broken rule.OpenString left) q t h = (b ∷ more, (refl, inl (q, t, h.0)), h.1)
raw_fault b more (fault.Broken _ left) q t h = absurd h

line_fault : (b : ℕ) (more : List ℕ) (f : Fault) → b ≡ 34 → triple (b ∷ more) ≡ false → HasContentFault more (length (b ∷ more)) f → Refuses (b ∷ more) f
line_fault b more fault.Memory q t h = tt
line_fault b more (fault.Broken rule.OpenString left) q t h = (b ∷ more, (refl, inr (inl (q, t, h.0))), h.1)
line_fault b more (fault.Broken rule.BadEscape left) q t h = (h.1.0, (q, t, h.0, h.1.1), h.1.2)
line_fault b more (fault.Broken _ left) q t h = absurd h

name_fault : (b : ℕ) (more : List ℕ) (f : Fault) → b ≡ 96 → HasNameFault more (length (b ∷ more)) f → Refuses (b ∷ more) f
name_fault b more fault.Memory q h = tt
name_fault b more (fault.Broken rule.OpenString left) q h = (b ∷ more, (refl, inr (inr (q, h.0))), h.1)
name_fault b more (fault.Broken _ left) q h = absurd h

pub raw_refused : (text more : List ℕ) (b : ℕ) (f : Fault) → text ≡ b ∷ more → b ≡ 34 → triple text ≡ true → HasRawFault (drop 2 more) (length text) f → Refuses text f
raw_refused text more b f e q t h =
    subst (λ l. Refuses l f) (sym e) (raw_fault b more f q (ap triple (sym e) ∙ t) (subst (λ n. HasRawFault (drop 2 more) n f) (ap length e) h))

pub line_refused : (text more : List ℕ) (b : ℕ) (f : Fault) → text ≡ b ∷ more → b ≡ 34 → triple text ≡ false → HasContentFault more (length text) f → Refuses text f
line_refused text more b f e q t h =
    subst (λ l. Refuses l f) (sym e) (line_fault b more f q (ap triple (sym e) ∙ t) (subst (λ n. HasContentFault more n f) (ap length e) h))

pub name_refused : (text more : List ℕ) (b : ℕ) (f : Fault) → text ≡ b ∷ more → b ≡ 96 → HasNameFault more (length text) f → Refuses text f
name_refused text more b f e q h =
    subst (λ l. Refuses l f) (sym e) (name_fault b more f q (subst (λ n. HasNameFault more n f) (ap length e) h))

pub lexeme_within : (from : List ℕ) (t : Tok) (rest : List ℕ) → IsLexeme from t rest → length rest < length from
lexeme_within [] t rest h = absurd h
lexeme_within (b ∷ bs) t rest h = omega (arith, tail_within bs rest (lexeme_tail b bs t rest h))

from_tail : (from : List ℕ) (t : Tok) (rest : List ℕ) → IsLexeme from t rest → Tail from rest
from_tail [] t rest h = absurd h
from_tail (b ∷ bs) t rest h = tail_more b bs rest (lexeme_tail b bs t rest h)

-- the places up to which tokens are spelled are tails of the text
pub spelled_tail : (n : ℕ) (text : List ℕ) (ts : List Token) (stop : List ℕ) → AreTokensTo n text ts stop → Tail text stop
spelled_tail n text [] stop h = subst (λ l. Tail text l) (sym h) (tail_here text)
spelled_tail n text (t ∷ ts) stop h =
    tail_on text h.0 stop (tail_on text (gap text) h.0 (gap_tail text) (from_tail (gap text) t.tok h.0 h.1)) (spelled_tail n h.0 ts stop h.4)

one_utf8 : (b : ℕ) (more : List ℕ) → b < 128 → IsUtf8 more → IsUtf8 (b ∷ more)
one_utf8 b more small u = IsUtf8-append (b ∷ []) more (IsUtf8-from_ascii (b ∷ []) (one_ascii b small)) u

-- a tail that begins with an ASCII byte is UTF-8
pub tail_utf8 : (text from : List ℕ) → Tail text from → (b : ℕ) (more : List ℕ) → from ≡ b ∷ more → b < 128 → IsUtf8 text → IsUtf8 from
tail_utf8 text from h b more e small u =
    let cut = split_utf8 h.0 more b small (subst IsUtf8 (h.1 ∙ ap (λ l. h.0 ++ l) e) u) in
    subst IsUtf8 (sym e) (one_utf8 b more small cut.1)

pub broken_within : (r : Rule) (from place : List ℕ) → BreaksRule r from place → length place ≤ length from
broken_within r [] place h = absurd h
broken_within rule.BadEscape (b ∷ bs) place h = omega (arith, bad_within bs place h.3)
broken_within _ (b ∷ bs) place h = omega (arith, ap length h.0)

pub found_shorter : (from : List ℕ) (r : Result (Tok × Bor (List ℕ)) Fault) → IfOk r (λ x. IsLexeme from x.0 x.1.now) → IfOk r (λ x. length x.1.now < length from)
found_shorter from (Ok x) h = lexeme_within from x.0 x.1.now h
found_shorter from (Err e) h = tt

pub refused_within : {A : Type 0} (from : List ℕ) (r : Result A Fault) → IfErr r (Refuses from) → IfErr r (BreaksWithin from)
refused_within from (Ok x) h = tt
refused_within from (Err fault.Memory) h = tt
refused_within from (Err (fault.Broken q left)) h = omega (arith, h.2, broken_within q from h.0 h.1)

pub one_more : (n : ℕ) (text : List ℕ) (ts : List Token) (mid : List ℕ) (t : Token) (rest : List ℕ) → AreTokensTo n text ts mid → IsLexeme (gap mid) t.tok rest
    → t.start + length (gap mid) ≡ n → t.end + length rest ≡ n → AreTokensTo n text (ts ++ t ∷ []) rest
one_more n text [] mid t rest h k s e =
    subst (λ l. AreTokensTo n l (t ∷ []) rest) h (rest, k, s, e, refl)
one_more n text (u ∷ ts) mid t rest h k s e = (h.0, h.1, h.2, h.3, one_more n h.0 ts mid t rest h.4 k s e)

pub refused_by : (text : List ℕ) (r : Rule) (at : ℕ) → BreaksAt text r at → RefusesText text (refusal_of r at)
refused_by text rule.BadByte at h = h
refused_by text _ at h = h

-- behind tokens and a gap, what begins with an ASCII byte is UTF-8
pub from_utf8 : (text rest from more : List ℕ) (ts : List Token) (b : ℕ) → AreTokensTo (length text) text ts rest → from ≡ gap rest → from ≡ b ∷ more → IsUtf8 text → b < 128 → IsUtf8 from
from_utf8 text rest from more ts b h g e u small =
    tail_utf8 text from (subst (λ l. Tail text l) (sym g) (tail_on text rest (gap rest) (spelled_tail (length text) text ts rest h) (gap_tail rest))) b more e small u
