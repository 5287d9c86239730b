-- What is printed for a token reads as that token, whatever follows: signs, words and numbers.
use Rattle.std.proofs.Common.{◌≡◌, ℕ, ◌+◌, ◌<◌, suc, true, false, List, [], ◌∷◌, ◌++◌, drop, take, refl, sym, ap, subst, ◌∙◌, arith, inl, inr, ◌==◌}
use Rattle.std.specs.Prelude.{codes}
use Rattle.std.specs.List.{prefix_len}
use Rattle.std.proofs.lemmas.Bool.Decides.{nat_tests}
use Rattle.std.proofs.lemmas.Str.{encodes-append, encode_ascii}
use lib.Utf8.{encode, encodes}
use Rattle.eql_lexer.specs.declared.token.Sign.TheVariants as sign
use Rattle.eql_lexer.specs.declared.token.Tok.{Tok}
use Rattle.eql_lexer.specs.declared.token.Tok.TheVariants as tok
use Rattle.eql_lexer.specs.Bytes.{is_letter, is_word, is_white, begins}
use Rattle.eql_lexer.specs.Blanks.{gap}
use Rattle.eql_lexer.specs.Spelling.{IsLexeme, word_more}
use Rattle.eql_query.specs.declared.expr.CmpOp.{CmpOp}
use Rattle.eql_query.specs.declared.expr.CmpOp.TheVariants as cmp
use Rattle.eql_query.specs.declared.expr.MathOp.{MathOp}
use Rattle.eql_query.specs.declared.expr.MathOp.TheVariants as math
use Rattle.eql_parser.specs.Printed.{cmp_text, math_text}
use Rattle.eql_parser.proofs.Canonical.{open_tok, close_tok, comma_tok, cmp_sign, math_sign, GoesOn, IsWord}

-- the bytes are these tokens, one after another
abbrev pub Lexes : List ℕ → List Tok → Type 0
Lexes text [] = gap text ≡ []
Lexes text (t ∷ ts) = (rest : List ℕ) × IsLexeme (gap text) t rest × Lexes rest ts

-- the characters are these tokens
abbrev pub Spelt : List ℕ → List Tok → Type 0
Spelt cs us = Lexes (encodes cs) us

pub open_s : (rest : List ℕ) (us : List Tok) → Spelt rest us → Spelt (40 ∷ rest) (open_tok ∷ us)
unfolding encode
open_s rest us k = (encodes rest, (refl, refl), k)

pub close_s : (rest : List ℕ) (us : List Tok) → Spelt rest us → Spelt (41 ∷ rest) (close_tok ∷ us)
unfolding encode
close_s rest us k = (encodes rest, (refl, refl), k)

pub comma_s : (rest : List ℕ) (us : List Tok) → Spelt rest us → Spelt (44 ∷ rest) (comma_tok ∷ us)
unfolding encode
comma_s rest us k = (encodes rest, (refl, refl), k)

pub question_s : (rest : List ℕ) (us : List Tok) → Spelt rest us → Spelt (63 ∷ rest) (tok.Sign sign.Question ∷ us)
unfolding encode
question_s rest us k = (encodes rest, (refl, refl), k)

pub minus_s : (rest : List ℕ) (us : List Tok) → Spelt rest us → Spelt (45 ∷ rest) (tok.Sign sign.Minus ∷ us)
unfolding encode
minus_s rest us k = (encodes rest, (refl, refl), k)

pub open_item_s : (rest : List ℕ) (us : List Tok) → Spelt rest us → Spelt (91 ∷ rest) (tok.Sign sign.OpenBracket ∷ us)
unfolding encode
open_item_s rest us k = (encodes rest, (refl, refl), k)

pub close_item_s : (rest : List ℕ) (us : List Tok) → Spelt rest us → Spelt (93 ∷ rest) (tok.Sign sign.CloseBracket ∷ us)
unfolding encode
close_item_s rest us k = (encodes rest, (refl, refl), k)

pub bar_s : (rest : List ℕ) (us : List Tok) → Spelt rest us → Spelt (124 ∷ rest) (tok.Sign sign.Bar ∷ us)
unfolding encode
bar_s rest us k = (encodes rest, (refl, refl), k)

pub assign_s : (rest : List ℕ) (us : List Tok) → begins 61 (encodes rest) ≡ false → Spelt rest us → Spelt (61 ∷ rest) (tok.Sign sign.Assign ∷ us)
unfolding encode
assign_s rest us e k = (encodes rest, (refl, e), k)

-- a blank before what follows
pub space_s : (rest : List ℕ) (us : List Tok) → Spelt rest us → Spelt (32 ∷ rest) us
unfolding encode
space_s rest [] k = k
space_s rest (t ∷ us) k = k

pub cmp_s : (o : CmpOp) (rest : List ℕ) (us : List Tok) → Spelt rest us → Spelt (cmp_text o ++ rest) (tok.Sign (cmp_sign o) ∷ us)
unfolding encode
cmp_s cmp.Lt rest us k = (32 ∷ encodes rest, (refl, refl), space_s rest us k)
cmp_s cmp.Le rest us k = (32 ∷ encodes rest, (refl, refl), space_s rest us k)
cmp_s cmp.Eq rest us k = (32 ∷ encodes rest, (refl, refl), space_s rest us k)
cmp_s cmp.Ne rest us k = (32 ∷ encodes rest, (refl, refl), space_s rest us k)
cmp_s cmp.Ge rest us k = (32 ∷ encodes rest, (refl, refl), space_s rest us k)
cmp_s cmp.Gt rest us k = (32 ∷ encodes rest, (refl, refl), space_s rest us k)

pub colon_s : (rest : List ℕ) (us : List Tok) → Spelt rest us → Spelt (codes " : " ++ rest) (tok.Sign sign.Colon ∷ us)
unfolding encode
colon_s rest us k = (32 ∷ encodes rest, (refl, refl), space_s rest us k)

pub math_s : (o : MathOp) (rest : List ℕ) (us : List Tok) → Spelt rest us → Spelt (math_text o ++ rest) (tok.Sign (math_sign o) ∷ us)
unfolding encode
math_s math.Add rest us k = (32 ∷ encodes rest, (refl, refl), space_s rest us k)
math_s math.Sub rest us k = (32 ∷ encodes rest, (refl, refl), space_s rest us k)
math_s math.Mul rest us k = (32 ∷ encodes rest, (refl, refl), space_s rest us k)
math_s math.Div rest us k = (32 ∷ encodes rest, (refl, refl), space_s rest us k)
math_s math.Mod rest us k = (32 ∷ encodes rest, (refl, refl), space_s rest us k)

-- behind a word
abbrev pub AfterWord : List ℕ → Type 0
AfterWord [] = Unit {0}
AfterWord (c ∷ cs) = (c < 128) × (is_word c ≡ false) × ((c == 126) ≡ false)

abbrev WordEnds : List ℕ → Type 0
WordEnds [] = Unit {0}
WordEnds (b ∷ bs) = (is_word b ≡ false) × ((b == 126) ≡ false)

word_ends : (cs : List ℕ) → AfterWord cs → WordEnds (encodes cs)
word_ends [] h = tt
word_ends (c ∷ cs) h = subst (λ bs. WordEnds (bs ++ encodes cs)) (sym (encode_ascii c h.0)) (h.1, h.2)

pub word_step : (c : ℕ) (bs : List ℕ) → is_word c ≡ true → word_more (c ∷ bs) ≡ suc (word_more bs)
word_step c bs h =
    let one : 1 + prefix_len is_word bs ≡ suc (prefix_len is_word bs) = omega arith in
    rw (h, one) (omega arith)

front : (ws bs : List ℕ) → GoesOn ws → WordEnds bs → (take (word_more (ws ++ bs)) (ws ++ bs) ≡ ws) × (drop (word_more (ws ++ bs)) (ws ++ bs) ≡ bs)
front [] [] h e = (refl, refl)
front [] (b ∷ bs) h e = let x = e.0 in let y = e.1 in rw (x, y) (refl, refl)
front (c ∷ []) bs (inl h) e =
    let k = front [] bs tt e in
    rw (word_step c bs h) (ap (λ l. c ∷ l) k.0, k.1)
front (c ∷ []) bs (inr h) e = subst (λ d. (take (word_more (d ∷ bs)) (d ∷ bs) ≡ d ∷ []) × (drop (word_more (d ∷ bs)) (d ∷ bs) ≡ bs)) (sym h) (refl, refl)
front (c ∷ d ∷ cs) bs h e =
    let k = front (d ∷ cs) bs h.1 e in
    rw (word_step c (d ∷ (cs ++ bs)) h.0) (ap (λ l. c ∷ l) k.0, k.1)

-- what begins a word or a number stands behind no blank
solid : (b : ℕ) (bs : List ℕ) → is_white b ≡ false → (b == 47) ≡ false → gap (b ∷ bs) ≡ b ∷ bs
solid b bs h k = rw (h, k) refl

letter_solid : (b : ℕ) (bs : List ℕ) → is_letter b ≡ true → gap (b ∷ bs) ≡ b ∷ bs
letter_solid b bs h =
    let no_white : is_white b ≡ false = grind (arith, nat_tests) in
    let no_slash : (b == 47) ≡ false = grind (arith, nat_tests) in
    solid b bs no_white no_slash

letter_small : (c : ℕ) → is_letter c ≡ true → c < 128
letter_small c h = grind (arith, nat_tests)

word_small : (c : ℕ) → is_word c ≡ true → c < 128
word_small c h = grind (arith, nat_tests)

one_byte : (c : ℕ) (cs ds : List ℕ) → c < 128 → encodes cs ≡ ds → encodes (c ∷ cs) ≡ c ∷ ds
one_byte c cs ds h e = ap (λ bs. bs ++ encodes cs) (encode_ascii c h) ∙ ap (λ bs. c ∷ bs) e

goes_bytes : (ws : List ℕ) → GoesOn ws → encodes ws ≡ ws
goes_bytes [] h = refl
goes_bytes (c ∷ []) (inl h) = one_byte c [] [] (word_small c h) refl
goes_bytes (c ∷ []) (inr h) = one_byte c [] [] (omega (arith, h)) refl
goes_bytes (c ∷ d ∷ cs) h = one_byte c (d ∷ cs) (d ∷ cs) (word_small c h.0) (goes_bytes (d ∷ cs) h.1)

pub word_s : (w rest : List ℕ) (us : List Tok) → IsWord w → AfterWord rest → Spelt rest us → Spelt (w ++ rest) (tok.Word w ∷ us)
word_s [] rest us h e k = absurd h
word_s (c ∷ cs) rest us h e k =
    let bytes : encodes (c ∷ cs ++ rest) ≡ c ∷ (cs ++ encodes rest) =
    encodes-append (c ∷ cs) rest ∙ ap (λ l. l ++ encodes rest) (one_byte c cs cs (letter_small c h.0) (goes_bytes cs h.1)) in
    let more = front cs (encodes rest) h.1 (word_ends rest e) in
    subst (λ text. Lexes text (tok.Word (c ∷ cs) ∷ us)) (sym bytes)
    (encodes rest, subst (λ text. IsLexeme text (tok.Word (c ∷ cs)) (encodes rest)) (sym (letter_solid c (cs ++ encodes rest) h.0)) (h.0, ap (λ l. c ∷ l) (sym more.0), sym more.1), k)
