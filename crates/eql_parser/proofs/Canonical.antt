-- The tokens of the canonical text of an expression, before those of what follows; and what an expression that is read from a text is like.
use Rattle.std.proofs.Common.{◌≡◌, ℕ, suc, ◌<◌, ◌^◌, ℤ, pos, negsuc, Bool, true, false, List, [], ◌∷◌, ◌++◌, ◌⊎◌}
use Rattle.std.specs.Prelude.{codes}
use lib.Utf8.{scalars}
use Rattle.eql_values.specs.declared.value.Value.{Value}
use Rattle.eql_values.specs.declared.value.Value.TheVariants as value
use Rattle.eql_lexer.specs.declared.token.Sign.{Sign}
use Rattle.eql_lexer.specs.declared.token.Sign.TheVariants as sign
use Rattle.eql_lexer.specs.declared.token.Tok.{Tok}
use Rattle.eql_lexer.specs.declared.token.Tok.TheVariants as tok
use Rattle.eql_lexer.specs.Bytes.{is_letter, is_word}
use Rattle.eql_query.specs.declared.expr.CmpOp.{CmpOp}
use Rattle.eql_query.specs.declared.expr.CmpOp.TheVariants as cmp
use Rattle.eql_query.specs.declared.expr.PatOp.{PatOp}
use Rattle.eql_query.specs.declared.expr.PatOp.TheVariants as pat
use Rattle.eql_query.specs.declared.expr.MathOp.{MathOp}
use Rattle.eql_query.specs.declared.expr.MathOp.TheVariants as math
use Rattle.eql_query.specs.Tree.{Tree, Trees, none, more}
use Rattle.eql_query.specs.Tree as t
use Rattle.eql_parser.specs.Kinds.{name, folding, word_kind}
use Rattle.eql_parser.specs.Grammar.{Joint, by_or, by_and, by_comma, is_left_out_call}
use Rattle.eql_parser.specs.Printed.{bool_text}

abbrev pub open_tok : Tok
open_tok = tok.Sign sign.Open

abbrev pub close_tok : Tok
close_tok = tok.Sign sign.Close

abbrev pub comma_tok : Tok
comma_tok = tok.Sign sign.Comma

abbrev pub cmp_sign : CmpOp → Sign
cmp_sign cmp.Lt = sign.Less
cmp_sign cmp.Le = sign.AtMost
cmp_sign cmp.Eq = sign.Equal
cmp_sign cmp.Ne = sign.NotEqual
cmp_sign cmp.Ge = sign.AtLeast
cmp_sign cmp.Gt = sign.Greater

abbrev pub pat_tok : PatOp → Tok
pat_tok pat.Colon = tok.Sign sign.Colon
pat_tok pat.Like = tok.Word (codes "like")
pat_tok pat.LikeFold = tok.Word (codes "like~")

abbrev pub math_sign : MathOp → Sign
math_sign math.Add = sign.Plus
math_sign math.Sub = sign.Minus
math_sign math.Mul = sign.Star
math_sign math.Div = sign.Slash
math_sign math.Mod = sign.Percent

abbrev pub joint_tok : Joint → Tok
joint_tok by_or = tok.Word (codes "or")
joint_tok by_and = tok.Word (codes "and")
joint_tok by_comma = comma_tok

abbrev pub field_toks : (name : List ℕ) (optional : Bool) → List Tok → List Tok
field_toks n false us = tok.Back n ∷ us
field_toks n true us = tok.Sign sign.Question ∷ tok.Back n ∷ us

abbrev pub texts_toks : List (List ℕ) → List Tok → List Tok
texts_toks [] us = us
texts_toks (s ∷ []) us = tok.Str s ∷ us
texts_toks (s ∷ u ∷ ss) us = tok.Str s ∷ comma_tok ∷ texts_toks (u ∷ ss) us

abbrev pub patterns_toks : List (List ℕ) → List Tok → List Tok
patterns_toks [] us = us
patterns_toks (s ∷ []) us = tok.Str s ∷ us
patterns_toks (s ∷ u ∷ ss) us = open_tok ∷ texts_toks (s ∷ u ∷ ss) (close_tok ∷ us)

abbrev pub literal_toks : Value → List Tok → List Tok
literal_toks (value.Bool b) us = tok.Word (bool_text b) ∷ us
literal_toks (value.Long (pos n)) us = tok.Num (pos n) ∷ us
literal_toks (value.Long (negsuc n)) us = tok.Sign sign.Minus ∷ tok.Num (pos (suc n)) ∷ us
literal_toks (value.Text s) us = tok.Str s ∷ us
literal_toks _ us = us

abbrev pub literals_toks : List Value → List Tok → List Tok
literals_toks [] us = us
literals_toks (v ∷ []) us = literal_toks v us
literals_toks (v ∷ w ∷ vs) us = literal_toks v (comma_tok ∷ literals_toks (w ∷ vs) us)

abbrev pub member_toks : (fold negated : Bool) → List Tok → List Tok
member_toks false false us = tok.Word (codes "in") ∷ open_tok ∷ us
member_toks true false us = tok.Word (codes "in~") ∷ open_tok ∷ us
member_toks false true us = tok.Word (codes "not") ∷ tok.Word (codes "in") ∷ open_tok ∷ us
member_toks true true us = tok.Word (codes "not") ∷ tok.Word (codes "in~") ∷ open_tok ∷ us

abbrev pub called : (fold : Bool) → List ℕ → List ℕ
called false w = w
called true w = w ++ codes "~"

abbrev mutual
  pub toks : Tree → List Tok → List Tok
  toks t.null us = tok.Word (codes "null") ∷ us
  toks (t.bool b) us = tok.Word (bool_text b) ∷ us
  toks (t.long n) us = tok.Num n ∷ us
  toks (t.str s) us = tok.Str s ∷ us
  toks (t.field n o) us = field_toks n o us
  toks (t.not a) us = open_tok ∷ tok.Word (codes "not") ∷ toks a (close_tok ∷ us)
  toks (t.and es) us = open_tok ∷ all_toks by_and es (close_tok ∷ us)
  toks (t.or es) us = open_tok ∷ all_toks by_or es (close_tok ∷ us)
  toks (t.cmp o a b) us = open_tok ∷ toks a (tok.Sign (cmp_sign o) ∷ toks b (close_tok ∷ us))
  toks (t.pattern o a ss) us = open_tok ∷ toks a (pat_tok o ∷ patterns_toks ss (close_tok ∷ us))
  toks (t.member f n a vs) us = open_tok ∷ toks a (member_toks f n (literals_toks vs (close_tok ∷ close_tok ∷ us)))
  toks (t.neg a) us = open_tok ∷ tok.Sign sign.Minus ∷ toks a (close_tok ∷ us)
  toks (t.math o a b) us = open_tok ∷ toks a (tok.Sign (math_sign o) ∷ toks b (close_tok ∷ us))
  toks (t.call w f es) us = tok.Word (called f w) ∷ open_tok ∷ all_toks by_comma es (close_tok ∷ us)

  pub all_toks : Joint → Trees → List Tok → List Tok
  all_toks j none us = us
  all_toks j (more a none) us = toks a us
  all_toks j (more a (more b es)) us = toks a (joint_tok j ∷ all_toks j (more b es) us)

-- a number of a query: not below 0, and of 63 bits
abbrev pub IsCount : ℤ → Type 0
IsCount (pos n) = n < 2 ^ 63
IsCount (negsuc n) = ⊥

abbrev pub IsThere : List ℕ → Type 0
IsThere [] = ⊥
IsThere (c ∷ cs) = Unit {0}

abbrev pub OneLine : List ℕ → Type 0
OneLine [] = Unit {0}
OneLine (c ∷ cs) = (c ≡ 10 → ⊥) × OneLine cs

-- the name of a field
abbrev pub IsName : List ℕ → Type 0
IsName n = (scalars n ≡ true) × OneLine n × IsThere n

-- how a word goes on
abbrev pub GoesOn : List ℕ → Type 0
GoesOn [] = Unit {0}
GoesOn (c ∷ []) = (is_word c ≡ true) ⊎ (c ≡ 126)
GoesOn (c ∷ d ∷ cs) = (is_word c ≡ true) × GoesOn (d ∷ cs)

abbrev pub IsWord : List ℕ → Type 0
IsWord [] = ⊥
IsWord (c ∷ cs) = (is_letter c ≡ true) × GoesOn cs

-- the name of a function
abbrev pub IsCalled : (fold : Bool) → List ℕ → Type 0
IsCalled false w = IsWord w × (word_kind w ≡ name w)
IsCalled true w = IsWord (w ++ codes "~") × (word_kind (w ++ codes "~") ≡ folding w)

abbrev pub IsKept : (fold : Bool) → List ℕ → Trees → Type 0
IsKept false w es = is_left_out_call w es ≡ false
IsKept true w es = Unit {0}

abbrev pub AreTexts : List (List ℕ) → Type 0
AreTexts [] = Unit {0}
AreTexts (s ∷ ss) = (scalars s ≡ true) × AreTexts ss

abbrev pub SomeOf : {A : Type 0} → List A → Type 0
SomeOf [] = ⊥
SomeOf (x ∷ xs) = Unit {0}

abbrev pub IsGoodLiteral : Value → Type 0
IsGoodLiteral (value.Bool b) = Unit {0}
IsGoodLiteral (value.Long (pos n)) = n < 2 ^ 63
IsGoodLiteral (value.Long (negsuc n)) = suc n < 2 ^ 63
IsGoodLiteral (value.Text s) = scalars s ≡ true
IsGoodLiteral _ = ⊥

abbrev pub AreLiterals : List Value → Type 0
AreLiterals [] = Unit {0}
AreLiterals (v ∷ vs) = IsGoodLiteral v × AreLiterals vs

abbrev pub Two : Trees → Type 0
Two none = ⊥
Two (more a none) = ⊥
Two (more a (more b es)) = Unit {0}

-- an expression that is read from a text
abbrev mutual
  pub Good : Tree → Type 0
  Good t.null = Unit {0}
  Good (t.bool b) = Unit {0}
  Good (t.long n) = IsCount n
  Good (t.str s) = scalars s ≡ true
  Good (t.field n o) = IsName n
  Good (t.not a) = Good a
  Good (t.and es) = Two es × AllGood es
  Good (t.or es) = Two es × AllGood es
  Good (t.cmp o a b) = Good a × Good b
  Good (t.pattern o a ss) = Good a × SomeOf ss × AreTexts ss
  Good (t.member f n a vs) = Good a × SomeOf vs × AreLiterals vs
  Good (t.neg a) = Good a
  Good (t.math o a b) = Good a × Good b
  Good (t.call w f es) = IsCalled f w × IsKept f w es × AllGood es

  pub AllGood : Trees → Type 0
  AllGood none = Unit {0}
  AllGood (more a es) = Good a × AllGood es
