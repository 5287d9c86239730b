-- What a token says in the grammar: a keyword, a name, a literal or a sign.
use Rattle.std.specs.Prelude.{ℕ, ℤ, ◌-◌, Bool, true, false, if◌then◌else◌, List, [], ◌∷◌, length, take, drop, Option, Some, None, codes}
use Rattle.std.specs.Str.{bytes_eq}
use Rattle.eql_lexer.specs.declared.token.Sign.{Sign}
use Rattle.eql_lexer.specs.declared.token.Sign.TheVariants as sign
use Rattle.eql_lexer.specs.declared.token.Tok.{Tok}
use Rattle.eql_lexer.specs.declared.token.Tok.TheVariants as tok
use Rattle.eql_lexer.specs.declared.token.Token.{Token}
use Rattle.eql_query.specs.declared.expr.CmpOp.{CmpOp}
use Rattle.eql_query.specs.declared.expr.CmpOp.TheVariants.{Lt, Le, Eq, Ne, Ge, Gt}
use Rattle.eql_query.specs.declared.expr.PatOp.{PatOp}
use Rattle.eql_query.specs.declared.expr.PatOp.TheVariants.{Colon, Like, LikeFold}
use Rattle.eql_query.specs.declared.expr.MathOp.{MathOp}
use Rattle.eql_query.specs.declared.expr.MathOp.TheVariants.{Add, Sub, Mul, Div, Mod}

pub data Kind : Type 0 where
  and_ : Kind
  any_ : Kind
  by_ : Kind
  false_ : Kind
  in_ : (fold : Bool) → Kind
  join_ : Kind
  matches : PatOp → Kind
  maxspan_ : Kind
  not_ : Kind
  null_ : Kind
  or_ : Kind
  regex_ : (fold : Bool) → Kind
  sample_ : Kind
  sequence_ : Kind
  true_ : Kind
  until_ : Kind
  where_ : Kind
  with_ : Kind
  -- a word that is no keyword
  name : List ℕ → Kind
  -- a word that is no keyword and ends in `~`, without the `~`
  folding : List ℕ → Kind
  -- a name in backticks
  back : List ℕ → Kind
  text : List ℕ → Kind
  number : ℤ → Kind
  open_ : Kind
  close_ : Kind
  open_item_ : Kind
  close_item_ : Kind
  comma_ : Kind
  dot_ : Kind
  bar_ : Kind
  question_ : Kind
  bang_ : Kind
  assign_ : Kind
  compares : CmpOp → Kind
  adds : MathOp → Kind
  multiplies : MathOp → Kind

-- the keywords
abbrev pub keywords : List (List ℕ × Kind)
keywords =
    (codes "and", and_) ∷ (codes "any", any_) ∷ (codes "by", by_) ∷ (codes "false", false_) ∷ (codes "in", in_ false) ∷ (codes "in~", in_ true)
    ∷ (codes "join", join_) ∷ (codes "like", matches Like) ∷ (codes "like~", matches LikeFold) ∷ (codes "maxspan", maxspan_)
    ∷ (codes "not", not_) ∷ (codes "null", null_) ∷ (codes "or", or_) ∷ (codes "regex", regex_ false) ∷ (codes "regex~", regex_ true)
    ∷ (codes "sample", sample_) ∷ (codes "sequence", sequence_) ∷ (codes "true", true_) ∷ (codes "until", until_) ∷ (codes "where", where_)
    ∷ (codes "with", with_) ∷ []

-- the value of a word in a table
abbrev pub word_in : {A : Type 0} → List (List ℕ × A) → List ℕ → Option A
word_in [] word = None
word_in (entry ∷ entries) word = if bytes_eq word entry.0 then Some entry.1 else word_in entries word

-- a word that is no keyword
abbrev pub plain_kind : List ℕ → Kind
plain_kind word = if bytes_eq (drop (length word - 1) word) (codes "~") then folding (take (length word - 1) word) else name word

abbrev pub kind_or : Option Kind → Kind → Kind
kind_or None other = other
kind_or (Some k) other = k

abbrev pub word_kind : List ℕ → Kind
word_kind word = kind_or (word_in keywords word) (plain_kind word)

abbrev pub sign_kind : Sign → Kind
sign_kind sign.Open = open_
sign_kind sign.Close = close_
sign_kind sign.OpenBracket = open_item_
sign_kind sign.CloseBracket = close_item_
sign_kind sign.Comma = comma_
sign_kind sign.Dot = dot_
sign_kind sign.Bar = bar_
sign_kind sign.Question = question_
sign_kind sign.Bang = bang_
sign_kind sign.Assign = assign_
sign_kind sign.Equal = compares Eq
sign_kind sign.NotEqual = compares Ne
sign_kind sign.Less = compares Lt
sign_kind sign.AtMost = compares Le
sign_kind sign.Greater = compares Gt
sign_kind sign.AtLeast = compares Ge
sign_kind sign.Colon = matches Colon
sign_kind sign.Plus = adds Add
sign_kind sign.Minus = adds Sub
sign_kind sign.Star = multiplies Mul
sign_kind sign.Slash = multiplies Div
sign_kind sign.Percent = multiplies Mod

abbrev pub kind : Tok → Kind
kind (tok.Word w) = word_kind w
kind (tok.Back w) = back w
kind (tok.Str s) = text s
kind (tok.Num n) = number n
kind (tok.Sign s) = sign_kind s

abbrev pub kinds : List Token → List Kind
kinds [] = []
kinds (t ∷ ts) = kind t.tok ∷ kinds ts
