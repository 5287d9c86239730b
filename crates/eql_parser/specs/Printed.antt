-- The canonical text of a query, as a list of characters: one text for all ways to write a query that differ only in blanks, comments, escapes,
-- parentheses that change nothing, and ways to name a field. Each function puts the text of a part before the rest of the text.
use Rattle.std.specs.Prelude.{ℕ, zero, suc, ℤ, pos, ◌==◌, Bool, true, false, if◌then◌else◌, List, [], ◌∷◌, ◌++◌, Option, Some, None, codes}
use Rattle.std.specs.Fmt.{signed_decimal}
use Rattle.eql_values.specs.Shown.{is_hidden, escape_by_number}
use Rattle.eql_values.specs.declared.value.Value.{Value}
use Rattle.eql_values.specs.declared.value.Value.TheVariants as value
use Rattle.eql_query.specs.declared.expr.CmpOp.{CmpOp}
use Rattle.eql_query.specs.declared.expr.CmpOp.TheVariants as cmp
use Rattle.eql_query.specs.declared.expr.PatOp.{PatOp}
use Rattle.eql_query.specs.declared.expr.PatOp.TheVariants as pat
use Rattle.eql_query.specs.declared.expr.MathOp.{MathOp}
use Rattle.eql_query.specs.declared.expr.MathOp.TheVariants as math
use Rattle.eql_query.specs.declared.expr.FieldRef.{FieldRef}
use Rattle.eql_query.specs.declared.query.Span.{Span}
use Rattle.eql_query.specs.declared.query.Unit.{Unit as TimeUnit}
use Rattle.eql_query.specs.declared.query.Unit.TheVariants as unit
use Rattle.eql_query.specs.declared.query.PipeText.{PipeText}
use Rattle.eql_query.specs.declared.query.PipeText.TheVariants as pipe
use Rattle.eql_query.specs.Tree.{Tree, Trees, none, more}
use Rattle.eql_query.specs.Tree as t
use Rattle.eql_query.specs.QueryTree.{TermTree, BodyTree, event, sequence, QueryTree}

-- a character of a string in quotes: what steers a terminal or turns the line is written by its number
abbrev pub char_shown : ℕ → List ℕ → List ℕ
char_shown c rest =
    if c == 10 then codes "\\n" ++ rest
    else if c == 13 then codes "\\r" ++ rest
    else if c == 9 then codes "\\t" ++ rest
    else if c == 92 then codes "\\\\" ++ rest
    else if c == 34 then codes "\\\"" ++ rest
    else if is_hidden c then escape_by_number c ++ rest
    else c ∷ rest

abbrev pub all_escaped : List ℕ → List ℕ → List ℕ
all_escaped [] rest = rest
all_escaped (c ∷ cs) rest = char_shown c (all_escaped cs rest)

-- a string
abbrev pub string_shown : List ℕ → List ℕ → List ℕ
string_shown s rest = 34 ∷ all_escaped s (34 ∷ rest)

-- a backtick in a name is doubled; a name has no escapes, so each other character stands as it is
abbrev pub name_shown : List ℕ → List ℕ → List ℕ
name_shown [] rest = rest
name_shown (c ∷ cs) rest = if c == 96 then 96 ∷ 96 ∷ name_shown cs rest else c ∷ name_shown cs rest

-- a field: `?` where it is optional, and its whole name in backticks
abbrev pub field_shown : List ℕ → Bool → List ℕ → List ℕ
field_shown name optional rest = (if optional then codes "?" else []) ++ 96 ∷ name_shown name (96 ∷ rest)

abbrev pub bool_text : Bool → List ℕ
bool_text true = codes "true"
bool_text false = codes "false"

abbrev pub cmp_text : CmpOp → List ℕ
cmp_text cmp.Lt = codes " < "
cmp_text cmp.Le = codes " <= "
cmp_text cmp.Eq = codes " == "
cmp_text cmp.Ne = codes " != "
cmp_text cmp.Ge = codes " >= "
cmp_text cmp.Gt = codes " > "

abbrev pub pat_text : PatOp → List ℕ
pat_text pat.Colon = codes " : "
pat_text pat.Like = codes " like "
pat_text pat.LikeFold = codes " like~ "

abbrev pub math_text : MathOp → List ℕ
math_text math.Add = codes " + "
math_text math.Sub = codes " - "
math_text math.Mul = codes " * "
math_text math.Div = codes " / "
math_text math.Mod = codes " % "

abbrev pub member_text : (fold negated : Bool) → List ℕ
member_text false false = codes " in ("
member_text true false = codes " in~ ("
member_text false true = codes " not in ("
member_text true true = codes " not in~ ("

-- texts behind one another, with a comma and a blank between
abbrev pub texts_shown : List (List ℕ) → List ℕ → List ℕ
texts_shown [] rest = rest
texts_shown (s ∷ []) rest = string_shown s rest
texts_shown (s ∷ u ∷ ss) rest = string_shown s (codes ", " ++ texts_shown (u ∷ ss) rest)

-- one text alone, or several in parentheses
abbrev pub patterns_shown : List (List ℕ) → List ℕ → List ℕ
patterns_shown (s ∷ []) rest = string_shown s rest
patterns_shown ss rest = 40 ∷ texts_shown ss (41 ∷ rest)

abbrev pub literal_shown : Value → List ℕ → List ℕ
literal_shown (value.Bool b) rest = bool_text b ++ rest
literal_shown (value.Long n) rest = signed_decimal n ++ rest
literal_shown (value.Text s) rest = string_shown s rest
literal_shown _ rest = codes "null" ++ rest

abbrev pub literals_shown : List Value → List ℕ → List ℕ
literals_shown [] rest = rest
literals_shown (v ∷ []) rest = literal_shown v rest
literals_shown (v ∷ w ∷ vs) rest = literal_shown v (codes ", " ++ literals_shown (w ∷ vs) rest)

-- a leaf is written as it is, a call as one, and each other node in one pair of parentheses
abbrev mutual
  pub tree_shown : Tree → List ℕ → List ℕ
  tree_shown t.null rest = codes "null" ++ rest
  tree_shown (t.bool b) rest = bool_text b ++ rest
  tree_shown (t.long n) rest = signed_decimal n ++ rest
  tree_shown (t.str s) rest = string_shown s rest
  tree_shown (t.field name optional) rest = field_shown name optional rest
  tree_shown (t.not a) rest = codes "(not " ++ tree_shown a (41 ∷ rest)
  tree_shown (t.and es) rest = 40 ∷ all_shown (codes " and ") es (41 ∷ rest)
  tree_shown (t.or es) rest = 40 ∷ all_shown (codes " or ") es (41 ∷ rest)
  tree_shown (t.cmp op a b) rest = 40 ∷ tree_shown a (cmp_text op ++ tree_shown b (41 ∷ rest))
  tree_shown (t.pattern op a ss) rest = 40 ∷ tree_shown a (pat_text op ++ patterns_shown ss (41 ∷ rest))
  tree_shown (t.member fold negated a vs) rest = 40 ∷ tree_shown a (member_text fold negated ++ literals_shown vs (41 ∷ 41 ∷ rest))
  tree_shown (t.neg a) rest = codes "(-" ++ tree_shown a (41 ∷ rest)
  tree_shown (t.math op a b) rest = 40 ∷ tree_shown a (math_text op ++ tree_shown b (41 ∷ rest))
  tree_shown (t.call name fold es) rest = name ++ (if fold then codes "~(" else codes "(") ++ all_shown (codes ", ") es (41 ∷ rest)

  -- expressions behind one another, with something between
  pub all_shown : (between : List ℕ) → Trees → List ℕ → List ℕ
  all_shown between none rest = rest
  all_shown between (more a none) rest = tree_shown a rest
  all_shown between (more a (more b es)) rest = tree_shown a (between ++ all_shown between (more b es) rest)

abbrev pub fields_shown : List FieldRef → List ℕ → List ℕ
fields_shown [] rest = rest
fields_shown (f ∷ []) rest = field_shown f.name f.optional rest
fields_shown (f ∷ g ∷ fs) rest = field_shown f.name f.optional (codes ", " ++ fields_shown (g ∷ fs) rest)

-- join keys, where there are any
abbrev pub by_shown : List FieldRef → List ℕ → List ℕ
by_shown [] rest = rest
by_shown (f ∷ fs) rest = codes " by " ++ fields_shown (f ∷ fs) rest

abbrev pub category_shown : Option (List ℕ) → List ℕ → List ℕ
category_shown None rest = codes "any" ++ rest
category_shown (Some c) rest = string_shown c rest

-- a category and a condition
abbrev pub term_shown : TermTree → List ℕ → List ℕ
term_shown i rest = category_shown i.category (codes " where " ++ tree_shown i.cond rest)

-- a term in brackets and its keys
abbrev pub bracketed_shown : TermTree → List ℕ → List ℕ
bracketed_shown i rest = 91 ∷ term_shown i (93 ∷ by_shown i.by rest)

abbrev pub is_one : ℤ → Bool
is_one (pos (suc zero)) = true
is_one _ = false

abbrev pub runs_shown : ℤ → List ℕ → List ℕ
runs_shown n rest = if is_one n then rest else codes " with runs=" ++ signed_decimal n ++ rest

abbrev pub items_shown : List TermTree → List ℕ → List ℕ
items_shown [] rest = rest
items_shown (i ∷ is) rest = 32 ∷ bracketed_shown i (runs_shown i.runs (items_shown is rest))

abbrev pub unit_text : TimeUnit → List ℕ
unit_text unit.Ms = codes "ms"
unit_text unit.S = codes "s"
unit_text unit.M = codes "m"
unit_text unit.H = codes "h"
unit_text unit.D = codes "d"

abbrev pub span_shown : Option Span → List ℕ → List ℕ
span_shown None rest = rest
span_shown (Some s) rest = codes " with maxspan=" ++ signed_decimal s.count ++ unit_text s.unit ++ rest

abbrev pub until_shown : Option TermTree → List ℕ → List ℕ
until_shown None rest = rest
until_shown (Some i) rest = codes " until " ++ bracketed_shown i rest

abbrev pub body_shown : BodyTree → List ℕ → List ℕ
body_shown (event i) rest = term_shown i rest
body_shown (sequence by span items until) rest = codes "sequence" ++ by_shown by (span_shown span (items_shown items (until_shown until rest)))

abbrev pub pipe_shown : PipeText → List ℕ → List ℕ
pipe_shown (pipe.Head n) rest = codes " | head " ++ signed_decimal n ++ rest
pipe_shown (pipe.Tail n) rest = codes " | tail " ++ signed_decimal n ++ rest

abbrev pub pipes_shown : List PipeText → List ℕ → List ℕ
pipes_shown [] rest = rest
pipes_shown (p ∷ ps) rest = pipe_shown p (pipes_shown ps rest)

-- the canonical text
abbrev pub query_shown : QueryTree → List ℕ
query_shown query = body_shown query.body (pipes_shown query.pipes [])
