-- Keywords and signs that a place may ask for.
use Rattle.std.specs.Prelude.{◌≡◌, ℕ, Bool, true, false, ◌⊎◌, List, [], ◌∷◌, Option, Some, None}
use Rattle.eql_query.specs.declared.expr.CmpOp.{CmpOp}
use Rattle.eql_query.specs.declared.expr.MathOp.TheVariants.{Sub}
use Rattle.eql_parser.specs.declared.parser.mark.Mark.{Mark}
use Rattle.eql_parser.specs.declared.parser.mark.Mark.TheVariants as m
use Rattle.eql_parser.specs.Kinds.{Kind, and_, by_, join_, maxspan_, not_, or_, sample_, sequence_, until_, where_, with_, open_, close_, open_item_, close_item_, comma_, dot_, bar_, question_, bang_, assign_, name, folding, adds, compares}

abbrev pub mark_kind : Mark → Kind
mark_kind m.And = and_
mark_kind m.By = by_
mark_kind m.Join = join_
mark_kind m.Maxspan = maxspan_
mark_kind m.Not = not_
mark_kind m.Or = or_
mark_kind m.Sample = sample_
mark_kind m.Sequence = sequence_
mark_kind m.Until = until_
mark_kind m.Where = where_
mark_kind m.With = with_
mark_kind m.Open = open_
mark_kind m.Close = close_
mark_kind m.OpenItem = open_item_
mark_kind m.CloseItem = close_item_
mark_kind m.Comma = comma_
mark_kind m.Dot = dot_
mark_kind m.Bar = bar_
mark_kind m.Question = question_
mark_kind m.Bang = bang_
mark_kind m.Assign = assign_
mark_kind m.Minus = adds Sub

abbrev pub kind_mark : Kind → Option Mark
kind_mark and_ = Some m.And
kind_mark by_ = Some m.By
kind_mark join_ = Some m.Join
kind_mark maxspan_ = Some m.Maxspan
kind_mark not_ = Some m.Not
kind_mark or_ = Some m.Or
kind_mark sample_ = Some m.Sample
kind_mark sequence_ = Some m.Sequence
kind_mark until_ = Some m.Until
kind_mark where_ = Some m.Where
kind_mark with_ = Some m.With
kind_mark open_ = Some m.Open
kind_mark close_ = Some m.Close
kind_mark open_item_ = Some m.OpenItem
kind_mark close_item_ = Some m.CloseItem
kind_mark comma_ = Some m.Comma
kind_mark dot_ = Some m.Dot
kind_mark bar_ = Some m.Bar
kind_mark question_ = Some m.Question
kind_mark bang_ = Some m.Bang
kind_mark assign_ = Some m.Assign
kind_mark (adds Sub) = Some m.Minus
kind_mark _ = None

-- another token than this comes first, or none
abbrev pub Lacks : Mark → List Kind → Type 0
Lacks mark [] = Unit {0}
Lacks mark (k ∷ ts) = kind_mark k ≡ Some mark → ⊥

abbrev pub compares_of : Kind → Option CmpOp
compares_of (compares o) = Some o
compares_of _ = None

-- no such operator comes first
abbrev pub LacksOperator : {A : Type 0} → (Kind → Option A) → List Kind → Type 0
LacksOperator operator [] = Unit {0}
LacksOperator operator (k ∷ ts) = operator k ≡ None

-- what may be called: a name, or one that ends in `~`
abbrev pub callee_kind : (fold : Bool) → List ℕ → Kind
callee_kind false w = name w
callee_kind true w = folding w

abbrev pub IsNoCallee : Kind → Type 0
IsNoCallee (name w) = ⊥
IsNoCallee (folding w) = ⊥
IsNoCallee _ = Unit {0}

-- no call comes first
abbrev pub BeginsNoCall : List Kind → Type 0
BeginsNoCall (k ∷ ts) = IsNoCallee k ⊎ Lacks m.Open ts
BeginsNoCall [] = Unit {0}
