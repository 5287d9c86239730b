-- What the parser's functions for queries return, as the definitions see it.
use Rattle.std.specs.Prelude.{◌≡◌, ℕ, pos, true, false, List, [], ◌∷◌, map, Option}
use Rattle.std.specs.Option.{option_map}
use Rattle.std.specs.declared.vec.Vec.{Vec}
use Rattle.std.specs.declared.alloc.Global.{Global}
use Rattle.eql_query.specs.declared.expr.FieldRef.{FieldRef}
use Rattle.eql_query.specs.declared.query.Term.{Term}
use Rattle.eql_parser.specs.declared.parser.stop.Stop.{Stop}
use Rattle.eql_parser.specs.declared.parser.stop.Stop.TheVariants as stop
use Rattle.eql_parser.specs.declared.parser.term.Conditioned.{Conditioned as ReadTerm}
use Rattle.eql_parser.specs.declared.parser.term.Bracketed.{Bracketed}
use Rattle.eql_query.specs.View.{tree}
use Rattle.eql_parser.specs.Kinds.{Kind, bang_, open_item_}
use Rattle.eql_query.specs.QueryTree.{TermTree, BodyTree, event, term_tree}
use Rattle.eql_parser.specs.QueryReading.{Conditioned, is_fine_unit, is_runs, term_tree_of, runs, bracketed_term}
use Rattle.eql_query.specs.Tree.{Tree}
use Rattle.eql_parser.specs.Reading.{Res, then_do, res_map}

abbrev pub conditioned_view : ReadTerm → Conditioned
conditioned_view c = (c.category, tree c.cond)

abbrev pub bracketed_view : Bracketed → Conditioned × List FieldRef
bracketed_view b = (conditioned_view b.term, b.by)

abbrev pub terms_view : Vec Term Global → List TermTree
terms_view v = map term_tree v.items

abbrev pub until_view : Option Term → Option TermTree
until_view u = option_map term_tree u

abbrev pub event_view : Conditioned → BodyTree
event_view c = event (term_tree_of c [] (pos 1))

-- the word `runs` comes first
abbrev pub RunsComes : List Kind → List Kind → Type 0
RunsComes ts rest = (k : Kind) × (ts ≡ k ∷ rest) × (is_runs k ≡ true)

abbrev pub LacksRuns : List Kind → Type 0
LacksRuns [] = Unit {0}
LacksRuns (k ∷ ts) = is_runs k ≡ false

-- a missing event comes first
abbrev pub IsMissing : List Kind → Type 0
IsMissing ts = (us : List Kind) × (ts ≡ bang_ ∷ open_item_ ∷ us)

abbrev pub BeginsNoMissing : List Kind → Type 0
BeginsNoMissing (bang_ ∷ open_item_ ∷ ts) = ⊥
BeginsNoMissing _ = Unit {0}

-- a word that stands where a unit has to is none: the language has it, or hasn't
abbrev pub StopsAtNoUnit : Stop → List ℕ → ℕ → Type 0
StopsAtNoUnit stop.Memory word left = Unit {0}
StopsAtNoUnit (stop.Syntax n) word left = (is_fine_unit word ≡ false) × (n ≡ left)
StopsAtNoUnit (stop.LeftOut w n) word left = (is_fine_unit word ≡ true) × (w ≡ word) × (n ≡ left)
StopsAtNoUnit _ word left = ⊥

-- an item that is no missing event
abbrev pub plain_item : (List Kind → Res Tree) → List Kind → Res TermTree
plain_item condition ts = then_do (bracketed_term condition ts) (λ x us. res_map (term_tree_of x.0 x.1) (runs us))
