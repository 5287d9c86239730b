-- Whether a cut is of a run, by what it says of its run.
use Rattle.std.specs.Prelude.{◌==◌, ℕ, Bool, true, false, if◌then◌else◌, List, Option, Some, None}
use Rattle.eql_values.specs.Names.{names_eq}
use Rattle.eql_values.specs.Orders.{text_eq}
use Rattle.eql_cut.specs.declared.cut.CutHead.{CutHead}
use Rattle.eql_cut.specs.declared.compare.Differs.{Differs}
use Rattle.eql_cut.specs.declared.compare.Differs.TheVariants as differs

-- the tiebreakers are the same, or neither is there
abbrev pub tie_eq : Option (List ℕ) → Option (List ℕ) → Bool
tie_eq (Some x) (Some y) = text_eq x y
tie_eq (Some x) None = false
tie_eq None (Some y) = false
tie_eq None None = true

-- the first that differs, of query, mapping, tiebreaker, slack and number of shards
abbrev pub difference : CutHead → CutHead → Option Differs
difference cut now =
    if text_eq cut.query now.query
    then if names_eq cut.mapping now.mapping
    then if tie_eq cut.tie now.tie
    then if cut.slack == now.slack
    then if cut.shards == now.shards
    then None
    else Some (differs.Shards cut.shards now.shards)
    else Some (differs.Slack cut.slack now.slack)
    else Some (differs.Tie cut.tie now.tie)
    else Some (differs.Mapping cut.mapping now.mapping)
    else Some (differs.Query cut.query now.query)
