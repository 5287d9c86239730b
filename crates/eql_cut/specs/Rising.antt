-- Cuts that are kept one after another, by their times.
use Rattle.std.specs.Prelude.{List, [], ◌∷◌}
use Rattle.eql_values.specs.declared.order.Mark.{Mark}
use Rattle.eql_values.specs.declared.order.Mark.TheVariants.{At}
use Rattle.eql_laws.specs.Lateness.{IsAtMost}
use Rattle.eql_cut.specs.declared.cut.Cut.{Cut}

-- no cut is of a time before that of the one before it, and the first is of none before the mark
abbrev pub RiseFrom : Mark → List Cut → Type 0
RiseFrom from [] = Unit {0}
RiseFrom from (cut ∷ cuts) = IsAtMost from (At cut.mark) × RiseFrom (At cut.mark) cuts
