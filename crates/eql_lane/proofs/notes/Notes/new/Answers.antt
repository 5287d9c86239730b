use Rattle.std.proofs.Common.{refl, subst, sym}
use Rattle.std.specs.List.Sorted.{IsStrictlyIncreasing}
use Rattle.eql_lane.proofs.NoteLemmas.{notes_start}
use Rattle.eql_lane.proofs.notes.Notes.new.Goals as goal

pub returns-clause-noted : goal.returns-clause-noted
returns-clause-noted c =
    notes_start _ (subst IsStrictlyIncreasing (sym c.into_items-wanted.ensures) c.requires.ascend) refl refl refl c.in_ok-places.ensures.items
