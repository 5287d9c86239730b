-- A part's state, of what waits in it and its two marks; and what a part keeps true of itself.
use Rattle.eql_values.specs.declared.order.Mark.{Mark}
use Rattle.eql_parts.specs.Inboxes.{LiesBelow, WaitingView}
use Rattle.eql_parts.specs.PartSteps.{HasNothingStale, PartView}

-- the rules and the state of a part
abbrev pub part_view : WaitingView → (done last : Mark) → PartView
part_view w done last = record {
  rules = record { stages = w.stages; span = w.span };
  state = record { held = w.held; inbox = w.inbox; found = w.found; done = done; last = last; processed = w.processed };
}

-- all that the part has lies below the last delivered mark, and no pending sequence is stale
pub record IsPart (w : WaitingView) (done last : Mark) : Type 0 where
  pub below : LiesBelow last w.held w.inbox
  pub fresh : HasNothingStale (part_view w done last).rules (part_view w done last).state
