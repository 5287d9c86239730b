-- A part after a call: what it holds, and the steps that led there.
use Rattle.std.proofs.Common.{◌≡◌, ◌++◌, ℕ, ℤ, List, Option, refl, sym, ap, ◌∙◌, subst}
use Rattle.eql_values.specs.declared.order.Mark.{Mark}
use Rattle.eql_values.specs.declared.item.Item.{Item}
use Rattle.eql_values.specs.Matching.{after}
use Rattle.eql_parts.specs.Inboxes.{LiesBelow, PlaysFirst, WaitingView}
use Rattle.eql_parts.specs.PartSteps.{Delivers, Plays, done_by, still_held}
use Rattle.eql_parts.specs.Viewed.{IsPart, part_view}
use Rattle.eql_parts.proofs.Living.{still_below, still_fresh}

-- what waits, without the pending sequences that aren't alive
abbrev pub settled : (done : Mark) → WaitingView → WaitingView
settled done w = record w { held = still_held w.span w.processed done w.held }

-- a part keeps what it keeps when those are dropped
pub part_settled : (w new : WaitingView) (done last : Mark) → new ≡ settled done w → LiesBelow last w.held w.inbox → IsPart new done last
part_settled w new done last is below =
    subst (λ (x : WaitingView). IsPart x done last) (sym is)
    (record {
      below = still_below w.span w.processed done last w.held w.inbox below;
      fresh = still_fresh (part_view (settled done w) done last).rules (part_view (settled done w) done last).state w.held refl;
    })

-- events were delivered
pub delivered : (w mid new : WaitingView) (done now last mark : Mark) (items : List Item) → mid ≡ record w { inbox = w.inbox ++ items } → new ≡ settled now mid
    → now ≡ done_by mid.inbox done mark
    → Delivers (part_view w done last).rules (part_view w done last).state items mark (part_view new now mark).state
delivered w mid new done now last mark items first is done_is =
    let all : new ≡ settled now (record w { inbox = w.inbox ++ items }) = is ∙ ap (settled now) first in
    record {
      inbox = ap (λ (x : WaitingView). x.inbox) all;
      held = ap (λ (x : WaitingView). x.held) all ∙ ap (λ (t : Option ℤ). still_held w.span t now w.held) (sym (ap (λ (x : WaitingView). x.processed) all));
      found = ap (λ (x : WaitingView). x.found) all;
      processed = ap (λ (x : WaitingView). x.processed) all;
      done = done_is ∙ ap (λ (l : List Item). done_by l done mark) (sym (ap (λ (x : WaitingView). x.inbox) is));
      last = refl;
    }

-- events were played
pub turned : (w mid new : WaitingView) (done now last : Mark) (n : ℕ) → PlaysFirst w n mid → new ≡ settled now mid → now ≡ done_by mid.inbox done last
    → Plays (part_view w done last).rules (part_view w done last).state n (part_view new now last).state
turned w mid new done now last n p is done_is =
    let inbox = ap (λ (x : WaitingView). x.inbox) is in let processed = ap (λ (x : WaitingView). x.processed) is in
    record {
      played = p.played;
      count = p.count;
      inbox = p.inbox ∙ ap (λ (l : List Item). p.played ++ l) (sym inbox);
      held = ap (λ (x : WaitingView). x.held) is
          ∙ (λ i. still_held (p.span i) mid.processed now (p.held i))
          ∙ ap (λ (t : Option ℤ). still_held w.span t now (after w.stages w.span w.held p.played)) (sym processed);
      found = ap (λ (x : WaitingView). x.found) is ∙ p.found;
      processed = processed ∙ p.processed;
      done = done_is ∙ ap (λ (l : List Item). done_by l done last) (sym inbox);
      last = refl;
    }
