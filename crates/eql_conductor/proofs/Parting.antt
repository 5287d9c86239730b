-- What turns, deliveries and collections keep of a part.
use Rattle.std.proofs.Common.{◌≡◌, ◌++◌, ℕ, ℤ, true, List, [], ◌∷◌, Option, length, refl, sym, ap, ◌∙◌, arith, subst, append_assoc, length-append}
use Rattle.std.specs.Prelude.{All}
use Rattle.std.proofs.lemmas.List.{append-nil}
use Rattle.std.proofs.lemmas.List.Elements.{All-append, All-cons, All-head, All-nil, All-tail, All-weaker}
use Rattle.eql_values.specs.declared.item.Item.{Item}
use Rattle.eql_values.specs.declared.found.Holder.{Holder}
use Rattle.eql_values.specs.declared.order.Mark.{Mark}
use Rattle.eql_values.specs.Ascending.{Ascend}
use Rattle.eql_values.specs.Marks.{is_below}
use Rattle.eql_values.specs.Matching.{after, matches}
use Rattle.eql_laws.specs.Alive.{HoldersAreInOrder, IsSpan}
use Rattle.eql_laws.specs.Together.{AllAreBelow}
use Rattle.eql_laws.proofs.LeftOut.{after_in_order}
use Rattle.eql_laws.proofs.MarkLemmas.{below_up}
use Rattle.eql_laws.proofs.PieceLemmas.{ascending_pieces}
use Rattle.eql_laws.proofs.Splitting.{after_split, matches_split}
use Rattle.eql_laws.proofs.Togethers.{ascend_together}
use Rattle.eql_parts.specs.declared.ops.PartReply.TheVariants.{Done, Turned, Idle, Found, Cut, Memory}
use Rattle.eql_parts.specs.PartSteps.{Rules, PartState, Plays, alive_by, done_by, last_time, mark_time, still_held}
use Rattle.eql_conductor.specs.PartCalls.{PartIs, ComeFrom, TimeIsAtMost, ReachesTo, TurnKeeps, TurnKeepsPart, DeliverMovesPart, CollectMovesPart, CollectsAll}
use Rattle.eql_conductor.proofs.Reaching.{time_self, time_on, reach_up, from_pieces, from_join, from_mark, last_from, last_to, time_rises, last_reach, left_order, by_later, by_still, alike_later, alike_find, SettlesAt, settles_at}

-- what holds of all of two lists holds of each
fronts : {X : Type 0} (P : X → Type 0) (xs ys : List X) → All P (xs ++ ys) → All P xs
fronts P [] ys h = All-nil P
fronts P (x ∷ xs) ys h = All-cons P x xs (All-head P x (xs ++ ys) h) (fronts P xs ys (All-tail P x (xs ++ ys) h))

backs : {X : Type 0} (P : X → Type 0) (xs ys : List X) → All P (xs ++ ys) → All P ys
backs P [] ys h = h
backs P (x ∷ xs) ys h = backs P xs ys (All-tail P x (xs ++ ys) h)

-- ---- a part that settled: what isn't alive was dropped
module _ (rules : Rules) (own : List Holder) (delivered : List Item) (mark : Mark) (new : PartState) (hs : List Holder) (done : Mark) (played : List Item) (reach : Option ℤ)
    (split : delivered ≡ played ++ new.inbox) (found : new.found ≡ matches rules.stages rules.span own played) (order : HoldersAreInOrder hs)
    (alike : alive_by rules.span reach hs ≡ alive_by rules.span reach (after rules.stages rules.span own played))
    (ascends : Ascend new.inbox) (below : AllAreBelow mark new.inbox) (waits : ComeFrom reach new.inbox) (to : ReachesTo reach mark)
    (processed : TimeIsAtMost new.processed reach) (done_to : TimeIsAtMost (mark_time done) reach)
    (held_is : new.held ≡ still_held rules.span new.processed new.done hs) (done_is : new.done ≡ done_by new.inbox done mark) (last : new.last ≡ mark) where
  pub settled : PartIs rules own delivered mark new
  settled =
      let at : SettlesAt reach new.inbox mark done = settles_at reach new.inbox mark done waits to done_to in
      let by_done : TimeIsAtMost (mark_time new.done) at.time = subst (λ (m : Mark). TimeIsAtMost (mark_time m) at.time) (sym done_is) at.done_to in
      let by_last : TimeIsAtMost new.processed at.time = time_on new.processed reach at.time processed at.later in
      let left : List Holder = alive_by rules.span new.processed hs in
      record {
        played = played;
        split = split;
        found = found;
        order = subst HoldersAreInOrder (sym held_is) (left_order rules.span (mark_time new.done) left (left_order rules.span new.processed hs order));
        reach = at.time;
        alike = ap (alive_by rules.span at.time) held_is
            ∙ by_still rules.span new.processed at.time new.done hs by_last by_done
            ∙ alike_later rules.span reach at.time hs (after rules.stages rules.span own played) at.later alike;
        ascends = ascends;
        below = below;
        waits = at.waits;
        to = at.to;
        processed = by_last;
        done_to = by_done;
        done = λ e. done_is ∙ ap (λ (l : List Item). done_by l done mark) e;
        fresh = ap (alive_by rules.span (mark_time new.done)) held_is
            ∙ by_later rules.span (mark_time new.done) (mark_time new.done) left (time_self (mark_time new.done))
            ∙ sym held_is;
        last = last;
      }

-- ---- a turn
module _ (rules : Rules) (own : List Holder) (delivered : List Item) (mark : Mark) (old new : PartState) (n : ℕ) (span : IsSpan rules.span)
    (plays : Plays rules old n new) (is : PartIs rules own delivered mark old) where
  abbrev more : List Item
  more = plays.played

  abbrev before : List Holder
  before = after rules.stages rules.span own is.played

  asc : Ascend (more ++ new.inbox)
  asc = subst Ascend plays.inbox is.ascends

  all_below : AllAreBelow mark (more ++ new.inbox)
  all_below = subst (AllAreBelow mark) plays.inbox is.below

  from : ComeFrom is.reach (more ++ new.inbox)
  from = subst (ComeFrom is.reach) plays.inbox is.waits

  from_more : ComeFrom is.reach more
  from_more = (from_pieces is.reach more new.inbox from).0

  rises : TimeIsAtMost is.reach (last_time is.reach more)
  rises = time_rises is.reach more (ascending_pieces more new.inbox asc).0 from_more

  alike : (matches rules.stages rules.span old.held more ≡ matches rules.stages rules.span before more)
      × (alive_by rules.span is.reach (after rules.stages rules.span old.held more) ≡ alive_by rules.span is.reach (after rules.stages rules.span before more))
  alike =
      alike_find rules.stages rules.span is.reach old.held before more span is.order
      (after_in_order rules.stages rules.span own is.played) is.alike from_more

  below_of : (item : Item) → Type 0
  below_of item = is_below mark item ≡ true

  played_on : PartIs rules own delivered mark new
  played_on =
      settled rules own delivered mark new (after rules.stages rules.span old.held more) old.done (is.played ++ more) (last_time is.reach more)
      (is.split ∙ ap (λ (l : List Item). is.played ++ l) plays.inbox ∙ sym (append_assoc is.played more new.inbox))
      (plays.found
      ∙ (λ i. is.found i ++ alike.0 i)
      ∙ sym (matches_split rules.stages rules.span own is.played more))
      (after_in_order rules.stages rules.span old.held more)
      (alike_later rules.span is.reach (last_time is.reach more) (after rules.stages rules.span old.held more) (after rules.stages rules.span before more) rises alike.1
      ∙ ap (alive_by rules.span (last_time is.reach more)) (sym (after_split rules.stages rules.span own is.played more)))
      (ascending_pieces more new.inbox asc).1
      (backs (λ (item : Item). is_below mark item ≡ true) more new.inbox all_below)
      (last_from is.reach more new.inbox asc from)
      (last_reach is.reach mark more (fronts (λ (item : Item). is_below mark item ≡ true) more new.inbox all_below) is.to)
      (subst (λ (t : Option ℤ). TimeIsAtMost t (last_time is.reach more)) (sym plays.processed) (last_to old.processed is.reach more is.processed))
      (time_on (mark_time old.done) is.reach (last_time is.reach more) is.done_to rises)
      plays.held
      (plays.done ∙ ap (done_by new.inbox old.done) is.last)
      (plays.last ∙ is.last)

  pub plays_on : TurnKeeps rules own delivered mark old new
  plays_on = record {
    is = played_on;
    fewer = let e = ap (λ (l : List Item). length l) plays.inbox ∙ length-append more new.inbox in omega (arith, e);
  }

unturned : (rules : Rules) (own : List Holder) (delivered : List Item) (mark : Mark) (old new : PartState) → new ≡ old
    → PartIs rules own delivered mark old → TurnKeeps rules own delivered mark old new
unturned rules own delivered mark old new e is = subst (TurnKeeps rules own delivered mark old) (sym e) (record { is = is; fewer = omega arith })

pub turn_keeps_part : TurnKeepsPart
turn_keeps_part rules own delivered mark old max (Turned n) new span step is = plays_on rules own delivered mark old new n span step.0 is
turn_keeps_part rules own delivered mark old max Idle new span step is = unturned rules own delivered mark old new step.1 is
turn_keeps_part rules own delivered mark old max (Memory back n) new span step is = plays_on rules own delivered mark old new n span step.1 is
turn_keeps_part rules own delivered mark old max Done new span step is = absurd step
turn_keeps_part rules own delivered mark old max (Found found done) new span step is = absurd step
turn_keeps_part rules own delivered mark old max (Cut holders) new span step is = absurd step

-- ---- a delivery
pub deliver_moves_part : DeliverMovesPart
deliver_moves_part rules own delivered items from to old new le asc none all step is =
    let inbox : new.inbox ≡ old.inbox ++ items = step.inbox in
    settled rules own (delivered ++ items) to new old.held old.done is.played is.reach
    (ap (λ (l : List Item). l ++ items) is.split ∙ append_assoc is.played old.inbox items ∙ ap (λ (l : List Item). is.played ++ l) (sym inbox))
    (step.found ∙ is.found)
    is.order
    is.alike
    (subst Ascend (sym inbox) (ascend_together from old.inbox items is.ascends asc is.below none))
    (subst (AllAreBelow to) (sym inbox)
    (All-append (λ (item : Item). is_below to item ≡ true) old.inbox items
    (All-weaker (λ (item : Item). is_below from item ≡ true) (λ (item : Item). is_below to item ≡ true) (λ item e. below_up from to item le e) old.inbox is.below) all))
    (subst (ComeFrom is.reach) (sym inbox) (from_join is.reach old.inbox items is.waits (from_mark is.reach from items is.to none)))
    (reach_up is.reach from to le is.to)
    (subst (λ (t : Option ℤ). TimeIsAtMost t is.reach) (sym step.processed) is.processed)
    is.done_to
    step.held
    step.done
    step.last

-- ---- a collection
pub collect_moves_part : CollectMovesPart
collect_moves_part rules own delivered mark done old found new empty step is =
    let all : is.played ≡ delivered = sym (append-nil is.played) ∙ ap (λ (l : List Item). is.played ++ l) (sym empty) ∙ sym is.split in
    let then : after rules.stages rules.span own is.played ≡ after rules.stages rules.span (after rules.stages rules.span own delivered) [] =
    ap (after rules.stages rules.span own) (all ∙ sym (append-nil delivered)) ∙ after_split rules.stages rules.span own delivered [] in
    subst (CollectsAll rules own delivered mark found) (sym step.2) (record {
      found_is = step.0 ∙ is.found ∙ ap (matches rules.stages rules.span own) all;
      is = record {
        played = [];
        split = sym empty;
        found = refl;
        order = is.order;
        reach = is.reach;
        alike = is.alike ∙ ap (alive_by rules.span is.reach) then;
        ascends = is.ascends;
        below = is.below;
        waits = is.waits;
        to = is.to;
        processed = is.processed;
        done_to = is.done_to;
        done = is.done;
        fresh = is.fresh;
        last = is.last;
      };
    })
