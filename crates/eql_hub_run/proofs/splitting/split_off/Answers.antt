use Rattle.std.proofs.Common.{refl, sym, subst, arith}
use Rattle.std.specs.Prelude.{All}
use Rattle.std.proofs.lemmas.List.Elements.{All-push}
use Rattle.eql_turn_lock.specs.Passes.{new_view, split_view}
use Rattle.eql_hub.specs.Hands.{HandView}
use Rattle.eql_hub_run.specs.Gathers.{IsUnplayedHand}
use Rattle.eql_hub_run.specs.Workers.{MayStart}
use Rattle.eql_hub_run.proofs.Splits.{hand_first, hand_none, hand_split, whole_map}
use Rattle.eql_hub_run.proofs.splitting.split_off.Goals as goal

pub returns-in_default-clause-first : goal.returns-in_default-clause-first
returns-in_default-clause-first g c = hand_first 0 g.pool.lanes g.pool.parts c.args.hand.now c.requires.1.1.1.1.1

pub split_hand-requires-clause-first : goal.split_hand-requires-clause-first
split_hand-requires-clause-first g c = hand_first c.loop-place.place g.pool.lanes g.pool.parts c.loop-place.hand c.loop-place.invariant.unplayed

pub loop-place-preserved : goal.loop-place-preserved
loop-place-preserved g c =
    let was = c.loop-place.invariant in
    let old = c.loop-place.hand in let new = c.split_hand.new.hand in let other = c.in-Ok-split_hand.other in
    let own = c.in-Ok-split_hand.ensures.own in let lanes = c.in-Ok-split_hand.ensures.lanes in let parts = c.in-Ok-split_hand.ensures.parts in
    record {
      own = whole_map c.args.hub.now old new split_view split_view was.own own.0 lanes.0 parts.0;
      knows = (c.in-Ok-split_hand.ensures.knows was.knows).0;
      unplayed = hand_split c.loop-place.place g.pool.lanes g.pool.parts old new lanes.0 parts.0 was.unplayed;
      start = subst (All (MayStart c.args.hub.now)) (sym c.push_reserved.ensures.items)
          (All-push (MayStart c.args.hub.now) c.loop-place.workers.items _ was.start
          (other, refl, whole_map c.args.hub.now old other new_view new_view was.own own.1 lanes.1 parts.1, hand_none old other lanes.1 parts.1));
      count = let a = c.push_reserved.ensures.len in let b = was.count in omega (arith, a, b);
      room = let a = c.push_reserved.ensures.capacity in let b = was.room in omega (arith, a, b);
    }

pub returns-after-loop-place-clause-first : goal.returns-after-loop-place-clause-first
returns-after-loop-place-clause-first g c = hand_first c.loop-place.place g.pool.lanes g.pool.parts c.loop-place.hand c.loop-place.invariant.unplayed

pub returns-in_default-split_hand-clause-first : goal.returns-in_default-split_hand-clause-first
returns-in_default-split_hand-clause-first g c =
    hand_first c.loop-place.place g.pool.lanes g.pool.parts c.split_hand.new.hand
    (subst (λ (h : HandView _ _). IsUnplayedHand c.loop-place.place g.pool.lanes g.pool.parts h) (sym c.in_default-split_hand.ensures.unchanged) c.loop-place.invariant.unplayed)
