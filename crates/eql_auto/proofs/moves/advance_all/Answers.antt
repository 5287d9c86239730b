use Rattle.std.proofs.Common.{◌≡◌, ◌+◌, ◌-◌, ◌≤◌, ◌==◌, ℕ, suc, cond, length, set, get_or, Option, List, None, ap, ◌∙◌, sym, subst, arith}
use Rattle.std.specs.Option.{option_to_list}
use Rattle.std.proofs.lemmas.List.{length-set}
use Rattle.eql_values.specs.declared.order.OrderKey.{OrderKey}
use Rattle.eql_values.specs.Masks.{has_after}
use Rattle.eql_auto.specs.Machine.{Sequence, ComesAfter, tags_of, stages_in, went_on}
use Rattle.eql_auto.specs.Moves.{chain_in}
use Rattle.eql_auto.proofs.Moving.{still_held, step_to, moved_is, completes, counts_one, counts_none, at_end, completed_at_end, or_is}
use Rattle.eql_auto.proofs.Bits.{found_last, found_none}
use Rattle.eql_auto.proofs.Tags.{goes_over, as_many}
use Rattle.eql_auto.proofs.moves.advance_all.Goals as goal

pub advance-out-requires-clause-later : goal.advance-out-requires-clause-later
advance-out-requires-clause-later g c =
    let inv = c.loop-stage.invariant in
    let k = c.in-Some.stage in
    let last = found_last (λ j. has_after j c.args.mask.now) 1 c.loop-stage.below k c.last_mover.result c.last_mover.ensures c.in-Some.is in
    let below = last.1 in let high = inv.high in let len = inv.len in
    subst (λ (o : Option (Sequence g.row.T.Denot)). ComesAfter c.args.event o)
    (sym (still_held c.args.span c.args.event c.args.mask.now c.args.table.now k c.loop-stage.below c.loop-stage.table last.0 last.1 (omega arith) inv.slots))
    (c.requires.later (k - 1))

pub add_gone-requires : goal.add_gone-requires
add_gone-requires g c =
    let many = as_many (option_to_list c.advance-out.result.ceased) (tags_of c.advance-out.new.self) (tags_of c.loop-stage.table) c.advance-out.ensures.ceased in
    let room = c.loop-stage.invariant.still_room in
    omega arith

pub loop-stage-preserved : goal.loop-stage-preserved
loop-stage-preserved g c =
    let inv = c.loop-stage.invariant in
    let old = c.args.table.now in
    let mask = c.args.mask.now in
    let table = c.loop-stage.table in
    let k = c.in-Some.stage in
    let last = found_last (λ j. has_after j mask) 1 c.loop-stage.below k c.last_mover.result c.last_mover.ensures c.in-Some.is in
    let from = last.0 in let below = last.1 in let high = inv.high in let len = inv.len in
    let within : k ≤ length table = omega arith in
    let many = as_many (option_to_list c.advance-out.result.ceased) (tags_of c.advance-out.new.self) (tags_of table) c.advance-out.ensures.ceased in
    let room = inv.still_room in
    let grown = c.add_gone.ensures.room in
    let longer = c.add_gone.ensures.len in
    let before = inv.room in
    let steps = inv.probes in
    let one = c.advance-out.ensures.probe in
    let counted = counts_one c.args.span c.args.event mask old k c.loop-stage.below last.1 last.2 last.3 in
    let after_len : length c.advance-out.new.self ≡ length table =
    ap length c.advance-out.ensures.slots ∙ length-set (set table (k - 1) None) k _ ∙ length-set table (k - 1) None in
    record {
      low = last.0;
      high = omega arith;
      len = after_len ∙ inv.len;
      slots = λ j low most. step_to c.args.span c.args.event mask old k table c.advance-out.new.self c.loop-stage.below last.1 last.2 last.3 last.0 within inv.slots
          c.advance-out.ensures.slots j low (omega arith);
      answer = completes c.args.span c.args.event mask old k c.loop-stage.below c.advance-out.result.completed c.loop-stage.completed c.or-completed.result last.1 inv.high last.3
          (c.advance-out.ensures.completed
          ∙ ap (λ (n : ℕ). cond (k == n) (chain_in (went_on c.args.span c.args.event (get_or table (k - 1) None))) None) inv.len
          ∙ ap (λ (o : Option (List OrderKey)). cond (k == length old) o None)
          (moved_is c.args.span c.args.event mask old k table c.advance-out.new.self c.loop-stage.below last.1 last.2 last.3 last.0 within inv.slots c.advance-out.ensures.slots))
          inv.answer (c.or-completed.ensures ∙ or_is c.advance-out.result.completed c.loop-stage.completed);
      tags = goes_over c.loop-stage.gone.items (option_to_list c.advance-out.result.ceased) (tags_of c.advance-out.new.self) (tags_of table) _ c.add_gone.new.gone.items
          c.advance-out.ensures.ceased c.add_gone.ensures.items inv.tags;
      room = omega arith;
      still_room = omega arith;
      probes = omega arith;
    }

pub returns-clause-slots : goal.returns-clause-slots
returns-clause-slots g c = λ k low most.
    let inv = c.loop-stage.invariant in let len = inv.len in
    let none = found_none (λ j. has_after j c.args.mask.now) 1 c.loop-stage.below c.last_mover.result c.last_mover.ensures c.in_default.is in
    inv.slots k low (omega arith) ∙ at_end c.args.span c.args.event c.args.mask.now c.args.table.now c.loop-stage.below k none inv.low low

pub returns-clause-answer : goal.returns-clause-answer
returns-clause-answer g c =
    let inv = c.loop-stage.invariant in
    let none = found_none (λ j. has_after j c.args.mask.now) 1 c.loop-stage.below c.last_mover.result c.last_mover.ensures c.in_default.is in
    inv.answer ∙ completed_at_end c.args.span c.args.event c.args.mask.now c.args.table.now c.loop-stage.below inv.low inv.high none

pub returns-clause-probes : goal.returns-clause-probes
returns-clause-probes g c =
    let inv = c.loop-stage.invariant in
    let none = found_none (λ j. has_after j c.args.mask.now) 1 c.loop-stage.below c.last_mover.result c.last_mover.ensures c.in_default.is in
    subst (λ (n : ℕ). c.loop-stage.steps + n ≤ c.args.steps.now + stages_in c.args.mask.now (suc (length c.args.table.now)))
    (counts_none c.args.span c.args.event c.args.mask.now c.args.table.now c.loop-stage.below inv.low none) inv.probes
