use Rattle.std.proofs.Common.{◌+◌, ◌-◌, length, None, ap, ◌∙◌, arith}
use Rattle.std.specs.Option.{option_to_list}
use Rattle.eql_auto.specs.Machine.{tags_of}
use Rattle.eql_auto.specs.Moves.{emptied_slot}
use Rattle.eql_auto.proofs.Sweeping.{length-swept, swept_one, swept_all}
use Rattle.eql_auto.proofs.Tags.{goes_over, as_many}
use Rattle.eql_auto.proofs.moves.drop_from_slots.Goals as goal

pub empty-ceased-requires-clause-to : goal.empty-ceased-requires-clause-to
empty-ceased-requires-clause-to g c =
    let same = ap length c.loop-place.invariant.slots ∙ length-swept (emptied_slot c.args.which) None c.loop-place.place c.args.table.now in
    let count = c.len-count.ensures in
    let below = c.loop-place-test.true in
    omega arith

pub add_gone-requires : goal.add_gone-requires
add_gone-requires g c =
    let many = as_many (option_to_list c.empty-ceased.result) (tags_of c.empty-ceased.new.self) (tags_of c.loop-place.table) c.empty-ceased.ensures.ceased in
    let room = c.loop-place.invariant.still_room in
    omega arith

pub loop-place-preserved : goal.loop-place-preserved
loop-place-preserved g c =
    let many = as_many (option_to_list c.empty-ceased.result) (tags_of c.empty-ceased.new.self) (tags_of c.loop-place.table) c.empty-ceased.ensures.ceased in
    let room = c.loop-place.invariant.still_room in
    let grown = c.add_gone.ensures.room in
    let longer = c.add_gone.ensures.len in
    let before = c.loop-place.invariant.room in
    let steps = c.loop-place.invariant.probes in
    let one = c.empty-ceased.ensures.probe in
    let count = c.len-count.ensures in
    let below = c.loop-place-test.true in
    record {
      slots = swept_one (emptied_slot c.args.which) None c.loop-place.place (c.loop-place.place + 1 - 1) c.loop-place.table c.empty-ceased.new.self c.args.table.now
          (omega arith) (omega arith) c.loop-place.invariant.slots c.empty-ceased.ensures.slots;
      tags = goes_over c.loop-place.gone.items (option_to_list c.empty-ceased.result) (tags_of c.empty-ceased.new.self) (tags_of c.loop-place.table) _ c.add_gone.new.gone.items
          c.empty-ceased.ensures.ceased c.add_gone.ensures.items c.loop-place.invariant.tags;
      room = omega arith;
      still_room = omega arith;
      probes = omega arith;
    }

pub returns-clause-slots : goal.returns-clause-slots
returns-clause-slots g c =
    let count = c.len-count.ensures in
    let past = c.loop-place-test.false in
    let within = c.loop-place.auto.place-end in
    swept_all (emptied_slot c.args.which) None c.loop-place.place c.loop-place.table c.args.table.now (omega arith) c.loop-place.invariant.slots
