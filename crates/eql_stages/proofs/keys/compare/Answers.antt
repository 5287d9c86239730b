use Rattle.std.proofs.Common.{◌<◌, ◌≤◌, length, sym, ◌∙◌, arith}
use Rattle.eql_stages.proofs.Comparing.{other_ends, fields_end}
use Rattle.eql_stages.proofs.keys.compare.Goals as goal

pub returns-then-place-key : goal.returns-then-place-key
returns-then-place-key c =
    let over : length c.args.key.now ≤ c.loop-place.place = omega arith in
    let under : c.loop-place.place < length c.args.fields.now = omega arith in
    sym (c.loop-place.invariant.same ∙ other_ends c.args.slots.now c.args.fields.now c.args.key.now c.loop-place.place under over)

pub returns-then-fields-key : goal.returns-then-fields-key
returns-then-fields-key c =
    let over : length c.args.fields.now ≤ c.loop-place.place = omega arith in
    let left : c.loop-place.place < length c.args.key.now = omega arith in
    sym (c.loop-place.invariant.same ∙ fields_end c.args.slots.now c.args.fields.now c.args.key.now c.loop-place.place over left)
