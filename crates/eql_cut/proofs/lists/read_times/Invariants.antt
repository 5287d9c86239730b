use Rattle.std.proofs.Common.{◌≡◌, ◌-◌}
use Rattle.eql_cut.specs.Formats.{times}
use Rattle.eql_cut.proofs.Times.{with_front}
use Rattle.eql_cut.proofs.lists.read_times.Given as goal

abbrev pub invariant-loop-i : goal.invariant-loop-i
invariant-loop-i g l =
    with_front l.items.items (times (g.T.Coded.format l.of).read (l.count - l.i) l.from.left.now) ≡ times (g.T.Coded.format l.of).read l.count l.fn.from.left.now
