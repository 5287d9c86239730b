use Rattle.std.proofs.Common.{refl}
use Rattle.eql_outside.proofs.Writing.{wrote-more, wrote-kept}
use Rattle.eql_outside.proofs.sink.stream.write_on.Goals as goal
use Rattle.eql_outside.proofs.sink.stream.write_on.Goals.{in-Ok, in-Err+else-ne}

pub loop-preserved : goal.loop-preserved
loop-preserved g c =
    elim c.match-write.branch [
      | in-Ok w ↦ rw w.at-is (wrote-more c.loop.at w.in-Ok.n c.args.bytes.now _ _ _ _ c.loop.invariant refl w.in-Ok.ensures.bound w.in-Ok.ensures.bytes)
      | in-Err+else-ne w ↦ rw w.at-is (wrote-kept c.loop.at c.args.bytes.now _ _ _ c.loop.invariant w.in-Err.ensures.bytes)
    ]
