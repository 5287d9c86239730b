use Rattle.std.proofs.Common.{get_or}
use Rattle.std.proofs.lemmas.List.{get_or_default}
use Rattle.eql_replay.specs.declared.foreign.Foreign.{Foreign}
use Rattle.eql_replay.specs.declared.foreign.Foreign.TheVariants.{Feed}
use Rattle.eql_replay.proofs.Keeps.{next_fits, next_played}
use Rattle.eql_replay.proofs.pool.Pool.play_all.Goals as goal

pub play-requires : goal.play-requires
play-requires g c =
    let items = c.deref-foreign-items.result.now in let i = c.loop-foreign.foreign-index in let f : Foreign = get_or items i (Feed 0 0) in
    record {
      fits = next_fits g.S.Source.left g.S.Source.lent_as g.S.Source.fault_plan g.L.LineReader.read_of items i f c.args.self.now c.loop-foreign.self c.loop-foreign.invariant
          (rw (c.deref-foreign-items.ensures.value, c.items.ensures) c.requires.fit) c.loop-foreign-test.true (get_or_default items i (Feed 0 0) f c.loop-foreign-test.true);
    }

pub loop-foreign-preserved : goal.loop-foreign-preserved
loop-foreign-preserved g c =
    let items = c.deref-foreign-items.result.now in let i = c.loop-foreign.foreign-index in let f : Foreign = get_or items i (Feed 0 0) in
    next_played g.S.Source.left g.S.Source.lent_as g.S.Source.fault_plan g.L.LineReader.read_of items i f c.args.self.now c.loop-foreign.self c.play.new.self
    c.loop-foreign-test.true (get_or_default items i (Feed 0 0) f c.loop-foreign-test.true) c.loop-foreign.invariant c.play.ensures
