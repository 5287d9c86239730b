use Rattle.std.proofs.Common.{length, refl}
use Rattle.std.proofs.lemmas.Option.{slice_get_read}
use Rattle.eql_replay.proofs.pool.play_lane.Goals as goal

pub returns : goal.returns
returns g c = record {
  before = c.index_mut.result.now;
  after = c.play.new.self;
  was = slice_get_read c.args.lanes.now.items (length c.args.lanes.now.items) c.args.s c.index_mut.result.now refl c.requires.place c.index_mut.ensures.value;
  is = refl;
  plays = c.play.ensures.plays;
  same = c.play.ensures.same;
  unfailing = c.play.ensures.unfailing;
}
