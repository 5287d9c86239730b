-- The cuts that have a text: those in the orders and counts that the text of a cut has.
use Rattle.std.specs.Prelude.{IsTrue}
use Rattle.eql_laws.specs.Fitting.{Kept, StandsInOrder}
use Rattle.eql_cut.specs.declared.cut.Cut.{Cut}
use Rattle.eql_cut.specs.CutValues.{names_ascend}

-- what the cut keeps beside its head
abbrev pub kept_by : Cut → Kept
kept_by cut = record { time = cut.mark; lanes = cut.lanes; holders = cut.holders; book = cut.book }

-- the names of the mapping ascend strictly, and what the cut keeps stands in order: a lane for each shard, the events of a lane by their places,
-- the routes of each by key, pending sequences by key and stage, each with as many events as its stage, what pipes keep by number, and the
-- events of each sequence
pub record IsCut (cut : Cut) : Type 0 where
  pub names : IsTrue (names_ascend cut.head.mapping)
  pub stands : StandsInOrder cut.head.shards (kept_by cut)
