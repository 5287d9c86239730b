-- What is known of a bench of lanes and parts in lists: the one state that a lane or part may have is its own.
use Rattle.std.specs.Prelude.{ℕ, List, Option, length, slice_get}
use Rattle.eql_values.specs.Accepted.{Reads}
use Rattle.eql_conductor.specs.Benches.{Known}
use Rattle.eql_conductor.specs.Lists.{HasLane, HasPart, PoolView, rules_in, set_in}
use Rattle.eql_replay.specs.declared.noted.Noted.{Noted}
use Rattle.eql_replay.specs.Noting.{fails_in, lane_notes_in, part_notes_in}

-- lanes and parts, how many of the lists of others were played, and what was played by the caller
pub record BenchView (S L : Type 0) : Type 0 where
  pub pool : PoolView S L
  pub calls : ℕ
  pub notes : List Noted

-- what is known of lanes and parts, by the texts of the lanes and by what was played on them: `known_in` where that is nothing
abbrev pub known_of : {S L : Type 0} → (L → Reads) → (text : ℕ → Option (List ℕ)) → PoolView S L → List Noted → Known
known_of read_of text pool notes = record {
  lanes = length pool.lanes;
  parts = length pool.parts;
  set = λ s. set_in read_of (text s) (slice_get pool.lanes s);
  rules = λ p. rules_in (slice_get pool.parts p);
  lane = HasLane pool.lanes;
  part = HasPart pool.parts;
  lane_notes = λ s. lane_notes_in s notes;
  part_notes = λ p. part_notes_in p notes;
  failed = λ s. fails_in s notes;
  worn = 0;
}

abbrev pub bench_known : {S L : Type 0} → (L → Reads) → (text : ℕ → Option (List ℕ)) → BenchView S L → Known
bench_known read_of text b = known_of read_of text b.pool b.notes
