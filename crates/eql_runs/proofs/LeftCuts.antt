-- A cut that a run puts is trusted and passes all tests of the next run.
use Rattle.std.proofs.Common.{◌≡◌, ℕ, List, Some, ap, sym, arith, ◌∙◌}
use Rattle.std.specs.Prelude.{take}
use Rattle.std.specs.List.{slice_get}
use Rattle.std.proofs.lemmas.Bool.{false≢true}
use Rattle.std.proofs.lemmas.Option.{same_Some}
use Rattle.eql_values.specs.declared.cut.LaneCut.{LaneCut}
use Rattle.eql_cut.specs.declared.cut.Cut.{Cut}
use Rattle.eql_cut.specs.Placing.{IsUnplaced, orders_in}
use Rattle.eql_runs.specs.CutRefusals.{CutRefusal, ShardRefuses, has_no_line, has_other_bytes, is_grown, is_short}
use Rattle.eql_runs.specs.Searches.{Search}
use Rattle.eql_runs.specs.Starts.{DigestTells, IsCutOf}
use Rattle.eql_runs.specs.Composing as law
use Rattle.eql_runs.proofs.CutRefusing.{ends_there, long_enough, own_bytes, own_shard}
use Rattle.eql_runs.proofs.OwnCuts.{OwnLaws, own_cut_fits}

module _ (search : Search) (texts : List (List ℕ)) (cut : Cut) (is : IsCutOf search cut.head.slack texts cut) where
  -- no shard is refused by a cut of its texts
  own_shard_stands : (shard : ℕ) (text : List ℕ) (r : CutRefusal) → slice_get texts shard ≡ Some text → ShardRefuses 4 cut shard text r → ⊥
  own_shard_stands shard text _ there (is_short lane has less) =
      let enough = long_enough is.shards shard text lane (own_shard search texts 4 cut is shard text lane there has) in
      omega (arith, less, enough)
  own_shard_stands shard text _ there (has_other_bytes lane has enough unlike) = unlike (own_bytes search texts 4 cut is shard text lane there has)
  own_shard_stands shard text _ there (has_no_line lane has first enough line lost) = omega (arith, first)
  own_shard_stands shard text _ there (is_grown lane has closed more bytes all) =
      let end = ends_there is.shards shard text lane (own_shard search texts 4 cut is shard text lane there has) closed in
      omega (arith, more, end)

  -- a text tells itself by its digest
  tells_itself : (s : ℕ) (lane : LaneCut) (this other : List ℕ) → slice_get cut.lanes s ≡ Some lane → slice_get texts s ≡ Some this
      → slice_get texts s ≡ Some other → DigestTells lane.offset this other
  tells_itself s lane this other has there also digests = ap (take lane.offset) (same_Some this other (sym there ∙ also))

pub left_is_trusted : OwnLaws → law.LeftIsTrusted
left_is_trusted laws search texts listed out out' kept kept' generation cut checked few within put =
    let is = put.is_cut in
    let unplaced : 4 ≡ 1 → IsUnplaced (orders_in cut) = λ first. absurd (omega (arith, first)) in (
      (λ head. record {
        by_digests = λ keeps. record { others = texts; is_cut = is; tells = tells_itself search texts cut is };
        without = λ none. absurd (false≢true (sym none));
      }),
      record {
        head = put.head;
        fits = own_cut_fits laws search texts 4 cut checked few within unplaced put.head.shards_are is;
        shards = λ s text r less there refused. own_shard_stands search texts cut is s text r there refused;
      },
    )
