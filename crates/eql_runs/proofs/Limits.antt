-- A run that can be done has no shard beyond a limit.
use Rattle.std.proofs.Common.{◌≡◌, ◌<◌, ◌+◌, ℕ, suc, List, [], ◌∷◌, ◌++◌, Option, Some, None, refl, ap, arith, ◌∙◌, subst, length}
use Rattle.std.specs.Prelude.{All, IsTrue, drop}
use Rattle.std.specs.List.{slice_get}
use Rattle.std.proofs.lemmas.Option.{slice_get_within, get_or_from_slice_get}
use Rattle.eql_values.specs.declared.cut.LaneCut.{LaneCut}
use Rattle.eql_values.specs.Lines.{Line, lines_of, lines_in, numbered_lines}
use Rattle.eql_laws.specs.Counting.{greatest_lines}
use Rattle.eql_laws.specs.Places.{LinesGoOn, ReadTo, lines_after, whole}
use Rattle.eql_cut.specs.declared.cut.Cut.{Cut}
use Rattle.eql_words.specs.declared.commands.Command.TheVariants as command
use Rattle.eql_words.specs.declared.commands.Find.{Find}
use Rattle.eql_words.specs.Commands.{command_of}
use Rattle.eql_runs.specs.Files.{Files, IsWithin}
use Rattle.eql_runs.specs.Runs.{AreWithin, CanRun, Finds, GoesBeyond, IsBeyond, SearchesBeyond, ShardLimit, Runs, bytes_before, lane_on, lines_before, many_bytes, many_lines, shard_of}
use Rattle.eql_runs.specs.Searches.{Search}
use Rattle.eql_runs.specs.Starts.{BeginsWith, IsCutOf, OnDisk, a_cut, bad_head, bad_text, not_ours, meant_by, nothing_kept, start_for}
use Rattle.eql_runs.proofs.CutRefusing.{ShardAt, drop_front, own_shard}
use Rattle.eql_runs.proofs.Listing.{one_search}
use Rattle.eql_runs.proofs.Reading.{QueryLaws, one_texts}
use Rattle.eql_runs.proofs.Refusing.{one_command}

within_at : (texts : List (List ℕ)) (shard : ℕ) (text : List ℕ) → All IsWithin texts
    → slice_get texts shard ≡ Some text → IsWithin text
within_at texts shard text all is =
    subst IsWithin (get_or_from_slice_get texts shard text text is)
    (all shard text (slice_get_within texts shard text is))

numbered_length : (number at : ℕ) (lines : List (List ℕ)) → length (numbered_lines number at lines) ≡ length lines
numbered_length number at [] = refl
numbered_length number at (line ∷ lines) = ap suc (numbered_length (number + 1) (at + length line + 1) lines)

joined_length : (a b : List Line) → length (a ++ b) ≡ length a + length b
joined_length [] b = omega arith
joined_length (x ∷ a) b = let e = joined_length a b in omega (arith, e)

-- the lines before a place and those behind it are all lines
lines_join : LinesGoOn → (r : ReadTo) → IsTrue (Rattle.eql_laws.specs.Places.is_line_end r.first r.rest)
    → length (lines_of (whole r)) ≡ length (lines_of r.first) + length (lines_of r.rest)
lines_join law r h =
    let e : length (lines_in (whole r)) ≡ length (lines_in r.first) + length (lines_after r.first r.rest) =
    ap length (law r.first r.rest h) ∙ joined_length (lines_in r.first) (lines_after r.first r.rest) in
    let a : length (lines_in (whole r)) ≡ length (lines_of (whole r)) = numbered_length 1 0 (lines_of (whole r)) in
    let b : length (lines_in r.first) ≡ length (lines_of r.first) = numbered_length 1 0 (lines_of r.first) in
    let c : length (lines_after r.first r.rest) ≡ length (lines_of r.rest) =
    numbered_length (1 + length (lines_of r.first)) (length r.first) (lines_of r.rest) in
    omega (arith, e, a, b, c)

shard_lines : LinesGoOn → (shards : List ReadTo) (shard : ℕ) (text : List ℕ) (lane : LaneCut) → ShardAt shards shard text lane
    → lane.counts.lines + length (lines_of (drop lane.offset text)) ≡ length (lines_of text)
shard_lines law shards shard text lane h =
    let d : drop lane.offset text ≡ h.r.rest = ap (drop lane.offset) h.whole_is ∙ ap (λ (n : ℕ). drop n (whole h.r)) h.offset ∙ drop_front h.r.first h.r.rest in
    let behind = ap (λ (x : List ℕ). length (lines_of x)) d in
    let all = lines_join law h.r h.is_place.line_end in
    let whole_text = ap (λ (x : List ℕ). length (lines_of x)) h.whole_is in
    let before = h.lines in
    omega (arith, behind, all, whole_text, before)

drop_none : (text : List ℕ) → drop 0 text ≡ text
drop_none [] = refl
drop_none (x ∷ text) = refl

-- a shard of a run that begins so is beyond no limit where its text is within them
module _ (law : LinesGoOn) (search : Search) (texts : List (List ℕ)) (all : All IsWithin texts) where
  fresh_lines : (shard : ℕ) (text : List ℕ) → slice_get texts shard ≡ Some text → greatest_lines < 0 + length (lines_of (drop 0 text)) → ⊥
  fresh_lines shard text is more =
      let e = ap (λ (x : List ℕ). length (lines_of x)) (drop_none text) in
      omega (arith, e, more, (within_at texts shard text all is).lines)

  cut_lines : (format generation : ℕ) (cut : Cut) → IsCutOf search cut.head.slack texts (meant_by format texts cut) → (shard : ℕ) (text : List ℕ)
      → slice_get texts shard ≡ Some text → (o : Option LaneCut) → slice_get cut.lanes shard ≡ o
      → greatest_lines < lines_before o + length (lines_of (drop (bytes_before o) text)) → ⊥
  cut_lines format generation cut is shard text there None none more = fresh_lines shard text there more
  cut_lines format generation cut is shard text there (Some lane) has more =
      let e = shard_lines law is.shards shard text lane (own_shard search texts format cut is shard text lane there has) in
      omega (arith, e, more, (within_at texts shard text all there).lines)

  pub not_beyond : (on : OnDisk) (limit : ShardLimit) → BeginsWith search texts on → IsBeyond texts on limit → ⊥
  not_beyond on (many_bytes shard) begins b = omega (arith, b.2, (within_at texts shard b.0 all b.1).bytes)
  not_beyond nothing_kept (many_lines shard) begins b = fresh_lines shard b.0 b.1 b.2
  not_beyond (bad_head area) (many_lines shard) begins b = begins
  not_beyond (bad_text area) (many_lines shard) begins b = begins
  not_beyond (not_ours area) (many_lines shard) begins b = begins
  not_beyond (a_cut format generation cut) (many_lines shard) begins b =
      cut_lines format generation cut begins.is_cut shard b.0 b.1 (slice_get cut.lanes shard) refl b.2

beyond_or_finds : (laws : QueryLaws) (law : LinesGoOn) (find : Find) (files : Files) (on : OnDisk) (bytes report : List ℕ) (limit : ShardLimit)
    → Finds find files on bytes report → SearchesBeyond find files on limit
    → ((search : Search) (texts : List (List ℕ)) → Rattle.eql_runs.specs.Runs.Searches find files search texts → All IsWithin texts) → ⊥
beyond_or_finds laws law find files on bytes report limit a b within =
    let s : a.search ≡ b.search = one_search laws find files a.search b.search a.texts b.texts a.searches b.searches in
    let t : a.texts ≡ b.texts = one_texts find.shards files a.texts b.texts a.searches.there b.searches.there in
    let begins = subst (λ (x : Search). BeginsWith x b.texts (start_for find on)) s
    (subst (λ (x : List (List ℕ)). BeginsWith a.search x (start_for find on)) t a.begins) in
    not_beyond law b.search b.texts (within b.search b.texts b.searches) (start_for find on) limit begins b.beyond

pub ready_or_beyond : (laws : QueryLaws) (law : LinesGoOn) (words : List (List ℕ)) (files : Files) (on : OnDisk) → CanRun words files on
    → (find : Find) (limit : ShardLimit) → command_of words ≡ Some (command.Find find) → SearchesBeyond find files on limit → ⊥
ready_or_beyond laws law words files on can find limit is beyond =
    let w = can.writes.2 in
    let e = one_command words w.command (command.Find find) w.is_command is in
    beyond_or_finds laws law find files on can.writes.0 can.writes.1 limit
    (subst (λ c. Runs c files on can.writes.0 can.writes.1) e w.runs) beyond (λ search texts searches. can.within find search texts is searches)
