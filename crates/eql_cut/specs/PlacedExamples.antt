-- Worked examples of places, computed. A line is an event at as many nanoseconds as its first byte says, with the stages of the mask that its
-- second byte is; a line of no bytes is blank.
use Rattle.std.specs.Prelude.{◌≡◌, ℕ, pos, false, List, [], ◌∷◌, Some, None, map, refl}
use Rattle.eql_values.specs.declared.order.OrderKey.{OrderKey}
use Rattle.eql_values.specs.declared.cut.Pipe.TheVariants as pipe
use Rattle.eql_values.specs.declared.reader.LineGot.TheVariants as got
use Rattle.eql_values.specs.Accepted.{Reads}
use Rattle.eql_laws.specs.Fitting.{Run, Kept, cut_of}
use Rattle.eql_laws.specs.Places.{ReadTo, whole}
use Rattle.eql_cut.specs.declared.cut.Cut.{Cut}
use Rattle.eql_cut.specs.declared.cut.CutHead.{CutHead}
use Rattle.eql_cut.specs.Placing.{orders_in, listed_place, lifted_cut}
use Rattle.eql_cut.specs.Placed.{place_in_texts, cut_at_places, cut_without_places}

abbrev by_bytes : Reads
by_bytes shard line [] = got.Blank
by_bytes shard line (ts ∷ bytes) =
    got.Item (record {
      order = record { ts = pos ts; tie = None; shard = shard; line = line; at = 0 };
      routes = map (λ (mask : ℕ). record { key = []; mask = record { low = mask; high = 0 }; until = false }) bytes;
    })

-- the first shard, with a blank second line, was read up to its end, the second up to its third line
abbrev two_shards : List ReadTo
two_shards =
    record { first = 21 ∷ 1 ∷ 10 ∷ 10 ∷ 23 ∷ 2 ∷ 10 ∷ 24 ∷ 1 ∷ 10 ∷ 30 ∷ 1 ∷ 10 ∷ []; rest = []; closed = false }
    ∷ record { first = 22 ∷ 1 ∷ 10 ∷ 31 ∷ 2 ∷ 10 ∷ []; rest = 40 ∷ 1 ∷ 10 ∷ []; closed = false } ∷ []

abbrev two_texts : List (List ℕ)
two_texts = map whole two_shards

-- the third line of the first shard begins behind four bytes, that of the second behind six; the second has no fourth, and there is no third shard
third_lines : place_in_texts two_texts 0 3 ∷ place_in_texts two_texts 1 3 ∷ place_in_texts two_texts 1 4 ∷ place_in_texts two_texts 2 1 ∷ [] ≡ 4 ∷ 6 ∷ 0 ∷ 0 ∷ []
third_lines = refl

-- a run of two stages within 10 nanoseconds, with a slack of 5, that keeps the last match
abbrev two_stages : Run
two_stages = record { stages = 2; span = Some (pos 10); values = 0; pipes = pipe.Tail 1 ∷ []; slack = pos 5 }

abbrev with_head : CutHead → Kept → Cut
with_head head kept = record { head = head; mark = kept.time; lanes = kept.lanes; holders = kept.holders; book = kept.book }

-- the cut of these texts at 25, the least of the lows
abbrev at_25 : CutHead → Cut
at_25 head = with_head head (cut_of two_stages by_bytes (pos 25) two_shards)

abbrev stand : OrderKey → List ℕ
stand o = o.shard ∷ o.line ∷ o.at ∷ []

-- shard, line and place of its events: two held back, one pending, and the two of the kept match
stands : (head : CutHead) → map stand (orders_in (at_25 head)) ≡ (0 ∷ 5 ∷ 10 ∷ []) ∷ (1 ∷ 2 ∷ 3 ∷ []) ∷ (0 ∷ 4 ∷ 7 ∷ []) ∷ (1 ∷ 1 ∷ 0 ∷ []) ∷ (0 ∷ 3 ∷ 4 ∷ []) ∷ []
stands head = refl

-- the same as the first format keeps it
stands_unplaced : (head : CutHead) → map stand (orders_in (cut_without_places (at_25 head))) ≡ (0 ∷ 5 ∷ 0 ∷ []) ∷ (1 ∷ 2 ∷ 0 ∷ []) ∷ (0 ∷ 4 ∷ 0 ∷ []) ∷ (1 ∷ 1 ∷ 0 ∷ []) ∷ (0 ∷ 3 ∷ 0 ∷ []) ∷ []
stands_unplaced head = refl

is_back : (head : CutHead) → cut_at_places two_texts (cut_without_places (at_25 head)) ≡ at_25 head
is_back head = refl

-- lines and places that were noted of the two shards, the blank line's too
abbrev two_lists : List (List (ℕ × ℕ))
two_lists = ((2, 3) ∷ (3, 4) ∷ (4, 7) ∷ (5, 10) ∷ []) ∷ ((1, 0) ∷ (2, 3) ∷ []) ∷ []

by_lists : (head : CutHead) → lifted_cut (listed_place two_lists) (cut_without_places (at_25 head)) ≡ at_25 head
by_lists head = refl
