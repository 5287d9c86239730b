-- Worked examples of what a cut keeps, computed. A line is an event at as many nanoseconds as its first byte says, and its second byte, where there
-- is one, is the mask of its one route, which has no key values; a line that begins with byte 1 is rejected.
use Rattle.std.specs.Prelude.{◌≡◌, ◌==◌, if◌then◌else◌, ℕ, pos, false, List, [], ◌∷◌, Some, None, refl}
use Rattle.eql_digest.specs.Digests.{start, with_bytes}
use Rattle.eql_values.specs.declared.order.OrderKey.{OrderKey}
use Rattle.eql_values.specs.declared.order.Mark.TheVariants.{At, End}
use Rattle.eql_values.specs.declared.item.Route.{Route}
use Rattle.eql_values.specs.declared.cut.Pipe.TheVariants as pipe
use Rattle.eql_values.specs.declared.cut.PipeState.TheVariants as state
use Rattle.eql_values.specs.declared.cut.Reason.TheVariants.{NotJson}
use Rattle.eql_values.specs.declared.found.Match.{Match}
use Rattle.eql_values.specs.declared.found.Numbered.{Numbered}
use Rattle.eql_values.specs.declared.reader.LineGot.TheVariants as got
use Rattle.eql_values.specs.Accepted.{Reads}
use Rattle.eql_laws.specs.Books.{book_of, completing}
use Rattle.eql_laws.specs.Counting.{counts_of, counts_from}
use Rattle.eql_laws.specs.Fitting.{Run, cut_of}
use Rattle.eql_laws.specs.Lanes.{lane_at, least_of}
use Rattle.eql_laws.specs.Places.{ReadTo, lines_after}

abbrev order_at : ℕ → ℕ → ℕ → ℕ → OrderKey
order_at ts shard line at = record { ts = pos ts; tie = None; shard = shard; line = line; at = at }

abbrev route : ℕ → Route
route mask = record { key = []; mask = record { low = mask; high = 0 }; until = false }

abbrev routes_of : List ℕ → List Route
routes_of [] = []
routes_of (mask ∷ bytes) = route mask ∷ []

abbrev by_bytes : Reads
by_bytes shard line [] = got.Blank
by_bytes shard line (ts ∷ bytes) = if ts == 1 then got.Bad NotJson else got.Item (record { order = order_at ts shard line 0; routes = routes_of bytes })

-- six lines: the first and the last are accepted, with a slack of 5 the second is late, the third is blank, and the two others are rejected
abbrev six : List ℕ
six = 20 ∷ 10 ∷ 13 ∷ 10 ∷ 10 ∷ 1 ∷ 10 ∷ 1 ∷ 2 ∷ 10 ∷ 16 ∷ []

six_lines : counts_of by_bytes (Some (pos 5)) 0 six ≡ record { lines = 6; accepted = 2; late = 1; rejected = 2; first = Some (record { line = 4; reason = NotJson }) }
six_lines = refl

-- the same six, read on from the second line's end with 20 as the greatest time
six_read_on : counts_from by_bytes (Some (pos 5)) 0 (Some (pos 20)) (record { lines = 2; accepted = 1; late = 1; rejected = 0; first = None })
    (lines_after (20 ∷ 10 ∷ 13 ∷ 10 ∷ []) (10 ∷ 1 ∷ 10 ∷ 1 ∷ 2 ∷ 10 ∷ 16 ∷ []))
    ≡ record { lines = 6; accepted = 2; late = 1; rejected = 2; first = Some (record { line = 4; reason = NotJson }) }
six_read_on = refl

-- of a shard that was read up to its fifth line, which begins at byte 8, a cut at 16 keeps the events of the first and the fourth line; the second's is below 16
four_lines_read : lane_at by_bytes (Some (pos 5)) 2 (At (pos 16))
    (record { first = 17 ∷ 10 ∷ 14 ∷ 10 ∷ 1 ∷ 10 ∷ 21 ∷ 10 ∷ []; rest = 22 ∷ 10 ∷ 23 ∷ []; closed = false })
    ≡ record {
      offset = 8;
      digest = with_bytes start (17 ∷ 10 ∷ 14 ∷ 10 ∷ 1 ∷ 10 ∷ 21 ∷ 10 ∷ []);
      closed = false;
      best = Some (pos 21);
      counts = record { lines = 4; accepted = 3; late = 0; rejected = 1; first = Some (record { line = 3; reason = NotJson }) };
      items = record { order = order_at 17 2 1 0; routes = [] } ∷ record { order = order_at 21 2 4 6; routes = [] } ∷ [];
    }
four_lines_read = refl

least_of_three : least_of (At (pos 15) ∷ At (pos 7) ∷ End ∷ []) ≡ At (pos 7)
least_of_three = refl

abbrev a_match : Match
a_match = record { key = []; chain = [] }

abbrev five : List Match
five = a_match ∷ a_match ∷ a_match ∷ a_match ∷ a_match ∷ []

abbrev nth : ℕ → Numbered
nth number = record { number = number; found = a_match }

-- of five matches a head of four lets four through, a tail of three keeps the last three of these, and a head after the tail has seen nothing
head_tail_head : book_of (pipe.Head 4 ∷ pipe.Tail 3 ∷ pipe.Head 1 ∷ []) five
    ≡ record { found = 5; listed = 0; pipes = state.Head 4 ∷ state.Tail (nth 2 ∷ nth 3 ∷ nth 4 ∷ []) ∷ state.Head 0 ∷ [] }
head_tail_head = refl

-- with heads alone, three of the five and two of these: two are listed
two_heads : book_of (pipe.Head 3 ∷ pipe.Head 2 ∷ []) five ≡ record { found = 5; listed = 2; pipes = state.Head 3 ∷ state.Head 2 ∷ [] }
two_heads = refl

-- of routes with the stages 1, 2, and both, the last two fit the last of two stages
two_complete : completing 2 (route 1 ∷ route 2 ∷ route 3 ∷ []) ≡ route 2 ∷ route 3 ∷ []
two_complete = refl

-- a run of two stages within 10 nanoseconds, with a slack of 5, and two shards: the first was read up to its end, though that isn't known yet, the second up to its third line
abbrev two_stages : Run
two_stages = record { stages = 2; span = Some (pos 10); values = 0; pipes = pipe.Head 1 ∷ pipe.Tail 1 ∷ []; slack = pos 5 }

abbrev two_shards : List ReadTo
two_shards =
    record { first = 21 ∷ 1 ∷ 10 ∷ 23 ∷ 2 ∷ 10 ∷ 24 ∷ 1 ∷ 10 ∷ 30 ∷ 1 ∷ 10 ∷ []; rest = []; closed = false }
    ∷ record { first = 22 ∷ 1 ∷ 10 ∷ 31 ∷ 2 ∷ 10 ∷ []; rest = 40 ∷ 1 ∷ 10 ∷ []; closed = false } ∷ []

-- at 25, the least of their lows, the events of 22 and 23 are the one match, that of 24 is pending, and those of 30 and 31 are held back
two_shards_cut : cut_of two_stages by_bytes (pos 25) two_shards
    ≡ record {
      time = pos 25;
      lanes =
          record {
            offset = 12;
            digest = with_bytes start (21 ∷ 1 ∷ 10 ∷ 23 ∷ 2 ∷ 10 ∷ 24 ∷ 1 ∷ 10 ∷ 30 ∷ 1 ∷ 10 ∷ []);
            closed = false;
            best = Some (pos 30);
            counts = record { lines = 4; accepted = 4; late = 0; rejected = 0; first = None };
            items = record { order = order_at 30 0 4 9; routes = route 1 ∷ [] } ∷ [];
          }
          ∷ record {
            offset = 6;
            digest = with_bytes start (22 ∷ 1 ∷ 10 ∷ 31 ∷ 2 ∷ 10 ∷ []);
            closed = false;
            best = Some (pos 31);
            counts = record { lines = 2; accepted = 2; late = 0; rejected = 0; first = None };
            items = record { order = order_at 31 1 2 3; routes = route 2 ∷ [] } ∷ [];
          } ∷ [];
      holders = record { key = []; stage = 1; chain = order_at 24 0 3 6 ∷ [] } ∷ [];
      book = record {
        found = 1;
        listed = 0;
        pipes = state.Head 1 ∷ state.Tail (record { number = 1; found = record { key = []; chain = order_at 22 1 1 0 ∷ order_at 23 0 2 3 ∷ [] } } ∷ []) ∷ [];
      };
    }
two_shards_cut = refl
