-- Laws of the places that a cut of texts has.
use Rattle.std.specs.Prelude.{◌≡◌, ◌↔◌, ℕ, ℤ, List, Some, map, All, Contains, IsTrue}
use Rattle.eql_values.specs.declared.order.Mark.TheVariants.{At}
use Rattle.eql_values.specs.declared.order.OrderKey.{OrderKey}
use Rattle.eql_values.specs.Accepted.{Reads}
use Rattle.eql_values.specs.Marks.{is_safe}
use Rattle.eql_laws.specs.Belows.{IsReading}
use Rattle.eql_laws.specs.Counting.{front}
use Rattle.eql_laws.specs.Fitting.{Run}
use Rattle.eql_laws.specs.Places.{ReadTo, whole, ArePlaces, lows_from}
use Rattle.eql_cut.specs.declared.cut.Cut.{Cut}
use Rattle.eql_cut.specs.Lifting.{IsPlacedBy}
use Rattle.eql_cut.specs.Placing.{NamesLine, orders_in, IsUnplaced, listed_place, lifted_cut}
use Rattle.eql_cut.specs.Placed.{place_in_texts, cut_at_places, cut_without_places, IsCutOf, HasLine, ShardHasLine, with_places, WereNoted, EachWasNoted}

-- each event of a cut of texts, be it of a lane, of a pending sequence or of a match that a pipe keeps, has the place of its line
abbrev pub EventsHavePlaces : Type 0
EventsHavePlaces = (run : Run) (reads : Reads) (t : ℤ) (shards : List ReadTo) (cut : Cut) → IsReading reads → IsCutOf run reads t shards cut
    → IsPlacedBy (place_in_texts (map whole shards)) cut

-- so a cut of texts that has lost its places, and nothing else, is had again by those of the texts
abbrev pub PlacedIsBack : Type 0
PlacedIsBack = (run : Run) (reads : Reads) (t : ℤ) (shards : List ReadTo) (cut : Cut) → IsReading reads → IsCutOf run reads t shards cut
    → cut_at_places (map whole shards) (cut_without_places cut) ≡ cut

-- wanted lines of a text, each with its place, are so noted, where those that the cut names are among them
abbrev pub WantedWereNoted : Type 0
WantedWereNoted = (cut : Cut) (shard : ℕ) (text wanted : List ℕ) → All (HasLine text) wanted → ((line : ℕ) → NamesLine cut shard line → Contains wanted line)
    → WereNoted cut shard text (with_places text wanted)

-- what was noted while shards were read up to places sets the places of the whole texts, for any cut
abbrev pub NotedIsPlaced : Type 0
NotedIsPlaced = (shards : List ReadTo) (cut : Cut) (lists : List (List (ℕ × ℕ))) → EachWasNoted cut 0 (map front shards) lists
    → lifted_cut (listed_place lists) cut ≡ cut_at_places (map whole shards) cut

-- so by what was noted a cut of texts that has lost its places is had again
abbrev pub NotedIsBack : Type 0
NotedIsBack = (run : Run) (reads : Reads) (t : ℤ) (shards : List ReadTo) (cut : Cut) (lists : List (List (ℕ × ℕ))) → IsReading reads
    → IsCutOf run reads t shards cut → EachWasNoted (cut_without_places cut) 0 (map front shards) lists → lifted_cut (listed_place lists) (cut_without_places cut) ≡ cut

-- each line that a cut of texts at a safe time names stands before the places up to which the shards were read
abbrev pub NamedWereRead : Type 0
NamedWereRead = (run : Run) (reads : Reads) (t : ℤ) (shards : List ReadTo) (cut : Cut) → IsReading reads → ArePlaces shards
    → IsTrue (is_safe (At t) (lows_from reads (Some run.slack) 0 shards)) → IsCutOf run reads t shards cut
    → (shard line : ℕ) → NamesLine cut shard line → ShardHasLine (map front shards) shard line

-- a cut names the same lines, whatever its places are
abbrev pub NamesStay : Type 0
NamesStay = (place : ℕ → ℕ → ℕ) (cut : Cut) (shard line : ℕ) → NamesLine (lifted_cut place cut) shard line ↔ NamesLine cut shard line

-- a cut without places is what the first format keeps of it once it has been placed
abbrev pub UnplacedIsBack : Type 0
UnplacedIsBack = (texts : List (List ℕ)) (cut : Cut) → IsUnplaced (orders_in cut) → cut_without_places (cut_at_places texts cut) ≡ cut

-- each event of a cut stands at a line that the cut names
abbrev pub EventsAreNamed : Type 0
EventsAreNamed = (cut : Cut) → All (λ (o : OrderKey). NamesLine cut o.shard o.line) (orders_in cut)
