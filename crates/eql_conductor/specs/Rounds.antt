-- What a round of the conductor does.
use Rattle.std.specs.Prelude.{◌≡◌, ◌≢◌, ◌⊎◌, ◌<◌, ◌≤◌, ℕ, ℤ, ◌≤ℤ◌, pos, true, List, Option, None, Some, length, Result, Err}
use Rattle.eql_values.specs.declared.item.Item.{Item}
use Rattle.eql_values.specs.declared.found.Match.{Match}
use Rattle.eql_values.specs.declared.found.Holder.{Holder}
use Rattle.eql_values.specs.declared.order.Mark.{Mark}
use Rattle.eql_values.specs.declared.order.Mark.TheVariants.{At}
use Rattle.eql_values.specs.Accepted.{Reads}
use Rattle.eql_values.specs.Matching.{matches}
use Rattle.eql_laws.specs.Belows.{IsMarkTime, between, greatest_slack}
use Rattle.eql_laws.specs.Lateness.{IsAtMost}
use Rattle.eql_outside.specs.Outside.{Rose}
use Rattle.eql_outside.specs.Unfailing.{IsUnfailing}
use Rattle.eql_outside.specs.Written.{WroteAll, WroteFront}
use Rattle.eql_outside.specs.declared.sink.Sink as sinks
use Rattle.eql_book.specs.Books.{BookState, book_after, let_out}
use Rattle.eql_book.specs.Listing.{listing}
use Rattle.eql_parts.specs.PartSteps.{Rules}
use Rattle.eql_conductor.specs.declared.stop.Stop.{Stop}
use Rattle.eql_conductor.specs.declared.stop.Stop.TheVariants as stop
use Rattle.eql_conductor.specs.Benches.{Known}
use Rattle.eql_conductor.specs.Going.{StopsBy, Went}
use Rattle.eql_conductor.specs.LaneRounds.{LanesAreAt}
use Rattle.eql_conductor.specs.PartRounds.{AreAtRest, pending_after}

-- there is a text for each lane, and all lanes have one reading and one slack
pub record ReadTexts (reads : Reads) (slack : Option ℤ) (texts : List (List ℕ)) (b : Known) : Type 0 where
  pub count : length texts ≡ b.lanes
  pub reads_are : (s : ℕ) → s < b.lanes → (b.set s).reads ≡ reads
  pub slack_is : (s : ℕ) → s < b.lanes → (b.set s).slack ≡ slack

-- the lanes have these texts, and what lies below a mark was handed out
pub record BenchIsOfTexts (reads : Reads) (slack : Option ℤ) (texts : List (List ℕ)) (mark : Mark) (b : Known) : Type 0 where
  pub read : ReadTexts reads slack texts b
  pub lanes : LanesAreAt (Some texts) mark b

-- the matches by events, from what is pending on
abbrev pub found_by : Rules → List Holder → List Item → List Match
found_by rules all items = matches rules.stages rules.span all items

-- matches were given to a book, and it wrote what came out
pub record Gave (more : List Match) (book then : BookState) (before now : Option (List ℕ)) : Type 0 where
  pub book_is : then ≡ book_after book more
  pub wrote : WroteAll (listing book.places (let_out book.pipes book.kept more)) before now

-- events were played up to a mark: the parts are at rest there, and the matches were given to the book
pub record PlaysTo (rules : Rules) (all : List Holder) (items : List Item) (mark : Mark) (new : Known) (book then : BookState) (before now : Option (List ℕ)) : Type 0 where
  pub parts : AreAtRest rules (pending_after rules all items) mark new
  pub gave : Gave (found_by rules all items) book then before now

-- from one mark on, all events below another were taken and played: of told texts these are those between the marks
pub record GoesTo (from to : Mark) (old new : Known) (book then : BookState) (before now : Option (List ℕ)) : Type 0 where
  pub later : IsAtMost from to
  pub lanes : (texts : Option (List (List ℕ))) → LanesAreAt texts from old → LanesAreAt texts to new
  pub items : List Item
  pub told : (reads : Reads) (slack : Option ℤ) (texts : List (List ℕ)) → BenchIsOfTexts reads slack texts from old → items ≡ between reads slack texts from to
  pub played : (rules : Rules) (all : List Holder) → AreAtRest rules all from old → PlaysTo rules all items to new book then before now

-- a counted round that stopped: where the book is whole, nothing was given to it; and a front was written of what was to come out
pub record RoundBreaks (last mark : Mark) (old : Known) (book then : BookState) (before now : Option (List ℕ)) : Type 0 where
  pub whole : then.whole ≡ true → then ≡ book
  pub told : (reads : Reads) (slack : Option ℤ) (texts : List (List ℕ)) (rules : Rules) (all : List Holder) → BenchIsOfTexts reads slack texts last old → AreAtRest rules all last old
      → WroteFront (listing book.places (let_out book.pipes book.kept (found_by rules all (between reads slack texts last mark)))) before now

-- a round that doesn't count: all is as it was but for what others do
pub record RoundRests (last : Mark) (old new : Known) (book then : BookState) (before now : Option (List ℕ)) : Type 0 where
  pub lanes : (texts : Option (List (List ℕ))) → LanesAreAt texts last old → LanesAreAt texts last new
  pub parts : (rules : Rules) (all : List Holder) → AreAtRest rules all last old → AreAtRest rules all last new
  pub book_is : then ≡ book
  pub wrote_is : now ≡ before

-- a round: it counts with a mark that is at least the last one, or doesn't
abbrev pub RoundIs : Mark → (old new : Known) → (book then : BookState) → (before now : Option (List ℕ)) → Option Mark → Type 0
RoundIs last old new book then before now None = RoundRests last old new book then before now
RoundIs last old new book then before now (Some mark) = GoesTo last mark old new book then before now

-- a mark's time is in the range of marks, where the slack is one that a run may have: 0 to 36,500 days
abbrev pub IsInRange : Mark → Option ℤ → Type 0
IsInRange (At t) (Some slack) = pos 0 ≤ℤ slack → slack ≤ℤ greatest_slack → IsMarkTime t
IsInRange mark slack = Unit {0}

-- and so is the mark of a round over told texts that counts
abbrev pub CountsAreInRange : Mark → (old : Known) → Option Mark → Type 0
CountsAreInRange last old None = Unit {0}
CountsAreInRange last old (Some mark) = (reads : Reads) (slack : Option ℤ) (texts : List (List ℕ)) → BenchIsOfTexts reads slack texts last old → IsInRange mark slack

-- a round that stopped, at a mark that is at least the last one
pub record RoundStops (last : Mark) (old : Known) (book then : BookState) (before now : Option (List ℕ)) : Type 0 where
  pub mark : Mark
  pub later : IsAtMost last mark
  pub breaks : RoundBreaks last mark old book then before now

-- the conductor stops for want of memory, or by a fault of the sink
abbrev pub StopsOut : Stop → Type 0
StopsOut by = (by ≡ stop.Write) ⊎ (by ≡ stop.Memory)

-- the count of a sink's faults rises where its fault is told, and nowhere else. A sink that doesn't tell goes on so, and one of which no call is
-- planned to fail isn't told as failed, and stays such
pub record TellsSink {A K : Type 0} (output : sinks.Ghosts K) (before now : K) (answer : Result A Stop) : Type 0 where
  pub silent : output.written before ≡ None → output.written now ≡ None
  pub cause : answer ≡ Err stop.Write → Rose (output.fault_count before) (output.fault_count now)
  pub steady : answer ≢ Err stop.Write → output.fault_count now ≡ output.fault_count before
  pub counts : output.fault_count before ≤ output.fault_count now
  pub unfailing : IsUnfailing (output.fault_plan before) → (answer ≢ Err stop.Write) × IsUnfailing (output.fault_plan now)

-- why a round stops: by a call of the bench, or by the book, where no call of the bench failed
abbrev pub StopsAt : Stop → (old new : Known) → Type 0
StopsAt by old new = StopsBy by old new ⊎ (StopsOut by × Went old new)

-- it stops at a cut for want of memory, by a fault of the disk, or at the greatest generation
abbrev pub StopsKeeping : Stop → Type 0
StopsKeeping by = (by ≡ stop.Disk) ⊎ ((by ≡ stop.Memory) ⊎ (by ≡ stop.Generation))

-- why a cut isn't kept: by a call of the bench, or by the sink or the disk, where no call of the bench failed
abbrev pub StopsSaving : Stop → (old new : Known) → Type 0
StopsSaving by old new = StopsBy by old new ⊎ ((StopsOut by ⊎ StopsKeeping by) × Went old new)
