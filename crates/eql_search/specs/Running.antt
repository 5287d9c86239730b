-- What a run over lanes and sixteen parts, with hands beside it, begins with, and what is known of it at its end.
use Rattle.std.specs.Prelude.{◌≡◌, ◌⊎◌, ℕ, List, [], Option, None, Some, Err, All, length, slice_get}
use Rattle.std.specs.declared.alloc.Global.{Global}
use Rattle.std.specs.declared.vec.Vec.{Vec}
use Rattle.eql_outside.specs.declared.disk.Disk as disks
use Rattle.eql_outside.specs.declared.sink.Sink as sinks
use Rattle.eql_outside.specs.declared.source.Source as sources
use Rattle.eql_values.specs.declared.found.Holder.{Holder}
use Rattle.eql_values.specs.declared.order.Mark.{Mark}
use Rattle.eql_values.specs.declared.reader.LineReader as readers
use Rattle.eql_laws.specs.Alive.{HoldersAreInOrder}
use Rattle.eql_laws.specs.Shapes.{HasStageBefore, IsFull}
use Rattle.eql_lane.specs.Views.{LaneView}
use Rattle.eql_parts.specs.Inboxes.{HolderIsBelow}
use Rattle.eql_parts.specs.PartSteps.{PartView, Rules}
use Rattle.eql_conductor.specs.Finding.{own_of}
use Rattle.eql_conductor.specs.declared.plan.Run.{Run}
use Rattle.eql_conductor.specs.declared.stop.Stop.TheVariants as stop
use Rattle.eql_conductor.specs.Going.{RunResult}
use Rattle.eql_conductor.specs.Openings.{begun_part}
use Rattle.eql_hub_run.specs.Beside.{RanBeside}

-- ---- the beginning
-- the list in a place, and none past the end
abbrev pub list_of : Option (Vec Holder Global) → List Holder
list_of None = []
list_of (Some list) = list.items

abbrev pub list_at : List (Vec Holder Global) → ℕ → List Holder
list_at lists p = list_of (slice_get lists p)

-- pending sequences with which a part of so many stages may begin at a mark
pub record MayBeginPart (stages : ℕ) (mark : Mark) (own : List Holder) : Type 0 where
  pub order : HoldersAreInOrder own
  pub before : All (HasStageBefore stages) own
  pub full : All IsFull own
  pub below : All (HolderIsBelow mark) own

-- a part with the pending sequences of its keys that are alive at a mark
abbrev pub own_part : Rules → List Holder → Mark → (p : ℕ) → PartView
own_part rules holders mark p = record { rules = rules; state = begun_part rules (own_of holders p) mark }

-- the parts below a number are such, one after another
pub record AreOwnTo (n : ℕ) (rules : Rules) (holders : List Holder) (mark : Mark) (parts : List PartView) : Type 0 where
  pub count : length parts ≡ n
  pub each : (p : ℕ) (part : PartView) → slice_get parts p ≡ Some part → part ≡ own_part rules holders mark p

-- sixteen of them
abbrev pub AreOwnParts : Rules → List Holder → Mark → List PartView → Type 0
AreOwnParts rules holders mark parts = AreOwnTo 16 rules holders mark parts

-- ---- the end
-- there was no memory to begin, and nothing changed
pub record DidNotBegin {S L K D : Type 0} (olds news : List (LaneView S L)) (sink sink' : K) (run run' : Run D) (answer : RunResult) : Type 0 where
  pub memory : answer ≡ Err stop.Memory
  pub lanes : news ≡ olds
  pub sink_is : sink' ≡ sink
  pub run_is : run' ≡ run

module _ {S L K D : Type 0} (source : sources.Ghosts S) (reader : readers.Ghosts L) (output : sinks.Ghosts K) (disk : disks.Ghosts D)
    (text : ℕ → Option (List ℕ)) (olds news : List (LaneView S L)) (rules : Rules) (holders : List Holder) (sink sink' : K) where
  -- a run from sixteen parts with these pending sequences
  pub record HasSearched (run run' : Run D) (answer : RunResult) : Type 0 where
    pub parts : List PartView
    pub are : AreOwnParts rules holders run.plan.mark parts
    pub ran : RanBeside source reader output disk text olds news parts sink sink' run run' answer

  -- a search ran, or there was no memory to begin
  abbrev pub TriesToSearch : (run run' : Run D) → RunResult → Type 0
  TriesToSearch run run' answer = HasSearched run run' answer ⊎ DidNotBegin olds news sink sink' run run' answer
