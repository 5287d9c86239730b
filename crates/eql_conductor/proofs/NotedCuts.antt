-- The notes of a cut, from those of its calls.
use Rattle.std.proofs.Common.{◌∷◌, ℕ, List, [], ◌∙◌, arith}
use Rattle.eql_conductor.specs.declared.note.Note.{Note}
use Rattle.eql_conductor.specs.declared.note.Note.TheVariants as note
use Rattle.eql_conductor.specs.Benches.{Known, Rests}
use Rattle.eql_conductor.specs.RoundNotes.{NotesLanes, NotesLanesFront, NotesParts, PlaysParts, delivered_to}
use Rattle.eql_conductor.specs.RunNotes.{NotesSave, NotesSaveFront}
use Rattle.eql_conductor.proofs.Resting.{is_lane}
use Rattle.eql_conductor.proofs.LaneNotes.{front_all}
use Rattle.eql_conductor.proofs.PartNotes.{grew_to}
use Rattle.eql_conductor.proofs.NotedRounds.{none_played, played_after, rests_handed}

-- each lane was snapped
abbrev pub snap_each : ℕ → List Note
snap_each s = note.Snapped ∷ []

pub save_breaks : (a b : Known) → NotesSave a b → NotesSaveFront a b
save_breaks a b h = record {
  lanes = record { each = λ s l. front_all (a.lane_notes s) (snap_each s) (b.lane_notes s) (h.lanes.each s l) };
  parts = h.parts;
}

-- it broke off at a lane
pub snapping_broken : (a b : Known) → Rests a b → NotesLanesFront snap_each a b → NotesSaveFront a b
snapping_broken a b rests h = record { lanes = h.lanes; parts = none_played 1 a b (rests_handed a b rests) h.parts }

-- parts played none of the events of a round
parts_snapped : (a b : Known) → Rests a b → NotesParts (λ p. 0) 1 a b → PlaysParts 1 a b
parts_snapped a b rests h = record {
  items = [];
  handed = rests_handed a b rests;
  parts = record { each = λ p l. grew_to 0 1 (delivered_to [] p) 1 (a.part_notes p) (b.part_notes p) (omega arith) (omega arith) (h.parts.each p l) };
}

module _ (a b c : Known) (rests : Rests a b) (then : Rests b c) (lanes : NotesLanes snap_each a b) (parts : NotesParts (λ p. 0) 1 b c) where
  -- of lanes and parts
  pub save_noted : NotesSave a c
  save_noted = record {
    lanes = record { each = λ s l. parts.lanes.each s (is_lane a b s rests.same l) ∙ lanes.lanes.each s l };
    parts = played_after 1 a b c rests.same (rests_handed a b rests) lanes.parts (parts_snapped b c then parts);
  }

  -- it broke off behind the lanes
  pub save_broken : NotesSaveFront a c
  save_broken = save_breaks a c save_noted
