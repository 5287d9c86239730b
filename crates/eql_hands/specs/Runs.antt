-- What a hand does in a run of steps. The results of the steps stand in a list, the latest first.
use Rattle.std.specs.Prelude.{◌≡◌, ◌⊎◌, ℕ, Bool, true, false, not, ◌&&◌, ◌||◌, is_none, nat_lt, List, [], ◌∷◌, Option, None, Some, length}
use Rattle.eql_values.specs.Accepted.{Reads}
use Rattle.eql_outside.specs.Plans.{FaultPlan}
use Rattle.eql_hub.specs.declared.step.Did.{Did}
use Rattle.eql_hub.specs.declared.step.Did.TheVariants as did
use Rattle.eql_hub.specs.declared.step.HandFault.{HandFault}
use Rattle.eql_hub.specs.Hands.{HandView}
use Rattle.eql_hub.specs.Steps.{Steps}

-- the latest step found nothing to do
abbrev pub is_idle : List Did → Bool
is_idle [] = false
is_idle (did.Nothing ∷ dids) = true
is_idle (did.Fed lane ∷ dids) = false
is_idle (did.Turned part ∷ dids) = false
is_idle (did.Fault fault ∷ dids) = false

-- the fault that the latest step met
abbrev pub fault_of : List Did → Option HandFault
fault_of [] = None
fault_of (did.Nothing ∷ dids) = None
fault_of (did.Fed lane ∷ dids) = None
fault_of (did.Turned part ∷ dids) = None
fault_of (did.Fault fault ∷ dids) = Some fault

-- a hand may go on: it met no fault, and hasn't done all its steps
abbrev pub may_go_on : (most_steps : ℕ) → List Did → Bool
may_go_on most_steps dids = is_none (fault_of dids) && nat_lt (length dids) most_steps

-- a hand may stop: it found nothing to do, met a fault, or has done all its steps
abbrev pub may_stop : (most_steps : ℕ) → List Did → Bool
may_stop most_steps dids = is_idle dids || not (may_go_on most_steps dids)

module _ {S L : Type 0} (left lent_as : S → Option (List ℕ)) (fault_plan : S → Option FaultPlan) (read_of : L → Reads) (batch : ℕ) (alone : List Bool) (most_steps : ℕ) where
  -- steps with these results led from one hand to the other, and before each of them the hand might go on
  abbrev pub PlaysSteps : List Did → HandView S L → HandView S L → Type 0
  PlaysSteps [] old new = new ≡ old
  PlaysSteps (answer ∷ before) old new =
      (may_go_on most_steps before ≡ true) × (mid : HandView S L) × PlaysSteps before old mid × Steps left lent_as fault_plan read_of batch alone answer mid new

  -- a run of a hand: it did these steps, might stop behind them, and returns the fault that the last one met
  pub record Ran (answer : Option HandFault) (old new : HandView S L) : Type 0 where
    pub dids : List Did
    pub played : PlaysSteps dids old new
    pub stops : may_stop most_steps dids ≡ true
    pub told : answer ≡ fault_of dids

  -- after steps without a fault the last step met this one
  pub record MeetsFault (fault : HandFault) (old new : HandView S L) : Type 0 where
    pub mid : HandView S L
    pub dids : List Did
    pub played : PlaysSteps dids old mid
    pub goes : may_go_on most_steps dids ≡ true
    pub last : Steps left lent_as fault_plan read_of batch alone (did.Fault fault) mid new

  -- the last step found nothing to do, or all steps were done
  abbrev pub EndsIdle : HandView S L → HandView S L → Type 0
  EndsIdle old new = ((mid : HandView S L) × Steps left lent_as fault_plan read_of batch alone did.Nothing mid new)
      ⊎ ((dids : List Did) × PlaysSteps dids old new × (length dids ≡ most_steps))
