-- Worked examples of when a hand may go on and when it may stop, computed. The results stand the latest first.
use Rattle.std.specs.Prelude.{◌≡◌, true, false, [], ◌∷◌, None, Some, refl}
use Rattle.eql_hub.specs.declared.step.Did.TheVariants as did
use Rattle.eql_hub.specs.declared.step.HandFault.TheVariants as fault
use Rattle.eql_hands.specs.Runs.{fault_of, is_idle, may_go_on, may_stop}

-- a step that found nothing behind one that fed lane 3
idle_behind_a_feed : is_idle (did.Nothing ∷ did.Fed 3 ∷ []) ≡ true
idle_behind_a_feed = refl

-- a turn is work
not_idle_after_a_turn : is_idle (did.Turned 7 ∷ did.Nothing ∷ []) ≡ false
not_idle_after_a_turn = refl

-- before its first step a hand may go on, and may not stop
goes_on_at_first : may_go_on 5 [] ≡ true
goes_on_at_first = refl

stops_not_at_first : may_stop 5 [] ≡ false
stops_not_at_first = refl

-- behind a step that found nothing it may do either
goes_on_when_idle : may_go_on 5 (did.Nothing ∷ did.Fed 0 ∷ []) ≡ true
goes_on_when_idle = refl

stops_when_idle : may_stop 5 (did.Nothing ∷ did.Fed 0 ∷ []) ≡ true
stops_when_idle = refl

-- behind a feed it may not stop
stops_not_when_busy : may_stop 5 (did.Fed 0 ∷ did.Nothing ∷ []) ≡ false
stops_not_when_busy = refl

-- after its last step it stops, whatever that did
stops_at_last : may_go_on 5 (did.Fed 0 ∷ did.Fed 1 ∷ did.Nothing ∷ did.Nothing ∷ did.Turned 0 ∷ []) ≡ false
stops_at_last = refl

-- a fault stops it
stops_after_fault : may_go_on 5 (did.Fault fault.Memory ∷ did.Fed 0 ∷ []) ≡ false
stops_after_fault = refl

-- and is told, where a feed isn't one
tells_the_fault : fault_of (did.Fault (fault.Read 3) ∷ []) ≡ Some (fault.Read 3)
tells_the_fault = refl

tells_no_fault : fault_of (did.Fed 3 ∷ []) ≡ None
tells_no_fault = refl
