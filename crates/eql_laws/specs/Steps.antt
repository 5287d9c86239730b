-- Laws of one step of the machine of a key, and of the look-back in the words of the rules.
use Rattle.std.specs.Prelude.{◌≡◌, ◌↔◌, ℕ, suc, ℤ, List, [], ◌∷◌, Option, Some}
use Rattle.eql_values.specs.declared.order.OrderKey.{OrderKey}
use Rattle.eql_values.specs.declared.item.KeyEvent.{KeyEvent}
use Rattle.eql_values.specs.Chains.{chain, holder}
use Rattle.eql_laws.specs.Slots.{Slots, chain_coming, slots_after}
use Rattle.eql_laws.specs.InWords.{Follows}

-- one more item takes the pending sequences on as slots are moved
abbrev pub StepMovesSlots : Type 0
StepMovesSlots = (span : Option ℤ) (opening : Slots) (k : ℕ) (item : KeyEvent) (past : List KeyEvent)
    → holder span opening k (item ∷ past) ≡ slots_after span (λ j. holder span opening j past) item k

-- and the chain that it makes is what comes to the stage
abbrev pub StepMakesChain : Type 0
StepMakesChain = (span : Option ℤ) (opening : Slots) (k : ℕ) (item : KeyEvent) (past : List KeyEvent)
    → chain span opening k (item ∷ past) ≡ chain_coming span (λ j. holder span opening j past) item k

-- before any item the pending sequence of a stage is the opening one
abbrev pub StartIsOpening : Type 0
StartIsOpening = (span : Option ℤ) (opening : Slots) (k : ℕ) → holder span opening (suc k) [] ≡ opening (suc k)

-- a chain of a later stage is there exactly when the rules say so in words
abbrev pub ChainReads : Type 0
ChainReads = (span : Option ℤ) (opening : Slots) (k : ℕ) (item : KeyEvent) (past : List KeyEvent) (c : List OrderKey)
    → (chain span opening (suc (suc k)) (item ∷ past) ≡ Some c) ↔ Follows span opening k item past c
