-- Worked examples, computed.
use Rattle.std.specs.Prelude.{◌≡◌, ℕ, [], ◌∷◌, refl}
use Rattle.eql_turn_lock.specs.declared.history.Entry.{Entry}
use Rattle.eql_turn_lock.specs.History.{entry, calls_by}
use Rattle.eql_turn_lock.specs.Passes.{longer}
use Rattle.eql_turn_lock.specs.Tries.{turn_held, word_moved, words_of}

-- the turn was held at 1, and was then taken and ended by another pass between the load of 2 and
-- the exchange
three_words : words_of (turn_held 1 ∷ word_moved 2 4 ∷ []) ≡ 1 ∷ 2 ∷ 4 ∷ []
three_words = refl

-- a call of this pass, with this operation and this reply
abbrev call : ℕ → ℕ → ℕ → Entry ℕ ℕ
call by op reply = entry by op reply

-- of three calls the pass 1 made the first one and the last one
own_calls :
    calls_by 1 (call 1 10 20 ∷ call 0 11 21 ∷ call 1 12 22 ∷ []) ≡ call 1 10 20 ∷ call 1 12 22 ∷ []
own_calls = refl

-- of two histories the longer one is kept, and of two of one length the first one
second_kept :
    longer (call 0 10 20 ∷ []) (call 0 10 20 ∷ call 1 11 21 ∷ []) ≡ call 0 10 20 ∷ call 1 11 21 ∷ []
second_kept = refl

first_kept : longer (call 0 10 20 ∷ []) (call 1 11 21 ∷ []) ≡ call 0 10 20 ∷ []
first_kept = refl
