-- Histories: the calls on one value that were answered, in order.
use Rattle.std.specs.Prelude.{◌≡◌, ◌≢◌, ℕ, Bool, true, All, List, [], ◌∷◌, ◌++◌, ◌==◌, if◌then◌else◌}
use Rattle.eql_turn_lock.specs.declared.history.Entry.{Entry}

-- the list begins with the other one
abbrev pub StartsWith : {X : Type 0} → List X → List X → Type 0
StartsWith {X} list beginning = (rest : List X) × (list ≡ beginning ++ rest)

module _ {O R : Type 0} where
  abbrev pub entry : ℕ → O → R → Entry O R
  entry by op reply = record { by = by; op = op; reply = reply }

  -- the entries of the pass with this number, in order
  abbrev pub calls_by : ℕ → List (Entry O R) → List (Entry O R)
  calls_by number [] = []
  calls_by number (e ∷ es) = if e.by == number then e ∷ calls_by number es else calls_by number es

  -- all passes but the first one played open operations alone
  abbrev pub OthersOpen : (O → Bool) → List (Entry O R) → Type 0
  OthersOpen is_open entries = All (λ (e : Entry O R). e.by ≢ 0 → is_open e.op ≡ true) entries

  -- the last of these calls was answered by an idle reply
  abbrev pub EndsIdle : (R → Bool) → List (Entry O R) → Type 0
  EndsIdle is_idle entries =
      (before : List (Entry O R)) × (last : Entry O R) × (entries ≡ before ++ last ∷ [])
      × (is_idle last.reply ≡ true)

  module _ {T : Type 0} (step_of : T → O → R → T → Type 0) where
    -- the entries are a run of one value from its opening state to its final one
    abbrev pub IsLegal : T → List (Entry O R) → T → Type 0
    IsLegal opening [] final = opening ≡ final
    IsLegal opening (e ∷ es) final =
        (after : T) × step_of opening e.op e.reply after × IsLegal after es final
