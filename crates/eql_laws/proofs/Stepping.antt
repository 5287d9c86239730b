-- What one more item does to the machine of one key: the look-back's pending sequences go over as slots are moved.
use Rattle.std.proofs.Common.{◌≡◌, ℕ, zero, suc, ℤ, Bool, true, false, cond, List, [], ◌∷◌, ◌++◌, Option, Some, None, refl, sym, ap, ◌∙◌}
use Rattle.std.specs.Prelude.{not, ◌&&◌, ◌||◌}
use Rattle.std.specs.List.{list_any}
use Rattle.eql_values.specs.declared.order.OrderKey.{OrderKey}
use Rattle.eql_values.specs.declared.item.KeyEvent.{KeyEvent}
use Rattle.eql_values.specs.Chains.{Placed, fits_after, ends, in_time, here_or, at_start, latest, chain_with, chain, held_of, holder}
use Rattle.eql_laws.specs.Slots.{Slots, chain_moved_on, chain_coming, slots_after}
use Rattle.eql_values.specs.Ordered.{found_or}
use Rattle.eql_values.proofs.InOrder.{both_none}

moved_cases : (span : Option ℤ) (item : KeyEvent) (c : List OrderKey) (between later until : Bool)
    → cond (not between && not (until || later) && in_time span c item.order.ts) (Some (c ++ item.order ∷ [])) None
    ≡ cond (not until) (chain_moved_on span (cond (not between && not later) (Some c) None) item) None
moved_cases span item c true later true = refl
moved_cases span item c true later false = refl
moved_cases span item c false true true = refl
moved_cases span item c false true false = refl
moved_cases span item c false false true = refl
moved_cases span item c false false false = refl

-- a chain goes on by an item as a pending sequence does
followed_is : (span : Option ℤ) (k : ℕ) (item : KeyEvent) (found : Option Placed) (fits : Bool)
    → cond fits (chain_with span k item found) None ≡ cond (fits && not item.until) (chain_moved_on span (held_of k found) item) None
followed_is span k item None true = sym (both_none (not item.until))
followed_is span k item (Some before) true = moved_cases span item before.0 (list_any (fits_after k) before.1) (list_any ends before.1) item.until
followed_is span k item found false = refl

kept_cases : (c : List OrderKey) (fits until between later : Bool)
    → cond (not (fits || between) && not (until || later)) (Some c) None
    ≡ cond (fits || until) None (cond (not between && not later) (Some c) None)
kept_cases c true until between later = refl
kept_cases c false true true later = refl
kept_cases c false true false later = refl
kept_cases c false false between later = refl

-- what is held is what came with the item, else what was held and stays
held_is : (k : ℕ) (item : KeyEvent) (here : Option (List OrderKey)) (found : Option Placed)
    → held_of k (here_or here item found) ≡ found_or here (cond (fits_after k item || item.until) None (held_of k found))
held_is k item (Some c) found = refl
held_is k item None None = sym (both_none (fits_after k item || item.until))
held_is k item None (Some before) =
    kept_cases before.0 (fits_after k item) item.until (list_any (fits_after k) before.1) (list_any ends before.1)

module _ (span : Option ℤ) (opening : ℕ → Option (List OrderKey)) where
  -- the slots after a past, by looking back
  abbrev pub slots_of_past : List KeyEvent → Slots
  slots_of_past past k = holder span opening k past

  pub chain_step : (k : ℕ) (item : KeyEvent) (past : List KeyEvent) → chain span opening k (item ∷ past) ≡ chain_coming span (slots_of_past past) item k
  chain_step zero item past = refl
  chain_step (suc zero) item past = refl
  chain_step (suc (suc k)) item past = followed_is span (suc k) item (latest (chain span opening (suc k)) past) (fits_after (suc k) item)

  pub holder_step : (k : ℕ) (item : KeyEvent) (past : List KeyEvent) → holder span opening k (item ∷ past) ≡ slots_after span (slots_of_past past) item k
  holder_step k item past =
      held_is k item (chain span opening k (item ∷ past)) (latest (chain span opening k) past)
      ∙ ap (λ (here : Option (List OrderKey)). found_or here (cond (fits_after k item || item.until) None (slots_of_past past k))) (chain_step k item past)

held_at_start : (k : ℕ) (o : Option (List OrderKey)) → held_of k (at_start o) ≡ o
held_at_start k None = refl
held_at_start k (Some c) = refl

-- before any item what is held is what was held at the opening
pub holder_start : (span : Option ℤ) (opening : Slots) (k : ℕ) → holder span opening (suc k) [] ≡ opening (suc k)
holder_start span opening k = held_at_start (suc k) (opening (suc k))
