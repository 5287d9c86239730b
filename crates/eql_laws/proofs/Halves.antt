-- Items in two parts: the second part goes on from the pending sequences after the first.
use Rattle.std.proofs.Common.{◌≡◌, ℕ, zero, suc, ◌<◌, ◌≤◌, ℤ, cond, List, [], ◌∷◌, ◌++◌, Option, None, refl, sym, ap, ◌∙◌, arith}
use Rattle.std.specs.Prelude.{not, ◌&&◌, ◌||◌}
use Rattle.eql_values.specs.declared.order.OrderKey.{OrderKey}
use Rattle.eql_values.specs.declared.item.KeyEvent.{KeyEvent}
use Rattle.eql_values.specs.Chains.{fits_after, latest, chain, held_of, holder, here_or}
use Rattle.eql_laws.specs.Slots.{Slots, chain_moved_on, chain_coming, slots_after}
use Rattle.eql_values.specs.Ordered.{found_or}
use Rattle.eql_laws.proofs.Stepping.{chain_step, holder_step, holder_start}

module _ (span : Option ℤ) where
  no_stage_zero : (opening : Slots) (past : List KeyEvent) → latest (chain span opening zero) past ≡ None
  no_stage_zero opening [] = refl
  no_stage_zero opening (item ∷ past) = ap (here_or None item) (no_stage_zero opening past)

  pub holder_zero : (opening : Slots) (past : List KeyEvent) → holder span opening zero past ≡ None
  holder_zero opening past = ap (held_of zero) (no_stage_zero opening past)

  pub holder_append : (opening : Slots) (new old : List KeyEvent) (k : ℕ)
      → holder span opening k (new ++ old) ≡ holder span (λ j. holder span opening j old) k new
  holder_append opening [] old zero = holder_zero opening old
  holder_append opening [] old (suc k) = sym (holder_start span (λ j. holder span opening j old) k)
  holder_append opening (item ∷ new) old k =
      holder_step span opening k item (new ++ old)
      ∙ (λ i. slots_after span (λ j. holder_append opening new old j i) item k)
      ∙ sym (holder_step span (λ j. holder span opening j old) k item new)

  pub chain_append : (opening : Slots) (k : ℕ) (item : KeyEvent) (new old : List KeyEvent)
      → chain span opening k (item ∷ (new ++ old)) ≡ chain span (λ j. holder span opening j old) k (item ∷ new)
  chain_append opening k item new old =
      chain_step span opening k item (new ++ old)
      ∙ (λ i. chain_coming span (λ j. holder_append opening new old j i) item k)
      ∙ sym (chain_step span (λ j. holder span opening j old) k item new)

  -- slots that agree on the stages below m go on alike there
  pub arrived_alike : (a b : Slots) (item : KeyEvent) (m k : ℕ) → k ≤ m → ((j : ℕ) → suc j < m → a (suc j) ≡ b (suc j))
      → chain_coming span a item k ≡ chain_coming span b item k
  arrived_alike a b item m zero le same = refl
  arrived_alike a b item m (suc zero) le same = refl
  arrived_alike a b item m (suc (suc k)) le same =
      ap (λ (o : Option (List OrderKey)). cond (fits_after (suc k) item && not item.until) (chain_moved_on span o item) None) (same k (omega arith))

  pub holder_alike : (a b : Slots) (m : ℕ) (past : List KeyEvent) (k : ℕ) → suc k < m → ((j : ℕ) → suc j < m → a (suc j) ≡ b (suc j))
      → holder span a (suc k) past ≡ holder span b (suc k) past
  holder_alike a b m [] k lt same = holder_start span a k ∙ same k lt ∙ sym (holder_start span b k)
  holder_alike a b m (item ∷ past) k lt same =
      holder_step span a (suc k) item past
      ∙ (λ i. found_or (arrived_alike (λ j. holder span a j past) (λ j. holder span b j past) item m (suc k) (omega arith) (λ j l. holder_alike a b m past j l same) i)
      (cond (fits_after (suc k) item || item.until) None (holder_alike a b m past k lt same i)))
      ∙ sym (holder_step span b (suc k) item past)

  pub chain_alike : (a b : Slots) (m : ℕ) (item : KeyEvent) (past : List KeyEvent) → ((j : ℕ) → suc j < m → a (suc j) ≡ b (suc j))
      → chain span a m (item ∷ past) ≡ chain span b m (item ∷ past)
  chain_alike a b m item past same =
      chain_step span a m item past
      ∙ arrived_alike (λ j. holder span a j past) (λ j. holder span b j past) item m m (omega arith) (λ j l. holder_alike a b m past j l same)
      ∙ sym (chain_step span b m item past)
