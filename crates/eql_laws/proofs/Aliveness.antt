-- Pending sequences that can't match any more may be left out.
use Rattle.std.proofs.Common.{◌≡◌, ℕ, zero, suc, ℤ, pos, ◌≤ℤ◌, ◌-ℤ◌, Bool, true, false, cond, List, [], ◌∷◌, ◌++◌, Option, Some, None, refl, sym, ap, ◌∙◌, arith}
use Rattle.std.specs.Prelude.{not, ◌&&◌, ◌||◌}
use Rattle.std.specs.Int.Signed.{le_z}
use Rattle.std.proofs.lemmas.Int.{ints}
use Rattle.eql_values.specs.declared.order.OrderKey.{OrderKey}
use Rattle.eql_values.specs.declared.item.KeyEvent.{KeyEvent}
use Rattle.eql_values.specs.Chains.{fits_after, in_time, chain, holder}
use Rattle.eql_laws.specs.Slots.{Slots, chain_moved_on, chain_coming, slots_after}
use Rattle.eql_laws.specs.Alive.{IsSpan, alive_at}
use Rattle.eql_values.specs.Ordered.{found_or}
use Rattle.eql_laws.proofs.Stepping.{chain_step, holder_step, holder_start}
use Rattle.eql_laws.proofs.Halves.{holder_zero}

-- each item comes at this time or later
abbrev pub AllFrom : ℤ → List KeyEvent → Type 0
AllFrom t [] = Unit {0}
AllFrom t (item ∷ past) = (t ≤ℤ item.order.ts) × AllFrom t past

earlier : (first t now span : ℤ) → t ≤ℤ now → le_z (now -ℤ first) span ≡ true → le_z (t -ℤ first) span ≡ true
earlier first t now span le h = grind (arith, ints)

own_time : (t now span : ℤ) → pos 0 ≤ℤ span → t ≤ℤ now → le_z (t -ℤ now) span ≡ true
own_time t now span s le = grind (arith, ints)

-- who is in time is in time before
pub in_time_before : (span : Option ℤ) (c : List OrderKey) (t now : ℤ) → t ≤ℤ now → in_time span c now ≡ true → in_time span c t ≡ true
in_time_before None c t now le h = refl
in_time_before (Some span) [] t now le h = refl
in_time_before (Some span) (first ∷ rest) t now le h = earlier first.ts t now span le h

-- a sequence that goes on is alive
in_time_on : (span : Option ℤ) (c : List OrderKey) (t : ℤ) (own : OrderKey) → IsSpan span → t ≤ℤ own.ts → in_time span c own.ts ≡ true
    → in_time span (c ++ own ∷ []) t ≡ true
in_time_on None c t own s le h = refl
in_time_on (Some span) [] t own s le h = own_time t own.ts span s le
in_time_on (Some span) (first ∷ rest) t own s le h = earlier first.ts t own.ts span le h

new_in_time : (span : Option ℤ) (t : ℤ) (own : OrderKey) → IsSpan span → t ≤ℤ own.ts → in_time span (own ∷ []) t ≡ true
new_in_time None t own s le = refl
new_in_time (Some span) t own s le = own_time t own.ts span s le

module _ (span : Option ℤ) (is_span : IsSpan span) (t : ℤ) where
  one_moves : (c : List OrderKey) (item : KeyEvent) (b : Bool) → in_time span c item.order.ts ≡ b → t ≤ℤ item.order.ts
      → alive_at span t (cond b (Some (c ++ item.order ∷ [])) None) ≡ cond b (Some (c ++ item.order ∷ [])) None
  one_moves c item true h le = ap (λ (a : Bool). cond a (Some (c ++ item.order ∷ [])) None) (in_time_on span c t item.order is_span le h)
  one_moves c item false h le = refl

  moved_alive : (o : Option (List OrderKey)) (item : KeyEvent) → t ≤ℤ item.order.ts → alive_at span t (chain_moved_on span o item) ≡ chain_moved_on span o item
  moved_alive None item le = refl
  moved_alive (Some c) item le = one_moves c item (in_time span c item.order.ts) refl le

  one_kept : (c : List OrderKey) (item : KeyEvent) (a b : Bool) → in_time span c t ≡ a → in_time span c item.order.ts ≡ b → t ≤ℤ item.order.ts
      → chain_moved_on span (cond a (Some c) None) item ≡ cond b (Some (c ++ item.order ∷ [])) None
  one_kept c item true b g h le = ap (λ (x : Bool). cond x (Some (c ++ item.order ∷ [])) None) h
  one_kept c item false false g h le = refl
  one_kept c item false true g h le = let k = in_time_before span c t item.order.ts le h in cc

  moved_kept : (o : Option (List OrderKey)) (item : KeyEvent) → t ≤ℤ item.order.ts → chain_moved_on span (alive_at span t o) item ≡ chain_moved_on span o item
  moved_kept None item le = refl
  moved_kept (Some c) item le = one_kept c item (in_time span c t) (in_time span c item.order.ts) refl refl le

  arrived_kept : (slots : Slots) (item : KeyEvent) (k : ℕ) → t ≤ℤ item.order.ts → chain_coming span (λ j. alive_at span t (slots j)) item k ≡ chain_coming span slots item k
  arrived_kept slots item zero le = refl
  arrived_kept slots item (suc zero) le = refl
  arrived_kept slots item (suc (suc k)) le =
      ap (λ (o : Option (List OrderKey)). cond (fits_after (suc k) item && not item.until) o None) (moved_kept (slots (suc k)) item le)

  cond_alive : (b : Bool) (o : Option (List OrderKey)) → alive_at span t o ≡ o → alive_at span t (cond b o None) ≡ cond b o None
  cond_alive true o h = h
  cond_alive false o h = refl

  arrived_alive : (slots : Slots) (item : KeyEvent) (k : ℕ) → t ≤ℤ item.order.ts → alive_at span t (chain_coming span slots item k) ≡ chain_coming span slots item k
  arrived_alive slots item zero le = refl
  arrived_alive slots item (suc zero) le =
      cond_alive (fits_after 0 item) (Some (item.order ∷ [])) (ap (λ (b : Bool). cond b (Some (item.order ∷ [])) None) (new_in_time span t item.order is_span le))
  arrived_alive slots item (suc (suc k)) le = cond_alive (fits_after (suc k) item && not item.until) (chain_moved_on span (slots (suc k)) item) (moved_alive (slots (suc k)) item le)

  either_alive : (a r : Option (List OrderKey)) → alive_at span t a ≡ a → alive_at span t (found_or a r) ≡ found_or a (alive_at span t r)
  either_alive None r h = refl
  either_alive (Some c) r h = h

  stays_alive : (b : Bool) (o : Option (List OrderKey)) → alive_at span t (cond b None o) ≡ cond b None (alive_at span t o)
  stays_alive true o = refl
  stays_alive false o = refl

  -- leaving out before an item what is dead, and after it, is the same
  pub slots_after_alive : (slots : Slots) (item : KeyEvent) (k : ℕ) → t ≤ℤ item.order.ts
      → slots_after span (λ j. alive_at span t (slots j)) item k ≡ alive_at span t (slots_after span slots item k)
  slots_after_alive slots item k le =
      ap (λ (a : Option (List OrderKey)). found_or a (cond (fits_after k item || item.until) None (alive_at span t (slots k)))) (arrived_kept slots item k le)
      ∙ ap (found_or (chain_coming span slots item k)) (sym (stays_alive (fits_after k item || item.until) (slots k)))
      ∙ sym (either_alive (chain_coming span slots item k) (cond (fits_after k item || item.until) None (slots k)) (arrived_alive slots item k le))

  pub holder_alive : (opening : Slots) (past : List KeyEvent) (k : ℕ) → AllFrom t past
      → holder span (λ j. alive_at span t (opening j)) k past ≡ alive_at span t (holder span opening k past)
  holder_alive opening [] zero from = holder_zero span (λ j. alive_at span t (opening j)) [] ∙ sym (ap (alive_at span t) (holder_zero span opening []))
  holder_alive opening [] (suc k) from = holder_start span (λ j. alive_at span t (opening j)) k ∙ sym (ap (alive_at span t) (holder_start span opening k))
  holder_alive opening (item ∷ past) k from =
      holder_step span (λ j. alive_at span t (opening j)) k item past
      ∙ (λ i. slots_after span (λ j. holder_alive opening past j from.1 i) item k)
      ∙ slots_after_alive (λ j. holder span opening j past) item k from.0
      ∙ sym (ap (alive_at span t) (holder_step span opening k item past))

  -- no match by later items needs a dead sequence
  pub chain_alive : (opening : Slots) (item : KeyEvent) (past : List KeyEvent) (k : ℕ) → AllFrom t (item ∷ past)
      → chain span (λ j. alive_at span t (opening j)) k (item ∷ past) ≡ chain span opening k (item ∷ past)
  chain_alive opening item past k from =
      chain_step span (λ j. alive_at span t (opening j)) k item past
      ∙ (λ i. chain_coming span (λ j. holder_alive opening past j from.1 i) item k)
      ∙ arrived_kept (λ j. holder span opening j past) item k from.0
      ∙ sym (chain_step span opening k item past)
