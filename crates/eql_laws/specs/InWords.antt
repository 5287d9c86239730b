-- The look-back in the words of the rules: where a chain of a later stage is there, and where it isn't.
use Rattle.std.specs.Prelude.{◌≡◌, ℕ, suc, ℤ, true, false, List, [], ◌∷◌, ◌++◌, Option, Some, None}
use Rattle.std.specs.List.{list_any}
use Rattle.eql_values.specs.declared.order.OrderKey.{OrderKey}
use Rattle.eql_values.specs.declared.item.KeyEvent.{KeyEvent}
use Rattle.eql_values.specs.Chains.{fits_after, ends, in_time, chain}

-- at no place between, nor at the place of the last of them, there is a chain
abbrev pub NoneStandsBetween : (List KeyEvent → Option (List OrderKey)) → List KeyEvent → List KeyEvent → Type 0
NoneStandsBetween chain_at [] past = Unit {0}
NoneStandsBetween chain_at (item ∷ between) past = (chain_at (item ∷ (between ++ past)) ≡ None) × NoneStandsBetween chain_at between past

-- a chain of stage k + 2 at an item: the item fits the stage; before it, at the greatest place that has one, is a chain of stage k + 1; no item
-- strictly between fits stage k + 2; no item after that place, this one included, ends the key; and this one is in time
pub record Follows (span : Option ℤ) (opening : ℕ → Option (List OrderKey)) (k : ℕ) (item : KeyEvent) (past : List KeyEvent) (c : List OrderKey) : Type 0 where
  pub before : List OrderKey
  pub between : List KeyEvent
  pub place : List KeyEvent
  pub parts : past ≡ between ++ place
  pub fits : fits_after (suc k) item ≡ true
  pub there : chain span opening (suc k) place ≡ Some before
  pub greatest : NoneStandsBetween (chain span opening (suc k)) between place
  pub none_fits : list_any (fits_after (suc k)) between ≡ false
  pub none_ends : list_any ends (item ∷ between) ≡ false
  pub within : in_time span before item.order.ts ≡ true
  pub is : c ≡ before ++ item.order ∷ []
