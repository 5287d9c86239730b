-- The tests of a cut tell what a cut is to have that fits a run.
use Rattle.std.proofs.Common.{◌≡◌, ℕ, zero, suc, ◌+◌, ◌-◌, ◌<◌, ◌≤◌, ℤ, ◌≤ℤ◌, true, false, Bool, not, eqb, List, [], ◌∷◌, All, T, refl, ap, ◌∙◌, arith}
use Rattle.std.proofs.lemmas.Bool.{and_parts, and_from, eqb-true}
use Rattle.std.proofs.lemmas.List.Elements.{All-nil, All-cons, All-head, All-tail}
use Rattle.std.specs.List.{list_all}
use Rattle.std.specs.Int.Signed.{le_z}
use Rattle.eql_values.specs.declared.item.Mask.{Mask}
use Rattle.eql_values.specs.Masks.{has_stage}
use Rattle.eql_values.specs.Reading.{IsTime}
use Rattle.eql_laws.specs.Belows.{IsMarkTime}
use Rattle.eql_laws.specs.Bounds.{HasStagesTo}
use Rattle.eql_cut.specs.Fitting.{is_time, is_mark_time, none_of_next, none_above}

pub not_false : (b : Bool) → not b ≡ true → b ≡ false
not_false true is = cc
not_false false is = refl

pub false_not : (b : Bool) → b ≡ false → not b ≡ true
false_not true is = cc
false_not false is = refl

holds : (b : Bool) → b ≡ true → T b
holds true is = tt
holds false is = cc

told : (b : Bool) → T b → b ≡ true
told true is = refl
told false is = absurd is

pub le_from : (a b : ℤ) → le_z a b ≡ true → a ≤ℤ b
le_from a b is = record { le = holds (le_z a b) is }

pub le_to : (a b : ℤ) → a ≤ℤ b → le_z a b ≡ true
le_to a b le = told (le_z a b) le.le

module _ {A : Type 0} (test : A → Bool) (P : A → Type 0) where
  pub all_from : ((x : A) → test x ≡ true → P x) → (xs : List A) → list_all test xs ≡ true → All P xs
  all_from tells [] is = All-nil _
  all_from tells (x ∷ xs) is =
      let p = and_parts (test x) (list_all test xs) is in
      All-cons P x xs (tells x p.0) (all_from tells xs p.1)

  pub all_to : ((x : A) → P x → test x ≡ true) → (xs : List A) → All P xs → list_all test xs ≡ true
  all_to told_by [] all = refl
  all_to told_by (x ∷ xs) all = and_from (test x) (list_all test xs) (told_by x (All-head P x xs all)) (all_to told_by xs (All-tail P x xs all))

pub time_from : (t : ℤ) → is_time t ≡ true → IsTime t
time_from t is = let p = and_parts _ _ is in (le_from _ _ p.0, le_from _ _ p.1)

pub time_to : (t : ℤ) → IsTime t → is_time t ≡ true
time_to t time = and_from _ _ (le_to _ _ time.0) (le_to _ _ time.1)

pub mark_from : (t : ℤ) → is_mark_time t ≡ true → IsMarkTime t
mark_from t is = let p = and_parts _ _ is in (le_from _ _ p.0, le_from _ _ p.1)

pub mark_to : (t : ℤ) → IsMarkTime t → is_mark_time t ≡ true
mark_to t time = and_from _ _ (le_to _ _ time.0) (le_to _ _ time.1)

module _ (mask : Mask) where
  this_or_later : (m k : ℕ) (b : Bool) → eqb k (suc m) ≡ b → m < k → has_stage mask (suc m) ≡ false → (suc m < k → has_stage mask k ≡ false) → has_stage mask k ≡ false
  this_or_later m k true is lt here later = ap (has_stage mask) (eqb-true k (suc m) is) ∙ here
  this_or_later m k false is lt here later = later (grind arith)

  none_from : (m n : ℕ) → none_of_next mask m n ≡ true → (k : ℕ) → m < k → k ≤ m + n → has_stage mask k ≡ false
  none_from m zero is k lt le = absurd (omega arith)
  none_from m (suc n) is k lt le =
      let p = and_parts (not (has_stage mask (suc m))) (none_of_next mask (suc m) n) is in
      this_or_later m k (eqb k (suc m)) refl lt (not_false (has_stage mask (suc m)) p.0) (λ more. none_from (suc m) n p.1 k more (omega arith))

  none_to : (m n : ℕ) → ((k : ℕ) → m < k → k ≤ m + n → has_stage mask k ≡ false) → none_of_next mask m n ≡ true
  none_to m zero none = refl
  none_to m (suc n) none =
      and_from (not (has_stage mask (suc m))) (none_of_next mask (suc m) n) (false_not (has_stage mask (suc m)) (none (suc m) (omega arith) (omega arith)))
      (none_to (suc m) n (λ k lt le. none k (omega arith) (omega arith)))

  pub stages_from : (m : ℕ) → none_above m mask ≡ true → HasStagesTo m mask
  stages_from m is k lt le = none_from m (256 - m) is k lt (omega arith)

  pub stages_to : (m : ℕ) → HasStagesTo m mask → none_above m mask ≡ true
  stages_to m none = none_to m (256 - m) (λ k lt le. none k lt (omega arith))
