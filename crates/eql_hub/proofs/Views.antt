-- The views that first passes begin with, and what comes back where no call was made.
use Rattle.std.proofs.Common.{◌≡◌, List, length, map, refl, sym, subst}
use Rattle.std.specs.Prelude.{All, Bool}
use Rattle.std.specs.List.{AllZip}
use Rattle.std.proofs.lemmas.List.Elements.{All-map}
use Rattle.eql_turn_lock.specs.declared.view.View.{View}
use Rattle.eql_turn_lock.specs.Calls.{Closes}
use Rattle.eql_turn_lock.specs.Passes.{first_view}
use Rattle.eql_lock_row.specs.Rows.{AllAreJoined, AreFirst}
use Rattle.eql_lock_row.proofs.Walks.{all_back}

module _ {T O R : Type 0} where
  pub fresh_first : (xs : List T) (views : List (View T O R)) → views ≡ map first_view xs → AreFirst views
  fresh_first xs views is =
      subst (All (λ (v : View T O R). v.number ≡ 0)) (sym is) (All-map (λ (v : View T O R). v.number ≡ 0) first_view xs (λ k d h. refl))

  pub fresh_joined : (xs : List T) (views : List (View T O R)) → views ≡ map first_view xs → AllAreJoined views
  fresh_joined xs views is =
      subst (All (λ (v : View T O R). length v.ended ≡ v.made)) (sym is) (All-map (λ (v : View T O R). length v.ended ≡ v.made) first_view xs (λ k d h. refl))

pub fresh_back : {T O R : Type 0} (step_of : T → O → R → T → Type 0) (is_open : O → Bool) (xs ys : List T) (views : List (View T O R)) → views ≡ map first_view xs
    → AllZip (Closes step_of is_open) views ys → ys ≡ xs
fresh_back step_of is_open xs ys views is closes =
    all_back step_of is_open xs ys (subst (λ (vs : List (View _ _ _)). AllZip (Closes step_of is_open) vs ys) is closes)
