-- The values that a row's locks were made of, as its first passes tell them.
use Rattle.std.proofs.Common.{◌≡◌, List, [], ◌∷◌, refl, ap, ◌∙◌, map}
use Rattle.eql_turn_lock.specs.declared.view.View.{View}
use Rattle.eql_turn_lock.specs.Passes.{first_view}
use Rattle.eql_lock_bench.proofs.Beginnings.{AreFresh}
use Rattle.eql_hub_run.specs.Conducted.{openings, with_opening}

module _ (T O R : Type 0) where
  pub openings_first : (values : List T) → openings (map (first_view {T = T} {O = O} {R = R}) values) ≡ values
  openings_first [] = refl
  openings_first (x ∷ xs) = ap (λ l. x ∷ l) (openings_first xs)

  pub openings_of : (values : List T) (views : List (View T O R)) → views ≡ map first_view values → openings views ≡ values
  openings_of values views is = ap openings is ∙ openings_first values

  -- and so they do once others were split off
  pub openings_fresh : (values : List T) (views : List (View T O R)) → AreFresh values views → openings views ≡ values
  openings_fresh [] [] fresh = refl
  openings_fresh [] (view ∷ views) fresh = absurd fresh
  openings_fresh (value ∷ values) [] fresh = absurd fresh
  openings_fresh (value ∷ values) (view ∷ views) fresh =
      ap (λ o. with_opening o (openings views)) fresh.0.opening ∙ ap (λ l. value ∷ l) (openings_fresh values views fresh.1)
