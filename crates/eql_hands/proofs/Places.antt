-- Lists whose places are related one by one.
use Rattle.std.proofs.Common.{◌≡◌, ◌≢◌, inl, inr, ℕ, zero, suc, List, [], ◌∷◌, Some, length, refl, sym, ap, ◌∙◌, subst, arith}
use Rattle.std.specs.Prelude.{slice_get}
use Rattle.std.proofs.lemmas.Bool.{cases_eq}
use Rattle.std.proofs.lemmas.Option.{same_Some, slice_get_within}
use Rattle.eql_hub.specs.Steps.{EachIsRelated}

module _ {X : Type 0} where
  -- what stands in the same place of a list of the same length
  pub there : (xs ys : List X) (k : ℕ) (x : X) → length ys ≡ length xs → slice_get xs k ≡ Some x → (y : X) × (slice_get ys k ≡ Some y)
  there [] ys k x count at = absurd (let w = slice_get_within [] k x at in omega (arith, w))
  there (a ∷ xs) [] k x count at = absurd (omega (arith, count))
  there (a ∷ xs) (b ∷ ys) zero x count at = (b, refl)
  there (a ∷ xs) (b ∷ ys) (suc k) x count at = there xs ys k x (omega (arith, count)) at

  -- one place is related so, and the others are
  pub each_at : (Related : X → X → Type 0) (place : ℕ) (old new : List X) (before after : X) → length new ≡ length old
      → slice_get old place ≡ Some before → slice_get new place ≡ Some after → Related before after
      → ((k : ℕ) (v w : X) → k ≢ place → slice_get old k ≡ Some v → slice_get new k ≡ Some w → Related v w) → EachIsRelated Related old new
  each_at Related place old new before after count was is here others = record {
    count = count;
    each = λ k v w at there. elim (cases_eq k place) [
      | inl e ↦
          let first : before ≡ v = same_Some before v (sym was ∙ (ap (slice_get old) (sym e) ∙ at)) in
          let last : after ≡ w = same_Some after w (sym is ∙ (ap (slice_get new) (sym e) ∙ there)) in
          subst (λ (x : X). Related x w) first (subst (λ (x : X). Related before x) last here)
      | inr apart ↦ others k v w apart at there
    ];
  }

  -- a weaker relation
  pub each_as : (Related Weaker : X → X → Type 0) (old new : List X) → ((v w : X) → Related v w → Weaker v w) → EachIsRelated Related old new → EachIsRelated Weaker old new
  each_as Related Weaker old new weaken e = record { count = e.count; each = λ k v w at is. weaken v w (e.each k v w at is) }

  pub each_same : (Related : X → X → Type 0) (old new : List X) → ((x y : X) → y ≡ x → Related x y) → new ≡ old → EachIsRelated Related old new
  each_same Related old new same e = record {
    count = ap length e;
    each = λ k v w at is. same v w (same_Some w v (sym is ∙ (ap (λ (l : List X). slice_get l k) e ∙ at)));
  }

  -- one after the other
  pub each_on : (First Second Both : X → X → Type 0) (a b c : List X) → ((u v w : X) → First u v → Second v w → Both u w)
      → EachIsRelated First a b → EachIsRelated Second b c → EachIsRelated Both a c
  each_on First Second Both a b c join f s = record {
    count = s.count ∙ f.count;
    each = λ k u w at is.
        let mid = there a b k u f.count at in
        join u mid.0 w (f.each k u mid.0 at mid.1) (s.each k mid.0 w mid.1 is);
  }
