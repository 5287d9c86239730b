-- How one pass grows in one try.
use Rattle.std.proofs.Common.{◌≡◌, ◌+◌, inl, inr, ℕ, Bool, List, [], ◌∷◌, ◌++◌, length, sym, ap, ◌∙◌, arith, append_assoc, length-append}
use Rattle.std.proofs.lemmas.List.{append-nil}
use Rattle.eql_turn_lock.specs.declared.view.View.{View}
use Rattle.eql_turn_lock.specs.declared.refused.NotNow.TheVariants.{Busy, Worn}
use Rattle.eql_turn_lock.specs.Calls.{IsUnplayed, MeetsIdle, PlaysOnce, Refuses}
use Rattle.eql_turn_lock.specs.History.{StartsWith, entry}
use Rattle.eql_hub.specs.Later.{IsLater}
use Rattle.eql_hands.specs.Growth.{HasMineWithin}

module _ {X : Type 0} where
  starts_same : (xs ys : List X) → ys ≡ xs → StartsWith ys xs
  starts_same xs ys e = ([], e ∙ sym (append-nil xs))

  starts_on : (xs ys zs : List X) → StartsWith ys xs → StartsWith zs ys → StartsWith zs xs
  starts_on xs ys zs a b = (a.0 ++ b.0, b.1 ∙ (ap (λ (l : List X). l ++ b.0) a.1 ∙ append_assoc xs a.0 b.0))

module _ {T O R : Type 0} where
  pub later_same : (v w : View T O R) → w ≡ v → IsLater v w
  later_same v w e = record {
    number = ap (λ (u : View T O R). u.number) e;
    opening = ap (λ (u : View T O R). u.opening) e;
    made = ap (λ (u : View T O R). u.made) e;
    ended = ap (λ (u : View T O R). u.ended) e;
    seen = starts_same v.seen w.seen (ap (λ (u : View T O R). u.seen) e);
    mine = starts_same v.mine w.mine (ap (λ (u : View T O R). u.mine) e);
    looked = starts_same v.looked w.looked (ap (λ (u : View T O R). u.looked) e);
  }

  pub later_on : (u v w : View T O R) → IsLater u v → IsLater v w → IsLater u w
  later_on u v w a b = record {
    number = b.number ∙ a.number;
    opening = b.opening ∙ a.opening;
    made = b.made ∙ a.made;
    ended = b.ended ∙ a.ended;
    seen = starts_on u.seen v.seen w.seen a.seen b.seen;
    mine = starts_on u.mine v.mine w.mine a.mine b.mine;
    looked = starts_on u.looked v.looked w.looked a.looked b.looked;
  }

  -- what one step does to a pass
  pub record IsStep (v w : View T O R) : Type 0 where
    pub later : IsLater v w
    pub one : HasMineWithin 1 v w

  pub step_same : (v w : View T O R) → w ≡ v → IsStep v w
  step_same v w e = record { later = later_same v w e; one = let m = ap (λ (u : View T O R). length u.mine) e in omega (arith, m) }

  module _ (step_of : T → O → R → T → Type 0) (is_open : O → Bool) (v w : View T O R) (op : O) (reply : R) (h : PlaysOnce step_of is_open v op reply w) where
    pub step_played : IsStep v w
    step_played =
        let p = h.1 in
        record {
          later = record {
            number = p.same.0;
            opening = p.same.1;
            made = p.same.2;
            ended = p.same.3;
            seen = (p.between ++ entry v.number op reply ∷ [], p.seen ∙ append_assoc v.seen p.between (entry v.number op reply ∷ []));
            mine = (entry v.number op reply ∷ [], p.mine);
            looked = (h.0 ∷ [], p.looked_is);
          };
          one = let a = ap length p.mine in let b = length-append v.mine (entry v.number op reply ∷ []) in omega (arith, a, b);
        }

  unplayed : (v w : View T O R) → w.seen ≡ v.seen → w.mine ≡ v.mine → w.number ≡ v.number → w.opening ≡ v.opening → w.made ≡ v.made → w.ended ≡ v.ended
      → StartsWith w.looked v.looked → IsStep v w
  unplayed v w seen mine number opening made ended looked = record {
    later = record {
      number = number;
      opening = opening;
      made = made;
      ended = ended;
      seen = starts_same v.seen w.seen seen;
      mine = starts_same v.mine w.mine mine;
      looked = looked;
    };
    one = let m = ap length mine in omega (arith, m);
  }

  pub step_busy : (v w : View T O R) (op back : O) (word : ℕ) → Refuses v op (Busy word back) w → IsStep v w
  step_busy v w op back word (same, is, inl held) = unplayed v w is.0 is.1 is.2 is.3 is.4 is.5 (word ∷ [], held.2)
  step_busy v w op back word (same, is, inr moved) =
      unplayed v w is.0 is.1 is.2 is.3 is.4 is.5 (moved.0 ∷ word ∷ [], moved.4 ∙ append_assoc v.looked (moved.0 ∷ []) (word ∷ []))

  pub step_worn : (v w : View T O R) (op back : O) (word : ℕ) → Refuses v op (Worn word back) w → IsStep v w
  step_worn v w op back word (same, is, great, looked) = unplayed v w is.0 is.1 is.2 is.3 is.4 is.5 (word ∷ [], looked)

  -- the last reply was idle, and nothing was played
  module _ (step_of : T → O → R → T → Type 0) (is_idle : R → Bool) (v w : View T O R) (met : MeetsIdle step_of is_idle v w) where
    pub step_idle : IsUnplayed v w → IsStep v w
    step_idle is = unplayed v w is.0 is.1 is.2 is.3 is.4 is.5 (met.word ∷ [], met.looked_is)
