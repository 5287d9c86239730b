-- What a lane begins with: the bytes that are passed over, and the events of a cut.
use Rattle.std.proofs.Common.{◌≡◌, ℕ, zero, suc, ◌+◌, ◌≤◌, List, [], ◌∷◌, length, map, drop, Option, Some, None, refl, sym, ap, subst, ◌∙◌, arith, length-drop}
use Rattle.std.specs.Prelude.{IsTrue, IfSome}
use Rattle.std.specs.Ordering.{is_lt}
use Rattle.std.specs.declared.cmp.Ordering.TheVariants.{Less}
use Rattle.std.specs.FinMap.Entries.{below_all, is_sorted}
use Rattle.std.proofs.lemmas.List.{drop-drop}
use Rattle.eql_values.specs.declared.order.OrderKey.{OrderKey}
use Rattle.eql_values.specs.declared.item.Item.{Item}
use Rattle.eql_values.specs.Ascending.{Ascend, AllAreAfter}
use Rattle.eql_values.specs.OrderKeys.{order_cmp}
use Rattle.eql_laws.proofs.Facts.{true_both}
use Rattle.eql_lane.specs.Holding.{pair}
use Rattle.eql_lane.specs.Passing.{PassesOver, IsEnd}

pub none_rest : (left now : Option (List ℕ)) → now ≡ left → IfSome left (λ t. (0 ≤ length t) × (now ≡ Some (drop 0 t)))
none_rest None now e = tt
none_rest (Some t) now e = (omega arith, e)

pub more_rest : (o p q : Option (List ℕ)) (a b : ℕ) → IfSome o (λ t. (a ≤ length t) × (p ≡ Some (drop a t))) → IfSome p (λ t. (b ≤ length t) × (q ≡ Some (drop b t)))
    → IfSome o (λ t. (a + b ≤ length t) × (q ≡ Some (drop (a + b) t)))
more_rest None p q a b h k = tt
more_rest (Some t) p q a b h k =
    let P : Option (List ℕ) → Type 0 = λ r. IfSome r (λ u. (b ≤ length u) × (q ≡ Some (drop b u))) in
    let m : (b ≤ length (drop a t)) × (q ≡ Some (drop b (drop a t))) = subst P h.1 k in
    (let x = length-drop a t in let y = m.0 in let z = h.0 in omega (arith, x, y, z), m.1 ∙ ap (λ (u : List ℕ). let r : Option (List ℕ) = Some u in r) (drop-drop b a t))

-- where nothing is left behind so many bytes, there are no more
pub end_rest : (o p : Option (List ℕ)) (n : ℕ) → IfSome o (λ t. (n ≤ length t) × (p ≡ Some (drop n t))) → IfSome p (λ u. u ≡ []) → IfSome o (λ t. length t ≡ n)
end_rest None p n h k = tt
end_rest (Some t) p n h k =
    let P : Option (List ℕ) → Type 0 = λ r. IfSome r (λ u. u ≡ []) in
    let m : drop n t ≡ [] = subst P h.1 k in
    let a = ap length m in let b = length-drop n t in let d = h.0 in omega (arith, a, b, d)

-- ---- the events of a cut
is_below_key : (a b : OrderKey) → order_cmp a b ≡ Less → IsTrue (is_lt (order_cmp a b))
is_below_key a b h = ap is_lt h

after_all : (a : OrderKey) (items : List Item) → AllAreAfter a items → IsTrue (below_all order_cmp a (map pair items))
after_all a [] h = refl
after_all a (item ∷ items) h = true_both _ _ (is_below_key a item.order h.0) (after_all a items h.1)

pub sorted_pairs : (items : List Item) → Ascend items → IsTrue (is_sorted order_cmp (map pair items))
sorted_pairs [] h = refl
sorted_pairs (item ∷ items) h = true_both _ _ (after_all item.order items h.1) (sorted_pairs items h.2)

-- ---- passing over, step by step
no_more : (a b : ℕ) → b ≡ 0 → a + b ≡ a
no_more a b e = omega (arith, e)

end_rest_on : (o p : Option (List ℕ)) (n : ℕ) → n ≡ 0 → IfSome o (λ t. (n ≤ length t) × (p ≡ Some (drop n t))) → (o ≡ None → p ≡ None) → IfSome o (λ u. u ≡ []) → IfSome p (λ u. u ≡ [])
end_rest_on None p n e h silent k = let P : Option (List ℕ) → Type 0 = λ r. IfSome r (λ u. u ≡ []) in subst P (sym (silent refl)) tt
end_rest_on (Some t) p n e h silent k =
    let P : Option (List ℕ) → Type 0 = λ r. IfSome r (λ u. u ≡ []) in subst P (sym h.1) (dropped n t k)
  where
    dropped : (n : ℕ) (t : List ℕ) → t ≡ [] → drop n t ≡ []
    dropped zero t e = e
    dropped (suc n) [] e = refl
    dropped (suc n) (x ∷ t) e = cc

module _ {S : Type 0} (left lent_as : S → Option (List ℕ)) where
  pub passed_start : (x : S) → PassesOver left lent_as 0 x x
  passed_start x = record { rest = none_rest (left x) (left x) refl; silent = λ e. e; named = refl }

  pub passed_join : (a b : ℕ) (x y z : S) → PassesOver left lent_as a x y → PassesOver left lent_as b y z → PassesOver left lent_as (a + b) x z
  passed_join a b x y z p q = record {
    rest = more_rest (left x) (left y) (left z) a b p.rest q.rest;
    silent = λ e. q.silent (p.silent e);
    named = q.named ∙ p.named;
  }

  pub passed_none : (a b : ℕ) (x y z : S) → b ≡ 0 → PassesOver left lent_as a x y → PassesOver left lent_as b y z → PassesOver left lent_as a x z
  passed_none a b x y z e p q = subst (λ (n : ℕ). PassesOver left lent_as n x z) (no_more a b e) (passed_join a b x y z p q)

  pub end_on : (x y : S) (n : ℕ) → n ≡ 0 → PassesOver left lent_as n x y → IsEnd left x → IsEnd left y
  end_on x y n e p h = end_rest_on (left x) (left y) n e p.rest p.silent h
