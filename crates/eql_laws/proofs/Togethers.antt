-- What lies below a mark stands before what doesn't.
use Rattle.std.proofs.Common.{◌≡◌, ℤ, ◌≤ℤ◌, true, false, List, [], ◌∷◌, ◌++◌, refl, arith}
use Rattle.std.specs.Int.Signed.{lt_z}
use Rattle.std.specs.Ordering.{int_cmp, ordering_then}
use Rattle.std.specs.declared.cmp.Ordering.{Ordering}
use Rattle.std.specs.declared.cmp.Ordering.TheVariants.{Less, Equal, Greater}
use Rattle.std.proofs.lemmas.Int.{ints}
use Rattle.std.proofs.lemmas.Cmp.{int_ranked}
use Rattle.std.proofs.lemmas.List.Elements.{All-head, All-tail}
use Rattle.eql_values.specs.declared.order.OrderKey.{OrderKey}
use Rattle.eql_values.specs.declared.order.Mark.{Mark}
use Rattle.eql_values.specs.declared.order.Mark.TheVariants.{Start, At, End}
use Rattle.eql_values.specs.declared.item.Item.{Item}
use Rattle.eql_values.specs.Ascending.{AllAreAfter}
use Rattle.eql_values.specs.Marks.{is_below}
use Rattle.eql_values.specs.OrderKeys.{order_cmp}
use Rattle.eql_laws.specs.Together.{AscendTogether, StandsBefore, NotBelowComesFrom}

earlier : (t ts us : ℤ) (o rest : Ordering) → o ≡ int_cmp ts us → lt_z ts t ≡ true → lt_z us t ≡ false → ordering_then o rest ≡ Less
earlier t ts us Less rest e p q = refl
earlier t ts us Equal rest e p q = let k = int_ranked ts us Equal e in absurd (grind (arith, ints, k, p, q))
earlier t ts us Greater rest e p q = let k = int_ranked ts us Greater e in absurd (grind (arith, ints, k, p, q))

before_one : (mark : Mark) (x y : Item) → is_below mark x ≡ true → is_below mark y ≡ false → order_cmp x.order y.order ≡ Less
before_one Start x y p q = cc
before_one (At t) x y p q = earlier t x.order.ts y.order.ts (int_cmp x.order.ts y.order.ts) _ refl p q
before_one End x y p q = cc

pub stands_before : StandsBefore
stands_before mark item [] p q = tt
stands_before mark item (next ∷ items) p q = (
  before_one mark item next p (All-head (λ (x : Item). is_below mark x ≡ false) next items q),
  stands_before mark item items p (All-tail (λ (x : Item). is_below mark x ≡ false) next items q),
)

after_both : (event : OrderKey) (a b : List Item) → AllAreAfter event a → AllAreAfter event b → AllAreAfter event (a ++ b)
after_both event [] b p q = q
after_both event (item ∷ a) b p q = (p.0, after_both event a b p.1 q)

pub ascend_together : AscendTogether
ascend_together mark [] b up more p q = more
ascend_together mark (item ∷ a) b up more p q =
    let here = All-head (λ (x : Item). is_below mark x ≡ true) item a p in
    (up.0, after_both item.order a b up.1 (stands_before mark item b here q), ascend_together mark a b up.2 more (All-tail (λ (x : Item). is_below mark x ≡ true) item a p) q)

not_before : (t ts : ℤ) → lt_z ts t ≡ false → t ≤ℤ ts
not_before t ts e = grind (arith, ints)

pub none_below_from : NotBelowComesFrom
none_below_from t [] h = tt
none_below_from t (item ∷ items) h = (
  not_before t item.order.ts (All-head (λ (x : Item). is_below (At t) x ≡ false) item items h),
  none_below_from t items (All-tail (λ (x : Item). is_below (At t) x ≡ false) item items h),
)
