-- What compares as equal in the orders of texts, values, keys, slots, events and marks is equal.
use Rattle.std.proofs.Common.{◌≡◌, Bool, true, false, Some, None, refl, ap}
use Rattle.std.specs.Prelude.{ℕ, List, [], ◌∷◌, ◌==◌}
use Rattle.std.proofs.lemmas.Bool.{and_parts}
use Rattle.eql_values.specs.declared.value.Kind.{Kind}
use Rattle.eql_values.specs.declared.value.Kind.TheVariants as kind
use Rattle.eql_values.specs.Names.{kind_place, name_eq, names_eq}
use Rattle.std.specs.Ordering.{nat_cmp, int_cmp, bool_cmp, ordering_then, is_eq}
use Rattle.std.specs.FinMap.{IsAntisymmetric, nat_cmp-IsAntisymmetric, int_cmp-IsAntisymmetric, slice_cmp-IsAntisymmetric}
use Rattle.std.specs.declared.cmp.Ordering.{Ordering}
use Rattle.std.specs.declared.cmp.Ordering.TheVariants.{Less, Equal, Greater}
use Rattle.std.proofs.lemmas.Str.{encodes_same}
use Rattle.eql_values.specs.declared.value.Value.TheVariants as value
use Rattle.eql_values.specs.declared.order.Mark.TheVariants.{Start, At, End}
use Rattle.eql_values.specs.Orders.{text_cmp, text_eq, value_cmp, key_cmp}
use Rattle.eql_values.specs.OrderKeys.{tie_cmp, order_cmp}
use Rattle.eql_values.specs.Marks.{mark_cmp}
use Rattle.eql_values.specs.Matching.{slot_cmp}

-- texts that compare as equal are equal
pub text_same : IsAntisymmetric text_cmp
text_same x y e = encodes_same x y (slice_cmp-IsAntisymmetric nat_cmp-IsAntisymmetric _ _ e)

first_equal : (r s : Ordering) → ordering_then r s ≡ Equal → r ≡ Equal
first_equal Less s e = cc
first_equal Equal s e = refl
first_equal Greater s e = cc

bool_same : (a b : Bool) → bool_cmp a b ≡ Equal → a ≡ b
bool_same true true e = refl
bool_same false false e = refl
bool_same true false e = cc
bool_same false true e = cc

pub value_same : IsAntisymmetric value_cmp
value_same value.Null value.Null e = refl
value_same (value.Bool a) (value.Bool b) e = ap value.Bool (bool_same a b (first_equal _ _ e))
value_same (value.Long a) (value.Long b) e = ap value.Long (int_cmp-IsAntisymmetric a b (first_equal _ _ e))
value_same (value.Text a) (value.Text b) e = ap value.Text (text_same a b (first_equal _ _ e))
value_same (value.Ip a) (value.Ip b) e = ap value.Ip (nat_cmp-IsAntisymmetric a b e)
value_same _ _ e = cc

pub key_same : IsAntisymmetric key_cmp
key_same = slice_cmp-IsAntisymmetric value_same

-- events that compare as equal are equal
tie_same : IsAntisymmetric tie_cmp
tie_same (Some x) (Some y) e = ap Some (int_cmp-IsAntisymmetric x y e)
tie_same (Some x) None e = cc
tie_same None (Some y) e = cc
tie_same None None e = refl

both_equal : (a b : Ordering) → ordering_then a b ≡ Equal → (a ≡ Equal) × (b ≡ Equal)
both_equal Less b e = cc
both_equal Equal b e = (refl, e)
both_equal Greater b e = cc

pub order_same : IsAntisymmetric order_cmp
order_same x y e =
    let a = both_equal (int_cmp x.ts y.ts) _ e in
    let b = both_equal (tie_cmp x.tie y.tie) _ a.1 in
    let c = both_equal (nat_cmp x.shard y.shard) _ b.1 in
    let d = both_equal (nat_cmp x.line y.line) _ c.1 in
    λ i. record {
      ts = int_cmp-IsAntisymmetric x.ts y.ts a.0 i;
      tie = tie_same x.tie y.tie b.0 i;
      shard = nat_cmp-IsAntisymmetric x.shard y.shard c.0 i;
      line = nat_cmp-IsAntisymmetric x.line y.line d.0 i;
      at = nat_cmp-IsAntisymmetric x.at y.at d.1 i;
    }

-- marks that compare as equal are equal
pub mark_same : IsAntisymmetric mark_cmp
mark_same Start Start e = refl
mark_same (At t) (At u) e = ap At (int_cmp-IsAntisymmetric t u e)
mark_same End End e = refl
mark_same _ _ e = cc

-- slots that compare as equal are equal
pub slot_same : IsAntisymmetric slot_cmp
slot_same x y e =
    let both = both_equal (key_cmp x.0 y.0) _ e in
    λ i. (key_same x.0 y.0 both.0 i, nat_cmp-IsAntisymmetric x.1 y.1 both.1 i)

-- lists of names and kinds that the test holds of are equal
kind_same : (x y : Kind) → (kind_place x == kind_place y) ≡ true → x ≡ y
kind_same kind.Bool kind.Bool e = refl
kind_same kind.Long kind.Long e = refl
kind_same kind.Text kind.Text e = refl
kind_same kind.Ip kind.Ip e = refl
kind_same _ _ e = cc

text_told : (x y : List ℕ) → text_eq x y ≡ true → x ≡ y
text_told x y e = text_same x y (is_equal (text_cmp x y) e)
  where
    is_equal : (o : Ordering) → is_eq o ≡ true → o ≡ Equal
    is_equal Equal h = refl
    is_equal Less h = cc
    is_equal Greater h = cc

pub names_same : (xs ys : List (List ℕ × Kind)) → names_eq xs ys ≡ true → xs ≡ ys
names_same [] [] e = refl
names_same [] (y ∷ ys) e = cc
names_same (x ∷ xs) [] e = cc
names_same (x ∷ xs) (y ∷ ys) e =
    let both = and_parts (name_eq x y) (names_eq xs ys) e in
    let one = and_parts (text_eq x.0 y.0) (kind_place x.1 == kind_place y.1) both.0 in
    λ i. (text_told x.0 y.0 one.0 i, kind_same x.1 y.1 one.1 i) ∷ names_same xs ys both.1 i
