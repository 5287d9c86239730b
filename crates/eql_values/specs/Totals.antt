-- The orders of texts, values, keys, slots, events and marks are total, and the test of two lists of names is an equivalence. The types' own
-- comparisons cite these proofs.
use Rattle.std.specs.Prelude.{◌≡◌, ℕ, ℤ, List, Option, Some, None, encode_utf8_all, refl}
use Rattle.std.specs.Ordering.{ordering_reverse}
use Rattle.std.specs.Cmp.{IsTotalOrder, IsEquivalence, bool_cmp_total, nat_eq_equiv, eq_by_cmp_equiv, on_equiv, and_equiv}
use Rattle.std.specs.Cmp.Lexicographic.{lists_equiv}
use Rattle.std.specs.declared.cmp.Ordering.TheVariants.{Less, Equal}
use Rattle.std.proofs.lemmas.Cmp.{on_total, then_total, nat_cmp_total, int_cmp_total, lists_total, nat_list_cmp_total}
use Rattle.eql_values.specs.declared.value.Kind.{Kind}
use Rattle.eql_values.specs.Names.{kind_place, names_eq}
use Rattle.eql_values.specs.Orders.{text_cmp, kind_rank, bool_in, long_in, text_in, ip_in, value_cmp, key_cmp}
use Rattle.eql_values.specs.OrderKeys.{tie_cmp, order_cmp}
use Rattle.eql_values.specs.Marks.{mark_rank, time_in, mark_cmp}
use Rattle.eql_values.specs.Matching.{slot_cmp}

pub text_cmp_total : IsTotalOrder text_cmp
text_cmp_total = on_total encode_utf8_all nat_list_cmp_total

pub value_cmp_total : IsTotalOrder value_cmp
value_cmp_total =
    then_total (on_total kind_rank nat_cmp_total)
    (then_total (on_total bool_in bool_cmp_total) (then_total (on_total long_in int_cmp_total) (then_total (on_total text_in text_cmp_total) (on_total ip_in nat_cmp_total))))

pub key_cmp_total : IsTotalOrder key_cmp
key_cmp_total = lists_total value_cmp_total

pub slot_cmp_total : IsTotalOrder slot_cmp
slot_cmp_total = then_total (on_total (λ s. s.0) key_cmp_total) (on_total (λ s. s.1) nat_cmp_total)

tie_antisymm : (x y : Option ℤ) → tie_cmp x y ≡ ordering_reverse (tie_cmp y x)
tie_antisymm (Some x) (Some y) = int_cmp_total.antisymm x y
tie_antisymm (Some x) None = refl
tie_antisymm None (Some y) = refl
tie_antisymm None None = refl

tie_trans : (x y z : Option ℤ) → tie_cmp x y ≡ Less → tie_cmp y z ≡ Less → tie_cmp x z ≡ Less
tie_trans (Some x) (Some y) (Some z) p q = int_cmp_total.trans x y z p q
tie_trans (Some x) (Some y) None p q = refl
tie_trans (Some x) None (Some z) p q = cc
tie_trans (Some x) None None p q = refl
tie_trans None (Some y) z p q = cc
tie_trans None None z p q = cc

tie_congr : (x y z : Option ℤ) → tie_cmp x y ≡ Equal → tie_cmp x z ≡ tie_cmp y z
tie_congr (Some x) (Some y) (Some z) p = int_cmp_total.congr x y z p
tie_congr (Some x) (Some y) None p = refl
tie_congr (Some x) None z p = cc
tie_congr None (Some y) z p = cc
tie_congr None None z p = refl

pub tie_cmp_total : IsTotalOrder tie_cmp
tie_cmp_total = record { antisymm = tie_antisymm; trans = tie_trans; congr = tie_congr }

pub order_cmp_total : IsTotalOrder order_cmp
order_cmp_total =
    then_total (on_total (λ k. k.ts) int_cmp_total)
    (then_total (on_total (λ k. k.tie) tie_cmp_total) (then_total (on_total (λ k. k.shard) nat_cmp_total) (then_total (on_total (λ k. k.line) nat_cmp_total) (on_total (λ k. k.at) nat_cmp_total))))

pub mark_cmp_total : IsTotalOrder mark_cmp
mark_cmp_total = then_total (on_total mark_rank nat_cmp_total) (on_total time_in int_cmp_total)

pub names_eq_equiv : IsEquivalence names_eq
names_eq_equiv =
    lists_equiv (and_equiv (on_equiv (λ (x : List ℕ × Kind). x.0) (eq_by_cmp_equiv text_cmp_total)) (on_equiv (λ (x : List ℕ × Kind). kind_place x.1) nat_eq_equiv))
