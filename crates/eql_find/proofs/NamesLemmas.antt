-- The names of a mapping ascend, in the words of cuts.
use Rattle.std.proofs.Common.{◌≡◌, ℕ, Bool, true, List, [], ◌∷◌, refl, ap, ap₂}
use Rattle.std.specs.Prelude.{IsTrue, ◌&&◌}
use Rattle.std.specs.FinMap.Entries.{below_all, is_sorted}
use Rattle.std.specs.List.{AllByRecursion}
use Rattle.std.specs.Map.{keys_of}
use Rattle.std.specs.Ordering.{is_lt}
use Rattle.std.specs.declared.cmp.Ordering.TheVariants.{Less}
use Rattle.std.proofs.lemmas.Map.Keys.{sorted_head, sorted_tail}
use Rattle.eql_values.specs.declared.value.Kind.{Kind}
use Rattle.eql_values.specs.Orders.{text_cmp}
use Rattle.eql_check.specs.Mappings.{NamesAscend}
use Rattle.eql_cut.specs.CutValues.{names_ascend}

both : (a b : Bool) → a ≡ true → b ≡ true → (a && b) ≡ true
both a b p q = ap₂ (λ (x y : Bool). x && y) p q

all_above : (name : List ℕ) (names : List (List ℕ × Kind)) → AllByRecursion (λ y. text_cmp name y ≡ Less) (keys_of names)
    → below_all text_cmp name names ≡ true
all_above name [] h = refl
all_above name (e ∷ es) h = both (is_lt (text_cmp name e.0)) (below_all text_cmp name es) (ap is_lt h.0) (all_above name es h.1)

in_order : (names : List (List ℕ × Kind)) → NamesAscend names → is_sorted text_cmp names ≡ true
in_order [] h = refl
in_order (e ∷ es) h =
    both (below_all text_cmp e.0 es) (is_sorted text_cmp es) (all_above e.0 es (sorted_head text_cmp e.0 (keys_of es) h))
    (in_order es (sorted_tail text_cmp e.0 (keys_of es) h))

pub names_up : (names : List (List ℕ × Kind)) → NamesAscend names → IsTrue (names_ascend names)
names_up names h = in_order names h
