-- What a look-up in pending sequences finds.
use Rattle.std.proofs.Common.{◌≡◌, ℕ, Bool, true, false, cond, List, [], ◌∷◌, Option, Some, refl, sym, subst}
use Rattle.std.specs.Prelude.{All, IfSome}
use Rattle.std.specs.List.{Contains}
use Rattle.std.specs.Ordering.{nat_cmp, eq_by_cmp}
use Rattle.std.specs.FinMap.{IsAntisymmetric, nat_cmp-IsAntisymmetric}
use Rattle.std.proofs.lemmas.List.Elements.{All-head, All-tail, All-contains_itself}
use Rattle.eql_values.specs.declared.found.Holder.{Holder}
use Rattle.eql_values.specs.declared.order.OrderKey.{OrderKey}
use Rattle.eql_values.specs.declared.value.Value.{Value}
use Rattle.eql_values.specs.Matching.{Slot, slot_cmp, opening_of}
use Rattle.eql_values.specs.Orders.{key_cmp}
use Rattle.eql_values.proofs.Same.{key_same}
use Rattle.eql_laws.proofs.Facts.{is_equal, both_equal}

-- slots that compare as equal are equal
slot_same : IsAntisymmetric slot_cmp
slot_same a b e =
    let both = both_equal (key_cmp a.0 b.0) (nat_cmp a.1 b.1) e in
    λ i. (key_same a.0 b.0 both.0 i, nat_cmp-IsAntisymmetric a.1 b.1 both.1 i)

-- what a look-up finds is the chain of one of the holders
pub opening_is : (P : Holder → Type 0) (holders : List Holder) → All P holders → (key : List Value) (stage : ℕ)
    → IfSome (opening_of holders key stage) (λ c. P (record { key = key; stage = stage; chain = c }))
opening_is P [] h key stage = tt
opening_is P (x ∷ holders) h key stage = one (eq_by_cmp slot_cmp (key, stage) (x.key, x.stage)) refl (opening_is P holders (All-tail P x holders h) key stage)
  where
    one : (b : Bool) → eq_by_cmp slot_cmp (key, stage) (x.key, x.stage) ≡ b → IfSome (opening_of holders key stage) (λ c. P (record { key = key; stage = stage; chain = c }))
        → IfSome (cond b (Some x.chain) (opening_of holders key stage)) (λ c. P (record { key = key; stage = stage; chain = c }))
    one true e rest =
        let same = sym (slot_same (key, stage) (x.key, x.stage) (is_equal (slot_cmp (key, stage) (x.key, x.stage)) e)) in
        subst (λ (s : Slot). P (record { key = s.0; stage = s.1; chain = x.chain })) same (All-head P x holders h)
    one false e rest = rest

pub opening_there : (holders : List Holder) (key : List Value) (stage : ℕ) (c : List OrderKey) → opening_of holders key stage ≡ Some c → Contains holders (record { key = key; stage = stage; chain = c })
opening_there holders key stage c found =
    subst (λ (o : Option (List OrderKey)). IfSome o (λ c. Contains holders (record { key = key; stage = stage; chain = c }))) found
    (opening_is (Contains holders) holders (All-contains_itself holders) key stage)
