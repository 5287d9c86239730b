-- The values of the fields so far, one more.
use Rattle.std.proofs.Common.{◌≡◌, ℕ, ◌+◌, ◌<◌, List, [], ◌∷◌, ◌++◌, map, drop, length, get_or, Result, Ok, Err, refl, sym, ap, ◌∙◌}
use Rattle.std.proofs.lemmas.List.{drop_more}
use Rattle.eql_values.specs.declared.cut.Reason.{Reason}
use Rattle.eql_values.specs.declared.value.Kind.{Kind}
use Rattle.eql_values.specs.declared.value.Value.{Value}
use Rattle.eql_lines.specs.Found.{found_of}
use Rattle.eql_lines.specs.Values.{value_and}
use Rattle.eql_lines.specs.Gathered.{value_found, values_found}
use Rattle.eql_lines.specs.Partly.{behind_values}
use Rattle.eql_lines.specs.declared.slots.Slot.{Slot}
use Rattle.eql_lines.proofs.Adding.{append_more}

behind_more : (vs : List Value) (v : Value) (r : Result (List Value) Reason) → behind_values vs (value_and (Ok v) r) ≡ behind_values (vs ++ v ∷ []) r
behind_more vs v (Err r) = refl
behind_more vs v (Ok rest) = ap (λ xs. Ok xs) (sym (append_more vs (v ∷ []) rest))

-- the fields that are left begin with this one
left_is : (fields : List (List ℕ × Kind)) (slots : List Slot) (i : ℕ) (field : List ℕ × Kind) (slot : Slot) → i < length fields → i < length slots
    → values_found (drop i fields) (map found_of (drop i slots))
    ≡ value_and (value_found (get_or fields i field).1 (found_of (get_or slots i slot))) (values_found (drop (i + 1) fields) (map found_of (drop (i + 1) slots)))
left_is fields slots i field slot f s = rw (drop_more fields i field f, drop_more slots i slot s) refl

pub one_more : (fields : List (List ℕ × Kind)) (slots : List Slot) (vs : List Value) (v : Value) (i : ℕ) (field : List ℕ × Kind) (slot : Slot)
    → i < length fields → i < length slots → value_found (get_or fields i field).1 (found_of (get_or slots i slot)) ≡ Ok v
    → behind_values vs (values_found (drop i fields) (map found_of (drop i slots)))
    ≡ behind_values (vs ++ v ∷ []) (values_found (drop (i + 1) fields) (map found_of (drop (i + 1) slots)))
one_more fields slots vs v i field slot f s is =
    let rest = values_found (drop (i + 1) fields) (map found_of (drop (i + 1) slots)) in
    ap (behind_values vs) (left_is fields slots i field slot f s ∙ ap (λ x. value_and x rest) is) ∙ behind_more vs v rest

pub refused : (fields : List (List ℕ × Kind)) (slots : List Slot) (vs : List Value) (r : Reason) (i : ℕ) (field : List ℕ × Kind) (slot : Slot)
    → i < length fields → i < length slots → value_found (get_or fields i field).1 (found_of (get_or slots i slot)) ≡ Err r
    → behind_values vs (values_found (drop i fields) (map found_of (drop i slots))) ≡ Err r
refused fields slots vs r i field slot f s is =
    let rest = values_found (drop (i + 1) fields) (map found_of (drop (i + 1) slots)) in
    ap (behind_values vs) (left_is fields slots i field slot f s ∙ ap (λ x. value_and x rest) is)
