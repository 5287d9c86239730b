-- The operands of a call, taken off a stack.
use Rattle.std.proofs.Common.{◌≡◌, ℕ, zero, suc, ◌+◌, ◌-◌, ◌≤◌, Bool, List, [], ◌∷◌, ◌++◌, length, map, reverse, take, drop, append_assoc, append-nil, Option, Some, None, refl, sym, ap, ◌∙◌, arith, zero-add}
use Rattle.std.proofs.lemmas.List.{reverse-append, take-append-drop, length-drop, map-append, length-map, length-reverse}
use Rattle.eql_values.specs.declared.value.Value.{Value}
use Rattle.eql_code.specs.declared.cells.Cell.{Cell}
use Rattle.eql_check.specs.declared.function.Function.{Function}
use Rattle.eql_check.specs.Functions.{call_value}
use Rattle.eql_code.specs.declared.emit.Op.{Op}
use Rattle.eql_code.specs.declared.emit.Op.TheVariants as op
use Rattle.eql_code.specs.Machine.{take_off, on_many, stack_after}
use Rattle.eql_code.specs.Stack.{cell_value, stack_of}

-- one more value on the top
pub one_on : (v : Value) (vs st : List Value) → reverse (v ∷ vs) ++ st ≡ reverse vs ++ (v ∷ st)
one_on v vs st = ap (λ x. x ++ st) (reverse-append (v ∷ []) vs) ∙ append_assoc (reverse vs) (v ∷ []) st

taken_with : (vs args st : List Value) (k : ℕ) → take_off (length vs + k) args (reverse vs ++ st) ≡ take_off k (vs ++ args) st
taken_with [] args st k = ap (λ n. take_off n args st) (zero-add k)
taken_with (v ∷ vs) args st k =
    let count : length (v ∷ vs) + k ≡ length vs + suc k = omega arith in
    ap (λ n. take_off n args (reverse (v ∷ vs) ++ st)) count ∙ ap (take_off (length vs + suc k) args) (one_on v vs st)
    ∙ taken_with vs args (v ∷ st) (suc k)

-- what was put on a stack is taken off again, in its order
pub taken_back : (vs st : List Value) (n : ℕ) → n ≡ length vs → take_off n [] (reverse vs ++ st) ≡ Some (vs, st)
taken_back vs st n e =
    let count : n ≡ length vs + 0 = omega arith in
    ap (λ m. take_off m [] (reverse vs ++ st)) count ∙ taken_with vs [] st 0 ∙ ap (λ x. Some (x, st)) (append-nil vs)

-- the topmost cells as operands
pub called_top : (f : Cell → Value) (cells : List Cell) (n : ℕ) → n ≤ length cells →
    take_off n [] (reverse (map f cells)) ≡ Some (map f (drop (length cells - n) cells), reverse (map f (take (length cells - n) cells)))
called_top f cells n h =
    let front = take (length cells - n) cells in
    let back = drop (length cells - n) cells in
    let parts : reverse (map f cells) ≡ reverse (map f back) ++ reverse (map f front) =
    ap (λ cs. reverse (map f cs)) (sym (take-append-drop (length cells - n) cells)) ∙ ap reverse (map-append f front back) ∙ reverse-append (map f front) (map f back) in
    ap (take_off n []) parts ∙ taken_back (map f back) (reverse (map f front)) n (sym (length-map back f ∙ length-drop (length cells - n) cells ∙ omega arith))

-- a call puts its value in the place of its operands
pub answered : (f : Cell → Value) (cells new : List Cell) (n : ℕ) (g : List Value → Value) (made : Cell) → n ≤ length cells →
    new ≡ take (length cells - n) cells ++ made ∷ [] → f made ≡ g (map f (drop (length cells - n) cells)) →
    on_many g (take_off n [] (reverse (map f cells))) ≡ Some (reverse (map f new))
answered f cells new n g made h is gives =
    let front = take (length cells - n) cells in
    let one : reverse (map f new) ≡ f made ∷ reverse (map f front) =
    ap (λ cs. reverse (map f cs)) is ∙ ap reverse (map-append f front (made ∷ [])) ∙ reverse-append (map f front) (f made ∷ []) in
    ap (on_many g) (called_top f cells n h) ∙ ap (λ v. Some (v ∷ reverse (map f front))) (sym gives) ∙ ap Some (sym one)

some_taken : (n : ℕ) (args st : List Value) (p : List Value × List Value) → take_off n args st ≡ Some p → (n ≤ length st) × (length p.1 + n ≡ length st)
some_taken zero args st p e =
    let same : p ≡ (args, st) = cc in
    let left : length p.1 ≡ length st = ap (λ q. length q.1) same in
    (omega arith, omega arith)
some_taken (suc n) args [] p e = cc
some_taken (suc n) args (v ∷ st) p e =
    let fewer : (n ≤ length st) × (length p.1 + n ≡ length st) = some_taken n (v ∷ args) st p e in
    (omega arith, omega arith)

found : (g : List Value → Value) (o : Option (List Value × List Value)) (end : List Value) → on_many g o ≡ Some end →
    (p : List Value × List Value) × (o ≡ Some p) × (length end ≡ length p.1 + 1)
found g None end e = cc
found g (Some p) end e =
    let same : end ≡ g p.0 ∷ p.1 = cc in
    (p, refl, omega (arith, ap length same))

-- where a call finds its operands, there are as many, and it leaves one value in their place
pub can_call : (n : ℕ) (g : List Value → Value) (st end : List Value) → on_many g (take_off n [] st) ≡ Some end → (n ≤ length st) × (length end + n ≡ length st + 1)
can_call n g st end e =
    let are = found g (take_off n [] st) end e in
    let enough : (n ≤ length st) × (length (are.0).1 + n ≡ length st) = some_taken n [] st are.0 are.1 in
    (enough.0, omega (arith, are.2))

-- the same of the cells that stand for a stack
pub can_call_top : (slots : List Value) (ops : List Op) (cells : List Cell) (o : Op) (f : Function) (fold : Bool) (n : ℕ) (end : List Value) → o ≡ op.Call f fold n →
    stack_after slots o (stack_of ops slots cells) ≡ Some end → (n ≤ length cells) × (length end + n ≡ length cells + 1)
can_call_top slots ops cells o f fold n end is e =
    let count : length (stack_of ops slots cells) ≡ length cells = length-reverse (map (cell_value ops slots) cells) ∙ length-map cells (cell_value ops slots) in
    let can : (n ≤ length (stack_of ops slots cells)) × (length end + n ≡ length (stack_of ops slots cells) + 1) =
    can_call n (call_value f fold) (stack_of ops slots cells) end (ap (λ x. stack_after slots x (stack_of ops slots cells)) (sym is) ∙ e) in
    (omega (arith, can.0), omega (arith, can.1))
