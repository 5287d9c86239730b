-- The code of an expression leaves its meaning on the stack, and gets no deeper than its depth.
use Rattle.std.proofs.Common.{◌≡◌, ℕ, zero, suc, ◌+◌, ◌-◌, ◌≤◌, ◌<◌, max, List, [], ◌∷◌, ◌++◌, length, reverse, Bool, true, false, Option, Some, None, refl, sym, ap, ap₂, subst, ◌∙◌, ◌⊎◌, inl, inr, append_assoc, append-nil, drop, drop-cons, arith, get_or}
use Rattle.std.specs.Prelude.{nat_le, if◌then◌else◌, not, ◌||◌, ◌&&◌, option_map}
use Rattle.std.proofs.lemmas.Bool.Decides.{nat_tests}
use Rattle.std.proofs.lemmas.List.{drop-drop, length-drop}
use Rattle.eql_values.specs.declared.value.Value.{Value}
use Rattle.eql_values.specs.declared.value.Value.TheVariants as value
use Rattle.eql_values.specs.declared.value.Kind.{Kind}
use Rattle.eql_query.specs.Tree.{Tree, Trees, none, more}
use Rattle.eql_query.specs.Tree as t
use Rattle.eql_text.specs.declared.addresses.Block.{Block}
use Rattle.eql_query.specs.declared.expr.CmpOp.{CmpOp}
use Rattle.eql_check.specs.declared.function.Function.{Function}
use Rattle.eql_check.specs.declared.function.Function.TheVariants.{CidrMatch}
use Rattle.eql_check.specs.Names.{function_of}
use Rattle.eql_check.specs.Truth.{means, values, value_at, value_in, slot_of, is_literal_null, call_of}
use Rattle.eql_check.specs.ThreeValued.{truth, truth_in, conjunction, disjunction, all_from, any_from}
use Rattle.eql_check.specs.Comparisons.{compares, matches_one}
use Rattle.eql_operators.specs.Prepared.{addresses_in, equals_address, is_among_read, is_in_blocks}
use Rattle.eql_check.specs.Arithmetic.{math_value, negative_value}
use Rattle.eql_check.specs.Functions.{call_value}
use Rattle.eql_check.specs.Kinds.{holds_field, hold_field}
use Rattle.eql_code.specs.declared.emit.Op.{Op}
use Rattle.eql_code.specs.declared.emit.Op.TheVariants as op
use Rattle.eql_code.specs.Machine.{stack_after, within, runs, skips, not_value, on_many}
use Rattle.eql_code.specs.Stack.{gives, top_of, makes_text, is_free}
use Rattle.eql_code.specs.Code.{code, code_each, code_all, code_first, constant, settled_code, settled_depth, address_op, compare_code, compare_depth, blocks_in, is_cidr, cidr_if, cidr_op, plain_call, call_code, field_code, count_of, depth, depth_each, depth_all, depth_first, plain_depth, call_depth}
use Rattle.eql_code.proofs.Operands.{one_on, taken_back}
use Rattle.eql_code.proofs.Settled.{same_without}
use Rattle.eql_code.proofs.Prepared.{not_null, cidr_is, same_equality, swapped, IsWritten, written, same_cidr, same_among}

-- what `and` or `or` leaves of a start and a list
abbrev folded : (Option Bool → Option Bool → Option Bool) → Option Bool → List Value → Option Bool
folded f p [] = p
folded f p (v ∷ vs) = folded f (f p (truth_in v)) vs

-- a start that no operand changes
kept : (f : Option Bool → Option Bool → Option Bool) (p : Option Bool) (vs : List Value) → ((q : Option Bool) → f p q ≡ p) → folded f p vs ≡ p
kept f p [] stays = refl
kept f p (v ∷ vs) stays = ap (λ q. folded f q vs) (stays (truth_in v)) ∙ kept f p vs stays

folded-and : (p : Option Bool) (vs : List Value) → folded conjunction p vs ≡ all_from p vs
folded-and p [] = refl
folded-and p (v ∷ vs) = folded-and (conjunction p (truth_in v)) vs

folded-or : (p : Option Bool) (vs : List Value) → folded disjunction p vs ≡ any_from p vs
folded-or p [] = refl
folded-or p (v ∷ vs) = folded-or (disjunction p (truth_in v)) vs

-- behind an operator of a list nothing is passed over, or the k operations that follow, which would change nothing
abbrev Passes : (ℕ → Op) → (Option Bool → Option Bool → Option Bool) → ℕ → Option Bool → List Value → Type 0
Passes o f k p st = (skips (o k) (truth p ∷ st) ≡ 0) ⊎ ((skips (o k) (truth p ∷ st) ≡ k) × ((q : Option Bool) → f p q ≡ p))

abbrev Cuts : (ℕ → Op) → (Option Bool → Option Bool → Option Bool) → Type 0
Cuts o f = (k : ℕ) (p : Option Bool) (st : List Value) → Passes o f k p st

cuts-and : Cuts op.And conjunction
cuts-and k None st = inl refl
cuts-and k (Some true) st = inl refl
cuts-and k (Some false) st = inr (refl, λ q. refl)

cuts-or : Cuts op.Or disjunction
cuts-or k None st = inl refl
cuts-or k (Some true) st = inr (refl, λ q. refl)
cuts-or k (Some false) st = inl refl

below : (n limit : ℕ) → n ≤ limit → nat_le n limit ≡ true
below n limit h = grind (arith, nat_tests)

then_if : {A : Type 0} (b : Bool) (x y : A) → b ≡ true → (if b then x else y) ≡ x
then_if true x y e = refl
then_if false x y e = cc

-- one operation that does not get too deep, and what it passes over
one_of : (slots : List Value) (limit : ℕ) (o : Op) (os : List Op) (st st' : List Value) (n : ℕ) → stack_after slots o st ≡ Some st' →
    length st' ≤ limit → skips o st' ≡ n → runs slots limit 0 (o ∷ os) st ≡ runs slots limit n os st'
one_of slots limit o os st st' n e h next =
    ap (λ x. within limit x (λ st. runs slots limit (skips o st) os st)) e ∙ then_if _ _ _ (below (length st') limit h)
    ∙ ap (λ m. runs slots limit m os st') next

-- an operation behind which nothing is passed over
abbrev IsPlain : Op → Type 0
IsPlain o = (st : List Value) → skips o st ≡ 0

one : (slots : List Value) (limit : ℕ) (o : Op) (os : List Op) (st st' : List Value) → IsPlain o → stack_after slots o st ≡ Some st' →
    length st' ≤ limit → runs slots limit 0 (o ∷ os) st ≡ runs slots limit 0 os st'
one slots limit o os st st' plain e h = one_of slots limit o os st st' 0 e h (plain st')

-- what is passed over to its end
passed : (slots : List Value) (limit : ℕ) (xs rest : List Op) (st : List Value) →
    runs slots limit (length xs) (xs ++ rest) st ≡ runs slots limit 0 rest st
passed slots limit [] rest st = refl
passed slots limit (x ∷ xs) rest st = passed slots limit xs rest st

or_false : (b : Bool) → (b || false) ≡ b
or_false true = refl
or_false false = refl

truth_back : (p : Option Bool) → truth_in (truth p) ≡ p
truth_back None = refl
truth_back (Some b) = refl

some_plain : (f : Option Function) (n : ℕ) → 0 < plain_depth f n
some_plain (Some f) n = omega arith
some_plain None n = omega arith

some_if : (b : Bool) (d : ℕ) → 0 < d → 0 < (if b then d else 1)
some_if true d h = h
some_if false d h = omega arith

some_compare : (r l : Option Op) (plain : Op) (a b : ℕ) → 0 < a → 0 < b → 0 < compare_depth r l plain a b
some_compare (Some o) l plain a b h h' = h
some_compare None (Some o) plain a b h h' = h'
some_compare None None plain a b h h' = omega arith

some_read : (o : Option (List Block)) (first n : ℕ) → 0 < first → 0 < n → 0 < call_depth (option_map op.Cidr o) first n
some_read None first n h h' = h'
some_read (Some blocks) first n h h' = h

mutual
  depth_some : (a : Tree) → 0 < depth a
  depth_some t.null = omega arith
  depth_some (t.bool b) = omega arith
  depth_some (t.long n) = omega arith
  depth_some (t.str s) = omega arith
  depth_some (t.field name optional) = omega arith
  depth_some (t.not a) = some_if (holds_field a) (depth a) (depth_some a)
  depth_some (t.and es) = some_if (hold_field es) (suc (depth_each es)) (omega arith)
  depth_some (t.or es) = some_if (hold_field es) (suc (depth_each es)) (omega arith)
  depth_some (t.cmp how a b) =
      some_if (holds_field a || holds_field b) (compare_depth (address_op how b) (address_op how a) (op.Compare (is_literal_null a || is_literal_null b) how) (depth a) (depth b))
      (some_compare (address_op how b) (address_op how a) (op.Compare (is_literal_null a || is_literal_null b) how) (depth a) (depth b) (depth_some a) (depth_some b))
  depth_some (t.pattern how a patterns) = some_if (holds_field a) (depth a) (depth_some a)
  depth_some (t.member fold turned a list) = some_if (holds_field a) (depth a) (depth_some a)
  depth_some (t.neg a) = some_if (holds_field a) (depth a) (depth_some a)
  depth_some (t.math how a b) = some_if (holds_field a || holds_field b) (max (depth a) (suc (depth b))) (omega arith)
  depth_some (t.call name fold args) =
      some_if (hold_field args) (call_depth (cidr_op (function_of name fold) args) (depth_first args) (plain_depth (function_of name fold) (depth_all 0 args)))
      (some_call (is_cidr (function_of name fold)) args (plain_depth (function_of name fold) (depth_all 0 args)) (some_plain (function_of name fold) (depth_all 0 args)))

  some_call : (cidr : Bool) (args : Trees) (n : ℕ) → 0 < n → 0 < call_depth (cidr_if cidr args) (depth_first args) n
  some_call false args n h = h
  some_call true none n h = h
  some_call true (more a es) n h = some_read (blocks_in es) (depth a) n (depth_some a) h

module _ (env : List ℕ → Value) where
  count_values : (es : Trees) → count_of es ≡ length (values env es)
  count_values none = refl
  count_values (more a es) = ap suc (count_values es)

module _ (slots : List Value) (limit : ℕ) where
  -- the operations c leave x on every stack, and get d deep
  abbrev Leaves : List Op → ℕ → Value → Type 0
  Leaves c d x = (rest : List Op) (st : List Value) → length st + d ≤ limit →
      runs slots limit 0 (c ++ rest) st ≡ runs slots limit 0 rest (x ∷ st)

  push : (o : Op) (x : Value) → IsPlain o → ((st : List Value) → stack_after slots o st ≡ Some (x ∷ st)) → Leaves (o ∷ []) 1 x
  push o x plain is rest st h = one slots limit o rest st (x ∷ st) plain (is st) (omega arith)

  after_one : (c : List Op) (d : ℕ) (x : Value) (o : Op) (f : Value → Value) → Leaves c d x → 0 < d → IsPlain o →
      ((a : Value) (st : List Value) → stack_after slots o (a ∷ st) ≡ Some (f a ∷ st)) → Leaves (c ++ o ∷ []) d (f x)
  after_one c d x o f run some plain is rest st h =
      ap (λ os. runs slots limit 0 os st) (append_assoc c (o ∷ []) rest) ∙ run (o ∷ rest) st h
      ∙ one slots limit o rest (x ∷ st) (f x ∷ st) plain (is x st) (omega arith)

  after_two : (c c' : List Op) (d d' : ℕ) (x y : Value) (o : Op) (f : Value → Value → Value) → Leaves c d x → Leaves c' d' y → IsPlain o →
      ((a b : Value) (st : List Value) → stack_after slots o (b ∷ a ∷ st) ≡ Some (f a b ∷ st)) →
      Leaves (c ++ (c' ++ o ∷ [])) (max d (suc d')) (f x y)
  after_two c c' d d' x y o f run run' plain is rest st h =
      ap (λ os. runs slots limit 0 os st) (append_assoc c (c' ++ o ∷ []) rest ∙ ap (λ os. c ++ os) (append_assoc c' (o ∷ []) rest))
      ∙ run (c' ++ (o ∷ rest)) st (omega arith) ∙ run' (o ∷ rest) (x ∷ st) (omega arith)
      ∙ one slots limit o rest (y ∷ x ∷ st) (f x y ∷ st) plain (is x y st) (omega arith)

  of_field : (i : Option ℕ) → Leaves (field_code i) 1 (value_in slots i)
  of_field None = push (op.Push value.Null) value.Null (λ st. refl) (λ st. refl)
  of_field (Some i) = push (op.Slot i) (get_or slots i value.Null) (λ st. refl) (λ st. refl)

  -- a value that is put on the stack, and operations that turn the value on the top
  begun : (o : Op) (x y : Value) (c : List Op) (d : ℕ) → IsPlain o → ((st : List Value) → stack_after slots o st ≡ Some (x ∷ st)) →
      ((rest : List Op) (st : List Value) → length st + suc d ≤ limit →
      runs slots limit 0 (c ++ rest) (x ∷ st) ≡ runs slots limit 0 rest (y ∷ st)) → Leaves (o ∷ c) (suc d) y
  begun o x y c d plain is run rest st h = one slots limit o (c ++ rest) st (x ∷ st) plain (is st) (omega arith) ∙ run rest st h

  -- an operator of a list joins its operand to the truth value below it
  abbrev Joins : (ℕ → Op) → (Option Bool → Option Bool → Option Bool) → Type 0
  Joins o f = (k : ℕ) (p : Option Bool) (v : Value) (st : List Value) → stack_after slots (o k) (v ∷ truth p ∷ st) ≡ Some (truth (f p (truth_in v)) ∷ st)

  joins-and : Joins op.And conjunction
  joins-and k p v st = ap (λ q. Some (truth (conjunction q (truth_in v)) ∷ st)) (truth_back p)

  joins-or : Joins op.Or disjunction
  joins-or k p v st = ap (λ q. Some (truth (disjunction q (truth_in v)) ∷ st)) (truth_back p)

  -- an operator, and the operations that follow it in its list, which run or are passed over
  cut : (o : ℕ → Op) (f : Option Bool → Option Bool → Option Bool) (following rest : List Op) (st : List Value) (p : Option Bool) (vs was : List Value) →
      stack_after slots (o (length following)) was ≡ Some (truth p ∷ st) → length st + 1 ≤ limit → Passes o f (length following) p st →
      runs slots limit 0 (following ++ rest) (truth p ∷ st) ≡ runs slots limit 0 rest (truth (folded f p vs) ∷ st) →
      runs slots limit 0 (o (length following) ∷ (following ++ rest)) was ≡ runs slots limit 0 rest (truth (folded f p vs) ∷ st)
  cut o f following rest st p vs was is h (inl e) others =
      one_of slots limit (o (length following)) (following ++ rest) was (truth p ∷ st) 0 is (omega arith) e ∙ others
  cut o f following rest st p vs was is h (inr (e, stays)) others =
      one_of slots limit (o (length following)) (following ++ rest) was (truth p ∷ st) (length following) is (omega arith) e
      ∙ passed slots limit following rest (truth p ∷ st) ∙ ap (λ q. runs slots limit 0 rest (truth q ∷ st)) (sym (kept f p vs stays))

  -- operations that put values on every stack, one after another
  abbrev Puts : List Op → ℕ → List Value → Type 0
  Puts c d vs = (rest : List Op) (st : List Value) → length st + d ≤ limit →
      runs slots limit 0 (c ++ rest) st ≡ runs slots limit 0 rest (reverse vs ++ st)

  -- a call behind its arguments
  after_all : (f : Option Function) (fold : Bool) (n : ℕ) (c : List Op) (d : ℕ) (vs : List Value) → n ≡ length vs → Puts c d vs →
      Leaves (plain_call f fold n c) (plain_depth f d) (call_of f fold vs)
  after_all None fold n c d vs count puts = push (op.Push value.Null) value.Null (λ st. refl) (λ st. refl)
  after_all (Some f) fold n c d vs count puts =
      λ rest st h. ap (λ os. runs slots limit 0 os st) (append_assoc c (op.Call f fold n ∷ []) rest) ∙ puts (op.Call f fold n ∷ rest) st (omega arith)
      ∙ one slots limit (op.Call f fold n) rest (reverse vs ++ st) (call_value f fold vs ∷ st) (λ st. refl) (ap (on_many (call_value f fold)) (taken_back vs st n count)) (omega arith)

  -- what is left may be written otherwise
  becomes : (c : List Op) (d : ℕ) (x y : Value) → Leaves c d x → x ≡ y → Leaves c d y
  becomes c d x y run e rest st h = run rest st h ∙ ap (λ v. runs slots limit 0 rest (v ∷ st)) e

  module _ (fields : List (List ℕ × Kind)) where
    abbrev meaning : Tree → Value
    meaning a = means (value_at fields slots) a

    -- an expression without a field is its value alone
    settle_if : (b : Bool) (a : Tree) (c : List Op) (d : ℕ) → holds_field a ≡ b → (holds_field a ≡ true → Leaves c d (meaning a)) →
        Leaves (if b then c else (op.Push (constant a) ∷ [])) (if b then d else 1) (meaning a)
    settle_if true a c d e run = run e
    settle_if false a c d e run =
        becomes (op.Push (constant a) ∷ []) 1 (constant a) (meaning a) (push (op.Push (constant a)) (constant a) (λ st. refl) (λ st. refl))
        (same_without (value_at [] []) (value_at fields slots) a e)

    settle : (a : Tree) (c : List Op) (d : ℕ) → (holds_field a ≡ true → Leaves c d (meaning a)) → Leaves (settled_code a c) (settled_depth a d) (meaning a)
    settle a c d run = settle_if (holds_field a) a c d refl run

    -- an address in quotes on a side
    beside : (c : List Op) (d : ℕ) (how : CmpOp) (a : Tree) (x : Value) (o : Op) → Leaves c d x → 0 < d → IsWritten how a o →
        Leaves (c ++ o ∷ []) d (compares false how x (meaning a))
    beside c d how a x o run some w =
        becomes (c ++ o ∷ []) d (equals_address w.negated x (value.Text w.text) w.ip) (compares false how x (meaning a))
        (subst (λ o. Leaves (c ++ o ∷ []) d (equals_address w.negated x (value.Text w.text) w.ip)) (sym w.its_op)
        (after_one c d x (op.Address w.negated (value.Text w.text) w.ip) (λ v. equals_address w.negated v (value.Text w.text) w.ip) run some (λ st. refl) (λ v st. refl)))
        (same_equality w.negated x w.text w.ip w.its_ip
        ∙ ap₂ (λ how a. compares false how x (meaning a)) (sym w.its_how) (sym w.its_tree))

    other_side : (how : CmpOp) (a : Tree) (x : Value) (o : Op) → IsWritten how a o → compares false how x (meaning a) ≡ compares false how (meaning a) x
    other_side how a x o w =
        ap₂ (λ how a. compares false how x (meaning a)) w.its_how w.its_tree ∙ swapped w.negated x w.text w.ip w.its_ip
        ∙ ap₂ (λ how a. compares false how (meaning a) x) (sym w.its_how) (sym w.its_tree)

    -- beside a text in quotes a field stands on the other side, which so isn't the literal null
    no_null_left : (a b : Tree) (how : CmpOp) (o : Op) → (holds_field a || holds_field b) ≡ true → IsWritten how b o → (is_literal_null a || is_literal_null b) ≡ false
    no_null_left a b how o e w =
        let alone : holds_field a ≡ true = sym (or_false (holds_field a)) ∙ ap (λ b. holds_field a || holds_field b) (sym w.its_tree) ∙ e in
        ap₂ (λ p b. p || is_literal_null b) (not_null a alone) w.its_tree

    no_null_right : (a b : Tree) (how : CmpOp) (o : Op) → (holds_field a || holds_field b) ≡ true → IsWritten how a o → (is_literal_null a || is_literal_null b) ≡ false
    no_null_right a b how o e w =
        let alone : holds_field b ≡ true = ap (λ a. holds_field a || holds_field b) (sym w.its_tree) ∙ e in
        ap₂ (λ a q. is_literal_null a || q) w.its_tree (not_null b alone)

    compared : (how : CmpOp) (a b : Tree) (r l : Option Op) → address_op how b ≡ r → address_op how a ≡ l → (holds_field a || holds_field b) ≡ true →
        Leaves (code fields a) (depth a) (meaning a) → Leaves (code fields b) (depth b) (meaning b) →
        Leaves (compare_code r l (op.Compare (is_literal_null a || is_literal_null b) how) (code fields a) (code fields b))
        (compare_depth r l (op.Compare (is_literal_null a || is_literal_null b) how) (depth a) (depth b)) (compares (is_literal_null a || is_literal_null b) how (meaning a) (meaning b))
    compared how a b (Some o) l is is' e run run' =
        let w = written how b o is in
        becomes _ (depth a) _ _ (beside (code fields a) (depth a) how b (meaning a) o run (depth_some a) w)
        (ap (λ p. compares p how (meaning a) (meaning b)) (sym (no_null_left a b how o e w)))
    compared how a b None (Some o) is is' e run run' =
        let w = written how a o is' in
        becomes _ (depth b) _ _ (beside (code fields b) (depth b) how a (meaning b) o run' (depth_some b) w)
        (other_side how a (meaning b) o w ∙ ap (λ p. compares p how (meaning a) (meaning b)) (sym (no_null_right a b how o e w)))
    compared how a b None None is is' e run run' =
        after_two (code fields a) (code fields b) (depth a) (depth b) _ _ (op.Compare (is_literal_null a || is_literal_null b) how)
        (compares (is_literal_null a || is_literal_null b) how) run run' (λ st. refl) (λ x y st. refl)

    -- `cidrMatch` with blocks in quotes
    in_blocks : (f : Option Function) (fold : Bool) (a : Tree) (es : Trees) (bs : List Block) → f ≡ Some CidrMatch → blocks_in es ≡ Some bs →
        Leaves (code fields a) (depth a) (meaning a) → Leaves (code fields a ++ op.Cidr bs ∷ []) (depth a) (call_of f fold (values (value_at fields slots) (more a es)))
    in_blocks f fold a es bs is e run =
        becomes _ (depth a) _ _
        (after_one (code fields a) (depth a) (meaning a) (op.Cidr bs) (λ v. is_in_blocks v bs) run (depth_some a) (λ st. refl) (λ v st. refl))
        (same_cidr (value_at fields slots) (meaning a) es bs e ∙ ap (λ f. call_of f fold (values (value_at fields slots) (more a es))) (sym is))

    read : (o : Option (List Block)) (f : Option Function) (fold : Bool) (a : Tree) (es : Trees) (plain : List Op) (d : ℕ) → f ≡ Some CidrMatch → blocks_in es ≡ o →
        Leaves (code fields a) (depth a) (meaning a) → Leaves plain d (call_of f fold (values (value_at fields slots) (more a es))) →
        Leaves (call_code (option_map op.Cidr o) (code fields a) plain) (call_depth (option_map op.Cidr o) (depth a) d) (call_of f fold (values (value_at fields slots) (more a es)))
    read None f fold a es plain d is e run run' = run'
    read (Some bs) f fold a es plain d is e run run' = in_blocks f fold a es bs is e run

    mutual
      pub leaves : (a : Tree) → Leaves (code fields a) (depth a) (means (value_at fields slots) a)
      leaves t.null = push (op.Push value.Null) value.Null (λ st. refl) (λ st. refl)
      leaves (t.bool b) = push (op.Push (value.Bool b)) (value.Bool b) (λ st. refl) (λ st. refl)
      leaves (t.long n) = push (op.Push (value.Long n)) (value.Long n) (λ st. refl) (λ st. refl)
      leaves (t.str s) = push (op.Push (value.Text s)) (value.Text s) (λ st. refl) (λ st. refl)
      leaves (t.field name optional) = of_field (slot_of fields name)
      leaves (t.not a) =
          settle (t.not a) (code fields a ++ op.Not ∷ []) (depth a)
          (λ e. after_one (code fields a) (depth a) _ op.Not not_value (leaves a) (depth_some a) (λ st. refl) (λ x st. refl))
      leaves (t.and es) =
          settle (t.and es) (op.Push (value.Bool true) ∷ code_each fields op.And es) (suc (depth_each es))
          (λ e rest st h. begun (op.Push (value.Bool true)) (value.Bool true) _ _ (depth_each es) (λ st. refl) (λ st. refl)
          (leaves_each op.And conjunction joins-and cuts-and es (Some true)) rest st h
          ∙ ap (λ p. runs slots limit 0 rest (truth p ∷ st)) (folded-and (Some true) (values (value_at fields slots) es)))
      leaves (t.or es) =
          settle (t.or es) (op.Push (value.Bool false) ∷ code_each fields op.Or es) (suc (depth_each es))
          (λ e rest st h. begun (op.Push (value.Bool false)) (value.Bool false) _ _ (depth_each es) (λ st. refl) (λ st. refl)
          (leaves_each op.Or disjunction joins-or cuts-or es (Some false)) rest st h
          ∙ ap (λ p. runs slots limit 0 rest (truth p ∷ st)) (folded-or (Some false) (values (value_at fields slots) es)))
      leaves (t.cmp how a b) =
          settle (t.cmp how a b)
          (compare_code (address_op how b) (address_op how a) (op.Compare (is_literal_null a || is_literal_null b) how) (code fields a) (code fields b))
          (compare_depth (address_op how b) (address_op how a) (op.Compare (is_literal_null a || is_literal_null b) how) (depth a) (depth b))
          (λ e. compared how a b (address_op how b) (address_op how a) refl refl e (leaves a) (leaves b))
      leaves (t.pattern how a patterns) =
          settle (t.pattern how a patterns) (code fields a ++ op.Pattern how patterns ∷ []) (depth a)
          (λ e. after_one (code fields a) (depth a) _ (op.Pattern how patterns) (λ x. matches_one how x patterns) (leaves a) (depth_some a) (λ st. refl) (λ x st. refl))
      leaves (t.member fold turned a list) =
          settle (t.member fold turned a list) (code fields a ++ op.Member fold turned list (addresses_in list) ∷ []) (depth a)
          (λ e. becomes _ (depth a) _ _
          (after_one (code fields a) (depth a) _ (op.Member fold turned list (addresses_in list)) (λ x. is_among_read fold turned x list (addresses_in list)) (leaves a) (depth_some a) (λ st. refl) (λ x st. refl))
          (same_among fold turned (meaning a) list))
      leaves (t.neg a) =
          settle (t.neg a) (code fields a ++ op.Negate ∷ []) (depth a)
          (λ e. after_one (code fields a) (depth a) _ op.Negate negative_value (leaves a) (depth_some a) (λ st. refl) (λ x st. refl))
      leaves (t.math how a b) =
          settle (t.math how a b) (code fields a ++ (code fields b ++ op.Math how ∷ [])) (max (depth a) (suc (depth b)))
          (λ e. after_two (code fields a) (code fields b) (depth a) (depth b) _ _ (op.Math how) (math_value how) (leaves a) (leaves b) (λ st. refl) (λ x y st. refl))
      leaves (t.call name fold args) =
          settle (t.call name fold args)
          (call_code (cidr_op (function_of name fold) args) (code_first fields args) (plain_call (function_of name fold) fold (count_of args) (code_all fields args)))
          (call_depth (cidr_op (function_of name fold) args) (depth_first args) (plain_depth (function_of name fold) (depth_all 0 args)))
          (λ e. leaves_call (is_cidr (function_of name fold)) (function_of name fold) fold args (plain_call (function_of name fold) fold (count_of args) (code_all fields args))
          (plain_depth (function_of name fold) (depth_all 0 args)) refl
          (after_all (function_of name fold) fold (count_of args) (code_all fields args) (depth_all 0 args) (values (value_at fields slots) args) (count_values (value_at fields slots) args)
          (λ rest st h. leaves_all args 0 (length st) rest st (omega arith) h)))

      leaves_call : (cidr : Bool) (f : Option Function) (fold : Bool) (args : Trees) (plain : List Op) (d : ℕ) → is_cidr f ≡ cidr →
          Leaves plain d (call_of f fold (values (value_at fields slots) args)) →
          Leaves (call_code (cidr_if cidr args) (code_first fields args) plain) (call_depth (cidr_if cidr args) (depth_first args) d) (call_of f fold (values (value_at fields slots) args))
      leaves_call false f fold args plain d is run = run
      leaves_call true f fold none plain d is run = run
      leaves_call true f fold (more a es) plain d is run = read (blocks_in es) f fold a es plain d (cidr_is f is) refl (leaves a) run

      leaves_each : (o : ℕ → Op) (f : Option Bool → Option Bool → Option Bool) → Joins o f → Cuts o f → (es : Trees) (p : Option Bool)
          (rest : List Op) (st : List Value) → length st + suc (depth_each es) ≤ limit →
          runs slots limit 0 (code_each fields o es ++ rest) (truth p ∷ st) ≡ runs slots limit 0 rest (truth (folded f p (values (value_at fields slots) es)) ∷ st)
      leaves_each o f joins cuts none p rest st h = refl
      leaves_each o f joins cuts (more a es) p rest st h =
          let following : List Op = code_each fields o es in
          let operand : Value = means (value_at fields slots) a in
          let vs : List Value = values (value_at fields slots) es in
          ap (λ os. runs slots limit 0 os (truth p ∷ st)) (append_assoc (code fields a) (o (length following) ∷ following) rest)
          ∙ leaves a (o (length following) ∷ (following ++ rest)) (truth p ∷ st) (omega arith)
          ∙ cut o f following rest st (f p (truth_in operand)) vs (operand ∷ truth p ∷ st) (joins (length following) p operand st) (omega arith)
          (cuts (length following) (f p (truth_in operand)) st) (leaves_each o f joins cuts es (f p (truth_in operand)) rest st (omega arith))

      leaves_all : (es : Trees) (n b : ℕ) (rest : List Op) (st : List Value) → length st ≡ b + n → b + depth_all n es ≤ limit →
          runs slots limit 0 (code_all fields es ++ rest) st ≡ runs slots limit 0 rest (reverse (values (value_at fields slots) es) ++ st)
      leaves_all none n b rest st e h = refl
      leaves_all (more a es) n b rest st e h =
          ap (λ os. runs slots limit 0 os st) (append_assoc (code fields a) (code_all fields es) rest)
          ∙ leaves a (code_all fields es ++ rest) st (omega arith)
          ∙ leaves_all es (suc n) b rest (means (value_at fields slots) a ∷ st) (omega arith) (omega arith)
          ∙ ap (λ x. runs slots limit 0 rest x) (sym (one_on (means (value_at fields slots) a) (values (value_at fields slots) es) st))

-- the code of a whole expression, on any stack
pub compiled_leaves : (fields : List (List ℕ × Kind)) (slots : List Value) (a : Tree) (ops : List Op) (d : ℕ) (st : List Value) → ops ≡ code fields a → d ≡ depth a →
    runs slots (length st + d) 0 ops st ≡ Some (means (value_at fields slots) a ∷ st)
compiled_leaves fields slots a ops d st e h =
    ap (λ os. runs slots (length st + d) 0 os st) (e ∙ sym (append-nil (code fields a))) ∙ leaves slots (length st + d) fields a [] st (omega arith)

-- the code of a whole expression, on the empty stack
pub compiled : (fields : List (List ℕ × Kind)) (slots : List Value) (a : Tree) (ops : List Op) (d : ℕ) → ops ≡ code fields a → d ≡ depth a →
    runs slots d 0 ops [] ≡ Some (means (value_at fields slots) a ∷ [])
compiled fields slots a ops d e h =
    ap (λ os. runs slots d 0 os []) (e ∙ sym (append-nil (code fields a))) ∙ leaves slots d fields a [] [] (omega arith)

pub compiled_sound : (fields : List (List ℕ × Kind)) (slots : List Value) (a : Tree) (ops : List Op) (d : ℕ) → ops ≡ code fields a → d ≡ depth a →
    runs slots d 0 ops [] ≡ Some (gives (ops, d) slots ∷ [])
compiled_sound fields slots a ops d e h =
    let is = compiled fields slots a ops d e h in is ∙ ap (λ r. Some (top_of r ∷ [])) (sym is)

pub compiled_gives : (fields : List (List ℕ × Kind)) (slots : List Value) (a : Tree) (ops : List Op) (d : ℕ) → ops ≡ code fields a → d ≡ depth a →
    gives (ops, d) slots ≡ means (value_at fields slots) a
compiled_gives fields slots a ops d e h = ap top_of (compiled fields slots a ops d e h)

some_within : (limit : ℕ) (o : Option (List Value)) (go : List Value → Option (List Value)) (end : List Value) → within limit o go ≡ Some end →
    (st : List Value) × (o ≡ Some st) × (length st ≤ limit) × (go st ≡ Some end)
some_within limit None go end e = cc
some_within limit (Some st) go end e =
    let room : length st ≤ limit = grind (arith, nat_tests) in
    (st, refl, room, sym (then_if _ _ _ (below (length st) limit room)) ∙ e)

-- operations that are passed over on the way to an end are there, and the run goes on behind them
lands : (slots : List Value) (limit n : ℕ) (ops : List Op) (st end : List Value) → runs slots limit n ops st ≡ Some end →
    (n ≤ length ops) × (runs slots limit 0 (drop n ops) st ≡ Some end)
lands slots limit zero ops st end e = (omega arith, e)
lands slots limit (suc n) [] st end e = cc
lands slots limit (suc n) (o ∷ os) st end e =
    let land : (n ≤ length os) × (runs slots limit 0 (drop n os) st ≡ Some end) = lands slots limit n os st end e in
    (omega arith, land.1)

-- where the run comes to an end, the next operation finds its operands and the room, and the run goes on where it says
can_go : (slots : List Value) (limit : ℕ) (ops : List Op) (at : ℕ) (st end : List Value) → at < length ops →
    runs slots limit 0 (drop at ops) st ≡ Some end →
    (st' : List Value) × (stack_after slots (get_or ops at op.Not) st ≡ Some st') × (length st' ≤ limit)
    × (runs slots limit (skips (get_or ops at op.Not) st') (drop (suc at) ops) st' ≡ Some end)
can_go slots limit ops at st end h e =
    some_within limit (stack_after slots (get_or ops at op.Not) st) (λ st. runs slots limit (skips (get_or ops at op.Not) st) (drop (suc at) ops) st) end
    (sym (ap (λ os. runs slots limit 0 os st) (drop-cons ops at op.Not h)) ∙ e)

pub can_step : (slots : List Value) (limit : ℕ) (ops : List Op) (at : ℕ) (st end : List Value) (room : ℕ) → at < length ops → limit ≤ room →
    runs slots limit 0 (drop at ops) st ≡ Some end →
    (st' : List Value) × (stack_after slots (get_or ops at op.Not) st ≡ Some st') × (length st' ≤ room)
can_step slots limit ops at st end room h r e =
    let can = can_go slots limit ops at st end h e in
    (can.0, can.1, omega (arith, can.2))

-- the place at which the run goes on
pub goes_on : (slots : List Value) (limit : ℕ) (ops : List Op) (at : ℕ) (st st' end : List Value) (n : ℕ) → at < length ops →
    runs slots limit 0 (drop at ops) st ≡ Some end → stack_after slots (get_or ops at op.Not) st ≡ Some st' → n ≡ skips (get_or ops at op.Not) st' →
    (at + (1 + n) ≤ length ops) × (runs slots limit 0 (drop (at + (1 + n)) ops) st' ≡ Some end)
goes_on slots limit ops at st st' end n h e did is =
    let can = can_go slots limit ops at st end h e in
    let same : can.0 ≡ st' = cc in
    let on : runs slots limit n (drop (suc at) ops) st' ≡ Some end =
    ap (λ m. runs slots limit m (drop (suc at) ops) st') is
    ∙ ap (λ st. runs slots limit (skips (get_or ops at op.Not) st) (drop (suc at) ops) st) (sym same) ∙ can.3 in
    let land = lands slots limit n (drop (suc at) ops) st' end on in
    let left : length (drop (suc at) ops) ≡ length ops - suc at = length-drop (suc at) ops in
    (omega (arith, land.0, left), ap (λ os. runs slots limit 0 os st') (sym (drop-drop n (suc at) ops ∙ ap (λ m. drop m ops) (omega arith))) ∙ land.1)

second : (a b : Bool) → (a && b) ≡ true → b ≡ true
second true b e = e
second false b e = cc

-- where no operation makes a text, none of the last ones does
pub free_from : (n : ℕ) (ops : List Op) → is_free ops ≡ true → is_free (drop n ops) ≡ true
free_from zero ops h = h
free_from (suc n) [] h = h
free_from (suc n) (o ∷ os) h = free_from n os (second (not (makes_text o)) (is_free os) h)
