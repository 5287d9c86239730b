-- The code of an expression that makes no text has no operation that makes one.
use Rattle.std.proofs.Common.{◌≡◌, ℕ, List, [], ◌∷◌, ◌++◌, length, Bool, true, false, Option, Some, None, refl, ap, ◌∙◌}
use Rattle.std.specs.Prelude.{◌||◌, ◌&&◌, not, if◌then◌else◌, option_map}
use Rattle.std.proofs.lemmas.Bool.{or_parts}
use Rattle.eql_values.specs.declared.value.Value.{Value}
use Rattle.eql_values.specs.declared.value.Value.TheVariants as value
use Rattle.eql_values.specs.declared.value.Kind.{Kind}
use Rattle.eql_text.specs.declared.addresses.Block.{Block}
use Rattle.eql_query.specs.Tree.{Tree, Trees, none, more}
use Rattle.eql_query.specs.Tree as t
use Rattle.eql_query.specs.declared.expr.CmpOp.{CmpOp}
use Rattle.eql_check.specs.declared.function.Function.{Function}
use Rattle.eql_check.specs.Names.{function_of}
use Rattle.eql_check.specs.Kinds.{holds_field, hold_field}
use Rattle.eql_check.specs.Truth.{slot_of, is_literal_null}
use Rattle.eql_operators.specs.Prepared.{addresses_in}
use Rattle.eql_code.specs.declared.emit.Op.{Op}
use Rattle.eql_code.specs.declared.emit.Op.TheVariants as op
use Rattle.eql_code.specs.Stack.{makes_text, is_free}
use Rattle.eql_code.specs.Code.{code, code_each, code_all, code_first, address_op, compare_code, blocks_in, is_cidr, cidr_if, cidr_op, plain_call, call_code, field_code, count_of}
use Rattle.eql_code.specs.Texts.{call_makes_text, makes_text_in, makes_text_among}
use Rattle.eql_code.proofs.Prepared.{IsWritten, written}

free_append : (xs ys : List Op) → is_free xs ≡ true → is_free ys ≡ true → is_free (xs ++ ys) ≡ true
free_append [] ys h i = i
free_append (x ∷ xs) ys h i = both (makes_text x) (is_free xs) (is_free (xs ++ ys)) h (λ g. free_append xs ys g i)
  where
    both : (m r s : Bool) → (not m && r) ≡ true → (r ≡ true → s ≡ true) → (not m && s) ≡ true
    both false r s h go = go h
    both true r s h go = h

free_if : (b : Bool) (xs : List Op) (v : Value) → is_free xs ≡ true → is_free (if b then xs else (op.Push v ∷ [])) ≡ true
free_if true xs v h = h
free_if false xs v h = refl

free_field : (i : Option ℕ) → is_free (field_code i) ≡ true
free_field None = refl
free_field (Some i) = refl

free_one : (how : CmpOp) (a : Tree) (o : Op) → IsWritten how a o → is_free (o ∷ []) ≡ true
free_one how a o w = ap (λ o. is_free (o ∷ [])) w.its_op

free_compare : (how : CmpOp) (a b : Tree) (r l : Option Op) (literal : Bool) (xs ys : List Op) → address_op how b ≡ r → address_op how a ≡ l →
    is_free xs ≡ true → is_free ys ≡ true → is_free (compare_code r l (op.Compare literal how) xs ys) ≡ true
free_compare how a b (Some o) l literal xs ys is is' h i = free_append xs (o ∷ []) h (free_one how b o (written how b o is))
free_compare how a b None (Some o) literal xs ys is is' h i = free_append ys (o ∷ []) i (free_one how a o (written how a o is'))
free_compare how a b None None literal xs ys is is' h i =
    free_append xs (ys ++ op.Compare literal how ∷ []) h (free_append ys (op.Compare literal how ∷ []) i refl)

free_plain : (f : Option Function) (fold : Bool) (n : ℕ) (xs : List Op) → call_makes_text f ≡ false → is_free xs ≡ true → is_free (plain_call f fold n xs) ≡ true
free_plain None fold n xs h i = refl
free_plain (Some f) fold n xs h i = free_append xs (op.Call f fold n ∷ []) i (ap (λ b. not b && true) h)

free_blocks : (o : Option (List Block)) (xs ys : List Op) → is_free xs ≡ true → is_free ys ≡ true → is_free (call_code (option_map op.Cidr o) xs ys) ≡ true
free_blocks None xs ys h i = i
free_blocks (Some bs) xs ys h i = free_append xs (op.Cidr bs ∷ []) h refl

module _ (fields : List (List ℕ × Kind)) where
  mutual
    pub free : (a : Tree) → makes_text_in a ≡ false → is_free (code fields a) ≡ true
    free t.null h = refl
    free (t.bool b) h = refl
    free (t.long n) h = refl
    free (t.str s) h = refl
    free (t.field name optional) h = free_field (slot_of fields name)
    free (t.not a) h = free_if (holds_field a) (code fields a ++ op.Not ∷ []) _ (free_append (code fields a) (op.Not ∷ []) (free a h) refl)
    free (t.and es) h = free_if (hold_field es) (op.Push (value.Bool true) ∷ code_each fields op.And es) _ (free_each op.And (λ k. refl) es h)
    free (t.or es) h = free_if (hold_field es) (op.Push (value.Bool false) ∷ code_each fields op.Or es) _ (free_each op.Or (λ k. refl) es h)
    free (t.cmp how a b) h =
        let x = or_parts (makes_text_in a) (makes_text_in b) h in
        free_if (holds_field a || holds_field b)
        (compare_code (address_op how b) (address_op how a) (op.Compare (is_literal_null a || is_literal_null b) how) (code fields a) (code fields b)) _
        (free_compare how a b (address_op how b) (address_op how a) (is_literal_null a || is_literal_null b) (code fields a) (code fields b) refl refl (free a x.0) (free b x.1))
    free (t.pattern how a patterns) h =
        free_if (holds_field a) (code fields a ++ op.Pattern how patterns ∷ []) _ (free_append (code fields a) (op.Pattern how patterns ∷ []) (free a h) refl)
    free (t.member fold negated a list) h =
        free_if (holds_field a) (code fields a ++ op.Member fold negated list (addresses_in list) ∷ []) _
        (free_append (code fields a) (op.Member fold negated list (addresses_in list) ∷ []) (free a h) refl)
    free (t.neg a) h = free_if (holds_field a) (code fields a ++ op.Negate ∷ []) _ (free_append (code fields a) (op.Negate ∷ []) (free a h) refl)
    free (t.math how a b) h =
        let x = or_parts (makes_text_in a) (makes_text_in b) h in
        free_if (holds_field a || holds_field b) (code fields a ++ (code fields b ++ op.Math how ∷ [])) _
        (free_append (code fields a) (code fields b ++ op.Math how ∷ []) (free a x.0) (free_append (code fields b) (op.Math how ∷ []) (free b x.1) refl))
    free (t.call name fold args) h =
        let x = or_parts (call_makes_text (function_of name fold)) (makes_text_among args) h in
        free_if (hold_field args)
        (call_code (cidr_op (function_of name fold) args) (code_first fields args) (plain_call (function_of name fold) fold (count_of args) (code_all fields args))) _
        (free_call (is_cidr (function_of name fold)) args (plain_call (function_of name fold) fold (count_of args) (code_all fields args)) x.1
        (free_plain (function_of name fold) fold (count_of args) (code_all fields args) x.0 (free_all args x.1)))

    free_call : (cidr : Bool) (args : Trees) (plain : List Op) → makes_text_among args ≡ false → is_free plain ≡ true →
        is_free (call_code (cidr_if cidr args) (code_first fields args) plain) ≡ true
    free_call false args plain h i = i
    free_call true none plain h i = i
    free_call true (more a es) plain h i =
        let x = or_parts (makes_text_in a) (makes_text_among es) h in
        free_blocks (blocks_in es) (code fields a) plain (free a x.0) i

    free_each : (o : ℕ → Op) → ((k : ℕ) → makes_text (o k) ≡ false) → (es : Trees) → makes_text_among es ≡ false → is_free (code_each fields o es) ≡ true
    free_each o is none h = refl
    free_each o is (more a es) h =
        let x = or_parts (makes_text_in a) (makes_text_among es) h in
        free_append (code fields a) (o (length (code_each fields o es)) ∷ code_each fields o es) (free a x.0)
        (ap (λ b. not b && is_free (code_each fields o es)) (is (length (code_each fields o es))) ∙ free_each o is es x.1)

    free_all : (es : Trees) → makes_text_among es ≡ false → is_free (code_all fields es) ≡ true
    free_all none h = refl
    free_all (more a es) h =
        let x = or_parts (makes_text_in a) (makes_text_among es) h in
        free_append (code fields a) (code_all fields es) (free a x.0) (free_all es x.1)
