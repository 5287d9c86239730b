-- Expressions without a field, and texts in quotes that write addresses and blocks.
use Rattle.std.proofs.Common.{◌≡◌, ℕ, List, [], ◌∷◌, ◌++◌, Bool, true, false, Some, refl, sym, ap, ap₂, ◌∙◌}
use Rattle.std.specs.Prelude.{◌||◌, if◌then◌else◌}
use Rattle.std.specs.Result.{IfOk, OnOk}
use Rattle.std.specs.declared.result.Result.{Result}
use Rattle.std.proofs.lemmas.Bool.{or_parts}
use Rattle.std.proofs.lemmas.Result.{IfOk-weaker, on_ok_weaker}
use Rattle.eql_values.specs.declared.value.Value.{Value}
use Rattle.eql_values.specs.declared.value.Kind.{Kind}
use Rattle.eql_query.specs.Tree.{Tree, Trees, none, more}
use Rattle.eql_query.specs.Tree as t
use Rattle.eql_check.specs.Kinds.{holds_field, hold_field}
use Rattle.eql_check.specs.Names.{function_of}
use Rattle.eql_check.specs.ThreeValued.{truth, truth_in, negation, all_from, any_from}
use Rattle.eql_check.specs.Comparisons.{compares, matches_one, is_among}
use Rattle.eql_check.specs.Arithmetic.{math_value, negative_value}
use Rattle.eql_check.specs.Truth.{means, values, is_literal_null, call_of}
use Rattle.eql_code.specs.declared.emit.Op.{Op}
use Rattle.eql_code.specs.declared.emit.Op.TheVariants as op
use Rattle.eql_code.specs.declared.emit.Beside.{Beside}
use Rattle.eql_code.specs.Code.{code, depth, constant, settled_code, settled_depth, is_compare, side_of, side_code, side_depth, compare_code_with, compare_depth_with}

module _ (f g : List ℕ → Value) where
  mutual
    -- an expression without a field means the same whatever the fields are
    pub same_without : (a : Tree) → holds_field a ≡ false → means f a ≡ means g a
    same_without t.null e = refl
    same_without (t.bool b) e = refl
    same_without (t.long n) e = refl
    same_without (t.str s) e = refl
    same_without (t.field name optional) e = cc
    same_without (t.not a) e = ap (λ v. truth (negation (truth_in v))) (same_without a e)
    same_without (t.and es) e = ap (λ vs. truth (all_from (Some true) vs)) (all_same es e)
    same_without (t.or es) e = ap (λ vs. truth (any_from (Some false) vs)) (all_same es e)
    same_without (t.cmp how a b) e =
        let x = or_parts (holds_field a) (holds_field b) e in
        ap₂ (compares (is_literal_null a || is_literal_null b) how) (same_without a x.0) (same_without b x.1)
    same_without (t.pattern how a patterns) e = ap (λ v. matches_one how v patterns) (same_without a e)
    same_without (t.member fold turned a list) e = ap (λ v. is_among fold turned v list) (same_without a e)
    same_without (t.neg a) e = ap negative_value (same_without a e)
    same_without (t.math how a b) e =
        let x = or_parts (holds_field a) (holds_field b) e in
        ap₂ (math_value how) (same_without a x.0) (same_without b x.1)
    same_without (t.call name fold args) e = ap (call_of (function_of name fold) fold) (all_same args e)

    all_same : (es : Trees) → hold_field es ≡ false → values f es ≡ values g es
    all_same none e = refl
    all_same (more a es) e =
        let x = or_parts (holds_field a) (hold_field es) e in
        ap₂ (λ v vs. v ∷ vs) (same_without a x.0) (all_same es x.1)

if_false : {A : Type 0} (b : Bool) (x y : A) → b ≡ false → (if b then x else y) ≡ y
if_false true x y e = cc
if_false false x y e = refl

if_true : {A : Type 0} (b : Bool) (x y : A) → b ≡ true → (if b then x else y) ≡ x
if_true true x y e = refl
if_true false x y e = cc

-- the code and the depth of an expression in which no field stands
pub without_field : (fields : List (List ℕ × Kind)) (a : Tree) → holds_field a ≡ false → (code fields a ≡ op.Push (constant a) ∷ []) × (depth a ≡ 1)
without_field fields t.null e = (refl, refl)
without_field fields (t.bool b) e = (refl, refl)
without_field fields (t.long n) e = (refl, refl)
without_field fields (t.str s) e = (refl, refl)
without_field fields (t.field name optional) e = cc
without_field fields (t.not a) e = (if_false _ _ _ e, if_false _ _ _ e)
without_field fields (t.and es) e = (if_false _ _ _ e, if_false _ _ _ e)
without_field fields (t.or es) e = (if_false _ _ _ e, if_false _ _ _ e)
without_field fields (t.cmp how a b) e = (if_false _ _ _ e, if_false _ _ _ e)
without_field fields (t.pattern how a patterns) e = (if_false _ _ _ e, if_false _ _ _ e)
without_field fields (t.member fold turned a list) e = (if_false _ _ _ e, if_false _ _ _ e)
without_field fields (t.neg a) e = (if_false _ _ _ e, if_false _ _ _ e)
without_field fields (t.math how a b) e = (if_false _ _ _ e, if_false _ _ _ e)
without_field fields (t.call name fold args) e = (if_false _ _ _ e, if_false _ _ _ e)

-- where a field stands in it
pub with_field : (a : Tree) (ops : List Op) (d : ℕ) → holds_field a ≡ true → (settled_code a ops ≡ ops) × (settled_depth a d ≡ d)
with_field a ops d e = (if_true _ _ _ e, if_true _ _ _ e)

-- the code and the depth that were appended there
pub code_held : {E : Type 0} (fields : List (List ℕ × Kind)) (a : Tree) (ops : List Op) (r : Result ℕ E) (now was : List Op) → holds_field a ≡ true →
    settled_code a ops ≡ code fields a → OnOk r (now ≡ ops ++ was) → OnOk r (now ≡ code fields a ++ was)
code_held fields a ops r now was held is appended =
    on_ok_weaker r (λ e. e ∙ ap (λ ops. ops ++ was) (sym (with_field a ops 0 held).0 ∙ is)) appended

pub depth_held : {E : Type 0} (a : Tree) (d : ℕ) (r : Result ℕ E) → holds_field a ≡ true → settled_depth a d ≡ depth a →
    IfOk r (λ n. n ≡ d) → IfOk r (λ n. n ≡ depth a)
depth_held a d r held is deep = IfOk-weaker r (λ n. n ≡ d) (λ n. n ≡ depth a) (λ n e. e ∙ sym (with_field a [] d held).1 ∙ is) deep

-- a comparison in which a field stands, by the side that writes an address
pub compared_code : (fields : List (List ℕ × Kind)) (a : Tree) (s : Beside) (was now : List Op) → is_compare a ≡ true → holds_field a ≡ true → s ≡ side_of a →
    now ≡ compare_code_with fields a s ++ was → now ≡ code fields a ++ was
compared_code fields t.null s was now c h e is = cc
compared_code fields (t.bool b) s was now c h e is = cc
compared_code fields (t.long n) s was now c h e is = cc
compared_code fields (t.str text) s was now c h e is = cc
compared_code fields (t.field name optional) s was now c h e is = cc
compared_code fields (t.not a) s was now c h e is = cc
compared_code fields (t.and es) s was now c h e is = cc
compared_code fields (t.or es) s was now c h e is = cc
compared_code fields (t.cmp how a b) s was now c h e is =
    is ∙ ap (λ s. side_code s (code fields a) (code fields b) ++ was) e ∙ ap (λ ops. ops ++ was) (sym (if_true _ _ _ h))
compared_code fields (t.pattern how a patterns) s was now c h e is = cc
compared_code fields (t.member fold turned a list) s was now c h e is = cc
compared_code fields (t.neg a) s was now c h e is = cc
compared_code fields (t.math how a b) s was now c h e is = cc
compared_code fields (t.call name fold args) s was now c h e is = cc

pub compared_depth : (a : Tree) (s : Beside) (d : ℕ) → is_compare a ≡ true → holds_field a ≡ true → s ≡ side_of a →
    d ≡ compare_depth_with a s → d ≡ depth a
compared_depth t.null s d c h e is = cc
compared_depth (t.bool b) s d c h e is = cc
compared_depth (t.long n) s d c h e is = cc
compared_depth (t.str text) s d c h e is = cc
compared_depth (t.field name optional) s d c h e is = cc
compared_depth (t.not a) s d c h e is = cc
compared_depth (t.and es) s d c h e is = cc
compared_depth (t.or es) s d c h e is = cc
compared_depth (t.cmp how a b) s d c h e is =
    is ∙ ap (λ s. side_depth s (depth a) (depth b)) e ∙ sym (if_true _ _ _ h)
compared_depth (t.pattern how a patterns) s d c h e is = cc
compared_depth (t.member fold turned a list) s d c h e is = cc
compared_depth (t.neg a) s d c h e is = cc
compared_depth (t.math how a b) s d c h e is = cc
compared_depth (t.call name fold args) s d c h e is = cc
