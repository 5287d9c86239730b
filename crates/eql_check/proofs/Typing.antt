-- The rules of kinds hold exactly when a kind is found.
use Rattle.std.proofs.Common.{◌≡◌, ℕ, List, ◌∷◌, length, Bool, true, false, ◌&&◌, Option, Some, None, refl, ap, ◌∙◌, subst, if◌then◌else◌}
use Rattle.std.specs.declared.result.Result.TheVariants.{Ok, Err}
use Rattle.eql_values.specs.declared.value.Kind.{Kind}
use Rattle.eql_values.specs.declared.value.Kind.TheVariants as kind
use Rattle.eql_query.specs.Tree.{Tree, Trees, none, more}
use Rattle.eql_query.specs.Tree as t
use Rattle.eql_check.specs.declared.function.Function.{Function}
use Rattle.eql_check.specs.declared.refused.CheckRefused.{CheckRefused}
use Rattle.eql_check.specs.Names.{function_of}
use Rattle.eql_values.specs.Fitting.{may_be}
use Rattle.eql_check.specs.Kinds.{can_compare, can_be_among, holds_field}
use Rattle.eql_check.specs.Calls.{takes_count, takes_kinds, given_by, bad_block_of, shown_function}
use Rattle.eql_check.specs.FirstBroken.{Found, AllFound, bind, bind_all, and_more, kind_if, unless_fields, connective, comparison, in_form, call_kind, field_kind, all_bool, kind_of, kinds_of}
use Rattle.eql_check.specs.Typing.{HasKind, HaveKinds, of_null, of_bool, of_long, of_str, of_field, of_no_field, of_not, of_and, of_or, of_cmp, of_pattern, of_member, of_neg, of_math, of_call, of_none, of_more, KindsAreExact}
use Rattle.eql_check.proofs.Breaking.{both_true}

-- what came out fine came from parts that did
bind_ok : (r : Found) (go : Option Kind → Found) (k : Option Kind) → bind r go ≡ Ok k → (j : Option Kind) × (r ≡ Ok j) × (go j ≡ Ok k)
bind_ok (Ok j) go k e = (j, refl, e)
bind_ok (Err x) go k e = cc

bind_all_ok : (r : AllFound) (go : List (Option Kind) → Found) (k : Option Kind) → bind_all r go ≡ Ok k →
    (js : List (Option Kind)) × (r ≡ Ok js) × (go js ≡ Ok k)
bind_all_ok (Ok js) go k e = (js, refl, e)
bind_all_ok (Err x) go k e = cc

pub both_ok : (a b : Bool) → a && b ≡ true → (a ≡ true) × (b ≡ true)
both_ok true true e = (refl, refl)
both_ok true false e = cc
both_ok false b e = cc

and_more_ok : (r : Found) (rs : AllFound) (ks : List (Option Kind)) → and_more r rs ≡ Ok ks →
    (k : Option Kind) × (js : List (Option Kind)) × (r ≡ Ok k) × (rs ≡ Ok js) × (k ∷ js ≡ ks)
and_more_ok (Err x) rs ks e = cc
and_more_ok (Ok k) (Err x) ks e = cc
and_more_ok (Ok k) (Ok js) ks e = (k, js, refl, refl, cc)

if_true : (b : Bool) (x y : Found) → b ≡ true → (if b then x else y) ≡ x
if_true true x y e = refl
if_true false x y e = cc

if_ok : (b : Bool) (x : Found) (y : CheckRefused) (k : Option Kind) → (if b then x else Err y) ≡ Ok k → (b ≡ true) × (x ≡ Ok k)
if_ok true x y k e = (refl, e)
if_ok false x y k e = cc

module _ (item : ℕ) where
  given_true : (b : Bool) (k : Kind) → b ≡ true → kind_if item b k ≡ Ok (Some k)
  given_true true k e = refl
  given_true false k e = cc

  given_ok : (b : Bool) (j : Kind) (k : Option Kind) → kind_if item b j ≡ Ok k → (b ≡ true) × (Some j ≡ k)
  given_ok true j k e = (refl, cc)
  given_ok false j k e = cc

  unless_false : (b : Bool) (k : Option Kind) (r : Found) → b ≡ false → r ≡ Ok k → unless_fields item b r ≡ Ok k
  unless_false false k (Ok j) e f = f
  unless_false false k (Err x) e f = cc
  unless_false true k r e f = cc

  unless_ok : (b : Bool) (r : Found) (k : Option Kind) → unless_fields item b r ≡ Ok k → (b ≡ false) × (r ≡ Ok k)
  unless_ok true (Ok j) k e = cc
  unless_ok false (Ok j) k e = (refl, e)
  unless_ok b (Err x) k e = cc

  in_form_true : (o : Option (List ℕ)) (b : Bool) (k : Kind) → o ≡ None → b ≡ true → in_form item o b k ≡ Ok (Some k)
  in_form_true None b k e f = given_true b k f
  in_form_true (Some s) b k e f = cc

  in_form_ok : (o : Option (List ℕ)) (b : Bool) (j : Kind) (k : Option Kind) → in_form item o b j ≡ Ok k →
      (o ≡ None) × (b ≡ true) × (Some j ≡ k)
  in_form_ok None b j k e = let x = given_ok b j k e in (refl, x.0, x.1)
  in_form_ok (Some s) b j k e = cc

  call_true : (o : Option Function) (f : Function) (name : List ℕ) (args : Trees) (ks : List (Option Kind)) → o ≡ Some f →
      takes_count f (length ks) ≡ true → bad_block_of f args ≡ None → takes_kinds f args ks ≡ true →
      call_kind item o name args ks ≡ Ok (Some (given_by f))
  call_true o f name args ks e c b h =
      ap (λ x. call_kind item x name args ks) e
      ∙ if_true (takes_count f (length ks)) (in_form item (bad_block_of f args) (takes_kinds f args ks) (given_by f)) _ c
      ∙ in_form_true (bad_block_of f args) (takes_kinds f args ks) (given_by f) b h

module _ (item : ℕ) (mapping : List ℕ → Option Kind) where
  mutual
    -- where the rules hold, that kind is found
    pub finds : {a : Tree} {k : Option Kind} → HasKind mapping a k → kind_of item mapping a ≡ Ok k
    finds of_null = refl
    finds of_bool = refl
    finds of_long = refl
    finds of_str = refl
    finds (of_field {name} {optional} {k} e) = ap (λ m. field_kind m optional name) e
    finds (of_no_field {name} e) = ap (λ m. field_kind m true name) e
    finds (of_not {a} {k} h m) =
        ap (λ r. bind r (λ k. kind_if item (may_be kind.Bool k) kind.Bool)) (finds h) ∙ given_true item (may_be kind.Bool k) kind.Bool m
    finds (of_and {es} {ks} h m) = ap (λ r. connective item r) (find_all h) ∙ given_true item (all_bool ks) kind.Bool m
    finds (of_or {es} {ks} h m) = ap (λ r. connective item r) (find_all h) ∙ given_true item (all_bool ks) kind.Bool m
    finds (of_cmp {op} {a} {b} {j} {k} h i m f) =
        ap (λ r. bind r (λ j. bind (kind_of item mapping b) (λ k. comparison item op j k a b))) (finds h)
        ∙ ap (λ r. bind r (λ k. comparison item op j k a b)) (finds i)
        ∙ unless_false item (holds_field a && holds_field b) (Some kind.Bool) (kind_if item (can_compare op j k a b) kind.Bool) f
        (given_true item (can_compare op j k a b) kind.Bool m)
    finds (of_pattern {op} {a} {patterns} {k} h m) =
        ap (λ r. bind r (λ k. kind_if item (may_be kind.Text k) kind.Bool)) (finds h) ∙ given_true item (may_be kind.Text k) kind.Bool m
    finds (of_member {fold} {negated} {a} {list} {k} h m) =
        ap (λ r. bind r (λ k. kind_if item (can_be_among fold k list) kind.Bool)) (finds h) ∙ given_true item (can_be_among fold k list) kind.Bool m
    finds (of_neg {a} {k} h m) =
        ap (λ r. bind r (λ k. kind_if item (may_be kind.Long k) kind.Long)) (finds h) ∙ given_true item (may_be kind.Long k) kind.Long m
    finds (of_math {op} {a} {b} {j} {k} h i m n) =
        ap (λ r. bind r (λ j. bind (kind_of item mapping b) (λ k. kind_if item (may_be kind.Long j && may_be kind.Long k) kind.Long))) (finds h)
        ∙ ap (λ r. bind r (λ k. kind_if item (may_be kind.Long j && may_be kind.Long k) kind.Long)) (finds i)
        ∙ given_true item (may_be kind.Long j && may_be kind.Long k) kind.Long (both_true (may_be kind.Long j) (may_be kind.Long k) m n)
    finds (of_call {name} {fold} {args} {ks} {f} e h c b m) =
        ap (λ r. bind_all r (λ ks. call_kind item (function_of name fold) (shown_function name fold) args ks)) (find_all h)
        ∙ call_true item (function_of name fold) f (shown_function name fold) args ks e c b m

    pub find_all : {es : Trees} {ks : List (Option Kind)} → HaveKinds mapping es ks → kinds_of item mapping es ≡ Ok ks
    find_all of_none = refl
    find_all (of_more {a} {es} {k} {ks} h i) =
        ap (λ r. and_more r (kinds_of item mapping es)) (finds h) ∙ ap (λ r. and_more (Ok k) r) (find_all i)

  be : {a : Tree} {j k : Option Kind} → j ≡ k → HasKind mapping a j → HasKind mapping a k
  be {a} e h = subst (λ x. HasKind mapping a x) e h

  of_a_field : (m : Option Kind) (optional : Bool) (name : List ℕ) (k : Option Kind) → mapping name ≡ m → field_kind m optional name ≡ Ok k →
      HasKind mapping (t.field name optional) k
  of_a_field (Some j) optional name k e f = be (cc) (of_field e)
  of_a_field None true name k e f = be (cc) (of_no_field e)
  of_a_field None false name k e f = cc

  of_a_call : (o : Option Function) (name : List ℕ) (fold : Bool) (args : Trees) (ks : List (Option Kind)) (k : Option Kind) →
      function_of name fold ≡ o → HaveKinds mapping args ks → call_kind item o (shown_function name fold) args ks ≡ Ok k →
      HasKind mapping (t.call name fold args) k
  of_a_call None name fold args ks k e h g = cc
  of_a_call (Some f) name fold args ks k e h g =
      let x = if_ok (takes_count f (length ks)) (in_form item (bad_block_of f args) (takes_kinds f args ks) (given_by f)) _ k g in
      let y = in_form_ok item (bad_block_of f args) (takes_kinds f args ks) (given_by f) k x.1 in
      be y.2 (of_call e h x.0 y.0 y.1)

  mutual
    -- where a kind is found, the rules hold
    pub holds : (a : Tree) (k : Option Kind) → kind_of item mapping a ≡ Ok k → HasKind mapping a k
    holds t.null k e = be (cc) of_null
    holds (t.bool b) k e = be (cc) of_bool
    holds (t.long n) k e = be (cc) of_long
    holds (t.str s) k e = be (cc) of_str
    holds (t.field name optional) k e = of_a_field (mapping name) optional name k refl e
    holds (t.not a) k e =
        let x = bind_ok (kind_of item mapping a) (λ k. kind_if item (may_be kind.Bool k) kind.Bool) k e in
        let y = given_ok item (may_be kind.Bool x.0) kind.Bool k x.2 in
        be y.1 (of_not (holds a x.0 x.1) y.0)
    holds (t.and es) k e =
        let x = bind_all_ok (kinds_of item mapping es) (λ ks. kind_if item (all_bool ks) kind.Bool) k e in
        let y = given_ok item (all_bool x.0) kind.Bool k x.2 in
        be y.1 (of_and (all_hold es x.0 x.1) y.0)
    holds (t.or es) k e =
        let x = bind_all_ok (kinds_of item mapping es) (λ ks. kind_if item (all_bool ks) kind.Bool) k e in
        let y = given_ok item (all_bool x.0) kind.Bool k x.2 in
        be y.1 (of_or (all_hold es x.0 x.1) y.0)
    holds (t.cmp op a b) k e =
        let x = bind_ok (kind_of item mapping a) (λ j. bind (kind_of item mapping b) (λ k. comparison item op j k a b)) k e in
        let y = bind_ok (kind_of item mapping b) (λ k. comparison item op x.0 k a b) k x.2 in
        let z = unless_ok item (holds_field a && holds_field b) (kind_if item (can_compare op x.0 y.0 a b) kind.Bool) k y.2 in
        let w = given_ok item (can_compare op x.0 y.0 a b) kind.Bool k z.1 in
        be w.1 (of_cmp (holds a x.0 x.1) (holds b y.0 y.1) w.0 z.0)
    holds (t.pattern op a patterns) k e =
        let x = bind_ok (kind_of item mapping a) (λ k. kind_if item (may_be kind.Text k) kind.Bool) k e in
        let y = given_ok item (may_be kind.Text x.0) kind.Bool k x.2 in
        be y.1 (of_pattern (holds a x.0 x.1) y.0)
    holds (t.member fold negated a list) k e =
        let x = bind_ok (kind_of item mapping a) (λ k. kind_if item (can_be_among fold k list) kind.Bool) k e in
        let y = given_ok item (can_be_among fold x.0 list) kind.Bool k x.2 in
        be y.1 (of_member (holds a x.0 x.1) y.0)
    holds (t.neg a) k e =
        let x = bind_ok (kind_of item mapping a) (λ k. kind_if item (may_be kind.Long k) kind.Long) k e in
        let y = given_ok item (may_be kind.Long x.0) kind.Long k x.2 in
        be y.1 (of_neg (holds a x.0 x.1) y.0)
    holds (t.math op a b) k e =
        let x = bind_ok (kind_of item mapping a) (λ j. bind (kind_of item mapping b) (λ k. kind_if item (may_be kind.Long j && may_be kind.Long k) kind.Long)) k e in
        let y = bind_ok (kind_of item mapping b) (λ k. kind_if item (may_be kind.Long x.0 && may_be kind.Long k) kind.Long) k x.2 in
        let z = given_ok item (may_be kind.Long x.0 && may_be kind.Long y.0) kind.Long k y.2 in
        let w = both_ok (may_be kind.Long x.0) (may_be kind.Long y.0) z.0 in
        be z.1 (of_math (holds a x.0 x.1) (holds b y.0 y.1) w.0 w.1)
    holds (t.call name fold args) k e =
        let x = bind_all_ok (kinds_of item mapping args) (λ ks. call_kind item (function_of name fold) (shown_function name fold) args ks) k e in
        of_a_call (function_of name fold) name fold args x.0 k refl (all_hold args x.0 x.1) x.2

    pub all_hold : (es : Trees) (ks : List (Option Kind)) → kinds_of item mapping es ≡ Ok ks → HaveKinds mapping es ks
    all_hold none ks e = subst (λ x. HaveKinds mapping none x) (cc) of_none
    all_hold (more a es) ks e =
        let x = and_more_ok (kind_of item mapping a) (kinds_of item mapping es) ks e in
        subst (λ y. HaveKinds mapping (more a es) y) x.4 (of_more (holds a x.0 x.2) (all_hold es x.1 x.3))

pub exactly_typed : KindsAreExact
exactly_typed item mapping a k = (λ e. holds item mapping a k e, λ h. finds item mapping h)
