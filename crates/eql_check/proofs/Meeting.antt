-- No operator meets a wrong kind.
use Rattle.std.proofs.Common.{◌≡◌, ℕ, suc, List, [], ◌∷◌, length, Bool, true, false, ◌&&◌, ◌||◌, ◌⊎◌, inl, inr, Option, Some, None, refl, sym, ap, ◌∙◌, if◌then◌else◌, is_some}
use Rattle.std.specs.Option.{option_map}
use Rattle.std.specs.List.{list_all}
use Rattle.std.specs.declared.cmp.Ordering.{Ordering}
use Rattle.eql_values.specs.declared.value.Kind.{Kind}
use Rattle.eql_values.specs.declared.value.Kind.TheVariants as kind
use Rattle.eql_values.specs.declared.value.Value.{Value}
use Rattle.eql_values.specs.declared.value.Value.TheVariants as value
use Rattle.eql_text.specs.Addresses.{parse_ip4, parse_block}
use Rattle.eql_query.specs.Tree.{Tree, Trees, more}
use Rattle.eql_query.specs.Tree as t
use Rattle.eql_query.specs.declared.expr.CmpOp.{CmpOp}
use Rattle.eql_check.specs.declared.function.Function.{Function}
use Rattle.eql_check.specs.declared.function.Function.TheVariants.{CidrMatch}
use Rattle.eql_values.specs.Fitting.{kind_of_value, is_of, may_be}
use Rattle.eql_check.specs.Kinds.{alike, is_ordered, are_addresses, needs_order, can_compare, can_equal, can_be_among, is_text}
use Rattle.eql_check.specs.Names.{function_of}
use Rattle.eql_check.specs.Calls.{are_asked, kinds_asked, is_block, are_blocks, is_cidr, takes_count, takes_kinds, bad_block, bad_block_of}
use Rattle.eql_check.specs.FirstBroken.{all_bool}
use Rattle.eql_check.specs.Comparisons.{is_null, order_of}
use Rattle.eql_check.specs.Truth.{means, values}
use Rattle.eql_check.specs.Met.{is_bool, is_long, is_ip, have_order, takes_compared, takes_sought, are_of, writes_block, are_for_cidr, takes_values, takes_call, all_met, each_met}
use Rattle.eql_check.specs.Typing.{HasKind, HaveKinds, of_null, of_bool, of_long, of_str, of_field, of_no_field, of_not, of_and, of_or, of_cmp, of_pattern, of_member, of_neg, of_math, of_call, of_none, of_more}
use Rattle.eql_check.specs.Kept.{MeetsKinds}
use Rattle.eql_check.proofs.Breaking.{both_true}
use Rattle.eql_check.proofs.Typing.{both_ok}
use Rattle.eql_check.proofs.Keeping.{kept, meets_kind}

either_ok : (a b : Bool) → a || b ≡ true → (a ≡ true) ⊎ (b ≡ true)
either_ok true b e = inl refl
either_ok false b e = inr e

left_true : (a b : Bool) → a ≡ true → a || b ≡ true
left_true true b e = refl
left_true false b e = cc

right_true : (a b : Bool) → b ≡ true → a || b ≡ true
right_true true b e = refl
right_true false b e = e

-- a value of a kind is null, or the kind is its own
narrowed : (k : Option Kind) (v : Value) → is_of k v ≡ true → (v ≡ value.Null) ⊎ (k ≡ kind_of_value v)
narrowed k value.Null h = inl refl
narrowed None (value.Bool b) h = cc
narrowed None (value.Long n) h = cc
narrowed None (value.Text s) h = cc
narrowed None (value.Ip n) h = cc
narrowed (Some kind.Bool) (value.Bool b) h = inr refl
narrowed (Some kind.Long) (value.Long n) h = inr refl
narrowed (Some kind.Text) (value.Text s) h = inr refl
narrowed (Some kind.Ip) (value.Ip n) h = inr refl
narrowed (Some _) _ h = cc

-- two values, neither null
ordered : (v w : Value) → alike (kind_of_value v) (kind_of_value w) && is_ordered (kind_of_value v) && is_ordered (kind_of_value w) ≡ true →
    is_null v || is_null w || have_order v w ≡ true
ordered value.Null w h = refl
ordered (value.Bool a) value.Null h = refl
ordered (value.Long a) value.Null h = refl
ordered (value.Text a) value.Null h = refl
ordered (value.Ip a) value.Null h = refl
ordered (value.Long a) (value.Long b) h = refl
ordered (value.Text a) (value.Text b) h = refl
ordered _ _ h = cc

abbrev may_be_equal : Value → Value → Bool
may_be_equal v w = is_null v || is_null w || is_some (order_of v w)

of_one_kind : (v w : Value) → alike (kind_of_value v) (kind_of_value w) ≡ true → may_be_equal v w ≡ true
of_one_kind value.Null w h = refl
of_one_kind (value.Bool a) value.Null h = refl
of_one_kind (value.Long a) value.Null h = refl
of_one_kind (value.Text a) value.Null h = refl
of_one_kind (value.Ip a) value.Null h = refl
of_one_kind (value.Bool a) (value.Bool b) h = refl
of_one_kind (value.Long a) (value.Long b) h = refl
of_one_kind (value.Text a) (value.Text b) h = refl
of_one_kind (value.Ip a) (value.Ip b) h = refl
of_one_kind _ _ h = cc

some_map : (o : Option ℕ) (f : ℕ → Ordering) → is_some o ≡ true → is_some (option_map f o) ≡ true
some_map None f h = cc
some_map (Some n) f h = refl

module _ (field : List ℕ → Value) where
  -- an address beside a text that is one
  left_address : (v : Value) (b : Tree) → are_addresses (kind_of_value v) b ≡ true → may_be_equal v (means field b) ≡ true
  left_address (value.Ip n) (t.str s) h = some_map (parse_ip4 s) _ h
  left_address (value.Ip n) _ h = cc
  left_address value.Null b h = refl
  left_address (value.Bool n) b h = cc
  left_address (value.Long n) b h = cc
  left_address (value.Text n) b h = cc

  right_address : (a : Tree) (w : Value) → are_addresses (kind_of_value w) a ≡ true → may_be_equal (means field a) w ≡ true
  right_address (t.str s) (value.Ip n) h = some_map (parse_ip4 s) _ h
  right_address _ (value.Ip n) h = cc
  right_address a value.Null h = cc
  right_address a (value.Bool n) h = cc
  right_address a (value.Long n) h = cc
  right_address a (value.Text n) h = cc

  -- two sides that a comparison takes by their kinds
  equal_met : (j k : Bool) (a b : Tree) → alike (kind_of_value (means field a)) (kind_of_value (means field b)) ≡ j →
      are_addresses (kind_of_value (means field a)) b ≡ k → j || k || are_addresses (kind_of_value (means field b)) a ≡ true →
      may_be_equal (means field a) (means field b) ≡ true
  equal_met true k a b e f h = of_one_kind (means field a) (means field b) e
  equal_met false true a b e f h = left_address (means field a) b f
  equal_met false false a b e f h = right_address a (means field b) h

  compared_met : (order : Bool) (op : CmpOp) (a b : Tree) → needs_order op ≡ order →
      (if order
      then alike (kind_of_value (means field a)) (kind_of_value (means field b)) && is_ordered (kind_of_value (means field a)) && is_ordered (kind_of_value (means field b))
      else alike (kind_of_value (means field a)) (kind_of_value (means field b)) || are_addresses (kind_of_value (means field a)) b || are_addresses (kind_of_value (means field b)) a) ≡ true →
      is_null (means field a) || is_null (means field b) || (if order then have_order (means field a) (means field b) else is_some (order_of (means field a) (means field b))) ≡ true
  compared_met true op a b e h = ordered (means field a) (means field b) h
  compared_met false op a b e h = equal_met _ _ a b refl refl h

  sides_met : (op : CmpOp) (j k : Option Kind) (a b : Tree) → (means field a ≡ value.Null) ⊎ (j ≡ kind_of_value (means field a)) →
      (means field b ≡ value.Null) ⊎ (k ≡ kind_of_value (means field b)) → can_compare op j k a b ≡ true →
      takes_compared op (means field a) (means field b) ≡ true
  sides_met op j k a b (inl e) n h = ap (λ v. takes_compared op v (means field b)) e
  sides_met op j k a b (inr e) (inl f) h =
      left_true (is_null (means field a) || is_null (means field b)) _ (right_true (is_null (means field a)) (is_null (means field b)) (ap is_null f))
  sides_met op j k a b (inr e) (inr f) h =
      compared_met (needs_order op) op a b refl (ap (λ x. can_compare op x (kind_of_value (means field b)) a b) (sym e) ∙ ap (λ x. can_compare op j x a b) (sym f) ∙ h)

all_equal : (list : List Value) → list_all (λ literal. can_equal None literal) list ≡ true
all_equal [] = refl
all_equal (v ∷ list) = all_equal list

sought_met : (fold : Bool) (k : Option Kind) (v : Value) (list : List Value) → is_of k v ≡ true → can_be_among fold k list ≡ true →
    takes_sought fold v list ≡ true
sought_met true k v list i h =
    let x = both_ok (may_be kind.Text k) (list_all is_text list) h in
    both_true (is_text v) (list_all is_text list) (meets_kind kind.Text k v x.0 i) x.1
sought_met false k v list i h = by_kind (narrowed k v i)
  where
    by_kind : (v ≡ value.Null) ⊎ (k ≡ kind_of_value v) → takes_sought false v list ≡ true
    by_kind (inl e) = ap (λ v. takes_sought false v list) e ∙ all_equal list
    by_kind (inr e) = ap (λ k. can_be_among false k list) (sym e) ∙ h

null_of : (v : Value) → is_of None v ≡ true → v ≡ value.Null
null_of value.Null h = refl
null_of _ h = cc

block_if : (b : Bool) (rest : Option (List ℕ)) (s : List ℕ) → (if b then rest else Some s) ≡ None → (b ≡ true) × (rest ≡ None)
block_if true rest s e = (refl, e)
block_if false rest s e = cc

module _ (field : List ℕ → Value) where
  -- a block in its form, and those after it
  block_met : (a : Tree) (k : Option Kind) (es : Trees) → is_of k (means field a) ≡ true → is_block a k ≡ true → bad_block (more a es) ≡ None →
      (writes_block (means field a) ≡ true) × (bad_block es ≡ None)
  block_met (t.str s) k es i h e = block_if (is_some (parse_block s)) (bad_block es) s e
  block_met a None es i h e = (ap writes_block (null_of (means field a) i), others a es e)
    where
      others : (a : Tree) (es : Trees) → bad_block (more a es) ≡ None → bad_block es ≡ None
      others (t.str s) es e = (block_if (is_some (parse_block s)) (bad_block es) s e).1
      others _ es e = e
  block_met a (Some k) es i h e = cc

module _ (mapping : List ℕ → Option Kind) (field : List ℕ → Value) (fits : (name : List ℕ) → is_of (mapping name) (field name) ≡ true) where
  all_bools : {es : Trees} {ks : List (Option Kind)} → HaveKinds mapping es ks → all_bool ks ≡ true → list_all is_bool (values field es) ≡ true
  all_bools of_none m = refl
  all_bools (of_more {a} {es} {k} {ks} h hs) m =
      let x = both_ok (may_be kind.Bool k) (all_bool ks) m in
      both_true (is_bool (means field a)) (list_all is_bool (values field es)) (meets_kind kind.Bool k (means field a) x.0 (kept mapping field fits h)) (all_bools hs x.1)

  as_many : {es : Trees} {ks : List (Option Kind)} → HaveKinds mapping es ks → length ks ≡ length (values field es)
  as_many of_none = refl
  as_many (of_more h hs) = ap suc (as_many hs)

  by_place : (js : List Kind) {es : Trees} {ks : List (Option Kind)} → HaveKinds mapping es ks → are_asked js ks ≡ true → are_of js (values field es) ≡ true
  by_place [] hs m = refl
  by_place (j ∷ js) of_none m = refl
  by_place (j ∷ js) (of_more {a} {es} {k} {ks} h hs) m =
      let x = both_ok (may_be j k) (are_asked js ks) m in
      both_true (is_of (Some j) (means field a)) (are_of js (values field es)) (meets_kind j k (means field a) x.0 (kept mapping field fits h)) (by_place js hs x.1)

  blocks_met : {es : Trees} {ks : List (Option Kind)} → HaveKinds mapping es ks → are_blocks es ks ≡ true → bad_block es ≡ None →
      list_all writes_block (values field es) ≡ true
  blocks_met of_none m b = refl
  blocks_met (of_more {a} {es} {k} {ks} h hs) m b =
      let x = both_ok (is_block a k) (are_blocks es ks) m in
      let y = block_met field a k es (kept mapping field fits h) x.0 b in
      both_true (writes_block (means field a)) (list_all writes_block (values field es)) y.0 (blocks_met hs x.1 y.1)

  ip_or_text : (k : Option Kind) (v : Value) → is_of k v ≡ true → (may_be kind.Ip k ≡ true) ⊎ (may_be kind.Text k ≡ true) → is_ip v || is_text v ≡ true
  ip_or_text k v i (inl m) = left_true (is_ip v) (is_text v) (meets_kind kind.Ip k v m i)
  ip_or_text k v i (inr m) = right_true (is_ip v) (is_text v) (meets_kind kind.Text k v m i)

  cidr_met : {es : Trees} {ks : List (Option Kind)} → HaveKinds mapping es ks → is_cidr es ks ≡ true → bad_block_of CidrMatch es ≡ None →
      are_for_cidr (values field es) ≡ true
  cidr_met of_none m b = refl
  cidr_met (of_more {a} {es} {k} {ks} h hs) m b =
      let x = both_ok (may_be kind.Ip k || may_be kind.Text k) (are_blocks es ks) m in
      both_true (is_ip (means field a) || is_text (means field a)) (list_all writes_block (values field es))
      (ip_or_text k (means field a) (kept mapping field fits h) (either_ok (may_be kind.Ip k) (may_be kind.Text k) x.0)) (blocks_met hs x.1 b)

  values_met : (f : Function) {es : Trees} {ks : List (Option Kind)} → HaveKinds mapping es ks → takes_kinds f es ks ≡ true → bad_block_of f es ≡ None →
      takes_values f (values field es) ≡ true
  values_met CidrMatch hs m b = cidr_met hs m b
  values_met f hs m b = by_place (kinds_asked f) hs m

  mutual
    met : {a : Tree} {k : Option Kind} → HasKind mapping a k → all_met field a ≡ true
    met of_null = refl
    met of_bool = refl
    met of_long = refl
    met of_str = refl
    met (of_field e) = refl
    met (of_no_field e) = refl
    met (of_not {a} {k} h m) =
        both_true (all_met field a) (is_bool (means field a)) (met h) (meets_kind kind.Bool k (means field a) m (kept mapping field fits h))
    met (of_and {es} {ks} hs m) = both_true (each_met field es) (list_all is_bool (values field es)) (mets hs) (all_bools hs m)
    met (of_or {es} {ks} hs m) = both_true (each_met field es) (list_all is_bool (values field es)) (mets hs) (all_bools hs m)
    met (of_cmp {op} {a} {b} {j} {k} h i m f) =
        let v = means field a in
        let w = means field b in
        both_true (all_met field a && all_met field b) (takes_compared op v w) (both_true (all_met field a) (all_met field b) (met h) (met i))
        (sides_met field op j k a b (narrowed j v (kept mapping field fits h)) (narrowed k w (kept mapping field fits i)) m)
    met (of_pattern {op} {a} {patterns} {k} h m) =
        both_true (all_met field a) (is_text (means field a)) (met h) (meets_kind kind.Text k (means field a) m (kept mapping field fits h))
    met (of_member {fold} {negated} {a} {list} {k} h m) =
        both_true (all_met field a) (takes_sought fold (means field a) list) (met h) (sought_met fold k (means field a) list (kept mapping field fits h) m)
    met (of_neg {a} {k} h m) =
        both_true (all_met field a) (is_long (means field a)) (met h) (meets_kind kind.Long k (means field a) m (kept mapping field fits h))
    met (of_math {op} {a} {b} {j} {k} h i m n) =
        let v = means field a in
        let w = means field b in
        both_true (all_met field a && all_met field b) (is_long v && is_long w) (both_true (all_met field a) (all_met field b) (met h) (met i))
        (both_true (is_long v) (is_long w) (meets_kind kind.Long j v m (kept mapping field fits h)) (meets_kind kind.Long k w n (kept mapping field fits i)))
    met (of_call {name} {fold} {args} {ks} {f} e hs c b m) =
        let vs = values field args in
        both_true (each_met field args) (takes_call (function_of name fold) vs) (mets hs)
        (ap (λ o. takes_call o vs) e
        ∙ both_true (takes_count f (length vs)) (takes_values f vs) (ap (λ n. takes_count f n) (sym (as_many hs)) ∙ c) (values_met f hs m b))

    mets : {es : Trees} {ks : List (Option Kind)} → HaveKinds mapping es ks → each_met field es ≡ true
    mets of_none = refl
    mets (of_more {a} {es} h hs) = both_true (all_met field a) (each_met field es) (met h) (mets hs)

pub meets_kinds : MeetsKinds
meets_kinds mapping field fits a k h = met mapping field fits h
