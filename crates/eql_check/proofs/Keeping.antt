-- Each expression means a value of its kind, or null.
use Rattle.std.proofs.Common.{◌≡◌, ℕ, List, [], ◌∷◌, Bool, true, false, ◌||◌, Option, Some, None, refl, sym, ap, ◌∙◌, if◌then◌else◌}
use Rattle.std.specs.Prelude.{ℤ, pos, negsuc, zero, suc, neg_ℤ, ◌+ℤ◌, ◌-ℤ◌, ◌*ℤ◌}
use Rattle.std.specs.Option.{option_map}
use Rattle.eql_values.specs.declared.value.Kind.{Kind}
use Rattle.eql_values.specs.declared.value.Kind.TheVariants as kind
use Rattle.eql_values.specs.declared.value.Value.{Value}
use Rattle.eql_values.specs.declared.value.Value.TheVariants as value
use Rattle.eql_query.specs.Tree.{Tree}
use Rattle.eql_query.specs.declared.expr.CmpOp.{CmpOp}
use Rattle.eql_query.specs.declared.expr.CmpOp.TheVariants.{Lt, Le, Eq, Ne, Ge, Gt}
use Rattle.eql_query.specs.declared.expr.PatOp.{PatOp}
use Rattle.eql_query.specs.declared.expr.MathOp.{MathOp}
use Rattle.eql_query.specs.declared.expr.MathOp.TheVariants as math
use Rattle.eql_text.specs.Comparing.{starts, ends}
use Rattle.eql_check.specs.declared.function.Function.{Function}
use Rattle.eql_check.specs.declared.function.Function.TheVariants.{Add, Subtract, Multiply, Divide, Modulo, Length, IndexOf, StartsWith, EndsWith, StringContains, Concat, Substring, Between, String, Number, CidrMatch}
use Rattle.eql_values.specs.Fitting.{is_of, may_be}
use Rattle.eql_check.specs.Calls.{given_by}
use Rattle.eql_check.specs.ThreeValued.{truth}
use Rattle.eql_check.specs.Comparisons.{says, order_of, compared_with_null, compares, matches_one, is_among}
use Rattle.eql_check.specs.Arithmetic.{floor_div, floor_rest, fits_long, long_or_null, unless_zero, result_of, math_value, negative_value}
use Rattle.eql_check.specs.Functions.{with_one, with_two, with_two_or_three, with_three_or_four, number_or_null, text_or_null, length_of, test_value, stands_in, index_or_null, part_of, between_of, text_of, texts_of, number_of, address_of, lies_in, lies_in_one, cidr_match, call_value}
use Rattle.eql_check.specs.Truth.{means, values, is_literal_null, call_of}
use Rattle.eql_check.specs.Typing.{HasKind, of_null, of_bool, of_long, of_str, of_field, of_no_field, of_not, of_and, of_or, of_cmp, of_pattern, of_member, of_neg, of_math, of_call}
use Rattle.eql_check.specs.Kept.{KeepsKinds}

pub null_is : (k : Option Kind) → is_of k value.Null ≡ true
null_is None = refl
null_is (Some k) = refl

truth_is : (p : Option Bool) → is_of (Some kind.Bool) (truth p) ≡ true
truth_is None = refl
truth_is (Some b) = refl

with_null_is : (op : CmpOp) (x y : Value) → is_of (Some kind.Bool) (compared_with_null op x y) ≡ true
with_null_is Lt x y = refl
with_null_is Le x y = refl
with_null_is Eq x y = refl
with_null_is Ne x y = refl
with_null_is Ge x y = refl
with_null_is Gt x y = refl

compares_is : (literal : Bool) (op : CmpOp) (x y : Value) → is_of (Some kind.Bool) (compares literal op x y) ≡ true
compares_is true op x y = with_null_is op x y
compares_is false op x y = truth_is (option_map (says op) (order_of x y))

matches_is : (op : PatOp) (x : Value) (patterns : List (List ℕ)) → is_of (Some kind.Bool) (matches_one op x patterns) ≡ true
matches_is op (value.Text s) patterns = refl
matches_is op value.Null patterns = refl
matches_is op (value.Bool b) patterns = refl
matches_is op (value.Long n) patterns = refl
matches_is op (value.Ip n) patterns = refl

among_is : (fold negated : Bool) (x : Value) (list : List Value) → is_of (Some kind.Bool) (is_among fold negated x list) ≡ true
among_is fold negated value.Null list = refl
among_is fold negated (value.Bool b) list = refl
among_is fold negated (value.Long n) list = refl
among_is fold negated (value.Text s) list = refl
among_is fold negated (value.Ip n) list = refl

long_if : (b : Bool) (z : ℤ) → is_of (Some kind.Long) (if b then value.Long z else value.Null) ≡ true
long_if true z = refl
long_if false z = refl

long_is : (z : ℤ) → is_of (Some kind.Long) (long_or_null z) ≡ true
long_is z = long_if (fits_long z) z

negated_is : (x : Value) → is_of (Some kind.Long) (negative_value x) ≡ true
negated_is (value.Long n) = long_is (neg_ℤ n)
negated_is value.Null = refl
negated_is (value.Bool b) = refl
negated_is (value.Text s) = refl
negated_is (value.Ip n) = refl

unless_zero_is : (b : ℤ) (v : Value) → is_of (Some kind.Long) v ≡ true → is_of (Some kind.Long) (unless_zero b v) ≡ true
unless_zero_is (pos zero) v h = refl
unless_zero_is (pos (suc n)) v h = h
unless_zero_is (negsuc n) v h = h

result_is : (op : MathOp) (a b : ℤ) → is_of (Some kind.Long) (result_of op a b) ≡ true
result_is math.Add a b = long_is (a +ℤ b)
result_is math.Sub a b = long_is (a -ℤ b)
result_is math.Mul a b = long_is (a *ℤ b)
result_is math.Div a b = unless_zero_is b (long_or_null (floor_div a b)) (long_is (floor_div a b))
result_is math.Mod a b = unless_zero_is b (long_or_null (floor_rest a b)) (long_is (floor_rest a b))

computed_is : (op : MathOp) (x y : Value) → is_of (Some kind.Long) (math_value op x y) ≡ true
computed_is op (value.Long a) (value.Long b) = result_is op a b
computed_is op (value.Long a) value.Null = refl
computed_is op (value.Long a) (value.Bool b) = refl
computed_is op (value.Long a) (value.Text b) = refl
computed_is op (value.Long a) (value.Ip b) = refl
computed_is op value.Null y = refl
computed_is op (value.Bool a) y = refl
computed_is op (value.Text a) y = refl
computed_is op (value.Ip a) y = refl

-- functions of some numbers of arguments
one_is : (k : Kind) (f : Value → Value) → ((a : Value) → is_of (Some k) (f a) ≡ true) → (vs : List Value) → is_of (Some k) (with_one f vs) ≡ true
one_is k f h [] = refl
one_is k f h (a ∷ []) = h a
one_is k f h (a ∷ b ∷ vs) = refl

two_is : (k : Kind) (f : Value → Value → Value) → ((a b : Value) → is_of (Some k) (f a b) ≡ true) → (vs : List Value) →
    is_of (Some k) (with_two f vs) ≡ true
two_is k f h [] = refl
two_is k f h (a ∷ []) = refl
two_is k f h (a ∷ b ∷ []) = h a b
two_is k f h (a ∷ b ∷ c ∷ vs) = refl

three_is : (k : Kind) (f : Value → Value → Option Value → Value) → ((a b : Value) (c : Option Value) → is_of (Some k) (f a b c) ≡ true) →
    (vs : List Value) → is_of (Some k) (with_two_or_three f vs) ≡ true
three_is k f h [] = refl
three_is k f h (a ∷ []) = refl
three_is k f h (a ∷ b ∷ []) = h a b None
three_is k f h (a ∷ b ∷ c ∷ []) = h a b (Some c)
three_is k f h (a ∷ b ∷ c ∷ d ∷ vs) = refl

four_is : (k : Kind) (f : Value → Value → Value → Option Value → Value) →
    ((a b c : Value) (d : Option Value) → is_of (Some k) (f a b c d) ≡ true) → (vs : List Value) →
    is_of (Some k) (with_three_or_four f vs) ≡ true
four_is k f h [] = refl
four_is k f h (a ∷ []) = refl
four_is k f h (a ∷ b ∷ []) = refl
four_is k f h (a ∷ b ∷ c ∷ []) = h a b c None
four_is k f h (a ∷ b ∷ c ∷ d ∷ []) = h a b c (Some d)
four_is k f h (a ∷ b ∷ c ∷ d ∷ e ∷ vs) = refl

number_is : (n : Option ℤ) → is_of (Some kind.Long) (number_or_null n) ≡ true
number_is None = refl
number_is (Some n) = refl

text_is : (s : Option (List ℕ)) → is_of (Some kind.Text) (text_or_null s) ≡ true
text_is None = refl
text_is (Some s) = refl

length_is : (x : Value) → is_of (Some kind.Long) (length_of x) ≡ true
length_is (value.Text s) = refl
length_is value.Null = refl
length_is (value.Bool b) = refl
length_is (value.Long n) = refl
length_is (value.Ip n) = refl

tested_is : (test : List ℕ → List ℕ → Bool) (x y : Value) → is_of (Some kind.Bool) (test_value test x y) ≡ true
tested_is test (value.Text s) (value.Text t) = refl
tested_is test _ _ = refl

place_is : (fold : Bool) (x y : Value) (z : Option Value) → is_of (Some kind.Long) (index_or_null fold x y z) ≡ true
place_is fold (value.Text s) (value.Text t) None = number_is _
place_is fold (value.Text s) (value.Text t) (Some (value.Long from)) = number_is _
place_is fold _ _ _ = refl

part_is : (x y : Value) (z : Option Value) → is_of (Some kind.Text) (part_of x y z) ≡ true
part_is (value.Text s) (value.Long from) None = refl
part_is (value.Text s) (value.Long from) (Some (value.Long to)) = refl
part_is _ _ _ = refl

between_is : (fold : Bool) (x y z : Value) (w : Option Value) → is_of (Some kind.Text) (between_of fold x y z w) ≡ true
between_is fold (value.Text s) (value.Text l) (value.Text r) None = refl
between_is fold (value.Text s) (value.Text l) (value.Text r) (Some (value.Bool greedy)) = refl
between_is fold _ _ _ _ = refl

number_of_is : (x : Value) → is_of (Some kind.Long) (number_of x) ≡ true
number_of_is (value.Text s) = number_is _
number_of_is value.Null = refl
number_of_is (value.Bool b) = refl
number_of_is (value.Long n) = refl
number_of_is (value.Ip n) = refl

lies_is : (ip : Option ℕ) (blocks : List Value) → is_of (Some kind.Bool) (lies_in_one ip blocks) ≡ true
lies_is None blocks = refl
lies_is (Some ip) blocks = truth_is (lies_in ip blocks)

cidr_is : (vs : List Value) → is_of (Some kind.Bool) (cidr_match vs) ≡ true
cidr_is [] = refl
cidr_is (a ∷ blocks) = lies_is (address_of a) blocks

called_is : (f : Function) (fold : Bool) (vs : List Value) → is_of (Some (given_by f)) (call_value f fold vs) ≡ true
called_is Add fold vs = two_is kind.Long (math_value math.Add) (computed_is math.Add) vs
called_is Subtract fold vs = two_is kind.Long (math_value math.Sub) (computed_is math.Sub) vs
called_is Multiply fold vs = two_is kind.Long (math_value math.Mul) (computed_is math.Mul) vs
called_is Divide fold vs = two_is kind.Long (math_value math.Div) (computed_is math.Div) vs
called_is Modulo fold vs = two_is kind.Long (math_value math.Mod) (computed_is math.Mod) vs
called_is Length fold vs = one_is kind.Long length_of length_is vs
called_is IndexOf fold vs = three_is kind.Long (index_or_null fold) (place_is fold) vs
called_is StartsWith fold vs = two_is kind.Bool (test_value (starts fold)) (tested_is (starts fold)) vs
called_is EndsWith fold vs = two_is kind.Bool (test_value (ends fold)) (tested_is (ends fold)) vs
called_is StringContains fold vs = two_is kind.Bool (test_value (stands_in fold)) (tested_is (stands_in fold)) vs
called_is Concat fold vs = text_is (texts_of vs)
called_is Substring fold vs = three_is kind.Text part_of part_is vs
called_is Between fold vs = four_is kind.Text (between_of fold) (between_is fold) vs
called_is String fold vs = one_is kind.Text (λ v. text_or_null (text_of v)) (λ v. text_is (text_of v)) vs
called_is Number fold vs = one_is kind.Long number_of number_of_is vs
called_is CidrMatch fold vs = cidr_is vs

module _ (mapping : List ℕ → Option Kind) (field : List ℕ → Value) (fits : (name : List ℕ) → is_of (mapping name) (field name) ≡ true) where
  pub kept : {a : Tree} {k : Option Kind} → HasKind mapping a k → is_of k (means field a) ≡ true
  kept of_null = refl
  kept of_bool = refl
  kept of_long = refl
  kept of_str = refl
  kept (of_field {name} {optional} {k} e) = ap (λ m. is_of m (field name)) (sym e) ∙ fits name
  kept (of_no_field {name} e) = ap (λ m. is_of m (field name)) (sym e) ∙ fits name
  kept (of_not h m) = truth_is _
  kept (of_and h m) = truth_is _
  kept (of_or h m) = truth_is _
  kept (of_cmp {op} {a} {b} h i m f) = compares_is (is_literal_null a || is_literal_null b) op (means field a) (means field b)
  kept (of_pattern {op} {a} {patterns} h m) = matches_is op (means field a) patterns
  kept (of_member {fold} {negated} {a} {list} h m) = among_is fold negated (means field a) list
  kept (of_neg {a} h m) = negated_is (means field a)
  kept (of_math {op} {a} {b} h i m n) = computed_is op (means field a) (means field b)
  kept (of_call {name} {fold} {args} {ks} {f} e h c b m) =
      ap (λ o. is_of (Some (given_by f)) (call_of o fold (values field args))) e ∙ called_is f fold (values field args)

pub keeps_kinds : KeepsKinds
keeps_kinds mapping field fits a k h = kept mapping field fits h

-- where an operand may stand for a kind that is asked for, its value is of that kind, or null
pub meets_kind : (asked : Kind) (k : Option Kind) (v : Value) → may_be asked k ≡ true → is_of k v ≡ true → is_of (Some asked) v ≡ true
meets_kind j k value.Null m h = refl
meets_kind j None (value.Bool b) m h = cc
meets_kind j None (value.Long b) m h = cc
meets_kind j None (value.Text b) m h = cc
meets_kind j None (value.Ip b) m h = cc
meets_kind kind.Bool (Some kind.Bool) v m h = h
meets_kind kind.Long (Some kind.Long) v m h = h
meets_kind kind.Text (Some kind.Text) v m h = h
meets_kind kind.Ip (Some kind.Ip) v m h = h
meets_kind _ (Some _) v m h = cc
