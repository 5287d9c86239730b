-- Which values an operator takes, beside null, and the expressions in which each operator is given such values.
use Rattle.std.specs.Prelude.{◌≡◌, ℕ, pos, List, [], ◌∷◌, length, Bool, true, false, ◌&&◌, ◌||◌, Option, Some, None, if◌then◌else◌, is_some, codes, refl}
use Rattle.std.specs.List.{list_all}
use Rattle.std.specs.Str.{chars}
use Rattle.eql_values.specs.declared.value.Kind.{Kind}
use Rattle.eql_values.specs.declared.value.Kind.TheVariants as kind
use Rattle.eql_values.specs.declared.value.Value.{Value}
use Rattle.eql_values.specs.declared.value.Value.TheVariants as value
use Rattle.eql_text.specs.Addresses.{plain, parse_ip4, parse_block}
use Rattle.eql_query.specs.Tree.{Tree, Trees, none, more}
use Rattle.eql_query.specs.Tree as t
use Rattle.eql_query.specs.declared.expr.CmpOp.{CmpOp}
use Rattle.eql_query.specs.declared.expr.CmpOp.TheVariants.{Lt, Eq}
use Rattle.eql_query.specs.declared.expr.PatOp.TheVariants.{Like}
use Rattle.eql_query.specs.declared.expr.MathOp.TheVariants as math
use Rattle.eql_check.specs.declared.function.Function.{Function}
use Rattle.eql_check.specs.declared.function.Function.TheVariants.{CidrMatch}
use Rattle.eql_check.specs.Names.{function_of}
use Rattle.eql_values.specs.Fitting.{kind_of_value, is_of}
use Rattle.eql_check.specs.Kinds.{needs_order, can_equal, is_text}
use Rattle.eql_check.specs.Calls.{takes_count, kinds_asked}
use Rattle.eql_check.specs.Comparisons.{is_null, order_of}
use Rattle.eql_check.specs.Functions.{block_of}
use Rattle.eql_check.specs.Truth.{means, values, value_at}

-- null or of the kind
abbrev pub is_bool : Value → Bool
is_bool v = is_of (Some kind.Bool) v

abbrev pub is_long : Value → Bool
is_long v = is_of (Some kind.Long) v

abbrev pub is_ip : Value → Bool
is_ip v = is_of (Some kind.Ip) v

-- two whole numbers, or two texts
abbrev pub have_order : Value → Value → Bool
have_order v w = is_long v && is_long w || is_text v && is_text w

-- the sides of a comparison: one is null; or they have an order; or, where only equality is asked for, they are of one
-- kind, or an address and a text that writes one
abbrev pub takes_compared : CmpOp → Value → Value → Bool
takes_compared op v w = is_null v || is_null w || (if needs_order op then have_order v w else is_some (order_of v w))

-- a value and the literals that it is looked for in: with folding all are texts; else each is one that the value may equal
abbrev pub takes_sought : (fold : Bool) → Value → List Value → Bool
takes_sought true v list = is_text v && list_all is_text list
takes_sought false v list = list_all (λ literal. can_equal (kind_of_value v) literal) list

-- by place of these kinds; further places take every value
abbrev pub are_of : List Kind → List Value → Bool
are_of (k ∷ ks) (v ∷ vs) = is_of (Some k) v && are_of ks vs
are_of _ _ = true

-- a text that writes a block of addresses
abbrev pub writes_block : Value → Bool
writes_block v = is_null v || is_some (block_of v)

-- an address or a text, and blocks
abbrev pub are_for_cidr : List Value → Bool
are_for_cidr [] = true
are_for_cidr (v ∷ blocks) = (is_ip v || is_text v) && list_all writes_block blocks

abbrev pub takes_values : Function → List Value → Bool
takes_values CidrMatch vs = are_for_cidr vs
takes_values f vs = are_of (kinds_asked f) vs

-- the arguments of a function, of the right number
abbrev pub takes_arguments : Function → List Value → Bool
takes_arguments f vs = takes_count f (length vs) && takes_values f vs

-- a call names a function that takes them
abbrev pub takes_call : Option Function → List Value → Bool
takes_call (Some f) vs = takes_arguments f vs
takes_call None vs = false

module _ (field : List ℕ → Value) where
  abbrev mutual
    -- each operator in an expression takes the values that its operands mean
    pub all_met : Tree → Bool
    all_met (t.not a) = all_met a && is_bool (means field a)
    all_met (t.and es) = each_met es && list_all is_bool (values field es)
    all_met (t.or es) = each_met es && list_all is_bool (values field es)
    all_met (t.cmp op a b) = all_met a && all_met b && takes_compared op (means field a) (means field b)
    all_met (t.pattern op a patterns) = all_met a && is_text (means field a)
    all_met (t.member fold negated a list) = all_met a && takes_sought fold (means field a) list
    all_met (t.neg a) = all_met a && is_long (means field a)
    all_met (t.math op a b) = all_met a && all_met b && (is_long (means field a) && is_long (means field b))
    all_met (t.call name fold args) = each_met args && takes_call (function_of name fold) (values field args)
    all_met _ = true

    pub each_met : Trees → Bool
    each_met none = true
    each_met (more a es) = all_met a && each_met es

-- worked rows, where one field is an address and each other is null
abbrev address : List (List ℕ × Kind)
address = (codes "ip", kind.Ip) ∷ []

abbrev at : List ℕ → Value
at = value_at address (value.Ip 167772161 ∷ [])

-- not 2 < pid + 1 or ip == "10.0.0.1"
met : all_met at (t.or (more (t.not (t.cmp Lt (t.long (pos 2)) (t.math math.Add (t.field (codes "pid") true) (t.long (pos 1)))))
    (more (t.cmp Eq (t.field (codes "ip") false) (t.str (codes "10.0.0.1"))) none))) ≡ true
unfolding lib.Utf8.encode plain parse_ip4
met = refl

-- ip == "localhost"
no_address : all_met at (t.cmp Eq (t.field (codes "ip") false) (t.str (codes "localhost"))) ≡ false
unfolding lib.Utf8.encode plain parse_ip4
no_address = refl

-- not (5 like "5*")
pattern_on_a_number : all_met at (t.not (t.pattern Like (t.long (pos 5)) (codes "5*" ∷ []))) ≡ false
pattern_on_a_number = refl

-- 1 < "a"
number_below_a_text : all_met at (t.cmp Lt (t.long (pos 1)) (t.str (codes "a"))) ≡ false
number_below_a_text = refl

-- length(1)
length_of_a_number : all_met at (t.call (codes "length") false (more (t.long (pos 1)) none)) ≡ false
unfolding lib.Utf8.encode chars
length_of_a_number = refl

-- startsWith("a")
too_few : all_met at (t.call (codes "startsWith") false (more (t.str (codes "a")) none)) ≡ false
unfolding lib.Utf8.encode chars
too_few = refl

-- cidrMatch(ip, "10")
no_block : all_met at (t.call (codes "cidrMatch") false (more (t.field (codes "ip") false) (more (t.str (codes "10")) none))) ≡ false
unfolding lib.Utf8.encode chars plain parse_ip4 parse_block
no_block = refl

-- size("a")
no_function : all_met at (t.call (codes "size") false (more (t.str (codes "a")) none)) ≡ false
unfolding lib.Utf8.encode chars
no_function = refl
