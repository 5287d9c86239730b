-- Worked examples of what functions, operators and conditions give, computed.
use Rattle.std.specs.Prelude.{◌≡◌, ℕ, pos, negsuc, true, false, List, [], ◌∷◌, ◌+◌, ◌*◌, ◌^◌, codes, refl}
use Rattle.std.specs.Str.{chars}
use Rattle.std.specs.Fmt.{digits}
use Rattle.eql_values.specs.declared.value.Value.{Value}
use Rattle.eql_values.specs.declared.value.Value.TheVariants as value
use Rattle.ucd_case.proofs.Computing.{ucd_case}
use Rattle.eql_text.specs.Folding.{same}
use Rattle.eql_text.specs.Placing.{place_after}
use Rattle.eql_text.specs.Cutting.{substring, between}
use Rattle.eql_text.specs.Numbers.{read_number}
use Rattle.eql_text.specs.Addresses.{plain, parse_ip4, parse_block, in_block}
use Rattle.eql_query.specs.Tree.{Tree, none, more}
use Rattle.eql_query.specs.Tree as t
use Rattle.eql_query.specs.declared.expr.CmpOp.TheVariants.{Lt, Eq, Ne}
use Rattle.eql_query.specs.declared.expr.MathOp.TheVariants as math
use Rattle.eql_query.specs.declared.expr.PatOp.TheVariants.{Like, LikeFold}
use Rattle.eql_check.specs.declared.function.Function.TheVariants.{Length, IndexOf, StartsWith, EndsWith, StringContains, Concat, Substring, Between, String, Number, CidrMatch}
use Rattle.eql_check.specs.Functions.{call_value}
use Rattle.eql_check.specs.Truth.{means, holds}

-- functions
abbrev text : List ℕ → Value
text = value.Text

cafe : call_value Length false (text (99 ∷ 97 ∷ 102 ∷ 233 ∷ []) ∷ []) ≡ value.Long (pos 4)
cafe = refl

second_c : call_value IndexOf false (text (codes "abcabc") ∷ text (codes "c") ∷ value.Long (pos 3) ∷ []) ≡ value.Long (pos 5)
unfolding same place_after
second_c = refl

no_place : call_value IndexOf false (text (codes "abc") ∷ text (codes "x") ∷ []) ≡ value.Null
unfolding same place_after
no_place = refl

empty_at_the_end : call_value IndexOf false (text (codes "abc") ∷ text [] ∷ value.Long (pos 3) ∷ []) ≡ value.Long (pos 3)
unfolding same place_after
empty_at_the_end = refl

negative_start : call_value IndexOf false (text (codes "abc") ∷ text (codes "a") ∷ value.Long (negsuc 0) ∷ []) ≡ value.Long (pos 0)
unfolding same place_after
negative_start = refl

from_six : call_value Substring false (text (codes "start regsvr32.exe") ∷ value.Long (pos 6) ∷ []) ≡ text (codes "regsvr32.exe")
unfolding substring
from_six = refl

last_four : call_value Substring false (text (codes "start regsvr32.exe") ∷ value.Long (negsuc 3) ∷ []) ≡ text (codes ".exe")
unfolding substring
last_four = refl

all_but_the_last : call_value Substring false (text (codes "start regsvr32.exe") ∷ value.Long (negsuc 3) ∷ value.Long (negsuc 0) ∷ []) ≡ text (codes ".ex")
unfolding substring
all_but_the_last = refl

beyond : call_value Substring false (text (codes "abc") ∷ value.Long (pos 5) ∷ []) ≡ text []
unfolding substring
beyond = refl

event : call_value Between false (text (codes "system event log") ∷ text (codes "system ") ∷ text (codes " log") ∷ []) ≡ text (codes "event")
unfolding same between
event = refl

first_dash : call_value Between false (text (codes "a-b-c-d") ∷ text (codes "a") ∷ text (codes "-") ∷ []) ≡ text []
unfolding same between
first_dash = refl

last_dash : call_value Between false (text (codes "a-b-c-d") ∷ text (codes "a") ∷ text (codes "-") ∷ value.Bool true ∷ []) ≡ text (codes "-b-c")
unfolding same between
last_dash = refl

beginning : call_value StartsWith false (text (codes "cmd.exe") ∷ text (codes "cmd") ∷ []) ≡ value.Bool true
unfolding same
beginning = refl

inside : call_value StringContains false (text (codes "cmd.exe") ∷ text (codes "d.e") ∷ []) ≡ value.Bool true
unfolding same
inside = refl

-- the empty text stands in none, nor in itself
empty_inside : call_value StringContains false (text (codes "a") ∷ text [] ∷ []) ≡ value.Bool false
empty_inside = refl

empty_in_empty : call_value StringContains true (text [] ∷ text [] ∷ []) ≡ value.Bool false
empty_in_empty = refl

not_folded : call_value EndsWith false (text (codes "CMD.EXE") ∷ text (codes ".exe") ∷ []) ≡ value.Bool false
unfolding same
not_folded = refl

three_joined : call_value Concat false (text (codes "a") ∷ value.Long (pos 1) ∷ value.Bool true ∷ []) ≡ text (codes "a1true")
unfolding chars digits
three_joined = refl

joined_with_null : call_value Concat false (text (codes "a") ∷ value.Null ∷ []) ≡ value.Null
joined_with_null = refl

address_as_text : call_value String false (value.Ip (10 * 2 ^ 24 + 255) ∷ []) ≡ text (codes "10.0.0.255")
unfolding chars digits
address_as_text = refl

minus_twelve : call_value Number false (text (codes "-12") ∷ []) ≡ value.Long (negsuc 11)
unfolding same read_number
minus_twelve = refl

no_number : call_value Number false (text (codes "1x") ∷ []) ≡ value.Null
unfolding same read_number
no_number = refl

hexadecimal : call_value Number false (text (codes "0x1F") ∷ []) ≡ value.Long (pos 31)
unfolding same read_number
hexadecimal = refl

hexadecimal_without_digits : call_value Number false (text (codes "0x") ∷ []) ≡ value.Null
unfolding same read_number
hexadecimal_without_digits = refl

lies_inside : call_value CidrMatch false (text (codes "10.9.8.7") ∷ text (codes "10.0.0.0/8") ∷ []) ≡ value.Bool true
unfolding plain parse_ip4 parse_block in_block
lies_inside = refl

lies_in_the_second : call_value CidrMatch false (text (codes "11.0.0.1") ∷ text (codes "10.0.0.0/8") ∷ text (codes "0.0.0.0/0") ∷ []) ≡ value.Bool true
unfolding plain parse_ip4 parse_block in_block
lies_in_the_second = refl

no_address : call_value CidrMatch false (text (codes "11.0.0") ∷ text (codes "0.0.0.0/0") ∷ []) ≡ value.Null
unfolding plain parse_ip4 parse_block in_block
no_address = refl

-- conditions over an event without fields
abbrev nothing : List ℕ → Value
nothing name = value.Null

abbrev pid_is_one : Tree
pid_is_one = t.cmp Eq (t.field (codes "process.pid") true) (t.long (pos 1))

null_stays_null : means nothing (t.not pid_is_one) ≡ value.Null
null_stays_null = refl

null_and_false : means nothing (t.and (more pid_is_one (more (t.bool false) none))) ≡ value.Bool false
null_and_false = refl

null_and_true : means nothing (t.and (more pid_is_one (more (t.bool true) none))) ≡ value.Null
null_and_true = refl

null_or_true : means nothing (t.or (more pid_is_one (more (t.bool true) none))) ≡ value.Bool true
null_or_true = refl

null_or_false : means nothing (t.or (more pid_is_one (more (t.bool false) none))) ≡ value.Null
null_or_false = refl

equals_null : means nothing (t.cmp Eq (t.field (codes "x") true) t.null) ≡ value.Bool true
equals_null = refl

differs_from_null : means nothing (t.cmp Ne t.null (t.long (pos 3))) ≡ value.Bool true
differs_from_null = refl

two_nulls_differ : means nothing (t.cmp Ne (t.field (codes "x") true) (t.field (codes "y") true)) ≡ value.Null
two_nulls_differ = refl

below_null : means nothing (t.cmp Lt (t.long (pos 3)) t.null) ≡ value.Null
below_null = refl

null_in_a_list : means nothing (t.member false true (t.field (codes "x") true) (value.Long (pos 1) ∷ [])) ≡ value.Null
null_in_a_list = refl

not_in_a_list : means nothing (t.member false true (t.long (pos 2)) (value.Long (pos 1) ∷ value.Long (pos 3) ∷ [])) ≡ value.Bool true
not_in_a_list = refl

one_of_two_patterns : means nothing (t.pattern Like (t.str (codes "cmd.exe")) (codes "*.com" ∷ codes "c?d.*" ∷ [])) ≡ value.Bool true
unfolding same
one_of_two_patterns = refl

-- what is true, and what isn't
true_holds : holds nothing (t.or (more pid_is_one (more (t.bool true) none))) ≡ true
true_holds = refl

null_does_not_hold : holds nothing pid_is_one ≡ false
null_does_not_hold = refl

-- with folding
folded_ending : means nothing (t.call (codes "endsWith") true (more (t.str (codes "CMD.EXE")) (more (t.str (codes ".exe")) none))) ≡ value.Bool true
unfolding same ucd_case lib.Utf8.encode chars
folded_ending = refl

folded_literal : means nothing (t.member true false (t.str (codes "A")) (value.Text (codes "a") ∷ [])) ≡ value.Bool true
unfolding same ucd_case
folded_literal = refl

folded_pattern : means nothing (t.pattern LikeFold (t.str (codes "CMD.EXE")) (codes "cmd*" ∷ [])) ≡ value.Bool true
unfolding same ucd_case
folded_pattern = refl

unfolded_literal : means nothing (t.member false false (t.str (codes "A")) (value.Text (codes "a") ∷ [])) ≡ value.Bool false
unfolding same
unfolded_literal = refl

-- numbers: the floor of a quotient and what it leaves, and null past 64 bits
down_for_minus : means nothing (t.math math.Div (t.neg (t.long (pos 7))) (t.long (pos 2))) ≡ value.Long (negsuc 3)
down_for_minus = refl

rest_above_zero : means nothing (t.math math.Mod (t.neg (t.long (pos 7))) (t.long (pos 2))) ≡ value.Long (pos 1)
rest_above_zero = refl

by_minus_two : means nothing (t.math math.Div (t.long (pos 7)) (t.neg (t.long (pos 2)))) ≡ value.Long (negsuc 3)
by_minus_two = refl

rest_below_zero : means nothing (t.math math.Mod (t.long (pos 7)) (t.neg (t.long (pos 2)))) ≡ value.Long (negsuc 0)
rest_below_zero = refl

by_zero : means nothing (t.math math.Mod (t.long (pos 5)) (t.long (pos 0))) ≡ value.Null
by_zero = refl

past_the_greatest : means nothing (t.math math.Add (t.long (pos 9223372036854775807)) (t.long (pos 1))) ≡ value.Null
past_the_greatest = refl

least_turned : means nothing (t.neg (t.long (negsuc 9223372036854775807))) ≡ value.Null
least_turned = refl

least_by_minus_one : means nothing (t.math math.Div (t.long (negsuc 9223372036854775807)) (t.neg (t.long (pos 1)))) ≡ value.Null
least_by_minus_one = refl
