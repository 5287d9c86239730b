-- What each function gives for its arguments (EQL function reference). Where an argument is null or of a wrong kind, or
-- where their number is wrong, the result is null; but `concat` of nothing is the empty text, and `cidrMatch` of an address
-- without blocks is false. In a checked query kinds and numbers are right.
use Rattle.std.specs.Prelude.{ℕ, ℤ, pos, ◌/◌, ◌%◌, Bool, true, false, ◌||◌, List, [], ◌∷◌, ◌++◌, length, Option, Some, None, codes, if◌then◌else◌}
use Rattle.std.specs.Option.{option_map}
use Rattle.std.specs.Fmt.{decimal, signed_decimal}
use Rattle.std.specs.Str.{chars}
use Rattle.eql_values.specs.declared.value.Value.{Value}
use Rattle.eql_values.specs.declared.value.Value.TheVariants as value
use Rattle.eql_text.specs.Comparing.{starts, ends, contains}
use Rattle.eql_text.specs.Placing.{index_of}
use Rattle.eql_text.specs.Cutting.{substring, between}
use Rattle.eql_text.specs.Numbers.{parse_number}
use Rattle.eql_text.specs.Addresses.{parse_ip4, parse_block, in_block}
use Rattle.eql_text.specs.declared.addresses.Block.{Block}
use Rattle.eql_query.specs.declared.expr.MathOp.TheVariants as math
use Rattle.eql_check.specs.declared.function.Function.{Function}
use Rattle.eql_check.specs.declared.function.Function.TheVariants.{Add, Subtract, Multiply, Divide, Modulo, Length, IndexOf, StartsWith, EndsWith, StringContains, Concat, Substring, Between, String, Number, CidrMatch}
use Rattle.eql_check.specs.ThreeValued.{truth}
use Rattle.eql_check.specs.Arithmetic.{math_value}

-- a function of one argument, of two, and of three or four where the last may be left out
abbrev pub with_one : (Value → Value) → List Value → Value
with_one f (a ∷ []) = f a
with_one f _ = value.Null

abbrev pub with_two : (Value → Value → Value) → List Value → Value
with_two f (a ∷ b ∷ []) = f a b
with_two f _ = value.Null

abbrev pub with_two_or_three : (Value → Value → Option Value → Value) → List Value → Value
with_two_or_three f (a ∷ b ∷ []) = f a b None
with_two_or_three f (a ∷ b ∷ c ∷ []) = f a b (Some c)
with_two_or_three f _ = value.Null

abbrev pub with_three_or_four : (Value → Value → Value → Option Value → Value) → List Value → Value
with_three_or_four f (a ∷ b ∷ c ∷ []) = f a b c None
with_three_or_four f (a ∷ b ∷ c ∷ d ∷ []) = f a b c (Some d)
with_three_or_four f _ = value.Null

-- a number, a text, or null where there is none
abbrev pub number_or_null : Option ℤ → Value
number_or_null (Some n) = value.Long n
number_or_null None = value.Null

abbrev pub text_or_null : Option (List ℕ) → Value
text_or_null (Some s) = value.Text s
text_or_null None = value.Null

-- the number of characters
abbrev pub length_of : Value → Value
length_of (value.Text s) = value.Long (pos (length s))
length_of _ = value.Null

-- a test of two texts
abbrev pub test_value : (List ℕ → List ℕ → Bool) → Value → Value → Value
test_value test (value.Text s) (value.Text t) = value.Bool (test s t)
test_value test _ _ = value.Null

-- whether a text stands in another; the empty text stands in none
abbrev pub stands_in : (fold : Bool) → List ℕ → List ℕ → Bool
stands_in fold s [] = false
stands_in fold s (c ∷ t) = contains fold s (c ∷ t)

-- the least place at or after a start, 0 where none is given
abbrev pub index_or_null : Bool → Value → Value → Option Value → Value
index_or_null fold (value.Text s) (value.Text t) None = number_or_null (index_of fold s t (pos 0))
index_or_null fold (value.Text s) (value.Text t) (Some (value.Long from)) = number_or_null (index_of fold s t from)
index_or_null fold _ _ _ = value.Null

-- a part of a text, up to its end where no end is given
abbrev pub part_of : Value → Value → Option Value → Value
part_of (value.Text s) (value.Long from) None = value.Text (substring s from None)
part_of (value.Text s) (value.Long from) (Some (value.Long to)) = value.Text (substring s from (Some to))
part_of _ _ _ = value.Null

-- what stands between two texts; not greedy where that isn't said
abbrev pub between_of : Bool → Value → Value → Value → Option Value → Value
between_of fold (value.Text s) (value.Text l) (value.Text r) None = value.Text (between s l r false fold)
between_of fold (value.Text s) (value.Text l) (value.Text r) (Some (value.Bool greedy)) = value.Text (between s l r greedy fold)
between_of fold _ _ _ _ = value.Null

-- an address as four numbers with dots between
abbrev pub dotted_text : ℕ → List ℕ
dotted_text ip = decimal (ip / 16777216) ++ codes "." ++ decimal (ip / 65536 % 256) ++ codes "." ++ decimal (ip / 256 % 256) ++ codes "." ++ decimal (ip % 256)

-- the text of a value; none of null
abbrev pub text_of : Value → Option (List ℕ)
text_of value.Null = None
text_of (value.Bool b) = Some (chars (if b then codes "true" else codes "false"))
text_of (value.Long n) = Some (chars (signed_decimal n))
text_of (value.Text s) = Some s
text_of (value.Ip ip) = Some (chars (dotted_text ip))

-- two texts joined; none where one is none
abbrev pub joined_texts : Option (List ℕ) → Option (List ℕ) → Option (List ℕ)
joined_texts (Some s) (Some t) = Some (s ++ t)
joined_texts _ _ = None

-- the texts of values, joined
abbrev pub texts_of : List Value → Option (List ℕ)
texts_of [] = Some []
texts_of (v ∷ vs) = joined_texts (text_of v) (texts_of vs)

-- the number that a text writes
abbrev pub number_of : Value → Value
number_of (value.Text s) = number_or_null (parse_number s)
number_of _ = value.Null

-- the address and the block that a value is or writes
abbrev pub address_of : Value → Option ℕ
address_of (value.Ip ip) = Some ip
address_of (value.Text s) = parse_ip4 s
address_of _ = None

abbrev pub block_of : Value → Option Block
block_of (value.Text s) = parse_block s
block_of _ = None

-- whether one of two is true; null where one is null
abbrev pub one_of : Option Bool → Option Bool → Option Bool
one_of (Some p) (Some q) = Some (p || q)
one_of _ _ = None

-- whether an address lies in one of the blocks; null where one of them is no block
abbrev pub lies_in : ℕ → List Value → Option Bool
lies_in ip [] = Some false
lies_in ip (v ∷ vs) = one_of (option_map (in_block ip) (block_of v)) (lies_in ip vs)

abbrev pub lies_in_one : Option ℕ → List Value → Value
lies_in_one None blocks = value.Null
lies_in_one (Some ip) blocks = truth (lies_in ip blocks)

abbrev pub cidr_match : List Value → Value
cidr_match [] = value.Null
cidr_match (a ∷ blocks) = lies_in_one (address_of a) blocks

-- the table of the functions; `fold` says whether texts are compared with folding
abbrev pub call_value : Function → (fold : Bool) → List Value → Value
call_value Add fold vs = with_two (math_value math.Add) vs
call_value Subtract fold vs = with_two (math_value math.Sub) vs
call_value Multiply fold vs = with_two (math_value math.Mul) vs
call_value Divide fold vs = with_two (math_value math.Div) vs
call_value Modulo fold vs = with_two (math_value math.Mod) vs
call_value Length fold vs = with_one length_of vs
call_value IndexOf fold vs = with_two_or_three (index_or_null fold) vs
call_value StartsWith fold vs = with_two (test_value (starts fold)) vs
call_value EndsWith fold vs = with_two (test_value (ends fold)) vs
call_value StringContains fold vs = with_two (test_value (stands_in fold)) vs
call_value Concat fold vs = text_or_null (texts_of vs)
call_value Substring fold vs = with_two_or_three part_of vs
call_value Between fold vs = with_three_or_four (between_of fold) vs
call_value String fold vs = with_one (λ v. text_or_null (text_of v)) vs
call_value Number fold vs = with_one number_of vs
call_value CidrMatch fold vs = cidr_match vs

-- whether a function makes a text, for which it takes memory
abbrev pub makes_text : Function → Bool
makes_text Concat = true
makes_text Substring = true
makes_text Between = true
makes_text String = true
makes_text _ = false

-- whether a function takes any number of arguments
abbrev pub takes_any : Function → Bool
takes_any Concat = true
takes_any CidrMatch = true
takes_any _ = false
