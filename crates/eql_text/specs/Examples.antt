-- Worked examples, computed.
use Rattle.std.specs.Prelude.{◌≡◌, pos, negsuc, true, false, [], ◌+◌, ◌*◌, ◌^◌, Some, None, refl, codes}
use Rattle.eql_text.specs.Folding.{same}
use Rattle.eql_text.specs.Comparing.{equal, starts, ends, contains}
use Rattle.eql_text.specs.Placing.{index_of, place_after}
use Rattle.eql_text.specs.Cutting.{substring, between}
use Rattle.eql_text.specs.Wildcards.{wildcard}
use Rattle.eql_text.specs.Numbers.{parse_long, parse_number, read_number}
use Rattle.eql_text.specs.Addresses.{parse_ip4, parse_block, in_block, plain}
use Rattle.eql_text.specs.declared.numbers.LongRead.TheVariants as read

-- a `*` fits any beginning, the empty one too, and `?` one character
stars : wildcard false (codes "*.exe") (codes "cmd.exe") ≡ true
unfolding same
stars = refl

star_for_nothing : wildcard false (codes "a*b") (codes "ab") ≡ true
unfolding same
star_for_nothing = refl

mark_for_one : wildcard false (codes "a?c") (codes "abc") ≡ true
unfolding same
mark_for_one = refl

mark_for_none : wildcard false (codes "ab?") (codes "ab") ≡ false
unfolding same
mark_for_none = refl

whole_text : wildcard false (codes "a") (codes "ab") ≡ false
unfolding same
whole_text = refl

-- texts in texts
beginning : starts false (codes "cmd.exe") (codes "cmd") ≡ true
unfolding same
beginning = refl

ending : ends false (codes "cmd.exe") (codes ".exe") ≡ true
unfolding same
ending = refl

inside : contains false (codes "cmd.exe") (codes "d.e") ≡ true
unfolding same
inside = refl

shorter : equal false (codes "ab") (codes "abc") ≡ false
unfolding same
shorter = refl

-- places
second_c : index_of false (codes "abcabc") (codes "c") (pos 3) ≡ Some (pos 5)
unfolding same place_after
second_c = refl

no_place : index_of false (codes "abc") (codes "x") (pos 0) ≡ None
unfolding same place_after
no_place = refl

empty_at_the_end : index_of false (codes "abc") [] (pos 3) ≡ Some (pos 3)
unfolding same place_after
empty_at_the_end = refl

past_the_end : index_of false (codes "abc") [] (pos 4) ≡ None
unfolding same place_after
past_the_end = refl

negative_start : index_of false (codes "abc") (codes "a") (negsuc 0) ≡ Some (pos 0)
unfolding same place_after
negative_start = refl

-- parts
from_six : substring (codes "start regsvr32.exe") (pos 6) None ≡ codes "regsvr32.exe"
unfolding substring
from_six = refl

last_four : substring (codes "start regsvr32.exe") (negsuc 3) None ≡ codes ".exe"
unfolding substring
last_four = refl

all_but_the_last : substring (codes "start regsvr32.exe") (negsuc 3) (Some (negsuc 0)) ≡ codes ".ex"
unfolding substring
all_but_the_last = refl

beyond : substring (codes "abc") (pos 5) None ≡ []
unfolding substring
beyond = refl

event : between (codes "system event log") (codes "system ") (codes " log") false false ≡ codes "event"
unfolding same between
event = refl

first_dash : between (codes "a-b-c-d") (codes "a") (codes "-") false false ≡ []
unfolding same between
first_dash = refl

last_dash : between (codes "a-b-c-d") (codes "a") (codes "-") true false ≡ codes "-b-c"
unfolding same between
last_dash = refl

-- numbers
minus_twelve : parse_long (codes "-12") ≡ read.Long (negsuc 11)
minus_twelve = refl

minus_alone : parse_long (codes "-") ≡ read.NoLong
minus_alone = refl

greatest : parse_long (codes "9223372036854775807") ≡ read.Long (pos 9223372036854775807)
greatest = refl

too_great : parse_long (codes "9223372036854775808") ≡ read.Range
too_great = refl

least : parse_long (codes "-9223372036854775808") ≡ read.Long (negsuc 9223372036854775807)
least = refl

too_small : parse_long (codes "-9223372036854775809") ≡ read.Range
too_small = refl

hexadecimal : parse_number (codes "0x1F") ≡ Some (pos 31)
unfolding same read_number
hexadecimal = refl

hexadecimal_without_digits : parse_number (codes "0x") ≡ None
unfolding same read_number
hexadecimal_without_digits = refl

not_a_number : parse_number (codes "1x") ≡ None
unfolding same read_number
not_a_number = refl

-- addresses
home : parse_ip4 (codes "127.0.0.1") ≡ Some (127 * 2 ^ 24 + 1)
unfolding plain parse_ip4
home = refl

spare_zero : parse_ip4 (codes "10.0.0.01") ≡ None
unfolding plain parse_ip4
spare_zero = refl

too_great_a_byte : parse_ip4 (codes "10.0.0.256") ≡ None
unfolding plain parse_ip4
too_great_a_byte = refl

eight_bits : parse_block (codes "10.0.0.0/8") ≡ Some (record { base = 10 * 2 ^ 24; bits = 8 })
unfolding plain parse_ip4 parse_block
eight_bits = refl

too_many_bits : parse_block (codes "10.0.0.0/33") ≡ None
unfolding plain parse_ip4 parse_block
too_many_bits = refl

lies_inside : in_block (10 * 2 ^ 24 + 7) (record { base = 10 * 2 ^ 24; bits = 8 }) ≡ true
unfolding in_block
lies_inside = refl

lies_outside : in_block (11 * 2 ^ 24) (record { base = 10 * 2 ^ 24; bits = 8 }) ≡ false
unfolding in_block
lies_outside = refl
