-- The functions: how many arguments each takes, of which kinds, and the kind of its result.
use Rattle.std.specs.Prelude.{ℕ, List, [], ◌∷◌, ◌++◌, Bool, true, ◌&&◌, ◌||◌, Option, Some, None, if◌then◌else◌, nat_le, is_some, is_none, codes}
use Rattle.std.specs.Str.{chars}
use Rattle.eql_values.specs.declared.value.Kind.{Kind}
use Rattle.eql_values.specs.declared.value.Kind.TheVariants as kind
use Rattle.eql_text.specs.Addresses.{parse_block}
use Rattle.eql_query.specs.Tree.{Tree, Trees, none, more}
use Rattle.eql_query.specs.Tree as t
use Rattle.eql_check.specs.declared.function.Function.{Function}
use Rattle.eql_check.specs.declared.function.Function.TheVariants.{Length, IndexOf, StartsWith, EndsWith, StringContains, Concat, Substring, Between, String, Number, CidrMatch}
use Rattle.eql_values.specs.Fitting.{may_be}

-- the fewest arguments of a function
abbrev pub fewest : Function → ℕ
fewest Length = 1
fewest Concat = 1
fewest String = 1
fewest Number = 1
fewest Between = 3
fewest _ = 2

-- the most, where there are
abbrev pub most : Function → Option ℕ
most Length = Some 1
most String = Some 1
most Number = Some 1
most IndexOf = Some 3
most Substring = Some 3
most Between = Some 4
most Concat = None
most CidrMatch = None
most _ = Some 2

abbrev pub at_most : ℕ → Option ℕ → Bool
at_most count None = true
at_most count (Some n) = nat_le count n

-- whether a function takes so many arguments
abbrev pub takes_count : Function → ℕ → Bool
takes_count f count = nat_le (fewest f) count && at_most count (most f)

-- the kinds that a function asks for, by place; further places take every kind. `cidrMatch` has its own rule, `is_cidr`
abbrev pub kinds_asked : Function → List Kind
kinds_asked Length = kind.Text ∷ []
kinds_asked IndexOf = kind.Text ∷ kind.Text ∷ kind.Long ∷ []
kinds_asked StartsWith = kind.Text ∷ kind.Text ∷ []
kinds_asked EndsWith = kind.Text ∷ kind.Text ∷ []
kinds_asked StringContains = kind.Text ∷ kind.Text ∷ []
kinds_asked Concat = []
kinds_asked Substring = kind.Text ∷ kind.Long ∷ kind.Long ∷ []
kinds_asked Between = kind.Text ∷ kind.Text ∷ kind.Text ∷ kind.Bool ∷ []
kinds_asked String = []
kinds_asked Number = kind.Text ∷ []
kinds_asked CidrMatch = []
kinds_asked _ = kind.Long ∷ kind.Long ∷ []

-- the kind of a function's result
abbrev pub given_by : Function → Kind
given_by StartsWith = kind.Bool
given_by EndsWith = kind.Bool
given_by StringContains = kind.Bool
given_by CidrMatch = kind.Bool
given_by Concat = kind.Text
given_by Substring = kind.Text
given_by Between = kind.Text
given_by String = kind.Text
given_by _ = kind.Long

-- arguments of these kinds, by place
abbrev pub are_asked : List Kind → List (Option Kind) → Bool
are_asked (j ∷ js) (k ∷ ks) = may_be j k && are_asked js ks
are_asked _ _ = true

-- a block of `cidrMatch`: a text in quotes, or what is always null
abbrev pub is_block : Tree → Option Kind → Bool
is_block (t.str s) k = true
is_block _ k = is_none k

abbrev pub are_blocks : Trees → List (Option Kind) → Bool
are_blocks (more a es) (k ∷ ks) = is_block a k && are_blocks es ks
are_blocks _ _ = true

-- the arguments of `cidrMatch`: an address or a text, and blocks
abbrev pub is_cidr : Trees → List (Option Kind) → Bool
is_cidr (more a es) (k ∷ ks) = (may_be kind.Ip k || may_be kind.Text k) && are_blocks es ks
is_cidr _ _ = true

-- whether a function takes arguments of these kinds
abbrev pub takes_kinds : Function → Trees → List (Option Kind) → Bool
takes_kinds CidrMatch args ks = is_cidr args ks
takes_kinds f args ks = are_asked (kinds_asked f) ks

-- the first text in quotes that isn't a block of addresses
abbrev pub bad_block : Trees → Option (List ℕ)
bad_block none = None
bad_block (more (t.str s) es) = if is_some (parse_block s) then bad_block es else Some s
bad_block (more _ es) = bad_block es

-- the first such block of a call
abbrev pub bad_block_of : Function → Trees → Option (List ℕ)
bad_block_of CidrMatch (more a es) = bad_block es
bad_block_of _ _ = None

-- how a refusal names a function: with `~` after the name where the call has it
abbrev pub shown_function : List ℕ → (fold : Bool) → List ℕ
shown_function name fold = if fold then name ++ chars (codes "~") else name
