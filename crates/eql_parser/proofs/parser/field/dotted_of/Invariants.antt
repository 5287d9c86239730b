use Rattle.std.proofs.Common.{◌≡◌, ◌≤◌, ℕ, length, string_bytes}
use Rattle.std.specs.Str.{chars}
use Rattle.eql_parser.specs.Kinds.{kinds}
use Rattle.eql_parser.specs.Reading.{dotted}
use Rattle.eql_parser.proofs.parser.field.dotted_of.Given as goal

-- the parts that are left, behind the name so far, make the whole name
abbrev pub invariant-loop-behind : goal.invariant-loop-behind
invariant-loop-behind l =
    (n : ℕ) × (length l.rest ≤ n) × (dotted n (chars (string_bytes l.name)) (kinds l.rest) ≡ dotted (length (kinds l.fn.tokens)) (chars l.fn.first) (kinds l.fn.tokens))

abbrev pub decreases-loop-behind : goal.decreases-loop-behind
decreases-loop-behind l = length l.rest
