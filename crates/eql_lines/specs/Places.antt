-- Sets of places below 128.
use Rattle.std.specs.Prelude.{ℕ, Bool, ◌==◌}
use Rattle.std.specs.Int.{bit_at}
use Rattle.eql_lines.specs.declared.places.Places.{Places}

abbrev pub in_set : Places → ℕ → Bool
in_set p i = bit_at p.bits i == 1
