-- Matches with their numbers, and what pipes keep of them.
use Rattle.std.specs.Prelude.{◌≡◌, ℕ, ◌+◌, ◌-◌, Bool, true, false, if◌then◌else◌, List, [], ◌∷◌, take, drop, length, refl}
use Rattle.std.specs.List.{list_all}
use Rattle.eql_values.specs.declared.found.Match.{Match}
use Rattle.eql_values.specs.declared.found.Numbered.{Numbered}
use Rattle.eql_values.specs.declared.cut.Pipe.{Pipe}
use Rattle.eql_values.specs.declared.cut.Pipe.TheVariants.{Head, Tail}

-- the matches numbered from this number on
abbrev pub numbered_from : ℕ → List Match → List Numbered
numbered_from number [] = []
numbered_from number (found ∷ matches) = record { number = number; found = found } ∷ numbered_from (number + 1) matches

-- the matches numbered from 1
abbrev pub numbered_matches : List Match → List Numbered
numbered_matches matches = numbered_from 1 matches

-- what one pipe keeps: a head the first, a tail the last
abbrev pub through : Pipe → List Numbered → List Numbered
through (Head count) list = take count list
through (Tail count) list = drop (length list - count) list

-- what pipes keep, from left to right
abbrev pub pipe_output : List Pipe → List Numbered → List Numbered
pipe_output [] list = list
pipe_output (pipe ∷ pipes) list = pipe_output pipes (through pipe list)

abbrev pub is_head : Pipe → Bool
is_head (Head count) = true
is_head (Tail count) = false

-- what may be written before the end: the piped list where every pipe is a head, and nothing where one is a tail
abbrev pub early_output : List Pipe → List Numbered → List Numbered
early_output pipes list = if list_all is_head pipes then pipe_output pipes list else []

abbrev five : List Match
five = let m : Match = record { key = []; chain = [] } in m ∷ m ∷ m ∷ m ∷ m ∷ []

-- of five matches, the last two, and of these the first
tail_then_head : pipe_output (Tail 2 ∷ Head 1 ∷ []) (numbered_matches five) ≡ record { number = 4; found = record { key = []; chain = [] } } ∷ []
tail_then_head = refl
