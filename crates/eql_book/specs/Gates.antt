-- What the gates of a book mean: each is a pipe with what it has seen.
use Rattle.std.specs.Prelude.{◌≡◌, ℕ, ◌-◌, ◌≤◌, List, map, take, drop, length}
use Rattle.eql_values.specs.declared.cut.Pipe.{Pipe}
use Rattle.eql_values.specs.declared.cut.Pipe.TheVariants as pipe
use Rattle.eql_values.specs.declared.cut.PipeState.{PipeState}
use Rattle.eql_values.specs.declared.cut.PipeState.TheVariants as state
use Rattle.eql_values.specs.declared.found.Numbered.{Numbered}
use Rattle.eql_values.specs.Numbering.{pipe_output, through}
use Rattle.eql_laws.specs.Resuming.{states_from}
use Rattle.eql_book.specs.declared.gate.Gate.{Gate}
use Rattle.eql_book.specs.declared.gate.Gate.TheVariants as gate

-- the pipe of a gate
abbrev pub pipe_of : Gate → Pipe
pipe_of (gate.Head head) = pipe.Head head.count
pipe_of (gate.Tail tail) = pipe.Tail tail.count

-- what it has seen
abbrev pub seen_by : Gate → PipeState
seen_by (gate.Head head) = state.Head head.passed
seen_by (gate.Tail tail) = state.Tail tail.kept.items

abbrev pub pipes_of : List Gate → List Pipe
pipes_of gates = map pipe_of gates

abbrev pub seen_of : List Gate → List PipeState
seen_of gates = map seen_by gates

-- the gates once this came to the first of them
pub record Saw (gates : List Gate) (more : List Numbered) (now : List Gate) : Type 0 where
  pub pipes : pipes_of now ≡ pipes_of gates
  pub states : seen_of now ≡ states_from (pipes_of gates) (seen_of gates) more

-- what lies between two places of a list is what the pipes keep of any list of this length
abbrev pub KeepsBetween : List Pipe → ℕ → ℕ × ℕ → Type 0
KeepsBetween pipes len range =
    (list : List Numbered) → length list ≡ len → pipe_output pipes list ≡ take (range.1 - range.0) (drop range.0 list)

-- of what lies between two places of a list, the pipe keeps what lies between two others
abbrev pub Narrows : Pipe → ℕ × ℕ → ℕ × ℕ → Type 0
Narrows p range kept =
    (list : List Numbered) → range.1 ≤ length list → through p (take (range.1 - range.0) (drop range.0 list)) ≡ take (kept.1 - kept.0) (drop kept.0 list)
