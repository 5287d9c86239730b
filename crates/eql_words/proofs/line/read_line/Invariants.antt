use Rattle.std.proofs.Common.{◌≡◌, length}
use Rattle.eql_words.specs.Words.{bytes_of}
use Rattle.eql_words.specs.Spelling.{line_of}
use Rattle.eql_words.proofs.Lines.{behind}
use Rattle.eql_words.proofs.line.read_line.Given as goal

-- the words are the options so far and the line that the rest is
abbrev pub invariant-loop-setting : goal.invariant-loop-setting
invariant-loop-setting l = line_of (bytes_of l.words) ≡ behind l.given.items (line_of (bytes_of l.rest))

abbrev pub decreases-loop-setting : goal.decreases-loop-setting
decreases-loop-setting l = length l.rest
