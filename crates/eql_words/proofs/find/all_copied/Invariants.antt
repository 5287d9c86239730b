use Rattle.std.proofs.Common.{◌≡◌, take}
use Rattle.eql_words.specs.Words.{bytes_of}
use Rattle.eql_words.proofs.find.all_copied.Given as goal

abbrev pub invariant-loop-word : goal.invariant-loop-word
invariant-loop-word l = l.names.items ≡ bytes_of (take l.word-index l.words)
