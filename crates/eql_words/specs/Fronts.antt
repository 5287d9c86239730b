-- What a list of words begins with.
use Rattle.std.specs.Prelude.{◌≡◌, ◌<◌, ℕ, [], length, Option, Some, None}
use Rattle.eql_words.specs.declared.line.Front.{Front}
use Rattle.eql_words.specs.declared.line.Front.TheVariants.{Setting, Plain, Faulty}
use Rattle.eql_words.specs.Words.{bytes_of}
use Rattle.eql_words.specs.Spelling.{Parts, before, line_of}

-- a list of this many words, which are these options and plain words, begins so
abbrev pub IsFront : Option Parts → ℕ → Front → Type 0
IsFront parts count (Setting setting after) =
    (parts ≡ before setting (line_of (bytes_of after.now))) × (length after.now < count)
IsFront parts count (Plain plain) = parts ≡ Some (record { given = []; plain = bytes_of plain.now })
IsFront parts count Faulty = parts ≡ None
