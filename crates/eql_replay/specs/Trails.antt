-- The notes of a trail, from the first to the last.
use Rattle.std.specs.Prelude.{List, [], ◌∷◌, ◌++◌}
use Rattle.eql_replay.specs.declared.noted.Noted.{Noted}
use Rattle.eql_replay.specs.declared.notes.Trail.{Trail, Start, After'}

-- `shape` is of the snapshot, and has nothing of the trail before
abbrev pub notes_of : Trail → List Noted
notes_of Start = []
notes_of (After' shape before note) = notes_of before ++ note ∷ []
