-- When a file isn't there.
use Rattle.std.specs.Prelude.{◌≡◌, ◌⊎◌}
use Rattle.std.specs.declared.io.ErrorKind.{ErrorKind}
use Rattle.std.specs.declared.io.ErrorKind.TheVariants.{NotFound, NotADirectory}

-- an open that was refused so says that no file has the name: it isn't there, or a file stands where its path needs a folder
abbrev pub SaysAbsent : ErrorKind → Type 0
SaysAbsent kind = (kind ≡ NotFound) ⊎ (kind ≡ NotADirectory)
