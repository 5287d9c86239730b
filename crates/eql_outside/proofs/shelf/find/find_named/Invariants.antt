use Rattle.std.proofs.Common.{◌≡◌, drop, string_bytes}
use Rattle.eql_outside.specs.Outside.{file_named}
use Rattle.eql_outside.specs.Memory.{contents, planned_fails}
use Rattle.eql_outside.proofs.shelf.find.find_named.Given as goal

-- no file so far has the name
abbrev pub invariant-loop-file : goal.invariant-loop-file
invariant-loop-file l =
    (file_named (string_bytes l.name) (contents (drop l.file-index l.files)) ≡ file_named (string_bytes l.name) (contents l.files))
    × (file_named (string_bytes l.name) (planned_fails (drop l.file-index l.files)) ≡ file_named (string_bytes l.name) (planned_fails l.files))
