use Rattle.std.specs.Io.KnownBytes.{Keeps}
use Rattle.std.proofs.Common.{◌≡◌, length}
use Rattle.eql_outside.proofs.source.file.read_some.Given as goal

-- a read that a signal cut short took nothing
abbrev pub invariant-loop : goal.invariant-loop
invariant-loop g l = (length l.into ≡ length l.fn.into) × Keeps (g.F.Read.remaining l.fn.file) (g.F.Read.remaining l.file)
