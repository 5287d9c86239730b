use Rattle.std.proofs.Common.{ap, sym}
use Rattle.std.specs.Fmt.{digits}
use Rattle.eql_outside.specs.declared.disk.Area.{Area}
use Rattle.eql_outside.specs.declared.refused.DiskHeld.TheVariants.{Shared}
use Rattle.eql_runs.specs.CutRefusals.{held_text}
use Rattle.eql_cli.proofs.tell.shared_line.Goals as goal

pub returns-in-A : goal.returns-in-A
unfolding digits lib.Utf8.encode
returns-in-A c = ap (λ (area : Area). held_text (Shared area)) (sym c.in-A.is)

pub returns-in-B : goal.returns-in-B
unfolding digits lib.Utf8.encode
returns-in-B c = ap (λ (area : Area). held_text (Shared area)) (sym c.in-B.is)
