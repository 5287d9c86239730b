use Rattle.std.proofs.Common.{rules}
use Rattle.eql_conductor.proofs.fitting.fits.Goals as goal

pub returns : goal.returns
returns c = search rules
