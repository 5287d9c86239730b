use Rattle.std.proofs.Common.{◌+◌, length}
use Rattle.eql_base_tests.proofs.tests.text.+fits.Given as goal

abbrev pub decreases-fits : goal.decreases-fits
decreases-fits l = length l.pattern.now + length l.text.now
