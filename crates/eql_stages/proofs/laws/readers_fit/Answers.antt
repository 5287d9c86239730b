use Rattle.eql_stages.proofs.Fits as fits
use Rattle.eql_stages.proofs.laws.readers_fit.Goals as goal

pub returns : goal.returns
returns c = fits.readers_fit
