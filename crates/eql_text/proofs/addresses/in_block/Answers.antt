use Rattle.eql_text.specs.Addresses.{in_block}
use Rattle.eql_text.proofs.addresses.in_block.Goals as goal

pub returns : goal.returns
unfolding in_block
returns c = rw (c.from.ensures, c.from-2.ensures, c.saturating_sub-others.ensures)
