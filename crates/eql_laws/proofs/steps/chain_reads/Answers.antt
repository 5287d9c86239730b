use Rattle.eql_laws.proofs.ReadingBack.{chain_follows, follows_chain}
use Rattle.eql_laws.proofs.steps.chain_reads.Goals as goal

pub returns : goal.returns
returns c = λ span opening k item past chain. (chain_follows span opening k item past chain, follows_chain span opening k item past chain)
