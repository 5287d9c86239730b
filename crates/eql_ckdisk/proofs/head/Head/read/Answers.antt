use Rattle.std.proofs.Common.{subst, List, ℕ}
use Rattle.eql_ckdisk.specs.Heads.{IsHead}
use Rattle.eql_ckdisk.proofs.HeadLemmas.{told_head}
use Rattle.eql_ckdisk.proofs.head.Head.read.Goals as goal

pub returns-clause-head : goal.returns-clause-head
returns-clause-head g c =
    told_head c.args.area _ c.in_ok-read.field-0.items c.of.result c.in_ok-read.ensures.bytes (subst (λ (x : List ℕ). IsHead x c.of.result) c.deref.ensures.value c.of.ensures)
