use Rattle.std.proofs.Common.{inr, map, sym, ◌∙◌, subst}
use Rattle.eql_outside.specs.Areas.{IsLeftAfter}
use Rattle.eql_outside.specs.Disks.{write_of}
use Rattle.eql_outside.proofs.Landing.{kept_left}
use Rattle.eql_outside.proofs.disk.store.MemStore.left.Goals as goal

-- what was kept
pub returns-in_ok-from_slice-in-0-clause-image : goal.returns-in_ok-from_slice-in-0-clause-image
returns-in_ok-from_slice-in-0-clause-image c =
    inr (subst (IsLeftAfter c.args.self.now.kept.items (map write_of c.args.self.now.writes.items)) (sym (c.in_ok-from_slice-in-0.ensures.items ∙ c.deref.ensures.value))
    (kept_left c.args.self.now.kept.items (map write_of c.args.self.now.writes.items)))
