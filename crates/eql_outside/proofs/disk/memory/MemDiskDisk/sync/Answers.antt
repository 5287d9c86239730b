use Rattle.std.proofs.Common.{◌≡◌, ◌∙◌, ap}
use Rattle.eql_outside.specs.Areas.{Store, settled_store, store, with_store}
use Rattle.eql_outside.specs.Disks.{store_of}
use Rattle.eql_outside.specs.MemDisks.{history_of, now_of}
use Rattle.eql_outside.specs.Moments.{later}
use Rattle.eql_outside.proofs.disk.memory.MemDiskDisk.sync.Goals as goal

pub returns-clause-ok : goal.returns-clause-ok
returns-clause-ok c =
    let now = now_of c.args.self.now in
    let there : store_of c.store.result.now ≡ store c.args.area now = c.store.ensures in
    (c.in_ok-go_on.ensures {u = tt}).ok
    ∙ ap (λ (s : Store). later (with_store c.args.area s now) (history_of c.args.self.now)) (c.in_ok-next.ensures {u = tt} ∙ ap (λ (s : Store). settled_store s.seen) there)
