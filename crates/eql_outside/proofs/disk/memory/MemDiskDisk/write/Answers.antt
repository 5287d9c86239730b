use Rattle.std.proofs.Common.{◌≡◌, ◌∙◌, ap}
use Rattle.eql_outside.specs.Areas.{Store, Write, store_with, store, with_store, area_with}
use Rattle.eql_outside.specs.Disks.{store_of}
use Rattle.eql_outside.specs.MemDisks.{history_of, now_of}
use Rattle.eql_outside.specs.Moments.{later}
use Rattle.eql_outside.proofs.disk.memory.MemDiskDisk.write.Goals as goal

pub returns-clause-ok : goal.returns-clause-ok
returns-clause-ok c =
    let w : Write = record { at = c.args.at; bytes = c.args.bytes.now } in
    let now = now_of c.args.self.now in
    let there : store_of c.store.result.now ≡ store c.args.area now = c.store.ensures in
    (c.in_ok-go_on.ensures {u = tt}).ok
    ∙ ap (λ (s : Store). later (with_store c.args.area s now) (history_of c.args.self.now)) (c.in_ok-next.ensures {u = tt} ∙ ap (λ (s : Store). store_with w (area_with w s.seen) s) there)
