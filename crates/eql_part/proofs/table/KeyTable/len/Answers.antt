use Rattle.std.proofs.Common.{◌≡◌, ◌+◌, ℕ, Bool, ◌++◌, ◌∷◌, [], List, take, sym, ap, ◌∙◌, arith}
use Rattle.std.specs.Prelude.{if◌then◌else◌, is_some}
use Rattle.std.proofs.lemmas.List.{take_more}
use Rattle.eql_part.specs.declared.table.Room.{Room}
use Rattle.eql_part.proofs.Looked.{rows_more}
use Rattle.eql_part.proofs.table.KeyTable.len.Goals.{then-is_some, else-is_some}
use Rattle.eql_part.proofs.table.KeyTable.len.Goals as goal

pub loop-room-preserved : goal.loop-room-preserved
loop-room-preserved g c =
    let rooms = c.args.self.now.rooms.items in let i = c.loop-room.room-index in let room = c.room-item.result in
    let read = c.deref-room-items.result.now in let same : read ≡ rooms = c.deref-room-items.ensures.value in
    let more : take (i + 1) rooms ≡ take i rooms ++ room ∷ [] =
    sym (ap (take (i + 1)) same) ∙ take_more read i room c.loop-room-test.true ∙ ap (λ (r : Room _). take i read ++ r ∷ []) (sym c.room-item.is) ∙ ap (λ (l : List (Room _)). take i l ++ room ∷ []) same in
    let rows = rows_more rooms i room more in
    let count = c.loop-room.invariant.0 in let low = c.loop-room.invariant.1 in
    elim c.if-is_some.branch [
      | then-is_some w ↦ let one : ◌≡◌ {A = ℕ} (if is_some room.key then 1 else 0) 1 = ap {B = ℕ} (λ (b : Bool). if b then 1 else 0) (sym (w.if-is_some.ensures {u = tt})) in
          let now = w.count-is in (omega (arith, rows, one, count, now), omega (arith, low, now))
      | else-is_some w ↦ let none : ◌≡◌ {A = ℕ} (if is_some room.key then 1 else 0) 0 = ap {B = ℕ} (λ (b : Bool). if b then 1 else 0) (sym (w.if-is_some.ensures {u = tt})) in
          let now = w.count-is in (omega (arith, rows, none, count, now), omega (arith, low, now))
    ]
