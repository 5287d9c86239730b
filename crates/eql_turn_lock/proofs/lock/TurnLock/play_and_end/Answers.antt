use Rattle.std.proofs.Common.{rules, ◌≡◌, ℕ, ◌+◌, [], ◌∷◌, ◌++◌, Some, None, refl, sym, ap, ◌∙◌, subst}
use Rattle.eql_turn_lock.specs.declared.slot.Slot.{Slot}
use Rattle.eql_turn_lock.specs.declared.slot.LastCall.{LastCall}
use Rattle.eql_turn_lock.specs.declared.view.View.{View}
use Rattle.eql_turn_lock.specs.History.{entry}
use Rattle.eql_turn_lock.specs.Passes.{is_live}
use Rattle.eql_turn_lock.specs.Rule.{view_after}
use Rattle.std.specs.Prelude.{is_some}
use Rattle.eql_turn_lock.proofs.Keeps.{inject, ends_turn_now}
use Rattle.eql_turn_lock.proofs.Turns.{carries_one, exchanged_one, same_held, may_play_now, open_or_first, has_played, turn_counted}
use Rattle.eql_turn_lock.proofs.lock.TurnLock.play_and_end.Goals as goal

pub play-reply-requires : goal.play-reply-requires
play-reply-requires g c = let t = c.requires.turn in let laws = g.met.T.Turned in
    let same_slot : c.exchange-value.result ≡ t.slot = same_held _ _ _ t.carries (search rules) in
    let is : c.unwrap-value.result ≡ t.value = inject (search rules) in
    subst (λ x. g.T.Turned.allows x c.args.op) (sym is) (may_play_now g.T.Turned.allows g.T.Turned.step_of g.T.Turned.is_open laws.opens laws.stays_allowed _ _ _ t c.requires.may)

pub exchange-value-requires-2 : goal.exchange-value-requires-2
exchange-value-requires-2 g c = let t = c.requires.turn in
    let empty : Slot g.row.T.Denot g.row.T-Op.Denot g.row.T-Reply.Denot = record { value = None; last = None } in
    let one = exchanged_one c.args.seat.now.me c.exchange-value.new.seat.me t.slot empty t.carries c.exchange-value.ensures.3 in
    (search rules, (empty, carries_one c.exchange-value.new.seat.me.1 empty one.0))

pub store-requires : goal.store-requires
store-requires g c = let t = c.requires.turn in let op = c.args.op in let v = c.args.seat.now.me.0 in
    let empty : Slot g.row.T.Denot g.row.T-Op.Denot g.row.T-Reply.Denot = record { value = None; last = None } in
    let last : LastCall g.row.T-Op.Denot g.row.T-Reply.Denot = record { op = c.of-asked.result; reply = c.of.result } in
    let full : Slot g.row.T.Denot g.row.T-Op.Denot g.row.T-Reply.Denot = record { value = Some c.play-reply.new.self; last = Some last } in
    let one = exchanged_one c.args.seat.now.me c.exchange-value.new.seat.me t.slot empty t.carries c.exchange-value.ensures.3 in
    let two = exchanged_one c.exchange-value.new.seat.me c.exchange-value-2.new.seat.me empty full one.0 c.exchange-value-2.ensures.3 in
    let same = two.1 ∙ one.1 in
    let same_slot : c.exchange-value.result ≡ t.slot = same_held _ _ _ t.carries (search rules) in
    let is : c.unwrap-value.result ≡ t.value = inject (search rules) in
    let asked : last.op.value ≡ op = search rules in
    let answered : last.reply.value ≡ c.play-reply.result = search rules in
    let steps : g.T.Turned.step_of c.unwrap-value.result op c.play-reply.result c.play-reply.new.self = search rules in (
      search rules,
      search rules,
      ends_turn_now g.T.Turned.step_of g.T.Turned.is_open g.T.Turned.is_idle c.args.self.now.table.shared.key.value _ _ c.exchange-value-2.new.seat.me t.log full last t.opening t.value c.play-reply.new.self _ (ap is_live same ∙ ap is_some t.opened)
          (ap (λ (w : View g.row.T.Denot g.row.T-Op.Denot g.row.T-Reply.Denot). w.turn) same ∙ t.turn) two.0 refl refl
          (ap (λ (w : View g.row.T.Denot g.row.T-Op.Denot g.row.T-Reply.Denot). w.opening) same ∙ t.opened) t.legal
          (subst (λ x. g.T.Turned.step_of x last.op.value last.reply.value c.play-reply.new.self) is (subst (λ o. g.T.Turned.step_of c.unwrap-value.result o last.reply.value c.play-reply.new.self) (sym asked)
          (subst (λ r. g.T.Turned.step_of c.unwrap-value.result op r c.play-reply.new.self) (sym answered) steps)))
          (λ not. open_or_first g.T.Turned.allows g.T.Turned.step_of g.T.Turned.is_open v op last.op.value asked c.requires.may
          (λ zero_is. not (ap (λ (w : View g.row.T.Denot g.row.T-Op.Denot g.row.T-Reply.Denot). w.number) same ∙ zero_is)))
          (ap (λ (n : ℕ). n + 2) t.long),
    )

pub returns-clause-idle : goal.returns-clause-idle
returns-clause-idle g c = let t = c.requires.turn in let op = c.args.op in
    let empty : Slot g.row.T.Denot g.row.T-Op.Denot g.row.T-Reply.Denot = record { value = None; last = None } in
    let last : LastCall g.row.T-Op.Denot g.row.T-Reply.Denot = record { op = c.of-asked.result; reply = c.of.result } in
    let full : Slot g.row.T.Denot g.row.T-Op.Denot g.row.T-Reply.Denot = record { value = Some c.play-reply.new.self; last = Some last } in
    let one = exchanged_one c.args.seat.now.me c.exchange-value.new.seat.me t.slot empty t.carries c.exchange-value.ensures.3 in
    let two = exchanged_one c.exchange-value.new.seat.me c.exchange-value-2.new.seat.me empty full one.0 c.exchange-value-2.ensures.3 in
    let same = two.1 ∙ one.1 in
    let done = c.store.ensures.2 t.log full last (ap (λ (w : View g.row.T.Denot g.row.T-Op.Denot g.row.T-Reply.Denot). w.turn) same ∙ t.turn) two.0 refl in
    (ap (λ m. m.1) done, ap (λ m. m.0.turn) done, ap (λ m. is_live m.0) done ∙ (ap is_live same ∙ ap is_some t.opened))

pub returns-clause-played : goal.returns-clause-played
returns-clause-played g c = let t = c.requires.turn in let op = c.args.op in
    let empty : Slot g.row.T.Denot g.row.T-Op.Denot g.row.T-Reply.Denot = record { value = None; last = None } in
    let last : LastCall g.row.T-Op.Denot g.row.T-Reply.Denot = record { op = c.of-asked.result; reply = c.of.result } in
    let full : Slot g.row.T.Denot g.row.T-Op.Denot g.row.T-Reply.Denot = record { value = Some c.play-reply.new.self; last = Some last } in
    let one = exchanged_one c.args.seat.now.me c.exchange-value.new.seat.me t.slot empty t.carries c.exchange-value.ensures.3 in
    let two = exchanged_one c.exchange-value.new.seat.me c.exchange-value-2.new.seat.me empty full one.0 c.exchange-value-2.ensures.3 in
    let same = two.1 ∙ one.1 in
    let done = c.store.ensures.2 t.log full last (ap (λ (w : View g.row.T.Denot g.row.T-Op.Denot g.row.T-Reply.Denot). w.turn) same ∙ t.turn) two.0 refl in
    let same_slot : c.exchange-value.result ≡ t.slot = same_held _ _ _ t.carries (search rules) in
    let is : c.unwrap-value.result ≡ t.value = inject (search rules) in
    let asked : last.op.value ≡ op = search rules in
    let answered : last.reply.value ≡ c.play-reply.result = search rules in
    let steps : g.T.Turned.step_of c.unwrap-value.result op c.play-reply.result c.play-reply.new.self = search rules in
    has_played g.T.Turned.allows g.T.Turned.step_of g.T.Turned.is_open c.args.word c.args.seat.now.me op c.play-reply.result c.play-reply.new.self c.store.new.seat.me.0 t c.requires.may
    (subst (λ x. g.T.Turned.step_of x op c.play-reply.result c.play-reply.new.self) is steps)
    (ap (λ m. m.0) done ∙ (λ i. view_after t.log (entry (same i).number (asked i) (answered i)) (same i)))

pub returns-clause-counted : goal.returns-clause-counted
returns-clause-counted g c = let t = c.requires.turn in let op = c.args.op in
    let empty : Slot g.row.T.Denot g.row.T-Op.Denot g.row.T-Reply.Denot = record { value = None; last = None } in
    let last : LastCall g.row.T-Op.Denot g.row.T-Reply.Denot = record { op = c.of-asked.result; reply = c.of.result } in
    let full : Slot g.row.T.Denot g.row.T-Op.Denot g.row.T-Reply.Denot = record { value = Some c.play-reply.new.self; last = Some last } in
    let one = exchanged_one c.args.seat.now.me c.exchange-value.new.seat.me t.slot empty t.carries c.exchange-value.ensures.3 in
    let two = exchanged_one c.exchange-value.new.seat.me c.exchange-value-2.new.seat.me empty full one.0 c.exchange-value-2.ensures.3 in
    let same = two.1 ∙ one.1 in
    let done = c.store.ensures.2 t.log full last (ap (λ (w : View g.row.T.Denot g.row.T-Op.Denot g.row.T-Reply.Denot). w.turn) same ∙ t.turn) two.0 refl in
    turn_counted c.args.word t.log (entry c.args.seat.now.me.0.number last.op.value last.reply.value) c.store.new.seat.me.0.seen t.long
    (ap (λ m. m.0.seen) done ∙ ap (λ (n : ℕ). t.log ++ entry n last.op.value last.reply.value ∷ []) (ap (λ (w : View g.row.T.Denot g.row.T-Op.Denot g.row.T-Reply.Denot). w.number) same))
