use Rattle.std.proofs.Common.{ℤ, [], Option, None, ap, ◌∙◌}
use Rattle.eql_part.specs.KeyTables.{Pendings}
use Rattle.eql_parts.specs.Inboxes.{WaitingView}
use Rattle.eql_parts.specs.PartSteps.{alive_by}
use Rattle.eql_parts.proofs.Living.{begun}
use Rattle.eql_parts.proofs.part.Part.new.Goals as goal

pub invariant_of-result : goal.invariant_of-result
invariant_of-result g c =
    let opened : Pendings → WaitingView = λ p. record { stages = p.stages; span = p.span; held = p.holders; inbox = []; found = []; processed = None } in
    let swept : Option ℤ → WaitingView → WaitingView = λ time w. record w { held = alive_by w.span time w.held } in
    begun c.sweep.new.self c.args.m c.args.span c.args.holders c.args.done
    (c.sweep.ensures ∙ ap (swept c.time_of.result) (c.new-waiting.ensures ∙ ap opened (c.in_ok-keys.ensures {u = tt}))
    ∙ ap (λ (time : Option ℤ). swept time (opened (record { stages = c.args.m; span = c.args.span; holders = c.args.holders }))) c.time_of.ensures)
    c.requires.below
