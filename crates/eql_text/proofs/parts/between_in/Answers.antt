use Rattle.std.proofs.Common.{◌≡◌, ℕ, List, IfOk, subst, sym, ◌∙◌}
use Rattle.std.specs.Str.{chars}
use Rattle.eql_text.proofs.Parting.{no_left, no_right, both_found}
use Rattle.eql_text.proofs.parts.between_in.Goals as goal

pub returns-in_default : goal.returns-in_default
returns-in_default c =
    c.empty.ensures
    ∙ sym (no_left (chars c.args.s.now) (chars c.args.l.now) (chars c.args.r.now) c.args.greedy c.args.fold c.in_default.ensures.place)

pub returns-in-Some-place_sought : goal.returns-in-Some-place_sought
returns-in-Some-place_sought c =
    let Is : List ℕ → Type 0 = λ x. IfOk c.part.result (λ t. t ≡ x) in
    subst Is
    (both_found (chars c.args.s.now) (chars c.args.l.now) (chars c.args.r.now) c.args.greedy c.args.fold c.in-Some.left.place c.in-Some-place_sought.count
    (chars c.in-Some.left.after.now) c.in-Some.ensures.place c.in-Some.ensures.after c.in-Some-place_sought.ensures)
    c.part.ensures

pub returns-in-None : goal.returns-in-None
returns-in-None c =
    c.empty-in-None.ensures
    ∙ sym (no_right (chars c.args.s.now) (chars c.args.l.now) (chars c.args.r.now) c.args.greedy c.args.fold c.in-Some.left.place
    (chars c.in-Some.left.after.now) c.in-Some.ensures.place c.in-Some.ensures.after c.in-None.ensures)
