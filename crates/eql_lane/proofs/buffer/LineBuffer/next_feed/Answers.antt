use Rattle.std.proofs.Common.{List, ℕ, length, take, ap, refl, subst, arith, length-drop}
use Rattle.eql_lane.specs.Buffers.{Pending, IsOneLine}
use Rattle.eql_lane.proofs.FeedLines.{found_after, none_after}
use Rattle.eql_lane.proofs.buffer.LineBuffer.next_feed.Goals as goal

pub returns-in-Some-clause-found : goal.returns-in-Some-clause-found
returns-in-Some-clause-found c =
    let unread = ap (λ (p : Pending). p.unread) c.self.view_is in
    found_after c.self.inside.searched c.rest.result.now c.args.self.now.unread c.rest.ensures
    (let a = ap length unread in let b = length-drop c.self.inside.start c.self.inside.bytes.items in omega (arith, a, b, c.self.inside.bytes.ok.0, c.self.invariant.within))
    (subst (λ (l : List ℕ). IsOneLine (take c.self.inside.searched l)) unread c.self.invariant.one) c.in-Some.at (c.in-Some.ensures {u = tt}).found

pub returns-in-None-clause-none : goal.returns-in-None-clause-none
returns-in-None-clause-none c =
    let unread = ap (λ (p : Pending). p.unread) c.self.view_is in
    λ _. none_after c.self.inside.searched c.rest.result.now c.args.self.now.unread c.rest.ensures
    (subst (λ (l : List ℕ). IsOneLine (take c.self.inside.searched l)) unread c.self.invariant.one) ((c.in-None.ensures {u = tt}).none refl)
