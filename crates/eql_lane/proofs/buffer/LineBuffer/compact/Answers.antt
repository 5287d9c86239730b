use Rattle.std.proofs.Common.{◌≡◌, ◌∙◌, rules, drop, sym, ap, arith}
use Rattle.std.proofs.lemmas.Grind.{common_steps}
use Rattle.eql_lane.specs.Buffers.{Pending}
use Rattle.eql_lane.proofs.Digesting.{none_added}
use Rattle.eql_lane.proofs.buffer.LineBuffer.compact.Goals as goal

pub returns : goal.returns
returns c =
    let rest : c.drop.new.self.0.items ≡ drop c.self.inside.start c.self.inside.bytes.items = first_of (search rules, grind (arith, common_steps)) in
    λ i. record {
      long = ap (λ (p : Pending). p.long) c.self.view_is i;
      unread = (rest ∙ ap (λ (p : Pending). p.unread) c.self.view_is) i;
      digest = (sym (none_added c.digest-self-inside.result) ∙ c.digest-self-inside.ensures.digest) i;
    }
