use Rattle.std.proofs.Common.{◌≡◌, refl, sym, ◌∙◌, arith}
use Rattle.eql_lane.proofs.Joining.{reads_closed}
use Rattle.eql_lane.proofs.lane.Lane.feed.Goals as goal

pub returns-then-is_closed-clause-feeds : goal.returns-then-is_closed-clause-feeds
returns-then-is_closed-clause-feeds g c =
    let closed : c.args.self.now.state.cut.closed ≡ _ = sym c.is_closed.ensures ∙ c.if-is_closed.true in
    λ text told. record {
      step = record {
        not_full = let a = c.ready-ready.ensures text in omega (arith, a, c.if-ready-ge-READY.false);
        reads = reads_closed _ c.args.self.now.state (c.stands.ensures.state text told) (c.stands.ensures.ended text told closed);
        bytes = omega arith;
        closed = closed;
        same = λ _. refl;
        faults = refl;
      };
      keeps = told;
    }

pub returns-then-ready-ge-READY-clause-feeds : goal.returns-then-ready-ge-READY-clause-feeds
returns-then-ready-ge-READY-clause-feeds g c = λ text told. record { step = (c.ready-ready.ensures text, omega (arith, c.if-ready-ge-READY.true), refl); keeps = told }
