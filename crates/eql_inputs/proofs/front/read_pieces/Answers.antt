use Rattle.std.proofs.Common.{◌∙◌, List, ℕ, Ok, ap, refl, sym, subst, arith}
use Rattle.eql_inputs.specs.Fronts.{TakesFront}
use Rattle.eql_inputs.proofs.FrontLemmas.{reads_more, reads_end, takes_after, ok_not_err}
use Rattle.eql_inputs.proofs.front.read_pieces.Goals as goal

pub pieces-preserved : goal.pieces-preserved
pieces-preserved g c = record {
  read = reads_more _ _ _ _ _ _ c.pieces.invariant.read (c.in-Ok-true.ensures.more (ap (λ b. Ok b) c.in-Ok-true.field-0-test));
  few = c.in-Ok-true.ensures.few refl;
  count = c.in-Ok-true.ensures.source.steady (λ is. ok_not_err _ _ is) ∙ c.pieces.invariant.count;
  unfailing = λ never. (c.in-Ok-true.ensures.source.unfailing (c.pieces.invariant.unfailing never)).1;
  name = c.in-Ok-true.ensures.source.named ∙ c.pieces.invariant.name;
}

pub returns-in-Ok-false-clause-front : goal.returns-in-Ok-false-clause-front
returns-in-Ok-false-clause-front g c = λ ok.
    let end = c.in-Ok-false.ensures.end (ap (λ b. Ok b) c.in-Ok-false.field-0-test) in
    subst (λ (x : List ℕ). TakesFront (g.S.Source.left c.args.source.now) c.args.most x) (sym end.1)
    (reads_end _ _ _ _ c.pieces.invariant.read end.0 (omega (arith, c.pieces.invariant.few, c.pieces.text.ok.0)))

pub returns-in-Ok-false-clause-source : goal.returns-in-Ok-false-clause-source
returns-in-Ok-false-clause-source g c = record {
  takes = takes_after _ _ _ _ _ _ c.pieces.invariant.read (omega (arith, c.pieces.text.ok.0)) c.pieces.invariant.few c.in-Ok-false.ensures.source.takes;
  failed = λ is. absurd (ok_not_err _ _ is);
  steady = λ _. c.in-Ok-false.ensures.source.steady (λ is. ok_not_err _ _ is) ∙ c.pieces.invariant.count;
  named = c.in-Ok-false.ensures.source.named ∙ c.pieces.invariant.name;
  unfailing = λ never. (λ is. ok_not_err _ _ is, (c.in-Ok-false.ensures.source.unfailing (c.pieces.invariant.unfailing never)).1);
}
