use Rattle.std.proofs.Common.{ℕ, subst}
use Rattle.eql_cut.specs.Whole.{IsText}
use Rattle.eql_cut_tests.proofs.tests.lifting.first_cut.Goals as goal

-- the text is in the first format
pub returns-in-Ok-clause-unplaced : goal.returns-in-Ok-clause-unplaced
returns-in-Ok-clause-unplaced c =
    let bytes = c.deref.result.now in
    c.first_format_has_no_places.ensures c.in-Ok.read.cut bytes
    (subst (λ (n : ℕ). IsText n c.in-Ok.read.cut bytes) c.if-decode-eq1.true c.in-Ok.ensures.found.is)
