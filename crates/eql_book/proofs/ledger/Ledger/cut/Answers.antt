use Rattle.std.proofs.Common.{List, sym, subst, ◌∙◌}
use Rattle.eql_values.specs.declared.cut.PipeState.{PipeState}
use Rattle.eql_book.specs.Books.{FitsPipes}
use Rattle.eql_book.specs.Gates.{pipes_of}
use Rattle.eql_book.proofs.FitLemmas.{ledger_fits}
use Rattle.eql_book.proofs.ledger.Ledger.cut.Goals as goal

pub returns-clause-fits : goal.returns-clause-fits
returns-clause-fits c =
    let ledger = c.args.self.now in
    subst (λ (l : List PipeState). FitsPipes (pipes_of ledger.gates.items) (record { found = ledger.found; listed = ledger.listed; pipes = l }))
    (sym (c.of.ensures ∙ c.in_ok-states.ensures {u = tt})) (ledger_fits ledger)
