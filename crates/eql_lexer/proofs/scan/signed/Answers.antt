use Rattle.std.proofs.Common.{drop, ap, sym, ◌∙◌}
use Rattle.eql_lexer.proofs.SignsFound.{sign_found}
use Rattle.eql_lexer.proofs.scan.signed.Goals as goal

pub returns-in-Some-clause-found : goal.returns-in-Some-clause-found
returns-in-Some-clause-found c =
    sign_found _ _ _ _ _ c.requires.cons (sym c.in-Some.ensures) (c.skip.ensures ∙ ap (λ n. drop n c.args.text.now) c.sign_len.ensures)
