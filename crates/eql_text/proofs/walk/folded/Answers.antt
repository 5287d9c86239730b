use Rattle.std.proofs.Common.{◌<◌, sym, ◌∙◌, arith}
use Rattle.std.proofs.lemmas.Bool.Decides.{nat_tests}
use Rattle.ucd_case.proofs.CaseFoldingLemmas.{simple_fold-ascii}
use Rattle.eql_text.proofs.walk.folded.Goals as goal

pub returns-then-is_ascii : goal.returns-then-is_ascii
returns-then-is_ascii c =
    let small : c.args.c < 128 = grind (arith, nat_tests, c.is_ascii.ensures, c.if-is_ascii.true) in
    c.to_ascii_lowercase.ensures.value ∙ sym (simple_fold-ascii c.args.c small)
