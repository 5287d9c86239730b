use Rattle.std.proofs.Common.{rules, sym, ◌∙◌, arith, w64}
use Rattle.std.proofs.lemmas.Grind.{common_steps}
use Rattle.std.proofs.lemmas.Int.{to_z-of_z}
use Rattle.eql_lexer.proofs.Numbers.{lexeme_num}
use Rattle.eql_lexer.proofs.scan.numeral.Goals as goal

pub returns-in-Some-clause-found : goal.returns-in-Some-clause-found
returns-in-Some-clause-found c =
    lexeme_num _ _ _ _ _ _ c.requires.cons c.requires.digit c.digits_len-len.ensures.value
    (to_z-of_z w64 c.in-Some.n (search rules) ∙ c.in-Some.ensures.0) c.in-Some.ensures.1 (grind (arith, common_steps))
    (sym c.begins_fraction_at.ensures ∙ c.if-begins_fraction_at.false)
