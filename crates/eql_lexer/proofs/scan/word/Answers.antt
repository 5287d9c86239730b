use Rattle.std.proofs.Common.{◌≡◌, ◌+◌, take, ap, arith, subst, sym, ◌∙◌}
use Rattle.std.specs.Str.{IsUtf8, chars}
use Rattle.std.proofs.lemmas.Grind.{common_steps}
use Rattle.eql_lexer.proofs.Places.{word_found, word_utf8}
use Rattle.eql_lexer.proofs.scan.word.Goals as goal

pub text_of-requires : goal.text_of-requires
text_of-requires c =
    let items : c.in_ok-name.name.items ≡ take (c.word_more_len-len.result + 1) c.args.text.now = grind (arith, common_steps) in
    subst IsUtf8 (sym items) (word_utf8 _ _ _ _ c.requires.cons c.requires.letter c.word_more_len-len.ensures.value)

pub returns-clause-found : goal.returns-clause-found
returns-clause-found c =
    let items : c.in_ok-name.name.items ≡ take (c.word_more_len-len.result + 1) c.args.text.now = grind (arith, common_steps) in
    word_found _ _ _ _ _ _ c.requires.cons c.requires.letter c.word_more_len-len.ensures.value (c.text_of.ensures ∙ ap chars items) c.skip.ensures
