use Rattle.std.proofs.Common.{◌≡◌, take, drop, true, arith, subst, sym}
use Rattle.std.specs.Str.{IsUtf8}
use Rattle.std.proofs.lemmas.Grind.{common_steps}
use Rattle.eql_lexer.specs.Strings.{triple}
use Rattle.eql_lexer.proofs.Utf8.{raw_cut}
use Rattle.eql_lexer.proofs.quoted.raw_string.Goals as goal

pub text_of-requires : goal.text_of-requires
text_of-requires c =
    let items : c.in_ok-content.content.items ≡ take c.raw_len-len.result c.args.bytes.now = grind (arith, common_steps) in
    let closes : triple (drop c.raw_len-len.result c.args.bytes.now) ≡ true = grind (arith, common_steps) in
    subst IsUtf8 (sym items) (raw_cut c.args.bytes.now c.raw_len-len.result closes c.requires)
