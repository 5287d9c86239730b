use Rattle.std.proofs.Common.{◌≡◌, ◌∷◌, arith}
use Rattle.json.specs.Reads.{token_of}
use Rattle.serde_json.specs.Data.{string}
use Rattle.eql_lines.proofs.Opening.{on_err, read_string, read_nothing}
use Rattle.eql_lines.proofs.pass.pass_member.Goals as goal

pub returns-in_err-token-clause-err : goal.returns-in_err-token-clause-err
returns-in_err-token-clause-err c = on_err c.from_residual.result (read_nothing c.args.depth c.args.reader.now (grind arith))

pub returns-in-String-clause-ok : goal.returns-in-String-clause-ok
returns-in-String-clause-ok c =
    let first : c.args.reader.now ≡ token_of c.in_ok-token.token ∷ c.next.new.self = grind arith in
    let s = c.in-String.field-0.now in
    (string s, read_string c.args.depth c.args.reader.now c.next.new.self s (grind (arith, first)))
