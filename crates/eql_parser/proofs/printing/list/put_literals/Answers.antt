use Rattle.std.proofs.Common.{refl, codes, rules}
use Rattle.std.proofs.lemmas.Str.{IsUtf8-from_ascii}
use Rattle.eql_parser.specs.Printed.{literals_shown, literal_shown}
use Rattle.eql_parser.proofs.Lists.{joined}
use Rattle.eql_parser.proofs.Pages.{each_ascii}
use Rattle.eql_parser.proofs.printing.list.put_literals.Goals as goal

pub loop-literal-preserved : goal.loop-literal-preserved
loop-literal-preserved c = (
  IsUtf8-from_ascii (codes ", ") (each_ascii (codes ", ") refl),
  refl,
  joined literal_shown literals_shown (codes ", ") (λ x rest. refl) (λ x y ys rest. refl) c.args.literals.now c.loop-literal.literal-index
      c.literal-item.result c.loop-literal.between.now c.args.page.now c.loop-literal.page _ _ (search rules) c.literal-item.is c.loop-literal.invariant.2 c.in_ok-put.ensures c.in_ok-put_literal.ensures,
)
