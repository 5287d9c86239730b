use Rattle.std.proofs.Common.{refl, codes, rules}
use Rattle.std.proofs.lemmas.Str.{IsUtf8-from_ascii}
use Rattle.eql_parser.specs.Printed.{texts_shown, string_shown}
use Rattle.eql_parser.proofs.Lists.{joined}
use Rattle.eql_parser.proofs.Pages.{each_ascii}
use Rattle.eql_parser.proofs.printing.list.put_texts.Goals as goal

pub loop-text-preserved : goal.loop-text-preserved
loop-text-preserved c = (
  IsUtf8-from_ascii (codes ", ") (each_ascii (codes ", ") refl),
  refl,
  joined string_shown texts_shown (codes ", ") (λ x rest. refl) (λ x y ys rest. refl) c.args.texts.now c.loop-text.text-index
      c.text-item.result c.loop-text.between.now c.args.page.now c.loop-text.page _ _ (search rules) c.text-item.is c.loop-text.invariant.2 c.in_ok-put.ensures c.in_ok-put_quoted.ensures,
)
