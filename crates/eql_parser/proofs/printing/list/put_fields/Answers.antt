use Rattle.std.proofs.Common.{refl, codes, rules}
use Rattle.std.proofs.lemmas.Str.{IsUtf8-from_ascii}
use Rattle.eql_parser.specs.Printed.{fields_shown, field_shown}
use Rattle.eql_parser.proofs.Lists.{joined}
use Rattle.eql_parser.proofs.Pages.{each_ascii}
use Rattle.eql_parser.proofs.printing.list.put_fields.Goals as goal

pub loop-field-preserved : goal.loop-field-preserved
loop-field-preserved c = (
  IsUtf8-from_ascii (codes ", ") (each_ascii (codes ", ") refl),
  refl,
  joined (λ f. field_shown f.name f.optional) fields_shown (codes ", ") (λ x rest. refl) (λ x y ys rest. refl) c.args.fields.now c.loop-field.field-index
      c.field-item.result c.loop-field.between.now c.args.page.now c.loop-field.page _ _ (search rules) c.field-item.is c.loop-field.invariant.2 c.in_ok-put.ensures c.in_ok-put_field.ensures,
)
