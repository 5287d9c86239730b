use Rattle.std.proofs.Common.{◌≡◌, ℕ, List, ◌++◌, drop, IsTrue}
use denote.Text.{Utf8}
use denote.Shadow.{shadow}
use Rattle.eql_parser.specs.Adding.{all_ascii}
use Rattle.eql_parser.specs.Printed.{fields_shown}
use Rattle.eql_parser.proofs.Lists.{led}
use Rattle.eql_parser.proofs.printing.list.put_fields.Given as goal

abbrev pub invariant-loop-field : goal.invariant-loop-field
invariant-loop-field l =
    shadow (Utf8 l.between) × IsTrue (all_ascii l.between)
    × ((rest : List ℕ) → l.page ++ led fields_shown l.between (drop l.field-index l.fields) rest ≡ l.fn.page ++ fields_shown l.fields rest)
