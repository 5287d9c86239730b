-- A run of `check`.
use Rattle.std.proofs.Common.{ℕ, List, [], ◌++◌, Option, Some, None, refl}
use Rattle.std.specs.Prelude.{encode_utf8_all, codes}
use Rattle.eql_values.specs.declared.value.Kind.{Kind as FieldKind}
use Rattle.eql_query.specs.QueryTree.{QueryTree}
use Rattle.eql_parser.specs.Printed.{query_shown}
use Rattle.eql_runs.specs.Files.{Files}
use Rattle.eql_inputs.specs.Steps.{GotChecked}
use Rattle.eql_inputs.specs.declared.error.InputError.TheVariants as error
use Rattle.eql_find.specs.declared.error.FindError.{FindError}
use Rattle.eql_find.specs.declared.error.FindError.TheVariants as run
use Rattle.eql_cli.specs.Printing.{HasPrintCause, StopsWriting}

-- the text of a checked query wasn't written whole
pub stop_cause : (query fields : List ℕ) (files : Option Files) (tree : QueryTree) (kinds : List (List ℕ × FieldKind))
    → GotChecked query fields files tree kinds → (h : FindError) → StopsWriting h → HasPrintCause query fields files h
stop_cause query fields files tree kinds got (run.Files (error.Refused r)) stops = absurd stops
stop_cause query fields files tree kinds got (run.Files (error.Read name)) stops = absurd stops
stop_cause query fields files tree kinds got (run.Files error.Memory) stops = tt
stop_cause query fields None tree kinds got run.Write stops = tt
stop_cause query fields (Some fs) tree kinds got run.Write stops = (
  encode_utf8_all (query_shown tree) ++ codes "\n",
  [],
  record { tree = tree; kinds = kinds; checked = got; bytes_are = refl; report_is = refl },
)
stop_cause query fields files tree kinds got (run.Cut why) stops = absurd stops
stop_cause query fields files tree kinds got (run.Held why) stops = absurd stops
stop_cause query fields files tree kinds got run.Disk stops = absurd stops
stop_cause query fields files tree kinds got (run.Limit l) stops = absurd stops
stop_cause query fields files tree kinds got run.Generation stops = absurd stops
stop_cause query fields files tree kinds got (run.Report r) stops = absurd stops
