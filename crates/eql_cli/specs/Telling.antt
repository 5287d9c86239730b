-- What is told of a run that stopped.
use Rattle.std.specs.Prelude.{ℕ, List, Option, codes}
use Rattle.eql_outside.specs.Written.{WroteFront}
use Rattle.eql_runs.specs.CutRefusals.{cut_text, held_text}
use Rattle.eql_runs.specs.Runs.{limit_text}
use Rattle.eql_inputs.specs.Errors.{text_of}
use Rattle.eql_find.specs.declared.error.FindError.{FindError}
use Rattle.eql_find.specs.declared.error.FindError.TheVariants as run
use Rattle.eql_find.specs.Errors.{cut_refusal_of, limit_of}

-- the text of a error, or a front of it; where the report was refused nothing more is told
abbrev pub TellsRun : FindError → (err err' : Option (List ℕ)) → Type 0
TellsRun (run.Files h) err err' = WroteFront (text_of h) err err'
TellsRun (run.Cut why) err err' = WroteFront (cut_text (cut_refusal_of why)) err err'
TellsRun (run.Held why) err err' = WroteFront (held_text why) err err'
TellsRun run.Disk err err' = WroteFront (codes "checkpoint disk fault\n") err err'
TellsRun run.Write err err' = WroteFront (codes "write fault\n") err err'
TellsRun (run.Limit l) err err' = WroteFront (limit_text (limit_of l)) err err'
TellsRun run.Generation err err' = WroteFront (codes "limit: generation\n") err err'
TellsRun (run.Report r) err err' = Unit {0}
