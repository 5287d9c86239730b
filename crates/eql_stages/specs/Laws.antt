-- The law of what lines give to a checked query.
use Rattle.std.specs.Prelude.{ℤ}
use Rattle.eql_check.specs.RulesKept.{KeepsRules}
use Rattle.eql_laws.specs.Fitting.{ReadsFor}
use Rattle.eql_stages.specs.Planned.{Planned, reads_of, run_of}

-- what lines give to a query that keeps the rules is for the run of that query
abbrev pub ReadersFit : Type 0
ReadersFit = (planned : Planned) (slack : ℤ) → KeepsRules planned.query planned.fields → ReadsFor (run_of planned slack) (reads_of planned)
