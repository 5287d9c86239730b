use Rattle.std.proofs.Common.{sym, ap, ◌∙◌}
use Rattle.eql_runs.specs.Runs.{limit_text}
use Rattle.eql_find.specs.Errors.{limit_of}
use Rattle.eql_cli.proofs.tell.limit_line.Goals as goal

pub returns-in_ok-format-in-Lines : goal.returns-in_ok-format-in-Lines
unfolding lib.Utf8.encode
returns-in_ok-format-in-Lines c = c.in_ok-format-in-Lines.ensures.ok ∙ ap (λ l. limit_text (limit_of l)) (sym c.in-Lines.is)
