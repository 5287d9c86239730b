use Rattle.std.proofs.Common.{ℕ, List, sym, ap, ◌∙◌}
use Rattle.eql_runs.specs.CutRefusals.{cut_text}
use Rattle.eql_find.specs.declared.error.CutStop.{CutStop}
use Rattle.eql_find.specs.Errors.{cut_refusal_of}
use Rattle.eql_cli.proofs.TextLemmas.{damaged_line, no_line_line, short_line}
use Rattle.eql_cli.proofs.tell.cut_line.Goals as goal

abbrev told_of : CutStop → List ℕ
told_of why = cut_text (cut_refusal_of why)

pub returns-in_ok-format-in-Damaged : goal.returns-in_ok-format-in-Damaged
unfolding lib.Utf8.encode
returns-in_ok-format-in-Damaged c = c.in_ok-format-in-Damaged.ensures.ok ∙ damaged_line c.in-Damaged.area c.in-Damaged.at ∙ ap told_of (sym c.in-Damaged.is)

pub returns-in_ok-format-in-Short : goal.returns-in_ok-format-in-Short
unfolding lib.Utf8.encode
returns-in_ok-format-in-Short c = c.in_ok-format-in-Short.ensures.ok ∙ short_line c.in-Short.shard c.in-Short.offset c.in-Short.had ∙ ap told_of (sym c.in-Short.is)

pub returns-in_ok-format-in-NoLine : goal.returns-in_ok-format-in-NoLine
unfolding lib.Utf8.encode
returns-in_ok-format-in-NoLine c = c.in_ok-format-in-NoLine.ensures.ok ∙ no_line_line c.in-NoLine.shard c.in-NoLine.line ∙ ap told_of (sym c.in-NoLine.is)
