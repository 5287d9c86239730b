use Rattle.std.proofs.Common.{refl, sym, inl, inr, ◌∙◌, codes, arith}
use Rattle.eql_words.specs.Words.{bytes_of}
use Rattle.eql_words.specs.Usage.{usage_text}
use Rattle.eql_runs.specs.Runs as runs
use Rattle.eql_cli.proofs.Endings.{early_ends}
use Rattle.eql_cli.proofs.run.run_words.Goals as goal

pub returns-in-Ok-Some : goal.returns-in-Ok-Some
returns-in-Ok-Some g c = record {
  ends = c.end_command.ensures.ends (bytes_of c.args.words.now.items) (sym c.in-Ok-Some.ensures.command ∙ c.in-Ok-Some.field-0-is);
}

pub returns-in-Ok-None : goal.returns-in-Ok-None
returns-in-Ok-None g c =
    let none = sym c.in-Ok-None.ensures.command ∙ c.in-Ok-None.field-0-is in
    record {
      ends =
          early_ends g.H.Shelf g.K.Sink g.E.Sink (bytes_of c.args.words.now.items) _ _ _ _ 2 (inl refl) (λ e. none) usage_text (runs.usage none)
          c.tell_usage.ensures.told c.tell_usage.ensures.counts;
    }

pub returns-in-Err : goal.returns-in-Err
returns-in-Err g c = record {
  ends =
      early_ends g.H.Shelf g.K.Sink g.E.Sink (bytes_of c.args.words.now.items) _ _ _ _ 8 (inr refl) (λ e. absurd (omega (arith, e)))
      (codes "out of memory\n") runs.memory c.tell_memory.ensures.told c.tell_memory.ensures.counts;
}
