-- A bench that began afresh, or with a cut of told texts, begins a run over them.
use Rattle.std.proofs.Common.{ℤ, Some, subst}
use Rattle.eql_book.specs.Laws.{FreshIsOfNone}
use Rattle.eql_conductor.specs.Benches.{Known}
use Rattle.eql_conductor.specs.Openings.{IsSafeCut}
use Rattle.eql_conductor.specs.RunLaws.{CutRunsAreTold, FreshRunsAreTold, rules_of}
use Rattle.eql_conductor.proofs.Opened.{fresh_runs_begin}
use Rattle.eql_conductor.proofs.OpenedCuts.{cut_runs_begin, cut_runs_have_texts, fit_is_safe}
use Rattle.eql_conductor.proofs.Listed.{cut_have_played, fresh_have_played}

pub fresh_runs_are_told : FreshIsOfNone → (b : Known) → FreshRunsAreTold b
fresh_runs_are_told none b lane part rules reads slack texts book fresh tells kept few =
    let begins = fresh_runs_begin b lane part rules fresh in
    record {
      texts_are = begins.told reads slack texts tells;
      rests = begins.begins.rests;
      played = fresh_have_played none rules reads slack texts book kept;
      numbers = few;
    }

pub cut_runs_are_told : (b : Known) → CutRunsAreTold b
cut_runs_are_told b lane part run bounds shards reads texts kept book opens suits slack is tells pipes book_is few =
    let safe : IsSafeCut (Some run.slack) kept = subst (λ (s : ℤ). IsSafeCut (Some s) kept) slack (fit_is_safe bounds shards kept suits.fits) in
    record {
      texts_are = cut_runs_have_texts b lane part (rules_of run) run reads texts kept opens is safe tells;
      rests = (cut_runs_begin b lane part (rules_of run) bounds shards kept opens suits).begins.rests;
      played = cut_have_played run reads texts kept book is pipes book_is;
      numbers = few;
    }
