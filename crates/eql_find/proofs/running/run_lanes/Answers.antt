use native.Mathlib.Omega.{arith}
use denote.Param.Send.{sendable}
use Rattle.std.proofs.Common.{◌≡◌, ◌≤◌, Err, refl, rules, ap, ◌∙◌, length, map}
use Rattle.std.proofs.lemmas.List.{length-map}
use Rattle.eql_stages.specs.Matching.{reads_by}
use Rattle.eql_words.specs.Bounds.{FindIsBounded}
use Rattle.eql_conductor.specs.declared.plan.Run.{Run}
use Rattle.eql_runs.specs.Searches.{rest_of}
use Rattle.eql_search.specs.declared.rules.Rules.{Rules as Asked}
use Rattle.eql_search.specs.Answers.{IsRead}
use Rattle.eql_find.specs.Running.{BeginsRun, rest_over}
use Rattle.eql_find.specs.Searching.{bare, search_in}
use Rattle.eql_find.proofs.AllowingLemmas.{BeginLaws}
use Rattle.eql_find.proofs.AnswerLemmas.{calm_by, cuts_are, disk_as, done_by, ends_by, err_as, faults_by, listing_all, listing_front, listing_some, no_cuts, no_report, out_as, refused_as, report_by, stopped_by}
use Rattle.eql_find.proofs.KeepLemmas.{asked_by, end_keeps, keeps_as, keeps_nothing, rose_keeps}
use Rattle.eql_find.proofs.LaneRuns.{IsAsked, in_bounds, may_lanes, may_search, searches}
use Rattle.eql_find.proofs.OutcomeLemmas.{none_falls}
use Rattle.eql_find.proofs.RunLemmas.{lines_ascend, same_listed, same_mark, starts}
use Rattle.eql_find.proofs.SearchLemmas.{fronts_none, may_by}
use Rattle.eql_find.proofs.Sends.{reader_send, reader_sync}
use Rattle.eql_find.proofs.StayLemmas.{long_searched, stays_searched, stays_taken, steady_over, steady_taken, unfailing_taken}
use Rattle.eql_find.proofs.running.run_lanes.Goals as goal

pub begin_rest-requires-clause-ascend : goal.begin_rest-requires-clause-ascend
begin_rest-requires-clause-ascend g c =
    let bounds : FindIsBounded c.args.find.now = search rules in
    let b : BeginsRun g.S.Source.left reads_by g.D.Disk.history g.known_texts c.args.find.now c.args.planned.now c.args.lanes.now.items c.args.rest c.args.head c.args.keep = search rules in
    let laws : BeginLaws = record { spans = c.spans_change_no_fit.ensures; lifted_is = c.lifted_lanes_are_placed.ensures; lifted_stands = c.lifted_cuts_fit.ensures.stand; lifted_fit = c.lifted_cuts_fit.ensures.fit; may_begin = c.cuts_may_begin.ensures } in
    lines_ascend laws c.args.find.now c.args.planned.now bounds c.args.lanes.now.items c.args.rest b.many g.known_texts b.begun b.own b.began

pub begin_rest-requires-clause-fits : goal.begin_rest-requires-clause-fits
begin_rest-requires-clause-fits g c =
    let bounds : FindIsBounded c.args.find.now = search rules in
    let b : BeginsRun g.S.Source.left reads_by g.D.Disk.history g.known_texts c.args.find.now c.args.planned.now c.args.lanes.now.items c.args.rest c.args.head c.args.keep = search rules in
    let laws : BeginLaws = record { spans = c.spans_change_no_fit.ensures; lifted_is = c.lifted_lanes_are_placed.ensures; lifted_stands = c.lifted_cuts_fit.ensures.stand; lifted_fit = c.lifted_cuts_fit.ensures.fit; may_begin = c.cuts_may_begin.ensures } in
    let lanes = c.args.lanes.now.items in
    (may_lanes g.S.Source reads_by g.D.Disk laws c.args.find.now c.args.planned.now g.known_texts lanes (map bare lanes) c.args.rest (rest_over lanes c.args.rest) c.args.head c.args.keep bounds b refl refl).pipes_fit

pub search-requires : goal.search-requires
search-requires g c =
    let bounds : FindIsBounded c.args.find.now = search rules in
    let b : BeginsRun g.S.Source.left reads_by g.D.Disk.history g.known_texts c.args.find.now c.args.planned.now c.args.lanes.now.items c.args.rest c.args.head c.args.keep = search rules in
    let laws : BeginLaws = record { spans = c.spans_change_no_fit.ensures; lifted_is = c.lifted_lanes_are_placed.ensures; lifted_stands = c.lifted_cuts_fit.ensures.stand; lifted_fit = c.lifted_cuts_fit.ensures.fit; may_begin = c.cuts_may_begin.ensures } in
    let lanes = c.args.lanes.now.items in
    let mids = c.begin_rest.new.lanes.items in
    let rest = c.args.rest in
    let placed = rest_over lanes rest in
    let taken : mids ≡ map bare lanes = c.in-Ok.ensures.taken in
    let asked : Asked = record { stages = c.stages.result; span = c.span.result } in
    let run : Run _ = record { plan = record { batch = c.args.find.now.batch; every = c.every_of.result; head = c.args.head; mark = c.in-Ok.begun.0 }; book = c.in-Ok.begun.2; keep = c.args.keep } in
    let may = may_lanes g.S.Source reads_by g.D.Disk laws c.args.find.now c.args.planned.now g.known_texts lanes mids rest placed c.args.head c.args.keep bounds b taken refl in
    let is : IsAsked c.args.find.now c.args.planned.now placed c.args.head asked c.in-Ok.begun.1 run =
    record {
      stages_are = c.stages.ensures.same;
      span_is = c.span.ensures.same;
      plan_is = λ i. record { batch = c.args.find.now.batch; every = c.every_of.ensures i; head = c.args.head; mark = c.in-Ok.begun.0 };
      begins = c.in-Ok.ensures.begins;
    } in
    let numbers = in_bounds g.S.Source (record { read_of = reads_by }) g.K.Sink g.D.Disk c.matches_are_counted.ensures.few c.args.find.now c.args.planned.now g.known_texts mids placed c.args.head asked c.in-Ok.begun.1 run bounds may is c.stages.ensures.from c.stages.ensures.to c.span.ensures.time in
    let begins = may_search g.S.Source (record { read_of = reads_by }) g.K.Sink g.D.Disk c.matches_are_counted.ensures.few c.args.find.now c.args.planned.now g.known_texts mids placed c.args.head asked c.in-Ok.begun.1 run bounds may is in
    λ κs lives. (lives.0, (lives.1.0, (search rules, (lives.1.1.0, (lives.1.1.1.0, (lives.1.1.1.1, (search (sendable, c.requires.1.1.1.1.1.1.0), (search (sendable, reader_send), (search (sendable, c.requires.1.1.1.1.1.1.1.0), (search (sendable, c.requires.1.1.1.1.1.1.1.1.0), (search (sendable, reader_sync), (search (sendable, c.requires.1.1.1.1.1.1.1.1.1.0), (numbers, begins)))))))))))))

pub error_of-requires : goal.error_of-requires
error_of-requires g c =
    let b : BeginsRun g.S.Source.left reads_by g.D.Disk.history g.known_texts c.args.find.now c.args.planned.now c.args.lanes.now.items c.args.rest c.args.head c.args.keep = search rules in
    let taken : c.begin_rest.new.lanes.items ≡ map bare c.args.lanes.now.items = c.in-Ok.ensures.taken in
    may_by g.known_texts (length c.args.find.now.shards) c.begin_rest.new.lanes.items c.search.new.lanes.items (ap length taken ∙ length-map c.args.lanes.now.items bare ∙ b.many)
    _ _ _ _ c.in-Err-search.stop c.in-Err-search.ensures.stops.cause

pub write_report-requires : goal.write_report-requires
write_report-requires g c =
    let bounds : FindIsBounded c.args.find.now = search rules in
    let b : BeginsRun g.S.Source.left reads_by g.D.Disk.history g.known_texts c.args.find.now c.args.planned.now c.args.lanes.now.items c.args.rest c.args.head c.args.keep = search rules in
    let lanes = c.args.lanes.now.items in
    let mids = c.begin_rest.new.lanes.items in
    let rest = c.args.rest in
    let placed = rest_over lanes rest in
    let taken : mids ≡ map bare lanes = c.in-Ok.ensures.taken in
    let news = c.search.new.lanes.items in
    let most = bounds.count.1 in
    let same : length news ≡ length lanes = long_searched g.S.Source.left g.S.Source.lent_as reads_by lanes mids news taken c.search.ensures.lanes.stay in
    let many = b.many in
    let few : length news ≤ 256 = omega (arith, most, same, many) in
    record { few = few }

-- there was no memory to begin
pub returns-in-Err-clause-ends : goal.returns-in-Err-clause-ends
returns-in-Err-clause-ends g c = record {
  done = tt;
  prefix = fronts_none g.known_texts _ (rest_of (search_in c.args.find.now c.args.planned.now) c.args.rest.book.listed) _;
  listed = λ report. absurd report;
  keeps = keeps_nothing g.D.Disk.history (Unit {0}) c.args.head c.args.rest.mark _ (no_cuts (search_in c.args.find.now c.args.planned.now) g.known_texts c.args.rest.book.listed (g.K.Sink.written c.args.out.now) (g.K.Sink.written c.args.out.now) (g.K.Sink.kept c.args.out.now) (g.K.Sink.kept c.args.out.now) _) c.args.keep _ (λ e. absurd cc);
  quiet = λ nothing. refl;
  cause = tt;
}

pub returns-in-Err-clause-lanes : goal.returns-in-Err-clause-lanes
returns-in-Err-clause-lanes g c = stays_taken g.S.Source.left g.S.Source.lent_as c.args.lanes.now.items c.begin_rest.new.lanes.items c.begin_rest.ensures.lanes

pub returns-in-Err-clause-told : goal.returns-in-Err-clause-told
returns-in-Err-clause-told g c = record {
  faults = steady_taken c.args.lanes.now.items c.begin_rest.new.lanes.items c.begin_rest.ensures.lanes;
  disk = refl;
  out = refl;
  err = refl;
  disks_rise = none_falls _ _ refl;
  writes_rise = none_falls _ _ refl;
  errors_rise = none_falls _ _ refl;
}

-- listing and report were written
pub returns-in-Ok-write_report-clause-ends : goal.returns-in-Ok-write_report-clause-ends
returns-in-Ok-write_report-clause-ends g c =
    let bounds : FindIsBounded c.args.find.now = search rules in
    let b : BeginsRun g.S.Source.left reads_by g.D.Disk.history g.known_texts c.args.find.now c.args.planned.now c.args.lanes.now.items c.args.rest c.args.head c.args.keep = search rules in
    let laws : BeginLaws = record { spans = c.spans_change_no_fit.ensures; lifted_is = c.lifted_lanes_are_placed.ensures; lifted_stands = c.lifted_cuts_fit.ensures.stand; lifted_fit = c.lifted_cuts_fit.ensures.fit; may_begin = c.cuts_may_begin.ensures } in
    let lanes = c.args.lanes.now.items in
    let mids = c.begin_rest.new.lanes.items in
    let rest = c.args.rest in
    let placed = rest_over lanes rest in
    let taken : mids ≡ map bare lanes = c.in-Ok.ensures.taken in
    let news = c.search.new.lanes.items in
    let asked : Asked = record { stages = c.stages.result; span = c.span.result } in
    let run : Run _ = record { plan = record { batch = c.args.find.now.batch; every = c.every_of.result; head = c.args.head; mark = c.in-Ok.begun.0 }; book = c.in-Ok.begun.2; keep = c.args.keep } in
    let may = may_lanes g.S.Source reads_by g.D.Disk laws c.args.find.now c.args.planned.now g.known_texts lanes mids rest placed c.args.head c.args.keep bounds b taken refl in
    let is : IsAsked c.args.find.now c.args.planned.now placed c.args.head asked c.in-Ok.begun.1 run =
    record {
      stages_are = c.stages.ensures.same;
      span_is = c.span.ensures.same;
      plan_is = λ i. record { batch = c.args.find.now.batch; every = c.every_of.ensures i; head = c.args.head; mark = c.in-Ok.begun.0 };
      begins = c.in-Ok.ensures.begins;
    } in
    let e = c.in-Ok-search.ensures in
    let ends = searches g.S.Source (record { read_of = reads_by }) g.K.Sink g.D.Disk c.matches_are_counted.ensures.few c.args.find.now c.args.planned.now g.known_texts mids placed c.args.head asked c.in-Ok.begun.1 run bounds may is
    news c.args.out.now c.search.new.sink c.search.new.run _ e.wrote e.keeps e.lanes in
    let start = starts laws c.args.find.now c.args.planned.now bounds lanes rest b.many mids placed taken refl g.known_texts in
    let listed = same_listed lanes rest placed refl in
    record {
      done = done_by c.args.find.now c.args.planned.now g.known_texts lanes mids news rest placed start listed b.plan_is ends.read _ _ _ _ ends.whole c.in-Ok-write_report.ensures.whole;
      prefix = tt;
      listed = tt;
      keeps =
          keeps_as g.D.Disk.history c.args.head placed.mark rest.mark _ _ (same_mark lanes rest placed refl)
          (cuts_are c.args.find.now c.args.planned.now g.known_texts lanes mids news rest placed start listed bounds (g.K.Sink.written c.args.out.now) (g.K.Sink.written c.search.new.sink) (g.K.Sink.kept c.args.out.now) (g.K.Sink.kept c.search.new.sink)) c.args.keep c.search.new.run.keep _ _ (λ e. absurd cc) ends.keeps;
      quiet = tt;
      cause = tt;
    }

pub returns-in-Ok-write_report-clause-lanes : goal.returns-in-Ok-write_report-clause-lanes
returns-in-Ok-write_report-clause-lanes g c =
    let taken : c.begin_rest.new.lanes.items ≡ map bare c.args.lanes.now.items = c.in-Ok.ensures.taken in
    stays_searched g.S.Source.left g.S.Source.lent_as reads_by c.args.lanes.now.items c.begin_rest.new.lanes.items c.search.new.lanes.items taken c.search.ensures.lanes.stay

pub returns-in-Ok-write_report-clause-told : goal.returns-in-Ok-write_report-clause-told
returns-in-Ok-write_report-clause-told g c =
    let lanes = c.args.lanes.now.items in
    let mids = c.begin_rest.new.lanes.items in
    let rest = c.args.rest in
    let placed = rest_over lanes rest in
    let taken : mids ≡ map bare lanes = c.in-Ok.ensures.taken in
    let news = c.search.new.lanes.items in
    let stops = c.in-Ok-search.ensures.stops in
    record {
      faults = steady_over lanes mids news taken (λ shard. ⊥) stops.reads_steady;
      disk = stops.disk_steady (λ e. cc) (λ e. e);
      out = stops.writes_steady (λ e. cc) (λ e. e);
      err = c.in-Ok-write_report.ensures.steady (λ e. absurd cc);
      disks_rise = stops.disks_rise;
      writes_rise = stops.writes_rise;
      errors_rise = c.write_report.ensures.counts;
    }

-- the report was refused
pub returns-in-Ok-search-clause-ends : goal.returns-in-Ok-search-clause-ends
returns-in-Ok-search-clause-ends g c =
    let bounds : FindIsBounded c.args.find.now = search rules in
    let b : BeginsRun g.S.Source.left reads_by g.D.Disk.history g.known_texts c.args.find.now c.args.planned.now c.args.lanes.now.items c.args.rest c.args.head c.args.keep = search rules in
    let laws : BeginLaws = record { spans = c.spans_change_no_fit.ensures; lifted_is = c.lifted_lanes_are_placed.ensures; lifted_stands = c.lifted_cuts_fit.ensures.stand; lifted_fit = c.lifted_cuts_fit.ensures.fit; may_begin = c.cuts_may_begin.ensures } in
    let lanes = c.args.lanes.now.items in
    let mids = c.begin_rest.new.lanes.items in
    let rest = c.args.rest in
    let placed = rest_over lanes rest in
    let taken : mids ≡ map bare lanes = c.in-Ok.ensures.taken in
    let news = c.search.new.lanes.items in
    let asked : Asked = record { stages = c.stages.result; span = c.span.result } in
    let run : Run _ = record { plan = record { batch = c.args.find.now.batch; every = c.every_of.result; head = c.args.head; mark = c.in-Ok.begun.0 }; book = c.in-Ok.begun.2; keep = c.args.keep } in
    let may = may_lanes g.S.Source reads_by g.D.Disk laws c.args.find.now c.args.planned.now g.known_texts lanes mids rest placed c.args.head c.args.keep bounds b taken refl in
    let is : IsAsked c.args.find.now c.args.planned.now placed c.args.head asked c.in-Ok.begun.1 run =
    record {
      stages_are = c.stages.ensures.same;
      span_is = c.span.ensures.same;
      plan_is = λ i. record { batch = c.args.find.now.batch; every = c.every_of.ensures i; head = c.args.head; mark = c.in-Ok.begun.0 };
      begins = c.in-Ok.ensures.begins;
    } in
    let e = c.in-Ok-search.ensures in
    let ends = searches g.S.Source (record { read_of = reads_by }) g.K.Sink g.D.Disk c.matches_are_counted.ensures.few c.args.find.now c.args.planned.now g.known_texts mids placed c.args.head asked c.in-Ok.begun.1 run bounds may is
    news c.args.out.now c.search.new.sink c.search.new.run _ e.wrote e.keeps e.lanes in
    let start = starts laws c.args.find.now c.args.planned.now bounds lanes rest b.many mids placed taken refl g.known_texts in
    let listed = same_listed lanes rest placed refl in
    record {
      done = tt;
      prefix = listing_some c.args.find.now c.args.planned.now g.known_texts lanes mids news rest placed start listed _ _ ends.whole;
      listed = λ report. listing_all c.args.find.now c.args.planned.now g.known_texts lanes mids news rest placed start listed _ _ ends.whole;
      keeps =
          keeps_as g.D.Disk.history c.args.head placed.mark rest.mark _ _ (same_mark lanes rest placed refl)
          (cuts_are c.args.find.now c.args.planned.now g.known_texts lanes mids news rest placed start listed bounds (g.K.Sink.written c.args.out.now) (g.K.Sink.written c.search.new.sink) (g.K.Sink.kept c.args.out.now) (g.K.Sink.kept c.search.new.sink)) c.args.keep c.search.new.run.keep _ _ (λ e. absurd cc) ends.keeps;
      quiet = λ nothing. absurd nothing;
      cause =
          report_by c.args.find.now c.args.planned.now g.known_texts lanes mids news rest placed start listed b.plan_is ends.read _ _
          (long_searched g.S.Source.left g.S.Source.lent_as reads_by lanes mids news taken ends.stay) b.many c.in-Err-write_report.ensures.front;
    }

pub returns-in-Ok-search-clause-lanes : goal.returns-in-Ok-search-clause-lanes
returns-in-Ok-search-clause-lanes g c =
    let taken : c.begin_rest.new.lanes.items ≡ map bare c.args.lanes.now.items = c.in-Ok.ensures.taken in
    stays_searched g.S.Source.left g.S.Source.lent_as reads_by c.args.lanes.now.items c.begin_rest.new.lanes.items c.search.new.lanes.items taken c.search.ensures.lanes.stay

pub returns-in-Ok-search-clause-told : goal.returns-in-Ok-search-clause-told
returns-in-Ok-search-clause-told g c =
    let lanes = c.args.lanes.now.items in
    let mids = c.begin_rest.new.lanes.items in
    let rest = c.args.rest in
    let placed = rest_over lanes rest in
    let taken : mids ≡ map bare lanes = c.in-Ok.ensures.taken in
    let news = c.search.new.lanes.items in
    let stops = c.in-Ok-search.ensures.stops in
    record {
      faults = steady_over lanes mids news taken (λ shard. ⊥) stops.reads_steady;
      disk = stops.disk_steady (λ e. cc) (λ e. e);
      out = stops.writes_steady (λ e. cc) (λ e. e);
      err = refused_as (Unit {0}) _ _ _ (λ e. c.write_report.ensures.cause (c.in-Err-write_report.is ∙ ap Err e)) (λ apart. c.in-Err-write_report.ensures.steady (λ e. apart (let same = e in cc)));
      disks_rise = stops.disks_rise;
      writes_rise = stops.writes_rise;
      errors_rise = c.write_report.ensures.counts;
    }

-- the search stopped
pub returns-clause-ends : goal.returns-clause-ends
returns-clause-ends g c =
    let bounds : FindIsBounded c.args.find.now = search rules in
    let b : BeginsRun g.S.Source.left reads_by g.D.Disk.history g.known_texts c.args.find.now c.args.planned.now c.args.lanes.now.items c.args.rest c.args.head c.args.keep = search rules in
    let laws : BeginLaws = record { spans = c.spans_change_no_fit.ensures; lifted_is = c.lifted_lanes_are_placed.ensures; lifted_stands = c.lifted_cuts_fit.ensures.stand; lifted_fit = c.lifted_cuts_fit.ensures.fit; may_begin = c.cuts_may_begin.ensures } in
    let lanes = c.args.lanes.now.items in
    let mids = c.begin_rest.new.lanes.items in
    let rest = c.args.rest in
    let placed = rest_over lanes rest in
    let taken : mids ≡ map bare lanes = c.in-Ok.ensures.taken in
    let news = c.search.new.lanes.items in
    let asked : Asked = record { stages = c.stages.result; span = c.span.result } in
    let run : Run _ = record { plan = record { batch = c.args.find.now.batch; every = c.every_of.result; head = c.args.head; mark = c.in-Ok.begun.0 }; book = c.in-Ok.begun.2; keep = c.args.keep } in
    let may = may_lanes g.S.Source reads_by g.D.Disk laws c.args.find.now c.args.planned.now g.known_texts lanes mids rest placed c.args.head c.args.keep bounds b taken refl in
    let is : IsAsked c.args.find.now c.args.planned.now placed c.args.head asked c.in-Ok.begun.1 run =
    record {
      stages_are = c.stages.ensures.same;
      span_is = c.span.ensures.same;
      plan_is = λ i. record { batch = c.args.find.now.batch; every = c.every_of.ensures i; head = c.args.head; mark = c.in-Ok.begun.0 };
      begins = c.in-Ok.ensures.begins;
    } in
    let e = c.in-Err-search.ensures in
    let ends = searches g.S.Source (record { read_of = reads_by }) g.K.Sink g.D.Disk c.matches_are_counted.ensures.few c.args.find.now c.args.planned.now g.known_texts mids placed c.args.head asked c.in-Ok.begun.1 run bounds may is
    news c.args.out.now c.search.new.sink c.search.new.run _ e.wrote e.keeps e.lanes in
    let start = starts laws c.args.find.now c.args.planned.now bounds lanes rest b.many mids placed taken refl g.known_texts in
    let listed = same_listed lanes rest placed refl in
    record {
      done = tt;
      prefix = listing_front c.args.find.now c.args.planned.now g.known_texts lanes mids news rest placed start listed _ _ ends.front;
      listed = λ report. absurd (no_report c.args.find.now.shards c.in-Err-search.stop c.error_of.result c.error_of.ensures report);
      keeps =
          keeps_as g.D.Disk.history c.args.head placed.mark rest.mark _ _ (same_mark lanes rest placed refl)
          (cuts_are c.args.find.now c.args.planned.now g.known_texts lanes mids news rest placed start listed bounds (g.K.Sink.written c.args.out.now) (g.K.Sink.written c.search.new.sink) (g.K.Sink.kept c.args.out.now) (g.K.Sink.kept c.search.new.sink)) c.args.keep c.search.new.run.keep _ _ (λ e. ap Err (ends_by c.args.find.now.shards c.in-Err-search.stop c.error_of.result c.error_of.ensures cc)) ends.keeps;
      quiet = λ nothing. refl;
      cause =
          stopped_by g.S.Source.left c.args.find.now g.known_texts lanes mids news taken b.texts_of b.many (search_in c.args.find.now c.args.planned.now) _ _ _ _ _ _ _ c.in-Err-search.stop c.error_of.result e.stops.cause
          (λ rose. asked_by g.D.Disk.history c.args.find.now.checkpoint c.args.keep b.keeps (rose_keeps g.D.Disk.history g.D.Disk.fault_count c.args.head _ _ c.args.keep c.search.new.run.keep _ ends.keeps rose))
          (λ at. asked_by g.D.Disk.history c.args.find.now.checkpoint c.args.keep b.keeps (end_keeps g.D.Disk.history c.args.head _ _ c.args.keep c.search.new.run.keep _ (ap Err at) ends.keeps))
          c.error_of.ensures;
    }

pub returns-clause-lanes : goal.returns-clause-lanes
returns-clause-lanes g c =
    let taken : c.begin_rest.new.lanes.items ≡ map bare c.args.lanes.now.items = c.in-Ok.ensures.taken in
    stays_searched g.S.Source.left g.S.Source.lent_as reads_by c.args.lanes.now.items c.begin_rest.new.lanes.items c.search.new.lanes.items taken c.search.ensures.lanes.stay

pub returns-clause-told : goal.returns-clause-told
returns-clause-told g c =
    let b : BeginsRun g.S.Source.left reads_by g.D.Disk.history g.known_texts c.args.find.now c.args.planned.now c.args.lanes.now.items c.args.rest c.args.head c.args.keep = search rules in
    let lanes = c.args.lanes.now.items in
    let mids = c.begin_rest.new.lanes.items in
    let rest = c.args.rest in
    let placed = rest_over lanes rest in
    let taken : mids ≡ map bare lanes = c.in-Ok.ensures.taken in
    let news = c.search.new.lanes.items in
    let stops = c.in-Err-search.ensures.stops in
    let why = c.in-Err-search.stop in
    record {
      faults =
          faults_by g.S.Source.left c.args.find.now g.known_texts lanes mids news taken b.texts_of b.many (Unit {0}) _ _ _ _ why c.error_of.result stops.cause
          (steady_over lanes mids news taken (λ shard. IsRead {A = Unit {0}} (Err why)) stops.reads_steady) c.error_of.ensures;
      disk =
          disk_as (Unit {0}) c.args.find.now.shards g.known_texts mids news _ _ _ _ why c.error_of.result stops.cause
          (λ apart none. stops.disk_steady (λ same. apart cc) none) c.error_of.ensures;
      out =
          out_as (Unit {0}) c.args.find.now.shards g.known_texts mids news _ _ _ _ why c.error_of.result stops.cause
          (λ apart none. stops.writes_steady (λ same. apart cc) none) c.error_of.ensures;
      err = err_as (Unit {0}) c.args.find.now.shards _ why c.error_of.result c.error_of.ensures;
      disks_rise = stops.disks_rise;
      writes_rise = stops.writes_rise;
      errors_rise = none_falls _ _ refl;
    }

pub returns-clause-unfailing : goal.returns-clause-unfailing
returns-clause-unfailing g c =
    let taken : c.begin_rest.new.lanes.items ≡ map bare c.args.lanes.now.items = c.in-Ok.ensures.taken in
    λ all out err disk. calm_by c.args.find.now.shards c.in-Err-search.stop c.error_of.result
    (c.in-Err-search.ensures.unfailing out (unfailing_taken g.S.Source.fault_plan c.args.lanes.now.items c.begin_rest.new.lanes.items taken all) disk).0 c.error_of.ensures
