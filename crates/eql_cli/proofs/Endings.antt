-- How a run ended, as one record: what its status says of the words.
use Rattle.std.proofs.Common.{◌≡◌, ◌≤◌, ℕ, ◌⊎◌, inl, inr, List, Option, Some, None, Ok, Err, refl, sym, ap, ◌∙◌, subst, arith}
use Rattle.std.specs.Prelude.{IfSome, IsSomeAnd, false}
use Rattle.std.proofs.lemmas.Option.{none-some}
use Rattle.eql_outside.specs.Moments.{History}
use Rattle.eql_outside.specs.Outside.{AppendsSome}
use Rattle.eql_outside.specs.Unfailing.{AreUnfailing, IsUnfailing}
use Rattle.eql_outside.specs.Written.{WroteFront}
use Rattle.eql_outside.specs.declared.shelf.Shelf as shelves
use Rattle.eql_outside.specs.declared.sink.Sink as sinks
use Rattle.eql_words.specs.declared.commands.Command.{Command}
use Rattle.eql_words.specs.Commands.{command_of}
use Rattle.eql_runs.specs.Files.{Files}
use Rattle.eql_runs.specs.Outcomes.{DiskIsSame, IsRefusal, RunEnds}
use Rattle.eql_runs.specs.RunLaws.{CheckedIsAccepted, ReadyIsNotRefused, StatusIsOne, WritesOrIsRefused}
use Rattle.eql_runs.specs.Runs.{AreTrusted, AskDisk, AsksDisk, CanRun, files_over, IsReady, IsRefusedAs, Tells, Writes, WroteSome}
use Rattle.eql_runs.specs.Starts.{DiskHolds, OnDisk}
use Rattle.eql_find.specs.declared.error.FindError.{FindError}
use Rattle.eql_find.specs.Errors.{IsFault, IsReport, run_status_of}
use Rattle.eql_inputs.proofs.ShelfLemmas.{disk_still}
use Rattle.eql_find.proofs.EarlyErrors.{same_no_more}
use Rattle.eql_find.specs.Outcomes.{FaultsAreTold}
use Rattle.eql_cli.specs.Outcomes.{CommandEnds}
use Rattle.eql_cli.specs.Telling.{TellsRun}
use Rattle.eql_cli.proofs.EndLemmas.{absence_told, absent_by_status, accepted_so, cut_by_status, disk_by_status, disk_told, done_exact, held_told, is_calm, is_free, limit_of_status, listed_by, never_ended, never_usage, no_disk, no_read, none_rose, read_by_status, read_told, refused_by_status, stops_exact, stops_ready, told_of, write_by_status, write_told, wrote_all, wrote_some}
use Rattle.eql_cli.proofs.KeepLemmas.{ask_words, keep_words, kept_words, not_refused}

-- status 0 is of no refusal
done_is_no_refusal : {A : Type 0} → IsRefusal 0 → A
done_is_no_refusal refusal = absurd (omega (arith, refusal))

refused_so : (h : FindError) (status : ℕ) → status ≡ run_status_of h → IsRefusal status → IsRefusal (run_status_of h)
refused_so h status same refusal = subst (λ (n : ℕ). IsRefusal n) same refusal

-- ---- words of which no command is run
nothing_of : (words : List (List ℕ)) (fs : Files) (on : OnDisk) (out : Option (List ℕ))
    → IfSome out (λ w. (out ≡ Some w)
    ⊎ ((bytes : List ℕ) × (report : List ℕ) × Writes words fs on bytes report × AppendsSome w bytes out))
nothing_of words fs on None = tt
nothing_of words fs on (Some w) = inl refl

nothing_written : (words : List (List ℕ)) (files : Option Files) (disk : Option History) (out : Option (List ℕ))
    → WroteSome words files disk out out
nothing_written words files disk out = by (files_over words files)
  where
    by : (o : Option Files)
        → IfSome o (λ fs. (on : OnDisk) → (AskDisk words → DiskHolds disk on) → AreTrusted words fs on → IfSome out (λ w. (out ≡ Some w)
        ⊎ ((bytes : List ℕ) × (report : List ℕ) × Writes words fs on bytes report × AppendsSome w bytes out)))
    by None = tt
    by (Some fs) = λ on holds trusted. nothing_of words fs on out

never_ready : {A : Type 0} (words : List (List ℕ)) → command_of words ≡ None → (files : Option Files) (disk : Option History)
    → IsReady words files disk → A
never_ready words none files disk ready = by (files_over words files) ready
  where
    by : {A : Type 0} (o : Option Files) → IsSomeAnd o (λ fs. (on : OnDisk) × (AskDisk words → DiskHolds disk on) × CanRun words fs on) → A
    by None ready = absurd ready
    by (Some fs) ready =
        let wrote = ready.2.writes.2 in
        absurd (none-some wrote.command (sym none ∙ wrote.is_command))

no_memory : (words : List (List ℕ)) (files : Option Files) (disk : Option History) (status : ℕ) → status ≡ 8
    → IsRefusedAs words files disk status
no_memory words None disk status e = tt
no_memory words (Some fs) disk status e = λ on r holds refuses. inr e

-- the words are no command, or memory ran out as they were read
module _ (words : List (List ℕ)) (files : Option Files) (disk : Option History) (status : ℕ) where
  early_ready : (status ≡ 2) ⊎ (status ≡ 8) → (status ≡ 2 → command_of words ≡ None) → IsReady words files disk
      → (status ≡ 0) ⊎ (status ≡ 8)
  early_ready (inl e) none ready = never_ready words (none e) files disk ready
  early_ready (inr e) none ready = inr e

  early_refused : (status ≡ 2) ⊎ (status ≡ 8) → (status ≡ 2 → command_of words ≡ None) → IsRefusedAs words files disk status
  early_refused (inl e) none = not_refused words (none e) files disk status
  early_refused (inr e) none = no_memory words files disk status e

same_lent : (o : Option ℕ) → IfSome o (λ n. o ≡ Some n)
same_lent None = tt
same_lent (Some n) = refl

module _ {H Src Dsk K E : Type 0} (shelf : shelves.Ghosts H Src Dsk) (output : sinks.Ghosts K) (errors : sinks.Ghosts E)
    (words : List (List ℕ)) where
  pub early_ends : (old : H) (out : K) (err err' : E) (status : ℕ) → (status ≡ 2) ⊎ (status ≡ 8) → (status ≡ 2 → command_of words ≡ None)
      → (text : List ℕ)
      → Tells words (shelf.files old) (shelf.disk_history old) (shelf.disk_history old) (shelf.faults_of old) (shelf.faults_of old)
      (shelf.held_count old) (shelf.held_count old) status text
      → WroteFront text (errors.written err) (errors.written err') → errors.fault_count err ≤ errors.fault_count err'
      → RunEnds shelf output errors words old old out out err err' status
  early_ends old out err err' status early none text tells wrote rise = record {
    done = λ e. absurd (omega (arith, early, e));
    accepted = λ e. absurd (omega (arith, early, e));
    prefix = λ other. nothing_written words (shelf.files old) (shelf.disk_history old) (output.written out);
    listed = λ e calm. absurd (omega (arith, early, e));
    refused = λ refusal. refl;
    told = λ other. (text, tells, wrote);
    absent = λ e. absurd (omega (arith, early, e));
    words = none;
    no_words = λ none. early;
    read = λ e. absurd (omega (arith, early, e));
    write = λ e. absurd (omega (arith, early, e));
    disk = λ e. absurd (omega (arith, early, e));
    cut = λ e. absurd (omega (arith, early, e));
    limit = λ e. absurd (omega (arith, early, e));
    reads_told = λ more. absurd (omega (arith, more));
    absences_told = λ more. absurd (omega (arith, more));
    writes_told = λ more. absurd (omega (arith, more));
    disks_told = λ more. absurd (omega (arith, more));
    held_told = λ why more. absurd (omega (arith, more));
    errors_told = λ more e. omega (arith, early, e);
    complete = λ ready read disk held write error. early_ready words (shelf.files old) (shelf.disk_history old) status early none ready;
    grounded = λ ready reads sources disk free writes tells. early_ready words (shelf.files old) (shelf.disk_history old) status early none ready;
    exact = λ calm steady. early_refused words (shelf.files old) (shelf.disk_history old) status early none;
    kept = refl;
    lent = same_lent (shelf.lent_count old);
    back = λ e. e;
    cut_kept = λ refusal. same_no_more (shelf.disk_history old) (shelf.disk_history old) refl;
    moments =
        kept_words words (shelf.files old) (output.written out) (output.written out) (output.kept out) (output.kept out) (shelf.disk_history old);
    disk_kept = λ never. disk_still shelf old;
    reads_rise = omega arith;
    absences_rise = omega arith;
    disks_rise = omega arith;
    held_rise = λ why. omega arith;
    writes_rise = omega arith;
    errors_rise = rise;
  }

  -- ---- words that are a command
  module _ (asked : Command) (is : command_of words ≡ Some asked) (apart : WritesOrIsRefused) (old new : H) (out out' : K) (err : E) where
    no_command : {A : Type 0} → command_of words ≡ None → A
    no_command none = absurd (none-some asked (sym none ∙ is))

    asks_so : AsksDisk asked → AskDisk words
    asks_so asks = ask_words words asked is asks

    -- a run that was done
    pub done_ends : (err' : E) (done : Unit {0})
        → CommandEnds output errors asked (shelf.files old) (shelf.disk_history old) (shelf.disk_history new) out out' err err' (Ok done)
        → FaultsAreTold output errors shelf old new (shelf.disk_fault_count old) (shelf.disk_fault_count new) out out' err err' (Ok done)
        → shelf.files new ≡ shelf.files old
        → IfSome (shelf.lent_count old) (λ n. shelf.lent_count new ≡ Some n)
        → (shelf.is_out old ≡ false → shelf.is_out new ≡ false)
        → (¬ (AsksDisk asked) → DiskIsSame shelf old new)
        → RunEnds shelf output errors words old new out out' err err' 0
    done_ends err' done ends faults kept lent back disk_kept = record {
      done = λ e.
          wrote_all words asked is (shelf.files old) (shelf.disk_history old) (output.written out) (output.written out') (errors.written err)
          (errors.written err') ends.done;
      accepted = λ e. accepted_so words asked is apart (shelf.files old) (shelf.disk_history old) ends.accepted;
      prefix = λ other. absurd (other refl);
      listed = λ e calm. absurd (omega (arith, e));
      refused = λ refusal. done_is_no_refusal refusal;
      told = λ other. absurd (other refl);
      absent = λ e. absurd (omega (arith, e));
      words = λ e. absurd (omega (arith, e));
      no_words = λ none. no_command none;
      read = λ e. absurd (omega (arith, e));
      write = λ e. absurd (omega (arith, e));
      disk = λ e. absurd (omega (arith, e));
      cut = λ e. absurd (omega (arith, e));
      limit = λ e. absurd (omega (arith, e));
      reads_told = λ more. absurd (omega (arith, more, faults.count));
      absences_told = λ more. absurd (omega (arith, more, faults.absences));
      writes_told = λ more. absurd (omega (arith, more, faults.out));
      disks_told = λ more. absurd (omega (arith, more, faults.disk));
      held_told = λ why more. let same = faults.held.follow why in absurd (omega (arith, more, same));
      errors_told = λ more e. omega (arith, more, faults.err);
      complete = λ ready read disk held write error. inl refl;
      grounded = λ ready reads sources disk free writes tells. inl refl;
      exact = λ calm steady. done_exact words asked is apart (shelf.files old) (shelf.disk_history old) 0 ends.accepted;
      kept = kept;
      lent = lent;
      back = back;
      cut_kept = λ refusal. done_is_no_refusal refusal;
      moments =
          keep_words words asked is (shelf.files old) (output.written out) (output.written out') (output.kept out) (output.kept out')
          (shelf.disk_history old) (shelf.disk_history new) ends.moments;
      disk_kept = λ never. disk_kept (λ asks. never (asks_so asks));
      reads_rise = faults.reads_rise;
      absences_rise = faults.absences_rise;
      disks_rise = faults.disks_rise;
      held_rise = faults.held.rise;
      writes_rise = faults.writes_rise;
      errors_rise = faults.errors_rise;
    }

    -- a run that stopped, and was told of
    pub stopped_ends : (mid err' : E) (h : FindError) (status : ℕ) → ReadyIsNotRefused → StatusIsOne → CheckedIsAccepted
        → CommandEnds output errors {A = Unit {0}} asked (shelf.files old) (shelf.disk_history old) (shelf.disk_history new) out out' err mid
        (Err h)
        → FaultsAreTold output errors {A = Unit {0}} shelf old new (shelf.disk_fault_count old) (shelf.disk_fault_count new) out out' err mid
        (Err h)
        → (IsUnfailing (shelf.fault_plan old) → AreUnfailing (shelf.source_plans old) → (AsksDisk asked → IsUnfailing (shelf.disk_plan old))
        → IsUnfailing (output.fault_plan out) → IsUnfailing (errors.fault_plan err) → ¬ (IsFault h))
        → shelf.files new ≡ shelf.files old
        → IfSome (shelf.lent_count old) (λ n. shelf.lent_count new ≡ Some n)
        → (shelf.is_out old ≡ false → shelf.is_out new ≡ false)
        → (¬ (AsksDisk asked) → DiskIsSame shelf old new)
        → status ≡ run_status_of h
        → TellsRun h (errors.written mid) (errors.written err')
        → (IsReport h → err' ≡ mid)
        → errors.fault_count mid ≤ errors.fault_count err'
        → RunEnds shelf output errors words old new out out' err err' status
    stopped_ends mid err' h status law one checked ends faults unfailing kept lent back disk_kept same tells silent rise = record {
      done = λ e. absurd (never_ended h status same e);
      accepted = λ e. absurd (never_ended h status same e);
      prefix = λ other.
          wrote_some words asked is (shelf.files old) (shelf.disk_history old) (output.written out) (output.written out') ends.prefix;
      listed = λ e calm.
          listed_by words asked is (shelf.files old) (shelf.disk_history old) (output.written out) (output.written out') (output.fault_count out)
          (output.fault_count out') h status same faults.out ends.listed e calm;
      refused = λ refusal. ends.untouched (refused_by_status h (refused_so h status same refusal));
      told = λ other.
          told_of words asked is apart errors.written err mid err' (shelf.files old) (shelf.disk_history old) (shelf.disk_history new)
          (shelf.faults_of old) (shelf.faults_of new) (shelf.held_count old) (shelf.held_count new) h status same ends.cause faults.faults
          faults.held.follow ends.quiet tells silent;
      absent = λ e. absent_by_status h (shelf.absent_count old) (shelf.absent_count new) faults.absences (sym same ∙ e);
      words = λ e. absurd (never_usage h (sym same ∙ e));
      no_words = λ none. no_command none;
      read = λ e. read_by_status h (shelf.fault_count old) (shelf.fault_count new) faults.count (sym same ∙ e);
      write = λ e.
          write_by_status h (output.fault_count out) (output.fault_count out') (errors.fault_count err) (errors.fault_count mid)
          (errors.fault_count err') faults.out faults.err (λ report. ap errors.fault_count (silent report)) (sym same ∙ e);
      disk = λ e. disk_by_status h (shelf.disk_fault_count old) (shelf.disk_fault_count new) faults.disk (sym same ∙ e);
      cut = λ e.
          asks_so (cut_by_status asked (shelf.files old) (shelf.disk_history old) (shelf.disk_history new) (errors.written err) (errors.written mid) h
          ends.cause (sym same ∙ e));
      limit = λ e.
          limit_of_status words asked is (shelf.files old) (shelf.disk_history old) (shelf.disk_history new) (errors.written err)
          (errors.written mid) h status same ends.cause e;
      reads_told = λ more. same ∙ read_told h (shelf.fault_count old) (shelf.fault_count new) faults.count more;
      absences_told = λ more. same ∙ absence_told h (shelf.absent_count old) (shelf.absent_count new) faults.absences more;
      writes_told = λ more.
          subst (λ (n : ℕ). (n ≡ 5) ⊎ (n ≡ 4)) (sym same) (write_told h (output.fault_count out) (output.fault_count out') faults.out more);
      disks_told = λ more.
          subst (λ (n : ℕ). (n ≡ 6) ⊎ (n ≡ 4)) (sym same)
          (disk_told h (shelf.disk_fault_count old) (shelf.disk_fault_count new) faults.disk more);
      held_told = λ why more. same ∙ held_told h (shelf.held_count old) (shelf.held_count new) faults.held.follow why more;
      errors_told = λ more e. never_ended h status same e;
      complete = λ ready read disk held write error.
          stops_ready words asked is law (shelf.files old) (shelf.disk_history old) (shelf.disk_history new) (errors.written err)
          (errors.written mid) h status same ends.cause ready
          (is_calm asked (shelf.files old) (shelf.disk_history old) (shelf.disk_history new) (errors.written err) (errors.written mid)
          (shelf.fault_count old) (shelf.fault_count new) (shelf.disk_fault_count old) (shelf.disk_fault_count new) (output.fault_count out)
          (output.fault_count out') (errors.fault_count err) (errors.fault_count mid) (errors.fault_count err') read
          (λ asks. disk (asks_so asks)) write error h ends.cause faults.count faults.disk faults.out faults.err
          (λ report. ap errors.fault_count (silent report)))
          (none_rose asked (shelf.files old) (shelf.disk_history old) (shelf.disk_history new) (errors.written err) (errors.written mid)
          (shelf.held_count old) (shelf.held_count new) (λ asks. held (asks_so asks)) h ends.cause faults.held.follow);
      grounded = λ ready reads sources disk free writes tells.
          stops_ready words asked is law (shelf.files old) (shelf.disk_history old) (shelf.disk_history new) (errors.written err)
          (errors.written mid) h status same ends.cause ready (unfailing reads sources (λ asks. disk (asks_so asks)) writes tells)
          (is_free asked (shelf.files old) (shelf.disk_history old) (shelf.disk_history new) (errors.written err) (errors.written mid)
          (shelf.is_free old) (λ asks. free (asks_so asks)) h ends.cause faults.held.free);
      exact = λ calm steady.
          stops_exact words asked is one checked apart (shelf.files old) (shelf.disk_history old) (shelf.disk_history new) (errors.written err)
          (errors.written mid) h status same ends.cause (no_read h (shelf.fault_count old) (shelf.fault_count new) faults.count calm)
          (no_disk asked (shelf.files old) (shelf.disk_history old) (shelf.disk_history new) (errors.written err) (errors.written mid) h
          (shelf.disk_fault_count old) (shelf.disk_fault_count new) ends.cause faults.disk (λ asks. steady (asks_so asks)));
      kept = kept;
      lent = lent;
      back = back;
      cut_kept = λ refusal. ends.cut_kept (refused_by_status h (refused_so h status same refusal));
      moments =
          keep_words words asked is (shelf.files old) (output.written out) (output.written out') (output.kept out) (output.kept out')
          (shelf.disk_history old) (shelf.disk_history new) ends.moments;
      disk_kept = λ never. disk_kept (λ asks. never (asks_so asks));
      reads_rise = faults.reads_rise;
      absences_rise = faults.absences_rise;
      disks_rise = faults.disks_rise;
      held_rise = faults.held.rise;
      writes_rise = faults.writes_rise;
      errors_rise = omega (arith, faults.errors_rise, rise);
    }
