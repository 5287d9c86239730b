-- What a shelf keeps and lends from call to call, and the plans of its sources.
use native.Mathlib.Omega.{arith}
use Rattle.std.proofs.Common.{◌≡◌, ℕ, Option, Some, None, Result, Ok, Err, refl, ◌∙◌, subst}
use Rattle.std.specs.Result.{IfErr}
use Rattle.eql_outside.specs.Faults.{FaultsAreSame}
use Rattle.eql_outside.specs.declared.shelf.Shelf as shelves
use Rattle.eql_runs.specs.Outcomes.{DiskIsSame}
use Rattle.eql_inputs.specs.declared.error.InputError.{InputError}
use Rattle.eql_inputs.specs.Shelves.{CountsAreTold, KeepsShelf, LendsAsMany, ReadsShelf}
use Rattle.eql_inputs.proofs.ErrorLemmas.{IsOfText, absence_later, count_later, faults_later, same_later, text_absence, text_count, text_faults, text_no_fault}

-- no call, and one after another
module _ {H Src Dsk : Type 0} (shelf : shelves.Ghosts H Src Dsk) where
  pub disk_still : (a : H) → DiskIsSame shelf a a
  disk_still a =
      record { history_is = refl; out_is = refl; faults_are = refl; plan_is = refl; held_are = λ why. refl; free_is = refl }

  pub disk_then : (a b c : H) → DiskIsSame shelf a b → DiskIsSame shelf b c → DiskIsSame shelf a c
  disk_then a b c first then = record {
    history_is = then.history_is ∙ first.history_is;
    out_is = then.out_is ∙ first.out_is;
    faults_are = then.faults_are ∙ first.faults_are;
    plan_is = then.plan_is ∙ first.plan_is;
    held_are = λ why. then.held_are why ∙ first.held_are why;
    free_is = then.free_is ∙ first.free_is;
  }

module _ {H Src Dsk : Type 0} {shelf : shelves.Ghosts H Src Dsk} where
  pub keeps_still : {a : H} → KeepsShelf shelf a a
  keeps_still {a} = record { files_are = refl; plans_are = refl; disk_is = disk_still shelf a }

  pub keeps_later : {a b c : H} → KeepsShelf shelf a b → KeepsShelf shelf b c → KeepsShelf shelf a c
  keeps_later {a} {b} {c} first then = record {
    files_are = then.files_are ∙ first.files_are;
    plans_are = then.plans_are ∙ first.plans_are;
    disk_is = disk_then shelf a b c first.disk_is then.disk_is;
  }

-- as many are lent as before, and then again
many_later : (before mid now : Option ℕ) → LendsAsMany before mid → LendsAsMany mid now → LendsAsMany before now
many_later None mid now first then = tt
many_later (Some k) mid now first then = subst (λ (x : Option ℕ). LendsAsMany x now) first then

module _ {H Src Dsk : Type 0} (shelf : shelves.Ghosts H Src Dsk) where
  -- what is told of a refusal, in whatever call it is returned
  told_alike : {A B : Type 0} (e : InputError) (old new : H) → CountsAreTold shelf old new (let r : Result A InputError = Err e in r)
      → CountsAreTold shelf old new (let r : Result B InputError = Err e in r)
  told_alike e old new told = record {
    faults = told.faults;
    count = told.count;
    absences = told.absences;
    faults_rise = told.faults_rise;
    absences_rise = told.absences_rise;
  }

  pub refused_alike : {A B : Type 0} (e : InputError) (old new : H) → ReadsShelf shelf old new (let r : Result A InputError = Err e in r)
      → ReadsShelf shelf old new (let r : Result B InputError = Err e in r)
  refused_alike e old new reads =
      record { told = told_alike e old new reads.told; kept = reads.kept; lent = reads.lent; unfailing = reads.unfailing }

  -- a refusal behind calls in which no count changed
  pub told_behind : {A B : Type 0} (e : InputError) (old mid new : H) → FaultsAreSame (shelf.faults_of old) (shelf.faults_of mid)
      → shelf.fault_count mid ≡ shelf.fault_count old → shelf.absent_count mid ≡ shelf.absent_count old
      → CountsAreTold shelf mid new (let r : Result A InputError = Err e in r)
      → CountsAreTold shelf old new (let r : Result B InputError = Err e in r)
  told_behind e old mid new faults count absences told =
      let more = told.faults_rise in let further = told.absences_rise in
      record {
        faults = faults_later e _ _ _ faults told.faults;
        count = count_later e _ _ _ count told.count;
        absences = absence_later e _ _ _ absences told.absences;
        faults_rise = omega (arith, count, more);
        absences_rise = omega (arith, absences, further);
      }

  -- one read behind another
  told_later : {A B : Type 0} (a : A) (r : Result B InputError) (old mid new : H)
      → CountsAreTold shelf old mid (let q : Result A InputError = Ok a in q) → CountsAreTold shelf mid new r → CountsAreTold shelf old new r
  told_later a (Ok b) old mid new first then =
      let up = first.faults_rise in let more = then.faults_rise in
      let grown = first.absences_rise in let further = then.absences_rise in
      record {
        faults = same_later _ _ _ first.faults then.faults;
        count = then.count ∙ first.count;
        absences = then.absences ∙ first.absences;
        faults_rise = omega (arith, up, more);
        absences_rise = omega (arith, grown, further);
      }
  told_later a (Err e) old mid new first then = told_behind e old mid new first.faults first.count first.absences then

  pub reads_later : {A B : Type 0} (a : A) (r : Result B InputError) (old mid new : H)
      → ReadsShelf shelf old mid (let q : Result A InputError = Ok a in q) → ReadsShelf shelf mid new r → ReadsShelf shelf old new r
  reads_later a r old mid new first then = record {
    told = told_later a r old mid new first.told then.told;
    kept = keeps_later first.kept then.kept;
    lent = many_later _ _ _ first.lent then.lent;
    unfailing = λ never. then.unfailing (first.unfailing never).1;
  }

  -- what is returned of a text that was read
  pub reads_text : {A B : Type 0} (a : A) (r : Result B InputError) (old new : H) → IfErr r IsOfText
      → ReadsShelf shelf old new (let q : Result A InputError = Ok a in q) → ReadsShelf shelf old new r
  reads_text a r old new calm reads = record {
    told = record {
      faults = text_faults r _ _ calm reads.told.faults;
      count = text_count r _ _ calm reads.told.count;
      absences = text_absence r _ _ calm reads.told.absences;
      faults_rise = reads.told.faults_rise;
      absences_rise = reads.told.absences_rise;
    };
    kept = reads.kept;
    lent = reads.lent;
    unfailing = λ never. (text_no_fault r calm, (reads.unfailing never).1);
  }
