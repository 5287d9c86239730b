-- Where a run keeps its cuts, and its disk as it goes back.
use native.Mathlib.Omega.{arith}
use Rattle.std.proofs.Common.{◌≡◌, ◌≢◌, ◌<◌, ◌≤◌, ℕ, Bool, false, List, Option, Some, None, Ok, Err, refl, sym, subst, ◌∙◌}
use Rattle.std.specs.Prelude.{IfSome, Result}
use Rattle.std.proofs.lemmas.Option.{none-some}
use Rattle.eql_outside.specs.Faults.{FaultsAreSame}
use Rattle.eql_outside.specs.Moments.{History}
use Rattle.eql_outside.specs.Outside.{Rose}
use Rattle.eql_values.specs.declared.order.Mark.{Mark}
use Rattle.eql_cut.specs.declared.cut.Cut.{Cut}
use Rattle.eql_cut.specs.declared.cut.CutHead.{CutHead}
use Rattle.eql_words.specs.declared.commands.Checkpoint.{Checkpoint}
use Rattle.eql_conductor.specs.declared.plan.Keep.{Keep}
use Rattle.eql_conductor.specs.Runs.{disk_faults}
use Rattle.eql_inputs.specs.declared.error.InputError.TheVariants as error
use Rattle.eql_find.specs.declared.error.FindError.{FindError}
use Rattle.eql_find.specs.declared.error.FindError.TheVariants as run
use Rattle.eql_find.specs.Errors.{DiskFollows, FaultsFollow}
use Rattle.eql_find.specs.Running.{KeepsIfAsked}
use Rattle.eql_find.specs.Searching.{KeepsAs}
use Rattle.eql_find.specs.Starting.{IsFreshKeep, KeepsFor}
use Rattle.eql_shards.proofs.MakingLemmas.{rose_from_none}

-- ---- where a run keeps its cuts
module _ {D : Type 0} (history : D → Option History) (count : D → ℕ) where
  -- a run keeps cuts exactly when it is asked to
  pub keeps_if_asked : (checkpoint : Option Checkpoint) (start : Option History) (keep : Option (Keep D)) → (checkpoint ≡ None → keep ≡ None)
      → (checkpoint ≢ None → KeepsFor history count start keep) → KeepsIfAsked history checkpoint keep
  keeps_if_asked None start None none some = tt
  keeps_if_asked None start (Some k) none some = absurd (none-some k (sym (none refl)))
  keeps_if_asked (Some c) start None none some = absurd (some (λ gone. none-some c (sym gone)))
  keeps_if_asked (Some c) start (Some k) none some = (some (λ gone. none-some c (sym gone))).1

  pub fresh_keep : (checkpoint : Option Checkpoint) (start : Option History) (keep : Option (Keep D)) → (checkpoint ≡ None → keep ≡ None)
      → (checkpoint ≢ None → KeepsFor history count start keep) → IsFreshKeep history count start keep
  fresh_keep checkpoint start None none some = tt
  fresh_keep None start (Some k) none some = absurd (none-some k (sym (none refl)))
  fresh_keep (Some c) start (Some k) none some = some (λ gone. none-some c (sym gone))

  -- it keeps none where it isn't asked to, and keeps some where it is
  pub keeps_none : (checkpoint : Option Checkpoint) (keep : Option (Keep D)) → KeepsIfAsked history checkpoint keep → checkpoint ≡ None → keep ≡ None
  keeps_none None None keeps none = refl
  keeps_none None (Some k) keeps none = absurd keeps
  keeps_none (Some c) keep keeps none = absurd (none-some c (sym none))

  pub keeps_some : (checkpoint : Option Checkpoint) (keep : Option (Keep D)) → KeepsIfAsked history checkpoint keep → checkpoint ≢ None → keep ≢ None
  keeps_some None keep keeps asked = absurd (asked refl)
  keeps_some (Some c) None keeps asked = absurd keeps
  keeps_some (Some c) (Some k) keeps asked = λ gone. none-some k (sym gone)

  -- in the run it begins to keep none, and stops to keep none
  module _ (head : CutHead) (from : Mark) (Are : List Cut → Type 0) (r : Result (Unit {0}) FindError) where
    pub still_none : (keep kept : Option (Keep D)) → KeepsAs history head from Are keep kept r → keep ≡ None → kept ≡ None
    still_none None None keeps none = refl
    still_none None (Some l) keeps none = absurd keeps
    still_none (Some k) kept keeps none = absurd (none-some k (sym none))

    pub still_some : (keep kept : Option (Keep D)) → KeepsAs history head from Are keep kept r → keep ≢ None → kept ≢ None
    still_some None kept keeps some = absurd (some refl)
    still_some (Some k) None keeps some = absurd keeps
    still_some (Some k) (Some l) keeps some = λ gone. none-some l (sym gone)

  -- ---- its disk, once it is back
  fresh_count : (start : Option History) (keep : Option (Keep D)) → IsFreshKeep history count start keep → disk_faults history count keep ≡ 0
  fresh_count start None fresh = refl
  fresh_count start (Some k) fresh = fresh.0

  -- what the shelf's count says of it
  pub record GaveBack (kept : Option (Keep D)) (before now : ℕ) : Type 0 where
    pub none : kept ≡ None → now ≡ before
    pub raised : IfSome kept (λ k. 0 < count k.disk → Rose before now)
    pub same : IfSome kept (λ k. count k.disk ≡ 0 → now ≡ before)

  back_same : (kept : Option (Keep D)) (before now : ℕ) → GaveBack kept before now → disk_faults history count kept ≡ 0 → now ≡ before
  back_same None before now gave none = gave.none refl
  back_same (Some k) before now gave none = gave.same none

  back_rose : (kept : Option (Keep D)) (before now from : ℕ) → GaveBack kept before now → from ≡ 0 → Rose from (disk_faults history count kept) → Rose before now
  back_rose None before now from gave none rose = let some = rose_from_none from 0 none rose in absurd (omega (arith, some))
  back_rose (Some k) before now from gave none rose = gave.raised (rose_from_none from (count k.disk) none rose)

  pub disk_told : (start : Option History) (keep kept : Option (Keep D)) (r : Result (Unit {0}) FindError) (before now : ℕ)
      → IsFreshKeep history count start keep → GaveBack kept before now
      → DiskFollows r (disk_faults history count keep) (disk_faults history count kept) → DiskFollows r before now
  disk_told start keep kept (Ok done) before now fresh gave told = back_same kept before now gave (told ∙ fresh_count start keep fresh)
  disk_told start keep kept (Err (run.Files (error.Refused r))) before now fresh gave told = back_same kept before now gave (told ∙ fresh_count start keep fresh)
  disk_told start keep kept (Err (run.Files (error.Read name))) before now fresh gave told = tt
  disk_told start keep kept (Err (run.Files error.Memory)) before now fresh gave told = back_same kept before now gave (told ∙ fresh_count start keep fresh)
  disk_told start keep kept (Err (run.Cut why)) before now fresh gave told = back_same kept before now gave (told ∙ fresh_count start keep fresh)
  disk_told start keep kept (Err (run.Held why)) before now fresh gave told = back_same kept before now gave (told ∙ fresh_count start keep fresh)
  disk_told start keep kept (Err run.Disk) before now fresh gave told =
      back_rose kept before now (disk_faults history count keep) gave (fresh_count start keep fresh) told
  disk_told start keep kept (Err run.Write) before now fresh gave told = back_same kept before now gave (told ∙ fresh_count start keep fresh)
  disk_told start keep kept (Err (run.Limit l)) before now fresh gave told = back_same kept before now gave (told ∙ fresh_count start keep fresh)
  disk_told start keep kept (Err run.Generation) before now fresh gave told = back_same kept before now gave (told ∙ fresh_count start keep fresh)
  disk_told start keep kept (Err (run.Report r)) before now fresh gave told = back_same kept before now gave (told ∙ fresh_count start keep fresh)

-- ---- once all came back
-- what holds where a run keeps cuts
pub there : {A : Type 0} (o : Option A) (P : Type 0) → o ≢ None → IfSome o (λ x. P) → P
there None P some h = absurd (some refl)
there (Some x) P some h = h

-- a call after which no count is another
pub then_faults : (before mid now : List ℕ → ℕ) (r : Result (Unit {0}) FindError) → FaultsAreSame mid now → FaultsFollow r before mid → FaultsFollow r before now
then_faults before mid now (Ok done) same h = λ name. same name ∙ h name
then_faults before mid now (Err (run.Files (error.Refused r))) same h = λ name. same name ∙ h name
then_faults before mid now (Err (run.Files (error.Read name))) same h = record {
  rose = subst (λ (n : ℕ). Rose (before name.now) n) (sym (same name.now)) h.rose;
  counts = λ any. subst (λ (n : ℕ). before any ≤ n) (sym (same any)) (h.counts any);
}
then_faults before mid now (Err (run.Files error.Memory)) same h = λ name. same name ∙ h name
then_faults before mid now (Err (run.Cut why)) same h = λ name. same name ∙ h name
then_faults before mid now (Err (run.Held why)) same h = λ name. same name ∙ h name
then_faults before mid now (Err run.Disk) same h = λ name. same name ∙ h name
then_faults before mid now (Err run.Write) same h = λ name. same name ∙ h name
then_faults before mid now (Err (run.Limit l)) same h = λ name. same name ∙ h name
then_faults before mid now (Err run.Generation) same h = λ name. same name ∙ h name
then_faults before mid now (Err (run.Report r)) same h = λ name. same name ∙ h name

-- what is said of files and a disk is said of the same
pub over_both : {A B : Type 0} {a b : A} {x y : B} (P : A → B → Type 0) → a ≡ b → x ≡ y → P a x → P b y
over_both {b = b} {x = x} P e d h = subst (λ z. P b z) d (subst (λ z. P z x) e h)

-- with a checkpoint the disk is back, and without one it is where it was
pub back_by : (c : Option Checkpoint) (old new : Bool) → (c ≢ None → new ≡ false) → (c ≡ None → new ≡ old) → old ≡ false → new ≡ false
back_by None old new back same is = same refl ∙ is
back_by (Some c) old new back same is = back (λ gone. none-some c (sym gone))
