-- A run that stops before anything is written and before the disk is touched.
use Rattle.std.proofs.Common.{◌≡◌, ℕ, List, [], inl, Option, Some, None, refl, sym, subst, arith}
use Rattle.eql_outside.specs.declared.disk.Area.TheVariants.{A}
use Rattle.eql_outside.specs.Moments.{History, DiskTells}
use Rattle.eql_words.specs.declared.commands.Find.{Find}
use Rattle.eql_ckdisk.specs.Going.{Goes}
use Rattle.eql_ckdisk.specs.Keeping.{LeavesNoMore}
use Rattle.eql_runs.specs.Files.{Files}
use Rattle.eql_runs.specs.Runs.{KeepsCuts}
use Rattle.eql_find.specs.Finding.{FindsSome}

-- nothing is a front of the listing
pub none_is_some : (find : Find) (files : Option Files) (disk : Option History) (out : Option (List ℕ)) → FindsSome find files disk out out
none_is_some find None disk out = tt
none_is_some find (Some fs) disk None = λ on holds trusted. tt
none_is_some find (Some fs) disk (Some w) = λ on holds trusted. inl refl

-- a disk on which nothing is done keeps what it holds
still : (find : Find) (files : Option Files) (out out' kept kept' : Option (List ℕ)) (h : History) → KeepsCuts find files out out' kept kept' h h
still find None out out' kept kept' h = record {
  last = record { area = A; generation = 0 };
  cuts = [];
  puts = (0, refl);
  goes_on = λ on holds some. absurd (some refl);
  are_of = tt;
}
still find (Some fs) out out' kept kept' h = record {
  last = record { area = A; generation = 0 };
  cuts = [];
  puts = (0, refl);
  goes_on = λ on holds some. absurd (some refl);
  are_of = λ on search texts holds searches trusted few k d less. absurd (omega (arith, less));
}

still_keeps : (find : Find) (files : Option Files) (out out' kept kept' : Option (List ℕ)) (h : Option History)
    → DiskTells (KeepsCuts find files out out' kept kept') h h
still_keeps find files out out' kept kept' None = tt
still_keeps find files out out' kept kept' (Some h) = still find files out out' kept kept' h

pub same_keeps : (find : Find) (files : Option Files) (out out' kept kept' : Option (List ℕ)) (before now : Option History) → now ≡ before
    → DiskTells (KeepsCuts find files out out' kept kept') before now
same_keeps find files out out' kept kept' before now same =
    subst (λ (d : Option History). DiskTells (KeepsCuts find files out out' kept kept') before d) (sym same)
    (still_keeps find files out out' kept kept' before)

-- and stands for no more than before
still_no_more : (h : Option History) → DiskTells (Goes LeavesNoMore) h h
still_no_more None = tt
still_no_more (Some h) = (0, refl)

pub same_no_more : (before now : Option History) → now ≡ before → DiskTells (Goes LeavesNoMore) before now
same_no_more before now same = subst (λ (d : Option History). DiskTells (Goes LeavesNoMore) before d) (sym same) (still_no_more before)
