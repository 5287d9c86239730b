-- What a run puts on its disk, in the words of runs.
use native.Mathlib.Omega.{arith}
use Rattle.std.proofs.Common.{ℕ, List, [], Option, Some, None, refl}
use Rattle.eql_outside.specs.declared.disk.Area.TheVariants.{A}
use Rattle.eql_outside.specs.Moments.{History, DiskTells}
use Rattle.eql_words.specs.declared.commands.Find.{Find}
use Rattle.eql_cut.specs.declared.cut.Cut.{Cut}
use Rattle.eql_ckdisk.specs.Found.{LastCut}
use Rattle.eql_ckdisk.specs.Going.{Goes}
use Rattle.eql_ckdisk.specs.Keeping.{LeavesNoMore}
use Rattle.eql_ckdisk.specs.Laws.{PutsGoOn}
use Rattle.eql_ckdisk.specs.Runs.{PutsAll}
use Rattle.eql_runs.specs.Files.{Files}
use Rattle.eql_runs.specs.Runs.{KeepsCuts}

-- the law: puts after a recovery are puts
pub recovered_puts : PutsGoOn → (last : LastCut) (cuts : List Cut) (before mid now : Option History) → DiskTells (Goes LeavesNoMore) before mid
    → DiskTells (PutsAll last cuts) mid now → DiskTells (PutsAll last cuts) before now
recovered_puts law last cuts before mid now first puts = law.joined last [] cuts before mid now (law.recovery last before mid first) puts

-- a recovery alone puts nothing
no_last : LastCut
no_last = record { area = A; generation = 0 }

put_none : (find : Find) (files : Option Files) (out out' kept kept' : Option (List ℕ)) (h k : History) → PutsAll no_last [] h k
    → KeepsCuts find files out out' kept kept' h k
put_none find None out out' kept kept' h k puts =
    record { last = no_last; cuts = []; puts = puts; goes_on = λ on holds some. absurd (some refl); are_of = tt }
put_none find (Some fs) out out' kept kept' h k puts = record {
  last = no_last;
  cuts = [];
  puts = puts;
  goes_on = λ on holds some. absurd (some refl);
  are_of = λ on search texts holds searches trusted few i d less. absurd (omega (arith, less));
}

told_none : (find : Find) (files : Option Files) (out out' kept kept' : Option (List ℕ)) (before now : Option History)
    → DiskTells (PutsAll no_last []) before now → DiskTells (KeepsCuts find files out out' kept kept') before now
told_none find files out out' kept kept' None None puts = tt
told_none find files out out' kept kept' None (Some k) puts = puts
told_none find files out out' kept kept' (Some h) None puts = puts
told_none find files out out' kept kept' (Some h) (Some k) puts = put_none find files out out' kept kept' h k puts

pub recovered_keeps : PutsGoOn → (find : Find) (files : Option Files) (out out' kept kept' : Option (List ℕ)) (before now : Option History)
    → DiskTells (Goes LeavesNoMore) before now → DiskTells (KeepsCuts find files out out' kept kept') before now
recovered_keeps law find files out out' kept kept' before now going = told_none find files out out' kept kept' before now (law.recovery no_last before now going)
