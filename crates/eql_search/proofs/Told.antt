-- How the conductor ended, by the answer of a search.
use Rattle.std.proofs.Common.{◌≡◌, ◌≢◌, ◌≤◌, Ok, Err, refl, ◌∙◌, sym, arith, subst}
use Rattle.eql_conductor.specs.declared.stop.Stop.TheVariants as stop
use Rattle.eql_conductor.specs.Going.{RunResult}
use Rattle.eql_hub_run.specs.Beside.{IsOwn, IsTold, rank}
use Rattle.eql_search.specs.Answers.{IsRead}

-- an end that a hand can't tell is the conductor's
own_end : (ended answer at : RunResult) → IsTold ended answer → answer ≡ at → IsOwn at → ended ≡ at
own_end ended answer at told is own = told.own (subst IsOwn (sym is) own) ∙ is

least_rank : (ended answer at : RunResult) → IsTold ended answer → ended ≡ at → rank answer ≤ rank at
least_rank ended answer at told is = subst (λ (e : RunResult). rank answer ≤ rank e) is told.least

pub write_then : (ended : RunResult) → IsTold ended (Err stop.Write) → ended ≡ Err stop.Write
write_then ended told = told.own tt

pub disk_then : (ended : RunResult) → IsTold ended (Err stop.Disk) → ended ≡ Err stop.Disk
disk_then ended told = told.own tt

module _ (ended : RunResult) where
  pub done_then : (a : Unit {0}) → IsTold ended (Ok a) → ended ≡ Ok a
  done_then a told = told.own tt

  pub generation_then : (r : RunResult) → r ≡ Err stop.Generation → IsTold ended r → ended ≡ Err stop.Generation
  generation_then r is told = own_end ended r (Err stop.Generation) told is tt

  -- the sink's fault is told, or a read fault
  pub no_write : (r : RunResult) → IsTold ended r → r ≢ Err stop.Write → ¬ IsRead r → ended ≢ Err stop.Write
  no_write (Ok a) told other unread is = absurd (let l = least_rank ended (Ok a) (Err stop.Write) told is in omega (arith, l))
  no_write (Err (stop.Read s)) told other unread is = unread tt
  no_write (Err stop.Write) told other unread is = other refl
  no_write (Err stop.Disk) told other unread is = absurd (let l = least_rank ended (Err stop.Disk) (Err stop.Write) told is in omega (arith, l))
  no_write (Err stop.Memory) told other unread is = absurd (let l = least_rank ended (Err stop.Memory) (Err stop.Write) told is in omega (arith, l))
  no_write (Err (stop.Limit of)) told other unread is = absurd (let l = least_rank ended (Err (stop.Limit of)) (Err stop.Write) told is in omega (arith, l))
  no_write (Err stop.Generation) told other unread is = absurd (let l = least_rank ended (Err stop.Generation) (Err stop.Write) told is in omega (arith, l))
  no_write (Err stop.Worn) told other unread is = absurd (let l = least_rank ended (Err stop.Worn) (Err stop.Write) told is in omega (arith, l))

  -- the disk's fault is told, or a read fault
  pub no_disk : (r : RunResult) → IsTold ended r → r ≢ Err stop.Disk → ¬ IsRead r → ended ≢ Err stop.Disk
  no_disk (Ok a) told other unread is = absurd (let l = least_rank ended (Ok a) (Err stop.Disk) told is in omega (arith, l))
  no_disk (Err (stop.Read s)) told other unread is = unread tt
  no_disk (Err stop.Write) told other unread is = let e = sym is ∙ write_then ended told in absurd cc
  no_disk (Err stop.Disk) told other unread is = other refl
  no_disk (Err stop.Memory) told other unread is = absurd (let l = least_rank ended (Err stop.Memory) (Err stop.Disk) told is in omega (arith, l))
  no_disk (Err (stop.Limit of)) told other unread is = absurd (let l = least_rank ended (Err (stop.Limit of)) (Err stop.Disk) told is in omega (arith, l))
  no_disk (Err stop.Generation) told other unread is = absurd (let l = least_rank ended (Err stop.Generation) (Err stop.Disk) told is in omega (arith, l))
  no_disk (Err stop.Worn) told other unread is = absurd (let l = least_rank ended (Err stop.Worn) (Err stop.Disk) told is in omega (arith, l))

  -- want of memory is told, or a read fault
  pub no_memory : (r : RunResult) → IsTold ended r → r ≢ Err stop.Memory → ¬ IsRead r → ended ≢ Err stop.Memory
  no_memory (Ok a) told other unread is = absurd (let l = least_rank ended (Ok a) (Err stop.Memory) told is in omega (arith, l))
  no_memory (Err (stop.Read s)) told other unread is = unread tt
  no_memory (Err stop.Write) told other unread is = let e = sym is ∙ write_then ended told in absurd cc
  no_memory (Err stop.Disk) told other unread is = let e = sym is ∙ disk_then ended told in absurd cc
  no_memory (Err stop.Memory) told other unread is = other refl
  no_memory (Err (stop.Limit of)) told other unread is = absurd (let l = least_rank ended (Err (stop.Limit of)) (Err stop.Memory) told is in omega (arith, l))
  no_memory (Err stop.Generation) told other unread is = absurd (let l = least_rank ended (Err stop.Generation) (Err stop.Memory) told is in omega (arith, l))
  no_memory (Err stop.Worn) told other unread is = absurd (let l = least_rank ended (Err stop.Worn) (Err stop.Memory) told is in omega (arith, l))
