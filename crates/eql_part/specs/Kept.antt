-- What the pending sequences of all keys keep true of their machines and their list.
use Rattle.std.specs.Prelude.{◌≤◌, ℕ, ℤ, Option, List, []}
use Rattle.eql_part.specs.declared.table.KeyTable.{KeyTable}
use Rattle.eql_part.specs.KeyTables.{AreBusy, AreOf, sequences_in}
use Rattle.eql_part.specs.Links.{IsLinked, Listed}
use Rattle.eql_part.specs.Rooms.{IsTable, entries_of}

-- there are 1 to 256 stages, each key has its room, each machine is of these stages and this span and has a pending sequence, and the list names the pending sequences and no others
pub record IsKept {L : Type 0} (stages : ℕ) (span : Option ℤ) (machines : KeyTable L) (list : List Listed) : Type 0 where
  pub from : 1 ≤ stages
  pub to : stages ≤ 256
  pub table : IsTable stages span machines
  pub of : AreOf stages span (entries_of machines)
  pub busy : AreBusy (entries_of machines)
  pub linked : IsLinked [] (sequences_in (entries_of machines)) list
