-- Laws of lists of events that ascend together: of the first all lie below a mark, and of the second none.
use Rattle.std.specs.Prelude.{◌≡◌, ℤ, true, false, List, ◌++◌, All}
use Rattle.eql_values.specs.declared.order.Mark.{Mark}
use Rattle.eql_values.specs.declared.order.Mark.TheVariants.{At}
use Rattle.eql_values.specs.declared.item.Item.{Item}
use Rattle.eql_values.specs.Ascending.{AllAreAfter, Ascend}
use Rattle.eql_values.specs.Marks.{is_below}
use Rattle.eql_laws.specs.Alive.{ItemsComeFrom}

-- all of the items lie below the mark
abbrev pub AllAreBelow : Mark → List Item → Type 0
AllAreBelow mark items = All (λ (item : Item). is_below mark item ≡ true) items

-- none of the items lies below the mark
abbrev pub NoneIsBelow : Mark → List Item → Type 0
NoneIsBelow mark items = All (λ (item : Item). is_below mark item ≡ false) items

-- two ascending lists, all of the first below a mark and none of the second, ascend together
abbrev pub AscendTogether : Type 0
AscendTogether = (mark : Mark) (a b : List Item) → Ascend a → Ascend b → AllAreBelow mark a → NoneIsBelow mark b → Ascend (a ++ b)

-- an event below a mark stands before all of a list of which none is below it
abbrev pub StandsBefore : Type 0
StandsBefore = (mark : Mark) (item : Item) (items : List Item) → is_below mark item ≡ true → NoneIsBelow mark items → AllAreAfter item.order items

-- of what isn't below the mark of a time each comes at that time or later
abbrev pub NotBelowComesFrom : Type 0
NotBelowComesFrom = (t : ℤ) (items : List Item) → NoneIsBelow (At t) items → ItemsComeFrom t items
