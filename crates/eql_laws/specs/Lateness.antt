-- Laws of late events: one kept time tells who is late, and no event below a safe mark is still to come.
use Rattle.std.specs.Prelude.{◌≡◌, ℤ, ◌-ℤ◌, Bool, false, if◌then◌else◌, List, [], ◌∷◌, ◌++◌, Option, Some, None, filter, IsTrue}
use Rattle.std.specs.Int.Signed.{lt_z}
use Rattle.std.specs.Ordering.{is_le}
use Rattle.eql_values.specs.declared.item.Item.{Item}
use Rattle.eql_values.specs.declared.order.Mark.{Mark}
use Rattle.eql_values.specs.Accepted.{is_late, accepted_after}
use Rattle.eql_values.specs.Marks.{mark_cmp, is_below, low_of}
use Rattle.eql_values.specs.Matching.{onto}

-- the greater of a time and one that may be there
abbrev pub larger : ℤ → Option ℤ → ℤ
larger t None = t
larger t (Some u) = if lt_z t u then u else t

-- the greatest time of these events
abbrev pub best_of : List Item → Option ℤ
best_of [] = None
best_of (item ∷ items) = Some (larger item.order.ts (best_of items))

-- the greatest of a kept time and the times of these events
abbrev pub best_from : Option ℤ → List Item → Option ℤ
best_from best [] = best
best_from best (item ∷ items) = best_from (Some (larger item.order.ts best)) items

-- late by one kept time: there is a slack, and the kept time is greater by more than it
abbrev pub late_by : (slack best : Option ℤ) → Item → Bool
late_by None best item = false
late_by (Some slack) None item = false
late_by (Some slack) (Some best) item = lt_z slack (best -ℤ item.order.ts)

-- the events that aren't late, with one kept time going on
abbrev pub accepted_by : (slack best : Option ℤ) → List Item → List Item
accepted_by slack best [] = []
accepted_by slack best (item ∷ items) =
    if late_by slack best item
    then accepted_by slack (Some (larger item.order.ts best)) items
    else item ∷ accepted_by slack (Some (larger item.order.ts best)) items

-- the one mark is at most the other
abbrev pub IsAtMost : Mark → Mark → Type 0
IsAtMost mark other = IsTrue (is_le (mark_cmp mark other))

-- one kept time tells who is late
abbrev pub BestTellsLate : Type 0
BestTellsLate = (slack : Option ℤ) (earlier : List Item) (item : Item) → is_late slack earlier item ≡ late_by slack (best_of earlier) item

-- and so which events are accepted
abbrev pub BestTellsAccepted : Type 0
BestTellsAccepted = (slack : Option ℤ) (earlier items : List Item) → accepted_after slack earlier items ≡ accepted_by slack (best_of earlier) items

-- the greatest time of two lists goes on from that of the first, whichever way the first is read
abbrev pub BestGoesOn : Type 0
BestGoesOn = (a b : List Item) → (best_of (a ++ b) ≡ best_from (best_of a) b) × (best_of (onto b a) ≡ best_from (best_of a) b)

-- and so it goes on from any kept time
abbrev pub BestFromGoesOn : Type 0
BestFromGoesOn = (best : Option ℤ) (a b : List Item) → best_from best (a ++ b) ≡ best_from (best_from best a) b

-- the accepted events of two lists are those of the first, and those of the second with the time going on
abbrev pub AcceptedSplits : Type 0
AcceptedSplits = (slack best : Option ℤ) (a b : List Item)
    → accepted_by slack best (a ++ b) ≡ accepted_by slack best a ++ accepted_by slack (best_from best a) b

-- the low only rises with further events, and with the end
abbrev pub LowRises : Type 0
LowRises = (closed : Bool) (slack best : Option ℤ) (b : List Item) → IsAtMost (low_of false slack best) (low_of closed slack (best_from best b))

-- every accepted event below a mark that is at most the low of some events stands among them: no further one is below it
abbrev pub NoneComesBelow : Type 0
NoneComesBelow = (slack : Option ℤ) (mark : Mark) (a b : List Item) → IsAtMost mark (low_of false slack (best_of a))
    → filter (is_below mark) (accepted_after slack [] (a ++ b)) ≡ filter (is_below mark) (accepted_after slack [] a)
