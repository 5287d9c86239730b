-- Times up to which pending sequences that are dead are dropped.
use Rattle.std.proofs.Common.{◌≡◌, ◌++◌, ℕ, ℤ, ◌≤ℤ◌, true, false, List, [], ◌∷◌, Option, Some, None, refl, sym, ap, ◌∙◌, arith, subst}
use Rattle.std.specs.Int.Signed.{lt_z}
use Rattle.std.proofs.lemmas.Int.{ints}
use Rattle.std.proofs.lemmas.List.Elements.{All-head, All-tail}
use Rattle.eql_values.specs.declared.item.Item.{Item}
use Rattle.eql_values.specs.declared.found.Holder.{Holder}
use Rattle.eql_values.specs.declared.order.Mark.{Mark}
use Rattle.eql_values.specs.declared.order.Mark.TheVariants.{Start, At, End}
use Rattle.eql_values.specs.Ascending.{Ascend}
use Rattle.eql_values.specs.Marks.{is_below}
use Rattle.eql_values.specs.Matching.{after, matches}
use Rattle.eql_laws.specs.Alive.{HoldersAreInOrder, IsSpan, ItemsComeFrom}
use Rattle.eql_laws.specs.Lateness.{IsAtMost}
use Rattle.eql_laws.specs.Together.{AllAreBelow, NoneIsBelow}
use Rattle.eql_laws.proofs.LeftOut.{alive_in_order, dead_alike, dead_for_good}
use Rattle.eql_laws.proofs.MarkLemmas.{times_le}
use Rattle.eql_laws.proofs.PieceLemmas.{times_after, times_keep}
use Rattle.eql_laws.proofs.Togethers.{none_below_from}
use Rattle.eql_parts.specs.PartSteps.{alive_by, done_by, last_time, mark_time, still_held}
use Rattle.eql_conductor.specs.PartCalls.{ComeFrom, TimeIsAtMost, ReachesTo}

-- ---- times
pub time_self : (a : Option ℤ) → TimeIsAtMost a a
time_self None = tt
time_self (Some t) = omega (arith, ints)

pub time_on : (a b c : Option ℤ) → TimeIsAtMost a b → TimeIsAtMost b c → TimeIsAtMost a c
time_on None b c h k = tt
time_on (Some t) None c h k = absurd h
time_on (Some t) (Some u) None h k = absurd k
time_on (Some t) (Some u) (Some v) h k = omega (arith, ints, h, k)

earlier_time : (ts t : ℤ) → lt_z ts t ≡ true → ts ≤ℤ t
earlier_time ts t h = grind (arith, ints)

pub reach_up : (reach : Option ℤ) (from to : Mark) → IsAtMost from to → ReachesTo reach from → ReachesTo reach to
reach_up reach Start Start le h = h
reach_up reach Start (At t) le h = subst (λ (r : Option ℤ). TimeIsAtMost r (Some t)) (sym h) tt
reach_up reach (At t) (At u) le h = time_on reach (Some t) (Some u) h (times_le t u le)
reach_up reach from End le h = tt
reach_up reach (At t) Start le h = cc
reach_up reach End Start le h = cc
reach_up reach End (At t) le h = cc

-- ---- events from a time on
pub from_pieces : (r : Option ℤ) (a b : List Item) → ComeFrom r (a ++ b) → ComeFrom r a × ComeFrom r b
from_pieces None a b h = (tt, tt)
from_pieces (Some t) a b h = times_keep.pieces t a b h

times_join : (t : ℤ) (a b : List Item) → ItemsComeFrom t a → ItemsComeFrom t b → ItemsComeFrom t (a ++ b)
times_join t [] b h k = k
times_join t (x ∷ a) b h k = (h.0, times_join t a b h.1 k)

pub from_join : (r : Option ℤ) (a b : List Item) → ComeFrom r a → ComeFrom r b → ComeFrom r (a ++ b)
from_join None a b h k = tt
from_join (Some t) a b h k = times_join t a b h k

-- what isn't below a mark comes at the reach or later
pub from_mark : (reach : Option ℤ) (mark : Mark) (items : List Item) → ReachesTo reach mark → NoneIsBelow mark items → ComeFrom reach items
from_mark reach Start items h none = subst (λ (r : Option ℤ). ComeFrom r items) (sym h) tt
from_mark None (At t) items h none = tt
from_mark (Some r) (At t) items h none = times_keep.lesser r t items h (none_below_from t items none)
from_mark None End items h none = tt
from_mark (Some r) End [] h none = tt
from_mark (Some r) End (x ∷ items) h none = let e = All-head (λ (item : Item). is_below End item ≡ false) x items none in cc

-- ---- the time of the last event
pub last_from : (time : Option ℤ) (items rest : List Item) → Ascend (items ++ rest) → ComeFrom time (items ++ rest) → ComeFrom (last_time time items) rest
last_from time [] rest asc h = h
last_from time (x ∷ items) rest asc h = last_from (Some x.order.ts) items rest asc.2 (times_after x.order (items ++ rest) asc.1)

pub last_to : (a b : Option ℤ) (items : List Item) → TimeIsAtMost a b → TimeIsAtMost (last_time a items) (last_time b items)
last_to a b [] h = h
last_to a b (x ∷ items) h = last_to (Some x.order.ts) (Some x.order.ts) items (time_self (Some x.order.ts))

first_from : (time : Option ℤ) (x : Item) (items : List Item) → ComeFrom time (x ∷ items) → TimeIsAtMost time (Some x.order.ts)
first_from None x items h = tt
first_from (Some t) x items h = h.0

pub time_rises : (time : Option ℤ) (items : List Item) → Ascend items → ComeFrom time items → TimeIsAtMost time (last_time time items)
time_rises time [] asc h = time_self time
time_rises time (x ∷ items) asc h =
    time_on time (Some x.order.ts) (last_time (Some x.order.ts) items) (first_from time x items h)
    (time_rises (Some x.order.ts) items asc.2 (times_after x.order items asc.1))

time_below : (mark : Mark) (x : Item) → is_below mark x ≡ true → ReachesTo (Some x.order.ts) mark
time_below Start x h = cc
time_below (At t) x h = earlier_time x.order.ts t h
time_below End x h = tt

pub last_reach : (reach : Option ℤ) (mark : Mark) (items : List Item) → AllAreBelow mark items → ReachesTo reach mark → ReachesTo (last_time reach items) mark
last_reach reach mark [] all h = h
last_reach reach mark (x ∷ items) all h =
    last_reach (Some x.order.ts) mark items (All-tail (λ (item : Item). is_below mark item ≡ true) x items all)
    (time_below mark x (All-head (λ (item : Item). is_below mark item ≡ true) x items all))

-- ---- what is left
pub left_order : (span time : Option ℤ) (hs : List Holder) → HoldersAreInOrder hs → HoldersAreInOrder (alive_by span time hs)
left_order span None hs h = h
left_order span (Some t) hs h = alive_in_order span t hs h

-- what is dead is dead later
pub by_later : (span a r : Option ℤ) (hs : List Holder) → TimeIsAtMost a r → alive_by span r (alive_by span a hs) ≡ alive_by span r hs
by_later span None r hs h = refl
by_later span (Some t) None hs h = absurd h
by_later span (Some t) (Some u) hs h = dead_for_good span t u hs h

pub by_still : (span p r : Option ℤ) (d : Mark) (hs : List Holder) → TimeIsAtMost p r → TimeIsAtMost (mark_time d) r → alive_by span r (still_held span p d hs) ≡ alive_by span r hs
by_still span p r d hs h k = by_later span (mark_time d) r (alive_by span p hs) k ∙ by_later span p r hs h

pub alike_later : (span a r : Option ℤ) (hs ks : List Holder) → TimeIsAtMost a r → alive_by span a hs ≡ alive_by span a ks → alive_by span r hs ≡ alive_by span r ks
alike_later span a r hs ks h e = sym (by_later span a r hs h) ∙ ap (alive_by span r) e ∙ by_later span a r ks h

-- lists that are alike find the same from then on, and stay alike
pub alike_find : (m : ℕ) (span r : Option ℤ) (a b : List Holder) (items : List Item) → IsSpan span → HoldersAreInOrder a → HoldersAreInOrder b
    → alive_by span r a ≡ alive_by span r b → ComeFrom r items
    → (matches m span a items ≡ matches m span b items) × (alive_by span r (after m span a items) ≡ alive_by span r (after m span b items))
alike_find m span None a b items is oa ob e h = (ap (λ (l : List Holder). matches m span l items) e, ap (λ (l : List Holder). after m span l items) e)
alike_find m span (Some t) a b items is oa ob e h = dead_alike m span t a b items is oa ob e h

-- ---- the reach once a part settled
pub record SettlesAt (reach : Option ℤ) (inbox : List Item) (mark done : Mark) : Type 0 where
  pub time : Option ℤ
  pub later : TimeIsAtMost reach time
  pub waits : ComeFrom time inbox
  pub to : ReachesTo time mark
  pub done_to : TimeIsAtMost (mark_time (done_by inbox done mark)) time

pub settles_at : (reach : Option ℤ) (inbox : List Item) (mark done : Mark) → ComeFrom reach inbox → ReachesTo reach mark → TimeIsAtMost (mark_time done) reach
    → SettlesAt reach inbox mark done
settles_at reach (x ∷ inbox) mark done from to old = record { time = reach; later = time_self reach; waits = from; to = to; done_to = old }
settles_at reach [] Start done from to old = record { time = reach; later = time_self reach; waits = from; to = to; done_to = tt }
settles_at reach [] (At t) done from to old = record { time = Some t; later = to; waits = tt; to = time_self (Some t); done_to = time_self (Some t) }
settles_at reach [] End done from to old = record { time = reach; later = time_self reach; waits = from; to = tt; done_to = tt }
