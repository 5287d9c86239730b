-- Events that are delivered, and the marks below which they lie.
use Rattle.std.proofs.Common.{◌≡◌, ◌++◌, ℕ, true, false, List, [], ◌∷◌, refl, sym, ◌∙◌, subst}
use Rattle.std.specs.Prelude.{All, IsTrue}
use Rattle.std.specs.declared.cmp.Ordering.TheVariants.{Less}
use Rattle.std.proofs.lemmas.List.Elements.{All-append, All-cons, All-head, All-nil, All-tail, All-weaker}
use Rattle.std.proofs.lemmas.List.Sums.{AllPass-from_list_all, list_all-from_AllPass}
use Rattle.eql_values.specs.declared.order.OrderKey.{OrderKey}
use Rattle.eql_values.specs.declared.order.Mark.{Mark}
use Rattle.eql_values.specs.declared.order.Mark.TheVariants.{Start, At, End}
use Rattle.eql_values.specs.declared.item.Item.{Item}
use Rattle.eql_values.specs.declared.found.Holder.{Holder}
use Rattle.eql_values.specs.Ascending.{Ascend}
use Rattle.eql_values.specs.Marks.{is_below}
use Rattle.eql_values.specs.OrderKeys.{order_cmp}
use Rattle.eql_laws.specs.Lateness.{IsAtMost}
use Rattle.eql_laws.specs.Shapes.{EventsStay}
use Rattle.eql_laws.specs.Together.{AllAreBelow, AscendTogether, NoneIsBelow, StandsBefore}
use Rattle.eql_laws.proofs.MarkLemmas.{below_up}
use Rattle.eql_part.specs.KeyTables.{ComesAfterHolder}
use Rattle.eql_parts.specs.Inboxes.{HolderIsBelow, IsLater, IsNext, LiesBelow, PlaysFirst, WaitingView, below_mark}

-- an event lies below a mark by its place alone
by_place : (mark : Mark) (item : Item) → is_below mark item ≡ below_mark mark item.order
by_place Start item = refl
by_place (At t) item = refl
by_place End item = refl

-- what holds of all of two lists holds of each
pub fronts : {X : Type 0} (P : X → Type 0) (xs ys : List X) → All P (xs ++ ys) → All P xs
fronts P [] ys h = All-nil P
fronts P (x ∷ xs) ys h = All-cons P x xs (All-head P x (xs ++ ys) h) (fronts P xs ys (All-tail P x (xs ++ ys) h))

pub backs : {X : Type 0} (P : X → Type 0) (xs ys : List X) → All P (xs ++ ys) → All P ys
backs P [] ys h = h
backs P (x ∷ xs) ys h = backs P xs ys (All-tail P x (xs ++ ys) h)

-- an event that isn't below a mark comes after a pending sequence below it
after_below : StandsBefore → (mark : Mark) (h : Holder) (item : Item) → HolderIsBelow mark h → is_below mark item ≡ false → ComesAfterHolder item.order h
after_below stands mark h item below not_below =
    All-weaker (λ (e : OrderKey). below_mark mark e ≡ true) (λ (e : OrderKey). order_cmp e item.order ≡ Less)
    (λ e is. (stands mark (record { order = e; routes = [] }) (item ∷ []) is
    (All-cons (λ (x : Item). is_below mark x ≡ false) item [] not_below (All-nil (λ (x : Item). is_below mark x ≡ false)))).0)
    h.chain (AllPass-from_list_all (below_mark mark) h.chain below)

-- delivered events wait behind those that were delivered before
pub next_delivered : AscendTogether → StandsBefore → (last : Mark) (held : List Holder) (inbox items : List Item)
    → IsNext held inbox → LiesBelow last held inbox → Ascend items → NoneIsBelow last items → IsNext held (inbox ++ items)
next_delivered together stands last held inbox items next below ascends none = record {
  ascends = together last inbox items next.ascends ascends below.inbox_below none;
  later = All-append (IsLater held) inbox items next.later
      (All-weaker (λ (x : Item). is_below last x ≡ false) (IsLater held)
      (λ item not_below. All-weaker (HolderIsBelow last) (ComesAfterHolder item.order) (λ h is. after_below stands last h item is not_below) held below.held_below)
      items none);
}

-- all lies below a greater mark
holder_up : (m n : Mark) (h : Holder) → IsAtMost m n → HolderIsBelow m h → HolderIsBelow n h
holder_up m n h le below =
    list_all-from_AllPass (below_mark n) h.chain
    (All-weaker (λ (e : OrderKey). below_mark m e ≡ true) (λ (e : OrderKey). below_mark n e ≡ true) (λ e is. below_up m n (record { order = e; routes = [] }) le is)
    h.chain (AllPass-from_list_all (below_mark m) h.chain below))

pub below_delivered : (last mark : Mark) (held : List Holder) (inbox items : List Item) → IsAtMost last mark → LiesBelow last held inbox
    → AllAreBelow mark items → LiesBelow mark held (inbox ++ items)
below_delivered last mark held inbox items le below all = record {
  held_below = All-weaker (HolderIsBelow last) (HolderIsBelow mark) (λ h is. holder_up last mark h le is) held below.held_below;
  inbox_below = All-append (λ (x : Item). is_below mark x ≡ true) inbox items
      (All-weaker (λ (x : Item). is_below last x ≡ true) (λ (x : Item). is_below mark x ≡ true) (λ x is. below_up last mark x le is) inbox below.inbox_below) all;
}

-- and so it does after events were played
pub below_played : EventsStay → (last : Mark) (old : WaitingView) (n : ℕ) (new : WaitingView) → PlaysFirst old n new
    → LiesBelow last old.held old.inbox → LiesBelow last new.held new.inbox
below_played stay last old n new plays below =
    let all = subst (All (λ (x : Item). is_below last x ≡ true)) plays.inbox below.inbox_below in
    record {
      held_below = subst (All (HolderIsBelow last)) (sym plays.held)
          (stay old.stages old.span (below_mark last) old.held plays.played below.held_below
          (All-weaker (λ (x : Item). is_below last x ≡ true) (λ (x : Item). IsTrue (below_mark last x.order)) (λ x is. sym (by_place last x) ∙ is) plays.played
          (fronts (λ (x : Item). is_below last x ≡ true) plays.played new.inbox all))).after;
      inbox_below = backs (λ (x : Item). is_below last x ≡ true) plays.played new.inbox all;
    }
