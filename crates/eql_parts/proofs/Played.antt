-- Events that leave an inbox at its front and are played.
use Rattle.std.proofs.Common.{◌≡◌, ◌+◌, ◌<◌, ◌++◌, ℕ, ℤ, List, [], ◌∷◌, Option, Some, drop, length, get_or, refl, sym, ap, ◌∙◌, subst, arith}
use Rattle.std.specs.Prelude.{All}
use Rattle.std.specs.declared.cmp.Ordering.TheVariants.{Less}
use Rattle.std.proofs.lemmas.List.{append_assoc, append-nil, length-append}
use Rattle.std.proofs.lemmas.List.Elements.{All-cons, All-nil}
use Rattle.eql_values.specs.declared.order.OrderKey.{OrderKey}
use Rattle.eql_values.specs.declared.item.Item.{Item}
use Rattle.eql_values.specs.declared.found.Match.{Match}
use Rattle.eql_values.specs.declared.found.Holder.{Holder}
use Rattle.eql_values.specs.Ascending.{AllAreAfter}
use Rattle.eql_values.specs.Matching.{after, matches}
use Rattle.eql_values.specs.OrderKeys.{order_cmp}
use Rattle.eql_laws.specs.OneEvent.{AfterNoneIsSame}
use Rattle.eql_laws.specs.Splits.{AfterSplits, MatchesSplit}
use Rattle.eql_part.specs.KeyTables.{ComesAfterAll}
use Rattle.eql_parts.specs.Inboxes.{IsLater, IsNext, IsWaiting, PlaysFirst, WaitingView}
use Rattle.eql_parts.specs.PartSteps.{last_time}

-- a list with a first element is that element and the rest
pub first_and_rest : {X : Type 0} (xs : List X) (x : X) → 0 < length xs → x ≡ get_or xs 0 x → xs ≡ x ∷ drop 1 xs
first_and_rest [] x lt is = absurd (omega (arith, lt))
first_and_rest (y ∷ ys) x lt is = ap (λ z. z ∷ ys) (sym is)

-- the last time of two lists is that of the second, from that of the first
pub last_time_on : (time : Option ℤ) (xs ys : List Item) → last_time time (xs ++ ys) ≡ last_time (last_time time xs) ys
last_time_on time [] ys = refl
last_time_on time (x ∷ xs) ys = last_time_on (Some x.order.ts) xs ys

-- no event was played
pub played_none : AfterNoneIsSame → (w : WaitingView) → IsWaiting w.stages w.held w.inbox → PlaysFirst w 0 w
played_none none w is = record {
  played = [];
  count = refl;
  stages = refl;
  span = refl;
  inbox = refl;
  held = sym (none w.stages w.span w.held is.in_order is.before);
  found = sym (append-nil w.found);
  processed = refl;
}

-- events were played, and then others
pub played_more : AfterSplits → MatchesSplit → (a b c : WaitingView) (n k : ℕ) → PlaysFirst a n b → PlaysFirst b k c → PlaysFirst a (n + k) c
played_more after_split matches_split a b c n k p q = record {
  played = p.played ++ q.played;
  count = length-append p.played q.played ∙ (λ i. p.count i + q.count i);
  stages = q.stages ∙ p.stages;
  span = q.span ∙ p.span;
  inbox = p.inbox ∙ ap (λ (l : List Item). p.played ++ l) q.inbox ∙ sym (append_assoc p.played q.played c.inbox);
  held = q.held ∙ (λ i. after (p.stages i) (p.span i) (p.held i) q.played) ∙ sym (after_split a.stages a.span a.held p.played q.played);
  found = q.found
      ∙ (λ i. p.found i ++ matches (p.stages i) (p.span i) (p.held i) q.played)
      ∙ append_assoc a.found (matches a.stages a.span a.held p.played) (matches a.stages a.span (after a.stages a.span a.held p.played) q.played)
      ∙ ap (λ (l : List Match). a.found ++ l) (sym (matches_split a.stages a.span a.held p.played q.played));
  processed = q.processed ∙ ap (λ (t : Option ℤ). last_time t q.played) p.processed ∙ sym (last_time_on a.processed p.played q.played);
}

-- what comes after an event comes after all that is pending after it
pub later_all : (event : OrderKey) (held : List Holder) → ((next : OrderKey) → order_cmp event next ≡ Less → ComesAfterAll next held)
    → (rest : List Item) → AllAreAfter event rest → All (IsLater held) rest
later_all event held later [] h = All-nil (IsLater held)
later_all event held later (item ∷ rest) h = All-cons (IsLater held) item rest (later item.order h.0) (later_all event held later rest h.1)

-- the events behind the first wait for what is pending after it
pub next_rest : (item : Item) (rest : List Item) (old held : List Holder) → IsNext old (item ∷ rest)
    → ((next : OrderKey) → order_cmp item.order next ≡ Less → ComesAfterAll next held) → IsNext held rest
next_rest item rest old held is later = record {
  ascends = is.ascends.2;
  later = later_all item.order held later rest is.ascends.1;
}

-- the first event was played
pub played_first : (inside old new : WaitingView) (item : Item) → inside ≡ old → inside.inbox ≡ item ∷ new.inbox → new.stages ≡ inside.stages → new.span ≡ inside.span
    → new.held ≡ after inside.stages inside.span inside.held (item ∷ []) → new.found ≡ inside.found ++ matches inside.stages inside.span inside.held (item ∷ [])
    → new.processed ≡ Some item.order.ts → PlaysFirst old 1 new
played_first inside old new item same inbox stages span held found processed =
    subst (λ (w : WaitingView). PlaysFirst w 1 new) same
    (record { played = item ∷ []; count = refl; stages = stages; span = span; inbox = inbox; held = held; found = found; processed = processed })

-- as many events left as there are fewer
pub fewer_wait : (old : WaitingView) (n : ℕ) (new : WaitingView) → PlaysFirst old n new → length old.inbox ≡ n + length new.inbox
fewer_wait old n new p = ap length p.inbox ∙ length-append p.played new.inbox ∙ ap (λ (k : ℕ). k + length new.inbox) p.count

-- a list that got more at its end, said by what it was and what came
pub grown : (old mid new more came : List Match) → new ≡ mid ++ more → mid ≡ old → more ≡ came → new ≡ old ++ came
grown old mid new more came is same got = is ∙ (λ i. same i ++ got i)
