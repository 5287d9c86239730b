-- What is said of the events that have routes, said of all that were taken.
use Rattle.std.proofs.Common.{◌≡◌, ℕ, true, false, List, [], ◌∷◌, Option, None, Some, length, refl, sym, ap, ◌∙◌, subst}
use Rattle.std.specs.Prelude.{All}
use Rattle.std.proofs.lemmas.List.Elements.{All-cons, All-filter, All-nil}
use Rattle.eql_values.specs.declared.item.Item.{Item}
use Rattle.eql_values.specs.declared.found.Match.{Match}
use Rattle.eql_values.specs.declared.found.Holder.{Holder}
use Rattle.eql_values.specs.declared.order.Mark.{Mark}
use Rattle.eql_values.specs.Accepted.{sorted_items}
use Rattle.eql_values.specs.Ascending.{Ascend}
use Rattle.eql_values.specs.Marks.{is_below}
use Rattle.eql_laws.specs.Apart.{joined_lists}
use Rattle.eql_laws.specs.Belows.{HasRoutesInOrder}
use Rattle.eql_laws.specs.Lateness.{IsAtMost}
use Rattle.eql_laws.proofs.BelowLemmas.{sorted_ascends}
use Rattle.eql_laws.proofs.Elements.{All-flat_map}
use Rattle.eql_book.specs.Books.{BookState}
use Rattle.eql_parts.specs.PartSteps.{CanDeliver, Rules}
use Rattle.eql_parts.specs.Spreading.{part_number}
use Rattle.eql_conductor.specs.Benches.{Known}
use Rattle.eql_conductor.specs.Fitting.{TakesFitting, fitting, has_routes}
use Rattle.eql_conductor.specs.Handed.{LanesHand, sizes}
use Rattle.eql_conductor.specs.LaneRounds.{AllHandOver, LanesAreAt}
use Rattle.eql_conductor.specs.PartRounds.{AreAtRest, pending_after}
use Rattle.eql_conductor.specs.RoundNotes.{GrewBy, NotesParts, delivered_to}
use Rattle.eql_conductor.specs.Rounds.{Gave, PlaysTo, found_by}
use Rattle.eql_conductor.proofs.FittingLaws.{after_fitting, fitting_ascends, found_fitting, routed_fitting}
use Rattle.eql_conductor.proofs.Handing.{handed_all}
use Rattle.eql_conductor.proofs.Merged.{all_ascend, between_is, can_deliver}

-- ---- what was taken
routes_ascend : (items : List Item) → Ascend items → All HasRoutesInOrder items
routes_ascend [] h = All-nil HasRoutesInOrder
routes_ascend (item ∷ items) h = All-cons HasRoutesInOrder item items h.0 (routes_ascend items h.2)

joined_ascend : (lists : List (List Item)) → All Ascend lists → Ascend (sorted_items (joined_lists lists))
joined_ascend lists h = sorted_ascends (joined_lists lists) (All-flat_map Ascend HasRoutesInOrder (λ (items : List Item). items) routes_ascend lists h)

pub takes_fitting : (last mark : Mark) (a b : Known) (lists : List (List Item)) (items : List Item) → IsAtMost last mark → LanesAreAt None last a
    → ((texts : Option (List (List ℕ))) → LanesAreAt texts last a → AllHandOver texts last mark a lists) → LanesHand (sizes lists) a b
    → items ≡ fitting (sorted_items (joined_lists lists)) → TakesFitting last mark a b items
takes_fitting last mark a b lists items later at hands handed e =
    let all : List Item = sorted_items (joined_lists lists) in
    let over = hands None at in
    record {
      all = all;
      items_are = e;
      can = can_deliver None last mark a lists all later refl (joined_ascend lists (all_ascend None last mark a lists over)) over;
      told = λ reads slack texts of. between_is reads slack last mark a at.are texts lists all of.read (hands (Some texts) of.lanes) refl;
      handed = handed_all lists all a b over.count refl handed;
    }

-- ---- what is played
module _ (items all : List Item) (e : items ≡ fitting all) where
  pub can_fitting : (last mark : Mark) → CanDeliver last all mark → CanDeliver last items mark
  can_fitting last mark h = subst (λ (l : List Item). CanDeliver last l mark) (sym e) (record {
    rises = h.rises;
    ascends = fitting_ascends all h.ascends;
    not_below = All-filter has_routes (λ (x : Item). is_below last x ≡ false) all h.not_below;
    below = All-filter has_routes (λ (x : Item). is_below mark x ≡ true) all h.below;
  })

  pub found_same : (rules : Rules) (holders : List Holder) → found_by rules holders items ≡ found_by rules holders all
  found_same rules holders = ap (found_by rules holders) e ∙ found_fitting rules.stages rules.span holders all

  pending_same : (rules : Rules) (holders : List Holder) → pending_after rules holders items ≡ pending_after rules holders all
  pending_same rules holders = ap (pending_after rules holders) e ∙ after_fitting rules.stages rules.span holders all

  delivered_same : (p : ℕ) → delivered_to items p ≡ delivered_to all p
  delivered_same p = ap (λ (l : List Item). delivered_to l p) e ∙ ap (λ (l : List Item). length l) (routed_fitting part_number p all)

  pub plays_all : (rules : Rules) (holders : List Holder) (mark : Mark) (c : Known) (book then : BookState) (before now : Option (List ℕ))
      → PlaysTo rules holders items mark c book then before now → PlaysTo rules holders all mark c book then before now
  plays_all rules holders mark c book then before now h = record {
    parts = subst (λ (l : List Holder). AreAtRest rules l mark c) (pending_same rules holders) h.parts;
    gave = subst (λ (l : List Match). Gave l book then before now) (found_same rules holders) h.gave;
  }

  pub notes_all : (b c : Known) → NotesParts (delivered_to items) 3 b c → NotesParts (delivered_to all) 3 b c
  notes_all b c h = record {
    parts = record { each = λ p l. subst (λ (n : ℕ). GrewBy n 3 (b.part_notes p) (c.part_notes p)) (delivered_same p) (h.parts.each p l) };
    lanes = h.lanes;
  }
