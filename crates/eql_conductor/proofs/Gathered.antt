-- What all parts hold, put together.
use Rattle.std.proofs.Common.{◌≡◌, ◌++◌, ℕ, ℤ, true, List, [], ◌∷◌, map, refl, sym, ap, ◌∙◌, arith, subst}
use Rattle.std.specs.Prelude.{All, ◌==◌}
use Rattle.std.specs.List.{flat_map}
use Rattle.std.proofs.lemmas.Bool.Decides.{nat_tests}
use Rattle.std.proofs.lemmas.List.{append-nil}
use Rattle.std.proofs.lemmas.List.Elements.{All-cons, All-filter, All-nil}
use Rattle.eql_values.specs.declared.found.Holder.{Holder}
use Rattle.eql_values.specs.declared.item.Item.{Item}
use Rattle.eql_values.specs.Chains.{in_time}
use Rattle.eql_values.specs.Matching.{Slot, slot_cmp}
use Rattle.eql_values.specs.Ordered.{numbers}
use Rattle.eql_laws.specs.Alive.{HoldersAreInOrder, alive_holders}
use Rattle.eql_laws.specs.Apart.{joined_lists}
use Rattle.eql_laws.specs.Merging.{in_slot_order}
use Rattle.eql_laws.specs.Parts.{PartsHold, holders_in}
use Rattle.eql_laws.specs.Shapes.{IsFull}
use Rattle.eql_laws.proofs.Aparts.{OfKind, each_apart}
use Rattle.eql_laws.proofs.Elements.{All-passed}
use Rattle.eql_laws.proofs.Held.{slot_same}
use Rattle.eql_laws.proofs.PartsWhole.{parts_gather}
use Rattle.eql_laws.proofs.Shaping.{after_is_full}
use Rattle.eql_laws.proofs.Splitting.{after_split}
use Rattle.eql_merge.specs.Ranks.{HoldersAreApart, slot_of}
use Rattle.eql_parts.specs.PartSteps.{Rules}
use Rattle.eql_parts.specs.Spreading.{part_number}
use Rattle.eql_conductor.proofs.Found.{sixteen}
use Rattle.eql_conductor.specs.PartRounds.{pending_after}
use Rattle.eql_conductor.specs.Snaps.{held_of}

joined_each : (f : ℕ → List Holder) (ns : List ℕ) → joined_lists (map f ns) ≡ flat_map f ns
joined_each f [] = refl
joined_each f (n ∷ ns) = ap (λ (l : List Holder). f n ++ l) (joined_each f ns)

-- what is pending after events is pending after no more of them
pub pending_settled : (rules : Rules) (all : List Holder) (items : List Item) → pending_after rules (pending_after rules all items) [] ≡ pending_after rules all items
pending_settled rules all items = sym (after_split rules.stages rules.span all items []) ∙ ap (pending_after rules all) (append-nil items)

module _ (rules : Rules) (all : List Holder) (time : ℤ) where
  hold : PartsHold rules.stages rules.span time part_number 16 all []
  hold = parts_gather rules.stages rules.span time part_number 16 all [] sixteen

  in_order_each : (ns : List ℕ) → All HoldersAreInOrder (map (held_of rules all time) ns)
  in_order_each [] = All-nil HoldersAreInOrder
  in_order_each (p ∷ ns) = All-cons HoldersAreInOrder (held_of rules all time p) (map (held_of rules all time) ns) (hold.part_in_order p) (in_order_each ns)

  abbrev part_of_slot : Slot → ℕ
  part_of_slot slot = part_number slot.0

  abbrev OfPart : ℕ → Holder → Type 0
  OfPart = OfKind slot_cmp slot_same slot_of part_of_slot

  same_number : (a b : ℕ) → (a == b) ≡ true → a ≡ b
  same_number a b e = grind (arith, nat_tests, e)

  of_part : (p : ℕ) → All (OfPart p) (held_of rules all time p)
  of_part p =
      All-filter (λ (h : Holder). in_time rules.span h.chain time) (OfPart p) (holders_in part_number p (pending_after rules all []))
      (All-passed (λ (h : Holder). Unit {0}) (OfPart p) (λ (h : Holder). part_number h.key == p) (λ h u e. same_number (part_number h.key) p e) (pending_after rules all []) (λ k d lt. tt))

  pub held_in_order : (lists : List (List Holder)) → lists ≡ map (held_of rules all time) (numbers 16) → All HoldersAreInOrder lists
  held_in_order lists e = subst (All HoldersAreInOrder) (sym e) (in_order_each (numbers 16))

  pub held_apart : (lists : List (List Holder)) → lists ≡ map (held_of rules all time) (numbers 16) → HoldersAreApart lists
  held_apart lists e = subst HoldersAreApart (sym e) (each_apart slot_cmp slot_same slot_of part_of_slot (held_of rules all time) of_part 16)

  pub held_together : (lists : List (List Holder)) (held : List Holder) → lists ≡ map (held_of rules all time) (numbers 16) → held ≡ in_slot_order (joined_lists lists)
      → held ≡ alive_holders rules.span time (pending_after rules all [])
  held_together lists held e is =
      is ∙ ap (λ (l : List (List Holder)). in_slot_order (joined_lists l)) e
      ∙ ap in_slot_order (joined_each (held_of rules all time) (numbers 16))
      ∙ hold.all

  pub held_full : (held : List Holder) → All IsFull all → held ≡ alive_holders rules.span time (pending_after rules all []) → All IsFull held
  held_full held full e =
      subst (All IsFull) (sym e)
      (All-filter (λ (h : Holder). in_time rules.span h.chain time) IsFull (pending_after rules all []) (after_is_full rules.stages rules.span all [] full))
