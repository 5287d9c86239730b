-- The pending sequences of a table, from a slot on.
use Rattle.std.proofs.Common.{◌≡◌, ◌<◌, ◌≤◌, ◌+◌, ℕ, List, ◌∷◌, length, drop, get_or, Option, Some, None, sym, ap, ◌∙◌, arith}
use Rattle.std.specs.Prelude.{if◌then◌else◌, is_some}
use Rattle.std.proofs.lemmas.List.{drop_all, drop_more}
use Rattle.eql_auto.specs.declared.table.Pending.{Pending}
use Rattle.eql_auto.specs.Kept.{sequence_views}
use Rattle.eql_auto.specs.Machine.{tags_of}
use Rattle.eql_auto.specs.Starts.{first_event, first_of}

module _ {T : Type 0} where
  -- how many are pending from a slot on
  abbrev pub pending_from : List (Option (Pending T)) → ℕ → ℕ
  pending_from slots i = length (tags_of (sequence_views (drop i slots)))

  pub pends : (slots : List (Option (Pending T))) (i : ℕ) (slot : Option (Pending T)) → i < length slots → slot ≡ get_or slots i slot
      → pending_from slots i ≡ (if is_some slot then 1 else 0) + pending_from slots (i + 1)
  pends slots i slot lt is =
      ap (λ (l : List (Option (Pending T))). length (tags_of (sequence_views l))) (drop_more slots i slot lt)
      ∙ ap (λ (o : Option (Pending T)). length (tags_of (sequence_views (o ∷ drop (i + 1) slots)))) (sym is)
      ∙ one slot (drop (i + 1) slots) where
        one : (slot : Option (Pending T)) (rest : List (Option (Pending T))) → length (tags_of (sequence_views (slot ∷ rest))) ≡ (if is_some slot then 1 else 0) + length (tags_of (sequence_views rest))
        one None rest = omega arith
        one (Some p) rest = omega arith

  pub none_is_left : (slots : List (Option (Pending T))) (i : ℕ) → length slots ≤ i → pending_from slots i ≡ 0
  none_is_left slots i past = ap (λ (l : List (Option (Pending T))). length (tags_of (sequence_views l))) (drop_all i slots past)

  -- the first event from a slot on
  pub none_begins : (slots : List (Option (Pending T))) (i : ℕ) (slot : Option (Pending T)) → i < length slots → slot ≡ get_or slots i slot → slot ≡ None
      → first_event (sequence_views (drop i slots)) ≡ first_event (sequence_views (drop (i + 1) slots))
  none_begins slots i slot lt is none =
      ap (λ (l : List (Option (Pending T))). first_event (sequence_views l)) (drop_more slots i slot lt)
      ∙ ap (λ (o : Option (Pending T)). first_event (sequence_views (o ∷ drop (i + 1) slots))) (sym is ∙ none)

  pub one_begins : (slots : List (Option (Pending T))) (i : ℕ) (slot : Option (Pending T)) (p : Pending T) → i < length slots → slot ≡ get_or slots i slot → slot ≡ Some p
      → first_event (sequence_views (drop i slots)) ≡ first_of p.events.items
  one_begins slots i slot p lt is some =
      ap (λ (l : List (Option (Pending T))). first_event (sequence_views l)) (drop_more slots i slot lt)
      ∙ ap (λ (o : Option (Pending T)). first_event (sequence_views (o ∷ drop (i + 1) slots))) (sym is ∙ some)

  pub none_begins_more : (slots : List (Option (Pending T))) (i : ℕ) → length slots ≤ i → first_event (sequence_views (drop i slots)) ≡ None
  none_begins_more slots i past = ap (λ (l : List (Option (Pending T))). first_event (sequence_views l)) (drop_all i slots past)
