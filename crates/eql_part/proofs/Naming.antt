-- What the entries of a list name, where the list is made of others.
use Rattle.std.proofs.Common.{◌≡◌, ◌⊎◌, ◌+◌, List, [], ◌∷◌, ◌++◌, take, drop, refl, sym, ap, ◌∙◌, subst, inl, inr}
use Rattle.std.specs.List.{Contains}
use Rattle.std.proofs.lemmas.List.{append_assoc, drop_more, take-append-drop}
use Rattle.eql_span_list.specs.declared.node.Ticket.{Ticket}
use Rattle.eql_span_list.specs.Entries.{Names, HasDistinctTickets}

head_of : {X : Type 0} (x y : X) (xs ys : List X) → x ∷ xs ≡ y ∷ ys → (x ≡ y) × (xs ≡ ys)
head_of x y xs ys e = (cc, cc)

not_nil : {X : Type 0} (xs : List X) (x : X) (ys : List X) → [] ≡ xs ++ x ∷ ys → ⊥
not_nil [] x ys e = cc
not_nil (y ∷ xs) x ys e = cc

module _ {T : Type 0} where
  pub names_left : (xs ys : List (Ticket × T)) (t : Ticket) (v : T) → Names xs t v → Names (xs ++ ys) t v
  names_left xs ys t v h = (h.0, h.1 ++ ys, ap (λ (l : List (Ticket × T)). l ++ ys) h.2 ∙ append_assoc h.0 ((t, v) ∷ h.1) ys)

  pub names_right : (xs ys : List (Ticket × T)) (t : Ticket) (v : T) → Names ys t v → Names (xs ++ ys) t v
  names_right xs ys t v h = (xs ++ h.0, h.1, ap (λ (l : List (Ticket × T)). xs ++ l) h.2 ∙ sym (append_assoc xs h.0 ((t, v) ∷ h.1)))

  pub names_here : (xs : List (Ticket × T)) (t : Ticket) (v : T) → Names ((t, v) ∷ xs) t v
  names_here xs t v = ([], xs, refl)

  pub names_none : (t : Ticket) (v : T) → Names [] t v → ⊥
  names_none t v h = not_nil h.0 (t, v) h.1 h.2

  -- the first entry, or a later one
  pub names_cons : (e : Ticket × T) (xs : List (Ticket × T)) (t : Ticket) (v : T) → Names (e ∷ xs) t v → (e ≡ (t, v)) ⊎ Names xs t v
  names_cons e xs t v ([], q, is) = inl (head_of e (t, v) xs q is).0
  names_cons e xs t v (p ∷ ps, q, is) = inr (ps, q, (head_of e p xs (ps ++ (t, v) ∷ q) is).1)

  pub names_cases : (xs ys : List (Ticket × T)) (t : Ticket) (v : T) → Names (xs ++ ys) t v → Names xs t v ⊎ Names ys t v
  names_cases [] ys t v h = inr h
  names_cases (e ∷ xs) ys t v h = elim (names_cons e (xs ++ ys) t v h) [
    | inl same ↦ inl ([], xs, ap (λ (x : Ticket × T). x ∷ xs) same)
    | inr later ↦ elim (names_cases xs ys t v later) [
      | inl l ↦ inl (names_right (e ∷ []) xs t v l)
      | inr r ↦ inr r
    ]
  ]

  -- what an entry that was taken out leaves
  pub names_apart : (xs : List (Ticket × T)) (e : Ticket × T) (ys : List (Ticket × T)) (t : Ticket) (v : T) → Names (xs ++ ys) t v → Names (xs ++ e ∷ ys) t v
  names_apart xs e ys t v h = elim (names_cases xs ys t v h) [
    | inl l ↦ names_left xs (e ∷ ys) t v l
    | inr r ↦ names_right xs (e ∷ ys) t v (names_right (e ∷ []) ys t v r)
  ]

  -- a ticket names one value
  pub names_one : (l : List (Ticket × T)) → HasDistinctTickets l → (t : Ticket) (v w : T) → Names l t v → Names l t w → v ≡ w
  names_one l d t v w h k =
      let absent = d t h.0 v h.1 h.2 in
      elim (names_cases h.0 ((t, v) ∷ h.1) t w (subst (λ (z : List (Ticket × T)). Names z t w) h.2 k)) [
        | inl left ↦ let there = names_left h.0 h.1 t w left in absurd (absent there.0 w there.1 there.2)
        | inr rest ↦ elim (names_cons (t, v) h.1 t w rest) [
          | inl same ↦ ap (λ (x : Ticket × T). x.1) same
          | inr right ↦ let there = names_right h.0 h.1 t w right in absurd (absent there.0 w there.1 there.2)
        ]
      ]

  -- by its place
  pub names_from_contains : (l : List (Ticket × T)) (t : Ticket) (v : T) → Contains l (t, v) → Names l t v
  names_from_contains l t v h =
      (take h.0 l, drop (h.0 + 1) l, sym (take-append-drop h.0 l) ∙ ap (λ (z : List (Ticket × T)). take h.0 l ++ z) (drop_more l h.0 (t, v) h.1 ∙ ap (λ (x : Ticket × T). x ∷ drop (h.0 + 1) l) h.2))
