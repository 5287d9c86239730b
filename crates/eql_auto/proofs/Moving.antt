-- The moves of the stages, from the last to the first, are the move of all slots at once.
use Rattle.std.proofs.Common.{◌≡◌, ◌≢◌, ℕ, zero, suc, ◌<◌, ◌≤◌, ◌+◌, ◌-◌, ℤ, Bool, true, false, cond, List, [], ◌∷◌, Option, Some, None, refl, sym, ap, ◌∙◌, arith, inl, inr, subst, length, set, get_or}
use Rattle.std.specs.Prelude.{◌&&◌, ◌==◌, nat_lt}
use Rattle.std.specs.Option.{option_or}
use Rattle.std.proofs.lemmas.Bool.{cases_order, cases_lt}
use Rattle.std.proofs.lemmas.Bool.Decides.{nat_tests}
use Rattle.std.proofs.lemmas.List.{get_or-set_same, get_or-set_other, length-set}
use Rattle.eql_values.specs.declared.order.OrderKey.{OrderKey}
use Rattle.eql_values.specs.declared.item.Mask.{Mask}
use Rattle.eql_values.specs.Masks.{has_after}
use Rattle.eql_values.specs.Ordered.{found_or}
use Rattle.eql_auto.specs.Machine.{Sequence, slot_at, went_on, stages_in}
use Rattle.eql_auto.specs.Moves.{chain_in, coming_to, moved_to}

-- the tests, as they come out
yes_lt : (k j : ℕ) → k < j → nat_lt k j ≡ true
yes_lt k j h = grind (arith, nat_tests)

no_lt : (k j : ℕ) → j ≤ k → nat_lt k j ≡ false
no_lt k j h = grind (arith, nat_tests)

yes_eq : (k : ℕ) → (k == k) ≡ true
yes_eq k = grind (arith, nat_tests)

no_eq_above : (k j : ℕ) → k < j → (j == k) ≡ false
no_eq_above k j h = grind (arith, nat_tests)

no_eq_below : (k j : ℕ) → j < k → (j == k) ≡ false
no_eq_below k j h = grind (arith, nat_tests)

module _ {T : Type 0} (span : Option ℤ) (event : OrderKey) (mask : Mask) (old : List (Option (Sequence T))) where
  -- the slots once those from k on have moved: those above k have what they will have, that of k was left where it moved on, and the others stand
  abbrev pub partly : ℕ → ℕ → Option (Sequence T)
  partly k j = cond (nat_lt k j) (moved_to span event mask old j) (cond ((j == k) && has_after k mask) None (slot_at old j))

  partly_above : (k j : ℕ) → k < j → partly k j ≡ moved_to span event mask old j
  partly_above k j l = let a = yes_lt k j l in simp a

  partly_at : (k : ℕ) → partly k k ≡ cond (has_after k mask) None (slot_at old k)
  partly_at k = let a = no_lt k k (omega arith) in let b = yes_eq k in simp (a, b)

  partly_below : (k j : ℕ) → j < k → partly k j ≡ slot_at old j
  partly_below k j l = let a = no_lt k j (omega arith) in let b = no_eq_below k j l in simp (a, b)

  unmoved : (has : Bool) (here : Option (Sequence T)) → has ≡ false → found_or (cond has here None) (slot_at old 0) ≡ slot_at old 0
  unmoved true here h = cc
  unmoved false here h = refl

  none_came : (has : Bool) (here rest : Option (Sequence T)) → has ≡ false → found_or (cond has here None) rest ≡ rest
  none_came true here rest h = cc
  none_came false here rest h = refl

  -- a slot whose sequence isn't moved on may be passed over
  pub pass_over : (k j : ℕ) → has_after k mask ≡ false → partly (suc k) j ≡ partly k j
  pass_over k j never =
      elim (cases_order j (suc k)) [
        | inl e ↦ subst (λ (i : ℕ). partly (suc k) i ≡ partly k i) (sym e)
            (partly_at (suc k)
            ∙ sym (partly_above k (suc k) (omega arith) ∙ none_came (has_after k mask) (went_on span event (slot_at old k)) (cond (has_after (suc k) mask) None (slot_at old (suc k))) never))
        | inr o ↦ elim o [
          | inl less ↦ partly_below (suc k) j less ∙ elim (cases_order j k) [
            | inl e ↦ subst (λ (i : ℕ). slot_at old i ≡ partly k i) (sym e) (sym (partly_at k ∙ ap (λ b. cond b None (slot_at old k)) never))
            | inr o' ↦ elim o' [ inl lower ↦ sym (partly_below k j lower) | inr more ↦ absurd (omega arith) ]
          ]
          | inr more ↦ partly_above (suc k) j more ∙ sym (partly_above k j (omega arith))
        ]
      ]

  -- so are all between
  pub pass_all : (k gap j : ℕ) → ((i : ℕ) → k < i → i < suc k + gap → has_after i mask ≡ false) → partly (suc k + gap) j ≡ partly (suc k) j
  pass_all k zero j none = let e : suc k + 0 ≡ suc k = omega arith in ap (λ (n : ℕ). partly n j) e
  pass_all k (suc gap) j none =
      let e : suc k + suc gap ≡ suc (suc k + gap) = omega arith in
      ap (λ (n : ℕ). partly n j) e ∙ pass_over (suc k + gap) j (none (suc k + gap) (omega arith) (omega arith))
      ∙ pass_all k gap j (λ i more less. none i more (omega arith))

  -- the stages between are not counted
  pub count_all : (k gap : ℕ) → ((i : ℕ) → k < i → i < suc k + gap → has_after i mask ≡ false) → stages_in mask (suc k + gap) ≡ stages_in mask (suc k)
  count_all k zero none = let e : suc k + 0 ≡ suc k = omega arith in ap (stages_in mask) e
  count_all k (suc gap) none =
      let e : suc k + suc gap ≡ suc (suc k + gap) = omega arith in
      let more : stages_in mask (suc (suc k + gap)) ≡ stages_in mask (suc k + gap) + 0 =
      ap (λ b. stages_in mask (suc k + gap) + cond b 1 0) (none (suc k + gap) (omega arith) (omega arith)) in
      let less : stages_in mask (suc k + gap) ≡ stages_in mask (suc k) = count_all k gap (λ i above below. none i above (omega arith)) in
      let first : stages_in mask (suc k + suc gap) ≡ stages_in mask (suc (suc k + gap)) = ap (stages_in mask) e in
      omega arith

  -- the same down from any number above
  passes : (k n j : ℕ) → k < n → ((i : ℕ) → k < i → i < n → has_after i mask ≡ false) → partly n j ≡ partly (suc k) j
  passes k n j l none =
      let gap : suc k + (n - suc k) ≡ n = omega arith in
      ap (λ (m : ℕ). partly m j) (sym gap) ∙ pass_all k (n - suc k) j (λ i above below. none i above (omega arith))

  counts : (k n : ℕ) → k < n → ((i : ℕ) → k < i → i < n → has_after i mask ≡ false) → stages_in mask n ≡ stages_in mask (suc k)
  counts k n l none =
      let gap : suc k + (n - suc k) ≡ n = omega arith in
      ap (stages_in mask) (sym gap) ∙ count_all k (n - suc k) (λ i above below. none i above (omega arith))

  pub counts_one : (k n : ℕ) → k < n → has_after k mask ≡ true → ((i : ℕ) → k < i → i < n → has_after i mask ≡ false) → stages_in mask n ≡ stages_in mask k + 1
  counts_one k n l has none = counts k n l none ∙ ap (λ b. stages_in mask k + cond b 1 0) has

  pub counts_none : (n : ℕ) → 1 ≤ n → ((i : ℕ) → 1 ≤ i → i < n → has_after i mask ≡ false) → stages_in mask n ≡ stages_in mask 1
  counts_none n from none = counts 0 n (omega arith) (λ i above below. none i (omega arith) below)

  at_slot : (slots : List (Option (Sequence T))) (j i : ℕ) → j ≡ suc i → slot_at slots j ≡ get_or slots i None
  at_slot slots j i e = ap (slot_at slots) e

  -- a slot whose sequence is to be moved on still has what it had
  pub still_held : (k n : ℕ) (before : List (Option (Sequence T))) → 1 ≤ k → k < n → k ≤ length before
      → ((j : ℕ) → 1 ≤ j → j ≤ length before → slot_at before j ≡ partly n j) → get_or before (k - 1) None ≡ get_or old (k - 1) None
  still_held k n before from l within is =
      sym (at_slot before k (k - 1) (omega arith)) ∙ is k from within ∙ partly_below n k l ∙ at_slot old k (k - 1) (omega arith)

  -- one move: the slots are those of the table before, with the sequence of stage k moved on
  module _ (k : ℕ) (before after : List (Option (Sequence T))) (n : ℕ) (low_n : k < n) (has : has_after k mask ≡ true)
      (none : (i : ℕ) → k < i → i < n → has_after i mask ≡ false) (from : 1 ≤ k) (within : k ≤ length before)
      (is_n : (j : ℕ) → 1 ≤ j → j ≤ length before → slot_at before j ≡ partly n j)
      (set_to : after ≡ set (set before (k - 1) None) k (found_or (went_on span event (get_or before (k - 1) None)) (get_or before k None))) where
    is : (j : ℕ) → 1 ≤ j → j ≤ length before → slot_at before j ≡ partly (suc k) j
    is j low high = is_n j low high ∙ passes k n j low_n none

    held : get_or before (k - 1) None ≡ slot_at old k
    held = sym (at_slot before k (k - 1) (omega arith)) ∙ is k from within ∙ partly_below (suc k) k (omega arith)

    pub step_to : (j : ℕ) → 1 ≤ j → j ≤ length before → slot_at after j ≡ partly k j
    step_to zero low high = absurd (omega arith)
    step_to (suc i) low high = ap (λ (l : List (Option (Sequence T))). get_or l i None) set_to ∙ elim (cases_order i k) [
      | inl e ↦
          -- what came to the next stage
          let len : length (set before (k - 1) None) ≡ length before = length-set before (k - 1) None in
          let at : suc i ≡ suc k = ap suc e in
          ap (λ (n : ℕ). get_or (set (set before (k - 1) None) k (found_or (went_on span event (get_or before (k - 1) None)) (get_or before k None))) n None) e
          ∙ get_or-set_same (set before (k - 1) None) k _ None (omega arith)
          ∙ ap (λ (o : Option (Sequence T)). found_or (went_on span event o) (get_or before k None)) held
          ∙ ap (λ (o : Option (Sequence T)). found_or (went_on span event (slot_at old k)) o) (is (suc k) (omega arith) (omega arith) ∙ partly_at (suc k))
          ∙ sym (ap (partly k) at ∙ partly_above k (suc k) (omega arith) ∙ ap (λ b. found_or (cond b (went_on span event (slot_at old k)) None) (cond (has_after (suc k) mask) None (slot_at old (suc k)))) has)
      | inr o ↦
          let apart : i ≢ k = λ e. elim o [ inl l ↦ absurd (omega arith) | inr l ↦ absurd (omega arith) ] in
          get_or-set_other (set before (k - 1) None) k i _ None apart ∙ elim (cases_order i (k - 1)) [
            | inl e ↦
                -- the slot that was left
                let at : suc i ≡ k = omega arith in
                ap (λ (n : ℕ). get_or (set before (k - 1) None) n None) e ∙ get_or-set_same before (k - 1) None None (omega arith)
                ∙ sym (ap (partly k) at ∙ partly_at k ∙ ap (λ b. cond b None (slot_at old k)) has)
            | inr o' ↦
                -- the others
                let other : i ≢ (k - 1) = λ e. elim o' [ inl l ↦ absurd (omega arith) | inr l ↦ absurd (omega arith) ] in
                get_or-set_other before (k - 1) i None None other ∙ is (suc i) (omega arith) high ∙ elim (cases_lt k i) [
                  | inl more ↦ partly_above (suc k) (suc i) (omega arith) ∙ sym (partly_above k (suc i) (omega arith))
                  | inr less ↦ let lower : suc i < k = elim o' [ inl l ↦ omega arith | inr l ↦ elim o [ inl l' ↦ absurd (omega arith) | inr l' ↦ absurd (omega arith) ] ] in
                      partly_below (suc k) (suc i) (omega arith) ∙ sym (partly_below k (suc i) lower)
                ]
          ]
    ]

    -- what is moved on
    pub moved_is : chain_in (went_on span event (get_or before (k - 1) None)) ≡ chain_in (coming_to span event mask old (suc k))
    moved_is = ap (λ (o : Option (Sequence T)). chain_in (went_on span event o)) held ∙ sym (ap (λ b. chain_in (cond b (went_on span event (slot_at old k)) None)) has)

  -- at first the slots stand
  pub at_start : (n j : ℕ) → j < n → slot_at old j ≡ partly n j
  at_start n j l = sym (partly_below n j l)

  -- at last each slot has what it will have: below the least place no sequence is moved on
  both_none : (b : Bool) → ◌≡◌ {A = Option (Sequence T)} (cond b None None) None
  both_none true = refl
  both_none false = refl

  first_end : (j : ℕ) → 1 ≤ j → partly 1 j ≡ moved_to span event mask old j
  first_end j low = elim (cases_lt 1 j) [
    | inl l ↦ partly_above 1 j l
    | inr g ↦ let e : j ≡ 1 = omega arith in
        ap (partly 1) e ∙ partly_at 1
        ∙ ap (λ (o : Option (Sequence T)). found_or o (cond (has_after 1 mask) None (slot_at old 1))) (sym (both_none (has_after 0 mask)))
        ∙ ap (moved_to span event mask old) (sym e)
  ]

  pub at_end : (n j : ℕ) → ((i : ℕ) → 1 ≤ i → i < n → has_after i mask ≡ false) → 1 ≤ n → 1 ≤ j → partly n j ≡ moved_to span event mask old j
  at_end n j none from low = passes 0 n j (omega arith) (λ i above below. none i (omega arith) below) ∙ first_end j low

  -- the chain that was completed, once those from n on have moved
  abbrev pub completed_from : ℕ → Option (List OrderKey)
  completed_from n = chain_in (cond (nat_lt n (suc (length old))) (coming_to span event mask old (suc (length old))) None)

  pub none_yet : (n : ℕ) → n ≡ suc (length old) → completed_from n ≡ None
  none_yet n e = let a = no_lt n (suc (length old)) (omega arith) in simp a

  done_from : (n : ℕ) → n < suc (length old) → completed_from n ≡ chain_in (coming_to span event mask old (suc (length old)))
  done_from n l = let a = yes_lt n (suc (length old)) l in simp a

  not_come : (b : Bool) (here : Option (Sequence T)) → b ≡ false → chain_in (cond b here None) ≡ None
  not_come true here h = cc
  not_come false here h = refl

  -- one move goes on with it
  pub completes : (k n : ℕ) (out was now : Option (List OrderKey)) → k < n → n ≤ suc (length old) → ((i : ℕ) → k < i → i < n → has_after i mask ≡ false)
      → out ≡ cond (k == length old) (chain_in (coming_to span event mask old (suc k))) None → was ≡ completed_from n → now ≡ found_or out was → now ≡ completed_from k
  completes k n out was now l most none o w is = elim (cases_order k (length old)) [
    | inl e ↦
        let last : (k == length old) ≡ true = grind (arith, nat_tests) in
        let at : was ≡ None = w ∙ none_yet n (omega arith) in
        is ∙ ap (found_or out) at ∙ or_none out ∙ o ∙ ap (λ b. cond b (chain_in (coming_to span event mask old (suc k))) None) last
        ∙ ap (λ (j : ℕ). chain_in (coming_to span event mask old (suc j))) e ∙ sym (done_from k (omega arith))
    | inr apart ↦
        let inner : k < length old = elim apart [ inl l' ↦ l' | inr l' ↦ absurd (omega arith) ] in
        let early : (k == length old) ≡ false = grind (arith, nat_tests) in
        is ∙ ap (λ (x : Option (List OrderKey)). found_or x was) (o ∙ ap (λ b. cond b (chain_in (coming_to span event mask old (suc k))) None) early) ∙ w
        ∙ elim (cases_lt n (suc (length old))) [
          | inl less ↦ done_from n less
          | inr whole ↦ none_yet n (omega arith) ∙ sym (not_come (has_after (length old) mask) (went_on span event (slot_at old (length old))) (none (length old) inner (omega arith)))
        ]
        ∙ sym (done_from k (omega arith))
  ] where
    or_none : (x : Option (List OrderKey)) → found_or x None ≡ x
    or_none None = refl
    or_none (Some c) = refl

  pub completed_at_end : (n : ℕ) → 1 ≤ n → n ≤ suc (length old) → ((i : ℕ) → 1 ≤ i → i < n → has_after i mask ≡ false)
      → completed_from n ≡ chain_in (coming_to span event mask old (suc (length old)))
  completed_at_end n from most none = elim (cases_lt n (suc (length old))) [
    | inl less ↦ done_from n less
    | inr whole ↦ none_yet n (omega arith) ∙ sym (last old (omega arith))
  ] where
    last : (slots : List (Option (Sequence T))) → length slots < n → chain_in (coming_to span event mask slots (suc (length slots))) ≡ None
    last [] l = ap chain_in (both_none (has_after 0 mask))
    last (s ∷ slots) l = not_come (has_after (suc (length slots)) mask) (went_on span event (slot_at (s ∷ slots) (suc (length slots)))) (none (suc (length slots)) (omega arith) l)

pub or_is : {X : Type 0} (x y : Option X) → option_or x y ≡ found_or x y
or_is None y = refl
or_is (Some a) y = refl
