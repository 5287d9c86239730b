-- Entries that are taken off the list, one by one.
use Rattle.std.proofs.Common.{◌≡◌, ◌≢◌, zero, suc, List, [], ◌∷◌, ◌++◌, length, refl, sym, ap, ◌∙◌, subst, arith, ◌≤ℤ◌, Option, Some, None}
use Rattle.std.specs.Prelude.{All, MatchOption}
use Rattle.std.specs.List.Sorted.{IsPermutation}
use Rattle.std.proofs.lemmas.List.Sorted.{Contains-permutation}
use Rattle.std.specs.List.{Contains}
use Rattle.std.proofs.lemmas.List.{append_assoc}
use Rattle.std.proofs.lemmas.List.Elements.{All-head, All-tail, All-cons, All-contains, All-contains_itself, Contains-append_left, Contains-push}
use Rattle.eql_span_list.specs.declared.node.Ticket.{Ticket}
use Rattle.eql_span_list.specs.Entries.{Names, HasTicket, HoldsAtTicket, IsAbsent, KeepsOthers}
use Rattle.eql_part.specs.declared.listing.Start.{Start}
use Rattle.eql_part.specs.Links.{Listed, Differ, TimesAscend, IsWithout, IsOneOf}
use Rattle.eql_part.proofs.Naming.{names_apart}
use Rattle.eql_part.proofs.Differing.{differ_across}
use Rattle.eql_part.proofs.Tagging.{gone_count}

-- each of a list but for one of them is after the other
all_apart : (P : Listed → Type 0) (xs : List Listed) (e : Listed) (ys : List Listed) → All P (xs ++ e ∷ ys) → All P (xs ++ ys)
all_apart P [] e ys h = All-tail P e ys h
all_apart P (x ∷ xs) e ys h = All-cons P x (xs ++ ys) (All-head P x (xs ++ e ∷ ys) h) (all_apart P xs e ys (All-tail P x (xs ++ e ∷ ys) h))

-- the first timestamps of a list without one entry still ascend
pub ascend_apart : (xs : List Listed) (e : Listed) (ys : List Listed) → TimesAscend (xs ++ e ∷ ys) → TimesAscend (xs ++ ys)
ascend_apart [] e ys h = h.1
ascend_apart (x ∷ xs) e ys h = (all_apart (λ (f : Listed). x.1.time ≤ℤ f.1.time) xs e ys h.0, ascend_apart xs e ys h.1)

-- nothing was taken off
pub without_none : (list : List Listed) → IsWithout list [] list
without_none list = record {
  was = λ t start h. h;
  left = λ t start h c. let in' = c.1 in absurd (omega arith);
  stays = λ t start h none. h;
  order = λ h. h;
}

-- one more was taken off
module _ (first list after : List Listed) (gone rest done : List Ticket) (t : Ticket) (start : Start) (differ : Differ gone) (is : gone ≡ (rest ++ t ∷ []) ++ done)
    (without : IsWithout first done list) (listed : All (HasTicket list) (rest ++ t ∷ [])) (taken : HoldsAtTicket list t (λ xs x ys. (after ≡ xs ++ ys) × (start ≡ x)))
    (absent : IsAbsent after t) (others : KeepsOthers list after t) where
  here : HasTicket list t
  here = All-contains (HasTicket list) (rest ++ t ∷ []) t listed (Contains-push rest t)

  pub one_named : IsOneOf (t ∷ done) first start
  one_named =
      let out = taken here.1.0 here.0 here.1.1 here.1.2 in
      (t, (0, omega arith, refl), subst (Names first t) (sym out.1) (without.was t here.0 here.1))

  pub one_parts : gone ≡ rest ++ t ∷ done
  one_parts = is ∙ append_assoc rest (t ∷ []) done

  not_same : (u : Ticket) → (Contains (t ∷ done) u → ⊥) → u ≢ t
  not_same u none e = none (0, omega arith, sym e)

  more : (u : Ticket) → Contains done u → Contains (t ∷ done) u
  more u c = let in' = c.1 in (suc c.0, omega arith, c.2)

  pub one_without : IsWithout first (t ∷ done) after
  one_without =
      let out = taken here.1.0 here.0 here.1.1 here.1.2 in
      record {
        was = λ u x h. without.was u x (was_here u x h);
        left = λ u x h c. gone_now u x h c;
        stays = λ u x h none. others u x (not_same u none) (without.stays u x h (λ c. none (more u c)));
        order = λ h. subst TimesAscend (sym out.0) (ascend_apart here.1.0 (t, here.0) here.1.1 (subst TimesAscend here.1.2 (without.order h)));
      }
    where
      was_here : (u : Ticket) (x : Start) → Names after u x → Names list u x
      was_here u x h =
          let out = taken here.1.0 here.0 here.1.1 here.1.2 in
          subst (λ (l : List Listed). Names l u x) (sym here.1.2) (names_apart here.1.0 (t, here.0) here.1.1 u x (subst (λ (l : List Listed). Names l u x) out.0 h))

      gone_now : (u : Ticket) (x : Start) → Names after u x → Contains (t ∷ done) u → ⊥
      gone_now u x h (zero, l, e) = let h' = subst (λ (v : Ticket). Names after v x) (sym e) h in absent h'.0 x h'.1 h'.2
      gone_now u x h (suc k, l, e) = without.left u x (was_here u x h) (k, omega arith, e)

  pub one_listed : All (HasTicket after) rest
  one_listed = each rest (λ u c. let has = All-contains (HasTicket list) (rest ++ t ∷ []) u listed (Contains-append_left rest (t ∷ []) u c) in
      (has.0, others u has.0 (λ same. differ_across rest (t ∷ done) (subst Differ one_parts differ) t (subst (Contains rest) same c) (0, omega arith, refl)) has.1))
    where
      each : (us : List Ticket) → ((u : Ticket) → Contains us u → HasTicket after u) → All (HasTicket after) us
      each us gives k d l = gives _ (All-contains_itself us k d l)

-- where something is gone, what is left is fewer, and what is gone named something before
pub one_before : (gone now before : List Ticket) (list : List Listed) (last : Option Start) → IsPermutation (gone ++ now) before → MatchOption last (gone ≡ []) (λ start. IsOneOf gone list start)
    → MatchOption last (length now ≡ length before) (λ start. IsOneOf before list start)
one_before gone now before list None moves none = let count = gone_count gone now before moves in let all = ap length none in omega arith
one_before gone now before list (Some start) moves one = (one.0, Contains-permutation (gone ++ now) before one.0 moves (Contains-append_left gone now one.0 one.1), one.2)
