-- What all parts find and hold, put together, is what is found and held of all keys.
use Rattle.std.proofs.Common.{◌≡◌, ℕ, zero, suc, ◌<◌, ℤ, Bool, true, false, cond, List, [], ◌∷◌, ◌++◌, map, Option, refl, ap, sym, subst, ◌∙◌, arith}
use Rattle.std.specs.Prelude.{◌==◌, nat_lt, filter, All, IsPermutation}
use Rattle.std.specs.List.{flat_map}
use Rattle.std.proofs.lemmas.Bool.Decides.{nat_tests}
use Rattle.std.proofs.lemmas.Grind.{flat_map-append}
use Rattle.std.proofs.lemmas.List.{append-nil}
use Rattle.std.proofs.lemmas.List.Elements.{All-nil, All-cons, All-filter}
use Rattle.std.proofs.lemmas.List.Sorted.{IsPermutation-refl, IsPermutation-trans, IsPermutation-cons, IsPermutation-middle, IsPermutation-append_left}
use Rattle.eql_values.specs.declared.value.Value.{Value}
use Rattle.eql_values.specs.declared.item.Item.{Item}
use Rattle.eql_values.specs.declared.found.Match.{Match}
use Rattle.eql_values.specs.declared.found.Holder.{Holder}
use Rattle.eql_values.specs.Ascending.{Ascend}
use Rattle.eql_values.specs.Chains.{in_time}
use Rattle.eql_values.specs.Matching.{matches, after}
use Rattle.eql_values.specs.Ordered.{numbers}
use Rattle.eql_values.specs.Routing.{routed_items}
use Rattle.eql_laws.specs.Alive.{HoldersAreInOrder, alive_holders}
use Rattle.eql_laws.specs.Apart.{joined_lists, AreInMatchOrder, ending_of}
use Rattle.eql_laws.specs.Merging.{Ending, ending_cmp, in_match_order, in_slot_order}
use Rattle.eql_laws.specs.Parts.{holders_in, matches_in, found_by_parts, alive_in, PartsFindAll, PartsGather}
use Rattle.eql_laws.specs.Shapes.{HasStageBefore}
use Rattle.eql_laws.proofs.Aparts.{each_apart, OfKind}
use Rattle.eql_laws.proofs.Elements.{All-passed}
use Rattle.eql_laws.proofs.EventLemmas.{after_none}
use Rattle.eql_laws.proofs.LeftOut.{after_in_order, alive_in_order}
use Rattle.eql_laws.proofs.Lists.{filters_swap}
use Rattle.eql_laws.proofs.Merged.{ending_same, keys_merge, keys_gather, matches_in_order}
use Rattle.eql_laws.proofs.PartMatches.{routed_matches, after_routed}
use Rattle.eql_laws.proofs.PieceLemmas.{routed_pieces}
use Rattle.eql_laws.proofs.Shaping.{after_has_stages}

-- the same of each number below n
each_below : {A : Type 0} (f g : ℕ → List A) (n : ℕ) → ((p : ℕ) → f p ≡ g p) → flat_map f (numbers n) ≡ flat_map g (numbers n)
each_below f g zero h = refl
each_below f g (suc n) h =
    flat_map-append f (numbers n) (n ∷ [])
    ∙ (λ i. each_below f g n h i ++ (h n i ++ []))
    ∙ sym (flat_map-append g (numbers n) (n ∷ []))

joined_each : {A : Type 0} (f : ℕ → List A) (ns : List ℕ) → joined_lists (map f ns) ≡ flat_map f ns
joined_each f [] = refl
joined_each f (n ∷ ns) = ap (λ (l : List _). f n ++ l) (joined_each f ns)

-- values of several kinds, kind by kind
module _ {X : Type 0} (kind : X → ℕ) where
  abbrev of_kind : ℕ → List X → List X
  of_kind n xs = filter (λ x. kind x == n) xs

  abbrev below_kind : ℕ → List X → List X
  below_kind n xs = filter (λ x. nat_lt (kind x) n) xs

  one_more : (k n : ℕ) (b c d : Bool) → nat_lt k n ≡ b → (k == n) ≡ c → nat_lt k (suc n) ≡ d → (xs ys zs : List X) (x : X) → IsPermutation (xs ++ ys) zs
      → IsPermutation (cond b (x ∷ xs) xs ++ cond c (x ∷ ys) ys) (cond d (x ∷ zs) zs)
  one_more k n true true d p q r xs ys zs x h = absurd (grind (arith, nat_tests, p, q))
  one_more k n true false true p q r xs ys zs x h = IsPermutation-cons x (xs ++ ys) zs h
  one_more k n true false false p q r xs ys zs x h = absurd (grind (arith, nat_tests, p, r))
  one_more k n false true true p q r xs ys zs x h =
      IsPermutation-trans (xs ++ x ∷ ys) (x ∷ (xs ++ ys)) (x ∷ zs) (IsPermutation-middle xs x ys) (IsPermutation-cons x (xs ++ ys) zs h)
  one_more k n false true false p q r xs ys zs x h = absurd (grind (arith, nat_tests, q, r))
  one_more k n false false true p q r xs ys zs x h = absurd (grind (arith, nat_tests, p, q, r))
  one_more k n false false false p q r xs ys zs x h = h

  kind_more : (n : ℕ) (xs : List X) → IsPermutation (below_kind n xs ++ of_kind n xs) (below_kind (suc n) xs)
  kind_more n [] = IsPermutation-refl []
  kind_more n (x ∷ xs) =
      one_more (kind x) n (nat_lt (kind x) n) (kind x == n) (nat_lt (kind x) (suc n)) refl refl refl (below_kind n xs) (of_kind n xs) (below_kind (suc n) xs) x (kind_more n xs)

  none_below : (xs : List X) → below_kind 0 xs ≡ []
  none_below [] = refl
  none_below (x ∷ xs) = ap (λ (b : Bool). cond b (x ∷ below_kind 0 xs) (below_kind 0 xs)) (never (kind x)) ∙ none_below xs
    where
      never : (k : ℕ) → nat_lt k 0 ≡ false
      never k = grind (arith, nat_tests)

  all_below : (n : ℕ) → ((x : X) → kind x < n) → (xs : List X) → below_kind n xs ≡ xs
  all_below n h [] = refl
  all_below n h (x ∷ xs) = ap (λ (b : Bool). cond b (x ∷ below_kind n xs) (below_kind n xs)) (within (kind x) (h x)) ∙ ap (λ (l : List X). x ∷ l) (all_below n h xs)
    where
      within : (k : ℕ) → k < n → nat_lt k n ≡ true
      within k lt = grind (arith, nat_tests)

  kinds_below : (n : ℕ) (xs : List X) → IsPermutation (flat_map (λ p. of_kind p xs) (numbers n)) (below_kind n xs)
  kinds_below zero xs = subst (IsPermutation []) (sym (none_below xs)) (IsPermutation-refl [])
  kinds_below (suc n) xs =
      subst (λ (l : List X). IsPermutation l (below_kind (suc n) xs))
      (sym (flat_map-append (λ p. of_kind p xs) (numbers n) (n ∷ []) ∙ ap (λ (l : List X). flat_map (λ p. of_kind p xs) (numbers n) ++ l) (append-nil (of_kind n xs))))
      (IsPermutation-trans (flat_map (λ p. of_kind p xs) (numbers n) ++ of_kind n xs) (below_kind n xs ++ of_kind n xs) (below_kind (suc n) xs)
      (IsPermutation-append_left (of_kind n xs) (flat_map (λ p. of_kind p xs) (numbers n)) (below_kind n xs) (kinds_below n xs)) (kind_more n xs))

  pub kinds_all : (n : ℕ) → ((x : X) → kind x < n) → (xs : List X) → IsPermutation (flat_map (λ p. of_kind p xs) (numbers n)) xs
  kinds_all n h xs = subst (IsPermutation (flat_map (λ p. of_kind p xs) (numbers n))) (all_below n h xs) (kinds_below n xs)

module _ (m : ℕ) (span : Option ℤ) (part : List Value → ℕ) (n : ℕ) (holders : List Holder) (items : List Item)
    (parts : (key : List Value) → part key < n) (up : Ascend items) where
  abbrev found_in : ℕ → List Match
  found_in p = matches m span holders (routed_items part p items)

  abbrev whole : List Match
  whole = matches m span holders items

  joined_is : joined_lists (found_by_parts m span part n holders items) ≡ flat_map found_in (numbers n)
  joined_is = joined_each found_in (numbers n)

  abbrev part_of_ending : Ending → ℕ
  part_of_ending e = part e.1

  is_equal_kind : (a b : ℕ) → (a == b) ≡ true → a ≡ b
  is_equal_kind a b e = grind (arith, nat_tests, e)

  of_part : (p : ℕ) → All (OfKind ending_cmp ending_same ending_of part_of_ending p) (found_in p)
  of_part p =
      subst (All (OfKind ending_cmp ending_same ending_of part_of_ending p)) (sym (routed_matches part p m span holders items))
      (All-passed (λ (f : Match). Unit {0}) (OfKind ending_cmp ending_same ending_of part_of_ending p) (λ (f : Match). part f.key == p)
      (λ f u e. is_equal_kind (part f.key) p e) whole (λ k d lt. tt))

  found_in_order : (p : ℕ) → AreInMatchOrder (found_in p)
  found_in_order p = matches_in_order m span holders (routed_items part p items) ((routed_pieces part p).ascends items up)

  all_in_order : (ns : List ℕ) → All AreInMatchOrder (map found_in ns)
  all_in_order [] = All-nil AreInMatchOrder
  all_in_order (p ∷ ns) = All-cons AreInMatchOrder (found_in p) (map found_in ns) (found_in_order p) (all_in_order ns)

  pub parts_find : Rattle.eql_laws.specs.Parts.PartsFind m span part n holders items
  parts_find = record {
    all = subst (λ (l : List Match). IsPermutation l whole)
        (sym (joined_is ∙ each_below found_in (λ p. matches_in part p whole) n (λ p. routed_matches part p m span holders items)))
        (kinds_all (λ (f : Match). part f.key) n (λ f. parts f.key) whole);
    merged = keys_merge m span part n holders items parts up ∙ ap in_match_order (sym joined_is);
    in_order = all_in_order (numbers n);
    apart = each_apart ending_cmp ending_same ending_of part_of_ending found_in of_part n;
  }

pub parts_find_all : PartsFindAll
parts_find_all m span part n holders items parts up = parts_find m span part n holders items parts up

module _ (m : ℕ) (span : Option ℤ) (t : ℤ) (part : List Value → ℕ) (n : ℕ) (holders : List Holder) (items : List Item) where
  abbrev all : List Holder
  all = after m span holders items

  abbrev living : List Holder
  living = alive_holders span t all

  part_stands : (p : ℕ) → HoldersAreInOrder (holders_in part p all)
  part_stands p = subst HoldersAreInOrder (after_routed part p m span holders items) (after_in_order m span (holders_in part p holders) (routed_items part p items))

  living_stays : after m span living [] ≡ living
  living_stays =
      after_none m span living (alive_in_order span t all (after_in_order m span holders items))
      (All-filter (λ (h : Holder). in_time span h.chain t) (HasStageBefore m) all (after_has_stages m span holders items))

  part_living : (p : ℕ) → alive_in span t part p all ≡ after m span (holders_in part p living) (routed_items part p [])
  part_living p =
      filters_swap (λ (h : Holder). in_time span h.chain t) (λ (h : Holder). part h.key == p) all
      ∙ sym (after_routed part p m span living [] ∙ ap (holders_in part p) living_stays)

pub parts_gather : PartsGather
parts_gather m span t part n holders items parts = record {
  all = ap in_slot_order (each_below (λ p. alive_in span t part p (after m span holders items))
      (λ p. after m span (holders_in part p (alive_holders span t (after m span holders items))) (routed_items part p [])) n (part_living m span t part n holders items))
      ∙ sym (keys_gather m span part n (alive_holders span t (after m span holders items)) [] parts)
      ∙ living_stays m span t part n holders items;
  part_in_order = λ p. alive_in_order span t (holders_in part p (after m span holders items)) (part_stands m span t part n holders items p);
  in_order = alive_in_order span t (after m span holders items) (after_in_order m span holders items);
}
