-- Lists of lists in two parts.
use Rattle.std.proofs.Common.{◌≡◌, ◌∙◌, Bool, true, false, cond, List, [], ◌∷◌, ◌++◌, take, drop, Some, ℕ, refl, sym, ap, subst}
use Rattle.std.specs.Prelude.{All, ◌||◌, is_some}
use Rattle.std.specs.List.{find}
use Rattle.std.specs.Cmp.{IsTotalOrder}
use Rattle.std.specs.Ordering.{eq_by_cmp}
use Rattle.std.specs.declared.cmp.Ordering.{Ordering}
use Rattle.std.specs.declared.cmp.Ordering.TheVariants.{Equal}
use Rattle.std.proofs.lemmas.List.{append_assoc, take-append-drop}
use Rattle.std.proofs.lemmas.List.Folds.{list_any-append}
use Rattle.std.proofs.lemmas.List.Elements.{All-nil, All-cons, All-head, All-tail}
use Rattle.eql_values.specs.Ordered.{found_or}
use Rattle.eql_laws.specs.Apart.{joined_lists, has_key}
use Rattle.eql_laws.proofs.Facts.{is_equal}
use Rattle.eql_merge.specs.Ranks.{Ascends, HaveNoTie, HaveNoTies, IsOfOneRank, HaveSameFirsts}
use Rattle.eql_laws.specs.Apart.{SharesNoKey}

pub joined-append : {X : Type 0} (a b : List (List X)) → joined_lists (a ++ b) ≡ joined_lists a ++ joined_lists b
joined-append [] b = refl
joined-append {X} (xs ∷ a) b = ap (λ (rest : List X). xs ++ rest) (joined-append a b) ∙ sym (append_assoc xs (joined_lists a) (joined_lists b))

module _ {X : Type 0} (R : X → X → Ordering) where
  abbrev pub has : X → List X → Bool
  has = has_key R (λ (x : X). x)

  abbrev pub NoTieWith : List X → List (List X) → Type 0
  NoTieWith = SharesNoKey R (λ (x : X). x)

  pub has-append : (k : X) (a b : List X) → has k (a ++ b) ≡ (has k a || has k b)
  has-append k a b = list_any-append (λ (x : X). eq_by_cmp R k x) a b

  neither : (a b : Bool) → a ≡ false → b ≡ false → (a || b) ≡ false
  neither true b e f = cc
  neither false b e f = f

  -- a list apart from each of several is apart from them joined
  pub apart_joined : (a : List X) (b : List (List X)) → NoTieWith a b → HaveNoTie R a (joined_lists b)
  apart_joined a [] h k e = refl
  apart_joined a (xs ∷ b) h k e = has-append k xs (joined_lists b) ∙ neither (has k xs) (has k (joined_lists b)) (h.0 k e) (apart_joined a b h.1 k e)

  pub apart_parts : (a : List X) (b c : List (List X)) → NoTieWith a (b ++ c) → NoTieWith a b × NoTieWith a c
  apart_parts a [] c h = (tt, h)
  apart_parts a (xs ∷ b) c h = let rest = apart_parts a b c h.1 in ((h.0, rest.0), rest.1)

  either_list : (xs : List X) (a b : List (List X)) → HaveNoTie R xs (joined_lists b) → HaveNoTie R (joined_lists a) (joined_lists b) → HaveNoTie R (joined_lists (xs ∷ a)) (joined_lists b)
  either_list xs a b h g k e = go (has k xs) refl
    where
      go : (c : Bool) → has k xs ≡ c → has k (joined_lists b) ≡ false
      go true is = h k is
      go false is = g k (ap (λ (d : Bool). d || has k (joined_lists a)) (sym is) ∙ sym (has-append k xs (joined_lists a)) ∙ e)

  pub record AreApart (a b : List (List X)) : Type 0 where
    pub earlier : HaveNoTies R a
    pub later : HaveNoTies R b
    pub both : HaveNoTie R (joined_lists a) (joined_lists b)

  pub split_apart : (a b : List (List X)) → HaveNoTies R (a ++ b) → AreApart a b
  split_apart [] b h = record { earlier = tt; later = h; both = λ k e. cc }
  split_apart (xs ∷ a) b h =
      let rest = split_apart a b h.1 in
      let from = apart_parts xs a b h.0 in
      record { earlier = (from.0, rest.earlier); later = rest.later; both = either_list xs a b (apart_joined xs b from.1) rest.both }

  all_first : (a b : List (List X)) → All (Ascends R) (a ++ b) → All (Ascends R) a
  all_first [] b h = All-nil (Ascends R)
  all_first (xs ∷ a) b h = All-cons (Ascends R) xs a (All-head (Ascends R) xs (a ++ b) h) (all_first a b (All-tail (Ascends R) xs (a ++ b) h))

  pub all_last : (a b : List (List X)) → All (Ascends R) (a ++ b) → All (Ascends R) b
  all_last [] b h = h
  all_last (xs ∷ a) b h = all_last a b (All-tail (Ascends R) xs (a ++ b) h)

  pub record PartsStand (n : ℕ) (lists : List (List X)) : Type 0 where
    pub earlier_ascend : All (Ascends R) (take n lists)
    pub later_ascend : All (Ascends R) (drop n lists)
    pub apart : AreApart (take n lists) (drop n lists)

  pub parts_stand : (n : ℕ) (lists : List (List X)) → All (Ascends R) lists → HaveNoTies R lists → PartsStand n lists
  parts_stand n lists up h =
      let whole : All (Ascends R) (take n lists ++ drop n lists) = subst (All (Ascends R)) (sym (take-append-drop n lists)) up in
      record {
        earlier_ascend = all_first (take n lists) (drop n lists) whole;
        later_ascend = all_last (take n lists) (drop n lists) whole;
        apart = split_apart (take n lists) (drop n lists) (subst (HaveNoTies R) (sym (take-append-drop n lists)) h);
      }

  -- what is found in two lists
  pub find-both : (test : X → Bool) (xs ys : List X) → find test (xs ++ ys) ≡ found_or (find test xs) (find test ys)
  find-both test [] ys = refl
  find-both test (x ∷ xs) ys = one (test x) (find-both test xs ys)
    where
      one : (b : Bool) → find test (xs ++ ys) ≡ found_or (find test xs) (find test ys)
          → cond b (Some x) (find test (xs ++ ys)) ≡ found_or (cond b (Some x) (find test xs)) (find test ys)
      one true e = refl
      one false e = e

  module _ (total : IsTotalOrder R) where
    ties : (o p : Ordering) → o ≡ Equal → p ≡ Equal → o ≡ p
    ties o p e f = e ∙ sym f

    -- the values of one rank
    of_rank : (k : X) → IsOfOneRank R (λ (x : X). eq_by_cmp R k x)
    of_rank k x y p q = sym (total.congr k x y (is_equal (R k x) p)) ∙ is_equal (R k y) q

    has_found : (k : X) (xs : List X) → has k xs ≡ is_some (find (λ (x : X). eq_by_cmp R k x) xs)
    has_found k [] = refl
    has_found k (x ∷ xs) = one (eq_by_cmp R k x) (has_found k xs)
      where
        one : (b : Bool) → has k xs ≡ is_some (find (λ (x : X). eq_by_cmp R k x) xs) → (b || has k xs) ≡ is_some (cond b (Some x) (find (λ (x : X). eq_by_cmp R k x) xs))
        one true e = refl
        one false e = e

    same_ranks : (k : X) (xs ys : List X) → HaveSameFirsts R xs ys → has k ys ≡ has k xs
    same_ranks k xs ys same = has_found k ys ∙ ap is_some (sym (same (λ (x : X). eq_by_cmp R k x) (of_rank k))) ∙ sym (has_found k xs)

    pub merged_apart : (a b earlier later : List X) → HaveNoTie R a b → HaveSameFirsts R a earlier → HaveSameFirsts R b later → HaveNoTie R earlier later
    merged_apart a b earlier later apart p q k there = same_ranks k b later q ∙ apart k (sym (same_ranks k a earlier p) ∙ there)
