-- A format reads back what it spells, and reads nothing else.
use Rattle.std.proofs.Common.{◌≡◌, ◌⊎◌, inl, inr, ⊎_elim, ℕ, zero, suc, ◌+◌, ◌-◌, ◌^◌, ◌≤◌, ◌<◌, Bool, true, false, cond, ltb, eqb, List, [], ◌∷◌, ◌++◌, length, take, drop, All, Option, Some, None, IfSome, refl, sym, ◌∙◌, ap, subst, arith, append_assoc, append-nil, length-append}
use Rattle.std.proofs.lemmas.Bool.{ltb-false, le-ltb, eqb-true, cond-true, cond-false, cases_Bool, eq-eqb}
use Rattle.std.proofs.lemmas.List.{take-append-drop, get_or-append-add, length-take-le}
use Rattle.std.proofs.lemmas.List.Elements.{All-head, All-tail, All-cons}
use Rattle.std.proofs.lemmas.Nat.{le_bytes_4, le_bytes_8, from_le_bytes-to_le_bytes_4, from_le_bytes-to_le_bytes_8}
use Rattle.std.specs.Int.{Width, w32, w64, to_le_bytes, from_le_bytes}
use Rattle.std.specs.List.{flat_map}
use Rattle.std.proofs.Math.Seq.{take-append_seam}
use Rattle.eql_cut.specs.Formats.{IsBytes, Format, ◌>>=◌, number, number_text, number_read, both, by, seen_as, only, the_number, option, truth, times, list, so_many, at_end, whole, byte, empty, never, case}

pub rest_is_bytes : (front rest : List ℕ) → IsBytes (front ++ rest) → IsBytes rest
rest_is_bytes front rest all i = subst (λ b. b < 256) (get_or-append-add front rest i 0) (all (length front + i))

tail_is_bytes : (b : ℕ) (rest : List ℕ) → IsBytes (b ∷ rest) → IsBytes rest
tail_is_bytes b rest all i = all (suc i)

pub record Lawful {A : Type 0} (f : Format A) : Type 0 where
  pub again : (a : A) (rest : List ℕ) → f.Fits a → f.read (f.text a ++ rest) ≡ Some (a, rest)
  pub exact : (bytes : List ℕ) (a : A) (rest : List ℕ) → IsBytes bytes → f.read bytes ≡ Some (a, rest) → f.Fits a × (bytes ≡ f.text a ++ rest)

-- what a chain that gave something did
bind_some : {A B : Type 0} (o : Option A) (f : A → Option B) (y : B) → (o >>= f) ≡ Some y → (x : A) × (o ≡ Some x) × (f x ≡ Some y)
bind_some None f y is = absurd (cc)
bind_some (Some x) f y is = (x, refl, is)

pub guard_some : {A : Type 0} (b : Bool) (x y : A) → cond b None (Some x) ≡ Some y → (b ≡ false) × (x ≡ y)
guard_some true x y is = absurd (cc)
guard_some false x y is = (refl, cc)

pass_some : {A : Type 0} (b : Bool) (x y : A) → cond b (Some x) None ≡ Some y → (b ≡ true) × (x ≡ y)
pass_some true x y is = (refl, cc)
pass_some false x y is = absurd (cc)

same_pair : {A B : Type 0} (x : A × B) (a : A) (b : B) → Some x ≡ Some (a, b) → (x.0 ≡ a) × (x.1 ≡ b)
same_pair {A = A} {B = B} x a b is = let e : x ≡ (a, b) = cc in (ap (λ (p : A × B). p.0) e, ap (λ (p : A × B). p.1) e)

pub front_is_bytes : (n : ℕ) (bytes : List ℕ) → IsBytes bytes → IsBytes (take n bytes)
front_is_bytes zero bytes all i = omega arith
front_is_bytes (suc n) [] all i = omega arith
front_is_bytes (suc n) (b ∷ bytes) all zero = all zero
front_is_bytes (suc n) (b ∷ bytes) all (suc i) = front_is_bytes n bytes (λ k. all (suc k)) i

bound_8 : (x : List ℕ) → IsBytes x → from_le_bytes w64 x < 2 ^ 64
bound_8 x all = omega (arith, all 0, all 1, all 2, all 3, all 4, all 5, all 6, all 7)

bound_4 : (x : List ℕ) → IsBytes x → from_le_bytes w32 x < 2 ^ 32
bound_4 x all = omega (arith, all 0, all 1, all 2, all 3)

joined : (a b c d : List ℕ) → a ≡ b → c ≡ d → a ++ c ≡ b ++ d
joined a b c d p q = λ i. p i ++ q i

-- numbers of eight bytes and of four
pub eight : Lawful (number w64)
unfolding number_text number_read
eight = record {
  again = λ n rest fits.
      cond-false (ltb (length (to_le_bytes w64 n ++ rest)) 8) None (Some (from_le_bytes w64 (to_le_bytes w64 n), rest)) (le-ltb (length (to_le_bytes w64 n ++ rest)) 8 (omega arith))
      ∙ ap (λ m. Some (m, rest)) (from_le_bytes-to_le_bytes_8 n fits);
  exact = λ bytes n rest all is.
      let g = guard_some (ltb (length bytes) 8) (from_le_bytes w64 (take 8 bytes), drop 8 bytes) (n, rest) is in
      let long : 8 ≤ length bytes = ltb-false (length bytes) 8 g.0 in
      let value : from_le_bytes w64 (take 8 bytes) ≡ n = ap (λ (p : ℕ × List ℕ). p.0) g.1 in
      let behind : drop 8 bytes ≡ rest = ap (λ (p : ℕ × List ℕ). p.1) g.1 in
      let small : IsBytes (take 8 bytes) = front_is_bytes 8 bytes all in
      let back : to_le_bytes w64 n ≡ take 8 bytes = le_bytes_8 (take 8 bytes) n (length-take-le 8 bytes long) small (sym value) in
      (subst (λ m. m < 2 ^ 64) value (bound_8 (take 8 bytes) small), sym (take-append-drop 8 bytes) ∙ joined (take 8 bytes) (to_le_bytes w64 n) (drop 8 bytes) rest (sym back) behind);
}

pub four : Lawful (number w32)
unfolding number_text number_read
four = record {
  again = λ n rest fits.
      cond-false (ltb (length (to_le_bytes w32 n ++ rest)) 4) None (Some (from_le_bytes w32 (to_le_bytes w32 n), rest)) (le-ltb (length (to_le_bytes w32 n ++ rest)) 4 (omega arith))
      ∙ ap (λ m. Some (m, rest)) (from_le_bytes-to_le_bytes_4 n fits);
  exact = λ bytes n rest all is.
      let g = guard_some (ltb (length bytes) 4) (from_le_bytes w32 (take 4 bytes), drop 4 bytes) (n, rest) is in
      let long : 4 ≤ length bytes = ltb-false (length bytes) 4 g.0 in
      let value : from_le_bytes w32 (take 4 bytes) ≡ n = ap (λ (p : ℕ × List ℕ). p.0) g.1 in
      let behind : drop 4 bytes ≡ rest = ap (λ (p : ℕ × List ℕ). p.1) g.1 in
      let small : IsBytes (take 4 bytes) = front_is_bytes 4 bytes all in
      let back : to_le_bytes w32 n ≡ take 4 bytes = le_bytes_4 (take 4 bytes) n (length-take-le 4 bytes long) small (sym value) in
      (subst (λ m. m < 2 ^ 32) value (bound_4 (take 4 bytes) small), sym (take-append-drop 4 bytes) ∙ joined (take 4 bytes) (to_le_bytes w32 n) (drop 4 bytes) rest (sym back) behind);
}

module _ {A B : Type 0} (f : Format A) (g : A → Format B) (lf : Lawful f) (lg : (a : A) → Lawful (g a)) where
  by_again : (x : A × B) (rest : List ℕ) → (by f g).Fits x → (by f g).read ((by f g).text x ++ rest) ≡ Some (x, rest)
  by_again x rest fits =
      ap (λ l. (by f g).read l) (append_assoc (f.text x.0) ((g x.0).text x.1) rest)
      ∙ ap (λ (o : Option (A × List ℕ)). o >>= λ y. (g y.0).read y.1 >>= λ z. Some ((y.0, z.0), z.1)) (lf.again x.0 ((g x.0).text x.1 ++ rest) fits.0)
      ∙ ap (λ (o : Option (B × List ℕ)). o >>= λ z. Some ((x.0, z.0), z.1)) ((lg x.0).again x.1 rest fits.1)

  by_exact : (bytes : List ℕ) (x : A × B) (rest : List ℕ) → IsBytes bytes → (by f g).read bytes ≡ Some (x, rest) → (by f g).Fits x × (bytes ≡ (by f g).text x ++ rest)
  by_exact bytes x rest all is =
      let one = bind_some (f.read bytes) (λ y. (g y.0).read y.1 >>= λ z. Some ((y.0, z.0), z.1)) (x, rest) is in
      let y = one.0 in
      let two = bind_some ((g y.0).read y.1) (λ z. Some ((y.0, z.0), z.1)) (x, rest) one.2 in
      let z = two.0 in
      let ends = same_pair ((y.0, z.0), z.1) x rest two.2 in
      let first = lf.exact bytes y.0 y.1 all one.1 in
      let second = (lg y.0).exact y.1 z.0 z.1 (rest_is_bytes (f.text y.0) y.1 (subst IsBytes first.1 all)) two.1 in
      let spelt : bytes ≡ (f.text y.0 ++ (g y.0).text z.0) ++ z.1 = first.1 ∙ ap (λ l. f.text y.0 ++ l) second.1 ∙ sym (append_assoc (f.text y.0) ((g y.0).text z.0) z.1) in (
        subst (λ (p : A × B). f.Fits p.0 × (g p.0).Fits p.1) ends.0 (first.0, second.0),
        spelt ∙ joined (f.text y.0 ++ (g y.0).text z.0) ((by f g).text x) z.1 rest (ap (by f g).text ends.0) ends.1,
      )

  pub by_lawful : Lawful (by f g)
  by_lawful = record { again = by_again; exact = by_exact }

pub both_lawful : {A B : Type 0} (f : Format A) (g : Format B) → Lawful f → Lawful g → Lawful (both f g)
both_lawful {A = A} f g lf lg = let l = by_lawful f (λ (a : A). g) lf (λ a. lg) in record { again = l.again; exact = l.exact }

module _ {A B : Type 0} (to : A → B) (from : B → A) (f : Format A) (lf : Lawful f) (back : (a : A) → f.Fits a → from (to a) ≡ a) where
  as_exact : (bytes : List ℕ) (b : B) (rest : List ℕ) → IsBytes bytes → (seen_as to from f).read bytes ≡ Some (b, rest) → (seen_as to from f).Fits b × (bytes ≡ (seen_as to from f).text b ++ rest)
  as_exact bytes b rest all is =
      let one = bind_some (f.read bytes) (λ x. Some (to x.0, x.1)) (b, rest) is in
      let x = one.0 in
      let ends = same_pair (to x.0, x.1) b rest one.2 in
      let first = lf.exact bytes x.0 x.1 all one.1 in
      let same : from b ≡ x.0 = ap from (sym ends.0) ∙ back x.0 first.0 in (
        (subst f.Fits (sym same) first.0, ap to same ∙ ends.0),
        first.1 ∙ joined (f.text x.0) (f.text (from b)) x.1 rest (ap f.text (sym same)) ends.1,
      )

  pub as_lawful : Lawful (seen_as to from f)
  as_lawful = record {
    again = λ b rest fits. ap (λ (o : Option (A × List ℕ)). o >>= λ x. Some (to x.0, x.1)) (lf.again (from b) rest fits.0) ∙ ap (λ c. Some (c, rest)) fits.1;
    exact = as_exact;
  }

module _ {A : Type 0} (test : A → Bool) (f : Format A) (lf : Lawful f) where
  only_exact : (bytes : List ℕ) (a : A) (rest : List ℕ) → IsBytes bytes → (only test f).read bytes ≡ Some (a, rest) → (only test f).Fits a × (bytes ≡ (only test f).text a ++ rest)
  only_exact bytes a rest all is =
      let one = bind_some (f.read bytes) (λ x. cond (test x.0) (Some x) None) (a, rest) is in
      let x = one.0 in
      let pass = pass_some (test x.0) x (a, rest) one.2 in
      let value : x.0 ≡ a = ap (λ (p : A × List ℕ). p.0) pass.1 in
      let first = lf.exact bytes a rest all (one.1 ∙ ap Some pass.1) in
      ((first.0, ap test (sym value) ∙ pass.0), first.1)

  pub only_lawful : Lawful (only test f)
  only_lawful = record {
    again = λ a rest fits. ap (λ (o : Option (A × List ℕ)). o >>= λ x. cond (test x.0) (Some x) None) (lf.again a rest fits.0) ∙ cond-true (test a) (Some (a, rest)) None fits.1;
    exact = only_exact;
  }

pub the_number_lawful : (w : Width) (n : ℕ) → Lawful (number w) → Lawful (the_number w n)
the_number_lawful w n lw = as_lawful (λ (m : ℕ). tt) (λ u. n) (only (λ m. eqb m n) (number w)) (only_lawful (λ m. eqb m n) (number w) lw) (λ m fits. sym (eqb-true m n fits.1))

module _ {A : Type 0} (f : Format A) (lf : Lawful f) where
  abbrev some_read : List ℕ → Option (Option A × List ℕ)
  some_read bytes = f.read bytes >>= λ x. Some (Some x.0, x.1)

  option_again : (o : Option A) (rest : List ℕ) → (option f).Fits o → (option f).read ((option f).text o ++ rest) ≡ Some (o, rest)
  option_again None rest fits = refl
  option_again (Some a) rest fits = ap (λ (o : Option (A × List ℕ)). o >>= λ x. Some (Some x.0, x.1)) (lf.again a rest fits)

  option_exact : (bytes : List ℕ) (o : Option A) (rest : List ℕ) → IsBytes bytes → (option f).read bytes ≡ Some (o, rest) → (option f).Fits o × (bytes ≡ (option f).text o ++ rest)
  option_exact [] o rest all is = absurd (cc)
  option_exact (tag ∷ bytes) o rest all is = ⊎_elim
      (λ (zero_ : eqb tag 0 ≡ true).
      let e : Some (None, bytes) ≡ Some (o, rest) = sym (cond-true (eqb tag 0) (Some (None, bytes)) (cond (eqb tag 1) (some_read bytes) None) zero_) ∙ is in
      none (eqb-true tag 0 zero_) (same_pair (None, bytes) o rest e).0 (same_pair (None, bytes) o rest e).1)
      (λ (more : eqb tag 0 ≡ false). ⊎_elim
      (λ (one : eqb tag 1 ≡ true). some (eqb-true tag 1 one) (sym (cond-true (eqb tag 1) (some_read bytes) None one) ∙ sym (cond-false (eqb tag 0) (Some (None, bytes)) (cond (eqb tag 1) (some_read bytes) None) more) ∙ is))
      (λ (other : eqb tag 1 ≡ false). let e : None ≡ Some (o, rest) = sym (cond-false (eqb tag 1) (some_read bytes) None other) ∙ sym (cond-false (eqb tag 0) (Some (None, bytes)) (cond (eqb tag 1) (some_read bytes) None) more) ∙ is in absurd (cc))
      (cases_Bool (eqb tag 1)))
      (cases_Bool (eqb tag 0))
    where
      none : tag ≡ 0 → None ≡ o → bytes ≡ rest → (option f).Fits o × (tag ∷ bytes ≡ (option f).text o ++ rest)
      none t v r = (subst (λ (x : Option A). IfSome x f.Fits) v tt, (λ i. t i ∷ r i) ∙ ap (λ (x : Option A). (option f).text x ++ rest) v)

      some : tag ≡ 1 → some_read bytes ≡ Some (o, rest) → (option f).Fits o × (tag ∷ bytes ≡ (option f).text o ++ rest)
      some t read =
          let one = bind_some (f.read bytes) (λ x. Some (Some x.0, x.1)) (o, rest) read in
          let x = one.0 in
          let ends = same_pair (Some x.0, x.1) o rest one.2 in
          let first = lf.exact bytes x.0 x.1 (tail_is_bytes tag bytes all) one.1 in
          (subst (λ (y : Option A). IfSome y f.Fits) ends.0 first.0, (λ i. t i ∷ (first.1 ∙ ap (λ l. f.text x.0 ++ l) ends.1) i) ∙ ap (λ (y : Option A). (option f).text y ++ rest) ends.0)

  pub option_lawful : Lawful (option f)
  option_lawful = record { again = option_again; exact = option_exact }

  times_again : (xs : List A) (rest : List ℕ) → All f.Fits xs → times f.read (length xs) (flat_map f.text xs ++ rest) ≡ Some (xs, rest)
  times_again [] rest fits = refl
  times_again (x ∷ xs) rest fits =
      ap (λ l. times f.read (suc (length xs)) l) (append_assoc (f.text x) (flat_map f.text xs) rest)
      ∙ ap (λ (o : Option (A × List ℕ)). o >>= λ y. times f.read (length xs) y.1 >>= λ z. Some (y.0 ∷ z.0, z.1)) (lf.again x (flat_map f.text xs ++ rest) (All-head f.Fits x xs fits))
      ∙ ap (λ (o : Option (List A × List ℕ)). o >>= λ z. Some (x ∷ z.0, z.1)) (times_again xs rest (All-tail f.Fits x xs fits))

  times_exact : (n : ℕ) (bytes : List ℕ) (xs : List A) (rest : List ℕ) → IsBytes bytes → times f.read n bytes ≡ Some (xs, rest) → (length xs ≡ n) × All f.Fits xs × (bytes ≡ flat_map f.text xs ++ rest)
  times_exact zero bytes xs rest all is =
      let ends = same_pair ([], bytes) xs rest is in
      (ap length (sym ends.0), subst (All f.Fits) ends.0 (λ k d lt. absurd (omega arith)), ends.1 ∙ ap (λ l. flat_map f.text l ++ rest) ends.0)
  times_exact (suc n) bytes xs rest all is =
      let one = bind_some (f.read bytes) (λ x. times f.read n x.1 >>= λ y. Some (x.0 ∷ y.0, y.1)) (xs, rest) is in
      let x = one.0 in
      let two = bind_some (times f.read n x.1) (λ y. Some (x.0 ∷ y.0, y.1)) (xs, rest) one.2 in
      let y = two.0 in
      let ends = same_pair (x.0 ∷ y.0, y.1) xs rest two.2 in
      let first = lf.exact bytes x.0 x.1 all one.1 in
      let others = times_exact n x.1 y.0 y.1 (rest_is_bytes (f.text x.0) x.1 (subst IsBytes first.1 all)) two.1 in
      let spelt : bytes ≡ flat_map f.text (x.0 ∷ y.0) ++ y.1 = first.1 ∙ ap (λ l. f.text x.0 ++ l) others.2 ∙ sym (append_assoc (f.text x.0) (flat_map f.text y.0) y.1) in (
        ap length (sym ends.0) ∙ ap suc others.0,
        subst (All f.Fits) ends.0 (All-cons f.Fits x.0 y.0 first.0 others.1),
        spelt ∙ joined (flat_map f.text (x.0 ∷ y.0)) (flat_map f.text xs) y.1 rest (ap (flat_map f.text) ends.0) ends.1,
      )

  so_many_again : (n : ℕ) (xs : List A) (rest : List ℕ) → (so_many n f).Fits xs → times f.read n (flat_map f.text xs ++ rest) ≡ Some (xs, rest)
  so_many_again n xs rest fits = ap (λ k. times f.read k (flat_map f.text xs ++ rest)) (sym fits.0) ∙ times_again xs rest fits.1

  pub so_many_lawful : (n : ℕ) → Lawful (so_many n f)
  so_many_lawful n = record { again = so_many_again n; exact = λ bytes xs rest all is. let e = times_exact n bytes xs rest all is in ((e.0, e.1), e.2) }

  list_exact : (bytes : List ℕ) (xs : List A) (rest : List ℕ) → IsBytes bytes → (list f).read bytes ≡ Some (xs, rest) → (list f).Fits xs × (bytes ≡ (list f).text xs ++ rest)
  list_exact bytes xs rest all is =
      let one = bind_some (number_read w64 bytes) (λ n. times f.read n.0 n.1) (xs, rest) is in
      let n = one.0 in
      let first = eight.exact bytes n.0 n.1 all one.1 in
      let others = times_exact n.0 n.1 xs rest (rest_is_bytes (number_text w64 n.0) n.1 (subst IsBytes first.1 all)) one.2 in (
        (subst (λ k. k < 2 ^ 64) (sym others.0) first.0, others.1),
        first.1 ∙ joined (number_text w64 n.0) (number_text w64 (length xs)) n.1 (flat_map f.text xs ++ rest) (ap (number_text w64) (sym others.0)) others.2 ∙ sym (append_assoc (number_text w64 (length xs)) (flat_map f.text xs) rest),
      )

  pub list_lawful : Lawful (list f)
  list_lawful = record {
    again = λ xs rest fits.
        ap (list f).read (append_assoc (number_text w64 (length xs)) (flat_map f.text xs) rest)
        ∙ ap (λ (o : Option (ℕ × List ℕ)). o >>= λ n. times f.read n.0 n.1) (eight.again (length xs) (flat_map f.text xs ++ rest) fits.0)
        ∙ times_again xs rest fits.1;
    exact = list_exact;
  }

  -- what was read is in front of what is left
  pub read_front : (bytes : List ℕ) (a : A) (rest : List ℕ) → IsBytes bytes → f.read bytes ≡ Some (a, rest) → (length rest ≤ length bytes) × (take (length bytes - length rest) bytes ≡ f.text a)
  read_front bytes a rest all is =
      let spelt : bytes ≡ f.text a ++ rest = (lf.exact bytes a rest all is).1 in
      let counted : length bytes ≡ length (f.text a) + length rest = ap length spelt ∙ length-append (f.text a) rest in
      let front : length bytes - length rest ≡ length (f.text a) = omega (arith, counted) in
      (omega (arith, counted), ap (λ n. take n bytes) front ∙ ap (take (length (f.text a))) spelt ∙ take-append_seam (f.text a) rest)

  -- a value is read of all bytes exactly when they are its spelling
  pub whole_again : (a : A) (bytes : List ℕ) → f.Fits a → bytes ≡ f.text a → whole f bytes ≡ Some a
  whole_again a bytes fits is =
      ap (whole f) (is ∙ sym (append-nil (f.text a))) ∙ ap (λ (o : Option (A × List ℕ)). o >>= λ x. at_end x.0 x.1) (lf.again a [] fits)

  at_end_some : (a b : A) (rest : List ℕ) → at_end a rest ≡ Some b → (a ≡ b) × (rest ≡ [])
  at_end_some a b [] is = (cc, refl)
  at_end_some a b (c ∷ rest) is = absurd (cc)

  pub whole_exact : (a : A) (bytes : List ℕ) → IsBytes bytes → whole f bytes ≡ Some a → f.Fits a × (bytes ≡ f.text a)
  whole_exact a bytes all is =
      let one = bind_some (f.read bytes) (λ x. at_end x.0 x.1) a is in
      let x = one.0 in
      let ends = at_end_some x.0 a x.1 one.2 in
      let first = lf.exact bytes x.0 x.1 all one.1 in
      (subst f.Fits ends.0 first.0, first.1 ∙ joined (f.text x.0) (f.text a) x.1 [] (ap f.text ends.0) ends.1 ∙ append-nil (f.text a))

-- truth values
truth_exact : (bytes : List ℕ) (b : Bool) (rest : List ℕ) → IsBytes bytes → truth.read bytes ≡ Some (b, rest) → Unit {0} × (bytes ≡ truth.text b ++ rest)
truth_exact [] b rest all is = absurd (cc)
truth_exact (tag ∷ bytes) b rest all is = (
  tt,
  ⊎_elim
      (λ (zero_ : eqb tag 0 ≡ true).
      let ends = same_pair (false, bytes) b rest (sym (cond-true (eqb tag 0) (Some (false, bytes)) (cond (eqb tag 1) (Some (true, bytes)) None) zero_) ∙ is) in
      (λ i. eqb-true tag 0 zero_ i ∷ ends.1 i) ∙ ap (λ (x : Bool). truth.text x ++ rest) ends.0)
      (λ (more : eqb tag 0 ≡ false). ⊎_elim
      (λ (one : eqb tag 1 ≡ true).
      let ends = same_pair (true, bytes) b rest (sym (cond-true (eqb tag 1) (Some (true, bytes)) None one) ∙ sym (cond-false (eqb tag 0) (Some (false, bytes)) (cond (eqb tag 1) (Some (true, bytes)) None) more) ∙ is) in
      (λ i. eqb-true tag 1 one i ∷ ends.1 i) ∙ ap (λ (x : Bool). truth.text x ++ rest) ends.0)
      (λ (other : eqb tag 1 ≡ false). let e : None ≡ Some (b, rest) = sym (cond-false (eqb tag 1) (Some (true, bytes)) None other) ∙ sym (cond-false (eqb tag 0) (Some (false, bytes)) (cond (eqb tag 1) (Some (true, bytes)) None) more) ∙ is in absurd (cc))
      (cases_Bool (eqb tag 1)))
      (cases_Bool (eqb tag 0)),
)

pub truth_lawful : Lawful truth
truth_lawful = record { again = elim [ false ↦ λ rest fits. refl | true ↦ λ rest fits. refl ]; exact = truth_exact }

-- one byte, and none
byte_exact : (bytes : List ℕ) (b : ℕ) (rest : List ℕ) → IsBytes bytes → byte.read bytes ≡ Some (b, rest) → byte.Fits b × (bytes ≡ byte.text b ++ rest)
byte_exact [] b rest all is = absurd (cc)
byte_exact (x ∷ bytes) b rest all is = let ends = same_pair (x, bytes) b rest is in (subst (λ n. n < 256) ends.0 (all 0), λ i. ends.0 i ∷ ends.1 i)

pub byte_lawful : Lawful byte
byte_lawful = record { again = λ b rest fits. refl; exact = byte_exact }

pub empty_lawful : Lawful empty
empty_lawful = record { again = λ u rest fits. refl; exact = λ bytes u rest all is. (tt, (same_pair (tt, bytes) u rest is).1) }

pub never_lawful : Lawful never
never_lawful = record { again = λ none rest fits. absurd none; exact = λ bytes none rest all is. absurd none }

-- no spelling of the second kind begins with the byte of the first
abbrev pub Apart : {B : Type 0} → ℕ → Format B → Type 0
Apart tag g = (bytes : List ℕ) → g.read (tag ∷ bytes) ≡ None

module _ {A B : Type 0} (tag : ℕ) (f : Format A) (g : Format B) (lf : Lawful f) (lg : Lawful g) (apart : Apart tag g) (nothing : g.read [] ≡ None) where
  abbrev first : List ℕ → Option ((A ⊎ B) × List ℕ)
  first bytes = f.read bytes >>= λ x. Some (inl x.0, x.1)

  abbrev second : List ℕ → Option ((A ⊎ B) × List ℕ)
  second bytes = g.read bytes >>= λ x. Some (inr x.0, x.1)

  -- bytes that spell a value of the second kind
  other_reads : (bytes : List ℕ) (b : B) (rest : List ℕ) → g.read bytes ≡ Some (b, rest) → (case tag f g).read bytes ≡ Some (inr b, rest)
  other_reads [] b rest is = let e : None ≡ Some (b, rest) = sym nothing ∙ is in absurd (cc)
  other_reads (x ∷ bytes) b rest is = ⊎_elim
      (λ (same : eqb x tag ≡ true). let e : None ≡ Some (b, rest) = sym (apart bytes) ∙ ap (λ (y : ℕ). g.read (y ∷ bytes)) (sym (eqb-true x tag same)) ∙ is in absurd (cc))
      (λ (else_ : eqb x tag ≡ false). cond-false (eqb x tag) (first bytes) (second (x ∷ bytes)) else_ ∙ ap (λ (o : Option (B × List ℕ)). o >>= λ y. Some (inr y.0, y.1)) is)
      (cases_Bool (eqb x tag))

  case_again : (s : A ⊎ B) (rest : List ℕ) → (case tag f g).Fits s → (case tag f g).read ((case tag f g).text s ++ rest) ≡ Some (s, rest)
  case_again (inl a) rest fits =
      cond-true (eqb tag tag) (first (f.text a ++ rest)) (second (tag ∷ (f.text a ++ rest))) (eq-eqb tag tag refl) ∙ ap (λ (o : Option (A × List ℕ)). o >>= λ x. Some (inl x.0, x.1)) (lf.again a rest fits)
  case_again (inr b) rest fits = other_reads (g.text b ++ rest) b rest (lg.again b rest fits)

  case_exact : (bytes : List ℕ) (s : A ⊎ B) (rest : List ℕ) → IsBytes bytes → (case tag f g).read bytes ≡ Some (s, rest) → (case tag f g).Fits s × (bytes ≡ (case tag f g).text s ++ rest)
  case_exact [] s rest all is = absurd (cc)
  case_exact (x ∷ bytes) s rest all is = ⊎_elim
      (λ (same : eqb x tag ≡ true). here (eqb-true x tag same) (sym (cond-true (eqb x tag) (first bytes) (second (x ∷ bytes)) same) ∙ is))
      (λ (else_ : eqb x tag ≡ false). there (sym (cond-false (eqb x tag) (first bytes) (second (x ∷ bytes)) else_) ∙ is))
      (cases_Bool (eqb x tag))
    where
      here : x ≡ tag → first bytes ≡ Some (s, rest) → (case tag f g).Fits s × (x ∷ bytes ≡ (case tag f g).text s ++ rest)
      here t read =
          let one = bind_some (f.read bytes) (λ y. Some (inl y.0, y.1)) (s, rest) read in
          let y = one.0 in
          let ends = same_pair (inl y.0, y.1) s rest one.2 in
          let only_ = lf.exact bytes y.0 y.1 (tail_is_bytes x bytes all) one.1 in
          (subst (case tag f g).Fits ends.0 only_.0, (λ i. t i ∷ (only_.1 ∙ ap (λ l. f.text y.0 ++ l) ends.1) i) ∙ ap (λ (z : A ⊎ B). (case tag f g).text z ++ rest) ends.0)

      there : second (x ∷ bytes) ≡ Some (s, rest) → (case tag f g).Fits s × (x ∷ bytes ≡ (case tag f g).text s ++ rest)
      there read =
          let one = bind_some (g.read (x ∷ bytes)) (λ y. Some (inr y.0, y.1)) (s, rest) read in
          let y = one.0 in
          let ends = same_pair (inr y.0, y.1) s rest one.2 in
          let only_ = lg.exact (x ∷ bytes) y.0 y.1 all one.1 in
          (subst (case tag f g).Fits ends.0 only_.0, only_.1 ∙ ap (λ l. g.text y.0 ++ l) ends.1 ∙ ap (λ (z : A ⊎ B). (case tag f g).text z ++ rest) ends.0)

  pub case_lawful : Lawful (case tag f g)
  case_lawful = record { again = case_again; exact = case_exact }
