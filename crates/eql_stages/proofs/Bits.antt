-- The bits of a key among what stages are given.
use Rattle.std.proofs.Common.{◌≡◌, ◌<◌, ℕ, zero, suc, ◌+◌, ◌*◌, ◌-◌, ◌^◌, Bool, true, false, List, [], ◌∷◌, ◌++◌, length, take, drop, refl, ap, ap₂, sym, ◌∙◌, arith}
use Rattle.std.specs.Prelude.{if◌then◌else◌, replicate, min}
use Rattle.std.specs.Int.Bits.{bit_or}
use Rattle.std.proofs.lemmas.List.{length-take, length-drop, drop-replicate}
use Rattle.std.proofs.lemmas.Nat.{or_comm, or_shifted, pow_pos, pow-add}
use Rattle.std.proofs.Math.Nat.{pow-succ'}
use Rattle.eql_values.specs.declared.value.Value.{Value}
use Rattle.eql_values.specs.declared.item.Mask.{Mask}
use Rattle.eql_stages.specs.Given.{Given, is_this, bits_of, mask_of}
use Rattle.eql_stages.specs.Gathering.{union}

pub take-append : {A : Type 0} (n : ℕ) (xs ys : List A) → take n (xs ++ ys) ≡ take n xs ++ take (n - length xs) ys
take-append zero xs ys = let none : zero ≡ zero - length xs = omega arith in ap (λ (m : ℕ). take m ys) none
take-append (suc n) [] ys = let same : suc n ≡ suc n - 0 = omega arith in ap (λ (m : ℕ). take m ys) same
take-append (suc n) (x ∷ xs) ys =
    let same : n - length xs ≡ suc n - length (x ∷ xs) = omega arith in
    ap (λ l. x ∷ l) (take-append n xs ys) ∙ ap (λ (m : ℕ). x ∷ take n xs ++ take m ys) same

pub drop-append : {A : Type 0} (n : ℕ) (xs ys : List A) → drop n (xs ++ ys) ≡ drop n xs ++ drop (n - length xs) ys
drop-append zero xs ys = let none : zero ≡ zero - length xs = omega arith in ap (λ (m : ℕ). xs ++ drop m ys) none
drop-append (suc n) [] ys = let same : suc n ≡ suc n - 0 = omega arith in ap (λ (m : ℕ). drop m ys) same
drop-append (suc n) (x ∷ xs) ys =
    let same : n - length xs ≡ suc n - length (x ∷ xs) = omega arith in
    drop-append n xs ys ∙ ap (λ (m : ℕ). drop n xs ++ drop m ys) same

pub take-same : {A : Type 0} (n r : ℕ) (g : A) → take n (replicate r g) ≡ replicate (min n r) g
take-same zero r g = let none : zero ≡ min zero r = omega arith in ap (λ (m : ℕ). replicate m g) none
take-same (suc n) zero g = let none : zero ≡ min (suc n) zero = omega arith in ap (λ (m : ℕ). replicate m g) none
take-same (suc n) (suc r) g =
    let more : suc (min n r) ≡ min (suc n) (suc r) = omega arith in
    ap (λ l. g ∷ l) (take-same n r g) ∙ ap (λ (m : ℕ). replicate m g) more

one_more : (x a p b : ℕ) → x + 2 * (a + p * b) ≡ (x + 2 * a) + (2 * p) * b
one_more x a p b = omega arith

doubled : (n : ℕ) → 0 < 2 ^ n → 1 + 2 * (2 ^ n - 1) ≡ 2 * 2 ^ n - 1
doubled n h = omega arith

within : (b : Bool) (n p : ℕ) → n < p → (if b then 1 else 0) + 2 * n < 2 * p
within true n p h = omega arith
within false n p h = omega arith

-- bits of some more stages above those of the first
spread : (q s e : ℕ) → e ≡ q + s → 2 ^ e - 2 ^ q ≡ (2 ^ s - 1) * 2 ^ q
spread q s e is =
    let power : 2 ^ e ≡ 2 ^ q * 2 ^ s = ap (λ (n : ℕ). 2 ^ n) is ∙ pow-add 2 q s in
    let some : 0 < 2 ^ s = pow_pos s in
    ap (λ (n : ℕ). n - 2 ^ q) power ∙ taken (2 ^ q) (2 ^ s) some
  where
    split : (p r : ℕ) → p * suc r ≡ r * p + p
    split p r = omega arith

    taken : (p r : ℕ) → 0 < r → p * r - p ≡ (r - 1) * p
    taken p zero h = absurd (omega arith)
    taken p (suc r) h =
        let is : p * suc r ≡ r * p + p = split p r in
        let one : suc r - 1 ≡ r = omega arith in
        ap (λ (n : ℕ). n - p) is ∙ (omega arith) ∙ ap (λ (n : ℕ). n * p) (sym one)

or_above : (b q s e : ℕ) → b < 2 ^ q → e ≡ q + s → bit_or b (2 ^ e - 2 ^ q) ≡ b + 2 ^ q * (2 ^ s - 1)
or_above b q s e small is =
    ap (bit_or b) (spread q s e is)
    ∙ or_comm b ((2 ^ s - 1) * 2 ^ q)
    ∙ or_shifted (2 ^ s - 1) q b small
    ∙ turned (2 ^ s - 1) (2 ^ q) b
  where
    turned : (a p b : ℕ) → a * p + b ≡ b + p * a
    turned a p b = omega arith

module _ (key : List Value) where
  pub bits-append : (a b : List Given) → bits_of key (a ++ b) ≡ bits_of key a + 2 ^ length a * bits_of key b
  bits-append [] b = omega arith
  bits-append (g ∷ a) b =
      let x : ℕ = if is_this key g then 1 else 0 in
      let power : 2 * 2 ^ length a ≡ 2 ^ length (g ∷ a) = sym (pow-succ' 2 (length a)) in
      ap (λ (n : ℕ). x + 2 * n) (bits-append a b)
      ∙ one_more x (bits_of key a) (2 ^ length a) (bits_of key b)
      ∙ ap (λ (p : ℕ). (x + 2 * bits_of key a) + p * bits_of key b) power

  pub bits-lt : (a : List Given) → bits_of key a < 2 ^ length a
  bits-lt [] = omega arith
  bits-lt (g ∷ a) =
      let power : 2 ^ length (g ∷ a) ≡ 2 * 2 ^ length a = pow-succ' 2 (length a) in
      let less = within (is_this key g) (bits_of key a) (2 ^ length a) (bits-lt a) in omega arith

  bits-ones : (r : ℕ) (g : Given) → is_this key g ≡ true → bits_of key (replicate r g) ≡ 2 ^ r - 1
  bits-ones zero g e = refl
  bits-ones (suc r) g e =
      let some : 0 < 2 ^ r = pow_pos r in
      ap (λ (b : Bool). (if b then 1 else 0) + 2 * bits_of key (replicate r g)) e
      ∙ ap (λ (n : ℕ). 1 + 2 * n) (bits-ones r g e)
      ∙ doubled r some
      ∙ ap (λ (n : ℕ). n - 1) (sym (pow-succ' 2 r))

  bits-none : (r : ℕ) (g : Given) → is_this key g ≡ false → bits_of key (replicate r g) ≡ 0
  bits-none zero g e = refl
  bits-none (suc r) g e =
      ap (λ (b : Bool). (if b then 1 else 0) + 2 * bits_of key (replicate r g)) e
      ∙ ap (λ (n : ℕ). 0 + 2 * n) (bits-none r g e)

  -- stages that are given the key come after others
  more : (xs : List Given) (g : Given) (q s e : ℕ) → length xs ≡ q → e ≡ q + s → is_this key g ≡ true
      → bits_of key (xs ++ replicate s g) ≡ bit_or (bits_of key xs) (2 ^ e - 2 ^ q)
  more xs g q s e len is this =
      let small : bits_of key xs < 2 ^ q = rw (sym len) (bits-lt xs) in
      bits-append xs (replicate s g)
      ∙ ap₂ (λ (n m : ℕ). bits_of key xs + 2 ^ n * m) len (bits-ones s g this)
      ∙ sym (or_above (bits_of key xs) q s e small is)

  -- stages that aren't given the key come after others
  no_more : (xs : List Given) (g : Given) (s : ℕ) → is_this key g ≡ false → bits_of key (xs ++ replicate s g) ≡ bits_of key xs
  no_more xs g s other =
      bits-append xs (replicate s g)
      ∙ ap (λ (n : ℕ). bits_of key xs + 2 ^ length xs * n) (bits-none s g other)
      ∙ (omega arith)

  low_parts : (a : List Given) (g : Given) (r : ℕ) → take 128 (a ++ replicate r g) ≡ take 128 a ++ replicate (min (128 - length a) r) g
  low_parts a g r = take-append 128 a (replicate r g) ∙ ap (λ l. take 128 a ++ l) (take-same (128 - length a) r g)

  high_parts : (a : List Given) (g : Given) (r : ℕ) → drop 128 (a ++ replicate r g) ≡ drop 128 a ++ replicate (r - (128 - length a)) g
  high_parts a g r = drop-append 128 a (replicate r g) ∙ ap (λ l. drop 128 a ++ l) (drop-replicate (128 - length a) r g)

  -- a key's stages, and further ones behind them
  pub mask-more : (a : List Given) (g : Given) (p r : ℕ) (mask : Mask) → length a ≡ p → is_this key g ≡ true
      → mask.low ≡ 2 ^ min (p + r) 128 - 2 ^ min p 128 → mask.high ≡ 2 ^ (p + r - 128) - 2 ^ (p - 128)
      → mask_of key (a ++ replicate r g) ≡ union (mask_of key a) mask
  mask-more a g p r mask len this low high =
      let low_len : length (take 128 a) ≡ min p 128 = omega (arith, length-take 128 a) in
      let low_end : min (p + r) 128 ≡ min p 128 + min (128 - length a) r = omega arith in
      let high_len : length (drop 128 a) ≡ p - 128 = omega (arith, length-drop 128 a) in
      let high_end : p + r - 128 ≡ (p - 128) + (r - (128 - length a)) = omega arith in
      let low_is : bits_of key (take 128 (a ++ replicate r g)) ≡ bit_or (bits_of key (take 128 a)) mask.low =
      ap (bits_of key) (low_parts a g r) ∙ more (take 128 a) g (min p 128) _ (min (p + r) 128) low_len low_end this
      ∙ ap (bit_or (bits_of key (take 128 a))) (sym low) in
      let high_is : bits_of key (drop 128 (a ++ replicate r g)) ≡ bit_or (bits_of key (drop 128 a)) mask.high =
      ap (bits_of key) (high_parts a g r) ∙ more (drop 128 a) g (p - 128) _ (p + r - 128) high_len high_end this
      ∙ ap (bit_or (bits_of key (drop 128 a))) (sym high) in
      λ i. record { low = low_is i; high = high_is i }

  -- stages that aren't given the key change nothing
  pub mask-other : (a : List Given) (g : Given) (r : ℕ) → is_this key g ≡ false → mask_of key (a ++ replicate r g) ≡ mask_of key a
  mask-other a g r other =
      let low_is = ap (bits_of key) (low_parts a g r) ∙ no_more (take 128 a) g (min (128 - length a) r) other in
      let high_is = ap (bits_of key) (high_parts a g r) ∙ no_more (drop 128 a) g (r - (128 - length a)) other in
      λ i. record { low = low_is i; high = high_is i }
