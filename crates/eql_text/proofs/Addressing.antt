-- Small numbers, and the four of an address.
use Rattle.std.proofs.Common.{◌≡◌, ℕ, ◌+◌, ◌*◌, ◌^◌, ◌<◌, ◌≤◌, Bool, true, false, List, [], ◌∷◌, cond, eqb, leb, map, Option, Some, None, refl, sym, ap, ◌∙◌, arith}
use Rattle.std.specs.Option.{option_map}
use Rattle.std.proofs.lemmas.Bool.Decides.{nat_tests}
use Rattle.eql_text.specs.Numbers.{numeral, capped_number}
use Rattle.eql_text.specs.Addresses.{has_spare_zero, at_most, plain, parts, into_first, address, parse_ip4, block, block_of, parse_block}

same_small : (n most : ℕ) → most < 2 ^ 32 → (b : Bool) → leb n most ≡ b → cond b (Some n) None ≡ at_most most (Some (capped_number n))
same_small n most small true e =
    let kept : capped_number n ≡ n = grind (arith, nat_tests) in
    sym (ap (λ k. at_most most (Some k)) kept ∙ ap (λ b. cond b (Some n) None) e)
same_small n most small false e =
    let above : leb (capped_number n) most ≡ false = grind (arith, nat_tests) in
    sym (ap (λ b. cond b (Some (capped_number n)) None) above)

-- holding a number at the greatest of 64 bits changes nothing of what is at most this much
at_most_held : (most : ℕ) (o : Option ℕ) → most < 2 ^ 32 → at_most most o ≡ at_most most (option_map capped_number o)
at_most_held most None small = refl
at_most_held most (Some n) small = same_small n most small (leb n most) refl

pub plain_spare : (most : ℕ) (s : List ℕ) → has_spare_zero s ≡ true → plain most s ≡ None
unfolding plain
plain_spare most s h = ap (λ b. cond b None (at_most most (numeral 10 s))) h

pub plain_read : (most : ℕ) (s : List ℕ) (o : Option ℕ) → most < 2 ^ 32 → has_spare_zero s ≡ false → o ≡ option_map capped_number (numeral 10 s) → plain most s ≡ at_most most o
unfolding plain
plain_read most s o small h e =
    ap (λ b. cond b None (at_most most (numeral 10 s))) h ∙ at_most_held most (numeral 10 s) small ∙ ap (at_most most) (sym e)

pub at_most_within : (most n : ℕ) → n ≤ most → at_most most (Some n) ≡ Some n
at_most_within most n h =
    let inside : leb n most ≡ true = grind (arith, nat_tests) in
    ap (λ b. cond b (Some n) None) inside

pub at_most_above : (most n : ℕ) → most < n → at_most most (Some n) ≡ None
at_most_above most n h =
    let outside : leb n most ≡ false = grind (arith, nat_tests) in
    ap (λ b. cond b (Some n) None) outside

-- ---- an address has four parts, each a small number
one : (a : Option ℕ) → address (a ∷ []) ≡ None
one None = refl
one (Some a) = refl

two : (a b : Option ℕ) → address (a ∷ b ∷ []) ≡ None
two None b = refl
two (Some a) None = refl
two (Some a) (Some b) = refl

three : (a b c : Option ℕ) → address (a ∷ b ∷ c ∷ []) ≡ None
three None b c = refl
three (Some a) None c = refl
three (Some a) (Some b) None = refl
three (Some a) (Some b) (Some c) = refl

five : (a b c d e : Option ℕ) (es : List (Option ℕ)) → address (a ∷ b ∷ c ∷ d ∷ e ∷ es) ≡ None
five None b c d e es = refl
five (Some a) None c d e es = refl
five (Some a) (Some b) None d e es = refl
five (Some a) (Some b) (Some c) None e es = refl
five (Some a) (Some b) (Some c) (Some d) e es = refl

-- there is always a first part
pub first_part : (d : ℕ) (s : List ℕ) → (p : List ℕ) × (ps : List (List ℕ)) × (parts d s ≡ p ∷ ps)
first_part d [] = ([], [], refl)
first_part d (c ∷ s) = found (eqb c d) (first_part d s)
  where
    found : (b : Bool) → (p : List ℕ) × (ps : List (List ℕ)) × (parts d s ≡ p ∷ ps) → (p : List ℕ) × (ps : List (List ℕ)) × (cond b ([] ∷ parts d s) (into_first c (parts d s)) ≡ p ∷ ps)
    found true h = ([], parts d s, refl)
    found false h = (c ∷ h.0, h.1, ap (into_first c) h.2)

pub only_one : (s : List ℕ) → parts 46 s ≡ s ∷ [] → parse_ip4 s ≡ None
unfolding parse_ip4
only_one s e = ap (λ ps. address (map (plain 255) ps)) e ∙ one (plain 255 s)

pub only_two : (s a r : List ℕ) → parts 46 s ≡ a ∷ parts 46 r → parts 46 r ≡ r ∷ [] → parse_ip4 s ≡ None
unfolding parse_ip4
only_two s a r e f = ap (λ ps. address (map (plain 255) ps)) (e ∙ ap (λ ps. a ∷ ps) f) ∙ two (plain 255 a) (plain 255 r)

pub only_three : (s a r b q : List ℕ) → parts 46 s ≡ a ∷ parts 46 r → parts 46 r ≡ b ∷ parts 46 q → parts 46 q ≡ q ∷ [] → parse_ip4 s ≡ None
unfolding parse_ip4
only_three s a r b q e f g =
    ap (λ ps. address (map (plain 255) ps)) (e ∙ ap (λ ps. a ∷ ps) (f ∙ ap (λ ps. b ∷ ps) g)) ∙ three (plain 255 a) (plain 255 b) (plain 255 q)

pub too_many : (s a r b q c t d y : List ℕ) → parts 46 s ≡ a ∷ parts 46 r → parts 46 r ≡ b ∷ parts 46 q → parts 46 q ≡ c ∷ parts 46 t → parts 46 t ≡ d ∷ parts 46 y → parse_ip4 s ≡ None
unfolding parse_ip4
too_many s a r b q c t d y e f g h =
    let more = first_part 46 y in
    ap (λ ps. address (map (plain 255) ps)) (e ∙ ap (λ ps. a ∷ ps) (f ∙ ap (λ ps. b ∷ ps) (g ∙ ap (λ ps. c ∷ ps) (h ∙ ap (λ ps. d ∷ ps) more.2))))
    ∙ five (plain 255 a) (plain 255 b) (plain 255 c) (plain 255 d) (plain 255 more.0) (map (plain 255) more.1)

pub four : (s a r b q c d : List ℕ) → parts 46 s ≡ a ∷ parts 46 r → parts 46 r ≡ b ∷ parts 46 q → parts 46 q ≡ c ∷ parts 46 d → parts 46 d ≡ d ∷ [] → parse_ip4 s ≡ address (plain 255 a ∷ plain 255 b ∷ plain 255 c ∷ plain 255 d ∷ [])
unfolding parse_ip4
four s a r b q c d e f g h =
    ap (λ ps. address (map (plain 255) ps)) (e ∙ ap (λ ps. a ∷ ps) (f ∙ ap (λ ps. b ∷ ps) (g ∙ ap (λ ps. c ∷ ps) h)))

-- the four numbers as they were read, the first three of them perhaps not looked at
pub bad_first : (z x y w : Option ℕ) → None ≡ z → address (z ∷ x ∷ y ∷ w ∷ []) ≡ None
bad_first z x y w e = ap (λ o. address (o ∷ x ∷ y ∷ w ∷ [])) (sym e)

pub bad_second : (a : ℕ) (z x y w : Option ℕ) → Some a ≡ z → None ≡ x → address (z ∷ x ∷ y ∷ w ∷ []) ≡ None
bad_second a z x y w e f = ap (λ o. address (o ∷ x ∷ y ∷ w ∷ [])) (sym e) ∙ ap (λ o. address (Some a ∷ o ∷ y ∷ w ∷ [])) (sym f)

pub bad_third : (a b : ℕ) (z x y w : Option ℕ) → Some a ≡ z → Some b ≡ x → None ≡ y → address (z ∷ x ∷ y ∷ w ∷ []) ≡ None
bad_third a b z x y w e f g =
    ap (λ o. address (o ∷ x ∷ y ∷ w ∷ [])) (sym e) ∙ ap (λ o. address (Some a ∷ o ∷ y ∷ w ∷ [])) (sym f) ∙ ap (λ o. address (Some a ∷ Some b ∷ o ∷ w ∷ [])) (sym g)

pub bad_fourth : (a b c : ℕ) (z x y w : Option ℕ) → Some a ≡ z → Some b ≡ x → Some c ≡ y → None ≡ w → address (z ∷ x ∷ y ∷ w ∷ []) ≡ None
bad_fourth a b c z x y w e f g h =
    ap (λ o. address (o ∷ x ∷ y ∷ w ∷ [])) (sym e) ∙ ap (λ o. address (Some a ∷ o ∷ y ∷ w ∷ [])) (sym f)
    ∙ ap (λ o. address (Some a ∷ Some b ∷ o ∷ w ∷ [])) (sym g) ∙ ap (λ o. address (Some a ∷ Some b ∷ Some c ∷ o ∷ [])) (sym h)

pub all_good : (a b c d : ℕ) (z x y w : Option ℕ) → Some a ≡ z → Some b ≡ x → Some c ≡ y → Some d ≡ w → address (z ∷ x ∷ y ∷ w ∷ []) ≡ Some ((a * 256 + b) * 65536 + (c * 256 + d))
all_good a b c d z x y w e f g h =
    let sums : a * 2 ^ 24 + b * 2 ^ 16 + c * 2 ^ 8 + d ≡ (a * 256 + b) * 65536 + (c * 256 + d) = omega arith in
    ap (λ o. address (o ∷ x ∷ y ∷ w ∷ [])) (sym e) ∙ ap (λ o. address (Some a ∷ o ∷ y ∷ w ∷ [])) (sym f)
    ∙ ap (λ o. address (Some a ∷ Some b ∷ o ∷ w ∷ [])) (sym g) ∙ ap (λ o. address (Some a ∷ Some b ∷ Some c ∷ o ∷ [])) (sym h) ∙ ap Some sums

-- ---- a block has two parts
pub no_slash : (s : List ℕ) → parts 47 s ≡ s ∷ [] → parse_block s ≡ None
unfolding parse_block
no_slash s e = ap block_of e

pub slashes : (s a t b y : List ℕ) → parts 47 s ≡ a ∷ parts 47 t → parts 47 t ≡ b ∷ parts 47 y → parse_block s ≡ None
unfolding parse_block
slashes s a t b y e f =
    let more = first_part 47 y in
    ap block_of (e ∙ ap (λ ps. a ∷ ps) (f ∙ ap (λ ps. b ∷ ps) more.2))

pub one_slash : (s a b : List ℕ) → parts 47 s ≡ a ∷ parts 47 b → parts 47 b ≡ b ∷ [] → parse_block s ≡ block (parse_ip4 a) (plain 32 b)
unfolding parse_block
one_slash s a b e f = ap block_of (e ∙ ap (λ ps. a ∷ ps) f)

pub bad_base : (z x : Option ℕ) → None ≡ z → block z x ≡ None
bad_base z x e = ap (λ o. block o x) (sym e)

pub bad_bits : (base : ℕ) (z x : Option ℕ) → Some base ≡ z → None ≡ x → block z x ≡ None
bad_bits base z x e f = ap (λ o. block o x) (sym e) ∙ ap (λ o. block (Some base) o) (sym f)

pub good_block : (base bits : ℕ) (z x : Option ℕ) → Some base ≡ z → Some bits ≡ x → block z x ≡ Some (record { base = base; bits = bits })
good_block base bits z x e f = ap (λ o. block o x) (sym e) ∙ ap (λ o. block (Some base) o) (sym f)
