-- What a write that lands, or is torn, leaves.
use Rattle.std.proofs.Common.{◌≡◌, inl, inr, ℕ, ◌+◌, ◌-◌, ◌≤◌, min, List, [], ◌∷◌, ◌++◌, length, take, drop, refl, sym, ◌∙◌, ap, subst, arith, append_assoc, length-append, length-drop}
use Rattle.std.proofs.lemmas.List.{take_at, drop_at, drop-drop, length-take-le}
use Rattle.eql_outside.specs.Areas.{Write, IsTorn, Lands, IsLeftAfter, area_with}
use Rattle.eql_outside.specs.DiskLaws.{WholeLands, ImagesAreThere, SeenIsLeft}

pub same_lands : (w : Write) (d : List ℕ) → Lands w d d
same_lands w d = record {
  torn = record { before = refl; behind = refl; no_shorter = omega arith; no_longer = omega arith };
  whole = λ one within. inl refl;
}

front_length : (at : ℕ) (d : List ℕ) → at ≤ length d → length (take at d) ≡ at
front_length at d within = length-take-le at d within

pub length-written : (w : Write) (d : List ℕ) → w.at ≤ length d → length (area_with w d) ≡ w.at + length w.bytes + (length d - (w.at + length w.bytes))
length-written w d within =
    omega (arith, front_length w.at d within, length-append (take w.at d) (w.bytes ++ drop (w.at + length w.bytes) d), length-append w.bytes (drop (w.at + length w.bytes) d), length-drop (w.at + length w.bytes) d)

-- the bytes before the place
before_is : (at : ℕ) (made d : List ℕ) → at ≤ length d → take at (take at d ++ (made ++ drop (at + length made) d)) ≡ take at d
before_is at made d within = take_at (take at d) (made ++ drop (at + length made) d) at (front_length at d within)

-- the bytes behind the range
behind_is : (at : ℕ) (made d : List ℕ) → at ≤ length d → drop (at + length made) (take at d ++ (made ++ drop (at + length made) d)) ≡ drop (at + length made) d
behind_is at made d within =
    ap (drop (at + length made)) (sym (append_assoc (take at d) made (drop (at + length made) d)))
    ∙ drop_at (take at d ++ made) (drop (at + length made) d) (at + length made) (omega (arith, front_length at d within, length-append (take at d) made))

-- fewer bytes in the place of a write's are the write torn
pub torn_by : (w : Write) (made d : List ℕ) → length made ≤ length w.bytes → w.at ≤ length d → IsTorn w d (area_with (record { at = w.at; bytes = made }) d)
torn_by w made d few within =
    let m : Write = record { at = w.at; bytes = made } in
    let new : List ℕ = area_with m d in
    let least : min w.at (length d) ≡ w.at = omega arith in
    let more : (w.at + length made) + (length w.bytes - length made) ≡ w.at + length w.bytes = omega arith in
    let long = length-written m d within in
    record {
      before = subst (λ n. take n new ≡ take n d) (sym least) (before_is w.at made d within);
      behind =
          ap (λ n. drop n new) (sym more) ∙ sym (drop-drop (length w.bytes - length made) (w.at + length made) new)
          ∙ ap (drop (length w.bytes - length made)) (behind_is w.at made d within)
          ∙ drop-drop (length w.bytes - length made) (w.at + length made) d ∙ ap (λ n. drop n d) more;
      no_shorter = omega (arith, long);
      no_longer = omega (arith, long);
    }

-- it lands so, if a write of one byte has that byte
pub lands_by : (w : Write) (made d : List ℕ) → length made ≤ length w.bytes → (length w.bytes ≡ 1 → made ≡ w.bytes) → w.at ≤ length d → Lands w d (area_with (record { at = w.at; bytes = made }) d)
lands_by w made d few one within = record {
  torn = torn_by w made d few within;
  whole = λ e there. inr (ap (λ b. area_with (record { at = w.at; bytes = b }) d) (one e));
}

pub lands_as : (w : Write) (made d new : List ℕ) → length made ≤ length w.bytes → (length w.bytes ≡ 1 → made ≡ w.bytes) → w.at ≤ length d → new ≡ area_with (record { at = w.at; bytes = made }) d → Lands w d new
lands_as w made d new few one within is = subst (Lands w d) (sym is) (lands_by w made d few one within)

pub whole_lands : (w : Write) (d : List ℕ) → w.at ≤ length d → Lands w d (area_with w d)
whole_lands w d within = lands_by w w.bytes d (omega arith) (λ one. refl) within

-- what was kept may be left
pub kept_left : (kept : List ℕ) (writes : List Write) → IsLeftAfter kept writes kept
kept_left kept [] = refl
kept_left kept (w ∷ writes) = (kept, kept_left kept writes, same_lands w kept)

pub lands : WholeLands
lands = record { there = whole_lands; not_there = same_lands }

pub images : ImagesAreThere
images = record {
  kept = λ m. record { a = inr (kept_left m.a.kept m.a.writes); b = inr (kept_left m.b.kept m.b.writes) };
  seen = λ m. record { a = inl refl; b = inl refl };
}

pub seen_left : SeenIsLeft
seen_left = record {
  at_rest = λ bytes. refl;
  after = λ w s within left. (s.seen, left, whole_lands w s.seen within);
}
