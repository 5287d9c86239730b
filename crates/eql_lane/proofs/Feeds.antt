-- What a search for a line feed returns.
use Rattle.std.proofs.Common.{◌≡◌, ℕ, zero, suc, ◌<◌, Bool, true, false, List, [], ◌∷◌, length, Option, Some, None, refl, ap, arith}
use Rattle.std.proofs.lemmas.Bool.Decides.{nat_tests}
use Rattle.std.specs.Prelude.{not, ◌==◌, slice_index, IfSome}
use Rattle.memchr.specs.Find.{IsFirstByte, is_byte}
use Rattle.eql_laws.proofs.Facts.{true_both}
use Rattle.eql_lane.specs.Buffers.{HasFeedAt, IsOneLine}

no_feed : (b : Bool) → (b ≡ true → ⊥) → not b ≡ true
no_feed true h = absurd (h refl)
no_feed false h = refl

is_feed : (byte : ℕ) → (byte == 10) ≡ true → byte ≡ 10
is_feed byte h = grind (arith, nat_tests, h)

pub nowhere_one : (hay : List ℕ) → ((k : ℕ) → k < length hay → (slice_index hay k == 10) ≡ true → ⊥) → IsOneLine hay
nowhere_one [] h = refl
nowhere_one (x ∷ hay) h = true_both _ _ (no_feed (x == 10) (λ e. h 0 (omega arith) e)) (nowhere_one hay (λ k lt e. h (suc k) (omega (arith, lt)) e))

pub feed_of : (hay : List ℕ) (k : ℕ) → k < length hay → ((j : ℕ) → j < k → (slice_index hay j == 10) ≡ true → ⊥) → (slice_index hay k == 10) ≡ true → HasFeedAt k hay
feed_of [] k lt before at = absurd (omega (arith, lt))
feed_of (x ∷ hay) zero lt before at = record { within = lt; one = refl; parts = ap (λ (b : ℕ). b ∷ hay) (is_feed x at) }
feed_of (x ∷ hay) (suc k) lt before at =
    let m = feed_of hay k (omega (arith, lt)) (λ j less e. before (suc j) (omega (arith, less)) e) at in
    record {
      within = omega (arith, m.within);
      one = true_both _ _ (no_feed (x == 10) (λ e. before 0 (omega arith) e)) m.one;
      parts = ap (λ (l : List ℕ). x ∷ l) m.parts;
    }

pub found_if : (found : Option ℕ) (hay : List ℕ) → IsFirstByte (is_byte 10) hay found → IfSome found (λ end. HasFeedAt end hay)
found_if None hay h = tt
found_if (Some k) hay h = feed_of hay k h.0.high (λ j less e. h.0.before j (omega arith) less e) h.1

pub found_none : (found : Option ℕ) (hay : List ℕ) → IsFirstByte (is_byte 10) hay found → found ≡ None → IsOneLine hay
found_none None hay h e = nowhere_one hay (λ k lt at. h k (omega arith) lt at)
found_none (Some k) hay h e = cc
