-- A number that isn't among some tokens, and tokens in which it stands only behind a place.
use Rattle.std.proofs.Common.{◌≡◌, ◌<◌, ◌≤◌, ℕ, suc, pos, negsuc, max, List, [], ◌∷◌, ◌++◌, length, ap, ◌∙◌, append_assoc, le_refl, arith}
use Rattle.eql_parser.specs.Kinds.{Kind, number}
use Rattle.eql_parser.specs.Refusing.{IsNewTo}

-- what is new to tokens is new to those they begin with
pub new_front : (h : ℕ) (front more : List Kind) → IsNewTo h (front ++ more) → IsNewTo h front
new_front h front more n before behind e = n before (behind ++ more) (ap (λ l. l ++ more) e ∙ append_assoc before (number (pos h) ∷ behind) more)

-- a number above all of them
abbrev pub above_all : List Kind → ℕ
above_all [] = 0
above_all (number (pos n) ∷ ks) = max (suc n) (above_all ks)
above_all (_ ∷ ks) = above_all ks

more_above : (k : Kind) (ks : List Kind) → above_all ks ≤ above_all (k ∷ ks)
more_above (number (pos n)) ks = omega arith
more_above (number (negsuc n)) ks = omega arith
more_above _ ks = omega arith

stands_below : (h : ℕ) (before behind : List Kind) → h < above_all (before ++ number (pos h) ∷ behind)
stands_below h [] behind = omega arith
stands_below h (k ∷ before) behind = omega (arith, stands_below h before behind, more_above k (before ++ number (pos h) ∷ behind))

pub above_new : (ks : List Kind) → IsNewTo (above_all ks) ks
above_new ks before behind e = omega (arith, ap above_all e, stands_below (above_all ks) before behind)

-- the number stands only where at most so many tokens are left
abbrev pub Late : (h last : ℕ) → List Kind → Type 0
Late h last [] = Unit {0}
Late h last (k ∷ ks) = (k ≡ number (pos h) → length ks < last) × Late h last ks

late_all : (h last : ℕ) (ks : List Kind) → length ks ≤ last → Late h last ks
late_all h last [] i = tt
late_all h last (k ∷ ks) i = (λ e. omega (arith, i), late_all h last ks (omega (arith, i)))

pub late_behind : (h : ℕ) (front behind : List Kind) → IsNewTo h front → Late h (length behind) (front ++ behind)
late_behind h [] behind n = late_all h (length behind) behind (le_refl (length behind))
late_behind h (k ∷ front) behind n =
    (λ e. absurd (n [] front (ap (λ j. j ∷ front) e)), late_behind h front behind (λ before more e. n (k ∷ before) more (ap (λ l. k ∷ l) e)))

pub late_never : (h : ℕ) (ks : List Kind) → IsNewTo h ks → Late h 0 ks
late_never h [] n = tt
late_never h (k ∷ ks) n = (λ e. absurd (n [] ks (ap (λ j. j ∷ ks) e)), late_never h ks (λ before more e. n (k ∷ before) more (ap (λ l. k ∷ l) e)))
