-- The lines at hand, up to line feeds.
use Rattle.std.proofs.Common.{◌≡◌, ℕ, zero, suc, ◌+◌, ◌-◌, ◌≤◌, List, [], ◌∷◌, ◌++◌, length, take, drop, map, refl, sym, ap, ◌∙◌, subst, arith, length-drop}
use Rattle.std.proofs.lemmas.List.{map-append, take-append-drop, take_all}
use Rattle.std.specs.Prelude.{IsTrue}
use Rattle.eql_values.specs.Lines.{Line, lines_of, numbered_lines}
use Rattle.eql_laws.specs.Places.{ends_line, is_line_end, lines_after}
use Rattle.eql_laws.proofs.LineLemmas.{lines_go_on}
use Rattle.eql_laws.proofs.Facts.{both_true, true_both}
use Rattle.eql_lane.proofs.BufferLemmas.{one_on}
use Rattle.eql_lane.specs.Buffers.{HasFeedAt, IsOneLine}

-- ---- lines by any number and place
abbrev bytes_in : Line → List ℕ
bytes_in line = line.bytes

bytes_numbered : (number at : ℕ) (xs : List (List ℕ)) → map bytes_in (numbered_lines number at xs) ≡ xs
bytes_numbered number at [] = refl
bytes_numbered number at (x ∷ xs) = ap (λ (l : List (List ℕ)). x ∷ l) (bytes_numbered (number + 1) (at + length x + 1) xs)

pub ends_before : (b c : List ℕ) → IsTrue (ends_line b) → IsTrue (is_line_end b c)
ends_before b [] h = refl
ends_before b (x ∷ c) h = h

pub length_numbered : (number at : ℕ) (xs : List (List ℕ)) → length (numbered_lines number at xs) ≡ length xs
length_numbered number at [] = refl
length_numbered number at (x ∷ xs) = ap suc (length_numbered (number + 1) (at + length x + 1) xs)

none_added : (n : ℕ) → n ≡ 0 + n
none_added n = omega arith

one_added : (k n : ℕ) → suc (k + n) ≡ suc k + n
one_added k n = omega arith

-- a line feed behind bytes that have none
pub found_later : (k at : ℕ) (text : List ℕ) → k ≤ length text → IsOneLine (take k text) → HasFeedAt at (drop k text) → HasFeedAt (k + at) text
found_later zero at text le one feed = subst (λ (n : ℕ). HasFeedAt n text) (none_added at) feed
found_later (suc k) at [] le one feed = absurd (omega (arith, le))
found_later (suc k) at (x ∷ text) le one feed =
    let both = both_true _ _ one in
    let m = found_later k at text (omega (arith, le)) both.1 feed in
    subst (λ (n : ℕ). HasFeedAt n (x ∷ text)) (one_added k at) (record {
      within = omega (arith, m.within);
      one = true_both _ _ both.0 m.one;
      parts = ap (λ (l : List ℕ). x ∷ l) m.parts;
    })

-- no line feed among the first bytes, and none behind them
pub none_later : (k : ℕ) (text : List ℕ) → IsOneLine (take k text) → IsOneLine (drop k text) → IsOneLine text
none_later k text one more = subst IsOneLine (take-append-drop k text) (one_on (take k text) (drop k text) one more)

-- what stands behind the first bytes, as a slice has it
pub behind : (k : ℕ) (rest unread : List ℕ) → rest ≡ unread → take (length rest - k) (drop k rest) ≡ drop k unread
behind k rest unread e = take_all (length rest - k) (drop k rest) (let a = length-drop k rest in omega (arith, a)) ∙ ap (drop k) e

-- a line feed behind the first bytes, as a search from there finds it
pub found_after : (k : ℕ) (rest unread : List ℕ) → rest ≡ unread → k ≤ length unread → IsOneLine (take k unread) → (at : ℕ) → HasFeedAt at (take (length rest - k) (drop k rest)) → HasFeedAt (k + at) unread
found_after k rest unread e le one at feed = found_later k at unread le one (subst (HasFeedAt at) (behind k rest unread e) feed)

pub none_after : (k : ℕ) (rest unread : List ℕ) → rest ≡ unread → IsOneLine (take k unread) → IsOneLine (take (length rest - k) (drop k rest)) → IsOneLine unread
none_after k rest unread e one more = none_later k unread one (subst IsOneLine (behind k rest unread e) more)

-- and so their bytes
pub lines_both : (b c : List ℕ) → IsTrue (ends_line b) → lines_of (b ++ c) ≡ lines_of b ++ lines_of c
lines_both b c ends =
    sym (bytes_numbered 1 0 (lines_of (b ++ c))) ∙ ap (map bytes_in) (lines_go_on b c (ends_before b c ends)) ∙ map-append bytes_in (numbered_lines 1 0 (lines_of b)) (lines_after b c)
    ∙ (λ i. bytes_numbered 1 0 (lines_of b) i ++ bytes_numbered (1 + length (lines_of b)) (length b) (lines_of c) i)
