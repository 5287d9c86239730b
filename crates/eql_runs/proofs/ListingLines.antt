-- A listing has a line for each match, and whole lines of its front are such lines.
use Rattle.std.proofs.Common.{◌≡◌, ℕ, zero, suc, ◌+◌, Bool, true, false, cond, List, [], ◌∷◌, ◌++◌, Some, length, map, drop, refl, sym, ap, ◌∙◌, append_assoc, arith, codes}
use Rattle.std.specs.Prelude.{IsTrue, not, ◌==◌}
use Rattle.std.specs.List.{slice_get}
use Rattle.std.proofs.lemmas.List.{map-append}
use Rattle.std.proofs.lemmas.List.Concat.{flat_map-cons}
use Rattle.std.proofs.lemmas.Option.{none-some, same_Some}
use Rattle.eql_values.specs.declared.found.Numbered.{Numbered}
use Rattle.eql_values.specs.Lines.{Line, begin_with, lines_of, lines_in, numbered_lines}
use Rattle.eql_laws.specs.Places.{ends_line, is_line_end}
use Rattle.eql_laws.proofs.Facts.{both_true}
use Rattle.eql_laws.proofs.LineLemmas.{lines_are_one, lines_end_on, lines_go_on}
use Rattle.eql_lane.specs.Buffers.{IsOneLine}
use Rattle.eql_book.specs.Listing.{match_text, match_line, listing}
use Rattle.eql_runs.specs.Composing.{IsLineOf}
use Rattle.eql_runs.proofs.FeedLemmas.{one_match}

-- ---- lines
-- a line with its line feed before others
pub line_fed : (line rest : List ℕ) → IsOneLine line → lines_of (line ++ 10 ∷ rest) ≡ line ∷ lines_of rest
line_fed [] rest h = refl
line_fed (byte ∷ line) rest h =
    let both = both_true _ _ h in
    begun (byte == 10) (lines_of (line ++ 10 ∷ rest)) both.0 (line_fed line rest both.1)
  where
    begun : (c : Bool) (whole : List (List ℕ)) → not c ≡ true → whole ≡ line ∷ lines_of rest
        → cond c ([] ∷ whole) (begin_with byte whole) ≡ (byte ∷ line) ∷ lines_of rest
    begun true whole n e = cc
    begun false whole n e = ap (begin_with byte) e

bytes_back : (number at : ℕ) (lines : List (List ℕ)) → map Line.bytes (numbered_lines number at lines) ≡ lines
bytes_back number at [] = refl
bytes_back number at (line ∷ lines) = ap (λ (ls : List (List ℕ)). line ∷ ls) (bytes_back (number + 1) (at + length line + 1) lines)

line_end_at : (a b : List ℕ) → IsTrue (ends_line a) → IsTrue (is_line_end a b)
line_end_at a [] end = refl
line_end_at a (byte ∷ b) end = end

-- lines behind whole lines
lines_behind : (a b : List ℕ) → IsTrue (ends_line a) → lines_of (a ++ b) ≡ lines_of a ++ lines_of b
lines_behind a b end =
    let behind = numbered_lines (1 + length (lines_of a)) (length a) (lines_of b) in
    sym (bytes_back 1 0 (lines_of (a ++ b))) ∙ ap (map Line.bytes) (lines_go_on a b (line_end_at a b end)) ∙ map-append Line.bytes (lines_in a) behind
    ∙ ap (λ (ls : List (List ℕ)). ls ++ map Line.bytes behind) (bytes_back 1 0 (lines_of a))
    ∙ ap (λ (ls : List (List ℕ)). lines_of a ++ ls) (bytes_back (1 + length (lines_of a)) (length a) (lines_of b))

at_end : (xs : List (List ℕ)) (x : List ℕ) (ys : List (List ℕ)) → slice_get (xs ++ x ∷ ys) (length xs) ≡ Some x
at_end [] x ys = refl
at_end (first ∷ xs) x ys = at_end xs x ys

-- a line that stands in bytes is one of their lines
pub line_among : (bytes line : List ℕ) → IsLineOf bytes line → (n : ℕ) × (slice_get (lines_of bytes) n ≡ Some line)
line_among bytes line is =
    let e : lines_of bytes ≡ lines_of is.before ++ line ∷ lines_of is.after =
    ap lines_of (is.stands ∙ append_assoc is.before line (10 ∷ is.after)) ∙ lines_behind is.before (line ++ 10 ∷ is.after) is.starts
    ∙ ap (λ (ls : List (List ℕ)). lines_of is.before ++ ls) (line_fed line is.after is.is_one) in
    (length (lines_of is.before), ap (λ (ls : List (List ℕ)). slice_get ls (length (lines_of is.before))) e ∙ at_end (lines_of is.before) line (lines_of is.after))

-- and it is one of what has these bytes at its front
pub line_of_front : (front bytes more line : List ℕ) → bytes ≡ front ++ more → IsLineOf front line → IsLineOf bytes line
line_of_front front bytes more line e is = record {
  before = is.before;
  after = is.after ++ more;
  stands =
      e ∙ ap (λ (bs : List ℕ). bs ++ more) is.stands ∙ append_assoc (is.before ++ line) (10 ∷ is.after) more;
  starts = is.starts;
  is_one = is.is_one;
}

-- ---- listings
line_before : (line rest : List ℕ) → (line ++ codes "\n") ++ rest ≡ line ++ 10 ∷ rest
unfolding lib.Utf8.encode
line_before line rest = append_assoc line (10 ∷ []) rest

pub listing_lines : (places : Bool) (list : List Numbered) → lines_of (listing places list) ≡ map (match_text places) list
listing_lines places [] = refl
listing_lines places (n ∷ list) =
    ap lines_of (flat_map-cons (match_line places) n list ∙ line_before (match_text places n) (listing places list))
    ∙ line_fed (match_text places n) (listing places list) (one_match places n)
    ∙ ap (λ (l : List (List ℕ)). match_text places n ∷ l) (listing_lines places list)

line_ends : (places : Bool) (n : Numbered) → IsTrue (ends_line (match_line places n))
unfolding lib.Utf8.encode
line_ends places n = (lines_are_one (match_text places n) (one_match places n)).next_starts

-- a listing ends with a line
pub listing_ends : (places : Bool) (list : List Numbered) → IsTrue (ends_line (listing places list))
listing_ends places [] = refl
listing_ends places (n ∷ list) =
    ap ends_line (flat_map-cons (match_line places) n list)
    ∙ lines_end_on (match_line places n) (listing places list) (line_ends places n) (listing_ends places list)

-- the line of a match behind those of others
pub line_behind : (places : Bool) (list : List Numbered) (n : Numbered) (bytes more : List ℕ) → bytes ≡ listing places list ++ match_line places n ++ more
    → IsLineOf bytes (match_text places n)
line_behind places list n bytes more e = record {
  before = listing places list;
  after = more;
  stands =
      e ∙ append_assoc (listing places list) (match_line places n) more
      ∙ ap (λ (bs : List ℕ). listing places list ++ bs) (line_before (match_text places n) more)
      ∙ sym (append_assoc (listing places list) (match_text places n) (10 ∷ more));
  starts = listing_ends places list;
  is_one = one_match places n;
}

-- a line of a listing is that of one of its matches
pub record MatchAt (places : Bool) (list : List Numbered) (n : ℕ) (line : List ℕ) : Type 0 where
  pub one : Numbered
  pub there : slice_get list n ≡ Some one
  pub line_is : line ≡ match_text places one

pub match_at : (places : Bool) (list : List Numbered) (n : ℕ) (line : List ℕ) → slice_get (map (match_text places) list) n ≡ Some line → MatchAt places list n line
match_at places [] n line is = absurd (none-some line is)
match_at places (one ∷ list) zero line is = record { one = one; there = refl; line_is = sym (same_Some (match_text places one) line is) }
match_at places (one ∷ list) (suc n) line is =
    let m = match_at places list n line is in record { one = m.one; there = m.there; line_is = m.line_is }

pub behind_dropped : (l n : ℕ) (list : List Numbered) (one : Numbered) → slice_get (drop l list) n ≡ Some one → slice_get list (l + n) ≡ Some one
behind_dropped zero n list one is = ap (slice_get list) (none_before n) ∙ is
  where
    none_before : (k : ℕ) → 0 + k ≡ k
    none_before k = omega arith
behind_dropped (suc l) n [] one is = absurd (none-some one is)
behind_dropped (suc l) n (x ∷ list) one is = ap (slice_get (x ∷ list)) (one_before l n) ∙ behind_dropped l n list one is
  where
    one_before : (k m : ℕ) → suc k + m ≡ suc (k + m)
    one_before k m = omega arith
