-- The places of lines, and what is noted of them in bytes that are passed over.
use Rattle.std.proofs.Common.{◌≡◌, ◌≢◌, ◌⊎◌, inl, inr, ℕ, zero, suc, ◌+◌, ◌-◌, ◌<◌, ◌≤◌, Bool, true, false, cond, List, [], ◌∷◌, ◌++◌, length, take, drop, Option, Some, None, refl, sym, ap, ◌∙◌, subst, arith, append_assoc, length-append}
use Rattle.std.specs.Prelude.{◌==◌, ◌&&◌, not, nat_lt, All, Contains, IsTrue, IfSome}
use Rattle.std.specs.List.{slice_get, AllPairs}
use Rattle.std.specs.List.Sorted.{IsStrictlyIncreasing}
use Rattle.std.proofs.lemmas.Bool.{eqb-true, eq-eqb}
use Rattle.std.proofs.lemmas.Bool.Decides.{nat_tests}
use Rattle.std.proofs.Common.{length-drop}
use Rattle.std.proofs.lemmas.List.{append-nil, map-append, length-map, length-take-le, take-append-drop}
use Rattle.std.proofs.lemmas.List.Elements.{All-nil, All-cons, All-head, All-tail, All-push, All-weaker, All-contains, Contains-append_right, Contains-append_cases}
use Rattle.std.proofs.lemmas.List.Kept.{AllPairs-from_increasing}
use Rattle.eql_values.specs.Lines.{Line, begin_with, lines_of, numbered_lines, lines_in}
use Rattle.eql_laws.specs.Places.{ends_line, is_line_end, lines_after}
use Rattle.eql_laws.proofs.Facts.{both_true}
use Rattle.eql_laws.proofs.LineLemmas.{lines_go_on, line_by_line, lines_are_one}
use Rattle.std.proofs.Math.Seq.{take-add}
use Rattle.eql_lane.specs.Buffers.{IsOneLine, HasFeedAt}
use Rattle.eql_lane.specs.Noting.{place_among, line_place, placed_lines, whole_lines, IsWholeLine, Locates, IsMissing, Noted, is_line, is_cut, at_hand, last_line, line_ended, IsAtHand, NextIsAtHand, NotesOf}
use Rattle.eql_lane.proofs.BufferLemmas.{one_on}
use Rattle.eql_lane.proofs.FeedLines.{ends_before, lines_both, behind}

-- ---- places of lines
abbrev IsLineOf : List ℕ → ℕ → Type 0
IsLineOf text n = (1 ≤ n) × (n ≤ length (lines_of text))

next_from : (m n : ℕ) → (m == n) ≡ false → m ≤ n → m + 1 ≤ n
next_from m n other le = grind (arith, nat_tests)

first_step : (m n : ℕ) (at : ℕ) (b : Bool) (p q : ℕ) → (b ≡ false → p ≡ q) → cond b at p ≡ cond b at q
first_step m n at true p q same = refl
first_step m n at false p q same = same refl

-- the place of a line among the first ones
place_first : (m at : ℕ) (xs : List (List ℕ)) (more : List Line) (n : ℕ) → m ≤ n → n < m + length xs
    → place_among (numbered_lines m at xs ++ more) n ≡ place_among (numbered_lines m at xs) n
place_first m at [] more n le lt = absurd (omega (arith, le, lt))
place_first m at (x ∷ xs) more n le lt =
    first_step m n at (m == n) _ _ (λ no. place_first (m + 1) (at + length x + 1) xs more n (next_from m n no le) (omega (arith, lt)))

found_here : (b : Bool) (p q : ℕ) → b ≡ true → cond b p q ≡ p
found_here b p q e = ap (λ (c : Bool). cond c p q) e

not_here : (b : Bool) (p q r : ℕ) → b ≡ false → q ≡ r → cond b p q ≡ r
not_here b p q r e same = ap (λ (c : Bool). cond c p q) e ∙ same

less_not : (m n : ℕ) → m < n → (m == n) ≡ false
less_not m n lt = grind (arith, nat_tests)

same_is : (m n : ℕ) → m ≡ n → (m == n) ≡ true
same_is m n e = eq-eqb m n e

-- and the place of the next one
place_next : (m at : ℕ) (xs : List (List ℕ)) (line : Line) (more : List Line) → line.number ≡ m + length xs
    → place_among (numbered_lines m at xs ++ line ∷ more) line.number ≡ line.at
place_next m at [] line more e = found_here (line.number == line.number) line.at _ (same_is line.number line.number refl)
place_next m at (x ∷ xs) line more e =
    not_here (m == line.number) at _ line.at (less_not m line.number (omega (arith, e)))
    (place_next (m + 1) (at + length x + 1) xs line more (omega (arith, e)))

module _ (whole more : List ℕ) (ends : IsTrue (ends_line whole)) where
  goes_on : lines_in (whole ++ more) ≡ lines_in whole ++ lines_after whole more
  goes_on = lines_go_on whole more (ends_before whole more ends)

  -- the place of a line stays as the text goes on
  pub place_stays : (n : ℕ) → IsLineOf whole n → line_place (whole ++ more) n ≡ line_place whole n
  place_stays n is = ap (λ (lines : List Line). place_among lines n) goes_on ∙ place_first 1 0 (lines_of whole) (lines_after whole more) n is.0 (let a = is.1 in omega (arith, a))

  pub places_stay : (ns : List ℕ) → All (IsLineOf whole) ns → placed_lines (whole ++ more) ns ≡ placed_lines whole ns
  places_stay [] all = refl
  places_stay (n ∷ ns) all = λ i. (n, place_stays n (All-head (IsLineOf whole) n ns all) i) ∷ places_stay ns (All-tail (IsLineOf whole) n ns all) i

  line_count : length (lines_of (whole ++ more)) ≡ length (lines_of whole) + length (lines_of more)
  line_count = ap length (lines_both whole more ends) ∙ length-append (lines_of whole) (lines_of more)

-- ---- the next wanted line
next_of : (noted left : List ℕ) (wanted : List ℕ) (n : ℕ) → wanted ≡ noted ++ left → n ≡ length noted → slice_get wanted n ≡ slice_get left 0
next_of noted left wanted n e f = (λ i. slice_get (e i) (f i)) ∙ behind noted left
  where
    behind : (noted left : List ℕ) → slice_get (noted ++ left) (length noted) ≡ slice_get left 0
    behind [] left = refl
    behind (x ∷ noted) left = behind noted left

pub above : (n : ℕ) (ns : List ℕ) → AllPairs (λ (a b : ℕ). a < b) (n ∷ ns) → All (λ (m : ℕ). n < m) ns
above n ns rises k d lt = rises 0 (suc k) d (omega arith) (omega (arith, lt))

pub rest_rises : (n : ℕ) (ns : List ℕ) → AllPairs (λ (a b : ℕ). a < b) (n ∷ ns) → AllPairs (λ (a b : ℕ). a < b) ns
rest_rises n ns rises i j d less lt = rises (suc i) (suc j) d (omega (arith, less)) (omega (arith, lt))

-- ---- the start
start_hand : (left : List ℕ) (x : Noted) → x.line ≡ 1 → x.at ≡ 0 → NextIsAtHand [] [] left x
start_hand [] x line at = tt
start_hand (zero ∷ left) x line at = record { one = refl; line = line; at = at; next_is = inl refl }
start_hand (suc n ∷ left) x line at = record { one = refl; line = line; at = at; next_is = inr (omega (arith, line)) }

pub notes_start : (x : Noted) → IsStrictlyIncreasing x.wanted → x.line ≡ 1 → x.at ≡ 0 → x.passed ≡ 0 → x.places ≡ [] → NotesOf [] x
notes_start x rises line at passed places = record {
  whole = [];
  more = [];
  noted = [];
  left = x.wanted;
  parts = refl;
  ends = refl;
  passed = passed;
  wanted = refl;
  rises = AllPairs-from_increasing x.wanted rises;
  there = All-nil (IsLineOf []);
  places = places;
  hand = start_hand x.wanted x line at;
}

-- ---- the end of a line
-- whole lines and one more
module _ (whole line : List ℕ) (ends : IsTrue (ends_line whole)) (one : IsOneLine line) where
  abbrev longer : List ℕ
  longer = whole ++ (line ++ 10 ∷ [])

  after_line : lines_after whole (line ++ 10 ∷ []) ≡ record { number = 1 + length (lines_of whole); at = length whole; bytes = line } ∷ []
  after_line = (line_by_line whole line [] ends one).with_feed

  longer_ends : IsTrue (ends_line longer)
  longer_ends = subst (λ (l : List ℕ). IsTrue (ends_line l)) (append_assoc whole line (10 ∷ [])) (line_by_line whole line [] ends one).next_starts

  longer_count : length (lines_of longer) ≡ length (lines_of whole) + 1
  longer_count = line_count whole (line ++ 10 ∷ []) ends ∙ ap (λ (ls : List (List ℕ)). length (lines_of whole) + length ls) (lines_are_one line one).with_feed

  longer_place : line_place longer (1 + length (lines_of whole)) ≡ length whole
  longer_place =
      ap (λ (lines : List Line). place_among lines (1 + length (lines_of whole))) (goes_on whole (line ++ 10 ∷ []) ends ∙ ap (λ (l : List Line). lines_in whole ++ l) after_line)
      ∙ place_next 1 0 (lines_of whole) (record { number = 1 + length (lines_of whole); at = length whole; bytes = line }) [] refl

  lines_longer : (ns : List ℕ) → All (IsLineOf whole) ns → All (IsLineOf longer) ns
  lines_longer ns all = All-weaker (IsLineOf whole) (IsLineOf longer) (λ n is. (is.0, let a = is.1 in let b = longer_count in omega (arith, a, b))) ns all

  -- the line, noted behind others
  one_placed : (ns : List ℕ) (next : ℕ) → All (IsLineOf whole) ns → next ≡ 1 + length (lines_of whole) → placed_lines longer (ns ++ next ∷ []) ≡ placed_lines whole ns ++ (next, length whole) ∷ []
  one_placed ns next all e =
      map-append (λ (n : ℕ). (n, line_place longer n)) ns (next ∷ [])
      ∙ (λ i. places_stay whole (line ++ 10 ∷ []) ends ns all i ++ (next, (ap (line_place longer) e ∙ longer_place) i) ∷ [])

  one_there : (ns : List ℕ) (next : ℕ) → All (IsLineOf whole) ns → next ≡ 1 + length (lines_of whole) → All (IsLineOf longer) (ns ++ next ∷ [])
  one_there ns next all e = All-push (IsLineOf longer) ns next (lines_longer ns all) (omega (arith, e), let b = longer_count in omega (arith, e, b))

-- what is noted of the line at hand
hand_none : (x : Noted) (noted : List ℕ) → slice_get x.wanted (length x.places) ≡ None → at_hand x ≡ []
hand_none x noted e = ap (λ (o : Option ℕ). cond (is_line o x.line) ((x.line, x.at) ∷ []) []) e

hand_one : (x : Noted) (next : ℕ) → slice_get x.wanted (length x.places) ≡ Some next → (b : Bool) → (next == x.line) ≡ b → at_hand x ≡ cond b ((x.line, x.at) ∷ []) []
hand_one x next e b f = ap (λ (o : Option ℕ). cond (is_line o x.line) ((x.line, x.at) ∷ []) []) e ∙ ap (λ (c : Bool). cond c ((x.line, x.at) ∷ []) []) f

later_line : (line next : ℕ) → (next == line) ≡ false → (next ≡ 0) ⊎ (line ≤ next) → (next ≡ 0) ⊎ (line + 1 ≤ next)
later_line line next other (inl none) = inl none
later_line line next other (inr le) = inr (grind (arith, nat_tests))

module _ (x : Noted) (front line : List ℕ) (count : ℕ) (one : IsOneLine line) (counted : count ≡ length line + 1) where
  abbrev longer_front : List ℕ
  longer_front = front ++ (line ++ 10 ∷ [])

  front_length : x.passed ≡ length front → (line_ended x count).passed ≡ length longer_front
  front_length e = let a = length-append front (line ++ 10 ∷ []) in let b = length-append line (10 ∷ []) in omega (arith, e, a, b, counted)

  module _ (whole more noted : List ℕ) (parts : front ≡ whole ++ more) (ends : IsTrue (ends_line whole)) (passed : x.passed ≡ length front)
      (there : All (IsLineOf whole) noted) (places : x.places ≡ placed_lines whole noted) where
    noted_count : length x.places ≡ length noted
    noted_count = ap length places ∙ length-map noted (λ (n : ℕ). (n, line_place whole n))

    parts_on : longer_front ≡ whole ++ (more ++ (line ++ 10 ∷ []))
    parts_on = ap (λ (l : List ℕ). l ++ (line ++ 10 ∷ [])) parts ∙ append_assoc whole more (line ++ 10 ∷ [])

    -- nothing more is wanted
    line_unwanted : x.wanted ≡ noted ++ [] → NotesOf longer_front (line_ended x count)
    line_unwanted wanted = record {
      whole = whole;
      more = more ++ (line ++ 10 ∷ []);
      noted = noted;
      left = [];
      parts = parts_on;
      ends = ends;
      passed = front_length passed;
      wanted = wanted;
      rises = λ i j d less lt. absurd (omega (arith, lt));
      there = there;
      places = ap (λ (l : List (ℕ × ℕ)). x.places ++ l) (hand_none x noted (next_of noted [] x.wanted (length x.places) wanted noted_count)) ∙ append-nil x.places ∙ places;
      hand = tt;
    }

    module _ (next : ℕ) (left : List ℕ) (wanted : x.wanted ≡ noted ++ next ∷ left) (rises : AllPairs (λ (a b : ℕ). a < b) (next ∷ left)) (hand : IsAtHand whole more next x) where
      abbrev all : List ℕ
      all = longer whole (more ++ line) ends (one_on more line hand.one one)

      alone : IsOneLine (more ++ line)
      alone = one_on more line hand.one one

      next_is : slice_get x.wanted (length x.places) ≡ Some next
      next_is = next_of noted (next ∷ left) x.wanted (length x.places) wanted noted_count

      all_parts : longer_front ≡ all ++ []
      all_parts = parts_on ∙ ap (λ (l : List ℕ). whole ++ l) (sym (append_assoc more line (10 ∷ []))) ∙ sym (append-nil all)

      line_is : x.line + 1 ≡ 1 + length (lines_of all)
      line_is = let a = longer_count whole (more ++ line) ends alone in let b = hand.line in omega (arith, a, b)

      at_is : x.passed + count ≡ length all
      at_is = front_length passed ∙ ap length all_parts ∙ ap length (append-nil all)

      hand_on : (left : List ℕ) → ((n : ℕ) (ns : List ℕ) → left ≡ n ∷ ns → (n ≡ 0) ⊎ (x.line + 1 ≤ n)) → NextIsAtHand all [] left (line_ended x count)
      hand_on [] later = tt
      hand_on (n ∷ ns) later = record { one = refl; line = line_is; at = at_is; next_is = later n ns refl }

      -- the line is wanted
      line_wanted : (next == x.line) ≡ true → NotesOf longer_front (line_ended x count)
      line_wanted same =
          let e : next ≡ x.line = eqb-true next x.line same in
          let f : next ≡ 1 + length (lines_of whole) = e ∙ hand.line in
          record {
            whole = all;
            more = [];
            noted = noted ++ next ∷ [];
            left = left;
            parts = all_parts;
            ends = longer_ends whole (more ++ line) ends alone;
            passed = front_length passed;
            wanted = wanted ∙ sym (append_assoc noted (next ∷ []) left);
            rises = rest_rises next left rises;
            there = one_there whole (more ++ line) ends alone noted next there f;
            places = (λ i. places i ++ (hand_one x next next_is true same ∙ (λ j. (sym e j, hand.at j) ∷ [])) i) ∙ sym (one_placed whole (more ++ line) ends alone noted next there f);
            hand = hand_on left (λ n ns g. inr (let lt : next < n = All-head (λ (m : ℕ). next < m) n ns (subst (λ (l : List ℕ). All (λ (m : ℕ). next < m) l) g (above next left rises)) in omega (arith, lt, e)));
          }

      -- it isn't
      line_passed : (next == x.line) ≡ false → NotesOf longer_front (line_ended x count)
      line_passed other = record {
        whole = all;
        more = [];
        noted = noted;
        left = next ∷ left;
        parts = all_parts;
        ends = longer_ends whole (more ++ line) ends alone;
        passed = front_length passed;
        wanted = wanted;
        rises = rises;
        there = lines_longer whole (more ++ line) ends alone noted there;
        places = ap (λ (l : List (ℕ × ℕ)). x.places ++ l) (hand_one x next next_is false other) ∙ append-nil x.places ∙ places ∙ sym (places_stay whole ((more ++ line) ++ 10 ∷ []) ends noted there);
        hand = record { one = refl; line = line_is; at = at_is; next_is = later_line x.line next other hand.next_is };
      }

      line_by : (b : Bool) → (next == x.line) ≡ b → NotesOf longer_front (line_ended x count)
      line_by true same = line_wanted same
      line_by false other = line_passed other

    line_any : (left : List ℕ) → x.wanted ≡ noted ++ left → AllPairs (λ (a b : ℕ). a < b) left → NextIsAtHand whole more left x → NotesOf longer_front (line_ended x count)
    line_any [] wanted rises hand = line_unwanted wanted
    line_any (next ∷ left) wanted rises hand = line_by next left wanted rises hand (next == x.line) refl

  -- a line's end leaves notes of the bytes up to it
  pub line_noted : NotesOf front x → NotesOf longer_front (line_ended x count)
  line_noted n = line_any n.whole n.more n.noted n.parts n.ends n.passed n.there n.places n.left n.wanted n.rises n.hand

-- further bytes of the line at hand
more_hand : (whole more left bytes : List ℕ) (x : Noted) (passed : ℕ) → IsOneLine bytes ⊎ (slice_get left 0 ≡ None) → NextIsAtHand whole more left x
    → NextIsAtHand whole (more ++ bytes) left (record { wanted = x.wanted; line = x.line; at = x.at; passed = passed; places = x.places })
more_hand whole more [] bytes x passed one hand = tt
more_hand whole more (next ∷ left) bytes x passed (inl one) hand = record { one = one_on more bytes hand.one one; line = hand.line; at = hand.at; next_is = hand.next_is }
more_hand whole more (next ∷ left) bytes x passed (inr none) hand = cc

pub bytes_noted : (x : Noted) (front bytes : List ℕ) (passed : ℕ) → passed ≡ x.passed + length bytes → IsOneLine bytes ⊎ (slice_get x.wanted (length x.places) ≡ None) → NotesOf front x
    → NotesOf (front ++ bytes) (record { wanted = x.wanted; line = x.line; at = x.at; passed = passed; places = x.places })
bytes_noted x front bytes passed e one n =
    let next : slice_get x.wanted (length x.places) ≡ slice_get n.left 0 = next_of n.noted n.left x.wanted (length x.places) n.wanted (ap length n.places ∙ length-map n.noted (λ (k : ℕ). (k, line_place n.whole k))) in
    record {
      whole = n.whole;
      more = n.more ++ bytes;
      noted = n.noted;
      left = n.left;
      parts = ap (λ (l : List ℕ). l ++ bytes) n.parts ∙ append_assoc n.whole n.more bytes;
      ends = n.ends;
      passed = let a = length-append front bytes in let b = n.passed in omega (arith, e, a, b);
      wanted = n.wanted;
      rises = n.rises;
      there = n.there;
      places = n.places;
      hand = more_hand n.whole n.more n.left bytes x passed (elim one [ inl is ↦ inl is | inr none ↦ inr (sym next ∙ none) ]) n.hand;
    }

-- the bytes up to a line feed
drop_front : (a b : List ℕ) (n : ℕ) → n ≡ length a → drop n (a ++ b) ≡ b
drop_front a b n e = ap (λ (k : ℕ). drop k (a ++ b)) e ∙ behind a b
  where
    behind : (a b : List ℕ) → drop (length a) (a ++ b) ≡ b
    behind [] b = refl
    behind (x ∷ a) b = behind a b

pub take_line : (end : ℕ) (bytes : List ℕ) → HasFeedAt end bytes → take (end + 1) bytes ≡ take end bytes ++ 10 ∷ []
take_line end bytes feed =
    let count : end ≡ length (take end bytes) = sym (length-take-le end bytes (omega (arith, feed.within))) in
    take-add end 1 bytes ∙ ap (λ (l : List ℕ). take end bytes ++ take 1 l) (ap (drop end) feed.parts ∙ drop_front (take end bytes) (10 ∷ drop (suc end) bytes) end count)

-- one more line was passed over
pub pass_line : (x : Noted) (front bytes : List ℕ) (from end : ℕ) → HasFeedAt end (take (length bytes - from) (drop from bytes)) → NotesOf (front ++ take from bytes) x
    → NotesOf (front ++ take (from + (end + 1)) bytes) (line_ended x (end + 1))
pass_line x front bytes from end found n =
    let feed : HasFeedAt end (drop from bytes) = subst (HasFeedAt end) (behind from bytes bytes refl) found in
    let line : List ℕ = take end (drop from bytes) in
    let count : end + 1 ≡ length line + 1 = let a = length-take-le end (drop from bytes) (omega (arith, feed.within)) in omega (arith, a) in
    subst (λ (l : List ℕ). NotesOf l (line_ended x (end + 1)))
    (append_assoc front (take from bytes) (line ++ 10 ∷ []) ∙ ap (λ (l : List ℕ). front ++ l) (sym (take-add from (end + 1) bytes ∙ ap (λ (l : List ℕ). take from bytes ++ l) (take_line end (drop from bytes) feed))))
    (line_noted x (front ++ take from bytes) line (end + 1) feed.one count n)

-- and the rest, which has no line end that is to be noted
pub pass_rest : (x : Noted) (front bytes : List ℕ) (from passed : ℕ) → from ≤ length bytes → passed ≡ x.passed + (length bytes - from)
    → IsOneLine (take (length bytes - from) (drop from bytes)) ⊎ (slice_get x.wanted (length x.places) ≡ None) → NotesOf (front ++ take from bytes) x
    → NotesOf (front ++ bytes) (record { wanted = x.wanted; line = x.line; at = x.at; passed = passed; places = x.places })
pass_rest x front bytes from passed within e one n =
    subst (λ (l : List ℕ). NotesOf l (record { wanted = x.wanted; line = x.line; at = x.at; passed = passed; places = x.places }))
    (append_assoc front (take from bytes) (drop from bytes) ∙ ap (λ (l : List ℕ). front ++ l) (take-append-drop from bytes))
    (bytes_noted x (front ++ take from bytes) (drop from bytes) passed (let a = length-drop from bytes in omega (arith, e, a))
    (elim one [ inl is ↦ inl (subst IsOneLine (behind from bytes bytes refl) is) | inr none ↦ inr none ]) n)

-- ---- the end of the notes
ended_on : (whole : List ℕ) (rest : List ℕ) → IsTrue (ends_line whole) → is_line_end whole rest ≡ true
ended_on whole [] ends = refl
ended_on whole (byte ∷ rest) ends = ends

-- a line that has bytes and no line feed doesn't end a text that ends with lines
unended : (whole more : List ℕ) → IsOneLine more → more ≢ [] → ends_line (whole ++ more) ≡ false
unended [] [] one some = absurd (some refl)
unended [] (byte ∷ []) one some = not_true (byte == 10) (both_true _ _ one).0
  where
    not_true : (b : Bool) → not b ≡ true → b ≡ false
    not_true true h = sym h
    not_true false h = refl
unended [] (byte ∷ next ∷ more) one some = unended [] (next ∷ more) (both_true _ _ one).1 (λ e. cc)
unended (byte ∷ []) [] one some = absurd (some refl)
unended (byte ∷ []) (next ∷ more) one some = unended [] (next ∷ more) one some
unended (byte ∷ next ∷ whole) more one some = unended (next ∷ whole) more one some

count_by : (b : Bool) (n m : ℕ) → (b ≡ false → m + 1 ≤ n) → m ≤ n → m ≤ cond b n (n - 1)
count_by true n m less le = le
count_by false n m less le = let a = less refl in omega (arith, a)

some_lines : (more : List ℕ) → more ≢ [] → 1 ≤ length (lines_of more)
some_lines [] some = absurd (some refl)
some_lines (byte ∷ more) some = one_at_least (byte == 10) (lines_of more)
  where
    begun : (byte : ℕ) (lines : List (List ℕ)) → 1 ≤ length (begin_with byte lines)
    begun byte [] = omega arith
    begun byte (line ∷ lines) = omega arith

    one_at_least : (b : Bool) (lines : List (List ℕ)) → 1 ≤ length (cond b ([] ∷ lines) (begin_with byte lines))
    one_at_least true lines = omega arith
    one_at_least false lines = begun byte lines

is_nil : (l : List ℕ) → (l ≡ []) ⊎ (l ≢ [])
is_nil [] = inl refl
is_nil (x ∷ l) = inr (λ e. cc)

module _ (whole more rest : List ℕ) (ends : IsTrue (ends_line whole)) where
  -- no fewer whole lines than those that end with a line feed
  at_least : length (lines_of whole) ≤ whole_lines (whole ++ more) rest
  at_least = elim (is_nil more) [
    | inl none ↦ count_by (is_line_end (whole ++ more) rest) (length (lines_of (whole ++ more))) (length (lines_of whole))
        (λ no_end. let e : true ≡ false = sym (ended_on (whole ++ more) rest (subst (λ (l : List ℕ). IsTrue (ends_line (whole ++ l))) (sym none) (subst (λ (l : List ℕ). IsTrue (ends_line l)) (sym (append-nil whole)) ends))) ∙ no_end in cc)
        (let a = line_count whole more ends in omega (arith, a))
    | inr some ↦ count_by (is_line_end (whole ++ more) rest) (length (lines_of (whole ++ more))) (length (lines_of whole))
        (λ no_end. let a = line_count whole more ends in let b = some_lines more some in omega (arith, a, b)) (let a = line_count whole more ends in omega (arith, a))
  ]

  whole_there : (ns : List ℕ) → All (IsLineOf whole) ns → All (IsWholeLine (whole ++ more) rest) ns
  whole_there ns all = All-weaker (IsLineOf whole) (IsWholeLine (whole ++ more) rest) (λ n is. (is.0, let a = is.1 in let b = at_least in omega (arith, a, b))) ns all

  module _ (one : IsOneLine more) where
    count_none : more ≡ [] → whole_lines (whole ++ more) rest ≡ length (lines_of whole)
    count_none none =
        ap (λ (l : List ℕ). whole_lines (whole ++ l) rest) none ∙ ap (λ (l : List ℕ). whole_lines l rest) (append-nil whole)
        ∙ ap (λ (b : Bool). cond b (length (lines_of whole)) (length (lines_of whole) - 1)) (ended_on whole rest ends)

    count_some : more ≢ [] → length (lines_of (whole ++ more)) ≡ length (lines_of whole) + 1
    count_some some = line_count whole more ends ∙ ap (λ (ls : List (List ℕ)). length (lines_of whole) + length ls) ((lines_are_one more one).without some)

    count_cut : more ≢ [] → rest ≢ [] → whole_lines (whole ++ more) rest ≡ length (lines_of whole)
    count_cut some further =
        ap (λ (b : Bool). cond b (length (lines_of (whole ++ more))) (length (lines_of (whole ++ more)) - 1)) (not_end rest further)
        ∙ (let a = count_some some in omega (arith, a))
      where
        not_end : (rest : List ℕ) → rest ≢ [] → is_line_end (whole ++ more) rest ≡ false
        not_end [] further = absurd (further refl)
        not_end (byte ∷ rest) further = unended whole more one some

    -- and at most one more
    at_most : whole_lines (whole ++ more) rest ≤ length (lines_of whole) + 1
    at_most = elim (is_nil more) [
      | inl none ↦ let a = count_none none in omega (arith, a)
      | inr some ↦ elim (is_nil rest) [
        | inl done ↦ let a = ap (λ (l : List ℕ). whole_lines (whole ++ more) l) done in let b = count_some some in omega (arith, a, b)
        | inr further ↦ let a = count_cut some further in omega (arith, a)
      ]
    ]

    -- which is the last one of the text
    at_end : more ≢ [] → rest ≡ [] → whole_lines (whole ++ more) rest ≡ length (lines_of whole) + 1
    at_end some done = ap (λ (l : List ℕ). whole_lines (whole ++ more) l) done ∙ count_some some

module _ (x : Noted) (front rest whole more noted : List ℕ) (parts : front ≡ whole ++ more) (ends : IsTrue (ends_line whole)) (passed : x.passed ≡ length front)
    (there : All (IsLineOf whole) noted) (places : x.places ≡ placed_lines whole noted) where
  all_noted : x.wanted ≡ noted ++ [] → x.places ≡ placed_lines front noted → Locates front rest x.wanted x.places
  all_noted wanted e = record {
    whole = subst (All (IsWholeLine front rest)) (sym (wanted ∙ append-nil noted)) (subst (λ (l : List ℕ). All (IsWholeLine l rest) noted) (sym parts) (whole_there whole more rest ends noted there));
    places_are = e ∙ ap (placed_lines front) (sym (wanted ∙ append-nil noted));
  }

  in_front : x.places ≡ placed_lines front noted
  in_front = places ∙ sym (ap (λ (l : List ℕ). placed_lines l noted) parts ∙ places_stay whole more ends noted there)

  -- of the lesser wanted ones all were noted
  lesser : (next : ℕ) (left : List ℕ) → x.wanted ≡ noted ++ next ∷ left → AllPairs (λ (a b : ℕ). a < b) (next ∷ left) → (other : ℕ) → Contains x.wanted other → other < next → IsWholeLine front rest other
  lesser next left wanted rises other is lt =
      elim (Contains-append_cases noted (next ∷ left) other (subst (λ (l : List ℕ). Contains l other) wanted is)) [
        | inl before ↦ All-contains (IsWholeLine front rest) noted other (subst (λ (l : List ℕ). All (IsWholeLine l rest) noted) (sym parts) (whole_there whole more rest ends noted there)) before
        | inr later ↦ let not_less : next ≤ other = All-contains (λ (m : ℕ). next ≤ m) (next ∷ left) other (All-cons (λ (m : ℕ). next ≤ m) next left (omega arith) (All-weaker (λ (m : ℕ). next < m) (λ (m : ℕ). next ≤ m) (λ m l. omega (arith, l)) left (above next left rises))) later in
            absurd (omega (arith, lt, not_less))
      ]

  there_is : (next : ℕ) (left : List ℕ) → x.wanted ≡ noted ++ next ∷ left → Contains x.wanted next
  there_is next left wanted = subst (λ (l : List ℕ). Contains l next) (sym wanted) (Contains-append_right noted (next ∷ left) next (0, omega arith, refl))

  -- a wanted line at hand or behind it
  module _ (next : ℕ) (left : List ℕ) (ended : Bool) (wanted : x.wanted ≡ noted ++ next ∷ left) (rises : AllPairs (λ (a b : ℕ). a < b) (next ∷ left)) (hand : IsAtHand whole more next x) where
    none_more : nat_lt x.at x.passed ≡ false → more ≡ []
    none_more none = empty more (let a = hand.at in let b = ap length parts in let d = length-append whole more in let e : x.passed ≤ x.at = grind (arith, nat_tests) in omega (arith, a, b, d, e, passed))
      where
        empty : (l : List ℕ) → length l ≡ 0 → l ≡ []
        empty [] e = refl
        empty (y ∷ l) e = absurd (omega (arith, e))

    some_more : nat_lt x.at x.passed ≡ true → more ≢ []
    some_more some none = let a = hand.at in let b = ap length parts in let d = length-append whole more in let e = ap length none in let f : x.at < x.passed = grind (arith, nat_tests) in omega (arith, a, b, d, e, f, passed)

    count : ℕ
    count = length (lines_of whole)

    -- it isn't a whole line
    not_whole : (b : Bool) → (next == x.line) ≡ b → (b ≡ true → whole_lines (whole ++ more) rest ≡ length (lines_of whole)) → ¬ IsWholeLine (whole ++ more) rest next
    not_whole true same short is =
        let a = short refl in let b = eqb-true next x.line same in let d = hand.line in let e = is.1 in omega (arith, a, b, d, e)
    not_whole false other short is = elim hand.next_is [
      | inl none ↦ let a = is.0 in omega (arith, a, none)
      | inr le ↦ let a = at_most whole more rest ends hand.one in let d = hand.line in let e = is.1 in let f : x.line + 1 ≤ next = grind (arith, nat_tests) in omega (arith, a, d, e, f)
    ]

    missing_next : ¬ IsWholeLine (whole ++ more) rest next → IsMissing front rest x.wanted next
    missing_next never = record {
      is_wanted = there_is next left wanted;
      missing = subst (λ (l : List ℕ). ¬ IsWholeLine l rest next) (sym parts) never;
      least = lesser next left wanted rises;
    }

    -- the last line of the text, which was noted
    module _ (some : nat_lt x.at x.passed ≡ true) (done : rest ≡ []) (same : (next == x.line) ≡ true) where
      next_line : next ≡ length (lines_of whole) + 1
      next_line = let a = eqb-true next x.line same in let b = hand.line in omega (arith, a, b)

      is_last : whole_lines (whole ++ more) rest ≡ length (lines_of whole) + 1
      is_last = at_end whole more rest ends hand.one (some_more some) done

      last_whole : IsWholeLine (whole ++ more) rest next
      last_whole = (let a = next_line in omega (arith, a), let a = next_line in let b = is_last in omega (arith, a, b))

      last_place : line_place (whole ++ more) next ≡ x.at
      last_place =
          ap (line_place (whole ++ more)) (let a = next_line in let e : next ≡ 1 + length (lines_of whole) = omega (arith, a) in e)
          ∙ ap (λ (lines : List Line). place_among lines (1 + length (lines_of whole)))
          (goes_on whole more ends ∙ ap (λ (l : List Line). lines_in whole ++ l) ((line_by_line whole more [] ends hand.one).last (some_more some)))
          ∙ place_next 1 0 (lines_of whole) (record { number = 1 + length (lines_of whole); at = length whole; bytes = more }) [] refl ∙ sym hand.at

      located_last : left ≡ [] → Locates front rest x.wanted (x.places ++ (x.line, x.at) ∷ [])
      located_last none =
          let all : x.wanted ≡ noted ++ next ∷ [] = wanted ∙ ap (λ (l : List ℕ). noted ++ next ∷ l) none in
          record {
            whole = subst (All (IsWholeLine front rest)) (sym all)
                (subst (λ (l : List ℕ). All (IsWholeLine l rest) (noted ++ next ∷ [])) (sym parts) (All-push (IsWholeLine (whole ++ more) rest) noted next (whole_there whole more rest ends noted there) last_whole));
            places_are = (λ i. in_front i ++ (sym (eqb-true next x.line same) i, (sym last_place ∙ ap (λ (l : List ℕ). line_place l next) (sym parts)) i) ∷ [])
                ∙ sym (map-append (λ (k : ℕ). (k, line_place front k)) noted (next ∷ [])) ∙ ap (placed_lines front) (sym all);
          }

      missing_later : (later : ℕ) (others : List ℕ) → left ≡ later ∷ others → IsMissing front rest x.wanted later
      missing_later later others e =
          let all : x.wanted ≡ (noted ++ next ∷ []) ++ later ∷ others = wanted ∙ ap (λ (l : List ℕ). noted ++ next ∷ l) e ∙ sym (append_assoc noted (next ∷ []) (later ∷ others)) in
          let up : next < later = All-head (λ (m : ℕ). next < m) later others (subst (All (λ (m : ℕ). next < m)) e (above next left rises)) in
          record {
            is_wanted = subst (λ (l : List ℕ). Contains l later) (sym all) (Contains-append_right (noted ++ next ∷ []) (later ∷ others) later (0, omega arith, refl));
            missing = subst (λ (l : List ℕ). ¬ IsWholeLine l rest later) (sym parts) (λ is. let a = is.1 in let b = is_last in let d = next_line in omega (arith, a, b, d, up));
            least = λ other is lt. elim (Contains-append_cases (noted ++ next ∷ []) (later ∷ others) other (subst (λ (l : List ℕ). Contains l other) all is)) [
              | inl before ↦ subst (λ (l : List ℕ). IsWholeLine l rest other) (sym parts)
                  (All-contains (IsWholeLine (whole ++ more) rest) (noted ++ next ∷ []) other (All-push (IsWholeLine (whole ++ more) rest) noted next (whole_there whole more rest ends noted there) last_whole) before)
              | inr behind_it ↦ let not_less : later ≤ other = All-contains (λ (m : ℕ). later ≤ m) (later ∷ others) other (All-cons (λ (m : ℕ). later ≤ m) later others (omega arith) (All-weaker (λ (m : ℕ). later < m) (λ (m : ℕ). later ≤ m) (λ m l. omega (arith, l)) others (above later others (rest_rises next (later ∷ others) (subst (λ (l : List ℕ). AllPairs (λ (a b : ℕ). a < b) (next ∷ l)) e rises))))) behind_it in
                  absurd (omega (arith, lt, not_less))
            ];
          }

-- how notes end: all wanted lines were noted, or one is missing
pub record Finished (front rest : List ℕ) (x : Noted) (ended : Bool) (next : Option ℕ) (places : List (ℕ × ℕ)) : Type 0 where
  pub located : next ≡ None → Locates front rest x.wanted places
  pub missing : (ended ≡ false → rest ≡ [] → is_cut x ≡ false) → IfSome next (λ (line : ℕ). IsMissing front rest x.wanted line)

module _ (x : Noted) (front rest whole more noted : List ℕ) (parts : front ≡ whole ++ more) (ends : IsTrue (ends_line whole)) (passed : x.passed ≡ length front)
    (there : All (IsLineOf whole) noted) (places : x.places ≡ placed_lines whole noted) (ended : Bool) where
  noted_many : length x.places ≡ length noted
  noted_many = ap length places ∙ length-map noted (λ (n : ℕ). (n, line_place whole n))

  same_next : (next : Option ℕ) → x.places ++ last_line ended x ≡ x.places → next ≡ slice_get x.wanted (length (x.places ++ last_line ended x)) → next ≡ slice_get x.wanted (length x.places)
  same_next next none e = e ∙ ap (λ (l : List (ℕ × ℕ)). slice_get x.wanted (length l)) none

  finished_all : x.wanted ≡ noted ++ [] → (next : Option ℕ) → next ≡ slice_get x.wanted (length (x.places ++ last_line ended x)) → Finished front rest x ended next (x.places ++ last_line ended x)
  finished_all wanted next e =
      let none : slice_get x.wanted (length x.places) ≡ None = next_of noted [] x.wanted (length x.places) wanted noted_many in
      let no_hand : at_hand x ≡ [] = hand_none x noted none in
      let same : x.places ++ last_line ended x ≡ x.places = ap (λ (l : List (ℕ × ℕ)). x.places ++ cond (ended && nat_lt x.at x.passed) l []) no_hand ∙ empty (ended && nat_lt x.at x.passed) in
      let done : next ≡ None = same_next next same e ∙ none in
      record {
        located = λ _. subst (Locates front rest x.wanted) (sym same) (all_noted x front rest whole more noted parts ends passed there places wanted (in_front x front rest whole more noted parts ends passed there places));
        missing = λ _. subst (λ (o : Option ℕ). IfSome o (λ (line : ℕ). IsMissing front rest x.wanted line)) (sym done) tt;
      }
    where
      empty : (b : Bool) → x.places ++ cond b [] [] ≡ x.places
      empty true = append-nil x.places
      empty false = append-nil x.places

  module _ (line : ℕ) (left : List ℕ) (wanted : x.wanted ≡ noted ++ line ∷ left) (rises : AllPairs (λ (a b : ℕ). a < b) (line ∷ left)) (hand : IsAtHand whole more line x) where
    hand_is : slice_get x.wanted (length x.places) ≡ Some line
    hand_is = next_of noted (line ∷ left) x.wanted (length x.places) wanted noted_many

    -- the line at hand isn't noted
    finished_short : last_line ended x ≡ [] → ((line == x.line) ≡ true → (ended ≡ false → rest ≡ [] → is_cut x ≡ false) → whole_lines (whole ++ more) rest ≡ length (lines_of whole))
        → (next : Option ℕ) → next ≡ slice_get x.wanted (length (x.places ++ last_line ended x)) → Finished front rest x ended next (x.places ++ last_line ended x)
    finished_short none short next e =
        let next_is : next ≡ Some line = same_next next (ap (λ (l : List (ℕ × ℕ)). x.places ++ l) none ∙ append-nil x.places) e ∙ hand_is in
        record {
          located = λ n. let a = sym n ∙ next_is in cc;
          missing = λ tested. subst (λ (o : Option ℕ). IfSome o (λ (l : ℕ). IsMissing front rest x.wanted l)) (sym next_is)
              (missing_next x front rest whole more noted parts ends passed there places line left ended wanted rises hand
              (not_whole x front rest whole more noted parts ends passed there places line left ended wanted rises hand (line == x.line) refl (λ same. short same tested)));
        }

    -- it is noted
    finished_last : (ended ≡ true → rest ≡ []) → ended ≡ true → nat_lt x.at x.passed ≡ true → (line == x.line) ≡ true → last_line ended x ≡ (x.line, x.at) ∷ []
        → (next : Option ℕ) → next ≡ slice_get x.wanted (length (x.places ++ last_line ended x)) → Finished front rest x ended next (x.places ++ last_line ended x)
    finished_last at_end is_ended some same last next e =
        let more_noted : x.places ++ last_line ended x ≡ x.places ++ (x.line, x.at) ∷ [] = ap (λ (l : List (ℕ × ℕ)). x.places ++ l) last in
        let many : length (x.places ++ last_line ended x) ≡ length (noted ++ line ∷ []) =
        ap length more_noted ∙ length-append x.places ((x.line, x.at) ∷ []) ∙ ap (λ (n : ℕ). n + 1) noted_many ∙ sym (length-append noted (line ∷ [])) in
        let next_is : next ≡ slice_get left 0 = e ∙ next_of (noted ++ line ∷ []) left x.wanted (length (x.places ++ last_line ended x)) (wanted ∙ sym (append_assoc noted (line ∷ []) left)) many in
        record {
          located = λ n. subst (Locates front rest x.wanted) (sym more_noted) (located_last x front rest whole more noted parts ends passed there places line left ended wanted rises hand some (at_end is_ended) same (none_there left (sym next_is ∙ n)));
          missing = λ _. subst (λ (o : Option ℕ). IfSome o (λ (l : ℕ). IsMissing front rest x.wanted l)) (sym next_is)
              (first_missing left (λ later others f. missing_later x front rest whole more noted parts ends passed there places line left ended wanted rises hand some (at_end is_ended) same later others f));
        }
      where
        none_there : (l : List ℕ) → slice_get l 0 ≡ None → l ≡ []
        none_there [] n = refl
        none_there (y ∷ l) n = cc

        first_missing : (l : List ℕ) → ((later : ℕ) (others : List ℕ) → l ≡ later ∷ others → IsMissing front rest x.wanted later) → IfSome (slice_get l 0) (λ (k : ℕ). IsMissing front rest x.wanted k)
        first_missing [] each = tt
        first_missing (y ∷ l) each = each y l refl

    last_is : (a b c : Bool) → ended ≡ a → nat_lt x.at x.passed ≡ b → (line == x.line) ≡ c → last_line ended x ≡ cond (a && b) (cond c ((x.line, x.at) ∷ []) []) []
    last_is a b c e f h = (λ i. cond (e i && f i) (hand_one x line hand_is c h i) [])

    finished_by : (a b c : Bool) → ended ≡ a → nat_lt x.at x.passed ≡ b → (line == x.line) ≡ c → (ended ≡ true → rest ≡ [])
        → (next : Option ℕ) → next ≡ slice_get x.wanted (length (x.places ++ last_line ended x)) → Finished front rest x ended next (x.places ++ last_line ended x)
    finished_by true true true e f h at_end = finished_last at_end e f h (last_is true true true e f h)
    finished_by true true false e f h at_end = finished_short (last_is true true false e f h) (λ same. let g = sym h ∙ same in cc)
    finished_by true false c e f h at_end = finished_short (last_is true false c e f h) (λ _ _. count_none whole more rest ends hand.one (none_more x front rest whole more noted parts ends passed there places line left ended wanted rises hand f))
    finished_by false b c e f h at_end = finished_short (last_is false b c e f h) (λ same tested. by_rest (is_nil rest) same tested)
      where
        cut_is : (line == x.line) ≡ true → (d : Bool) → nat_lt x.at x.passed ≡ d → is_cut x ≡ d
        cut_is same true g = (λ i. g i && is_line (hand_is i) x.line) ∙ same
        cut_is same false g = (λ i. g i && is_line (hand_is i) x.line)

        by_more : (d : Bool) → nat_lt x.at x.passed ≡ d → (line == x.line) ≡ true → rest ≡ [] → is_cut x ≡ false → whole_lines (whole ++ more) rest ≡ length (lines_of whole)
        by_more true g same done no_cut = let k = sym (cut_is same true g) ∙ no_cut in cc
        by_more false g same done no_cut = count_none whole more rest ends hand.one (none_more x front rest whole more noted parts ends passed there places line left ended wanted rises hand g)

        by_rest : (rest ≡ []) ⊎ (rest ≢ []) → (line == x.line) ≡ true → (ended ≡ false → rest ≡ [] → is_cut x ≡ false) → whole_lines (whole ++ more) rest ≡ length (lines_of whole)
        by_rest (inl done) same tested = by_more (nat_lt x.at x.passed) refl same done (tested e done)
        by_rest (inr further) same tested = elim (is_nil more) [
          | inl none ↦ count_none whole more rest ends hand.one none
          | inr some ↦ count_cut whole more rest ends hand.one some further
        ]

  finished_any : (left : List ℕ) → x.wanted ≡ noted ++ left → AllPairs (λ (a b : ℕ). a < b) left → NextIsAtHand whole more left x → (ended ≡ true → rest ≡ [])
      → (next : Option ℕ) → next ≡ slice_get x.wanted (length (x.places ++ last_line ended x)) → Finished front rest x ended next (x.places ++ last_line ended x)
  finished_any [] wanted rises hand at_end = finished_all wanted
  finished_any (line ∷ left) wanted rises hand at_end = finished_by line left wanted rises hand ended (nat_lt x.at x.passed) (line == x.line) refl refl refl at_end

pub finished : (x : Noted) (front rest : List ℕ) (ended : Bool) (next : Option ℕ) (y : Noted) → NotesOf front x → (ended ≡ true → rest ≡ []) → next ≡ slice_get y.wanted (length y.places)
    → y ≡ record { wanted = x.wanted; line = x.line; at = x.at; passed = x.passed; places = x.places ++ last_line ended x } → Finished front rest x ended next y.places
finished x front rest ended next y n at_end e same =
    subst (Finished front rest x ended next) (sym (ap (λ (z : Noted). z.places) same))
    (finished_any x front rest n.whole n.more n.noted n.parts n.ends n.passed n.there n.places ended n.left n.wanted n.rises n.hand at_end next (e ∙ ap (λ (z : Noted). slice_get z.wanted (length z.places)) same))
