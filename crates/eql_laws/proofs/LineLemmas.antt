-- The lines of a text before and after a place.
use Rattle.std.proofs.Common.{◌≡◌, ℕ, suc, ◌+◌, Bool, true, false, cond, List, [], ◌∷◌, ◌++◌, length, refl, sym, ap, ◌∙◌, subst, arith}
use Rattle.std.specs.Prelude.{◌==◌, IsTrue}
use Rattle.std.proofs.lemmas.List.{append-nil}
use Rattle.std.proofs.Common.{length-append}
use Rattle.eql_values.specs.Lines.{Line, begin_with, lines_of, numbered_lines}
use Rattle.eql_laws.specs.Places.{ends_line, is_line_end, is_one_line, lines_after, LineIsNext, LinesGoOn, LinesStepOn, LinesAreNext, NumberedGoOn, LinesAreOne, LinesEndOn}
use Rattle.eql_laws.proofs.Facts.{both_true}
use Rattle.std.proofs.Common.{◌≢◌, append_assoc}
use Rattle.std.specs.Prelude.{not}

-- a byte goes to the first line, of which there is one
begin_one : (byte next : ℕ) (c : Bool) (lines more : List (List ℕ))
    → begin_with byte (cond c ([] ∷ lines) (begin_with next lines) ++ more) ≡ begin_with byte (cond c ([] ∷ lines) (begin_with next lines)) ++ more
begin_one byte next true lines more = refl
begin_one byte next false [] more = refl
begin_one byte next false (line ∷ lines) more = refl

one_byte : (byte : ℕ) (b : List ℕ) (c : Bool) → c ≡ true
    → cond c ([] ∷ lines_of b) (begin_with byte (lines_of b)) ≡ cond c ([] ∷ []) (begin_with byte []) ++ lines_of b
one_byte byte b true h = refl
one_byte byte b false h = cc

more_bytes : (byte next : ℕ) (c d : Bool) (whole lines more : List (List ℕ)) → whole ≡ cond d ([] ∷ lines) (begin_with next lines) ++ more
    → cond c ([] ∷ whole) (begin_with byte whole)
    ≡ cond c ([] ∷ cond d ([] ∷ lines) (begin_with next lines)) (begin_with byte (cond d ([] ∷ lines) (begin_with next lines))) ++ more
more_bytes byte next true d whole lines more e = ap (λ (l : List (List ℕ)). [] ∷ l) e
more_bytes byte next false d whole lines more e = ap (begin_with byte) e ∙ begin_one byte next d lines more

lines_on : (a b : List ℕ) → IsTrue (ends_line a) → lines_of (a ++ b) ≡ lines_of a ++ lines_of b
lines_on [] b h = refl
lines_on (byte ∷ []) b h = one_byte byte b (byte == 10) h
lines_on (byte ∷ next ∷ a) b h =
    more_bytes byte next (byte == 10) (next == 10) (lines_of (next ∷ (a ++ b))) (lines_of a) (lines_of b) (lines_on (next ∷ a) b h)

-- the bytes of lines with their line feeds
abbrev width : List (List ℕ) → ℕ
width [] = 0
width (line ∷ lines) = length line + 1 + width lines

wider : (byte : ℕ) (c : Bool) (line : List ℕ) (lines : List (List ℕ)) (n : ℕ) → width (line ∷ lines) ≡ n
    → width (cond c ([] ∷ line ∷ lines) (begin_with byte (line ∷ lines))) ≡ suc n
wider byte true line lines n h = omega (arith, h)
wider byte false line lines n h = omega (arith, h)

wider_all : (byte next : ℕ) (c d : Bool) (lines : List (List ℕ)) (n : ℕ) → width (cond d ([] ∷ lines) (begin_with next lines)) ≡ n
    → width (cond c ([] ∷ cond d ([] ∷ lines) (begin_with next lines)) (begin_with byte (cond d ([] ∷ lines) (begin_with next lines)))) ≡ suc n
wider_all byte next c true lines n h = wider byte c [] lines n h
wider_all byte next c false [] n h = wider byte c (next ∷ []) [] n h
wider_all byte next c false (line ∷ lines) n h = wider byte c (next ∷ line) lines n h

one_width : (byte : ℕ) (c : Bool) → c ≡ true → width (cond c ([] ∷ []) (begin_with byte [])) ≡ 1
one_width byte true h = refl
one_width byte false h = cc

width_is : (a : List ℕ) → IsTrue (ends_line a) → width (lines_of a) ≡ length a
width_is [] h = refl
width_is (byte ∷ []) h = one_width byte (byte == 10) h
width_is (byte ∷ next ∷ a) h = wider_all byte next (byte == 10) (next == 10) (lines_of a) (length (next ∷ a)) (width_is (next ∷ a) h)

numbered_on : (number at : ℕ) (xs ys : List (List ℕ))
    → numbered_lines number at (xs ++ ys) ≡ numbered_lines number at xs ++ numbered_lines (number + length xs) (at + width xs) ys
numbered_on number at [] ys = λ i. numbered_lines (same number i) (same at i) ys
  where
    same : (n : ℕ) → n ≡ n + 0
    same n = omega arith
numbered_on number at (line ∷ xs) ys =
    ap (λ (l : List Line). record { number = number; at = at; bytes = line } ∷ l)
    (numbered_on (number + 1) (at + length line + 1) xs ys
    ∙ ap (λ (l : List Line). numbered_lines (number + 1) (at + length line + 1) xs ++ l) (λ i. numbered_lines (one_more number (length xs) i) (wide_more at (length line) (width xs) i) ys))
  where
    one_more : (n k : ℕ) → n + 1 + k ≡ n + suc k
    one_more n k = omega arith

    wide_more : (n k w : ℕ) → n + k + 1 + w ≡ n + (k + 1 + w)
    wide_more n k w = omega arith

sum_of_three : (n k l : ℕ) (whole : ℕ) → whole ≡ k + l → n + k + l ≡ n + whole
sum_of_three n k l whole e = omega (arith, e)

-- the place after a text and the start of more that isn't empty
ends_there : (a : List ℕ) (byte : ℕ) (b c : List ℕ) → IsTrue (is_line_end a (b ++ byte ∷ c)) → IsTrue (ends_line a)
ends_there a byte [] c h = h
ends_there a byte (x ∷ b) c h = h

pub lines_step_on : LinesStepOn
lines_step_on a b [] h k =
    ap (lines_after a) (append-nil b) ∙ sym (append-nil (lines_after a b))
lines_step_on a b (byte ∷ c) h k =
    let ended : IsTrue (ends_line a) = ends_there a byte b c h in
    ap (numbered_lines (1 + length (lines_of a)) (length a)) (lines_on b (byte ∷ c) k)
    ∙ numbered_on (1 + length (lines_of a)) (length a) (lines_of b) (lines_of (byte ∷ c))
    ∙ ap (λ (l : List Line). lines_after a b ++ l) (λ i. numbered_lines
    (sum_of_three 1 (length (lines_of a)) (length (lines_of b)) (length (lines_of (a ++ b))) (ap (λ (l : List (List ℕ)). length l) (lines_on a b ended) ∙ length-append (lines_of a) (lines_of b)) i)
    ((ap (λ (w : ℕ). length a + w) (width_is b k) ∙ sym (length-append a b)) i) (lines_of (byte ∷ c)))

pub lines_go_on : LinesGoOn
lines_go_on a b h = lines_step_on [] a b (from_start (a ++ b)) h
  where
    from_start : (l : List ℕ) → IsTrue (is_line_end [] l)
    from_start [] = refl
    from_start (x ∷ l) = refl

-- one line, up to its line feed
one_line_fed : (line rest : List ℕ) → IsTrue (is_one_line line) → lines_of (line ++ 10 ∷ rest) ≡ line ∷ lines_of rest
one_line_fed [] rest h = refl
one_line_fed (byte ∷ line) rest h =
    let both = both_true _ _ h in
    no_feed byte line (lines_of (line ++ 10 ∷ rest)) (lines_of rest) (byte == 10) both.0 (one_line_fed line rest both.1)
  where
    no_feed : (byte : ℕ) (line : List ℕ) (whole lines : List (List ℕ)) (c : Bool) → not c ≡ true → whole ≡ line ∷ lines
        → cond c ([] ∷ whole) (begin_with byte whole) ≡ (byte ∷ line) ∷ lines
    no_feed byte line whole lines true n e = cc
    no_feed byte line whole lines false n e = ap (begin_with byte) e

one_line_alone : (byte : ℕ) (line : List ℕ) → IsTrue (is_one_line (byte ∷ line)) → lines_of (byte ∷ line) ≡ (byte ∷ line) ∷ []
one_line_alone byte [] h = alone (byte == 10) (both_true _ _ h).0
  where
    alone : (c : Bool) → not c ≡ true → cond c ([] ∷ []) ((byte ∷ []) ∷ []) ≡ (byte ∷ []) ∷ []
    alone true n = cc
    alone false n = refl
one_line_alone byte (next ∷ line) h =
    let both = both_true _ _ h in more (byte == 10) both.0 (lines_of (next ∷ line)) (one_line_alone next line both.1)
  where
    more : (c : Bool) → not c ≡ true → (lines : List (List ℕ)) → lines ≡ (next ∷ line) ∷ [] → cond c ([] ∷ lines) (begin_with byte lines) ≡ (byte ∷ next ∷ line) ∷ []
    more true n lines e = cc
    more false n lines e = ap (begin_with byte) e

feed_ends : (a : List ℕ) → IsTrue (ends_line (a ++ 10 ∷ []))
feed_ends [] = refl
feed_ends (byte ∷ []) = refl
feed_ends (byte ∷ next ∷ a) = feed_ends (next ∷ a)

module _ (first line rest : List ℕ) (start : IsTrue (ends_line first)) (one : IsTrue (is_one_line line)) where
  counted : length (lines_of (first ++ line ++ 10 ∷ [])) ≡ length (lines_of first) + 1
  counted =
      ap (λ (l : List ℕ). length (lines_of l)) (append_assoc first line (10 ∷ []))
      ∙ ap (λ (l : List (List ℕ)). length l) (lines_on first (line ++ 10 ∷ []) start ∙ ap (λ (l : List (List ℕ)). lines_of first ++ l) (one_line_fed line [] one))
      ∙ length-append (lines_of first) (line ∷ [])

  placed : length (first ++ line ++ 10 ∷ []) ≡ length first + length line + 1
  placed =
      let a = length-append (first ++ line) (10 ∷ []) in let b = length-append first line in omega (arith, a, b)

  next_number : 1 + length (lines_of first) + 1 ≡ 1 + length (lines_of (first ++ line ++ 10 ∷ []))
  next_number = let a = counted in omega (arith, a)

  pub next_line : LineIsNext first line rest
  next_line = record {
    with_feed =
        ap (numbered_lines (1 + length (lines_of first)) (length first)) (one_line_fed line rest one)
        ∙ ap (λ (l : List Line). record { number = 1 + length (lines_of first); at = length first; bytes = line } ∷ l)
        (λ i. numbered_lines (next_number i) (sym placed i) (lines_of rest));
    next_starts = feed_ends (first ++ line);
    last = last_is line one;
  }
    where
      last_is : (line : List ℕ) → IsTrue (is_one_line line) → line ≢ [] → lines_after first line ≡ record { number = 1 + length (lines_of first); at = length first; bytes = line } ∷ []
      last_is [] one some = absurd (some refl)
      last_is (byte ∷ line) one some = ap (numbered_lines (1 + length (lines_of first)) (length first)) (one_line_alone byte line one)

pub line_by_line : LinesAreNext
line_by_line first line rest start one = next_line first line rest start one

pub numbered_go_on : NumberedGoOn
numbered_go_on number at a [] h =
    ap (λ (l : List ℕ). numbered_lines number at (lines_of l)) (append-nil a) ∙ sym (append-nil (numbered_lines number at (lines_of a)))
numbered_go_on number at a (byte ∷ b) h =
    ap (numbered_lines number at) (lines_on a (byte ∷ b) h)
    ∙ numbered_on number at (lines_of a) (lines_of (byte ∷ b))
    ∙ ap (λ (w : ℕ). numbered_lines number at (lines_of a) ++ numbered_lines (number + length (lines_of a)) (at + w) (lines_of (byte ∷ b))) (width_is a h)

pub lines_are_one : LinesAreOne
lines_are_one line one = record { with_feed = one_line_fed line [] one; next_starts = feed_ends line; without = alone line one }
  where
    alone : (line : List ℕ) → IsTrue (is_one_line line) → line ≢ [] → lines_of line ≡ line ∷ []
    alone [] one some = absurd (some refl)
    alone (byte ∷ line) one some = one_line_alone byte line one

ends_last : (a : List ℕ) (x : ℕ) (b : List ℕ) → IsTrue (ends_line (x ∷ b)) → IsTrue (ends_line (a ++ x ∷ b))
ends_last [] x b h = h
ends_last (y ∷ []) x b h = h
ends_last (y ∷ z ∷ a) x b h = ends_last (z ∷ a) x b h

pub lines_end_on : LinesEndOn
lines_end_on a [] h k = subst (λ (l : List ℕ). IsTrue (ends_line l)) (sym (append-nil a)) h
lines_end_on a (x ∷ b) h k = ends_last a x b k
