-- What runs list together that follow one another.
use Rattle.std.proofs.Common.{◌≡◌, ◌≢◌, ◌≤◌, ◌<◌, ◌+◌, ◌-◌, ◌/◌, ◌%◌, ◌==◌, ℕ, zero, suc, Bool, true, false, cond, List, [], ◌∷◌, ◌++◌, Some, length, take, drop, refl, sym, ap, subst, ◌∙◌, arith, append_assoc, inl, inr, ◌⊎◌}
use Rattle.std.specs.Prelude.{All, flat_map, nat_lt}
use Rattle.std.specs.Fmt.{decimal, digits, digits_onto, digit_glyph}
use Rattle.std.specs.List.{Any, slice_get}
use Rattle.std.proofs.lemmas.Bool.{cases_lt}
use Rattle.std.proofs.lemmas.Fmt.{decimal_injective}
use Rattle.std.proofs.lemmas.Grind.{flat_map-append}
use Rattle.std.proofs.lemmas.List.{append-nil, append_cancel_left, take_all}
use Rattle.std.proofs.lemmas.List.Elements.{All-nil, All-cons, All-head, All-tail, All-take, All-drop}
use Rattle.std.proofs.lemmas.Option.{none-some, same_Some}
use Rattle.eql_values.specs.declared.cut.Pipe.{Pipe}
use Rattle.eql_values.specs.declared.cut.Pipe.TheVariants as pipe
use Rattle.eql_values.specs.declared.found.Match.{Match}
use Rattle.eql_values.specs.declared.found.Numbered.{Numbered}
use Rattle.eql_values.specs.Numbering.{numbered_from, numbered_matches, pipe_output, through}
use Rattle.eql_laws.specs.Books.{NumbersAscend}
use Rattle.eql_book.specs.Listing.{event_text, key_text, match_line, match_text, listing}
use Rattle.eql_cut.specs.declared.cut.Cut.{Cut}
use Rattle.eql_runs.specs.Composing.{FollowOn, HasNumber, IsFront, IsLineOf, IsListedLine, Leaves, Ran, Stopped, ListsFront, WroteTo, what_was, a_new_cut}
use Rattle.eql_runs.specs.Composing as law
use Rattle.eql_runs.specs.Runs.{WroteCounted}
use Rattle.eql_runs.specs.Searches.{Search, listed_of, matches_of, pipes_of, rest_of}
use Rattle.eql_runs.specs.Starts.{listed_on}
use Rattle.eql_runs.proofs.ListingLines.{behind_dropped, line_among, line_behind, line_of_front, listing_lines, match_at}

-- ---- every line
-- what stands between two places goes on at the end
going_on : (l k m : ℕ) (list : List Numbered) → k ≤ m → (rest : List Numbered) × (drop l (take m list) ≡ drop l (take k list) ++ rest)
going_on zero zero m list h = (take m list, refl)
going_on zero (suc k) zero list h = absurd (omega (arith, h))
going_on zero (suc k) (suc m) [] h = ([], refl)
going_on zero (suc k) (suc m) (x ∷ list) h =
    let r = going_on zero k m list (omega (arith, h)) in (r.0, ap (λ (xs : List Numbered). x ∷ xs) r.1)
going_on (suc l) zero m list h = (drop (suc l) (take m list), refl)
going_on (suc l) (suc k) zero list h = absurd (omega (arith, h))
going_on (suc l) (suc k) (suc m) [] h = ([], refl)
going_on (suc l) (suc k) (suc m) (x ∷ list) h = going_on l k m list (omega (arith, h))

-- the one at a place is the last of those up to it
last_at : (l n : ℕ) (list : List Numbered) (one : Numbered) → l ≤ n → slice_get list n ≡ Some one
    → drop l (take (suc n) list) ≡ drop l (take n list) ++ one ∷ []
last_at l n [] one h is = absurd (none-some one is)
last_at zero zero (x ∷ list) one h is = ap (λ (y : Numbered). y ∷ []) (same_Some x one is)
last_at zero (suc n) (x ∷ list) one h is = ap (λ (xs : List Numbered). x ∷ xs) (last_at zero n list one (omega arith) is)
last_at (suc l) zero (x ∷ list) one h is = absurd (omega (arith, h))
last_at (suc l) (suc n) (x ∷ list) one h is = last_at l n list one (omega (arith, h)) is

listing_one : (places : Bool) (list : List Numbered) (one : Numbered) → listing places (list ++ one ∷ []) ≡ listing places list ++ match_line places one
listing_one places list one =
    flat_map-append (match_line places) list (one ∷ []) ∙ ap (λ (bs : List ℕ). listing places list ++ bs) (append-nil (match_line places one))

front_of_front : (places : Bool) (front rest all : List Numbered) (bytes more : List ℕ) → all ≡ front ++ rest → bytes ≡ listing places all ++ more
    → IsFront (listing places front) bytes
front_of_front places front rest all bytes more e is = (
  listing places rest ++ more,
  is ∙ ap (λ (xs : List Numbered). listing places xs ++ more) e ∙ ap (λ (bs : List ℕ). bs ++ more) (flat_map-append (match_line places) front rest)
      ∙ append_assoc (listing places front) (listing places rest) more,
)

module _ (search : Search) (texts : List (List ℕ)) where
  abbrev lines : List Numbered
  lines = listed_of search texts

  -- a run that wrote the lines up to a place wrote each of them
  wrote_to : (ran : Ran) (n m : ℕ) (more : List ℕ) → listed_on ran.began ≤ n → n < m
      → ran.wrote ≡ listing search.places (drop (listed_on ran.began) (take m lines)) ++ more → WroteTo search texts n ran
  wrote_to ran n m more begun within is = record { begun = begun; front = front; line = line }
    where
      front : IsFront (listing search.places (drop (listed_on ran.began) (take (n + 1) lines))) ran.wrote
      front =
          let g = going_on (listed_on ran.began) (n + 1) m lines (omega (arith, within)) in
          front_of_front search.places (drop (listed_on ran.began) (take (n + 1) lines)) g.0 (drop (listed_on ran.began) (take m lines)) ran.wrote more g.1 is

      line : (one : Numbered) → slice_get lines n ≡ Some one → IsLineOf ran.wrote (match_text search.places one)
      line one there =
          let next : n + 1 ≡ suc n = omega arith in
          line_behind search.places (drop (listed_on ran.began) (take n lines)) one ran.wrote front.0
          (front.1 ∙ ap (λ (k : ℕ). listing search.places (drop (listed_on ran.began) (take k lines)) ++ front.0) next
          ∙ ap (λ (xs : List Numbered). listing search.places xs ++ front.0) (last_at (listed_on ran.began) n lines one begun there)
          ∙ ap (λ (bs : List ℕ). bs ++ front.0) (listing_one search.places (drop (listed_on ran.began) (take n lines)) one))

  -- one that is done wrote all of them
  done_wrote : (ran : Ran) (n : ℕ) → listed_on ran.began ≤ n → n < length lines → law.IsDone search texts ran → WroteTo search texts n ran
  done_wrote ran n begun within done =
      wrote_to ran n (length lines) [] begun within
      (done ∙ ap (λ (xs : List Numbered). listing search.places (drop (listed_on ran.began) xs)) (sym (take_all (length lines) lines (omega arith)))
      ∙ sym (append-nil (listing search.places (drop (listed_on ran.began) (take (length lines) lines)))))

  any_next : (P : Ran → Type 0) (first : Ran) (runs : List Ran) → Any P runs → Any P (first ∷ runs)
  any_next P first runs h = (suc h.0, h.1, omega (arith, h.2), h.3, h.4)

  any_first : (P : Ran → Type 0) (first : Ran) (runs : List Ran) → P first → Any P (first ∷ runs)
  any_first P first runs h = (0, first, omega arith, refl, h)

  row_line : (n : ℕ) (first next : Ran) (runs : List Ran) → Stopped search texts first → next.began ≡ first.left → listed_on first.began ≤ n
      → (listed_on next.began ≤ n → Any (WroteTo search texts n) (next ∷ runs)) → Any (WroteTo search texts n) (first ∷ next ∷ runs)
  row_line n first next runs stopped follows begun rest = by stopped.leaves
    where
      onward : listed_on next.began ≤ n → Any (WroteTo search texts n) (first ∷ next ∷ runs)
      onward from = any_next (WroteTo search texts n) first (next ∷ runs) (rest from)

      at_cut : (cut : Cut) (before : List ℕ) → listed_on next.began ≡ cut.book.listed
          → WroteCounted search texts (listed_on first.began) (Some before) (Some (before ++ first.wrote)) cut
          → (n < cut.book.listed) ⊎ (cut.book.listed ≤ n) → Any (WroteTo search texts n) (first ∷ next ∷ runs)
      at_cut cut before e wrote (inl less) =
          let counted = listing search.places (drop (listed_on first.began) (take cut.book.listed lines)) in
          any_first (WroteTo search texts n) first (next ∷ runs)
          (wrote_to first n cut.book.listed wrote.0 begun less
          (append_cancel_left before first.wrote (counted ++ wrote.0)
          (same_Some (before ++ first.wrote) ((before ++ counted) ++ wrote.0) wrote.1 ∙ append_assoc before counted wrote.0)))
      at_cut cut before e wrote (inr behind) = onward (omega (arith, e, behind))

      by : Leaves search texts first → Any (WroteTo search texts n) (first ∷ next ∷ runs)
      by (what_was left) = let e : listed_on next.began ≡ listed_on first.began = ap listed_on (follows ∙ left) in onward (omega (arith, e, begun))
      by (a_new_cut format generation cut before left wrote) = at_cut cut before (ap listed_on (follows ∙ left)) wrote (cases_lt n cut.book.listed)

  every_line : (first : Ran) (runs : List Ran) → FollowOn search texts first runs → (n : ℕ) → listed_on first.began ≤ n → n < length lines
      → Any (WroteTo search texts n) (first ∷ runs)
  every_line first [] done n begun within = any_first (WroteTo search texts n) first [] (done_wrote first n begun within done)
  every_line first (next ∷ runs) row n begun within =
      row_line n first next runs row.0 row.1 begun (λ from. every_line next runs row.2 n from within)

  -- ---- no other line
  only_lines : (ran : Ran) (line : List ℕ) → ListsFront search texts ran → IsLineOf ran.wrote line → IsListedLine search texts line
  only_lines ran line front is =
      let from = listed_on ran.began in
      let at = line_among (rest_of search from texts) line (line_of_front ran.wrote (rest_of search from texts) front.0 line front.1 is) in
      let m = match_at search.places (drop from lines) at.0 line (ap (λ (ls : List (List ℕ)). slice_get ls at.0) (sym (listing_lines search.places (drop from lines))) ∙ at.1) in
      record { n = from + at.0; one = m.one; there = behind_dropped from at.0 lines m.one m.there; line_is = m.line_is }

pub every_line_is_listed : law.EveryLineIsListed
every_line_is_listed = every_line

pub only_lines_are_listed : law.OnlyLinesAreListed
only_lines_are_listed = only_lines

-- ---- numbers
-- a number is spelt without a space
abbrev NoSpace : List ℕ → Type 0
NoSpace [] = Unit {0}
NoSpace (c ∷ cs) = (c ≢ 32) × NoSpace cs

no_space_if : (c : Bool) (a b : List ℕ) → NoSpace a → NoSpace b → NoSpace (cond c a b)
no_space_if true a b p q = p
no_space_if false a b p q = q

digit : (c : Bool) (d : ℕ) → cond c (48 + d) (87 + d) ≢ 32
digit true d e = omega (arith, e)
digit false d e = omega (arith, e)

digits_without : (k n : ℕ) (more : List ℕ) → NoSpace more → NoSpace (digits_onto k 10 false n more)
digits_without zero n more none = none
digits_without (suc k) n more none =
    let begun : NoSpace (digit_glyph false (n % 10) ∷ more) = (digit (nat_lt (n % 10) 10) (n % 10), none) in
    no_space_if (n / 10 == 0) (digit_glyph false (n % 10) ∷ more) (digits_onto k 10 false (n / 10) (digit_glyph false (n % 10) ∷ more)) begun
    (digits_without k (n / 10) (digit_glyph false (n % 10) ∷ more) begun)

number_without : (n : ℕ) → NoSpace (decimal n)
unfolding digits
number_without n = digits_without 64 n [] tt

first_or : List ℕ → ℕ
first_or [] = 0
first_or (x ∷ xs) = x

behind_first : List ℕ → List ℕ
behind_first [] = []
behind_first (x ∷ xs) = xs

-- so what stands before the first space is one thing
up_to_space : (a b more rest : List ℕ) → NoSpace a → NoSpace b → a ++ 32 ∷ more ≡ b ++ 32 ∷ rest → a ≡ b
unfolding first_or behind_first
up_to_space [] [] more rest p q e = refl
up_to_space [] (y ∷ b) more rest p q e = absurd (q.0 (sym (ap first_or e)))
up_to_space (x ∷ a) [] more rest p q e = absurd (p.0 (ap first_or e))
up_to_space (x ∷ a) (y ∷ b) more rest p q e =
    let same = ap first_or e in
    let others = up_to_space a b more rest p.1 q.1 (ap behind_first e) in
    λ i. same i ∷ others i

-- the number of a line is that of its match
number_of_match : (places : Bool) (one : Numbered) → HasNumber (match_text places one) one.number
unfolding lib.Utf8.encode
number_of_match places one =
    let key = key_text one.found.key in
    let events = flat_map (event_text places) one.found.chain in
    (key ++ events, append_assoc (decimal one.number ++ 32 ∷ []) key events ∙ append_assoc (decimal one.number) (32 ∷ []) (key ++ events))

one_number : (places : Bool) (one : Numbered) (line : List ℕ) (number : ℕ) → line ≡ match_text places one → HasNumber line number → decimal one.number ≡ decimal number
one_number places one line number is has =
    let own = number_of_match places one in
    up_to_space (decimal one.number) (decimal number) own.0 has.0 (number_without one.number) (number_without number) (sym own.1 ∙ sym is ∙ has.1)

-- numbers ascend, and none is greater than the number of matches
abbrev UpTo : ℕ → Numbered → Type 0
UpTo found one = one.number ≤ found

abbrev Below : ℕ → Numbered → Type 0
Below number one = number < one.number

record Stand (found : ℕ) (list : List Numbered) : Type 0 where
  ascend : NumbersAscend list
  few : All (UpTo found) list

ascend_take : (n : ℕ) (list : List Numbered) → NumbersAscend list → NumbersAscend (take n list)
ascend_take zero list h = tt
ascend_take (suc n) [] h = tt
ascend_take (suc n) (x ∷ list) h = (All-take (Below x.number) n list h.0, ascend_take n list h.1)

ascend_drop : (n : ℕ) (list : List Numbered) → NumbersAscend list → NumbersAscend (drop n list)
ascend_drop zero list h = h
ascend_drop (suc n) [] h = tt
ascend_drop (suc n) (x ∷ list) h = ascend_drop n list h.1

stand_through : (found : ℕ) (p : Pipe) (list : List Numbered) → Stand found list → Stand found (through p list)
stand_through found (pipe.Head count) list h = record { ascend = ascend_take count list h.ascend; few = All-take (UpTo found) count list h.few }
stand_through found (pipe.Tail count) list h =
    record { ascend = ascend_drop (length list - count) list h.ascend; few = All-drop (UpTo found) (length list - count) list h.few }

stand_piped : (found : ℕ) (pipes : List Pipe) (list : List Numbered) → Stand found list → Stand found (pipe_output pipes list)
stand_piped found [] list h = h
stand_piped found (p ∷ pipes) list h = stand_piped found pipes (through p list) (stand_through found p list h)

numbers_after : (k n : ℕ) (found : List Match) → k < n → All (Below k) (numbered_from n found)
numbers_after k n [] less = All-nil (Below k)
numbers_after k n (m ∷ found) less =
    All-cons (Below k) (record { number = n; found = m }) (numbered_from (n + 1) found) less (numbers_after k (n + 1) found (omega (arith, less)))

numbers_ascend : (n : ℕ) (found : List Match) → NumbersAscend (numbered_from n found)
numbers_ascend n [] = tt
numbers_ascend n (m ∷ found) = (numbers_after n (n + 1) found (omega arith), numbers_ascend (n + 1) found)

numbers_to : (total n : ℕ) (found : List Match) → n + length found ≤ total + 1 → All (UpTo total) (numbered_from n found)
numbers_to total n [] h = All-nil (UpTo total)
numbers_to total n (m ∷ found) h =
    All-cons (UpTo total) (record { number = n; found = m }) (numbered_from (n + 1) found) (omega (arith, h)) (numbers_to total (n + 1) found (omega (arith, h)))

numbers_stand : (search : Search) (texts : List (List ℕ)) → Stand (length (matches_of search texts)) (listed_of search texts)
numbers_stand search texts =
    let found = matches_of search texts in
    stand_piped (length found) (pipes_of search) (numbered_matches found)
    (record { ascend = numbers_ascend 1 found; few = numbers_to (length found) 1 found (omega arith) })

all_at : (P : Numbered → Type 0) (list : List Numbered) (n : ℕ) (one : Numbered) → All P list → slice_get list n ≡ Some one → P one
all_at P [] n one all is = absurd (none-some one is)
all_at P (x ∷ list) zero one all is = subst P (same_Some x one is) (All-head P x list all)
all_at P (x ∷ list) (suc n) one all is = all_at P list n one (All-tail P x list all) is

-- so two of one number are one
one_of_number : (list : List Numbered) → NumbersAscend list → (i j : ℕ) (a b : Numbered) → slice_get list i ≡ Some a → slice_get list j ≡ Some b
    → a.number ≡ b.number → a ≡ b
one_of_number [] up i j a b is also e = absurd (none-some a is)
one_of_number (x ∷ list) up zero zero a b is also e = sym (same_Some x a is) ∙ same_Some x b also
one_of_number (x ∷ list) up zero (suc j) a b is also e =
    let same = ap Numbered.number (same_Some x a is) in
    let less : x.number < b.number = all_at (Below x.number) list j b up.0 also in absurd (omega (arith, same, less, e))
one_of_number (x ∷ list) up (suc i) zero a b is also e =
    let same = ap Numbered.number (same_Some x b also) in
    let less : x.number < a.number = all_at (Below x.number) list i a up.0 is in absurd (omega (arith, same, less, e))
one_of_number (x ∷ list) up (suc i) (suc j) a b is also e = one_of_number list up.1 i j a b is also e

pub equal_numbers_equal_lines : law.EqualNumbersEqualLines
equal_numbers_equal_lines search texts few ran other front fore line beside is also number has have =
    let stand = numbers_stand search texts in
    let a = only_lines search texts ran line front is in
    let b = only_lines search texts other beside fore also in
    let a_to : a.one.number ≤ length (matches_of search texts) = all_at (UpTo (length (matches_of search texts))) (listed_of search texts) a.n a.one stand.few a.there in
    let b_to : b.one.number ≤ length (matches_of search texts) = all_at (UpTo (length (matches_of search texts))) (listed_of search texts) b.n b.one stand.few b.there in
    let same : a.one.number ≡ b.one.number =
    decimal_injective a.one.number b.one.number (omega (arith, a_to, few)) (omega (arith, b_to, few))
    (one_number search.places a.one line number a.line_is has ∙ sym (one_number search.places b.one beside number b.line_is have)) in
    a.line_is ∙ ap (match_text search.places) (one_of_number (listed_of search texts) stand.ascend a.n b.n a.one b.one a.there b.there same) ∙ sym b.line_is
