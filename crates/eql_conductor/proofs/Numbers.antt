-- What pipes keep stands in order of its numbers, also once more matches were found.
use Rattle.std.proofs.Common.{◌≡◌, ℕ, zero, suc, ◌+◌, ◌-◌, ◌^◌, ◌<◌, ◌≤◌, List, [], ◌∷◌, ◌++◌, length, take, drop, refl, ap, ◌∙◌, arith, All}
use Rattle.std.specs.Prelude.{min}
use Rattle.std.specs.List.{AllZip}
use Rattle.std.proofs.lemmas.List.{append-nil}
use Rattle.std.proofs.lemmas.List.Elements.{All-nil, All-cons, All-head, All-tail, All-append, All-take, All-drop, All-weaker}
use Rattle.eql_values.specs.declared.found.Match.{Match}
use Rattle.eql_values.specs.declared.found.Numbered.{Numbered}
use Rattle.eql_values.specs.declared.cut.BookCut.{BookCut}
use Rattle.eql_values.specs.declared.cut.Pipe.{Pipe}
use Rattle.eql_values.specs.declared.cut.Pipe.TheVariants as pipe
use Rattle.eql_values.specs.declared.cut.PipeState.{PipeState}
use Rattle.eql_values.specs.declared.cut.PipeState.TheVariants as state
use Rattle.eql_values.specs.Numbering.{numbered_from, through}
use Rattle.eql_laws.specs.Books.{NumbersAscend}
use Rattle.eql_laws.specs.Resuming.{book_from, emitted_from, let_through, numbered_after, state_from, states_from}
use Rattle.eql_book.specs.Books.{BookState, FitsPipe, FitsPipes, book_after, countable_matches, let_out}
use Rattle.eql_conductor.specs.Saving.{BookKeepsNumbers, KeepsNumbers}

-- ---- numbers that ascend
abbrev Below : ℕ → Numbered → Type 0
Below n m = n < m.number

abbrev UpTo : ℕ → Numbered → Type 0
UpTo n m = m.number ≤ n

ascend_append : (found : ℕ) (a b : List Numbered) → NumbersAscend a → All (UpTo found) a → NumbersAscend b → All (Below found) b → NumbersAscend (a ++ b)
ascend_append found [] b ha la hb gb = hb
ascend_append found (x ∷ a) b ha la hb gb = (
  All-append (λ (next : Numbered). x.number < next.number) a b ha.0
      (All-weaker (Below found) (λ (next : Numbered). x.number < next.number) (λ m h. let k = All-head (UpTo found) x a la in omega (arith, h, k)) b gb),
  ascend_append found a b ha.1 (All-tail (UpTo found) x a la) hb gb,
)

ascend_drop : (n : ℕ) (a : List Numbered) → NumbersAscend a → NumbersAscend (drop n a)
ascend_drop zero a h = h
ascend_drop (suc n) [] h = tt
ascend_drop (suc n) (x ∷ a) h = ascend_drop n a h.1

ascend_take : (n : ℕ) (a : List Numbered) → NumbersAscend a → NumbersAscend (take n a)
ascend_take zero a h = tt
ascend_take (suc n) [] h = tt
ascend_take (suc n) (x ∷ a) h = (All-take (λ (next : Numbered). x.number < next.number) n a h.0, ascend_take n a h.1)

numbered_above : (n k : ℕ) (found : List Match) → k < n → All (Below k) (numbered_from n found)
numbered_above n k [] lt = All-nil (Below k)
numbered_above n k (m ∷ found) lt = All-cons (Below k) (record { number = n; found = m }) (numbered_from (n + 1) found) lt (numbered_above (n + 1) k found (omega (arith, lt)))

numbered_up_to : (n k : ℕ) (found : List Match) → n + length found ≤ k + 1 → All (UpTo k) (numbered_from n found)
numbered_up_to n k [] le = All-nil (UpTo k)
numbered_up_to n k (m ∷ found) le =
    All-cons (UpTo k) (record { number = n; found = m }) (numbered_from (n + 1) found) (omega (arith, le)) (numbered_up_to (n + 1) k found (omega (arith, le)))

numbered_ascend : (n : ℕ) (found : List Match) → NumbersAscend (numbered_from n found)
numbered_ascend n [] = tt
numbered_ascend n (m ∷ found) = (numbered_above (n + 1) n found (omega arith), numbered_ascend (n + 1) found)

-- ---- pipes
-- further matches, whose numbers lie between these
record IsMore (found now : ℕ) (more : List Numbered) : Type 0 where
  ascend : NumbersAscend more
  above : All (Below found) more
  to : All (UpTo now) more

more_take : (found now n : ℕ) (more : List Numbered) → IsMore found now more → IsMore found now (take n more)
more_take found now n more h = record {
  ascend = ascend_take n more h.ascend;
  above = All-take (Below found) n more h.above;
  to = All-take (UpTo now) n more h.to;
}

more_none : (found now : ℕ) → IsMore found now []
more_none found now = record { ascend = tt; above = All-nil (Below found); to = All-nil (UpTo now) }

more_through : (found now : ℕ) (p : Pipe) (s : PipeState) (more : List Numbered) → IsMore found now more → IsMore found now (let_through p s more)
more_through found now (pipe.Head count) (state.Head passed) more h = more_take found now (count - passed) more h
more_through found now (pipe.Head count) (state.Tail kept) more h = more_none found now
more_through found now (pipe.Tail count) s more h = more_none found now

to_more : (found now : ℕ) (a : List Numbered) → found ≤ now → All (UpTo found) a → All (UpTo now) a
to_more found now a le h = All-weaker (UpTo found) (UpTo now) (λ m k. omega (arith, le, k)) a h

none_kept : (now passed : ℕ) → KeepsNumbers now (state.Head passed)
none_kept now passed = record { ascend = tt; found_to = All-nil (UpTo now) }

state_keeps : (found now : ℕ) (p : Pipe) (s : PipeState) (more : List Numbered) → found ≤ now → IsMore found now more → KeepsNumbers found s → KeepsNumbers now (state_from p s more)
state_keeps found now (pipe.Head count) (state.Head passed) more le m h = none_kept now (min count (passed + length more))
state_keeps found now (pipe.Head count) (state.Tail kept) more le m h = record { ascend = h.ascend; found_to = to_more found now kept le h.found_to }
state_keeps found now (pipe.Tail count) (state.Head passed) more le m h = none_kept now passed
state_keeps found now (pipe.Tail count) (state.Tail kept) more le m h =
    let n : ℕ = length (kept ++ more) - count in record {
      ascend = ascend_drop n (kept ++ more) (ascend_append found kept more h.ascend h.found_to m.ascend m.above);
      found_to = All-drop (UpTo now) n (kept ++ more) (All-append (UpTo now) kept more (to_more found now kept le h.found_to) m.to);
    }

states_keep : (found now : ℕ) (pipes : List Pipe) (seen : List PipeState) (more : List Numbered) → found ≤ now → IsMore found now more
    → All (KeepsNumbers found) seen → All (KeepsNumbers now) (states_from pipes seen more)
states_keep found now [] seen more le m h = All-nil (KeepsNumbers now)
states_keep found now (p ∷ pipes) [] more le m h = All-nil (KeepsNumbers now)
states_keep found now (p ∷ pipes) (s ∷ seen) more le m h =
    All-cons (KeepsNumbers now) (state_from p s more) (states_from pipes seen (let_through p s more))
    (state_keeps found now p s more le m (All-head (KeepsNumbers found) s seen h))
    (states_keep found now pipes seen (let_through p s more) le (more_through found now p s more m) (All-tail (KeepsNumbers found) s seen h))

pub numbers_kept : (book : BookState) (more : List Match) → BookKeepsNumbers book.kept → BookKeepsNumbers (book_after book more).kept
numbers_kept book more h =
    let fresh : List Match = countable_matches book.kept more in
    let found : ℕ = book.kept.found in
    states_keep found (found + length fresh) book.pipes book.kept.pipes (numbered_after book.kept fresh) (omega arith)
    (record {
      ascend = numbered_ascend (found + 1) fresh;
      above = numbered_above (found + 1) found fresh (omega arith);
      to = numbered_up_to (found + 1) (found + length fresh) fresh (omega arith);
    }) h

-- ---- no more matches
none_counted : (n : ℕ) → take n (let none : List Match = [] in none) ≡ []
none_counted zero = refl
none_counted (suc n) = refl

none_taken : (n : ℕ) → take n (let none : List Numbered = [] in none) ≡ []
none_taken zero = refl
none_taken (suc n) = refl

none_through : (p : Pipe) (s : PipeState) → let_through p s [] ≡ []
none_through (pipe.Head count) (state.Head passed) = none_taken (count - passed)
none_through (pipe.Head count) (state.Tail kept) = refl
none_through (pipe.Tail count) s = refl

drop_none : (n : ℕ) (a : List Numbered) → n ≡ 0 → drop n a ≡ a
drop_none n a e = ap (λ (k : ℕ). drop k a) e

state_stays : (p : Pipe) (s : PipeState) → FitsPipe p s → state_from p s [] ≡ s
state_stays (pipe.Head count) (state.Head passed) h = let same : min count (passed + 0) ≡ passed = omega (arith, h) in ap state.Head same
state_stays (pipe.Head count) (state.Tail kept) h = refl
state_stays (pipe.Tail count) (state.Head passed) h = refl
state_stays (pipe.Tail count) (state.Tail kept) h =
    ap state.Tail (ap (through (pipe.Tail count)) (append-nil kept) ∙ drop_none (length kept - count) kept (omega (arith, h)))

states_stay : (pipes : List Pipe) (seen : List PipeState) → AllZip FitsPipe pipes seen → states_from pipes seen [] ≡ seen
states_stay [] [] h = refl
states_stay (p ∷ pipes) (s ∷ seen) h =
    (λ i. state_stays p s h.0 i ∷ states_from pipes seen (none_through p s i)) ∙ ap (λ (l : List PipeState). s ∷ l) (states_stay pipes seen h.1)
states_stay [] (s ∷ seen) h = absurd h
states_stay (p ∷ pipes) [] h = absurd h

none_out : (pipes : List Pipe) (seen : List PipeState) → AllZip FitsPipe pipes seen → emitted_from pipes seen [] ≡ []
none_out [] [] h = refl
none_out (p ∷ pipes) (s ∷ seen) h = ap (emitted_from pipes seen) (none_through p s) ∙ none_out pipes seen h.1
none_out [] (s ∷ seen) h = absurd h
none_out (p ∷ pipes) [] h = absurd h

module _ (book : BookState) (fits : FitsPipes book.pipes book.kept) where
  none_more : countable_matches book.kept [] ≡ []
  none_more = none_counted (2 ^ 64 - 1 - book.kept.found)

  -- nothing comes out
  pub none_let_out : let_out book.pipes book.kept [] ≡ []
  none_let_out = ap (λ (l : List Match). emitted_from book.pipes book.kept.pipes (numbered_after book.kept l)) none_more ∙ none_out book.pipes book.kept.pipes fits.states

  -- and the book stays
  pub book_none : book_after book [] ≡ book
  book_none = ap (λ (kept : BookCut). record book { kept = kept }) (ap (book_from book.pipes book.kept) none_more ∙ same)
    where
      same_found : book.kept.found + 0 ≡ book.kept.found
      same_found = omega arith

      same_listed : book.kept.listed + length (emitted_from book.pipes book.kept.pipes []) ≡ book.kept.listed
      same_listed = let none = ap length (none_out book.pipes book.kept.pipes fits.states) in omega (arith, none)

      same : book_from book.pipes book.kept [] ≡ book.kept
      same = λ i. record { found = same_found i; listed = same_listed i; pipes = states_stay book.pipes book.kept.pipes fits.states i }
