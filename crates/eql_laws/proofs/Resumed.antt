-- What pipes make of two lists, one after the other.
use Rattle.std.proofs.Common.{◌≡◌, ℕ, zero, suc, ◌+◌, ◌-◌, List, [], ◌∷◌, ◌++◌, length, take, drop, refl, sym, ap, ◌∙◌, arith, length-append, length-drop}
use Rattle.std.specs.Prelude.{min}
use Rattle.std.proofs.lemmas.List.{drop-append-le, drop-drop}
use Rattle.std.proofs.Math.Seq.{drop-append_seam}
use Rattle.eql_values.specs.declared.found.Match.{Match}
use Rattle.eql_values.specs.declared.found.Numbered.{Numbered}
use Rattle.eql_values.specs.declared.cut.BookCut.{BookCut}
use Rattle.eql_values.specs.declared.cut.Pipe.{Pipe}
use Rattle.eql_values.specs.declared.cut.Pipe.TheVariants as pipe
use Rattle.eql_values.specs.declared.cut.PipeState.{PipeState}
use Rattle.eql_values.specs.declared.cut.PipeState.TheVariants as state
use Rattle.eql_values.specs.Numbering.{numbered_from, numbered_matches, pipe_output, early_output}
use Rattle.eql_laws.specs.Books.{book_of, state_of, states_after}
use Rattle.eql_laws.specs.Resuming.{let_through, states_from, emitted_from, piped_from, numbered_after, book_from, rest_from, NumberedGoesOn, BookGoesOn, EmittedGoesOn, PipedGoesOn, ListingResumes}
use Rattle.eql_laws.proofs.KeptBooks.{inputs_go_on}

pub numbered_goes_on : NumberedGoesOn
numbered_goes_on number [] b = ap (λ (n : ℕ). numbered_from n b) (from_none number)
  where
    from_none : (n : ℕ) → n ≡ n + 0
    from_none n = omega arith
numbered_goes_on number (m ∷ a) b =
    ap (λ (l : List Numbered). record { number = number; found = m } ∷ l)
    (numbered_goes_on (number + 1) a b ∙ ap (λ (n : ℕ). numbered_from (number + 1) a ++ numbered_from n b) (one_more number (length a)))
  where
    one_more : (n k : ℕ) → n + 1 + k ≡ n + suc k
    one_more n k = omega arith

-- the first of two lists
take_both : (n : ℕ) (a b : List Numbered) → take n (a ++ b) ≡ take n a ++ take (n - length a) b
take_both zero [] b = refl
take_both zero (x ∷ a) b = ap (λ (n : ℕ). take n b) (none (length a))
  where
    none : (k : ℕ) → zero ≡ zero - suc k
    none k = omega arith
take_both (suc n) [] b = ap (λ (k : ℕ). take k b) (all (suc n))
  where
    all : (k : ℕ) → k ≡ k - 0
    all k = omega arith
take_both (suc n) (x ∷ a) b = ap (λ (l : List Numbered). x ∷ l) (take_both n a b ∙ ap (λ (k : ℕ). take n a ++ take k b) (less n (length a)))
  where
    less : (n k : ℕ) → n - k ≡ suc n - suc k
    less n k = omega arith

take_on : (count : ℕ) (a b : List Numbered) → take count (a ++ b) ≡ take count a ++ take (count - min count (length a)) b
take_on count a b = take_both count a b ∙ ap (λ (k : ℕ). take count a ++ take k b) (less count (length a))
  where
    less : (n k : ℕ) → n - k ≡ n - min n k
    less n k = omega arith

-- the last of two lists
last_on : (count : ℕ) (a b : List Numbered)
    → drop (length (a ++ b) - count) (a ++ b) ≡ drop (length (drop (length a - count) a ++ b) - count) (drop (length a - count) a ++ b)
last_on count a b =
    let d : ℕ = length a - count in
    let kept : List Numbered = drop d a in
    let joined : drop d (a ++ b) ≡ kept ++ b = drop-append-le d a b (omega arith) in
    let whole = length-append a b in
    let part = length-append kept b in
    let fewer = length-drop d a in
    let sum : length (a ++ b) - count ≡ d + (length (kept ++ b) - count) = omega (arith, whole, part, fewer) in
    ap (λ (n : ℕ). drop n (a ++ b)) sum
    ∙ sym (drop-drop (length (kept ++ b) - count) d (a ++ b))
    ∙ ap (drop (length (kept ++ b) - count)) joined

-- what each pipe has seen, from the input of the first
abbrev lets : Pipe → List Numbered → List Numbered
lets (pipe.Head count) input = take count input
lets (pipe.Tail count) input = []

abbrev seen_of : List Pipe → List Numbered → List PipeState
seen_of [] input = []
seen_of (p ∷ pipes) input = state_of p input ∷ seen_of pipes (lets p input)

states_are : (before pipes : List Pipe) (list : List Numbered) → states_after before pipes list ≡ seen_of pipes (early_output before list)
states_are before [] list = refl
states_are before (pipe.Head count ∷ pipes) list =
    ap (λ (l : List PipeState). state_of (pipe.Head count) (early_output before list) ∷ l)
    (states_are (before ++ pipe.Head count ∷ []) pipes list ∙ ap (seen_of pipes) ((inputs_go_on before list).after_head count))
states_are before (pipe.Tail count ∷ pipes) list =
    ap (λ (l : List PipeState). state_of (pipe.Tail count) (early_output before list) ∷ l)
    (states_are (before ++ pipe.Tail count ∷ []) pipes list ∙ ap (seen_of pipes) ((inputs_go_on before list).after_tail count))

passed_on : (count : ℕ) (a b : List Numbered) → min count (length (a ++ b)) ≡ min count (min count (length a) + length b)
passed_on count a b = let whole = length-append a b in omega (arith, whole)

seen_on : (pipes : List Pipe) (input more : List Numbered) → seen_of pipes (input ++ more) ≡ states_from pipes (seen_of pipes input) more
seen_on [] input more = refl
seen_on (pipe.Head count ∷ pipes) input more =
    (λ i. state.Head (passed_on count input more i) ∷ seen_of pipes (take_on count input more i))
    ∙ ap (λ (l : List PipeState). state.Head (min count (min count (length input) + length more)) ∷ l)
    (seen_on pipes (take count input) (take (count - min count (length input)) more))
seen_on (pipe.Tail count ∷ pipes) input more = λ i. state.Tail (last_on count input more i) ∷ seen_on pipes [] [] i

take_none : (count : ℕ) → take count (let none : List Numbered = [] in none) ≡ []
take_none zero = refl
take_none (suc count) = refl

lets_none : (p : Pipe) (s : PipeState) → let_through p s [] ≡ []
lets_none (pipe.Head count) (state.Head passed) = take_none (count - passed)
lets_none (pipe.Head count) (state.Tail kept) = refl
lets_none (pipe.Tail count) s = refl

none_emitted : (pipes : List Pipe) (seen : List PipeState) → emitted_from pipes seen [] ≡ []
none_emitted [] seen = refl
none_emitted (p ∷ pipes) [] = refl
none_emitted (p ∷ pipes) (s ∷ seen) = ap (emitted_from pipes seen) (lets_none p s) ∙ none_emitted pipes seen

emitted_on : (pipes : List Pipe) (input more : List Numbered) → early_output pipes (input ++ more) ≡ early_output pipes input ++ emitted_from pipes (seen_of pipes input) more
emitted_on [] input more = refl
emitted_on (pipe.Head count ∷ pipes) input more =
    ap (early_output pipes) (take_on count input more) ∙ emitted_on pipes (take count input) (take (count - min count (length input)) more)
emitted_on (pipe.Tail count ∷ pipes) input more = sym (none_emitted pipes (seen_of pipes []))

piped_on : (pipes : List Pipe) (input more : List Numbered) → pipe_output pipes (input ++ more) ≡ early_output pipes input ++ piped_from pipes (seen_of pipes input) more
piped_on [] input more = refl
piped_on (pipe.Head count ∷ pipes) input more =
    ap (pipe_output pipes) (take_on count input more) ∙ piped_on pipes (take count input) (take (count - min count (length input)) more)
piped_on (pipe.Tail count ∷ pipes) input more = ap (pipe_output pipes) (last_on count input more)

module _ (pipes : List Pipe) (found more : List Match) where
  abbrev book : BookCut
  book = book_of pipes found

  next_number : 1 + length found ≡ length found + 1
  next_number = omega arith

  numbers_on : numbered_matches (found ++ more) ≡ numbered_matches found ++ numbered_after book more
  numbers_on = numbered_goes_on 1 found more ∙ ap (λ (n : ℕ). numbered_matches found ++ numbered_from n more) next_number

  seen_is : seen_of pipes (numbered_matches found) ≡ book.pipes
  seen_is = sym (states_are [] pipes (numbered_matches found))

  emitted_is : early_output pipes (numbered_matches (found ++ more)) ≡ early_output pipes (numbered_matches found) ++ emitted_from pipes book.pipes (numbered_after book more)
  emitted_is =
      ap (early_output pipes) numbers_on ∙ emitted_on pipes (numbered_matches found) (numbered_after book more)
      ∙ ap (λ (seen : List PipeState). early_output pipes (numbered_matches found) ++ emitted_from pipes seen (numbered_after book more)) seen_is

  piped_is : pipe_output pipes (numbered_matches (found ++ more)) ≡ early_output pipes (numbered_matches found) ++ rest_from pipes book more
  piped_is =
      ap (pipe_output pipes) numbers_on ∙ piped_on pipes (numbered_matches found) (numbered_after book more)
      ∙ ap (λ (seen : List PipeState). early_output pipes (numbered_matches found) ++ piped_from pipes seen (numbered_after book more)) seen_is

  book_is : book_of pipes (found ++ more) ≡ book_from pipes book more
  book_is = λ i. record {
    found = length-append found more i;
    listed = (ap length emitted_is ∙ length-append (early_output pipes (numbered_matches found)) (emitted_from pipes book.pipes (numbered_after book more))) i;
    pipes = (states_are [] pipes (numbered_matches (found ++ more)) ∙ ap (seen_of pipes) numbers_on
        ∙ seen_on pipes (numbered_matches found) (numbered_after book more)
        ∙ ap (λ (seen : List PipeState). states_from pipes seen (numbered_after book more)) seen_is) i;
  }

pub book_goes_on : BookGoesOn
book_goes_on pipes found more = book_is pipes found more

pub emitted_goes_on : EmittedGoesOn
emitted_goes_on pipes found more = emitted_is pipes found more

pub piped_goes_on : PipedGoesOn
piped_goes_on pipes found more = piped_is pipes found more

pub listing_resumes : ListingResumes
listing_resumes pipes found more =
    ap (drop (length (early_output pipes (numbered_matches found)))) (piped_is pipes found more)
    ∙ drop-append_seam (early_output pipes (numbered_matches found)) (rest_from pipes (book_of pipes found) more)
