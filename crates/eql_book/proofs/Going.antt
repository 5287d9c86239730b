-- What pipes make of more matches, one after the other.
use Rattle.std.proofs.Common.{◌≡◌, ℕ, zero, suc, ◌+◌, ◌-◌, ◌^◌, List, [], ◌∷◌, ◌++◌, length, take, drop, refl, sym, ap, ◌∙◌, arith, length-append, length-drop}
use Rattle.std.specs.Prelude.{min}
use Rattle.std.proofs.lemmas.List.{drop-append-le, drop-drop, append_assoc}
use Rattle.std.specs.List.{flat_map}
use Rattle.eql_values.specs.declared.found.Match.{Match}
use Rattle.eql_values.specs.declared.found.Numbered.{Numbered}
use Rattle.eql_values.specs.declared.cut.BookCut.{BookCut}
use Rattle.eql_values.specs.declared.cut.Pipe.{Pipe}
use Rattle.eql_values.specs.declared.cut.Pipe.TheVariants as pipe
use Rattle.eql_values.specs.declared.cut.PipeState.{PipeState}
use Rattle.eql_values.specs.declared.cut.PipeState.TheVariants as state
use Rattle.eql_values.specs.Numbering.{numbered_from, through}
use Rattle.eql_laws.specs.Resuming.{let_through, state_from, states_from, emitted_from, numbered_after}
use Rattle.eql_book.specs.Books.{countable_matches, kept_after, let_out}

numbers_on : (number : ℕ) (a b : List Match) → numbered_from number (a ++ b) ≡ numbered_from number a ++ numbered_from (number + length a) b
numbers_on number [] b = ap (λ (n : ℕ). numbered_from n b) (from_none number)
  where
    from_none : (n : ℕ) → n ≡ n + 0
    from_none n = omega arith
numbers_on number (m ∷ a) b =
    ap (λ (l : List Numbered). record { number = number; found = m } ∷ l)
    (numbers_on (number + 1) a b ∙ ap (λ (n : ℕ). numbered_from (number + 1) a ++ numbered_from n b) (one_more number (length a)))
  where
    one_more : (n k : ℕ) → n + 1 + k ≡ n + suc k
    one_more n k = omega arith

-- the first of two lists
take_both : {X : Type 0} (n : ℕ) (a b : List X) → take n (a ++ b) ≡ take n a ++ take (n - length a) b
take_both {X} zero [] b = refl
take_both {X} zero (x ∷ a) b = ap (λ (n : ℕ). take n b) (none (length a))
  where
    none : (k : ℕ) → zero ≡ zero - suc k
    none k = omega arith
take_both {X} (suc n) [] b = ap (λ (k : ℕ). take k b) (all (suc n))
  where
    all : (k : ℕ) → k ≡ k - 0
    all k = omega arith
take_both {X} (suc n) (x ∷ a) b = ap (λ (l : List X). x ∷ l) (take_both n a b ∙ ap (λ (k : ℕ). take n a ++ take k b) (less n (length a)))
  where
    less : (n k : ℕ) → n - k ≡ suc n - suc k
    less n k = omega arith

length_take : {X : Type 0} (n : ℕ) (a : List X) → length (take n a) ≡ min n (length a)
length_take zero a = omega arith
length_take (suc n) [] = omega arith
length_take (suc n) (x ∷ a) = let before = length_take n a in omega (arith, before)

-- the last of two lists
last_on : (count : ℕ) (a b : List Numbered) → through (pipe.Tail count) (a ++ b) ≡ through (pipe.Tail count) (through (pipe.Tail count) a ++ b)
last_on count a b =
    let d : ℕ = length a - count in
    let kept : List Numbered = drop d a in
    let joined : drop d (a ++ b) ≡ kept ++ b = drop-append-le d a b (omega arith) in
    let whole = length-append a b in
    let part = length-append kept b in
    let fewer = length-drop d a in
    let sum : length (a ++ b) - count ≡ d + (length (kept ++ b) - count) = omega (arith, whole, part, fewer) in
    ap (λ (n : ℕ). drop n (a ++ b)) sum
    ∙ sym (drop-drop (length (kept ++ b) - count) d (a ++ b))
    ∙ ap (drop (length (kept ++ b) - count)) joined

lets_on : (p : Pipe) (s : PipeState) (a b : List Numbered) → let_through p s (a ++ b) ≡ let_through p s a ++ let_through p (state_from p s a) b
lets_on (pipe.Head count) (state.Head passed) a b =
    take_both (count - passed) a b ∙ ap (λ (k : ℕ). take (count - passed) a ++ take k b) (less count passed (length a))
  where
    less : (c p n : ℕ) → c - p - n ≡ c - min c (p + n)
    less c p n = omega arith
lets_on (pipe.Head count) (state.Tail kept) a b = refl
lets_on (pipe.Tail count) s a b = refl

seen_on : (p : Pipe) (s : PipeState) (a b : List Numbered) → state_from p s (a ++ b) ≡ state_from p (state_from p s a) b
seen_on (pipe.Head count) (state.Head passed) a b =
    let whole = length-append a b in
    let same : min count (passed + length (a ++ b)) ≡ min count (min count (passed + length a) + length b) = omega (arith, whole) in
    ap state.Head same
seen_on (pipe.Head count) (state.Tail kept) a b = refl
seen_on (pipe.Tail count) (state.Head passed) a b = refl
seen_on (pipe.Tail count) (state.Tail kept) a b =
    ap state.Tail (ap (through (pipe.Tail count)) (sym (append_assoc kept a b)) ∙ last_on count (kept ++ a) b)

pub states_on : (pipes : List Pipe) (seen : List PipeState) (a b : List Numbered) → states_from pipes seen (a ++ b) ≡ states_from pipes (states_from pipes seen a) b
states_on [] seen a b = refl
states_on (p ∷ pipes) [] a b = refl
states_on (p ∷ pipes) (s ∷ seen) a b =
    let rest : states_from pipes seen (let_through p s (a ++ b)) ≡ states_from pipes (states_from pipes seen (let_through p s a)) (let_through p (state_from p s a) b) =
    ap (states_from pipes seen) (lets_on p s a b) ∙ states_on pipes seen (let_through p s a) (let_through p (state_from p s a) b) in
    λ i. seen_on p s a b i ∷ rest i

pub emitted_on : (pipes : List Pipe) (seen : List PipeState) (a b : List Numbered) → emitted_from pipes seen (a ++ b) ≡ emitted_from pipes seen a ++ emitted_from pipes (states_from pipes seen a) b
emitted_on [] seen a b = refl
emitted_on (p ∷ pipes) [] a b = refl
emitted_on (p ∷ pipes) (s ∷ seen) a b =
    ap (emitted_from pipes seen) (lets_on p s a b) ∙ emitted_on pipes seen (let_through p s a) (let_through p (state_from p s a) b)

module _ (pipes : List Pipe) (kept : BookCut) (a b : List Match) where
  abbrev mid : BookCut
  mid = kept_after pipes kept a

  counted_on : countable_matches kept (a ++ b) ≡ countable_matches kept a ++ countable_matches mid b
  counted_on =
      let taken = length_take (2 ^ 64 - 1 - kept.found) a in
      let left : 2 ^ 64 - 1 - kept.found - length a ≡ 2 ^ 64 - 1 - (kept.found + length (countable_matches kept a)) = omega (arith, taken) in
      take_both (2 ^ 64 - 1 - kept.found) a b ∙ ap (λ (n : ℕ). countable_matches kept a ++ take n b) left

  next_number : kept.found + 1 + length (countable_matches kept a) ≡ kept.found + length (countable_matches kept a) + 1
  next_number = omega arith

  numbers_are : numbered_after kept (countable_matches kept (a ++ b)) ≡ numbered_after kept (countable_matches kept a) ++ numbered_after mid (countable_matches mid b)
  numbers_are =
      ap (numbered_after kept) counted_on ∙ numbers_on (kept.found + 1) (countable_matches kept a) (countable_matches mid b)
      ∙ ap (λ (n : ℕ). numbered_after kept (countable_matches kept a) ++ numbered_from n (countable_matches mid b)) next_number

  pub out_on : let_out pipes kept (a ++ b) ≡ let_out pipes kept a ++ let_out pipes mid b
  out_on =
      ap (emitted_from pipes kept.pipes) numbers_are
      ∙ emitted_on pipes kept.pipes (numbered_after kept (countable_matches kept a)) (numbered_after mid (countable_matches mid b))

  found_is : kept.found + length (countable_matches kept (a ++ b)) ≡ kept.found + length (countable_matches kept a) + length (countable_matches mid b)
  found_is =
      let both = ap length counted_on ∙ length-append (countable_matches kept a) (countable_matches mid b) in
      omega (arith, both)

  listed_is : kept.listed + length (let_out pipes kept (a ++ b)) ≡ kept.listed + length (let_out pipes kept a) + length (let_out pipes mid b)
  listed_is =
      let both = ap length out_on ∙ length-append (let_out pipes kept a) (let_out pipes mid b) in
      omega (arith, both)

  states_are : states_from pipes kept.pipes (numbered_after kept (countable_matches kept (a ++ b))) ≡ states_from pipes mid.pipes (numbered_after mid (countable_matches mid b))
  states_are =
      ap (states_from pipes kept.pipes) numbers_are
      ∙ states_on pipes kept.pipes (numbered_after kept (countable_matches kept a)) (numbered_after mid (countable_matches mid b))

  pub kept_on : kept_after pipes kept (a ++ b) ≡ kept_after pipes mid b
  kept_on = λ i. record { found = found_is i; listed = listed_is i; pipes = states_are i }

pub flat_map_on : {X : Type 0} (f : X → List ℕ) (a b : List X) → flat_map f (a ++ b) ≡ flat_map f a ++ flat_map f b
flat_map_on {X} f [] b = refl
flat_map_on {X} f (x ∷ a) b = ap (λ (l : List ℕ). f x ++ l) (flat_map_on f a b) ∙ sym (append_assoc (f x) (flat_map f a) (flat_map f b))
