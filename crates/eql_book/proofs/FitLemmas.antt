-- The gates fit their pipes.
use Rattle.std.proofs.Common.{zero, suc, refl, ◌≡◌, ℕ, ◌+◌, ◌-◌, ◌^◌, List, [], ◌∷◌, length, take, sym, ap, ◌∙◌, arith}
use Rattle.std.specs.List.{AllZip}
use Rattle.eql_book.specs.declared.gate.Gate.{Gate}
use Rattle.eql_book.specs.declared.gate.Gate.TheVariants as gate
use Rattle.eql_book.specs.declared.ledger.Ledger.{Ledger}
use Rattle.eql_values.specs.declared.found.Match.{Match}
use Rattle.eql_laws.specs.Resuming.{emitted_from, numbered_after, book_from}
use Rattle.eql_book.specs.Books.{FitsPipe, FitsPipes, kept_after, let_out}
use Rattle.eql_book.proofs.GateLemmas.{all_still, none_out}
use Rattle.eql_book.specs.Gates.{pipe_of, seen_by, pipes_of, seen_of}
use Rattle.eql_book.specs.Ledgers.{kept_of}

fits : (g : Gate) → FitsPipe (pipe_of g) (seen_by g)
fits (gate.Head head) = head.within
fits (gate.Tail tail) = tail.within

all_fit : (gates : List Gate) → AllZip FitsPipe (pipes_of gates) (seen_of gates)
all_fit [] = tt
all_fit (g ∷ gates) = (fits g, all_fit gates)

pub ledger_fits : (ledger : Ledger) → FitsPipes (pipes_of ledger.gates.items) (kept_of ledger)
ledger_fits ledger = record { listed_to = ledger.listed_to; states = all_fit ledger.gates.items }

-- a ledger that is full leaves a match out
full : (found : ℕ) (m : Match) → found ≡ 2 ^ 64 - 1 → take (2 ^ 64 - 1 - found) (m ∷ []) ≡ []
full found m is = ap (λ (n : ℕ). take n (m ∷ [])) none
  where
    none : 2 ^ 64 - 1 - found ≡ 0
    none = omega (arith, is)

pub full_out : (ledger : Ledger) (m : Match) → ledger.found ≡ 2 ^ 64 - 1 → [] ≡ let_out (pipes_of ledger.gates.items) (kept_of ledger) (m ∷ [])
full_out ledger m is =
    sym (ap (λ (l : List Match). emitted_from (pipes_of ledger.gates.items) (seen_of ledger.gates.items) (numbered_after (kept_of ledger) l)) (full ledger.found m is)
    ∙ none_out (pipes_of ledger.gates.items) (seen_of ledger.gates.items))

pub full_kept : (ledger : Ledger) (m : Match) → ledger.found ≡ 2 ^ 64 - 1 → kept_of ledger ≡ kept_after (pipes_of ledger.gates.items) (kept_of ledger) (m ∷ [])
full_kept ledger m is = sym (ap (book_from (pipes_of ledger.gates.items) (kept_of ledger)) (full ledger.found m is) ∙ same)
  where
    same_found : ledger.found + 0 ≡ ledger.found
    same_found = omega arith

    same_listed : ledger.listed + length (emitted_from (pipes_of ledger.gates.items) (seen_of ledger.gates.items) []) ≡ ledger.listed
    same_listed = let none = ap length (none_out (pipes_of ledger.gates.items) (seen_of ledger.gates.items)) in omega (arith, none)

    same : book_from (pipes_of ledger.gates.items) (kept_of ledger) [] ≡ kept_of ledger
    same = λ i. record { found = same_found i; listed = same_listed i; pipes = all_still ledger.gates.items i }

-- of no more matches nothing comes
none_counted : (n : ℕ) → take n (let none : List Match = [] in none) ≡ []
none_counted zero = refl
none_counted (suc n) = refl

pub start_out : (ledger : Ledger) → [] ≡ let_out (pipes_of ledger.gates.items) (kept_of ledger) []
start_out ledger =
    sym (ap (λ (l : List Match). emitted_from (pipes_of ledger.gates.items) (seen_of ledger.gates.items) (numbered_after (kept_of ledger) l)) (none_counted (2 ^ 64 - 1 - ledger.found))
    ∙ none_out (pipes_of ledger.gates.items) (seen_of ledger.gates.items))

pub start_kept : (ledger : Ledger) → kept_of ledger ≡ kept_after (pipes_of ledger.gates.items) (kept_of ledger) []
start_kept ledger = sym (ap (book_from (pipes_of ledger.gates.items) (kept_of ledger)) (none_counted (2 ^ 64 - 1 - ledger.found)) ∙ same)
  where
    same_found : ledger.found + 0 ≡ ledger.found
    same_found = omega arith

    same_listed : ledger.listed + length (emitted_from (pipes_of ledger.gates.items) (seen_of ledger.gates.items) []) ≡ ledger.listed
    same_listed = let none = ap length (none_out (pipes_of ledger.gates.items) (seen_of ledger.gates.items)) in omega (arith, none)

    same : book_from (pipes_of ledger.gates.items) (kept_of ledger) [] ≡ kept_of ledger
    same = λ i. record { found = same_found i; listed = same_listed i; pipes = all_still ledger.gates.items i }
