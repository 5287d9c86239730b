-- What gates make of nothing, and of one match.
use Rattle.std.proofs.Common.{◌≡◌, ℕ, zero, suc, ◌+◌, ◌-◌, ◌<◌, ◌≤◌, List, [], ◌∷◌, ◌++◌, length, take, drop, refl, sym, ap, ◌∙◌, arith}
use Rattle.std.specs.Prelude.{min}
use Rattle.std.proofs.Common.{set, subst}
use Rattle.std.specs.List.{AllZip}
use Rattle.eql_book.specs.Books.{FitsPipe}
use Rattle.std.proofs.lemmas.List.{append-nil, append_assoc, map-append, take_more_set, drop-set-lt, set_split, take-append-drop}
use Rattle.eql_values.specs.declared.found.Numbered.{Numbered}
use Rattle.eql_values.specs.declared.cut.Pipe.{Pipe}
use Rattle.eql_values.specs.declared.cut.Pipe.TheVariants as pipe
use Rattle.eql_values.specs.declared.cut.PipeState.{PipeState}
use Rattle.eql_values.specs.declared.cut.PipeState.TheVariants as state
use Rattle.eql_values.specs.Numbering.{pipe_output, through}
use Rattle.eql_laws.specs.Resuming.{let_through, state_from, states_from, emitted_from, piped_from}
use Rattle.eql_book.specs.declared.gate.Gate.{Gate}
use Rattle.eql_book.specs.declared.tail.Tail.{Tail}
use Rattle.eql_book.specs.declared.gate.Gate.TheVariants as gate
use Rattle.eql_book.specs.Gates.{pipe_of, seen_by, pipes_of, seen_of}

take_none : (count : ℕ) → take count (let none : List Numbered = [] in none) ≡ []
take_none zero = refl
take_none (suc count) = refl

lets_none : (p : Pipe) (s : PipeState) → let_through p s [] ≡ []
lets_none (pipe.Head count) (state.Head passed) = take_none (count - passed)
lets_none (pipe.Head count) (state.Tail kept) = refl
lets_none (pipe.Tail count) s = refl

drop_none : (n : ℕ) (list : List Numbered) → n ≡ 0 → drop n list ≡ list
drop_none n list none = ap (λ (k : ℕ). drop k list) none

pub keeps_all : (count : ℕ) (list : List Numbered) → length list ≤ count → drop (length list - count) list ≡ list
keeps_all count list fits = drop_none (length list - count) list (omega arith)

-- a gate that nothing came to is as it was
still : (g : Gate) → state_from (pipe_of g) (seen_by g) [] ≡ seen_by g
still (gate.Head head) =
    let fits = head.within in
    let same : min head.count (head.passed + 0) ≡ head.passed = omega (arith, fits) in
    ap state.Head same
still (gate.Tail tail) =
    let fits = tail.within in
    ap state.Tail (ap (through (pipe.Tail tail.count)) (append-nil tail.kept.items) ∙ keeps_all tail.count tail.kept.items fits)

-- and so are all of them
pub all_still : (gates : List Gate) → states_from (pipes_of gates) (seen_of gates) [] ≡ seen_of gates
all_still [] = refl
all_still (g ∷ gates) =
    let rest : states_from (pipes_of gates) (seen_of gates) (let_through (pipe_of g) (seen_by g) []) ≡ seen_of gates =
    ap (states_from (pipes_of gates) (seen_of gates)) (lets_none (pipe_of g) (seen_by g)) ∙ all_still gates in
    λ i. still g i ∷ rest i

-- which let nothing out
pub none_out : (pipes : List Pipe) (seen : List PipeState) → emitted_from pipes seen [] ≡ []
none_out [] seen = refl
none_out (p ∷ pipes) [] = refl
none_out (p ∷ pipes) (s ∷ seen) = ap (emitted_from pipes seen) (lets_none p s) ∙ none_out pipes seen

-- one more gate saw what came to it
pub saw_more : (i : ℕ) (now : List Gate) (g g' : Gate) (came more : List Numbered) (all : List PipeState) → i < length now → drop i now ≡ g ∷ drop (i + 1) now
    → seen_by g' ≡ state_from (pipe_of g) (seen_by g) came → more ≡ let_through (pipe_of g) (seen_by g) came
    → all ≡ seen_of (take i now) ++ states_from (pipes_of (drop i now)) (seen_of (drop i now)) came
    → all ≡ seen_of (take (i + 1) (set now i g')) ++ states_from (pipes_of (drop (i + 1) (set now i g'))) (seen_of (drop (i + 1) (set now i g'))) more
saw_more i now g g' came more all lt here seen out so =
    let rest : List Gate = drop (i + 1) now in
    let front : seen_of (take (i + 1) (set now i g')) ≡ seen_of (take i now) ++ seen_by g' ∷ [] = ap seen_of (take_more_set now i g' lt) ∙ map-append seen_by (take i now) (g' ∷ []) in
    let end : drop (i + 1) (set now i g') ≡ rest = drop-set-lt (i + 1) now i g' (omega arith) in
    so
    ∙ ap (λ (l : List Gate). seen_of (take i now) ++ states_from (pipes_of l) (seen_of l) came) here
    ∙ (λ j. seen_of (take i now) ++ sym seen j ∷ states_from (pipes_of rest) (seen_of rest) (sym out j))
    ∙ sym (append_assoc (seen_of (take i now)) (seen_by g' ∷ []) (states_from (pipes_of rest) (seen_of rest) more))
    ∙ ap (λ (l : List PipeState). l ++ states_from (pipes_of rest) (seen_of rest) more) (sym front)
    ∙ ap (λ (l : List Gate). seen_of (take (i + 1) (set now i g')) ++ states_from (pipes_of l) (seen_of l) more) (sym end)

-- and lets out what comes through
pub out_more : (i : ℕ) (now : List Gate) (g g' : Gate) (came more all : List Numbered) → drop i now ≡ g ∷ drop (i + 1) now
    → more ≡ let_through (pipe_of g) (seen_by g) came
    → all ≡ emitted_from (pipes_of (drop i now)) (seen_of (drop i now)) came
    → all ≡ emitted_from (pipes_of (drop (i + 1) (set now i g'))) (seen_of (drop (i + 1) (set now i g'))) more
out_more i now g g' came more all here out so =
    let rest : List Gate = drop (i + 1) now in
    let end : drop (i + 1) (set now i g') ≡ rest = drop-set-lt (i + 1) now i g' (omega arith) in
    so
    ∙ ap (λ (l : List Gate). emitted_from (pipes_of l) (seen_of l) came) here
    ∙ ap (emitted_from (pipes_of rest) (seen_of rest)) (sym out)
    ∙ ap (λ (l : List Gate). emitted_from (pipes_of l) (seen_of l) more) (sym end)

-- the pipes stay
pub pipes_stay : (i : ℕ) (now : List Gate) (g g' : Gate) → i < length now → drop i now ≡ g ∷ drop (i + 1) now → pipe_of g' ≡ pipe_of g → pipes_of (set now i g') ≡ pipes_of now
pipes_stay i now g g' lt here same =
    ap pipes_of (set_split now i g' lt) ∙ map-append pipe_of (take i now) (g' ∷ drop (suc i) now)
    ∙ (λ j. pipes_of (take i now) ++ same j ∷ pipes_of (drop (next j) now))
    ∙ sym (map-append pipe_of (take i now) (g ∷ drop (i + 1) now))
    ∙ ap (λ (l : List Gate). pipes_of (take i now ++ l)) (sym here)
    ∙ ap pipes_of (take-append-drop i now)
  where
    next : suc i ≡ i + 1
    next = omega arith

-- where nothing goes on, the gates after it are as they were
pub saw_last : (i : ℕ) (now : List Gate) (all : List PipeState) → all ≡ seen_of (take i now) ++ states_from (pipes_of (drop i now)) (seen_of (drop i now)) [] → all ≡ seen_of now
saw_last i now all so =
    so ∙ ap (λ (l : List PipeState). seen_of (take i now) ++ l) (all_still (drop i now))
    ∙ sym (map-append seen_by (take i now) (drop i now)) ∙ ap seen_of (take-append-drop i now)

none_left : (pipes : List Pipe) → AllZip FitsPipe pipes (let none : List PipeState = [] in none) → pipes ≡ []
none_left [] fits = refl
none_left (p ∷ pipes) fits = absurd fits

-- where no state is left, all pipes have theirs
pub all_taken : (n : ℕ) (pipes : List Pipe) (left : List PipeState) → left ≡ [] → AllZip FitsPipe (drop n pipes) left → take n pipes ≡ pipes
all_taken n pipes left none fits =
    let end : drop n pipes ≡ [] = none_left (drop n pipes) (subst (λ (l : List PipeState). AllZip FitsPipe (drop n pipes) l) none fits) in
    sym (append-nil (take n pipes)) ∙ ap (λ (l : List Pipe). take n pipes ++ l) (sym end) ∙ take-append-drop n pipes

-- what the first tail keeps goes to the pipes after it
pub tail_gives : (gates : List Gate) (i : ℕ) (tail : Tail) → drop i gates ≡ gate.Tail tail ∷ drop (i + 1) gates
    → piped_from (pipes_of (drop i gates)) (seen_of (drop i gates)) [] ≡ pipe_output (pipes_of (drop (i + 1) gates)) tail.kept.items
tail_gives gates i tail here =
    let fits = tail.within in
    ap (λ (l : List Gate). piped_from (pipes_of l) (seen_of l) []) here
    ∙ ap (pipe_output (pipes_of (drop (i + 1) gates)))
    (ap (through (pipe.Tail tail.count)) (append-nil tail.kept.items) ∙ keeps_all tail.count tail.kept.items fits)
