-- What books write in all.
use Rattle.std.proofs.Common.{◌≡◌, ℕ, zero, suc, ◌-◌, ◌<◌, ◌^◌, Bool, true, false, List, [], ◌∷◌, ◌++◌, length, drop, map, refl, sym, ap, ◌∙◌, arith, length-append, if◌then◌else◌}
use Rattle.std.specs.Prelude.{min}
use Rattle.std.specs.List.{list_all}
use Rattle.std.proofs.lemmas.List.{append-nil, take_all}
use Rattle.eql_values.specs.declared.found.Match.{Match}
use Rattle.eql_values.specs.declared.found.Numbered.{Numbered}
use Rattle.eql_values.specs.declared.cut.BookCut.{BookCut}
use Rattle.eql_values.specs.declared.cut.Pipe.{Pipe}
use Rattle.eql_values.specs.declared.cut.Pipe.TheVariants as pipe
use Rattle.eql_values.specs.declared.cut.PipeState.TheVariants as state
use Rattle.eql_values.specs.Numbering.{numbered_matches, through, pipe_output, early_output, is_head}
use Rattle.eql_laws.specs.Books.{book_of, state_of, states_after}
use Rattle.eql_laws.specs.Resuming.{emitted_from, numbered_after, book_from, rest_from}
use Rattle.eql_laws.proofs.Resumed.{book_goes_on, emitted_goes_on, piped_goes_on}
use Rattle.eql_book.specs.Books.{countable_matches, kept_after, let_out}
use Rattle.eql_book.specs.Laws.{AllAddsGoOn, FreshIsOfNone, fresh_state, BookIsKept, EndIsWhole, ListingIsWhole}
use Rattle.eql_book.proofs.Going.{kept_on, out_on}

pub adds_go_on : AllAddsGoOn
adds_go_on book a b = record {
  book_is = ap (λ (k : BookCut). record book { kept = k }) (kept_on book.pipes book.kept a b);
  lines_are = out_on book.pipes book.kept a b;
}

drop_none : (n : ℕ) → drop n (let none : List Numbered = [] in none) ≡ []
drop_none zero = refl
drop_none (suc n) = refl

through_none : (p : Pipe) → through p [] ≡ []
through_none (pipe.Head zero) = refl
through_none (pipe.Head (suc count)) = refl
through_none (pipe.Tail count) = drop_none (0 - count)

piped_none : (pipes : List Pipe) → pipe_output pipes [] ≡ []
piped_none [] = refl
piped_none (p ∷ pipes) = ap (pipe_output pipes) (through_none p) ∙ piped_none pipes

emitted_none : (pipes : List Pipe) → early_output pipes [] ≡ []
emitted_none pipes = either (list_all is_head pipes)
  where
    either : (b : Bool) → (if b then pipe_output pipes [] else []) ≡ []
    either true = piped_none pipes
    either false = refl

fresh_is : (p : Pipe) → fresh_state p ≡ state_of p []
fresh_is (pipe.Head count) = let none : 0 ≡ min count 0 = omega arith in ap state.Head none
fresh_is (pipe.Tail count) = ap state.Tail (sym (drop_none (0 - count)))

states_fresh : (before pipes : List Pipe) → map fresh_state pipes ≡ states_after before pipes []
states_fresh before [] = refl
states_fresh before (p ∷ pipes) =
    λ i. (fresh_is p ∙ ap (state_of p) (sym (emitted_none before))) i ∷ states_fresh (before ++ p ∷ []) pipes i

pub fresh_is_of_none : FreshIsOfNone
fresh_is_of_none pipes = λ i. record { found = 0; listed = ap length (sym (emitted_none pipes)) i; pipes = states_fresh [] pipes i }

all_counted : (pipes : List Pipe) (found more : List Match) → length (found ++ more) < 2 ^ 64 → countable_matches (book_of pipes found) more ≡ more
all_counted pipes found more few =
    let both = length-append found more in
    take_all (2 ^ 64 - 1 - length found) more (omega (arith, both, few))

pub book_is_kept : BookIsKept
book_is_kept pipes found more few = record {
  cut_is = ap (book_from pipes (book_of pipes found)) (all_counted pipes found more few) ∙ sym (book_goes_on pipes found more);
  lines_are = emitted_goes_on pipes found more
      ∙ ap (λ (l : List Match). early_output pipes (numbered_matches found) ++ emitted_from pipes (book_of pipes found).pipes (numbered_after (book_of pipes found) l)) (sym (all_counted pipes found more few));
}

pub end_is_whole : EndIsWhole
end_is_whole pipes places whole found =
    ap (λ (l : List Match). pipe_output pipes (numbered_matches l)) (sym (append-nil found)) ∙ piped_goes_on pipes found []

pub listing_is_whole : ListingIsWhole
listing_is_whole pipes places whole found few =
    let kept = book_is_kept pipes [] found few in
    (λ i. let_out pipes (fresh_is_of_none pipes i) found ++ rest_from pipes (kept_after pipes (fresh_is_of_none pipes i) found) [])
    ∙ (λ i. let_out pipes (book_of pipes []) found ++ rest_from pipes (kept.cut_is i) [])
    ∙ ap (λ (l : List Numbered). l ++ rest_from pipes (book_of pipes found) [])
    (ap (λ (l : List Numbered). l ++ let_out pipes (book_of pipes []) found) (sym (emitted_none pipes)) ∙ sym kept.lines_are)
    ∙ sym (end_is_whole pipes places whole found)
