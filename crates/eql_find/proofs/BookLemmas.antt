-- A book to which nothing was added fits its pipes.
use native.Mathlib.Omega.{arith}
use Rattle.std.proofs.Common.{◌≡◌, List, [], ◌∷◌, map, sym, subst}
use Rattle.std.specs.List.{AllZip}
use Rattle.eql_values.specs.declared.cut.Pipe.{Pipe}
use Rattle.eql_values.specs.declared.cut.Pipe.TheVariants as pipe
use Rattle.eql_values.specs.declared.cut.PipeState.{PipeState}
use Rattle.eql_book.specs.Books.{FitsPipe, FitsPipes}
use Rattle.eql_book.specs.Laws.{fresh_state}

fit : (pipes : List Pipe) → AllZip FitsPipe pipes (map fresh_state pipes)
fit [] = tt
fit (pipe.Head count ∷ pipes) = (omega arith, fit pipes)
fit (pipe.Tail count ∷ pipes) = (omega arith, fit pipes)

pub fits_fresh : (own pipes : List Pipe) (states : List PipeState) → own ≡ pipes → states ≡ map fresh_state pipes
    → FitsPipes own (record { found = 0; listed = 0; pipes = states })
fits_fresh own pipes states same are = record {
  listed_to = omega arith;
  states = subst (λ (ss : List PipeState). AllZip FitsPipe own ss) (sym are) (subst (λ (ps : List Pipe). AllZip FitsPipe own (map fresh_state ps)) same (fit own));
}
