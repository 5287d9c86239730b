-- The kinds of the arguments, found one by one.
use Rattle.std.proofs.Common.{◌≡◌, List, [], ◌∷◌, ◌++◌, Option, refl, ap, append_assoc}
use Rattle.std.specs.declared.result.Result.TheVariants.{Ok, Err}
use Rattle.eql_values.specs.declared.value.Kind.{Kind}
use Rattle.eql_check.specs.FirstBroken.{AllFound, and_more}
use Rattle.eql_check.specs.Answers.{kinds_before}

pub one_more_kind : (ks : List (Option Kind)) (k : Option Kind) (rest : AllFound) →
    kinds_before (ks ++ k ∷ []) rest ≡ kinds_before ks (and_more (Ok k) rest)
one_more_kind ks k (Ok more) = ap Ok (append_assoc ks (k ∷ []) more)
one_more_kind ks k (Err e) = refl
