-- What an answer of the whole check says.
use Rattle.std.proofs.Common.{◌≡◌, ℕ, List, Option, Some, None, refl, inl, inr}
use Rattle.std.specs.Prelude.{◌≢◌}
use Rattle.std.specs.declared.result.Result.{Result}
use Rattle.std.specs.declared.result.Result.TheVariants.{Ok, Err}
use Rattle.eql_values.specs.declared.value.Kind.{Kind}
use Rattle.eql_check.specs.declared.refused.CheckRefused.{CheckRefused}
use Rattle.eql_check.specs.Answers.{Answers, fields_or}
use Rattle.eql_check.specs.Wants.{check_memory}
use Rattle.eql_check.proofs.Answering.{either}

abbrev Answered : Type 0
Answered = Result (List (List ℕ × Kind)) CheckRefused

abbrev passed : List (List ℕ × Kind) → Answered
passed fields = Ok fields

abbrev refused : CheckRefused → Answered
refused rule = Err rule

pub no_rule : (broken : Option CheckRefused) (fields got : List (List ℕ × Kind)) → Answers (passed got) (fields_or broken fields) → broken ≡ None
no_rule None fields got e = refl
no_rule (Some rule) fields got e = cc

pub its_fields : (broken : Option CheckRefused) (fields got : List (List ℕ × Kind)) → Answers (passed got) (fields_or broken fields) → got ≡ fields
its_fields None fields got e = cc
its_fields (Some rule) fields got e = cc

same_rule : (broken : Option CheckRefused) (fields : List (List ℕ × Kind)) (rule : CheckRefused) → refused rule ≡ fields_or broken fields → broken ≡ Some rule
same_rule None fields rule e = cc
same_rule (Some other) fields rule e = cc

not_memory : (rule : CheckRefused) → refused rule ≡ refused check_memory → rule ≢ check_memory → ⊥
not_memory rule e other = other (cc)

pub its_rule : (broken : Option CheckRefused) (fields : List (List ℕ × Kind)) (rule : CheckRefused) →
    Answers (refused rule) (fields_or broken fields) → rule ≢ check_memory → broken ≡ Some rule
its_rule broken fields rule e other =
    elim (either (refused rule) (fields_or broken fields) e) [ inl m ↦ absurd (not_memory rule m other) | inr s ↦ same_rule broken fields rule s ]
