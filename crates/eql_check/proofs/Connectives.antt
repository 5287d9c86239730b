-- `and` and `or` of a list, from left to right and read at once.
use Rattle.std.proofs.Common.{◌≡◌, List, [], ◌∷◌, Bool, true, false, not, Option, Some, None, refl, sym, ap, ◌∙◌, if◌then◌else◌}
use Rattle.std.specs.List.{list_any}
use Rattle.eql_values.specs.declared.value.Value.{Value}
use Rattle.eql_values.specs.declared.value.Value.TheVariants as value
use Rattle.eql_check.specs.ThreeValued.{truth_in, conjunction, disjunction, all_from, any_from, is_true, is_false, is_unknown, all_of, any_of, ConnectivesRead}

-- what two tests of a list make of it: whether one settles it, which gives the ending, and whether one is unknown
abbrev of_tests : Bool → Bool → Bool → Option Bool
of_tests ending settled unknown = if settled then Some ending else if unknown then None else Some (not ending)

and_settled : (p q r : Option Bool) → conjunction (conjunction p q) r ≡ conjunction p (conjunction q r)
and_settled (Some false) q r = refl
and_settled (Some true) q r = refl
and_settled None (Some false) r = refl
and_settled None (Some true) r = refl
and_settled None None (Some false) = refl
and_settled None None (Some true) = refl
and_settled None None None = refl

and_true : (p : Option Bool) → conjunction p (Some true) ≡ p
and_true (Some false) = refl
and_true (Some true) = refl
and_true None = refl

and_unknown : (settled unknown : Bool) → conjunction None (of_tests false settled unknown) ≡ of_tests false settled true
and_unknown true unknown = refl
and_unknown false true = refl
and_unknown false false = refl

and_one_more : (v : Value) (vs : List Value) → conjunction (truth_in v) (all_of vs) ≡ all_of (v ∷ vs)
and_one_more (value.Bool true) vs = refl
and_one_more (value.Bool false) vs = refl
and_one_more value.Null vs = and_unknown (list_any is_false vs) (list_any is_unknown vs)
and_one_more (value.Long n) vs = and_unknown (list_any is_false vs) (list_any is_unknown vs)
and_one_more (value.Text s) vs = and_unknown (list_any is_false vs) (list_any is_unknown vs)
and_one_more (value.Ip n) vs = and_unknown (list_any is_false vs) (list_any is_unknown vs)

all_reads : (p : Option Bool) (vs : List Value) → all_from p vs ≡ conjunction p (all_of vs)
all_reads p [] = sym (and_true p)
all_reads p (v ∷ vs) =
    all_reads (conjunction p (truth_in v)) vs ∙ and_settled p (truth_in v) (all_of vs) ∙ ap (conjunction p) (and_one_more v vs)

or_settled : (p q r : Option Bool) → disjunction (disjunction p q) r ≡ disjunction p (disjunction q r)
or_settled (Some true) q r = refl
or_settled (Some false) q r = refl
or_settled None (Some true) r = refl
or_settled None (Some false) r = refl
or_settled None None (Some true) = refl
or_settled None None (Some false) = refl
or_settled None None None = refl

or_false : (p : Option Bool) → disjunction p (Some false) ≡ p
or_false (Some false) = refl
or_false (Some true) = refl
or_false None = refl

or_unknown : (settled unknown : Bool) → disjunction None (of_tests true settled unknown) ≡ of_tests true settled true
or_unknown true unknown = refl
or_unknown false true = refl
or_unknown false false = refl

or_one_more : (v : Value) (vs : List Value) → disjunction (truth_in v) (any_of vs) ≡ any_of (v ∷ vs)
or_one_more (value.Bool true) vs = refl
or_one_more (value.Bool false) vs = refl
or_one_more value.Null vs = or_unknown (list_any is_true vs) (list_any is_unknown vs)
or_one_more (value.Long n) vs = or_unknown (list_any is_true vs) (list_any is_unknown vs)
or_one_more (value.Text s) vs = or_unknown (list_any is_true vs) (list_any is_unknown vs)
or_one_more (value.Ip n) vs = or_unknown (list_any is_true vs) (list_any is_unknown vs)

any_reads : (p : Option Bool) (vs : List Value) → any_from p vs ≡ disjunction p (any_of vs)
any_reads p [] = sym (or_false p)
any_reads p (v ∷ vs) =
    any_reads (disjunction p (truth_in v)) vs ∙ or_settled p (truth_in v) (any_of vs) ∙ ap (disjunction p) (or_one_more v vs)

pub connectives : ConnectivesRead
connectives = record { and_reads = λ vs. all_reads (Some true) vs; or_reads = λ vs. any_reads (Some false) vs }
