-- What an answer says, and an answer that is handed on.
use Rattle.std.proofs.Common.{◌≡◌, ◌⊎◌, inl, inr, ℕ, Bool, List, Option, refl, sym, subst, ap, ◌∙◌}
use Rattle.std.specs.declared.result.Result.{Result}
use Rattle.std.specs.declared.result.Result.TheVariants.{Ok, Err}
use Rattle.eql_values.specs.declared.value.Kind.{Kind}
use Rattle.eql_check.specs.declared.refused.CheckRefused.{CheckRefused}
use Rattle.eql_check.specs.declared.refused.CheckRefused.TheVariants as broken
use Rattle.eql_check.specs.FirstBroken.{Found, AllFound, and_more, bind, bind_all, connective}
use Rattle.eql_check.specs.Answers.{Answers, bools_of, kinds_before, with_bool}

module _ {A : Type 0} where
  -- an answer is want of memory, or what is wanted
  pub either : (got wanted : Result A CheckRefused) → Answers got wanted → (got ≡ Err broken.Memory) ⊎ (got ≡ wanted)
  either (Err broken.Memory) wanted h = inl refl
  either got wanted h = inr h

  itself : (got : Result A CheckRefused) → Answers got got
  itself (Err broken.Memory) = tt
  itself got = refl

  pub by_memory : (got wanted : Result A CheckRefused) → got ≡ Err broken.Memory → Answers got wanted
  by_memory got wanted e = subst (λ r. Answers r wanted) (sym e) tt

  pub by_same : (got wanted : Result A CheckRefused) → got ≡ wanted → Answers got wanted
  by_same got wanted e = subst (λ w. Answers got w) e (itself got)

refused_same : (item : ℕ) (all : AllFound) (e : CheckRefused) (got : Result Bool CheckRefused) → got ≡ Err e → got ≡ bools_of all →
    Answers {A = Option Kind} (Err e) (connective item all)
refused_same item (Ok ks) e got g h = cc
refused_same item (Err x) e got g h = let d : e ≡ x = cc in by_same (Err e) (Err x) (ap Err d)

-- a refusal of the operands is one of `and` and `or`
pub refused_operands : (item : ℕ) (all : AllFound) (e : CheckRefused) (got : Result Bool CheckRefused) → got ≡ Err e →
    Answers got (bools_of all) → Answers {A = Option Kind} (Err e) (connective item all)
refused_operands item all e got g h =
    elim (either got (bools_of all) h) [ inl m ↦ let d : e ≡ broken.Memory = cc in by_memory (Err e) (connective item all) (ap Err d) | inr w ↦ refused_same item all e got g w ]

-- a refusal of an operand is one of what is made of its kind
pub refused_bind : (q whole : Found) (go : Option Kind → Found) (e : CheckRefused) → bind q go ≡ whole → Answers {A = Option Kind} (Err e) q → Answers {A = Option Kind} (Err e) whole
refused_bind q whole go e same h =
    elim (either (Err e) q h) [ inl m ↦ by_memory (Err e) whole m | inr w ↦ by_same (Err e) whole (ap (λ r. bind r go) w ∙ same) ]

-- a refusal of the arguments is one of the call
pub refused_call : (all : AllFound) (go : List (Option Kind) → Found) (e : CheckRefused) → Answers {A = List (Option Kind)} (Err e) all → Answers {A = Option Kind} (Err e) (bind_all all go)
refused_call all go e h =
    elim (either {A = List (Option Kind)} (Err e) all h) [ inl m ↦ let d : e ≡ broken.Memory = cc in by_memory (Err e) (bind_all all go) (ap Err d) | inr w ↦ by_same (Err e) (bind_all all go) (ap (λ r. bind_all r go) w) ]

-- a refusal of one operand is one of all
pub refused_bool : (b : Bool) (q : Found) (rest : AllFound) (whole : Result Bool CheckRefused) (e : CheckRefused) → with_bool b (bools_of (and_more q rest)) ≡ whole
    → Answers {A = Option Kind} (Err e) q → Answers {A = Bool} (Err e) whole
refused_bool b q rest whole e same h =
    elim (either (Err e) q h) [ inl m ↦ let d : e ≡ broken.Memory = cc in by_memory (Err e) whole (ap Err d) | inr w ↦ by_same (Err e) whole (ap (λ r. with_bool b (bools_of (and_more r rest))) w ∙ same) ]

-- a refusal of one argument is one of all
pub refused_argument : (ks : List (Option Kind)) (q : Found) (rest whole : AllFound) (e : CheckRefused) → kinds_before ks (and_more q rest) ≡ whole
    → Answers {A = Option Kind} (Err e) q → Answers {A = List (Option Kind)} (Err e) whole
refused_argument ks q rest whole e same h =
    elim (either (Err e) q h) [ inl m ↦ let d : e ≡ broken.Memory = cc in by_memory (Err e) whole (ap Err d) | inr w ↦ by_same (Err e) whole (ap (λ r. kinds_before ks (and_more r rest)) w ∙ same) ]
