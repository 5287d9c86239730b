-- Keys are alike exactly when none differs from what is settled before it.
use Rattle.std.proofs.Common.{◌≡◌, ℕ, ◌+◌, List, [], ◌∷◌, true, Option, Some, None, refl, subst}
use Rattle.std.specs.Prelude.{is_none}
use Rattle.std.specs.List.{list_all}
use Rattle.eql_values.specs.declared.value.Kind.{Kind}
use Rattle.eql_values.specs.declared.value.Kind.TheVariants as kind
use Rattle.eql_query.specs.QueryTree.{TermTree}
use Rattle.eql_check.specs.declared.refused.CheckRefused.TheVariants.{KeyKind}
use Rattle.eql_values.specs.Fitting.{same_kind, may_be}
use Rattle.eql_check.specs.Kinds.{alike}
use Rattle.eql_check.specs.Rules.{unless, fit, settled_kinds, key_kinds, kinds_broken}
use Rattle.eql_check.specs.Typing.{may_equal, within, AreAlike}
use Rattle.eql_check.proofs.Breaking.{or_none, none_of, unless_none, unless_true, both_true}
use Rattle.eql_check.proofs.Typing.{both_ok}

same_itself : (k : Kind) → same_kind k k ≡ true
same_itself kind.Bool = refl
same_itself kind.Long = refl
same_itself kind.Text = refl
same_itself kind.Ip = refl

same_is : (j k : Kind) → same_kind j k ≡ true → j ≡ k
same_is kind.Bool kind.Bool e = refl
same_is kind.Long kind.Long e = refl
same_is kind.Text kind.Text e = refl
same_is kind.Ip kind.Ip e = refl
same_is kind.Bool kind.Long e = cc
same_is kind.Bool kind.Text e = cc
same_is kind.Bool kind.Ip e = cc
same_is kind.Long kind.Bool e = cc
same_is kind.Long kind.Text e = cc
same_is kind.Long kind.Ip e = cc
same_is kind.Text kind.Bool e = cc
same_is kind.Text kind.Long e = cc
same_is kind.Text kind.Ip e = cc
same_is kind.Ip kind.Bool e = cc
same_is kind.Ip kind.Long e = cc
same_is kind.Ip kind.Text e = cc

equal_itself : (k : Option Kind) → may_equal k k ≡ true
equal_itself None = refl
equal_itself (Some k) = same_itself k

within_itself : (ks : List (Option Kind)) → within ks ks ≡ true
within_itself [] = refl
within_itself (k ∷ ks) = both_true (may_equal k k) (within ks ks) (equal_itself k) (within_itself ks)

-- what is always null fits
none_equal : (c : Option Kind) → may_equal c None ≡ true
none_equal None = refl
none_equal (Some i) = refl

-- one place: what fits c and what is settled there
equal_settled : (c : Option Kind) (j : Kind) (k : Option Kind) → may_equal c (Some j) ≡ true → may_be j k ≡ true → may_equal c k ≡ true
equal_settled c j None e f = none_equal c
equal_settled c j (Some k) e f = subst (λ x. may_equal c (Some x) ≡ true) (same_is j k f) e

-- kinds in common with what is settled are so with what was before
before_within : (cs js ks : List (Option Kind)) → within cs (settled_kinds js ks) ≡ true → within cs js ≡ true
before_within cs [] ks e = refl
before_within cs (j ∷ js) [] e = e
before_within [] (None ∷ js) (k ∷ ks) e = let x = both_ok (is_none k) (within [] (settled_kinds js ks)) e in both_true true (within [] js) refl (before_within [] js ks x.1)
before_within [] (Some j ∷ js) (k ∷ ks) e = cc
before_within (c ∷ cs) (None ∷ js) (k ∷ ks) e =
    let x = both_ok (may_equal c k) (within cs (settled_kinds js ks)) e in
    both_true (may_equal c None) (within cs js) (none_equal c) (before_within cs js ks x.1)
before_within (c ∷ cs) (Some j ∷ js) (k ∷ ks) e =
    let x = both_ok (may_equal c (Some j)) (within cs (settled_kinds js ks)) e in
    both_true (may_equal c (Some j)) (within cs js) x.0 (before_within cs js ks x.1)

-- and with those that fitted
fitting_within : (cs js ks : List (Option Kind)) → fit js ks ≡ true → within cs (settled_kinds js ks) ≡ true → within cs ks ≡ true
fitting_within cs js [] f e = refl
fitting_within [] [] (k ∷ ks) f e = let x = both_ok (is_none k) (within [] (settled_kinds [] ks)) e in both_true (is_none k) (within [] ks) x.0 (fitting_within [] [] ks refl x.1)
fitting_within (c ∷ cs) [] (k ∷ ks) f e =
    let x = both_ok (may_equal c k) (within cs (settled_kinds [] ks)) e in
    both_true (may_equal c k) (within cs ks) x.0 (fitting_within cs [] ks refl x.1)
fitting_within [] (None ∷ js) (k ∷ ks) f e =
    let x = both_ok (is_none k) (within [] (settled_kinds js ks)) e in let y = both_ok true (fit js ks) f in
    both_true (is_none k) (within [] ks) x.0 (fitting_within [] js ks y.1 x.1)
fitting_within [] (Some j ∷ js) (k ∷ ks) f e = cc
fitting_within (c ∷ cs) (None ∷ js) (k ∷ ks) f e =
    let x = both_ok (may_equal c k) (within cs (settled_kinds js ks)) e in let y = both_ok true (fit js ks) f in
    both_true (may_equal c k) (within cs ks) x.0 (fitting_within cs js ks y.1 x.1)
fitting_within (c ∷ cs) (Some j ∷ js) (k ∷ ks) f e =
    let x = both_ok (may_equal c (Some j)) (within cs (settled_kinds js ks)) e in let y = both_ok (may_be j k) (fit js ks) f in
    both_true (may_equal c k) (within cs ks) (equal_settled c j k x.0 y.0) (fitting_within cs js ks y.1 x.1)

-- two kinds in common with the same one
alike_by : (c j k : Option Kind) → may_equal c j ≡ true → may_equal c k ≡ true → alike j k ≡ true
alike_by c None k e f = refl
alike_by c (Some j) None e f = refl
alike_by None (Some j) (Some k) e f = cc
alike_by (Some c) (Some j) (Some k) e f = subst (λ x. same_kind x k ≡ true) (same_is c j e) f

fit_by : (cs js ks : List (Option Kind)) → within cs js ≡ true → within cs ks ≡ true → fit js ks ≡ true
fit_by cs [] ks e f = refl
fit_by cs (j ∷ js) [] e f = refl
fit_by [] (None ∷ js) (k ∷ ks) e f =
    let x = both_ok true (within [] js) e in let y = both_ok (is_none k) (within [] ks) f in both_true true (fit js ks) refl (fit_by [] js ks x.1 y.1)
fit_by [] (Some j ∷ js) (k ∷ ks) e f = cc
fit_by (c ∷ cs) (j ∷ js) (k ∷ ks) e f =
    let x = both_ok (may_equal c j) (within cs js) e in let y = both_ok (may_equal c k) (within cs ks) f in
    both_true (alike j k) (fit js ks) (alike_by c j k x.0 y.0) (fit_by cs js ks x.1 y.1)

settled_within : (cs js ks : List (Option Kind)) → within cs js ≡ true → within cs ks ≡ true → within cs (settled_kinds js ks) ≡ true
settled_within cs js [] e f = e
settled_within [] [] (k ∷ ks) e f =
    let y = both_ok (is_none k) (within [] ks) f in both_true (is_none k) (within [] (settled_kinds [] ks)) y.0 (settled_within [] [] ks refl y.1)
settled_within (c ∷ cs) [] (k ∷ ks) e f =
    let y = both_ok (may_equal c k) (within cs ks) f in both_true (may_equal c k) (within cs (settled_kinds [] ks)) y.0 (settled_within cs [] ks refl y.1)
settled_within [] (None ∷ js) (k ∷ ks) e f =
    let x = both_ok true (within [] js) e in let y = both_ok (is_none k) (within [] ks) f in
    both_true (is_none k) (within [] (settled_kinds js ks)) y.0 (settled_within [] js ks x.1 y.1)
settled_within [] (Some j ∷ js) (k ∷ ks) e f = cc
settled_within (c ∷ cs) (None ∷ js) (k ∷ ks) e f =
    let x = both_ok (may_equal c None) (within cs js) e in let y = both_ok (may_equal c k) (within cs ks) f in
    both_true (may_equal c k) (within cs (settled_kinds js ks)) y.0 (settled_within cs js ks x.1 y.1)
settled_within (c ∷ cs) (Some j ∷ js) (k ∷ ks) e f =
    let x = both_ok (may_equal c (Some j)) (within cs js) e in let y = both_ok (may_equal c k) (within cs ks) f in
    both_true (may_equal c (Some j)) (within cs (settled_kinds js ks)) x.0 (settled_within cs js ks x.1 y.1)

module _ (mapping : List ℕ → Option Kind) where
  abbrev kinds : TermTree → List (Option Kind)
  kinds term = key_kinds mapping term.by

  abbrev InCommon : List (Option Kind) → List TermTree → Type 0
  InCommon before terms =
      (common : List (Option Kind)) × (within common before ≡ true) × (list_all (λ term. within common (key_kinds mapping term.by)) terms ≡ true)

  in_common : (before : List (Option Kind)) (item : ℕ) (terms : List TermTree) → kinds_broken mapping before item terms ≡ None → InCommon before terms
  in_common before item [] e = (before, within_itself before, refl)
  in_common before item (term ∷ terms) e =
      let x = or_none (unless (fit before (kinds term)) (KeyKind item)) (kinds_broken mapping (settled_kinds before (kinds term)) (item + 1) terms) e in
      let f = unless_none (fit before (kinds term)) (KeyKind item) x.0 in
      let y = in_common (settled_kinds before (kinds term)) (item + 1) terms x.1 in (
        y.0,
        before_within y.0 before (kinds term) y.1,
        both_true (within y.0 (kinds term)) (list_all (λ term. within y.0 (key_kinds mapping term.by)) terms) (fitting_within y.0 before (kinds term) f y.1) y.2,
      )

  -- where none differs, keys are alike
  pub alike_from : (terms : List TermTree) → kinds_broken mapping [] 1 terms ≡ None → AreAlike mapping terms
  alike_from terms e = let x = in_common [] 1 terms e in record { common = x.0; each = x.2 }

  unbroken : (common before : List (Option Kind)) (item : ℕ) (terms : List TermTree) → within common before ≡ true →
      list_all (λ term. within common (key_kinds mapping term.by)) terms ≡ true → kinds_broken mapping before item terms ≡ None
  unbroken common before item [] e f = refl
  unbroken common before item (term ∷ terms) e f =
      let x = both_ok (within common (kinds term)) (list_all (λ term. within common (key_kinds mapping term.by)) terms) f in
      none_of (unless (fit before (kinds term)) (KeyKind item)) (kinds_broken mapping (settled_kinds before (kinds term)) (item + 1) terms)
      (unless_true (fit before (kinds term)) (KeyKind item) (fit_by common before (kinds term) e x.0))
      (unbroken common (settled_kinds before (kinds term)) (item + 1) terms (settled_within common before (kinds term) e x.0) x.1)

  -- where keys are alike, none differs
  pub alike_to : (terms : List TermTree) → AreAlike mapping terms → kinds_broken mapping [] 1 terms ≡ None
  alike_to terms a = unbroken a.common [] 1 terms refl a.each
