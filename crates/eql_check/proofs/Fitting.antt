-- The values of slots that fit the used fields.
use Rattle.std.proofs.Common.{◌≡◌, ℕ, zero, suc, ◌<◌, List, [], ◌∷◌, length, map, get_or, true, Option, Some, None, refl, sym, ap, ◌∙◌, subst, arith}
use Rattle.std.proofs.lemmas.List.Quantifiers.{position-Some}
use Rattle.eql_values.specs.declared.value.Kind.{Kind}
use Rattle.eql_values.specs.declared.value.Kind.TheVariants as kind
use Rattle.eql_values.specs.declared.value.Value.{Value}
use Rattle.eql_values.specs.declared.value.Value.TheVariants as value
use Rattle.eql_values.specs.Orders.{text_eq}
use Rattle.eql_query.specs.Tree.{Tree}
use Rattle.eql_query.specs.QueryTree.{TermTree, QueryTree}
use Rattle.eql_values.specs.Fitting.{is_of, may_be, FitSlots}
use Rattle.eql_check.specs.Kinds.{kind_at}
use Rattle.eql_check.specs.Conditions.{all_items, IsConditionOf}
use Rattle.eql_check.specs.Truth.{means, slot_of, value_in, value_at}
use Rattle.eql_check.specs.Typing.{HasKind, AreItems, more_items}
use Rattle.eql_check.specs.WasChecked.{WasChecked}
use Rattle.eql_check.specs.Kept.{ConditionsAreBool, OperatorsMeetKinds}
use Rattle.eql_check.proofs.Checking.{is_checked}
use Rattle.eql_check.proofs.FirstUses.{same_name, FromMapping, from_mapping}
use Rattle.eql_check.proofs.Keeping.{null_is, kept, meets_kind}
use Rattle.eql_check.proofs.Meeting.{meets_kinds}

module _ (mapping : List ℕ → Option Kind) where
  from_at : (fields : List (List ℕ × Kind)) → FromMapping mapping fields → (i : ℕ) (d : List ℕ × Kind) → i < length fields →
      mapping (get_or fields i d).0 ≡ Some (get_or fields i d).1
  from_at [] f i d l = absurd (omega arith)
  from_at (field ∷ fields) f zero d l = f.0
  from_at (field ∷ fields) f (suc i) d l = from_at fields f.1 i d (omega arith)

  fit_at : (fields : List (List ℕ × Kind)) (slots : List Value) → FitSlots fields slots → (i : ℕ) (d : List ℕ × Kind) → i < length fields →
      is_of (Some (get_or fields i d).1) (get_or slots i value.Null) ≡ true
  fit_at [] slots f i d l = absurd (omega arith)
  fit_at (field ∷ fields) [] f i d l = absurd f
  fit_at (field ∷ fields) (v ∷ slots) f zero d l = f.0
  fit_at (field ∷ fields) (v ∷ slots) f (suc i) d l = fit_at fields slots f.1 i d (omega arith)

  by_slot : (fields : List (List ℕ × Kind)) (slots : List Value) (name : List ℕ) → FromMapping mapping fields → FitSlots fields slots →
      (o : Option ℕ) → slot_of fields name ≡ o → is_of (mapping name) (value_in slots o) ≡ true
  by_slot fields slots name f g None e = null_is (mapping name)
  by_slot fields slots name f g (Some i) e =
      let d : List ℕ × Kind = ([], kind.Bool) in
      let x = position-Some (λ (field : List ℕ × Kind). text_eq field.0 name) fields i d e in
      let same = same_name (get_or fields i d).0 name x.1 in
      let at = ap mapping (sym same) ∙ from_at fields f i d x.0 in
      ap (λ k. is_of k (get_or slots i value.Null)) at ∙ fit_at fields slots g i d x.0

  value_fits : (fields : List (List ℕ × Kind)) (slots : List Value) → FromMapping mapping fields → FitSlots fields slots → (name : List ℕ) →
      is_of (mapping name) (value_at fields slots name) ≡ true
  value_fits fields slots f g name = by_slot fields slots name f g (slot_of fields name) refl

  abbrev IsCondition : Tree → Type 0
  IsCondition cond = (k : Option Kind) × HasKind mapping cond k × (may_be kind.Bool k ≡ true)

  item_at : (terms : List TermTree) → AreItems mapping terms → (i : ℕ) (d : Tree) → i < length (map (λ term. term.cond) terms) →
      IsCondition (get_or (map (λ term. term.cond) terms) i d)
  item_at [] h i d l = absurd (omega arith)
  item_at (term ∷ terms) (more_items h hs) zero d l = (h.its_kind, h.has_kind, h.is_condition)
  item_at (term ∷ terms) (more_items h hs) (suc i) d l = item_at terms hs i d (omega arith)

  is_condition : (query : QueryTree) (cond : Tree) → AreItems mapping (all_items query.body) → IsConditionOf cond query → IsCondition cond
  is_condition query cond h c = subst IsCondition c.2 (item_at (all_items query.body) h c.0 cond c.1)

its_kind : (query : QueryTree) (fields : List (List ℕ × Kind)) (was : WasChecked query fields) (cond : Tree) → IsConditionOf cond query →
    IsCondition (kind_at was.mapping) cond
its_kind query fields was cond c = is_condition (kind_at was.mapping) query cond (is_checked (kind_at was.mapping) query was.kept).items c

slots_fit : (query : QueryTree) (fields : List (List ℕ × Kind)) (was : WasChecked query fields) (slots : List Value) → FitSlots fields slots →
    (name : List ℕ) → is_of (kind_at was.mapping name) (value_at fields slots name) ≡ true
slots_fit query fields was slots g =
    let mapping : List ℕ → Option Kind = kind_at was.mapping in
    value_fits mapping fields slots (subst (λ fs. FromMapping mapping fs) (sym was.used) (from_mapping mapping query)) g

pub conditions_are_bool : (query : QueryTree) (fields : List (List ℕ × Kind)) → WasChecked query fields → ConditionsAreBool query fields
conditions_are_bool query fields was cond slots c g =
    let mapping : List ℕ → Option Kind = kind_at was.mapping in
    let x = its_kind query fields was cond c in
    meets_kind kind.Bool x.0 (means (value_at fields slots) cond) x.2
    (kept mapping (value_at fields slots) (slots_fit query fields was slots g) x.1)

pub operators_meet_kinds : (query : QueryTree) (fields : List (List ℕ × Kind)) → WasChecked query fields → OperatorsMeetKinds query fields
operators_meet_kinds query fields was cond slots c g =
    let x = its_kind query fields was cond c in
    meets_kinds (kind_at was.mapping) (value_at fields slots) (slots_fit query fields was slots g) cond x.0 x.1
