-- Fields that are entered one by one stand by the first places of their names.
use Rattle.std.proofs.Common.{◌≡◌, inl, inr, ℕ, List, [], ◌∷◌, ◌++◌, Bool, true, false, not, ◌||◌, Option, Some, None, refl, sym, ap, ◌∙◌, subst, append_assoc}
use Rattle.std.specs.Prelude.{option_map}
use Rattle.std.specs.Ordering.{is_eq}
use Rattle.std.specs.List.{cons_option, filter, list_any, AllByRecursion, IsDistinct}
use Rattle.std.specs.declared.cmp.Ordering.{Ordering}
use Rattle.std.specs.declared.cmp.Ordering.TheVariants.{Less, Equal, Greater}
use Rattle.std.specs.Map.{keys_of}
use Rattle.std.proofs.lemmas.Bool.{cases_Bool, cond-true, cond-false, or_parts}
use Rattle.std.proofs.lemmas.Cmp.{eq_by_cmp_equiv}
use Rattle.std.proofs.lemmas.List.{append-nil}
use Rattle.std.proofs.lemmas.List.Folds.{list_any-append}
use Rattle.eql_values.specs.declared.value.Kind.{Kind}
use Rattle.eql_values.specs.Orders.{text_cmp, text_eq}
use Rattle.eql_values.specs.Totals.{text_cmp_total}
use Rattle.eql_values.proofs.Same.{text_same}
use Rattle.eql_query.specs.QueryTree.{QueryTree}
use Rattle.eql_check.specs.Entering.{use_field, use_if, used_after}
use Rattle.eql_check.specs.Used.{uses, without, first_uses, used_fields, query_fields, AreOnce}

is_equal : (o : Ordering) → is_eq o ≡ true → o ≡ Equal
is_equal Less e = cc
is_equal Equal e = refl
is_equal Greater e = cc

pub same_name : (a b : List ℕ) → text_eq a b ≡ true → a ≡ b
same_name a b e = text_same a b (is_equal (text_cmp a b) e)

back : (a b : List ℕ) → text_eq a b ≡ text_eq b a
back a b = let laws = eq_by_cmp_equiv text_cmp_total in laws.symm a b

abbrev Fields : Type 0
Fields = List (List ℕ × Kind)

-- whether a name is among fields
abbrev is_in : Fields → List ℕ → Bool
is_in fields name = list_any (λ field. text_eq name field.0) fields

-- the fields whose names aren't among others
abbrev outside : Fields → Fields → Fields
outside before fields = filter (λ field. not (is_in before field.0)) fields

-- fields that are as the mapping has them
abbrev pub FromMapping : (List ℕ → Option Kind) → Fields → Type 0
FromMapping mapping [] = Unit {0}
FromMapping mapping (field ∷ fields) = (mapping field.0 ≡ Some field.1) × FromMapping mapping fields

-- fields of other names than this
abbrev AreOthers : List ℕ → Fields → Type 0
AreOthers name fields = AllByRecursion (λ other. text_eq name other ≡ false) (keys_of fields)

keeps : {X : Type 0} (p : X → Bool) (x : X) (xs : List X) → p x ≡ true → filter p (x ∷ xs) ≡ x ∷ filter p xs
keeps p x xs e = cond-true (p x) (x ∷ filter p xs) (filter p xs) e

drops : {X : Type 0} (p : X → Bool) (x : X) (xs : List X) → p x ≡ false → filter p (x ∷ xs) ≡ filter p xs
drops p x xs e = cond-false (p x) (x ∷ filter p xs) (filter p xs) e

-- a name that is among the fields before needn't be left out once more
already : (before : Fields) (name : List ℕ) → is_in before name ≡ true → (fields : Fields) → outside before (without name fields) ≡ outside before fields
already before name h [] = refl
already before name h (field ∷ fields) =
    let p : List ℕ × Kind → Bool = λ f. not (text_eq name f.0) in
    let q : List ℕ × Kind → Bool = λ f. not (is_in before f.0) in
    elim (cases_Bool (text_eq name field.0)) [
      | inl e ↦ ap (outside before) (drops p field fields (ap not e)) ∙ already before name h fields
          ∙ sym (drops q field fields (ap not (subst (λ x. is_in before x ≡ true) (same_name name field.0 e) h)))
      | inr e ↦ ap (outside before) (keeps p field fields (ap not e))
          ∙ elim (cases_Bool (is_in before field.0)) [
            | inl g ↦ drops q field (without name fields) (ap not g) ∙ already before name h fields ∙ sym (drops q field fields (ap not g))
            | inr g ↦ keeps q field (without name fields) (ap not g) ∙ ap (λ xs. field ∷ xs) (already before name h fields) ∙ sym (keeps q field fields (ap not g))
          ]
    ]

or_false : (b : Bool) → (b || false) ≡ b
or_false true = refl
or_false false = refl

-- a name is among fields and one more
among_more : (before : Fields) (name : List ℕ) (k : Kind) (other : List ℕ) → is_in (before ++ (name, k) ∷ []) other ≡ (is_in before other || text_eq name other)
among_more before name k other =
    list_any-append (λ field. text_eq other field.0) before ((name, k) ∷ [])
    ∙ ap (λ b. is_in before other || b) (or_false (text_eq other name) ∙ back other name)

either_true : (a b : Bool) → b ≡ true → (a || b) ≡ true
either_true true b e = refl
either_true false b e = e

-- what is outside of one more is outside, without that name
outside_more : (before : Fields) (name : List ℕ) (k : Kind) (fields : Fields) → outside (before ++ (name, k) ∷ []) fields ≡ outside before (without name fields)
outside_more before name k [] = refl
outside_more before name k (field ∷ fields) =
    let p : List ℕ × Kind → Bool = λ f. not (text_eq name f.0) in
    let q : List ℕ × Kind → Bool = λ f. not (is_in before f.0) in
    let r : List ℕ × Kind → Bool = λ f. not (is_in (before ++ (name, k) ∷ []) f.0) in
    let more = among_more before name k field.0 in
    let others = outside_more before name k fields in
    elim (cases_Bool (text_eq name field.0)) [
      | inl e ↦ drops r field fields (ap not (more ∙ either_true (is_in before field.0) (text_eq name field.0) e)) ∙ others
          ∙ sym (ap (outside before) (drops p field fields (ap not e)))
      | inr e ↦
          elim (cases_Bool (is_in before field.0)) [
            | inl g ↦ drops r field fields (ap not (more ∙ ap (λ b. b || text_eq name field.0) g)) ∙ others ∙ sym (drops q field (without name fields) (ap not g))
            | inr g ↦ keeps r field fields (ap not (more ∙ ap (λ b. b || text_eq name field.0) g ∙ e)) ∙ ap (λ xs. field ∷ xs) others ∙ sym (keeps q field (without name fields) (ap not g))
          ]
          ∙ sym (ap (outside before) (keeps p field fields (ap not e)))
    ]

one_kind : (j k : Kind) → Some j ≡ Some k → j ≡ k
one_kind j k e = cc

module _ (mapping : List ℕ → Option Kind) where
  -- a field that is there stays as it is
  entered_again : (fields : Fields) (name : List ℕ) (k : Kind) → FromMapping mapping fields → mapping name ≡ Some k → is_in fields name ≡ true →
      use_field fields name k ≡ fields
  entered_again [] name k f e h = cc
  entered_again (field ∷ fields) name k f e h =
      elim (cases_Bool (text_eq name field.0)) [
        | inl same ↦ cond-true (text_eq name field.0) ((field.0, k) ∷ fields) (field ∷ use_field fields name k) same
            ∙ ap (λ j. (field.0, j) ∷ fields) (one_kind k field.1 (sym e ∙ ap mapping (same_name name field.0 same) ∙ f.0))
        | inr other ↦ cond-false (text_eq name field.0) ((field.0, k) ∷ fields) (field ∷ use_field fields name k) other
            ∙ ap (λ xs. field ∷ xs) (entered_again fields name k f.1 e (ap (λ b. b || is_in fields name) (sym other) ∙ h))
      ]

  -- a new field comes last
  entered_new : (fields : Fields) (name : List ℕ) (k : Kind) → is_in fields name ≡ false → use_field fields name k ≡ fields ++ (name, k) ∷ []
  entered_new [] name k h = refl
  entered_new (field ∷ fields) name k h =
      let x = or_parts (text_eq name field.0) (is_in fields name) h in
      cond-false (text_eq name field.0) ((field.0, k) ∷ fields) (field ∷ use_field fields name k) x.0
      ∙ ap (λ xs. field ∷ xs) (entered_new fields name k x.1)

  from_more : (fields : Fields) (name : List ℕ) (k : Kind) → mapping name ≡ Some k → FromMapping mapping fields → FromMapping mapping (fields ++ (name, k) ∷ [])
  from_more [] name k e f = (e, tt)
  from_more (field ∷ fields) name k e f = (f.0, from_more fields name k e f.1)

  abbrev Entered : Fields → List (List ℕ) → Type 0
  Entered fields names = used_after mapping fields names ≡ fields ++ outside fields (first_uses (uses mapping names))

  entered_if : (o : Option Kind) (fields : Fields) (name : List ℕ) (names : List (List ℕ)) → mapping name ≡ o → FromMapping mapping fields →
      ((more : Fields) → FromMapping mapping more → Entered more names) →
      used_after mapping (use_if o fields name) names ≡ fields ++ outside fields (first_uses (cons_option (option_map (λ k. (name, k)) o) (uses mapping names)))
  entered_if None fields name names e f others = others fields f
  entered_if (Some k) fields name names e f others =
      let later = first_uses (uses mapping names) in
      let q : List ℕ × Kind → Bool = λ x. not (is_in fields x.0) in
      elim (cases_Bool (is_in fields name)) [
        | inl there ↦ ap (λ xs. used_after mapping xs names) (entered_again fields name k f e there) ∙ others fields f
            ∙ ap (λ xs. fields ++ xs) (sym (already fields name there later) ∙ sym (drops q (name, k) (without name later) (ap not there)))
        | inr new ↦ ap (λ xs. used_after mapping xs names) (entered_new fields name k new) ∙ others (fields ++ (name, k) ∷ []) (from_more fields name k e f)
            ∙ append_assoc fields ((name, k) ∷ []) (outside (fields ++ (name, k) ∷ []) later)
            ∙ ap (λ xs. fields ++ (name, k) ∷ xs) (outside_more fields name k later)
            ∙ ap (λ xs. fields ++ xs) (sym (keeps q (name, k) (without name later) (ap not new)))
      ]

  entered_after : (names : List (List ℕ)) (fields : Fields) → FromMapping mapping fields → Entered fields names
  entered_after [] fields f = sym (append-nil fields)
  entered_after (name ∷ names) fields f = entered_if (mapping name) fields name names refl f (λ more g. entered_after names more g)

  all_outside : (fields : Fields) → outside [] fields ≡ fields
  all_outside [] = refl
  all_outside (field ∷ fields) = ap (λ xs. field ∷ xs) (all_outside fields)

  -- what is entered from the beginning
  pub entered_from_none : (names : List (List ℕ)) → used_after mapping [] names ≡ first_uses (uses mapping names)
  entered_from_none names = entered_after names [] tt ∙ all_outside (first_uses (uses mapping names))

  from_part : (p : List ℕ × Kind → Bool) (fields : Fields) → FromMapping mapping fields → FromMapping mapping (filter p fields)
  from_part p [] f = tt
  from_part p (field ∷ fields) f =
      elim (cases_Bool (p field)) [
        | inl e ↦ subst (FromMapping mapping) (sym (keeps p field fields e)) (f.0, from_part p fields f.1)
        | inr e ↦ subst (FromMapping mapping) (sym (drops p field fields e)) (from_part p fields f.1)
      ]

  from_first : (fields : Fields) → FromMapping mapping fields → FromMapping mapping (first_uses fields)
  from_first [] f = tt
  from_first (field ∷ fields) f = (f.0, from_part (λ x. not (text_eq field.0 x.0)) (first_uses fields) (from_first fields f.1))

  from_if : (o : Option Kind) (name : List ℕ) (fields : Fields) → mapping name ≡ o → FromMapping mapping fields →
      FromMapping mapping (cons_option (option_map (λ k. (name, k)) o) fields)
  from_if None name fields e f = f
  from_if (Some k) name fields e f = (e, f)

  from_uses : (names : List (List ℕ)) → FromMapping mapping (uses mapping names)
  from_uses [] = tt
  from_uses (name ∷ names) = from_if (mapping name) name (uses mapping names) refl (from_uses names)

  pub from_mapping : (query : QueryTree) → FromMapping mapping (used_fields mapping query)
  from_mapping query = from_first (uses mapping (query_fields query)) (from_uses (query_fields query))

others_without : (name : List ℕ) (fields : Fields) → AreOthers name (without name fields)
others_without name [] = tt
others_without name (field ∷ fields) =
    let p : List ℕ × Kind → Bool = λ f. not (text_eq name f.0) in
    elim (cases_Bool (text_eq name field.0)) [
      | inl e ↦ subst (AreOthers name) (sym (drops p field fields (ap not e))) (others_without name fields)
      | inr e ↦ subst (AreOthers name) (sym (keeps p field fields (ap not e))) (e, others_without name fields)
    ]

others_among : (p : List ℕ × Kind → Bool) (name : List ℕ) (fields : Fields) → AreOthers name fields → AreOthers name (filter p fields)
others_among p name [] h = tt
others_among p name (field ∷ fields) h =
    elim (cases_Bool (p field)) [
      | inl e ↦ subst (AreOthers name) (sym (keeps p field fields e)) (h.0, others_among p name fields h.1)
      | inr e ↦ subst (AreOthers name) (sym (drops p field fields e)) (others_among p name fields h.1)
    ]

once_among : (p : List ℕ × Kind → Bool) (fields : Fields) → AreOnce fields → AreOnce (filter p fields)
unfolding IsDistinct
once_among p [] h = tt
once_among p (field ∷ fields) h =
    elim (cases_Bool (p field)) [
      | inl e ↦ subst AreOnce (sym (keeps p field fields e)) (others_among p field.0 fields h.0, once_among p fields h.1)
      | inr e ↦ subst AreOnce (sym (drops p field fields e)) (once_among p fields h.1)
    ]

-- of each name the first place stands alone
pub first_once : (fields : Fields) → AreOnce (first_uses fields)
unfolding IsDistinct
first_once [] = tt
first_once (field ∷ fields) =
    (others_without field.0 (first_uses fields), once_among (λ f. not (text_eq field.0 f.0)) (first_uses fields) (first_once fields))
