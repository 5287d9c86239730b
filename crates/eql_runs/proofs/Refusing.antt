-- A run is refused for one cause. How far a run comes is a number: each cause says that it comes so far and no
-- further.
use Rattle.std.proofs.Common.{◌≡◌, ℕ, zero, suc, ◌+◌, ◌-◌, ◌<◌, ◌⊎◌, inl, inr, List, Some, None, refl, ap, ap₂, sym, arith, ◌∙◌, subst}
use Rattle.std.proofs.lemmas.Option.{same_Some, none-some}
use Rattle.std.proofs.lemmas.Bool.{cases_order}
use Rattle.eql_values.specs.declared.value.Kind.{Kind as FieldKind}
use Rattle.eql_outside.specs.Outside.{file_named}
use Rattle.eql_lexer.specs.declared.token.Token.{Token}
use Rattle.eql_query.specs.QueryTree.{QueryTree}
use Rattle.eql_check.specs.Kinds.{kind_at}
use Rattle.eql_check.specs.Rules.{first_broken}
use Rattle.eql_words.specs.declared.commands.Command.{Command}
use Rattle.eql_words.specs.Commands.{command_of}
use Rattle.eql_runs.specs.Files.{Files, first_missing, HasTokens, HasNoTokens, ReadsAs, IsNotRead, HasQueryTokens, HasQuery, HasBoth, HasChecked}
use Rattle.eql_runs.specs.Refusals.{Names, Refusal, Refuses, refusal_status, no_file, lex, parse, mapping, broken, no_query, not_spelled, not_read, no_fields, bad_mapping, is_broken, no_shard}
use Rattle.eql_runs.specs.RunLaws.{IsSameRefusal, same, other_place}
use Rattle.eql_runs.proofs.Reading.{QueryLaws, one_text, missing_text, has_or_not, one_cause, read_or_not, agree, one_tokens, one_query, one_mapping, one_bad_mapping, mapping_or_not}

module _ (laws : QueryLaws) (names : Names) (files : Files) where
  -- what holds of the files of a run that comes so far
  pub record HasText (name : List ℕ) : Type 0 where
    pub text : List ℕ
    pub there : file_named name files ≡ Some text

  pub record Spelled : Type 0 where
    pub tokens : List Token
    pub spelled : HasQueryTokens names.query files tokens

  pub record Read : Type 0 where
    pub tree : QueryTree
    pub query : HasQuery names.query files tree

  pub record ReadNext : Type 0 where
    pub read : Read
    pub fields : HasText names.fields

  pub record Both : Type 0 where
    pub tree : QueryTree
    pub kinds : List (List ℕ × FieldKind)
    pub both : HasBoth names.query names.fields files tree kinds

  pub record Checks : Type 0 where
    pub tree : QueryTree
    pub kinds : List (List ℕ × FieldKind)
    pub checked : HasChecked names.query names.fields files tree kinds

  pub record AllThere : Type 0 where
    pub checks : Checks
    pub shards : first_missing files names.shards ≡ None

  abbrev pub Past : ℕ → Type 0
  Past zero = Unit {0}
  Past (suc zero) = HasText names.query
  Past (suc (suc zero)) = Spelled
  Past (suc (suc (suc zero))) = Read
  Past (suc (suc (suc (suc zero)))) = ReadNext
  Past (suc (suc (suc (suc (suc zero))))) = Both
  Past (suc (suc (suc (suc (suc (suc zero)))))) = Checks
  Past (suc (suc (suc (suc (suc (suc (suc zero))))))) = AllThere
  Past n = ⊥

  step_down : (n : ℕ) → Past (suc n) → Past n
  step_down zero h = tt
  step_down (suc zero) h = record { text = h.spelled.text; there = h.spelled.there }
  step_down (suc (suc zero)) h = record { tokens = h.query.tokens; spelled = h.query.spelled }
  step_down (suc (suc (suc zero))) h = h.read
  step_down (suc (suc (suc (suc zero)))) h =
      let m = h.both.mapping_there in
      record {
        read = record { tree = h.tree; query = h.both.query_there };
        fields = record { text = m.text; there = m.there };
      }
  step_down (suc (suc (suc (suc (suc zero))))) h = record { tree = h.tree; kinds = h.kinds; both = h.checked.both }
  step_down (suc (suc (suc (suc (suc (suc zero)))))) h = h.checks
  step_down (suc (suc (suc (suc (suc (suc (suc n))))))) h = absurd h

  down : (k m n : ℕ) → m ≡ k + n → Past m → Past n
  down zero m n e h = let eq : m ≡ n = omega (arith, e) in subst Past eq h
  down (suc k) zero n e h = absurd (omega (arith, e))
  down (suc k) (suc m) n e h = let less : m ≡ k + n = omega (arith, e) in down k m n less (step_down m h)

  abbrev pub depth : {refusal : Refusal} → Refuses names files refusal → ℕ
  depth (no_query none) = 0
  depth (not_spelled text is r none) = 1
  depth (not_read tokens has r denied) = 2
  depth (no_fields q has none) = 3
  depth (bad_mapping q has text is r bad) = 4
  depth (is_broken q kinds both r was) = 5
  depth (no_shard q kinds has name none) = 6

  past_of : (refusal : Refusal) (r : Refuses names files refusal) → Past (depth r)
  past_of _ (no_query none) = tt
  past_of _ (not_spelled text is r none) = record { text = text; there = is }
  past_of _ (not_read tokens has r denied) = record { tokens = tokens; spelled = has }
  past_of _ (no_fields q has none) = record { tree = q; query = has }
  past_of _ (bad_mapping q has text is r bad) =
      record { read = record { tree = q; query = has }; fields = record { text = text; there = is } }
  past_of _ (is_broken q kinds both r was) = record { tree = q; kinds = kinds; both = both }
  past_of _ (no_shard q kinds has name none) = record { tree = q; kinds = kinds; checked = has }

  -- the same first broken rule is found of what the files are
  same_rules : (q p : QueryTree) (ms ns : List (List ℕ × FieldKind)) → HasBoth names.query names.fields files q ms
      → HasBoth names.query names.fields files p ns → first_broken (kind_at ms) q ≡ first_broken (kind_at ns) p
  same_rules q p ms ns a b =
      ap₂ (λ (x : List (List ℕ × FieldKind)) (y : QueryTree). first_broken (kind_at x) y)
      (one_mapping names.fields files ms ns a.mapping_there b.mapping_there)
      (one_query laws names.query files q p a.query_there b.query_there)

  -- where a run is refused it doesn't come further
  stops : (refusal : Refusal) (r : Refuses names files refusal) → Past (suc (depth r)) → ⊥
  stops _ (no_query none) h = missing_text names.query files h.text none h.there
  stops _ (not_spelled text is r none) h =
      has_or_not laws text r h.tokens none
      (subst (λ (x : List ℕ). HasTokens x h.tokens)
      (one_text names.query files h.spelled.text text h.spelled.there is) h.spelled.has)
  stops _ (not_read tokens has r denied) h =
      let one : h.query.tokens ≡ tokens = one_tokens laws names.query files h.query.tokens tokens h.query.spelled has in
      read_or_not tokens h.tree r (subst (λ (x : List Token). ReadsAs x h.tree) one h.query.read) denied
  stops _ (no_fields q has none) h = missing_text names.fields files h.fields.text none h.fields.there
  stops _ (bad_mapping q has text is r bad) h =
      mapping_or_not names.fields files h.kinds text r h.both.mapping_there is bad
  stops _ (is_broken q kinds both r was) h =
      let kept : first_broken (kind_at h.kinds) h.tree ≡ None = (laws.exact (kind_at h.kinds) h.tree).1 h.checked.checked in
      none-some r (sym kept ∙ same_rules h.tree q h.kinds kinds h.checked.both both ∙ was)
  stops _ (no_shard q kinds has name none) h = none-some name (sym h.shards ∙ none)

  not_before : (refusal other : Refusal) (r : Refuses names files refusal) (s : Refuses names files other)
      → depth r < depth s → ⊥
  not_before refusal other r s less =
      let k : ℕ = depth s - suc (depth r) in
      let e : depth s ≡ k + suc (depth r) = omega (arith, less) in
      stops refusal r (down k (depth s) (suc (depth r)) e (past_of other s))

  same_of : (r s : Refusal) → r ≡ s → IsSameRefusal r s
  same_of r s e = subst (λ (x : Refusal). IsSameRefusal r x) e same

  -- causes that stop a run at the same step are the same refusal
  same_there : (refusal other : Refusal) (r : Refuses names files refusal) (s : Refuses names files other)
      → depth r ≡ depth s → IsSameRefusal refusal other
  same_there _ _ (no_query none) (no_query gone) e = same
  same_there _ _ (not_spelled text is r none) (not_spelled other there s gone) e =
      let one : HasNoTokens other r = subst (λ (x : List ℕ). HasNoTokens x r) (one_text names.query files text other is there) none in
      same_of (lex r) (lex s) (ap lex (one_cause laws other r s one gone))
  same_there _ _ (not_read tokens has r denied) (not_read others had s refused) e =
      let one : tokens ≡ others = one_tokens laws names.query files tokens others has had in
      same_of (parse r) (parse s) (ap parse (agree laws others r s (subst (λ (x : List Token). IsNotRead x r) one denied) refused))
  same_there _ _ (no_fields q has none) (no_fields p had gone) e = same
  same_there _ _ (bad_mapping q has text is r bad) (bad_mapping p had other there s worse) e =
      same_of (mapping r) (mapping s)
      (ap mapping (one_bad_mapping names.fields files text other r s is bad there worse))
  same_there _ _ (is_broken q kinds both r was) (is_broken p others two s found) e =
      same_of (broken r) (broken s)
      (ap broken (same_Some r s (sym was ∙ same_rules q p kinds others both two ∙ found)))
  same_there _ _ (no_shard q kinds has name none) (no_shard p others had name' gone) e =
      same_of (no_file name) (no_file name') (ap no_file (same_Some name name' (sym none ∙ gone)))
  same_there _ _ r s e = absurd (omega (arith, e))

  pub one_refusal : (refusal other : Refusal) → Refuses names files refusal → Refuses names files other
      → IsSameRefusal refusal other
  one_refusal refusal other r s = by_order (cases_order (depth r) (depth s))
    where
      by_order : (depth r ≡ depth s) ⊎ ((depth r < depth s) ⊎ (depth s < depth r)) → IsSameRefusal refusal other
      by_order (inl e) = same_there refusal other r s e
      by_order (inr (inl less)) = absurd (not_before refusal other r s less)
      by_order (inr (inr more)) = absurd (not_before other refusal s r more)

  shallow : (refusal : Refusal) (r : Refuses names files refusal) → depth r < 7
  shallow _ (no_query none) = omega arith
  shallow _ (not_spelled text is r none) = omega arith
  shallow _ (not_read tokens has r denied) = omega arith
  shallow _ (no_fields q has none) = omega arith
  shallow _ (bad_mapping q has text is r bad) = omega arith
  shallow _ (is_broken q kinds both r was) = omega arith
  shallow _ (no_shard q kinds has name none) = omega arith

  -- files that are all there and checked aren't refused
  pub none_refused : (tree : QueryTree) (kinds : List (List ℕ × FieldKind))
      → HasChecked names.query names.fields files tree kinds → first_missing files names.shards ≡ None
      → (refusal : Refusal) → Refuses names files refusal → ⊥
  none_refused tree kinds checked shards refusal r =
      let few : depth r < 7 = shallow refusal r in
      let k : ℕ = 6 - depth r in
      let up : 7 ≡ k + suc (depth r) = omega (arith, few) in
      let all : Past 7 = record { checks = record { tree = tree; kinds = kinds; checked = checked }; shards = shards } in
      stops refusal r (down k 7 (suc (depth r)) up all)

-- what is the same refusal has one status
pub same_status : (r s : Refusal) → IsSameRefusal r s → refusal_status r ≡ refusal_status s
same_status _ _ same = refl
same_status _ _ other_place = refl

-- words make one command
pub one_command : (words : List (List ℕ)) (command other : Command) → command_of words ≡ Some command
    → command_of words ≡ Some other → command ≡ other
one_command words command other a b = same_Some command other (sym a ∙ b)
