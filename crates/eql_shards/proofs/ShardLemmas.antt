-- What is known of shards that were opened, and why opening them stops.
use Rattle.std.proofs.Common.{◌≡◌, ℕ, ◌+◌, ◌<◌, inr, List, [], ◌∷◌, ◌++◌, length, take, drop, get_or, Option, Some, None, refl, ap, ap₂, sym, ◌∙◌, subst}
use Rattle.std.specs.Prelude.{cond, is_none, map}
use Rattle.std.specs.Option.{IfSome, option_or}
use Rattle.std.proofs.lemmas.List.{map-append, take_more, take-append-drop, drop_more}
use Rattle.std.proofs.lemmas.List.Folds.{find-append}
use Rattle.eql_values.specs.declared.value.Kind.{Kind}
use Rattle.eql_outside.specs.Outside.{file_named}
use Rattle.eql_query.specs.QueryTree.{QueryTree}
use Rattle.eql_runs.specs.Files.{Files, is_missing, first_missing, HasTexts}
use Rattle.eql_runs.specs.Refusals.{Refuses}
use Rattle.eql_runs.specs.Refusals as run
use Rattle.eql_runs.specs.Runs.{Reaches}
use Rattle.eql_runs.specs.Runs as way
use Rattle.eql_runs.proofs.Reading.{none_missing}
use Rattle.eql_inputs.specs.declared.error.InputError.{InputError}
use Rattle.eql_inputs.specs.Fronts.{IsMissing, IsWholeFile}
use Rattle.eql_inputs.specs.Steps.{naming, GotChecked, StopsReading}
use Rattle.eql_shards.specs.Shards.{AreWholeFiles, HasShardsCause}
use Rattle.eql_inputs.proofs.ErrorLemmas.{unread_cause}

-- no shards, and one more
pub whole_none : (files : Option Files) → AreWholeFiles [] files []
whole_none None = tt
whole_none (Some fs) = record { texts = []; there = tt; lefts_are = refl }

texts_more : (names : List (List ℕ)) (files : Files) (texts : List (List ℕ)) (name text : List ℕ)
    → HasTexts names files texts → file_named name files ≡ Some text → HasTexts (names ++ name ∷ []) files (texts ++ text ∷ [])
texts_more [] files [] name text has there = (there, tt)
texts_more [] files (t ∷ ts) name text has there = absurd has
texts_more (n ∷ ns) files [] name text has there = absurd has
texts_more (n ∷ ns) files (t ∷ ts) name text has there = (has.0, texts_more ns files ts name text has.1 there)

pub whole_more : (names : List (List ℕ)) (name : List ℕ) (files : Option Files) (lefts : List (Option (List ℕ)))
    (left : Option (List ℕ)) → AreWholeFiles names files lefts → IsWholeFile name files left
    → AreWholeFiles (names ++ name ∷ []) files (lefts ++ left ∷ [])
whole_more names name None lefts left all one = tt
whole_more names name (Some fs) lefts left all one = record {
  texts = all.texts ++ one.text ∷ [];
  there = texts_more names fs all.texts name one.text all.there one.there;
  lefts_are =
      ap₂ (λ (ls : List (Option (List ℕ))) (l : Option (List ℕ)). ls ++ l ∷ []) all.lefts_are one.left_is
      ∙ sym (map-append (λ (text : List ℕ). Some text) all.texts (one.text ∷ []));
}

-- one shard more, as a loop comes to it
pub whole_step : (files later : Option Files) (names next : List (List ℕ)) (name : List ℕ)
    (lefts nexts : List (Option (List ℕ))) (left : Option (List ℕ)) → next ≡ names ++ name ∷ [] → nexts ≡ lefts ++ left ∷ []
    → later ≡ files → AreWholeFiles names files lefts → IsWholeFile name later left → AreWholeFiles next files nexts
whole_step files later names next name lefts nexts left is was kept all one =
    subst (λ (x : List (List ℕ)). AreWholeFiles x files nexts) (sym is)
    (subst (λ (x : List (Option (List ℕ))). AreWholeFiles (names ++ name ∷ []) files x) (sym was)
    (whole_more names name files lefts left all (subst (λ (x : Option Files). IsWholeFile name x left) kept one)))

pub named_step : (names next : List (List ℕ)) (name : List ℕ) (lents nexts : List (Option (List ℕ)))
    (lent : Option (List ℕ)) → next ≡ names ++ name ∷ [] → nexts ≡ lents ++ lent ∷ []
    → lents ≡ map (λ (n : List ℕ). Some n) names → lent ≡ Some name → nexts ≡ map (λ (n : List ℕ). Some n) next
named_step names next name lents nexts lent is was all one =
    was ∙ ap₂ (λ (ls : List (Option (List ℕ))) (l : Option (List ℕ)). ls ++ l ∷ []) all one
    ∙ sym (map-append (λ (n : List ℕ). Some n) names (name ∷ [])) ∙ sym (ap (map (λ (n : List ℕ). Some n)) is)

pub parts_at : (names : List (List ℕ)) (i : ℕ) (name : List ℕ) → i < length names → name ≡ get_or names i name
    → names ≡ take i names ++ name ∷ drop (i + 1) names
parts_at names i name less is =
    sym (take-append-drop i names)
    ∙ ap (λ (ys : List (List ℕ)). take i names ++ ys) (drop_more names i name less ∙ ap (λ y. y ∷ drop (i + 1) names) (sym is))

pub taken_at : (names : List (List ℕ)) (i : ℕ) (name : List ℕ) → i < length names → name ≡ get_or names i name
    → take (i + 1) names ≡ take i names ++ name ∷ []
taken_at names i name less is = take_more names i name less ∙ ap (λ y. take i names ++ y ∷ []) (sym is)

-- a shard behind others that are there
first_here : (fs : Files) (names before : List (List ℕ)) (name : List ℕ) (after : List (List ℕ))
    → names ≡ before ++ name ∷ after → first_missing fs before ≡ None → file_named name fs ≡ None
    → first_missing fs names ≡ Some name
first_here fs names before name after parts there none =
    ap (first_missing fs) parts ∙ find-append (is_missing fs) before (name ∷ after)
    ∙ ap (λ (o : Option (List ℕ)). option_or o (first_missing fs (name ∷ after))) there
    ∙ ap (λ (o : Option (List ℕ)). cond (is_none o) (Some name) (first_missing fs after)) none

module _ (query fields : List ℕ) (names before : List (List ℕ)) (name : List ℕ) (after : List (List ℕ))
    (parts : names ≡ before ++ name ∷ after) (tree : QueryTree) (mapping : List (List ℕ × Kind)) where
  shard_rule : (files : Option Files) (lefts : List (Option (List ℕ))) → AreWholeFiles before files lefts
      → GotChecked query fields files tree mapping
      → IfSome files (λ fs. file_named name fs ≡ None → Refuses (naming query fields names) fs (run.no_file name))
  shard_rule None lefts whole got = tt
  shard_rule (Some fs) lefts whole got = λ none.
      run.no_shard tree mapping got name
      (first_here fs names before name after parts (none_missing before fs whole.texts whole.there) none)

  shard_reached : (files : Option Files) (lefts : List (Option (List ℕ))) → AreWholeFiles before files lefts
      → GotChecked query fields files tree mapping
      → IfSome files (λ fs. Reaches (naming query fields names) fs name)
  shard_reached None lefts whole got = tt
  shard_reached (Some fs) lefts whole got =
      way.shard_file tree mapping got before name after parts (none_missing before fs whole.texts whole.there)

pub shard_stopped : (names before : List (List ℕ)) (name : List ℕ) (after : List (List ℕ)) (files later : Option Files)
    (lefts : List (Option (List ℕ))) (h : InputError) → names ≡ before ++ name ∷ after → later ≡ files
    → AreWholeFiles before files lefts → StopsReading name (IsMissing name later) h → HasShardsCause names files h
shard_stopped names before name after files later lefts h parts kept whole stop = λ query fields tree mapping got.
    unread_cause (naming query fields names) name files h (inr (inr (before, after, parts)))
    (subst (λ (x : Option Files). StopsReading name (IsMissing name x) h) kept stop)
    (shard_rule query fields names before name after parts tree mapping files lefts whole got)
    (shard_reached query fields names before name after parts tree mapping files lefts whole got)
