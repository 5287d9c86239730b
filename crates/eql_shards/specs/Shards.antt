-- The sources of shards.
use Rattle.std.specs.Prelude.{◌≡◌, ℕ, List, map, Option, Some, IfSome}
use Rattle.eql_values.specs.declared.value.Kind.{Kind}
use Rattle.eql_query.specs.QueryTree.{QueryTree}
use Rattle.eql_runs.specs.Files.{Files, HasTexts}
use Rattle.eql_inputs.specs.declared.error.InputError.{InputError}
use Rattle.eql_inputs.specs.Errors.{HasInputCause}
use Rattle.eql_inputs.specs.Steps.{naming, GotChecked}

-- these are left of sources over the files of these names: all of each
pub record AreWhole (names : List (List ℕ)) (files : Files) (lefts : List (Option (List ℕ))) : Type 0 where
  pub texts : List (List ℕ)
  pub there : HasTexts names files texts
  pub lefts_are : lefts ≡ map (λ (text : List ℕ). Some text) texts

-- the same, where the shelf tells its files
abbrev pub AreWholeFiles : List (List ℕ) → Option Files → List (Option (List ℕ)) → Type 0
AreWholeFiles names files lefts = IfSome files (λ fs. AreWhole names fs lefts)

-- opening the shards stopped so, in a run whose query was checked
abbrev pub HasShardsCause : List (List ℕ) → Option Files → InputError → Type 0
HasShardsCause shards files h =
    (query fields : List ℕ) (tree : QueryTree) (mapping : List (List ℕ × Kind))
    → GotChecked query fields files tree mapping → HasInputCause (naming query fields shards) files h
