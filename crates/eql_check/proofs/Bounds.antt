-- How many keys and fields a checked query has.
use Rattle.std.proofs.Common.{◌≡◌, ◌≤◌, ℕ, List, [], ◌∷◌, length, true, Option, refl, sym, subst}
use Rattle.std.proofs.lemmas.Bool.{leb-true}
use Rattle.eql_values.specs.declared.value.Kind.{Kind}
use Rattle.std.specs.List.{list_all}
use Rattle.eql_query.specs.QueryTree.{QueryTree, TermTree}
use Rattle.eql_check.specs.Kinds.{kind_at}
use Rattle.eql_check.specs.Conditions.{all_items, key_count}
use Rattle.eql_check.specs.Used.{uses, used_fields, query_fields, AreOnce}
use Rattle.eql_check.specs.Rules.{has_runs}
use Rattle.eql_check.specs.Typing.{AreItems, more_items, IsChecked}
use Rattle.eql_check.specs.WasChecked.{WasChecked}
use Rattle.eql_check.specs.RulesKept.{KeepsRules}
use Rattle.eql_check.proofs.Breaking.{both_true}
use Rattle.eql_check.proofs.Checking.{is_checked}
use Rattle.eql_check.proofs.FirstUses.{first_once}

have_runs : (mapping : List ℕ → Option Kind) (terms : List TermTree) → AreItems mapping terms → list_all has_runs terms ≡ true
have_runs mapping [] items = refl
have_runs mapping (term ∷ terms) (more_items item items) = both_true (has_runs term) (list_all has_runs terms) item.runs (have_runs mapping terms items)

module _ (query : QueryTree) (fields : List (List ℕ × Kind)) (was : WasChecked query fields) where
  checked : IsChecked (kind_at was.mapping) query
  checked = is_checked (kind_at was.mapping) query was.kept

  pub few_keys : key_count query.body ≤ 8
  few_keys = leb-true (key_count query.body) 8 checked.few_keys

  pub few_fields : length fields ≤ 64
  few_fields =
      subst (λ fs. length fs ≤ 64) (sym was.used)
      (leb-true (length (used_fields (kind_at was.mapping) query)) 64 checked.few_fields)

  pub fields_once : AreOnce fields
  fields_once = subst AreOnce (sym was.used) (first_once (uses (kind_at was.mapping) (query_fields query)))

  pub rules_kept : KeepsRules query fields
  rules_kept = record {
    mapping = was.mapping;
    checked = checked;
    used = was.used;
    runs = have_runs (kind_at was.mapping) (all_items query.body) checked.items;
  }
