-- A run finds fewer matches than a count of 64 bits can say.
use Rattle.std.proofs.Common.{◌≡◌, ℕ, ◌<◌, ◌≤◌, ◌^◌, ◌∷◌, pos, List, [], refl, ap, arith, length, suc}
use Rattle.std.specs.Prelude.{Option, true}
use Rattle.std.specs.List.{list_all}
use Rattle.std.proofs.lemmas.Bool.{and_from}
use Rattle.eql_values.specs.declared.value.Kind.{Kind}
use Rattle.eql_values.specs.declared.item.Item.{Item}
use Rattle.eql_values.specs.declared.order.Mark.TheVariants.{End}
use Rattle.eql_values.specs.declared.reader.LineGot.TheVariants as got
use Rattle.eql_laws.specs.Books.{CompletesOnce, FoundIsFew, greatest_shards, greatest_found}
use Rattle.eql_query.specs.QueryTree.{TermTree}
use Rattle.eql_check.specs.Conditions.{all_items}
use Rattle.eql_check.specs.Kinds.{kind_at}
use Rattle.eql_check.specs.RulesKept.{KeepsRules}
use Rattle.eql_check.specs.Rules.{has_runs}
use Rattle.eql_check.specs.Typing.{IsChecked, AreItems, more_items}
use Rattle.eql_stages.specs.Laws.{ReadersFit}
use Rattle.eql_stages.specs.Stages.{span_in}
use Rattle.eql_words.specs.declared.commands.Command.TheVariants as command
use Rattle.eql_words.specs.Bounds.{CommandsAreBounded}
use Rattle.eql_runs.specs.Files.{Files, HasTexts}
use Rattle.eql_runs.specs.Searches.{Search, plan_of, reads_of, slack_of, stages_of, matches_of}
use Rattle.eql_runs.specs.RunLaws as law

-- the laws on which this rests
pub record CountLaws : Type 0 where
  pub found : FoundIsFew
  pub readers : ReadersFit

-- a checked query keeps the rules
have_runs : (mapping : List ℕ → Option Kind) (terms : List TermTree) → AreItems mapping terms
    → list_all has_runs terms ≡ true
have_runs mapping [] items = refl
have_runs mapping (term ∷ terms) (more_items item items) =
    and_from (has_runs term) (list_all has_runs terms) item.runs (have_runs mapping terms items)

pub keeps : (search : Search) → IsChecked (kind_at search.mapping) search.query
    → KeepsRules search.query (plan_of search).fields
keeps search checked = record {
  mapping = search.mapping;
  checked = checked;
  used = refl;
  runs = have_runs (kind_at search.mapping) (all_items search.query.body) checked.items;
}

-- so each event has at most one key at the last stage
once : (laws : CountLaws) (search : Search) → IsChecked (kind_at search.mapping) search.query
    → (shard line : ℕ) (bytes : List ℕ) (item : Item) → reads_of search shard line bytes ≡ got.Item item
    → CompletesOnce (stages_of search) item
once laws search checked shard line bytes item is =
    ((laws.readers (plan_of search) (pos 0) (keeps search checked)).each shard line bytes item is).once

few_fit : (n : ℕ) → n ≤ greatest_found → n < 2 ^ 64
few_fit n few = omega (arith, few)

pub matches_are_few : CountLaws → law.MatchesAreFew
matches_are_few laws search texts checked few all =
    few_fit (length (matches_of search texts))
    (laws.found (stages_of search) (span_in search.query.body) (reads_of search) (slack_of search) texts End
    (once laws search checked) all few)

pub texts_count : (names : List (List ℕ)) (files : Files) (texts : List (List ℕ)) → HasTexts names files texts
    → length texts ≡ length names
texts_count [] files [] has = refl
texts_count [] files (t ∷ ts) has = elim has [ ]
texts_count (n ∷ ns) files [] has = elim has [ ]
texts_count (n ∷ ns) files (t ∷ ts) has = ap suc (texts_count ns files ts has.1)

pub found_is_few : CountLaws → CommandsAreBounded → law.RunsFindFew
found_is_few laws bounded words files find search texts is searches all =
    let count = (bounded words (command.Find find) is).count.1 in
    let few : length texts ≤ greatest_shards = omega (arith, count, texts_count find.shards files texts searches.there) in
    matches_are_few laws search texts searches.checked.checked few all
