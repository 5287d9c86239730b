-- What the list of used fields holds, and lent items.
use Rattle.std.specs.Prelude.{ℕ, List, map, String, string_bytes}
use Rattle.std.specs.Borrow.{Bor}
use Rattle.std.specs.Str.{chars}
use Rattle.std.specs.declared.alloc.Global.{Global}
use Rattle.eql_values.specs.declared.value.Kind.{Kind}
use Rattle.eql_query.specs.declared.query.Term.{Term}
use Rattle.eql_query.specs.QueryTree.{TermTree, term_tree}

-- fields by their names' characters
abbrev pub fields_in_entries : List (String Global × Kind) → List (List ℕ × Kind)
fields_in_entries entries = map (λ entry. (chars (string_bytes entry.0), entry.1)) entries

-- the trees of lent items
abbrev pub terms_in : List (Bor Term) → List TermTree
terms_in items = map (λ item. term_tree item.now) items

-- lent names
abbrev pub names_seen : List (Bor (List ℕ)) → List (List ℕ)
names_seen names = map (λ name. name.now) names
