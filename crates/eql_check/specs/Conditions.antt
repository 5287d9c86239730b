-- The conditions of a query.
use Rattle.std.specs.Prelude.{ℕ, List, [], ◌∷◌, ◌++◌, map, Option, Some, None, Contains, length, ◌+◌}
use Rattle.eql_query.specs.Tree.{Tree}
use Rattle.eql_query.specs.declared.expr.FieldRef.{FieldRef}
use Rattle.eql_query.specs.QueryTree.{TermTree, BodyTree, event, sequence, QueryTree}

abbrev pub as_list : {A : Type 0} → Option A → List A
as_list None = []
as_list (Some x) = x ∷ []

-- the items of a query in the order of the text: those of a sequence, and then its until item. The one item of an event
-- query has no keys of its own by the grammar; a tree made by hand where it has some is judged like any other item
abbrev pub all_items : BodyTree → List TermTree
all_items (event term) = term ∷ []
all_items (sequence by span items until) = items ++ as_list until

-- the conditions of a query
abbrev pub conditions : QueryTree → List Tree
conditions query = map (λ term. term.cond) (all_items query.body)

-- one of them
abbrev pub IsConditionOf : Tree → QueryTree → Type 0
IsConditionOf cond query = Contains (conditions query) cond

-- the key fields that all items of a query share
abbrev pub shared_keys : BodyTree → List FieldRef
shared_keys (event term) = []
shared_keys (sequence by span items until) = by

abbrev pub own_count : List TermTree → ℕ
own_count [] = 0
own_count (term ∷ terms) = length term.by

-- how many keys each item of a query has: the shared ones and its own; single events have none
abbrev pub key_count : BodyTree → ℕ
key_count (event term) = 0
key_count (sequence by span items until) = length by + own_count items
