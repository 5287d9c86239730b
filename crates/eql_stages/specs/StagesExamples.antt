-- Worked events and queries, computed: what an event says to the stages of a query, and spans and pipes.
use Rattle.std.specs.Prelude.{◌≡◌, ℕ, ◌-◌, ◌^◌, pos, Bool, true, false, List, [], ◌∷◌, length, Some, None, refl, codes}
use Rattle.ucd_case.proofs.Computing.{ucd_case}
use Rattle.eql_text.specs.Folding.{same}
use Rattle.eql_values.specs.declared.value.Kind.{Kind}
use Rattle.eql_values.specs.declared.value.Kind.TheVariants as kind
use Rattle.eql_values.specs.declared.value.Value.{Value}
use Rattle.eql_values.specs.declared.value.Value.TheVariants as value
use Rattle.eql_values.specs.declared.item.Route.{Route}
use Rattle.eql_values.specs.declared.cut.Pipe.TheVariants as kept
use Rattle.eql_query.specs.Tree as t
use Rattle.eql_query.specs.QueryTree.{TermTree, BodyTree, event, sequence}
use Rattle.eql_query.specs.declared.expr.FieldRef.{FieldRef}
use Rattle.eql_query.specs.declared.expr.PatOp.TheVariants.{Colon}
use Rattle.eql_query.specs.declared.query.Unit.TheVariants as unit
use Rattle.eql_query.specs.declared.query.PipeText.TheVariants as written
use Rattle.eql_stages.specs.Stages.{stages_in, until_in, span_in, pipe_of, routes_of}

-- an item of a category with a condition that is true
abbrev item : List ℕ → List FieldRef → ℕ → TermTree
item category keys runs = record { category = Some category; cond = t.bool true; by = keys; runs = pos runs }

abbrev field : List ℕ → FieldRef
field name = record { name = name; optional = false }

abbrev route : List Value → ℕ → ℕ → Bool → Route
route key low high until = record { key = key; mask = record { low = low; high = high }; until = until }

-- what an event of these categories and values says to a query
abbrev says : BodyTree → List (List ℕ × Kind) → List (List ℕ) → List Value → List Route
says body fields categories slots = routes_of fields categories slots (stages_in body) (until_in body)

-- sequence [process where true] with runs=3 [file where true]
abbrev runs : BodyTree
runs = sequence [] None (item (codes "process") [] 3 ∷ item (codes "file") [] 1 ∷ []) None

four_stages : length (stages_in runs) ≡ 4
four_stages = refl

-- an event of the item that runs fits the first three
three_at_once : says runs [] (codes "process" ∷ []) [] ≡ route [] 7 0 false ∷ []
unfolding lib.Utf8.encode
three_at_once = refl

the_fourth : says runs [] (codes "file" ∷ []) [] ≡ route [] 8 0 false ∷ []
unfolding lib.Utf8.encode
the_fourth = refl

no_part_of_a_category : says runs [] (codes "proc" ∷ codes "files" ∷ []) [] ≡ []
unfolding lib.Utf8.encode
no_part_of_a_category = refl

-- sequence [process where true] [file where true] until [network where true]
abbrev until_body : BodyTree
until_body = sequence [] None (item (codes "process") [] 1 ∷ item (codes "file") [] 1 ∷ []) (Some (item (codes "network") [] 1))

-- an event that ends its key, and one that fits a stage besides
ends : says until_body [] (codes "network" ∷ []) [] ≡ route [] 0 0 true ∷ []
unfolding lib.Utf8.encode
ends = refl

fits_and_ends : says until_body [] (codes "file" ∷ codes "network" ∷ []) [] ≡ route [] 2 0 true ∷ []
unfolding lib.Utf8.encode
fits_and_ends = refl

-- sequence [process where true] by process.pid [file where true] by file.pid
abbrev by_item : BodyTree
by_item =
    sequence [] None (item (codes "process") (field (codes "process.pid") ∷ []) 1 ∷ item (codes "file") (field (codes "file.pid") ∷ []) 1 ∷ []) None

abbrev pids : List (List ℕ × Kind)
pids = (codes "process.pid", kind.Long) ∷ (codes "file.pid", kind.Long) ∷ []

one_key : says by_item pids (codes "process" ∷ []) (value.Long (pos 7) ∷ value.Null ∷ []) ≡ route (value.Long (pos 7) ∷ []) 1 0 false ∷ []
unfolding lib.Utf8.encode
one_key = refl

-- two keys of one event stand in their order
two_keys : says by_item pids (codes "process" ∷ codes "file" ∷ []) (value.Long (pos 9) ∷ value.Long (pos 7) ∷ [])
    ≡ route (value.Long (pos 7) ∷ []) 2 0 false ∷ route (value.Long (pos 9) ∷ []) 1 0 false ∷ []
unfolding lib.Utf8.encode
two_keys = refl

same_key : says by_item pids (codes "process" ∷ codes "file" ∷ []) (value.Long (pos 7) ∷ value.Long (pos 7) ∷ [])
    ≡ route (value.Long (pos 7) ∷ []) 3 0 false ∷ []
unfolding lib.Utf8.encode
same_key = refl

-- null is no key, but where the field is marked
null_key : says by_item pids (codes "file" ∷ []) (value.Long (pos 7) ∷ value.Null ∷ []) ≡ []
unfolding lib.Utf8.encode
null_key = refl

abbrev marked_body : BodyTree
marked_body = sequence (record { name = codes "user.id"; optional = true } ∷ []) None (item (codes "process") [] 1 ∷ item (codes "file") [] 1 ∷ []) None

null_allowed : says marked_body [] (codes "process" ∷ []) [] ≡ route (value.Null ∷ []) 1 0 false ∷ []
unfolding lib.Utf8.encode
null_allowed = refl

-- sequence [any where process.name : "a*"] [any where process.name : "*b"]
abbrev named_term : List ℕ → TermTree
named_term pattern = record {
  category = None;
  cond = t.pattern Colon (t.field (codes "process.name") false) (pattern ∷ []);
  by = [];
  runs = pos 1;
}

abbrev two_patterns : BodyTree
two_patterns = sequence [] None (named_term (codes "a*") ∷ named_term (codes "*b") ∷ []) None

-- one event fits two stages
both_stages : says two_patterns ((codes "process.name", kind.Text) ∷ []) [] (value.Text (codes "AB") ∷ []) ≡ route [] 3 0 false ∷ []
unfolding same ucd_case lib.Utf8.encode
both_stages = refl

-- items of 100, 100 and 56 runs are stages of both halves
abbrev wide : BodyTree
wide = sequence [] None (item (codes "a") [] 100 ∷ item (codes "b") [] 100 ∷ item (codes "c") [] 56 ∷ []) None

across_the_halves : says wide [] (codes "b" ∷ []) [] ≡ route [] (2 ^ 128 - 2 ^ 100) (2 ^ 72 - 1) false ∷ []
unfolding lib.Utf8.encode
across_the_halves = refl

the_last : says wide [] (codes "c" ∷ []) [] ≡ route [] 0 (2 ^ 128 - 2 ^ 72) false ∷ []
unfolding lib.Utf8.encode
the_last = refl

-- single events are one stage without keys
single : says (event (item (codes "file") (field (codes "file.pid") ∷ []) 3)) [] (codes "file" ∷ []) [] ≡ route [] 1 0 false ∷ []
unfolding lib.Utf8.encode
single = refl

-- ten seconds, and a pipe
ten_seconds : span_in (sequence [] (Some (record { count = pos 10; unit = unit.S })) [] None) ≡ Some (pos 10000000000)
ten_seconds = refl

last_two : pipe_of (written.Tail (pos 2)) ≡ kept.Tail 2
last_two = refl
