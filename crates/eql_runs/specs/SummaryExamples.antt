-- The search of `made`, as its texts read, and worked summaries, computed.
use Rattle.std.specs.Prelude.{◌≡◌, ℕ, pos, List, [], ◌∷◌, None, Some, false, refl, codes}
use Rattle.std.specs.Fmt.{digits}
use Rattle.eql_values.specs.declared.value.Kind.{Kind}
use Rattle.eql_values.specs.declared.value.Kind.TheVariants as kind
use Rattle.eql_query.specs.declared.expr.CmpOp.TheVariants.{Eq}
use Rattle.eql_query.specs.QueryTree.{TermTree, sequence, QueryTree}
use Rattle.eql_query.specs.Tree as t
use Rattle.eql_runs.specs.Searches.{Search}
use Rattle.eql_runs.specs.Summaries.{summary, made_lines}

-- a process of this name
abbrev process_named : List ℕ → TermTree
process_named name = record {
  category = Some (codes "process");
  cond = t.cmp Eq (t.field (codes "process.name") false) (t.str name);
  by = [];
  runs = pos 1;
}

-- the query
abbrev pub made_tree : QueryTree
made_tree = record {
  body =
      sequence (record { name = codes "user.name"; optional = false } ∷ []) None
      (process_named (codes "attrib") ∷ process_named (codes "bash") ∷ process_named (codes "cat") ∷ [])
      None;
  pipes = [];
}

-- the mapping
abbrev pub made_kinds : List (List ℕ × Kind)
made_kinds = (codes "process.name", kind.Text) ∷ (codes "user.name", kind.Text) ∷ []

abbrev pub made_search : Search
made_search = record { query = made_tree; mapping = made_kinds; tie = None; slack = None; places = false }

-- no events
of_none : made_lines 0 made_search ≡ codes "events 0\nmatches 0\nfirst none\nlast none\n"
unfolding digits lib.Utf8.encode
of_none = refl

-- one line, and two
of_one_line :
    summary 201 (codes "1 [\"u0\"] 0:1 0:26 0:51" ∷ [])
    ≡ codes "events 201\nmatches 1\nfirst 1 [\"u0\"] 0:1 0:26 0:51\nlast 1 [\"u0\"] 0:1 0:26 0:51\n"
unfolding digits lib.Utf8.encode
of_one_line = refl

of_two_lines :
    summary 202 (codes "1 [\"u0\"] 0:1 0:26 0:51" ∷ codes "2 [\"u1\"] 1:1 1:26 1:51" ∷ [])
    ≡ codes "events 202\nmatches 2\nfirst 1 [\"u0\"] 0:1 0:26 0:51\nlast 2 [\"u1\"] 1:1 1:26 1:51\n"
unfolding digits lib.Utf8.encode
of_two_lines = refl
