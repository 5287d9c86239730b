-- The canonical text of worked queries.
use Rattle.std.specs.Prelude.{◌≡◌, pos, neg_ℤ, true, false, [], ◌∷◌, ◌++◌, Some, None, codes, refl}
use Rattle.eql_values.specs.declared.value.Value.TheVariants as value
use Rattle.eql_query.specs.declared.expr.CmpOp.TheVariants as cmp
use Rattle.eql_query.specs.declared.expr.PatOp.TheVariants as pat
use Rattle.eql_query.specs.declared.expr.MathOp.TheVariants as math
use Rattle.eql_query.specs.declared.query.Unit.TheVariants as unit
use Rattle.eql_query.specs.declared.query.PipeText.TheVariants as pipe
use Rattle.eql_query.specs.Tree.{none, more}
use Rattle.eql_query.specs.Tree as t
use Rattle.eql_query.specs.QueryTree.{event, sequence}
use Rattle.eql_parser.specs.Printed.{query_shown, tree_shown, string_shown}
use Rattle.std.specs.Fmt.{digits}

sequence_with_keys : query_shown (record {
  body = sequence (record { name = codes "a"; optional = false } ∷ record { name = codes "b.c"; optional = false } ∷ []) (Some (record { count = pos 1; unit = unit.M }))
      (record { category = None; cond = t.bool true; by = []; runs = pos 1 } ∷ [])
      (Some (record { category = Some (codes "x y"); cond = t.bool false; by = []; runs = pos 1 }));
  pipes = [];
}) ≡ codes "sequence by `a`, `b.c` with maxspan=1m [any where true] until [\"x y\" where false]"
unfolding digits
sequence_with_keys = refl

event_query : query_shown (record {
  body = event (record {
    category = Some (codes "process");
    cond = t.and (more (t.cmp cmp.Eq (t.field (codes "process.name") false) (t.str (codes "a")))
        (more (t.not (t.member false false (t.field (codes "process.pid") false) (value.Long (pos 1) ∷ value.Long (pos 2) ∷ []))) none));
    by = [];
    runs = pos 1;
  });
  pipes = [];
}) ≡ codes "\"process\" where ((`process.name` == \"a\") and (not (`process.pid` in (1, 2))))"
unfolding digits
event_query = refl

runs_and_pipes : query_shown (record {
  body = sequence [] None (record { category = None; cond = t.bool true; by = record { name = codes "a`b"; optional = true } ∷ []; runs = pos 3 } ∷ []) None;
  pipes = pipe.Head (pos 2) ∷ pipe.Tail (pos 1) ∷ [];
}) ≡ codes "sequence [any where true] by ?`a``b` with runs=3 | head 2 | tail 1"
unfolding digits
runs_and_pipes = refl

patterns : tree_shown (t.or (more (t.pattern pat.Colon (t.str (codes "a")) (codes "b*" ∷ [])) (more (t.pattern pat.LikeFold t.null (codes "c" ∷ codes "d" ∷ [])) none))) []
    ≡ codes "((\"a\" : \"b*\") or (null like~ (\"c\", \"d\")))"
patterns = refl

calls : tree_shown (t.math math.Sub (t.neg (t.long (pos 5))) (t.call (codes "indexOf") true (more (t.str (codes "a")) (more (t.str (codes "b")) none)))) []
    ≡ codes "((-5) - indexOf~(\"a\", \"b\"))"
unfolding digits
calls = refl

members : tree_shown (t.member true true t.null (value.Text (codes "x") ∷ value.Long (neg_ℤ (pos 7)) ∷ value.Bool true ∷ [])) [] ≡ codes "(null not in~ (\"x\", -7, true))"
unfolding digits
members = refl

-- a quote, a backslash, a line feed, a tab, a carriage return, and two other control characters
escapes : string_shown (34 ∷ 92 ∷ 10 ∷ 9 ∷ 13 ∷ 27 ∷ 127 ∷ []) [] ≡ codes "\"\\\"\\\\\\n\\t\\r\\u{1b}\\u{7f}\""
escapes = refl

-- on both sides of 127 to 159, a letter beyond ASCII, a separator of lines, and marks of direction
hidden : string_shown (126 ∷ 127 ∷ 133 ∷ 159 ∷ 160 ∷ 233 ∷ 8232 ∷ 8206 ∷ 8238 ∷ 8239 ∷ 8294 ∷ []) []
    ≡ 34 ∷ 126 ∷ codes "\\u{7f}\\u{85}\\u{9f}" ++ 160 ∷ 233 ∷ codes "\\u{2028}\\u{200e}\\u{202e}" ++ 8239 ∷ codes "\\u{2066}\""
unfolding lib.Utf8.encode
hidden = refl
