-- Worked examples of the descent, computed from kinds of tokens.
use Rattle.std.specs.Prelude.{◌≡◌, ℕ, pos, negsuc, true, false, List, [], ◌∷◌, Some, None, Ok, Err, refl, codes}
use Rattle.eql_values.specs.declared.value.Value.TheVariants as value
use Rattle.eql_query.specs.declared.expr.CmpOp.TheVariants.{Eq}
use Rattle.eql_query.specs.declared.expr.PatOp.TheVariants.{Like}
use Rattle.eql_query.specs.declared.expr.MathOp.TheVariants.{Add, Sub, Mul}
use Rattle.eql_query.specs.declared.query.Unit.TheVariants.{M}
use Rattle.eql_query.specs.declared.query.PipeText.TheVariants.{Head}
use Rattle.eql_query.specs.Tree.{Tree, none, more}
use Rattle.eql_query.specs.Tree as t
use Rattle.eql_query.specs.QueryTree.{event, sequence, QueryTree}
use Rattle.eql_parser.specs.Kinds.{Kind, word_kind, and_, any_, bang_, bar_, by_, in_, matches, maxspan_, not_, or_, regex_, sample_, sequence_, true_, until_, where_, with_, name, folding, back, text, number, open_, close_, open_item_, close_item_, comma_, dot_, assign_, compares, adds, multiplies}
use Rattle.eql_parser.specs.Reading.{Syntax, LeftOut, TooDeep, TooOpen, separated, dotted, chain_from, unary, neg, expr}
use Rattle.eql_parser.specs.QueryReading.{items, pipes, query, query_by}

-- `any where` and a condition
abbrev when : List Kind → List Kind
when ts = any_ ∷ where_ ∷ ts

abbrev query_of : Tree → QueryTree
query_of e = record { body = event (record { category = None; cond = e; by = []; runs = pos 1 }); pipes = [] }

abbrev a : Kind
a = name (codes "a")

abbrev b : Kind
b = name (codes "b")

abbrev c : Kind
c = name (codes "c")

abbrev field : List ℕ → Tree
field w = t.field w false

-- words are keywords in small letters alone
keyword : word_kind (codes "in~") ≡ in_ true
unfolding lib.Utf8.encode
keyword = refl

no_keyword : word_kind (codes "And") ≡ name (codes "And")
unfolding lib.Utf8.encode
no_keyword = refl

folding_name : word_kind (codes "endsWith~") ≡ folding (codes "endsWith")
unfolding lib.Utf8.encode
folding_name = refl

-- a - b - c
from_the_left : query (when (a ∷ adds Sub ∷ b ∷ adds Sub ∷ c ∷ [])) ≡ Ok (query_of (t.math Sub (t.math Sub (field (codes "a")) (field (codes "b"))) (field (codes "c"))), [])
unfolding lib.Utf8.encode separated dotted chain_from unary neg expr pipes
from_the_left = refl

-- a + b * c
product_first : query (when (a ∷ adds Add ∷ b ∷ multiplies Mul ∷ c ∷ [])) ≡ Ok (query_of (t.math Add (field (codes "a")) (t.math Mul (field (codes "b")) (field (codes "c")))), [])
unfolding lib.Utf8.encode separated dotted chain_from unary neg expr pipes
product_first = refl

-- not a and b
not_first : query (when (not_ ∷ a ∷ and_ ∷ b ∷ [])) ≡ Ok (query_of (t.and (more (t.not (field (codes "a"))) (more (field (codes "b")) none))), [])
unfolding lib.Utf8.encode separated dotted chain_from unary neg expr pipes
not_first = refl

-- a or b or (c or a)
own_node : query (when (a ∷ or_ ∷ b ∷ or_ ∷ open_ ∷ c ∷ or_ ∷ a ∷ close_ ∷ []))
    ≡ Ok (query_of (t.or (more (field (codes "a")) (more (field (codes "b")) (more (t.or (more (field (codes "c")) (more (field (codes "a")) none))) none)))), [])
unfolding lib.Utf8.encode separated dotted chain_from unary neg expr pipes
own_node = refl

-- a.by.`c d` like "x"
dotted_name : query (when (a ∷ dot_ ∷ by_ ∷ dot_ ∷ back (codes "c d") ∷ matches Like ∷ text (codes "x") ∷ [])) ≡ Ok (query_of (t.pattern Like (field (codes "a.by.c d")) (codes "x" ∷ [])), [])
unfolding lib.Utf8.encode separated dotted chain_from unary neg expr pipes
dotted_name = refl

-- a not in ("x", -1)
not_in : query (when (a ∷ not_ ∷ in_ false ∷ open_ ∷ text (codes "x") ∷ comma_ ∷ adds Sub ∷ number (pos 1) ∷ close_ ∷ []))
    ≡ Ok (query_of (t.member false true (field (codes "a")) (value.Text (codes "x") ∷ value.Long (negsuc 0) ∷ [])), [])
unfolding lib.Utf8.encode separated dotted chain_from unary neg expr pipes
not_in = refl

-- sequence by a with maxspan=5m [any where true] by b with runs=3 ["by" where true] until [c where true] | head 2
whole : query
    (sequence_ ∷ by_ ∷ a ∷ with_ ∷ maxspan_ ∷ assign_ ∷ number (pos 5) ∷ name (codes "m") ∷ open_item_ ∷ any_ ∷ where_ ∷ true_ ∷ close_item_ ∷ by_ ∷ b ∷ with_ ∷ name (codes "runs") ∷ assign_
    ∷ number (pos 3) ∷ open_item_ ∷ text (codes "by") ∷ where_ ∷ true_ ∷ close_item_ ∷ until_ ∷ open_item_ ∷ c ∷ where_ ∷ true_ ∷ close_item_ ∷ bar_ ∷ name (codes "head") ∷ number (pos 2) ∷ [])
    ≡ Ok (
      record {
        body = sequence (record { name = codes "a"; optional = false } ∷ []) (Some (record { count = pos 5; unit = M })) (
            record { category = None; cond = t.bool true; by = record { name = codes "b"; optional = false } ∷ []; runs = pos 3 }
            ∷ record { category = Some (codes "by"); cond = t.bool true; by = []; runs = pos 1 } ∷ []) (Some (record { category = Some (codes "c"); cond = t.bool true; by = []; runs = pos 1 }));
        pipes = Head (pos 2) ∷ [];
      },
      [],
    )
unfolding lib.Utf8.encode separated dotted chain_from unary neg expr items pipes
whole = refl

-- a == b == c: refused at the second sign, with it and `c` left
no_chain : query (when (a ∷ compares Eq ∷ b ∷ compares Eq ∷ c ∷ [])) ≡ Err (Syntax 2)
unfolding lib.Utf8.encode separated dotted chain_from unary neg expr pipes
no_chain = refl

-- nothing stands behind `where`
early_end : query (when []) ≡ Err (Syntax 0)
unfolding separated dotted chain_from unary neg expr pipes
early_end = refl

-- a regex "x"
regex : query (when (a ∷ regex_ false ∷ text (codes "x") ∷ [])) ≡ Err (LeftOut (codes "regex") 2)
unfolding lib.Utf8.encode separated dotted chain_from unary neg expr pipes
regex = refl

-- sequence [a where true] ![b where true]
missing_event : query (sequence_ ∷ open_item_ ∷ a ∷ where_ ∷ true_ ∷ close_item_ ∷ bang_ ∷ open_item_ ∷ b ∷ where_ ∷ true_ ∷ close_item_ ∷ []) ≡ Err (LeftOut (codes "!") 6)
unfolding lib.Utf8.encode separated dotted chain_from unary neg expr items pipes
missing_event = refl

-- sample [a where true]
sample : query (sample_ ∷ open_item_ ∷ a ∷ where_ ∷ true_ ∷ close_item_ ∷ []) ≡ Err (LeftOut (codes "sample") 6)
sample = refl

-- number(a, 16)
number_with_base : query (when (name (codes "number") ∷ open_ ∷ a ∷ comma_ ∷ number (pos 16) ∷ close_ ∷ [])) ≡ Err (LeftOut (codes "number") 6)
unfolding lib.Utf8.encode separated dotted chain_from unary neg expr pipes
number_with_base = refl

-- with two levels allowed, not a == b is refused at its sign
too_deep : query_by (expr 1 2) (when (not_ ∷ a ∷ compares Eq ∷ b ∷ [])) ≡ Err (TooDeep 2)
unfolding lib.Utf8.encode separated dotted chain_from unary neg expr pipes
too_deep = refl

-- with one parenthesis allowed, ((a)) is refused at the second
too_open : query_by (expr 1 2) (when (open_ ∷ open_ ∷ a ∷ close_ ∷ close_ ∷ [])) ≡ Err (TooOpen 4)
unfolding lib.Utf8.encode separated dotted chain_from unary neg expr pipes
too_open = refl
