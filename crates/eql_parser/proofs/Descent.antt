-- Each step of the descent, by what the code does there. `d` is how many parentheses may still open, and `l` how many levels are allowed.
use Rattle.std.proofs.Common.{◌≡◌, ◌≢◌, ◌<◌, ◌≤◌, ◌-◌, ℕ, zero, suc, max, Bool, true, false, if◌then◌else◌, List, [], ◌∷◌, ◌++◌, length, Option, Some, Ok, Err, refl, sym, ap, ◌∙◌, arith}
use Rattle.eql_lexer.specs.declared.token.Token.{Token}
use Rattle.eql_query.specs.declared.expr.CmpOp.{CmpOp}
use Rattle.eql_query.specs.declared.expr.MathOp.{MathOp}
use Rattle.eql_query.specs.declared.expr.MathOp.TheVariants as math
use Rattle.eql_parser.specs.declared.parser.mark.Mark.TheVariants as m
use Rattle.eql_parser.specs.declared.parser.joint.Joint.{Joint}
use Rattle.eql_parser.specs.declared.parser.joint.Joint.TheVariants as joint
use Rattle.eql_parser.specs.declared.parser.stop.Stop.{Stop}
use Rattle.eql_parser.specs.declared.parser.node.Node.{Node}
use Rattle.eql_parser.specs.declared.parser.node.Nodes.{Nodes}
use Rattle.eql_parser.specs.Kinds.{Kind, kinds, not_, open_, close_, adds, compares}
use Rattle.eql_query.specs.Tree.{Tree, Trees, none, more}
use Rattle.eql_query.specs.Tree as t
use Rattle.eql_query.specs.View.{trees_of}
use Rattle.eql_parser.specs.Limits.{depth, deepest}
use Rattle.eql_parser.specs.Marks.{Lacks, LacksOperator, mark_kind, callee_kind}
use Rattle.eql_parser.specs.Answering.{Stops, IsNode, IsNodes, node_tree, nodes_trees, onto, room, inner, operand, joint_test, joint_mark, call_read}
use Rattle.eql_parser.specs.Reading.{Syntax, TooDeep, TooOpen, Res, then_do, res_map, above, joined_operands, separated, chain, chain_on, chain_from, closing, comma_list, arguments, prim, unary, sum, behind_sum, pred, neg, level, expr}
use Rattle.eql_parser.proofs.Defaults.{length_kinds}
use Rattle.eql_parser.proofs.Lacking.{lacks_or, lacks_and, lacks_comma, unclosed}
use Rattle.eql_parser.proofs.Levels.{above_is, above_deep}
use Rattle.eql_parser.proofs.Separated.{Ends, stops_as, stops_then, onto_nothing}

-- how many tokens are left where one comes first
pub place_is : (ts : List Token) (k : Kind) (us : List Kind) → kinds ts ≡ k ∷ us → suc (length us) ≡ length ts
place_is ts k us e = sym (ap length e) ∙ length_kinds ts

less : (n : ℕ) → suc n - 1 ≡ n
less n = omega arith

-- not
pub neg_plain : (d l : ℕ) (ts : List Kind) → Lacks m.Not ts → neg (room d) (inner d) l ts ≡ pred (room d) (inner d) l ts
unfolding neg
neg_plain d zero [] h = refl
neg_plain d zero (not_ ∷ ts) h = absurd (h refl)
neg_plain d zero (_ ∷ ts) h = refl
neg_plain d (suc l) [] h = refl
neg_plain d (suc l) (not_ ∷ ts) h = absurd (h refl)
neg_plain d (suc l) (_ ∷ ts) h = refl

pub neg_deep : (d l : ℕ) (ts : List Token) (us : List Kind) → l ≡ 0 → kinds ts ≡ not_ ∷ us → neg (room d) (inner d) l (kinds ts) ≡ Err (TooDeep (length ts))
unfolding neg
neg_deep d zero ts us z e = ap (neg (room d) (inner d) 0) e ∙ ap (λ n. Err (TooDeep n)) (place_is ts not_ us e)
neg_deep d (suc l) ts us z e = absurd (omega arith)

pub neg_turn : (d l : ℕ) (ts us : List Kind) → l ≢ 0 → ts ≡ not_ ∷ us → neg (room d) (inner d) l ts ≡ res_map t.not (neg (room d) (inner d) (l - 1) us)
unfolding neg
neg_turn d zero ts us z e = absurd (z refl)
neg_turn d (suc l) ts us z e = ap (neg (room d) (inner d) (suc l)) e ∙ ap (λ k. res_map t.not (neg (room d) (inner d) k us)) (sym (less l))

pub neg_done : (d l : ℕ) (ts us rest : List Kind) (e f : Tree) → l ≢ 0 → ts ≡ not_ ∷ us → neg (room d) (inner d) (l - 1) us ≡ Ok (e, rest) → f ≡ t.not e → neg (room d) (inner d) l ts ≡ Ok (f, rest)
neg_done d l ts us rest e f z h r q = neg_turn d l ts us z h ∙ ap (res_map t.not) r ∙ ap (λ x. Ok (x, rest)) (sym q)

-- minus
pub unary_plain : (d l : ℕ) (ts : List Kind) → Lacks m.Minus ts → unary (room d) (inner d) l ts ≡ prim (room d) (inner d) l ts
unfolding unary
unary_plain d zero [] h = refl
unary_plain d zero (adds math.Sub ∷ ts) h = absurd (h refl)
unary_plain d zero (_ ∷ ts) h = refl
unary_plain d (suc l) [] h = refl
unary_plain d (suc l) (adds math.Sub ∷ ts) h = absurd (h refl)
unary_plain d (suc l) (_ ∷ ts) h = refl

pub unary_deep : (d l : ℕ) (ts : List Token) (us : List Kind) → l ≡ 0 → kinds ts ≡ adds math.Sub ∷ us → unary (room d) (inner d) l (kinds ts) ≡ Err (TooDeep (length ts))
unfolding unary
unary_deep d zero ts us z e = ap (unary (room d) (inner d) 0) e ∙ ap (λ n. Err (TooDeep n)) (place_is ts (adds math.Sub) us e)
unary_deep d (suc l) ts us z e = absurd (omega arith)

pub unary_turn : (d l : ℕ) (ts us : List Kind) → l ≢ 0 → ts ≡ adds math.Sub ∷ us → unary (room d) (inner d) l ts ≡ res_map t.neg (unary (room d) (inner d) (l - 1) us)
unfolding unary
unary_turn d zero ts us z e = absurd (z refl)
unary_turn d (suc l) ts us z e = ap (unary (room d) (inner d) (suc l)) e ∙ ap (λ k. res_map t.neg (unary (room d) (inner d) k us)) (sym (less l))

pub unary_done : (d l : ℕ) (ts us rest : List Kind) (e f : Tree) → l ≢ 0 → ts ≡ adds math.Sub ∷ us → unary (room d) (inner d) (l - 1) us ≡ Ok (e, rest) → f ≡ t.neg e
    → unary (room d) (inner d) l ts ≡ Ok (f, rest)
unary_done d l ts us rest e f z h r q = unary_turn d l ts us z h ∙ ap (res_map t.neg) r ∙ ap (λ x. Ok (x, rest)) (sym q)

-- several operands in one node
module _ (is : Kind → Bool) (node : Trees → Tree) (read : ℕ → List Kind → Res Tree) where
  abbrev group : ℕ → List Kind → Res Tree
  group l ts = then_do (read l ts) (joined_operands is node read l)

  alone : (l : ℕ) (e : Tree) (us : List Kind) → Ends is us → joined_operands is node read l e us ≡ Ok (e, us)
  alone l e [] h = refl
  alone l e (k ∷ us) h = rw h refl

  pub group_one : (l : ℕ) (ts : List Kind) (e : Tree) (rest : List Kind) → read l ts ≡ Ok (e, rest) → Ends is rest → then_do (read l ts) (joined_operands is node read l) ≡ Ok (e, rest)
  group_one l ts e rest r h = ap (λ q. then_do q (joined_operands is node read l)) r ∙ alone l e rest h

  on : (l : ℕ) (ts : List Kind) (e : Tree) (rest : List Kind) (k : Kind) (us : List Kind) → read l ts ≡ Ok (e, rest) → rest ≡ k ∷ us → is k ≡ true
      → then_do (read l ts) (joined_operands is node read l) ≡ above l e (suc (length us)) (res_map (λ es. node (more e (trees_of es))) (separated is (read (l - 1)) (length us) us))
  on l ts e rest k us r h q =
      ap (λ x. then_do x (joined_operands is node read l)) r ∙ ap (joined_operands is node read l e) h
      ∙ ap (λ b. if b then above l e (suc (length us)) (res_map (λ es. node (more e (trees_of es))) (separated is (read (l - 1)) (length us) us)) else Ok (e, k ∷ us)) q

  pub group_deep : (l n : ℕ) (ts : List Kind) (e : Tree) (rest : List Token) (k : Kind) (us : List Kind) → read l ts ≡ Ok (e, kinds rest) → kinds rest ≡ k ∷ us → is k ≡ true → n ≡ depth e → l ≤ n
      → then_do (read l ts) (joined_operands is node read l) ≡ Err (TooDeep (length rest))
  group_deep l n ts e rest k us r h q f g = on l ts e (kinds rest) k us r h q ∙ above_deep l n e (suc (length us)) _ f g ∙ ap (λ p. Err (TooDeep p)) (place_is rest k us h)

  put_first : (e : Tree) (xs : List Tree) (r : Res (List Tree)) → xs ≡ e ∷ [] → res_map (λ es. node (more e (trees_of es))) r ≡ res_map (λ es. node (trees_of es)) (onto xs r)
  put_first e xs (Ok y) h = ap (λ l. Ok (node (trees_of (l ++ y.0)), y.1)) (sym h)
  put_first e xs (Err f) h = refl

  pub group_turn : (l n : ℕ) (ts : List Kind) (e : Tree) (xs : List Tree) (rest : List Kind) (k : Kind) (us : List Kind) → read l ts ≡ Ok (e, rest) → rest ≡ k ∷ us → is k ≡ true → n ≡ depth e → n < l → xs ≡ e ∷ []
      → then_do (read l ts) (joined_operands is node read l) ≡ res_map (λ es. node (trees_of es)) (onto xs (separated is (read (l - 1)) (length us) us))
  group_turn l n ts e xs rest k us r h q f g x =
      on l ts e rest k us r h q ∙ above_is l n e (suc (length us)) _ f g ∙ put_first e xs (separated is (read (l - 1)) (length us) us) x

pub expr_level : (d l : ℕ) (ts : List Kind) → expr d l ts ≡ level (room d) (inner d) l ts
unfolding expr
expr_level zero l ts = refl
expr_level (suc d) l ts = refl

-- comparisons
pub pred_deep : (d l n : ℕ) (ts : List Kind) (rest : List Token) (a : Tree) (o : CmpOp) (us : List Kind) → sum (room d) (inner d) l ts ≡ Ok (a, kinds rest) → kinds rest ≡ compares o ∷ us → n ≡ depth a → l ≤ n
    → pred (room d) (inner d) l ts ≡ Err (TooDeep (length rest))
pred_deep d l n ts rest a o us r h f g =
    ap (λ q. then_do q (behind_sum (room d) (inner d) l)) r ∙ ap (behind_sum (room d) (inner d) l a) h ∙ above_deep l n a (suc (length us)) _ f g ∙ ap (λ p. Err (TooDeep p)) (place_is rest (compares o) us h)

-- operands from the left, with an operator between
module _ (operator : Kind → Option MathOp) (read : ℕ → List Kind → Res Tree) where
  pub chain_begins : (l n : ℕ) (ts : List Kind) (a : Tree) (rest : List Token) → read l ts ≡ Ok (a, kinds rest) → n ≡ length rest → chain_from operator read l n a (kinds rest) ≡ chain operator read l ts
  chain_begins l n ts a rest r e =
      ap (λ k. chain_from operator read l k a (kinds rest)) (e ∙ sym (length_kinds rest)) ∙ sym (ap (λ q. then_do q (λ b us. chain_from operator read l (length us) b us)) r)

  stays : (l n : ℕ) (a : Tree) (ts : List Kind) → LacksOperator operator ts → chain_from operator read l n a ts ≡ Ok (a, ts)
  unfolding chain_from
  stays l zero a ts h = refl
  stays l (suc n) a [] h = refl
  stays l (suc n) a (k ∷ ts) h = ap (λ o. chain_on read l (chain_from operator read l n) a o k ts) h

  pub chain_stops : (l n : ℕ) (a : Tree) (ts : List Kind) (whole : Res Tree) → chain_from operator read l n a ts ≡ whole → LacksOperator operator ts → whole ≡ Ok (a, ts)
  chain_stops l n a ts whole h k = sym h ∙ stays l n a ts k

  turn : (l n m : ℕ) (a : Tree) (ts : List Kind) (o : MathOp) (k : Kind) (us : List Kind) → n ≡ suc m → ts ≡ k ∷ us → operator k ≡ Some o
      → chain_from operator read l n a ts ≡ above l a (suc (length us)) (then_do (read (l - 1) us) (λ b vs. chain_from operator read l m (t.math o a b) vs))
  unfolding chain_from
  turn l n m a ts o k us i e h = rw (i, e) (ap (λ p. chain_on read l (chain_from operator read l m) a p k us) h)

  pub chain_deep : (l n p : ℕ) (a : Tree) (rest : List Token) (o : MathOp) (k : Kind) (us : List Kind) (whole : Res Tree) → 0 < n → chain_from operator read l n a (kinds rest) ≡ whole → kinds rest ≡ k ∷ us
      → operator k ≡ Some o → p ≡ depth a → l ≤ p → whole ≡ Err (TooDeep (length rest))
  chain_deep l n p a rest o k us whole i h e f g q =
      sym h ∙ turn l n (n - 1) a (kinds rest) o k us (omega arith) e f ∙ above_deep l p a (suc (length us)) _ g q ∙ ap (λ x. Err (TooDeep x)) (place_is rest k us e)

  on_turn : (l n m p : ℕ) (a : Tree) (ts : List Kind) (o : MathOp) (k : Kind) (us : List Kind) (whole : Res Tree) → n ≡ suc m → chain_from operator read l n a ts ≡ whole → ts ≡ k ∷ us → operator k ≡ Some o
      → p ≡ depth a → p < l → whole ≡ then_do (read (l - 1) us) (λ b vs. chain_from operator read l m (t.math o a b) vs)
  on_turn l n m p a ts o k us whole i h e f g q = sym h ∙ turn l n m a ts o k us i e f ∙ above_is l p a (suc (length us)) _ g q

  pub chain_refused : (l n p : ℕ) (a : Tree) (ts : List Kind) (o : MathOp) (k : Kind) (us : List Kind) (whole : Res Tree) (x : Stop) → 0 < n → chain_from operator read l n a ts ≡ whole → ts ≡ k ∷ us
      → operator k ≡ Some o → p ≡ depth a → p < l → Stops x (read (l - 1) us) → Stops x whole
  chain_refused l n p a ts o k us whole x i h e f g q r =
      stops_as x _ whole (sym (on_turn l n (n - 1) p a ts o k us whole (omega arith) h e f g q)) (stops_then x (read (l - 1) us) (λ b vs. chain_from operator read l (n - 1) (t.math o a b) vs) r)

  pub chain_goes : (l n m p : ℕ) (a b c : Tree) (ts behind : List Kind) (o : MathOp) (k : Kind) (us : List Kind) (whole : Res Tree) → n ≡ suc m → chain_from operator read l n a ts ≡ whole → ts ≡ k ∷ us
      → operator k ≡ Some o → p ≡ depth a → p < l → read (l - 1) us ≡ Ok (b, behind) → c ≡ t.math o a b → chain_from operator read l m c behind ≡ whole
  chain_goes l n m p a b c ts behind o k us whole i h e f g q r s =
      ap (λ x. chain_from operator read l m x behind) s
      ∙ sym (ap (λ x. then_do x (λ d vs. chain_from operator read l m (t.math o a d) vs)) r)
      ∙ sym (on_turn l n m p a ts o k us whole i h e f g q)

  pub chain_ends : (l n : ℕ) (a : Tree) (ts : List Kind) (whole : Res Tree) → n ≡ 0 → chain_from operator read l n a ts ≡ whole → whole ≡ Ok (a, ts)
  unfolding chain_from
  chain_ends l n a ts whole i h = sym h ∙ ap (λ k. chain_from operator read l k a ts) i

-- operands of any joint
pub lacks_joint : (j : Joint) (ts : List Kind) → Lacks (joint_mark j) ts → Ends (joint_test j) ts
lacks_joint joint.Or ts h = lacks_or ts h
lacks_joint joint.And ts h = lacks_and ts h
lacks_joint joint.Comma ts h = lacks_comma ts h

pub joint_is : (j : Joint) → joint_test j (mark_kind (joint_mark j)) ≡ true
joint_is joint.Or = refl
joint_is joint.And = refl
joint_is joint.Comma = refl

pub deepest_push : (xs : List Tree) (x : Tree) → deepest (trees_of (xs ++ x ∷ [])) ≡ max (deepest (trees_of xs)) (depth x)
deepest_push [] x = omega arith
deepest_push (y ∷ xs) x = ap (max (depth y)) (deepest_push xs x) ∙ max_group (depth y) (deepest (trees_of xs)) (depth x)
  where
    max_group : (a b c : ℕ) → max a (max b c) ≡ max (max a b) c
    max_group a b c = omega arith

-- parentheses
pub prim_shut : (d l : ℕ) (ts : List Token) (us : List Kind) → d ≡ 0 → kinds ts ≡ open_ ∷ us → prim (room d) (inner d) l (kinds ts) ≡ Err (TooOpen (length ts))
prim_shut zero l ts us z e = ap (prim false (inner 0) l) e ∙ ap (λ n. Err (TooOpen n)) (place_is ts open_ us e)
prim_shut (suc d) l ts us z e = absurd (omega arith)

pub prim_inside : (d l : ℕ) (ts us : List Kind) → d ≢ 0 → ts ≡ open_ ∷ us → prim (room d) (inner d) l ts ≡ then_do (expr (d - 1) l us) closing
prim_inside zero l ts us z e = absurd (z refl)
prim_inside (suc d) l ts us z e = ap (prim true (inner (suc d)) l) e ∙ ap (λ k. then_do (expr k l us) closing) (sym (less d))

pub prim_unclosed : (d l : ℕ) (ts us : List Kind) (e : Tree) (rest : List Token) → d ≢ 0 → ts ≡ open_ ∷ us → expr (d - 1) l us ≡ Ok (e, kinds rest) → Lacks m.Close (kinds rest)
    → prim (room d) (inner d) l ts ≡ Err (Syntax (length rest))
prim_unclosed d l ts us e rest z h r c = prim_inside d l ts us z h ∙ ap (λ q. then_do q closing) r ∙ unclosed e rest c

-- calls
mapped : {A B : Type 0} (f : A → B) (r : Res A) → res_map f r ≡ then_do r (λ x us. Ok (f x, us))
mapped f (Ok x) = refl
mapped f (Err e) = refl

call_begins : (d l : ℕ) (fold : Bool) (w : List ℕ) (us : List Kind) → prim (room (suc d)) (inner (suc d)) (suc l) (callee_kind fold w ∷ open_ ∷ us)
    ≡ then_do (arguments true (expr d) l us) (call_read fold w (suc (suc (length us))))
call_begins d l false w us = ap (λ k. then_do (arguments true (expr d) k us) (call_read false w (suc (suc (length us))))) (less l)
call_begins d l true w us =
    mapped (λ es. t.call w true (trees_of es)) (arguments true (expr d) (suc l - 1) us) ∙ ap (λ k. then_do (arguments true (expr d) k us) (call_read true w (suc (suc (length us))))) (less l)

two_left : (ts : List Token) (k : Kind) (us : List Kind) → kinds ts ≡ k ∷ open_ ∷ us → suc (suc (length us)) ≡ length ts
two_left ts k us e = sym (ap length e) ∙ length_kinds ts

deep_call : (d : ℕ) (fold : Bool) (w : List ℕ) (us : List Kind) → prim (room d) (inner d) 0 (callee_kind fold w ∷ open_ ∷ us) ≡ Err (TooDeep (suc (suc (length us))))
deep_call d false w us = refl
deep_call d true w us = refl

pub call_deep : (d l : ℕ) (fold : Bool) (w : List ℕ) (ts : List Token) (us : List Kind) → l ≡ 0 → kinds ts ≡ callee_kind fold w ∷ open_ ∷ us → prim (room d) (inner d) l (kinds ts) ≡ Err (TooDeep (length ts))
call_deep d l fold w ts us z e =
    ap (λ n. prim (room d) (inner d) n (kinds ts)) z ∙ ap (prim (room d) (inner d) 0) e ∙ deep_call d fold w us ∙ ap (λ n. Err (TooDeep n)) (two_left ts (callee_kind fold w) us e)

shut_call : (l : ℕ) (fold : Bool) (w : List ℕ) (us : List Kind) → prim false (inner 0) (suc l) (callee_kind fold w ∷ open_ ∷ us) ≡ Err (TooOpen (suc (length us)))
shut_call l false w us = refl
shut_call l true w us = refl

pub call_shut : (d l : ℕ) (fold : Bool) (w : List ℕ) (ts : List Token) (us : List Kind) → l ≢ 0 → d ≡ 0 → kinds ts ≡ callee_kind fold w ∷ open_ ∷ us
    → prim (room d) (inner d) l (kinds ts) ≡ Err (TooOpen (length ts - 1))
call_shut zero zero fold w ts us y z e = absurd (y refl)
call_shut zero (suc l) fold w ts us y z e =
    let left : suc (length us) ≡ length ts - 1 = omega (arith, two_left ts (callee_kind fold w) us e) in
    ap (prim false (inner 0) (suc l)) e ∙ shut_call l fold w us ∙ ap (λ n. Err (TooOpen n)) left
call_shut (suc d) l fold w ts us y z e = absurd (omega arith)

pub call_turn : (d l : ℕ) (fold : Bool) (w : List ℕ) (ts : List Token) (us : List Kind) → l ≢ 0 → d ≢ 0 → kinds ts ≡ callee_kind fold w ∷ open_ ∷ us
    → prim (room d) (inner d) l (kinds ts) ≡ then_do (arguments true (expr (d - 1)) (l - 1) us) (call_read fold w (length ts))
call_turn zero l fold w ts us y z e = absurd (z refl)
call_turn (suc d) zero fold w ts us y z e = absurd (y refl)
call_turn (suc d) (suc l) fold w ts us y z e =
    ap (prim true (inner (suc d)) (suc l)) e ∙ call_begins d l fold w us ∙ ap (λ n. then_do (arguments true (expr d) l us) (call_read fold w n)) (two_left ts (callee_kind fold w) us e)
    ∙ ap (λ k. then_do (arguments true (expr k) l us) (call_read fold w (length ts))) (sym (less d))
    ∙ ap (λ k. then_do (arguments true (expr (suc d - 1)) k us) (call_read fold w (length ts))) (sym (less l))

-- arguments
some_arguments : (d l : ℕ) (ts : List Kind) → Lacks m.Close ts → arguments true (expr d) l ts ≡ then_do (comma_list (expr d l) ts) closing
some_arguments d l [] h = refl
some_arguments d l (close_ ∷ ts) h = absurd (h refl)
some_arguments d l (_ ∷ ts) h = refl

pub arguments_turn : (d l : ℕ) (xs : List Tree) (ts : List Kind) → xs ≡ [] → Lacks m.Close ts
    → arguments true (expr d) l ts ≡ then_do (onto xs (separated (joint_test joint.Comma) (operand joint.Comma d l) (length ts) ts)) closing
arguments_turn d l xs ts e h =
    some_arguments d l ts h ∙ ap (λ q. then_do q closing) (sym (onto_nothing (comma_list (expr d l) ts)) ∙ ap (λ ys. onto ys (comma_list (expr d l) ts)) (sym e))

-- nodes with their levels
pub math_node : (l : ℕ) (a b c : Node) (o : MathOp) → IsNode l a → IsNode (l - 1) b → a.depth < l → node_tree c ≡ t.math o (node_tree a) (node_tree b) → c.depth ≡ suc (max a.depth b.depth) → IsNode l c
math_node l a b c o p q h e f =
    (f ∙ ap suc (ap (λ x. max x b.depth) p.0 ∙ ap (max (depth (node_tree a))) q.0) ∙ sym (ap depth e), omega (arith, p.1, q.1))

pub more_nodes : (l : ℕ) (a c : Nodes) (b : Node) → IsNodes l a → IsNode l b → nodes_trees c ≡ nodes_trees a ++ node_tree b ∷ [] → c.depth ≡ max a.depth b.depth → IsNodes l c
more_nodes l a c b p q e f =
    (f ∙ ap (λ x. max x b.depth) p.0 ∙ ap (max (deepest (trees_of (nodes_trees a)))) q.0 ∙ sym (deepest_push (nodes_trees a) (node_tree b)) ∙ sym (ap (λ xs. deepest (trees_of xs)) e), omega (arith, p.1, q.1))
