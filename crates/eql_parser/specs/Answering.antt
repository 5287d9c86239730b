-- What a function of the parser returned is what the descent returns, unless memory ran out.
use Rattle.std.specs.Prelude.{◌≡◌, ℕ, ◌≤◌, zero, suc, ◌++◌, Bool, true, false, List, map, Option, Some, None, Result, Ok, Err, length}
use Rattle.std.specs.Borrow.{Bor}
use Rattle.eql_lexer.specs.declared.token.Token.{Token}
use Rattle.eql_parser.specs.declared.parser.stop.Stop.{Stop}
use Rattle.eql_parser.specs.declared.parser.stop.Stop.TheVariants as stop
use Rattle.eql_parser.specs.Kinds.{Kind, kinds, null_, true_, false_, number, text}
use Rattle.eql_parser.specs.declared.parser.node.Node.{Node}
use Rattle.eql_parser.specs.declared.parser.node.Nodes.{Nodes}
use Rattle.eql_query.specs.Tree.{Tree}
use Rattle.eql_query.specs.Tree as t
use Rattle.eql_query.specs.View.{tree, trees_of}
use Rattle.eql_parser.specs.Limits.{depth, deepest}
use Rattle.eql_parser.specs.Reading.{Syntax, LeftOut, TooDeep, TooOpen, Res, res_map, is_or, is_and, is_comma, call_of, conj, neg, expr}
use Rattle.eql_parser.specs.declared.parser.mark.Mark.{Mark}
use Rattle.eql_parser.specs.declared.parser.mark.Mark.TheVariants as mark
use Rattle.eql_parser.specs.declared.parser.joint.Joint.{Joint}
use Rattle.eql_parser.specs.declared.parser.joint.Joint.TheVariants as joint

-- the descent stops for this reason, unless memory ran out
abbrev pub Stops : {A : Type 0} → Stop → Res A → Type 0
Stops stop.Memory read = Unit {0}
Stops (stop.Syntax left) read = read ≡ Err (Syntax left)
Stops (stop.LeftOut word left) read = read ≡ Err (LeftOut word left)
Stops (stop.TooDeep left) read = read ≡ Err (TooDeep left)
Stops (stop.TooOpen left) read = read ≡ Err (TooOpen left)

-- a form is left out that is called by this word, unless memory ran out
abbrev pub StopLeavesOut : Stop → List ℕ → ℕ → Type 0
StopLeavesOut stop.Memory word left = Unit {0}
StopLeavesOut (stop.LeftOut w n) word left = (w ≡ word) × (n ≡ left)
StopLeavesOut _ word left = ⊥

abbrev pub Answers : {A X : Type 0} → (X → A) → Result (X × Bor (List Token)) Stop → Res A → Type 0
Answers view (Ok x) read = read ≡ Ok (view x.0, kinds x.1.now)
Answers view (Err e) read = Stops e read

-- what may stand in the parentheses that may still open
abbrev pub room : ℕ → Bool
room zero = false
room (suc d) = true

abbrev pub inner : ℕ → ℕ → List Kind → Res Tree
inner zero l ts = Err (Syntax (length ts))
inner (suc d) l ts = expr d l ts

-- the tree of an expression that was read, and how many levels it has
abbrev pub node_tree : Node → Tree
node_tree n = tree n.expr

abbrev pub IsNode : ℕ → Node → Type 0
IsNode l n = (n.depth ≡ depth (tree n.expr)) × (n.depth ≤ l)

abbrev pub nodes_trees : Nodes → List Tree
nodes_trees n = map tree n.items.items

abbrev pub IsNodes : ℕ → Nodes → Type 0
IsNodes l n = (n.depth ≡ deepest (trees_of (map tree n.items.items))) × (n.depth ≤ l)

-- the items so far, before those that are read from here on
abbrev pub onto : {A : Type 0} → List A → Res (List A) → Res (List A)
onto xs r = res_map (λ ys. xs ++ ys) r

-- what a call is, once its arguments are read
abbrev pub call_read : (fold : Bool) → List ℕ → (place : ℕ) → List Tree → List Kind → Res Tree
call_read false w place es ts = call_of w place es ts
call_read true w place es ts = Ok (t.call w true (trees_of es), ts)

-- what stands between the operands of a joint, and what reads one
abbrev pub joint_test : Joint → Kind → Bool
joint_test joint.Or = is_or
joint_test joint.And = is_and
joint_test joint.Comma = is_comma

abbrev pub joint_mark : Joint → Mark
joint_mark joint.Or = mark.Or
joint_mark joint.And = mark.And
joint_mark joint.Comma = mark.Comma

abbrev pub operand : Joint → (d l : ℕ) → List Kind → Res Tree
operand joint.Or d l ts = conj (room d) (inner d) l ts
operand joint.And d l ts = neg (room d) (inner d) l ts
operand joint.Comma d l ts = expr d l ts

-- the tree of a constant
abbrev pub constant_tree : Kind → Option Tree
constant_tree null_ = Some t.null
constant_tree true_ = Some (t.bool true)
constant_tree false_ = Some (t.bool false)
constant_tree (number n) = Some (t.long n)
constant_tree (text s) = Some (t.str s)
constant_tree _ = None
