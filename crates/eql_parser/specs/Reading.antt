-- What the recursive descent returns for conditions, as functions on lists.
use Rattle.std.specs.Prelude.{ℕ, zero, suc, ◌-◌, nat_lt, neg_ℤ, ◌++◌, Bool, true, false, if◌then◌else◌, List, [], ◌∷◌, length, Result, Ok, Err, Option, Some, None, codes}
use Rattle.eql_values.specs.declared.value.Value.{Value}
use Rattle.eql_values.specs.declared.value.Value.TheVariants as value
use Rattle.eql_query.specs.declared.expr.FieldRef.{FieldRef}
use Rattle.eql_query.specs.declared.expr.MathOp.{MathOp}
use Rattle.eql_query.specs.declared.expr.MathOp.TheVariants.{Sub}
use Rattle.eql_query.specs.Tree.{Tree, Trees, none, more}
use Rattle.eql_query.specs.Tree as t
use Rattle.eql_query.specs.View.{trees_of}
use Rattle.eql_parser.specs.Kinds.{Kind, and_, false_, in_, matches, not_, null_, or_, regex_, true_, name, folding, back, text, number, open_, close_, comma_, dot_, question_, compares, adds, multiplies}
use Rattle.eql_parser.specs.Grammar.{first_part, part, is_left_out_call}
use Rattle.eql_parser.specs.Limits.{depth}

-- Why the descent stops. A place is counted by the tokens from there on.
pub data Fail : Type 0 where
  Syntax : (place : ℕ) → Fail
  LeftOut : (word : List ℕ) (place : ℕ) → Fail
  -- the level too many begins here
  TooDeep : (place : ℕ) → Fail
  -- the parenthesis too many opens here
  TooOpen : (place : ℕ) → Fail

-- what was read and what is left
abbrev pub Res : Type 0 → Type 0
Res A = Result (A × List Kind) Fail

abbrev pub then_do : {A B : Type 0} → Res A → (A → List Kind → Res B) → Res B
then_do (Ok x) f = f x.0 x.1
then_do (Err e) f = Err e

abbrev pub res_map : {A B : Type 0} → (A → B) → Res A → Res B
res_map f (Ok x) = Ok (f x.0, x.1)
res_map f (Err e) = Err e

-- one closing parenthesis
abbrev pub closing : {A : Type 0} → A → List Kind → Res A
closing a (close_ ∷ ts) = Ok (a, ts)
closing a ts = Err (Syntax (length ts))

abbrev pub is_or : Kind → Bool
is_or or_ = true
is_or _ = false

abbrev pub is_and : Kind → Bool
is_and and_ = true
is_and _ = false

abbrev pub is_comma : Kind → Bool
is_comma comma_ = true
is_comma _ = false

abbrev pub adds_of : Kind → Option MathOp
adds_of (adds o) = Some o
adds_of _ = None

abbrev pub multiplies_of : Kind → Option MathOp
multiplies_of (multiplies o) = Some o
multiplies_of _ = None

abbrev pub more_of : {A : Type 0} → (Kind → Bool) → (List Kind → Res (List A)) → A → List Kind → Res (List A)
more_of is_between again x [] = Ok (x ∷ [], [])
more_of is_between again x (k ∷ ts) = if is_between k then res_map (λ xs. x ∷ xs) (again ts) else Ok (x ∷ [], k ∷ ts)

-- one or more with something between, at most n
unfoldable pub separated : {A : Type 0} → (Kind → Bool) → (List Kind → Res A) → ℕ → List Kind → Res (List A)
separated is_between read zero ts = Err (Syntax (length ts))
separated is_between read (suc n) ts = then_do (read ts) (more_of is_between (separated is_between read n))

abbrev pub comma_list : {A : Type 0} → (List Kind → Res A) → List Kind → Res (List A)
comma_list read ts = separated is_comma read (length ts) ts

-- the parts behind a dot
abbrev pub dotted_part : (List ℕ → List Kind → Res (List ℕ)) → List ℕ → Option (List ℕ) → List Kind → Res (List ℕ)
dotted_part again w None ts = Err (Syntax (suc (length ts)))
dotted_part again w (Some p) ts = again (w ++ 46 ∷ p) ts

abbrev pub behind_dot : (List ℕ → List Kind → Res (List ℕ)) → List ℕ → List Kind → Res (List ℕ)
behind_dot again w [] = Err (Syntax 0)
behind_dot again w (k ∷ ts) = dotted_part again w (part k) ts

unfoldable pub dotted : ℕ → List ℕ → List Kind → Res (List ℕ)
dotted zero w ts = Ok (w, ts)
dotted (suc n) w (dot_ ∷ ts) = behind_dot (dotted n) w ts
dotted (suc n) w ts = Ok (w, ts)

abbrev pub named_by : Bool → Option (List ℕ) → List Kind → Res FieldRef
named_by optional None ts = Err (Syntax (suc (length ts)))
named_by optional (Some w) ts = res_map (λ n. record { name = n; optional = optional }) (dotted (length ts) w ts)

abbrev pub named_field : Bool → List Kind → Res FieldRef
named_field optional [] = Err (Syntax 0)
named_field optional (k ∷ ts) = named_by optional (first_part k) ts

abbrev pub field : List Kind → Res FieldRef
field (question_ ∷ ts) = named_field true ts
field ts = named_field false ts

abbrev pub field_tree : FieldRef → Tree
field_tree f = t.field f.name f.optional

abbrev pub text_at : List Kind → Res (List ℕ)
text_at (text s ∷ ts) = Ok (s, ts)
text_at ts = Err (Syntax (length ts))

abbrev pub negative_at : List Kind → Res Value
negative_at (number n ∷ ts) = Ok (value.Long (neg_ℤ n), ts)
negative_at ts = Err (Syntax (length ts))

abbrev pub literal : List Kind → Res Value
literal (number n ∷ ts) = Ok (value.Long n, ts)
literal (adds Sub ∷ ts) = negative_at ts
literal (text s ∷ ts) = Ok (value.Text s, ts)
literal (true_ ∷ ts) = Ok (value.Bool true, ts)
literal (false_ ∷ ts) = Ok (value.Bool false, ts)
literal ts = Err (Syntax (length ts))

-- what begins at a place, where another level is allowed
abbrev pub at_level : {A : Type 0} → ℕ → (place : ℕ) → Res A → Res A
at_level zero place r = Err (TooDeep place)
at_level (suc l) place r = r

-- an operator at a place behind its operand, where another level is allowed above the operand
abbrev pub above : {A : Type 0} → ℕ → Tree → (place : ℕ) → Res A → Res A
above l a place r = if nat_lt (depth a) l then r else Err (TooDeep place)

-- operands from the left, with an operator between
abbrev pub chain_on : (ℕ → List Kind → Res Tree) → ℕ → (Tree → List Kind → Res Tree) → Tree → Option MathOp → Kind → List Kind → Res Tree
chain_on read l again a None k ts = Ok (a, k ∷ ts)
chain_on read l again a (Some o) k ts = above l a (suc (length ts)) (then_do (read (l - 1) ts) (λ b us. again (t.math o a b) us))

unfoldable pub chain_from : (Kind → Option MathOp) → (ℕ → List Kind → Res Tree) → ℕ → ℕ → Tree → List Kind → Res Tree
chain_from operator read l zero a ts = Ok (a, ts)
chain_from operator read l (suc n) a [] = Ok (a, [])
chain_from operator read l (suc n) a (k ∷ ts) = chain_on read l (chain_from operator read l n) a (operator k) k ts

abbrev pub chain : (Kind → Option MathOp) → (ℕ → List Kind → Res Tree) → ℕ → List Kind → Res Tree
chain operator read l ts = then_do (read l ts) (λ a us. chain_from operator read l (length us) a us)

-- one operand, or several joined in one node
abbrev pub joined_operands : (Kind → Bool) → (Trees → Tree) → (ℕ → List Kind → Res Tree) → ℕ → Tree → List Kind → Res Tree
joined_operands is_between node read l e [] = Ok (e, [])
joined_operands is_between node read l e (k ∷ ts) =
    if is_between k then above l e (suc (length ts)) (res_map (λ es. node (more e (trees_of es))) (separated is_between (read (l - 1)) (length ts) ts)) else Ok (e, k ∷ ts)

abbrev pub call_of : List ℕ → (place : ℕ) → List Tree → List Kind → Res Tree
call_of w place es ts = if is_left_out_call w (trees_of es) then Err (LeftOut (codes "number") place) else Ok (t.call w false (trees_of es), ts)

-- `room` tells whether another parenthesis may stand open, and `inner` reads what stands in one.
module _ (room : Bool) (inner : ℕ → List Kind → Res Tree) where
  -- behind a parenthesis that opens
  abbrev pub enter : {A : Type 0} → List Kind → Res A → Res A
  enter ts r = if room then r else Err (TooOpen (suc (length ts)))

  abbrev pub arguments : ℕ → List Kind → Res (List Tree)
  arguments l (close_ ∷ ts) = Ok ([], ts)
  arguments l ts = then_do (comma_list (inner l) ts) closing

  abbrev pub patterns : List Kind → Res (List (List ℕ))
  patterns (text s ∷ ts) = Ok (s ∷ [], ts)
  patterns (open_ ∷ ts) = enter ts (then_do (comma_list text_at ts) closing)
  patterns ts = Err (Syntax (length ts))

  abbrev pub members : List Kind → Res (List Value)
  members (open_ ∷ ts) = enter ts (then_do (comma_list literal ts) closing)
  members ts = Err (Syntax (length ts))

  abbrev pub prim : ℕ → List Kind → Res Tree
  prim l (null_ ∷ ts) = at_level l (suc (length ts)) (Ok (t.null, ts))
  prim l (true_ ∷ ts) = at_level l (suc (length ts)) (Ok (t.bool true, ts))
  prim l (false_ ∷ ts) = at_level l (suc (length ts)) (Ok (t.bool false, ts))
  prim l (number n ∷ ts) = at_level l (suc (length ts)) (Ok (t.long n, ts))
  prim l (text s ∷ ts) = at_level l (suc (length ts)) (Ok (t.str s, ts))
  prim l (name w ∷ open_ ∷ ts) = at_level l (suc (suc (length ts))) (enter ts (then_do (arguments (l - 1) ts) (call_of w (suc (suc (length ts))))))
  prim l (name w ∷ ts) = at_level l (suc (length ts)) (res_map field_tree (named_field false (name w ∷ ts)))
  prim l (back w ∷ ts) = at_level l (suc (length ts)) (res_map field_tree (named_field false (back w ∷ ts)))
  prim l (question_ ∷ ts) = at_level l (suc (length ts)) (res_map field_tree (named_field true ts))
  prim l (folding w ∷ open_ ∷ ts) = at_level l (suc (suc (length ts))) (enter ts (res_map (λ es. t.call w true (trees_of es)) (arguments (l - 1) ts)))
  prim l (folding w ∷ ts) = at_level l (suc (length ts)) (Err (Syntax (length ts)))
  prim l (open_ ∷ ts) = enter ts (then_do (inner l ts) closing)
  prim l ts = Err (Syntax (length ts))

  unfoldable pub unary : ℕ → List Kind → Res Tree
  unary zero (adds Sub ∷ ts) = Err (TooDeep (suc (length ts)))
  unary zero ts = prim zero ts
  unary (suc l) (adds Sub ∷ ts) = res_map t.neg (unary l ts)
  unary (suc l) ts = prim (suc l) ts

  abbrev pub prod : ℕ → List Kind → Res Tree
  prod = chain multiplies_of unary

  abbrev pub sum : ℕ → List Kind → Res Tree
  sum = chain adds_of prod

  abbrev pub behind_not : Tree → List Kind → Res Tree
  behind_not a (in_ f ∷ ts) = res_map (t.member f true a) (members ts)
  behind_not a ts = Err (Syntax (length ts))

  abbrev pub behind_sum : ℕ → Tree → List Kind → Res Tree
  behind_sum l a (compares o ∷ ts) = above l a (suc (length ts)) (res_map (t.cmp o a) (sum (l - 1) ts))
  behind_sum l a (matches o ∷ ts) = above l a (suc (length ts)) (res_map (t.pattern o a) (patterns ts))
  behind_sum l a (in_ f ∷ ts) = above l a (suc (length ts)) (res_map (t.member f false a) (members ts))
  behind_sum l a (not_ ∷ ts) = above l a (suc (length ts)) (behind_not a ts)
  behind_sum l a (regex_ false ∷ ts) = Err (LeftOut (codes "regex") (suc (length ts)))
  behind_sum l a (regex_ true ∷ ts) = Err (LeftOut (codes "regex~") (suc (length ts)))
  behind_sum l a ts = Ok (a, ts)

  abbrev pub pred : ℕ → List Kind → Res Tree
  pred l ts = then_do (sum l ts) (behind_sum l)

  unfoldable pub neg : ℕ → List Kind → Res Tree
  neg zero (not_ ∷ ts) = Err (TooDeep (suc (length ts)))
  neg zero ts = pred zero ts
  neg (suc l) (not_ ∷ ts) = res_map t.not (neg l ts)
  neg (suc l) ts = pred (suc l) ts

  abbrev pub conj : ℕ → List Kind → Res Tree
  conj l ts = then_do (neg l ts) (joined_operands is_and t.and neg l)

  abbrev pub level : ℕ → List Kind → Res Tree
  level l ts = then_do (conj l ts) (joined_operands is_or t.or conj l)

-- a condition of at most l levels, with at most d more parentheses open
unfoldable pub expr : (d l : ℕ) → List Kind → Res Tree
expr zero l ts = level false (λ _ us. Err (Syntax (length us))) l ts
expr (suc d) l ts = level true (expr d) l ts
