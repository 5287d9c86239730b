-- The grammar of conditions: kinds of tokens from here spell a tree and leave the rest. Each type is one rule of the grammar in the syntax
-- reference of the Event Query Language, and each of its cases one way to read it.
use Rattle.std.specs.Prelude.{◌≡◌, ℕ, ℤ, neg_ℤ, ◌++◌, Bool, true, false, List, [], ◌∷◌, Option, Some, None, codes}
use Rattle.std.specs.Str.{bytes_eq}
use Rattle.eql_values.specs.declared.value.Value.{Value}
use Rattle.eql_values.specs.declared.value.Value.TheVariants as value
use Rattle.eql_query.specs.declared.expr.CmpOp.{CmpOp}
use Rattle.eql_query.specs.declared.expr.PatOp.{PatOp}
use Rattle.eql_query.specs.declared.expr.MathOp.{MathOp}
use Rattle.eql_query.specs.declared.expr.MathOp.TheVariants.{Sub}
use Rattle.eql_query.specs.Tree.{Tree, Trees, none, more}
use Rattle.eql_query.specs.Tree as t
use Rattle.eql_parser.specs.Kinds.{Kind, and_, any_, by_, false_, in_, join_, matches, maxspan_, not_, null_, or_, regex_, sample_, sequence_, true_, until_, where_, with_, name, folding, back, text, number, open_, close_, comma_, dot_, question_, compares, adds, multiplies}

-- A { "," A }
pub data IsListed {A : Type 0} (Is : List Kind → A → List Kind → Type 0) : List Kind → List A → List Kind → Type 0 where
  last_one : {ts rest : List Kind} {x : A} → Is ts x rest → IsListed Is ts (x ∷ []) rest
  next_one : {ts us rest : List Kind} {x : A} {xs : List A} → Is ts x (comma_ ∷ us) → IsListed Is us xs rest → IsListed Is ts (x ∷ xs) rest

-- the first part of a field's name: a name, or one in backticks
abbrev pub first_part : Kind → Option (List ℕ)
first_part (name w) = Some w
first_part (back w) = Some w
first_part _ = None

-- a part after a dot: any word without `~`, or a name in backticks
abbrev pub part : Kind → Option (List ℕ)
part (name w) = Some w
part (back w) = Some w
part and_ = Some (codes "and")
part any_ = Some (codes "any")
part by_ = Some (codes "by")
part false_ = Some (codes "false")
part (in_ false) = Some (codes "in")
part join_ = Some (codes "join")
part (matches PatOp.Like) = Some (codes "like")
part maxspan_ = Some (codes "maxspan")
part not_ = Some (codes "not")
part null_ = Some (codes "null")
part or_ = Some (codes "or")
part (regex_ false) = Some (codes "regex")
part sample_ = Some (codes "sample")
part sequence_ = Some (codes "sequence")
part true_ = Some (codes "true")
part until_ = Some (codes "until")
part where_ = Some (codes "where")
part with_ = Some (codes "with")
part _ = None

-- { "." part }, behind the parts of a name so far
pub data IsDotted : (so_far : List ℕ) → List Kind → List ℕ → List Kind → Type 0 where
  ends : {w : List ℕ} {rest : List Kind} → IsDotted w rest w rest
  goes_on : {w p n : List ℕ} {k : Kind} {ts rest : List Kind} → part k ≡ Some p → IsDotted (w ++ 46 ∷ p) ts n rest → IsDotted w (dot_ ∷ k ∷ ts) n rest

-- field = [ "?" ] part { "." part }
pub data IsField : List Kind → (name : List ℕ) (optional : Bool) → List Kind → Type 0 where
  required : {k : Kind} {w n : List ℕ} {ts rest : List Kind} → first_part k ≡ Some w → IsDotted w ts n rest → IsField (k ∷ ts) n false rest
  optional : {k : Kind} {w n : List ℕ} {ts rest : List Kind} → first_part k ≡ Some w → IsDotted w ts n rest → IsField (question_ ∷ k ∷ ts) n true rest

pub data IsText : List Kind → List ℕ → List Kind → Type 0 where
  a_text : {s : List ℕ} {rest : List Kind} → IsText (text s ∷ rest) s rest

-- ":", "like" and "like~" are followed by Str | "(" Str { "," Str } ")"
pub data IsPatterns : List Kind → List (List ℕ) → List Kind → Type 0 where
  one_text : {s : List ℕ} {rest : List Kind} → IsPatterns (text s ∷ rest) (s ∷ []) rest
  some_texts : {ts rest : List Kind} {ss : List (List ℕ)} → IsListed IsText ts ss (close_ ∷ rest) → IsPatterns (open_ ∷ ts) ss rest

-- literal = [ "-" ] Num | Str | "true" | "false"
pub data IsLiteral : List Kind → Value → List Kind → Type 0 where
  is_number : {n : ℤ} {rest : List Kind} → IsLiteral (number n ∷ rest) (value.Long n) rest
  is_negative : {n : ℤ} {rest : List Kind} → IsLiteral (adds Sub ∷ number n ∷ rest) (value.Long (neg_ℤ n)) rest
  is_text : {s : List ℕ} {rest : List Kind} → IsLiteral (text s ∷ rest) (value.Text s) rest
  is_true : {rest : List Kind} → IsLiteral (true_ ∷ rest) (value.Bool true) rest
  is_false : {rest : List Kind} → IsLiteral (false_ ∷ rest) (value.Bool false) rest

-- "in" and "in~" are followed by "(" literal { "," literal } ")"
pub data IsMembers : List Kind → List Value → List Kind → Type 0 where
  members : {ts rest : List Kind} {vs : List Value} → IsListed IsLiteral ts vs (close_ ∷ rest) → IsMembers (open_ ∷ ts) vs rest

-- a call that the language has and this grammar leaves out: `number` with a base, its second argument
abbrev pub is_left_out_call : (name : List ℕ) → Trees → Bool
is_left_out_call w (more a (more b none)) = bytes_eq w (codes "number")
is_left_out_call w _ = false

-- where several expressions stand: between `or`s, between `and`s, between commas
pub data Joint : Type 0 where
  by_or : Joint
  by_and : Joint
  by_comma : Joint

abbrev pub between : Joint → Kind
between by_or = or_
between by_and = and_
between by_comma = comma_

mutual
  -- expr = conj { "or" conj }
  pub data IsExpr : List Kind → Tree → List Kind → Type 0 where
    conj : {ts rest : List Kind} {e : Tree} → IsConj ts e rest → IsExpr ts e rest
    any_of : {ts us rest : List Kind} {e : Tree} {es : Trees} → IsConj ts e (or_ ∷ us) → IsOperands by_or us es rest → IsExpr ts (t.or (more e es)) rest

  -- conj = neg { "and" neg }
  pub data IsConj : List Kind → Tree → List Kind → Type 0 where
    neg : {ts rest : List Kind} {e : Tree} → IsNeg ts e rest → IsConj ts e rest
    all_of : {ts us rest : List Kind} {e : Tree} {es : Trees} → IsNeg ts e (and_ ∷ us) → IsOperands by_and us es rest → IsConj ts (t.and (more e es)) rest

  -- operand { joint operand }
  pub data IsOperands : Joint → List Kind → Trees → List Kind → Type 0 where
    last : {j : Joint} {ts rest : List Kind} {e : Tree} → IsOperand j ts e rest → IsOperands j ts (more e none) rest
    next : {j : Joint} {ts us rest : List Kind} {e : Tree} {es : Trees} → IsOperand j ts e (between j ∷ us) → IsOperands j us es rest → IsOperands j ts (more e es) rest

  -- an operand of `or` is a conj, one of `and` a neg, and what stands between commas an expr
  pub data IsOperand : Joint → List Kind → Tree → List Kind → Type 0 where
    of_or : {ts rest : List Kind} {e : Tree} → IsConj ts e rest → IsOperand by_or ts e rest
    of_and : {ts rest : List Kind} {e : Tree} → IsNeg ts e rest → IsOperand by_and ts e rest
    of_comma : {ts rest : List Kind} {e : Tree} → IsExpr ts e rest → IsOperand by_comma ts e rest

  -- neg = "not" neg | pred
  pub data IsNeg : List Kind → Tree → List Kind → Type 0 where
    negated : {ts rest : List Kind} {e : Tree} → IsNeg ts e rest → IsNeg (not_ ∷ ts) (t.not e) rest
    pred : {ts rest : List Kind} {e : Tree} → IsPred ts e rest → IsNeg ts e rest

  -- pred = sum [ cmpop sum | ( ":" | "like" | "like~" ) patterns | [ "not" ] ( "in" | "in~" ) members ]
  pub data IsPred : List Kind → Tree → List Kind → Type 0 where
    sum : {ts rest : List Kind} {e : Tree} → IsSum ts e rest → IsPred ts e rest
    compared : {ts us rest : List Kind} {o : CmpOp} {a b : Tree} → IsSum ts a (compares o ∷ us) → IsSum us b rest → IsPred ts (t.cmp o a b) rest
    matched : {ts us rest : List Kind} {o : PatOp} {a : Tree} {ss : List (List ℕ)} → IsSum ts a (matches o ∷ us) → IsPatterns us ss rest → IsPred ts (t.pattern o a ss) rest
    is_in : {ts us rest : List Kind} {f : Bool} {a : Tree} {vs : List Value} → IsSum ts a (in_ f ∷ us) → IsMembers us vs rest → IsPred ts (t.member f false a vs) rest
    is_not_in : {ts us rest : List Kind} {f : Bool} {a : Tree} {vs : List Value} → IsSum ts a (not_ ∷ in_ f ∷ us) → IsMembers us vs rest → IsPred ts (t.member f true a vs) rest

  -- sum = prod { ( "+" | "-" ) prod }, from the left
  pub data IsSum : List Kind → Tree → List Kind → Type 0 where
    prod : {ts rest : List Kind} {e : Tree} → IsProd ts e rest → IsSum ts e rest
    added : {ts us rest : List Kind} {o : MathOp} {a b : Tree} → IsSum ts a (adds o ∷ us) → IsProd us b rest → IsSum ts (t.math o a b) rest

  -- prod = unary { ( "*" | "/" | "%" ) unary }, from the left
  pub data IsProd : List Kind → Tree → List Kind → Type 0 where
    unary : {ts rest : List Kind} {e : Tree} → IsUnary ts e rest → IsProd ts e rest
    multiplied : {ts us rest : List Kind} {o : MathOp} {a b : Tree} → IsProd ts a (multiplies o ∷ us) → IsUnary us b rest → IsProd ts (t.math o a b) rest

  -- unary = "-" unary | prim
  pub data IsUnary : List Kind → Tree → List Kind → Type 0 where
    minus : {ts rest : List Kind} {e : Tree} → IsUnary ts e rest → IsUnary (adds Sub ∷ ts) (t.neg e) rest
    prim : {ts rest : List Kind} {e : Tree} → IsPrim ts e rest → IsUnary ts e rest

  -- prim = "null" | "true" | "false" | Num | Str | field | name "(" arguments | "(" expr ")"
  pub data IsPrim : List Kind → Tree → List Kind → Type 0 where
    is_null : {rest : List Kind} → IsPrim (null_ ∷ rest) t.null rest
    is_yes : {rest : List Kind} → IsPrim (true_ ∷ rest) (t.bool true) rest
    is_no : {rest : List Kind} → IsPrim (false_ ∷ rest) (t.bool false) rest
    is_long : {n : ℤ} {rest : List Kind} → IsPrim (number n ∷ rest) (t.long n) rest
    is_str : {s : List ℕ} {rest : List Kind} → IsPrim (text s ∷ rest) (t.str s) rest
    is_field : {ts rest : List Kind} {n : List ℕ} {o : Bool} → IsField ts n o rest → IsPrim ts (t.field n o) rest
    is_call : {w : List ℕ} {us rest : List Kind} {es : Trees} → IsArguments us es rest → is_left_out_call w es ≡ false → IsPrim (name w ∷ open_ ∷ us) (t.call w false es) rest
    is_folding_call : {w : List ℕ} {us rest : List Kind} {es : Trees} → IsArguments us es rest → IsPrim (folding w ∷ open_ ∷ us) (t.call w true es) rest
    inside : {us rest : List Kind} {e : Tree} → IsExpr us e (close_ ∷ rest) → IsPrim (open_ ∷ us) e rest

  -- arguments = [ expr { "," expr } ] ")"
  pub data IsArguments : List Kind → Trees → List Kind → Type 0 where
    no_arguments : {rest : List Kind} → IsArguments (close_ ∷ rest) none rest
    some_arguments : {ts rest : List Kind} {es : Trees} → IsOperands by_comma ts es (close_ ∷ rest) → IsArguments ts es rest
