-- The code of an expression, and how deep a stack it needs.
use Rattle.std.specs.Prelude.{ℕ, suc, ◌+◌, max, List, [], ◌∷◌, ◌++◌, length, Bool, true, false, ◌||◌, Option, Some, None, option_map, if◌then◌else◌}
use Rattle.eql_values.specs.declared.value.Value.{Value}
use Rattle.eql_values.specs.declared.value.Value.TheVariants as value
use Rattle.eql_values.specs.declared.value.Kind.{Kind}
use Rattle.eql_text.specs.Addresses.{parse_ip4, parse_block}
use Rattle.eql_text.specs.declared.addresses.Block.{Block}
use Rattle.eql_query.specs.Tree.{Tree, Trees, none, more}
use Rattle.eql_query.specs.Tree as t
use Rattle.eql_query.specs.declared.expr.CmpOp.{CmpOp}
use Rattle.eql_query.specs.declared.expr.CmpOp.TheVariants.{Eq, Ne}
use Rattle.eql_check.specs.Names.{function_of}
use Rattle.eql_check.specs.Kinds.{holds_field}
use Rattle.eql_check.specs.declared.function.Function.{Function}
use Rattle.eql_check.specs.declared.function.Function.TheVariants.{CidrMatch}
use Rattle.eql_check.specs.Truth.{means, value_at, slot_of, is_literal_null}
use Rattle.eql_operators.specs.Prepared.{addresses_in}
use Rattle.eql_code.specs.declared.emit.Beside.{Beside}
use Rattle.eql_code.specs.declared.emit.Beside.TheVariants as side
use Rattle.eql_code.specs.Folds.{beside}
use Rattle.eql_code.specs.declared.emit.Op.{Op}
use Rattle.eql_code.specs.declared.emit.Op.TheVariants as op

abbrev pub field_code : Option ℕ → List Op
field_code None = op.Push value.Null ∷ []
field_code (Some i) = op.Slot i ∷ []

-- what an expression without a field means
abbrev pub constant : Tree → Value
constant a = means (value_at [] []) a

-- an expression without a field is its value alone
abbrev pub settled_code : Tree → List Op → List Op
settled_code a ops = if holds_field a then ops else op.Push (constant a) ∷ []

abbrev pub settled_depth : Tree → ℕ → ℕ
settled_depth a d = if holds_field a then d else 1

-- a text in quotes
abbrev pub quoted_text : Tree → Option (List ℕ)
quoted_text (t.str s) = Some s
quoted_text _ = None

-- whether an operator is `!=`, for `!=` and `==`
abbrev pub is_unequal : CmpOp → Option Bool
is_unequal Eq = Some false
is_unequal Ne = Some true
is_unequal _ = None

abbrev pub address_if : Option Bool → Option (List ℕ) → Option Op
address_if (Some negated) (Some s) = option_map (op.Address negated (value.Text s)) (parse_ip4 s)
address_if _ _ = None

-- `==` and `!=` beside a text in quotes that writes an address
abbrev pub address_op : CmpOp → Tree → Option Op
address_op how a = address_if (is_unequal how) (quoted_text a)

-- a comparison of two sides, of which the right one or else the left one may be such a text
abbrev pub side_code : Beside → List Op → List Op → List Op
side_code (side.Right o) a b = a ++ o ∷ []
side_code (side.Left o) a b = b ++ o ∷ []
side_code (side.Neither o) a b = a ++ (b ++ o ∷ [])

abbrev pub compare_code : (on_right on_left : Option Op) → Op → List Op → List Op → List Op
compare_code right left plain a b = side_code (beside right left plain) a b

abbrev pub side_depth : Beside → ℕ → ℕ → ℕ
side_depth (side.Right o) a b = a
side_depth (side.Left o) a b = b
side_depth (side.Neither o) a b = max a (suc b)

abbrev pub compare_depth : (on_right on_left : Option Op) → Op → ℕ → ℕ → ℕ
compare_depth right left plain a b = side_depth (beside right left plain) a b

-- the blocks of addresses that texts in quotes write, where all are such texts
abbrev pub block_before : Option Block → Option (List Block) → Option (List Block)
block_before (Some block) (Some blocks) = Some (block ∷ blocks)
block_before _ _ = None

abbrev pub block_if : Option (List ℕ) → Option Block
block_if (Some s) = parse_block s
block_if None = None

abbrev pub block_of : Tree → Option Block
block_of a = block_if (quoted_text a)

abbrev pub blocks_in : Trees → Option (List Block)
blocks_in none = Some []
blocks_in (more a es) = block_before (block_of a) (blocks_in es)

abbrev pub is_cidr : Option Function → Bool
is_cidr (Some CidrMatch) = true
is_cidr _ = false

abbrev pub cidr_if : Bool → Trees → Option Op
cidr_if true (more a blocks) = option_map op.Cidr (blocks_in blocks)
cidr_if _ _ = None

-- `cidrMatch` with such blocks
abbrev pub cidr_op : Option Function → Trees → Option Op
cidr_op f args = cidr_if (is_cidr f) args

-- the arguments in their order, and the call
abbrev pub plain_call : Option Function → Bool → ℕ → List Op → List Op
plain_call (Some f) fold n args = args ++ op.Call f fold n ∷ []
plain_call None fold n args = op.Push value.Null ∷ []

-- a call, for which the first argument is enough where its blocks were read
abbrev pub call_code : Option Op → (first plain : List Op) → List Op
call_code (Some o) first plain = first ++ o ∷ []
call_code None first plain = plain

abbrev pub count_of : Trees → ℕ
count_of none = 0
count_of (more a es) = suc (count_of es)

module _ (fields : List (List ℕ × Kind)) where
  abbrev mutual
    pub code : Tree → List Op
    code t.null = op.Push value.Null ∷ []
    code (t.bool b) = op.Push (value.Bool b) ∷ []
    code (t.long n) = op.Push (value.Long n) ∷ []
    code (t.str s) = op.Push (value.Text s) ∷ []
    code (t.field name optional) = field_code (slot_of fields name)
    code (t.not a) = settled_code (t.not a) (code a ++ op.Not ∷ [])
    code (t.and es) = settled_code (t.and es) (op.Push (value.Bool true) ∷ code_each op.And es)
    code (t.or es) = settled_code (t.or es) (op.Push (value.Bool false) ∷ code_each op.Or es)
    code (t.cmp how a b) =
        settled_code (t.cmp how a b)
        (compare_code (address_op how b) (address_op how a) (op.Compare (is_literal_null a || is_literal_null b) how) (code a) (code b))
    code (t.pattern how a patterns) = settled_code (t.pattern how a patterns) (code a ++ op.Pattern how patterns ∷ [])
    code (t.member fold negated a list) =
        settled_code (t.member fold negated a list) (code a ++ op.Member fold negated list (addresses_in list) ∷ [])
    code (t.neg a) = settled_code (t.neg a) (code a ++ op.Negate ∷ [])
    code (t.math how a b) = settled_code (t.math how a b) (code a ++ (code b ++ op.Math how ∷ []))
    code (t.call name fold args) =
        settled_code (t.call name fold args)
        (call_code (cidr_op (function_of name fold) args) (code_first args) (plain_call (function_of name fold) fold (count_of args) (code_all args)))

    -- each operand, with the operator after it, which has the number of operations that follow in the list
    pub code_each : (ℕ → Op) → Trees → List Op
    code_each o none = []
    code_each o (more a es) = code a ++ (o (length (code_each o es)) ∷ code_each o es)

    -- one argument after another
    pub code_all : Trees → List Op
    code_all none = []
    code_all (more a es) = code a ++ code_all es

    -- the first argument
    pub code_first : Trees → List Op
    code_first none = []
    code_first (more a es) = code a

abbrev pub plain_depth : Option Function → ℕ → ℕ
plain_depth (Some f) args = max 1 args
plain_depth None args = 1

abbrev pub call_depth : Option Op → (first plain : ℕ) → ℕ
call_depth (Some o) first plain = first
call_depth None first plain = plain

-- how deep the code of a node gets above the stack that it finds
abbrev mutual
  pub depth : Tree → ℕ
  depth (t.not a) = settled_depth (t.not a) (depth a)
  depth (t.and es) = settled_depth (t.and es) (suc (depth_each es))
  depth (t.or es) = settled_depth (t.or es) (suc (depth_each es))
  depth (t.cmp how a b) =
      settled_depth (t.cmp how a b)
      (compare_depth (address_op how b) (address_op how a) (op.Compare (is_literal_null a || is_literal_null b) how) (depth a) (depth b))
  depth (t.pattern how a patterns) = settled_depth (t.pattern how a patterns) (depth a)
  depth (t.member fold negated a list) = settled_depth (t.member fold negated a list) (depth a)
  depth (t.neg a) = settled_depth (t.neg a) (depth a)
  depth (t.math how a b) = settled_depth (t.math how a b) (max (depth a) (suc (depth b)))
  depth (t.call name fold args) =
      settled_depth (t.call name fold args)
      (call_depth (cidr_op (function_of name fold) args) (depth_first args) (plain_depth (function_of name fold) (depth_all 0 args)))
  depth _ = 1

  pub depth_each : Trees → ℕ
  depth_each none = 0
  depth_each (more a es) = max (depth a) (depth_each es)

  -- of arguments, with n others below them
  pub depth_all : ℕ → Trees → ℕ
  depth_all n none = 0
  depth_all n (more a es) = max (n + depth a) (depth_all (suc n) es)

  pub depth_first : Trees → ℕ
  depth_first none = 0
  depth_first (more a es) = depth a

-- whether an expression is a comparison or an operator on two whole numbers; its operands, and an operator behind them
abbrev pub has_two : Tree → Bool
has_two (t.cmp how a b) = true
has_two (t.math how a b) = true
has_two _ = false

abbrev pub two_code : List (List ℕ × Kind) → Tree → Op → List Op
two_code fields (t.cmp how a b) o = code fields a ++ (code fields b ++ o ∷ [])
two_code fields (t.math how a b) o = code fields a ++ (code fields b ++ o ∷ [])
two_code fields _ o = []

abbrev pub two_depth : Tree → ℕ
two_depth (t.cmp how a b) = max (depth a) (suc (depth b))
two_depth (t.math how a b) = max (depth a) (suc (depth b))
two_depth _ = 0

-- a comparison, and its operator by the side that writes an address
abbrev pub is_compare : Tree → Bool
is_compare (t.cmp how a b) = true
is_compare _ = false

abbrev pub side_of : Tree → Beside
side_of (t.cmp how a b) = beside (address_op how b) (address_op how a) (op.Compare (is_literal_null a || is_literal_null b) how)
side_of _ = side.Neither op.Not

abbrev pub compare_code_with : List (List ℕ × Kind) → Tree → Beside → List Op
compare_code_with fields (t.cmp how a b) s = side_code s (code fields a) (code fields b)
compare_code_with fields _ s = []

abbrev pub compare_depth_with : Tree → Beside → ℕ
compare_depth_with (t.cmp how a b) s = side_depth s (depth a) (depth b)
compare_depth_with _ s = 0
