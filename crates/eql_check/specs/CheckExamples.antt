-- Worked examples of the rules, computed.
use Rattle.std.specs.Prelude.{◌≡◌, ℕ, pos, true, false, List, [], ◌∷◌, Option, Some, None, refl, codes}
use Rattle.std.specs.Str.{chars}
use Rattle.std.specs.declared.result.Result.TheVariants.{Ok, Err}
use Rattle.serde_json.specs.Data.{string, number, unsigned, object, array, no_items, no_members, member}
use Rattle.eql_values.specs.declared.value.Kind.{Kind}
use Rattle.eql_values.specs.declared.value.Kind.TheVariants as kind
use Rattle.eql_values.specs.declared.value.Value.TheVariants as value
use Rattle.eql_text.specs.Addresses.{plain, parse_ip4}
use Rattle.eql_text.specs.Numbers.{read_number}
use Rattle.eql_query.specs.Tree.{Tree}
use Rattle.eql_query.specs.Tree as t
use Rattle.eql_query.specs.QueryTree.{TermTree, QueryTree, sequence}
use Rattle.eql_query.specs.declared.expr.CmpOp.TheVariants.{Lt, Eq, Ne}
use Rattle.eql_query.specs.declared.query.Unit.TheVariants.{D, Ms}
use Rattle.eql_check.specs.declared.function.Function.TheVariants.{Length, Between}
use Rattle.eql_check.specs.declared.mapping.MapRefused.TheVariants.{MapKind, MapSyntax}
use Rattle.eql_check.specs.declared.refused.CheckRefused.TheVariants as broken
use Rattle.eql_check.specs.Names.{function_of}
use Rattle.eql_check.specs.Kinds.{kind_at, can_be_among}
use Rattle.eql_check.specs.Calls.{takes_count}
use Rattle.eql_check.specs.FirstBroken.{kind_of}
use Rattle.eql_check.specs.Used.{used_fields}
use Rattle.eql_check.specs.Rules.{is_span, first_broken}
use Rattle.eql_check.specs.Mappings.{mapping_in}

-- a form with `~` exists for some functions only
plain_form : function_of (codes "length") false ≡ Some Length
unfolding chars lib.Utf8.encode
plain_form = refl

folding : function_of (codes "between") true ≡ Some Between
unfolding chars lib.Utf8.encode
folding = refl

no_folding : function_of (codes "length") true ≡ None
unfolding chars lib.Utf8.encode
no_folding = refl

no_function : function_of (codes "Length") false ≡ None
unfolding chars lib.Utf8.encode
no_function = refl

-- names stand in the order of their bytes, and the first that isn't a kind is refused
two_kinds : mapping_in (object (member (codes "a") (string (codes "ip")) (member (codes "b") (string (codes "keyword")) no_members)))
    ≡ Ok ((codes "a", kind.Ip) ∷ (codes "b", kind.Text) ∷ [])
unfolding chars
two_kinds = refl

first_other : mapping_in (object (member (codes "a") (string (codes "long")) (member (codes "b") (string (codes "date")) (member (codes "c") (number (unsigned 1)) no_members))))
    ≡ Err (MapKind (codes "b"))
unfolding chars
first_other = refl

no_object : mapping_in (array no_items) ≡ Err MapSyntax
no_object = refl

abbrev some_fields : List (List ℕ × Kind)
some_fields = (codes "a", kind.Ip) ∷ (codes "n", kind.Long) ∷ (codes "m", kind.Long) ∷ (codes "t", kind.Text) ∷ []

abbrev mapping : List ℕ → Option Kind
mapping = kind_at some_fields

abbrev named_field : List ℕ → Tree
named_field name = t.field name false

-- `n == 1`, `n == "1"`, `n == m`, `null < true`
equal_kinds : kind_of 1 mapping (t.cmp Eq (named_field (codes "n")) (t.long (pos 1))) ≡ Ok (Some kind.Bool)
unfolding lib.Utf8.encode
equal_kinds = refl

other_kinds : kind_of 1 mapping (t.cmp Eq (named_field (codes "n")) (t.str (codes "1"))) ≡ Err (broken.KindMismatch 1)
unfolding parse_ip4 lib.Utf8.encode
other_kinds = refl

two_fields : kind_of 2 mapping (t.cmp Eq (named_field (codes "n")) (named_field (codes "m"))) ≡ Err (broken.FieldToField 2)
unfolding lib.Utf8.encode
two_fields = refl

null_before_true : kind_of 1 mapping (t.cmp Lt t.null (t.bool true)) ≡ Err (broken.KindMismatch 1)
null_before_true = refl

-- `a != "10.0.0.1"` and `a != "10.0.0"`
an_address : kind_of 1 mapping (t.cmp Ne (named_field (codes "a")) (t.str (codes "10.0.0.1"))) ≡ Ok (Some kind.Bool)
unfolding parse_ip4 plain read_number lib.Utf8.encode
an_address = refl

no_address : kind_of 1 mapping (t.cmp Ne (named_field (codes "a")) (t.str (codes "10.0.0"))) ≡ Err (broken.KindMismatch 1)
unfolding parse_ip4 plain read_number lib.Utf8.encode
no_address = refl

-- a field that the mapping doesn't have
optional_field : kind_of 1 mapping (t.field (codes "x") true) ≡ Ok None
unfolding lib.Utf8.encode
optional_field = refl

unknown_field : kind_of 1 mapping (t.field (codes "x") false) ≡ Err (broken.UnknownField (codes "x"))
unfolding lib.Utf8.encode
unknown_field = refl

-- `null in (1, "a")`, and `t in~ (1)`
any_literals : can_be_among false None (value.Long (pos 1) ∷ value.Text (codes "a") ∷ []) ≡ true
any_literals = refl

folded_literals : can_be_among true (Some kind.Text) (value.Long (pos 1) ∷ []) ≡ false
folded_literals = refl

-- three arguments or four
between_three : takes_count Between 3 ≡ true
between_three = refl

between_five : takes_count Between 5 ≡ false
between_five = refl

-- 36,500 days and a day more
longest_span : is_span (record { count = pos 36500; unit = D }) ≡ true
longest_span = refl

longer_span : is_span (record { count = pos 36501; unit = D }) ≡ false
longer_span = refl

no_span : is_span (record { count = pos 0; unit = Ms }) ≡ false
no_span = refl

-- items by one key each
abbrev by_key : List ℕ → TermTree
by_key name = record { category = None; cond = t.bool true; by = record { name = name; optional = false } ∷ []; runs = pos 1 }

abbrev in_sequence : List TermTree → QueryTree
in_sequence items = record { body = sequence [] None items None; pipes = [] }

same_key : first_broken mapping (in_sequence (by_key (codes "n") ∷ by_key (codes "m") ∷ [])) ≡ None
unfolding lib.Utf8.encode
same_key = refl

other_key : first_broken mapping (in_sequence (by_key (codes "n") ∷ by_key (codes "t") ∷ [])) ≡ Some (broken.KeyKind 2)
unfolding lib.Utf8.encode
other_key = refl

one_stage : first_broken mapping (in_sequence (by_key (codes "n") ∷ [])) ≡ Some broken.FewStages
unfolding lib.Utf8.encode
one_stage = refl

-- the used fields in the order of first use, each once
used_once : used_fields mapping (in_sequence (by_key (codes "t") ∷ by_key (codes "n") ∷ by_key (codes "t") ∷ []))
    ≡ (codes "t", kind.Text) ∷ (codes "n", kind.Long) ∷ []
unfolding lib.Utf8.encode
used_once = refl
