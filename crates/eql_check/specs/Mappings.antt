-- What a text says about the kinds of fields.
use Rattle.std.specs.Prelude.{ℕ, suc, ◌≤◌, List, [], ◌∷◌, ◌++◌, length, nat_lt, Option, Some, None, if◌then◌else◌, codes}
use Rattle.std.specs.Str.{bytes_eq, chars}
use Rattle.std.specs.List.Sorted.{IsStrictlySortedBy}
use Rattle.std.specs.Map.{keys_of}
use Rattle.std.specs.declared.result.Result.{Result}
use Rattle.std.specs.declared.result.Result.TheVariants.{Ok, Err}
use Rattle.serde_json.specs.Data.{Data, string, object, Members, no_members, member}
use Rattle.eql_values.specs.declared.value.Kind.{Kind}
use Rattle.eql_values.specs.declared.value.Kind.TheVariants as kind
use Rattle.eql_values.specs.Orders.{text_cmp}
use Rattle.eql_text.specs.Json.{json_of}
use Rattle.eql_check.specs.declared.mapping.MapRefused.{MapRefused}
use Rattle.eql_check.specs.declared.mapping.MapRefused.TheVariants.{MapLong, MapSyntax, MapMany, MapKind}

-- the kind that a text of a mapping names
abbrev pub kind_named : Data → Option Kind
kind_named (string s) =
    if bytes_eq s (codes "keyword") then Some kind.Text else
    if bytes_eq s (codes "long") then Some kind.Long else
    if bytes_eq s (codes "boolean") then Some kind.Bool else
    if bytes_eq s (codes "ip") then Some kind.Ip else None
kind_named _ = None

-- the names of fields with their kinds, or why a mapping is refused
abbrev pub MapRead : Type 0
MapRead = Result (List (List ℕ × Kind)) MapRefused

-- one more field before others
abbrev pub field_before : List ℕ → Option Kind → MapRead → MapRead
field_before name None rest = Err (MapKind (chars name))
field_before name (Some k) (Ok fields) = Ok ((chars name, k) ∷ fields)
field_before name (Some k) (Err refused) = Err refused

-- the fields of an object, whose members stand in the order of their names' bytes
abbrev pub fields_of : Members → MapRead
fields_of no_members = Ok []
fields_of (member name value members) = field_before name (kind_named value) (fields_of members)

abbrev pub member_count : Members → ℕ
member_count no_members = 0
member_count (member name value members) = suc (member_count members)

-- at most 1,024 of them
abbrev pub fields_if_few : Members → MapRead
fields_if_few members = if nat_lt 1024 (member_count members) then Err MapMany else fields_of members

-- a mapping is an object
abbrev pub mapping_in : Data → MapRead
mapping_in (object members) = fields_if_few members
mapping_in _ = Err MapSyntax

abbrev pub mapping_if : Option Data → MapRead
mapping_if None = Err MapSyntax
mapping_if (Some value) = mapping_in value

-- the mapping that a text is, or why it is refused
abbrev pub mapping_of : List ℕ → MapRead
mapping_of bytes = if nat_lt 4194304 (length bytes) then Err MapLong else mapping_if (json_of bytes)

-- these fields before others
abbrev pub fields_before : List (List ℕ × Kind) → MapRead → MapRead
fields_before fields (Ok more) = Ok (fields ++ more)
fields_before fields (Err refused) = Err refused

-- the names ascend strictly, by their bytes or, which is the same, by their characters; so each stands once
abbrev pub NamesAscend : List (List ℕ × Kind) → Type 0
NamesAscend fields = IsStrictlySortedBy text_cmp (keys_of fields)

-- what the fields of every mapping keep
pub record AreInOrder (fields : List (List ℕ × Kind)) : Type 0 where
  pub order : NamesAscend fields
  pub few : length fields ≤ 1024
