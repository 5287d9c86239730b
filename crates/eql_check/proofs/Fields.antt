-- The fields of a mapping, read one by one.
use Rattle.std.proofs.Common.{◌≡◌, ℕ, suc, List, [], ◌∷◌, ◌++◌, length, Some, refl, ap, append_assoc, String}
use Rattle.std.specs.declared.alloc.Global.{Global}
use Rattle.std.specs.declared.result.Result.TheVariants.{Ok, Err}
use Rattle.serde_json.specs.View.{members_view}
use Rattle.serde_json.specs.declared.value.Value.{Value}
use Rattle.eql_values.specs.declared.value.Kind.{Kind}
use Rattle.eql_check.specs.Mappings.{MapRead, fields_before, field_before, member_count}
use Rattle.std.specs.Str.{chars}

pub one_more_field : (fields : List (List ℕ × Kind)) (name : List ℕ) (k : Kind) (rest : MapRead) →
    fields_before (fields ++ (chars name, k) ∷ []) rest ≡ fields_before fields (field_before name (Some k) rest)
one_more_field fields name k (Ok more) = ap Ok (append_assoc fields ((chars name, k) ∷ []) more)
one_more_field fields name k (Err refused) = refl

-- an object has as many members as entries
pub count_members : (ms : List (String Global × Value)) → member_count (members_view ms) ≡ length ms
count_members [] = refl
count_members (m ∷ ms) = ap suc (count_members ms)
