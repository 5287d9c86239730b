-- A table with the same rooms and the same places.
use Rattle.std.proofs.Common.{◌≡◌, ℕ, ℤ, List, Option, sym, subst}
use Rattle.std.specs.Map.{lookup}
use Rattle.std.specs.BTreeMap.{get, is_at}
use Rattle.eql_values.specs.declared.value.Value.{Value}
use Rattle.eql_values.specs.Orders.{key_cmp}
use Rattle.eql_part.specs.Indexed.{under_of}
use Rattle.eql_part.specs.declared.table.KeyTable.{KeyTable}
use Rattle.std.specs.Prelude.{All}
use Rattle.eql_part.specs.Rooms.{IsHoused, IsSpare, IsTable}

pub same_table : {L : Type 0} → (m : ℕ) (span : Option ℤ) (t u : KeyTable L) → u.rooms ≡ t.rooms → ((q : ℕ) → under_of u.by_hash q ≡ under_of t.by_hash q) → u.others.entries ≡ t.others.entries
    → IsTable m span t → IsTable m span u
same_table m span t u rooms hashes others is = record {
  housed = subst (λ r. IsHoused (under_of u.by_hash) (get key_cmp u.others) r.items) (sym rooms)
      (subst (λ (f : ℕ → Option ℕ). IsHoused f (get key_cmp u.others) t.rooms.items) (sym (λ i q. hashes q i))
      (subst (λ (f : List Value → Option ℕ). IsHoused (under_of t.by_hash) f t.rooms.items) (sym (λ i key. lookup (is_at (key_cmp key)) (others i))) is.housed));
  spare = subst (λ r. All (IsSpare m span) r.items) (sym rooms) is.spare;
}
