-- The reader for tests is a reader of lines. Its implementation cites these proofs.
use Rattle.std.proofs.Common.{◌≡◌, ◌<◌, ◌≤◌, ℕ, ◌-◌, ◌*◌, Bool, true, false, cond, List, [], ◌∷◌, length, refl, ap, subst, arith}
use Rattle.std.specs.Prelude.{◌&&◌, nat_lt, nat_le}
use Rattle.std.proofs.lemmas.Int.{ints}
use Rattle.std.proofs.lemmas.Bool.Decides.{nat_tests}
use Rattle.eql_values.specs.declared.item.Item.{Item}
use Rattle.eql_values.specs.declared.cut.Reason.TheVariants.{Long, NotJson}
use Rattle.eql_values.specs.declared.reader.LineGot.{LineGot}
use Rattle.eql_values.specs.declared.reader.LineGot.TheVariants as got
use Rattle.eql_values.specs.Reading.{IsReadAt, is_blank, too_long}
use Rattle.eql_lane_tests.specs.Reader.{event_of, by_first, first_byte}

abbrev IsEventAt : (shard line : ℕ) → LineGot → Type 0
IsEventAt shard line got.Blank = Unit {0}
IsEventAt shard line (got.Bad reason) = Unit {0}
IsEventAt shard line (got.Item item) = IsReadAt shard line item

within : (byte : ℕ) → nat_le 48 byte ≡ true → nat_le byte 122 ≡ true → (byte - 48) * 1000000000 ≤ 74000000000
within byte h k = let a : byte ≤ 122 = grind (arith, nat_tests, k) in omega (arith, a)

one_byte : (shard line byte : ℕ) (b c : Bool) → nat_le 48 byte ≡ b → nat_le byte 122 ≡ c → IsEventAt shard line (cond (b && c) (event_of byte shard line) (got.Bad NotJson))
one_byte shard line byte true true h k = record {
  shard_is = refl;
  line_is = refl;
  at_is = refl;
  in_range = let a = within byte h k in (grind (arith, ints), grind (arith, ints));
  routes_stand = (refl, refl);
}
one_byte shard line byte true false h k = tt
one_byte shard line byte false c h k = tt

by_bytes : (shard line : ℕ) (bytes : List ℕ) → IsEventAt shard line (by_first shard line bytes)
by_bytes shard line [] = tt
by_bytes shard line (byte ∷ bytes) = one_byte shard line byte (nat_le 48 byte) (nat_le byte 122) refl refl

either : (shard line : ℕ) (blank long : Bool) (g : LineGot) → IsEventAt shard line g → IsEventAt shard line (cond blank got.Blank (cond long (got.Bad Long) g))
either shard line true long g h = tt
either shard line false true g h = tt
either shard line false false g h = h

pub reads_an_event : (shard line : ℕ) (bytes : List ℕ) (event : Item) → first_byte shard line bytes ≡ got.Item event → IsReadAt shard line event
reads_an_event shard line bytes event e = subst (IsEventAt shard line) e (either shard line (is_blank bytes) (nat_lt 1048576 (length bytes)) (by_first shard line bytes) (by_bytes shard line bytes))

pub reads_a_long_line : (shard line : ℕ) (bytes : List ℕ) → 1048576 < length bytes → first_byte shard line bytes ≡ too_long bytes
reads_a_long_line shard line bytes many =
    let long : nat_lt 1048576 (length bytes) ≡ true = grind (arith, nat_tests) in
    ap (λ (b : Bool). cond (is_blank bytes) got.Blank (cond b (got.Bad Long) (by_first shard line bytes))) long
