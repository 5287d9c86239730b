-- The formats of the values that a cut holds.
use Rattle.std.specs.Prelude.{ℕ, ℤ, ◌+◌, ◌*◌, ◌/◌, ◌%◌, ◌^◌, ◌<◌, ◌==◌, if◌then◌else◌, Bool, ◌&&◌, nat_lt, List, [], length, take, drop, Option, Some, None, ◌⊎◌}
use Rattle.std.specs.List.{list_all}
use Rattle.std.specs.FinMap.Entries.{is_sorted}
use Rattle.eql_values.specs.Orders.{key_cmp}
use Rattle.eql_values.specs.Adjacent.{by_key, by_order}
use Rattle.eql_values.specs.OrderKeys.{order_cmp}
use Rattle.std.specs.Int.{w32, w64, w128, cast_signed, cast_unsigned, to_be_bytes, from_be_bytes}
use mathlib.Core.Logic.{inl, inr}
use Rattle.std.specs.Str.{chars, is_utf8}
use Rattle.std.proofs.Math.Utf8.{encodes}
use Rattle.eql_digest.specs.declared.digest.Digest.{Digest}
use Rattle.eql_digest.specs.Digests.{start, with_bytes}
use Rattle.eql_values.specs.declared.order.OrderKey.{OrderKey}
use Rattle.eql_values.specs.declared.value.Value.{Value}
use Rattle.eql_values.specs.declared.value.Value.TheVariants as value
use Rattle.eql_values.specs.declared.item.Mask.{Mask}
use Rattle.eql_values.specs.declared.item.Route.{Route}
use Rattle.eql_values.specs.declared.item.Item.{Item}
use Rattle.eql_values.specs.declared.cut.Reason.{Reason}
use Rattle.eql_values.specs.declared.cut.Reason.TheVariants as reason
use Rattle.eql_values.specs.declared.cut.FirstBad.{FirstBad}
use Rattle.eql_values.specs.declared.cut.Counts.{Counts}
use Rattle.eql_values.specs.declared.cut.LaneCut.{LaneCut}
use Rattle.eql_values.specs.Routes.{says_something}
use Rattle.eql_cut.specs.declared.reader.Version.{Version}
use Rattle.eql_cut.specs.declared.reader.Version.TheVariants as version
use Rattle.eql_cut.specs.Formats.{Format, number, both, seen_as, only, the_number, option, truth, list, so_many, byte, empty, never, case}

-- a number of 16 bytes
abbrev pub sixteen : Format ℕ
sixteen = seen_as (λ (x : ℕ × ℕ). x.1 * 2 ^ 64 + x.0) (λ n. (n % 2 ^ 64, n / 2 ^ 64)) (both (number w64) (number w64))

abbrev pub signed_16 : Format ℤ
signed_16 = seen_as (cast_signed w128) (cast_unsigned w128) sixteen

abbrev pub signed_8 : Format ℤ
signed_8 = seen_as (cast_signed w64) (cast_unsigned w64) (number w64)

-- the place of an event in the order; the first format has no place of its line
abbrev pub order_with_place : Format OrderKey
order_with_place =
    seen_as (λ (x : ℤ × (Option ℤ × (ℕ × (ℕ × ℕ)))). record { ts = x.0; tie = x.1.0; shard = x.1.1.0; line = x.1.1.1.0; at = x.1.1.1.1 })
    (λ k. (k.ts, (k.tie, (k.shard, (k.line, k.at)))))
    (both signed_16 (both (option signed_8) (both (number w32) (both (number w32) (number w64)))))

abbrev pub order_without : Format OrderKey
order_without =
    seen_as (λ (x : ℤ × (Option ℤ × (ℕ × ℕ))). record { ts = x.0; tie = x.1.0; shard = x.1.1.0; line = x.1.1.1; at = 0 }) (λ k. (k.ts, (k.tie, (k.shard, k.line))))
    (both signed_16 (both (option signed_8) (both (number w32) (number w32))))

abbrev pub order : Version → Format OrderKey
order version.One = order_without
order version.Two = order_with_place
order version.Three = order_with_place
order version.Four = order_with_place

-- a text, by its UTF-8 bytes
abbrev pub text : Format (List ℕ)
text = seen_as chars encodes (only is_utf8 (list byte))

-- the four bytes of an address, the highest first
unfoldable pub octets_text : ℕ → List ℕ
octets_text n = to_be_bytes w32 n

unfoldable pub octets_read : List ℕ → Option (ℕ × List ℕ)
octets_read bytes = if nat_lt (length bytes) 4 then None else Some (from_be_bytes w32 (take 4 bytes), drop 4 bytes)

abbrev pub octets : Format ℕ
octets = record { Fits = λ n. n < 2 ^ 32; text = octets_text; read = octets_read }

-- what stands in front of an address of 32 bits in one of 128 bits: ten bytes of 0 and two of 255
abbrev pub in_front : Format (Unit {0} × Unit {0})
in_front = both (the_number w64 0) (the_number w32 0xffff0000)

-- an address in 16 bytes
abbrev pub mapped : Format ℕ
mapped = seen_as (λ (x : (Unit {0} × Unit {0}) × ℕ). x.1) (λ ip. ((tt, tt), ip)) (both in_front octets)

-- an address; the first three formats have four bytes, the lowest first
abbrev pub address : Version → Format ℕ
address version.One = number w32
address version.Two = number w32
address version.Three = number w32
address version.Four = mapped

-- a value of a field: its kind, and what it holds
abbrev pub value_of : Unit {0} ⊎ (Bool ⊎ (ℤ ⊎ (List ℕ ⊎ (ℕ ⊎ ⊥)))) → Value
value_of (inl u) = value.Null
value_of (inr (inl b)) = value.Bool b
value_of (inr (inr (inl n))) = value.Long n
value_of (inr (inr (inr (inl t)))) = value.Text t
value_of (inr (inr (inr (inr (inl ip))))) = value.Ip ip
value_of (inr (inr (inr (inr (inr none))))) = absurd none

abbrev pub parts_of : Value → Unit {0} ⊎ (Bool ⊎ (ℤ ⊎ (List ℕ ⊎ (ℕ ⊎ ⊥))))
parts_of value.Null = inl tt
parts_of (value.Bool b) = inr (inl b)
parts_of (value.Long n) = inr (inr (inl n))
parts_of (value.Text t) = inr (inr (inr (inl t)))
parts_of (value.Ip ip) = inr (inr (inr (inr (inl ip))))

abbrev pub field : Version → Format Value
field v = seen_as value_of parts_of (case 0 empty (case 1 truth (case 2 signed_8 (case 3 text (case 4 (address v) never)))))

-- a mask; the first two formats have no stage above 128
abbrev pub mask_of_two : Format Mask
mask_of_two = seen_as (λ (x : ℕ × ℕ). record { low = x.0; high = x.1 }) (λ m. (m.low, m.high)) (both sixteen sixteen)

abbrev pub mask_of_one : Format Mask
mask_of_one = seen_as (λ n. record { low = n; high = 0 }) (λ m. m.low) sixteen

abbrev pub mask : Version → Format Mask
mask version.One = mask_of_one
mask version.Two = mask_of_one
mask version.Three = mask_of_two
mask version.Four = mask_of_two

-- a route of an event
abbrev pub route : Version → Format Route
route v = seen_as (λ (x : List Value × (Mask × Bool)). record { key = x.0; mask = x.1.0; until = x.1.1 }) (λ r. (r.key, (r.mask, r.until))) (both (list (field v)) (both (mask v) truth))

-- the routes of an event ascend strictly by key, and each has a stage or ends its key
abbrev pub routes_stand : List Route → Bool
routes_stand routes = is_sorted key_cmp (by_key routes) && list_all says_something routes

abbrev pub routes : Version → Format (List Route)
routes v = only routes_stand (list (route v))

abbrev pub item : Version → Format Item
item v = seen_as (λ (x : OrderKey × List Route). record { order = x.0; routes = x.1 }) (λ i. (i.order, i.routes)) (both (order v) (routes v))

-- the events of a lane ascend strictly
abbrev pub items_ascend : List Item → Bool
items_ascend items = is_sorted order_cmp (by_order items)

abbrev pub items : Version → Format (List Item)
items v = only items_ascend (list (item v))

-- why a line was rejected
abbrev pub reason_of : ℕ → Reason
reason_of n =
    if n == 0 then reason.Long else if n == 1 then reason.NotJson else if n == 2 then reason.NotObject else if n == 3 then reason.NoTime
    else if n == 4 then reason.BadTime else if n == 5 then reason.Kind else if n == 6 then reason.Fraction else reason.Range

abbrev pub reason_number : Reason → ℕ
reason_number reason.Long = 0
reason_number reason.NotJson = 1
reason_number reason.NotObject = 2
reason_number reason.NoTime = 3
reason_number reason.BadTime = 4
reason_number reason.Kind = 5
reason_number reason.Fraction = 6
reason_number reason.Range = 7

abbrev pub why : Format Reason
why = seen_as reason_of reason_number (only (λ n. nat_lt n 8) byte)

abbrev pub first_bad : Format FirstBad
first_bad = seen_as (λ (x : ℕ × Reason). record { line = x.0; reason = x.1 }) (λ b. (b.line, b.reason)) (both (number w32) why)

abbrev pub counts : Format Counts
counts =
    seen_as (λ (x : ℕ × (ℕ × (ℕ × (ℕ × Option FirstBad)))). record { lines = x.0; accepted = x.1.0; late = x.1.1.0; rejected = x.1.1.1.0; first = x.1.1.1.1 })
    (λ c. (c.lines, (c.accepted, (c.late, (c.rejected, c.first)))))
    (both (number w32) (both (number w32) (both (number w32) (both (number w32) (option first_bad)))))

-- a digest; the first three formats have none, which is read as that of no bytes
abbrev pub digest_of_ten : Format Digest
digest_of_ten =
    seen_as (λ (x : List ℕ × (ℕ × ℕ)). record { lanes = x.0; word = x.1.0; length = x.1.1 }) (λ d. (d.lanes, (d.word, d.length)))
    (both (so_many 8 (number w64)) (both (number w64) (number w64)))

abbrev pub digest_of_none : Format Digest
digest_of_none = seen_as (λ (u : Unit {0}). with_bytes start []) (λ d. tt) empty

abbrev pub digest : Version → Format Digest
digest version.One = digest_of_none
digest version.Two = digest_of_none
digest version.Three = digest_of_none
digest version.Four = digest_of_ten

abbrev pub lane : Version → Format LaneCut
lane v =
    seen_as
    (λ (x : ℕ × (Digest × (Bool × (Option ℤ × (Counts × List Item))))). record { offset = x.0; digest = x.1.0; closed = x.1.1.0; best = x.1.1.1.0; counts = x.1.1.1.1.0; items = x.1.1.1.1.1 })
    (λ l. (l.offset, (l.digest, (l.closed, (l.best, (l.counts, l.items))))))
    (both (number w64) (both (digest v) (both truth (both (option signed_16) (both counts (items v))))))
