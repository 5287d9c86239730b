-- What readers of lines promise.
use Rattle.std.specs.Prelude.{◌≡◌, ℕ, ℤ, pos, neg_ℤ, ◌≤ℤ◌, ◌==◌, ◌||◌, Bool, List, if◌then◌else◌}
use Rattle.std.specs.List.{list_all}
use Rattle.eql_values.specs.declared.item.Item.{Item}
use Rattle.eql_values.specs.declared.cut.Reason.TheVariants.{Long}
use Rattle.eql_values.specs.declared.reader.LineGot.{LineGot}
use Rattle.eql_values.specs.declared.reader.LineGot.TheVariants.{Blank, Bad}
use Rattle.eql_values.specs.Routes.{RoutesStand}

-- the greatest number of nanoseconds that timestamps are held within, on both sides of the epoch: 2^63 milliseconds
abbrev pub time_bound : ℤ
time_bound = pos 9223372036854775808000000

-- the time, in nanoseconds since the epoch, lies within the bound
abbrev pub IsTime : ℤ → Type 0
IsTime t = (neg_ℤ time_bound ≤ℤ t) × (t ≤ℤ time_bound)

-- an event as it is read at a line of a shard: it has this shard and line, the place 0, a time within the bound, and routes in order
pub record IsReadAt (shard line : ℕ) (item : Item) : Type 0 where
  pub shard_is : item.order.shard ≡ shard
  pub line_is : item.order.line ≡ line
  pub at_is : item.order.at ≡ 0
  pub in_range : IsTime item.order.ts
  pub routes_stand : RoutesStand item.routes

-- a space, a tab or a carriage return
abbrev pub is_blank_byte : ℕ → Bool
is_blank_byte byte = (byte == 32) || (byte == 9) || (byte == 13)

-- the line has nothing but spaces, tabs and carriage returns
abbrev pub is_blank : List ℕ → Bool
is_blank bytes = list_all is_blank_byte bytes

-- what a line gives that has too many bytes
abbrev pub too_long : List ℕ → LineGot
too_long bytes = if is_blank bytes then Blank else Bad Long
