-- A reader of lines for tests: the first byte of a line says its time.
use Rattle.std.specs.Prelude.{ℕ, pos, ◌-◌, ◌*◌, ◌&&◌, nat_lt, nat_le, if◌then◌else◌, List, [], ◌∷◌, length, None}
use Rattle.eql_values.specs.declared.cut.Reason.TheVariants.{Long, NotJson}
use Rattle.eql_values.specs.declared.reader.LineGot.{LineGot}
use Rattle.eql_values.specs.declared.reader.LineGot.TheVariants.{Blank, Item, Bad}
use Rattle.eql_values.specs.Reading.{is_blank}

-- the event of a line whose first byte is this, in seconds from 48 on, with no routes
abbrev pub event_of : (byte shard line : ℕ) → LineGot
event_of byte shard line =
    Item (record { order = record { ts = pos ((byte - 48) * 1000000000); tie = None; shard = shard; line = line; at = 0 }; routes = [] })

abbrev pub by_first : (shard line : ℕ) → List ℕ → LineGot
by_first shard line [] = Blank
by_first shard line (byte ∷ bytes) = if nat_le 48 byte && nat_le byte 122 then event_of byte shard line else Bad NotJson

-- what a line gives
abbrev pub first_byte : (shard line : ℕ) → List ℕ → LineGot
first_byte shard line bytes = if is_blank bytes then Blank else (if nat_lt 1048576 (length bytes) then Bad Long else by_first shard line bytes)
