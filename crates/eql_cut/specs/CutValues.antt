-- The formats of a whole cut.
use mathlib.Core.Logic.{inl, inr}
use Rattle.std.specs.Prelude.{ℕ, ℤ, ◌==◌, ◌&&◌, ◌⊎◌, nat_lt, nat_le, if◌then◌else◌, Bool, List, length, Option, All, IsTrue}
use Rattle.std.specs.FinMap.Entries.{is_sorted}
use Rattle.std.specs.Ordering.{nat_cmp}
use Rattle.std.specs.Int.{w32, w64}
use Rattle.eql_digest.specs.Checksums.{checksum_of}
use Rattle.eql_values.specs.declared.order.OrderKey.{OrderKey}
use Rattle.eql_values.specs.declared.value.Value.{Value}
use Rattle.eql_values.specs.declared.value.Kind.{Kind}
use Rattle.eql_values.specs.declared.value.Kind.TheVariants as kind
use Rattle.eql_values.specs.declared.found.Match.{Match}
use Rattle.eql_values.specs.declared.found.Numbered.{Numbered}
use Rattle.eql_values.specs.declared.found.Holder.{Holder}
use Rattle.eql_values.specs.declared.cut.LaneCut.{LaneCut}
use Rattle.eql_values.specs.declared.cut.PipeState.{PipeState}
use Rattle.eql_values.specs.declared.cut.PipeState.TheVariants as state
use Rattle.eql_values.specs.declared.cut.BookCut.{BookCut}
use Rattle.eql_values.specs.Orders.{text_cmp}
use Rattle.eql_values.specs.Adjacent.{by_slot, by_number}
use Rattle.eql_values.specs.OrderKeys.{events_ascend}
use Rattle.eql_values.specs.Matching.{slot_cmp}
use Rattle.eql_cut.specs.declared.cut.CutHead.{CutHead}
use Rattle.eql_cut.specs.declared.cut.Cut.{Cut}
use Rattle.eql_cut.specs.declared.reader.Version.{Version}
use Rattle.eql_cut.specs.declared.reader.Version.TheVariants as version
use Rattle.eql_cut.specs.Formats.{Format, number, both, by, seen_as, only, the_number, option, list, byte, empty, never, case}
use Rattle.eql_cut.specs.Values.{signed_16, order, text, field, lane, items_ascend}

abbrev pub kind_of : ℕ → Kind
kind_of n = if n == 0 then kind.Bool else if n == 1 then kind.Long else if n == 2 then kind.Text else kind.Ip

abbrev pub rank_of : Kind → ℕ
rank_of kind.Bool = 0
rank_of kind.Long = 1
rank_of kind.Text = 2
rank_of kind.Ip = 3

abbrev pub field_kind : Format Kind
field_kind = seen_as kind_of rank_of (only (λ n. nat_lt n 4) byte)

-- the mapping, by name
abbrev pub names_ascend : List (List ℕ × Kind) → Bool
names_ascend names = is_sorted text_cmp names

abbrev pub mapping : Format (List (List ℕ × Kind))
mapping = only names_ascend (list (both text field_kind))

-- the events of a sequence ascend strictly
abbrev pub chain : Version → Format (List OrderKey)
chain v = only events_ascend (list (order v))

abbrev pub match_ : Version → Format Match
match_ v = seen_as (λ (x : List Value × List OrderKey). record { key = x.0; chain = x.1 }) (λ m. (m.key, m.chain)) (both (list (field v)) (chain v))

-- a pending sequence has as many events as its stage says
abbrev pub is_full : Holder → Bool
is_full h = length h.chain == h.stage

abbrev pub holder : Version → Format Holder
holder v =
    only is_full
    (seen_as (λ (x : List Value × (ℕ × List OrderKey)). record { key = x.0; stage = x.1.0; chain = x.1.1 }) (λ h. (h.key, (h.stage, h.chain))) (both (list (field v)) (both (number w32) (chain v))))

abbrev pub holders_ascend : List Holder → Bool
holders_ascend holders = is_sorted slot_cmp (by_slot holders)

abbrev pub holders : Version → Format (List Holder)
holders v = only holders_ascend (list (holder v))

abbrev pub numbered_match : Version → Format Numbered
numbered_match v = seen_as (λ (x : ℕ × Match). record { number = x.0; found = x.1 }) (λ n. (n.number, n.found)) (both (number w64) (match_ v))

abbrev pub numbers_ascend : List Numbered → Bool
numbers_ascend kept = is_sorted nat_cmp (by_number kept)

abbrev pub kept_matches : Version → Format (List Numbered)
kept_matches v = only numbers_ascend (list (numbered_match v))

abbrev pub state_of : ℕ ⊎ (List Numbered ⊎ ⊥) → PipeState
state_of (inl passed) = state.Head passed
state_of (inr (inl kept)) = state.Tail kept
state_of (inr (inr none)) = absurd none

abbrev pub seen_by : PipeState → ℕ ⊎ (List Numbered ⊎ ⊥)
seen_by (state.Head passed) = inl passed
seen_by (state.Tail kept) = inr (inl kept)

abbrev pub pipe_state : Version → Format PipeState
pipe_state v = seen_as state_of seen_by (case 0 (number w32) (case 1 (kept_matches v) never))

abbrev pub book : Version → Format BookCut
book v = seen_as (λ (x : ℕ × (ℕ × List PipeState)). record { found = x.0; listed = x.1.0; pipes = x.1.1 }) (λ b. (b.found, (b.listed, b.pipes))) (both (number w64) (both (number w64) (list (pipe_state v))))

abbrev pub head : Format CutHead
head =
    seen_as (λ (x : List ℕ × (List (List ℕ × Kind) × (Option (List ℕ) × (ℕ × ℕ)))). record { query = x.0; mapping = x.1.0; tie = x.1.1.0; slack = x.1.1.1.0; shards = x.1.1.1.1 })
    (λ h. (h.query, (h.mapping, (h.tie, (h.slack, h.shards))))) (both text (both mapping (both (option text) (both (number w64) (number w32)))))

-- there is a lane for each shard
abbrev pub has_lanes : Cut → Bool
has_lanes c = length c.lanes == c.head.shards

abbrev pub cut : Version → Format Cut
cut v =
    only has_lanes
    (seen_as (λ (x : CutHead × (ℤ × (List LaneCut × (List Holder × BookCut)))). record { head = x.0; mark = x.1.0; lanes = x.1.1.0; holders = x.1.1.1.0; book = x.1.1.1.1 })
    (λ c. (c.head, (c.mark, (c.lanes, (c.holders, c.book))))) (both head (both signed_16 (both (list (lane v)) (both (holders v) (book v))))))

-- the byte of a format
abbrev pub version_of : ℕ → Version
version_of n = if n == 1 then version.One else if n == 2 then version.Two else if n == 3 then version.Three else version.Four

abbrev pub number_of : Version → ℕ
number_of version.One = 1
number_of version.Two = 2
number_of version.Three = 3
number_of version.Four = 4

abbrev pub version_byte : Format Version
version_byte = seen_as version_of number_of (only (λ n. nat_le 1 n && nat_le n 4) byte)

-- a byte that is always the same
abbrev pub exactly : ℕ → Format ℕ
exactly n = only (λ b. b == n) byte

-- the four bytes at the front, and the format
abbrev pub header_of : Version → ℕ × (ℕ × (ℕ × (ℕ × Version)))
header_of v = (0x45, (0x51, (0x4c, (0x43, v))))

abbrev pub header : Format Version
header =
    seen_as (λ (x : ℕ × (ℕ × (ℕ × (ℕ × Version)))). x.1.1.1.1) header_of
    (both (exactly 0x45) (both (exactly 0x51) (both (exactly 0x4c) (both (exactly 0x43) version_byte))))

-- what closes a text of these bytes: in the first three formats nothing, and in the fourth their checksum
abbrev pub closing : Version → List ℕ → Format (Unit {0})
closing version.One bytes = empty
closing version.Two bytes = empty
closing version.Three bytes = empty
closing version.Four bytes = the_number w64 (checksum_of bytes)

-- a cut with its format, up to what closes its text
abbrev pub unclosed : Format (Version × Cut)
unclosed = by header cut

-- a cut with its format
abbrev pub cut_file : Format (Version × Cut)
cut_file = seen_as (λ (x : (Version × Cut) × Unit {0}). x.0) (λ x. (x, tt)) (by unclosed (λ x. closing x.0 (unclosed.text x)))

-- the text of a cut in a format: the bytes at the front and the cut, and what closes them
abbrev pub cut_text : Version → Cut → List ℕ
cut_text v c = cut_file.text (v, c)

-- the orders that no width says: of what a pipe has seen, and of a whole cut
abbrev pub IsOrderedState : PipeState → Type 0
IsOrderedState (state.Head passed) = Unit {0}
IsOrderedState (state.Tail kept) = IsTrue (numbers_ascend kept)

abbrev pub IsOrderedCut : Cut → Type 0
IsOrderedCut c =
    IsTrue (names_ascend c.head.mapping) × All (λ (l : LaneCut). IsTrue (items_ascend l.items)) c.lanes
    × (All (λ (h : Holder). IsTrue (is_full h)) c.holders × IsTrue (holders_ascend c.holders)) × All IsOrderedState c.book.pipes × IsTrue (has_lanes c)
