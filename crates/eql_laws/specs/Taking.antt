-- Laws of what shards hold back and hand out from mark to mark.
use Rattle.std.specs.Prelude.{◌≡◌, ◌+◌, ℕ, ℤ, false, not, List, [], ◌∷◌, ◌++◌, Option, filter, All, IsTrue}
use Rattle.std.specs.List.{flat_map}
use Rattle.eql_values.specs.declared.item.Item.{Item}
use Rattle.eql_values.specs.declared.order.Mark.{Mark}
use Rattle.eql_values.specs.Accepted.{Reads, readable, accepted_items, sorted_items}
use Rattle.eql_values.specs.Lines.{lines_in}
use Rattle.eql_values.specs.Marks.{is_below, low_of}
use Rattle.eql_values.specs.Ascending.{Ascend}
use Rattle.eql_laws.specs.Apart.{AllAreApart}
use Rattle.eql_laws.specs.Belows.{IsReading, from_to, between}
use Rattle.eql_laws.specs.Cuts.{held_back}
use Rattle.eql_laws.specs.Lateness.{IsAtMost, best_of, accepted_by}
use Rattle.eql_laws.specs.Places.{ReadTo, IsPlace, whole, low_at, is_line_end, lines_after}

-- what each shard hands out from one mark on and below another, in order, where the first is this shard
abbrev pub handed_out : Reads → Option ℤ → ℕ → List (List ℕ) → (from to : Mark) → List (List Item)
handed_out reads slack shard [] from to = []
handed_out reads slack shard (text ∷ texts) from to =
    sorted_items (from_to from to (accepted_items reads slack shard text)) ∷ handed_out reads slack (shard + 1) texts from to

-- what all shards hand out, put in order, is what lies between the marks
abbrev pub ShardsMakeBetween : Type 0
ShardsMakeBetween = (reads : Reads) (slack : Option ℤ) (texts : List (List ℕ)) (from to : Mark)
    → sorted_items (flat_map (λ (items : List Item). items) (handed_out reads slack 0 texts from to)) ≡ between reads slack texts from to

-- of what a shard holds back at one mark it hands out what is below a greater one, and holds back the rest
pub record Takes (reads : Reads) (slack : Option ℤ) (shard : ℕ) (text : List ℕ) (from to : Mark) : Type 0 where
  pub handed : filter (is_below to) (held_back reads slack shard text from) ≡ sorted_items (from_to from to (accepted_items reads slack shard text))
  pub held : filter (λ item. not (is_below to item)) (held_back reads slack shard text from) ≡ held_back reads slack shard text to

abbrev pub TakeSplits : Type 0
TakeSplits = (reads : Reads) (slack : Option ℤ) (shard : ℕ) (text : List ℕ) (from to : Mark) → IsAtMost from to → Takes reads slack shard text from to

-- what a shard hands out up to a mark that is at most its low is the same by the text before its place as by the whole text
abbrev pub RestIsLateBetween : Type 0
RestIsLateBetween = (reads : Reads) (slack : Option ℤ) (shard : ℕ) (from to : Mark) (r : ReadTo) → IsPlace r → IsAtMost to (low_at reads slack shard r)
    → from_to from to (accepted_items reads slack shard (whole r)) ≡ from_to from to (accepted_items reads slack shard r.first)

-- with more text a shard holds back what it held back, and what more was accepted, at a mark that is at most its low before
abbrev pub HeldBackGrows : Type 0
HeldBackGrows = (reads : Reads) (slack : Option ℤ) (shard : ℕ) (a b : List ℕ) (mark : Mark) → IsTrue (is_line_end a b)
    → IsAtMost mark (low_of false slack (best_of (readable reads shard (lines_in a))))
    → held_back reads slack shard (a ++ b) mark
    ≡ sorted_items (held_back reads slack shard a mark ++ accepted_by slack (best_of (readable reads shard (lines_in a))) (readable reads shard (lines_after a b)))

-- the lists that shards hand out may be merged: each ascends, and no place is in two of them
pub record HandsOutApart (reads : Reads) (slack : Option ℤ) (shard : ℕ) (texts : List (List ℕ)) (from to : Mark) : Type 0 where
  pub ascend : All Ascend (handed_out reads slack shard texts from to)
  pub apart : AllAreApart (handed_out reads slack shard texts from to)

abbrev pub HandedOutMerges : Type 0
HandedOutMerges = (reads : Reads) (slack : Option ℤ) (shard : ℕ) (texts : List (List ℕ)) (from to : Mark) → IsReading reads
    → HandsOutApart reads slack shard texts from to
