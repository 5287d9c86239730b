-- What became of the lines of a text is no more than all lines, and a front has no more of them.
use Rattle.std.proofs.Common.{◌≡◌, ◌↔◌, ◌≤◌, ℕ, suc, ◌+◌, ℤ, Bool, true, false, cond, List, [], ◌∷◌, ◌++◌, map, length, Option, None, refl, arith, length-append}
use Rattle.std.specs.Prelude.{◌==◌}
use Rattle.std.specs.List.{cons_option}
use Rattle.std.proofs.lemmas.List.Elements.{All-nil, All-cons, All-head, All-tail}
use Rattle.eql_values.specs.declared.item.Item.{Item}
use Rattle.eql_values.specs.declared.cut.FirstBad.{FirstBad}
use Rattle.eql_values.specs.declared.reader.LineGot.{LineGot}
use Rattle.eql_values.specs.declared.reader.LineGot.TheVariants as got
use Rattle.eql_values.specs.Accepted.{Reads, event_at, readable, is_late, accepted_after}
use Rattle.eql_values.specs.Lines.{Line, begin_with, lines_of, numbered_lines, lines_in}
use Rattle.eql_laws.specs.Counting.{bad_at, rejections, late_after, first_in, counts_of, CountsStand, IsShardText, front, FrontsAreWithin, FrontsFit}
use Rattle.eql_laws.specs.Places.{ReadTo, whole}

one_more : (g : LineGot) (line : Line) (events : List Item) (bads : List FirstBad) (n : ℕ) → length events + length bads ≤ n
    → length (cons_option (event_at line.at g) events) + length (cons_option (bad_at line.number g) bads) ≤ suc n
one_more got.Blank line events bads n h = omega (arith, h)
one_more (got.Item item) line events bads n h = omega (arith, h)
one_more (got.Bad reason) line events bads n h = omega (arith, h)

-- no line is both readable and rejected
read_or_rejected : (reads : Reads) (shard number at : ℕ) (lines : List (List ℕ))
    → length (readable reads shard (numbered_lines number at lines)) + length (rejections reads shard (numbered_lines number at lines)) ≤ length lines
read_or_rejected reads shard number at [] = omega arith
read_or_rejected reads shard number at (bytes ∷ lines) =
    one_more (reads shard number bytes) (record { number = number; at = at; bytes = bytes })
    (readable reads shard (numbered_lines (number + 1) (at + length bytes + 1) lines)) (rejections reads shard (numbered_lines (number + 1) (at + length bytes + 1) lines))
    (length lines) (read_or_rejected reads shard (number + 1) (at + length bytes + 1) lines)

-- each event is accepted or late
of_two : (slack : Option ℤ) (earlier items : List Item) → length items ≡ length (accepted_after slack earlier items) + length (late_after slack earlier items)
of_two slack earlier [] = refl
of_two slack earlier (item ∷ items) =
    one (is_late slack earlier item) (accepted_after slack (item ∷ earlier) items) (late_after slack (item ∷ earlier) items) (length items) (of_two slack (item ∷ earlier) items)
  where
    one : (b : Bool) (xs ys : List Item) (n : ℕ) → n ≡ length xs + length ys → suc n ≡ length (cond b xs (item ∷ xs)) + length (cond b (item ∷ ys) ys)
    one true xs ys n e = omega (arith, e)
    one false xs ys n e = omega (arith, e)

none_first : (bads : List FirstBad) → (first_in bads ≡ None) ↔ (length bads ≡ 0)
none_first [] = (λ e. refl, λ e. refl)
none_first (bad ∷ bads) = (λ e. cc, λ e. absurd (omega (arith, e)))

pub counts_of_stand : (reads : Reads) (slack : Option ℤ) (shard : ℕ) (text : List ℕ) → CountsStand (counts_of reads slack shard text)
counts_of_stand reads slack shard text = record {
  fewer =
      let lines = read_or_rejected reads shard 1 0 (lines_of text) in let two = of_two slack [] (readable reads shard (lines_in text)) in omega (arith, lines, two);
  first_bad = none_first (rejections reads shard (lines_in text));
}

more_begun : (byte : ℕ) (c : Bool) (xs ys : List (List ℕ)) → length xs ≤ length ys
    → length (cond c ([] ∷ xs) (begin_with byte xs)) ≤ length (cond c ([] ∷ ys) (begin_with byte ys))
more_begun byte true xs ys h = omega (arith, h)
more_begun byte false [] [] h = omega arith
more_begun byte false [] (y ∷ ys) h = omega arith
more_begun byte false (x ∷ xs) [] h = omega (arith, h)
more_begun byte false (x ∷ xs) (y ∷ ys) h = omega (arith, h)

more_lines : (a b : List ℕ) → length (lines_of a) ≤ length (lines_of (a ++ b))
more_lines [] b = omega arith
more_lines (byte ∷ a) b = more_begun byte (byte == 10) (lines_of a) (lines_of (a ++ b)) (more_lines a b)

one_begun : (byte : ℕ) (c : Bool) (lines : List (List ℕ)) (n : ℕ) → length lines ≤ n → length (cond c ([] ∷ lines) (begin_with byte lines)) ≤ suc n
one_begun byte true lines n h = omega (arith, h)
one_begun byte false [] n h = omega arith
one_begun byte false (line ∷ lines) n h = omega (arith, h)

pub lines_by_bytes : (text : List ℕ) → length (lines_of text) ≤ length text
lines_by_bytes [] = omega arith
lines_by_bytes (byte ∷ bytes) = one_begun byte (byte == 10) (lines_of bytes) (length bytes) (lines_by_bytes bytes)

pub fronts_within : FrontsAreWithin
fronts_within r = record {
  lines = more_lines r.first r.rest;
  bytes = (let whole = length-append r.first r.rest in omega (arith, whole));
  by_bytes = lines_by_bytes r.first;
}

front_fits : (r : ReadTo) → IsShardText (whole r) → IsShardText r.first
front_fits r h =
    let within = fronts_within r in let a = within.lines in let b = within.bytes in let c = h.lines in let d = h.bytes in
    record { lines = omega (arith, a, c); bytes = omega (arith, b, d) }

pub fronts_fit : FrontsFit
fronts_fit [] h = All-nil IsShardText
fronts_fit (r ∷ shards) h =
    All-cons IsShardText r.first (map front shards) (front_fits r (All-head IsShardText (whole r) (map whole shards) h))
    (fronts_fit shards (All-tail IsShardText (whole r) (map whole shards) h))
