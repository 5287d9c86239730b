-- The events of a cut of texts have the places of their lines, and these lines were read.
use Rattle.std.proofs.Common.{◌≡◌, eqb, leb, ◌&&◌, Bool, ℕ, zero, suc, ℤ, List, [], ◌∷◌, map, length, Some, sym, subst, arith}
use Rattle.std.specs.Prelude.{All, IsTrue}
use Rattle.std.proofs.lemmas.Bool.{eq-eqb, eqb-true, le-leb, leb-true, and_parts, and_from}
use Rattle.std.proofs.lemmas.List.Elements.{All-weaker}
use Rattle.eql_values.specs.declared.order.OrderKey.{OrderKey}
use Rattle.eql_values.specs.declared.order.Mark.TheVariants.{At}
use Rattle.eql_values.specs.declared.item.Item.{Item}
use Rattle.eql_values.specs.declared.cut.LaneCut.{LaneCut}
use Rattle.eql_values.specs.Accepted.{Reads, accepted_items}
use Rattle.eql_values.specs.Lines.{lines_of, lines_in}
use Rattle.eql_laws.specs.Belows.{IsReading}
use Rattle.eql_laws.specs.Books.{KeptPass}
use Rattle.eql_laws.specs.Counting.{front}
use Rattle.eql_laws.specs.Fitting.{Run}
use Rattle.eql_laws.specs.Lanes.{lanes_from}
use Rattle.eql_laws.specs.Places.{ReadTo, whole, RestIsLate}
use Rattle.eql_laws.specs.Shapes.{EventsStay}
use Rattle.eql_cut.specs.Placing.{orders_in}
use Rattle.eql_cut.specs.Placed.{place_of_line, place_in_texts, ShardHasLine}
use Rattle.eql_cut.specs.PlacedLaws.{EventsHavePlaces, NamedWereRead}
use Rattle.eql_cut.proofs.LinePlaces.{IsEventOf, accepted_stand, in_whole}
use Rattle.eql_cut.proofs.CutEvents.{along, PassesFrom, PassesAt, passes_whole, below_pass, lanes_pass, events_pass}
use Rattle.eql_cut.proofs.Setting.{named_lines}

-- the event has the place of its line in the text
abbrev has_place : List ℕ → OrderKey → Bool
has_place text o = eqb (place_of_line (lines_in text) o.line) o.at

-- the text has its line
abbrev has_line : List ℕ → OrderKey → Bool
has_line text o = leb 1 o.line && leb o.line (length (lines_of text))

place_along : (texts : List (List ℕ)) (shard : ℕ) (o : OrderKey) → IsTrue (along has_place texts shard o) → place_in_texts texts shard o.line ≡ o.at
place_along [] shard o is = cc
place_along (text ∷ texts) zero o is = eqb-true (place_of_line (lines_in text) o.line) o.at is
place_along (text ∷ texts) (suc shard) o is = place_along texts shard o is

line_along : (texts : List (List ℕ)) (shard : ℕ) (o : OrderKey) → IsTrue (along has_line texts shard o) → ShardHasLine texts shard o.line
line_along [] shard o is = cc
line_along (text ∷ texts) zero o is =
    let parts = and_parts (leb 1 o.line) (leb o.line (length (lines_of text))) is in (leb-true 1 o.line parts.0, leb-true o.line (length (lines_of text)) parts.1)
line_along (text ∷ texts) (suc shard) o is = line_along texts shard o is

module _ (reads : Reads) (reading : IsReading reads) (run : Run) where
  placed_whole : (shard : ℕ) (r : ReadTo) → All (PassesAt has_place shard (whole r)) (accepted_items reads (Some run.slack) shard r.first)
  placed_whole shard r =
      All-weaker (IsEventOf shard r.first) (PassesAt has_place shard (whole r))
      (λ item h. (h.shard_is, eq-eqb (place_of_line (lines_in (whole r)) item.order.line) item.order.at (in_whole r.first r.rest item.order.line item.order.at h.stands)))
      (accepted_items reads (Some run.slack) shard r.first) (accepted_stand reads shard r.first reading (Some run.slack))

  placed_text : (shard : ℕ) (text : List ℕ) → All (PassesAt has_place shard text) (accepted_items reads (Some run.slack) shard text)
  placed_text shard text =
      All-weaker (IsEventOf shard text) (PassesAt has_place shard text)
      (λ item h. (h.shard_is, eq-eqb (place_of_line (lines_in text) item.order.line) item.order.at h.stands.place_is))
      (accepted_items reads (Some run.slack) shard text) (accepted_stand reads shard text reading (Some run.slack))

  lined_text : (shard : ℕ) (text : List ℕ) → All (PassesAt has_line shard text) (accepted_items reads (Some run.slack) shard text)
  lined_text shard text =
      All-weaker (IsEventOf shard text) (PassesAt has_line shard text)
      (λ item h. (
        h.shard_is,
        and_from (leb 1 item.order.line) (leb item.order.line (length (lines_of text))) (le-leb 1 item.order.line h.stands.number_from)
            (le-leb item.order.line (length (lines_of text)) (let to = h.stands.number_to in omega (arith, to))),
      ))
      (accepted_items reads (Some run.slack) shard text) (accepted_stand reads shard text reading (Some run.slack))

  -- the test of each lane's events, by whichever text of each shard
  module _ (test : List ℕ → OrderKey → Bool) (text_of : ReadTo → List ℕ) (t : ℤ) (shards : List ReadTo)
      (each : (shard : ℕ) (r : ReadTo) → All (PassesAt test shard (text_of r)) (accepted_items reads (Some run.slack) shard r.first)) where
    abbrev Passes : Item → Type 0
    Passes item = IsTrue (along test (map text_of shards) item.order.shard item.order)

    lanes_are : All (λ (lane : LaneCut). All Passes lane.items) (lanes_from reads (Some run.slack) 0 (At t) shards)
    lanes_are =
        All-weaker (λ (lane : LaneCut). All (λ (item : Item). PassesFrom test 0 (map text_of shards) item.order) lane.items) (λ (lane : LaneCut). All Passes lane.items)
        (λ lane all. All-weaker (λ (item : Item). PassesFrom test 0 (map text_of shards) item.order) Passes (λ item h. passes_whole test (map text_of shards) item.order h) lane.items all)
        (lanes_from reads (Some run.slack) 0 (At t) shards) (lanes_pass test reads (Some run.slack) text_of each (At t) 0 shards)

pub events_have_places : EventsStay → KeptPass → EventsHavePlaces
events_have_places stay keep run reads t shards cut reading is =
    let texts : List (List ℕ) = map whole shards in
    All-weaker (λ (o : OrderKey). IsTrue (along has_place texts o.shard o)) (λ (o : OrderKey). place_in_texts texts o.shard o.line ≡ o.at)
    (λ o passed. place_along texts o.shard o passed) (orders_in cut)
    (events_pass stay keep (λ o. along has_place texts o.shard o) run reads t shards cut is
    (below_pass has_place reads (Some run.slack) (placed_text reads reading run) texts (At t))
    (lanes_are reads reading run has_place whole t shards (placed_whole reads reading run)))

pub named_were_read : EventsStay → KeptPass → RestIsLate → NamedWereRead
named_were_read stay keep late run reads t shards cut reading places safe is shard line named =
    let fronts : List (List ℕ) = map front shards in
    named_lines (ShardHasLine fronts) shard line (orders_in cut)
    (All-weaker (λ (o : OrderKey). IsTrue (along has_line fronts o.shard o)) (λ (o : OrderKey). ShardHasLine fronts o.shard o.line)
    (λ o passed. line_along fronts o.shard o passed) (orders_in cut)
    (events_pass stay keep (λ o. along has_line fronts o.shard o) run reads t shards cut is
    (subst (λ (items : List Item). All (λ (item : Item). IsTrue (along has_line fronts item.order.shard item.order)) items) (sym (late reads (Some run.slack) (At t) shards places safe))
    (below_pass has_line reads (Some run.slack) (lined_text reads reading run) fronts (At t)))
    (lanes_are reads reading run has_line front t shards (λ s r. lined_text reads reading run s r.first)))) named
