use Rattle.std.proofs.Common.{◌≡◌, ◌≢◌, ℕ, ◌∷◌, ◌++◌, [], length, sym, ap, ap₂, ◌∙◌, option_and_then, is_some}
use Rattle.eql_lines.specs.Reach.{behind}
use Rattle.eql_lines.specs.Paths.{rest_at}
use Rattle.eql_lines.specs.Steps.{active_at, row_at, step_in}
use Rattle.eql_lines.specs.declared.steps.Step.{Step}
use Rattle.eql_lines.specs.declared.steps.Table.{Table}
use Rattle.eql_lines.proofs.Stepping.{added_table, added_grown, added_step}
use Rattle.eql_lines.proofs.steps.Table.add.Goals as goal

pub returns : goal.returns
returns c =
    let paths = c.args.paths.now.paths.items in
    let old = c.args.self.now in
    let new : Table = record { stops = c.stop.new.self.stops; rows = c.put.new.rows } in
    let s : Step = record { from = c.args.from; name = c.in_ok-from_slice.field-0; to = c.in_ok-to.to } in
    let place = c.row_number.result in
    let made = c.in_ok-to.ensures in
    let rows = made.rows in
    let put = c.in_ok-put.ensures in
    let here : row_at new.rows.items place ≡ row_at old.rows.items place ++ s ∷ [] = put.here ∙ ap (λ r. row_at r.items place ++ s ∷ []) rows in
    let others : (j : ℕ) → j ≢ place → row_at new.rows.items j ≡ row_at old.rows.items j = λ j e. put.others j e ∙ ap (λ r. row_at r.items j) rows in
    let same = put.length ∙ ap (λ r. length r.items) rows in
    let named = c.in_ok-from_slice.ensures.items in
    let goes : (i : ℕ) → rest_at paths c.under.result i ≡ option_and_then (behind s.name.items) (rest_at paths (active_at old.stops.items s.from) i) = λ i. c.under.ensures i ∙ ap₂ (λ n a. option_and_then (behind n) (rest_at paths a i)) (sym named) c.active.ensures in
    record {
      table = added_table paths old new c.under.result s place c.requires.table c.requires.from made.stop.0 made.stop.1 made.more made.same made.few here others same goes;
      grown = added_grown paths old new c.under.result s place c.requires.table c.requires.from made.stop.0 made.stop.1 made.more made.same made.few here others same goes;
      step = ap₂ (λ p n. is_some (step_in (row_at new.rows.items p) c.args.from n)) (sym c.row_number.ensures.0) (sym named)
          ∙ added_step paths old new c.under.result s place c.requires.table c.requires.from made.stop.0 made.stop.1 made.more made.same made.few here others same goes;
    }
