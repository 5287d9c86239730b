use Rattle.std.proofs.Common.{◌≡◌, ◌+◌, ◌-◌, ◌++◌, ◌⊎◌, None, length, take, drop, length-drop, refl, sym, ap, ◌∙◌, subst, arith}
use Rattle.std.specs.List.{slice_get}
use Rattle.eql_lane.specs.Buffers.{IsOneLine}
use Rattle.eql_lane.specs.Noting.{Noted, NotesOf}
use Rattle.eql_lane.proofs.NoteLemmas.{pass_line, pass_rest}
use Rattle.eql_lane.proofs.FeedLines.{behind}
use Rattle.eql_lane.proofs.notes.Notes.pass.Goals as goal

pub loop-end-preserved : goal.loop-end-preserved
loop-end-preserved c =
    let inv = c.loop-end.invariant in
    let feed = c.in-Some.ensures.found in
    record {
      within =
          let a = ap length (behind c.loop-end.from c.args.bytes.now c.args.bytes.now refl) in
          let b = length-drop c.loop-end.from c.args.bytes.now in
          let d = feed.within in omega (arith, a, b, d, inv.within);
      noted = λ front is. subst (NotesOf (front ++ take (c.loop-end.from + (c.in-Some.end + 1)) c.args.bytes.now)) (sym c.end_line.ensures)
          (pass_line c.loop-end.self front c.args.bytes.now c.loop-end.from c.in-Some.end feed (inv.noted front is));
      wanted = ap (λ (x : Noted). x.wanted) c.end_line.ensures ∙ inv.wanted;
      passed = let a = ap (λ (x : Noted). x.passed) c.end_line.ensures in omega (arith, a, inv.passed);
    }

pub returns-clause-noted : goal.returns-clause-noted
returns-clause-noted c = λ front is.
    let inv = c.loop-end.invariant in
    let x : Noted = record { wanted = c.self.inside.wanted.items; line = c.self.inside.line; at = c.self.inside.at; passed = c.self.inside.passed; places = c.self.inside.places.items } in
    let same : x ≡ c.loop-end.self = c.self.view_is in
    pass_rest x front c.args.bytes.now c.loop-end.from (c.self.inside.passed + (length c.args.bytes.now - c.loop-end.from)) inv.within refl
    (subst (λ (y : Noted). IsOneLine (take (length c.args.bytes.now - c.loop-end.from) (drop c.loop-end.from c.args.bytes.now)) ⊎ (slice_get y.wanted (length y.places) ≡ None)) (sym same) (c.in_default.ensures.none refl))
    (subst (NotesOf (front ++ take c.loop-end.from c.args.bytes.now)) (sym same) (inv.noted front is))
