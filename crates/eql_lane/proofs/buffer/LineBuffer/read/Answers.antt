use Rattle.std.proofs.Common.{◌≡◌, List, ℕ, Some, Bool, true, false, take, sym, ap, ◌∙◌}
use Rattle.std.specs.Prelude.{◌&&◌}
use Rattle.eql_values.specs.Reading.{is_blank}
use Rattle.eql_lane.specs.Buffers.{Pending}
use Rattle.eql_lane.proofs.BufferLemmas.{long_read}
use Rattle.eql_lane.proofs.buffer.LineBuffer.read.Goals.{else-line-via-then-line+else-are_blank, else-line-via-else-line}
use Rattle.eql_lane.proofs.buffer.LineBuffer.read.Goals as goal

pub returns-then-are_blank-clause-got : goal.returns-then-are_blank-clause-got
returns-then-are_blank-clause-got g c =
    let long : c.args.self.now.long ≡ Some c.in-Some.line = sym (ap (λ (p : Pending). p.long) c.self.view_is) ∙ c.in-Some.is in
    let rest : is_blank (take c.args.end c.args.self.now.unread) ≡ true = ap (λ (l : List ℕ). is_blank (take c.args.end l)) (sym c.rest.ensures) ∙ sym c.are_blank.ensures ∙ c.if-are_blank.true in
    λ front is. sym (long_read (g.L.LineReader.read_of c.args.reader.now c.args.shard c.args.number) (g.met.L.LineReader.reads_long c.args.reader.now c.args.shard c.args.number)
    c.args.self.now.long c.in-Some.line long front (take c.args.end c.args.self.now.unread) is true (λ i. c.if-line.true i && rest i))

pub returns-else-line-clause-got : goal.returns-else-line-clause-got
returns-else-line-clause-got g c =
    let long : c.args.self.now.long ≡ Some c.in-Some.line = sym (ap (λ (p : Pending). p.long) c.self.view_is) ∙ c.in-Some.is in
    let not_both : (c.in-Some.line.blank && is_blank (take c.args.end c.args.self.now.unread)) ≡ false = elim c.else-line.branch [
      | else-line-via-then-line+else-are_blank w ↦
          λ i. w.if-line.true i && (ap (λ (l : List ℕ). is_blank (take c.args.end l)) (sym c.rest.ensures) ∙ sym w.are_blank.ensures ∙ w.if-are_blank.false) i
      | else-line-via-else-line w ↦ ap (λ (b : Bool). b && is_blank (take c.args.end c.args.self.now.unread)) w.if-line.false
    ] in
    λ front is. sym (long_read (g.L.LineReader.read_of c.args.reader.now c.args.shard c.args.number) (g.met.L.LineReader.reads_long c.args.reader.now c.args.shard c.args.number)
    c.args.self.now.long c.in-Some.line long front (take c.args.end c.args.self.now.unread) is false not_both)
