use Rattle.std.proofs.Common.{◌≡◌, ◌<◌, ◌∙◌, sym, ap, arith, Option, Some}
use Rattle.eql_lane.specs.declared.buffer.LongLine.{LongLine}
use Rattle.eql_lane.specs.Buffers.{Pending, seen_more, dropped_part, byte_count}
use Rattle.eql_lane.proofs.BufferLemmas.{shortened}
use Rattle.eql_lane.proofs.Digesting.{none_added}
use Rattle.eql_lane.proofs.buffer.LineBuffer.shorten.Goals as goal

pub returns-clause-stands : goal.returns-clause-stands
returns-clause-stands c =
    let b : Pending = c.args.self.now in
    let line : c.goes_on-line.result ≡ seen_more (dropped_part b) b.unread = c.goes_on-line.ensures.line ∙ (λ i. seen_more (c.dropped.ensures.line i) (c.rest.ensures i)) in
    let many : 1048576 < byte_count b = omega (arith, c.count.ensures, c.if-count-le-LINE_BYTES.false) in
    shortened b _ c.requires.one many (ap (λ (l : LongLine). let o : Option LongLine = Some l in o) line) c.clear.ensures.items
    (sym (none_added c.digest-self-inside.result) ∙ c.digest-self-inside.ensures.digest)

pub returns-clause-digest : goal.returns-clause-digest
returns-clause-digest c = sym (none_added c.digest-self-inside.result) ∙ c.digest-self-inside.ensures.digest
