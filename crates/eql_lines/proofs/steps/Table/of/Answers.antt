use Rattle.std.proofs.Common.{ap, ◌∙◌, arith}
use Rattle.eql_lines.specs.Paths.{rest_at}
use Rattle.eql_lines.proofs.Stepping.{open_next}
use Rattle.eql_lines.proofs.steps.Table.of.Goals as goal

pub loop-from-preserved : goal.loop-from-preserved
loop-from-preserved c =
    let paths = c.args.paths.now.paths.items in
    let l = c.loop-from in
    let done = c.in_ok-open.ensures in (
      done.table,
      omega (arith, l.invariant.1, done.grown.more, c.loop-from-test.true, c.len.ensures),
      open_next paths l.table c.open.new.self l.from done.grown (grind (arith, c.loop-from-test.true, c.len.ensures)) done.opened l.invariant.2,
      omega (arith, l.invariant.3, done.grown.more),
      λ i. ap (λ a. rest_at paths a i) (done.grown.same 0 l.invariant.3) ∙ l.invariant.4 i,
    )
