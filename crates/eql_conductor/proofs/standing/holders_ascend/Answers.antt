use Rattle.std.proofs.Common.{All, List, take, arith, sym, subst, ◌∙◌, ◌≡◌, ◌+◌}
use Rattle.std.proofs.lemmas.List.{take_all}
use Rattle.std.proofs.lemmas.List.Elements.{All-more}
use Rattle.eql_values.specs.declared.found.Holder.{Holder}
use Rattle.eql_conductor.specs.Snaps.{HolderAscends}
use Rattle.eql_conductor.proofs.standing.holders_ascend.Goals as goal

pub loop-holder-preserved : goal.loop-holder-preserved
loop-holder-preserved c =
    let read = c.deref-holder-items.result.now in
    let same : read ≡ c.args.holders.now = c.deref-holder-items.ensures.value ∙ c.items.ensures in
    let i = c.loop-holder.holder-index in
    let holder = c.holder-item.result in
    subst (λ (l : List Holder). All HolderAscends (take (i + 1) l)) same
    (All-more HolderAscends read i holder c.loop-holder-test.true (subst (λ (l : List Holder). All HolderAscends (take i l)) (sym same) c.loop-holder.invariant)
    (subst HolderAscends c.holder-item.is c.ascends.ensures))

pub returns : goal.returns
returns c =
    let read = c.deref-holder-items.result.now in
    let same : read ≡ c.args.holders.now = c.deref-holder-items.ensures.value ∙ c.items.ensures in
    let i = c.loop-holder.holder-index in
    let over = c.loop-holder-test.false in
    subst (All HolderAscends) same
    (subst (All HolderAscends) (take_all i read (omega (arith, over))) (subst (λ (l : List Holder). All HolderAscends (take i l)) (sym same) c.loop-holder.invariant))
