use Rattle.std.proofs.Common.{◌≡◌, true, false, None, refl, ◌∙◌}
use Rattle.eql_lines.specs.Reach.{leads}
use Rattle.eql_lines.proofs.Under.{all_looked, goes_by, leads_none, leads_some, looked_from, looked_on, looked_past, stays_out}
use Rattle.eql_lines.proofs.paths.Paths.under.Goals as goal

pub loop-place-init : goal.loop-place-init
loop-place-init c =
    looked_from c.args.self.now.paths.items c.args.active c.args.name.now c.args.active.places c.none-places.result 0 (λ i e. e)
    (stays_out c.args.self.now.paths.items c.args.active c.args.name.now) c.none-places.ensures.nothing

pub loop-place-preserved-in_default-rest : goal.loop-place-preserved-in_default-rest
loop-place-preserved-in_default-rest c =
    let paths = c.args.self.now.paths.items in
    let f = c.in-Some.ensures.first in
    let l = c.loop-place in
    let p = c.in-Some.place in
    looked_past paths c.args.active c.args.name.now l.left c.take_first.new.self l.places l.at p l.invariant (record { was = f.1; gone = f.2; others = f.3 })
    (goes_by paths c.args.active c.args.name.now p None (l.invariant.within p f.1) c.in_default-rest.ensures)

pub loop-place-preserved-then-leads : goal.loop-place-preserved-then-leads
loop-place-preserved-then-leads c =
    let paths = c.args.self.now.paths.items in
    let name = c.args.name.now in
    let f = c.in-Some.ensures.first in
    let l = c.loop-place in
    let p = c.in-Some.place in
    let r = c.in-Some-rest.rest.now in
    let led : leads name r ≡ true = cc in
    looked_on paths c.args.active name l.left c.take_first.new.self l.places l.at p l.invariant (record { was = f.1; gone = f.2; others = f.3 })
    c.add.new.self _ c.add.ensures.same c.add.ensures.others
    (goes_by paths c.args.active name p _ (l.invariant.within p f.1) c.in-Some-rest.ensures ∙ leads_some name r led)

pub loop-place-preserved : goal.loop-place-preserved
loop-place-preserved c =
    let paths = c.args.self.now.paths.items in
    let name = c.args.name.now in
    let f = c.in-Some.ensures.first in
    let l = c.loop-place in
    let p = c.in-Some.place in
    let r = c.in-Some-rest.rest.now in
    let unled : leads name r ≡ false = cc in
    looked_past paths c.args.active name l.left c.take_first.new.self l.places l.at p l.invariant (record { was = f.1; gone = f.2; others = f.3 })
    (goes_by paths c.args.active name p _ (l.invariant.within p f.1) c.in-Some-rest.ensures ∙ leads_none name r unled)

pub returns : goal.returns
returns c = all_looked c.args.self.now.paths.items c.args.active c.args.name.now c.loop-place.left c.loop-place.places c.loop-place.at (c.in_default.ensures.none refl) c.loop-place.invariant
