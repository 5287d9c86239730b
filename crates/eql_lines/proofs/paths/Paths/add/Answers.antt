use Rattle.std.proofs.Common.{◌≡◌, ◌<◌, length, Some, slice_get, refl, sym, ap, ◌∙◌, arith}
use Rattle.std.proofs.lemmas.List.{length-set}
use Rattle.std.proofs.lemmas.Option.{slice_get_read}
use Rattle.eql_lines.specs.Reach.{over, at_end}
use Rattle.eql_lines.proofs.Under.{left_of}
use Rattle.eql_lines.proofs.Adding.{all_added, added_past, added_on, place_within, not_end, is_end}
use Rattle.eql_lines.proofs.paths.Paths.add.Goals as goal

pub returns-clause-gains : goal.returns-clause-gains
returns-clause-gains c = λ s e. all_added c.args.self.now.paths.items c.args.active s c.args.slots.now.items c.loop-place.slots.items c.loop-place.left (c.in_default.ensures.none refl) (c.loop-place.invariant.1 s e)

pub index_mut-requires : goal.index_mut-requires
index_mut-requires c =
    let inside = place_within c.args.self.now.paths.items c.args.active.at c.in-Some.place c.in-Some-rest.rest.now c.in-Some-rest.ensures in
    omega (arith, inside, c.requires, c.loop-place.invariant.0)

pub loop-place-preserved-in_default-rest : goal.loop-place-preserved-in_default-rest
loop-place-preserved-in_default-rest c =
    let f = c.in-Some.ensures.first in
    let l = c.loop-place in (
      l.invariant.0,
      λ s e. added_past c.args.self.now.paths.items c.args.active s c.args.slots.now.items l.slots.items l.left c.take_first.new.self c.in-Some.place (l.invariant.1 s e) (record { was = f.1; gone = f.2; others = f.3 })
          (ap (over (λ path. at_end path s)) (sym c.in_default-rest.ensures)),
    )

pub loop-place-preserved : goal.loop-place-preserved
loop-place-preserved c =
    let f = c.in-Some.ensures.first in
    let l = c.loop-place in
    let r = c.in-Some-rest.rest.now in (
      l.invariant.0,
      λ s e. added_past c.args.self.now.paths.items c.args.active s c.args.slots.now.items l.slots.items l.left c.take_first.new.self c.in-Some.place (l.invariant.1 s e) (record { was = f.1; gone = f.2; others = f.3 })
          (not_end r (left_of c.args.self.now.paths.items c.args.active.at c.in-Some.place) s c.in-Some-rest.ensures (grind arith)),
    )

pub loop-place-preserved-in-Continue-1 : goal.loop-place-preserved-in-Continue-1
loop-place-preserved-in-Continue-1 c =
    let f = c.in-Some.ensures.first in
    let l = c.loop-place in
    let p = c.in-Some.place in
    let r = c.in-Some-rest.rest.now in
    let y = c.index_mut.result.now in
    let inside = place_within c.args.self.now.paths.items c.args.active.at p r c.in-Some-rest.ensures in
    let here : p < length l.slots.items = omega (arith, inside, c.requires, l.invariant.0) in
    let got : slice_get l.slots.items p ≡ Some y = slice_get_read l.slots.items (length l.slots.items) p y refl here (grind (arith, c.index_mut.ensures.value)) in (
      length-set l.slots.items p c.add.new.self ∙ l.invariant.0,
      λ s e. added_on c.args.self.now.paths.items c.args.active s c.args.slots.now.items l.slots.items l.left c.take_first.new.self p (l.invariant.1 s e) (record { was = f.1; gone = f.2; others = f.3 })
          c.add.new.self y got (c.in_ok-add.ensures s e) (is_end r (left_of c.args.self.now.paths.items c.args.active.at p) c.in-Some-rest.ensures (grind arith)),
    )
