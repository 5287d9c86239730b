use Rattle.std.proofs.Common.{◌≡◌, ℕ, [], ◌∷◌, length, ap, sym, ◌∙◌, refl, arith, rules, get_or, take, take_all}
use Rattle.std.proofs.lemmas.Grind.{take_at_read}
use Rattle.eql_digest.specs.Digests.{turned, mixed, value_of}
use Rattle.eql_digest.proofs.Taking.{mixed_append}
use Rattle.eql_digest.proofs.digest.Digest.value.Goals as goal

pub loop-lane-init : goal.loop-lane-init
unfolding mixed
loop-lane-init c = refl

pub loop-lane-preserved : goal.loop-lane-preserved
unfolding mixed
loop-lane-preserved c =
    let lanes = c.args.self.now.lanes in
    let i = c.loop-lane.lane-index in
    let count : length lanes ≡ 8 = search rules in
    c.turned-value.ensures
    ∙ ap (λ (x : ℕ). turned x (get_or lanes i 0)) c.loop-lane.invariant
    ∙ sym (mixed_append 0 (take i lanes) (get_or lanes i 0 ∷ []))
    ∙ ap (mixed 0) (sym (take_at_read lanes i 0 (omega arith)).1)

pub returns : goal.returns
unfolding mixed
returns c = λ bytes is.
    let self = c.args.self.now in
    let count : length self.lanes ≡ 8 = search rules in
    let lanes : c.loop-lane.value ≡ mixed 0 self.lanes = c.loop-lane.invariant ∙ ap (mixed 0) (take_all c.loop-lane.lane-index self.lanes (omega arith)) in
    c.turned-2.ensures
    ∙ ap (λ (x : ℕ). turned x self.length) (c.turned.ensures ∙ ap (λ (x : ℕ). turned x self.word) lanes)
    ∙ sym (mixed_append 0 self.lanes (self.word ∷ self.length ∷ []))
    ∙ ap value_of is
