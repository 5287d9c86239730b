use Rattle.std.proofs.Common.{rules, ◌≡◌, ◌<◌, [], ◌+◌, ◌∷◌, ◌++◌, slice_set, drop, length, sym, ap, ◌∙◌}
use Rattle.std.proofs.lemmas.List.{drop_all}
use Rattle.eql_check.specs.Kinds.{kind_at}
use Rattle.eql_check.specs.Rules.{key_kinds, settled_kinds}
use Rattle.eql_check.proofs.Settling.{all_settled, one_on, next_kinds, stays, settles, adds, settled_from}
use Rattle.eql_check.proofs.keys.settle.Goals.{then-place-len+in_ok-push, else-place-len+then-is_none, else-place-len+else-is_none}
use Rattle.eql_check.proofs.keys.settle.Goals as goal

pub loop-place-preserved : goal.loop-place-preserved
loop-place-preserved c =
    let place = c.loop-place.place in
    let js = c.loop-place.kinds.items in
    let k = c.kind-kind.result in
    let ks = key_kinds (kind_at c.args.mapping.now) (drop (place + 1) c.args.keys.now) in
    let within : place < length c.args.keys.now = search rules in
    let next = next_kinds (kind_at c.args.mapping.now) c.args.keys.now place c.index-keys-place.result k within c.index-keys-place.is c.kind-kind.ensures in
    let before : settled_from place js (k ∷ ks) ≡ settled_kinds c.args.kinds.now.items (key_kinds (kind_at c.args.mapping.now) c.args.keys.now) = ap (settled_from place js) (sym next) ∙ c.loop-place.invariant.1 in
    elim c.if-place-len.branch [
      | then-place-len+in_ok-push w ↦ let step = one_on (js ++ k ∷ []) place ks ∙ adds js place k ks (search rules) ∙ before in search rules
      | else-place-len+then-is_none w ↦ let step = one_on (slice_set js place k) place ks ∙ settles js place k ks w.index.result.now (search rules) (search rules) ∙ before in search rules
      | else-place-len+else-is_none w ↦ let step = one_on js place ks ∙ stays js place k ks w.index.result.now (search rules) (search rules) ∙ before in search rules
    ]

pub returns : goal.returns
returns c =
    let place = c.loop-place.place in
    let js = c.loop-place.kinds.items in
    let none : drop place c.args.keys.now ≡ [] = drop_all place c.args.keys.now (search rules) in
    sym (all_settled js place) ∙ ap (λ keys. settled_from place js (key_kinds (kind_at c.args.mapping.now) keys)) (sym none)
    ∙ c.loop-place.invariant.1
