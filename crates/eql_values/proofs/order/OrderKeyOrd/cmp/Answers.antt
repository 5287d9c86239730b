use Rattle.std.proofs.Common.{◌≡◌, refl, ap, ◌∙◌}
use Rattle.std.specs.Ordering.{ordering_then, nat_cmp, int_cmp}
use Rattle.std.specs.declared.cmp.Ordering.{Ordering}
use Rattle.std.specs.declared.cmp.Ordering.TheVariants.{Less, Equal, Greater}
use Rattle.eql_values.specs.declared.order.OrderKey.{OrderKey}
use Rattle.eql_values.specs.OrderKeys.{tie_cmp, order_cmp}
use Rattle.eql_values.proofs.order.OrderKeyOrd.cmp.Goals as goal

-- the first of three comparisons that differs decides, however they are grouped
regroup : (a b c : Ordering) → ordering_then (ordering_then a b) c ≡ ordering_then a (ordering_then b c)
regroup Less b c = refl
regroup Equal b c = refl
regroup Greater b c = refl

-- five comparisons, one after another
in_turn : (a b c d e p q r s : Ordering) → p ≡ ordering_then a b → q ≡ ordering_then p c → r ≡ ordering_then q d → s ≡ ordering_then r e
    → s ≡ ordering_then a (ordering_then b (ordering_then c (ordering_then d e)))
in_turn a b c d e p q r s hp hq hr hs =
    hs ∙ ap (λ o. ordering_then o e) (hr ∙ ap (λ o. ordering_then o d) (hq ∙ ap (λ o. ordering_then o c) hp)) ∙ regroup (ordering_then (ordering_then a b) c) d e
    ∙ regroup (ordering_then a b) c (ordering_then d e) ∙ regroup a b (ordering_then c (ordering_then d e))

-- the comparisons of the parts of two keys
by_parts : (x y : OrderKey) (a b c d e s : Ordering) → a ≡ int_cmp x.ts y.ts → b ≡ tie_cmp x.tie y.tie → c ≡ nat_cmp x.shard y.shard → d ≡ nat_cmp x.line y.line
    → e ≡ nat_cmp x.at y.at → s ≡ ordering_then a (ordering_then b (ordering_then c (ordering_then d e))) → s ≡ order_cmp x y
by_parts x y a b c d e s ha hb hc hd he hs =
    hs ∙ ap (λ o. ordering_then o (ordering_then b (ordering_then c (ordering_then d e)))) ha
    ∙ ap (λ o. ordering_then (int_cmp x.ts y.ts) o)
    (ap (λ o. ordering_then o (ordering_then c (ordering_then d e))) hb
    ∙ ap (λ o. ordering_then (tie_cmp x.tie y.tie) o)
    (ap (λ o. ordering_then o (ordering_then d e)) hc
    ∙ ap (λ o. ordering_then (nat_cmp x.shard y.shard) o) (ap (λ o. ordering_then o e) hd ∙ ap (λ o. ordering_then (nat_cmp x.line y.line) o) he)))

pub returns : goal.returns
returns c =
    by_parts c.args.self.now c.args.other.now c.cmp.result c.tie_order.result c.cmp-2.result c.cmp-3.result c.cmp-4.result c.then-4.result
    c.cmp.ensures c.tie_order.ensures c.cmp-2.ensures c.cmp-3.ensures c.cmp-4.ensures
    (in_turn c.cmp.result c.tie_order.result c.cmp-2.result c.cmp-3.result c.cmp-4.result c.then.result c.then-2.result c.then-3.result c.then-4.result
    c.then.ensures c.then-2.ensures c.then-3.ensures c.then-4.ensures)
