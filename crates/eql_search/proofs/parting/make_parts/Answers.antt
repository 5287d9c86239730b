use Rattle.std.proofs.Common.{◌≡◌, ◌+◌, List, sym, ◌∙◌, arith, subst}
use Rattle.eql_values.specs.declared.found.Holder.{Holder}
use Rattle.eql_parts.specs.PartSteps.{PartView, Rules}
use Rattle.eql_conductor.specs.Finding.{own_of}
use Rattle.eql_conductor.specs.Openings.{begun_part}
use Rattle.eql_search.specs.Running.{AreOwnTo, own_part}
use Rattle.eql_search.proofs.Owned.{own_more}
use Rattle.eql_search.proofs.parting.make_parts.Goals as goal

pub loop-number-preserved : goal.loop-number-preserved
loop-number-preserved g c =
    let n = c.loop-number.number in
    let rules : Rules = record { stages = c.args.rules.stages; span = c.args.rules.span } in
    let own_is : c.of-own.result ≡ own_of c.args.holders n = c.of-own.ensures ∙ c.take_list.ensures.taken ∙ c.loop-number.invariant.left n (omega arith) in
    let part_is : c.in_ok-part.part ≡ own_part rules c.args.holders c.args.mark n =
    subst (λ (own : List Holder). let part : PartView = record { rules = rules; state = begun_part rules own c.args.mark } in c.in_ok-part.part ≡ part) own_is (c.in_ok-part.ensures {u = tt}) in
    let turned_is : c.new-turned.result ≡ own_part rules c.args.holders c.args.mark n = c.new-turned.ensures ∙ part_is in
    let more = own_more n rules c.args.holders c.args.mark c.loop-number.parts.items c.new-turned.result c.loop-number.invariant.made turned_is in
    record {
      count = c.take_list.ensures.count ∙ c.loop-number.invariant.count;
      left = λ p le. c.take_list.ensures.others p (λ e. omega (arith, e, le)) ∙ c.loop-number.invariant.left p (omega (arith, le));
      shares = let a = c.loop-number.invariant.shares in let b = c.split_off.ensures.parts_left in omega (arith, a, b);
      nothing = let a = c.loop-number.invariant.nothing in let b = c.split_off.ensures.amount_left in omega (arith, a, b);
      made = subst (AreOwnTo (n + 1) rules c.args.holders c.args.mark) (sym ((c.in_ok-push.ensures {u = tt}).items)) more;
    }
