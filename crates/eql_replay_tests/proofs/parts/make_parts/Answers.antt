use Rattle.std.proofs.Common.{List, length, arith, ap, sym, ◌∙◌}
use Rattle.std.proofs.lemmas.List.{length_push}
use Rattle.eql_values.specs.declared.found.Holder.{Holder}
use Rattle.eql_conductor.specs.Finding.{own_of}
use Rattle.eql_conductor.specs.Openings.{begun_part}
use Rattle.eql_parts.specs.PartSteps.{Rules}
use Rattle.eql_replay_tests.proofs.Begun.{part_more}
use Rattle.eql_replay_tests.proofs.parts.make_parts.Goals as goal

pub loop-p-preserved : goal.loop-p-preserved
loop-p-preserved g c =
    let rules : Rules = record { stages = c.args.sought.stages; span = c.args.sought.span } in
    record {
      begin = part_more rules c.args.mark c.args.holders.now c.loop-p.parts.items c.push.new.self.items c.in_ok-part.part
          c.loop-p.invariant.begin
          (c.in_ok-part.ensures ∙ ap (λ (own : List Holder). record { rules = rules; state = begun_part rules own c.args.mark }) {y = own_of c.args.holders.now (length c.loop-p.parts.items)} (c.in_ok-own.ensures ∙ ap (own_of c.args.holders.now) (sym c.loop-p.invariant.count)))
          c.in_ok-push.ensures.items;
      count = ap length c.in_ok-push.ensures.items ∙ length_push c.loop-p.parts.items c.in_ok-part.part ∙ omega (arith, c.loop-p.invariant.count);
    }
