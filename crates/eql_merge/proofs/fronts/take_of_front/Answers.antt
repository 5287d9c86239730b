use Rattle.std.proofs.Common.{◌∙◌, Some, sym}
use Rattle.eql_merge.proofs.Gathered.{fewer_taken, one_taken}
use Rattle.eql_merge.proofs.fronts.take_of_front.Goals as goal

pub returns-in_ok-put-in-Some-clause-all : goal.returns-in_ok-put-in-Some-clause-all
returns-in_ok-put-in-Some-clause-all g c =
    one_taken (Some c.in-Some.first) c.args.front c.take_first.new.self c.args.fronts.now.items c.put.new.fronts.items (sym c.front.view_is ∙ c.in-Some.ensures.items)
    (c.in_ok-put-in-Some.ensures {u = tt}).all

pub returns-in_ok-put-in-Some-clause-fewer : goal.returns-in_ok-put-in-Some-clause-fewer
returns-in_ok-put-in-Some-clause-fewer g c =
    let put = c.in_ok-put-in-Some.ensures {u = tt} in
    fewer_taken c.in-Some.first c.args.front c.take_first.new.self c.args.fronts.now.items c.put.new.fronts.items (sym c.front.view_is ∙ c.in-Some.ensures.items) put.all put.few
