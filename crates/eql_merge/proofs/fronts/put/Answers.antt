use Rattle.std.proofs.Common.{◌++◌, List, sym, subst}
use Rattle.std.specs.Prelude.{IsPermutation}
use Rattle.eql_laws.specs.Apart.{joined_lists}
use Rattle.eql_merge.proofs.Gathered.{put_among}
use Rattle.eql_merge.proofs.fronts.put.Goals as goal

pub returns-clause-all : goal.returns-clause-all
returns-clause-all g c =
    let old = c.args.fronts.now.items in
    subst (λ (l : List (List g.row.T.Denot)). IsPermutation (c.args.run ++ joined_lists old) (joined_lists l)) (sym {A = List (List g.row.T.Denot)} (c.in_ok-insert.ensures {u = tt}).items)
    (put_among c.args.run old c.partition_point-place.result)
