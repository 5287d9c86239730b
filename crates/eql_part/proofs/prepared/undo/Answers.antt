use Rattle.std.proofs.Common.{◌≡◌, ◌++◌, List, map, arith}
use Rattle.std.proofs.lemmas.List.{nil_from_length}
use Rattle.eql_part.specs.Links.{Listed}
use Rattle.eql_part.specs.Routed.{tickets_in}
use Rattle.eql_part.proofs.Linking.{ticket}
use Rattle.eql_part.proofs.Routing.{last_taken, last_given, none_taken}
use Rattle.eql_part.proofs.prepared.undo.Goals as goal

pub unlist-requires : goal.unlist-requires
unlist-requires c =
    let there = c.loop-last.invariant.there in
    let split = last_taken c.loop-last.list there.0 there.1 c.loop-last.prepared.items c.pop.new.self.items c.in-Some.last c.in-Some.ensures.items there.2 there.3 in
    (there.0 ++ split.0, split.1, split.2, split.4)

pub loop-last-preserved-in-Some : goal.loop-last-preserved-in-Some
loop-last-preserved-in-Some c =
    let there = c.loop-last.invariant.there in
    let given = λ (base begun : List Listed) (is : c.loop-last.list ≡ base ++ begun) (tickets : map ticket begun ≡ tickets_in c.loop-last.prepared.items).
    last_given c.loop-last.list c.unlist.new.list base begun c.loop-last.prepared.items c.pop.new.self.items c.in-Some.last c.unlist.ensures c.in-Some.ensures.items is tickets in
    let part = given there.0 there.1 there.2 there.3 in
    record {
      there = (there.0, part.0, part.1, part.2);
      base = λ base begun is tickets. let left = c.loop-last.invariant.base base begun is tickets in given base left.0 left.1 left.2;
    }

pub loop-last-preserved : goal.loop-last-preserved
loop-last-preserved c =
    let there = c.loop-last.invariant.there in
    let given = λ (base begun : List Listed) (is : c.loop-last.list ≡ base ++ begun) (tickets : map ticket begun ≡ tickets_in c.loop-last.prepared.items).
    last_given c.loop-last.list c.unlist.new.list base begun c.loop-last.prepared.items c.pop.new.self.items c.in-Some.last c.unlist.ensures c.in-Some.ensures.items is tickets in
    let part = given there.0 there.1 there.2 there.3 in
    record {
      there = (there.0, part.0, part.1, part.2);
      base = λ base begun is tickets. let left = c.loop-last.invariant.base base begun is tickets in given base left.0 left.1 left.2;
    }

pub returns : goal.returns
returns c = λ base begun is tickets.
    let left = c.loop-last.invariant.base base begun is tickets in
    let none = (c.in_default.ensures {u = tt}).cases.0 in
    let ok = c.loop-last.prepared.ok.0 in
    none_taken c.loop-last.list base left.0 c.loop-last.prepared.items (nil_from_length c.loop-last.prepared.items (omega arith)) left.1 left.2
