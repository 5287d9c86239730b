use Rattle.std.proofs.Common.{◌≡◌, ◌++◌, take, All}
use Rattle.std.specs.List.{flat_map}
use Rattle.eql_cut.specs.declared.reader.Version.TheVariants as version
use Rattle.eql_cut.proofs.lists.write_each.Given as goal

abbrev pub invariant-loop-item : goal.invariant-loop-item
invariant-loop-item g l = record {
  text : l.to.items ≡ l.fn.to.items ++ flat_map (g.T.Coded.format version.Four).text (take l.item-index l.items);
  fits : All (g.T.Coded.format version.Four).Fits (take l.item-index l.items);
}
