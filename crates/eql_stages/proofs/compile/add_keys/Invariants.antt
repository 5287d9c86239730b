use Rattle.std.proofs.Common.{◌≡◌, ◌++◌, map, take}
use Rattle.eql_stages.specs.Compiling.{key_field}
use Rattle.eql_stages.proofs.compile.add_keys.Given as goal

abbrev pub invariant-loop-key : goal.invariant-loop-key
invariant-loop-key l = l.keys.items ≡ l.initial.keys.items ++ map (key_field l.fields) (take l.key-index l.refs)
