use Rattle.std.proofs.Common.{◌≡◌, ◌++◌, drop}
use Rattle.eql_check.specs.Used.{key_names}
use Rattle.eql_check.specs.Entries.{names_seen}
use Rattle.eql_check.proofs.used.add_key_names.Given as goal

abbrev pub invariant-loop-key : goal.invariant-loop-key
invariant-loop-key l =
    names_seen l.names.items ++ key_names (drop l.key-index l.keys) ≡ names_seen l.fn.names.items ++ key_names l.keys
