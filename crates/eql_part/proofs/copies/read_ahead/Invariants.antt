use Rattle.std.proofs.Common.{◌≡◌, ◌+◌, ◌≤◌, vec_len, vec_capacity}
use Rattle.eql_part.specs.declared.copies.TheConstants.{AHEAD}
use Rattle.eql_part.proofs.copies.read_ahead.Given as goal

abbrev pub invariant-loop-at : goal.invariant-loop-at
invariant-loop-at g l = record {
  len : vec_len l.read + l.place ≡ l.at;
  room : AHEAD ≤ vec_capacity l.read;
}
