-- Laws of events in two lists, one after the other: where the log is cut doesn't matter.
use Rattle.std.specs.Prelude.{◌≡◌, ℕ, ℤ, List, ◌++◌, Option}
use Rattle.eql_values.specs.declared.item.Item.{Item}
use Rattle.eql_values.specs.declared.found.Holder.{Holder}
use Rattle.eql_values.specs.Matching.{matches, after}

-- the matches by two lists are those by the first, and those by the second from what is pending after the first
abbrev pub MatchesSplit : Type 0
MatchesSplit = (m : ℕ) (span : Option ℤ) (holders : List Holder) (a b : List Item)
    → matches m span holders (a ++ b) ≡ matches m span holders a ++ matches m span (after m span holders a) b

-- what is pending after two lists is what is pending after the second, from what is pending after the first
abbrev pub AfterSplits : Type 0
AfterSplits = (m : ℕ) (span : Option ℤ) (holders : List Holder) (a b : List Item)
    → after m span holders (a ++ b) ≡ after m span (after m span holders a) b
