use Rattle.std.proofs.Common.{◌≡◌, take, None}
use Rattle.eql_stages.specs.Given.{routes_by}
use Rattle.eql_stages.specs.Matching.{given_by, stages_of}
use Rattle.eql_stages.proofs.matchers.ItemMatchers.say_stages.Given as goal

-- the routes are those of the stages so far
abbrev pub invariant-loop-matcher : goal.invariant-loop-matcher
invariant-loop-matcher l = record {
  said : l.routes.items ≡ routes_by (given_by l.event.categories l.event.slots (take l.matcher-index l.self.items.items)) None;
  place : l.place ≡ stages_of (take l.matcher-index l.self.items.items);
  stack : l.stack ≡ l.initial.stack;
}
