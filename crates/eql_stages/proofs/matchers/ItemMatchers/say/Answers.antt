use Rattle.std.proofs.Common.{List, Option, true, sym, ap, ◌∙◌}
use Rattle.std.specs.Prelude.{Result, Ok, Err, OnOk}
use Rattle.eql_values.specs.declared.item.Route.{Route}
use Rattle.eql_values.specs.declared.memory.Memory.{Memory}
use Rattle.eql_stages.specs.Given.{routes_by}
use Rattle.eql_stages.specs.Matching.{matched_key, given_by, until_by, said_to}
use Rattle.eql_stages.specs.declared.matcher.ItemMatcher.{ItemMatcher}
use Rattle.eql_stages.proofs.Made.{said_end}
use Rattle.eql_stages.proofs.matchers.ItemMatchers.say.Goals as goal

then : {P Q : Type 0} (r : Result (Unit {0}) Memory) → (P → Q) → OnOk r P → OnOk r Q
then (Ok x) f h = f h
then (Err e) f h = h

pub returns-in-Some-clause-said : goal.returns-in-Some-clause-said
returns-in-Some-clause-said c =
    let categories = c.args.event.now.categories in
    let slots = c.args.event.now.slots in
    let given = given_by categories slots c.args.self.now.items.items in
    let until = matched_key categories slots c.in-Some.until in
    then c.say.result
    (λ e. e
    ∙ ap (λ (l : List Route). said_to until (record { low = 0; high = 0 }) true l) c.in_ok-say_stages.ensures.said
    ∙ said_end given until
    ∙ ap (λ (o : Option ItemMatcher). routes_by given (until_by categories slots o)) (sym c.in-Some.is))
    c.say.ensures.said
