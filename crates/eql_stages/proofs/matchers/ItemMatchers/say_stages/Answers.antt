use Rattle.std.proofs.Common.{◌≡◌, ◌≤◌, ◌<◌, ◌+◌, ℕ, List, length, take, get_or, false, None, refl, sym, ap, ◌∙◌, arith}
use Rattle.std.proofs.lemmas.Bool.{leb-true}
use Rattle.eql_values.specs.declared.item.Route.{Route}
use Rattle.eql_stages.specs.Given.{routes_by}
use Rattle.eql_stages.specs.Matching.{matched_key, given_by, said_to, has_stage}
use Rattle.eql_stages.specs.declared.matcher.ItemMatcher.{ItemMatcher}
use Rattle.eql_stages.proofs.Made.{said_matcher, items_on, stages_on, one_of_all}
use Rattle.eql_stages.proofs.matchers.ItemMatchers.say_stages.Goals as goal

pub loop-matcher-preserved : goal.loop-matcher-preserved
loop-matcher-preserved c =
    let categories = c.args.event.now.categories in
    let slots = c.args.event.now.slots in
    let matchers = c.args.self.now.items.items in
    let matcher = c.matcher-item.result in
    let i = c.loop-matcher.matcher-index in
    let mask = c.stages_between-mask.result in
    let under : i < length matchers = omega (arith, ap length c.deref-matcher-items.ensures.value) in
    let is : matcher ≡ get_or matchers i matcher = cc in
    let some : 1 ≤ matcher.runs = leb-true 1 matcher.runs (one_of_all has_stage matchers i matcher c.args.self.now.sound.each under is) in
    record {
      said =
          c.in_ok-say.ensures.said
          ∙ ap (λ (l : List Route). said_to (matched_key categories slots matcher) mask false l) c.loop-matcher.invariant.said
          ∙ said_matcher categories slots (take i matchers) matcher c.loop-matcher.place matcher.runs mask (sym c.loop-matcher.invariant.place) refl some
          c.stages_between-mask.ensures.low c.stages_between-mask.ensures.high
          ∙ ap (λ (l : List ItemMatcher). routes_by (given_by categories slots l) None) (sym (items_on matchers i matcher under is));
      place = ap (λ (n : ℕ). n + matcher.runs) c.loop-matcher.invariant.place ∙ sym (stages_on matchers i matcher under is).0;
      stack = c.in_ok-say.ensures.stack ∙ c.loop-matcher.invariant.stack;
    }
