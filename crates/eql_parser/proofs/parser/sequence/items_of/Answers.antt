use Rattle.std.proofs.Common.{◌-◌, ◌+◌, ◌∷◌, [], length, map, codes, ap, ◌∙◌, arith}
use Rattle.std.proofs.lemmas.List.{map-append}
use Rattle.eql_parser.specs.Kinds.{kinds}
use Rattle.eql_query.specs.QueryTree.{term_tree}
use Rattle.eql_parser.specs.Reading.{expr}
use Rattle.eql_parser.specs.QueryReading.{most_open, most_levels}
use Rattle.eql_parser.proofs.Defaults.{length_kinds}
use Rattle.eql_parser.proofs.Parts.{stops_by}
use Rattle.eql_parser.proofs.Queries.{bang_word, items_begin, items_stop, items_missing, items_end, items_goes, items_none}
use Rattle.eql_parser.proofs.parser.sequence.items_of.Goals as goal

pub loop-init : goal.loop-init
loop-init c =
    items_begin (expr most_open most_levels) _ _ _ (kinds c.args.tokens.now) (ap (map term_tree) c.new-items.ensures.items) (omega (arith, length_kinds c.args.tokens.now))

pub returns-in-Err : goal.returns-in-Err
returns-in-Err c = items_stop (expr most_open most_levels) (length c.args.tokens.now - c.loop.counter) (length c.args.tokens.now - (c.loop.counter + 1)) (map term_tree c.loop.items.items) (kinds c.loop.rest.now) _ _ (omega arith) c.loop.invariant c.in-Err.ensures

pub returns-then-is_missing : goal.returns-then-is_missing
returns-then-is_missing c =
    let m = c.if-is_missing.ensures in
    stops_by _ _ (codes "!") _ _ c.left_out.ensures bang_word (items_missing (expr most_open most_levels) (length c.args.tokens.now - c.loop.counter) (length c.args.tokens.now - (c.loop.counter + 1)) (map term_tree c.loop.items.items) (term_tree c.in-Ok.found.0) (kinds c.loop.rest.now) c.in-Ok.found.1.now m.0 _ (omega arith) c.loop.invariant
    c.in-Ok.ensures m.1)

pub returns-in-None : goal.returns-in-None
returns-in-None c =
    items_end (expr most_open most_levels) (length c.args.tokens.now - c.loop.counter) (length c.args.tokens.now - (c.loop.counter + 1)) (map term_tree c.loop.items.items) _ (term_tree c.in-Ok.found.0) (kinds c.loop.rest.now) (kinds c.in-Ok.found.1.now) _ (omega arith) c.loop.invariant c.in-Ok.ensures c.if-is_missing.ensures c.in-None.ensures
    (ap (map term_tree) c.in_ok-push.ensures.items ∙ map-append term_tree c.loop.items.items (c.in-Ok.found.0 ∷ []))

pub loop-preserved : goal.loop-preserved
loop-preserved c =
    items_goes (expr most_open most_levels) (length c.args.tokens.now - c.loop.counter) (length c.args.tokens.now - (c.loop.counter + 1)) (map term_tree c.loop.items.items) _ (term_tree c.in-Ok.found.0) (kinds c.loop.rest.now) (kinds c.in-Ok.found.1.now) (kinds c.in-Some.field-0.now) _ (omega arith) c.loop.invariant c.in-Ok.ensures c.in-Some.ensures
    (ap (map term_tree) c.in_ok-push.ensures.items ∙ map-append term_tree c.loop.items.items (c.in-Ok.found.0 ∷ []))

pub returns : goal.returns
returns c = items_none (expr most_open most_levels) _ _ (map term_tree c.loop.items.items) (kinds c.loop.rest.now) _ (omega arith) c.loop.invariant (length_kinds c.loop.rest.now)
