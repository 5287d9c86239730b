use Rattle.std.proofs.Common.{◌≡◌, ◌++◌, map, sym, ◌∙◌, rules}
use Rattle.std.proofs.lemmas.List.{map-append}
use Rattle.eql_query.specs.QueryTree.{term_tree}
use Rattle.eql_stages.specs.Compiling.{key_field}
use Rattle.eql_stages.proofs.Made.{matcher_made}
use Rattle.eql_stages.proofs.compile.matcher_of.Goals as goal

pub returns-clause-matchers : goal.returns-clause-matchers
returns-clause-matchers c =
    let fields = c.args.checked.now.fields in
    let category : c.in_ok-category.category ≡ c.args.term.now.category = search rules in
    let keys : c.of.result ≡ map (key_field fields) (c.args.shared.now ++ c.args.own.now) =
    c.of.ensures
    ∙ (c.in_ok-add_keys-2.ensures {u = tt})
    ∙ (λ k. (c.in_ok-add_keys.ensures {u = tt}) k ++ map (key_field (c.fields-2.ensures.same k)) c.args.own.now)
    ∙ (λ k. (c.new-keys.ensures.items k ++ map (key_field (c.fields.ensures.same k)) c.args.shared.now) ++ map (key_field fields) c.args.own.now)
    ∙ sym (map-append (key_field fields) c.args.shared.now c.args.own.now) in
    matcher_made fields (record { term = term_tree c.args.term.now; keys = c.args.shared.now ++ c.args.own.now })
    (record { category = c.in_ok-category.category; code = c.in_ok-code.code; keys = c.of.result; runs = c.args.runs })
    category c.in_ok-code.ensures.means keys
