use Rattle.std.proofs.Common.{◌≡◌, ◌++◌, ◌∷◌, codes, if◌then◌else◌, refl, rules, map, append_assoc, sym, ap, ◌∙◌}
use Rattle.std.proofs.lemmas.Result.{on_ok_weaker}
use Rattle.std.specs.Str.{chars}
use Rattle.eql_parser.specs.Adding.{Adds}
use Rattle.eql_parser.specs.Printed.{tree_shown, all_shown, patterns_shown, literals_shown}
use Rattle.eql_query.specs.View.{tree, trees, trees_of}
use Rattle.std.proofs.lemmas.Str.{IsUtf8-from_ascii}
use Rattle.eql_parser.proofs.Lists.{joined}
use Rattle.eql_parser.proofs.Pages.{each_ascii}
use Rattle.eql_parser.proofs.printing.expression.+put.Goals as goal

pub put_all-loop-item-preserved : goal.put_all-loop-item-preserved
put_all-loop-item-preserved t c = (
  IsUtf8-from_ascii c.args.between.now (each_ascii c.args.between.now (search rules)),
  search rules,
  joined (λ e. tree_shown (tree e)) (λ es. all_shown c.args.between.now (trees_of (map tree es))) c.args.between.now (λ x rest. refl) (λ x y ys rest. refl) _ c.loop-item.item-index
      c.item-item.result c.loop-item.separator.now c.args.page.now c.loop-item.page _ _ (search rules) c.item-item.is c.loop-item.invariant.2 c.in_ok-put.ensures c.in_ok-put_expr.ensures,
)

pub put_left-returns : goal.put_left-returns
put_left-returns t c =
    on_ok_weaker c.put_expr.result
    (λ (h : Adds c.put.new.self c.put_expr.new.page (tree_shown (tree c.args.a.now))). λ rest. h rest ∙ c.in_ok-put.ensures (tree_shown (tree c.args.a.now) rest))
    c.put_expr.ensures

pub put_behind-returns : goal.put_behind-returns
put_behind-returns t c =
    on_ok_weaker c.put-2.result
    (λ (h : Adds c.put_expr.new.page c.put-2.new.self (λ rest. 41 ∷ rest)). λ rest. h rest ∙ c.in_ok-put_expr.ensures (41 ∷ rest) ∙ c.in_ok-put.ensures (tree_shown (tree c.args.a.now) (41 ∷ rest)))
    c.put-2.ensures

pub put_pattern-returns : goal.put_pattern-returns
put_pattern-returns t c =
    on_ok_weaker c.put-2.result
    (λ (h : Adds c.put_patterns.new.page c.put-2.new.self (λ rest. 41 ∷ rest)). λ rest.
    let listed = patterns_shown c.args.patterns.now (41 ∷ rest) in
    h rest ∙ c.in_ok-put_patterns.ensures (41 ∷ rest) ∙ c.in_ok-put.ensures listed ∙ c.in_ok-put_left.ensures (c.args.between.now ++ listed))
    c.put-2.ensures

pub put_member-returns : goal.put_member-returns
put_member-returns t c =
    on_ok_weaker c.put-2.result
    (λ (h : Adds c.put_literals.new.page c.put-2.new.self (λ rest. 41 ∷ 41 ∷ rest)). λ rest.
    let listed = literals_shown c.args.list.now (41 ∷ 41 ∷ rest) in
    h rest ∙ c.in_ok-put_literals.ensures (41 ∷ 41 ∷ rest) ∙ c.in_ok-put.ensures listed ∙ c.in_ok-put_left.ensures (c.args.between.now ++ listed))
    c.put-2.ensures

pub put_operands-returns : goal.put_operands-returns
put_operands-returns t c =
    on_ok_weaker c.put-2.result
    (λ (h : Adds c.put_all.new.page c.put-2.new.self (λ rest. 41 ∷ rest)). λ rest.
    h rest ∙ c.in_ok-put_all.ensures (41 ∷ rest) ∙ c.in_ok-put.ensures (all_shown c.args.between.now (trees c.args.operands.now) (41 ∷ rest)))
    c.put-2.ensures

pub put_call-returns : goal.put_call-returns
put_call-returns t c =
    let opened : c.if-fold.put.now ≡ (if c.args.fold then codes "~(" else codes "(") = search rules in
    let named : chars c.text.result.now ≡ c.args.name.now = search rules in
    on_ok_weaker c.put-2.result
    (λ (h : Adds c.put_all.new.page c.put-2.new.self (λ rest. 41 ∷ rest)). λ rest.
    let listed = all_shown (codes ", ") (trees c.args.arguments.now) (41 ∷ rest) in
    h rest ∙ c.in_ok-put_all.ensures (41 ∷ rest) ∙ c.in_ok-put.ensures listed ∙ c.in_ok-put_name.ensures (c.if-fold.put.now ++ listed)
    ∙ ap (λ name. c.args.page.now ++ (name ++ (c.if-fold.put.now ++ listed))) named
    ∙ ap (λ opening. c.args.page.now ++ (c.args.name.now ++ (opening ++ listed))) opened
    ∙ ap (λ text. c.args.page.now ++ text) (sym (append_assoc c.args.name.now _ listed)))
    c.put-2.ensures
