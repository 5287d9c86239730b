use Rattle.std.proofs.Common.{◌≡◌, ◌++◌, List, length, reverse, refl, sym, ap, ◌∙◌, subst}
use Rattle.std.specs.Prelude.{All}
use Rattle.std.specs.List.{AllZip}
use Rattle.std.proofs.lemmas.List.{reverse-append, reverse-reverse}
use Rattle.std.proofs.lemmas.List.Elements.{All-map}
use Rattle.eql_turn_lock.specs.declared.view.View.{View}
use Rattle.eql_turn_lock.specs.Calls.{Closes}
use Rattle.eql_turn_lock.specs.Passes.{first_view}
use Rattle.eql_lock_row.proofs.Walks.{all_back}
use Rattle.eql_lock_row.proofs.row.LockRow.make.Goals as goal

pub unlock_all-requires-clause-first : goal.unlock_all-requires-clause-first
unlock_all-requires-clause-first g c =
    let made = c.lock_all.ensures.made in
    subst (All (λ (v : View _ _ _). v.number ≡ 0)) (sym made.1) (All-map (λ (v : View _ _ _). v.number ≡ 0) first_view made.0 (λ k d h. refl))

pub unlock_all-requires-clause-all_joined : goal.unlock_all-requires-clause-all_joined
unlock_all-requires-clause-all_joined g c =
    let made = c.lock_all.ensures.made in
    subst (All (λ (v : View _ _ _). length v.ended ≡ v.made)) (sym made.1) (All-map (λ (v : View _ _ _). length v.ended ≡ v.made) first_view made.0 (λ k d h. refl))

pub returns-in-Err-clause-back : goal.returns-in-Err-clause-back
returns-in-Err-clause-back g c =
    let made = c.lock_all.ensures.made in
    let unlocked = c.unlock_all.ensures in
    let back : unlocked.0 ≡ made.0 = all_back g.T.Turned.step_of g.T.Turned.is_open made.0 unlocked.0
    (subst (λ (vs : List (View _ _ _)). AllZip (Closes g.T.Turned.step_of g.T.Turned.is_open) vs unlocked.0) made.1 unlocked.1) in
    let now = c.lock_all.new.values.items in
    c.reverse-in-Err.ensures.items
    ∙ (ap reverse (unlocked.2 ∙ ap (λ (l : List _). now ++ reverse l) back)
    ∙ (reverse-append now (reverse made.0)
    ∙ (ap (λ (l : List _). l ++ reverse now) (reverse-reverse made.0)
    ∙ (sym made.2 ∙ (ap reverse c.reverse.ensures.items ∙ reverse-reverse c.args.values.items)))))
