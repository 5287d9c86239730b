use Rattle.std.proofs.Common.{◌≡◌, ◌++◌, sym, ap, ◌∙◌, subst}
use Rattle.eql_turn_lock.specs.History.{calls_by}
use Rattle.eql_turn_lock.specs.Locks.{view_of}
use Rattle.eql_turn_lock_tests.specs.Trays.{letters_delivered}
use Rattle.eql_turn_lock_tests.proofs.Letters.{starts_in, none_lost, delivered_mine}
use Rattle.eql_turn_lock_tests.proofs.callers.close_tray.Goals as goal

pub returns : goal.returns
returns c = let end = c.close.ensures in let joined = c.join.ensures.joined in
    let mine = end.all_mine ∙ ap (λ v. v.mine) joined in
    let number = ap (λ v. v.number) joined ∙ c.requires.first in (
      end.log,
      end.opening,
      sym (ap (λ v. v.opening) joined) ∙ end.opened,
      starts_in _ _ _ end.begins c.join.ensures.seen.0,
      ap (λ l. end.opening.letters.items ++ l) (sym (delivered_mine end.log end.others_open ∙ ap letters_delivered (subst (λ n. calls_by n end.log ≡ (view_of c.args.first).mine) number mine))) ∙ none_lost end.log end.opening c.close.result end.legal,
    )
