use Rattle.std.proofs.Common.{◌≡◌, List, ℕ, ◌++◌, drop, refl, sym, subst}
use Rattle.std.proofs.lemmas.Iterator.{YieldsList-from_chars}
use Rattle.std.proofs.lemmas.Iterator.Consumers.{YieldsList-turn, YieldsList-end}
use Rattle.std.proofs.lemmas.List.{length_push}
use Rattle.std.specs.Str.{chars}
use Rattle.eql_parser.specs.Printed.{char_shown, all_escaped}
use Rattle.eql_parser.proofs.Lists.{written, ended}
use Rattle.eql_parser.proofs.printing.leaf.put_all_escaped.Goals as goal

pub loop-c-preserved : goal.loop-c-preserved
loop-c-preserved c =
    let t = YieldsList-turn (YieldsList-from_chars c.args.text.now c.utf8.text cc) c.loop-c.yielded _ c.loop-c.yielded_by _ _ c.in-Some.c c.in-Some.is c.next.ensures.steps in
    subst (λ n. (rest : List ℕ) → c.put_escaped.new.page ++ all_escaped (drop n (chars c.args.text.now)) rest ≡ c.args.page.now ++ all_escaped (chars c.args.text.now) rest)
    (sym (length_push c.loop-c.yielded c.in-Some.c)) (written char_shown all_escaped (λ x ys rest. refl) (chars c.args.text.now) _ c.in-Some.c c.args.page.now c.loop-c.page _ t.0 t.1 c.loop-c.invariant c.in_ok-put_escaped.ensures)

pub returns : goal.returns
returns c =
    let t = YieldsList-end (YieldsList-from_chars c.args.text.now c.utf8.text cc) c.loop-c.yielded _ c.loop-c.yielded_by _ _ c.in-None.is c.next.ensures.steps in
    ended all_escaped (λ rest. refl) (chars c.args.text.now) _ c.args.page.now c.loop-c.page (sym t.1) c.loop-c.invariant
