use Rattle.std.proofs.Common.{◌≡◌, List, ℕ, ◌++◌, ◌∷◌, drop, refl, sym, ap, ◌∙◌, subst, ◌==◌}
use Rattle.std.specs.Prelude.{if◌then◌else◌}
use Rattle.std.proofs.lemmas.Iterator.{YieldsList-from_chars}
use Rattle.std.proofs.lemmas.Iterator.Consumers.{YieldsList-turn, YieldsList-end}
use Rattle.std.proofs.lemmas.List.{length_push}
use Rattle.std.specs.Str.{chars}
use Rattle.eql_parser.specs.Printed.{name_shown}
use Rattle.eql_parser.proofs.Lists.{written, ended}
use Rattle.eql_parser.proofs.Pages.{once, twice}
use Rattle.eql_parser.proofs.printing.leaf.put_doubled.Goals as goal

pub loop-c-preserved-in-Continue-1 : goal.loop-c-preserved-in-Continue-1
loop-c-preserved-in-Continue-1 c =
    let t = YieldsList-turn (YieldsList-from_chars c.args.name.now c.utf8.name cc) c.loop-c.yielded _ c.loop-c.yielded_by _ _ c.in-Some.c c.in-Some.is c.next.ensures.steps in
    subst (λ n. (rest : List ℕ) → c.put.new.self ++ name_shown (drop n (chars c.args.name.now)) rest ≡ c.args.page.now ++ name_shown (chars c.args.name.now) rest)
    (sym (length_push c.loop-c.yielded c.in-Some.c)) (written (λ c rest. if c == 96 then 96 ∷ 96 ∷ rest else c ∷ rest) name_shown (λ x ys rest. refl) (chars c.args.name.now) _ c.in-Some.c c.args.page.now
    c.loop-c.page _ t.0 t.1 c.loop-c.invariant (λ rest. c.in_ok-put.ensures rest ∙ ap (λ text. c.loop-c.page ++ text) (twice c.in-Some.c rest c.if-c-eq96.true)))

pub loop-c-preserved : goal.loop-c-preserved
loop-c-preserved c =
    let t = YieldsList-turn (YieldsList-from_chars c.args.name.now c.utf8.name cc) c.loop-c.yielded _ c.loop-c.yielded_by _ _ c.in-Some.c c.in-Some.is c.next.ensures.steps in
    subst (λ n. (rest : List ℕ) → c.put_char.new.self ++ name_shown (drop n (chars c.args.name.now)) rest ≡ c.args.page.now ++ name_shown (chars c.args.name.now) rest)
    (sym (length_push c.loop-c.yielded c.in-Some.c)) (written (λ c rest. if c == 96 then 96 ∷ 96 ∷ rest else c ∷ rest) name_shown (λ x ys rest. refl) (chars c.args.name.now) _ c.in-Some.c c.args.page.now
    c.loop-c.page _ t.0 t.1 c.loop-c.invariant (λ rest. c.in_ok-put_char.ensures rest ∙ ap (λ text. c.loop-c.page ++ text) (once c.in-Some.c rest c.if-c-eq96.false)))

pub returns : goal.returns
returns c =
    let t = YieldsList-end (YieldsList-from_chars c.args.name.now c.utf8.name cc) c.loop-c.yielded _ c.loop-c.yielded_by _ _ c.in-None.is c.next.ensures.steps in
    ended name_shown (λ rest. refl) (chars c.args.name.now) _ c.args.page.now c.loop-c.page (sym t.1) c.loop-c.invariant
