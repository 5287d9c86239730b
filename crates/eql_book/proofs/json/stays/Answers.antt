use Rattle.std.proofs.Common.{◌≡◌, ℕ, List, sym, ◌∙◌, subst}
use Rattle.std.specs.Str.{chars}
use Rattle.std.proofs.lemmas.Iterator.{YieldsList-from_chars}
use Rattle.std.proofs.lemmas.Iterator.Consumers.{YieldsList-end}
use Rattle.eql_values.proofs.ShownText.{all_of}
use Rattle.eql_book.specs.Listing.{json_chars}
use Rattle.eql_book.proofs.JsonLemmas.{one_stays}
use Rattle.eql_book.proofs.json.stays.Goals as goal

pub loop-c-preserved : goal.loop-c-preserved
loop-c-preserved c = one_stays c.loop-c.yielded c.in-Some.c c.loop-c.invariant (sym c.is_hidden.ensures ∙ c.if-is_hidden.false)

pub returns : goal.returns
returns c = λ e.
    let t = YieldsList-end (YieldsList-from_chars c.args.text.now c.utf8.text cc) c.loop-c.yielded _ c.loop-c.yielded_by _ _ c.in-None.is c.next.ensures.steps in
    subst (λ (xs : List ℕ). json_chars xs ≡ xs) (all_of c.loop-c.yielded (chars c.args.text.now) t.0) c.loop-c.invariant
