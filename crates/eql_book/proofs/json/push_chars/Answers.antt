use Rattle.std.proofs.Common.{◌≡◌, ℕ, List, ◌++◌, subst}
use Rattle.std.specs.Prelude.{encode_utf8_all, string_bytes}
use Rattle.std.specs.Str.{chars}
use Rattle.std.proofs.lemmas.Iterator.{YieldsList-from_chars}
use Rattle.std.proofs.lemmas.Iterator.Consumers.{YieldsList-end}
use Rattle.eql_values.proofs.ShownText.{all_of}
use Rattle.eql_book.specs.Listing.{json_chars}
use Rattle.eql_book.proofs.JsonLemmas.{grown}
use Rattle.eql_book.proofs.json.push_chars.Goals as goal

pub loop-c-preserved : goal.loop-c-preserved
loop-c-preserved c = grown _ _ _ c.loop-c.yielded c.in-Some.c c.loop-c.invariant c.in_ok-push_char.ensures

pub returns : goal.returns
returns c =
    let t = YieldsList-end (YieldsList-from_chars c.args.text.now c.utf8.text cc) c.loop-c.yielded _ c.loop-c.yielded_by _ _ c.in-None.is c.next.ensures.steps in
    subst (λ (xs : List ℕ). string_bytes c.loop-c.line ≡ string_bytes c.args.line.now ++ encode_utf8_all (json_chars xs)) (all_of c.loop-c.yielded (chars c.args.text.now) t.0) c.loop-c.invariant
