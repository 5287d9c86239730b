use Rattle.std.proofs.Common.{take, drop, sym, ap, ◌∙◌}
use Rattle.std.specs.Str.{chars}
use Rattle.std.specs.Str.Iter.{chars_rest}
use Rattle.std.specs.String.{string_bytes}
use Rattle.std.specs.Iterator.Adapters.{skip_source, skip_count, take_source}
use Rattle.std.proofs.lemmas.Iterator.{YieldsList-from_chars, YieldsList-from_take, text_from_collect}
use Rattle.std.proofs.lemmas.Iterator.Adapters.{YieldsList-from_skip}
use Rattle.std.proofs.lemmas.Str.{chars_from_encodes, IsUtf8-string_bytes}
use Rattle.eql_text.proofs.parts.part.Goals as goal

pub returns : goal.returns
returns c =
    let text = c.args.text.now in
    let all = YieldsList-from_chars {s = skip_source (take_source c.take.result)} text c.utf8.text
    (ap (λ s. chars_rest (skip_source s)) c.take.ensures.source ∙ ap chars_rest c.skip.ensures.source ∙ c.chars.ensures.rest) in
    let later = YieldsList-from_skip {s = take_source c.take.result} c.args.from all (ap skip_count c.take.ensures.source ∙ c.skip.ensures.count) in
    let some = YieldsList-from_take {s = c.take.result} c.saturating_sub-count.result later c.take.ensures.count in
    let bytes = rw c.in_ok-characters.was at (text_from_collect c.collect.result c.collect.ensures.ran some) in
    c.of.ensures
    ∙ sym (chars_from_encodes (take c.saturating_sub-count.result (drop c.args.from (chars text))) (string_bytes c.in_ok-characters.characters)
    (IsUtf8-string_bytes c.in_ok-characters.characters) (sym bytes))
    ∙ ap (λ n. take n (drop c.args.from (chars text))) c.saturating_sub-count.ensures
