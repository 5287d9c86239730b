use Rattle.std.proofs.Common.{◌++◌, ◌∷◌, [], List, ℕ, ap, ◌∙◌, string_bytes}
use Rattle.eql_shards.proofs.ReportLemmas.{line_bytes}
use Rattle.eql_shards.proofs.report.add_line.Goals as goal

pub returns : goal.returns
returns c =
    let line = c.text.result.now in
    let bytes = line_bytes line c.args.shard c.args.counts c.text.utf8 (c.text.ensures ∙ c.in_ok-line.ensures) in
    c.in_ok-push_str-2.ensures.bytes ∙ ap (λ (x : List ℕ). x ++ 10 ∷ []) (c.in_ok-push_str.ensures.bytes ∙ ap (λ (x : List ℕ). string_bytes c.args.report.now ++ x) bytes)
