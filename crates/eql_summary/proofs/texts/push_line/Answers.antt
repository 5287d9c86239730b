use Rattle.std.proofs.Common.{◌≡◌, ◌%◌, ◌++◌, List, ℕ, append_assoc, string_bytes, codes, ap, sym, ◌∙◌}
use Rattle.std.specs.Fmt.{decimal}
use Rattle.eql_summary.proofs.texts.push_line.Goals as goal

-- six lists, one behind another
six : (a b c d e f : List ℕ) → a ++ (b ++ (c ++ (d ++ (e ++ f)))) ≡ a ++ b ++ c ++ d ++ e ++ f
six a b c d e f =
    sym (append_assoc a b (c ++ (d ++ (e ++ f)))) ∙ sym (append_assoc (a ++ b) c (d ++ (e ++ f))) ∙ sym (append_assoc (a ++ b ++ c) d (e ++ f))
    ∙ sym (append_assoc (a ++ b ++ c ++ d) e f)

pub returns : goal.returns
unfolding lib.Utf8.encode
returns c =
    let event = c.args.event in
    rw (sym c.name_of-name.ensures)
    (c.in_ok-write.ensures.bytes ∙ ap (λ (line : List ℕ). string_bytes c.args.text.now ++ (codes "{\"@timestamp\":" ++ line))
    (six (decimal event) (codes ",\"event\":{\"category\":\"process\"},\"user\":{\"name\":\"u") (decimal (event % 100)) (codes "\"},\"process\":{\"name\":\"") c.name_of-name.result.now (codes "\"}}\n")))
