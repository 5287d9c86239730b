-- The bytes of a text by its characters, and of lines in pieces.
use Rattle.std.proofs.Common.{◌≡◌, ℕ, List, ◌++◌, sym, ap, ◌∙◌, append_assoc}
use Rattle.std.specs.Prelude.{codes, encode_utf8_all}
use Rattle.std.specs.Fmt.{decimal}
use Rattle.std.specs.Str.{chars, IsUtf8}
use Rattle.std.proofs.lemmas.Str.{encodes-chars}
use Rattle.eql_runs.specs.CutRefusals.{cut_text, damaged, no_line, short}

pub bytes_of_chars : (bytes text : List ℕ) → IsUtf8 bytes → chars bytes ≡ text → bytes ≡ encode_utf8_all text
bytes_of_chars bytes text utf8 is = sym (encodes-chars bytes utf8) ∙ ap encode_utf8_all is

four : (a b c d : List ℕ) → a ++ (b ++ (c ++ d)) ≡ ((a ++ b) ++ c) ++ d
four a b c d = sym (append_assoc (a ++ b) c d ∙ append_assoc a b (c ++ d))

six : (a b c d e f : List ℕ) → a ++ (b ++ (c ++ (d ++ (e ++ f)))) ≡ ((((a ++ b) ++ c) ++ d) ++ e) ++ f
six a b c d e f = four a b c (d ++ (e ++ f)) ∙ sym (append_assoc (((a ++ b) ++ c) ++ d) e f ∙ append_assoc ((a ++ b) ++ c) d (e ++ f))

-- the lines of cuts that are refused, as they are put together
pub damaged_line : (area at : ℕ)
    → codes "checkpoint: Damaged area " ++ (decimal area ++ (codes " at " ++ (decimal at ++ codes "\n"))) ≡ cut_text (damaged area at)
unfolding lib.Utf8.encode
damaged_line area at =
    ap (λ (rest : List ℕ). codes "checkpoint: Damaged area " ++ rest) (four (decimal area) (codes " at ") (decimal at) (codes "\n"))

pub no_line_line : (shard line : ℕ)
    → codes "checkpoint: NoLine shard " ++ (decimal shard ++ (codes " line " ++ (decimal line ++ codes "\n"))) ≡ cut_text (no_line shard line)
unfolding lib.Utf8.encode
no_line_line shard line =
    ap (λ (rest : List ℕ). codes "checkpoint: NoLine shard " ++ rest) (four (decimal shard) (codes " line ") (decimal line) (codes "\n"))

pub short_line : (shard offset had : ℕ)
    → codes "checkpoint: Short shard "
    ++ (decimal shard ++ (codes " offset " ++ (decimal offset ++ (codes " had " ++ (decimal had ++ codes "\n")))))
    ≡ cut_text (short shard offset had)
unfolding lib.Utf8.encode
short_line shard offset had =
    ap (λ (rest : List ℕ). codes "checkpoint: Short shard " ++ rest)
    (six (decimal shard) (codes " offset ") (decimal offset) (codes " had ") (decimal had) (codes "\n"))
