-- Texts whose memory serves again.
use Rattle.std.specs.Prelude.{ℕ, List, map, take, string_bytes}
use Rattle.eql_lines.specs.declared.kept.Kept.{Kept}

-- the texts that are in use
abbrev pub kept_texts : Kept → List (List ℕ)
kept_texts k = map string_bytes (take k.used k.texts.items)
