-- Lanes that take words one after the other.
use Rattle.std.specs.Prelude.{ℕ, zero, suc, ◌+◌, List, take, drop}
use Rattle.std.specs.Int.{w64, from_le_bytes}
use Rattle.eql_digest.specs.Digests.{with_word}

-- the lanes after some words of bytes, from a place in them
unfoldable pub lanes_after : List ℕ → List ℕ → ℕ → ℕ → List ℕ
lanes_after lanes bytes at zero = lanes
lanes_after lanes bytes at (suc words) = lanes_after (with_word lanes (from_le_bytes w64 (take 8 (drop at bytes)))) bytes (at + 8) words
