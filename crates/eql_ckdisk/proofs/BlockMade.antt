-- A block is made: its head is put over the bytes before its text.
use Rattle.std.proofs.Common.{◌≡◌, ℕ, List, ◌++◌, length, drop, ◌∙◌, ap}
use Rattle.std.proofs.lemmas.List.{drop-drop}
use Rattle.std.specs.Int.{w64, to_le_bytes}
use borrow.Rule.Slice.PartMut.{put_mid}
use Rattle.eql_ckdisk.specs.Found.{block}

pub head_put : (g n : ℕ) (bytes first second : List ℕ) → first ≡ to_le_bytes w64 g → second ≡ to_le_bytes w64 n
    → n ≡ length (drop 16 bytes) → put_mid 8 8 (first ++ drop 8 bytes) second ≡ block g (drop 16 bytes)
head_put g n bytes first second is_first is_second is_n =
    (λ i. put_mid 8 8 (is_first i ++ drop 8 bytes) (is_second i))
    ∙ ap (λ (rest : List ℕ). to_le_bytes w64 g ++ (to_le_bytes w64 n ++ rest)) (drop-drop 8 8 bytes)
    ∙ ap (λ (m : ℕ). to_le_bytes w64 g ++ (to_le_bytes w64 m ++ drop 16 bytes)) is_n
