-- What is read of a block that was written.
use Rattle.std.proofs.Common.{◌≡◌, true, ℕ, ◌≤◌, ◌<◌, ◌^◌, leb, List, ◌∷◌, ◌++◌, length, take, refl, sym, ◌∙◌, ap, subst, arith, length-append}
use Rattle.std.proofs.lemmas.Bool.{le-leb, and_from, cond-true}
use Rattle.std.proofs.lemmas.List.{take_at}
use Rattle.std.proofs.lemmas.Nat.{from_le_bytes-to_le_bytes_8}
use Rattle.std.specs.Int.{w64, to_le_bytes, from_le_bytes}
use Rattle.eql_outside.specs.declared.disk.Area.{Area}
use Rattle.eql_ckdisk.specs.Found.{text, damaged, generation_in, is_whole, holds, length_in, block}

module _ (g : ℕ) (bytes rest : List ℕ) (from : 1 ≤ g) (to : g ≤ 2 ^ 63) (short : length bytes < 2 ^ 64) where
  pub block_generation : generation_in (1 ∷ (block g bytes ++ rest)) ≡ g
  block_generation =
      cond-true (leb 17 (length (1 ∷ (block g bytes ++ rest)))) (from_le_bytes w64 (to_le_bytes w64 g)) 0 (le-leb 17 (length (1 ∷ (block g bytes ++ rest))) (omega arith))
      ∙ from_le_bytes-to_le_bytes_8 g (omega arith)

  block_length : length_in (1 ∷ (block g bytes ++ rest)) ≡ length bytes
  block_length = from_le_bytes-to_le_bytes_8 (length bytes) short

  -- a block behind an open gate is its text
  pub block_holds : (area : Area) → holds area (1 ∷ (block g bytes ++ rest)) ≡ text area g bytes
  block_holds area =
      let x : List ℕ = 1 ∷ (block g bytes ++ rest) in
      let low : 1 ≤ generation_in x = subst (λ n. 1 ≤ n) (sym block_generation) from in
      let high : generation_in x ≤ 2 ^ 63 = subst (λ n. n ≤ 2 ^ 63) (sym block_generation) to in
      let there : length_in x ≤ length (bytes ++ rest) = subst (λ n. n ≤ length (bytes ++ rest)) (sym block_length) (omega (arith, length-append bytes rest)) in
      let whole : is_whole x ≡ true = and_from _ _ (and_from _ _ (le-leb 1 (generation_in x) low) (le-leb (generation_in x) (2 ^ 63) high)) (le-leb (length_in x) (length (bytes ++ rest)) there) in
      cond-true (is_whole x) (text area (generation_in x) (take (length_in x) (bytes ++ rest))) (damaged area (generation_in x)) whole
      ∙ (λ i. text area (block_generation i) (take (block_length i) (bytes ++ rest)))
      ∙ ap (text area g) (take_at bytes rest (length bytes) refl)
