-- What a take of a source does.
use Rattle.std.specs.Prelude.{◌≡◌, ◌≤◌, ℕ, List, length, take, drop, Option, Some}

-- the first n bytes that were left were put at the front of the buffer, and are left no more
pub record Takes (bytes : List ℕ) (n : ℕ) (into : List ℕ) (now : Option (List ℕ)) : Type 0 where
  pub there : n ≤ length bytes
  pub put : take n into ≡ take n bytes
  pub left : now ≡ Some (drop n bytes)
