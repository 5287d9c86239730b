-- White space and comments.
use Rattle.std.specs.Prelude.{ℕ, List, [], ◌∷◌, ◌&&◌, ◌==◌, if◌then◌else◌}
use Rattle.eql_lexer.specs.Bytes.{begins, is_white}

abbrev mutual
  -- What follows white space and comments. A `/*` that isn't closed is left standing.
  pub gap : List ℕ → List ℕ
  gap [] = []
  gap (b ∷ bs) =
      if is_white b then gap bs else
      (if (b == 47) && begins 47 bs then line_comment bs else
      (if (b == 47) && begins 42 bs then block_comment (b ∷ bs) bs else b ∷ bs))

  -- within `//`: what follows the end of the line and the gap behind it
  pub line_comment : List ℕ → List ℕ
  line_comment [] = []
  line_comment (b ∷ bs) = if b == 10 then gap bs else line_comment bs

  -- at the star of the `/*` with which this opening begins
  pub block_comment : List ℕ → List ℕ → List ℕ
  block_comment opening [] = opening
  block_comment opening (b ∷ bs) = within_block opening bs

  -- within `/*`: what follows the first `*/` and the gap behind it, or the opening where there is none
  pub within_block : List ℕ → List ℕ → List ℕ
  within_block opening [] = opening
  within_block opening (b ∷ bs) = if (b == 42) && begins 47 bs then block_end bs else within_block opening bs

  -- at the slash of `*/`
  pub block_end : List ℕ → List ℕ
  block_end [] = []
  block_end (b ∷ bs) = gap bs
