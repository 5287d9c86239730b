-- The head of an area, and the text that is found.
use Rattle.std.specs.Prelude.{◌≡◌, ◌≤◌, ◌^◌, ℕ, List, length, Option, Some, None, IsSomeAnd}
use Rattle.eql_ckdisk.specs.declared.head.Head.{Head}
use Rattle.eql_ckdisk.specs.declared.find.LastText.{LastText}
use Rattle.eql_ckdisk.specs.Found.{Found, nothing, text, damaged, foreign, is_open, is_foreign, generation_in, length_in}

-- the head of an area
pub record IsHead (bytes : List ℕ) (head : Head) : Type 0 where
  pub open_is : head.open ≡ is_open bytes
  pub foreign_is : head.foreign ≡ is_foreign bytes
  pub generation_is : head.generation ≡ generation_in bytes
  pub length_is : 17 ≤ length bytes → head.length ≡ length_in bytes

-- the text is what was found
abbrev pub IsTextFound : LastText → Found → Type 0
IsTextFound last nothing = (last.text ≡ None) × (last.state.generation ≡ 0)
IsTextFound last (text area generation bytes) =
    IsSomeAnd last.text (λ v. v.items ≡ bytes) × (last.state.area ≡ area) × (last.state.generation ≡ generation)
IsTextFound last (damaged area generation) = ⊥
IsTextFound last (foreign area) = ⊥

-- there is a text exactly when the generation isn't 0
abbrev pub IsNoneOrText : {T : Type 0} → Option T → ℕ → Type 0
IsNoneOrText None generation = generation ≡ 0
IsNoneOrText (Some bytes) generation = (1 ≤ generation) × (generation ≤ 2 ^ 63)
