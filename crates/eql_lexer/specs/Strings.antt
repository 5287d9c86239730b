-- What stands between quotes and between backticks.
use Rattle.std.specs.Prelude.{◌≡◌, ◌≢◌, ℕ, suc, List, [], ◌∷◌, ◌++◌, ◌&&◌, ◌==◌, Bool, true, false, Option, Some, None, encode_utf8, if◌then◌else◌}
use Rattle.eql_lexer.specs.Escapes.{escape}

-- the text begins with three quotes
abbrev pub triple : List ℕ → Bool
triple (a ∷ b ∷ c ∷ rest) = (a == 34) && (b == 34) && (c == 34)
triple _ = false

-- how many bytes stand before the first three quotes, or up to the end where there are none
abbrev pub before_triple : List ℕ → ℕ
before_triple [] = 0
before_triple (b ∷ bs) = if triple (b ∷ bs) then 0 else suc (before_triple bs)

-- a byte of a string that stands for itself: neither a quote, nor a backslash, nor a line feed
abbrev pub IsPlain : ℕ → Type 0
IsPlain b = (b ≢ 34) × (b ≢ 92) × (b ≢ 10)

-- a text behind an opening quote, the bytes that the string stands for, and what follows its closing quote
pub data IsContent : List ℕ → List ℕ → List ℕ → Type 0 where
  closed : {b : ℕ} {rest : List ℕ} → b ≡ 34 → IsContent (b ∷ rest) [] rest
  plain : {b : ℕ} {bs s rest : List ℕ} → IsPlain b → IsContent bs s rest → IsContent (b ∷ bs) (b ∷ s) rest
  escaped : {b c : ℕ} {bs more s t rest : List ℕ} → b ≡ 92 → escape bs ≡ Some (c, more) → t ≡ encode_utf8 c ++ s → IsContent more s rest
      → IsContent (b ∷ bs) t rest

-- a text behind an opening quote, and from where on a backslash begins no escape
pub data IsBadEscape : List ℕ → List ℕ → Type 0 where
  bad_here : {b : ℕ} {bs : List ℕ} → b ≡ 92 → escape bs ≡ None → IsBadEscape (b ∷ bs) (b ∷ bs)
  bad_after_plain : {b : ℕ} {bs place : List ℕ} → IsPlain b → IsBadEscape bs place → IsBadEscape (b ∷ bs) place
  bad_after_escape : {b c : ℕ} {bs more place : List ℕ} → b ≡ 92 → escape bs ≡ Some (c, more) → IsBadEscape more place → IsBadEscape (b ∷ bs) place

abbrev mutual
  -- Behind an opening quote a closing one stands before the end of the line. A quote behind a backslash closes nothing.
  pub is_closed : List ℕ → Bool
  is_closed [] = false
  is_closed (b ∷ bs) = if b == 34 then true else (if b == 10 then false else (if b == 92 then is_closed_behind bs else is_closed bs))

  -- the same, behind a backslash
  pub is_closed_behind : List ℕ → Bool
  is_closed_behind [] = false
  is_closed_behind (b ∷ bs) = if b == 10 then false else is_closed bs

-- a byte before what was read
abbrev pub with_byte : ℕ → Option (List ℕ × List ℕ) → Option (List ℕ × List ℕ)
with_byte b None = None
with_byte b (Some x) = Some (b ∷ x.0, x.1)

abbrev mutual
  -- Behind an opening backtick: the name up to the closing one on its line, in which a doubled backtick is one, and
  -- what follows.
  pub quoted_name : List ℕ → Option (List ℕ × List ℕ)
  quoted_name [] = None
  quoted_name (b ∷ bs) = if b == 96 then name_behind bs else (if b == 10 then None else with_byte b (quoted_name bs))

  -- the same, behind a backtick within the name
  pub name_behind : List ℕ → Option (List ℕ × List ℕ)
  name_behind [] = Some ([], [])
  name_behind (b ∷ bs) = if b == 96 then with_byte 96 (quoted_name bs) else Some ([], b ∷ bs)

-- a name is there, and isn't empty
abbrev pub is_name : Option (List ℕ × List ℕ) → Bool
is_name None = false
is_name (Some ([], rest)) = false
is_name (Some (b ∷ bs, rest)) = true
