-- White space and comments, byte by byte.
use Rattle.std.proofs.Common.{◌≡◌, ◌≢◌, ◌⊎◌, inl, inr, ◌-◌, ◌≤◌, ℕ, List, [], ◌∷◌, length, get_or, take, drop, true, false, sym, ap, ◌∙◌, arith, length-take, length-drop}
use Rattle.std.proofs.Math.Seq.{take-length}
use Rattle.eql_lexer.specs.Bytes.{begins, is_white}
use Rattle.eql_lexer.specs.Blanks.{gap, line_comment, within_block}

-- all bytes but the first
abbrev pub behind_first : List ℕ → List ℕ
behind_first l = take (length l - 1) (drop 1 l)

behind_is : (b : ℕ) (bs : List ℕ) → behind_first (b ∷ bs) ≡ bs
behind_is b bs = ap (λ n. take n bs) (omega arith) ∙ take-length bs

behind_shorter : (l : List ℕ) → length (behind_first l) ≤ length l
behind_shorter l = omega (arith, length-take (length l - 1) (drop 1 l), length-drop 1 l)

pub behind_within : (l text : List ℕ) → length l ≤ length text → length (behind_first l) ≤ length text
behind_within l text h = omega (arith, behind_shorter l, h)

pub le_through : (a b c : List ℕ) → length a ≤ length b → length b ≤ length c → length a ≤ length c
le_through a b c g h = omega arith

white_step : (b : ℕ) (bs : List ℕ) → is_white b ≡ true → gap bs ≡ gap (b ∷ bs)
white_step b bs w = simp w

line_step : (b : ℕ) (bs : List ℕ) → is_white b ≡ false → b ≡ 47 → begins 47 bs ≡ true → line_comment bs ≡ gap (b ∷ bs)
line_step b bs w e f = grind (arith, w, e, f)

block_step : (b : ℕ) (bs : List ℕ) → is_white b ≡ false → b ≡ 47 → begins 42 bs ≡ true → within_block (b ∷ bs) (behind_first bs) ≡ gap (b ∷ bs)
block_step b [] w e f = absurd (cc)
block_step b (c ∷ bs) w e f = grind (arith, w, e, f, behind_is c bs)

pub past_white : (rest : List ℕ) → 1 ≤ length rest → is_white (get_or rest 0 0) ≡ true → gap (behind_first rest) ≡ gap rest
past_white [] h w = absurd (omega arith)
past_white (b ∷ bs) h w = ap gap (behind_is b bs) ∙ white_step b bs w

pub at_line : (rest : List ℕ) → 1 ≤ length rest → is_white (get_or rest 0 0) ≡ false → get_or rest 0 0 ≡ 47 → begins 47 (behind_first rest) ≡ true → line_comment (behind_first rest) ≡ gap rest
at_line [] h w e f = absurd (omega arith)
at_line (b ∷ bs) h w e f = ap line_comment (behind_is b bs) ∙ line_step b bs w e (sym (ap (begins 47) (behind_is b bs)) ∙ f)

pub at_block : (rest : List ℕ) → 1 ≤ length rest → is_white (get_or rest 0 0) ≡ false → get_or rest 0 0 ≡ 47 → begins 42 (behind_first rest) ≡ true → within_block rest (behind_first (behind_first rest)) ≡ gap rest
at_block [] h w e f = absurd (omega arith)
at_block (b ∷ bs) h w e f = ap (λ l. within_block (b ∷ bs) (behind_first l)) (behind_is b bs) ∙ block_step b bs w e (sym (ap (begins 42) (behind_is b bs)) ∙ f)

end_step : (b : ℕ) (bs opening : List ℕ) → b ≡ 42 → begins 47 bs ≡ true → within_block opening (b ∷ bs) ≡ gap (behind_first bs)
end_step b [] opening e f = absurd (cc)
end_step b (c ∷ bs) opening e f = grind (arith, e, f, behind_is c bs)

within_step : (b : ℕ) (bs opening : List ℕ) → (b ≢ 42) ⊎ (begins 47 bs ≡ false) → within_block opening bs ≡ within_block opening (b ∷ bs)
within_step b bs opening (inl e) = grind (arith, e)
within_step b bs opening (inr e) = grind (arith, e)

pub past_within : (opening rest : List ℕ) → 1 ≤ length rest → (get_or rest 0 0 ≢ 42) ⊎ (begins 47 (behind_first rest) ≡ false) → within_block opening (behind_first rest) ≡ within_block opening rest
past_within opening [] h e = absurd (omega arith)
past_within opening (b ∷ bs) h (inl e) = ap (within_block opening) (behind_is b bs) ∙ within_step b bs opening (inl e)
past_within opening (b ∷ bs) h (inr e) = ap (within_block opening) (behind_is b bs) ∙ within_step b bs opening (inr (sym (ap (begins 47) (behind_is b bs)) ∙ e))

pub at_block_end : (opening rest : List ℕ) → 1 ≤ length rest → get_or rest 0 0 ≡ 42 → begins 47 (behind_first rest) ≡ true → within_block opening rest ≡ gap (behind_first (behind_first rest))
at_block_end opening [] h e f = absurd (omega arith)
at_block_end opening (b ∷ bs) h e f = end_step b bs opening e (sym (ap (begins 47) (behind_is b bs)) ∙ f) ∙ ap (λ l. gap (behind_first l)) (sym (behind_is b bs))
