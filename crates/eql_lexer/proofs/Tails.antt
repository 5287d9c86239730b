-- What is left of a text is a tail of it.
use Rattle.std.proofs.Common.{◌≡◌, ℕ, ◌+◌, ◌≤◌, List, [], ◌∷◌, ◌++◌, length, drop, take, Bool, true, false, cond, Option, None, Some, inl, inr, ◌⊎◌, refl, sym, ap, ◌∙◌, arith, append_assoc, length-append, ◌==◌, ◌&&◌}
use Rattle.std.proofs.lemmas.List.{take-append-drop}
use Rattle.std.specs.List.{prefix_len}
use Rattle.eql_lexer.specs.declared.token.Sign.{Sign}
use Rattle.eql_lexer.specs.declared.token.Sign.TheVariants.{Open}
use Rattle.eql_lexer.specs.declared.token.Tok.{Tok}
use Rattle.eql_lexer.specs.declared.token.Tok.TheVariants as tok
use Rattle.eql_lexer.specs.Bytes.{begins, is_digit, is_hex, is_white}
use Rattle.eql_lexer.specs.Blanks.{gap, line_comment, block_comment, within_block, block_end}
use Rattle.eql_lexer.specs.Signs.{spelling}
use Rattle.eql_lexer.specs.Escapes.{escape, unicode}
use Rattle.eql_lexer.specs.Strings.{before_triple, IsContent, closed, plain, escaped, IsBadEscape, bad_here, bad_after_plain, bad_after_escape, with_byte, quoted_name, name_behind}
use Rattle.eql_lexer.specs.Spelling.{word_more, IsLexeme}
use Rattle.eql_lexer.proofs.Unique.{rest_of}
use Rattle.eql_lexer.proofs.Closing.{escape_cases, unicode_given}

-- rest is a tail of bs
abbrev pub Tail : List ℕ → List ℕ → Type 0
Tail bs rest = (pre : List ℕ) × (bs ≡ pre ++ rest)

pub tail_here : (bs : List ℕ) → Tail bs bs
tail_here bs = ([], refl)

pub tail_more : (b : ℕ) (bs rest : List ℕ) → Tail bs rest → Tail (b ∷ bs) rest
tail_more b bs rest h = (b ∷ h.0, ap (λ l. b ∷ l) h.1)

pub tail_next : (bs more : List ℕ) (b : ℕ) → Tail bs (b ∷ more) → Tail bs more
tail_next bs more b h = (h.0 ++ b ∷ [], h.1 ∙ sym (append_assoc h.0 (b ∷ []) more))

pub tail_on : (bs mid rest : List ℕ) → Tail bs mid → Tail mid rest → Tail bs rest
tail_on bs mid rest h k = (h.0 ++ k.0, h.1 ∙ ap (λ l. h.0 ++ l) k.1 ∙ sym (append_assoc h.0 k.0 rest))

pub tail_drop : (n : ℕ) (bs rest : List ℕ) → rest ≡ drop n bs → Tail bs rest
tail_drop n bs rest e = (take n bs, sym (take-append-drop n bs) ∙ ap (λ l. take n bs ++ l) (sym e))

pub tail_within : (bs rest : List ℕ) → Tail bs rest → length rest ≤ length bs
tail_within bs rest h = omega (arith, ap length h.1, length-append h.0 rest)

pick : (from : List ℕ) (b : Bool) (x y : List ℕ) → Tail from x → Tail from y → Tail from (cond b x y)
pick from true x y h k = h
pick from false x y h k = k

mutual
  pub gap_tail : (bs : List ℕ) → Tail bs (gap bs)
  gap_tail [] = tail_here []
  gap_tail (b ∷ bs) =
      pick (b ∷ bs) (is_white b) _ _ (tail_more b bs (gap bs) (gap_tail bs))
      (pick (b ∷ bs) ((b == 47) && begins 47 bs) _ _ (tail_more b bs (line_comment bs) (line_tail bs))
      (pick (b ∷ bs) ((b == 47) && begins 42 bs) _ _ (block_tail (b ∷ bs) bs (tail_more b bs bs (tail_here bs))) (tail_here (b ∷ bs))))

  line_tail : (bs : List ℕ) → Tail bs (line_comment bs)
  line_tail [] = tail_here []
  line_tail (b ∷ bs) = pick (b ∷ bs) (b == 10) _ _ (tail_more b bs (gap bs) (gap_tail bs)) (tail_more b bs (line_comment bs) (line_tail bs))

  block_tail : (opening bs : List ℕ) → Tail opening bs → Tail opening (block_comment opening bs)
  block_tail opening [] h = tail_here opening
  block_tail opening (b ∷ bs) h = within_tail opening bs (tail_next opening bs b h)

  within_tail : (opening bs : List ℕ) → Tail opening bs → Tail opening (within_block opening bs)
  within_tail opening [] h = tail_here opening
  within_tail opening (b ∷ bs) h =
      pick opening ((b == 42) && begins 47 bs) _ _ (tail_on opening bs (block_end bs) (tail_next opening bs b h) (end_tail bs)) (within_tail opening bs (tail_next opening bs b h))

  end_tail : (bs : List ℕ) → Tail bs (block_end bs)
  end_tail [] = tail_here []
  end_tail (b ∷ bs) = tail_more b bs (gap bs) (gap_tail bs)

unicode_tail : (bs : List ℕ) (c : ℕ) (more : List ℕ) → unicode bs ≡ Some (c, more) → Tail bs more
unicode_tail [] c more h = cc
unicode_tail (b ∷ bs) c more h = tail_more b bs more (tail_drop (prefix_len is_hex bs + 1) bs more (sym (unicode_given b bs c more h).2))

either_tail : (bs : List ℕ) (c : ℕ) (more : List ℕ) → (bs ≡ more) ⊎ (unicode bs ≡ Some (c, more)) → Tail bs more
either_tail bs c more (inl h) = ([], h)
either_tail bs c more (inr h) = unicode_tail bs c more h

pub escape_tail : (bs : List ℕ) (c : ℕ) (more : List ℕ) → escape bs ≡ Some (c, more) → Tail bs more
escape_tail [] c more h = cc
escape_tail (b ∷ bs) c more h =
    tail_more b bs more (either_tail bs c more (escape_cases (b == 110) (b == 114) (b == 116) (b == 92) (b == 34) (b == 117) bs (unicode bs) c more h))

pub content_tail : (bs s rest : List ℕ) → IsContent bs s rest → Tail bs rest
content_tail _ _ _ (closed {b = b} {rest = rest} p) = tail_more b rest rest (tail_here rest)
content_tail _ _ rest (plain {b = b} {bs = bs} p h) = tail_more b bs rest (content_tail _ _ _ h)
content_tail _ _ rest (escaped {b = b} {c = c} {bs = bs} {more = more} p e f h) = tail_more b bs rest (tail_on bs more rest (escape_tail bs c more e) (content_tail _ _ _ h))

pub bad_within : (bs place : List ℕ) → IsBadEscape bs place → length place ≤ length bs
bad_within _ _ (bad_here p none) = omega arith
bad_within _ _ (bad_after_plain p h) = omega (arith, bad_within _ _ h)
bad_within _ _ (bad_after_escape {c = c} {bs = bs} {more = more} p e h) = omega (arith, bad_within _ _ h, tail_within bs more (escape_tail bs c more e))

put_from : (b : ℕ) (o : Option (List ℕ × List ℕ)) (s rest : List ℕ) → with_byte b o ≡ Some (s, rest) → (t : List ℕ) × (o ≡ Some (t, rest))
put_from b None s rest h = cc
put_from b (Some x) s rest h = (x.0, ap (λ r. Some (x.0, r)) (ap rest_of h))

name_step : (t u : Bool) (b : ℕ) (bs : List ℕ) (o i : Option (List ℕ × List ℕ)) (s rest : List ℕ) → cond t o (cond u None (with_byte b i)) ≡ Some (s, rest)
    → ((s : List ℕ) → o ≡ Some (s, rest) → Tail bs rest) → ((s : List ℕ) → i ≡ Some (s, rest) → Tail bs rest) → Tail (b ∷ bs) rest
name_step true u b bs o i s rest h f g = tail_more b bs rest (f s h)
name_step false true b bs o i s rest h f g = cc
name_step false false b bs o i s rest h f g = let k = put_from b i s rest h in tail_more b bs rest (g k.0 k.1)

behind_step : (t : Bool) (b : ℕ) (bs : List ℕ) (i : Option (List ℕ × List ℕ)) (s rest : List ℕ) → cond t (with_byte 96 i) (Some ([], b ∷ bs)) ≡ Some (s, rest)
    → ((s : List ℕ) → i ≡ Some (s, rest) → Tail bs rest) → Tail (b ∷ bs) rest
behind_step true b bs i s rest h g = let k = put_from 96 i s rest h in tail_more b bs rest (g k.0 k.1)
behind_step false b bs i s rest h g = ([], ap rest_of h)

mutual
  pub name_tail : (bs s rest : List ℕ) → quoted_name bs ≡ Some (s, rest) → Tail bs rest
  name_tail [] s rest h = cc
  name_tail (b ∷ bs) s rest h = name_step (b == 96) (b == 10) b bs (name_behind bs) (quoted_name bs) s rest h (λ t k. behind_tail bs t rest k) (λ t k. name_tail bs t rest k)

  behind_tail : (bs s rest : List ℕ) → name_behind bs ≡ Some (s, rest) → Tail bs rest
  behind_tail [] s rest h = ([], ap rest_of h)
  behind_tail (b ∷ bs) s rest h = behind_step (b == 96) b bs (quoted_name bs) s rest h (λ t k. name_tail bs t rest k)

sign_rest : (x : Sign) (b : ℕ) (bs rest : List ℕ) → b ∷ bs ≡ spelling x ++ rest → bs ≡ drop 1 (spelling x) ++ rest
sign_rest Open b bs rest h = cc
sign_rest _ b bs rest h = cc

string_tail : (b : ℕ) (bs s rest : List ℕ) → IsLexeme (b ∷ bs) (tok.Str s) rest → Tail bs rest
string_tail b bs s rest (q, inl h) = tail_on bs (drop 2 bs) rest (tail_drop 2 bs _ refl) (tail_on (drop 2 bs) (drop (before_triple (drop 2 bs)) (drop 2 bs)) rest (tail_drop (before_triple (drop 2 bs)) (drop 2 bs) _ refl) (tail_drop 3 (drop (before_triple (drop 2 bs)) (drop 2 bs)) rest h.1.2))
string_tail b bs s rest (q, inr h) = content_tail bs h.1.0 rest h.1.1

-- what a token leaves is a tail of what follows its first byte
pub lexeme_tail : (b : ℕ) (bs : List ℕ) (t : Tok) (rest : List ℕ) → IsLexeme (b ∷ bs) t rest → Tail bs rest
lexeme_tail b bs (tok.Word w) rest h = tail_drop (word_more bs) bs rest h.2
lexeme_tail b bs (tok.Back w) rest h = name_tail bs h.1.0 rest h.1.1
lexeme_tail b bs (tok.Str s) rest h = string_tail b bs s rest h
lexeme_tail b bs (tok.Num n) rest h = tail_drop (prefix_len is_digit bs) bs rest h.3
lexeme_tail b bs (tok.Sign x) rest h = (drop 1 (spelling x), sign_rest x b bs rest h.0)
