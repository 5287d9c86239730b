-- Every text spells tokens or breaks a rule.
use Rattle.std.proofs.Common.{◌≡◌, ◌≢◌, ℕ, zero, suc, ◌+◌, ◌-◌, ◌<◌, ◌≤◌, ◌^◌, pos, List, [], ◌∷◌, ◌++◌, length, drop, take, true, false, Bool, Option, Some, None, inl, inr, ◌⊎◌, refl, sym, ap, subst, ◌∙◌, arith, ◌==◌, nat_lt, encode_utf8}
use Rattle.std.proofs.lemmas.Bool.Decides.{nat_tests}
use Rattle.std.specs.List.{take_while, prefix_len}
use Rattle.std.specs.Str.{chars}
use Rattle.eql_lexer.specs.declared.token.Sign.{Sign}
use Rattle.eql_lexer.specs.declared.token.Tok.{Tok}
use Rattle.eql_lexer.specs.declared.token.Tok.TheVariants as tok
use Rattle.eql_lexer.specs.declared.token.Token.{Token}
use Rattle.eql_lexer.specs.declared.refusal.Rule.{Rule}
use Rattle.eql_lexer.specs.declared.refusal.Rule.TheVariants as rule
use Rattle.eql_lexer.specs.Bytes.{begins, begins_fraction, is_digit, is_letter, number}
use Rattle.eql_lexer.specs.Blanks.{gap}
use Rattle.eql_lexer.specs.Escapes.{escape}
use Rattle.eql_lexer.specs.Signs.{spelling, sign_at}
use Rattle.eql_lexer.specs.Strings.{IsPlain, IsContent, closed, plain, escaped, IsBadEscape, bad_here, bad_after_plain, bad_after_escape, is_closed, is_closed_behind, triple, before_triple, quoted_name, is_name}
use Rattle.eql_lexer.specs.Spelling.{word_more, IsLexeme, AreTokensTo, Spells}
use Rattle.eql_lexer.specs.Refusing.{BreaksRule, BreaksAt}
use Rattle.eql_lexer.proofs.Unique.{true_not_false}
use Rattle.eql_lexer.proofs.Closing.{equal, closed_plain, closed_escape}
use Rattle.eql_lexer.proofs.SignsFound.{sign_found}
use Rattle.eql_lexer.proofs.Tails.{tail_within, gap_tail, escape_tail}
use Rattle.eql_lexer.proofs.Places.{lexeme_within, broken_within}

differs : (b c : ℕ) → (b == c) ≡ false → b ≡ c → ⊥
differs b c h e = grind (arith, nat_tests)

below_at : (t : Bool) (x y : ℕ) → nat_lt x y ≡ t → (x < y) ⊎ (y ≤ x)
below_at true x y h = inl (grind (arith, nat_tests))
below_at false x y h = inr (grind (arith, nat_tests))

-- what stands behind a quote: a string, or a backslash that begins no escape
abbrev Contents : List ℕ → Type 0
Contents bs = ((s : List ℕ) × (rest : List ℕ) × IsContent bs s rest) ⊎ ((place : List ℕ) × IsBadEscape bs place)

behind_plain : (b : ℕ) (bs : List ℕ) → IsPlain b → Contents bs → Contents (b ∷ bs)
behind_plain b bs p (inl h) = inl (b ∷ h.0, h.1, plain p h.2)
behind_plain b bs p (inr h) = inr (h.0, bad_after_plain p h.1)

behind_escape : (b c : ℕ) (bs more : List ℕ) → b ≡ 92 → escape bs ≡ Some (c, more) → Contents more → Contents (b ∷ bs)
behind_escape b c bs more p e (inl h) = inl (encode_utf8 c ++ h.0, h.1, escaped p e refl h.2)
behind_escape b c bs more p e (inr h) = inr (h.0, bad_after_escape p e h.1)

behind_backslash : (o : Option (ℕ × List ℕ)) (b : ℕ) (bs : List ℕ) → escape bs ≡ o → b ≡ 92 → ((c : ℕ) (more : List ℕ) → escape bs ≡ Some (c, more) → Contents more) → Contents (b ∷ bs)
behind_backslash None b bs e p go = inr (b ∷ bs, bad_here p e)
behind_backslash (Some x) b bs e p go = behind_escape b x.0 bs x.1 p e (go x.0 x.1 e)

contents_at : (q n s : Bool) (b : ℕ) (bs : List ℕ) → (b == 34) ≡ q → (b == 10) ≡ n → (b == 92) ≡ s → is_closed (b ∷ bs) ≡ true
    → (is_closed bs ≡ true → Contents bs) → ((c : ℕ) (more : List ℕ) → escape bs ≡ Some (c, more) → is_closed more ≡ true → Contents more) → Contents (b ∷ bs)
contents_at true n s b bs e f g h go next = inl ([], bs, closed (equal b 34 e))
contents_at false true s b bs e f g h go next = let line : is_closed (b ∷ bs) ≡ false = rw (e, f) refl in absurd (true_not_false (sym h ∙ line))
contents_at false false true b bs e f g h go next =
    let behind : is_closed (b ∷ bs) ≡ is_closed_behind bs = rw (e, f, g) refl in
    behind_backslash (escape bs) b bs refl (equal b 92 g) (λ c more k. next c more k (sym (closed_escape bs c more k) ∙ sym behind ∙ h))
contents_at false false false b bs e f g h go next =
    let p : IsPlain b = (differs b 34 e, differs b 92 g, differs b 10 f) in
    behind_plain b bs p (go (sym (closed_plain b bs p) ∙ h))

contents : (k : ℕ) (bs : List ℕ) → length bs ≤ k → is_closed bs ≡ true → Contents bs
contents k [] q h = absurd (true_not_false (sym h))
contents zero (b ∷ bs) q h = absurd (omega (arith, q))
contents (suc k) (b ∷ bs) q h =
    contents_at (b == 34) (b == 10) (b == 92) b bs refl refl refl h (λ g. contents k bs (omega (arith, q)) g)
    (λ c more e g. contents k more (omega (arith, q, tail_within bs more (escape_tail bs c more e))) g)

-- what a text begins with: a token, or a place where a rule is broken
abbrev Front : List ℕ → Type 0
Front from = ((t : Tok) × (rest : List ℕ) × IsLexeme from t rest) ⊎ ((r : Rule) × (place : List ℕ) × BreaksRule r from place)

number_front : (f : Bool) (b : ℕ) (bs : List ℕ) → is_digit b ≡ true → begins_fraction (drop (prefix_len is_digit bs) bs) ≡ f
    → (number 0 (b ∷ take_while is_digit bs) < 2 ^ 63) ⊎ (2 ^ 63 ≤ number 0 (b ∷ take_while is_digit bs)) → Front (b ∷ bs)
number_front true b bs d f w = inr (rule.Fraction, b ∷ bs, (refl, d, f))
number_front false b bs d f (inl w) = inl (tok.Num (pos (number 0 (b ∷ take_while is_digit bs))), drop (prefix_len is_digit bs) bs, (d, refl, w, refl, f))
number_front false b bs d f (inr w) = inr (rule.NumberRange, b ∷ bs, (refl, d, f, w))

raw_front : (t : Bool) (b : ℕ) (bs : List ℕ) → b ≡ 34 → triple (b ∷ bs) ≡ true → triple (drop (before_triple (drop 2 bs)) (drop 2 bs)) ≡ t → Front (b ∷ bs)
raw_front true b bs q h c =
    inl (tok.Str (chars (take (before_triple (drop 2 bs)) (drop 2 bs))), drop 3 (drop (before_triple (drop 2 bs)) (drop 2 bs)), (q, inl (h, (refl, c, refl))))
raw_front false b bs q h c = inr (rule.OpenString, b ∷ bs, (refl, inl (q, h, c)))

closed_front : (b : ℕ) (bs : List ℕ) → b ≡ 34 → triple (b ∷ bs) ≡ false → is_closed bs ≡ true → Contents bs → Front (b ∷ bs)
closed_front b bs q h c (inl k) = inl (tok.Str (chars k.0), k.1, (q, inr (h, (k.0, k.2, refl))))
closed_front b bs q h c (inr k) = inr (rule.BadEscape, k.0, (q, h, c, k.1))

line_front : (t : Bool) (b : ℕ) (bs : List ℕ) → b ≡ 34 → triple (b ∷ bs) ≡ false → is_closed bs ≡ t → Front (b ∷ bs)
line_front true b bs q h c = closed_front b bs q h c (contents (length bs) bs (omega arith) c)
line_front false b bs q h c = inr (rule.OpenString, b ∷ bs, (refl, inr (inl (q, h, c))))

string_front : (t : Bool) (b : ℕ) (bs : List ℕ) → b ≡ 34 → triple (b ∷ bs) ≡ t → Front (b ∷ bs)
string_front true b bs q h = raw_front (triple (drop (before_triple (drop 2 bs)) (drop 2 bs))) b bs q h refl
string_front false b bs q h = line_front (is_closed bs) b bs q h refl

name_front : (t : Bool) (o : Option (List ℕ × List ℕ)) (b : ℕ) (bs : List ℕ) → b ≡ 96 → quoted_name bs ≡ o → is_name (quoted_name bs) ≡ t → Front (b ∷ bs)
name_front false o b bs q e h = inr (rule.OpenString, b ∷ bs, (refl, inr (inr (q, h))))
name_front true None b bs q e h = absurd (true_not_false (sym h ∙ ap is_name e))
name_front true (Some x) b bs q e h = inl (tok.Back (chars x.0), x.1, (q, (x.0, e, h, refl)))

-- neither a letter, nor a digit, a quote or a backtick
record IsOther (b : ℕ) : Type 0 where
  letter : is_letter b ≡ false
  digit : is_digit b ≡ false
  quote : b ≢ 34
  tick : b ≢ 96
  single : b ≢ 39

sign_front : (o : Option Sign) (b : ℕ) (bs : List ℕ) → IsOther b → sign_at (b ∷ bs) ≡ o → ((b ≡ 47) → begins 42 bs ≡ false) → Front (b ∷ bs)
sign_front None b bs p e c = inr (rule.BadByte, b ∷ bs, (refl, p.letter, p.digit, p.quote, p.tick, p.single, c, e))
sign_front (Some x) b bs p e c = inl (tok.Sign x, drop (length (spelling x)) (b ∷ bs), sign_found (b ∷ bs) bs (drop (length (spelling x)) (b ∷ bs)) b x refl e refl)

comment_front : (s c : Bool) (b : ℕ) (bs : List ℕ) → IsOther b → (b == 47) ≡ s → begins 42 bs ≡ c → Front (b ∷ bs)
comment_front true true b bs p e h = inr (rule.OpenComment, b ∷ bs, (refl, equal b 47 e, h))
comment_front true false b bs p e h = sign_front (sign_at (b ∷ bs)) b bs p refl (λ _. h)
comment_front false c b bs p e h = sign_front (sign_at (b ∷ bs)) b bs p refl (λ q. absurd (differs b 47 e q))

other_front : (q t s : Bool) (b : ℕ) (bs : List ℕ) → is_letter b ≡ false → is_digit b ≡ false → (b == 34) ≡ q → (b == 96) ≡ t → (b == 39) ≡ s → Front (b ∷ bs)
other_front true t s b bs l d e f g = string_front (triple (b ∷ bs)) b bs (equal b 34 e) refl
other_front false true s b bs l d e f g = name_front (is_name (quoted_name bs)) (quoted_name bs) b bs (equal b 96 f) refl refl
other_front false false true b bs l d e f g = inr (rule.SingleQuote, b ∷ bs, (refl, equal b 39 g))
other_front false false false b bs l d e f g =
    comment_front (b == 47) (begins 42 bs) b bs (record { letter = l; digit = d; quote = differs b 34 e; tick = differs b 96 f; single = differs b 39 g }) refl refl

first_front : (l d : Bool) (b : ℕ) (bs : List ℕ) → is_letter b ≡ l → is_digit b ≡ d → Front (b ∷ bs)
first_front true d b bs e f = inl (tok.Word (b ∷ take (word_more bs) bs), drop (word_more bs) bs, (e, refl, refl))
first_front false true b bs e f =
    number_front (begins_fraction (drop (prefix_len is_digit bs) bs)) b bs f refl
    (below_at (nat_lt (number 0 (b ∷ take_while is_digit bs)) (2 ^ 63)) (number 0 (b ∷ take_while is_digit bs)) (2 ^ 63) refl)
first_front false false b bs e f = other_front (b == 34) (b == 96) (b == 39) b bs e f refl refl refl

-- of a text of n bytes, from here on: tokens up to its end, or up to a place where a rule is broken
abbrev Whole : ℕ → List ℕ → Type 0
Whole n text =
    ((ts : List Token) × (stop : List ℕ) × AreTokensTo n text ts stop × (gap stop ≡ []))
    ⊎ ((r : Rule) × (at : ℕ) × (ts : List Token) × (stop place : List ℕ) × AreTokensTo n text ts stop × BreaksRule r (gap stop) place × (at + length place ≡ n))

behind_token : (n : ℕ) (text : List ℕ) (t : Tok) (rest : List ℕ) → IsLexeme (gap text) t rest → length (gap text) ≤ n → length rest ≤ n → Whole n rest → Whole n text
behind_token n text t rest h p q (inl k) =
    inl (record { tok = t; start = n - length (gap text); end = n - length rest } ∷ k.0, k.1, (rest, h, omega (arith, p), omega (arith, q), k.2), k.3)
behind_token n text t rest h p q (inr k) =
    inr (k.0, k.1, record { tok = t; start = n - length (gap text); end = n - length rest } ∷ k.2, k.3, k.4, (rest, h, omega (arith, p), omega (arith, q), k.5), k.6, k.7)

whole_at : (k n : ℕ) (text from : List ℕ) → gap text ≡ from → length from ≤ suc k → length from ≤ n → ((rest : List ℕ) → length rest ≤ k → length rest ≤ n → Whole n rest) → Front from → Whole n text
whole_at k n text from e p q go (inl h) =
    let less : length h.1 < length from = lexeme_within from h.0 h.1 h.2 in
    behind_token n text h.0 h.1 (subst (λ l. IsLexeme l h.0 h.1) (sym e) h.2) (omega (arith, ap length e, q)) (omega (arith, less, q)) (go h.1 (omega (arith, less, p)) (omega (arith, less, q)))
whole_at k n text from e p q go (inr h) =
    let within : length h.1 ≤ length from = broken_within h.0 from h.1 h.2 in
    inr (h.0, n - length h.1, [], text, h.1, refl, subst (λ l. BreaksRule h.0 l h.1) (sym e) h.2, omega (arith, within, q))

whole_from : (k n : ℕ) (text from : List ℕ) → gap text ≡ from → length from ≤ k → length from ≤ n → ((j : ℕ) → suc j ≡ k → (rest : List ℕ) → length rest ≤ j → length rest ≤ n → Whole n rest) → Whole n text
whole_from k n text [] e p q go = inl ([], text, refl, e)
whole_from zero n text (b ∷ bs) e p q go = absurd (omega (arith, p))
whole_from (suc k) n text (b ∷ bs) e p q go = whole_at k n text (b ∷ bs) e p q (go k refl) (first_front (is_letter b) (is_digit b) b bs refl refl)

whole : (k n : ℕ) (text : List ℕ) → length text ≤ k → length text ≤ n → Whole n text
whole zero n text p q =
    let less : length (gap text) ≤ length text = tail_within text (gap text) (gap_tail text) in
    whole_from zero n text (gap text) refl (omega (arith, less, p)) (omega (arith, less, q)) (λ j e. absurd (omega (arith, e)))
whole (suc k) n text p q =
    let less : length (gap text) ≤ length text = tail_within text (gap text) (gap_tail text) in
    whole_from (suc k) n text (gap text) refl (omega (arith, less, p)) (omega (arith, less, q)) (λ j e rest u v. whole k n rest (omega (arith, e, u)) v)

said : (text : List ℕ) → Whole (length text) text → ((ts : List Token) × Spells text ts) ⊎ ((r : Rule) × (at : ℕ) × BreaksAt text r at)
said text (inl h) = inl (h.0, (h.1, h.2, h.3))
said text (inr h) = inr (h.0, h.1, (h.2, h.3, h.4, h.5, h.6, h.7))

-- every text spells tokens or breaks a rule
pub spelled_or_broken : (text : List ℕ) → ((ts : List Token) × Spells text ts) ⊎ ((r : Rule) × (at : ℕ) × BreaksAt text r at)
spelled_or_broken text = said text (whole (length text) (length text) text (omega arith) (omega arith))
