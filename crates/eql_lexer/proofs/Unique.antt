-- A text has at most one list of tokens.
use Rattle.std.proofs.Common.{◌≡◌, ◌≢◌, ℕ, List, [], ◌∷◌, ◌++◌, length, true, false, Option, None, Some, inl, inr, refl, sym, ap, subst, append-nil, ◌∙◌, arith}
use Rattle.std.specs.Str.{chars}
use Rattle.std.proofs.lemmas.Bool.Decides.{nat_tests}
use Rattle.eql_lexer.specs.declared.token.Sign.{Sign}
use Rattle.eql_lexer.specs.declared.token.Sign.TheVariants.{Open, Close, OpenBracket, CloseBracket, Comma, Dot, Bar, Question, Bang, Assign, Equal, NotEqual, Less, AtMost, Greater, AtLeast, Colon, Plus, Minus, Star, Slash, Percent}
use Rattle.eql_lexer.specs.declared.token.Tok.{Tok}
use Rattle.eql_lexer.specs.declared.token.Tok.TheVariants as tok
use Rattle.eql_lexer.specs.declared.token.Token.{Token}
use Rattle.eql_lexer.specs.Bytes.{is_digit, is_letter}
use Rattle.eql_lexer.specs.Blanks.{gap}
use Rattle.eql_lexer.specs.Signs.{spelling, grows, sign_at}
use Rattle.eql_lexer.specs.Strings.{IsContent, closed, plain, escaped, quoted_name}
use Rattle.eql_lexer.specs.Spelling.{IsLexeme, AreTokensTo, Spells}

-- the parts of what a reading gave
abbrev pub char_of : Option (ℕ × List ℕ) → ℕ
char_of None = 0
char_of (Some x) = x.0

abbrev pub behind_of : Option (ℕ × List ℕ) → List ℕ
behind_of None = []
behind_of (Some x) = x.1

abbrev pub name_of : Option (List ℕ × List ℕ) → List ℕ
name_of None = []
name_of (Some x) = x.0

abbrev pub rest_of : Option (List ℕ × List ℕ) → List ℕ
rest_of None = []
rest_of (Some x) = x.1

pub escape_one : (o : Option (ℕ × List ℕ)) (c d : ℕ) (m n : List ℕ) → o ≡ Some (c, m) → o ≡ Some (d, n) → (c ≡ d) × (m ≡ n)
escape_one o c d m n h k = (sym (ap char_of h) ∙ ap char_of k, sym (ap behind_of h) ∙ ap behind_of k)

pub name_one : (o : Option (List ℕ × List ℕ)) (s t m n : List ℕ) → o ≡ Some (s, m) → o ≡ Some (t, n) → (s ≡ t) × (m ≡ n)
name_one o s t m n h k = (sym (ap name_of h) ∙ ap name_of k, sym (ap rest_of h) ∙ ap rest_of k)

pub content_one : (bs s r s' r' : List ℕ) → IsContent bs s r → IsContent bs s' r' → (s ≡ s') × (r ≡ r')
content_one _ _ _ _ _ (closed p) (closed q) = (refl, refl)
content_one _ _ _ _ _ (closed p) (plain q k) = absurd (q.0 p)
content_one _ _ _ _ _ (closed p) (escaped q e f k) = absurd (omega (arith, p, q))
content_one _ _ _ _ _ (plain q k) (closed p) = absurd (q.0 p)
content_one _ _ _ _ _ (plain {b = b} q h) (plain p k) = let ih = content_one _ _ _ _ _ h k in (ap (λ l. b ∷ l) ih.0, ih.1)
content_one _ _ _ _ _ (plain q k) (escaped p e f h) = absurd (q.1 p)
content_one _ _ _ _ _ (escaped q e f k) (closed p) = absurd (omega (arith, p, q))
content_one _ _ _ _ _ (escaped q e f k) (plain p h) = absurd (p.1 q)
content_one _ _ _ s' r' (escaped {c = c} {bs = bs} {more = m} {s = s} q e f h) (escaped {c = d} {more = n} {s = t} p e' f' k) =
    let one = escape_one _ c d m n e e' in
    let ih = content_one _ _ _ _ _ h (subst (λ l. IsContent l t r') (sym one.1) k) in
    (cc, ih.1)

-- the kind of token that begins with a byte
pub true_not_false : true ≡ false → ⊥
true_not_false h = cc

pub not_letter : (b c : ℕ) → is_letter b ≡ true → is_letter c ≡ false → b ≡ c → ⊥
not_letter b c h k e = true_not_false (sym h ∙ ap is_letter e ∙ k)

pub not_digit : (b c : ℕ) → is_digit b ≡ true → is_digit c ≡ false → b ≡ c → ⊥
not_digit b c h k e = true_not_false (sym h ∙ ap is_digit e ∙ k)

pub not_letter_digit : (b : ℕ) → is_letter b ≡ true → is_digit b ≡ true → ⊥
not_letter_digit b h k = grind (arith, nat_tests)

abbrev first : Sign → ℕ
first Open = 40
first Close = 41
first OpenBracket = 91
first CloseBracket = 93
first Comma = 44
first Dot = 46
first Bar = 124
first Question = 63
first Bang = 33
first Assign = 61
first Equal = 61
first NotEqual = 33
first Less = 60
first AtMost = 60
first Greater = 62
first AtLeast = 62
first Colon = 58
first Plus = 43
first Minus = 45
first Star = 42
first Slash = 47
first Percent = 37

first_is : (x : Sign) (b : ℕ) (bs rest : List ℕ) → b ∷ bs ≡ spelling x ++ rest → b ≡ first x
first_is Open b bs rest h = cc
first_is _ b bs rest h = cc

sign_kind : (x : Sign) → (is_letter (first x) ≡ false) × (is_digit (first x) ≡ false) × (first x ≢ 34) × (first x ≢ 96) × (first x ≢ 39)
sign_kind Open = (refl, refl, λ e. omega (arith, e), λ e. omega (arith, e), λ e. omega (arith, e))
sign_kind _ = (refl, refl, λ e. omega (arith, e), λ e. omega (arith, e), λ e. omega (arith, e))

pub no_sign : (x : Sign) (b : ℕ) (bs rest : List ℕ) → b ∷ bs ≡ spelling x ++ rest → (is_letter b ≡ false) × (is_digit b ≡ false) × (b ≢ 34) × (b ≢ 96) × (b ≢ 39)
no_sign x b bs rest h = let e = first_is x b bs rest h in rw e (sign_kind x)

pub sign_at_is : (x : Sign) (from rest : List ℕ) → from ≡ spelling x ++ rest → grows x rest ≡ false → sign_at from ≡ Some x
sign_at_is Bang from rest h k = rw (h, k) refl
sign_at_is Assign from rest h k = rw (h, k) refl
sign_at_is Less from rest h k = rw (h, k) refl
sign_at_is Greater from rest h k = rw (h, k) refl
sign_at_is Slash from rest h k = rw (h, k) refl
sign_at_is _ from rest h k = rw h refl

same_rest : (x : Sign) (r s : List ℕ) → spelling x ++ r ≡ spelling x ++ s → r ≡ s
same_rest Open r s h = cc
same_rest _ r s h = cc

sign_one : (x y : Sign) (from r s : List ℕ) → from ≡ spelling x ++ r → grows x r ≡ false → from ≡ spelling y ++ s → grows y s ≡ false → (x ≡ y) × (r ≡ s)
sign_one x y from r s h j k l =
    let e : x ≡ y = let a = sign_at_is x from r h j in let b = sign_at_is y from s k l in cc in
    (e, same_rest x r s (sym h ∙ k ∙ ap (λ z. spelling z ++ s) (sym e)))

string_one : (bs v w r s : List ℕ) → IsLexeme bs (tok.Str v) r → IsLexeme bs (tok.Str w) s → (v ≡ w) × (r ≡ s)
string_one [] v w r s h k = absurd h
string_one (b ∷ bs) v w r s (q, inl h) (p, inl k) = (h.1.0 ∙ sym k.1.0, h.1.2 ∙ sym k.1.2)
string_one (b ∷ bs) v w r s (q, inl h) (p, inr k) = absurd (true_not_false (sym h.0 ∙ k.0))
string_one (b ∷ bs) v w r s (q, inr h) (p, inl k) = absurd (true_not_false (sym k.0 ∙ h.0))
string_one (b ∷ bs) v w r s (q, inr h) (p, inr k) = let one = content_one _ _ _ _ _ h.1.1 k.1.1 in (h.1.2 ∙ ap chars one.0 ∙ sym k.1.2, one.1)

back_one : (b : ℕ) (bs v w r s : List ℕ) → IsLexeme (b ∷ bs) (tok.Back v) r → IsLexeme (b ∷ bs) (tok.Back w) s → (v ≡ w) × (r ≡ s)
back_one b bs v w r s h k = let one = name_one (quoted_name bs) _ _ _ _ h.1.1 k.1.1 in (h.1.3 ∙ ap chars one.0 ∙ sym k.1.3, one.1)

pub lexeme_one : (from : List ℕ) (t u : Tok) (r s : List ℕ) → IsLexeme from t r → IsLexeme from u s → (t ≡ u) × (r ≡ s)
lexeme_one [] t u r s h k = absurd h
lexeme_one (b ∷ bs) (tok.Word v) (tok.Word w) r s h k = (cc, cc)
lexeme_one (b ∷ bs) (tok.Word v) (tok.Back w) r s h k = absurd (not_letter b 96 h.0 refl k.0)
lexeme_one (b ∷ bs) (tok.Word v) (tok.Str w) r s h k = absurd (not_letter b 34 h.0 refl k.0)
lexeme_one (b ∷ bs) (tok.Word v) (tok.Num n) r s h k = absurd (not_letter_digit b h.0 k.0)
lexeme_one (b ∷ bs) (tok.Word v) (tok.Sign y) r s h k = absurd (true_not_false (sym h.0 ∙ (no_sign y b bs s k.0).0))
lexeme_one (b ∷ bs) (tok.Back v) (tok.Word w) r s h k = absurd (not_letter b 96 k.0 refl h.0)
lexeme_one (b ∷ bs) (tok.Back v) (tok.Back w) r s h k = let one = back_one b bs v w r s h k in (ap tok.Back one.0, one.1)
lexeme_one (b ∷ bs) (tok.Back v) (tok.Str w) r s h k = absurd (omega (arith, h.0, k.0))
lexeme_one (b ∷ bs) (tok.Back v) (tok.Num n) r s h k = absurd (not_digit b 96 k.0 refl h.0)
lexeme_one (b ∷ bs) (tok.Back v) (tok.Sign y) r s h k = absurd ((no_sign y b bs s k.0).3 h.0)
lexeme_one (b ∷ bs) (tok.Str v) (tok.Word w) r s h k = absurd (not_letter b 34 k.0 refl h.0)
lexeme_one (b ∷ bs) (tok.Str v) (tok.Back w) r s h k = absurd (omega (arith, h.0, k.0))
lexeme_one (b ∷ bs) (tok.Str v) (tok.Str w) r s h k = let one = string_one (b ∷ bs) v w r s h k in (ap tok.Str one.0, one.1)
lexeme_one (b ∷ bs) (tok.Str v) (tok.Num n) r s h k = absurd (not_digit b 34 k.0 refl h.0)
lexeme_one (b ∷ bs) (tok.Str v) (tok.Sign y) r s h k = absurd ((no_sign y b bs s k.0).2 h.0)
lexeme_one (b ∷ bs) (tok.Num m) (tok.Word w) r s h k = absurd (not_letter_digit b k.0 h.0)
lexeme_one (b ∷ bs) (tok.Num m) (tok.Back w) r s h k = absurd (not_digit b 96 h.0 refl k.0)
lexeme_one (b ∷ bs) (tok.Num m) (tok.Str w) r s h k = absurd (not_digit b 34 h.0 refl k.0)
lexeme_one (b ∷ bs) (tok.Num m) (tok.Num n) r s h k = (cc, cc)
lexeme_one (b ∷ bs) (tok.Num m) (tok.Sign y) r s h k = absurd (true_not_false (sym h.0 ∙ (no_sign y b bs s k.0).1))
lexeme_one (b ∷ bs) (tok.Sign x) (tok.Word w) r s h k = absurd (true_not_false (sym k.0 ∙ (no_sign x b bs r h.0).0))
lexeme_one (b ∷ bs) (tok.Sign x) (tok.Back w) r s h k = absurd ((no_sign x b bs r h.0).3 k.0)
lexeme_one (b ∷ bs) (tok.Sign x) (tok.Str w) r s h k = absurd ((no_sign x b bs r h.0).2 k.0)
lexeme_one (b ∷ bs) (tok.Sign x) (tok.Num n) r s h k = absurd (true_not_false (sym k.0 ∙ (no_sign x b bs r h.0).1))
lexeme_one (b ∷ bs) (tok.Sign x) (tok.Sign y) r s h k = let one = sign_one x y _ r s h.0 h.1 k.0 k.1 in (ap tok.Sign one.0, one.1)

same_token : (t u : Token) → t.tok ≡ u.tok → t.start ≡ u.start → t.end ≡ u.end → t ≡ u
same_token t u p q r = λ i. record { tok = p i; start = q i; end = r i }

-- what has the tokens up to a place, and other tokens, has those behind the place
pub further : (n : ℕ) (text : List ℕ) (ts us : List Token) (mid stop : List ℕ) → AreTokensTo n text ts mid → AreTokensTo n text us stop → gap stop ≡ []
    → (more : List Token) × (us ≡ ts ++ more) × AreTokensTo n mid more stop
further n text [] us mid stop h k e = (us, refl, subst (λ l. AreTokensTo n l us stop) (sym h) k)
further n text (t ∷ ts) [] mid stop h k e = absurd (subst (λ l. IsLexeme l t.tok h.0) (ap gap (sym k) ∙ e) h.1)
further n text (t ∷ ts) (u ∷ us) mid stop h k e =
    let one = lexeme_one _ _ _ _ _ h.1 k.1 in
    let again = further n h.0 ts us mid stop h.4 (subst (λ l. AreTokensTo n l us stop) (sym one.1) k.4) e in
    let starts : t.start ≡ u.start = omega (arith, h.2, k.2) in
    let lengths : length h.0 ≡ length k.0 = ap length one.1 in
    let ends : t.end ≡ u.end = omega (arith, h.3, k.3, lengths) in
    let same : u ≡ t = sym (same_token t u one.0 starts ends) in
    (again.0, cc, again.2)

no_more : (n : ℕ) (mid : List ℕ) (more : List Token) (stop : List ℕ) → AreTokensTo n mid more stop → gap mid ≡ [] → more ≡ []
no_more n mid [] stop h e = refl
no_more n mid (t ∷ ts) stop h e = absurd (subst (λ l. IsLexeme l t.tok h.0) e h.1)

-- a text spells one list of tokens at most
pub one_list : (text : List ℕ) (ts us : List Token) → Spells text ts → Spells text us → ts ≡ us
one_list text ts us h k =
    let far = further (length text) text ts us h.0 k.0 h.1 k.1 k.2 in
    let done = no_more (length text) h.0 far.0 k.0 far.2 h.2 in
    sym (far.1 ∙ ap (λ l. ts ++ l) done ∙ append-nil ts)
