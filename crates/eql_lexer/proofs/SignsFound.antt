-- The sign that a text begins with is spelled there.
use Rattle.std.proofs.Common.{◌≡◌, ℕ, List, ◌∷◌, ◌++◌, length, drop, Bool, true, false, cond, Option, None, Some, refl, sym, ap, subst, ◌∙◌, ◌==◌}
use Rattle.eql_lexer.specs.declared.token.Sign.{Sign}
use Rattle.eql_lexer.specs.declared.token.Sign.TheVariants.{Open, Close, OpenBracket, CloseBracket, Comma, Dot, Bar, Question, Bang, Assign, Equal, NotEqual, Less, AtMost, Greater, AtLeast, Colon, Plus, Minus, Star, Slash, Percent}
use Rattle.eql_lexer.specs.declared.token.Tok.TheVariants as tok
use Rattle.eql_lexer.specs.Bytes.{begins}
use Rattle.eql_lexer.specs.Signs.{spelling, grows, sign_at}
use Rattle.eql_lexer.specs.Spelling.{IsLexeme}
use Rattle.eql_lexer.proofs.Closing.{equal, rest_after}

abbrev Stands : ℕ → List ℕ → Sign → Type 0
Stands b bs x = (b ∷ bs ≡ spelling x ++ drop (length (spelling x)) (b ∷ bs)) × (grows x (drop (length (spelling x)) (b ∷ bs)) ≡ false)

-- the sign, if it is one, stands at the front
record AllStand (b : ℕ) (bs : List ℕ) (o : Option Sign) : Type 0 where
  all : (x : Sign) → o ≡ Some x → Stands b bs x

abbrev sign_of : Option Sign → Sign
sign_of None = Open
sign_of (Some x) = x

none_some : (x : Sign) → None ≡ Some x → ⊥
none_some x h = cc

none_stands : (b : ℕ) (bs : List ℕ) → AllStand b bs None
none_stands b bs = record { all = λ x e. absurd (none_some x e) }

some_stands : (b : ℕ) (bs : List ℕ) (s : Sign) → Stands b bs s → AllStand b bs (Some s)
some_stands b bs s h = record { all = λ x e. subst (λ y. Stands b bs y) (ap sign_of e) h }

choose : (b : ℕ) (bs : List ℕ) (t : Bool) (u v : Option Sign) → (t ≡ true → AllStand b bs u) → (t ≡ false → AllStand b bs v) → AllStand b bs (cond t u v)
choose b bs true u v f g = f refl
choose b bs false u v f g = g refl

one_byte : (b c : ℕ) (bs : List ℕ) → (b == c) ≡ true → b ∷ bs ≡ c ∷ bs
one_byte b c bs e = ap (λ x. x ∷ bs) (equal b c e)

two_bytes : (b c d : ℕ) (bs : List ℕ) → (b == c) ≡ true → begins d bs ≡ true → b ∷ bs ≡ c ∷ d ∷ drop 1 bs
two_bytes b c d bs e g = one_byte b c bs e ∙ ap (λ l. c ∷ l) (rest_after d 0 bs g)

sign_cases : (b : ℕ) (bs : List ℕ) → AllStand b bs (sign_at (b ∷ bs))
sign_cases b bs =
    choose b bs (b == 40) _ _ (λ e. some_stands b bs Open (one_byte b 40 bs e, refl))
    (λ e. choose b bs (b == 41) _ _ (λ e. some_stands b bs Close (one_byte b 41 bs e, refl))
    (λ e. choose b bs (b == 91) _ _ (λ e. some_stands b bs OpenBracket (one_byte b 91 bs e, refl))
    (λ e. choose b bs (b == 93) _ _ (λ e. some_stands b bs CloseBracket (one_byte b 93 bs e, refl))
    (λ e. choose b bs (b == 44) _ _ (λ e. some_stands b bs Comma (one_byte b 44 bs e, refl))
    (λ e. choose b bs (b == 46) _ _ (λ e. some_stands b bs Dot (one_byte b 46 bs e, refl))
    (λ e. choose b bs (b == 124) _ _ (λ e. some_stands b bs Bar (one_byte b 124 bs e, refl))
    (λ e. choose b bs (b == 63) _ _ (λ e. some_stands b bs Question (one_byte b 63 bs e, refl))
    (λ e. choose b bs (b == 33) _ _ (λ e. choose b bs (begins 61 bs) _ _ (λ g. some_stands b bs NotEqual (two_bytes b 33 61 bs e g, refl)) (λ g. some_stands b bs Bang (one_byte b 33 bs e, g)))
    (λ e. choose b bs (b == 61) _ _ (λ e. choose b bs (begins 61 bs) _ _ (λ g. some_stands b bs Equal (two_bytes b 61 61 bs e g, refl)) (λ g. some_stands b bs Assign (one_byte b 61 bs e, g)))
    (λ e. choose b bs (b == 60) _ _ (λ e. choose b bs (begins 61 bs) _ _ (λ g. some_stands b bs AtMost (two_bytes b 60 61 bs e g, refl)) (λ g. some_stands b bs Less (one_byte b 60 bs e, g)))
    (λ e. choose b bs (b == 62) _ _ (λ e. choose b bs (begins 61 bs) _ _ (λ g. some_stands b bs AtLeast (two_bytes b 62 61 bs e g, refl)) (λ g. some_stands b bs Greater (one_byte b 62 bs e, g)))
    (λ e. choose b bs (b == 58) _ _ (λ e. some_stands b bs Colon (one_byte b 58 bs e, refl))
    (λ e. choose b bs (b == 43) _ _ (λ e. some_stands b bs Plus (one_byte b 43 bs e, refl))
    (λ e. choose b bs (b == 45) _ _ (λ e. some_stands b bs Minus (one_byte b 45 bs e, refl))
    (λ e. choose b bs (b == 42) _ _ (λ e. some_stands b bs Star (one_byte b 42 bs e, refl))
    (λ e. choose b bs (b == 47) _ _ (λ e. choose b bs (begins 42 bs) _ _ (λ g. none_stands b bs) (λ g. some_stands b bs Slash (one_byte b 47 bs e, g)))
    (λ e. choose b bs (b == 37) _ _ (λ e. some_stands b bs Percent (one_byte b 37 bs e, refl))
    (λ e. none_stands b bs))))))))))))))))))

pub sign_found : (text more rest : List ℕ) (b : ℕ) (x : Sign) → text ≡ b ∷ more → sign_at text ≡ Some x → rest ≡ drop (length (spelling x)) text → IsLexeme text (tok.Sign x) rest
sign_found text more rest b x e s k =
    subst (λ l. IsLexeme l (tok.Sign x) rest) (sym e)
    (subst (λ r. (b ∷ more ≡ spelling x ++ r) × (grows x r ≡ false)) (sym (k ∙ ap (λ l. drop (length (spelling x)) l) e)) ((sign_cases b more).all x (ap sign_at (sym e) ∙ s)))
