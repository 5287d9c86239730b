-- A field's name, part by part.
use Rattle.std.proofs.Common.{◌≡◌, ◌≤◌, ◌-◌, ℕ, zero, suc, Bool, List, [], ◌∷◌, ◌++◌, length, Ok, Err, Option, Some, None, encode_utf8, refl, sym, ap, ◌∙◌, arith, lit<, append_assoc}
use Rattle.std.specs.Str.{chars, IsUtf8}
use Rattle.std.proofs.lemmas.Str.{chars-append, chars-IsAscii, encode_ascii}
use Rattle.std.proofs.lemmas.Str.Ascii.{IsAscii-nil, IsAscii-cons}
use Rattle.eql_lexer.specs.declared.token.Token.{Token}
use Rattle.eql_parser.specs.declared.parser.mark.Mark.TheVariants as m
use Rattle.eql_parser.specs.Kinds.{Kind, kinds, dot_}
use Rattle.eql_parser.specs.Grammar.{first_part}
use Rattle.eql_parser.specs.Marks.{Lacks}
use Rattle.eql_parser.specs.Pieces.{BeginsNoPart, IsPart}
use Rattle.eql_parser.specs.Reading.{Syntax, Res, dotted, behind_dot, dotted_part, named_field, named_by}
use Rattle.eql_parser.proofs.Defaults.{length_kinds, refused_here}

no_first : (o : Bool) (p : Option (List ℕ)) (us : List Kind) → None ≡ p → named_by o p us ≡ Err (Syntax (suc (length us)))
no_first o None us h = refl
no_first o (Some w) us h = cc

pub no_first_part : (o : Bool) (ts : List Token) (k : Kind) (us : List Kind) → kinds ts ≡ k ∷ us → None ≡ first_part k → named_field o (kinds ts) ≡ Err (Syntax (length ts))
no_first_part o ts k us e h = refused_here ts k us e (named_field o) (no_first o (first_part k) us h)

one_turn : (n m : ℕ) (w : List ℕ) (ts us : List Kind) → n ≡ suc m → ts ≡ dot_ ∷ us → dotted n w ts ≡ behind_dot (dotted m) w us
unfolding dotted
one_turn n m w ts us e f = rw (e, f) refl

no_part : (again : List ℕ → List Kind → Res (List ℕ)) (w : List ℕ) (us : List Token) → BeginsNoPart (kinds us) → behind_dot again w (kinds us) ≡ Err (Syntax (length us))
no_part again w [] h = refl
no_part again w (t ∷ us) h = ap (λ p. dotted_part again w p (kinds us)) h ∙ ap (λ n. Err (Syntax (suc n))) (length_kinds us)

one_more : (rest behind : List Token) → kinds rest ≡ dot_ ∷ kinds behind → length rest ≡ suc (length behind)
one_more rest behind e = sym (length_kinds rest) ∙ ap length e ∙ ap suc (length_kinds behind)

pub dot_refused : (n : ℕ) (w : List ℕ) (rest behind : List Token) (whole : Res (List ℕ)) → length rest ≤ n → dotted n w (kinds rest) ≡ whole → kinds rest ≡ dot_ ∷ kinds behind
    → BeginsNoPart (kinds behind) → whole ≡ Err (Syntax (length behind))
dot_refused n w rest behind whole l h e p =
    let long = one_more rest behind e in
    sym h ∙ one_turn n (n - 1) w (kinds rest) (kinds behind) (omega arith) e ∙ no_part (dotted (n - 1)) w behind p

pub dot_lengths : (rest more : List Token) (behind : List Kind) (k : Kind) → kinds rest ≡ dot_ ∷ behind → behind ≡ k ∷ kinds more → length rest ≡ suc (suc (length more))
dot_lengths rest more behind k e f = sym (length_kinds rest) ∙ ap length e ∙ ap (λ l. suc (length l)) f ∙ ap (λ n. suc (suc n)) (length_kinds more)

pub dot_turn : (n m : ℕ) (w p v : List ℕ) (ts behind more : List Kind) (whole : Res (List ℕ)) → n ≡ suc m → dotted n w ts ≡ whole → ts ≡ dot_ ∷ behind → IsPart behind p more
    → v ≡ w ++ 46 ∷ p → dotted m v more ≡ whole
dot_turn n m w p v ts behind more whole i h e q f =
    ap (λ u. dotted m u more) f
    ∙ sym (ap (λ o. dotted_part (dotted m) w o more) q.2)
    ∙ sym (ap (behind_dot (dotted m) w) q.1)
    ∙ sym (one_turn n m w ts behind i e) ∙ h

no_dot : (n : ℕ) (w : List ℕ) (ts : List Kind) → Lacks m.Dot ts → dotted n w ts ≡ Ok (w, ts)
unfolding dotted
no_dot zero w ts h = refl
no_dot (suc n) w [] h = refl
no_dot (suc n) w (dot_ ∷ ts) h = absurd (h refl)
no_dot (suc n) w (_ ∷ ts) h = refl

pub dots_end : (n : ℕ) (w v : List ℕ) (ts : List Kind) (whole : Res (List ℕ)) → dotted n w ts ≡ whole → Lacks m.Dot ts → v ≡ w → whole ≡ Ok (v, ts)
dots_end n w v ts whole h l e = sym h ∙ no_dot n w ts l ∙ ap (λ u. Ok (u, ts)) (sym e)

-- a dot and a part behind a name
pub chars_dotted : (s a b p : List ℕ) → IsUtf8 s → IsUtf8 a → a ≡ s ++ encode_utf8 46 → b ≡ a ++ p → chars b ≡ chars s ++ 46 ∷ chars p
chars_dotted s a b p u v e f =
    let dot : chars (encode_utf8 46) ≡ 46 ∷ [] = ap chars (encode_ascii 46 (lit< tt)) ∙ chars-IsAscii (46 ∷ []) (IsAscii-cons 46 [] (lit< tt) IsAscii-nil) in
    let front : chars a ≡ chars s ++ 46 ∷ [] = ap chars e ∙ chars-append s (encode_utf8 46) u ∙ ap (λ l. chars s ++ l) dot in
    ap chars f ∙ chars-append a p v ∙ ap (λ l. l ++ chars p) front ∙ append_assoc (chars s) (46 ∷ []) (chars p)
