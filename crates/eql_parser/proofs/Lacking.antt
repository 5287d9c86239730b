-- What the descent does where a keyword or a sign doesn't come first.
use Rattle.std.proofs.Common.{◌≡◌, ◌≢◌, ℕ, zero, suc, true, false, List, [], ◌∷◌, length, Ok, Err, refl, sym, ap, ◌∙◌, arith}
use Rattle.eql_lexer.specs.declared.token.Token.{Token}
use Rattle.eql_parser.specs.declared.parser.mark.Mark.TheVariants as m
use Rattle.eql_parser.specs.Kinds.{Kind, kinds, and_, or_, comma_, close_, open_, question_}
use Rattle.eql_parser.specs.Marks.{Lacks}
use Rattle.eql_parser.specs.Reading.{Syntax, TooOpen, then_do, comma_list, literal, text_at, closing, is_or, is_and, is_comma, members, patterns, field, named_field}
use Rattle.eql_values.specs.declared.value.Value.{Value}
use Rattle.eql_parser.specs.Answering.{room, inner}
use Rattle.eql_parser.proofs.Defaults.{length_kinds}
use Rattle.eql_parser.proofs.Separated.{Ends}

pub lacks_comma : (ts : List Kind) → Lacks m.Comma ts → Ends is_comma ts
lacks_comma [] h = tt
lacks_comma (comma_ ∷ ts) h = absurd (h refl)
lacks_comma (_ ∷ ts) h = refl

pub lacks_or : (ts : List Kind) → Lacks m.Or ts → Ends is_or ts
lacks_or [] h = tt
lacks_or (or_ ∷ ts) h = absurd (h refl)
lacks_or (_ ∷ ts) h = refl

pub lacks_and : (ts : List Kind) → Lacks m.And ts → Ends is_and ts
lacks_and [] h = tt
lacks_and (and_ ∷ ts) h = absurd (h refl)
lacks_and (_ ∷ ts) h = refl

not_closed : {A : Type 0} (a : A) (ts : List Kind) → Lacks m.Close ts → closing a ts ≡ Err (Syntax (length ts))
not_closed a [] h = refl
not_closed a (close_ ∷ ts) h = absurd (h refl)
not_closed a (_ ∷ ts) h = refl

pub unclosed : {A : Type 0} (a : A) (ts : List Token) → Lacks m.Close (kinds ts) → closing a (kinds ts) ≡ Err (Syntax (length ts))
unclosed a ts h = not_closed a (kinds ts) h ∙ ap (λ n. Err (Syntax n)) (length_kinds ts)

pub no_question : (ts : List Kind) → Lacks m.Question ts → field ts ≡ named_field false ts
no_question [] h = refl
no_question (question_ ∷ ts) h = absurd (h refl)
no_question (_ ∷ ts) h = refl

no_open : (d : ℕ) (ts : List Kind) → Lacks m.Open ts → members (room d) (inner d) ts ≡ Err (Syntax (length ts))
no_open d [] h = refl
no_open d (open_ ∷ ts) h = absurd (h refl)
no_open d (_ ∷ ts) h = refl

pub no_members : (d : ℕ) (ts : List Token) → Lacks m.Open (kinds ts) → members (room d) (inner d) (kinds ts) ≡ Err (Syntax (length ts))
no_members d ts h = no_open d (kinds ts) h ∙ ap (λ n. Err (Syntax n)) (length_kinds ts)

pub members_shut : (d : ℕ) (ts : List Token) (us : List Kind) → d ≡ 0 → kinds ts ≡ open_ ∷ us → members (room d) (inner d) (kinds ts) ≡ Err (TooOpen (length ts))
members_shut zero ts us z e = ap (members false (inner 0)) e ∙ ap (λ n. Err (TooOpen n)) (sym (ap length e) ∙ length_kinds ts)
members_shut (suc d) ts us z e = absurd (omega arith)

pub members_unclosed : (d : ℕ) (ts us : List Kind) (vs : List Value) (rest : List Token) → d ≢ 0 → ts ≡ open_ ∷ us → comma_list literal us ≡ Ok (vs, kinds rest) → Lacks m.Close (kinds rest)
    → members (room d) (inner d) ts ≡ Err (Syntax (length rest))
members_unclosed zero ts us vs rest z e r h = absurd (z refl)
members_unclosed (suc d) ts us vs rest z e r h = ap (members true (inner (suc d))) e ∙ ap (λ q. then_do q closing) r ∙ unclosed vs rest h

pub patterns_shut : (d : ℕ) (ts : List Token) (us : List Kind) → d ≡ 0 → kinds ts ≡ open_ ∷ us → patterns (room d) (inner d) (kinds ts) ≡ Err (TooOpen (length ts))
patterns_shut zero ts us z e = ap (patterns false (inner 0)) e ∙ ap (λ n. Err (TooOpen n)) (sym (ap length e) ∙ length_kinds ts)
patterns_shut (suc d) ts us z e = absurd (omega arith)

pub patterns_unclosed : (d : ℕ) (ts us : List Kind) (ss : List (List ℕ)) (rest : List Token) → d ≢ 0 → ts ≡ open_ ∷ us → comma_list text_at us ≡ Ok (ss, kinds rest) → Lacks m.Close (kinds rest)
    → patterns (room d) (inner d) ts ≡ Err (Syntax (length rest))
patterns_unclosed zero ts us ss rest z e r h = absurd (z refl)
patterns_unclosed (suc d) ts us ss rest z e r h = ap (patterns true (inner (suc d))) e ∙ ap (λ q. then_do q closing) r ∙ unclosed ss rest h
