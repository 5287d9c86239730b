-- What the descent returns where a piece is none of those that the code names.
use Rattle.std.proofs.Common.{◌≡◌, ℤ, suc, List, [], ◌∷◌, length, Err, refl, sym, ap, ◌∙◌}
use Rattle.std.specs.Borrow.{Bor}
use Rattle.eql_values.specs.declared.text.Text.{Text}
use Rattle.eql_parser.specs.declared.parser.piece.Piece.{Piece}
use Rattle.eql_parser.specs.declared.parser.piece.Piece.TheVariants as p
use Rattle.eql_parser.specs.declared.parser.mark.Mark.TheVariants as m
use Rattle.eql_query.specs.declared.expr.MathOp.TheVariants as MathOp
use Rattle.eql_lexer.specs.declared.token.Token.{Token}
use Rattle.eql_parser.specs.Kinds.{Kind, kinds}
use Rattle.eql_parser.specs.Marks.{Lacks}
use Rattle.eql_parser.specs.Pieces.{piece_kind}
use Rattle.eql_parser.specs.Reading.{Syntax, Res, negative_at, literal, text_at}

pub length_kinds : (ts : List Token) → length (kinds ts) ≡ length ts
length_kinds [] = refl
length_kinds (t ∷ ts) = ap suc (length_kinds ts)

-- a refusal at the first token
pub refused_here : {A : Type 0} (ts : List Token) (k : Kind) (rest : List Kind) → kinds ts ≡ k ∷ rest → (read : List Kind → Res A)
    → read (k ∷ rest) ≡ Err (Syntax (suc (length rest))) → read (kinds ts) ≡ Err (Syntax (length ts))
refused_here ts k rest e read h = ap read e ∙ h ∙ ap (λ n. Err (Syntax n)) (sym (ap length e) ∙ length_kinds ts)

no_number_first : (x : Piece) (ts : List Kind) → ((n : ℤ) → x ≡ p.Number n → ⊥) → negative_at (piece_kind x ∷ ts) ≡ Err (Syntax (suc (length ts)))
no_number_first (p.Number n) ts h = absurd (h n refl)
no_number_first _ ts h = refl

pub no_number : (ts : List Token) (x : Piece) (rest : List Kind) → kinds ts ≡ piece_kind x ∷ rest → ((n : ℤ) → x ≡ p.Number n → ⊥) → negative_at (kinds ts) ≡ Err (Syntax (length ts))
no_number ts x rest e h = refused_here ts (piece_kind x) rest e negative_at (no_number_first x rest h)

no_literal_first : (x : Piece) (ts : List Kind) → Lacks m.Minus (piece_kind x ∷ ts) → ((n : ℤ) → x ≡ p.Number n → ⊥) → ((s : Bor Text) → x ≡ p.Str s → ⊥)
    → (x ≡ p.True → ⊥) → (x ≡ p.False → ⊥) → literal (piece_kind x ∷ ts) ≡ Err (Syntax (suc (length ts)))
no_literal_first (p.Number n) ts l h i j k = absurd (h n refl)
no_literal_first (p.Str s) ts l h i j k = absurd (i s refl)
no_literal_first p.True ts l h i j k = absurd (j refl)
no_literal_first p.False ts l h i j k = absurd (k refl)
no_literal_first (p.Adds MathOp.Sub) ts l h i j k = absurd (l refl)
no_literal_first _ ts l h i j k = refl

pub no_literal : (ts : List Token) (x : Piece) (rest : List Kind) → kinds ts ≡ piece_kind x ∷ rest → Lacks m.Minus (kinds ts) → ((n : ℤ) → x ≡ p.Number n → ⊥) → ((s : Bor Text) → x ≡ p.Str s → ⊥)
    → (x ≡ p.True → ⊥) → (x ≡ p.False → ⊥) → literal (kinds ts) ≡ Err (Syntax (length ts))
no_literal ts x rest e l h i j k = refused_here ts (piece_kind x) rest e literal (no_literal_first x rest (rw e at l) h i j k)

no_text_first : (x : Piece) (ts : List Kind) → ((s : Bor Text) → x ≡ p.Str s → ⊥) → text_at (piece_kind x ∷ ts) ≡ Err (Syntax (suc (length ts)))
no_text_first (p.Str s) ts h = absurd (h s refl)
no_text_first _ ts h = refl

pub no_text : (ts : List Token) (x : Piece) (rest : List Kind) → kinds ts ≡ piece_kind x ∷ rest → ((s : Bor Text) → x ≡ p.Str s → ⊥) → text_at (kinds ts) ≡ Err (Syntax (length ts))
no_text ts x rest e h = refused_here ts (piece_kind x) rest e text_at (no_text_first x rest h)
