-- What a token says, as the parser sees it.
use Rattle.std.specs.Prelude.{◌≡◌, ℕ, Bool, false, true, nat_lt, List, [], ◌∷◌, Some, None}
use Rattle.std.specs.Borrow.{Bor}
use Rattle.std.specs.List.{list_all}
use Rattle.std.specs.Str.{chars}
use Rattle.eql_parser.specs.declared.parser.piece.Piece.{Piece}
use Rattle.eql_parser.specs.declared.parser.piece.Piece.TheVariants as p
use Rattle.eql_parser.specs.declared.parser.word.Keyword.{Keyword}
use Rattle.eql_parser.specs.declared.parser.word.Keyword.TheVariants as key
use Rattle.eql_query.specs.declared.expr.PatOp.TheVariants.{Like, LikeFold}
use Rattle.eql_parser.specs.Grammar.{part}
use Rattle.eql_parser.specs.Kinds.{Kind, and_, any_, by_, false_, in_, join_, matches, maxspan_, not_, null_, or_, regex_, sample_, sequence_, true_, until_, where_, with_, name, folding, back, text, number, open_, close_, open_item_, close_item_, comma_, dot_, bar_, question_, bang_, assign_, compares, adds, multiplies}

abbrev pub piece_kind : Piece → Kind
piece_kind p.And = and_
piece_kind p.Any = any_
piece_kind p.By = by_
piece_kind p.False = false_
piece_kind (p.In fold) = in_ fold
piece_kind p.Join = join_
piece_kind (p.Matches op) = matches op
piece_kind p.Maxspan = maxspan_
piece_kind p.Not = not_
piece_kind p.Null = null_
piece_kind p.Or = or_
piece_kind (p.Regex fold) = regex_ fold
piece_kind p.Sample = sample_
piece_kind p.Sequence = sequence_
piece_kind p.True = true_
piece_kind p.Until = until_
piece_kind p.Where = where_
piece_kind p.With = with_
piece_kind (p.Name word) = name word.now
piece_kind (p.Folding word) = folding (chars word.now)
piece_kind (p.Back word) = back word.now
piece_kind (p.Str s) = text s.now
piece_kind (p.Number n) = number n
piece_kind p.Open = open_
piece_kind p.Close = close_
piece_kind p.OpenItem = open_item_
piece_kind p.CloseItem = close_item_
piece_kind p.Comma = comma_
piece_kind p.Dot = dot_
piece_kind p.Bar = bar_
piece_kind p.Question = question_
piece_kind p.Bang = bang_
piece_kind p.Assign = assign_
piece_kind (p.Compares op) = compares op
piece_kind (p.Adds op) = adds op
piece_kind (p.Multiplies op) = multiplies op

-- what a keyword says
abbrev pub keyword_kind : Keyword → Kind
keyword_kind key.And = and_
keyword_kind key.Any = any_
keyword_kind key.By = by_
keyword_kind key.False = false_
keyword_kind key.In = in_ false
keyword_kind key.InFold = in_ true
keyword_kind key.Join = join_
keyword_kind key.Like = matches Like
keyword_kind key.LikeFold = matches LikeFold
keyword_kind key.Maxspan = maxspan_
keyword_kind key.Not = not_
keyword_kind key.Null = null_
keyword_kind key.Or = or_
keyword_kind key.Regex = regex_ false
keyword_kind key.RegexFold = regex_ true
keyword_kind key.Sample = sample_
keyword_kind key.Sequence = sequence_
keyword_kind key.True = true_
keyword_kind key.Until = until_
keyword_kind key.Where = where_
keyword_kind key.With = with_

-- the words of a table, with what they say
abbrev pub entries : List (Bor (List ℕ) × Keyword) → List (List ℕ × Kind)
entries [] = []
entries (e ∷ es) = (e.0.now, keyword_kind e.1) ∷ entries es

-- each word of a table is ASCII
abbrev pub is_plain_table : List (List ℕ × Kind) → Bool
is_plain_table table = list_all (λ e. list_all (λ b. nat_lt b 128) e.0) table

-- the characters of a borrowed text
abbrev pub borrowed_chars : Bor (List ℕ) → List ℕ
borrowed_chars s = chars s.now

-- a part of a field's name comes first, and leaves the rest
abbrev pub IsPart : List Kind → List ℕ → List Kind → Type 0
IsPart ts w rest = (k : Kind) × (ts ≡ k ∷ rest) × (part k ≡ Some w)

-- no part of a field's name comes first
abbrev pub BeginsNoPart : List Kind → Type 0
BeginsNoPart [] = Unit {0}
BeginsNoPart (k ∷ ts) = part k ≡ None
