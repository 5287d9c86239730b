-- Why tokens are no query within the limits.
use Rattle.std.specs.Prelude.{◌≡◌, ℕ, ◌<◌, ◌≤◌, ◌++◌, ℤ, pos, true, false, ◌⊎◌, List, [], ◌∷◌, None, codes}
use Rattle.std.specs.Str.{bytes_eq}
use Rattle.eql_lexer.specs.declared.token.Token.{Token}
use Rattle.eql_query.specs.declared.expr.PatOp.TheVariants.{Colon}
use Rattle.eql_parser.specs.declared.refusal.ParseRefused.{ParseRefused}
use Rattle.eql_parser.specs.declared.refusal.ParseRefused.TheVariants as refused
use Rattle.eql_query.specs.Tree.{Tree, none, more}
use Rattle.eql_query.specs.QueryTree.{QueryTree}
use Rattle.eql_parser.specs.Kinds.{Kind, any_, assign_, bang_, bar_, close_item_, join_, matches, null_, regex_, sample_, sequence_, where_, with_, name, folding, number, open_, open_item_, kinds}
use Rattle.eql_parser.specs.Grammar.{IsArguments}
use Rattle.eql_parser.specs.QueryGrammar.{IsQuery, Reads, is_fine_unit, pipe_of}
use Rattle.eql_parser.specs.Limits.{levels_but, open_behind, FewAreOpen}

-- some query begins with these tokens
pub record Begins (front : List Kind) : Type 0 where
  pub rest : List Kind
  pub query : QueryTree
  pub reads : Reads (front ++ rest) query

-- nowhere in these tokens stands this number
abbrev pub IsNewTo : ℕ → List Kind → Type 0
IsNewTo h ks = (before behind : List Kind) → ks ≡ before ++ number (pos h) ∷ behind → ⊥

-- These tokens begin no more than so many levels: some query goes on behind them that has no more, but for a number that isn't among them and stands for
-- what they haven't begun.
pub record BeginsWithin (most : ℕ) (front : List Kind) : Type 0 where
  pub unbegun : ℕ
  pub new : IsNewTo unbegun front
  pub rest : List Kind
  pub query : QueryTree
  pub reads : Reads (front ++ rest) query
  pub few : levels_but unbegun query ≤ most

-- no query begins with these tokens
abbrev pub NoQueryBegins : List Kind → Type 0
NoQueryBegins front = (rest : List Kind) (query : QueryTree) → Reads (front ++ rest) query → ⊥

-- These tokens begin more levels than this: each query that goes on behind them has more, whatever number that isn't among them counts as nothing.
abbrev pub IsDeeperThan : ℕ → List Kind → Type 0
IsDeeperThan most front = (unbegun : ℕ) → IsNewTo unbegun front → (rest : List Kind) (query : QueryTree) → Reads (front ++ rest) query → most < levels_but unbegun query

-- `from`, behind `before`, begins with a form that the language has and this grammar leaves out, called by `word`. A form that this grammar has in its
-- place begins with `instead`.
pub data IsLeftOut : (before from : List Kind) → (word : List ℕ) → (instead : List Kind) → Type 0 where
  samples : {ts : List Kind} → IsLeftOut [] (sample_ ∷ ts) (codes "sample") (sequence_ ∷ [])
  joins : {ts : List Kind} → IsLeftOut [] (join_ ∷ ts) (codes "join") (sequence_ ∷ [])
  -- an item, behind which runs may follow: `until` has none
  missing_event : {before ts : List Kind} → IsLeftOut before (bang_ ∷ open_item_ ∷ ts) (codes "!") (open_item_ ∷ any_ ∷ where_ ∷ null_ ∷ close_item_ ∷ with_ ∷ [])
  regex : {before ts : List Kind} → IsLeftOut before (regex_ false ∷ ts) (codes "regex") (matches Colon ∷ [])
  folding_regex : {before ts : List Kind} → IsLeftOut before (regex_ true ∷ ts) (codes "regex~") (matches Colon ∷ [])
  fine_unit : {before ts : List Kind} {w : List ℕ} (front : List Kind) (n : ℤ) → before ≡ front ++ assign_ ∷ number n ∷ [] → is_fine_unit w ≡ true
      → IsLeftOut before (name w ∷ ts) w (name (codes "s") ∷ [])
  other_pipe : {before ts : List Kind} {w : List ℕ} (front : List Kind) → before ≡ front ++ bar_ ∷ [] → pipe_of w ≡ None → IsLeftOut before (name w ∷ ts) w (name (codes "head") ∷ [])
  -- `number` with a base, its second argument, up to the parenthesis that closes: the folding form of the call stands in the grammar
  number_with_base : {before : List Kind} {w : List ℕ} {a b : Tree} (call rest : List Kind) → bytes_eq w (codes "number") ≡ true
      → ((others : List Kind) → IsArguments (call ++ others) (more a (more b none)) others)
      → IsLeftOut before (name w ∷ open_ ∷ (call ++ rest)) (codes "number") (folding w ∷ open_ ∷ call)

-- the end of the last token, or 0
abbrev pub end_of : List Token → ℕ
end_of [] = 0
end_of (t ∷ []) = t.end
end_of (t ∷ u ∷ ts) = end_of (u ∷ ts)

-- tokens up to one that starts at a place, and those behind it
pub record SplitsAt (tokens : List Token) (at : ℕ) : Type 0 where
  pub before : List Token
  pub here : Token
  pub behind : List Token
  pub whole : tokens ≡ before ++ here ∷ behind
  pub starts : here.start ≡ at

-- the kinds of the tokens through the one at the place
abbrev pub through : {tokens : List Token} {at : ℕ} → SplitsAt tokens at → List Kind
through s = kinds s.before ++ kinds (s.here ∷ [])

-- The tokens before the place begin a query and at most 64 levels, and no query begins with those through it. Or the tokens end too early: they begin a
-- query and at most 64 levels, and are none. Nowhere before the place more than 128 parentheses stand open.
abbrev pub IsSyntax : List Token → ℕ → Type 0
IsSyntax tokens at =
    ((s : SplitsAt tokens at) × BeginsWithin 64 (kinds s.before) × NoQueryBegins (through s) × FewAreOpen 128 (kinds s.before))
    ⊎ ((at ≡ end_of tokens) × BeginsWithin 64 (kinds tokens) × ((query : QueryTree) → IsQuery tokens query → ⊥) × FewAreOpen 128 (kinds tokens))

-- a left-out form begins at the place, where some query goes on with another form in its stead
abbrev pub LeavesOut : {tokens : List Token} {at : ℕ} → SplitsAt tokens at → List ℕ → Type 0
LeavesOut s word = (instead : List Kind) × IsLeftOut (kinds s.before) (kinds (s.here ∷ s.behind)) word instead × Begins (kinds s.before ++ instead)

-- As `IsSyntax`, and nowhere in the tokens a left-out form stands where some query goes on with another form in its stead.
abbrev pub IsPlainSyntax : List Token → ℕ → Type 0
IsPlainSyntax tokens at = IsSyntax tokens at × ((there : ℕ) (s : SplitsAt tokens there) (word : List ℕ) → LeavesOut s word → ⊥)

-- Some query begins with the tokens through the place, and there the first limit is passed: there the 129th parenthesis opens of those that stand open, or
-- the 65th level begins. The tokens before the place begin at most 64 levels, and nowhere in them more than 128 parentheses stand open.
abbrev pub IsTooDeep : List Token → ℕ → Type 0
IsTooDeep tokens at =
    (s : SplitsAt tokens at) × Begins (through s) × BeginsWithin 64 (kinds s.before) × FewAreOpen 128 (kinds s.before) × ((128 < open_behind 0 (through s)) ⊎ IsDeeperThan 64 (through s))

-- A left-out form begins at the place, some query goes on there with another form in its stead, and the tokens are no query. The tokens before the place
-- begin at most 64 levels, and nowhere in them more than 128 parentheses stand open. And nowhere in the tokens a limit is passed.
abbrev pub IsLeftOutAt : List Token → List ℕ → ℕ → Type 0
IsLeftOutAt tokens word at =
    ((s : SplitsAt tokens at) × LeavesOut s word × BeginsWithin 64 (kinds s.before) × FewAreOpen 128 (kinds s.before)) × ((query : QueryTree) → IsQuery tokens query → ⊥)
    × ((there : ℕ) → IsTooDeep tokens there → ⊥)

-- the cause of each refusal
abbrev pub RefusesTokens : List Token → ParseRefused → Type 0
RefusesTokens tokens refused.Memory = Unit {0}
RefusesTokens tokens (refused.Syntax at) = IsPlainSyntax tokens at
RefusesTokens tokens (refused.LeftOut word at) = IsLeftOutAt tokens word at
RefusesTokens tokens (refused.TooDeep at) = IsTooDeep tokens at

abbrev pub IsMemory : ParseRefused → Type 0
IsMemory refused.Memory = Unit {0}
IsMemory _ = ⊥
