-- What the parser returns, by what the descent does.
use Rattle.std.proofs.Common.{◌≡◌, ◌≤◌, ◌⊎◌, inl, inr, ℕ, Bool, true, false, List, [], ◌∷◌, Ok, Err, refl, sym, ap, ◌∙◌}
use Rattle.std.proofs.lemmas.Bool.{false≢true}
use Rattle.eql_lexer.specs.declared.token.Token.{Token}
use Rattle.eql_parser.specs.declared.parser.stop.Stop.{Stop}
use Rattle.eql_parser.specs.declared.parser.stop.Stop.TheVariants as stop
use Rattle.eql_parser.specs.declared.refusal.ParseRefused.{ParseRefused}
use Rattle.eql_parser.specs.declared.refusal.ParseRefused.TheVariants as refusal
use Rattle.eql_parser.specs.Kinds.{kinds}
use Rattle.eql_query.specs.QueryTree.{QueryTree}
use Rattle.eql_parser.specs.QueryGrammar.{IsQuery}
use Rattle.eql_parser.specs.Limits.{levels, OpensAtMost}
use Rattle.eql_parser.specs.Refusing.{end_of, IsMemory, RefusesTokens}
use Rattle.eql_parser.specs.Refusals.{refusal_of}
use Rattle.eql_parser.specs.Places.{place}
use Rattle.eql_parser.specs.Answering.{Stops}
use Rattle.eql_parser.specs.Reading.{Fail, Res, Syntax, LeftOut, TooDeep, TooOpen}
use Rattle.eql_parser.specs.QueryReading.{query}
use Rattle.eql_parser.proofs.Sound.{query_sound}
use Rattle.eql_parser.proofs.Opened.{opens_at_most}
use Rattle.eql_parser.proofs.Refusals.{cause}
use Rattle.eql_parser.proofs.Causes.{answered}

-- the end of the last token, or what is given where there is none
abbrev pub end_or : ℕ → List Token → ℕ
end_or n [] = n
end_or n (t ∷ ts) = end_or t.end ts

pub end_from_start : (ts : List Token) → end_of ts ≡ end_or 0 ts
end_from_start [] = refl
end_from_start (t ∷ []) = refl
end_from_start (t ∷ u ∷ ts) = end_from_start (u ∷ ts)

tree_or : QueryTree → Res QueryTree → QueryTree
tree_or d (Ok x) = x.0
tree_or d (Err e) = d

is_read : Res QueryTree → Bool
is_read (Ok x) = true
is_read (Err e) = false

pub refused_by : (tokens : List Token) (e : Stop) → Stops e (query (kinds tokens)) → RefusesTokens tokens (refusal_of tokens e)
refused_by tokens stop.Memory h = tt
refused_by tokens (stop.Syntax n) h = cause tokens (Syntax n) h
refused_by tokens (stop.LeftOut w n) h = cause tokens (LeftOut w n) h
refused_by tokens (stop.TooDeep n) h = cause tokens (TooDeep n) h
refused_by tokens (stop.TooOpen n) h = cause tokens (TooOpen n) h

pub found_by : (tokens : List Token) (q : QueryTree) (rest : List Token) → query (kinds tokens) ≡ Ok (q, kinds rest) → IsQuery tokens q
found_by tokens q rest h = (query_sound (kinds tokens) q (kinds rest) h).0

pub levels_by : (tokens : List Token) (q : QueryTree) (rest : List Token) → query (kinds tokens) ≡ Ok (q, kinds rest) → levels q ≤ 64
levels_by tokens q rest h = (query_sound (kinds tokens) q (kinds rest) h).2

pub opens_by : (tokens : List Token) (q : QueryTree) (rest : List Token) → query (kinds tokens) ≡ Ok (q, kinds rest) → OpensAtMost 128 tokens
opens_by tokens q rest h = opens_at_most (kinds tokens) q (kinds rest) h

pub same_query : (tokens : List Token) (p : QueryTree) (rest : List Token) → query (kinds tokens) ≡ Ok (p, kinds rest) → (q : QueryTree) → IsQuery tokens q → levels q ≤ 64 → OpensAtMost 128 tokens → p ≡ q
unfolding tree_or
same_query tokens p rest h q read few calm = ap (tree_or q) (sym h ∙ answered (kinds tokens) q read few calm)

not_read : (tokens : List Token) (e : Fail) → query (kinds tokens) ≡ Err e → (q : QueryTree) → IsQuery tokens q → levels q ≤ 64 → OpensAtMost 128 tokens → ⊥
unfolding is_read
not_read tokens e h q read few calm = false≢true (ap is_read (sym h ∙ answered (kinds tokens) q read few calm))

pub only_memory : (tokens : List Token) (e : Stop) → Stops e (query (kinds tokens)) → (q : QueryTree) → IsQuery tokens q → levels q ≤ 64 → OpensAtMost 128 tokens → IsMemory (refusal_of tokens e)
only_memory tokens stop.Memory h q read few calm = tt
only_memory tokens (stop.Syntax n) h q read few calm = absurd (not_read tokens (Syntax n) h q read few calm)
only_memory tokens (stop.LeftOut w n) h q read few calm = absurd (not_read tokens (LeftOut w n) h q read few calm)
only_memory tokens (stop.TooDeep n) h q read few calm = absurd (not_read tokens (TooDeep n) h q read few calm)
only_memory tokens (stop.TooOpen n) h q read few calm = absurd (not_read tokens (TooOpen n) h q read few calm)

-- what is known of tokens: they are a query within the limits, or have a cause of a refusal
abbrev Known : List Token → Type 0
Known tokens =
    ((q : QueryTree) × IsQuery tokens q × (levels q ≤ 64) × OpensAtMost 128 tokens)
    ⊎ ((r : ParseRefused) × (IsMemory r → ⊥) × RefusesTokens tokens r)

known_refused : (tokens : List Token) (e : Fail) → query (kinds tokens) ≡ Err e → Known tokens
known_refused tokens (Syntax n) h = inr (refusal.Syntax (place tokens n), (λ no. no), cause tokens (Syntax n) h)
known_refused tokens (LeftOut w n) h = inr (refusal.LeftOut w (place tokens n), (λ no. no), cause tokens (LeftOut w n) h)
known_refused tokens (TooDeep n) h = inr (refusal.TooDeep (place tokens n), (λ no. no), cause tokens (TooDeep n) h)
known_refused tokens (TooOpen n) h = inr (refusal.TooDeep (place tokens n), (λ no. no), cause tokens (TooOpen n) h)

known_by : (tokens : List Token) (r : Res QueryTree) → query (kinds tokens) ≡ r → Known tokens
known_by tokens (Ok x) h =
    let sound = query_sound (kinds tokens) x.0 x.1 h in
    inl (x.0, sound.0, sound.2, opens_at_most (kinds tokens) x.0 x.1 h)
known_by tokens (Err e) h = known_refused tokens e h

-- every list of tokens is a query within the limits, or has a cause of a refusal
pub query_or_refused : (tokens : List Token) → Known tokens
query_or_refused tokens = known_by tokens (query (kinds tokens)) refl
