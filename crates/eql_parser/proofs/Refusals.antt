-- Each stop of the descent has its cause, at the place that it counts.
use Rattle.std.proofs.Common.{◌≡◌, ℕ, zero, suc, ◌-◌, ◌<◌, ◌≤◌, ◌⊎◌, inl, inr, List, [], ◌∷◌, ◌++◌, length, drop, Err, refl, sym, ap, subst, ◌∙◌, arith, length-append, append_assoc, drop_of_length-le}
use Rattle.std.proofs.lemmas.List.{drop_at}
use Rattle.eql_lexer.specs.declared.token.Token.{Token}
use Rattle.eql_parser.specs.declared.refusal.ParseRefused.{ParseRefused}
use Rattle.eql_parser.specs.declared.refusal.ParseRefused.TheVariants as refused
use Rattle.eql_query.specs.QueryTree.{QueryTree}
use Rattle.eql_parser.specs.Kinds.{kinds}
use Rattle.eql_parser.specs.QueryGrammar.{IsQuery, Reads}
use Rattle.eql_parser.specs.Limits.{levels, OpensAtMost}
use Rattle.eql_parser.specs.Refusing.{SplitsAt, through, end_of, IsPlainSyntax, IsLeftOutAt, IsTooDeep, RefusesTokens, IsMemory}
use Rattle.eql_parser.specs.Places.{start_or, place, StopHasCause}
use Rattle.eql_parser.specs.Reading.{Fail, Syntax, LeftOut, TooDeep, TooOpen}
use Rattle.eql_parser.specs.QueryReading.{query}
use Rattle.eql_parser.proofs.Agrees.{which}
use Rattle.eql_parser.proofs.New.{above_all, above_new}
use Rattle.eql_parser.proofs.Complete.{but_levels}
use Rattle.eql_parser.proofs.Unpassed.{unpassed}
use Rattle.eql_parser.proofs.Causes.{kinds_both, place_within, place_inside, syntax_cause, left_out_cause, too_deep_cause, too_open_cause, early_cause}

-- the token from which on so many are left
pub record Counted (tokens : List Token) (left : ℕ) : Type 0 where
  pub before : List Token
  pub here : Token
  pub behind : List Token
  pub whole : tokens ≡ before ++ here ∷ behind
  pub count : left ≡ suc (length behind)

counted_in : (t : Token) (ts : List Token) (left : ℕ) → Counted ts left → Counted (t ∷ ts) left
counted_in t ts left c = record { before = t ∷ c.before; here = c.here; behind = c.behind; whole = ap (λ l. t ∷ l) c.whole; count = c.count }

counted_at : (t : Token) (ts : List Token) (left : ℕ) → left ≤ suc (length ts) → (length ts < left) ⊎ (left ≤ length ts) → (left ≤ length ts → Counted ts left) → Counted (t ∷ ts) left
counted_at t ts left q (inl h) go = record { before = []; here = t; behind = ts; whole = refl; count = omega (arith, h, q) }
counted_at t ts left q (inr h) go = counted_in t ts left (go h)

counted : (tokens : List Token) (left : ℕ) → 0 < left → left ≤ length tokens → Counted tokens left
counted [] left p q = absurd (omega (arith, p, q))
counted (t ∷ ts) left p q = counted_at t ts left q (which (length ts) left) (λ h. counted ts left p h)

place_counted : (tokens : List Token) (left : ℕ) (c : Counted tokens left) → place tokens left ≡ c.here.start
place_counted tokens left c =
    let far : length tokens - left ≡ length c.before = omega (arith, ap length c.whole, length-append c.before (c.here ∷ c.behind), c.count) in
    let cut : drop (length tokens - left) tokens ≡ c.here ∷ c.behind = rw (far, c.whole) (drop_at c.before (c.here ∷ c.behind) (length c.before) refl) in
    ap (start_or (end_of tokens)) cut

-- where no token is left
place_end : (tokens : List Token) → place tokens 0 ≡ end_of tokens
place_end tokens = ap (start_or (end_of tokens)) (drop_of_length-le tokens {i = length tokens - 0} (omega arith))

-- each stop of the descent has its cause
pub cause : (tokens : List Token) (e : Fail) → query (kinds tokens) ≡ Err e → StopHasCause tokens e
cause tokens (Syntax zero) h = subst (IsPlainSyntax tokens) (sym (place_end tokens)) (early_cause tokens h)
cause tokens (Syntax (suc n)) h =
    let c = counted tokens (suc n) (omega arith) (place_within tokens (Syntax (suc n)) h) in
    subst (IsPlainSyntax tokens) (sym (place_counted tokens (suc n) c))
    (syntax_cause tokens c.before c.behind c.here c.whole (subst (λ k. query (kinds tokens) ≡ Err (Syntax k)) c.count h))
cause tokens (LeftOut w n) h =
    let c = counted tokens n (place_inside tokens (LeftOut w n) h) (place_within tokens (LeftOut w n) h) in
    subst (IsLeftOutAt tokens w) (sym (place_counted tokens n c))
    (let found = left_out_cause tokens c.before c.behind c.here c.whole w (subst (λ k. query (kinds tokens) ≡ Err (LeftOut w k)) c.count h) in (found.0, found.1, unpassed tokens w n h))
cause tokens (TooDeep n) h =
    let c = counted tokens n (place_inside tokens (TooDeep n) h) (place_within tokens (TooDeep n) h) in
    subst (IsTooDeep tokens) (sym (place_counted tokens n c))
    (too_deep_cause tokens c.before c.behind c.here c.whole (subst (λ k. query (kinds tokens) ≡ Err (TooDeep k)) c.count h))
cause tokens (TooOpen n) h =
    let c = counted tokens n (place_inside tokens (TooOpen n) h) (place_within tokens (TooOpen n) h) in
    subst (IsTooDeep tokens) (sym (place_counted tokens n c))
    (too_open_cause tokens c.before c.behind c.here c.whole (subst (λ k. query (kinds tokens) ≡ Err (TooOpen k)) c.count h))

-- the kinds of all tokens, cut behind a place
split_through : {tokens : List Token} {at : ℕ} (s : SplitsAt tokens at) → kinds tokens ≡ through s ++ kinds s.behind
split_through s = ap kinds s.whole ∙ kinds_both s.before (s.here ∷ s.behind) ∙ sym (append_assoc (kinds s.before) (kinds (s.here ∷ [])) (kinds s.behind))

not_syntax : (tokens : List Token) (at : ℕ) (q : QueryTree) → IsQuery tokens q → IsPlainSyntax tokens at → ⊥
not_syntax tokens at q read (inl (s, b, none, few), other) = none (kinds s.behind) q (subst (λ l. Reads l q) (split_through s) read)
not_syntax tokens at q read (inr (e, b, none, few), other) = none q read

not_too_deep : (tokens : List Token) (at : ℕ) (q : QueryTree) → IsQuery tokens q → levels q ≤ 64 → OpensAtMost 128 tokens → IsTooDeep tokens at → ⊥
not_too_deep tokens at q read few calm (s, b, within, below, inl over) = omega (arith, over, calm (through s) (kinds s.behind) (split_through s))
not_too_deep tokens at q read few calm (s, b, within, below, inr deep) =
    let hole : ℕ = above_all (through s) in
    omega (arith, few, but_levels hole q, deep hole (above_new (through s)) (kinds s.behind) q (subst (λ l. Reads l q) (split_through s) read))

-- For a query within the limits nothing but want of memory has a cause.
pub memory_alone : (tokens : List Token) (q : QueryTree) (refusal : ParseRefused) → IsQuery tokens q → levels q ≤ 64 → OpensAtMost 128 tokens → RefusesTokens tokens refusal → IsMemory refusal
memory_alone tokens q refused.Memory read few calm h = tt
memory_alone tokens q (refused.Syntax at) read few calm h = absurd (not_syntax tokens at q read h)
memory_alone tokens q (refused.LeftOut word at) read few calm h = absurd (h.1 q read)
memory_alone tokens q (refused.TooDeep at) read few calm h = absurd (not_too_deep tokens at q read few calm h)
