-- Tokens have at most one refusal.
use Rattle.std.proofs.Common.{◌≡◌, ℕ, ◌<◌, ◌≤◌, ◌⊎◌, inl, inr, List, [], ◌∷◌, ◌++◌, length, sym, ap, subst, ◌∙◌, arith, length-append, append_assoc}
use Rattle.eql_lexer.specs.declared.token.Token.{Token}
use Rattle.eql_parser.specs.Kinds.{Kind, kind, kinds}
use Rattle.eql_parser.specs.Limits.{FewAreOpen}
use Rattle.eql_parser.specs.QueryGrammar.{Reads}
use Rattle.eql_parser.specs.declared.refusal.ParseRefused.{ParseRefused}
use Rattle.eql_parser.specs.declared.refusal.ParseRefused.TheVariants as refused
use Rattle.eql_parser.specs.Refusing.{Begins, BeginsWithin, NoQueryBegins, SplitsAt, through, IsSyntax, LeavesOut, IsTooDeep, RefusesTokens, IsMemory}
use Rattle.eql_parser.proofs.Agrees.{which}
use Rattle.eql_parser.proofs.Unpassed.{IsFront, PassesLimit, none_passed}
use Rattle.eql_parser.proofs.Causes.{kinds_both, kinds_length, same_cut, leaves_out_stops, one_left_out}

none_in : (front all : List Kind) → IsFront front all → NoQueryBegins front → Begins all → ⊥
none_in front all f none b = none (f.0 ++ b.rest) b.query (subst (λ l. Reads l b.query) (ap (λ l. l ++ b.rest) f.1 ∙ append_assoc front f.0 b.rest) b.reads)

through_all : {tokens : List Token} {at : ℕ} (s : SplitsAt tokens at) → kinds tokens ≡ through s ++ kinds s.behind
through_all s = ap kinds s.whole ∙ kinds_both s.before (s.here ∷ s.behind) ∙ sym (append_assoc (kinds s.before) (kinds (s.here ∷ [])) (kinds s.behind))

-- of two cuts of a list, the one that comes first lies in front of the other, or they are the same
cut_front : (a b : List Token) (t u : Token) (c d : List Token) → a ++ t ∷ c ≡ b ++ u ∷ d → length a < length b → IsFront (kinds a ++ kinds (t ∷ [])) (kinds b)
cut_front [] [] t u c d e h = absurd (omega (arith, h))
cut_front [] (v ∷ b) t u c d e h = let same : t ≡ v = cc in (kinds b, ap (λ x. kind x.tok ∷ kinds b) (sym same))
cut_front (w ∷ a) [] t u c d e h = absurd (omega (arith, h))
cut_front (w ∷ a) (v ∷ b) t u c d e h =
    let same : w ≡ v = cc in
    let tails : a ++ t ∷ c ≡ b ++ u ∷ d = cc in
    let more = cut_front a b t u c d tails (omega (arith, h)) in
    (more.0, ap (λ x. kind x.tok ∷ kinds b) (sym same) ∙ ap (λ l. kind w.tok ∷ l) more.1)

same_here : (a b : List Token) (t u : Token) (c d : List Token) → a ++ t ∷ c ≡ b ++ u ∷ d → length a ≡ length b → t ≡ u
same_here [] [] t u c d e h = cc
same_here [] (v ∷ b) t u c d e h = absurd (omega (arith, h))
same_here (w ∷ a) [] t u c d e h = absurd (omega (arith, h))
same_here (w ∷ a) (v ∷ b) t u c d e h = let tails : a ++ t ∷ c ≡ b ++ u ∷ d = cc in same_here a b t u c d tails (omega (arith, h))

-- cuts at one place have the same tokens through it
same_through : {tokens : List Token} {at to : ℕ} (s : SplitsAt tokens at) (r : SplitsAt tokens to) → length s.before ≡ length r.before → through s ≡ through r
same_through s r e =
    let wholes : s.before ++ s.here ∷ s.behind ≡ r.before ++ r.here ∷ r.behind = sym s.whole ∙ r.whole in
    (same_cut (through s) (through r) (kinds s.behind) (kinds r.behind) (sym (through_all s) ∙ through_all r)
    (omega (arith, e, ap length wholes, length-append s.before (s.here ∷ s.behind), length-append r.before (r.here ∷ r.behind), kinds_length s.behind, kinds_length r.behind))).0

some_begins : (front : List Kind) → BeginsWithin 64 front → Begins front
some_begins front b = record { rest = b.rest; query = b.query; reads = b.reads }

two_splits : (tokens : List Token) (at to : ℕ) (s : SplitsAt tokens at) (r : SplitsAt tokens to) → NoQueryBegins (through s) → NoQueryBegins (through r) → BeginsWithin 64 (kinds s.before) → BeginsWithin 64 (kinds r.before)
    → (length s.before < length r.before) ⊎ (length r.before ≤ length s.before) → (length r.before < length s.before) ⊎ (length s.before ≤ length r.before) → at ≡ to
two_splits tokens at to s r n m b c (inl h) k =
    absurd (none_in (through s) (kinds r.before) (cut_front s.before r.before s.here r.here s.behind r.behind (sym s.whole ∙ r.whole) h) n (some_begins (kinds r.before) c))
two_splits tokens at to s r n m b c (inr h) (inl k) =
    absurd (none_in (through r) (kinds s.before) (cut_front r.before s.before r.here s.here r.behind s.behind (sym r.whole ∙ s.whole) k) m (some_begins (kinds s.before) b))
two_splits tokens at to s r n m b c (inr h) (inr k) =
    let same : s.here ≡ r.here = same_here s.before r.before s.here r.here s.behind r.behind (sym s.whole ∙ r.whole) (omega (arith, h, k)) in
    sym s.starts ∙ ap (λ t. t.start) same ∙ r.starts

before_end : (tokens : List Token) (at : ℕ) (s : SplitsAt tokens at) → NoQueryBegins (through s) → BeginsWithin 64 (kinds tokens) → ⊥
before_end tokens at s n b = none_in (through s) (kinds tokens) (kinds s.behind, through_all s) n (some_begins (kinds tokens) b)

-- the place of `Syntax` is determined
one_syntax : (tokens : List Token) (at to : ℕ) → IsSyntax tokens at → IsSyntax tokens to → at ≡ to
one_syntax tokens at to (inl (s, b, n, f)) (inl (r, c, m, g)) =
    two_splits tokens at to s r n m b c (which (length s.before) (length r.before)) (which (length r.before) (length s.before))
one_syntax tokens at to (inl (s, b, n, f)) (inr (e, c, m, g)) = absurd (before_end tokens at s n c)
one_syntax tokens at to (inr (e, c, m, g)) (inl (s, b, n, f)) = absurd (before_end tokens to s n c)
one_syntax tokens at to (inr (e, c, m, g)) (inr (i, d, n, f)) = e ∙ sym i

-- two splits with as many tokens behind the place
same_start : {tokens : List Token} {at to : ℕ} (s : SplitsAt tokens at) (r : SplitsAt tokens to) → length (kinds (s.here ∷ s.behind)) ≡ length (kinds (r.here ∷ r.behind)) → at ≡ to
same_start s r e =
    let wholes : s.before ++ s.here ∷ s.behind ≡ r.before ++ r.here ∷ r.behind = sym s.whole ∙ r.whole in
    let count : length s.before ≡ length r.before =
    omega (arith, e, ap length wholes, length-append s.before (s.here ∷ s.behind), length-append r.before (r.here ∷ r.behind), kinds_length s.behind, kinds_length r.behind) in
    sym s.starts ∙ ap (λ t. t.start) (same_here s.before r.before s.here r.here s.behind r.behind wholes count) ∙ r.starts

-- a left-out form that is met is one, at one place
one_form : (tokens : List Token) (w v : List ℕ) (at to : ℕ) (s : SplitsAt tokens at) (r : SplitsAt tokens to) → LeavesOut s w → LeavesOut r v → (w ≡ v) × (at ≡ to)
one_form tokens w v at to s r a b =
    let same = one_left_out (kinds tokens) w v (length (kinds (s.here ∷ s.behind))) (length (kinds (r.here ∷ r.behind))) (leaves_out_stops s w a) (leaves_out_stops r v b) in
    (same.0, same_start s r same.1)

-- the place of `TooDeep` is determined
two_deep : (tokens : List Token) (at to : ℕ) (a : IsTooDeep tokens at) (b : IsTooDeep tokens to) → (length a.0.before < length b.0.before) ⊎ (length b.0.before ≤ length a.0.before)
    → (length b.0.before < length a.0.before) ⊎ (length a.0.before ≤ length b.0.before) → at ≡ to
two_deep tokens at to (s, b, w, f, p) (r, c, v, g, q) (inl h) k =
    absurd (none_passed (through s) (kinds r.before) (cut_front s.before r.before s.here r.here s.behind r.behind (sym s.whole ∙ r.whole) h) p v g)
two_deep tokens at to (s, b, w, f, p) (r, c, v, g, q) (inr h) (inl k) =
    absurd (none_passed (through r) (kinds s.before) (cut_front r.before s.before r.here s.here r.behind s.behind (sym r.whole ∙ s.whole) k) q w f)
two_deep tokens at to (s, b, w, f, p) (r, c, v, g, q) (inr h) (inr k) =
    let same : s.here ≡ r.here = same_here s.before r.before s.here r.here s.behind r.behind (sym s.whole ∙ r.whole) (omega (arith, h, k)) in
    sym s.starts ∙ ap (λ t. t.start) same ∙ r.starts

one_deep : (tokens : List Token) (at to : ℕ) → IsTooDeep tokens at → IsTooDeep tokens to → at ≡ to
one_deep tokens at to a b = two_deep tokens at to a b (which (length a.0.before) (length b.0.before)) (which (length b.0.before) (length a.0.before))

-- where no query goes on, no limit is passed
stuck_or_deep : (tokens : List Token) (at to : ℕ) (s : SplitsAt tokens at) (r : SplitsAt tokens to) → NoQueryBegins (through s) → BeginsWithin 64 (kinds s.before) → FewAreOpen 128 (kinds s.before) → Begins (through r)
    → BeginsWithin 64 (kinds r.before) → PassesLimit (through r)
    → (length s.before < length r.before) ⊎ (length r.before ≤ length s.before) → (length r.before < length s.before) ⊎ (length s.before ≤ length r.before) → ⊥
stuck_or_deep tokens at to s r n b f c v q (inl h) k =
    none_in (through s) (kinds r.before) (cut_front s.before r.before s.here r.here s.behind r.behind (sym s.whole ∙ r.whole) h) n (some_begins (kinds r.before) v)
stuck_or_deep tokens at to s r n b f c v q (inr h) (inl k) =
    none_passed (through r) (kinds s.before) (cut_front r.before s.before r.here s.here r.behind s.behind (sym r.whole ∙ s.whole) k) q b f
stuck_or_deep tokens at to s r n b f c v q (inr h) (inr k) = n c.rest c.query (subst (λ l. Reads (l ++ c.rest) c.query) (same_through r s (omega (arith, h, k))) c.reads)

stuck_there : (tokens : List Token) (at to : ℕ) (s : SplitsAt tokens at) → NoQueryBegins (through s) → BeginsWithin 64 (kinds s.before) → FewAreOpen 128 (kinds s.before) → IsTooDeep tokens to → ⊥
stuck_there tokens at to s n b f (r, c, v, g, q) =
    stuck_or_deep tokens at to s r n b f c v q (which (length s.before) (length r.before)) (which (length r.before) (length s.before))

syntax_or_deep : (tokens : List Token) (at to : ℕ) → IsSyntax tokens at → IsTooDeep tokens to → ⊥
syntax_or_deep tokens at to (inl (s, b, n, f)) d = stuck_there tokens at to s n b f d
syntax_or_deep tokens at to (inr (e, b, n, f)) (r, c, v, g, q) = none_passed (through r) (kinds tokens) (kinds r.behind, through_all r) q b f

-- the refusal of tokens is determined
pub one_refusal : (tokens : List Token) (r s : ParseRefused) → (IsMemory r → ⊥) → (IsMemory s → ⊥) → RefusesTokens tokens r → RefusesTokens tokens s → r ≡ s
one_refusal tokens (refused.Syntax at) (refused.Syntax to) g h a b = ap (λ n. refused.Syntax n) (one_syntax tokens at to a.0 b.0)
one_refusal tokens (refused.Syntax at) (refused.LeftOut w to) g h a b = absurd (a.1 to b.0.0 w b.0.1)
one_refusal tokens (refused.Syntax at) (refused.TooDeep to) g h a b = absurd (syntax_or_deep tokens at to a.0 b)
one_refusal tokens (refused.LeftOut w at) (refused.Syntax to) g h a b = absurd (b.1 at a.0.0 w a.0.1)
one_refusal tokens (refused.LeftOut w at) (refused.LeftOut v to) g h a b =
    let same = one_form tokens w v at to a.0.0 b.0.0 a.0.1 b.0.1 in
    ap (λ u. refused.LeftOut u at) same.0 ∙ ap (λ n. refused.LeftOut v n) same.1
one_refusal tokens (refused.LeftOut w at) (refused.TooDeep to) g h a b = absurd (a.2 to b)
one_refusal tokens (refused.TooDeep at) (refused.Syntax to) g h a b = absurd (syntax_or_deep tokens to at b.0 a)
one_refusal tokens (refused.TooDeep at) (refused.LeftOut v to) g h a b = absurd (b.2 at a)
one_refusal tokens (refused.TooDeep at) (refused.TooDeep to) g h a b = ap (λ n. refused.TooDeep n) (one_deep tokens at to a b)
one_refusal tokens refused.Memory s g h a b = absurd (g tt)
one_refusal tokens r refused.Memory g h a b = absurd (h tt)
