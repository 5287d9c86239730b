-- Where the descent stops at a parenthesis too many, and that a query that is returned has none.
use Rattle.std.proofs.Common.{◌≡◌, ℕ, suc, ◌≤◌, List, [], ◌∷◌, ◌++◌, length, Ok, Err, sym, subst, ◌∙◌, ap, arith, append-nil}
use Rattle.eql_query.specs.QueryTree.{QueryTree}
use Rattle.eql_parser.specs.Kinds.{Kind, open_}
use Rattle.eql_parser.specs.Limits.{open_behind, FewAreOpen}
use Rattle.eql_parser.specs.Reading.{Fail, Syntax, LeftOut, TooDeep, TooOpen, expr}
use Rattle.eql_parser.specs.QueryReading.{query}
use Rattle.eql_parser.proofs.Sound.{query_sound}
use Rattle.eql_parser.proofs.Opens.{OpenTo, Under, open_behind_both, open_to_front}
use Rattle.eql_parser.proofs.Starts.{fail_place}
use Rattle.eql_parser.proofs.Told.{Told, Because, Upto}
use Rattle.eql_parser.proofs.ToldExpr.{expr_told}
use Rattle.eql_parser.proofs.ToldQuery.{told_query}

-- what the answer says of the tokens
pub told_of : (ts : List Kind) → Told 128 ts (query ts)
told_of ts = told_query 128 (expr 128 64) (expr_told 128 64) ts

-- where a parenthesis too many opens, it is the 129th that stands open
pub opened : (ts : List Kind) (n : ℕ) → query ts ≡ Err (TooOpen n)
    → (before : List Kind) × (behind : List Kind) × (ts ≡ before ++ open_ ∷ behind) × (suc (length behind) ≡ n) × (open_behind 0 (before ++ open_ ∷ []) ≡ 129)
opened ts n e =
    let h = subst (λ r. Told 128 ts r) e (told_of ts) in
    (h.0, h.1, h.2, h.3, open_behind_both 0 h.0 (open_ ∷ []) ∙ ap suc (h.4 0))

-- a query that is returned has at most 128 open at each place
pub opens_at_most : (ts : List Kind) (q : QueryTree) (rest : List Kind) → query ts ≡ Ok (q, rest) → (before behind : List Kind) → ts ≡ before ++ behind → open_behind 0 before ≤ 128
opens_at_most ts q rest e before behind cut =
    let h = subst (λ r. Told 128 ts r) e (told_of ts) in
    let whole : ts ≡ h.0 = h.1 ∙ ap (λ l. h.0 ++ l) (query_sound ts q rest e).1 ∙ append-nil h.0 in
    open_to_front 128 0 before behind (subst (OpenTo 128 0) (sym whole ∙ cut) ((h.2 0).1 128 (omega arith)))

upto_of : (ts : List Kind) (e : Fail) → Because 128 ts e → Upto 128 ts (fail_place e)
upto_of ts (Syntax n) h = h
upto_of ts (LeftOut w n) h = h.1
upto_of ts (TooDeep n) h = h.1
upto_of ts (TooOpen n) h = (h.0, open_ ∷ h.1, h.2, h.3, h.5)

under_few : (ks : List Kind) → Under 128 ks → FewAreOpen 128 ks
under_few ks u before behind cut = open_to_front 128 0 before behind (subst (OpenTo 128 0) cut (u 0 128 (omega arith)))

-- up to where the descent stops, nowhere more than 128 parentheses stand open
pub few_upto : (ts : List Kind) (e : Fail) → query ts ≡ Err e → (front : List Kind) × (behind : List Kind) × (ts ≡ front ++ behind) × (length behind ≡ fail_place e) × FewAreOpen 128 front
few_upto ts e h =
    let u = upto_of ts e (subst (λ r. Told 128 ts r) h (told_of ts)) in
    (u.0, u.1, u.2, u.3, under_few u.0 u.4)
