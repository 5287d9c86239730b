-- The cause of each refusal, and that every query within the limits is returned.
use Rattle.std.proofs.Common.{◌≡◌, ℕ, suc, ◌<◌, ◌≤◌, max, inl, inr, ⊎_elim, List, [], ◌∷◌, ◌++◌, length, Ok, Err, refl, sym, ap, subst, ◌∙◌, arith, length-append, append_assoc, append-nil, codes}
use Rattle.eql_lexer.specs.declared.token.Token.{Token}
use Rattle.eql_query.specs.QueryTree.{QueryTree}
use Rattle.eql_parser.specs.Kinds.{Kind, kind, kinds, any_, assign_, bar_, close_item_, folding, matches, name, null_, number, open_, open_item_, where_, with_}
use Rattle.eql_parser.specs.QueryGrammar.{Reads, IsQuery}
use Rattle.eql_parser.specs.Limits.{levels, levels_but, open_behind, FewAreOpen}
use Rattle.eql_parser.specs.Refusing.{Begins, BeginsWithin, NoQueryBegins, IsDeeperThan, SplitsAt, IsLeftOut, samples, joins, missing_event, regex, folding_regex, fine_unit, other_pipe, number_with_base, end_of, LeavesOut, IsPlainSyntax, IsTooDeep}
use Rattle.eql_parser.specs.Reading.{Fail, Syntax, LeftOut, TooDeep, TooOpen, Res, expr}
use Rattle.eql_parser.specs.QueryReading.{query, query_by}
use Rattle.eql_parser.proofs.Eventually.{Eventually}
use Rattle.eql_parser.proofs.Complete.{query_reached, but_levels, query_all, query_complete}
use Rattle.eql_parser.proofs.Reaches.{Reaches}
use Rattle.eql_parser.proofs.New.{above_all, above_new, late_behind}
use Rattle.eql_parser.proofs.ExprGrows.{Same}
use Rattle.eql_parser.proofs.Grows.{query_grows}
use Rattle.eql_parser.proofs.Told.{Because, Told}
use Rattle.eql_parser.proofs.Agrees.{Refuses, Passes, DeepBefore, deep_passes, which}
use Rattle.eql_parser.proofs.Local.{query_stops}
use Rattle.eql_parser.proofs.Meeting.{Instead, for_regex, for_folding_regex, for_missing, for_unit, for_pipe, for_number}
use Rattle.eql_parser.proofs.MeetingQuery.{stops_there}
use Rattle.eql_query.specs.declared.expr.PatOp.TheVariants.{Colon}
use Rattle.eql_parser.proofs.Opened.{told_of, opened, few_upto}
use Rattle.eql_parser.proofs.Starts.{fail_place, first_of, Follows}
use Rattle.eql_parser.proofs.StartsQuery.{begun}
use Rattle.eql_parser.proofs.EndingQuery.{ended}

-- a refusal that stays with more parentheses and levels allowed
abbrev Stays : Fail → Type 0
Stays (Syntax n) = Unit {0}
Stays (LeftOut w n) = Unit {0}
Stays (TooDeep n) = ⊥
Stays (TooOpen n) = ⊥

stays_refused : (r s : Res QueryTree) (e : Fail) → Stays e → r ≡ Err e → Same r s → s ≡ Err e
stays_refused r s (Syntax n) h k i = subst (λ t. Same t s) k i
stays_refused r s (LeftOut w n) h k i = subst (λ t. Same t s) k i
stays_refused r s (TooDeep n) h k i = absurd h
stays_refused r s (TooOpen n) h k i = absurd h

two_answers : (r : Res QueryTree) (q : QueryTree) (e : Fail) → r ≡ Ok (q, []) → r ≡ Err e → ⊥
two_answers r q e h k = let two : ◌≡◌ {A = Res QueryTree} (Ok (q, [])) (Err e) = sym h ∙ k in cc

-- tokens that are refused so are no query
pub none_read : (ts : List Kind) (e : Fail) → Stays e → query ts ≡ Err e → (q : QueryTree) → Reads ts q → ⊥
none_read ts e s h q read =
    let all = query_all (max 64 (levels q)) ts q read (omega arith) in
    let d : ℕ = max 128 all.0 in
    two_answers (query_by (expr d (max 64 (levels q))) ts) q e (all.1 d (omega arith))
    (stays_refused (query ts) (query_by (expr d (max 64 (levels q))) ts) e s h (query_grows 128 d 64 (max 64 (levels q)) ts (omega arith) (omega arith)))

refuses_none : (r : Res QueryTree) (q : QueryTree) → r ≡ Ok (q, []) → Refuses r → ⊥
refuses_none r q h k = subst Refuses h k

passes_none : (r : Res QueryTree) (q : QueryTree) → r ≡ Ok (q, []) → Passes r → ⊥
passes_none r q h k = subst Passes h k

-- no query begins with the tokens through the one at which Syntax comes: m through it, and x behind it
pub none_begins : (m x : List Kind) (n : ℕ) → query (m ++ x) ≡ Err (Syntax n) → length x < n → NoQueryBegins m
none_begins m x n h i y q read =
    let l : ℕ = max 64 (levels q) in
    let all = query_all l (m ++ y) q read (omega arith) in
    let d : ℕ = max 128 all.0 in
    let here : query_by (expr 128 l) (m ++ x) ≡ Err (Syntax n) =
    stays_refused (query (m ++ x)) (query_by (expr 128 l) (m ++ x)) (Syntax n) tt h (query_grows 128 128 64 l (m ++ x) (omega arith) (omega arith)) in
    refuses_none (query_by (expr d l) (m ++ y)) q (all.1 d (omega arith)) (query_stops ⊥ x y 128 d l m (Syntax n) (omega arith, λ e. absurd e) here i)

same_fail : (r : Res QueryTree) (e f : Fail) → r ≡ Err e → r ≡ Err f → e ≡ f
same_fail r e f h k = let both : ◌≡◌ {A = Res QueryTree} (Err e) (Err f) = sym h ∙ k in cc

-- the descent stops so, where enough levels and parentheses are allowed
abbrev pub StopsAt : List Kind → Fail → Type 0
StopsAt ts e = (j : ℕ) × ((l : ℕ) → j ≤ l → Eventually (λ d. query_by (expr d l) ts) (Err e))

instead_stops : (x y : List Kind) (e : Fail) → Instead x y e → (m : List Kind) (q : QueryTree) → Reads (m ++ x) q → StopsAt (m ++ y) e
instead_stops x y e st m q read = (levels q, λ l i. let all = query_all l (m ++ x) q read i in (all.0, λ d k. stops_there x y e st d l m q (all.1 d k)))

-- it stops at a left-out form that stands behind tokens with which some query goes on with another form
pub left_out_stops : (before from : List Kind) (word : List ℕ) (instead : List Kind) → IsLeftOut before from word instead → Begins (before ++ instead) → StopsAt (before ++ from) (LeftOut word (length from))
left_out_stops _ _ _ _ samples b = (0, λ l i. (0, λ d k. refl))
left_out_stops _ _ _ _ joins b = (0, λ l i. (0, λ d k. refl))
left_out_stops before _ _ _ (missing_event {ts = ts}) b =
    instead_stops _ _ _ (for_missing {c = b.rest} {b = ts}) before b.query (subst (λ l. Reads l b.query) (append_assoc before (open_item_ ∷ any_ ∷ where_ ∷ null_ ∷ close_item_ ∷ with_ ∷ []) b.rest) b.reads)
left_out_stops before _ _ _ (regex {ts = ts}) b =
    instead_stops _ _ _ (for_regex {c = b.rest} {b = ts}) before b.query (subst (λ l. Reads l b.query) (append_assoc before (matches Colon ∷ []) b.rest) b.reads)
left_out_stops before _ _ _ (folding_regex {ts = ts}) b =
    instead_stops _ _ _ (for_folding_regex {c = b.rest} {b = ts}) before b.query (subst (λ l. Reads l b.query) (append_assoc before (matches Colon ∷ []) b.rest) b.reads)
left_out_stops before _ w _ (fine_unit {ts = ts} front n cut f) b =
    subst (λ l. StopsAt l (LeftOut w (suc (length ts)))) (sym (ap (λ m. m ++ name w ∷ ts) cut ∙ append_assoc front (assign_ ∷ number n ∷ []) (name w ∷ ts)))
    (instead_stops _ _ _ (for_unit {c = b.rest} {b = ts} {n = n} {w = w} f) front b.query
    (subst (λ l. Reads l b.query) (append_assoc before (name (codes "s") ∷ []) b.rest ∙ ap (λ m. m ++ name (codes "s") ∷ b.rest) cut ∙ append_assoc front (assign_ ∷ number n ∷ []) (name (codes "s") ∷ b.rest)) b.reads))
left_out_stops before _ w _ (other_pipe {ts = ts} front cut f) b =
    subst (λ l. StopsAt l (LeftOut w (suc (length ts)))) (sym (ap (λ m. m ++ name w ∷ ts) cut ∙ append_assoc front (bar_ ∷ []) (name w ∷ ts)))
    (instead_stops _ _ _ (for_pipe {c = b.rest} {b = ts} {w = w} f) front b.query
    (subst (λ l. Reads l b.query) (append_assoc before (name (codes "head") ∷ []) b.rest ∙ ap (λ m. m ++ name (codes "head") ∷ b.rest) cut ∙ append_assoc front (bar_ ∷ []) (name (codes "head") ∷ b.rest)) b.reads))
left_out_stops before _ _ _ (number_with_base {w = w} call rest e args) b =
    instead_stops _ _ _ (for_number {w = w} call b.rest rest e args) before b.query (subst (λ l. Reads l b.query) (append_assoc before (folding w ∷ open_ ∷ call) b.rest) b.reads)

-- tokens at which it stops are no query
pub stops_none : (ts : List Kind) (e : Fail) → StopsAt ts e → (q : QueryTree) → Reads ts q → ⊥
stops_none ts e s q read =
    let l : ℕ = max s.0 (levels q) in
    let far = s.1 l (omega arith) in
    let all = query_all l ts q read (omega arith) in
    let d : ℕ = max far.0 all.0 in
    two_answers (query_by (expr d l) ts) q e (all.1 d (omega arith)) (far.1 d (omega arith))

-- what stops at a left-out form comes to no Syntax
no_syntax : (ts : List Kind) (w : List ℕ) (n m : ℕ) → StopsAt ts (LeftOut w n) → query ts ≡ Err (Syntax m) → ⊥
no_syntax ts w n m s h =
    let l : ℕ = max 64 s.0 in
    let far = s.1 l (omega arith) in
    let d : ℕ = max 128 far.0 in
    let here : query_by (expr d l) ts ≡ Err (Syntax m) =
    stays_refused (query ts) (query_by (expr d l) ts) (Syntax m) tt h (query_grows 128 d 64 l ts (omega arith) (omega arith)) in
    let both : LeftOut w n ≡ Syntax m = same_fail (query_by (expr d l) ts) (LeftOut w n) (Syntax m) (far.1 d (omega arith)) here in
    cc

-- and at no other one
pub one_left_out : (ts : List Kind) (w v : List ℕ) (n m : ℕ) → StopsAt ts (LeftOut w n) → StopsAt ts (LeftOut v m) → (w ≡ v) × (n ≡ m)
one_left_out ts w v n m s r =
    let l : ℕ = max s.0 r.0 in
    let one = s.1 l (omega arith) in
    let other = r.1 l (omega arith) in
    let d : ℕ = max one.0 other.0 in
    let both : LeftOut w n ≡ LeftOut v m = same_fail (query_by (expr d l) ts) (LeftOut w n) (LeftOut v m) (one.1 d (omega arith)) (other.1 d (omega arith)) in
    (cc, cc)

deep_at : (y : List Kind) (r : Res QueryTree) (n : ℕ) → r ≡ Err (TooDeep n) → DeepBefore y r → length y < n
deep_at y r n e h = subst (DeepBefore y) e h

-- where a level too many begins in m, no query is returned that begins with it, and none is refused behind it
not_reached : (m x y : List Kind) (n : ℕ) (q : QueryTree) → query (m ++ x) ≡ Err (TooDeep n) → length x < n → Reaches (length y) (λ d. query_by (expr d 64) (m ++ y)) (q, []) → ⊥
not_reached m x y n q h i (inl all) =
    let d : ℕ = max 128 all.0 in
    passes_none (query_by (expr d 64) (m ++ y)) q (all.1 d (omega arith))
    (deep_passes y (query_by (expr d 64) (m ++ y)) (query_stops ⊥ x y 128 d 64 m (TooDeep n) (omega arith, λ e. absurd e) h i))
not_reached m x y n q h i (inr (j, less, all)) =
    let d : ℕ = max 128 all.0 in
    let deep = deep_at y (query_by (expr d 64) (m ++ y)) (suc j) (all.1 d (omega arith)) (query_stops ⊥ x y 128 d 64 m (TooDeep n) (omega arith, λ e. absurd e) h i) in
    omega (arith, less, deep)

-- the tokens through the one at which TooDeep comes begin more levels than are allowed
pub deeper : (m x : List Kind) (n : ℕ) → query (m ++ x) ≡ Err (TooDeep n) → length x < n → IsDeeperThan 64 m
deeper m x n h i hole new y q read = ⊎_elim (λ more. more) (λ few. absurd (not_reached m x y n q h i (query_reached hole (length y) 64 (m ++ y) q read (late_behind hole m y new) few))) (which 64 (levels_but hole q))

-- what a query says of the answer of the first run
answers_it : (ts : List Kind) (q : QueryTree) (r s : Res QueryTree) → query ts ≡ r → s ≡ Ok (q, []) → Same r s → Reads ts q → levels q ≤ 64
    → ((before behind : List Kind) → ts ≡ before ++ behind → open_behind 0 before ≤ 128) → r ≡ Ok (q, [])
answers_it ts q (Ok p) s e f i read few calm = sym i ∙ f
answers_it ts q (Err (Syntax n)) s e f i read few calm = absurd (two_answers s q (Syntax n) f i)
answers_it ts q (Err (LeftOut w n)) s e f i read few calm = absurd (two_answers s q (LeftOut w n) f i)
answers_it ts q (Err (TooDeep n)) s e f i read few calm =
    let place = subst (λ s. Told 128 ts s) e (told_of ts) in
    let whole : Reads (ts ++ []) q = subst (λ l. Reads l q) (sym (append-nil ts)) read in
    let deep = deeper ts [] n (ap query (append-nil ts) ∙ e) (omega (arith, place.0)) (above_all ts) (above_new ts) [] q whole in
    absurd (omega (arith, few, deep, but_levels (above_all ts) q))
answers_it ts q (Err (TooOpen n)) s e f i read few calm =
    let place = opened ts n e in
    let cut : ts ≡ (place.0 ++ open_ ∷ []) ++ place.1 = place.2 ∙ sym (append_assoc place.0 (open_ ∷ []) place.1) in
    absurd (omega (arith, place.4, calm (place.0 ++ open_ ∷ []) place.1 cut))

-- a query within the limits is returned
pub answered : (ts : List Kind) (q : QueryTree) → Reads ts q → levels q ≤ 64 → ((before behind : List Kind) → ts ≡ before ++ behind → open_behind 0 before ≤ 128) → query ts ≡ Ok (q, [])
answered ts q read few calm =
    let all = query_complete ts q read few in
    let d : ℕ = max 128 all.0 in
    answers_it ts q (query ts) (query_by (expr d 64) ts) refl (all.1 d (omega arith)) (query_grows 128 d 64 64 ts (omega arith) (omega arith)) read few calm

pub kinds_length : (tokens : List Token) → length (kinds tokens) ≡ length tokens
kinds_length [] = refl
kinds_length (t ∷ ts) = ap suc (kinds_length ts)

pub kinds_both : (before behind : List Token) → kinds (before ++ behind) ≡ kinds before ++ kinds behind
kinds_both [] behind = refl
kinds_both (t ∷ before) behind = ap (λ l. kind t.tok ∷ l) (kinds_both before behind)

-- the descent stops at a left-out form
pub leaves_out_stops : {tokens : List Token} {at : ℕ} (s : SplitsAt tokens at) (word : List ℕ) → LeavesOut s word → StopsAt (kinds tokens) (LeftOut word (length (kinds (s.here ∷ s.behind))))
leaves_out_stops s word out =
    subst (λ l. StopsAt l (LeftOut word (length (kinds (s.here ∷ s.behind))))) (sym (ap kinds s.whole ∙ kinds_both s.before (s.here ∷ s.behind)))
    (left_out_stops (kinds s.before) (kinds (s.here ∷ s.behind)) word out.0 out.1 out.2)

-- where Syntax comes, nowhere a left-out form stands
plain : (tokens : List Token) (n : ℕ) → query (kinds tokens) ≡ Err (Syntax n) → (there : ℕ) (s : SplitsAt tokens there) (word : List ℕ) → LeavesOut s word → ⊥
plain tokens n h there s word out = no_syntax (kinds tokens) word (length (kinds (s.here ∷ s.behind))) n (leaves_out_stops s word out) h

-- no more tokens are left at the place than were given
pub place_within : (tokens : List Token) (e : Fail) → query (kinds tokens) ≡ Err e → fail_place e ≤ length tokens
place_within tokens e h =
    let b = begun (kinds tokens) e h in
    omega (arith, ap length b.cut, length-append b.front b.behind, b.count, kinds_length tokens)

-- only at the end may Syntax come with no token left
abbrev pub IsInside : Fail → Type 0
IsInside (Syntax n) = Unit {0}
IsInside e = 0 < fail_place e

is_inside : (ts : List Kind) (e : Fail) → Because 128 ts e → IsInside e
is_inside ts (Syntax n) h = tt
is_inside ts (LeftOut w n) h = h.0
is_inside ts (TooDeep n) h = h.0
is_inside ts (TooOpen n) h = omega (arith, h.3)

pub place_inside : (tokens : List Token) (e : Fail) → query (kinds tokens) ≡ Err e → IsInside e
place_inside tokens e h = is_inside (kinds tokens) e (subst (λ r. Told 128 (kinds tokens) r) h (told_of (kinds tokens)))

-- two ways to cut a list at one place
pub same_cut : (a b c d : List Kind) → a ++ c ≡ b ++ d → length c ≡ length d → (a ≡ b) × (c ≡ d)
same_cut [] [] c d e l = (refl, e)
same_cut [] (y ∷ b) c d e l = absurd (omega (arith, ap length e, l, length-append b d))
same_cut (x ∷ a) [] c d e l = absurd (omega (arith, ap length e, l, length-append a c))
same_cut (x ∷ a) (y ∷ b) c d e l =
    let tails : a ++ c ≡ b ++ d = cc in
    let rest = same_cut a b c d tails l in
    let heads : x ≡ y = cc in
    (ap (λ z. z ∷ a) heads ∙ ap (λ m. y ∷ m) rest.0, rest.1)

-- The tokens are some before, one at the place of the refusal, and some behind it.
module _ (tokens before behind : List Token) (here : Token) (whole : tokens ≡ before ++ here ∷ behind) where
  abbrev the_split : SplitsAt tokens here.start
  the_split = record { before = before; here = here; behind = behind; whole = whole; starts = refl }

  kinds_cut : kinds tokens ≡ kinds before ++ kind here.tok ∷ kinds behind
  kinds_cut = ap kinds whole ∙ kinds_both before (here ∷ behind)

  kinds_through : kinds tokens ≡ (kinds before ++ kinds (here ∷ [])) ++ kinds behind
  kinds_through = kinds_cut ∙ sym (append_assoc (kinds before) (kinds (here ∷ [])) (kinds behind))

  there : (e : Fail) → query (kinds tokens) ≡ Err e → query ((kinds before ++ kinds (here ∷ [])) ++ kinds behind) ≡ Err e
  there e h = ap query (sym kinds_through) ∙ h

  -- what could follow the tokens before the place
  goes_on_there : (e : Fail) → fail_place e ≡ suc (length behind) → query (kinds tokens) ≡ Err e
      → (follows : List Kind) × Begins (kinds before ++ follows) × Follows [] e (kinds before) (kinds (here ∷ behind)) follows
  goes_on_there e p h =
      let b = begun (kinds tokens) e h in
      let same = same_cut b.front (kinds before) b.behind (kinds (here ∷ behind)) (sym b.cut ∙ kinds_cut) (b.count ∙ p ∙ ap suc (sym (kinds_length behind))) in (
        b.follows,
        subst (λ m. Begins (m ++ b.follows)) same.0 b.begins,
        subst (λ f. Follows [] e (kinds before) f b.follows) same.1 (subst (λ m. Follows [] e m b.behind b.follows) same.0 b.why),
      )

  within_before : (e : Fail) → fail_place e ≡ suc (length behind) → query (kinds tokens) ≡ Err e → BeginsWithin 64 (kinds before)
  within_before e p h =
      let b = ended (kinds tokens) e h in
      let same = same_cut b.front (kinds before) b.behind (kinds (here ∷ behind)) (sym b.cut ∙ kinds_cut) (b.count ∙ p ∙ ap suc (sym (kinds_length behind))) in
      subst (BeginsWithin 64) same.0 b.begins

  few_before : (e : Fail) → fail_place e ≡ suc (length behind) → query (kinds tokens) ≡ Err e → FewAreOpen 128 (kinds before)
  few_before e p h =
      let u = few_upto (kinds tokens) e h in
      let same = same_cut u.0 (kinds before) u.1 (kinds (here ∷ behind)) (sym u.2 ∙ kinds_cut) (u.3 ∙ p ∙ ap suc (sym (kinds_length behind))) in
      subst (FewAreOpen 128) same.0 u.4

  pub syntax_cause : query (kinds tokens) ≡ Err (Syntax (suc (length behind))) → IsPlainSyntax tokens here.start
  syntax_cause h = (
    inl (
      the_split,
      within_before (Syntax (suc (length behind))) refl h,
      none_begins (kinds before ++ kinds (here ∷ [])) (kinds behind) (suc (length behind)) (there (Syntax (suc (length behind))) h) (omega (arith, kinds_length behind)),
      few_before (Syntax (suc (length behind))) refl h,
    ),
    plain tokens (suc (length behind)) h,
  )

  pub left_out_cause : (w : List ℕ) → query (kinds tokens) ≡ Err (LeftOut w (suc (length behind)))
      → ((s : SplitsAt tokens here.start) × LeavesOut s w × BeginsWithin 64 (kinds s.before) × FewAreOpen 128 (kinds s.before)) × ((query : QueryTree) → IsQuery tokens query → ⊥)
  left_out_cause w h =
      let on = goes_on_there (LeftOut w (suc (length behind))) refl h in
      let e : Fail = LeftOut w (suc (length behind)) in
      ((the_split, (on.0, on.2, on.1), within_before e refl h, few_before e refl h), none_read (kinds tokens) e tt h)

  pub too_deep_cause : query (kinds tokens) ≡ Err (TooDeep (suc (length behind))) → IsTooDeep tokens here.start
  too_deep_cause h =
      let on = goes_on_there (TooDeep (suc (length behind))) refl h in (
        the_split,
        subst (λ f. Begins (kinds before ++ f)) on.2 on.1,
        within_before (TooDeep (suc (length behind))) refl h,
        few_before (TooDeep (suc (length behind))) refl h,
        inr (deeper (kinds before ++ kinds (here ∷ [])) (kinds behind) (suc (length behind)) (there (TooDeep (suc (length behind))) h) (omega (arith, kinds_length behind))),
      )

  pub too_open_cause : query (kinds tokens) ≡ Err (TooOpen (suc (length behind))) → IsTooDeep tokens here.start
  too_open_cause h =
      let on = goes_on_there (TooOpen (suc (length behind))) refl h in
      let out = opened (kinds tokens) (suc (length behind)) h in
      let same = same_cut out.0 (kinds before) (open_ ∷ out.1) (kinds (here ∷ behind)) (sym out.2 ∙ kinds_cut) (out.3 ∙ ap suc (sym (kinds_length behind))) in
      let heads : open_ ∷ [] ≡ kinds (here ∷ []) = ap first_of same.1 in
      let opens : open_behind 0 (kinds before ++ kinds (here ∷ [])) ≡ 129 =
      subst (λ f. open_behind 0 (kinds before ++ f) ≡ 129) heads (subst (λ b. open_behind 0 (b ++ open_ ∷ []) ≡ 129) same.0 out.4) in
      let e : Fail = TooOpen (suc (length behind)) in
      (the_split, subst (λ f. Begins (kinds before ++ f)) on.2 on.1, within_before e refl h, few_before e refl h, inl (omega (arith, opens)))

no_token : (l : List Kind) → length l ≡ 0 → l ≡ []
no_token [] h = refl
no_token (k ∷ l) h = absurd (omega (arith, h))

-- where the tokens end too early
pub early_cause : (tokens : List Token) → query (kinds tokens) ≡ Err (Syntax 0) → IsPlainSyntax tokens (end_of tokens)
early_cause tokens h =
    let b = ended (kinds tokens) (Syntax 0) h in
    let u = few_upto (kinds tokens) (Syntax 0) h in
    let all : u.0 ≡ kinds tokens = sym (u.2 ∙ ap (λ l. u.0 ++ l) (no_token u.1 u.3) ∙ append-nil u.0) in
    let whole : b.front ≡ kinds tokens = sym (b.cut ∙ ap (λ l. b.front ++ l) (no_token b.behind b.count) ∙ append-nil b.front) in
    (inr (refl, subst (BeginsWithin 64) whole b.begins, none_read (kinds tokens) (Syntax 0) tt h, subst (FewAreOpen 128) all u.4), plain tokens 0 h)
