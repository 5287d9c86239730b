-- Two runs of the descent over a call with two arguments: the first in its folding form, and the second of `number`, which is left out.
use Rattle.std.proofs.Common.{◌≡◌, ℕ, zero, suc, ◌-◌, ◌≤◌, max, Bool, true, false, if◌then◌else◌, ◌⊎◌, ⊎_elim, inl, inr, List, [], ◌∷◌, ◌++◌, length, Ok, Err, refl, sym, ap, subst, ◌∙◌, arith, length-append, codes}
use Rattle.std.specs.Str.{bytes_eq}
use Rattle.eql_query.specs.Tree.{Tree, Trees, none, more}
use Rattle.eql_query.specs.Tree as t
use Rattle.eql_query.specs.View.{trees_of}
use Rattle.eql_parser.specs.Kinds.{Kind, name, folding, open_, close_}
use Rattle.eql_parser.specs.Grammar.{is_left_out_call, IsArguments}
use Rattle.eql_parser.specs.Limits.{deepest}
use Rattle.eql_parser.specs.Reading.{Fail, LeftOut, Res, then_do, res_map, closing, comma_list, call_of, arguments, expr}
use Rattle.eql_parser.specs.Reading as r
use Rattle.eql_parser.proofs.Told.{told_listed}
use Rattle.eql_parser.proofs.ToldExpr.{expr_told}
use Rattle.eql_parser.proofs.Agrees.{Short, short, Agree, agree_listed}
use Rattle.eql_parser.proofs.AgreesExpr.{expr_agrees}
use Rattle.eql_parser.proofs.ExprComplete.{arguments_all}
use Rattle.eql_parser.proofs.ExprGrows.{Same, expr_grows, arguments_grow}
use Rattle.eql_parser.proofs.Meeting.{Instead, for_regex, for_folding_regex, for_missing, for_unit, for_pipe, for_number, Met}

-- tokens that are two arguments up to the parenthesis that closes, whatever follows
abbrev AreTwo : List Kind → Tree → Tree → Type 0
AreTwo call a b = (others : List Kind) → IsArguments (call ++ others) (more a (more b none)) others

one_answer : (r : Res (List Tree)) (p q : List Tree × List Kind) → r ≡ Ok p → r ≡ Ok q → p ≡ q
one_answer r p q h k = let both : ◌≡◌ {A = Res (List Tree)} (Ok p) (Ok q) = sym h ∙ k in cc

-- what is read are these two, and the rest is left
read_two : (d l : ℕ) (call c : List Kind) (a b : Tree) → AreTwo call a b → (p : List Tree × List Kind) → arguments true (expr d) l (call ++ c) ≡ Ok p
    → (trees_of p.0 ≡ more a (more b none)) × (p.1 ≡ c)
read_two d l call c a b args p h =
    let far : ℕ = max l (deepest (more a (more b none))) in
    let all = arguments_all far (call ++ c) (more a (more b none)) c (args c) (omega arith) in
    let most : ℕ = max d all.2.0 in
    let grown : Same (Ok p) (arguments true (expr most) far (call ++ c)) =
    subst (λ s. Same s (arguments true (expr most) far (call ++ c))) h
    (arguments_grow true true (expr d) (expr most) (λ e. (refl, λ k n vs j. expr_grows d most k n vs (omega arith) j)) refl l far (call ++ c) (omega arith)) in
    let same : (all.0, c) ≡ p = one_answer (arguments true (expr most) far (call ++ c)) (all.0, c) p (all.2.1 most (omega arith)) grown in
    (ap (λ q. trees_of q.0) (sym same) ∙ all.1, ap (λ q. q.1) (sym same))

closing_left : (es : List Tree) (us : List Kind) (p : List Tree × List Kind) → closing es us ≡ Ok p → ◌≡◌ {A = Res (List Tree)} (Ok (es, us)) (Ok (p.0, close_ ∷ p.1))
closing_left es [] p h = absurd cc
closing_left es (close_ ∷ us) p h = let same : (es, us) ≡ p = cc in ap (λ q. Ok (q.0, close_ ∷ q.1)) same
closing_left es (k ∷ us) p h = absurd cc

closed_left : (s : Res (List Tree)) (p : List Tree × List Kind) → then_do s closing ≡ Ok p → s ≡ Ok (p.0, close_ ∷ p.1)
closed_left (Ok q) p h = closing_left q.0 q.1 p h
closed_left (Err e) p h = absurd cc

-- arguments are a list behind which a parenthesis closes, or none
left_of : (room : Bool) (inner : ℕ → List Kind → Res Tree) (l : ℕ) (us : List Kind) (p : List Tree × List Kind) → arguments room inner l us ≡ Ok p
    → (p.0 ≡ []) ⊎ (comma_list (inner l) us ≡ Ok (p.0, close_ ∷ p.1))
left_of room inner l [] p h = inr (closed_left (comma_list (inner l) []) p h)
left_of room inner l (close_ ∷ us) p h = let same : ([], us) ≡ p = cc in inl (ap (λ q. q.0) (sym same))
left_of room inner l (k ∷ us) p h = inr (closed_left (comma_list (inner l) (k ∷ us)) p h)

two_some : (es : List Tree) (a b : Tree) → trees_of es ≡ more a (more b none) → es ≡ [] → ⊥
two_some es a b h e = let both : none ≡ more a (more b none) = ap trees_of (sym e) ∙ h in cc

two_listed : (d l : ℕ) (call c : List Kind) (a b : Tree) → AreTwo call a b → (p : List Tree × List Kind) → arguments true (expr d) l (call ++ c) ≡ Ok p
    → comma_list (expr d l) (call ++ c) ≡ Ok (p.0, close_ ∷ c)
two_listed d l call c a b args p h =
    let two = read_two d l call c a b args p h in
    ⊎_elim (λ e. absurd (two_some p.0 a b two.0 e)) (λ g. g ∙ ap (λ us. Ok (p.0, close_ ∷ us)) two.1) (left_of true (expr d) l (call ++ c) p h)

one_before : (k : Kind) (m c : List Kind) → k ∷ c ≡ m ++ c → m ≡ k ∷ []
one_before k [] c h = absurd (omega (arith, ap length h))
one_before k (j ∷ []) c h = let heads : k ≡ j = cc in ap (λ i. i ∷ []) (sym heads)
one_before k (j ∷ i ∷ m) c h = absurd (omega (arith, ap length h, length-append m c))

-- the list is read alike whatever follows it
listed_again : (d d' l : ℕ) → d ≤ d' → (call c u : List Kind) (a b : Tree) → AreTwo call a b → (p : List Tree × List Kind) → arguments true (expr d) l (call ++ c) ≡ Ok p
    → comma_list (expr d' l) (call ++ u) ≡ Ok (p.0, close_ ∷ u)
listed_again d d' l le call c u a b args p h =
    let agrees : Agree ⊥ c u (Ok (p.0, close_ ∷ c)) (comma_list (expr d' l) (call ++ u)) =
    subst (λ s. Agree ⊥ c u s (comma_list (expr d' l) (call ++ u))) (two_listed d l call c a b args p h)
    (agree_listed ⊥ c u d (expr d l) (expr d' l) (expr_told d l) (λ m. expr_agrees ⊥ c u d d' l m (le, λ e. absurd e)) call) in
    let at = agrees (omega arith) in
    at.2 ∙ ap (λ m. Ok (p.0, m ++ u)) (one_before close_ at.0 c at.1)

-- and so are the arguments
read_again : (d d' l : ℕ) → d ≤ d' → (call c u : List Kind) (a b : Tree) → AreTwo call a b → (p : List Tree × List Kind) → arguments true (expr d) l (call ++ c) ≡ Ok p
    → arguments true (expr d') l (call ++ u) ≡ Ok (p.0, u)
read_again d d' l le [] c u a b args p h =
    let fits : Short (length c) (Ok (p.0, close_ ∷ c)) =
    subst (Short (length c)) (two_listed d l [] c a b args p h) (short d c (comma_list (expr d l) c) (told_listed d (expr d l) c (expr_told d l))) in
    absurd (omega (arith, fits))
read_again d d' l le (close_ ∷ call) c u a b args p h =
    let same : ([], call ++ c) ≡ p = cc in
    absurd (two_some p.0 a b (read_two d l (close_ ∷ call) c a b args p h).0 (ap (λ q. q.0) (sym same)))
read_again d d' l le (k ∷ call) c u a b args p h = ap (λ s. then_do s closing) (listed_again d d' l le (k ∷ call) c u a b args p h)

left_out_call : (w : List ℕ) (place : ℕ) (es : List Tree) (us : List Kind) (a b : Tree) → bytes_eq w (codes "number") ≡ true → trees_of es ≡ more a (more b none)
    → call_of w place es us ≡ Err (LeftOut (codes "number") place)
left_out_call w place es us a b named two =
    ap (λ f. if f then Err (LeftOut (codes "number") place) else Ok (t.call w false (trees_of es), us)) (ap (is_left_out_call w) two ∙ named)

-- the call of `number` stops the second run where the first reads on
number_met : (d d' l : ℕ) → d ≤ d' → (call c u : List Kind) (w : List ℕ) (a b : Tree) → bytes_eq w (codes "number") ≡ true → AreTwo call a b
    → (s : Res (List Tree)) → arguments true (expr d) l (call ++ c) ≡ s
    → Met (folding w ∷ open_ ∷ (call ++ c)) (name w ∷ open_ ∷ (call ++ u)) (LeftOut (codes "number") (suc (suc (length (call ++ u)))))
    (res_map (λ es. t.call w true (trees_of es)) s) (then_do (arguments true (expr d') l (call ++ u)) (call_of w (suc (suc (length (call ++ u))))))
number_met d d' l le call c u w a b named args (Err f) h = tt
number_met d d' l le call c u w a b named args (Ok p) h =
    let place : ℕ = suc (suc (length (call ++ u))) in
    inr (
    ap (λ s. then_do s (call_of w place)) (read_again d d' l le call c u a b args p h)
    ∙ left_out_call w place p.0 u a b named (read_two d l call c a b args p h).0)

-- where no parenthesis may open, the first run stops
pub shut_first : (room : Bool) (inner inner' : ℕ → List Kind → Res Tree) (l : ℕ) (x y : List Kind) (e : Fail) → Instead x y e → Met x y e (r.prim false inner l x) (r.prim room inner' l y)
shut_first room inner inner' l _ _ _ for_regex = tt
shut_first room inner inner' l _ _ _ for_folding_regex = tt
shut_first room inner inner' l _ _ _ for_missing = tt
shut_first room inner inner' l _ _ _ (for_unit h) = tt
shut_first room inner inner' l _ _ _ (for_pipe h) = tt
shut_first room inner inner' zero _ _ _ (for_number call c b h args) = tt
shut_first room inner inner' (suc l) _ _ _ (for_number call c b h args) = tt

pub open_first : (d d' l : ℕ) → d ≤ d' → (x y : List Kind) (e : Fail) → Instead x y e → Met x y e (r.prim true (expr d) l x) (r.prim true (expr d') l y)
open_first d d' l le _ _ _ for_regex = tt
open_first d d' l le _ _ _ for_folding_regex = tt
open_first d d' l le _ _ _ for_missing = tt
open_first d d' l le _ _ _ (for_unit h) = tt
open_first d d' l le _ _ _ (for_pipe h) = tt
open_first d d' zero le _ _ _ (for_number call c b h args) = tt
open_first d d' (suc l) le _ _ _ (for_number {w = w} {first = first} {second = second} call c b h args) =
    number_met d d' (suc l - 1) le call c b w first second h args (arguments true (expr d) (suc l - 1) (call ++ c)) refl
