-- The kinds of keys and blocks, place by place.
use Rattle.std.proofs.Common.{◌≡◌, ℕ, zero, suc, ◌+◌, ◌<◌, List, [], ◌∷◌, ◌++◌, length, true, false, Option, None, Some, is_some, refl, sym, ap, ◌∙◌, arith, get_or, slice_set, drop}
use Rattle.std.proofs.lemmas.List.{drop_more}
use Rattle.eql_values.specs.declared.value.Kind.{Kind}
use Rattle.eql_query.specs.Tree.{Trees, none, more}
use Rattle.eql_query.specs.declared.expr.FieldRef.{FieldRef}
use Rattle.eql_check.specs.Calls.{are_blocks}
use Rattle.eql_check.specs.Rules.{fit, settled_kinds, key_kinds}

abbrev Places : Type 0
Places = List (Option Kind)

pub fit_none : (js : Places) → fit js [] ≡ true
fit_none [] = refl
fit_none (j ∷ js) = refl

pub blocks_none : (es : Trees) → are_blocks es [] ≡ true
blocks_none none = refl
blocks_none (more a es) = refl

pub next_kinds : (mapping : List ℕ → Option Kind) (keys : List FieldRef) (i : ℕ) (key : FieldRef) (k : Option Kind) → i < length keys →
    key ≡ get_or keys i key → k ≡ mapping key.name → key_kinds mapping (drop i keys) ≡ k ∷ key_kinds mapping (drop (i + 1) keys)
next_kinds mapping keys i key k l e f =
    ap (key_kinds mapping) (drop_more keys i key l)
    ∙ ap (λ j. j ∷ key_kinds mapping (drop (i + 1) keys)) (sym (f ∙ ap (λ x. mapping x.name) e))

-- the places from the i-th on, settled by further keys
abbrev pub settled_from : ℕ → Places → Places → Places
settled_from zero js ks = settled_kinds js ks
settled_from (suc i) [] ks = settled_kinds [] ks
settled_from (suc i) (j ∷ js) ks = j ∷ settled_from i js ks

pub one_on : (js : Places) (i : ℕ) (ks : Places) → settled_from (i + 1) js ks ≡ settled_from (suc i) js ks
one_on js i ks = let next : i + 1 ≡ suc i = omega arith in ap (λ n. settled_from n js ks) next

pub all_settled : (js : Places) (i : ℕ) → settled_from i js [] ≡ js
all_settled js zero = refl
all_settled [] (suc i) = refl
all_settled (j ∷ js) (suc i) = ap (λ xs. j ∷ xs) (all_settled js i)

-- a place that is settled stays as it is
pub stays : (js : Places) (i : ℕ) (k : Option Kind) (ks : Places) (d : Option Kind) → i < length js → is_some (get_or js i d) ≡ true →
    settled_from (suc i) js ks ≡ settled_from i js (k ∷ ks)
stays [] i k ks d l e = absurd (omega arith)
stays (None ∷ js) zero k ks d l e = cc
stays (Some j ∷ js) zero k ks d l e = refl
stays (j ∷ js) (suc i) k ks d l e = ap (λ xs. j ∷ xs) (stays js i k ks d (omega arith) e)

-- another gets the kind of the key there
pub settles : (js : Places) (i : ℕ) (k : Option Kind) (ks : Places) (d : Option Kind) → i < length js → is_some (get_or js i d) ≡ false →
    settled_from (suc i) (slice_set js i k) ks ≡ settled_from i js (k ∷ ks)
settles [] i k ks d l e = absurd (omega arith)
settles (None ∷ js) zero k ks d l e = refl
settles (Some j ∷ js) zero k ks d l e = cc
settles (j ∷ js) (suc i) k ks d l e = ap (λ xs. j ∷ xs) (settles js i k ks d (omega arith) e)

-- a key behind them all adds its place
pub adds : (js : Places) (i : ℕ) (k : Option Kind) (ks : Places) → i ≡ length js →
    settled_from (suc i) (js ++ k ∷ []) ks ≡ settled_from i js (k ∷ ks)
adds [] zero k ks e = refl
adds [] (suc i) k ks e = absurd (omega arith)
adds (j ∷ js) zero k ks e = absurd (omega arith)
adds (j ∷ js) (suc i) k ks e = ap (λ xs. j ∷ xs) (adds js i k ks (omega arith))
