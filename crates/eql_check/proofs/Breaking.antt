-- What holds where no rule is broken.
use Rattle.std.proofs.Common.{◌≡◌, ℕ, ◌+◌, List, [], ◌∷◌, Bool, true, false, ◌&&◌, Option, Some, None, refl}
use Rattle.std.specs.List.{list_all}
use Rattle.eql_values.specs.declared.value.Kind.{Kind}
use Rattle.eql_query.specs.QueryTree.{TermTree}
use Rattle.eql_check.specs.declared.refused.CheckRefused.{CheckRefused}
use Rattle.eql_check.specs.declared.refused.CheckRefused.TheVariants.{Runs}
use Rattle.eql_check.specs.FirstBroken.{kind_of}
use Rattle.eql_check.specs.Rules.{Broken, unless, or_next, unless_bool, are_runs, has_runs, keys_broken, item_broken, items_broken}

-- of two rules neither is broken
pub or_none : (a b : Broken) → or_next a b ≡ None → (a ≡ None) × (b ≡ None)
or_none None b e = (refl, e)
or_none (Some rule) b e = cc

pub none_of : (a b : Broken) → a ≡ None → b ≡ None → or_next a b ≡ None
none_of None b e f = f
none_of (Some rule) b e f = cc

pub unless_true : (kept : Bool) (rule : CheckRefused) → kept ≡ true → unless kept rule ≡ None
unless_true true rule e = refl
unless_true false rule e = cc

pub unless_none : (kept : Bool) (rule : CheckRefused) → unless kept rule ≡ None → kept ≡ true
unless_none true rule e = refl
unless_none false rule e = cc

pub both_true : (a b : Bool) → a ≡ true → b ≡ true → a && b ≡ true
both_true true true e f = refl
both_true true false e f = cc
both_true false b e f = cc

module _ (mapping : List ℕ → Option Kind) where
  runs_of : (item : ℕ) (term : TermTree) → item_broken mapping item term ≡ None → has_runs term ≡ true
  runs_of item term e =
      let x = or_none (unless_bool item (kind_of item mapping term.cond)) (or_next (keys_broken mapping term.by) (unless (are_runs term.runs) (Runs term.runs))) e in
      let y = or_none (keys_broken mapping term.by) (unless (are_runs term.runs) (Runs term.runs)) x.1 in
      unless_none (are_runs term.runs) (Runs term.runs) y.1

  -- each item has runs from 1 to 100
  pub runs_kept : (item : ℕ) (terms : List TermTree) → items_broken mapping item terms ≡ None → list_all has_runs terms ≡ true
  runs_kept item [] e = refl
  runs_kept item (term ∷ terms) e =
      let x = or_none (item_broken mapping item term) (items_broken mapping (item + 1) terms) e in
      both_true (has_runs term) (list_all has_runs terms) (runs_of item term x.0) (runs_kept (item + 1) terms x.1)
