-- Levels: a node that begins where another level is allowed, and an operator above its operand.
use Rattle.std.proofs.Common.{◌≡◌, ◌≢◌, ◌<◌, ◌≤◌, ◌==◌, ℕ, zero, suc, pos, negsuc, nat_lt, Bool, true, false, if◌then◌else◌, Err, refl, sym, ap, ◌∙◌, arith}
use Rattle.std.proofs.lemmas.Bool.Decides.{nat_tests}
use Rattle.eql_query.specs.Tree.{Tree, Trees, none, more}
use Rattle.eql_query.specs.Tree as t
use Rattle.eql_parser.specs.Limits.{depth, deepest, depth_but, deepest_but}
use Rattle.eql_parser.specs.Reading.{TooDeep, Res, at_level, above}

below : (a l : ℕ) → a < l → nat_lt a l ≡ true
below a l h = grind (arith, nat_tests)

not_below : (a l : ℕ) → l ≤ a → nat_lt a l ≡ false
not_below a l h = grind (arith, nat_tests)

pub above_is : {A : Type 0} (l d : ℕ) (a : Tree) (place : ℕ) (r : Res A) → d ≡ depth a → d < l → above l a place r ≡ r
above_is l d a place r e h = ap (λ t. if t then r else Err (TooDeep place)) (ap (λ n. nat_lt n l) (sym e) ∙ below d l h)

pub above_deep : {A : Type 0} (l d : ℕ) (a : Tree) (place : ℕ) (r : Res A) → d ≡ depth a → l ≤ d → above l a place r ≡ Err (TooDeep place)
above_deep l d a place r e h = ap (λ t. if t then r else Err (TooDeep place)) (ap (λ n. nat_lt n l) (sym e) ∙ not_below d l h)

pub level_is : {A : Type 0} (l place : ℕ) (r : Res A) → l ≢ 0 → at_level l place r ≡ r
level_is zero place r h = absurd (h refl)
level_is (suc l) place r h = refl

pub level_deep : {A : Type 0} (l place : ℕ) (r : Res A) → l ≡ 0 → at_level l place r ≡ Err (TooDeep place)
level_deep zero place r h = refl
level_deep (suc l) place r h = absurd (omega arith)

-- the number that counts as nothing
pub nothing : (h : ℕ) → depth_but h (t.long (pos h)) ≡ 0
nothing h = let same : (h == h) ≡ true = grind (arith, nat_tests) in ap (λ b. if b then 0 else 1) same

at_most_one : (b : Bool) → (if b then 0 else 1) ≤ 1
at_most_one true = omega arith
at_most_one false = omega arith

-- what counts as nothing takes no level away but its own
mutual
  pub but_less : (h : ℕ) (e : Tree) → depth_but h e ≤ depth e
  but_less h t.null = omega arith
  but_less h (t.bool b) = omega arith
  but_less h (t.long (pos n)) = at_most_one (n == h)
  but_less h (t.long (negsuc n)) = omega arith
  but_less h (t.str s) = omega arith
  but_less h (t.field n o) = omega arith
  but_less h (t.not e) = omega (arith, but_less h e)
  but_less h (t.and es) = omega (arith, but_deepest h es)
  but_less h (t.or es) = omega (arith, but_deepest h es)
  but_less h (t.cmp o a b) = omega (arith, but_less h a, but_less h b)
  but_less h (t.pattern o a ss) = omega (arith, but_less h a)
  but_less h (t.member f n a vs) = omega (arith, but_less h a)
  but_less h (t.neg e) = omega (arith, but_less h e)
  but_less h (t.math o a b) = omega (arith, but_less h a, but_less h b)
  but_less h (t.call w f es) = omega (arith, but_deepest h es)

  pub but_deepest : (h : ℕ) (es : Trees) → deepest_but h es ≤ deepest es
  but_deepest h none = omega arith
  but_deepest h (more e es) = omega (arith, but_less h e, but_deepest h es)
