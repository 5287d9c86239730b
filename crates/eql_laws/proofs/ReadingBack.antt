-- The computed look-back is the one in the words of the rules.
use Rattle.std.proofs.Common.{◌≡◌, ℕ, suc, ℤ, Bool, true, false, cond, List, [], ◌∷◌, ◌++◌, Option, Some, None, refl, sym, ap, ◌∙◌, subst}
use Rattle.std.specs.Prelude.{not, ◌&&◌}
use Rattle.std.specs.List.{list_any}
use Rattle.eql_values.specs.declared.order.OrderKey.{OrderKey}
use Rattle.eql_values.specs.declared.item.KeyEvent.{KeyEvent}
use Rattle.eql_values.specs.Chains.{Placed, fits_after, ends, in_time, here_or, at_start, latest, chain_with, chain}
use Rattle.eql_laws.specs.InWords.{NoneStandsBetween, Follows}

-- what the search for the greatest place found
record Found (f : List KeyEvent → Option (List OrderKey)) (past : List KeyEvent) (found : Placed) : Type 0 where
  place : List KeyEvent
  parts : past ≡ found.1 ++ place
  there : f place ≡ Some found.0
  greatest : NoneStandsBetween f found.1 place

found_at_start : (f : List KeyEvent → Option (List OrderKey)) (o : Option (List OrderKey)) (found : Placed) → f [] ≡ o → at_start o ≡ Some found → Found f [] found
found_at_start f None found e is = cc
found_at_start f (Some c) found e is =
    let same : ◌≡◌ {A = Placed} (c, []) found = cc in
    subst (Found f []) same (record { place = []; parts = refl; there = e; greatest = tt })

found_before : (f : List KeyEvent → Option (List OrderKey)) (item : KeyEvent) (past : List KeyEvent) (b found : Placed) → Found f past b → f (item ∷ past) ≡ None
    → ◌≡◌ {A = Placed} (b.0, item ∷ b.1) found → Found f (item ∷ past) found
found_before f item past b found h e same =
    subst (Found f (item ∷ past)) same (record {
      place = h.place;
      parts = ap (λ (xs : List KeyEvent). item ∷ xs) h.parts;
      there = h.there;
      greatest = (ap (λ (xs : List KeyEvent). f (item ∷ xs)) (sym h.parts) ∙ e, h.greatest);
    })

found_latest : (f : List KeyEvent → Option (List OrderKey)) (past : List KeyEvent) (found : Placed) → latest f past ≡ Some found → Found f past found
found_latest f [] found is = found_at_start f (f []) found refl is
found_latest f (item ∷ past) found is =
    elim (f (item ∷ past)) as (λ o. f (item ∷ past) ≡ o → here_or o item (latest f past) ≡ Some found → Found f (item ∷ past) found) [
      | Some c ↦ λ e h.
          let same : ◌≡◌ {A = Placed} (c, []) found = cc in
          subst (Found f (item ∷ past)) same (record { place = item ∷ past; parts = refl; there = e; greatest = tt })
      | None ↦ λ e h.
          elim (latest f past) as (λ l. latest f past ≡ l → here_or None item l ≡ Some found → Found f (item ∷ past) found) [
            | None ↦ λ e' h'. cc
            | Some b ↦ λ e' h'. let same : ◌≡◌ {A = Placed} (b.0, item ∷ b.1) found = cc in found_before f item past b found (found_latest f past b e') e same
          ] refl h
    ] refl is

abbrev was_followed : Option ℤ → ℕ → KeyEvent → Placed → Bool
was_followed span k item b = not (list_any (fits_after k) b.1) && not (list_any ends (item ∷ b.1)) && in_time span b.0 item.order.ts

all_three : (a b c : Bool) → (not a && not b && c) ≡ true → (a ≡ false) × (b ≡ false) × (c ≡ true)
all_three false false true h = (refl, refl, refl)
all_three true b c h = cc
all_three false true c h = cc
all_three false false false h = cc

module _ (span : Option ℤ) (opening : ℕ → Option (List OrderKey)) (k : ℕ) (item : KeyEvent) (past : List KeyEvent) (c : List OrderKey) where
  by_found : (b : Placed) → fits_after (suc k) item ≡ true → Found (chain span opening (suc k)) past b → (w : Bool) → was_followed span (suc k) item b ≡ w
      → cond w (Some (b.0 ++ item.order ∷ [])) None ≡ Some c → Follows span opening k item past c
  by_found b fit f false e is = cc
  by_found b fit f true e is =
      let three = all_three (list_any (fits_after (suc k)) b.1) (list_any ends (item ∷ b.1)) (in_time span b.0 item.order.ts) e in
      record {
        before = b.0;
        between = b.1;
        place = f.place;
        parts = f.parts;
        fits = fit;
        there = f.there;
        greatest = f.greatest;
        none_fits = three.0;
        none_ends = three.1;
        within = three.2;
        is = cc;
      }

  by_latest : (fit : Bool) → fits_after (suc k) item ≡ fit → (l : Option Placed) → latest (chain span opening (suc k)) past ≡ l
      → cond fit (chain_with span (suc k) item l) None ≡ Some c → Follows span opening k item past c
  by_latest false e l f is = cc
  by_latest true e None f is = cc
  by_latest true e (Some b) f is = by_found b e (found_latest (chain span opening (suc k)) past b f) (was_followed span (suc k) item b) refl is

  -- a chain of a later stage that is there was followed as the rules say
  pub chain_follows : chain span opening (suc (suc k)) (item ∷ past) ≡ Some c → Follows span opening k item past c
  chain_follows is = by_latest (fits_after (suc k) item) refl (latest (chain span opening (suc k)) past) refl is

latest_here : (f : List KeyEvent → Option (List OrderKey)) (place : List KeyEvent) (before : List OrderKey) → f place ≡ Some before → latest f place ≡ Some (before, [])
latest_here f [] before e = ap at_start e
latest_here f (x ∷ place) before e = ap (λ (o : Option (List OrderKey)). here_or o x (latest f place)) e

latest_is : (f : List KeyEvent → Option (List OrderKey)) (between place : List KeyEvent) (before : List OrderKey) → f place ≡ Some before → NoneStandsBetween f between place
    → latest f (between ++ place) ≡ Some (before, between)
latest_is f [] place before e none = latest_here f place before e
latest_is f (x ∷ between) place before e none =
    (λ i. here_or (none.0 i) x (latest_is f between place before e none.1 i))

-- and as the rules say, there is that chain
pub follows_chain : (span : Option ℤ) (opening : ℕ → Option (List OrderKey)) (k : ℕ) (item : KeyEvent) (past : List KeyEvent) (c : List OrderKey)
    → Follows span opening k item past c → chain span opening (suc (suc k)) (item ∷ past) ≡ Some c
follows_chain span opening k item past c h =
    (λ i. cond (h.fits i) (chain_with span (suc k) item (latest (chain span opening (suc k)) (h.parts i))) None)
    ∙ ap (chain_with span (suc k) item) (latest_is (chain span opening (suc k)) h.between h.place h.before h.there h.greatest)
    ∙ (λ i. cond (not (h.none_fits i) && not (h.none_ends i) && h.within i) (Some (h.before ++ item.order ∷ [])) None)
    ∙ ap Some (sym h.is)
