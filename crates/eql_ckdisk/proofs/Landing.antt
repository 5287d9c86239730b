-- What a further write leaves.
use Rattle.std.proofs.Common.{inl, inr, List, ℕ, sym, subst}
use Rattle.eql_outside.specs.Areas.{Write, Store, MayLeave, store_with}
use Rattle.eql_outside.specs.Moments.{LandsOn}

-- what a further write leaves is what lands on what was left before
pub landed : (w : Write) (s : Store) (seen : List ℕ) → LandsOn w s seen → (c : List ℕ) → MayLeave (store_with w seen s) c
    → LandsOn w s c
landed w s seen on c (inl is) = subst (LandsOn w s) (sym is) on
landed w s seen on c (inr (d, left, lands)) = (d, inr left, lands)
