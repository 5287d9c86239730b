-- How far a list of bytes was written.
use Rattle.std.proofs.Common.{◌≡◌, ℕ, ◌+◌, ◌-◌, ◌≤◌, List, ◌++◌, take, drop, length, Option, Some, None, IfSome, ap, sym, ◌∙◌, subst, append_assoc, append-nil, arith}
use Rattle.std.proofs.Math.Seq.{take-add}
use Rattle.std.proofs.lemmas.List.{take_rest, length-drop}
use Rattle.std.specs.Io.KnownBytes.{Appends, Keeps}

-- the first bytes, this many, stand behind what was there
pub record WroteUpTo (at : ℕ) (bytes : List ℕ) (old now : Option (List ℕ)) : Type 0 where
  pub within : at ≤ length bytes
  pub wrote : IfSome old (λ w. now ≡ Some (w ++ take at bytes))

nothing : (w : List ℕ) (bytes : List ℕ) → w ++ take 0 bytes ≡ w
nothing w bytes = append-nil w

pub wrote-none : (bytes : List ℕ) (old : Option (List ℕ)) → WroteUpTo 0 bytes old old
wrote-none bytes None = record { within = omega arith; wrote = tt }
wrote-none bytes (Some w) = record { within = omega arith; wrote = ap Some (sym (nothing w bytes)) }

appended : (w v : List ℕ) (mid : Option (List ℕ)) (new : Option (List ℕ)) (bs : List ℕ) → mid ≡ Some v → Appends mid new bs → new ≡ Some (v ++ bs)
appended w v None new bs is more = cc
appended w v (Some u) None bs is more = absurd more
appended w v (Some u) (Some x) bs is more = let e : u ≡ v = cc in ap Some (more ∙ ap (λ y. y ++ bs) e)

more_bytes : (at n : ℕ) (bytes : List ℕ) (old mid new : Option (List ℕ)) → IfSome old (λ w. mid ≡ Some (w ++ take at bytes)) → Appends mid new (take n (drop at bytes)) → IfSome old (λ w. new ≡ Some (w ++ take (at + n) bytes))
more_bytes at n bytes None mid new so more = tt
more_bytes at n bytes (Some w) mid new so more = appended w (w ++ take at bytes) mid new (take n (drop at bytes)) so more ∙ ap Some (append_assoc w (take at bytes) (take n (drop at bytes)) ∙ ap (λ y. w ++ y) (sym (take-add at n bytes)))

-- a write of the rest wrote some more
pub wrote-more : (at n : ℕ) (bytes rest : List ℕ) (old mid new : Option (List ℕ)) → WroteUpTo at bytes old mid → rest ≡ take (length bytes - at) (drop at bytes) → n ≤ length rest → Appends mid new (take n rest) → WroteUpTo (at + n) bytes old new
wrote-more at n bytes rest old mid new so is fits more =
    let whole : rest ≡ drop at bytes = is ∙ take_rest bytes at in
    let left : n ≤ length (drop at bytes) = subst (λ r. n ≤ length r) whole fits in
    record {
      within = omega (arith, length-drop at bytes);
      wrote = more_bytes at n bytes old mid new so.wrote (subst (λ r. Appends mid new (take n r)) whole more);
    }

same_bytes : (at : ℕ) (bytes : List ℕ) (old mid new : Option (List ℕ)) → IfSome old (λ w. mid ≡ Some (w ++ take at bytes)) → Keeps mid new → IfSome old (λ w. new ≡ Some (w ++ take at bytes))
same_bytes at bytes None mid new so kept = tt
same_bytes at bytes (Some w) None new so kept = cc
same_bytes at bytes (Some w) (Some u) None so kept = absurd kept
same_bytes at bytes (Some w) (Some u) (Some x) so kept = ap Some kept ∙ so

-- a write that failed wrote no more
pub wrote-kept : (at : ℕ) (bytes : List ℕ) (old mid new : Option (List ℕ)) → WroteUpTo at bytes old mid → Keeps mid new → WroteUpTo at bytes old new
wrote-kept at bytes old mid new so kept = record { within = so.within; wrote = same_bytes at bytes old mid new so.wrote kept }
