-- Whether two pointers are the same tells whether they are equal.
use Rattle.std.proofs.Common.{◌≡◌, true, false, ◌&&◌, ◌==◌, refl, sym, subst, eqb→eq, T}
use lib.Dec.{eqb_refl}
use mathlib.Core.Bool.{Bool}
use denote.RawPtr.{Ptr, block_ptr, null_ptr}
use Rattle.eql_span_list.specs.PlacedNode.{same_pointer}

holds : (b : Bool) → T b → b ≡ true
holds true t = refl
holds false t = absurd t

and_parts : (x y : Bool) → (x && y) ≡ true → T x × T y
and_parts true true e = (tt, tt)
and_parts true false e = cc
and_parts false y e = cc

pub same_pointer-refl : (p : Ptr) → same_pointer p p ≡ true
same_pointer-refl (block_ptr b o) = λ i. holds (b == b) (eqb_refl b) i && holds (o == o) (eqb_refl o) i
same_pointer-refl null_ptr = refl

pub same_pointer-eq : (p q : Ptr) → same_pointer p q ≡ true → p ≡ q
same_pointer-eq (block_ptr b o) (block_ptr c p) e = let t = and_parts (b == c) (o == p) e in λ i. block_ptr (eqb→eq b c t.0 i) (eqb→eq o p t.1 i)
same_pointer-eq (block_ptr b o) null_ptr e = cc
same_pointer-eq null_ptr (block_ptr c p) e = cc
same_pointer-eq null_ptr null_ptr e = refl

agree : (x y : Bool) → (x ≡ true → y ≡ true) → (y ≡ true → x ≡ true) → x ≡ y
agree true y f g = sym (f refl)
agree false true f g = g refl
agree false false f g = refl

pub same_pointer-symm : (p q : Ptr) → same_pointer p q ≡ same_pointer q p
same_pointer-symm p q =
    let flip : (r s : Ptr) → same_pointer r s ≡ true → same_pointer s r ≡ true = λ r s e. subst (λ k. same_pointer k r ≡ true) (same_pointer-eq r s e) (same_pointer-refl r) in
    agree (same_pointer p q) (same_pointer q p) (flip p q) (flip q p)
