-- The head is read of an area's front.
use Rattle.std.proofs.Common.{◌≡◌, ⊎_elim, ℕ, ◌+◌, ◌-◌, ◌≤◌, ◌<◌, leb, List, [], ◌∷◌, length, take, drop, Option, Some, None, IfSome, refl, sym, ◌∙◌, ap, subst, arith}
use Rattle.std.proofs.lemmas.Bool.{cases_lt, le-leb, cond-true}
use Rattle.std.proofs.lemmas.List.{take_all, take-take, drop-take, length-take-le}
use Rattle.eql_outside.specs.declared.disk.Area.{Area}
use Rattle.eql_outside.specs.Areas.{store}
use Rattle.eql_outside.specs.Moments.{History}
use Rattle.std.specs.Int.{w64, from_le_bytes}
use Rattle.eql_ckdisk.specs.declared.head.Head.{Head}
use Rattle.eql_ckdisk.specs.Found.{is_open, is_foreign, generation_in}
use Rattle.eql_ckdisk.specs.Heads.{IsHead}

front_open : (x : List ℕ) → is_open (take 17 x) ≡ is_open x
front_open [] = refl
front_open (gate ∷ rest) = refl

front_foreign : (x : List ℕ) → is_foreign (take 17 x) ≡ is_foreign x
front_foreign [] = refl
front_foreign (gate ∷ rest) = refl

front_part : (from : ℕ) (x : List ℕ) → from + 8 ≤ 17 → take 8 (drop from (take 17 x)) ≡ take 8 (drop from x)
front_part from x fits =
    let e : 17 ≡ from + (17 - from) = omega arith in
    ap (λ n. take 8 (drop from (take n x))) e ∙ ap (take 8) (drop-take from (17 - from) x) ∙ take-take 8 (17 - from) (drop from x) (omega arith)

pub whole_head : (x : List ℕ) (head : Head) → IsHead (take 17 x) head → IsHead x head
whole_head x head is = ⊎_elim
    (λ (short : length x < 17). subst (λ y. IsHead y head) (take_all 17 x (omega arith)) is)
    (λ (long : 17 ≤ length x).
    let l : length (take 17 x) ≡ 17 = length-take-le 17 x long in
    let front : generation_in (take 17 x) ≡ from_le_bytes w64 (take 8 (drop 1 (take 17 x))) = cond-true (leb 17 (length (take 17 x))) _ _ (le-leb 17 (length (take 17 x)) (omega arith)) in
    let all : generation_in x ≡ from_le_bytes w64 (take 8 (drop 1 x)) = cond-true (leb 17 (length x)) _ _ (le-leb 17 (length x) long) in
    let r : IsHead x head = record {
      open_is = is.open_is ∙ front_open x;
      foreign_is = is.foreign_is ∙ front_foreign x;
      generation_is = is.generation_is ∙ front ∙ ap (from_le_bytes w64) (front_part 1 x (omega arith)) ∙ sym all;
      length_is = λ h. is.length_is (omega arith) ∙ ap (from_le_bytes w64) (front_part 9 x (omega arith));
    } in
    r)
    (cases_lt (length x) 17)

pub told_head : (area : Area) (o : Option History) (bytes : List ℕ) (head : Head)
    → IfSome o (λ h. bytes ≡ take 17 (store area h.now).seen) → IsHead bytes head
    → IfSome o (λ h. IsHead (store area h.now).seen head)
told_head area None bytes head read is = tt
told_head area (Some h) bytes head read is = whole_head (store area h.now).seen head (subst (λ y. IsHead y head) read is)
