-- Parts of a text by what stands beside them.
use Rattle.std.proofs.Common.{◌≡◌, ℕ, ℤ, ◌+◌, ◌-◌, Bool, List, [], Option, Some, None, take, drop, length, sym, ap, ◌∙◌, arith}
use Rattle.std.specs.Prelude.{unwrap_or}
use Rattle.std.specs.Option.{option_map, option_and_then}
use Rattle.eql_text.specs.Placing.{place_from}
use Rattle.eql_text.specs.Cutting.{place_in, end_in, part, substring, before, place_sought, between}

pub substring_is : (s : List ℕ) (from : ℤ) (to : Option ℤ) (n start end : ℕ) → n ≡ length s → start ≡ place_in n from → end ≡ end_in n to → part start end s ≡ substring s from to
unfolding substring
substring_is s from to n start end count first last =
    ap (λ k. part k end s) first ∙ ap (λ k. part (place_in n from) k s) last ∙ ap (λ k. part (place_in k from) (end_in k to) s) count

pub front_part : (n : ℕ) (s : List ℕ) → part 0 n s ≡ take n s
front_part n s = let same : n - 0 ≡ n = omega arith in ap (λ k. take k s) same

pub no_left : (s l r : List ℕ) (greedy fold : Bool) → None ≡ place_from fold 0 s l → between s l r greedy fold ≡ []
unfolding between
no_left s l r greedy fold e =
    ap (λ o. unwrap_or (option_and_then (λ rest. before greedy fold rest r) (option_map (λ n. drop (n + length l) s) o)) []) (sym e)

left_found : (s l r : List ℕ) (greedy fold : Bool) (n : ℕ) → Some n ≡ place_from fold 0 s l → between s l r greedy fold ≡ unwrap_or (before greedy fold (drop (n + length l) s) r) []
unfolding between
left_found s l r greedy fold n e =
    ap (λ o. unwrap_or (option_and_then (λ rest. before greedy fold rest r) (option_map (λ k. drop (k + length l) s) o)) []) (sym e)

pub no_right : (s l r : List ℕ) (greedy fold : Bool) (n : ℕ) (rest : List ℕ) → Some n ≡ place_from fold 0 s l → rest ≡ drop (n - 0 + length l) s → None ≡ place_sought greedy fold rest r → between s l r greedy fold ≡ []
no_right s l r greedy fold n rest e behind_left f =
    let from_zero : drop (n - 0 + length l) s ≡ drop (n + length l) s = let same : n - 0 ≡ n = omega arith in ap (λ k. drop (k + length l) s) same in
    left_found s l r greedy fold n e ∙ ap (λ u. unwrap_or (before greedy fold u r) []) (sym (behind_left ∙ from_zero))
    ∙ ap (λ o. unwrap_or (option_map (λ k. take k rest) o) []) (sym f)

pub both_found : (s l r : List ℕ) (greedy fold : Bool) (n k : ℕ) (rest : List ℕ) → Some n ≡ place_from fold 0 s l → rest ≡ drop (n - 0 + length l) s → Some k ≡ place_sought greedy fold rest r → part 0 k rest ≡ between s l r greedy fold
both_found s l r greedy fold n k rest e behind_left f =
    let from_zero : drop (n - 0 + length l) s ≡ drop (n + length l) s = let same : n - 0 ≡ n = omega arith in ap (λ k. drop (k + length l) s) same in
    front_part k rest
    ∙ sym (left_found s l r greedy fold n e ∙ ap (λ u. unwrap_or (before greedy fold u r) []) (sym (behind_left ∙ from_zero))
    ∙ ap (λ o. unwrap_or (option_map (λ j. take j rest) o) []) (sym f))
