-- What all parts find in a round.
use Rattle.std.proofs.Common.{◌≡◌, ◌/◌, ◌<◌, ◌^◌, ℕ, List, [], ◌∷◌, map, refl, sym, ap, ◌∙◌, arith, subst}
use Rattle.std.specs.Prelude.{All, if◌then◌else◌}
use Rattle.std.specs.Int.{cast_unsigned, w64}
use Rattle.std.specs.List.{fold}
use Rattle.eql_values.specs.declared.value.Value.{Value}
use Rattle.eql_values.specs.declared.value.Value.TheVariants.{Null, Bool as Truth, Long, Text, Ip}
use Rattle.eql_values.specs.declared.found.Match.{Match}
use Rattle.eql_values.specs.Matching.{matches}
use Rattle.eql_values.specs.Ordered.{numbers}
use Rattle.eql_values.specs.Routing.{routed_items}
use Rattle.eql_laws.specs.Apart.{joined_lists, AreInMatchOrder, MatchesAreApart}
use Rattle.eql_laws.specs.Merging.{in_match_order}
use Rattle.eql_laws.specs.Parts.{PartsFind, found_by_parts}
use Rattle.eql_laws.proofs.PartMatches.{after_routed, own_holders}
use Rattle.eql_laws.proofs.PartsWhole.{parts_find_all}
use Rattle.eql_part.specs.Hashes.{mixed_hash, value_hash}
use Rattle.eql_parts.specs.Spreading.{part_number}
use Rattle.eql_conductor.specs.Finding.{RoundsFind, found_of}

-- ---- the parts are sixteen
mixed_small : (hash number : ℕ) → mixed_hash hash number < 2 ^ 64
mixed_small hash number = omega arith

mixed_all : (hash : ℕ) (s : List ℕ) → hash < 2 ^ 64 → fold mixed_hash hash s < 2 ^ 64
mixed_all hash [] h = h
mixed_all hash (c ∷ s) h = mixed_all (mixed_hash hash c) s (mixed_small hash c)

value_small : (hash : ℕ) (value : Value) → value_hash hash value < 2 ^ 64
value_small hash Null = mixed_small hash 0
value_small hash (Truth b) = mixed_small (mixed_hash hash 1) (if b then 1 else 0)
value_small hash (Long n) = mixed_small (mixed_hash hash 2) (cast_unsigned w64 n)
value_small hash (Text s) = mixed_all (mixed_hash hash 3) s (mixed_small hash 3)
value_small hash (Ip n) = mixed_small (mixed_hash hash 4) n

key_small : (hash : ℕ) (key : List Value) → hash < 2 ^ 64 → fold value_hash hash key < 2 ^ 64
key_small hash [] h = h
key_small hash (v ∷ key) h = key_small (value_hash hash v) key (value_small hash v)

upper_four : (n : ℕ) → n < 2 ^ 64 → n / 2 ^ 60 < 16
upper_four n h = omega (arith, h)

pub sixteen : (key : List Value) → part_number key < 16
sixteen key = upper_four (fold value_hash 0 key) (key_small 0 key (omega arith))

-- ---- what they find
map_same : {A B : Type 0} (f g : A → B) → ((x : A) → f x ≡ g x) → (xs : List A) → map f xs ≡ map g xs
map_same f g h [] = refl
map_same f g h (x ∷ xs) = λ i. h x i ∷ map_same f g h xs i

pub rounds_find : RoundsFind
rounds_find rules all items asc =
    let find : PartsFind rules.stages rules.span part_number 16 all items = parts_find_all rules.stages rules.span part_number 16 all items sixteen asc in
    let same : found_by_parts rules.stages rules.span part_number 16 all items ≡ map (found_of rules all items) (numbers 16) =
    sym (map_same (found_of rules all items) (λ p. matches rules.stages rules.span all (routed_items part_number p items))
    (λ p. own_holders part_number p rules.stages rules.span all items) (numbers 16)) in
    record {
      in_order = subst (All AreInMatchOrder) same find.in_order;
      apart = subst MatchesAreApart same find.apart;
      merged = ap (λ (lists : List (List Match)). in_match_order (joined_lists lists)) (sym same) ∙ sym find.merged;
      own_then = λ p. after_routed part_number p rules.stages rules.span all items;
    }
