-- The words that a call met tell which of them it loaded.
use Rattle.std.proofs.Common.{◌≡◌, ℕ, ◌≤◌, ◌^◌, List, [], ◌∷◌, ◌++◌, refl, sym, ap, arith}
use Rattle.std.proofs.lemmas.List.Elements.{All-head, All-tail}
use Rattle.std.specs.Prelude.{◌≢◌, All}
use Rattle.eql_turn_lock.specs.Tries.{LostTry, turn_held, word_moved, IsLost, words_of}

abbrev first_of : List ℕ → ℕ
first_of [] = 0
first_of (n ∷ ns) = n

abbrev rest_of : List ℕ → List ℕ
rest_of [] = []
rest_of (n ∷ ns) = ns

heads : {m n : ℕ} {ms ns : List ℕ} → m ∷ ms ≡ n ∷ ns → m ≡ n
heads is = ap first_of is

tails : {m n : ℕ} {ms ns : List ℕ} → m ∷ ms ≡ n ∷ ns → ms ≡ ns
tails is = ap rest_of is

-- a word that a lost try loaded isn't worn
held_small : (loaded word : ℕ) (tries : List LostTry) → All IsLost (turn_held loaded ∷ tries) → 2 ^ 63 ≤ word → loaded ≡ word → ⊥
held_small loaded word tries lost worn is = let small = (All-head IsLost (turn_held loaded) tries lost).0 in absurd (omega arith)

moved_small : (loaded found word : ℕ) (tries : List LostTry) → All IsLost (word_moved loaded found ∷ tries) → 2 ^ 63 ≤ word → loaded ≡ word → ⊥
moved_small loaded found word tries lost worn is = let small = (All-head IsLost (word_moved loaded found) tries lost).0 in absurd (omega arith)

-- no word is odd and even
held_or_moved : (m n found : ℕ) (tries others : List LostTry) → All IsLost (turn_held m ∷ tries) → All IsLost (word_moved n found ∷ others) → m ≡ n → ⊥
held_or_moved m n found tries others lost others_lost is = let odd = (All-head IsLost (turn_held m) tries lost).1 in let even = (All-head IsLost (word_moved n found) others others_lost).1 in absurd (omega arith)

pub one_reading : (tries others : List LostTry) (word other : ℕ) → All IsLost tries → All IsLost others → 2 ^ 63 ≤ word → 2 ^ 63 ≤ other → words_of tries ++ word ∷ [] ≡ words_of others ++ other ∷ [] → (tries ≡ others) × (word ≡ other)
one_reading [] [] word other a b worn worn_other is = (refl, heads is)
one_reading [] (turn_held n ∷ others) word other a b worn worn_other is = absurd (held_small n word others b worn (heads (sym is)))
one_reading [] (word_moved n found ∷ others) word other a b worn worn_other is = absurd (moved_small n found word others b worn (heads (sym is)))
one_reading (turn_held m ∷ tries) [] word other a b worn worn_other is = absurd (held_small m other tries a worn_other (heads is))
one_reading (turn_held m ∷ tries) (turn_held n ∷ others) word other a b worn worn_other is = let more = one_reading tries others word other (All-tail IsLost (turn_held m) tries a) (All-tail IsLost (turn_held n) others b) worn worn_other (tails is) in
    ((λ i. turn_held (heads is i) ∷ more.0 i), more.1)
one_reading (turn_held m ∷ tries) (word_moved n found ∷ others) word other a b worn worn_other is = absurd (held_or_moved m n found tries others a b (heads is))
one_reading (word_moved m found ∷ tries) [] word other a b worn worn_other is = absurd (moved_small m found other tries a worn_other (heads is))
one_reading (word_moved m found ∷ tries) (turn_held n ∷ others) word other a b worn worn_other is = absurd (held_or_moved n m found others tries b a (heads (sym is)))
one_reading (word_moved m found ∷ tries) (word_moved n met ∷ others) word other a b worn worn_other is = let more = one_reading tries others word other (All-tail IsLost (word_moved m found) tries a) (All-tail IsLost (word_moved n met) others b) worn worn_other (tails (tails is)) in
    ((λ i. word_moved (heads is i) (heads (tails is) i) ∷ more.0 i), more.1)

pub found_is_not_loaded : (tries others : List LostTry) (word : ℕ) → All IsLost tries → All IsLost others → 2 ^ 63 ≤ word → words_of tries ≢ words_of others ++ word ∷ []
found_is_not_loaded [] [] word a b worn is = cc
found_is_not_loaded [] (turn_held n ∷ others) word a b worn is = cc
found_is_not_loaded [] (word_moved n found ∷ others) word a b worn is = cc
found_is_not_loaded (turn_held m ∷ tries) [] word a b worn is = held_small m word tries a worn (heads is)
found_is_not_loaded (turn_held m ∷ tries) (turn_held n ∷ others) word a b worn is = found_is_not_loaded tries others word (All-tail IsLost (turn_held m) tries a) (All-tail IsLost (turn_held n) others b) worn (tails is)
found_is_not_loaded (turn_held m ∷ tries) (word_moved n found ∷ others) word a b worn is = held_or_moved m n found tries others a b (heads is)
found_is_not_loaded (word_moved m found ∷ tries) [] word a b worn is = moved_small m found word tries a worn (heads is)
found_is_not_loaded (word_moved m found ∷ tries) (turn_held n ∷ others) word a b worn is = held_or_moved n m found others tries b a (heads (sym is))
found_is_not_loaded (word_moved m found ∷ tries) (word_moved n met ∷ others) word a b worn is = found_is_not_loaded tries others word (All-tail IsLost (word_moved m found) tries a) (All-tail IsLost (word_moved n met) others b) worn (tails (tails is))
