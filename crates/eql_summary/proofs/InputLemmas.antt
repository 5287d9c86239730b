-- The files that are made are those of the definition.
use Rattle.std.proofs.Common.{◌≡◌, ℕ, List, [], ◌∷◌, ◌++◌, map, length, refl, ap, sym, ◌∙◌, arith, codes, string_bytes, length-append}
use Rattle.std.proofs.lemmas.List.{map-append}
use Rattle.eql_outside.specs.declared.shelf.memory.MemFile.{MemFile}
use Rattle.eql_outside.specs.Memory.{contents}
use Rattle.eql_runs.specs.Made.{made_text, made_texts}
use Rattle.eql_runs.specs.Summaries.{made_query, made_mapping}
use Rattle.eql_summary.specs.Inputs.{made_files}

last_same : {B : Type 0} (xs ys : List B) (x y : B) → xs ++ x ∷ [] ≡ ys ++ y ∷ [] → (xs ≡ ys) × (x ≡ y)
last_same [] [] x y e = (refl, cc)
last_same [] (b ∷ ys) x y e = absurd (omega (arith, ap length e, length-append ys (y ∷ [])))
last_same (a ∷ xs) [] x y e = absurd (omega (arith, ap length e, length-append xs (x ∷ [])))
last_same (a ∷ xs) (b ∷ ys) x y e =
    let head : a ≡ b = cc in
    let others = last_same xs ys x y cc in
    ((λ i. head i ∷ others.0 i), others.1)

module _ {V : Type 0} (f : V → List ℕ) where
  last_taken : (xs front : List V) (x : V) (ys : List (List ℕ)) (y : List ℕ) → map f xs ≡ ys ++ y ∷ [] → xs ≡ front ++ x ∷ []
      → (map f front ≡ ys) × (f x ≡ y)
  last_taken xs front x ys y is taken =
      last_same (map f front) ys (f x) y (sym (map-append f front (x ∷ [])) ∙ ap (map f) (sym taken) ∙ is)

  -- four texts, taken from the last
  pub four_taken : (all three two one none : List V) (a b c d : V) (events : ℕ) → map f all ≡ made_texts events
      → all ≡ three ++ d ∷ [] → three ≡ two ++ c ∷ [] → two ≡ one ++ b ∷ [] → one ≡ none ++ a ∷ []
      → (f a ≡ made_text 0 events) × (f b ≡ made_text 1 events) × (f c ≡ made_text 2 events) × (f d ≡ made_text 3 events)
  four_taken all three two one none a b c d events is d_is c_is b_is a_is =
      let last = last_taken all three d (made_text 0 events ∷ made_text 1 events ∷ made_text 2 events ∷ []) (made_text 3 events) is d_is in
      let third = last_taken three two c (made_text 0 events ∷ made_text 1 events ∷ []) (made_text 2 events) last.0 c_is in
      let second = last_taken two one b (made_text 0 events ∷ []) (made_text 1 events) third.0 b_is in
      let first = last_taken one none a [] (made_text 0 events) second.0 a_is in
      (first.1, second.1, third.1, last.1)

-- a file of this name and these bytes
abbrev pub IsFile : MemFile → (name bytes : List ℕ) → Type 0
IsFile file name bytes = (string_bytes file.name ≡ name) × (file.bytes.items ≡ bytes)

pub files_made : (events : ℕ) (query fields a b c d : MemFile) → IsFile query (codes "query") made_query
    → IsFile fields (codes "fields") made_mapping → IsFile a (codes "0") (made_text 0 events) → IsFile b (codes "1") (made_text 1 events)
    → IsFile c (codes "2") (made_text 2 events) → IsFile d (codes "3") (made_text 3 events)
    → contents (query ∷ fields ∷ a ∷ b ∷ c ∷ d ∷ []) ≡ made_files events
files_made events query fields a b c d q m k l n o =
    λ i. (q.0 i, q.1 i) ∷ (m.0 i, m.1 i) ∷ (k.0 i, k.1 i) ∷ (l.0 i, l.1 i) ∷ (n.0 i, n.1 i) ∷ (o.0 i, o.1 i) ∷ []
