-- Lists that are written an entry at a time.
use Rattle.std.proofs.Common.{◌≡◌, ℕ, ◌+◌, ◌<◌, List, [], ◌∷◌, ◌++◌, length, drop, get_or, ap, sym, ◌∙◌, arith}
use Rattle.std.proofs.lemmas.List.{at_drop_more, at_drop_all}

-- what is left of a list, behind what stands before its next entry
abbrev pub led : {A : Type 0} (all : List A → List ℕ → List ℕ) (before : List ℕ) → List A → List ℕ → List ℕ
led all before [] rest = rest
led all before (x ∷ xs) rest = before ++ all (x ∷ xs) rest

-- the next entry of a list
next : {A : Type 0} (F : List A → List ℕ) (xs : List A) (i : ℕ) (x : A) → i < length xs → x ≡ get_or xs i x → F (drop i xs) ≡ F (x ∷ drop (i + 1) xs)
next F xs i x h e = at_drop_more F xs i x h ∙ ap (λ y. F (y ∷ drop (i + 1) xs)) (sym e)

-- one more entry was written, with nothing between
pub written : {A : Type 0} (one : A → List ℕ → List ℕ) (all : List A → List ℕ → List ℕ) → ((x : A) (ys : List A) (rest : List ℕ) → all (x ∷ ys) rest ≡ one x (all ys rest))
    → (xs : List A) (i : ℕ) (x : A) (start page after : List ℕ) → i < length xs → x ≡ get_or xs i x
    → ((rest : List ℕ) → page ++ all (drop i xs) rest ≡ start ++ all xs rest) → ((rest : List ℕ) → after ++ rest ≡ page ++ one x rest)
    → (rest : List ℕ) → after ++ all (drop (i + 1) xs) rest ≡ start ++ all xs rest
written one all each xs i x start page after h e before put rest =
    put (all (drop (i + 1) xs) rest) ∙ ap (λ text. page ++ text) (sym (each x (drop (i + 1) xs) rest)) ∙ sym (next (λ ys. page ++ all ys rest) xs i x h e) ∙ before rest

-- one more entry was written, with something before it
pub joined : {A : Type 0} (one : A → List ℕ → List ℕ) (all : List A → List ℕ → List ℕ) (between : List ℕ)
    → ((x : A) (rest : List ℕ) → all (x ∷ []) rest ≡ one x rest) → ((x y : A) (ys : List A) (rest : List ℕ) → all (x ∷ y ∷ ys) rest ≡ one x (between ++ all (y ∷ ys) rest))
    → (xs : List A) (i : ℕ) (x : A) (before start page middle after : List ℕ) → i < length xs → x ≡ get_or xs i x
    → ((rest : List ℕ) → page ++ led all before (drop i xs) rest ≡ start ++ all xs rest) → ((rest : List ℕ) → middle ++ rest ≡ page ++ (before ++ rest))
    → ((rest : List ℕ) → after ++ rest ≡ middle ++ one x rest)
    → (rest : List ℕ) → after ++ led all between (drop (i + 1) xs) rest ≡ start ++ all xs rest
joined {A = A} one all between single several xs i x before start page middle after h e so_far put_before put rest =
    let left = led all between (drop (i + 1) xs) rest in
    put left ∙ put_before (one x left) ∙ ap (λ text. page ++ (before ++ text)) (sym (turn x (drop (i + 1) xs) rest)) ∙ sym (next (λ ys. page ++ led all before ys rest) xs i x h e) ∙ so_far rest
  where
    turn : (x : A) (ys : List A) (rest : List ℕ) → all (x ∷ ys) rest ≡ one x (led all between ys rest)
    turn x [] rest = single x rest
    turn x (y ∷ ys) rest = several x y ys rest

-- all was written
pub ended : {A : Type 0} (all : List A → List ℕ → List ℕ) → ((rest : List ℕ) → all [] rest ≡ rest) → (xs : List A) (i : ℕ) (start page : List ℕ) → length xs ≡ i
    → ((rest : List ℕ) → page ++ all (drop i xs) rest ≡ start ++ all xs rest) → (rest : List ℕ) → page ++ rest ≡ start ++ all xs rest
ended all none xs i start page e so_far rest =
    ap (λ text. page ++ text) (sym (none rest)) ∙ sym (at_drop_all (λ ys. page ++ all ys rest) xs i (omega (arith, e))) ∙ so_far rest
