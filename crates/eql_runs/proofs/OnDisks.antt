-- What both areas of a disk stand for is something, and one thing.
use Rattle.std.proofs.Common.{◌≡◌, ◌+◌, ◌<◌, ◌⊎◌, inl, inr, ℕ, Bool, true, false, cond, not, ◌&&◌, ◌||◌, nat_le, List, [], take, drop, refl, ap, sym, arith, ◌∙◌, subst}
use Rattle.std.proofs.lemmas.List.{get_or-drop}
use Rattle.eql_outside.specs.declared.disk.Area.{Area}
use Rattle.eql_outside.specs.declared.disk.Area.TheVariants.{A, B}
use Rattle.eql_cut.specs.declared.cut.Cut.{Cut}
use Rattle.eql_cut.specs.Formats.{IsBytes}
use Rattle.eql_cut.specs.Whole.{IsNoText, IsText, IsTextOf, TextsAreDecided}
use Rattle.eql_cut.proofs.Laws.{front_is_bytes}
use Rattle.eql_ckdisk.specs.Found.{Found, text, damaged, foreign, holds, is_foreign, is_open, is_whole, length_in}
use Rattle.eql_ckdisk.specs.Found as areas
use Rattle.eql_ckdisk.specs.Refusing.{IsDamagedHead, IsForeign, number_of}
use Rattle.eql_runs.specs.RunLaws.{DiskHoldsSomething}
use Rattle.eql_runs.specs.Starts.{OnDisk, nothing_kept, a_cut, bad_head, bad_text, not_ours, StandsFor}

abbrev bytes_in : Found → List ℕ
bytes_in areas.nothing = []
bytes_in (text area generation bytes) = bytes
bytes_in (damaged area generation) = []
bytes_in (foreign area) = []

abbrev number_in : Found → ℕ
number_in areas.nothing = 0
number_in (text area generation bytes) = number_of area
number_in (damaged area generation) = number_of area
number_in (foreign area) = number_of area

abbrev generation_in : Found → ℕ
generation_in areas.nothing = 0
generation_in (text area generation bytes) = generation
generation_in (damaged area generation) = generation
generation_in (foreign area) = 0

abbrev shape : Found → ℕ
shape areas.nothing = 0
shape (text area generation bytes) = 1
shape (damaged area generation) = 2
shape (foreign area) = 3

no_text : (f : Found) (area : Area) (generation : ℕ) (bytes : List ℕ) → f ≡ areas.nothing → f ≡ text area generation bytes → ⊥
no_text f area generation bytes none is = let e : 0 ≡ 1 = ap shape (sym none ∙ is) in omega (arith, e)

same_bytes : (f : Found) (a b : Area) (g h : ℕ) (xs ys : List ℕ) → f ≡ text a g xs → f ≡ text b h ys → xs ≡ ys
same_bytes f a b g h xs ys is also = ap bytes_in (sym is ∙ also)

one_cut : (f : Found) (format generation : ℕ) (cut : Cut) (format' generation' : ℕ) (cut' : Cut)
    → StandsFor (a_cut format generation cut) f → StandsFor (a_cut format' generation' cut') f
    → a_cut format generation cut ≡ a_cut format' generation' cut'
one_cut f format generation cut format' generation' cut' s t =
    let g : generation ≡ generation' = ap generation_in (sym s.2 ∙ t.2) in
    let same : t.1 ≡ s.1 = same_bytes f t.0 s.0 generation' generation t.1 s.1 t.2 s.2 in
    let one = s.3.alone format' cut' (subst (λ (b : List ℕ). IsText format' cut' b) same t.3.is) in
    let p : format ≡ format' = sym one.0 in
    let q : cut ≡ cut' = sym one.1 in
    λ i. a_cut (p i) (g i) (q i)

no_head : (f : Found) (number : ℕ) (area : Area) (generation : ℕ) (bytes : List ℕ) → f ≡ text area generation bytes
    → IsDamagedHead number 0 f → ⊥
no_head f number area generation bytes is h = subst (λ (x : Found). IsDamagedHead number 0 x) is h

one_head : (f : Found) (number other : ℕ) → IsDamagedHead number 0 f → IsDamagedHead other 0 f → number ≡ other
one_head areas.nothing number other h k = absurd h
one_head (text area generation bytes) number other h k = absurd h
one_head (damaged area generation) number other h k = h.0 ∙ sym k.0
one_head (foreign area) number other h k = absurd h

cut_or_not : (f : Found) (format generation : ℕ) (cut : Cut) (number : ℕ) → StandsFor (a_cut format generation cut) f
    → StandsFor (bad_text number) f → ⊥
cut_or_not f format generation cut number s t =
    let same : s.1 ≡ t.2 = same_bytes f s.0 t.0 generation t.1 s.1 t.2 s.2 t.3 in
    t.5 format cut (subst (λ (b : List ℕ). IsText format cut b) same s.3.is)

-- an area that another program wrote stands for nothing else
no_foreign_text : (area other : Area) (generation : ℕ) (bytes : List ℕ) → foreign area ≡ text other generation bytes → ⊥
no_foreign_text area other generation bytes is = let e : 3 ≡ 1 = ap shape is in omega (arith, e)

one_foreign : (f : Found) (number : ℕ) (on : OnDisk) → IsForeign number f → StandsFor on f → not_ours number ≡ on
one_foreign areas.nothing number on s t = absurd s
one_foreign (text area generation bytes) number on s t = absurd s
one_foreign (damaged area generation) number on s t = absurd s
one_foreign (foreign area) number nothing_kept s t = let e : 3 ≡ 0 = ap shape t in absurd (omega (arith, e))
one_foreign (foreign area) number (a_cut format generation cut) s t = absurd (no_foreign_text area t.0 generation t.1 t.2)
one_foreign (foreign area) number (bad_head other) s t = absurd t
one_foreign (foreign area) number (bad_text other) s t = absurd (no_foreign_text area t.0 t.1 t.2 t.3)
one_foreign (foreign area) number (not_ours other) s t = ap not_ours (s ∙ sym t)

pub one_on_disk : (f : Found) (on other : OnDisk) → StandsFor on f → StandsFor other f → on ≡ other
one_on_disk f nothing_kept nothing_kept s t = refl
one_on_disk f nothing_kept (a_cut format generation cut) s t = absurd (no_text f t.0 generation t.1 s t.2)
one_on_disk f nothing_kept (bad_head number) s t = absurd (subst (λ (x : Found). IsDamagedHead number 0 x) s t)
one_on_disk f nothing_kept (bad_text number) s t = absurd (no_text f t.0 t.1 t.2 s t.3)
one_on_disk f nothing_kept (not_ours number) s t = sym (one_foreign f number nothing_kept t s)
one_on_disk f (a_cut format generation cut) nothing_kept s t = absurd (no_text f s.0 generation s.1 t s.2)
one_on_disk f (a_cut format generation cut) (a_cut format' generation' cut') s t = one_cut f format generation cut format' generation' cut' s t
one_on_disk f (a_cut format generation cut) (bad_head number) s t = absurd (no_head f number s.0 generation s.1 s.2 t)
one_on_disk f (a_cut format generation cut) (bad_text number) s t = absurd (cut_or_not f format generation cut number s t)
one_on_disk f (a_cut format generation cut) (not_ours number) s t = sym (one_foreign f number (a_cut format generation cut) t s)
one_on_disk f (bad_head number) nothing_kept s t = absurd (subst (λ (x : Found). IsDamagedHead number 0 x) t s)
one_on_disk f (bad_head number) (a_cut format generation cut) s t = absurd (no_head f number t.0 generation t.1 t.2 s)
one_on_disk f (bad_head number) (bad_head other) s t = ap bad_head (one_head f number other s t)
one_on_disk f (bad_head number) (bad_text other) s t = absurd (no_head f number t.0 t.1 t.2 t.3 s)
one_on_disk f (bad_head number) (not_ours other) s t = sym (one_foreign f other (bad_head number) t s)
one_on_disk f (bad_text number) nothing_kept s t = absurd (no_text f s.0 s.1 s.2 t s.3)
one_on_disk f (bad_text number) (a_cut format generation cut) s t = absurd (cut_or_not f format generation cut number t s)
one_on_disk f (bad_text number) (bad_head other) s t = absurd (no_head f other s.0 s.1 s.2 s.3 t)
one_on_disk f (bad_text number) (bad_text other) s t = ap bad_text (s.4 ∙ ap number_in (sym s.3 ∙ t.3) ∙ sym t.4)
one_on_disk f (bad_text number) (not_ours other) s t = sym (one_foreign f other (bad_text number) t s)
one_on_disk f (not_ours number) other s t = one_foreign f number other s t

-- ---- what bytes stand for
abbrev IsSomething : Found → Type 0
IsSomething f = (on : OnDisk) × StandsFor on f

by_text : (area : Area) (generation : ℕ) (bytes : List ℕ) → ((format : ℕ) × (cut : Cut) × IsTextOf format cut bytes) ⊎ IsNoText bytes
    → IsSomething (text area generation bytes)
by_text area generation bytes (inl h) = (a_cut h.0 generation h.1, (area, bytes, refl, h.2))
by_text area generation bytes (inr none) = (bad_text (number_of area), (area, generation, bytes, refl, refl, none))

by_test : (test : Bool) (f g : Found) → IsSomething f → IsSomething g → IsSomething (cond test f g)
by_test true f g first second = first
by_test false f g first second = second

behind_is_bytes : (n : ℕ) (bytes : List ℕ) → IsBytes bytes → IsBytes (drop n bytes)
behind_is_bytes n bytes all i = subst (λ b. b < 256) (sym (get_or-drop n bytes i 0)) (all (n + i))

in_area : TextsAreDecided → (area : Area) (bytes : List ℕ) → IsBytes bytes → IsSomething (holds area bytes)
in_area decided area bytes all =
    let generation = areas.generation_in bytes in
    let within = take (length_in bytes) (drop 17 bytes) in
    by_test (is_whole bytes) (text area generation within) (damaged area generation)
    (by_text area generation within (decided within (front_is_bytes (length_in bytes) (drop 17 bytes) (behind_is_bytes 17 bytes all))))
    (bad_head (number_of area), (refl, refl))

pub something_on_disk : TextsAreDecided → DiskHoldsSomething
something_on_disk decided image a b =
    let open_a = is_open image.a in
    let open_b = is_open image.b in
    let newer_a = nat_le (areas.generation_in image.b) (areas.generation_in image.a) in
    let in_a = holds A image.a in
    let in_b = holds B image.b in
    let second = cond open_b in_b areas.nothing in
    let picked = cond (open_a && (not open_b || newer_a)) in_a second in
    by_test (is_foreign image.a) (foreign A) (cond (is_foreign image.b) (foreign B) picked) (not_ours (number_of A), refl)
    (by_test (is_foreign image.b) (foreign B) picked (not_ours (number_of B), refl)
    (by_test (open_a && (not open_b || newer_a)) in_a second (in_area decided A image.a a)
    (by_test open_b in_b areas.nothing (in_area decided B image.b b) (nothing_kept, refl))))
