-- The lists of the parts' events, as the events of a round come to them.
use Rattle.std.proofs.Common.{◌≡◌, ◌≢◌, ◌<◌, ◌+◌, ◌++◌, ◌∷◌, [], ℕ, zero, suc, Bool, true, false, cond, List, length, map, drop, get_or, inl, inr, refl, sym, ap, ◌∙◌, subst, arith}
use Rattle.std.specs.Prelude.{◌==◌, All, filter}
use Rattle.std.specs.List.{cons_option, list_all}
use Rattle.std.specs.declared.alloc.Global.{Global}
use Rattle.std.specs.declared.vec.Vec.{Vec}
use Rattle.std.proofs.lemmas.Bool.{cases_eq}
use Rattle.std.proofs.lemmas.Bool.Decides.{nat_tests}
use Rattle.std.proofs.lemmas.List.{append-nil, drop_more, ext_get_or, get_or-map, get_or_append_left, get_or_push, length-map, length_push}
use Rattle.std.proofs.lemmas.List.Elements.{All-cons, All-head, All-tail, All-weaker}
use Rattle.std.proofs.lemmas.List.Sums.{AllPass-from_list_all}
use Rattle.eql_values.specs.declared.item.Item.{Item}
use Rattle.eql_values.specs.declared.item.Route.{Route}
use Rattle.eql_values.specs.Ordered.{numbers}
use Rattle.eql_values.specs.Routing.{routed_items, with_routes}
use Rattle.eql_laws.proofs.PieceLemmas.{routed_pieces}
use Rattle.eql_parts.specs.Spreading.{part_number}
use Rattle.eql_conductor.specs.PartLists.{AreSpread, Comes, Grows, events_at, events_of}
use Rattle.eql_conductor.proofs.Owned.{of_part}

-- ---- an event whose routes all belong to one part
all_pass : (p : Route → Bool) (routes : List Route) → All (λ r. p r ≡ true) routes → filter p routes ≡ routes
all_pass p [] h = refl
all_pass p (r ∷ routes) h =
    ap (λ (b : Bool). cond b (r ∷ filter p routes) (filter p routes)) (All-head (λ r. p r ≡ true) r routes h)
    ∙ ap (λ (l : List Route). r ∷ l) (all_pass p routes (All-tail (λ r. p r ≡ true) r routes h))

none_pass : (p : Route → Bool) (routes : List Route) → All (λ r. p r ≡ false) routes → filter p routes ≡ []
none_pass p [] h = refl
none_pass p (r ∷ routes) h =
    ap (λ (b : Bool). cond b (r ∷ filter p routes) (filter p routes)) (All-head (λ r. p r ≡ false) r routes h)
    ∙ none_pass p routes (All-tail (λ r. p r ≡ false) r routes h)

other_fails : (n p q : ℕ) → p ≢ q → (n == q) ≡ true → (n == p) ≡ false
other_fails n p q apart h = grind (arith, nat_tests)

module _ (item : Item) (q : ℕ) (own : All (λ (r : Route). of_part q r ≡ true) item.routes) where
  -- the event is in the part's list as it is
  stays_whole : (first : Route) (others : List Route) → item.routes ≡ first ∷ others → routed_items part_number q (item ∷ []) ≡ item ∷ []
  stays_whole first others is =
      ap (λ (rs : List Route). cons_option (with_routes item rs) []) (all_pass (of_part q) item.routes own ∙ is)
      ∙ ap (λ (rs : List Route). let whole : Item = record { order = item.order; routes = rs } in whole ∷ []) (sym is)

  -- and in no other
  stays_out : (p : ℕ) → p ≢ q → routed_items part_number p (item ∷ []) ≡ []
  stays_out p apart =
      ap (λ (rs : List Route). cons_option (with_routes item rs) [])
      (none_pass (of_part p) item.routes (All-weaker (λ (r : Route). of_part q r ≡ true) (λ (r : Route). of_part p r ≡ false) (λ r h. other_fails (part_number r.key) p q apart h) item.routes own))

all_own : (item : Item) (q : ℕ) (first : Route) (others : List Route) → q ≡ part_number first.key → list_all (of_part q) others ≡ true → item.routes ≡ first ∷ others
    → All (λ (r : Route). of_part q r ≡ true) item.routes
all_own item q first others number all is =
    subst (All (λ (r : Route). of_part q r ≡ true)) (sym is)
    (All-cons (λ (r : Route). of_part q r ≡ true) first others (grind (arith, nat_tests)) (AllPass-from_list_all (of_part q) others all))

pub comes_whole : (item : Item) (q : ℕ) (first : Route) (others : List Route) (old new : List (Vec Item Global)) → q ≡ part_number first.key → list_all (of_part q) others ≡ true
    → item.routes ≡ first ∷ others → Grows q (item ∷ []) old new → Comes item old new
comes_whole item q first others old new number all is grows =
    let own = all_own item q first others number all is in
    record {
      each = λ p lt. elim (cases_eq p q) [
        | inl same ↦ subst (λ (k : ℕ). events_at new k ≡ events_at old k ++ routed_items part_number k (item ∷ [])) (sym same)
            (grows.here ∙ ap (λ (l : List Item). events_at old q ++ l) (sym (stays_whole item q own first others is)))
        | inr apart ↦ grows.others p apart ∙ sym (append-nil (events_at old p)) ∙ ap (λ (l : List Item). events_at old p ++ l) (sym (stays_out item q own p apart))
      ];
      count = grows.count;
    }

-- ---- one event after another
pub spread_more : (items : List Item) (item : Item) (old new : List (Vec Item Global)) → AreSpread items old → Comes item old new → AreSpread (items ++ item ∷ []) new
spread_more items item old new are comes = record {
  each = λ p lt. comes.each p lt ∙ ap (λ (l : List Item). l ++ routed_items part_number p (item ∷ [])) (are.each p lt) ∙ sym ((routed_pieces part_number p).pieces items (item ∷ []));
  count = comes.count ∙ are.count;
}

-- ---- the lists of all parts, in order
length_numbers : (n : ℕ) → length (numbers n) ≡ n
length_numbers zero = refl
length_numbers (suc n) = let a = length_push (numbers n) n in let b = length_numbers n in omega (arith, a, b)

number_at : (n i d : ℕ) → i < n → get_or (numbers n) i d ≡ i
number_at zero i d lt = absurd (omega (arith, lt))
number_at (suc n) i d lt = elim (cases_eq i n) [
  | inl same ↦ get_or_push (numbers n) n d i (length_numbers n ∙ sym same) ∙ sym same
  | inr apart ↦ let below : i < n = omega (arith, lt, apart) in
      get_or_append_left (numbers n) (n ∷ []) d i (let l = length_numbers n in omega (arith, l, below)) ∙ number_at n i d below
]

-- the p-th of them
pub listed_at : (f : ℕ → List Item) (n p : ℕ) → p < n → get_or (map f (numbers n)) p [] ≡ f p
listed_at f n p lt =
    get_or-map f (numbers n) p 0 [] (let l = length_numbers n in omega (arith, l, lt)) ∙ ap f (number_at n p 0 lt)

one_of_all : (lists : List (Vec Item Global)) (p : ℕ) → get_or (map events_of lists) p [] ≡ events_at lists p
one_of_all [] p = refl
one_of_all (list ∷ lists) zero = refl
one_of_all (list ∷ lists) (suc p) = one_of_all lists p

pub spread_all : (items : List Item) (lists : List (Vec Item Global)) → AreSpread items lists
    → map events_of lists ≡ map (λ (p : ℕ). routed_items part_number p items) (numbers 16)
spread_all items lists are =
    let events = map events_of lists in
    let all = map (λ (p : ℕ). routed_items part_number p items) (numbers 16) in
    let sixteen : length events ≡ 16 = length-map lists events_of ∙ are.count in
    let many : length all ≡ 16 = length-map (numbers 16) (λ (p : ℕ). routed_items part_number p items) ∙ length_numbers 16 in
    ext_get_or [] events all (sixteen ∙ sym many)
    (λ p lt. let below : p < 16 = omega (arith, lt, sixteen) in
    one_of_all lists p ∙ are.each p below ∙ sym (listed_at (λ (p : ℕ). routed_items part_number p items) 16 p below))

-- ---- the lists, taken out in order
pub sixteen_lists : (items : List Item) (lists : List (List Item)) → lists ≡ map (λ (p : ℕ). routed_items part_number p items) (numbers 16) → length lists ≡ 16
sixteen_lists items lists is = ap (λ (l : List (List Item)). length l) is ∙ length-map (numbers 16) (λ (p : ℕ). routed_items part_number p items) ∙ length_numbers 16

pub next_list : (items : List Item) (p : ℕ) (left rest : List (List Item)) (own : List Item) → p < 16 → left ≡ drop p (map (λ (p : ℕ). routed_items part_number p items) (numbers 16)) → left ≡ own ∷ rest
    → (own ≡ routed_items part_number p items) × (rest ≡ drop (p + 1) (map (λ (p : ℕ). routed_items part_number p items) (numbers 16)))
next_list items p left rest own lt was taken =
    let f : ℕ → List Item = λ p. routed_items part_number p items in
    let all = map f (numbers 16) in
    let many : length all ≡ 16 = sixteen_lists items all refl in
    let step : own ∷ rest ≡ get_or all p [] ∷ drop (p + 1) all = sym taken ∙ was ∙ drop_more all p [] (omega (arith, lt, many)) in
    (ap (λ (l : List (List Item)). get_or l 0 []) step ∙ listed_at f 16 p lt, ap (λ (l : List (List Item)). drop 1 l) step)
