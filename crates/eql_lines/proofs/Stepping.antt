-- A table of steps, as it is made and as it is read.
use Rattle.std.proofs.Common.{◌≡◌, ◌≢◌, ◌⊎◌, inl, inr, ℕ, zero, suc, ◌+◌, ◌<◌, ◌≤◌, List, [], ◌∷◌, ◌++◌, length, take, Bool, true, false, ◌&&◌, ◌==◌, if◌then◌else◌, Option, Some, None, is_some, option_and_then, String, slice_get, bytes_eq, refl, sym, ap, ap₂, ◌∙◌, subst, arith, true≢false}
use Rattle.std.proofs.lemmas.Bool.{cases_eq, eqb-true, eq-eqb}
use Rattle.std.proofs.lemmas.Bool.Decides.{leb_tells}
use Rattle.std.proofs.lemmas.Slice.Eq.{bytes_eq-Decides}
use Rattle.std.specs.declared.alloc.Global.{Global}
use Rattle.eql_lines.specs.Reach.{behind, leads}
use Rattle.eql_lines.specs.Places.{in_set}
use Rattle.eql_lines.specs.Paths.{rest_at}
use Rattle.eql_lines.specs.Steps.{active_at, rest_on, row_at, row_number, step_in, step_by, IsStep, IsTable, IsGrown, Leads, IsOpen}
use Rattle.eql_lines.specs.declared.paths.Active.{Active}
use Rattle.eql_lines.specs.declared.places.Places.{Places}
use Rattle.eql_lines.specs.declared.steps.Step.{Step}
use Rattle.eql_lines.specs.declared.steps.Table.{Table}
use Rattle.std.specs.Prelude.{IfSome}
use Rattle.eql_lines.proofs.Bits.{in_none}
use Rattle.eql_lines.proofs.Leads.{leads_short, leads_long}
use Rattle.eql_lines.proofs.Under.{Taken, taken_before, left_of, in_active, not_active, leads_none}

-- ---- a name that leads is the front of the rest

and_right : (a b : Bool) → (a && b) ≡ true → b ≡ true
and_right true b e = e
and_right false b e = absurd (true≢false (sym e))

take_whole : (r : List ℕ) → take (length r) r ≡ r
take_whole [] = refl
take_whole (x ∷ xs) = ap (λ l. x ∷ l) (take_whole xs)

short_front : (name r : List ℕ) → name ≡ r → (length name ≤ length r) × (take (length name) r ≡ name)
short_front name r same = (subst (λ (l : List ℕ). length name ≤ length l) same (omega arith), ap (λ (l : List ℕ). take (length l) r) same ∙ take_whole r ∙ sym same)

pub leads_front : (name r : List ℕ) → leads name r ≡ true → (length name ≤ length r) × (take (length name) r ≡ name)
leads_front name r e = elim (leb_tells (length r) (length name)) [
  | inl short ↦ short_front name r ((bytes_eq-Decides name r).0 (and_right _ _ (sym (leads_short name r short.1) ∙ e)))
  | inr long ↦ (let less = long.1 in omega (arith, less), sym ((bytes_eq-Decides name (take (length name) r)).0 (and_right _ _ (sym (leads_long name r long.1) ∙ e))))
]

-- ---- rows

got_either : (row : List Step) (k : ℕ) (x y : Step) → slice_get (row ++ y ∷ []) k ≡ Some x → (slice_get row k ≡ Some x) ⊎ (y ≡ x)
got_either [] zero x y e = inr (cc (e))
got_either [] (suc k) x y e = absurd (cc)
got_either (z ∷ zs) zero x y e = inl e
got_either (z ∷ zs) (suc k) x y e = got_either zs k x y e

if_some : (b : Bool) (to : ℕ) (o p : Option ℕ) → (is_some o ≡ true → is_some p ≡ true) → is_some (if b then Some to else o) ≡ true → is_some (if b then Some to else p) ≡ true
if_some true to o p h e = refl
if_some false to o p h e = h e

if_last : (b : Bool) (to : ℕ) (o : Option ℕ) → is_some o ≡ true → is_some (if b then Some to else o) ≡ true
if_last true to o e = refl
if_last false to o e = e

has_more : (row : List Step) (s : Step) (stop : ℕ) (name : List ℕ) → is_some (step_in row stop name) ≡ true → is_some (step_in (row ++ s ∷ []) stop name) ≡ true
has_more [] s stop name e = absurd (true≢false (sym e))
has_more (x ∷ row) s stop name e = if_some ((x.from == stop) && bytes_eq x.name.items name) x.to (step_in row stop name) (step_in (row ++ s ∷ []) stop name) (has_more row s stop name) e

own : (s : Step) → ((s.from == s.from) && bytes_eq s.name.items s.name.items) ≡ true
own s = ap₂ (λ a b. a && b) (eq-eqb s.from s.from refl) ((bytes_eq-Decides s.name.items s.name.items).1 refl)

has_last : (row : List Step) (s : Step) → is_some (step_in (row ++ s ∷ []) s.from s.name.items) ≡ true
has_last [] s = ap (λ b. is_some (if b then Some s.to else None)) (own s)
has_last (x ∷ row) s = if_last ((x.from == s.from) && bytes_eq x.name.items s.name.items) x.to (step_in (row ++ s ∷ []) s.from s.name.items) (has_last row s)

-- a row has this step
pub record Held (row : List Step) (stop : ℕ) (name : List ℕ) (to : ℕ) : Type 0 where
  pub place : ℕ
  pub step : Step
  pub there : slice_get row place ≡ Some step
  pub begins : step.from ≡ stop
  pub named : step.name.items ≡ name
  pub ends : step.to ≡ to

both : (a b : Bool) → (a && b) ≡ true → (a ≡ true) × (b ≡ true)
both true b e = (refl, e)
both false b e = absurd (true≢false (sym e))

later : (s : Step) (row : List Step) (stop : ℕ) (name : List ℕ) (to : ℕ) → Held row stop name to → Held (s ∷ row) stop name to
later s row stop name to h = record { place = suc h.place; step = h.step; there = h.there; begins = h.begins; named = h.named; ends = h.ends }

held_by : (s : Step) (row : List Step) (stop : ℕ) (name : List ℕ) (to : ℕ) (b : Bool) → ((s.from == stop) && bytes_eq s.name.items name) ≡ b → (if b then Some s.to else step_in row stop name) ≡ Some to
    → (step_in row stop name ≡ Some to → Held row stop name to) → Held (s ∷ row) stop name to
held_by s row stop name to true f g h =
    let t = both (s.from == stop) (bytes_eq s.name.items name) f in
    record { place = 0; step = s; there = refl; begins = eqb-true s.from stop t.0; named = (bytes_eq-Decides s.name.items name).0 t.1; ends = cc (g) }
held_by s row stop name to false f g h = later s row stop name to (h g)

pub held : (row : List Step) (stop : ℕ) (name : List ℕ) (to : ℕ) → step_in row stop name ≡ Some to → Held row stop name to
held [] stop name to e = absurd (cc)
held (s ∷ row) stop name to e = held_by s row stop name to ((s.from == stop) && bytes_eq s.name.items name) refl e (held row stop name to)

-- ---- tables that grow

pub grown_none : (t : Table) → IsGrown t t
grown_none t = record { more = omega arith; same = λ n h. refl; steps = λ stop name h. h }

pub grown_then : (a b c : Table) → IsGrown a b → IsGrown b c → IsGrown a c
grown_then a b c first second = record {
  more = omega (arith, first.more, second.more);
  same = λ n h. second.same n (omega (arith, h, first.more)) ∙ first.same n h;
  steps = λ stop name h. second.steps stop name (first.steps stop name h);
}

pub leads_grown : (a b : Table) (stop : ℕ) (rest : List ℕ) → IsGrown a b → Leads a stop rest → Leads b stop rest
leads_grown a b stop rest g l name e = g.steps stop name (l name e)

pub open_grown : (paths : List (String Global)) (a b : Table) (stop : ℕ) → IsGrown a b → stop < length a.stops.items → IsOpen paths a stop → IsOpen paths b stop
open_grown paths a b stop g h o i rest e = leads_grown a b stop rest g (o i rest (sym (ap (λ x. rest_at paths x i) (g.same stop h)) ∙ e))

-- ---- a step more, perhaps to a further stop

module _ (paths : List (String Global)) (old new : Table) (a : Active) (s : Step) (place : ℕ)
    (table : IsTable paths old) (begins : s.from < length old.stops.items)
    (ends : s.to < length new.stops.items) (last : active_at new.stops.items s.to ≡ a)
    (more : length old.stops.items ≤ length new.stops.items)
    (kept : (n : ℕ) → n < length old.stops.items → active_at new.stops.items n ≡ active_at old.stops.items n)
    (few : length new.stops.items ≤ 4096)
    (here : row_at new.rows.items place ≡ row_at old.rows.items place ++ s ∷ [])
    (others : (j : ℕ) → j ≢ place → row_at new.rows.items j ≡ row_at old.rows.items j)
    (rows : length new.rows.items ≡ length old.rows.items)
    (goes : (i : ℕ) → rest_at paths a i ≡ option_and_then (behind s.name.items) (rest_at paths (active_at old.stops.items s.from) i)) where
  old_step : (x : Step) → IsStep paths old x → IsStep paths new x
  old_step x i = record {
    begins = omega (arith, i.begins, more);
    ends = omega (arith, i.ends, more);
    goes = λ k. ap (λ y. rest_at paths y k) (kept x.to i.ends) ∙ i.goes k ∙ ap (λ y. option_and_then (behind x.name.items) (rest_at paths y k)) (sym (kept x.from i.begins));
  }

  new_step : IsStep paths new s
  new_step = record {
    begins = omega (arith, begins, more);
    ends = ends;
    goes = λ k. ap (λ y. rest_at paths y k) last ∙ goes k ∙ ap (λ y. option_and_then (behind s.name.items) (rest_at paths y k)) (sym (kept s.from begins));
  }

  all_steps : (j k : ℕ) (x : Step) → slice_get (row_at new.rows.items j) k ≡ Some x → IsStep paths new x
  all_steps j k x e = elim (cases_eq j place) [
    | inl same ↦ elim (got_either (row_at old.rows.items place) k x s (sym (ap (λ l. slice_get l k) (ap (row_at new.rows.items) same ∙ here)) ∙ e)) [
      | inl before ↦ old_step x (table.steps place k x before)
      | inr is ↦ subst (IsStep paths new) is new_step
    ]
    | inr other ↦ old_step x (table.steps j k x (sym (ap (λ l. slice_get l k) (others j other)) ∙ e))
  ]

  pub added_table : IsTable paths new
  added_table = record { few = few; rows = rows ∙ table.rows; steps = all_steps }

  more_in : (j stop : ℕ) (name : List ℕ) → is_some (step_in (row_at old.rows.items j) stop name) ≡ true → is_some (step_in (row_at new.rows.items j) stop name) ≡ true
  more_in j stop name h = elim (cases_eq j place) [
    | inl same ↦
        ap (λ l. is_some (step_in l stop name)) (ap (row_at new.rows.items) same ∙ here)
        ∙ has_more (row_at old.rows.items place) s stop name (sym (ap (λ k. is_some (step_in (row_at old.rows.items k) stop name)) same) ∙ h)
    | inr other ↦ ap (λ l. is_some (step_in l stop name)) (others j other) ∙ h
  ]

  pub added_grown : IsGrown old new
  added_grown = record { more = more; same = kept; steps = λ stop name h. more_in (row_number stop name) stop name h }

  pub added_step : is_some (step_in (row_at new.rows.items place) s.from s.name.items) ≡ true
  added_step = ap (λ l. is_some (step_in l s.from s.name.items)) here ∙ has_last (row_at old.rows.items place) s

-- the stops up to this one are open, and so they stay
pub open_next : (paths : List (String Global)) (old new : Table) (n : ℕ) → IsGrown old new → n < length old.stops.items → IsOpen paths new n → ((m : ℕ) → m < n → IsOpen paths old m)
    → (m : ℕ) → m < n + 1 → IsOpen paths new m
open_next paths old new n g h here before m less = elim (cases_eq m n) [
  | inl same ↦ subst (IsOpen paths new) (sym same) here
  | inr other ↦ let b = below_unless m n less other in open_grown paths old new m g (omega (arith, b, h)) (before m b)
]
  where
    below_unless : (e n : ℕ) → e < n + 1 → e ≢ n → e < n
    below_unless e n h other = omega (arith, h, other)

-- ---- all names along a rest

-- the names below this length that lead have their steps
abbrev pub LeadsBelow : Table → ℕ → List ℕ → ℕ → Type 0
LeadsBelow t stop rest n = (e : ℕ) → e < n → leads (take e rest) rest ≡ true → is_some (step_by t stop (take e rest)) ≡ true

pub below_grown : (a b : Table) (stop n : ℕ) (rest : List ℕ) → IsGrown a b → LeadsBelow a stop rest n → LeadsBelow b stop rest n
below_grown a b stop n rest g l e h lead = g.steps stop (take e rest) (l e h lead)

pub below_more : (t : Table) (stop n : ℕ) (rest : List ℕ) → LeadsBelow t stop rest n → (leads (take n rest) rest ≡ true → is_some (step_by t stop (take n rest)) ≡ true) → LeadsBelow t stop rest (n + 1)
below_more t stop n rest l last e h lead = elim (cases_eq e n) [
  | inl same ↦ ap (λ m. is_some (step_by t stop (take m rest))) same ∙ last (sym (ap (λ m. leads (take m rest) rest) same) ∙ lead)
  | inr other ↦ l e (below_unless e n h other) lead
]
  where
    below_unless : (e n : ℕ) → e < n + 1 → e ≢ n → e < n
    below_unless e n h other = omega (arith, h, other)

pub below_all : (t : Table) (stop n : ℕ) (rest : List ℕ) → length rest < n → LeadsBelow t stop rest n → Leads t stop rest
below_all t stop n rest h l name lead =
    let front = leads_front name rest lead in
    sym (ap (λ m. is_some (step_by t stop m)) front.1) ∙ l (length name) (omega (arith, h, front.0)) (ap (λ m. leads m rest) front.1 ∙ lead)

-- ---- all rests at a stop

-- the places that are not left have all their steps
pub record Opened (paths : List (String Global)) (t : Table) (a : Active) (stop : ℕ) (left : Places) : Type 0 where
  pub within : (i : ℕ) → in_set left i ≡ true → in_set a.places i ≡ true
  pub done : (i : ℕ) → in_set a.places i ≡ true → in_set left i ≡ false → (rest : List ℕ) → left_of paths a.at i ≡ Some rest → Leads t stop rest

module _ (paths : List (String Global)) (a : Active) (stop : ℕ) where
  pub opened_none : (t : Table) → Opened paths t a stop a.places
  opened_none t = record { within = λ i e. e; done = λ i e f. absurd (true≢false (sym e ∙ f)) }

  pub opened_more : (old new : Table) (left next : Places) (p : ℕ) → Opened paths old a stop left → Taken left next p → IsGrown old new → ((rest : List ℕ) → left_of paths a.at p ≡ Some rest → Leads new stop rest)
      → Opened paths new a stop next
  opened_more old new left next p o t g here = record {
    within = λ i e. o.within i (taken_before left next p i t e).1;
    done = λ i e f rest r. elim (cases_eq i p) [
      | inl same ↦ here rest (ap (left_of paths a.at) (sym same) ∙ r)
      | inr other ↦ leads_grown old new stop rest g (o.done i e (sym (t.others i other) ∙ f) rest r)
    ];
  }

  rest_of : (i : ℕ) (rest : List ℕ) (b : Bool) → in_set a.places i ≡ b → rest_at paths a i ≡ Some rest → (in_set a.places i ≡ true) × (left_of paths a.at i ≡ Some rest)
  rest_of i rest true e f = (e, sym (in_active paths a [] i e) ∙ f)
  rest_of i rest false e f = let none = not_active paths a [] i e in absurd (cc (none, f))

  pub all_opened : (t : Table) (left : Places) → active_at t.stops.items stop ≡ a → ((i : ℕ) → in_set left i ≡ false) → Opened paths t a stop left → IsOpen paths t stop
  all_opened t left is none o i rest e =
      let r = rest_of i rest (in_set a.places i) refl (ap (λ x. rest_at paths x i) (sym is) ∙ e) in
      o.done i r.0 (none i) rest r.1

-- ---- reading

module _ (paths : List (String Global)) (t : Table) (stop : ℕ) (name : List ℕ) where
  pub no_step : IsOpen paths t stop → step_by t stop name ≡ None → (i : ℕ) (o : Option (List ℕ)) → rest_on paths t stop i ≡ o → option_and_then (behind name) o ≡ None
  no_step all none i None e = refl
  no_step all none i (Some r) e = by_lead (leads name r) refl
    where
      by_lead : (b : Bool) → leads name r ≡ b → behind name r ≡ None
      by_lead false f = leads_none name r f
      by_lead true f = absurd (true≢false (sym (all i r e name f) ∙ ap is_some none))

  pub step_goes : IsTable paths t → (to : ℕ) → step_by t stop name ≡ Some to → (i : ℕ) → rest_on paths t to i ≡ option_and_then (behind name) (rest_on paths t stop i)
  step_goes table to e i =
      let h = held (row_at t.rows.items (row_number stop name)) stop name to e in
      let is = table.steps (row_number stop name) h.place h.step h.there in
      ap (λ s. rest_on paths t s i) (sym h.ends) ∙ is.goes i ∙ ap₂ (λ n s. option_and_then (behind n) (rest_on paths t s i)) h.named h.begins

  pub some_goes : IsTable paths t → (o : Option ℕ) → o ≡ step_by t stop name → IfSome o (λ to. (i : ℕ) → rest_on paths t to i ≡ option_and_then (behind name) (rest_on paths t stop i))
  some_goes table None e = tt
  some_goes table (Some to) e = step_goes table to (sym e)

-- where no path goes on
abbrev pub nowhere : Active
nowhere = record { places = record { bits = 0 }; at = 0 }

pub nowhere_rest : (paths : List (String Global)) (i : ℕ) → rest_at paths nowhere i ≡ None
nowhere_rest paths i = not_active paths nowhere [] i (in_none i)

pub same_rest : (x y : List ℕ) → Some x ≡ Some y → x ≡ y
same_rest x y e = cc (e)
