-- Cuts whose places are set: by places that are the same at the lines that they name, and what lines they name then.
use Rattle.std.proofs.Common.{◌≡◌, ◌<◌, ◌↔◌, ◌++◌, eqb, cond, Bool, true, false, ℕ, zero, suc, List, [], ◌∷◌, map, filter, length, get_or, refl, sym, ap, subst, ◌∙◌, arith}
use Rattle.std.specs.Prelude.{All, Contains}
use Rattle.std.specs.List.{flat_map}
use Rattle.std.proofs.lemmas.Bool.{eq-eqb, eqb-true}
use Rattle.std.proofs.lemmas.List.Elements.{All-nil, All-cons, All-head, All-tail, All-weaker, Contains-append_right}
use Rattle.eql_values.specs.declared.order.OrderKey.{OrderKey}
use Rattle.eql_values.specs.declared.item.Item.{Item}
use Rattle.eql_values.specs.declared.found.Holder.{Holder}
use Rattle.eql_values.specs.declared.found.Numbered.{Numbered}
use Rattle.eql_values.specs.declared.cut.LaneCut.{LaneCut}
use Rattle.eql_values.specs.declared.cut.PipeState.{PipeState}
use Rattle.eql_values.specs.declared.cut.PipeState.TheVariants as state
use Rattle.eql_cut.specs.declared.cut.Cut.{Cut}
use Rattle.eql_cut.specs.Lifting.{LiftedIsPlaced}
use Rattle.eql_cut.specs.Placing.{lane_orders, state_orders, orders_in, lines_at, NamesLine, lifted_order, lifted_chain, lifted_item, lifted_lane, lifted_holder, lifted_kept, lifted_state, lifted_cut}
use Rattle.eql_cut.specs.Placed.{place_in_texts}
use Rattle.eql_cut.specs.PlacedLaws.{UnplacedIsBack}

-- what is said of each event of several lists
module _ (P : OrderKey → Type 0) where
  left_of : (a b : List OrderKey) → All P (a ++ b) → All P a
  left_of [] b all = All-nil _
  left_of (o ∷ a) b all = All-cons P o a (All-head P o (a ++ b) all) (left_of a b (All-tail P o (a ++ b) all))

  right_of : (a b : List OrderKey) → All P (a ++ b) → All P b
  right_of [] b all = all
  right_of (o ∷ a) b all = right_of a b (All-tail P o (a ++ b) all)

-- two ways to set places that agree on each event
module _ (p q : ℕ → ℕ → ℕ) where
  abbrev Agree : OrderKey → Type 0
  Agree o = p o.shard o.line ≡ q o.shard o.line

  same_chain : (chain : List OrderKey) → All Agree chain → lifted_chain p chain ≡ lifted_chain q chain
  same_chain [] all = refl
  same_chain (o ∷ chain) all =
      λ i. record { ts = o.ts; tie = o.tie; shard = o.shard; line = o.line; at = All-head Agree o chain all i } ∷ same_chain chain (All-tail Agree o chain all) i

  same_items : (items : List Item) → All Agree (map (λ (item : Item). item.order) items) → map (lifted_item p) items ≡ map (lifted_item q) items
  same_items [] all = refl
  same_items (item ∷ items) all =
      let orders : List OrderKey = map (λ (x : Item). x.order) items in
      let at : Agree item.order = All-head Agree item.order orders all in
      λ i. record { order = record { ts = item.order.ts; tie = item.order.tie; shard = item.order.shard; line = item.order.line; at = at i }; routes = item.routes }
      ∷ same_items items (All-tail Agree item.order orders all) i

  -- values of which each is set alike
  same_each : {A : Type 0} (orders : A → List OrderKey) (set other : A → A) → ((x : A) → All Agree (orders x) → set x ≡ other x) → (xs : List A) → All Agree (flat_map orders xs)
      → map set xs ≡ map other xs
  same_each orders set other alike [] all = refl
  same_each orders set other alike (x ∷ xs) all =
      λ i. alike x (left_of Agree (orders x) (flat_map orders xs) all) i ∷ same_each orders set other alike xs (right_of Agree (orders x) (flat_map orders xs) all) i

  same_lane : (lane : LaneCut) → All Agree (lane_orders lane) → lifted_lane p lane ≡ lifted_lane q lane
  same_lane lane all = λ i. record { offset = lane.offset; digest = lane.digest; closed = lane.closed; best = lane.best; counts = lane.counts; items = same_items lane.items all i }

  same_holder : (h : Holder) → All Agree h.chain → lifted_holder p h ≡ lifted_holder q h
  same_holder h all = λ i. record { key = h.key; stage = h.stage; chain = same_chain h.chain all i }

  same_kept : (n : Numbered) → All Agree n.found.chain → lifted_kept p n ≡ lifted_kept q n
  same_kept n all = λ i. record { number = n.number; found = record { key = n.found.key; chain = same_chain n.found.chain all i } }

  same_state : (s : PipeState) → All Agree (state_orders s) → lifted_state p s ≡ lifted_state q s
  same_state (state.Head passed) all = refl
  same_state (state.Tail kept) all =
      ap (λ (k : List Numbered). state.Tail k) (same_each (λ (n : Numbered). n.found.chain) (lifted_kept p) (lifted_kept q) same_kept kept all)

  pub same_lifted : (cut : Cut) → All Agree (orders_in cut) → lifted_cut p cut ≡ lifted_cut q cut
  same_lifted cut all =
      let lanes : List OrderKey = flat_map lane_orders cut.lanes in
      let holders : List OrderKey = flat_map (λ (h : Holder). h.chain) cut.holders in
      let states : List OrderKey = flat_map state_orders cut.book.pipes in
      let others : All Agree (holders ++ states) = right_of Agree lanes (holders ++ states) all in
      λ i. record {
        head = cut.head;
        mark = cut.mark;
        lanes = same_each lane_orders (lifted_lane p) (lifted_lane q) same_lane cut.lanes (left_of Agree lanes (holders ++ states) all) i;
        holders = same_each (λ (h : Holder). h.chain) (lifted_holder p) (lifted_holder q) same_holder cut.holders (left_of Agree holders states others) i;
        book = record {
          found = cut.book.found;
          listed = cut.book.listed;
          pipes = same_each state_orders (lifted_state p) (lifted_state q) same_state cut.book.pipes (right_of Agree holders states others) i;
        };
      }

-- places that are set twice are those that were set last
map_twice : {A : Type 0} (f g : A → A) → ((x : A) → f (g x) ≡ f x) → (xs : List A) → map f (map g xs) ≡ map f xs
map_twice f g twice [] = refl
map_twice f g twice (x ∷ xs) = λ i. twice x i ∷ map_twice f g twice xs i

module _ (p q : ℕ → ℕ → ℕ) where
  twice_chain : (chain : List OrderKey) → lifted_chain p (lifted_chain q chain) ≡ lifted_chain p chain
  twice_chain chain = map_twice (lifted_order p) (lifted_order q) (λ o. refl) chain

  twice_lane : (lane : LaneCut) → lifted_lane p (lifted_lane q lane) ≡ lifted_lane p lane
  twice_lane lane = λ i. record {
    offset = lane.offset;
    digest = lane.digest;
    closed = lane.closed;
    best = lane.best;
    counts = lane.counts;
    items = map_twice (lifted_item p) (lifted_item q) (λ item. refl) lane.items i;
  }

  twice_holder : (h : Holder) → lifted_holder p (lifted_holder q h) ≡ lifted_holder p h
  twice_holder h = λ i. record { key = h.key; stage = h.stage; chain = twice_chain h.chain i }

  twice_kept : (n : Numbered) → lifted_kept p (lifted_kept q n) ≡ lifted_kept p n
  twice_kept n = λ i. record { number = n.number; found = record { key = n.found.key; chain = twice_chain n.found.chain i } }

  twice_state : (s : PipeState) → lifted_state p (lifted_state q s) ≡ lifted_state p s
  twice_state (state.Head passed) = refl
  twice_state (state.Tail kept) = ap (λ (k : List Numbered). state.Tail k) (map_twice (lifted_kept p) (lifted_kept q) twice_kept kept)

  twice_lifted : (cut : Cut) → lifted_cut p (lifted_cut q cut) ≡ lifted_cut p cut
  twice_lifted cut = λ i. record {
    head = cut.head;
    mark = cut.mark;
    lanes = map_twice (lifted_lane p) (lifted_lane q) twice_lane cut.lanes i;
    holders = map_twice (lifted_holder p) (lifted_holder q) twice_holder cut.holders i;
    book = record { found = cut.book.found; listed = cut.book.listed; pipes = map_twice (lifted_state p) (lifted_state q) twice_state cut.book.pipes i };
  }

pub unplaced_is_back : LiftedIsPlaced → UnplacedIsBack
unplaced_is_back back texts cut none =
    twice_lifted (λ shard line. 0) (place_in_texts texts) cut ∙ sym (twice_lifted (λ shard line. 0) (λ shard line. 0) cut)
    ∙ back (λ shard line. 0) cut (All-weaker (λ (o : OrderKey). o.at ≡ 0) (λ (o : OrderKey). 0 ≡ o.at) (λ o is. sym is) (orders_in cut) none)

-- the lines that a cut names, whose places are set
module _ (place : ℕ → ℕ → ℕ) where
  chain_of_both : (a b : List OrderKey) → lifted_chain place (a ++ b) ≡ lifted_chain place a ++ lifted_chain place b
  chain_of_both [] b = refl
  chain_of_both (o ∷ a) b = ap (λ (l : List OrderKey). lifted_order place o ∷ l) (chain_of_both a b)

  chain_of_each : {A : Type 0} (orders : A → List OrderKey) (set : A → A) → ((x : A) → orders (set x) ≡ lifted_chain place (orders x)) → (xs : List A)
      → flat_map orders (map set xs) ≡ lifted_chain place (flat_map orders xs)
  chain_of_each orders set moves [] = refl
  chain_of_each orders set moves (x ∷ xs) = (λ i. moves x i ++ chain_of_each orders set moves xs i) ∙ sym (chain_of_both (orders x) (flat_map orders xs))

  chain_of_items : (items : List Item) → map (λ (item : Item). item.order) (map (lifted_item place) items) ≡ lifted_chain place (map (λ (item : Item). item.order) items)
  chain_of_items [] = refl
  chain_of_items (item ∷ items) = ap (λ (l : List OrderKey). lifted_order place item.order ∷ l) (chain_of_items items)

  chain_of_state : (s : PipeState) → state_orders (lifted_state place s) ≡ lifted_chain place (state_orders s)
  chain_of_state (state.Head passed) = refl
  chain_of_state (state.Tail kept) = chain_of_each (λ (n : Numbered). n.found.chain) (lifted_kept place) (λ n. refl) kept

  orders_lifted : (cut : Cut) → orders_in (lifted_cut place cut) ≡ lifted_chain place (orders_in cut)
  orders_lifted cut =
      let lanes : List OrderKey = flat_map lane_orders cut.lanes in
      let holders : List OrderKey = flat_map (λ (h : Holder). h.chain) cut.holders in
      let states : List OrderKey = flat_map state_orders cut.book.pipes in
      (λ i. chain_of_each lane_orders (lifted_lane place) (λ lane. chain_of_items lane.items) cut.lanes i
      ++ (chain_of_each (λ (h : Holder). h.chain) (lifted_holder place) (λ h. refl) cut.holders i ++ chain_of_each state_orders (lifted_state place) chain_of_state cut.book.pipes i))
      ∙ ap (λ (l : List OrderKey). lifted_chain place lanes ++ l) (sym (chain_of_both holders states))
      ∙ sym (chain_of_both lanes (holders ++ states))

  lines_stay : (shard : ℕ) (orders : List OrderKey) → lines_at shard (lifted_chain place orders) ≡ lines_at shard orders
  lines_stay shard [] = refl
  lines_stay shard (o ∷ orders) =
      elim (eqb o.shard shard) as (λ v. map (λ (x : OrderKey). x.line) (cond v (lifted_order place o ∷ filter (λ (x : OrderKey). eqb x.shard shard) (lifted_chain place orders)) (filter (λ (x : OrderKey). eqb x.shard shard) (lifted_chain place orders)))
      ≡ map (λ (x : OrderKey). x.line) (cond v (o ∷ filter (λ (x : OrderKey). eqb x.shard shard) orders) (filter (λ (x : OrderKey). eqb x.shard shard) orders))) [
        | true ↦ ap (λ (l : List ℕ). o.line ∷ l) (lines_stay shard orders)
        | false ↦ lines_stay shard orders
      ]

  same_lines : (cut : Cut) (shard : ℕ) → lines_at shard (orders_in (lifted_cut place cut)) ≡ lines_at shard (orders_in cut)
  same_lines cut shard = ap (lines_at shard) (orders_lifted cut) ∙ lines_stay shard (orders_in cut)

  pub names_same : (cut : Cut) (shard line : ℕ) → NamesLine (lifted_cut place cut) shard line ↔ NamesLine cut shard line
  names_same cut shard line = (
    λ is. subst (λ (l : List ℕ). Contains l line) (same_lines cut shard) is,
    λ is. subst (λ (l : List ℕ). Contains l line) (sym (same_lines cut shard)) is,
  )

-- events are at lines that are named
named_by : (shard line : ℕ) (first : OrderKey) (orders : List OrderKey) → Contains (lines_at shard orders) line → Contains (lines_at shard (first ∷ orders)) line
named_by shard line first orders is =
    elim (eqb first.shard shard) as (λ v. Contains (map (λ (x : OrderKey). x.line) (cond v (first ∷ filter (λ (x : OrderKey). eqb x.shard shard) orders) (filter (λ (x : OrderKey). eqb x.shard shard) orders))) line) [
      | true ↦ Contains-append_right (first.line ∷ []) (lines_at shard orders) line is
      | false ↦ is
    ]

first_named : (first : OrderKey) (orders : List OrderKey) → Contains (lines_at first.shard (first ∷ orders)) first.line
first_named first orders =
    subst (λ (v : Bool). Contains (map (λ (x : OrderKey). x.line) (cond v (first ∷ filter (λ (x : OrderKey). eqb x.shard first.shard) orders) (filter (λ (x : OrderKey). eqb x.shard first.shard) orders))) first.line)
    (sym (eq-eqb first.shard first.shard refl)) (0, omega arith, refl)

pub each_named : (orders : List OrderKey) → All (λ (o : OrderKey). Contains (lines_at o.shard orders) o.line) orders
each_named [] = All-nil _
each_named (first ∷ orders) =
    All-cons (λ (o : OrderKey). Contains (lines_at o.shard (first ∷ orders)) o.line) first orders (first_named first orders)
    (All-weaker (λ (o : OrderKey). Contains (lines_at o.shard orders) o.line) (λ (o : OrderKey). Contains (lines_at o.shard (first ∷ orders)) o.line)
    (λ o is. named_by o.shard o.line first orders is) orders (each_named orders))

-- what is said of each event by its shard and line is said of each line that is named
module _ (P : ℕ → ℕ → Type 0) (shard line : ℕ) where
  first_or : (o : OrderKey) (lines : List ℕ) → P o.shard o.line → (Contains lines line → P shard line) → eqb o.shard shard ≡ true → Contains (o.line ∷ lines) line → P shard line
  first_or o lines first others same found = one found.0 found.1 found.2
    where
      one : (k : ℕ) → k < suc (length lines) → get_or (o.line ∷ lines) k line ≡ line → P shard line
      one zero lt at = subst (λ (n : ℕ). P shard n) at (subst (λ (s : ℕ). P s o.line) (eqb-true o.shard shard same) first)
      one (suc k) lt at = others (k, omega (arith, lt), at)

  one_named : (o : OrderKey) (others : List OrderKey) → P o.shard o.line → (Contains (lines_at shard others) line → P shard line) → (b : Bool) → eqb o.shard shard ≡ b
      → Contains (map (λ (x : OrderKey). x.line) (cond b (o ∷ filter (λ (x : OrderKey). eqb x.shard shard) others) (filter (λ (x : OrderKey). eqb x.shard shard) others))) line → P shard line
  one_named o others first rest true same found = first_or o (lines_at shard others) first rest same found
  one_named o others first rest false same found = rest found

  pub named_lines : (orders : List OrderKey) → All (λ (o : OrderKey). P o.shard o.line) orders → Contains (lines_at shard orders) line → P shard line
  named_lines [] all found = absurd (omega (arith, found.1))
  named_lines (o ∷ orders) all found =
      one_named o orders (All-head (λ (x : OrderKey). P x.shard x.line) o orders all) (named_lines orders (All-tail (λ (x : OrderKey). P x.shard x.line) o orders all)) (eqb o.shard shard) refl found
