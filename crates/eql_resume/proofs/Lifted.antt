-- Lanes that were lifted keep what the cut does once it has their places.
use Rattle.std.proofs.Common.{◌≡◌, ◌≤◌, ◌<◌, ◌+◌, ◌-◌, ℕ, zero, suc, List, [], ◌∷◌, Some, true, false, refl, ap, sym, arith, ◌∙◌, subst, length, map}
use Rattle.std.specs.Prelude.{All, AllPairs, Bool, Contains, ◌==◌, ◌++◌, if◌then◌else◌, get_or, take}
use Rattle.std.specs.FinMap.Entries.{below_all, is_sorted}
use Rattle.std.specs.List.{slice_get, list_all}
use Rattle.std.specs.Ordering.{is_lt, nat_cmp}
use Rattle.std.proofs.lemmas.Bool.{and_from, eqb-true, eq-eqb}
use Rattle.std.proofs.lemmas.List.Elements.{All-head, All-tail, All-weaker}
use Rattle.std.proofs.lemmas.List.Kept.{AllPairs-from_increasing}
use Rattle.std.proofs.lemmas.Map.Keys.{ge_from_not_lt}
use Rattle.std.proofs.lemmas.Option.{none-some, same_Some}
use Rattle.eql_values.specs.declared.cut.LaneCut.{LaneCut}
use Rattle.eql_values.specs.declared.cut.Pipe.{Pipe}
use Rattle.eql_values.specs.declared.item.Item.{Item}
use Rattle.eql_values.specs.declared.order.OrderKey.{OrderKey}
use Rattle.eql_values.specs.Lines.{Line, lines_in, lines_of}
use Rattle.eql_laws.specs.Counting.{front}
use Rattle.eql_laws.specs.Places.{ReadTo, is_line_end, whole}
use Rattle.eql_lane.specs.Noting.{IsWholeLine, line_place, place_among, placed_item, placed_lines, retraced_cut, whole_lines}
use Rattle.eql_cut.specs.declared.cut.Cut.{Cut}
use Rattle.eql_cut.specs.Fitting.{run_of}
use Rattle.eql_cut.specs.Placing.{NamesLine, lifted_cut, lifted_item, lifted_lane, place_in, listed_place}
use Rattle.eql_cut.specs.Placed.{EachWasNoted, HasLine, WereNoted, place_of_line, with_places}
use Rattle.eql_cut.specs.PlacedLaws.{EventsAreNamed, NotedIsPlaced, WantedWereNoted}
use Rattle.eql_runs.specs.Starts.{lanes_over}
use Rattle.eql_resume.specs.Beginnings.{AreWanted}
use Rattle.eql_resume.specs.Finding.{Suits}
use Rattle.eql_resume.specs.Lifted.{LiftedIsCut, WasLifted, WereLifted}
use Rattle.eql_resume.proofs.Begun.{fits_at, of_lane}

pub record LiftLaws : Type 0 where
  pub wanted : WantedWereNoted
  pub placed_are : NotedIsPlaced
  pub named : EventsAreNamed

-- ---- two words for the place of a line
same_place : (lines : List Line) (n : ℕ) → place_among lines n ≡ place_of_line lines n
same_place [] n = refl
same_place (line ∷ lines) n = ap (λ (p : ℕ). if line.number == n then line.at else p) (same_place lines n)

same_places : (text : List ℕ) (wanted : List ℕ) → placed_lines text wanted ≡ with_places text wanted
same_places text [] = refl
same_places text (n ∷ wanted) =
    let p = same_place (lines_in text) n in let ps = same_places text wanted in λ i. (n, p i) ∷ ps i

-- a wanted line has its place in the list
among_rest : (n : ℕ) (ns : List ℕ) (line : ℕ) → (n == line) ≡ false → Contains (n ∷ ns) line → Contains ns line
among_rest n ns line other (zero, lt, is) = let e = sym (eq-eqb n line is) ∙ other in cc
among_rest n ns line other (suc k, lt, is) = (k, omega (arith, lt), is)

found_place : (text : List ℕ) (wanted : List ℕ) (line : ℕ) → Contains wanted line → place_in (placed_lines text wanted) line ≡ line_place text line
found_place text [] line (k, lt, is) = absurd (omega (arith, lt))
found_place text (n ∷ ns) line there = by (n == line) refl (found_place text ns line)
  where
    by : (b : Bool) → (n == line) ≡ b → (Contains ns line → place_in (placed_lines text ns) line ≡ line_place text line)
        → place_in (placed_lines text (n ∷ ns)) line ≡ line_place text line
    by true same later = ap (λ (b : Bool). if b then line_place text n else place_in (placed_lines text ns) line) same ∙ ap (line_place text) (eqb-true n line same)
    by false other later = ap (λ (b : Bool). if b then line_place text n else place_in (placed_lines text ns) line) other ∙ later (among_rest n ns line other there)

-- ---- lists of lines ascend
less_is_lt : (m n : ℕ) → m < n → is_lt (nat_cmp m n) ≡ true
less_is_lt m n less = by (is_lt (nat_cmp m n)) refl
  where
    by : (b : Bool) → is_lt (nat_cmp m n) ≡ b → is_lt (nat_cmp m n) ≡ true
    by true e = e
    by false e = let back = ge_from_not_lt m n e in absurd (omega (arith, less, back))

above : (n : ℕ) (ns : List ℕ) → AllPairs (λ (a b : ℕ). a < b) (n ∷ ns) → All (λ (m : ℕ). n < m) ns
above n ns up k d lt = up 0 (suc k) d (omega arith) (omega (arith, lt))

rest_rises : (n : ℕ) (ns : List ℕ) → AllPairs (λ (a b : ℕ). a < b) (n ∷ ns) → AllPairs (λ (a b : ℕ). a < b) ns
rest_rises n ns up i j d less lt = up (suc i) (suc j) d (omega (arith, less)) (omega (arith, lt))

below_ones : (text : List ℕ) (n : ℕ) (ns : List ℕ) → All (λ (m : ℕ). n < m) ns → below_all nat_cmp n (placed_lines text ns) ≡ true
below_ones text n [] up = refl
below_ones text n (m ∷ ns) up =
    and_from (is_lt (nat_cmp n m)) (below_all nat_cmp n (placed_lines text ns)) (less_is_lt n m (All-head (λ (x : ℕ). n < x) m ns up))
    (below_ones text n ns (All-tail (λ (x : ℕ). n < x) m ns up))

pairs_ascend : (text : List ℕ) (ns : List ℕ) → AllPairs (λ (a b : ℕ). a < b) ns → is_sorted nat_cmp (placed_lines text ns) ≡ true
pairs_ascend text [] up = refl
pairs_ascend text (n ∷ ns) up =
    and_from (below_all nat_cmp n (placed_lines text ns)) (is_sorted nat_cmp (placed_lines text ns))
    (below_ones text n ns (above n ns up)) (pairs_ascend text ns (rest_rises n ns up))

-- ---- one lane
map_same : {A B : Type 0} (f g : A → B) (xs : List A) → All (λ x. f x ≡ g x) xs → map f xs ≡ map g xs
map_same f g [] h = refl
map_same f g (x ∷ xs) h =
    let e = All-head (λ y. f y ≡ g y) x xs h in let es = map_same f g xs (All-tail (λ y. f y ≡ g y) x xs h) in λ i. e i ∷ es i

place_at : (lists : List (List (ℕ × ℕ))) (shard line : ℕ) (places : List (ℕ × ℕ)) → slice_get lists shard ≡ Some places
    → listed_place lists shard line ≡ place_in places line
place_at [] shard line places is = absurd (none-some places is)
place_at (l ∷ lists) zero line places is = ap (λ (x : List (ℕ × ℕ)). place_in x line) (same_Some l places is)
place_at (l ∷ lists) (suc shard) line places is = place_at lists shard line places is

take_front : (a b : List ℕ) → take (length a) (a ++ b) ≡ a
take_front [] [] = refl
take_front [] (x ∷ b) = refl
take_front (x ∷ a) b = ap (λ (l : List ℕ). x ∷ l) (take_front a b)

module _ (laws : LiftLaws) (stages values : ℕ) (pipes : List Pipe) (cut : Cut) (suits : Suits stages values pipes cut.head cut) where
  -- an event of the lane of a shard is of this shard, and its line is wanted
  own_event : (shard : ℕ) (lane : LaneCut) (wanted : List ℕ) → slice_get cut.lanes shard ≡ Some lane → AreWanted cut shard wanted
      → All (λ (item : Item). (item.order.shard ≡ shard) × Contains wanted item.order.line) lane.items
  own_event shard lane wanted there are =
      let fits = fits_at (run_of stages values pipes cut.head.slack).slack cut.mark 0 cut.lanes shard lane suits.fits.lanes there in
      let names = of_lane (λ (o : OrderKey). NamesLine cut o.shard o.line) cut shard lane (laws.named cut) there in
      λ k d lt.
      let same : (get_or lane.items k d).order.shard ≡ shard = (let e = (fits.items k d lt).shard_is in let z : 0 + shard ≡ shard = omega arith in e ∙ z) in (
        same,
        (are.exact (get_or lane.items k d).order.line).1
            (subst (λ (n : ℕ). NamesLine cut n (get_or lane.items k d).order.line) same (names k d lt)),
      )

  placed_here : (lists : List (List (ℕ × ℕ))) (shard : ℕ) (r : ReadTo) (wanted : List ℕ) (places : List (ℕ × ℕ)) (item : Item)
      → slice_get lists shard ≡ Some places → places ≡ placed_lines r.first wanted → item.order.shard ≡ shard → Contains wanted item.order.line
      → placed_item r.first item ≡ lifted_item (listed_place lists) item
  placed_here lists shard r wanted places item is are same has =
      let line = item.order.line in
      let e : line_place r.first line ≡ listed_place lists item.order.shard line =
      sym (found_place r.first wanted line has) ∙ ap (λ (x : List (ℕ × ℕ)). place_in x line) (sym are) ∙ sym (place_at lists shard line places is)
      ∙ ap (λ (n : ℕ). listed_place lists n line) (sym same) in
      λ i. record {
        order = record { ts = item.order.ts; tie = item.order.tie; shard = item.order.shard; line = item.order.line; at = e i };
        routes = item.routes;
      }

  lane_placed : (lists : List (List (ℕ × ℕ))) (shard : ℕ) (r : ReadTo) (kept : LaneCut) (places : List (ℕ × ℕ)) → slice_get lists shard ≡ Some places
      → (h : WasLifted cut shard r kept places) → kept ≡ retraced_cut r.first (lifted_lane (listed_place lists) h.lane)
  lane_placed lists shard r kept places is h =
      let items : map (placed_item r.first) h.lane.items ≡ map (lifted_item (listed_place lists)) h.lane.items =
      map_same (placed_item r.first) (lifted_item (listed_place lists)) h.lane.items
      (All-weaker (λ (item : Item). (item.order.shard ≡ shard) × Contains h.wanted item.order.line)
      (λ (item : Item). placed_item r.first item ≡ lifted_item (listed_place lists) item)
      (λ item own. placed_here lists shard r h.wanted places item is h.located.places_are own.0 own.1) h.lane.items
      (own_event shard h.lane h.wanted h.there h.are)) in
      h.kept_is
      ∙ ap (λ (xs : List Item). record (retraced_cut r.first h.lane) { items = xs }) items

  -- the bytes that were read of a whole text
  read_of_whole : (shard : ℕ) (r : ReadTo) (kept : LaneCut) (places : List (ℕ × ℕ)) → (h : WasLifted cut shard r kept places)
      → take h.lane.offset (whole r) ≡ r.first
  read_of_whole shard r kept places h = ap (λ (n : ℕ). take n (whole r)) (sym h.count) ∙ take_front r.first r.rest

  -- ---- all of them
  pub record OneLifted (shards : List ReadTo) (lists : List (List (ℕ × ℕ))) (shard at : ℕ) (kept : LaneCut) : Type 0 where
    pub r : ReadTo
    pub among : slice_get shards at ≡ Some r
    pub places : List (ℕ × ℕ)
    pub is : slice_get lists at ≡ Some places
    pub was : WasLifted cut shard r kept places

  one_at : (shard : ℕ) (shards : List ReadTo) (lanes : List LaneCut) (lists : List (List (ℕ × ℕ))) → WereLifted cut shard shards lanes lists
      → (s : ℕ) (kept : LaneCut) → slice_get lanes s ≡ Some kept → OneLifted shards lists (shard + s) s kept
  one_at shard [] [] [] h s kept is = absurd (none-some kept is)
  one_at shard [] [] (l ∷ lists) h s kept is = absurd h
  one_at shard [] (k ∷ lanes) lists h s kept is = absurd h
  one_at shard (r ∷ shards) [] lists h s kept is = absurd h
  one_at shard (r ∷ shards) (k ∷ lanes) [] h s kept is = absurd h
  one_at shard (r ∷ shards) (k ∷ lanes) (places ∷ lists) h zero kept is =
      let e : shard ≡ shard + 0 = omega arith in
      record {
        r = r;
        among = refl;
        places = places;
        is = refl;
        was = subst (λ (n : ℕ). WasLifted cut n r kept places) e (subst (λ (x : LaneCut). WasLifted cut shard r x places) (same_Some k kept is) h.0);
      }
  one_at shard (r ∷ shards) (k ∷ lanes) (places ∷ lists) h (suc s) kept is =
      let e : (shard + 1) + s ≡ shard + suc s = omega arith in
      let o = one_at (shard + 1) shards lanes lists h.1 s kept is in
      record { r = o.r; among = o.among; places = o.places; is = o.is; was = subst (λ (n : ℕ). WasLifted cut n o.r kept o.places) e o.was }

  same_lists : (xs ys : List LaneCut) → length xs ≡ length ys
      → ((s : ℕ) (x y : LaneCut) → slice_get xs s ≡ Some x → slice_get ys s ≡ Some y → x ≡ y) → xs ≡ ys
  same_lists [] [] n each = refl
  same_lists [] (y ∷ ys) n each = absurd (omega (arith, n))
  same_lists (x ∷ xs) [] n each = absurd (omega (arith, n))
  same_lists (x ∷ xs) (y ∷ ys) n each =
      let e = each 0 x y refl refl in
      let less : length xs ≡ length ys = omega (arith, n) in
      let es = same_lists xs ys less (λ s a b is also. each (suc s) a b is also) in
      λ i. e i ∷ es i

  lifted_at : (place : ℕ → ℕ → ℕ) (lanes : List LaneCut) (s : ℕ) (y : LaneCut) → slice_get (map (lifted_lane place) lanes) s ≡ Some y
      → (lane : LaneCut) × (slice_get lanes s ≡ Some lane) × (y ≡ lifted_lane place lane)
  lifted_at place [] s y is = absurd (none-some y is)
  lifted_at place (l ∷ lanes) zero y is = (l, refl, sym (same_Some (lifted_lane place l) y is))
  lifted_at place (l ∷ lanes) (suc s) y is = lifted_at place lanes s y is

  lifted_length : (place : ℕ → ℕ → ℕ) (lanes : List LaneCut) → length (map (lifted_lane place) lanes) ≡ length lanes
  lifted_length place [] = refl
  lifted_length place (l ∷ lanes) = ap suc (lifted_length place lanes)

  over_at : (texts : List (List ℕ)) (lanes : List LaneCut) (s : ℕ) (own : List ℕ) (y : LaneCut) → slice_get texts s ≡ Some own
      → slice_get (lanes_over texts lanes) s ≡ Some y
      → (lane : LaneCut) × (slice_get lanes s ≡ Some lane) × (y ≡ retraced_cut (take lane.offset own) lane)
  over_at texts [] s own y there is = absurd (none-some y is)
  over_at [] (l ∷ lanes) s own y there is = absurd (none-some own there)
  over_at (t ∷ texts) (l ∷ lanes) zero own y there is =
      (l, refl, sym (same_Some (retraced_cut (take l.offset t) l) y is) ∙ ap (λ (x : List ℕ). retraced_cut (take l.offset x) l) (same_Some t own there))
  over_at (t ∷ texts) (l ∷ lanes) (suc s) own y there is = over_at texts lanes s own y there is

  over_length : (texts : List (List ℕ)) (lanes : List LaneCut) → length (lanes_over texts lanes) ≡ length lanes
  over_length texts [] = refl
  over_length [] (l ∷ lanes) = refl
  over_length (t ∷ texts) (l ∷ lanes) = ap suc (over_length texts lanes)

  whole_at : (shards : List ReadTo) (s : ℕ) (r : ReadTo) → slice_get shards s ≡ Some r → slice_get (map whole shards) s ≡ Some (whole r)
  whole_at [] s r is = absurd (none-some r is)
  whole_at (x ∷ shards) zero r is = ap (λ (y : ReadTo). Some (whole y)) (same_Some x r is)
  whole_at (x ∷ shards) (suc s) r is = whole_at shards s r is

  lanes_placed : (shards : List ReadTo) (lanes : List LaneCut) (lists : List (List (ℕ × ℕ))) → length lanes ≡ length cut.lanes
      → WereLifted cut 0 shards lanes lists → lanes ≡ lanes_over (map whole shards) (lifted_cut (listed_place lists) cut).lanes
  lanes_placed shards lanes lists count h =
      same_lists lanes (lanes_over texts placed) (count ∙ sym (over_length texts placed ∙ lifted_length (listed_place lists) cut.lanes)) one
    where
      texts : List (List ℕ)
      texts = map whole shards

      placed : List LaneCut
      placed = map (lifted_lane (listed_place lists)) cut.lanes

      one : (s : ℕ) (x y : LaneCut) → slice_get lanes s ≡ Some x → slice_get (lanes_over texts placed) s ≡ Some y → x ≡ y
      one s x y is also =
          let o = one_at 0 shards lanes lists h s x is in
          let v = over_at texts placed s (whole o.r) y (whole_at shards s o.r o.among) also in
          let l = lifted_at (listed_place lists) cut.lanes s v.0 v.1 in
          let z : 0 + s ≡ s = omega arith in
          let was = subst (λ (n : ℕ). WasLifted cut n o.r x o.places) z o.was in
          let own : v.0 ≡ lifted_lane (listed_place lists) was.lane = l.2 ∙ ap (lifted_lane (listed_place lists)) (same_Some l.0 was.lane (sym l.1 ∙ was.there)) in
          lane_placed lists s o.r x o.places o.is was
          ∙ ap (λ (bytes : List ℕ). retraced_cut bytes (lifted_lane (listed_place lists) was.lane)) (sym (read_of_whole s o.r x o.places was))
          ∙ ap (λ (c : LaneCut). retraced_cut (take c.offset (whole o.r)) c) (sym own) ∙ sym v.2

  -- each list is of wanted lines with their places
  few_whole : (first rest : List ℕ) → whole_lines first rest ≤ length (lines_of first)
  few_whole first rest = by (is_line_end first rest)
    where
      by : (b : Bool) → (if b then length (lines_of first) else length (lines_of first) - 1) ≤ length (lines_of first)
      by true = omega arith
      by false = omega arith

  noted_one : (shard : ℕ) (r : ReadTo) (kept : LaneCut) (places : List (ℕ × ℕ)) → WasLifted cut shard r kept places → WereNoted cut shard r.first places
  noted_one shard r kept places h =
      subst (WereNoted cut shard r.first) (sym (h.located.places_are ∙ same_places r.first h.wanted))
      (laws.wanted cut shard r.first h.wanted
      (All-weaker (IsWholeLine r.first r.rest) (HasLine r.first)
      (λ line is. (is.0, (let few = few_whole r.first r.rest in omega (arith, few, is.1)))) h.wanted h.located.whole)
      (λ line named. (h.are.exact line).1 named))

  noted_all : (shard : ℕ) (shards : List ReadTo) (lanes : List LaneCut) (lists : List (List (ℕ × ℕ))) → WereLifted cut shard shards lanes lists
      → EachWasNoted cut shard (map front shards) lists
  noted_all shard [] [] [] h = tt
  noted_all shard [] [] (l ∷ lists) h = absurd h
  noted_all shard [] (k ∷ lanes) lists h = absurd h
  noted_all shard (r ∷ shards) [] lists h = absurd h
  noted_all shard (r ∷ shards) (k ∷ lanes) [] h = absurd h
  noted_all shard (r ∷ shards) (k ∷ lanes) (places ∷ lists) h = (noted_one shard r k places h.0, noted_all (shard + 1) shards lanes lists h.1)

  all_ascend : (shard : ℕ) (shards : List ReadTo) (lanes : List LaneCut) (lists : List (List (ℕ × ℕ))) → WereLifted cut shard shards lanes lists
      → list_all (is_sorted nat_cmp) lists ≡ true
  all_ascend shard [] [] [] h = refl
  all_ascend shard [] [] (l ∷ lists) h = absurd h
  all_ascend shard [] (k ∷ lanes) lists h = absurd h
  all_ascend shard (r ∷ shards) [] lists h = absurd h
  all_ascend shard (r ∷ shards) (k ∷ lanes) [] h = absurd h
  all_ascend shard (r ∷ shards) (k ∷ lanes) (places ∷ lists) h =
      and_from (is_sorted nat_cmp places) (list_all (is_sorted nat_cmp) lists)
      (ap (is_sorted nat_cmp) h.0.located.places_are ∙ pairs_ascend r.first h.0.wanted (AllPairs-from_increasing h.0.wanted h.0.are.ascend))
      (all_ascend (shard + 1) shards lanes lists h.1)

pub lifted_is_cut : LiftLaws → LiftedIsCut
lifted_is_cut laws stages values pipes cut shards lanes lists suits count h = record {
  ascend = all_ascend laws stages values pipes cut suits 0 shards lanes lists h;
  lanes_are = lanes_placed laws stages values pipes cut suits shards lanes lists count h;
  placed_is = laws.placed_are shards cut lists (noted_all laws stages values pipes cut suits 0 shards lanes lists h);
}
