-- What became of each lane and part of a run, once the hub is closed.
use Rattle.std.proofs.Common.{◌≡◌, ◌≤◌, ◌<◌, ◌^◌, ℕ, zero, suc, Bool, List, [], ◌∷◌, map, Option, Some, length, refl, sym, ap, ◌∙◌, subst, arith}
use Rattle.std.specs.Prelude.{All, get_or, slice_get}
use Rattle.std.specs.List.{AllZip, count_by}
use Rattle.std.proofs.lemmas.List.{length-map}
use Rattle.std.proofs.lemmas.List.Elements.{All-nil}
use Rattle.std.proofs.lemmas.Option.{same_Some, slice_get-get_or, slice_get_within}
use Rattle.eql_values.specs.Accepted.{Reads}
use Rattle.eql_outside.specs.Plans.{FaultPlan}
use Rattle.eql_turn_lock.specs.declared.view.Ended.{Ended}
use Rattle.eql_turn_lock.specs.declared.view.View.{View}
use Rattle.eql_turn_lock.specs.Calls.{Closes}
use Rattle.eql_turn_lock.specs.History.{IsLegal}
use Rattle.eql_hub.specs.Hands.{HandView, LaneKnown, PartKnown}
use Rattle.eql_lock_bench.specs.Benched.{AllGoOn}
use Rattle.eql_lock_bench.specs.Locked.{is_worn, known_by, mine_in, noted_lane, noted_part, worn_in, worn_of}
use Rattle.eql_hub_run.specs.Gathers.{AreUnplayed, TookIn}
use Rattle.eql_hub_run.proofs.Worn.{FewNotes, kept_below, never_worn, worn_none}

-- ---- places of two lists
pub zip_count : {X Y : Type 0} (P : X → Y → Type 0) (xs : List X) (ys : List Y) → AllZip P xs ys → length ys ≡ length xs
zip_count P [] [] all = refl
zip_count P [] (y ∷ ys) all = absurd all
zip_count P (x ∷ xs) [] all = absurd all
zip_count P (x ∷ xs) (y ∷ ys) all = ap suc (zip_count P xs ys all.1)

pub zip_at : {X Y : Type 0} (P : X → Y → Type 0) (xs : List X) (ys : List Y) → AllZip P xs ys → (k : ℕ) (x : X) (y : Y) → slice_get xs k ≡ Some x → slice_get ys k ≡ Some y → P x y
zip_at P [] ys all k x y was is = absurd cc
zip_at P (z ∷ xs) [] all k x y was is = absurd cc
zip_at P (z ∷ xs) (u ∷ ys) all zero x y was is = subst (λ (v : _). P v y) (same_Some z x was) (subst (P z) (same_Some u y is) all.0)
zip_at P (z ∷ xs) (u ∷ ys) all (suc k) x y was is = zip_at P xs ys all.1 k x y was is

pub there_in : {X Y : Type 0} (xs : List X) (ys : List Y) (k : ℕ) (x : X) → length ys ≡ length xs → slice_get xs k ≡ Some x → (y : Y) × (slice_get ys k ≡ Some y)
there_in xs [] k x same there = absurd (let a = slice_get_within xs k x there in omega (arith, a, same))
there_in xs (y ∷ ys) k x same there =
    let a = slice_get_within xs k x there in (get_or (y ∷ ys) k y, slice_get-get_or (y ∷ ys) k y (omega (arith, a, same)))

-- ---- one value
-- of one lock: what the first pass knew as the bench gave it back, and once all hands were joined in; and the one history from the value at `make`
-- to the value at the end
pub record Ends {T O R : Type 0} (step_of : T → O → R → T → Type 0) (is_open : O → Bool) (Fine : Ended O R → Type 0) (made : ℕ) (old : T) (before after : View T O R) (new : T) : Type 0 where
  pub opened : before.opening ≡ Some old
  pub number : before.number ≡ 0
  pub took : TookIn Fine made before after
  pub closes : Closes step_of is_open after new
  pub opening : closes.opening ≡ old
  pub legal : IsLegal step_of old closes.log new
  pub fine : All Fine after.ended
  pub many : length after.ended ≡ made

-- the same, of the value in a place
pub record EndsAt {T O R : Type 0} (step_of : T → O → R → T → Type 0) (is_open : O → Bool) (Fine : Ended O R → Type 0) (made : ℕ) (lasts joineds : List (View T O R)) (news : List T) (k : ℕ) (old : T) : Type 0 where
  pub before : View T O R
  pub after : View T O R
  pub new : T
  pub last_there : slice_get lasts k ≡ Some before
  pub joined_there : slice_get joineds k ≡ Some after
  pub new_there : slice_get news k ≡ Some new
  pub ends : Ends step_of is_open Fine made old before after new

-- all values of one kind
pub record AllEnd {T O R : Type 0} (step_of : T → O → R → T → Type 0) (is_open : O → Bool) (Fine : Ended O R → Type 0) (made : ℕ) (olds : List T) (lasts joineds : List (View T O R)) (news : List T) : Type 0 where
  pub last_count : length lasts ≡ length olds
  pub joined_count : length joineds ≡ length olds
  pub new_count : length news ≡ length olds
  pub each : (k : ℕ) (old : T) → slice_get olds k ≡ Some old → EndsAt step_of is_open Fine made lasts joineds news k old

pub all_end : {T O R : Type 0} (step_of : T → O → R → T → Type 0) (is_open : O → Bool) (Fine : Ended O R → Type 0) (split made : ℕ) (olds : List T) (firsts lasts joineds : List (View T O R)) (news : List T)
    → AreUnplayed split olds firsts → AllGoOn firsts lasts → length joineds ≡ length lasts
    → ((k : ℕ) (v w : View T O R) → slice_get lasts k ≡ Some v → slice_get joineds k ≡ Some w → TookIn Fine made v w)
    → AllZip (Closes step_of is_open) joineds news → AllEnd step_of is_open Fine made olds lasts joineds news
all_end {T} {O} {R} step_of is_open Fine split made olds firsts lasts joineds news unplayed goes count took closes = record {
  last_count = goes.count ∙ unplayed.count;
  joined_count = count ∙ (goes.count ∙ unplayed.count);
  new_count = zip_count (Closes step_of is_open) joineds news closes ∙ (count ∙ (goes.count ∙ unplayed.count));
  each = λ k old there.
      let f = there_in olds firsts k old unplayed.count there in
      let v = there_in firsts lasts k f.0 goes.count f.1 in
      let w = there_in lasts joineds k v.0 count v.1 in
      let n = there_in joineds news k w.0 (zip_count (Closes step_of is_open) joineds news closes) w.1 in
      let begun = unplayed.each k old f.0 there f.1 in
      let on = goes.each k f.0 v.0 f.1 v.1 in
      let took_in = took k v.0 w.0 v.1 w.1 in
      let one = zip_at (Closes step_of is_open) joineds news closes k w.0 n.0 w.1 n.1 in
      let opened : v.0.opening ≡ Some old = on.opening ∙ begun.opening in
      let none : v.0.ended ≡ [] = on.ended ∙ begun.ended in
      let opening : one.opening ≡ old = same_Some one.opening old (sym one.opened ∙ (took_in.opening ∙ opened)) in
      record {
        before = v.0;
        after = w.0;
        new = n.0;
        last_there = v.1;
        joined_there = w.1;
        new_there = n.1;
        ends = record {
          opened = opened;
          number = on.number ∙ begun.number;
          took = took_in;
          closes = one;
          opening = opening;
          legal = subst (λ (x : T). IsLegal step_of x one.log n.0) opening one.legal;
          fine = took_in.fine (subst (All Fine) (sym none) (All-nil Fine));
          many = let a = took_in.count in let b = ap length none in omega (arith, a, b);
        };
      };
}

-- ---- no lock was worn
module _ {T O R : Type 0} (step_of : T → O → R → T → Type 0) (is_open : O → Bool) (Fine : Ended O R → Type 0) (made : ℕ) (olds : List T) (lasts joineds : List (View T O R)) (news : List T)
    (all : AllEnd step_of is_open Fine made olds lasts joineds news) (many : made ≤ 65536) (few : (e : Ended O R) → Fine e → length e.mine ≤ 2 ^ 40)
    (own : (k : ℕ) (v : View T O R) → slice_get lasts k ≡ Some v → length v.mine ≤ 2 ^ 54) where
  pub old_at : (k : ℕ) (v : View T O R) → slice_get lasts k ≡ Some v → (old : T) × (slice_get olds k ≡ Some old)
  old_at k v there = there_in lasts olds k v (sym all.last_count) there

  module _ (k : ℕ) (old : T) (at : EndsAt step_of is_open Fine made lasts joineds news k old) where
    own_after : length at.after.mine ≤ 2 ^ 54
    own_after = let a = own k at.before at.last_there in let b = ap length at.ends.took.mine in omega (arith, a, b)

    many_after : length at.after.ended ≤ 65536
    many_after = let a = at.ends.many in omega (arith, a, many)

    few_after : All (λ (e : Ended O R). length e.mine ≤ 2 ^ 40) at.after.ended
    few_after i d l = few (get_or at.after.ended i d) (at.ends.fine i d l)

    -- no hand met a worn word there
    pub kept_words : All (λ (e : Ended O R). All (λ (n : ℕ). n < 2 ^ 63) e.looked) at.after.ended
    kept_words = kept_below step_of is_open at.after at.new at.ends.closes own_after many_after few_after

    worn_before : worn_of at.before ≡ 0
    worn_before =
        let none = never_worn step_of is_open at.after at.new at.ends.closes own_after many_after few_after in
        let same : worn_of at.after ≡ worn_of at.before = ap (count_by is_worn) at.ends.took.looked in
        sym same ∙ none

  pub none_worn_in : worn_in lasts ≡ 0
  none_worn_in = worn_none step_of is_open lasts (λ k v there.
      let old = old_at k v there in
      let at = all.each k old.0 old.1 in
      ap worn_of (same_Some v at.before (sym there ∙ at.last_there)) ∙ worn_before k old.0 at)

-- ---- the pass's own entries are few where the notes of the run are
pub own_lanes : {S L : Type 0} (left lent_as : S → Option (List ℕ)) (fault_plan : S → Option FaultPlan) (read_of : L → Reads) (text : ℕ → Option (List ℕ)) (last : HandView S L)
    → FewNotes (known_by left lent_as fault_plan read_of text last) → (k : ℕ) (v : LaneKnown S L) → slice_get last.lanes.views k ≡ Some v → length v.mine ≤ 2 ^ 54
own_lanes {S} {L} left lent_as fault_plan read_of text last few k v there =
    let a = few.lanes k (slice_get_within last.lanes.views k v there) in
    let b = ap (λ (o : Option (LaneKnown S L)). length (map noted_lane (mine_in o))) there in
    let c = length-map v.mine noted_lane in
    omega (arith, a, b, c)

pub own_parts : {S L : Type 0} (left lent_as : S → Option (List ℕ)) (fault_plan : S → Option FaultPlan) (read_of : L → Reads) (text : ℕ → Option (List ℕ)) (last : HandView S L)
    → FewNotes (known_by left lent_as fault_plan read_of text last) → (k : ℕ) (v : PartKnown) → slice_get last.parts.views k ≡ Some v → length v.mine ≤ 2 ^ 54
own_parts left lent_as fault_plan read_of text last few k v there =
    let a = few.parts k (slice_get_within last.parts.views k v there) in
    let b = ap (λ (o : Option PartKnown). length (map noted_part (mine_in o))) there in
    let c = length-map v.mine noted_part in
    omega (arith, a, b, c)
