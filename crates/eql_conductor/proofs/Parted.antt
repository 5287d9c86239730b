-- What is known once a part was played on.
use Rattle.std.proofs.Common.{◌≡◌, ◌≢◌, inl, inr, ◌+◌, ◌-◌, ◌++◌, ◌<◌, ◌≤◌, ℕ, zero, suc, Bool, true, false, List, [], ◌∷◌, Some, length, map, refl, sym, ap, ◌∙◌, arith, subst, add-one, length-append}
use Rattle.std.specs.Prelude.{All, IfSome, filter, ◌==◌}
use Rattle.std.proofs.lemmas.List.{map-append}
use Rattle.eql_values.specs.declared.item.Item.{Item}
use Rattle.eql_values.specs.declared.item.Route.{Route}
use Rattle.eql_values.specs.declared.found.Match.{Match}
use Rattle.eql_values.specs.declared.found.Holder.{Holder}
use Rattle.eql_values.specs.declared.order.Mark.{Mark}
use Rattle.eql_values.specs.declared.order.Mark.TheVariants.{Start, At, End}
use Rattle.eql_values.specs.Marks.{is_below}
use Rattle.eql_values.specs.Matching.{after}
use Rattle.eql_values.specs.Ordered.{numbers}
use Rattle.eql_values.specs.Routing.{routed_items, with_routes}
use Rattle.eql_laws.specs.Alive.{IsSpan}
use Rattle.eql_laws.proofs.Elements.{All-filter_map}
use Rattle.eql_laws.proofs.PieceLemmas.{routed_pieces}
use Rattle.eql_laws.proofs.PartMatches.{after_routed}
use Rattle.eql_parts.specs.declared.ops.PartOp.{PartOp}
use Rattle.eql_parts.specs.declared.ops.PartOp.TheVariants.{Deliver, Turn, Collect}
use Rattle.eql_parts.specs.declared.ops.PartReply.{PartReply}
use Rattle.eql_parts.specs.declared.ops.PartReply.TheVariants as reply
use Rattle.eql_parts.specs.PartSteps.{CanDeliver, Rules, PartState, IsPartStep, IsTurnStep}
use Rattle.eql_parts.specs.Spreading.{part_number}
use Rattle.eql_conductor.specs.Finding.{found_of, own_of}
use Rattle.eql_conductor.specs.PartCalls.{PartIs, TurnKeeps, CollectsAll}
use Rattle.eql_conductor.proofs.Parting.{turn_keeps_part, deliver_moves_part, collect_moves_part}
use Rattle.eql_conductor.specs.Benches.{Known, StaysSame, TurnsTimes, ComesByTurns, PartPlays, MayPlay}
use Rattle.eql_conductor.specs.PartRounds.{AreParts, AreInPhase, IsAtRest, IsDelivered, IsPlayed, pending_after, AreAtRest, AreDelivered, ArePlayed, AreCollected, WaitAtMost, FewerWait}
use Rattle.eql_conductor.proofs.Resting.{same_or, was_part}

-- ---- turns of others
module _ (rules : Rules) (own : List Holder) (delivered : List Item) (mark : Mark) (span : IsSpan rules.span) where
  turned_times_keep : (n : ℕ) (x y : PartState) → TurnsTimes rules n x y → PartIs rules own delivered mark x → TurnKeeps rules own delivered mark x y
  turned_times_keep zero x y h is = subst (TurnKeeps rules own delivered mark x) (sym h) (record { is = is; fewer = omega arith })
  turned_times_keep (suc n) x y (mid, max, answer, step, rest) is =
      let one = turn_keeps_part rules own delivered mark x max answer mid span step is in
      let more = turned_times_keep n mid y rest one.is in
      record { is = more.is; fewer = let a = one.fewer in let b = more.fewer in omega (arith, a, b) }

  pub turned_keeps : (x y : PartState) → ComesByTurns rules x y → PartIs rules own delivered mark x → TurnKeeps rules own delivered mark x y
  turned_keeps x y h is = turned_times_keep h.0 x y h.1 is

none_left : (xs : List Item) (n : ℕ) → length xs ≤ n → n ≡ 0 → xs ≡ []
none_left [] n h e = refl
none_left (x ∷ xs) n h e = absurd (omega (arith, h, e))

empty_stays : (xs ys : List Item) → length ys ≤ length xs → xs ≡ [] → ys ≡ []
empty_stays xs ys h e = none_left ys (length xs) h (ap (λ (l : List Item). length l) e)

-- what is so stays so as others turn
abbrev pub Stays : Rules → (ℕ → PartState → Type 0) → Type 0
Stays rules Is = (p : ℕ) (x y : PartState) → ComesByTurns rules x y → Is p x → Is p y

module _ (rules : Rules) (all : List Holder) (items : List Item) (mark : Mark) (span : IsSpan rules.span) where
  pub rest_stays : Stays rules (IsAtRest rules all mark)
  rest_stays p x y h is = (turned_keeps rules (own_of all p) [] mark span x y h is).is

  pub delivered_stays : Stays rules (IsDelivered rules all items mark)
  delivered_stays p x y h d =
      let t = turned_keeps rules (own_of all p) (routed_items part_number p items) mark span x y h d.is in
      record { is = t.is; few = let a = t.fewer in let b = d.few in omega (arith, a, b) }

  pub played_stays : Stays rules (IsPlayed rules all items mark)
  played_stays p x y h d =
      let t = turned_keeps rules (own_of all p) (routed_items part_number p items) mark span x y h d.is in
      record { is = t.is; empty = empty_stays x.inbox y.inbox t.fewer d.empty }

-- ---- one more part was played on
pub parts_are : (rules : Rules) (a b : Known) → StaysSame a b → AreParts rules a → AreParts rules b
parts_are rules a b same h = record {
  count = same.parts ∙ h.count;
  each = λ p l. let was = was_part a b p same l in same.rules p was ∙ h.each p was;
  span = h.span;
}

module _ (rules : Rules) (p : ℕ) (o : PartOp) (answer : PartReply) (a b : Known) (After Before : ℕ → PartState → Type 0) (plays : PartPlays p o answer a b) (place : p < a.parts)
    (after_stays : Stays rules After) (before_stays : Stays rules Before) where
  other_is : (Is : ℕ → PartState → Type 0) → AreParts rules a → Stays rules Is → (k : ℕ) → k < b.parts → k ≢ p → ((x : PartState) → a.part k x → Is k x)
      → (y : PartState) → b.part k y → Is k y
  other_is Is are stays k l apart is y here =
      let was = was_part a b k plays.same l in
      let c = plays.others k was apart y here in
      stays k c.0 y (subst (λ (r : Rules). ComesByTurns r c.0 y) (are.each k was) c.2) (is c.0 c.1)

  called_is : AreParts rules a → ((x : PartState) → a.part p x → Before p x) → (Is : PartState → Type 0)
      → ((x y : PartState) → IsPartStep rules x o answer y → Before p x → Is y) → (y : PartState) → b.part p y → Is y
  called_is are was Is moves y here =
      let c = plays.called y here in
      let r = are.each p place in
      moves c.before y (subst (λ (rules : Rules). IsPartStep rules c.before o answer y) r c.step)
      (before_stays p c.first c.before (subst (λ (rules : Rules). ComesByTurns rules c.first c.before) r c.turned) (was c.first c.was))

  pub phase_more : ((x y : PartState) → IsPartStep rules x o answer y → Before p x → After p y) → AreInPhase rules p After Before a → AreInPhase rules (p + 1) After Before b
  phase_more moves h = record {
    are = parts_are rules a b plays.same h.are;
    done = λ k l below. elim (same_or k p) [
      | inl e ↦ subst (λ (j : ℕ). (y : PartState) → b.part j y → After j y) (sym e) (called_is h.are (h.left p place (omega arith)) (After p) moves)
      | inr apart ↦ other_is After h.are after_stays k l apart (h.done k (was_part a b k plays.same l) (omega (arith, below, apart)))
    ];
    left = λ k l above. other_is Before h.are before_stays k l (λ e. omega (arith, e, above)) (h.left k (was_part a b k plays.same l) (omega (arith, above)));
  }

  pub phase_same : ((x y : PartState) → IsPartStep rules x o answer y → Before p x → Before p y) → AreInPhase rules p After Before a → AreInPhase rules p After Before b
  phase_same moves h = record {
    are = parts_are rules a b plays.same h.are;
    done = λ k l below. other_is After h.are after_stays k l (λ e. omega (arith, e, below)) (h.done k (was_part a b k plays.same l) below);
    left = λ k l above. elim (same_or k p) [
      | inl e ↦ subst (λ (j : ℕ). (y : PartState) → b.part j y → Before j y) (sym e) (called_is h.are (h.left p place (omega arith)) (Before p) moves)
      | inr apart ↦ other_is Before h.are before_stays k l apart (h.left k (was_part a b k plays.same l) above)
    ];
  }

-- ---- a delivery
by_order : (mark : Mark) (item : Item) (routes : List Route) → is_below mark (record { order = item.order; routes = routes }) ≡ is_below mark item
by_order Start item routes = refl
by_order (At t) item routes = refl
by_order End item routes = refl

module _ (mark : Mark) (b : Bool) where
  abbrev Lies : Item → Type 0
  Lies item = is_below mark item ≡ b

  lies_with : (item : Item) (routes : List Route) → Lies item → IfSome (with_routes item routes) Lies
  lies_with item [] h = tt
  lies_with item (route ∷ routes) h = by_order mark item (route ∷ routes) ∙ h

  pub routed_lie : (p : ℕ) (items : List Item) → All Lies items → All Lies (routed_items part_number p items)
  routed_lie p items h =
      All-filter_map Lies Lies (λ (item : Item). with_routes item (filter (λ (r : Route). part_number r.key == p) item.routes))
      (λ item is. lies_with item (filter (λ (r : Route). part_number r.key == p) item.routes) is) items h

-- the events of a part may be delivered where all may
pub can_route : (p : ℕ) (last mark : Mark) (items : List Item) → CanDeliver last items mark → CanDeliver last (routed_items part_number p items) mark
can_route p last mark items can = record {
  rises = can.rises;
  ascends = (routed_pieces part_number p).ascends items can.ascends;
  not_below = routed_lie last false p items can.not_below;
  below = routed_lie mark true p items can.below;
}

pub may_deliver : (rules : Rules) (all : List Holder) (items own : List Item) (last mark : Mark) (p : ℕ) (a : Known) → p < a.parts → CanDeliver last items mark
    → own ≡ routed_items part_number p items → AreDelivered rules all items last mark p a → MayPlay a p (Deliver own mark)
may_deliver rules all items own last mark p a place can e h x here =
    let is = h.left p place (omega arith) x here in
    subst (λ (m : Mark). CanDeliver m own mark) (sym is.last) (subst (λ (l : List Item). CanDeliver last l mark) (sym e) (can_route p last mark items can))

empty_at_rest : (rules : Rules) (own : List Holder) (mark : Mark) (x : PartState) → PartIs rules own [] mark x → x.inbox ≡ []
empty_at_rest rules own mark x is = let e = ap (λ (l : List Item). length l) is.split ∙ length-append is.played x.inbox in none_left x.inbox (length x.inbox) (omega arith) (omega (arith, e))

delivers : (rules : Rules) (all : List Holder) (items own : List Item) (last mark : Mark) (p : ℕ) → CanDeliver last items mark → own ≡ routed_items part_number p items
    → (x y : PartState) → IsPartStep rules x (Deliver own mark) reply.Done y → IsAtRest rules all last p x → IsDelivered rules all items mark p y
delivers rules all items own last mark p can e x y step is =
    let can_own : CanDeliver last own mark = subst (λ (l : List Item). CanDeliver last l mark) (sym e) (can_route p last mark items can) in
    let moved = deliver_moves_part rules (own_of all p) [] own last mark x y can_own.rises can_own.ascends can_own.not_below can_own.below step is in
    let count = ap (λ (l : List Item). length l) step.inbox ∙ length-append x.inbox own in
    let none = ap (λ (l : List Item). length l) (empty_at_rest rules (own_of all p) last x is) in
    let fewer = (routed_pieces part_number p).fewer items in
    let same = ap (λ (l : List Item). length l) e in
    record {
      is = subst (λ (l : List Item). PartIs rules (own_of all p) l mark y) e moved;
      few = omega (arith, count, none, fewer, same);
    }

pub deliver_more : (rules : Rules) (all : List Holder) (items own : List Item) (last mark : Mark) (p : ℕ) (a b : Known) → p < a.parts → CanDeliver last items mark
    → own ≡ routed_items part_number p items → PartPlays p (Deliver own mark) reply.Done a b → AreDelivered rules all items last mark p a → AreDelivered rules all items last mark (p + 1) b
deliver_more rules all items own last mark p a b place can e plays h =
    phase_more rules p (Deliver own mark) reply.Done a b (IsDelivered rules all items mark) (IsAtRest rules all last) plays place
    (delivered_stays rules all items mark h.are.span) (rest_stays rules all items last h.are.span)
    (delivers rules all items own last mark p can e) h

pub delivering_none : (rules : Rules) (all : List Holder) (items : List Item) (last mark : Mark) (b : Known) → AreAtRest rules all last b → AreDelivered rules all items last mark 0 b
delivering_none rules all items last mark b h = record { are = h.are; done = λ p l below. absurd (omega (arith, below)); left = λ p l above. h.each p l }

-- a phase that is over is the beginning of the next
pub next_phase : (rules : Rules) (n : ℕ) (Later After Before : ℕ → PartState → Type 0) (b : Known) → n ≡ b.parts → AreInPhase rules n After Before b → AreInPhase rules 0 Later After b
next_phase rules n Later After Before b e h = record {
  are = h.are;
  done = λ p l below. absurd (omega (arith, below));
  left = λ p l above. h.done p l (subst (λ (m : ℕ). p < m) (sym e) l);
}

-- ---- a turn
module _ (rules : Rules) (all : List Holder) (items : List Item) (mark : Mark) (p : ℕ) (span : IsSpan rules.span) where
  turns : (max : ℕ) (answer : PartReply) (x y : PartState) → IsTurnStep rules x max answer y → IsDelivered rules all items mark p x → IsDelivered rules all items mark p y
  turns max answer x y step d =
      let t = turn_keeps_part rules (own_of all p) (routed_items part_number p items) mark x max answer y span step d.is in
      record { is = t.is; few = let a = t.fewer in let b = d.few in omega (arith, a, b) }

  idles : (x y : PartState) → (x.inbox ≡ []) × (y ≡ x) → IsDelivered rules all items mark p x → IsPlayed rules all items mark p y
  idles x y step d = subst (IsPlayed rules all items mark p) (sym step.1) (record { is = d.is; empty = step.0 })

pub turn_more : (rules : Rules) (all : List Holder) (items : List Item) (mark : Mark) (p max n : ℕ) (a b : Known) → p < a.parts
    → PartPlays p (Turn max) (reply.Turned n) a b → ArePlayed rules all items mark p a → ArePlayed rules all items mark p b
turn_more rules all items mark p max n a b place plays h =
    phase_same rules p (Turn max) (reply.Turned n) a b (IsPlayed rules all items mark) (IsDelivered rules all items mark) plays place
    (played_stays rules all items mark h.are.span) (delivered_stays rules all items mark h.are.span)
    (turns rules all items mark p h.are.span max (reply.Turned n)) h

pub idle_more : (rules : Rules) (all : List Holder) (items : List Item) (mark : Mark) (p max : ℕ) (a b : Known) → p < a.parts
    → PartPlays p (Turn max) reply.Idle a b → ArePlayed rules all items mark p a → ArePlayed rules all items mark (p + 1) b
idle_more rules all items mark p max a b place plays h =
    phase_more rules p (Turn max) reply.Idle a b (IsPlayed rules all items mark) (IsDelivered rules all items mark) plays place
    (played_stays rules all items mark h.are.span) (delivered_stays rules all items mark h.are.span)
    (idles rules all items mark p h.are.span) h

-- how many events wait: a turn plays some of them
pub fewer_times : (rules : Rules) (n : ℕ) (x y : PartState) → TurnsTimes rules n x y → length y.inbox ≤ length x.inbox
fewer_times rules zero x y h = let e = ap (λ (z : PartState). length z.inbox) h in omega (arith, e)
fewer_times rules (suc n) x y (mid, max, answer, step, rest) =
    let a = fewer_turn rules max answer x mid step in let b = fewer_times rules n mid y rest in omega (arith, a, b)
  where
    fewer_played : (xs played ys : List Item) → xs ≡ played ++ ys → length ys ≤ length xs
    fewer_played xs played ys e = let l = ap (λ (l : List Item). length l) e ∙ length-append played ys in omega (arith, l)

    fewer_turn : (rules : Rules) (max : ℕ) (answer : PartReply) (x y : PartState) → IsTurnStep rules x max answer y → length y.inbox ≤ length x.inbox
    fewer_turn rules max (reply.Turned k) x y step = fewer_played x.inbox step.0.played y.inbox step.0.inbox
    fewer_turn rules max reply.Idle x y step = let e = ap (λ (z : PartState). length z.inbox) step.1 in omega (arith, e)
    fewer_turn rules max (reply.Memory back k) x y step = fewer_played x.inbox step.1.played y.inbox step.1.inbox
    fewer_turn rules max reply.Done x y step = absurd step
    fewer_turn rules max (reply.Found found done) x y step = absurd step
    fewer_turn rules max (reply.Cut holders) x y step = absurd step

-- so many were played of at most so many
pub record Fewer (rules : Rules) (n left : ℕ) (y : PartState) : Type 0 where
  pub most : n ≤ left
  pub some : 0 < n
  pub less : length y.inbox ≤ left - n

turned_fewer : (rules : Rules) (p max n left : ℕ) (a b : Known) → PartPlays p (Turn max) (reply.Turned n) a b → WaitAtMost p left a → (y : PartState) → b.part p y → Fewer (a.rules p) n left y
turned_fewer rules p max n left a b plays few y here =
    let c = plays.called y here in
    let was = few.few c.first c.was in
    let less = fewer_times (a.rules p) c.turned.0 c.first c.before c.turned.1 in
    let count = c.step.0.count in
    let all = ap (λ (l : List Item). length l) c.step.0.inbox ∙ length-append c.step.0.played y.inbox in
    let pos = c.step.2 in
    record { most = omega (arith, was, less, count, all); some = pos; less = omega (arith, was, less, count, all) }

pub turn_fits : (rules : Rules) (p max n left : ℕ) (a b : Known) → PartPlays p (Turn max) (reply.Turned n) a b → WaitAtMost p left a → n ≤ left
turn_fits rules p max n left a b plays few = (turned_fewer rules p max n left a b plays few plays.some.0 plays.some.1).most

pub turn_fewer : (rules : Rules) (p max n left : ℕ) (a b : Known) → PartPlays p (Turn max) (reply.Turned n) a b → WaitAtMost p left a → FewerWait p left b (Some (left - n))
turn_fewer rules p max n left a b plays few =
    let one = turned_fewer rules p max n left a b plays few plays.some.0 plays.some.1 in
    let most = one.most in
    let some = one.some in
    (omega (arith, most, some), record { few = λ y here. (turned_fewer rules p max n left a b plays few y here).less })

-- at the start no more wait than were delivered
pub waiting : (rules : Rules) (all : List Holder) (items : List Item) (mark : Mark) (p : ℕ) (a : Known) → p < a.parts → ArePlayed rules all items mark p a → WaitAtMost p (length items) a
waiting rules all items mark p a place h = record { few = λ x here. (h.left p place (omega arith) x here).few }

-- ---- a collection
collects : (rules : Rules) (all : List Holder) (items : List Item) (mark done : Mark) (p : ℕ) (found : List Match) (x y : PartState)
    → IsPartStep rules x Collect (reply.Found found done) y → IsPlayed rules all items mark p x → CollectsAll rules (own_of all p) (routed_items part_number p items) mark found y
collects rules all items mark done p found x y step d =
    collect_moves_part rules (own_of all p) (routed_items part_number p items) mark done x found y d.empty step d.is

rests_then : (rules : Rules) (all : List Holder) (items : List Item) (mark : Mark) (p : ℕ) (y : PartState)
    → PartIs rules (after rules.stages rules.span (own_of all p) (routed_items part_number p items)) [] mark y → IsAtRest rules (pending_after rules all items) mark p y
rests_then rules all items mark p y is = subst (λ (own : List Holder). PartIs rules own [] mark y) (after_routed part_number p rules.stages rules.span all items) is

pub collect_more : (rules : Rules) (all : List Holder) (items : List Item) (mark done : Mark) (p : ℕ) (found : List Match) (a b : Known) → p < a.parts
    → PartPlays p Collect (reply.Found found done) a b → AreCollected rules all items mark p a → AreCollected rules all items mark (p + 1) b
collect_more rules all items mark done p found a b place plays h =
    phase_more rules p Collect (reply.Found found done) a b (IsAtRest rules (pending_after rules all items) mark) (IsPlayed rules all items mark) plays place
    (rest_stays rules (pending_after rules all items) items mark h.are.span) (played_stays rules all items mark h.are.span)
    (λ x y step d. rests_then rules all items mark p y (collects rules all items mark done p found x y step d).is) h

pub collect_finds : (rules : Rules) (all : List Holder) (items : List Item) (mark done : Mark) (p : ℕ) (found : List Match) (a b : Known) → p < a.parts
    → PartPlays p Collect (reply.Found found done) a b → AreCollected rules all items mark p a → found ≡ found_of rules all items p
collect_finds rules all items mark done p found a b place plays h =
    called_is rules p Collect (reply.Found found done) a b (IsAtRest rules (pending_after rules all items) mark) (IsPlayed rules all items mark) plays place
    (rest_stays rules (pending_after rules all items) items mark h.are.span) (played_stays rules all items mark h.are.span)
    h.are (h.left p place (omega arith)) (λ y. found ≡ found_of rules all items p)
    (λ x y step d. (collects rules all items mark done p found x y step d).found_is) plays.some.0 plays.some.1

pub collected_all : (rules : Rules) (all : List Holder) (items : List Item) (mark : Mark) (n : ℕ) (b : Known) → n ≡ b.parts → AreCollected rules all items mark n b
    → AreAtRest rules (pending_after rules all items) mark b
collected_all rules all items mark n b e h = record { are = h.are; each = λ p l. h.done p l (subst (λ (m : ℕ). p < m) (sym e) l) }

-- one more list
pub found_more : (f : ℕ → List Match) (p : ℕ) (old new : List (List Match)) (found : List Match) → old ≡ map f (numbers p) → new ≡ old ++ found ∷ [] → found ≡ f p → new ≡ map f (numbers (p + 1))
found_more f p old new found was push is = push ∙ (λ i. was i ++ is i ∷ []) ∙ sym (ap (λ (n : ℕ). map f (numbers n)) (add-one p) ∙ map-append f (numbers p) (p ∷ []))

pub sixteen_found : (f : ℕ → List Match) (n : ℕ) (lists : List (List Match)) → n ≡ 16 → lists ≡ map f (numbers n) → lists ≡ map f (numbers 16)
sixteen_found f n lists e is = subst (λ (k : ℕ). lists ≡ map f (numbers k)) e is
