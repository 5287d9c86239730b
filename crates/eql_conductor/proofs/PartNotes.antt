-- Notes of parts, from call to call.
use Rattle.std.proofs.Common.{◌≡◌, inl, inr, ◌+◌, ◌-◌, ◌++◌, ◌<◌, ◌≤◌, ℕ, zero, suc, List, [], ◌∷◌, length, refl, sym, ap, ◌∙◌, arith, subst, length-append}
use Rattle.std.specs.Prelude.{not, filter, ◌==◌}
use Rattle.std.proofs.lemmas.List.{append-nil, append_assoc}
use Rattle.std.proofs.lemmas.List.Elements.{filter-append, filter_map-append}
use Rattle.eql_values.specs.declared.item.Item.{Item}
use Rattle.eql_values.specs.declared.item.Route.{Route}
use Rattle.eql_values.specs.declared.found.Holder.{Holder}
use Rattle.eql_values.specs.declared.order.Mark.{Mark}
use Rattle.eql_values.specs.Routing.{routed_items, with_routes}
use Rattle.eql_parts.specs.Spreading.{part_number}
use Rattle.eql_parts.specs.declared.ops.PartOp.{PartOp}
use Rattle.eql_parts.specs.declared.ops.PartOp.TheVariants.{Deliver, Turn, Collect, Snap}
use Rattle.eql_parts.specs.declared.ops.PartReply.{PartReply}
use Rattle.eql_parts.specs.declared.ops.PartReply.TheVariants as reply
use Rattle.eql_parts.specs.PartSteps.{Rules}
use Rattle.eql_conductor.specs.declared.note.Note.{Note}
use Rattle.eql_conductor.specs.declared.bench.NotPlayed.{NotPlayed}
use Rattle.eql_conductor.specs.Notes.{part_note}
use Rattle.eql_conductor.specs.Benches.{Known, StaysSame, PartPlays, WasNotPlayed}
use Rattle.eql_conductor.specs.PartRounds.{ArePlayed, WaitAtMost}
use Rattle.eql_conductor.specs.RoundNotes.{is_turn, turns_in, others_in, GrewBy, NotesParts, NotesPart, PartsGrowTo, TurnsSome, delivered_to}
use Rattle.eql_conductor.proofs.Parted.{fewer_times, turn_fewer, turn_fits}
use Rattle.eql_conductor.proofs.Resting.{same_or, is_part}
use Rattle.eql_conductor.proofs.LaneNotes.{below_or, lanes_stay_on}

-- ---- notes of one part
pub turns_on : (xs ys : List Note) → turns_in (xs ++ ys) ≡ turns_in xs + turns_in ys
turns_on xs ys = ap (λ (l : List Note). length l) (filter-append is_turn xs ys) ∙ length-append (filter is_turn xs) (filter is_turn ys)

others_on : (xs ys : List Note) → others_in (xs ++ ys) ≡ others_in xs + others_in ys
others_on xs ys =
    ap (λ (l : List Note). length l) (filter-append (λ (n : Note). not (is_turn n)) xs ys)
    ∙ length-append (filter (λ (n : Note). not (is_turn n)) xs) (filter (λ (n : Note). not (is_turn n)) ys)

pub grew_none : (turns others : ℕ) (x y : List Note) → y ≡ x → GrewBy turns others x y
grew_none turns others x y e = record { more = []; grew = e ∙ sym (append-nil x); turns_to = omega arith; others_to = omega arith }

pub grew_on : (t o u v : ℕ) (x y z : List Note) → GrewBy t o x y → GrewBy u v y z → GrewBy (t + u) (o + v) x z
grew_on t o u v x y z h k = record {
  more = h.more ++ k.more;
  grew = k.grew ∙ ap (λ (l : List Note). l ++ k.more) h.grew ∙ append_assoc x h.more k.more;
  turns_to = let e = turns_on h.more k.more in let a = h.turns_to in let b = k.turns_to in omega (arith, e, a, b);
  others_to = let e = others_on h.more k.more in let a = h.others_to in let b = k.others_to in omega (arith, e, a, b);
}

pub grew_to : (t o u v : ℕ) (x y : List Note) → t ≤ u → o ≤ v → GrewBy t o x y → GrewBy u v x y
grew_to t o u v x y few less h = record {
  more = h.more;
  grew = h.grew;
  turns_to = let a = h.turns_to in omega (arith, a, few);
  others_to = let a = h.others_to in omega (arith, a, less);
}

-- what is delivered of two lists
pub routed_on : (p : ℕ) (xs ys : List Item) → delivered_to (xs ++ ys) p ≡ delivered_to xs p + delivered_to ys p
routed_on p xs ys =
    ap (λ (l : List Item). length l) (filter_map-append (λ (item : Item). with_routes item (filter (λ (r : Route). part_number r.key == p) item.routes)) xs ys)
    ∙ length-append (routed_items part_number p xs) (routed_items part_number p ys)

-- ---- one call
pub part_self : (p turns others : ℕ) (a : Known) → NotesPart p turns others a a
part_self p turns others a = record {
  grew = grew_none turns others (a.part_notes p) (a.part_notes p) refl;
  rest = λ k l apart. refl;
  lanes = record { each = λ s l. refl };
}

pub unplayed_part : (p turns others : ℕ) (by : NotPlayed) (a b : Known) → p < a.parts → WasNotPlayed by a b → NotesPart p turns others a b
unplayed_part p turns others by a b l h = record {
  grew = grew_none turns others (a.part_notes p) (b.part_notes p) (h.part_notes.each p l);
  rest = λ k here apart. h.part_notes.each k here;
  lanes = h.lane_notes;
}

pub part_noted : (p turns others : ℕ) (o : PartOp) (answer : PartReply) (a b : Known) → PartPlays p o answer a b
    → turns_in (part_note o answer ∷ []) ≤ turns → others_in (part_note o answer ∷ []) ≤ others → NotesPart p turns others a b
part_noted p turns others o answer a b plays few less = record {
  grew = record { more = part_note o answer ∷ []; grew = plays.note; turns_to = few; others_to = less };
  rest = plays.other_notes;
  lanes = plays.lane_notes;
}

pub delivered_noted : (p : ℕ) (items : List Item) (mark : Mark) (answer : PartReply) (a b : Known) → PartPlays p (Deliver items mark) answer a b → NotesPart p 0 1 a b
delivered_noted p items mark answer a b plays = part_noted p 0 1 (Deliver items mark) answer a b plays (omega arith) (omega arith)

pub collected_noted : (p : ℕ) (answer : PartReply) (a b : Known) → PartPlays p Collect answer a b → NotesPart p 0 1 a b
collected_noted p answer a b plays = part_noted p 0 1 Collect answer a b plays (omega arith) (omega arith)

pub snapped_part : (p : ℕ) (answer : PartReply) (a b : Known) → PartPlays p Snap answer a b → NotesPart p 0 1 a b
snapped_part p answer a b plays = part_noted p 0 1 Snap answer a b plays (omega arith) (omega arith)

pub idle_noted : (p max : ℕ) (a b : Known) → PartPlays p (Turn max) reply.Idle a b → NotesPart p 0 1 a b
idle_noted p max a b plays = part_noted p 0 1 (Turn max) reply.Idle a b plays (omega arith) (omega arith)

turn_noted : (p max n : ℕ) (a b : Known) → PartPlays p (Turn max) (reply.Turned n) a b → 0 < n → NotesPart p 1 0 a b
turn_noted p max zero a b plays some = absurd (omega (arith, some))
turn_noted p max (suc n) a b plays some = part_noted p 1 0 (Turn max) (reply.Turned (suc n)) a b plays (omega arith) (omega arith)

-- ---- a loop over parts
pub parts_none : (turns : ℕ → ℕ) (others : ℕ) (a : Known) → PartsGrowTo 0 turns others a a
parts_none turns others a = record {
  done = λ p l below. absurd (omega (arith, below));
  left = λ p l above. refl;
  lanes = record { each = λ s l. refl };
}

module _ (n : ℕ) (turns : ℕ → ℕ) (others : ℕ) (a b c : Known) where
  pub parts_more : StaysSame a b → PartsGrowTo n turns others a b → NotesPart n (turns n) others b c → PartsGrowTo (n + 1) turns others a c
  parts_more same h one = record {
    done = λ p l below. elim (same_or p n) [
      | inl e ↦ subst (λ (j : ℕ). GrewBy (turns j) others (a.part_notes j) (c.part_notes j)) (sym e)
          (subst (λ (x : List Note). GrewBy (turns n) others x (c.part_notes n)) (h.left n (subst (λ (j : ℕ). j < a.parts) e l) (omega arith)) one.grew)
      | inr apart ↦ subst (λ (x : List Note). GrewBy (turns p) others (a.part_notes p) x) (sym (one.rest p (is_part a b p same l) apart)) (h.done p l (omega (arith, below, apart)))
    ];
    left = λ p l above. one.rest p (is_part a b p same l) (λ e. omega (arith, e, above)) ∙ h.left p l (omega (arith, above));
    lanes = lanes_stay_on a b c same h.lanes one.lanes;
  }

pub parts_any : (n : ℕ) (turns : ℕ → ℕ) (others : ℕ) (a b : Known) → PartsGrowTo n turns others a b → NotesParts turns others a b
parts_any n turns others a b h = record {
  parts = record {
    each = λ p l. elim (below_or p n) [
      | inl below ↦ h.done p l below
      | inr above ↦ grew_none (turns p) others (a.part_notes p) (b.part_notes p) (h.left p l above)
    ];
  };
  lanes = h.lanes;
}

-- a loop that ends at this part
pub parts_end : (n : ℕ) (turns : ℕ → ℕ) (others : ℕ) (a b c : Known) → StaysSame a b → PartsGrowTo n turns others a b → NotesPart n (turns n) others b c → NotesParts turns others a c
parts_end n turns others a b c same h one = parts_any (n + 1) turns others a c (parts_more n turns others a b c same h one)

-- ---- turns
pub turned_noted : (p max n w : ℕ) (a b : Known) → PartPlays p (Turn max) (reply.Turned n) a b → WaitAtMost p w a → TurnsSome w p a b
turned_noted p max n w a b plays few =
    let fits = turn_fits (a.rules p) p max n w a b plays few in
    let less = turn_fewer (a.rules p) p max n w a b plays few in
    let some = less.0 in
    record { turns = 1; wait = w - n; few = omega (arith, fits, some); waits = less.1; noted = turn_noted p max n a b plays (omega (arith, some, fits)) }

pub lacked_noted : (p max n w : ℕ) (back : List Item) (a b : Known) → PartPlays p (Turn max) (reply.Memory back n) a b → WaitAtMost p w a → NotesPart p w 1 a b
lacked_noted p max zero w back a b plays few = part_noted p w 1 (Turn max) (reply.Memory back zero) a b plays (omega arith) (omega arith)
lacked_noted p max (suc n) w back a b plays few =
    let c = plays.called plays.some.0 plays.some.1 in
    let was = few.few c.first c.was in
    let less = fewer_times (a.rules p) c.turned.0 c.first c.before c.turned.1 in
    let count = c.step.1.count in
    let all = ap (λ (l : List Item). length l) c.step.1.inbox ∙ length-append c.step.1.played plays.some.0.inbox in
    part_noted p w 1 (Turn max) (reply.Memory back (suc n)) a b plays (omega (arith, was, less, count, all)) (omega arith)

pub turned_none : (w p : ℕ) (a : Known) → WaitAtMost p w a → TurnsSome w p a a
turned_none w p a few = record { turns = 0; wait = w; few = omega arith; waits = few; noted = part_self p 0 0 a }

part_on : (p t o u v : ℕ) (a b c : Known) → StaysSame a b → NotesPart p t o a b → NotesPart p u v b c → NotesPart p (t + u) (o + v) a c
part_on p t o u v a b c same h k = record {
  grew = grew_on t o u v (a.part_notes p) (b.part_notes p) (c.part_notes p) h.grew k.grew;
  rest = λ q l apart. k.rest q (is_part a b q same l) apart ∙ h.rest q l apart;
  lanes = lanes_stay_on a b c same h.lanes k.lanes;
}

part_to : (p t o u v : ℕ) (a b : Known) → t ≤ u → o ≤ v → NotesPart p t o a b → NotesPart p u v a b
part_to p t o u v a b few less h = record {
  grew = grew_to t o u v (a.part_notes p) (b.part_notes p) few less h.grew;
  rest = h.rest;
  lanes = h.lanes;
}

module _ (w p : ℕ) (a b c : Known) (same : StaysSame a b) (h : TurnsSome w p a b) where
  pub turned_more : TurnsSome h.wait p b c → TurnsSome w p a c
  turned_more k = record {
    turns = h.turns + k.turns;
    wait = k.wait;
    few = let x = h.few in let y = k.few in omega (arith, x, y);
    waits = k.waits;
    noted = part_on p h.turns 0 k.turns 0 a b c same h.noted k.noted;
  }

  pub turned_end : (turns : ℕ) → turns ≤ h.wait → NotesPart p turns 1 b c → NotesPart p w 1 a c
  turned_end turns to one =
      let few = h.few in
      part_to p (h.turns + turns) (0 + 1) w 1 a c (omega (arith, few, to)) (omega arith) (part_on p h.turns 0 turns 1 a b c same h.noted one)

-- no more wait than were delivered
pub waiting_own : (rules : Rules) (all : List Holder) (items : List Item) (mark : Mark) (p : ℕ) (a : Known) → p < a.parts → ArePlayed rules all items mark p a → WaitAtMost p (delivered_to items p) a
waiting_own rules all items mark p a place h = record {
  few = λ x here.
      let is = (h.left p place (omega arith) x here).is in
      let e = ap (λ (l : List Item). length l) is.split ∙ length-append is.played x.inbox in
      omega (arith, e);
}

-- ---- one loop after another
pub noted_on : (f g : ℕ → ℕ) (m k : ℕ) (a b c : Known) → StaysSame a b → NotesParts f m a b → NotesParts g k b c → NotesParts (λ p. f p + g p) (m + k) a c
noted_on f g m k a b c same h n = record {
  parts = record { each = λ p l. grew_on (f p) m (g p) k (a.part_notes p) (b.part_notes p) (c.part_notes p) (h.parts.each p l) (n.parts.each p (is_part a b p same l)) };
  lanes = lanes_stay_on a b c same h.lanes n.lanes;
}

pub noted_to : (f g : ℕ → ℕ) (m k : ℕ) (a b : Known) → ((p : ℕ) → f p ≤ g p) → m ≤ k → NotesParts f m a b → NotesParts g k a b
noted_to f g m k a b few less h = record {
  parts = record { each = λ p l. grew_to (f p) m (g p) k (a.part_notes p) (b.part_notes p) (few p) less (h.parts.each p l) };
  lanes = h.lanes;
}

module _ (items : List Item) (a b c d : Known) where
  pub played_one : NotesParts (λ p. 0) 1 a b → NotesParts (delivered_to items) 3 a b
  played_one h = noted_to (λ p. 0) (delivered_to items) 1 3 a b (λ p. omega arith) (omega arith) h

  pub played_two : StaysSame a b → NotesParts (λ p. 0) 1 a b → NotesParts (delivered_to items) 1 b c → NotesParts (delivered_to items) 3 a c
  played_two same h k =
      noted_to (λ p. 0 + delivered_to items p) (delivered_to items) 2 3 a c (λ p. omega arith) (omega arith) (noted_on (λ p. 0) (delivered_to items) 1 1 a b c same h k)

  pub played_three : StaysSame a b → StaysSame a c → NotesParts (λ p. 0) 1 a b → NotesParts (delivered_to items) 1 b c → NotesParts (λ p. 0) 1 c d → NotesParts (delivered_to items) 3 a d
  played_three same then h k n =
      noted_to (λ p. 0 + delivered_to items p + 0) (delivered_to items) 3 3 a d (λ p. omega arith) (omega arith)
      (noted_on (λ p. 0 + delivered_to items p) (λ p. 0) 2 1 a c d then (noted_on (λ p. 0) (delivered_to items) 1 1 a b c same h k) n)
