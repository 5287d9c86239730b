-- What the conductor knows of its parts between calls.
use Rattle.std.specs.Prelude.{◌≡◌, ◌<◌, ◌≤◌, ◌+◌, ℕ, List, [], Option, Some, None, All, length}
use Rattle.eql_values.specs.declared.item.Item.{Item}
use Rattle.eql_values.specs.declared.found.Holder.{Holder}
use Rattle.eql_values.specs.declared.order.Mark.{Mark}
use Rattle.eql_values.specs.Matching.{after}
use Rattle.eql_values.specs.Routing.{routed_items}
use Rattle.eql_laws.specs.Alive.{IsSpan}
use Rattle.eql_laws.specs.Shapes.{IsFull}
use Rattle.eql_parts.specs.PartSteps.{Rules, PartState}
use Rattle.eql_parts.specs.Spreading.{part_number}
use Rattle.eql_conductor.specs.Finding.{own_of}
use Rattle.eql_conductor.specs.PartCalls.{PartIs}
use Rattle.eql_conductor.specs.Benches.{Known}

-- there are sixteen parts, which have these rules, of which the span is no negative time
pub record AreParts (rules : Rules) (b : Known) : Type 0 where
  pub count : b.parts ≡ 16
  pub each : (p : ℕ) → p < b.parts → b.rules p ≡ rules
  pub span : IsSpan rules.span

-- the parts below n are the one, and the others are the other
pub record AreInPhase (rules : Rules) (n : ℕ) (After Before : ℕ → PartState → Type 0) (b : Known) : Type 0 where
  pub are : AreParts rules b
  pub done : (p : ℕ) → p < b.parts → p < n → (x : PartState) → b.part p x → After p x
  pub left : (p : ℕ) → p < b.parts → n ≤ p → (x : PartState) → b.part p x → Before p x

module _ (rules : Rules) (all : List Holder) where
  -- the part played and gave all that it was to, up to a mark: it has its own of what is pending
  abbrev pub IsAtRest : Mark → ℕ → PartState → Type 0
  IsAtRest mark p x = PartIs rules (own_of all p) [] mark x

  -- further events were delivered to it, of which some may wait
  pub record IsDelivered (items : List Item) (mark : Mark) (p : ℕ) (x : PartState) : Type 0 where
    pub is : PartIs rules (own_of all p) (routed_items part_number p items) mark x
    pub few : length x.inbox ≤ length items

  -- it played them
  pub record IsPlayed (items : List Item) (mark : Mark) (p : ℕ) (x : PartState) : Type 0 where
    pub is : PartIs rules (own_of all p) (routed_items part_number p items) mark x
    pub empty : x.inbox ≡ []

  -- what is pending once these events were played
  abbrev pub pending_after : List Item → List Holder
  pending_after items = after rules.stages rules.span all items

-- each part is at rest at a mark
pub record AreAtRest (rules : Rules) (all : List Holder) (mark : Mark) (b : Known) : Type 0 where
  pub are : AreParts rules b
  pub each : (p : ℕ) → p < b.parts → (x : PartState) → b.part p x → IsAtRest rules all mark p x

-- to the parts below n their events were delivered
abbrev pub AreDelivered : Rules → List Holder → List Item → (last mark : Mark) → ℕ → Known → Type 0
AreDelivered rules all items last mark n b = AreInPhase rules n (IsDelivered rules all items mark) (IsAtRest rules all last) b

-- the parts below n played them
abbrev pub ArePlayed : Rules → List Holder → List Item → Mark → ℕ → Known → Type 0
ArePlayed rules all items mark n b = AreInPhase rules n (IsPlayed rules all items mark) (IsDelivered rules all items mark) b

-- of the parts below n the matches were collected
abbrev pub AreCollected : Rules → List Holder → List Item → Mark → ℕ → Known → Type 0
AreCollected rules all items mark n b = AreInPhase rules n (IsAtRest rules (pending_after rules all items) mark) (IsPlayed rules all items mark) b

-- there are rules and pending sequences so that it is so
pub record AreSomehowAtRest (mark : Mark) (b : Known) : Type 0 where
  pub rules : Rules
  pub all : List Holder
  pub is : AreAtRest rules all mark b

-- and each pending sequence has an event for each stage up to its own
pub record AreSomehowFull (mark : Mark) (b : Known) : Type 0 where
  pub rules : Rules
  pub all : List Holder
  pub is : AreAtRest rules all mark b
  pub full : All IsFull all

pub record AreSomehowDelivered (items : List Item) (last mark : Mark) (n : ℕ) (b : Known) : Type 0 where
  pub rules : Rules
  pub all : List Holder
  pub is : AreDelivered rules all items last mark n b

pub record AreSomehowPlayed (items : List Item) (mark : Mark) (n : ℕ) (b : Known) : Type 0 where
  pub rules : Rules
  pub all : List Holder
  pub is : ArePlayed rules all items mark n b

pub record AreSomehowCollected (items : List Item) (mark : Mark) (n : ℕ) (b : Known) : Type 0 where
  pub rules : Rules
  pub all : List Holder
  pub is : AreCollected rules all items mark n b

-- no more events than this wait at the part
pub record WaitAtMost (p n : ℕ) (b : Known) : Type 0 where
  pub few : (x : PartState) → b.part p x → length x.inbox ≤ n

-- after a turn fewer events may wait, or none do
abbrev pub FewerWait : (p left : ℕ) → Known → Option ℕ → Type 0
FewerWait p left b (Some less) = (less < left) × WaitAtMost p less b
FewerWait p left b None = Unit {0}

-- and the part is as before, or played all
abbrev pub TurnGoes : Rules → List Holder → List Item → Mark → ℕ → Known → Option ℕ → Type 0
TurnGoes rules all items mark p b (Some less) = ArePlayed rules all items mark p b
TurnGoes rules all items mark p b None = ArePlayed rules all items mark (p + 1) b
