-- Laws of bounds of what is read, which so are bounds of what is kept: the number of values of keys, the stages of masks, and the times of events.
use Rattle.std.specs.Prelude.{◌≡◌, ◌<◌, ◌≤◌, ℕ, ℤ, false, List, [], Option, length, All}
use Rattle.eql_values.specs.declared.order.OrderKey.{OrderKey}
use Rattle.eql_values.specs.declared.order.Mark.{Mark}
use Rattle.eql_values.specs.declared.item.Mask.{Mask}
use Rattle.eql_values.specs.declared.item.Route.{Route}
use Rattle.eql_values.specs.declared.item.Item.{Item}
use Rattle.eql_values.specs.declared.found.Match.{Match}
use Rattle.eql_values.specs.declared.found.Holder.{Holder}
use Rattle.eql_values.specs.declared.reader.LineGot.TheVariants as got
use Rattle.eql_values.specs.Accepted.{Reads, below}
use Rattle.eql_values.specs.Masks.{has_stage}
use Rattle.eql_values.specs.Matching.{matches}
use Rattle.eql_values.specs.Reading.{IsTime}
use Rattle.eql_laws.specs.Belows.{IsReading}
use Rattle.eql_laws.specs.Cuts.{held_back, pending_at}

-- each key of the event has this number of values
abbrev pub KeysHave : ℕ → Item → Type 0
KeysHave values item = All (λ (r : Route). length r.key ≡ values) item.routes

-- each key of what is held back, of what is pending and of what was found at a mark has this number of values
pub record KeptKeysHave (values m : ℕ) (span : Option ℤ) (t : ℤ) (reads : Reads) (slack : Option ℤ) (texts : List (List ℕ)) (mark : Mark) : Type 0 where
  pub held_back : (shard : ℕ) (text : List ℕ) → All (KeysHave values) (held_back reads slack shard text mark)
  pub pending : All (λ (h : Holder). length h.key ≡ values) (pending_at m span t reads slack texts mark)
  pub found : All (λ (found : Match). length found.key ≡ values) (matches m span [] (below reads slack texts mark))

-- where each key that is read has a number of values, so has each that is kept
abbrev pub KeysFit : Type 0
KeysFit = (values m : ℕ) (span : Option ℤ) (t : ℤ) (reads : Reads) (slack : Option ℤ) (texts : List (List ℕ)) (mark : Mark)
    → ((shard line : ℕ) (bytes : List ℕ) (item : Item) → reads shard line bytes ≡ got.Item item → KeysHave values item)
    → KeptKeysHave values m span t reads slack texts mark

-- the mask has no stage above this one
abbrev pub HasStagesTo : ℕ → Mask → Type 0
HasStagesTo m mask = (k : ℕ) → m < k → k ≤ 256 → has_stage mask k ≡ false

-- nor has any mask of the event
abbrev pub HasMasksTo : ℕ → Item → Type 0
HasMasksTo m item = All (λ (r : Route). HasStagesTo m r.mask) item.routes

-- where no mask that is read has a stage above the last, none of an event that is held back has
abbrev pub MasksFit : Type 0
MasksFit = (m : ℕ) (reads : Reads) (slack : Option ℤ) (shard : ℕ) (text : List ℕ) (mark : Mark)
    → ((shard line : ℕ) (bytes : List ℕ) (item : Item) → reads shard line bytes ≡ got.Item item → HasMasksTo m item)
    → All (HasMasksTo m) (held_back reads slack shard text mark)

-- each event of the chain has a time within the bound
abbrev pub HasTimes : List OrderKey → Type 0
HasTimes chain = All (λ (event : OrderKey). IsTime event.ts) chain

-- each event of what is pending and of what was found at a mark has a time within the bound
pub record KeptHaveTimes (m : ℕ) (span : Option ℤ) (t : ℤ) (reads : Reads) (slack : Option ℤ) (texts : List (List ℕ)) (mark : Mark) : Type 0 where
  pub pending : All (λ (h : Holder). HasTimes h.chain) (pending_at m span t reads slack texts mark)
  pub found : All (λ (found : Match). HasTimes found.chain) (matches m span [] (below reads slack texts mark))

abbrev pub TimesFit : Type 0
TimesFit = (m : ℕ) (span : Option ℤ) (t : ℤ) (reads : Reads) (slack : Option ℤ) (texts : List (List ℕ)) (mark : Mark) → IsReading reads
    → KeptHaveTimes m span t reads slack texts mark
