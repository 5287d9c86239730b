-- What stands in the index of rooms under each hash.
use Rattle.std.specs.Prelude.{◌≡◌, ◌⊎◌, ℕ, ◌*◌, ◌/◌, ◌^◌, Bool, false, cond, List, [], ◌∷◌, Option, None, Some, length, slice_get, nat_eq}
use Rattle.eql_part.specs.declared.index.Slot.{Slot}
use Rattle.eql_part.specs.declared.index.Slot.TheVariants.{Free, Taken}
use Rattle.eql_part.specs.declared.index.HashIndex.{HashIndex}
use Rattle.eql_part.specs.Hashes.{mixed_hash}

-- the number of the bucket that a hash belongs to among so many: one product more, its upper bits scaled to the number of buckets
abbrev pub bucket_number : (hash count : ℕ) → ℕ
bucket_number hash count = mixed_hash hash 0 * count / 2 ^ 64

-- the place that stands in a slot under a hash
abbrev pub place_at : Slot → ℕ → Option ℕ
place_at Free hash = None
place_at (Taken place own) hash = cond (nat_eq own hash) (Some place) None

-- the first of two, where it is there
abbrev pub first_or : Option ℕ → Option ℕ → Option ℕ
first_or None other = other
first_or (Some place) other = Some place

-- the place that stands in a bucket under a hash
abbrev pub place_in : List Slot → ℕ → Option ℕ
place_in [] hash = None
place_in (slot ∷ slots) hash = first_or (place_at slot hash) (place_in slots hash)

-- the place in a bucket, where there is one
abbrev pub place_there : Option (List Slot) → ℕ → Option ℕ
place_there None hash = None
place_there (Some bucket) hash = place_in bucket hash

-- the place under a hash in its bucket
abbrev pub place_under : List (List Slot) → ℕ → Option ℕ
place_under buckets hash = place_there (slice_get buckets (bucket_number hash (length buckets))) hash

abbrev pub under_of : HashIndex → ℕ → Option ℕ
under_of index = place_under index.buckets.items

-- whether something stands in a slot under a hash
abbrev pub has : Slot → ℕ → Bool
has Free hash = false
has (Taken place own) hash = nat_eq own hash

-- the slot, but an empty one where it has the hash
abbrev pub slot_without : ℕ → Slot → Slot
slot_without hash slot = cond (has slot hash) Free slot

-- the slot, but an empty one where its hash doesn't belong to that bucket among so many
abbrev pub kept_at : (number count : ℕ) → Slot → Slot
kept_at number count Free = Free
kept_at number count (Taken place own) = cond (nat_eq (bucket_number own count) number) (Taken place own) Free

-- under the hash stands this place, and under others what stood there
abbrev pub Notes : (hash place : ℕ) (under now_under : ℕ → Option ℕ) → Type 0
Notes hash place under now_under = (q : ℕ) → now_under q ≡ cond (nat_eq hash q) (Some place) (under q)

-- where the place stood, nothing may stand now, and elsewhere what stood there
abbrev pub Forgets : (place : ℕ) (under now_under : ℕ → Option ℕ) → Type 0
Forgets place under now_under = (q : ℕ) → (now_under q ≡ under q) ⊎ ((under q ≡ Some place) × (now_under q ≡ None))
