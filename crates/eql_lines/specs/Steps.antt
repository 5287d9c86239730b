-- Where a walk over a line may stand, and the steps between.
use Rattle.std.specs.Prelude.{◌≡◌, ℕ, ◌+◌, ◌*◌, ◌%◌, ◌<◌, ◌≤◌, List, [], ◌∷◌, length, true, ◌&&◌, ◌==◌, if◌then◌else◌, Option, Some, None, is_some, get_or, slice_get, option_and_then, String}
use Rattle.std.specs.Str.{bytes_eq}
use Rattle.std.specs.declared.vec.Vec.{Vec}
use Rattle.std.specs.declared.alloc.Global.{Global}
use Rattle.eql_lines.specs.Reach.{behind, leads}
use Rattle.eql_lines.specs.Paths.{rest_at}
use Rattle.eql_lines.specs.declared.paths.Active.{Active}
use Rattle.eql_lines.specs.declared.steps.Step.{Step}
use Rattle.eql_lines.specs.declared.steps.Table.{Table}

-- how far the stop of this place has come; along no path, where there is no such stop
abbrev pub active_at : List Active → ℕ → Active
active_at stops n = get_or stops n (record { places = record { bits = 0 }; at = 0 })

-- what is left at a stop of the path of place i
abbrev pub rest_on : List (String Global) → Table → ℕ → ℕ → Option (List ℕ)
rest_on paths t n i = rest_at paths (active_at t.stops.items n) i

abbrev pub steps_in : Option (Vec Step Global) → List Step
steps_in None = []
steps_in (Some v) = v.items

abbrev pub row_at : List (Vec Step Global) → ℕ → List Step
row_at rows j = steps_in (slice_get rows j)

-- the row of the step from a stop by a name
abbrev pub row_number : ℕ → List ℕ → ℕ
row_number stop name = (stop * 16 + get_or name 0 0 + length name) % 256

-- where the first step of a row leads that is from this stop by this name
abbrev pub step_in : List Step → ℕ → List ℕ → Option ℕ
step_in [] stop name = None
step_in (s ∷ row) stop name = if (s.from == stop) && bytes_eq s.name.items name then Some s.to else step_in row stop name

-- where the step from a stop by a name leads
abbrev pub step_by : Table → ℕ → List ℕ → Option ℕ
step_by t stop name = step_in (row_at t.rows.items (row_number stop name)) stop name

-- a step leads where its name does
pub record IsStep (paths : List (String Global)) (t : Table) (s : Step) : Type 0 where
  pub begins : s.from < length t.stops.items
  pub ends : s.to < length t.stops.items
  pub goes : (i : ℕ) → rest_on paths t s.to i ≡ option_and_then (behind s.name.items) (rest_on paths t s.from i)

pub record IsTable (paths : List (String Global)) (t : Table) : Type 0 where
  pub few : length t.stops.items ≤ 4096
  pub rows : length t.rows.items ≡ 256
  pub steps : (j k : ℕ) (s : Step) → slice_get (row_at t.rows.items j) k ≡ Some s → IsStep paths t s

-- with further stops and steps
pub record IsGrown (old new : Table) : Type 0 where
  pub more : length old.stops.items ≤ length new.stops.items
  pub same : (n : ℕ) → n < length old.stops.items → active_at new.stops.items n ≡ active_at old.stops.items n
  pub steps : (stop : ℕ) (name : List ℕ) → is_some (step_by old stop name) ≡ true → is_some (step_by new stop name) ≡ true

-- a stop has a step by each name that leads along the rest of a path
abbrev pub Leads : Table → ℕ → List ℕ → Type 0
Leads t stop rest = (name : List ℕ) → leads name rest ≡ true → is_some (step_by t stop name) ≡ true

-- a stop has all its steps
abbrev pub IsOpen : List (String Global) → Table → ℕ → Type 0
IsOpen paths t stop = (i : ℕ) (rest : List ℕ) → rest_on paths t stop i ≡ Some rest → Leads t stop rest
