-- How a text repeats itself: what the search of a text in another passes over places by.
use Rattle.std.specs.Prelude.{◌≡◌, ℕ, Bool, true, List, [], ◌∷◌, ◌++◌, ◌⊎◌, ◌+◌, ◌-◌, ◌*◌, ◌/◌, ◌<◌, ◌≤◌, Option, Some, None, length, map, take, drop, nat_le, nat_lt, unwrap_or, ◌&&◌, if◌then◌else◌}
use Rattle.std.specs.Option.{is_some}
use Rattle.std.specs.Str.{chars}
use Rattle.eql_text.specs.Folding.{seen_char}
use Rattle.eql_text.specs.declared.repeats.Run.{Run}
use Rattle.eql_text.specs.declared.repeats.Runs.{Runs}

-- the characters of a text as comparisons see them
abbrev pub seen_text : Bool → List ℕ → List ℕ
seen_text fold s = map (seen_char fold) s

-- t stands i places behind the beginning of its first m characters again, as far as these go
abbrev pub Repeats : List ℕ → ℕ → ℕ → Type 0
Repeats t m i = take (m - i) (drop i t) ≡ take (m - i) t

-- whether a run holds m characters
abbrev pub holds : Run → ℕ → Bool
holds r m = nat_le r.from m && nat_le m r.reach

-- the period of the first run that holds m characters
abbrev pub period_at : List Run → ℕ → Option ℕ
period_at [] m = None
period_at (r ∷ rs) m = if holds r m then Some r.period else period_at rs m

-- a run of t with a period below a number
pub record IsRun (t : List ℕ) (below : ℕ) (r : Run) : Type 0 where
  pub from : r.from ≡ 4 * r.period
  pub positive : 0 < r.period
  pub low : r.period < below
  pub repeats : Repeats t r.reach r.period

abbrev pub AreRuns : List ℕ → ℕ → List Run → Type 0
AreRuns t below [] = Unit
AreRuns t below (r ∷ rs) = IsRun t below r × AreRuns t below rs

-- m characters that meet a text don't meet it again at fewer places behind: a period of a run, or a quarter and one
abbrev pub least_move : List Run → ℕ → ℕ
least_move rs m = unwrap_or (period_at rs m) (m / 4 + 1)

-- the runs tell of all places below a number at which t repeats itself
pub record IsKnown (t : List ℕ) (rs : List Run) (below : ℕ) : Type 0 where
  pub some : 0 < below
  pub runs : AreRuns t below rs
  pub none_less : (m i : ℕ) → m ≤ length t → 0 < i → i < below → i < least_move rs m → Repeats t m i → ⊥

-- how many places to move on by where no run holds m characters
abbrev pub other_move : ℕ → ℕ → ℕ
other_move below m = if nat_lt (m / 4) below then m / 4 + 1 else 1

-- how many places to move on by once m characters met
abbrev pub move_by : List Run → ℕ → ℕ → ℕ
move_by rs below m = unwrap_or (period_at rs m) (other_move below m)

abbrev pub kept_of : Option ℕ → ℕ → ℕ
kept_of None m = 0
kept_of (Some p) m = m - p

-- how many characters meet there without another look
abbrev pub kept_count : List Run → ℕ → ℕ
kept_count rs m = kept_of (period_at rs m) m

-- the runs in a table of them
abbrev pub listed_runs : Runs → List Run
listed_runs r = take r.count r.runs

-- the first m characters of t stand at the beginning of s
abbrev pub Meets : List ℕ → List ℕ → ℕ → Type 0
Meets s t m = (take m s ≡ take m t) × (m ≤ length t)

-- and no more of them
abbrev pub Stops : List ℕ → List ℕ → ℕ → Type 0
Stops s t m = take (m + 1) s ≡ take (m + 1) t → m < length t → ⊥

-- what a table of runs has after m characters of a text met the text itself at a place: the run that they make, where
-- they make one that no run holds
abbrev pub IsNoted : List Run → List Run → ℕ → ℕ → Type 0
IsNoted old new place m =
    ((new ≡ old) × (3 * place ≤ m → is_some (period_at old (place + m)) ≡ true))
    ⊎ ((new ≡ old ++ (record { period = place; from = 4 * place; reach = place + m } ∷ [])) × (3 * place ≤ m))

-- some bytes are the last ones of others
pub record IsEnding (bs xs : List ℕ) : Type 0 where
  pub within : length xs ≤ length bs
  pub is : xs ≡ drop (length bs - length xs) bs

-- a text t is read m characters far, and a window of another text likewise: what is left of each, in bytes
pub record IsLaid (t window beyond rest : List ℕ) (m : ℕ) : Type 0 where
  pub within : m ≤ length (chars t)
  pub ahead : chars beyond ≡ drop m (chars window)
  pub left : chars rest ≡ drop m (chars t)
  pub ending : IsEnding t rest
