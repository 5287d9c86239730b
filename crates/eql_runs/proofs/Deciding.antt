-- Whether a cut that keeps digests is refused by texts is decided, and whether it fits.
use Rattle.std.proofs.Common.{◌≡◌, ◌≤◌, ◌<◌, ℕ, zero, suc, List, [], ◌∷◌, Some, None, true, false, refl, ap, sym, arith, ◌∙◌, subst, length, inl, inr, ◌⊎◌}
use Rattle.std.specs.Prelude.{Bool, take}
use Rattle.std.specs.List.{slice_get}
use Rattle.std.proofs.lemmas.Bool.{cases_lt, cases_order, cases_Bool, false≢true}
use Rattle.std.proofs.lemmas.Option.{none-some, same_Some}
use Rattle.eql_digest.specs.declared.digest.Digest.{Digest}
use Rattle.eql_digest.specs.Digests.{IsDigestOf, start, with_bytes}
use Rattle.eql_values.specs.declared.cut.LaneCut.{LaneCut}
use Rattle.eql_values.specs.Agreement.{Agrees}
use Rattle.eql_values.specs.Matching.{slot_cmp}
use Rattle.eql_values.specs.Orders.{key_cmp}
use Rattle.eql_laws.specs.Fitting.{Fits}
use Rattle.eql_laws.specs.Shapes.{OpeningFinds}
use Rattle.eql_cut.specs.declared.cut.Cut.{Cut}
use Rattle.eql_cut.specs.Domain.{kept_by}
use Rattle.eql_cut.specs.Fitting.{cut_fits}
use Rattle.eql_cut.proofs.FitWhole.{fits_from, fits_to}
use Rattle.eql_cut.proofs.Standing.{SortedItems, ItemsBack}
use Rattle.eql_runs.specs.CutRefusals.{CutRefusal, HasItsBytes, NoneIsRefusedBefore, ShardRefuses, grown, has_no_line, has_other_bytes, is_grown, is_short, other_bytes, short}
use Rattle.eql_runs.specs.Searches.{Search, run_of}
use Rattle.eql_runs.specs.Starts.{keeps_digests}
use Rattle.eql_runs.proofs.Covering.{NoneOrSome, none_or_some}
use Rattle.eql_runs.proofs.OwnCuts.{any_span}

abbrev pub Decided : Type 0 → Type 0
Decided P = P ⊎ (P → ⊥)

-- ---- digests
numbers_decided : (a b : ℕ) → Decided (a ≡ b)
numbers_decided a b = by (cases_order a b)
  where
    by : (a ≡ b) ⊎ ((a < b) ⊎ (b < a)) → Decided (a ≡ b)
    by (inl e) = inl e
    by (inr (inl less)) = inr (λ e. omega (arith, e, less))
    by (inr (inr more)) = inr (λ e. omega (arith, e, more))

abbrev behind_first : List ℕ → List ℕ
behind_first [] = []
behind_first (x ∷ xs) = xs

lists_decided : (xs ys : List ℕ) → Decided (xs ≡ ys)
lists_decided [] [] = inl refl
lists_decided [] (y ∷ ys) = inr (λ e. none-some y (ap (λ (l : List ℕ). slice_get l 0) e))
lists_decided (x ∷ xs) [] = inr (λ e. none-some x (sym (ap (λ (l : List ℕ). slice_get l 0) e)))
lists_decided (x ∷ xs) (y ∷ ys) = by (numbers_decided x y) (lists_decided xs ys)
  where
    by : Decided (x ≡ y) → Decided (xs ≡ ys) → Decided ((x ∷ xs) ≡ (y ∷ ys))
    by (inl e) (inl same) = inl (λ i. e i ∷ same i)
    by (inr unlike) same = inr (λ e. unlike (same_Some x y (ap (λ (l : List ℕ). slice_get l 0) e)))
    by (inl e) (inr unlike) = inr (λ e. unlike (ap behind_first e))

pub digest_decided : (a b : Digest) → Decided (a ≡ b)
digest_decided a b = by (lists_decided a.lanes b.lanes) (numbers_decided a.word b.word) (numbers_decided a.length b.length)
  where
    by : Decided (a.lanes ≡ b.lanes) → Decided (a.word ≡ b.word) → Decided (a.length ≡ b.length) → Decided (a ≡ b)
    by (inl lanes) (inl word) (inl count) = inl (λ i. record { lanes = lanes i; word = word i; length = count i })
    by (inr unlike) word count = inr (λ e. unlike (ap (λ (d : Digest). d.lanes) e))
    by (inl lanes) (inr unlike) count = inr (λ e. unlike (ap (λ (d : Digest). d.word) e))
    by (inl lanes) (inl word) (inr unlike) = inr (λ e. unlike (ap (λ (d : Digest). d.length) e))

-- ---- one shard
-- a shard is refused, or isn't
abbrev ShardDecided : (format : ℕ) → Cut → (shard : ℕ) → List ℕ → Type 0
ShardDecided format cut shard text =
    ((r : CutRefusal) × ShardRefuses format cut shard text r) ⊎ ((r : CutRefusal) → ShardRefuses format cut shard text r → ⊥)

module _ (format : ℕ) (cut : Cut) (shard : ℕ) (text : List ℕ) (keeps : keeps_digests format ≡ true) where
  -- a shard of which the cut has no lane
  no_lane : slice_get cut.lanes shard ≡ None → (r : CutRefusal) → ShardRefuses format cut shard text r → ⊥
  no_lane none _ (is_short lane has less) = none-some lane (sym none ∙ has)
  no_lane none _ (has_other_bytes lane has enough unlike) = none-some lane (sym none ∙ has)
  no_lane none _ (has_no_line lane has f enough line lost) = none-some lane (sym none ∙ has)
  no_lane none _ (is_grown lane has closed more bytes all) = none-some lane (sym none ∙ has)

  -- one that stands
  record Stands (lane : LaneCut) : Type 0 where
    enough : lane.offset ≤ length text
    bytes : HasItsBytes format lane text
    end : lane.closed ≡ true → length text ≤ lane.offset

  stands_or_refused : (lane : LaneCut) → slice_get cut.lanes shard ≡ Some lane → Stands lane → (r : CutRefusal) → ShardRefuses format cut shard text r → ⊥
  stands_or_refused lane has s _ (is_short other also less) =
      let e : lane.offset ≡ other.offset = ap LaneCut.offset (same_Some lane other (sym has ∙ also)) in omega (arith, e, less, s.enough)
  stands_or_refused lane has s _ (has_other_bytes other also enough unlike) =
      unlike (subst (λ (x : LaneCut). HasItsBytes format x text) (same_Some lane other (sym has ∙ also)) s.bytes)
  stands_or_refused lane has s _ (has_no_line other also first enough line lost) = false≢true (sym (ap keeps_digests first) ∙ keeps)
  stands_or_refused lane has s _ (is_grown other also closed more bytes all) =
      let same : lane ≡ other = same_Some lane other (sym has ∙ also) in
      let e : lane.offset ≡ other.offset = ap LaneCut.offset same in
      let end : length text ≤ lane.offset = s.end (ap LaneCut.closed same ∙ closed) in
      omega (arith, e, more, end)

  by_end : (lane : LaneCut) → slice_get cut.lanes shard ≡ Some lane → lane.offset ≤ length text → HasItsBytes format lane text
      → (closed : Bool) → lane.closed ≡ closed → (lane.offset < length text) ⊎ (length text ≤ lane.offset) → ShardDecided format cut shard text
  by_end lane has enough bytes true closed (inl more) =
      inl (grown shard, is_grown lane has closed more bytes (λ (first : format ≡ 1) line named. absurd (false≢true (sym (ap keeps_digests first) ∙ keeps))))
  by_end lane has enough bytes false is_open (inl more) =
      inr (stands_or_refused lane has (record { enough = enough; bytes = bytes; end = λ closed. absurd (false≢true (sym is_open ∙ closed)) }))
  by_end lane has enough bytes closed is (inr end) =
      inr (stands_or_refused lane has (record { enough = enough; bytes = bytes; end = λ closed. end }))

  by_bytes : (lane : LaneCut) → slice_get cut.lanes shard ≡ Some lane → lane.offset ≤ length text → Decided (IsDigestOf lane.digest (take lane.offset text))
      → ShardDecided format cut shard text
  by_bytes lane has enough (inl e) =
      by_end lane has enough (λ (k : keeps_digests format ≡ true). e) lane.closed refl (cases_lt lane.offset (length text))
  by_bytes lane has enough (inr unlike) =
      inl (other_bytes shard, has_other_bytes lane has enough (λ (h : HasItsBytes format lane text). unlike (h keeps)))

  by_length : (lane : LaneCut) → slice_get cut.lanes shard ≡ Some lane → (length text < lane.offset) ⊎ (lane.offset ≤ length text)
      → ShardDecided format cut shard text
  by_length lane has (inl less) = inl (short shard lane.offset (length text), is_short lane has less)
  by_length lane has (inr enough) = by_bytes lane has enough (digest_decided lane.digest (with_bytes start (take lane.offset text)))

  by_lane : NoneOrSome (slice_get cut.lanes shard) → ShardDecided format cut shard text
  by_lane (inl none) = inr (no_lane none)
  by_lane (inr h) = by_length h.0 h.1 (cases_lt (length text) h.0.offset)

  shard_decided : ShardDecided format cut shard text
  shard_decided = by_lane (none_or_some (slice_get cut.lanes shard))

-- ---- all shards
-- the first shard that is refused
pub record FirstRefused (format : ℕ) (cut : Cut) (texts : List (List ℕ)) : Type 0 where
  pub shard : ℕ
  pub text : List ℕ
  pub there : slice_get texts shard ≡ Some text
  pub none : NoneIsRefusedBefore format cut shard texts
  pub refusal : CutRefusal
  pub refused : ShardRefuses format cut shard text refusal

module _ (format : ℕ) (cut : Cut) (texts : List (List ℕ)) (keeps : keeps_digests format ≡ true) where
  -- none before the next shard either
  none_at : (shard : ℕ) → NoneIsRefusedBefore format cut shard texts
      → ((text : List ℕ) (r : CutRefusal) → slice_get texts shard ≡ Some text → ShardRefuses format cut shard text r → ⊥)
      → NoneIsRefusedBefore format cut (suc shard) texts
  none_at shard none here s text r less there refused = by (cases_order s shard)
    where
      by : (s ≡ shard) ⊎ ((s < shard) ⊎ (shard < s)) → ⊥
      by (inl e) =
          here text r (ap (slice_get texts) (sym e) ∙ there) (subst (λ (n : ℕ). ShardRefuses format cut n text r) e refused)
      by (inr (inl before)) = none s text r before there refused
      by (inr (inr behind)) = omega (arith, less, behind)

  next_decided : (shard : ℕ) → NoneIsRefusedBefore format cut shard texts → NoneOrSome (slice_get texts shard)
      → FirstRefused format cut texts ⊎ NoneIsRefusedBefore format cut (suc shard) texts
  next_decided shard none (inl no_text) =
      inr (none_at shard none (λ text r there refused. none-some text (sym no_text ∙ there)))
  next_decided shard none (inr h) = by (shard_decided format cut shard h.0 keeps)
    where
      by : ShardDecided format cut shard h.0 → FirstRefused format cut texts ⊎ NoneIsRefusedBefore format cut (suc shard) texts
      by (inl refused) =
          inl (record { shard = shard; text = h.0; there = h.1; none = none; refusal = refused.0; refused = refused.1 })
      by (inr unlike) =
          inr (none_at shard none (λ text r there refused.
          unlike r (subst (λ (x : List ℕ). ShardRefuses format cut shard x r) (same_Some text h.0 (sym there ∙ h.1)) refused)))

  pub shards_decided : (shards : ℕ) → FirstRefused format cut texts ⊎ NoneIsRefusedBefore format cut shards texts
  shards_decided zero = inr (λ s text r less there refused. omega (arith, less))
  shards_decided (suc shards) = by (shards_decided shards)
    where
      by : FirstRefused format cut texts ⊎ NoneIsRefusedBefore format cut shards texts → FirstRefused format cut texts ⊎ NoneIsRefusedBefore format cut (suc shards) texts
      by (inl first) = inl first
      by (inr none) = next_decided shards none (none_or_some (slice_get texts shards))

-- ---- whether it fits
-- the laws on which this rests
pub record FitLaws : Type 0 where
  pub items : SortedItems
  pub back : ItemsBack
  pub keys : Agrees key_cmp
  pub slots : Agrees slot_cmp
  pub finds : OpeningFinds

abbrev says_fits : Search → Cut → Bool
says_fits search cut =
    cut_fits (run_of search cut.head.slack).stages (run_of search cut.head.slack).values (run_of search cut.head.slack).pipes cut

pub fits_decided : FitLaws → (search : Search) (shards : ℕ) (cut : Cut) → cut.head.shards ≡ shards
    → Decided (Fits (run_of search cut.head.slack) shards (kept_by cut))
fits_decided laws search shards cut n = by (cases_Bool (says_fits search cut))
  where
    by : (says_fits search cut ≡ true) ⊎ (says_fits search cut ≡ false) → Decided (Fits (run_of search cut.head.slack) shards (kept_by cut))
    by (inl says) =
        let run = run_of search cut.head.slack in
        inl (subst (λ (k : ℕ). Fits run k (kept_by cut)) n
        (any_span run.stages run.values run.pipes run.slack None run.span cut.head.shards (kept_by cut)
        (fits_from laws.items laws.back laws.keys laws.slots laws.finds run.stages run.values run.pipes cut says)))
    by (inr unlike) =
        let run = run_of search cut.head.slack in
        inr (λ (f : Fits run shards (kept_by cut)). false≢true (sym unlike
        ∙ fits_to laws.items laws.back laws.keys laws.slots laws.finds run.stages run.values run.pipes cut
        (any_span run.stages run.values run.pipes run.slack run.span None cut.head.shards (kept_by cut)
        (subst (λ (k : ℕ). Fits run k (kept_by cut)) (sym n) f))))
