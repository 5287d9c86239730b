-- Why a run stops.
use Rattle.std.proofs.Common.{◌≡◌, ◌≢◌, inl, inr, ◌≤◌, ℕ, sym, ap, ◌∙◌, subst}
use Rattle.std.specs.Prelude.{IfErr, Result, Ok, Err}
use Rattle.eql_lane.specs.declared.ops.ShardLimit.TheVariants as limit
use Rattle.eql_outside.specs.Outside.{Rose}
use Rattle.eql_conductor.specs.declared.stop.Stop.{Stop}
use Rattle.eql_conductor.specs.declared.stop.Stop.TheVariants as stop
use Rattle.eql_conductor.specs.Benches.{Known, NoFeedFailed}
use Rattle.eql_conductor.specs.Going.{LanesGo, RunResult, StopsBy, Went}
use Rattle.eql_conductor.specs.Rounds.{StopsAt, StopsOut, StopsSaving}
use Rattle.eql_conductor.specs.Runs.{EndsBy, StopsFor}
use Rattle.eql_conductor.proofs.Broken.{err_or}
use Rattle.eql_conductor.proofs.Onward.{stops_on}

pub err_is : {X : Type 0} (by other : Stop) → ◌≡◌ {A = Result X Stop} (Err by) (Err other) → by ≡ other
err_is {X} by other e = ap (err_or by) e

-- ---- which stops
-- the greatest generation is told as such alone
pub out_not_full : (by : Stop) → StopsOut by → by ≢ stop.Generation
out_not_full by (inl h) e = cc
out_not_full by (inr h) e = cc

-- nor is a fault of the disk
pub out_apart : (by : Stop) → StopsOut by → by ≢ stop.Disk
out_apart by (inl h) e = cc
out_apart by (inr h) e = cc

-- and no round comes to it
pub not_full : (by : Stop) (a b : Known) → StopsAt by a b → by ≢ stop.Generation
not_full by a b (inl h) e = subst (λ (s : Stop). StopsBy s a b) e h
not_full by a b (inr h) e = out_not_full by h.0 e

-- ---- by a call of the bench
module _ (a b : Known) (s sn d dn : ℕ) where
  -- of what the bench says nothing else rose
  pub bench_ends : (by : Stop) → sn ≡ s → dn ≡ d → StopsBy by a b → StopsFor by a b s sn d dn
  bench_ends (stop.Read shard) se de h = (h.0, h.1, h.2, se, de)
  bench_ends (stop.Limit (limit.Lines shard)) se de h = (h.0, h.1, h.2.failed, h.2.worn, se, de)
  bench_ends (stop.Limit (limit.Bytes shard)) se de h = (h.0, h.1, h.2.failed, h.2.worn, se, de)
  bench_ends stop.Worn se de h = (h.0, h.1, se, de)
  bench_ends stop.Generation se de h = absurd h
  bench_ends stop.Write se de h = absurd h
  bench_ends stop.Disk se de h = absurd h
  bench_ends stop.Memory se de h = (h.failed, h.worn, se, de)

  pub went_ends : sn ≡ s → dn ≡ d → Went a b → EndsBy {A = Unit {0}} (Ok tt) a b s sn d dn
  went_ends se de h = (h.failed, h.worn, se, de)

  not_write : (by : Stop) → StopsBy by a b → by ≢ stop.Write
  not_write by h e = subst (λ (x : Stop). StopsBy x a b) e h

  not_disk : (by : Stop) → StopsBy by a b → by ≢ stop.Disk
  not_disk by h e = subst (λ (x : Stop). StopsBy x a b) e h

  memory_ends : (by : Stop) → by ≡ stop.Memory → sn ≡ s → dn ≡ d → Went a b → StopsFor by a b s sn d dn
  memory_ends by e se de h = subst (λ (x : Stop). StopsFor x a b s sn d dn) (sym e) (h.failed, h.worn, se, de)

  -- or by the book
  pub round_ends : (by : Stop) → StopsAt by a b → (by ≡ stop.Write → Rose s sn) → (by ≢ stop.Write → sn ≡ s) → s ≤ sn → dn ≡ d → StopsFor by a b s sn d dn
  round_ends by (inl h) cause steady counts de = bench_ends by (steady (not_write by h)) de h
  round_ends by (inr (inl e, went)) cause steady counts de =
      subst (λ (x : Stop). StopsFor x a b s sn d dn) (sym e) (went.failed, went.worn, (cause e, counts), de)
  round_ends by (inr (inr e, went)) cause steady counts de = memory_ends by e (steady (λ w. let k = sym e ∙ w in cc)) de went

  -- or by the sink or the disk
  pub cut_ends : (by : Stop) → StopsSaving by a b → (by ≡ stop.Write → Rose s sn) → (by ≢ stop.Write → sn ≡ s) → s ≤ sn
      → (by ≡ stop.Disk → Rose d dn) → (by ≢ stop.Disk → dn ≡ d) → d ≤ dn → StopsFor by a b s sn d dn
  cut_ends by (inl h) cause steady counts disk_cause disk_steady disk_counts = bench_ends by (steady (not_write by h)) (disk_steady (not_disk by h)) h
  cut_ends by (inr (inl out, went)) cause steady counts disk_cause disk_steady disk_counts =
      round_ends by (inr (out, went)) cause steady counts (disk_steady (out_apart by out))
  cut_ends by (inr (inr (inl e), went)) cause steady counts disk_cause disk_steady disk_counts =
      subst (λ (x : Stop). StopsFor x a b s sn d dn) (sym e) (went.failed, went.worn, steady (λ w. let k = sym e ∙ w in cc), (disk_cause e, disk_counts))
  cut_ends by (inr (inr (inr (inl e)), went)) cause steady counts disk_cause disk_steady disk_counts =
      memory_ends by e (steady (λ w. let k = sym e ∙ w in cc)) (disk_steady (λ w. let k = sym e ∙ w in cc)) went
  cut_ends by (inr (inr (inr (inr e)), went)) cause steady counts disk_cause disk_steady disk_counts =
      subst (λ (x : Stop). StopsFor x a b s sn d dn) (sym e)
      (went.failed, went.worn, steady (λ w. let k = sym e ∙ w in cc), disk_steady (λ w. let k = sym e ∙ w in cc))

-- neither a round nor the end of the book fails by the disk
pub round_not_disk : (by : Stop) (a b : Known) → StopsAt by a b → by ≢ stop.Disk
round_not_disk by a b (inl h) e = not_disk a b 0 0 0 0 by h e
round_not_disk by a b (inr (inl h, went)) e = cc
round_not_disk by a b (inr (inr h, went)) e = cc

pub out_not_disk : {X : Type 0} (r : Result X Stop) → IfErr r StopsOut → r ≢ Err stop.Disk
out_not_disk (Ok x) out e = cc
out_not_disk (Err by) (inl h) e = cc
out_not_disk (Err by) (inr h) e = cc

-- ---- or by the end of the book
module _ (a b : Known) (s m n d dn : ℕ) (h : EndsBy {A = Unit {0}} (Ok tt) a b s m d dn) where
  pub book_ends : (r : RunResult) → IfErr r StopsOut → (r ≡ Err stop.Write → Rose m n) → (r ≢ Err stop.Write → n ≡ m) → m ≤ n → EndsBy r a b s n d dn
  book_ends (Ok done) out cause steady counts = (h.0, h.1, steady (λ e. cc) ∙ h.2, h.3)
  book_ends (Err by) (inl e) cause steady counts =
      subst (λ (x : Stop). StopsFor x a b s n d dn) (sym e) (h.0, h.1, subst (λ (k : ℕ). Rose k n × (k ≤ n)) h.2 (cause (ap Err e), counts), h.3)
  book_ends (Err by) (inr e) cause steady counts =
      subst (λ (x : Stop). StopsFor x a b s n d dn) (sym e) (h.0, h.1, steady (λ w. let k = sym e ∙ err_is by stop.Write w in cc) ∙ h.2, h.3)

-- ---- after rounds in which nothing failed
module _ (a b c : Known) (s0 s1 s2 d0 d1 d2 : ℕ) (go : LanesGo a b) (went : Went a b) (se : s1 ≡ s0) (de : d1 ≡ d0) where
  failed_on : NoFeedFailed b c → NoFeedFailed a c
  failed_on h = λ k. h k ∙ went.failed k

  rose_from : (x y z : ℕ) → y ≡ x → Rose y z × (y ≤ z) → Rose x z × (x ≤ z)
  rose_from x y z e h = subst (λ (n : ℕ). Rose n z × (n ≤ z)) e h

  pub stops_for_on : (by : Stop) → StopsFor by b c s1 s2 d1 d2 → StopsFor by a c s0 s2 d0 d2
  stops_for_on (stop.Read s) h =
      let k : StopsBy (stop.Read s) a c = stops_on (stop.Read s) a b c go went (h.0, h.1, h.2) in
      (k.0, k.1, k.2, h.3 ∙ se, h.4 ∙ de)
  stops_for_on stop.Write h = (failed_on h.0, h.1 ∙ went.worn, rose_from s0 s1 s2 se h.2, h.3 ∙ de)
  stops_for_on stop.Disk h = (failed_on h.0, h.1 ∙ went.worn, h.2 ∙ se, rose_from d0 d1 d2 de h.3)
  stops_for_on stop.Memory h = (failed_on h.0, h.1 ∙ went.worn, h.2 ∙ se, h.3 ∙ de)
  stops_for_on (stop.Limit (limit.Lines s)) h =
      let k : StopsBy (stop.Limit (limit.Lines s)) a c = stops_on (stop.Limit (limit.Lines s)) a b c go went (h.0, h.1, record { failed = h.2; worn = h.3 }) in
      (k.0, k.1, k.2.failed, k.2.worn, h.4 ∙ se, h.5 ∙ de)
  stops_for_on (stop.Limit (limit.Bytes s)) h =
      let k : StopsBy (stop.Limit (limit.Bytes s)) a c = stops_on (stop.Limit (limit.Bytes s)) a b c go went (h.0, h.1, record { failed = h.2; worn = h.3 }) in
      (k.0, k.1, k.2.failed, k.2.worn, h.4 ∙ se, h.5 ∙ de)
  stops_for_on stop.Worn h =
      let k : StopsBy stop.Worn a c = stops_on stop.Worn a b c go went (h.0, h.1) in
      (k.0, k.1, h.2 ∙ se, h.3 ∙ de)
  stops_for_on stop.Generation h = (failed_on h.0, h.1 ∙ went.worn, h.2 ∙ se, h.3 ∙ de)
