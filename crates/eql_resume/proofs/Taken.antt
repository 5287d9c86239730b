-- What `begin` gives, by whether there is a cut and by the format of its text.
use Rattle.std.proofs.Common.{◌≡◌, ◌≢◌, ℕ, List, Option, Some, None, Result, Ok, Err, IfOk, IfSome, refl, sym, subst, length}
use Rattle.std.proofs.lemmas.Bool.{ne_eqb}
use Rattle.eql_values.specs.declared.cut.Pipe.{Pipe}
use Rattle.eql_conductor.specs.Openings.{FitMayBegin}
use Rattle.eql_cut.specs.declared.cut.Cut.{Cut}
use Rattle.eql_cut.specs.Placing.{IsUnplaced, orders_in}
use Rattle.eql_cut.specs.PlacedLaws.{EventsAreNamed}
use Rattle.eql_runs.specs.Starts.{keeps_digests}
use Rattle.eql_resume.specs.declared.beginning.Beginning.{Beginning}
use Rattle.eql_resume.specs.Beginnings.{LanesBegin, WantedAre, fresh_starts, lifts_of, starts_by}
use Rattle.eql_resume.specs.Finding.{Suits}
use Rattle.eql_resume.proofs.Begun.{begins_fresh, begins_kept, begins_lifted}

module _ {E : Type 0} where
  pub taken_fresh : (cut : Option Cut) (format shards : ℕ) (r : Result Beginning E) → cut ≡ None
      → IfOk r (λ b. b.lanes.items ≡ fresh_starts shards) → IfOk r (λ b. LanesBegin cut format shards b.lanes.items)
  taken_fresh cut format shards (Err e) is lanes = tt
  taken_fresh cut format shards (Ok b) is lanes =
      subst (λ (o : Option Cut). LanesBegin o format shards b.lanes.items) (sym is)
      (subst (LanesBegin None format shards) (sym lanes) (begins_fresh format shards))

  pub taken_kept : FitMayBegin → (stages values : ℕ) (pipes : List Pipe) (cut : Option Cut) (own : Cut) (format shards : ℕ)
      (r : Result Beginning E) → cut ≡ Some own → format ≢ 1
      → IfSome cut (λ c. Suits stages values pipes c.head c × (c.head.shards ≡ shards))
      → IfOk r (λ b. b.lanes.items ≡ starts_by (keeps_digests format) own.lanes) → IfOk r (λ b. LanesBegin cut format shards b.lanes.items)
  taken_kept law stages values pipes cut own format shards (Err e) is later suits lanes = tt
  taken_kept law stages values pipes cut own format shards (Ok b) is later suits lanes =
      let own_suits = subst (λ (o : Option Cut). IfSome o (λ c. Suits stages values pipes c.head c × (c.head.shards ≡ shards))) is suits in
      subst (λ (o : Option Cut). LanesBegin o format shards b.lanes.items) (sym is)
      (subst (LanesBegin (Some own) format shards) (sym lanes)
      (begins_kept law stages values pipes own format shards (keeps_digests format) own_suits.0 own_suits.1 (ne_eqb format 1 later) refl))

  pub taken_lifted : FitMayBegin → EventsAreNamed → (stages values : ℕ) (pipes : List Pipe) (cut : Option Cut) (own : Cut) (format shards : ℕ)
      (r : Result Beginning E) → cut ≡ Some own → format ≡ 1
      → IfSome cut (λ c. Suits stages values pipes c.head c × (c.head.shards ≡ shards))
      → IfSome cut (λ c. format ≡ 1 → IsUnplaced (orders_in c))
      → IfOk r (λ b. (lists : List (List ℕ)) × (length lists ≡ shards) × WantedAre own 0 lists × (b.lanes.items ≡ lifts_of own.lanes lists))
      → IfOk r (λ b. LanesBegin cut format shards b.lanes.items)
  taken_lifted law named stages values pipes cut own format shards (Err e) is first suits bare lanes = tt
  taken_lifted law named stages values pipes cut own format shards (Ok b) is first suits bare lanes =
      let own_suits = subst (λ (o : Option Cut). IfSome o (λ c. Suits stages values pipes c.head c × (c.head.shards ≡ shards))) is suits in
      let own_bare = subst (λ (o : Option Cut). IfSome o (λ c. format ≡ 1 → IsUnplaced (orders_in c))) is bare in
      subst (λ (o : Option Cut). LanesBegin o format shards b.lanes.items) (sym is)
      (subst (λ (n : ℕ). LanesBegin (Some own) n shards b.lanes.items) (sym first)
      (begins_lifted law named stages values pipes own own_suits.0 (own_bare first) shards b.lanes.items own_suits.1 lanes))
