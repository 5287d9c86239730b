-- Counts of faults by name.
use Rattle.std.proofs.Common.{◌≤◌, ℕ, List, sym, ◌∙◌, subst}
use Rattle.eql_outside.specs.Outside.{Rose}
use Rattle.eql_outside.specs.Faults.{FaultsAreSame, RoseFor, RosesAgree}

pub earlier : (name : List ℕ) (before mid now : List ℕ → ℕ) → FaultsAreSame before mid → RoseFor name mid now → RoseFor name before now
earlier name before mid now same r = record {
  rose = subst (λ n. Rose n (now name)) (same name) r.rose;
  others = λ other ne. r.others other ne ∙ same other;
  counts = λ any. subst (λ n. n ≤ now any) (same any) (r.counts any);
}

pub later : (name : List ℕ) (before mid now : List ℕ → ℕ) → RoseFor name before mid → FaultsAreSame mid now → RoseFor name before now
later name before mid now r same = record {
  rose = subst (λ n. Rose (before name) n) (sym (same name)) r.rose;
  others = λ other ne. same other ∙ r.others other ne;
  counts = λ any. subst (λ n. before any ≤ n) (sym (same any)) (r.counts any);
}

pub roses : RosesAgree
roses = record { earlier = earlier; later = later }
