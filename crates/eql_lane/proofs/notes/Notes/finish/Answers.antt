use Rattle.std.proofs.Common.{◌≡◌, ℕ, Option, None, Some, refl, subst}
use Rattle.std.specs.Prelude.{IfSome}
use Rattle.eql_lane.specs.Noting.{IsMissing}
use Rattle.eql_lane.proofs.NoteLemmas.{finished}
use Rattle.eql_lane.proofs.notes.Notes.finish.Goals as goal

pub returns-clause-located : goal.returns-clause-located
returns-clause-located c none front rest n at_end =
    (finished c.args.self.now front rest c.args.ended c.next.result c.close.new.self n at_end c.next.ensures c.close.ensures).located none

if_some : (o : Option ℕ) (P : ℕ → Type 0) → ((n : ℕ) → o ≡ Some n → P n) → IfSome o P
if_some None P each = tt
if_some (Some n) P each = each n refl

pub returns-clause-missing : goal.returns-clause-missing
returns-clause-missing c =
    if_some c.next.result _ (λ line e front rest n at_end tested.
    subst (λ (o : Option ℕ). IfSome o (λ (l : ℕ). IsMissing front rest c.args.self.now.wanted l)) e
    ((finished c.args.self.now front rest c.args.ended c.next.result c.close.new.self n at_end c.next.ensures c.close.ensures).missing tested))
