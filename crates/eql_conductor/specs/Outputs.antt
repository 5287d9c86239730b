-- What stands behind a sink, as it tells.
use Rattle.std.specs.Prelude.{◌≡◌, ℕ, List, [], ◌∷◌, Option, Some, IfSome, refl}
use Rattle.eql_cut.specs.declared.cut.Cut.{Cut}
use Rattle.eql_outside.specs.declared.sink.Sink as sinks

-- the bytes that were written, and those that stay whatever happens to the machine
pub record Output : Type 0 where
  pub written : Option (List ℕ)
  pub kept : Option (List ℕ)

abbrev pub output_of : {K : Type 0} → sinks.Ghosts K → K → Output
output_of sink k = record { written = sink.written k; kept = sink.kept k }

-- all that was written is kept, where it was told before what is kept
abbrev pub KeepsAll : (before now : Output) → Type 0
KeepsAll before now = IfSome before.kept (λ _. now.kept ≡ now.written)

-- where cuts were put, all that was written is kept; and else what was kept before
abbrev pub KeepsFor : List Cut → (before now : Output) → Type 0
KeepsFor [] before now = now.kept ≡ before.kept
KeepsFor (cut ∷ cuts) before now = KeepsAll before now

-- of 'x', of which nothing was kept before
pub all_is_kept : KeepsAll (record { written = Some (120 ∷ []); kept = Some [] }) (record { written = Some (120 ∷ []); kept = Some (120 ∷ []) })
all_is_kept = refl
