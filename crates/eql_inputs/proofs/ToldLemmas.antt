-- What a sink got of a text.
use Rattle.std.proofs.Common.{◌≡◌, ℕ, List, ◌++◌, Option, Some, None, Result, Ok, Err, ap, sym, ◌∙◌, length}
use Rattle.std.specs.Result.{OnOk, OnErr}
use Rattle.std.specs.Option.{IfSome}
use Rattle.std.proofs.lemmas.List.{take_all}
use Rattle.std.proofs.Common.{arith}
use Rattle.eql_outside.specs.Outside.{AppendsSome}
use Rattle.eql_outside.specs.Written.{WroteFront}

-- a write puts all of a text, or a prefix of it
pub wrote_front : {T E : Type 0} (r : Result T E) (text : List ℕ) (before now : Option (List ℕ)) → OnOk r (IfSome before (λ w. now ≡ Some (w ++ text)))
    → OnErr r (IfSome before (λ w. AppendsSome w text now)) → WroteFront text before now
wrote_front r text None now whole part = tt
wrote_front (Ok x) text (Some w) now whole part = (length text, whole ∙ ap (λ (x : List ℕ). Some (w ++ x)) (sym (take_all (length text) text (omega arith))))
wrote_front (Err e) text (Some w) now whole part = part
