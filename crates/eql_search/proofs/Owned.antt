-- Parts that are made one after another.
use Rattle.std.proofs.Common.{◌≡◌, inl, inr, ◌+◌, ◌++◌, ℕ, List, [], ◌∷◌, sym, ap, ◌∙◌, arith}
use Rattle.std.proofs.lemmas.List.{length_push}
use Rattle.eql_values.specs.declared.found.Holder.{Holder}
use Rattle.eql_values.specs.declared.order.Mark.{Mark}
use Rattle.eql_parts.specs.PartSteps.{PartView, Rules}
use Rattle.eql_search.specs.Running.{AreOwnTo, own_part}
use Rattle.eql_search.proofs.Places.{last_or}

pub own_more : (n : ℕ) (rules : Rules) (holders : List Holder) (mark : Mark) (parts : List PartView) (part : PartView) → AreOwnTo n rules holders mark parts → part ≡ own_part rules holders mark n
    → AreOwnTo (n + 1) rules holders mark (parts ++ part ∷ [])
own_more n rules holders mark parts part are is = record {
  count = let a = length_push parts part in let b = are.count in omega (arith, a, b);
  each = λ p one there. elim (last_or parts part one p there) [
    | inl in_front ↦ are.each p one in_front
    | inr (at, same) ↦ sym same ∙ is ∙ ap (own_part rules holders mark) (sym (at ∙ are.count))
  ];
}
