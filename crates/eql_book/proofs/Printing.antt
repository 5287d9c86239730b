-- What is printed, step by step, and lists of lines.
use Rattle.std.proofs.Common.{◌≡◌, ℕ, zero, suc, List, [], ◌∷◌, ◌++◌, take, Option, Some, None, refl, sym, ap, ◌∙◌, subst}
use Rattle.std.proofs.lemmas.List.{append-nil, append_assoc}
use Rattle.std.specs.Prelude.{IfSome}
use Rattle.eql_outside.specs.Outside.{AppendsSome}
use Rattle.eql_outside.specs.Written.{WroteAll, WroteFront, WroteBut}

-- at first nothing is printed
pub printed_start : (before : Option (List ℕ)) → WroteBut [] [] before before
printed_start None = tt
printed_start (Some w) = ([], ap Some (sym (append-nil w)), refl)

more_cases : (w sent : List ℕ) (next : Option (List ℕ)) (waiting left text more : List ℕ) → sent ++ waiting ≡ text
    → IfSome (Some (w ++ sent)) (λ v. (further : List ℕ) × (next ≡ Some (v ++ further)) × (further ++ left ≡ waiting ++ more))
    → (sent' : List ℕ) × (next ≡ Some (w ++ sent')) × (sent' ++ left ≡ text ++ more)
more_cases w sent next waiting left text more same (further, is, goes) = (
  sent ++ further,
  is ∙ ap Some (append_assoc w sent further),
  append_assoc sent further left ∙ ap (λ (xs : List ℕ). sent ++ xs) goes ∙ sym (append_assoc sent waiting more) ∙ ap (λ (xs : List ℕ). xs ++ more) same,
)

-- one text is printed after another
pub printed_more : (before now next : Option (List ℕ)) (waiting left text more : List ℕ) → WroteBut waiting text before now
    → WroteBut left (waiting ++ more) now next → WroteBut left (text ++ more) before next
printed_more None now next waiting left text more h further = tt
printed_more (Some w) now next waiting left text more (sent, is, same) further =
    more_cases w sent next waiting left text more same
    (subst (λ (o : Option (List ℕ)). IfSome o (λ v. (f : List ℕ) × (next ≡ Some (v ++ f)) × (f ++ left ≡ waiting ++ more))) is further)

-- what is printed is written once nothing is left
pub printed_whole : (before now : Option (List ℕ)) (left text : List ℕ) → left ≡ [] → WroteBut left text before now → WroteAll text before now
printed_whole None now left text none h = tt
printed_whole (Some w) now left text none (sent, is, same) =
    is ∙ ap (λ (xs : List ℕ). Some (w ++ xs)) (sym (append-nil sent) ∙ ap (λ (xs : List ℕ). sent ++ xs) (sym none) ∙ same)

front_of : (n : ℕ) (ys rest : List ℕ) → (k : ℕ) × (take k (ys ++ rest) ≡ take n ys)
front_of zero ys rest = (0, refl)
front_of (suc n) [] rest = (0, refl)
front_of (suc n) (y ∷ ys) rest = let front = front_of n ys rest in (suc front.0, ap (λ (xs : List ℕ). y ∷ xs) front.1)

front_after : (sent : List ℕ) (n : ℕ) (ys rest : List ℕ) → (k : ℕ) × (take k (sent ++ (ys ++ rest)) ≡ sent ++ take n ys)
front_after [] n ys rest = front_of n ys rest
front_after (x ∷ sent) n ys rest = let front = front_after sent n ys rest in (suc front.0, ap (λ (xs : List ℕ). x ∷ xs) front.1)

part_cases : (w sent : List ℕ) (next : Option (List ℕ)) (waiting text more later : List ℕ) → sent ++ waiting ≡ text
    → AppendsSome (w ++ sent) (waiting ++ more) next → AppendsSome w (text ++ (more ++ later)) next
part_cases w sent next waiting text more later same (n, is) =
    let front = front_after sent n (waiting ++ more) later in
    let whole : sent ++ ((waiting ++ more) ++ later) ≡ text ++ (more ++ later) =
    ap (λ (xs : List ℕ). sent ++ xs) (append_assoc waiting more later) ∙ sym (append_assoc sent waiting (more ++ later))
    ∙ ap (λ (xs : List ℕ). xs ++ (more ++ later)) same in (
      front.0,
      is ∙ ap Some (append_assoc w sent (take n (waiting ++ more))) ∙ ap (λ (xs : List ℕ). Some (w ++ xs)) (sym front.1)
          ∙ ap (λ (xs : List ℕ). Some (w ++ take front.0 xs)) whole,
    )

-- a part that is printed after a text is a part of all that is to be printed
pub part_more : (before now next : Option (List ℕ)) (waiting text more later : List ℕ) → WroteBut waiting text before now
    → WroteFront (waiting ++ more) now next → WroteFront (text ++ (more ++ later)) before next
part_more None now next waiting text more later h part = tt
part_more (Some w) now next waiting text more later (sent, is, same) part =
    part_cases w sent next waiting text more later same (subst (λ (o : Option (List ℕ)). IfSome o (λ v. AppendsSome v (waiting ++ more) next)) is part)

-- of any text the part of no bytes
pub part_none : (before : Option (List ℕ)) (text : List ℕ) → WroteFront text before before
part_none None text = tt
part_none (Some w) text = (0, ap Some (sym (append-nil w)))
