-- What is written goes on from call to call.
use Rattle.std.proofs.Common.{◌≡◌, ℕ, ◌+◌, List, ◌++◌, take, drop, length, Option, Some, None, ap, sym, ◌∙◌, subst, append_assoc}
use Rattle.std.proofs.Math.Seq.{take-append-add, take-append_seam}
use Rattle.std.proofs.lemmas.List.{take-append-drop}
use Rattle.eql_outside.specs.Outside.{AppendsSome}
use Rattle.eql_outside.specs.Written.{WroteAll, WroteFront, WroteBut}

all_on : (first then : List ℕ) (before mid now : Option (List ℕ)) → WroteAll first before mid → WroteAll then mid now → WroteAll (first ++ then) before now
all_on first then None mid now h k = tt
all_on first then (Some w) mid now h k =
    subst (λ (m : Option (List ℕ)). WroteAll then m now) h k ∙ ap Some (append_assoc w first then)

front_on : (first then : List ℕ) (before mid now : Option (List ℕ)) → WroteAll first before mid → WroteFront then mid now → WroteFront (first ++ then) before now
front_on first then None mid now h k = tt
front_on first then (Some w) mid now h k =
    let g : AppendsSome (w ++ first) then now = subst (λ (m : Option (List ℕ)). WroteFront then m now) h k in
    (length first + g.0, g.1 ∙ ap Some (append_assoc w first (take g.0 then) ∙ ap (λ x. w ++ x) (sym (take-append-add first then g.0))))

front_of_more : (n : ℕ) (first then : List ℕ) → take (length (take n first)) (first ++ then) ≡ take n first
front_of_more n first then =
    ap (λ x. take (length (take n first)) x) (ap (λ x. x ++ then) (sym (take-append-drop n first)) ∙ append_assoc (take n first) (drop n first) then)
    ∙ take-append_seam (take n first) (drop n first ++ then)

front_longer : (first then : List ℕ) (before now : Option (List ℕ)) → WroteFront first before now → WroteFront (first ++ then) before now
front_longer first then None now h = tt
front_longer first then (Some w) now h = (length (take h.0 first), h.1 ∙ ap (λ x. Some (w ++ x)) (sym (front_of_more h.0 first then)))

rest_sent : (first then : List ℕ) (before mid now : Option (List ℕ)) → WroteBut then (first ++ then) before mid → WroteAll then mid now → WroteAll (first ++ then) before now
rest_sent first then None mid now h k = tt
rest_sent first then (Some w) mid now h k =
    subst (λ (m : Option (List ℕ)). WroteAll then m now) h.1 k
    ∙ ap Some (append_assoc w h.0 then ∙ ap (λ x. w ++ x) h.2)

-- all of one text and then all or a front of another are all or a front of the two, and a front of a text is one of a longer text
pub record WritesGoOn : Type 0 where
  pub all : (first then : List ℕ) (before mid now : Option (List ℕ)) → WroteAll first before mid → WroteAll then mid now → WroteAll (first ++ then) before now
  pub front : (first then : List ℕ) (before mid now : Option (List ℕ)) → WroteAll first before mid → WroteFront then mid now → WroteFront (first ++ then) before now
  pub longer : (first then : List ℕ) (before now : Option (List ℕ)) → WroteFront first before now → WroteFront (first ++ then) before now
  pub waits : (first then : List ℕ) (before mid now : Option (List ℕ)) → WroteBut then (first ++ then) before mid → WroteAll then mid now → WroteAll (first ++ then) before now

pub writes_on : WritesGoOn
writes_on = record { all = all_on; front = front_on; longer = front_longer; waits = rest_sent }
