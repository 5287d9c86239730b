-- The machine value of a ticket, taken apart and put together. Assumes `Logic`.
use Rattle.std.proofs.Common.{◌≡◌, List, [], ◌∷◌, ◌++◌, refl, subst}
use seplogic.Ra.Ura.{Ura}
use mir.Val.{Val, vstruct, of_list}
use types.Logic.{Logic}
use types.Kit.{Item, Goal, Seq, Step, step, ‵, ◌$◌, drop, fsplit, fjoin, fpick, fpack, feq_i, feq_l}
use denote.RattleType.{Valss}
use denote.Builtin.{RawPtr}
use denote.RawPtr.{Ptr, ptr_val}
use denote.Steps.{nothing}
use denote.Struct.Struct.{Shape, within}
use Rattle.std_alloc.proofs.RcSteps.{word}
use Rattle.eql_span_list.specs.declared.node.Ticket.{Ticket}
use Rattle.eql_span_list.specs.contracts.node.Ticket.{the_row}

-- a struct of one pointer
abbrev one_field : Shape
one_field = record { name = []; args = []; types = []; fields = RawPtr ∷ [] }

module _ {M : Type 1} {𝓤 : Ura M} {𝓛 : Logic 𝓤} {K : Type 0} {Γ : List (Item 𝓤)} {G : Goal 𝓤 𝓛.H} where
  pub ticket_had : K → (t : Ticket) (vs : List Val) → (vs ≡ word t.pointer ∷ [] → Seq K 𝓛 Γ G) → Seq K 𝓛 (‵ (the_row.own_val t vs) ∷ Γ) G
  ticket_had k t vs next =
      fpick k (λ vss. fsplit k $ feq_l k (λ ev. fsplit k $ feq_l k (λ e. drop k $ next (subst (λ (ws : List Val). vs ≡ vstruct (of_list (ws ++ [])) ∷ []) e ev))))

  pub ticket_made : K → (p : Ptr) → Step K 𝓛 (‵ (the_row.own_val (record { pointer = p }) (word p ∷ [])) ∷ Γ) G Γ G
  ticket_made k p = step (λ s.
      nothing k $ feq_i k (List Val) (ptr_val p ∷ []) (ptr_val p ∷ []) refl $ fjoin k $ feq_i k (List Val) (word p ∷ []) (word p ∷ []) refl $ fjoin k $
      fpack k (Valss (RawPtr ∷ [])) (within one_field (p, tt) (word p ∷ [])) (ptr_val p ∷ [], tt) $ s)
