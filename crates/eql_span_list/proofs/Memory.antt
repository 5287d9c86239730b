-- What the walks over a store share: its machine value, what two owners of one place show, and its nodes cut at one. Assumes `Logic`.
use mathlib.Core.Path.{◌≡◌, refl, subst}
use mathlib.Core.List.{List, [], ◌∷◌, ◌++◌}
use seplogic.Ra.Ura.{Ura}
use mir.Val.{Val, vstruct, vcons, vnil}
use base.Fraction.{full_share}
use base.Fml.{Fml, Lft, fat, froom}
use base.Logic.{ent, emp, SProp, sep, wand, never, fst∗, via, never_e, id⊢, snd∗}
use contract.Monad.{fact, fact_i, fact_use}
use mathlib.Core.Bool.{true, false}
use denote.RawPtr.{Ptr, block_ptr, null_ptr, lies_at}
use denote.Struct.Lending.{lent_at}
use mir.Syntax.{Ty, Tys, Sym, ty_struct, tcons}
use prog.Memory.{size}
use denote.Param.{layout}
use native.Mathlib.Omega.{arith}
use Rattle.core.specs.contracts.option.Option as option
use Rattle.eql_span_list.specs.contracts.node.Ticket as Ticket
use prog.Model.{Model, rooms_at}
use Prim.Native.Nat.{ℕ, ◌+◌}
use borrow.Table.OneValue.{part_out}
use denote.Memory.{lone, part_at}
use types.Logic.{Logic, sem}
use types.Kit.{Item, Goal, Seq, mean, prop, raw, ‵, some, ◌⊛◌, ◌$◌, ◌∵◌, !, qed, by, keep, pick, move, split, use1, use2, done, fjoin, fsplit}
use denote.RattleType.{RattleType}
use denote.Shadow.{makes_shadow}
use denote.Struct.Struct.{Struct, to_tys}
use denote.Struct.Owning.{shape}
use mir.Raw.{raw as bare}
use Rattle.std.proofs.Common.{append-nil}
use Rattle.eql_span_list.specs.PlacedNode.{PlacedNode, placed_node, same_pointer}
use Rattle.eql_span_list.specs.Ownership.{frees, node_owns, nodes_own, nodes_lent}
use Rattle.eql_span_list.proofs.Pointers.{same_pointer-eq}
use Rattle.eql_span_list.proofs.Apart.{IsFresh}
use Rattle.eql_span_list.specs.contracts.store.NodeStore as store
use Rattle.eql_span_list.specs.contracts.node.Node.{the_row as node_row}
use Rattle.eql_span_list.specs.contracts.node.Node as node

-- a fact that two of the things owned show
module _ {M : Type 1} {𝓤 : Ura M} {𝓛 : Logic 𝓤} {K : Type 0} {Γ : List (Item 𝓤)} {G : Goal 𝓤 𝓛.H} where
  pub knows : K → {i j : Item 𝓤} (φ : Type 0) → ent 𝓤 (sep 𝓤 (mean 𝓛 i) (mean 𝓛 j)) (fact 𝓤 φ) → (φ → Seq K 𝓛 (i ∷ j ∷ Γ) G) → Seq K 𝓛 (i ∷ j ∷ Γ) G
  knows t {i} {j} φ h k =
      let shown : Seq K 𝓛 (i ∷ j ∷ Γ) (prop (fact 𝓤 φ)) = use2 𝓛 (raw (fact 𝓤 φ)) h $ keep t (0 ∷ []) $ done t in
      record { prf = fact_use 𝓤 φ shown.prf (λ x. (k x).prf) }

-- the machine value of a store
abbrev pub marker : Val
marker = vstruct (vcons (vstruct vnil) vnil)

module _ (T : RattleType) where
  -- the one field of a store, which takes no bytes
  abbrev pub Marker : RattleType
  Marker = Struct (shape (store.the_type T))

  pub marker_made : {M : Type 1} {𝓤 : Ura M} (𝓛 : Logic 𝓤) → ent 𝓤 (emp 𝓤) (sem 𝓛 (Marker.own_val (tt, tt) (marker ∷ [])))
  marker_made 𝓛 = makes_shadow 𝓛 (Marker.own_val (tt, tt) (marker ∷ [])) (λ vss. (tt, ((λ uss. (tt, tt)), tt))) ((vstruct vnil ∷ [], tt), (refl, ((tt, (refl, tt)), tt)))

module _ (T : RattleType) where
  abbrev pub N : RattleType
  N = node_row T

  module _ {M : Type 1} {𝓤 : Ura M} (𝓛 : Logic 𝓤) (𝓜 : Model 𝓤 𝓛.H) where
    open 𝓛 use {H}

    -- a node that is owned has room of its own
    pub roomy : (x : N.Denot) (b o : ℕ) → ent 𝓤 (sem 𝓛 (part_at N full_share x b o)) (H.room (lone N.mir) b o)
    roomy x b o = qed 𝓛 (‵ (part_at N full_share x b o) ∷ []) {P = H.room (lone N.mir) b o} (
        use1 𝓛 (some (λ (v : Val). ‵ (fat full_share (lone N.mir) b o v) ⊛ ‵ (N.own_val x (v ∷ [])))) (part_out 𝓛 N refl full_share x b o) $ pick ! (λ v. split ! $ use1 𝓛 (‵ (froom (lone N.mir) b o)) (𝓛.laws.at_room (lone N.mir) b o v) $ keep ! (0 ∷ []) $ done !))

    abbrev Opt : Ty
    Opt = layout (option.the_row Ticket.the_row)

    abbrev ν : Sym
    ν = (node.the_type T).name

    abbrev others : Tys
    others = tcons Opt (to_tys (T.mir ++ []))

    abbrev fields : Tys
    fields = tcons Opt others

    -- a node has bytes whatever its value is: those of its first field
    first_room : (b o : ℕ) → ent 𝓤 (H.room (lone N.mir) b o) (H.room Opt b (o + 0))
    first_room b o =
        let First : SProp 𝓤 = H.room Opt b (o + 0) in let Rest : SProp 𝓤 = rooms_at 𝓤 H others (size Opt) b o in let Way : SProp 𝓤 = wand 𝓤 (rooms_at 𝓤 H fields 0 b o) (H.room (ty_struct ν fields) b o) in
        via 𝓤 (sep 𝓤 (sep 𝓤 First Rest) Way) (𝓛.laws.room_fields ν fields b o) (via 𝓤 (sep 𝓤 First Rest) (fst∗ 𝓤 (sep 𝓤 First Rest) Way) (fst∗ 𝓤 First Rest))

    -- no two nodes have room at one place
    pub crowd : (b o : ℕ) → ent 𝓤 (sep 𝓤 (H.room (lone N.mir) b o) (H.room (lone N.mir) b o)) (never 𝓤)
    crowd b o = qed 𝓛 (‵ (froom (lone N.mir) b o) ∷ ‵ (froom (lone N.mir) b o) ∷ []) {P = never 𝓤} (
        use1 𝓛 (‵ (froom Opt b (o + 0))) (first_room b o) $ move ! (1 ∷ []) $ use1 𝓛 (‵ (froom Opt b (o + 0))) (first_room b o) $
        by ! (𝓜.room-room Opt Opt b (o + 0) (o + 0) (o + 0) (omega arith, omega arith) (omega arith, omega arith)))

    crowded : (p : Ptr) (x y : N.Denot) → ent 𝓤 (sep 𝓤 (sem 𝓛 (lies_at N full_share p x)) (sem 𝓛 (lies_at N full_share p y))) (never 𝓤)
    crowded (block_ptr b o) x y = qed 𝓛 (‵ (part_at N full_share x b o) ∷ ‵ (part_at N full_share y b o) ∷ []) {P = never 𝓤} (
        use1 𝓛 (‵ (froom (lone N.mir) b o)) (roomy x b o) $ move ! (1 ∷ []) $ use1 𝓛 (‵ (froom (lone N.mir) b o)) (roomy y b o) $ by ! (crowd b o))
    crowded null_ptr x y = fst∗ 𝓤 (never 𝓤) (never 𝓤)

    -- what cannot be owned at one pointer shows two
    differ : (p q : Ptr) (x y : N.Denot) → ent 𝓤 (sep 𝓤 (sem 𝓛 (node_owns T (placed_node p x))) (sem 𝓛 (node_owns T (placed_node q y)))) (fact 𝓤 (same_pointer p q ≡ false))
    differ p q x y = (elim (same_pointer p q) as (λ z. same_pointer p q ≡ z → ent 𝓤 (sep 𝓤 (sem 𝓛 (node_owns T (placed_node p x))) (sem 𝓛 (node_owns T (placed_node q y)))) (fact 𝓤 (same_pointer p q ≡ false))) [
      | true ↦ λ e. via 𝓤 (never 𝓤) (subst (λ r. ent 𝓤 (sep 𝓤 (sem 𝓛 (node_owns T (placed_node p x))) (sem 𝓛 (node_owns T (placed_node r y)))) (never 𝓤)) (same_pointer-eq p q e)
          (qed 𝓛 (‵ (node_owns T (placed_node p x)) ∷ ‵ (node_owns T (placed_node p y)) ∷ []) {P = never 𝓤} (fsplit ! $ move ! (2 ∷ []) $ fsplit ! $ keep ! (2 ∷ 0 ∷ []) $ by ! (crowded p x y)))) (never_e 𝓤 _)
      | false ↦ λ e. fact_i 𝓤 (same_pointer p q ≡ false) _ e
    ]) refl

    -- a node that is owned beside others lies apart from them
    pub fresh : (p : Ptr) (x : N.Denot) (ns : List (PlacedNode T.Denot)) → ent 𝓤 (sep 𝓤 (sem 𝓛 (node_owns T (placed_node p x))) (sem 𝓛 (nodes_own T ns))) (fact 𝓤 (IsFresh {T = T.Denot} p ns))
    fresh p x [] = fact_i 𝓤 (IsFresh {T = T.Denot} p []) _ tt
    fresh p x (n ∷ ns) = qed 𝓛 (‵ (node_owns T (placed_node p x)) ∷ ‵ (nodes_own T (n ∷ ns)) ∷ []) {P = fact 𝓤 (IsFresh p (n ∷ ns))} (move ! (1 ∷ []) $ fsplit ! $ move ! (2 ∷ 0 ∷ []) $
        knows ! (same_pointer p n.place ≡ false) (differ p n.place x n.node) (λ here. move ! (0 ∷ 2 ∷ []) $ knows ! (IsFresh p ns) (fresh p x ns) (λ rest.
        by ! (fact_i 𝓤 (IsFresh p (n ∷ ns)) _ (here, rest)))))

  module _ {M : Type 1} {𝓤 : Ura M} (𝓛 : Logic 𝓤) where
    abbrev Own : List (PlacedNode T.Denot) → Fml
    Own = nodes_own T

    -- the nodes are one of them and the others
    pub own_cut : (xs : List (PlacedNode T.Denot)) (n : PlacedNode T.Denot) (ys : List (PlacedNode T.Denot)) → ent 𝓤 (sem 𝓛 (Own (xs ++ n ∷ ys))) (sep 𝓤 (sem 𝓛 (node_owns T n)) (sem 𝓛 (Own (xs ++ ys))))
    own_cut [] n ys = id⊢ 𝓤 _
    own_cut (x ∷ xs) n ys = qed 𝓛 (‵ (Own (x ∷ xs ++ n ∷ ys)) ∷ []) ∵ fsplit ! $ move ! (1 ∷ []) $
        use1 𝓛 (‵ (node_owns T n) ⊛ ‵ (Own (xs ++ ys))) (own_cut xs n ys) $ split ! $ move ! (2 ∷ 1 ∷ []) $ fjoin ! $ move ! (1 ∷ []) $ done !

    -- and one and the others are the nodes
    pub own_glue : (xs : List (PlacedNode T.Denot)) (n : PlacedNode T.Denot) (ys : List (PlacedNode T.Denot)) → ent 𝓤 (sep 𝓤 (sem 𝓛 (node_owns T n)) (sem 𝓛 (Own (xs ++ ys)))) (sem 𝓛 (Own (xs ++ n ∷ ys)))
    own_glue [] n ys = id⊢ 𝓤 _
    own_glue (x ∷ xs) n ys = qed 𝓛 (‵ (node_owns T n) ∷ ‵ (Own (x ∷ xs ++ ys)) ∷ []) ∵ move ! (1 ∷ []) $ fsplit ! $ move ! (2 ∷ 1 ∷ []) $
        use2 𝓛 (‵ (Own (xs ++ n ∷ ys))) (own_glue xs n ys) $ move ! (1 ∷ 0 ∷ []) $ fjoin ! $ done !

    pub own_push : (ns : List (PlacedNode T.Denot)) (n : PlacedNode T.Denot) → ent 𝓤 (sep 𝓤 (sem 𝓛 (node_owns T n)) (sem 𝓛 (Own ns))) (sem 𝓛 (Own (ns ++ n ∷ [])))
    own_push ns n = subst (λ ms. ent 𝓤 (sep 𝓤 (sem 𝓛 (node_owns T n)) (sem 𝓛 (Own ms))) (sem 𝓛 (Own (ns ++ n ∷ [])))) (append-nil ns) (own_glue ns n [])

    -- no node lies at null
    pub no_block : (x : N.Denot) → ent 𝓤 (sem 𝓛 (node_owns T (placed_node null_ptr x))) (never 𝓤)
    no_block x = fst∗ 𝓤 (never 𝓤) (sem 𝓛 (frees (bare (lone N.mir)) null_ptr))

    -- what is lent of the nodes is lent of each
    pub lent_seen : (κ : Lft) (xs : List (PlacedNode T.Denot)) (n : PlacedNode T.Denot) (ys : List (PlacedNode T.Denot)) → ent 𝓤 (sem 𝓛 (nodes_lent T (xs ++ n ∷ ys) κ)) (sem 𝓛 (lent_at N n.place n.node κ))
    lent_seen κ [] n ys = fst∗ 𝓤 _ (sem 𝓛 (nodes_lent T ys κ))
    lent_seen κ (x ∷ xs) n ys = via 𝓤 _ (snd∗ 𝓤 (sem 𝓛 (lent_at N x.place x.node κ)) _) (lent_seen κ xs n ys)
