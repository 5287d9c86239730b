-- `get_mut` lends a node whole, and the store ends as the same one with the last value that was written there.
use Rattle.std.proofs.Common.{◌≡◌, ℕ, List, [], ◌∷◌, ◌++◌, refl, sym, ap, ◌∙◌, subst}
use mir.Syntax.{a_type, named}
use mir.Raw.{raw as bare}
use mir.Val.{Val, vptr}
use mir.MapTy.{inst_fn}
use seplogic.Ra.Ura.{Ura}
use base.Logic.{SProp, ent, sep, emp, id⊢, never}
use base.Fraction.{full_share}
use base.Fml.{Lft, GName, Share, Fml, ftrue, fsep, flft}
use prog.Wp.{WpFn}
use types.Logic.{Logic, sem}
use types.Kit.{‵, raw, some, later, pick, await, group, split3, fpack, ◌⊛◌, at_ret, ◌$◌, ◌∵◌, !, qed, by, move, keep, done, split, join, fsplit, fsplit3, fjoin, fjoin3, suffices, use0, use1, use2, rewrite, feq_l}
use types.Run.{stop, fld, of_opd, addr, first, blocks, exec, returns, enter}
use types.ByLocal.{alloc_all, pass_all, free_all, look_at, get, get_in, through, sets, sets_last, is, env}
use types.Part.{sub, whole}
use contract.Monad.{fact, fact_i}
use contract.Running.{tables}
use denote.Exit.{yes, no}
use denote.RattleType.{RattleType, owns}
use denote.Signature.{types_at, plain, mut_ref_to}
use denote.Memory.{lone, mem, cell_at, part_at, part_of}
use denote.Ref.{MutBor, MutRef}
use denote.Follow.{follows, Part, lends_Part}
use denote.RawPtr.{lies_at, Ptr, block_ptr, ptr_val, in_a_block}
use denote.Steps.{nothing, heard, opens}
use denote.Param.{param, layouts}
use denote.Triple.Walked.{Stays, stay_dropped, walk_of, Goes-dropped, Goes-spent_ref}
use Rattle.core.proofs.alloc.Shapes.{after}
use Rattle.std.proofs.raw_atomic.Walks.{proved_at, leaves}
use Rattle.std_alloc.proofs.RcSteps.{word, word-Good}
use Rattle.std_heap.specs.contracts.Global as heap
use Rattle.std_heap.proofs.Global.TheLaws as heap_laws
use Rattle.std_heap.specs.contracts.GlobalAllocator.TheImpl.{ghosts}
use Rattle.eql_span_list.specs.PlacedNode.{PlacedNode, placed_node, IsApart, HasNodeAt, HoldsAtNode, places, with_node}
use Rattle.eql_span_list.specs.Lends.{with_at}
use Rattle.eql_span_list.specs.Ownership.{frees, node_owns, nodes_own}
use Rattle.eql_span_list.proofs.Apart.{with_node-cut, same_node}
use Rattle.eql_span_list.proofs.Memory.{N, Marker, own_cut, own_glue}
use Rattle.eql_span_list.proofs.TicketValues.{ticket_had}
use Rattle.eql_span_list.proofs.LooseValues.{LooseBox}
use Rattle.eql_span_list.specs.contracts.node.Ticket as Ticket
use Rattle.eql_span_list.specs.contracts.store.NodeStore as store
use Rattle.eql_span_list.specs.contracts.store.NodeStore.get_mut.{ended, clauses}
use Rattle.eql_span_list.specs.contracts.store.NodeStore.get_mut.Key.{name as #self}
use Rattle.eql_span_list.proofs.store.NodeStore.get_mut.Statement.{statement}
use Rattle.eql_span_list.proofs.store.NodeStore.get_mut.Code as code

module _ (R : RattleType) {M : Type 1} {𝓤 : Ura M} (𝓛 : Logic 𝓤) (d : (store.the_row R).Denot) (b o : ℕ) (xs : List (PlacedNode R.Denot)) (n : PlacedNode R.Denot) (ys : List (PlacedNode R.Denot)) (vs : List Val) where
  -- all but the node
  abbrev Rest : Fml
  Rest = fsep (frees (bare (lone (N R).mir)) n.place) (fsep (nodes_own R (xs ++ ys)) (fsep ((Marker R).own_val (tt, tt) vs) (cell_at full_share (store.the_row R).mir vs b o)))

  -- with the node written, the rest makes the store again
  back : (t : Ptr) (pb po : ℕ) → d.nodes ≡ xs ++ n ∷ ys → n.place ≡ t → n.place ≡ block_ptr pb po
      → (w : (N R).Denot) → ent 𝓤 (sep 𝓤 (sem 𝓛 ((mem (N R)).own_at w pb po)) (sem 𝓛 Rest)) (sem 𝓛 ((mem (store.the_row R)).own_at (with_at d t w) b o))
  unfolding part_of
  back t pb po cut at e w =
      let m : PlacedNode R.Denot = placed_node n.place w in
      let written : with_node t w d.nodes ≡ xs ++ m ∷ ys = (λ i. with_node (sym at i) w (cut i)) ∙ with_node-cut xs n ys w (subst (λ ns. IsApart (places ns)) cut d.apart) in
      qed 𝓛 (‵ (part_at (N R) full_share w pb po) ∷ ‵ Rest ∷ []) ∵ rewrite ! 0 (λ (p : Ptr). ‵ (lies_at (N R) full_share p w)) (sym e) refl $
      move ! (1 ∷ []) $ fsplit ! $ move ! (2 ∷ 0 ∷ []) $ fjoin ! $ move ! (1 ∷ []) $ fsplit3 ! $ move ! (3 ∷ 0 ∷ []) $
      use2 𝓛 (‵ (nodes_own R (xs ++ m ∷ ys))) (own_glue R 𝓛 xs m ys) $ rewrite ! 0 (λ (ns : List (PlacedNode R.Denot)). ‵ (nodes_own R ns)) (sym written) refl $
      move ! (1 ∷ 0 ∷ []) $ fjoin ! $ move ! (1 ∷ 0 ∷ []) $ fjoin ! $
      fpack ! (List Val) (λ us. fsep (cell_at full_share (store.the_row R).mir us b o) ((store.the_row R).own_val (with_at d t w) us)) vs $ done !

pub get_mut_spec : {M : Type 1} → statement M
get_mut_spec 𝓤 𝓛 𝓜 𝓡 wired T L =
    let H = 𝓛.H in let 𝓣 = tables 𝓤 H 𝓜 𝓡 𝓡.env in let R : RattleType = param 0 T in let En = ended T in let inst = layouts (a_type ∷ []) (T, tt) in let fn = inst_fn inst code.function in let c = clauses T 𝓛 𝓜.mem 𝓡.returns in
    let Row : RattleType = store.the_row R in let Z : RattleType = heap.the_row in let LZ = heap_laws.the_row_laws in let Lr : RattleType = LooseBox (N R) Z LZ ghosts in let self = plain (λ _. Row) in let ticket = plain (λ _. Ticket.the_row) in
    let hs : Stays En.signature.params En.kept = (stay_dropped (mut_ref_to (0 ∷ []) tt self) no, (stay_dropped ticket yes, tt)) in
    proved_at 𝓛 En hs c 𝓜 𝓡 (Goes-spent_ref 𝓛 2 (0 ∷ []) tt self, (Goes-dropped 𝓛 2 ticket yes (λ κs x f. refl), tt)) (#self inst) fn (code.unfolded 𝓤 H 𝓜 𝓡 wired (T, tt)) (λ z are.
    let κs = z.0.0 in let qs = z.0.1 in let κ : Lft = κs.0 in let q : Share = qs.0 in let others : Fml = fsep (flft κs.1.0 qs.1.0) ftrue in let Post : Val → SProp 𝓤 = (walk_of 𝓛 En hs c).post z in let Run : List Val → SProp 𝓤 = λ ws. WpFn 𝓤 H 𝓣.C 𝓣.Λ fn ws Post in
    let b : ℕ = z.0.3.0.ref_ptr.0 in let o : ℕ = z.0.3.0.ref_ptr.1 in let γ : GName = z.0.3.0.ghost_name in let d : Row.Denot = z.0.3.0.now in let t : Ptr = z.0.3.1.0.pointer in let Asked : Type 0 = HasNodeAt d.nodes t in let coded = Row.coded.code d in
    qed 𝓛 (((‵ (flft κ q) ⊛ ‵ others) ⊛ ‵ (owns (types_at En.signature.params κs) z.0.3 z.0.4)) ∷ raw (fact 𝓤 _) ∷ raw (fact 𝓤 Asked) ∷ []) ∵
    move ! (2 ∷ []) $ heard ! Asked (λ asked. let xs = asked.0 in let n = asked.1 in let ys = asked.2 in
    split ! $ move ! (1 ∷ []) $ fsplit ! $ fsplit3 ! $ feq_l ! (λ e0. move ! (2 ∷ []) $ fsplit ! $ ticket_had ! z.0.3.1.0 z.0.4.1.0 (λ e1.
    move ! (3 ∷ []) $ split ! $ keep ! (3 ∷ 4 ∷ 0 ∷ 1 ∷ []) $
    let us : List Val = vptr b o ∷ word t ∷ [] in
    suffices ! (Run us) (subst (λ (vs : List Val × List Val). ent 𝓤 (Run us) (Run (vs.0 ++ (vs.1 ++ [])))) (λ i. (sym e0 i, sym e1 i)) (id⊢ 𝓤 (Run us))) $
    enter ! 𝓣.C 𝓣.Λ fn us Post $ alloc_all ! (λ l. pass_all ! refl ((tt, tt), (word-Good [] t, tt)) $ let Ev = env fn.locals l in
    opens ! tt Row {h = d} b o (λ vs. move ! (1 ∷ []) $ fsplit ! $ move ! (1 ∷ []) $ rewrite ! 0 (λ (ns : List (PlacedNode T.Denot)). ‵ (nodes_own R ns)) asked.3 refl $
    use1 𝓛 (‵ (node_owns R n) ⊛ ‵ (nodes_own R (xs ++ ys))) (own_cut R 𝓛 xs n ys) $ split ! $ fsplit ! $
    in_a_block ! n.place (λ p. lies_at (N R) full_share p n.node) (id⊢ 𝓤 (never 𝓤)) (λ pb po e.
    let way = back R 𝓛 d b o xs n ys vs t pb po asked.3 asked.4 e in let rest = sem 𝓛 (Rest R 𝓛 d b o xs n ys vs) in
    -- [the node; its right to be freed; the others; the marker; the cell; the open borrow, in three entries; the other token]
    first ! $ blocks ! $ sets ! (is ! (of_opd ! (get_in ! (fld ! refl (stop !)) (sub ! 0 refl (whole !)))) (ap ptr_val (sym asked.4 ∙ e))) refl (tt, tt) $
    sets_last ! (addr ! (through ! refl (stop !))) refl (tt, tt) $ exec ! 𝓣.C 𝓣.Λ Ev (after 1 fn.body) (at_ret Ev Post) $ sets ! (of_opd ! (get ! refl)) refl (tt, tt) $
    move ! (2 ∷ 3 ∷ 4 ∷ []) $ fjoin3 ! $ move ! (2 ∷ 0 ∷ []) $ fjoin ! $ move ! (2 ∷ 3 ∷ 4 ∷ 1 ∷ 0 ∷ []) $ group ! 5 $
    use1 𝓛 (later (some (λ (δ : GName). raw (Part 𝓛 Row (N R) (with_at d t) (named 0) κ q b o pb po γ rest way n.node δ))))
    (lends_Part 𝓛 Row (N R) (with_at d t) (named 0) κ q b o pb po γ rest way coded coded n.node) $ await ! tt $ pick ! (λ δ.
    let r : MutBor (N R).Denot = record { ref_ptr = (pb, po); ghost_name = δ; now = n.node } in let v : Val = vptr pb po in
    use1 𝓛 (‵ ((MutRef (named 0) κ (N R)).own_val r (v ∷ [])) ⊛ ‵ (flft κ q) ⊛ ‵ (follows Row (N R) γ δ (with_at d t))) (id⊢ 𝓤 _) $ split3 ! $
    let Told : Type 0 = HoldsAtNode d.nodes t (λ _ m _. n.node ≡ m.node) in
    use0 𝓛 (raw (fact 𝓤 Told)) (fact_i 𝓤 Told (emp 𝓤) (λ us m ws ec at. ap (λ (k : PlacedNode T.Denot). k.node) (same_node d.nodes xs n ys us m ws d.apart asked.3 ec (asked.4 ∙ sym at)).1)) $
    move ! (3 ∷ 0 ∷ []) $ join ! $ move ! (2 ∷ 3 ∷ []) $ join ! $ nothing ! $ nothing ! $ fjoin ! $ nothing ! $ fjoin ! $
    -- [nothing of the parameters; the tokens; what follows; the reference]
    returns ! (look_at ! 0 refl) $ free_all ! refl $ keep ! (1 ∷ 0 ∷ 3 ∷ 2 ∷ []) $ by ! (leaves 𝓛 En hs c z v r (tt, (tt, tt)) (tt, (tt, tt)))))))))))
