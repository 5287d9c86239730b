-- `take` gives the block out, and keeps the others in order.
use Rattle.std.proofs.Common.{◌≡◌, ℕ, List, [], ◌∷◌, ◌++◌, refl, sym, ap, ◌∙◌, subst}
use mir.Syntax.{a_type}
use mir.Val.{Val, vptr}
use mir.MapTy.{inst_fn}
use base.Logic.{SProp, ent, emp, id⊢}
use base.Fml.{Lft, Fml, ftrue, fsep, flft}
use prog.Wp.{WpFn}
use types.Kit.{‵, raw, ◌⊛◌, ◌$◌, ◌∵◌, !, qed, by, move, keep, split, join, fsplit, fsplit3, fjoin, fjoin3, suffices, use0, use1, rewrite, feq_i, feq_l}
use types.Run.{stop, fld, of_opd, no_more, and_then, returns, enter}
use types.ByLocal.{alloc_all, pass_all, free_all, look_at, get, get_in, sets, is}
use types.Part.{agg, sub, whole}
use contract.Monad.{fact, fact_i}
use contract.Running.{tables}
use denote.Exit.{yes}
use denote.RattleType.{RattleType, owns}
use denote.Signature.{types_at, plain}
use denote.RawPtr.{Ptr, block_ptr, ptr_val, in_a_block}
use denote.Steps.{nothing, heard, opens, closes}
use denote.Param.{param, layouts}
use denote.Triple.Walked.{Stays, stay_dropped, stay_ref, walk_of, Goes-dropped, Goes-ref}
use Rattle.core.proofs.alloc.Calls.{handle_tells}
use Rattle.std.proofs.raw_atomic.Walks.{proved_at, leaves}
use Rattle.std_alloc.proofs.RcSteps.{word, word-Good}
use Rattle.std_heap.specs.contracts.Global as heap
use Rattle.std_heap.proofs.Global.TheLaws as heap_laws
use Rattle.std_heap.specs.contracts.GlobalAllocator.TheImpl.{ghosts}
use Rattle.eql_span_list.specs.PlacedNode.{PlacedNode, placed_node, IsApart, HasNodeAt, HoldsAtNode, places}
use Rattle.eql_span_list.specs.Ownership.{node_owns, nodes_own}
use Rattle.eql_span_list.proofs.Apart.{apart_without, same_node}
use Rattle.eql_span_list.proofs.Memory.{N, own_cut, no_block}
use Rattle.eql_span_list.proofs.TicketValues.{ticket_had}
use Rattle.eql_span_list.proofs.LooseValues.{both, LooseBox, loose_good, loose_in, al}
use Rattle.eql_span_list.specs.contracts.node.Ticket as Ticket
use Rattle.eql_span_list.specs.contracts.store.NodeStore as store
use Rattle.eql_span_list.specs.contracts.store.NodeStore.take.{ended, clauses}
use Rattle.eql_span_list.specs.contracts.store.NodeStore.take.Key.{name as #self}
use Rattle.eql_span_list.proofs.store.NodeStore.take.Statement.{statement}
use Rattle.eql_span_list.proofs.store.NodeStore.take.Code as code

pub take_spec : {M : Type 1} → statement M
take_spec 𝓤 𝓛 𝓜 𝓡 wired T L =
    let H = 𝓛.H in let 𝓣 = tables 𝓤 H 𝓜 𝓡 𝓡.env in let R : RattleType = param 0 T in let En = ended T in let inst = layouts (a_type ∷ []) (T, tt) in let fn = inst_fn inst code.function in let c = clauses T 𝓛 𝓜.mem 𝓡.returns in
    let Row : RattleType = store.the_row R in let Z : RattleType = heap.the_row in let LZ = heap_laws.the_row_laws in let Lr : RattleType = LooseBox (N R) Z LZ ghosts in let self = plain (λ _. Row) in let ticket = plain (λ _. Ticket.the_row) in
    let handle = plain (λ _. Z) in let hs : Stays En.signature.params En.kept = (stay_ref (0 ∷ []) tt self, (stay_dropped handle yes, (stay_dropped ticket yes, tt))) in
    proved_at 𝓛 En hs c 𝓜 𝓡 (Goes-ref 𝓛 2 0 tt self, (Goes-dropped 𝓛 2 handle yes (λ κs x f. refl), (Goes-dropped 𝓛 2 ticket yes (λ κs x f. refl), tt))) (#self inst) fn (code.unfolded 𝓤 H 𝓜 𝓡 wired (T, tt)) (λ z are.
    let κs = z.0.0 in let qs = z.0.1 in let κ : Lft = κs.0 in let others : Fml = fsep (flft κs.1.0 qs.1.0) ftrue in let Post : Val → SProp 𝓤 = (walk_of 𝓛 En hs c).post z in let Run : List Val → SProp 𝓤 = λ ws. WpFn 𝓤 H 𝓣.C 𝓣.Λ fn ws Post in
    let b : ℕ = z.0.3.0.ref_ptr.0 in let o : ℕ = z.0.3.0.ref_ptr.1 in let d : Row.Denot = z.0.3.0.now in let a : Z.Denot = z.0.3.1.0 in let t : Ptr = z.0.3.1.1.0.pointer in let Asked : Type 0 = HasNodeAt d.nodes t in
    qed 𝓛 (((‵ (flft κ qs.0) ⊛ ‵ others) ⊛ ‵ (owns (types_at En.signature.params κs) z.0.3 z.0.4)) ∷ raw (fact 𝓤 _) ∷ raw (fact 𝓤 Asked) ∷ []) ∵
    move ! (2 ∷ []) $ heard ! Asked (λ asked. let xs = asked.0 in let n = asked.1 in let ys = asked.2 in
    split ! $ move ! (1 ∷ []) $ fsplit ! $ fsplit3 ! $ feq_l ! (λ e0. move ! (2 ∷ []) $ fsplit ! $ handle_tells (al (N R) Z LZ ghosts) ! a z.0.4.1.0 (λ h e1 fits. move ! (1 ∷ []) $ fsplit ! $ ticket_had ! z.0.3.1.1.0 z.0.4.1.1.0 (λ e2.
    -- [nothing; the handle; the names, in two; the tokens; ..]
    move ! (4 ∷ []) $ split ! $ keep ! (4 ∷ 5 ∷ 0 ∷ 1 ∷ 3 ∷ []) $
    let us : List Val = vptr b o ∷ h ∷ word t ∷ [] in
    suffices ! (Run us) (subst (λ (vs : List Val × List Val × List Val). ent 𝓤 (Run us) (Run (vs.0 ++ (vs.1 ++ (vs.2 ++ []))))) (λ i. (sym e0 i, sym e1 i, sym e2 i)) (id⊢ 𝓤 (Run us))) $
    enter ! 𝓣.C 𝓣.Λ fn us Post $ alloc_all ! (λ l. pass_all ! refl ((tt, tt), (fits, (word-Good [] t, tt))) $
    opens ! tt Row {h = d} b o (λ vs. move ! (1 ∷ []) $ fsplit ! $ move ! (1 ∷ []) $ rewrite ! 0 (λ (ns : List (PlacedNode T.Denot)). ‵ (nodes_own R ns)) asked.3 refl $
    use1 𝓛 (‵ (node_owns R n) ⊛ ‵ (nodes_own R (xs ++ ys))) (own_cut R 𝓛 xs n ys) $ split ! $
    in_a_block ! n.place (λ p. node_owns R (placed_node p n.node)) (no_block R 𝓛 n.node) (λ pb po ep.
    -- [the block; the others; the marker; the cell; the open borrow, in three entries; the other token; the handle]
    let p : Ptr = block_ptr pb po in let w : Val = both (vptr pb po) h in let typed = loose_good (N R) Z LZ ghosts pb po h fits in
    let new : Row.Denot = record { marker = d.marker; nodes = xs ++ ys; apart = apart_without xs n ys (subst (λ ns. IsApart (places ns)) asked.3 d.apart) } in
    let out : Lr.Denot = record { pointer = p; alloc = a; value = n.node } in
    move ! (2 ∷ 1 ∷ []) $ fjoin ! $ move ! (2 ∷ 0 ∷ 3 ∷ 4 ∷ 5 ∷ []) $ closes ! tt Row new vs b o $
    -- [the names, in two; the token; the block; the other token; the handle]
    feq_i ! (List Val) z.0.4.0 (vptr b o ∷ []) e0 $ fjoin3 ! $ nothing ! $ nothing ! $ fjoin ! $ nothing ! $ fjoin ! $ move ! (1 ∷ 0 ∷ []) $ fjoin ! $ move ! (1 ∷ 3 ∷ []) $ join ! $ move ! (2 ∷ 3 ∷ []) $ loose_in (N R) Z LZ ghosts ! pb po h a n.node $
    sets ! (is ! (of_opd ! (get_in ! (fld ! refl (stop !)) (sub ! 0 refl (whole !)))) (ap ptr_val (sym asked.4 ∙ ep))) refl (tt, tt) $
    sets ! (agg ! (and_then ! (get ! refl) (and_then ! (get ! refl) (no_more !)))) refl typed $
    let Told : Type 0 = HoldsAtNode d.nodes t (λ us n ws. (new.nodes ≡ us ++ ws) × (out.value ≡ n.node)) in
    use0 𝓛 (raw (fact 𝓤 Told)) (fact_i 𝓤 Told (emp 𝓤) (λ us m ws e at. let same = same_node d.nodes xs n ys us m ws d.apart asked.3 e (asked.4 ∙ sym at) in ((λ i. same.0 i ++ same.2 i), ap (λ (k : PlacedNode T.Denot). k.node) same.1))) $
    returns ! (look_at ! 0 refl) $ free_all ! refl $ keep ! (2 ∷ 3 ∷ 1 ∷ 0 ∷ []) $ by ! (leaves 𝓛 En hs c z w out (new, (tt, (tt, tt))) (tt, (tt, (tt, tt))))))))))))
