-- `get` shows the node that the store lends.
use Rattle.std.proofs.Common.{◌≡◌, ℕ, List, [], ◌∷◌, ◌++◌, refl, sym, ap, ◌∙◌, subst}
use mir.Syntax.{a_type}
use mir.Val.{Val, vptr}
use mir.MapTy.{inst_fn}
use base.Logic.{SProp, ent, emp, id⊢, never}
use base.Fml.{Lft, Fml, ftrue, fsep, flft}
use prog.Wp.{WpFn}
use types.Kit.{‵, raw, ◌⊛◌, at_ret, ◌$◌, ◌∵◌, !, qed, by, move, keep, drop, done, split, fsplit, fjoin, suffices, use0, use1, rewrite, feq_i, feq_l}
use types.Run.{stop, fld, of_opd, addr, first, blocks, exec, returns, enter}
use types.ByLocal.{alloc_all, pass_all, free_all, look_at, get, get_in, through, sets, sets_last, is, env}
use types.Part.{sub, whole}
use contract.Monad.{fact, fact_i}
use contract.Running.{tables}
use denote.Exit.{yes}
use denote.RattleType.{RattleType, owns}
use denote.Signature.{types_at, plain}
use denote.Builtin.{RefOf}
use denote.RawPtr.{Ptr, null_ptr, ptr_val, in_a_block}
use denote.Opens.{hide, unhide}
use denote.Struct.Lending.{lent_at}
use denote.Steps.{nothing, heard}
use denote.Param.{param, layouts}
use denote.Triple.Walked.{Stays, stay_dropped, walk_of, Goes-dropped}
use Rattle.core.proofs.alloc.Shapes.{after}
use Rattle.std.proofs.raw_atomic.Walks.{proved_at, leaves}
use Rattle.std_alloc.proofs.RcSteps.{word, word-Good}
use Rattle.std_heap.specs.contracts.Global as heap
use Rattle.std_heap.proofs.Global.TheLaws as heap_laws
use Rattle.std_heap.specs.contracts.GlobalAllocator.TheImpl.{ghosts}
use Rattle.eql_span_list.specs.PlacedNode.{PlacedNode, HasNodeAt, HoldsAtNode}
use Rattle.eql_span_list.specs.Ownership.{nodes_lent}
use Rattle.eql_span_list.proofs.Apart.{same_node}
use Rattle.eql_span_list.proofs.Memory.{N, lent_seen}
use Rattle.eql_span_list.proofs.TicketValues.{ticket_had}
use Rattle.eql_span_list.proofs.LooseValues.{LooseBox}
use Rattle.eql_span_list.specs.contracts.node.Ticket as Ticket
use Rattle.eql_span_list.specs.contracts.store.NodeStore as store
use Rattle.eql_span_list.specs.contracts.store.NodeStore.get.{ended, clauses}
use Rattle.eql_span_list.specs.contracts.store.NodeStore.get.Key.{name as #self}
use Rattle.eql_span_list.proofs.store.NodeStore.get.Statement.{statement}
use Rattle.eql_span_list.proofs.store.NodeStore.get.Code as code

pub get_spec : {M : Type 1} → statement M
get_spec 𝓤 𝓛 𝓜 𝓡 wired T L =
    let H = 𝓛.H in let 𝓣 = tables 𝓤 H 𝓜 𝓡 𝓡.env in let R : RattleType = param 0 T in let En = ended T in let inst = layouts (a_type ∷ []) (T, tt) in let fn = inst_fn inst code.function in let c = clauses T 𝓛 𝓜.mem 𝓡.returns in
    let Row : RattleType = store.the_row R in let Z : RattleType = heap.the_row in let LZ = heap_laws.the_row_laws in let Lr : RattleType = LooseBox (N R) Z LZ ghosts in let self = plain (λ _. Row) in let ticket = plain (λ _. Ticket.the_row) in
    let seen = RefOf (0 ∷ []) tt self (λ _. tt) in let hs : Stays En.signature.params En.kept = (stay_dropped seen yes, (stay_dropped ticket yes, tt)) in
    proved_at 𝓛 En hs c 𝓜 𝓡 (Goes-dropped 𝓛 2 seen yes (λ κs x f. refl), (Goes-dropped 𝓛 2 ticket yes (λ κs x f. refl), tt)) (#self inst) fn (code.unfolded 𝓤 H 𝓜 𝓡 wired (T, tt)) (λ z are.
    let κs = z.0.0 in let qs = z.0.1 in let κ : Lft = κs.0 in let others : Fml = fsep (flft κs.1.0 qs.1.0) ftrue in let Post : Val → SProp 𝓤 = (walk_of 𝓛 En hs c).post z in let Run : List Val → SProp 𝓤 = λ ws. WpFn 𝓤 H 𝓣.C 𝓣.Λ fn ws Post in
    let b : ℕ = z.0.3.0.ref_ptr.0 in let o : ℕ = z.0.3.0.ref_ptr.1 in let d : Row.Denot = z.0.3.0.now in let t : Ptr = z.0.3.1.0.pointer in let Asked : Type 0 = HasNodeAt d.nodes t in
    qed 𝓛 (((‵ (flft κ qs.0) ⊛ ‵ others) ⊛ ‵ (owns (types_at En.signature.params κs) z.0.3 z.0.4)) ∷ raw (fact 𝓤 _) ∷ raw (fact 𝓤 Asked) ∷ []) ∵
    move ! (2 ∷ []) $ heard ! Asked (λ asked. let n = asked.1 in
    split ! $ move ! (1 ∷ []) $ fsplit ! $ fsplit ! $ feq_l ! (λ e0. move ! (1 ∷ []) $ fsplit ! $ ticket_had ! z.0.3.1.0 z.0.4.1.0 (λ e1.
    keep ! (1 ∷ 2 ∷ []) $
    let us : List Val = vptr b o ∷ word t ∷ [] in
    suffices ! (Run us) (subst (λ (vs : List Val × List Val). ent 𝓤 (Run us) (Run (vs.0 ++ (vs.1 ++ [])))) (λ i. (sym e0 i, sym e1 i)) (id⊢ 𝓤 (Run us))) $
    enter ! 𝓣.C 𝓣.Λ fn us Post $ alloc_all ! (λ l. pass_all ! refl ((tt, tt), (word-Good [] t, tt)) $ let Ev = env fn.locals l in
    unhide ! $ fsplit ! $ drop ! $ rewrite ! 0 (λ (ns : List (PlacedNode T.Denot)). ‵ (nodes_lent R ns κ)) asked.3 refl $
    use1 𝓛 (‵ (lent_at (N R) n.place n.node κ)) (lent_seen R 𝓛 κ asked.0 n asked.2) $
    in_a_block ! n.place (λ p. lent_at (N R) p n.node κ) (qed 𝓛 (‵ (lent_at (N R) null_ptr n.node κ) ∷ []) {P = never 𝓤} (fsplit ! $ keep ! (0 ∷ []) $ done !)) (λ pb po ep.
    let v : Val = vptr pb po in
    fsplit ! $ drop ! $ hide ! $ feq_i ! (List Val) (v ∷ []) (v ∷ []) refl $ fjoin ! $
    first ! $ blocks ! $ sets ! (is ! (of_opd ! (get_in ! (fld ! refl (stop !)) (sub ! 0 refl (whole !)))) (ap ptr_val (sym asked.4 ∙ ep))) refl (tt, tt) $
    sets_last ! (addr ! (through ! refl (stop !))) refl (tt, tt) $ exec ! 𝓣.C 𝓣.Λ Ev (after 1 fn.body) (at_ret Ev Post) $ sets ! (of_opd ! (get ! refl)) refl (tt, tt) $
    let Told : Type 0 = HoldsAtNode d.nodes t (λ _ m _. n.node ≡ m.node) in
    use0 𝓛 (raw (fact 𝓤 Told)) (fact_i 𝓤 Told (emp 𝓤) (λ us m ws e at. ap (λ (k : PlacedNode T.Denot). k.node) (same_node d.nodes asked.0 n asked.2 us m ws d.apart asked.3 e (asked.4 ∙ sym at)).1)) $
    nothing ! $ nothing ! $ fjoin ! $ nothing ! $ fjoin ! $
    returns ! (look_at ! 0 refl) $ free_all ! refl $ keep ! (3 ∷ 0 ∷ 2 ∷ 1 ∷ []) $ by ! (leaves 𝓛 En hs c z v (record { ref_ptr = (pb, po); now = n.node }) (tt, (tt, tt)) (tt, (tt, tt)))))))))
