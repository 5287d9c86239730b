-- `put` takes the block in as the last: it lies apart from the others, since both are owned.
use Rattle.std.proofs.Common.{◌≡◌, ℕ, List, [], ◌∷◌, ◌++◌, refl, sym, subst}
use mir.Syntax.{a_type}
use mir.Val.{Val, vptr}
use mir.MapTy.{inst_fn}
use base.Logic.{SProp, ent, emp, id⊢}
use base.Fml.{Lft, Fml, ftrue, fsep, flft}
use prog.Wp.{WpFn}
use types.Kit.{‵, raw, ◌⊛◌, ◌$◌, ◌∵◌, !, qed, by, move, keep, split, join, fsplit, fsplit3, fjoin, fjoin3, suffices, use0, use2, feq_i, feq_l}
use types.Run.{stop, fld, of_opd, no_more, and_then, returns, enter}
use types.ByLocal.{alloc_all, pass_all, free_all, look_at, get, get_in, sets}
use types.Part.{agg, sub, whole}
use contract.Monad.{fact, fact_i}
use contract.Running.{tables}
use denote.Exit.{no}
use denote.RattleType.{RattleType, owns}
use denote.Signature.{types_at, plain}
use denote.RawPtr.{Ptr, block_ptr}
use denote.Steps.{nothing, opens, closes}
use denote.Param.{param, layouts}
use denote.Triple.Walked.{Stays, stay_dropped, stay_ref, walk_of, Goes-ref}
use Rattle.core.proofs.alloc.Calls.{Goes-blank}
use Rattle.std.proofs.raw_atomic.Walks.{proved_at, leaves}
use Rattle.std_alloc.proofs.RcSteps.{word, word-Good}
use Rattle.std_heap.specs.contracts.Global as heap
use Rattle.std_heap.proofs.Global.TheLaws as heap_laws
use Rattle.std_heap.specs.contracts.GlobalAllocator.TheImpl.{ghosts}
use Rattle.eql_span_list.specs.PlacedNode.{PlacedNode, placed_node}
use Rattle.eql_span_list.specs.Ownership.{nodes_own}
use Rattle.eql_span_list.proofs.Apart.{IsFresh, apart_push}
use Rattle.eql_span_list.proofs.Memory.{N, knows, fresh, own_push}
use Rattle.eql_span_list.proofs.TicketValues.{ticket_made}
use Rattle.eql_span_list.proofs.LooseValues.{both, LooseBox, loose_good, loose_out}
use Rattle.eql_span_list.specs.contracts.store.NodeStore as store
use Rattle.eql_span_list.specs.contracts.store.NodeStore.put.{ended, clauses}
use Rattle.eql_span_list.specs.contracts.store.NodeStore.put.Key.{name as #self}
use Rattle.eql_span_list.proofs.store.NodeStore.put.Statement.{statement}
use Rattle.eql_span_list.proofs.store.NodeStore.put.Code as code

pub put_spec : {M : Type 1} → statement M
put_spec 𝓤 𝓛 𝓜 𝓡 wired T L =
    let H = 𝓛.H in let 𝓣 = tables 𝓤 H 𝓜 𝓡 𝓡.env in let R : RattleType = param 0 T in let En = ended T in let inst = layouts (a_type ∷ []) (T, tt) in let fn = inst_fn inst code.function in let c = clauses T 𝓛 𝓜.mem 𝓡.returns in
    let Row : RattleType = store.the_row R in let Z : RattleType = heap.the_row in let LZ = heap_laws.the_row_laws in let Lr : RattleType = LooseBox (N R) Z LZ ghosts in let self = plain (λ _. Row) in
    let loose = plain (λ _. Lr) in let hs : Stays En.signature.params En.kept = (stay_ref (0 ∷ []) tt self, (stay_dropped loose no, tt)) in
    proved_at 𝓛 En hs c 𝓜 𝓡 (Goes-ref 𝓛 2 0 tt self, (Goes-blank 𝓛 2 loose no (λ κs x f. tt), tt)) (#self inst) fn (code.unfolded 𝓤 H 𝓜 𝓡 wired (T, tt)) (λ z are.
    let κs = z.0.0 in let qs = z.0.1 in let κ : Lft = κs.0 in let others : Fml = fsep (flft κs.1.0 qs.1.0) ftrue in let Post : Val → SProp 𝓤 = (walk_of 𝓛 En hs c).post z in let Run : List Val → SProp 𝓤 = λ ws. WpFn 𝓤 H 𝓣.C 𝓣.Λ fn ws Post in
    let b : ℕ = z.0.3.0.ref_ptr.0 in let o : ℕ = z.0.3.0.ref_ptr.1 in let d : Row.Denot = z.0.3.0.now in let block : Lr.Denot = z.0.3.1.0 in
    qed 𝓛 (((‵ (flft κ qs.0) ⊛ ‵ others) ⊛ ‵ (owns (types_at En.signature.params κs) z.0.3 z.0.4)) ∷ raw ((c κs z.0.3).requires z.1) ∷ []) ∵
    split ! $ move ! (1 ∷ []) $ fsplit ! $ fsplit3 ! $ feq_l ! (λ e0. move ! (2 ∷ []) $ fsplit ! $ loose_out (N R) Z LZ ghosts ! block z.0.4.1.0 (λ pb po h at e1 fits.
    let p : Ptr = block_ptr pb po in let n : PlacedNode T.Denot = placed_node p block.value in let w : Val = both (vptr pb po) h in
    move ! (5 ∷ []) $ split ! $ keep ! (5 ∷ 6 ∷ 0 ∷ 1 ∷ 2 ∷ []) $
    suffices ! (Run (vptr b o ∷ w ∷ [])) (subst (λ (us : List Val × List Val). ent 𝓤 (Run (vptr b o ∷ w ∷ [])) (Run (us.0 ++ (us.1 ++ [])))) (λ i. (sym e0 i, sym e1 i)) (id⊢ 𝓤 (Run (vptr b o ∷ w ∷ [])))) $
    enter ! 𝓣.C 𝓣.Λ fn (vptr b o ∷ w ∷ []) Post $ alloc_all ! (λ l. pass_all ! refl ((tt, tt), (loose_good (N R) Z LZ ghosts pb po h fits, tt)) $
    opens ! tt Row {h = d} b o (λ vs. move ! (1 ∷ []) $ fsplit ! $ move ! (7 ∷ 1 ∷ []) $
    -- [the block; the others; the marker; the cell; the open borrow, in three entries; the other token]
    knows ! (IsFresh p d.nodes) (fresh R 𝓛 𝓜 p block.value d.nodes) (λ apart.
    let new : Row.Denot = record { marker = d.marker; nodes = d.nodes ++ n ∷ []; apart = apart_push d.nodes n apart d.apart } in
    use2 𝓛 (‵ (nodes_own R (d.nodes ++ n ∷ []))) (own_push R 𝓛 d.nodes n) $ move ! (1 ∷ 0 ∷ []) $ fjoin ! $ move ! (1 ∷ 0 ∷ []) $ closes ! tt Row new vs b o $
    -- [the names, in two; the token; the other token]
    feq_i ! (List Val) z.0.4.0 (vptr b o ∷ []) e0 $ fjoin3 ! $ nothing ! $ nothing ! $ fjoin ! $ move ! (1 ∷ 0 ∷ []) $ fjoin ! $ move ! (1 ∷ 2 ∷ []) $ join ! $
    sets ! (of_opd ! (get_in ! (fld ! refl (stop !)) (sub ! 0 refl (whole !)))) refl (tt, tt) $ sets ! (of_opd ! (get ! refl)) refl (tt, tt) $
    sets ! (agg ! (and_then ! (get ! refl) (no_more !))) refl (word-Good [] p) $ ticket_made ! p $
    use0 𝓛 (raw (fact 𝓤 (new.nodes ≡ new.nodes))) (fact_i 𝓤 (new.nodes ≡ new.nodes) (emp 𝓤) refl) $
    returns ! (look_at ! 0 refl) $ free_all ! refl $ keep ! (2 ∷ 3 ∷ 1 ∷ 0 ∷ []) $ by ! (leaves 𝓛 En hs c z (word p) (record { pointer = p }) (new, (tt, tt)) (tt, (tt, tt)))))))))
