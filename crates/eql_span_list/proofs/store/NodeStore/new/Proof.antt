-- `new` makes a store that owns nothing.
use Rattle.std.proofs.Common.{◌≡◌, [], ◌∷◌, refl}
use mir.Syntax.{a_type}
use mir.Val.{Val}
use mir.MapTy.{inst_fn}
use base.Logic.{SProp, emp}
use base.Fml.{ftrue, flft}
use types.Kit.{‵, raw, ◌⊛◌, ◌$◌, ◌∵◌, !, qed, by, keep, split, fjoin, use0}
use types.Run.{no_more, and_then, returns, enter}
use types.ByLocal.{alloc_all, pass_all, free_all, look_at, get, sets}
use types.Part.{agg}
use contract.Monad.{fact, fact_i}
use contract.Running.{tables}
use denote.RattleType.{RattleType}
use denote.Steps.{nothing}
use denote.Param.{param, layouts}
use denote.Triple.Walked.{Stays, walk_of}
use Rattle.std.proofs.raw_atomic.Walks.{proved, leaves}
use Rattle.eql_span_list.proofs.Apart.{apart_none}
use Rattle.eql_span_list.proofs.Memory.{marker, Marker, marker_made}
use Rattle.eql_span_list.specs.contracts.store.NodeStore as store
use Rattle.eql_span_list.specs.contracts.store.NodeStore.new.{ended, clauses}
use Rattle.eql_span_list.specs.contracts.store.NodeStore.new.Key.{name as #self}
use Rattle.eql_span_list.proofs.store.NodeStore.new.Statement.{statement}
use Rattle.eql_span_list.proofs.store.NodeStore.new.Code as code

pub new_spec : {M : Type 1} → statement M
new_spec 𝓤 𝓛 𝓜 𝓡 wired T L =
    let H = 𝓛.H in let 𝓣 = tables 𝓤 H 𝓜 𝓡 𝓡.env in let R : RattleType = param 0 T in let En = ended T in let inst = layouts (a_type ∷ []) (T, tt) in let fn = inst_fn inst code.function in
    let Row : RattleType = store.the_row R in let c = clauses T 𝓛 𝓜.mem 𝓡.returns in let hs : Stays En.signature.params En.kept = tt in
    proved 𝓛 En hs c 𝓜 𝓡 tt (#self inst) fn (code.unfolded 𝓤 H 𝓜 𝓡 wired (T, tt)) (λ κs. tt) (λ κs. tt) (λ κs qs bounds a gh are.
    let y : (walk_of 𝓛 En hs c).Ghost = ((κs, qs, bounds, a, tt), gh) in let Post : Val → SProp 𝓤 = (walk_of 𝓛 En hs c).post y in let new : Row.Denot = record { marker = record {}; nodes = []; apart = apart_none T.Denot } in
    qed 𝓛 (((‵ (flft κs.0 qs.0) ⊛ ‵ ftrue) ⊛ ‵ ftrue) ∷ raw ((c κs a).requires gh) ∷ []) ∵ split ! $ keep ! (0 ∷ []) $
    enter ! 𝓣.C 𝓣.Λ fn [] Post $ alloc_all ! (λ l. pass_all ! refl tt $
    sets ! (agg ! (no_more !)) refl (tt, tt) $ sets ! (agg ! (and_then ! (get ! refl) (no_more !))) refl ((tt, (tt, tt))) $
    use0 𝓛 (raw (fact 𝓤 (new.nodes ≡ []))) (fact_i 𝓤 (new.nodes ≡ []) (emp 𝓤) refl) $
    nothing ! $ use0 𝓛 (‵ ((Marker R).own_val (tt, tt) (marker ∷ []))) (marker_made R 𝓛) $ fjoin ! $ nothing ! $
    returns ! (look_at ! 0 refl) $ free_all ! refl $ keep ! (3 ∷ 0 ∷ 1 ∷ 2 ∷ []) $ by ! (leaves 𝓛 En hs c y marker new tt tt)))
