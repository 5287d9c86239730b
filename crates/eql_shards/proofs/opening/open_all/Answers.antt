use Rattle.std.proofs.Common.{◌≡◌, ◌∷◌, ◌∙◌, [], refl, ap, sym, subst, arith, map, length, length-append}
use Rattle.std.specs.Prelude.{All}
use Rattle.std.proofs.lemmas.List.{map-append}
use Rattle.std.proofs.lemmas.List.Elements.{All-nil, All-cons, All-append}
use Rattle.eql_outside.specs.Unfailing.{IsUnfailing}
use Rattle.eql_inputs.proofs.ErrorLemmas.{same_later}
use Rattle.eql_shards.proofs.ShardLemmas.{whole_none, whole_step, named_step, parts_at, taken_at, shard_stopped}
use Rattle.eql_inputs.proofs.ShelfLemmas.{keeps_still, keeps_later, told_behind}
use Rattle.eql_shards.proofs.LendingLemmas.{lends_none, lends_on, lends_still}
use Rattle.eql_shards.proofs.opening.open_all.Goals as goal

pub loop-name-init : goal.loop-name-init
loop-name-init g c = record {
  whole = rw c.requires.empty (whole_none _);
  named = rw c.requires.empty refl;
  fresh = rw c.requires.empty (All-nil _);
  size = omega (arith, ap length c.requires.empty, c.args.sources.now.ok.0);
  room = c.requires.room;
  faults = λ name. refl;
  count = refl;
  absences = refl;
  kept = keeps_still;
  lent = rw c.requires.empty (lends_none _);
  unfailing = λ never. rw c.requires.empty (All-nil _, never);
}

pub loop-name-preserved : goal.loop-name-preserved
loop-name-preserved g c =
    let before = c.loop-name.invariant in
    let more = taken_at c.args.shards.now c.loop-name.name-index c.name-item.result (omega arith) c.name-item.is in
    let items = c.push_reserved.ensures.items in
    record {
      whole = whole_step _ _ _ _ _ _ _ _ more
          (ap (map g.H.Src.Source.left) items
          ∙ map-append g.H.Src.Source.left c.loop-name.sources.items (c.in-Ok.source ∷ []))
          before.kept.files_are before.whole c.in-Ok.ensures.whole;
      named = named_step _ _ _ _ _ _ more
          (ap (map g.H.Src.Source.lent_as) items
          ∙ map-append g.H.Src.Source.lent_as c.loop-name.sources.items (c.in-Ok.source ∷ []))
          before.named c.in-Ok.ensures.named;
      fresh = subst (λ xs. All (λ source. g.H.Src.Source.fault_count source ≡ 0) xs) (sym items)
          (All-append (λ source. g.H.Src.Source.fault_count source ≡ 0) c.loop-name.sources.items (c.in-Ok.source ∷ [])
          before.fresh
          (All-cons (λ source. g.H.Src.Source.fault_count source ≡ 0) c.in-Ok.source [] c.in-Ok.ensures.fresh
          (All-nil (λ source. g.H.Src.Source.fault_count source ≡ 0))));
      size = omega (arith, c.push_reserved.ensures.len, before.size);
      room = omega (arith, c.push_reserved.ensures.capacity, before.room);
      faults = same_later _ _ _ before.faults c.in-Ok.ensures.shelf.told.faults;
      count = c.in-Ok.ensures.shelf.told.count ∙ before.count;
      absences = c.in-Ok.ensures.shelf.told.absences ∙ before.absences;
      kept = keeps_later before.kept c.in-Ok.ensures.shelf.kept;
      lent = lends_on (length c.loop-name.sources.items) 1 _ _ _ _
          (sym (ap length items ∙ length-append c.loop-name.sources.items (c.in-Ok.source ∷ [])))
          before.lent c.in-Ok.ensures.shelf.lent;
      unfailing = λ never.
          let so = before.unfailing never in
          let now = c.in-Ok.ensures.shelf.unfailing so.1 in (
            subst (λ xs. All (λ source. IsUnfailing (g.H.Src.Source.fault_plan source)) xs) (sym items)
                (All-append (λ source. IsUnfailing (g.H.Src.Source.fault_plan source)) c.loop-name.sources.items (c.in-Ok.source ∷ [])
                so.0
                (All-cons (λ source. IsUnfailing (g.H.Src.Source.fault_plan source)) c.in-Ok.source [] now.0
                (All-nil (λ source. IsUnfailing (g.H.Src.Source.fault_plan source))))),
            now.1,
          );
    }

pub returns-in-Err-clause-cause : goal.returns-in-Err-clause-cause
returns-in-Err-clause-cause g c =
    shard_stopped c.args.shards.now _ c.name-item.result _ _ _ _ c.in-Err.error
    (parts_at c.args.shards.now c.loop-name.name-index c.name-item.result (omega arith) c.name-item.is)
    c.loop-name.invariant.kept.files_are c.loop-name.invariant.whole c.in-Err.ensures.cause

pub returns-in-Err-clause-told : goal.returns-in-Err-clause-told
returns-in-Err-clause-told g c =
    let before = c.loop-name.invariant in
    told_behind g.H.Shelf c.in-Err.error _ _ _ before.faults before.count before.absences c.in-Err.ensures.shelf.told

pub returns-in-Err-clause-kept : goal.returns-in-Err-clause-kept
returns-in-Err-clause-kept g c = keeps_later c.loop-name.invariant.kept c.in-Err.ensures.shelf.kept

pub returns-in-Err-clause-lent : goal.returns-in-Err-clause-lent
returns-in-Err-clause-lent g c = lends_still _ _ _ _ c.loop-name.invariant.lent c.in-Err.ensures.shelf.lent

pub returns-in-Err-clause-unfailing : goal.returns-in-Err-clause-unfailing
returns-in-Err-clause-unfailing g c =
    λ never.
    let so = c.loop-name.invariant.unfailing never in
    let now = c.in-Err.ensures.shelf.unfailing so.1 in (now.0, so.0, now.1)
