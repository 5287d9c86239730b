-- The cuts of a run, put one after another.
use Rattle.std.proofs.Common.{◌≡◌, ◌+◌, ℕ, ℤ, List, [], ◌∷◌, ◌++◌, Option, None, Some, length, refl, sym, ap, ◌∙◌, subst, arith, All, length-append}
use Rattle.std.specs.Prelude.{Ok, Err}
use Rattle.std.proofs.lemmas.List.Elements.{All-append, All-weaker}
use Rattle.eql_values.specs.declared.item.Item.{Item}
use Rattle.eql_values.specs.declared.found.Match.{Match}
use Rattle.eql_values.specs.declared.found.Holder.{Holder}
use Rattle.eql_values.specs.declared.order.Mark.{Mark}
use Rattle.eql_values.specs.declared.order.Mark.TheVariants.{At}
use Rattle.eql_values.specs.Accepted.{Reads}
use Rattle.eql_laws.specs.Alive.{alive_holders}
use Rattle.eql_laws.specs.Belows.{between}
use Rattle.eql_laws.specs.Lateness.{IsAtMost}
use Rattle.eql_laws.proofs.MarkLemmas.{at_most_trans}
use Rattle.eql_outside.specs.Moments.{History, DiskTells}
use Rattle.eql_outside.proofs.Landing.{images}
use Rattle.eql_parts.specs.PartSteps.{Rules}
use Rattle.eql_book.specs.Books.{BookState, kept_after}
use Rattle.eql_cut.specs.declared.cut.Cut.{Cut}
use Rattle.eql_cut.specs.declared.cut.CutHead.{CutHead}
use Rattle.eql_ckdisk.specs.declared.state.CkState.{CkState}
use Rattle.eql_ckdisk.specs.Found.{LastCut, next}
use Rattle.eql_ckdisk.specs.Going.{Goes}
use Rattle.eql_ckdisk.specs.Keeping.{LeavesNoMore}
use Rattle.eql_ckdisk.specs.Putting.{last_cut}
use Rattle.eql_ckdisk.specs.Runs.{last_after}
use Rattle.eql_ckdisk.proofs.RunLemmas.{go_on}
use Rattle.eql_conductor.specs.declared.plan.Keep.{Keep}
use Rattle.eql_conductor.specs.declared.plan.RunPlan.{RunPlan}
use Rattle.eql_conductor.specs.declared.stop.Stop.{Stop}
use Rattle.eql_conductor.specs.Benches.{Known, StaysSame}
use Rattle.eql_conductor.specs.PartRounds.{AreAtRest, pending_after}
use Rattle.eql_conductor.specs.Rounds.{BenchIsOfTexts, CountsAreInRange, GoesTo, IsInRange, found_by}
use Rattle.eql_conductor.specs.Running.{IsTaken, PutsEach, KeepPuts, KeepStands}
use Rattle.eql_conductor.specs.Runs.{IsCutOf, IsRunCut, LastHolds, RunPuts}
use Rattle.eql_conductor.specs.Saving.{PutsCuts}
use Rattle.eql_conductor.proofs.Goings.{texts_go}
use Rattle.eql_conductor.proofs.Gathered.{pending_settled}
use Rattle.eql_conductor.proofs.Joins.{between_joins, found_joins, kept_joins, pending_joins}

-- ---- where the last one stands
last_on : (last : LastCut) (a b : List Cut) → last_after last (a ++ b) ≡ last_after (last_after last a) b
last_on last [] b = refl
last_on last (cut ∷ a) b = last_on (next last) a b

generation_on : (last : LastCut) (cuts : List Cut) → (last_after last cuts).generation ≡ last.generation + length cuts
generation_on last [] = omega arith
generation_on last (cut ∷ cuts) = let h = generation_on (next last) cuts in omega (arith, h)

last_holds : (last : LastCut) (cuts : List Cut) (cut : Cut) (now : Option History) → LastHolds last (cut ∷ []) now → LastHolds last (cuts ++ cut ∷ []) now
last_holds last [] cut now h = h
last_holds last (one ∷ []) cut now h = h
last_holds last (one ∷ two ∷ cuts) cut now h = last_holds last (two ∷ cuts) cut now h

puts_join : (last : LastCut) (cuts more : List Cut) (before mid now : Option History) → PutsCuts last cuts before mid → PutsCuts (last_after last cuts) more mid now → PutsCuts last (cuts ++ more) before now
puts_join last cuts more before mid now h k = (go_on images).joined last cuts more before mid now h k

stands_still : (now : Option History) → DiskTells (Goes LeavesNoMore) now now
stands_still None = tt
stands_still (Some h) = (0, refl)

pub puts_none : (last : LastCut) (now : Option History) → PutsCuts last [] now now
puts_none last now = (go_on images).recovery last now now (stands_still now)

-- ---- puts
module _ (old mid new : CkState) (before between_them now : Option History) (cuts : List Cut) (h : PutsEach old mid before between_them cuts) where
  pub put_more : (cut : Cut) → PutsEach mid new between_them now (cut ∷ []) → PutsEach old new before now (cuts ++ cut ∷ [])
  put_more cut k = record {
    puts = puts_join (last_cut old) cuts (cut ∷ []) before between_them now h.puts (subst (λ (last : LastCut). PutsCuts last (cut ∷ []) between_them now) h.state_is k.puts);
    state_is = k.state_is ∙ ap (λ (last : LastCut). last_after last (cut ∷ [])) h.state_is ∙ sym (last_on (last_cut old) cuts (cut ∷ []));
    holds = last_holds (last_cut new) cuts cut now k.holds;
    stands = k.stands;
  }

  mid_generation : (last_cut mid).generation ≡ (last_cut old).generation + length cuts
  mid_generation = ap (λ (last : LastCut). last.generation) h.state_is ∙ generation_on (last_cut old) cuts

  -- a run that came to its end
  pub run_put_each : (head : CutHead) (from : Mark) (a : Known) (book : BookState) (done : Unit {0}) → All (IsRunCut head from a book) cuts
      → RunPuts head from a book old mid before between_them cuts (Ok done)
  run_put_each head from a book done are = record {
    are_cuts = are;
    puts = h.puts;
    state_is = h.state_is;
    holds = h.holds;
    generation_from = let g = mid_generation in omega (arith, g);
    generation_to = let g = mid_generation in omega (arith, g);
    full = λ e. absurd (let k = e in cc);
    stands = λ disk memory. h.stands;
  }

  -- and one that was stopped after further cuts
  pub run_puts_on : (head : CutHead) (from later : Mark) (a b : Known) (book after : BookState) (more : List Cut) (by : Stop)
      → All (IsRunCut head from a book) cuts → All (IsRunCut head from a book) more
      → RunPuts head later b after mid new between_them now more (Err by) → RunPuts head from a book old new before now (cuts ++ more) (Err by)
  run_puts_on head from later a b book after more by are also k = record {
    are_cuts = All-append (IsRunCut head from a book) cuts more are also;
    puts = puts_join (last_cut old) cuts more before between_them now h.puts (subst (λ (last : LastCut). PutsCuts last more between_them now) h.state_is k.puts);
    state_is = tt;
    holds = tt;
    generation_from = let g = mid_generation in let f = k.generation_from in omega (arith, g, f);
    generation_to = let g = mid_generation in let t = k.generation_to in let l = length-append cuts more in omega (arith, g, t, l);
    full = k.full;
    stands = k.stands;
  }

-- ---- which cuts
-- one that was taken where rounds came to
module _ (head : CutHead) (from to : Mark) (a b : Known) (book then : BookState) (before now : Option (List ℕ)) (cut : Cut) (same : StaysSame a b)
    (goes : GoesTo from to a b book then before now) (in_range : CountsAreInRange from a (Some to)) (taken : IsTaken head to b then cut) where
  time : Mark
  time = At cut.mark

  went : GoesTo from (At cut.mark) a b book then before now
  went = subst (λ (m : Mark). GoesTo from m a b book then before now) taken.mark_is goes

  pub taken_later : IsAtMost from (At cut.mark)
  taken_later = went.later

  cut_of : (reads : Reads) (slack : Option ℤ) (texts : List (List ℕ)) (rules : Rules) (all : List Holder) → BenchIsOfTexts reads slack texts from a → AreAtRest rules all from a
      → IsCutOf rules all reads slack texts from book cut
  cut_of reads slack texts rules all of was =
      let played = went.played rules all was in
      let told = went.told reads slack texts of in record {
        lanes = taken.saved.lanes reads slack texts (texts_go reads slack texts from (At cut.mark) a b same went.lanes of);
        holders = taken.saved.holders rules (pending_after rules all went.items) played.parts
            ∙ ap (alive_holders rules.span cut.mark) (pending_settled rules all went.items)
            ∙ ap (λ (items : List Item). alive_holders rules.span cut.mark (pending_after rules all items)) told;
        book_is = taken.saved.book_is ∙ ap (λ (m : BookState). m.kept) played.gave.book_is
            ∙ ap (λ (items : List Item). kept_after book.pipes book.kept (found_by rules all items)) told;
        in_range = subst (λ (m : Mark). IsInRange m slack) taken.mark_is (in_range reads slack texts of);
      }

  pub taken_is : IsRunCut head from a book cut
  taken_is = record { head_is = taken.saved.head_is; is_cut = taken.saved.is_cut; later = taken_later; told = cut_of }

-- one of a run that went on from where rounds came to
module _ (head : CutHead) (from to : Mark) (a b : Known) (book then : BookState) (before now : Option (List ℕ)) (same : StaysSame a b)
    (goes : GoesTo from to a b book then before now) where
  module _ (cut : Cut) (is : IsRunCut head to b then cut) where
    on_cut_of : (reads : Reads) (slack : Option ℤ) (texts : List (List ℕ)) (rules : Rules) (all : List Holder) → BenchIsOfTexts reads slack texts from a → AreAtRest rules all from a
        → IsCutOf rules all reads slack texts from book cut
    on_cut_of reads slack texts rules all of was =
        let time : Mark = At cut.mark in
        let played = goes.played rules all was in
        let rest : List Holder = pending_after rules all goes.items in
        let more : List Item = between reads slack texts to time in
        let first : List Match = found_by rules all goes.items in
        let second : List Match = found_by rules rest more in
        let told : goes.items ++ more ≡ between reads slack texts from time =
        ap (λ (items : List Item). items ++ more) (goes.told reads slack texts of) ∙ sym (between_joins reads slack texts from to time goes.later is.later) in
        let k = is.told reads slack texts rules rest (texts_go reads slack texts from to a b same goes.lanes of) played.parts in record {
          lanes = k.lanes;
          holders = k.holders ∙ ap (alive_holders rules.span cut.mark) (sym (pending_joins rules all goes.items more) ∙ ap (pending_after rules all) told);
          book_is = k.book_is ∙ ap (λ (m : BookState). kept_after m.pipes m.kept second) played.gave.book_is
              ∙ sym (kept_joins book first second)
              ∙ ap (kept_after book.pipes book.kept) (sym (found_joins rules all goes.items more) ∙ ap (found_by rules all) told);
          in_range = k.in_range;
        }

    on_is : IsRunCut head from a book cut
    on_is = record { head_is = is.head_is; is_cut = is.is_cut; later = at_most_trans from to (At cut.mark) goes.later is.later; told = on_cut_of }

  pub cuts_on : (cuts : List Cut) → All (IsRunCut head to b then) cuts → All (IsRunCut head from a book) cuts
  cuts_on cuts are = All-weaker (IsRunCut head to b then) (IsRunCut head from a book) on_is cuts are

-- ---- with cuts or without
module _ {D : Type 0} (history : D → Option History) (count : D → ℕ) where
  pub keep_puts_none : (plan : RunPlan) (b : Known) (keep : Option (Keep D)) → KeepStands history count plan b keep → KeepPuts history count [] keep keep
  keep_puts_none plan b None h = refl
  keep_puts_none plan b (Some k) h = record { puts = puts_none (last_cut k.state) (history k.disk); state_is = refl; holds = tt; stands = h.1 }

  pub keep_puts_more : (cuts : List Cut) (cut : Cut) (keep mid kept : Option (Keep D)) → KeepPuts history count cuts keep mid → KeepPuts history count (cut ∷ []) mid kept
      → KeepPuts history count (cuts ++ cut ∷ []) keep kept
  keep_puts_more cuts cut None None None h k = absurd (let e = k in cc)
  keep_puts_more cuts cut None None (Some l) h k = absurd k
  keep_puts_more cuts cut None (Some m) kept h k = absurd h
  keep_puts_more cuts cut (Some o) None kept h k = absurd h
  keep_puts_more cuts cut (Some o) (Some m) None h k = absurd k
  keep_puts_more cuts cut (Some o) (Some m) (Some l) h k = put_more o.state m.state l.state (history o.disk) (history m.disk) (history l.disk) cuts h cut k

  -- what is needed for the next cut
  pub keep_stands_on : (plan : RunPlan) (a b : Known) (cuts : List Cut) (keep kept : Option (Keep D)) → StaysSame a b → KeepStands history count plan a keep → KeepPuts history count cuts keep kept
      → KeepStands history count plan b kept
  keep_stands_on plan a b cuts None None same h k = h
  keep_stands_on plan a b cuts None (Some l) same h k = absurd k
  keep_stands_on plan a b cuts (Some o) None same h k = absurd k
  keep_stands_on plan a b cuts (Some o) (Some l) same h k = (record { names = h.0.names; shards = h.0.shards ∙ sym same.lanes }, k.stands)

  pub stands_on : (plan : RunPlan) (a b : Known) (keep : Option (Keep D)) → StaysSame a b → KeepStands history count plan a keep → KeepStands history count plan b keep
  stands_on plan a b None same h = h
  stands_on plan a b (Some k) same h = (record { names = h.0.names; shards = h.0.shards ∙ sym same.lanes }, h.1)
