-- That the lines which a cut counts were written and are kept, and that the times of cuts rise.
use Rattle.std.proofs.Common.{◌≡◌, ◌≤◌, ℕ, ℤ, List, [], ◌∷◌, ◌++◌, Option, None, Some, length, refl, sym, ap, ◌∙◌, arith, subst, append_assoc, All, take}
use Rattle.std.specs.Prelude.{IfSome}
use Rattle.std.proofs.lemmas.List.{append-nil}
use Rattle.std.proofs.lemmas.List.Elements.{All-append, All-cons, All-head, All-nil, All-tail, All-weaker}
use Rattle.eql_values.specs.declared.item.Item.{Item}
use Rattle.eql_values.specs.declared.found.Match.{Match}
use Rattle.eql_values.specs.declared.found.Holder.{Holder}
use Rattle.eql_values.specs.declared.order.Mark.{Mark}
use Rattle.eql_values.specs.declared.order.Mark.TheVariants.{At}
use Rattle.eql_values.specs.Accepted.{Reads}
use Rattle.eql_laws.specs.Belows.{between}
use Rattle.eql_laws.specs.Lateness.{IsAtMost}
use Rattle.eql_laws.proofs.MarkLemmas.{at_most_trans}
use Rattle.eql_outside.specs.Written.{WroteAll, WroteFront, WroteThrough}
use Rattle.eql_parts.specs.PartSteps.{Rules}
use Rattle.eql_book.specs.Books.{BookState, book_after}
use Rattle.eql_cut.specs.declared.cut.Cut.{Cut}
use Rattle.eql_cut.specs.declared.cut.CutHead.{CutHead}
use Rattle.eql_cut.specs.Rising.{RiseFrom}
use Rattle.eql_conductor.specs.Benches.{Known, StaysSame}
use Rattle.eql_conductor.specs.Outputs.{Output, KeepsAll, KeepsFor}
use Rattle.eql_conductor.specs.PartRounds.{AreAtRest, pending_after}
use Rattle.eql_conductor.specs.Rounds.{BenchIsOfTexts, GoesTo, found_by}
use Rattle.eql_conductor.specs.Running.{IsTaken}
use Rattle.eql_conductor.specs.Runs.{IsRunCut, KeptLinesOf, WroteLinesOf, lines_before_end}
use Rattle.eql_conductor.proofs.Goings.{texts_go}
use Rattle.eql_conductor.proofs.Joins.{between_joins, found_joins, lines_join}

-- ---- bytes
-- something was written, which may be nothing
abbrev pub WroteMore : (before now : Option (List ℕ)) → Type 0
WroteMore before now = (more : List ℕ) × WroteAll more before now

pub front_more : (bytes : List ℕ) (before now : Option (List ℕ)) → WroteFront bytes before now → WroteMore before now
front_more bytes None now h = ([], tt)
front_more bytes (Some w) now h = (take h.0 bytes, h.1)

pub all_through : (bytes : List ℕ) (before now : Option (List ℕ)) → WroteAll bytes before now → WroteThrough bytes before now
all_through bytes None now h = tt
all_through bytes (Some w) now h = ([], h ∙ ap Some (sym (append-nil (w ++ bytes))))

-- what was written through is so too once more was written behind it
pub through_more : (bytes : List ℕ) (before mid now : Option (List ℕ)) → WroteThrough bytes before mid → WroteMore mid now → WroteThrough bytes before now
through_more bytes None mid now h k = tt
through_more bytes (Some w) mid now h k =
    (h.0 ++ k.0, subst (λ (m : Option (List ℕ)). WroteAll k.0 m now) h.1 k.1 ∙ ap Some (append_assoc (w ++ bytes) h.0 k.0))

-- all of one text and then another, and perhaps more
pub through_behind : (first then : List ℕ) (before mid now : Option (List ℕ)) → WroteAll first before mid → WroteThrough then mid now → WroteThrough (first ++ then) before now
through_behind first then None mid now h k = tt
through_behind first then (Some w) mid now h k =
    let g : WroteThrough then (Some (w ++ first)) now = subst (λ (m : Option (List ℕ)). WroteThrough then m now) h k in
    (g.0, g.1 ∙ ap (λ (bytes : List ℕ). Some (bytes ++ g.0)) (append_assoc w first then))

-- ---- a run that came to a mark wrote something
pub goes_more : (from to : Mark) (a b : Known) (book then : BookState) (before now : Option (List ℕ)) (rules : Rules) (all : List Holder) → GoesTo from to a b book then before now
    → AreAtRest rules all from a → WroteMore before now
goes_more from to a b book then before now rules all goes was = (lines_before_end book (found_by rules all goes.items), (goes.played rules all was).gave.wrote)

-- ---- the lines of cuts that were put before something was written
module _ (from : Mark) (a : Known) (book : BookState) (before mid now : Option (List ℕ))
    (more : (reads : Reads) (slack : Option ℤ) (texts : List (List ℕ)) (rules : Rules) (all : List Holder) → BenchIsOfTexts reads slack texts from a → AreAtRest rules all from a → WroteMore mid now) where
  lines_stay : (cut : Cut) → WroteLinesOf from a book before mid cut → WroteLinesOf from a book before now cut
  lines_stay cut wrote = λ reads slack texts rules all of was.
      through_more (lines_before_end book (found_by rules all (between reads slack texts from (At cut.mark)))) before mid now
      (wrote reads slack texts rules all of was) (more reads slack texts rules all of was)

  pub all_stay : (cuts : List Cut) → All (WroteLinesOf from a book before mid) cuts → All (WroteLinesOf from a book before now) cuts
  all_stay cuts wrote = All-weaker (WroteLinesOf from a book before mid) (WroteLinesOf from a book before now) lines_stay cuts wrote

-- ---- those of a cut that was taken where rounds came to
module _ (from to : Mark) (a b : Known) (book then : BookState) (before now : Option (List ℕ)) (goes : GoesTo from to a b book then before now) where
  pub lines_at : (cut : Cut) → to ≡ At cut.mark → WroteLinesOf from a book before now cut
  lines_at cut e = λ reads slack texts rules all of was.
      let went : GoesTo from (At cut.mark) a b book then before now = subst (λ (m : Mark). GoesTo from m a b book then before now) e goes in
      let items : List Item = between reads slack texts from (At cut.mark) in
      all_through (lines_before_end book (found_by rules all items)) before now
      (subst (λ (played : List Item). WroteAll (lines_before_end book (found_by rules all played)) before now) (went.told reads slack texts of) (went.played rules all was).gave.wrote)

  module _ (head : CutHead) where
    pub taken_wrote : (cuts : List Cut) → All (IsTaken head to b then) cuts → All (WroteLinesOf from a book before now) cuts
    taken_wrote cuts are = All-weaker (IsTaken head to b then) (WroteLinesOf from a book before now) (λ cut taken. lines_at cut taken.mark_is) cuts are

    -- of which there is at most one
    pub taken_rise : (cuts : List Cut) → All (IsTaken head to b then) cuts → length cuts ≤ 1 → RiseFrom from cuts
    taken_rise [] are one = tt
    taken_rise (cut ∷ []) are one = (subst (IsAtMost from) (All-head (IsTaken head to b then) cut [] are).mark_is goes.later, tt)
    taken_rise (cut ∷ next ∷ cuts) are one = absurd (omega (arith, one))

-- ---- those of a run that went on from where rounds came to
module _ (from to : Mark) (a b : Known) (book mid : BookState) (before between_them now : Option (List ℕ)) (same : StaysSame a b)
    (goes : GoesTo from to a b book mid before between_them) where
  lines_on : (cut : Cut) → IsAtMost to (At cut.mark) → WroteLinesOf to b mid between_them now cut → WroteLinesOf from a book before now cut
  lines_on cut later wrote = λ reads slack texts rules all of was.
      let time : Mark = At cut.mark in
      let played = goes.played rules all was in
      let rest : List Holder = pending_after rules all goes.items in
      let more : List Item = between reads slack texts to time in
      let first : List Match = found_by rules all goes.items in
      let second : List Match = found_by rules rest more in
      let told : goes.items ++ more ≡ between reads slack texts from time =
      ap (λ (items : List Item). items ++ more) (goes.told reads slack texts of) ∙ sym (between_joins reads slack texts from to time goes.later later) in
      let so : WroteThrough (lines_before_end (book_after book first) second) between_them now =
      subst (λ (m : BookState). WroteThrough (lines_before_end m second) between_them now) played.gave.book_is
      (wrote reads slack texts rules rest (texts_go reads slack texts from to a b same goes.lanes of) played.parts) in
      subst (λ (bytes : List ℕ). WroteThrough bytes before now)
      (sym (lines_join book first second) ∙ ap (lines_before_end book) (sym (found_joins rules all goes.items more) ∙ ap (found_by rules all) told))
      (through_behind (lines_before_end book first) (lines_before_end (book_after book first) second) before between_them now played.gave.wrote so)

  module _ (head : CutHead) where
    on_wrote : (cuts : List Cut) → All (IsRunCut head to b mid) cuts → All (WroteLinesOf to b mid between_them now) cuts → All (WroteLinesOf from a book before now) cuts
    on_wrote [] are wrote = All-nil (WroteLinesOf from a book before now)
    on_wrote (cut ∷ cuts) are wrote =
        All-cons (WroteLinesOf from a book before now) cut cuts
        (lines_on cut (All-head (IsRunCut head to b mid) cut cuts are).later (All-head (WroteLinesOf to b mid between_them now) cut cuts wrote))
        (on_wrote cuts (All-tail (IsRunCut head to b mid) cut cuts are) (All-tail (WroteLinesOf to b mid between_them now) cut cuts wrote))

    -- behind those of the rounds before
    pub both_wrote : (cuts more : List Cut) → All (WroteLinesOf from a book before now) cuts → All (IsRunCut head to b mid) more → All (WroteLinesOf to b mid between_them now) more
        → All (WroteLinesOf from a book before now) (cuts ++ more)
    both_wrote cuts more wrote are also = All-append (WroteLinesOf from a book before now) cuts more wrote (on_wrote more are also)

-- ---- the lines of cuts that are kept
-- before cuts are put all that was written is kept, whatever was written before
pub keeps_for_on : (cuts : List Cut) (before mid now : Output) → mid.kept ≡ before.kept → KeepsFor cuts mid now → KeepsFor cuts before now
keeps_for_on [] before mid now e h = h ∙ e
keeps_for_on (cut ∷ cuts) before mid now e h = subst (λ (kept : Option (List ℕ)). IfSome kept (λ _. now.kept ≡ now.written)) e h

pub no_cuts : (cuts : List Cut) (cut : Cut) → cuts ++ cut ∷ [] ≡ [] → {X : Type 0} → X
no_cuts [] cut e {X} = absurd (let f = e in cc)
no_cuts (one ∷ cuts) cut e {X} = absurd (let f = e in cc)

module _ (from : Mark) (a : Known) (book : BookState) where
  -- where it was told what is written and kept, it is told still what is kept
  abbrev TellsKept : (before : Output) (kept : Option (List ℕ)) → Type 0
  TellsKept before kept = IfSome before.kept (λ _. IfSome before.written (λ _. (bytes : List ℕ) × (kept ≡ Some bytes)))

  abbrev TellsOfTexts : (before : Output) (kept : Option (List ℕ)) → Type 0
  TellsOfTexts before kept =
      (reads : Reads) (slack : Option ℤ) (texts : List (List ℕ)) (rules : Rules) (all : List Holder) → BenchIsOfTexts reads slack texts from a → AreAtRest rules all from a
      → TellsKept before kept

  -- so it is after cuts, whose lines are kept, and before any
  told_first : (before kept : Option (List ℕ)) → kept ≡ before → IfSome before (λ _. (bytes : List ℕ) × (kept ≡ Some bytes))
  told_first None kept e = tt
  told_first (Some bytes) kept e = (bytes, e)

  told_with : (bytes : List ℕ) (written kept now : Option (List ℕ)) → IfSome kept (λ _. WroteThrough bytes written now)
      → IfSome kept (λ _. IfSome written (λ _. (all : List ℕ) × (now ≡ Some all)))
  told_with bytes written None now h = tt
  told_with bytes None (Some k) now h = tt
  told_with bytes (Some w) (Some k) now h = ((w ++ bytes) ++ h.0, h.1)

  if_told : (written kept : Option (List ℕ)) (X : Type 0) → IfSome kept (λ _. X) → IfSome kept (λ _. IfSome written (λ _. X))
  if_told written None X h = tt
  if_told None (Some k) X h = tt
  if_told (Some w) (Some k) X h = h

  -- with the texts put in
  lines_in : (written kept now : Option (List ℕ)) (cut : Cut) → IfSome kept (λ _. WroteLinesOf from a book written now cut)
      → (reads : Reads) (slack : Option ℤ) (texts : List (List ℕ)) (rules : Rules) (all : List Holder) → BenchIsOfTexts reads slack texts from a → AreAtRest rules all from a
      → IfSome kept (λ _. WroteThrough (lines_before_end book (found_by rules all (between reads slack texts from (At cut.mark)))) written now)
  lines_in written None now cut h reads slack texts rules all of was = tt
  lines_in written (Some k) now cut h reads slack texts rules all of was = h reads slack texts rules all of was

  still_told : (before : Output) (kept : Option (List ℕ)) (cuts : List Cut) → (cuts ≡ [] → kept ≡ before.kept) → All (KeptLinesOf from a book before kept) cuts → TellsOfTexts before kept
  still_told before kept [] same lines = λ reads slack texts rules all of was.
      if_told before.written before.kept ((bytes : List ℕ) × (kept ≡ Some bytes)) (told_first before.kept kept (same refl))
  still_told before kept (cut ∷ cuts) same lines = λ reads slack texts rules all of was.
      told_with (lines_before_end book (found_by rules all (between reads slack texts from (At cut.mark)))) before.written before.kept kept
      (lines_in before.written before.kept kept cut (All-head (KeptLinesOf from a book before kept) cut cuts lines) reads slack texts rules all of was)

  -- so what was written is kept, once all that was written is
  is_all : (mid : Option (List ℕ)) (X : Type 0) → ((bytes : List ℕ) × (mid ≡ Some bytes)) → IfSome mid (λ _. X) → X
  is_all mid X told h = subst (λ (m : Option (List ℕ)). IfSome m (λ _. X)) told.1 h

  kept_through : (bytes : List ℕ) (written mid kept now : Option (List ℕ)) → IfSome written (λ _. (all : List ℕ) × (mid ≡ Some all)) → IfSome mid (λ _. kept ≡ now)
      → WroteThrough bytes written now → WroteThrough bytes written kept
  kept_through bytes None mid kept now told keeps wrote = tt
  kept_through bytes (Some w) mid kept now told keeps wrote = subst (WroteThrough bytes (Some w)) (sym (is_all mid (kept ≡ now) told keeps)) wrote

  one_kept : (written kept mid now_kept now : Option (List ℕ)) (cut : Cut) → TellsOfTexts (record { written = written; kept = kept }) mid → IfSome mid (λ _. now_kept ≡ now)
      → WroteLinesOf from a book written now cut → IfSome kept (λ _. WroteLinesOf from a book written now_kept cut)
  one_kept written None mid now_kept now cut told keeps wrote = tt
  one_kept written (Some k) mid now_kept now cut told keeps wrote = λ reads slack texts rules all of was.
      kept_through (lines_before_end book (found_by rules all (between reads slack texts from (At cut.mark)))) written mid now_kept now
      (told reads slack texts rules all of was) keeps (wrote reads slack texts rules all of was)

  module _ (before mid now : Output) (cuts : List Cut) (same : cuts ≡ [] → mid.kept ≡ before.kept) (lines : All (KeptLinesOf from a book before mid.kept) cuts) where
    all_kept : (all : List Cut) → KeepsAll mid now → All (WroteLinesOf from a book before.written now.written) all → All (KeptLinesOf from a book before now.kept) all
    all_kept all keeps wrote =
        let told : TellsOfTexts before mid.kept = still_told before mid.kept cuts same lines in
        All-weaker (WroteLinesOf from a book before.written now.written) (KeptLinesOf from a book before now.kept)
        (λ cut one. one_kept before.written before.kept mid.kept now.kept now.written cut told keeps one) all wrote

    pub kept_still : now.kept ≡ mid.kept → All (KeptLinesOf from a book before now.kept) cuts
    kept_still e = subst (λ (kept : Option (List ℕ)). All (KeptLinesOf from a book before kept) cuts) (sym e) lines

    pub kept_on : (more : List Cut) → KeepsFor more mid now → All (WroteLinesOf from a book before.written now.written) (cuts ++ more)
        → All (KeptLinesOf from a book before now.kept) (cuts ++ more)
    kept_on [] keeps wrote = All-append (KeptLinesOf from a book before now.kept) cuts [] (kept_still keeps) (All-nil (KeptLinesOf from a book before now.kept))
    kept_on (cut ∷ more) keeps wrote = all_kept (cuts ++ cut ∷ more) keeps wrote

-- ---- times
rise_later : (from to : Mark) (cuts : List Cut) → IsAtMost from to → RiseFrom to cuts → RiseFrom from cuts
rise_later from to [] le h = tt
rise_later from to (cut ∷ cuts) le h = (at_most_trans from to (At cut.mark) le h.0, h.1)

-- cuts to a mark, and then cuts from there on
pub rise_on : (from to : Mark) (cuts more : List Cut) → IsAtMost from to → All (λ (cut : Cut). IsAtMost (At cut.mark) to) cuts → RiseFrom from cuts → RiseFrom to more → RiseFrom from (cuts ++ more)
rise_on from to [] more le at_most h k = rise_later from to more le k
rise_on from to (cut ∷ cuts) more le at_most h k =
    (h.0, rise_on (At cut.mark) to cuts more (All-head (λ (c : Cut). IsAtMost (At c.mark) to) cut cuts at_most) (All-tail (λ (c : Cut). IsAtMost (At c.mark) to) cut cuts at_most) h.1 k)
