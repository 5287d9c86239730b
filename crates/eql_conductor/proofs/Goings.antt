-- From mark to mark, one after another.
use Rattle.std.proofs.Common.{◌≡◌, ℕ, ℤ, List, [], ◌∷◌, ◌++◌, Option, None, Some, refl, sym, ap, ◌∙◌, subst, All}
use Rattle.std.proofs.lemmas.List.{append-nil}
use Rattle.eql_values.specs.declared.item.Item.{Item}
use Rattle.eql_values.specs.declared.found.Match.{Match}
use Rattle.eql_values.specs.declared.found.Holder.{Holder}
use Rattle.eql_values.specs.declared.order.Mark.{Mark}
use Rattle.eql_values.specs.Accepted.{Reads}
use Rattle.eql_values.specs.Matching.{after, matches}
use Rattle.eql_laws.specs.Shapes.{IsFull}
use Rattle.eql_laws.proofs.MarkLemmas.{at_most_self, at_most_trans}
use Rattle.eql_laws.proofs.Shaping.{after_is_full}
use Rattle.eql_laws.proofs.Splitting.{after_split}
use Rattle.eql_outside.specs.Written.{WroteAll}
use Rattle.eql_outside.proofs.WrittenLemmas.{writes_on}
use Rattle.eql_book.specs.Books.{BookState, FitsPipes, book_after}
use Rattle.eql_book.specs.Listing.{listing}
use Rattle.eql_parts.specs.PartSteps.{PartState, Rules, alive_by}
use Rattle.eql_conductor.specs.Finding.{own_of}
use Rattle.eql_conductor.specs.PartCalls.{PartIs}
use Rattle.eql_conductor.proofs.Found.{rounds_find}
use Rattle.eql_conductor.specs.Benches.{Known, StaysSame}
use Rattle.eql_conductor.specs.LaneRounds.{LanesAreAt}
use Rattle.eql_conductor.specs.PartRounds.{IsAtRest, AreAtRest, AreSomehowFull, AreSomehowAtRest, pending_after}
use Rattle.eql_conductor.specs.Rounds.{BenchIsOfTexts, Gave, GoesTo, PlaysTo, RoundRests, found_by}
use Rattle.eql_conductor.specs.Running.{IsAtMark}
use Rattle.eql_conductor.specs.Runs.{lines_before_end}
use Rattle.eql_conductor.specs.Saving.{BookKeepsNumbers}
use Rattle.eql_conductor.proofs.Joins.{between_joins, between_self, book_joins, found_joins, lines_join, pending_joins}
use Rattle.eql_conductor.proofs.Numbers.{book_none, none_let_out, numbers_kept}
use Rattle.eql_conductor.proofs.Stays.{read_stays}

-- ---- what was given and written
pub gave_joins : (book mid then : BookState) (a b : List Match) (before between_them now : Option (List ℕ))
    → Gave a book mid before between_them → Gave b mid then between_them now → Gave (a ++ b) book then before now
gave_joins book mid then a b before between_them now h k = record {
  book_is = k.book_is ∙ ap (λ (m : BookState). book_after m b) h.book_is ∙ sym (book_joins book a b);
  wrote = subst (λ (bytes : List ℕ). WroteAll bytes before now) (sym (lines_join book a b))
      (writes_on.all (lines_before_end book a) (lines_before_end (book_after book a) b) before between_them now h.wrote
      (subst (λ (m : BookState). WroteAll (lines_before_end m b) between_them now) h.book_is k.wrote));
}

-- ---- texts
pub texts_go : (reads : Reads) (slack : Option ℤ) (texts : List (List ℕ)) (from to : Mark) (a b : Known) → StaysSame a b
    → ((texts : Option (List (List ℕ))) → LanesAreAt texts from a → LanesAreAt texts to b) → BenchIsOfTexts reads slack texts from a → BenchIsOfTexts reads slack texts to b
texts_go reads slack texts from to a b same lanes of = record { read = read_stays reads slack texts a b same of.read; lanes = lanes (Some texts) of.lanes }

-- ---- from one mark to a second, and from there to a third
module _ (m0 m1 m2 : Mark) (a b c : Known) (book mid then : BookState) (before between_them now : Option (List ℕ))
    (same : StaysSame a b) (h : GoesTo m0 m1 a b book mid before between_them) (k : GoesTo m1 m2 b c mid then between_them now) where
  played_on : (rules : Rules) (all : List Holder) → AreAtRest rules all m0 a → PlaysTo rules all (h.items ++ k.items) m2 c book then before now
  played_on rules all was =
      let first = h.played rules all was in
      let second = k.played rules (pending_after rules all h.items) first.parts in record {
        parts = subst (λ (l : List Holder). AreAtRest rules l m2 c) (sym (pending_joins rules all h.items k.items)) second.parts;
        gave = subst (λ (l : List Match). Gave l book then before now) (sym (found_joins rules all h.items k.items))
            (gave_joins book mid then (found_by rules all h.items) (found_by rules (pending_after rules all h.items) k.items) before between_them now first.gave second.gave);
      }

  pub goes_join : GoesTo m0 m2 a c book then before now
  goes_join = record {
    later = at_most_trans m0 m1 m2 h.later k.later;
    lanes = λ texts at. k.lanes texts (h.lanes texts at);
    items = h.items ++ k.items;
    told = λ reads slack texts of.
        (λ i. h.told reads slack texts of i ++ k.told reads slack texts (texts_go reads slack texts m0 m1 a b same h.lanes of) i)
        ∙ sym (between_joins reads slack texts m0 m1 m2 h.later k.later);
    played = played_on;
  }

-- ---- a round that doesn't count
pub goes_rests : (m0 m1 : Mark) (a b c : Known) (book mid then : BookState) (before between_them now : Option (List ℕ))
    → GoesTo m0 m1 a b book mid before between_them → RoundRests m1 b c mid then between_them now → GoesTo m0 m1 a c book then before now
goes_rests m0 m1 a b c book mid then before between_them now h rests = record {
  later = h.later;
  lanes = λ texts at. rests.lanes texts (h.lanes texts at);
  items = h.items;
  told = h.told;
  played = λ rules all was. let first = h.played rules all was in record {
    parts = rests.parts rules (pending_after rules all h.items) first.parts;
    gave = record {
      book_is = rests.book_is ∙ first.gave.book_is;
      wrote = subst (λ (w : Option (List ℕ)). WroteAll (lines_before_end book (found_by rules all h.items)) before w) (sym rests.wrote_is) first.gave.wrote;
    };
  };
}

-- and what keeps lanes and parts at the mark
pub goes_stays : (m0 m1 : Mark) (a b c : Known) (book then : BookState) (before now : Option (List ℕ))
    → ((texts : Option (List (List ℕ))) → LanesAreAt texts m1 b → LanesAreAt texts m1 c)
    → ((rules : Rules) (all : List Holder) → AreAtRest rules all m1 b → AreAtRest rules all m1 c)
    → GoesTo m0 m1 a b book then before now → GoesTo m0 m1 a c book then before now
goes_stays m0 m1 a b c book then before now lanes parts h =
    goes_rests m0 m1 a b c book then then before now now h (record { lanes = lanes; parts = parts; book_is = refl; wrote_is = refl })

-- ---- no round yet
none_first : (a b : List Item) → [] ≡ a ++ b → a ≡ []
none_first [] b e = refl
none_first (x ∷ a) b e = cc

-- a part at rest is so too once no more events were played
rest_none : (rules : Rules) (all : List Holder) (mark : Mark) (p : ℕ) (x : PartState) → IsAtRest rules all mark p x → IsAtRest rules (pending_after rules all []) mark p x
rest_none rules all mark p x h =
    let m : ℕ = rules.stages in
    let own : List Holder = own_of all p in
    let then : List Holder = after m rules.span own [] in
    let none = none_first h.played x.inbox h.split in
    subst (λ (l : List Holder). PartIs rules l [] mark x) ((rounds_find rules all [] tt).own_then p) (record {
      played = h.played;
      split = h.split;
      found = h.found ∙ ap (matches m rules.span own) none ∙ sym (ap (matches m rules.span then) none);
      order = h.order;
      reach = h.reach;
      alike = h.alike ∙ ap (alive_by rules.span h.reach) (ap (after m rules.span own) none ∙ after_split m rules.span own [] [] ∙ sym (ap (after m rules.span then) none));
      ascends = h.ascends;
      below = h.below;
      waits = h.waits;
      to = h.to;
      processed = h.processed;
      done_to = h.done_to;
      done = h.done;
      fresh = h.fresh;
      last = h.last;
    })

pub rests_none : (rules : Rules) (all : List Holder) (mark : Mark) (b : Known) → AreAtRest rules all mark b → AreAtRest rules (pending_after rules all []) mark b
rests_none rules all mark b h = record { are = h.are; each = λ p l x here. rest_none rules all mark p x (h.each p l x here) }

wrote_nothing : (w : Option (List ℕ)) → WroteAll [] w w
wrote_nothing None = tt
wrote_nothing (Some old) = ap Some (sym (append-nil old))

pub goes_self : (mark : Mark) (a : Known) (book : BookState) (w : Option (List ℕ)) → FitsPipes book.pipes book.kept → GoesTo mark mark a a book book w w
goes_self mark a book w fits = record {
  later = at_most_self mark;
  lanes = λ texts at. at;
  items = [];
  told = λ reads slack texts of. sym (between_self reads slack texts mark);
  played = λ rules all was. record {
    parts = rests_none rules all mark a was;
    gave = record {
      book_is = sym (book_none book fits);
      wrote = subst (λ (l : List ℕ). WroteAll l w w) (sym (ap (listing book.places) (none_let_out book fits))) (wrote_nothing w);
    };
  };
}

-- ---- what a round needs
pub some_rests : (mark : Mark) (b : Known) → AreSomehowFull mark b → AreSomehowAtRest mark b
some_rests mark b h = record { rules = h.rules; all = h.all; is = h.is }

full_goes : (rules : Rules) (all : List Holder) (items : List Item) → All IsFull all → All IsFull (pending_after rules all items)
full_goes rules all items full = after_is_full rules.stages rules.span all items full

pub at_mark_goes : (from to : Mark) (a b : Known) (book then : BookState) (before now : Option (List ℕ))
    → IsAtMark from a book → GoesTo from to a b book then before now → IsAtMark to b then
at_mark_goes from to a b book then before now at h =
    let p = h.played at.parts.rules at.parts.all at.parts.is in record {
      lanes = h.lanes None at.lanes;
      parts = record { rules = at.parts.rules; all = pending_after at.parts.rules at.parts.all h.items; is = p.parts; full = full_goes at.parts.rules at.parts.all h.items at.parts.full };
      whole = ap (λ (m : BookState). m.whole) p.gave.book_is ∙ at.whole;
      numbers = subst (λ (m : BookState). BookKeepsNumbers m.kept) (sym p.gave.book_is) (numbers_kept book (found_by at.parts.rules at.parts.all h.items) at.numbers);
    }
