-- Readings that are joined.
use Rattle.std.proofs.Common.{◌≡◌, inl, inr, ℕ, ◌+◌, ◌≤◌, Bool, false, List, [], ◌∷◌, ◌++◌, length, drop, Option, Some, None, refl, sym, ap, ◌∙◌, subst, arith, append_assoc, length-append}
use Rattle.std.specs.Prelude.{IsTrue, IfSome}
use Rattle.std.proofs.lemmas.List.{append-nil, drop-drop}
use Rattle.eql_values.specs.declared.cut.LaneCut.{LaneCut}
use Rattle.eql_values.specs.declared.cut.FirstBad.{FirstBad}
use Rattle.eql_values.specs.Accepted.{Reads, sorted_items}
use Rattle.eql_values.specs.Lines.{lines_of}
use Rattle.eql_laws.specs.Places.{ends_line}
use Rattle.eql_lane.specs.Lanes.{Setting, LaneState, IsState, GoesOn, ReadsOn, read_on}
use Rattle.eql_laws.specs.Counting.{first_or}
use Rattle.eql_laws.proofs.LineLemmas.{lines_end_on}
use Rattle.eql_lane.specs.Views.{IsSameLane, LaneView, setting_of}
use Rattle.eql_lane.specs.Feeding.{ReadsAt}
use Rattle.eql_lane.proofs.Digesting.{none_added as digest_added}
use Rattle.eql_lane.proofs.FeedLines.{lines_both}
use Rattle.eql_lane.proofs.Reading.{read_both_on}

drop_front : (a b : List ℕ) → drop (length a) (a ++ b) ≡ b
drop_front [] b = refl
drop_front (x ∷ a) b = drop_front a b

pub goes_on_both : (text : List ℕ) (at then : ℕ) (a b : List ℕ) (closed : Bool) → then ≡ at + length a → GoesOn text at a false → GoesOn text then b closed → GoesOn text at (a ++ b) closed
goes_on_both text at then a b closed e p q = record {
  rest = q.rest;
  parts = p.parts ∙ ap (λ (l : List ℕ). a ++ l)
      (sym (drop_front a p.rest) ∙ ap (drop (length a)) (sym p.parts) ∙ drop-drop (length a) at text ∙ ap (λ (n : ℕ). drop n text) (sym e) ∙ q.parts)
      ∙ sym (append_assoc a b q.rest);
  at_end = q.at_end;
}

told_both : (text : Option (List ℕ)) (at then : ℕ) (a b : List ℕ) (mid closed : Bool) → mid ≡ false → then ≡ at + length a
    → IfSome text (λ t. GoesOn t at a mid) → IfSome text (λ t. GoesOn t then b closed) → IfSome text (λ t. GoesOn t at (a ++ b) closed)
told_both None at then a b mid closed f e p q = tt
told_both (Some text) at then a b mid closed f e p q = goes_on_both text at then a b closed e (subst (λ (c : Bool). GoesOn text at a c) f p) q

module _ (set : Setting) (a b c : LaneState) (n m : ℕ) (is_open : b.cut.closed ≡ false) (p : ReadsOn set a n b) (q : ReadsOn set b m c) where
  first_ends : IsTrue (ends_line p.more)
  first_ends = elim p.ended [ inl ends ↦ ends | inr closed ↦ let e = sym is_open ∙ closed in cc ]

  pub reads_join : ReadsOn set a (n + m) c
  reads_join = record {
    more = p.more ++ q.more;
    count = let x = ap length (lines_both p.more q.more first_ends) in let y = length-append (lines_of p.more) (lines_of q.more) in omega (arith, x, y, p.count, q.count);
    ended = elim q.ended [ inl ends ↦ inl (lines_end_on p.more q.more first_ends ends) | inr closed ↦ inr closed ];
    told = told_both set.text a.cut.offset b.cut.offset p.more q.more b.cut.closed c.cut.closed is_open (ap (λ (cut : LaneCut). cut.offset) p.cut) p.told q.told;
    cut = q.cut
        ∙ ap (λ (cut : LaneCut). let k : LaneCut = record (read_on set cut q.more) { closed = c.cut.closed } in k) p.cut
        ∙ ap (λ (cut : LaneCut). let k : LaneCut = record cut { closed = c.cut.closed } in k) (read_both_on set a.cut p.more q.more first_ends);
    given = q.given ∙ p.given;
    taken = omega (arith, p.taken, q.taken);
    counts = omega (arith, p.counts, q.counts);
    is = q.is;
  }

-- nothing was read
told_none : (text : Option (List ℕ)) (at : ℕ) (closed : Bool) → closed ≡ false → IfSome text (λ t. GoesOn t at [] closed)
told_none None at closed e = tt
told_none (Some text) at closed e = record { rest = drop at text; parts = refl; at_end = λ t. let a = sym e ∙ t in cc }

kept_none : (first : Option FirstBad) → first ≡ first_or first None
kept_none None = refl
kept_none (Some bad) = refl

pub added_none : (n : ℕ) → n ≡ n + 0
added_none n = omega arith

pub read_none : (set : Setting) (cut : LaneCut) → sorted_items cut.items ≡ cut.items → cut ≡ read_on set cut []
read_none set cut order = λ i. record {
  offset = added_none cut.offset i;
  digest = digest_added cut.digest i;
  closed = cut.closed;
  best = cut.best;
  counts = record { lines = added_none cut.counts.lines i; accepted = added_none cut.counts.accepted i; late = added_none cut.counts.late i; rejected = added_none cut.counts.rejected i; first = kept_none cut.counts.first i };
  items = (sym order ∙ ap sorted_items (sym (append-nil cut.items))) i;
}

pub reads_none : (set : Setting) (a b : LaneState) → IsState set b → a.cut.closed ≡ false → b.cut ≡ a.cut → b.given ≡ a.given → a.taken ≤ b.taken → a.faults ≤ b.faults → ReadsOn set a 0 b
reads_none set a b is e same given taken counts = record {
  more = [];
  count = refl;
  ended = inl refl;
  told = told_none set.text a.cut.offset b.cut.closed (ap (λ (cut : LaneCut). cut.closed) same ∙ e);
  cut = same ∙ read_none set a.cut (subst (λ (cut : LaneCut). sorted_items cut.items ≡ cut.items) same is.order) ∙ (λ i. let k : LaneCut = record (read_on set a.cut []) { closed = sym (ap (λ (cut : LaneCut). cut.closed) same) i } in k);
  given = given;
  taken = taken;
  counts = counts;
  is = is;
}

-- readings at which the faults stay
pub reads_at_join : (set : Setting) (a b c : LaneState) (n m : ℕ) (closed : Bool) → ReadsAt set a n false b → ReadsAt set b m closed c → ReadsAt set a (n + m) closed c
reads_at_join set a b c n m closed p q = record {
  reads = reads_join set a b c n m p.closed_is p.reads q.reads;
  closed_is = q.closed_is;
  faults = q.faults ∙ p.faults;
}

-- ---- the lane stays the same
module _ {S L : Type 0} (left lent_as : S → Option (List ℕ)) (read_of : L → Reads) where
  pub same_self : (a : LaneView S L) → IsSameLane left lent_as read_of a a
  same_self a = record { shard = refl; slack = refl; reads = refl; places = refl; named = refl; silent = λ e. e }

  pub same_both : (a b c : LaneView S L) → IsSameLane left lent_as read_of a b → IsSameLane left lent_as read_of b c → IsSameLane left lent_as read_of a c
  same_both a b c p q = record { shard = q.shard ∙ p.shard; slack = q.slack ∙ p.slack; reads = q.reads ∙ p.reads; places = q.places ∙ p.places; named = q.named ∙ p.named; silent = λ e. q.silent (p.silent e) }

  pub setting_same : (text : Option (List ℕ)) (a b : LaneView S L) → IsSameLane left lent_as read_of a b → setting_of read_of text b ≡ setting_of read_of text a
  setting_same text a b s = λ i. record { text = text; shard = s.shard i; slack = s.slack i; reads = s.reads i }

  module _ (text : Option (List ℕ)) (a x y : LaneView S L) (k : ℕ) (reads : ReadsAt (setting_of read_of text a) a.state k false x.state) (same : IsSameLane left lent_as read_of a x) where
    -- a step of this many lines goes on
    pub step_on : (m : ℕ) (closed : Bool) → ReadsAt (setting_of read_of text x) x.state m closed y.state → ReadsAt (setting_of read_of text a) a.state (k + m) closed y.state
    step_on m closed s =
        reads_at_join (setting_of read_of text a) a.state x.state y.state k m closed reads
        (subst (λ (set : Setting). ReadsAt set x.state m closed y.state) (setting_same text a x same) s)

    none_more : (closed : Bool) → ReadsAt (setting_of read_of text a) a.state (k + 0) closed y.state → ReadsAt (setting_of read_of text a) a.state k closed y.state
    none_more closed s = subst (λ (n : ℕ). ReadsAt (setting_of read_of text a) a.state n closed y.state) (sym (added_none k)) s

    -- a step without a line goes on
    pub none_on : (closed : Bool) → ReadsAt (setting_of read_of text x) x.state 0 closed y.state → ReadsAt (setting_of read_of text a) a.state k closed y.state
    none_on closed s = none_more closed (step_on 0 closed s)

    -- a step that failed
    pub failed_on : ReadsOn (setting_of read_of text x) x.state 0 y.state → ReadsOn (setting_of read_of text a) a.state k y.state
    failed_on r =
        subst (λ (n : ℕ). ReadsOn (setting_of read_of text a) a.state n y.state) (sym (added_none k))
        (reads_join (setting_of read_of text a) a.state x.state y.state k 0 reads.closed_is reads.reads
        (subst (λ (set : Setting). ReadsOn set x.state 0 y.state) (setting_same text a x same) r))

told_end : (text : Option (List ℕ)) (at : ℕ) (closed : Bool) → IfSome text (λ t. drop at t ≡ []) → IfSome text (λ t. GoesOn t at [] closed)
told_end None at closed e = tt
told_end (Some text) at closed e = record { rest = []; parts = e; at_end = λ _. refl }

-- nothing is read of a lane that is closed
pub reads_closed : (set : Setting) (a : LaneState) → IsState set a → IfSome set.text (λ t. drop a.cut.offset t ≡ []) → ReadsOn set a 0 a
reads_closed set a is e = record {
  more = [];
  count = refl;
  ended = inl refl;
  told = told_end set.text a.cut.offset a.cut.closed e;
  cut = read_none set a.cut is.order;
  given = refl;
  taken = omega arith;
  counts = omega arith;
  is = is;
}
