-- Lines that are read one after another.
use Rattle.std.proofs.Common.{◌≡◌, ℕ, ◌+◌, ℤ, Bool, true, false, cond, List, [], ◌∷◌, ◌++◌, length, Option, Some, None, refl, sym, ap, ◌∙◌, arith, append_assoc, length-append}
use Rattle.std.specs.Prelude.{IsTrue}
use Rattle.std.specs.List.{cons_option}
use Rattle.std.proofs.lemmas.List.Elements.{filter_map-append}
use Rattle.eql_digest.specs.declared.digest.Digest.{Digest}
use Rattle.eql_digest.specs.Digests.{with_bytes}
use Rattle.eql_digest.proofs.Taking.{with_bytes_append}
use Rattle.eql_values.specs.declared.item.Item.{Item}
use Rattle.eql_values.specs.declared.cut.Counts.{Counts}
use Rattle.eql_values.specs.declared.cut.FirstBad.{FirstBad}
use Rattle.eql_values.specs.declared.cut.LaneCut.{LaneCut}
use Rattle.eql_values.specs.declared.reader.LineGot.{LineGot}
use Rattle.eql_values.specs.declared.reader.LineGot.TheVariants as got
use Rattle.eql_values.specs.Accepted.{readable, sorted_items, event_at, placed_at}
use Rattle.eql_values.specs.Lines.{Line, lines_of, numbered_lines}
use Rattle.eql_laws.specs.Counting.{first_in, first_or, bad_at, late_from, counts_from}
use Rattle.eql_laws.specs.Lateness.{best_from, accepted_by, late_by}
use Rattle.eql_laws.specs.Places.{ends_line}
use Rattle.eql_laws.proofs.Kept.{accepted_split, best_from_goes_on}
use Rattle.eql_laws.proofs.CountsOn.{counts_step_on}
use Rattle.eql_laws.proofs.LineLemmas.{numbered_go_on}
use Rattle.eql_laws.proofs.BelowLemmas.{sorted_with_more}
use Rattle.eql_lane.specs.Judging.{best_got, late_got, counts_got, held_got, kept_on, kept_of, cut_with}
use Rattle.eql_lane.specs.Lanes.{Setting, lines_on, read_on}
use Rattle.eql_lane.proofs.FeedLines.{length_numbered, ends_before}

-- ---- one line
one_best : (best : Option ℤ) (at : ℕ) (g : LineGot) → best_from best (cons_option (event_at at g) []) ≡ best_got best g
one_best best at got.Blank = refl
one_best best at (got.Bad reason) = refl
one_best best at (got.Item item) = refl

-- the place of an event says nothing of its lateness
late_placed : (slack best : Option ℤ) (at : ℕ) (item : Item) → late_by slack best (placed_at at item) ≡ late_by slack best item
late_placed None best at item = refl
late_placed (Some slack) None at item = refl
late_placed (Some slack) (Some best) at item = refl

one_held : (slack best : Option ℤ) (at : ℕ) (g : LineGot) → accepted_by slack best (cons_option (event_at at g) []) ≡ held_got (late_got slack best g) at g
one_held slack best at got.Blank = refl
one_held slack best at (got.Bad reason) = refl
one_held slack best at (got.Item item) = ap (λ (late : Bool). cond late [] (placed_at at item ∷ [])) (late_placed slack best at item)

-- the counts with one line, field by field
one_counts : (slack best : Option ℤ) (counts : Counts) (at : ℕ) (g : LineGot) → ◌≡◌ {A = Counts}
    (record {
      lines = counts.lines + 1;
      accepted = counts.accepted + length (accepted_by slack best (cons_option (event_at at g) []));
      late = counts.late + length (late_from slack best (cons_option (event_at at g) []));
      rejected = counts.rejected + length (cons_option (bad_at (1 + counts.lines) g) []);
      first = first_or counts.first (first_in (cons_option (bad_at (1 + counts.lines) g) []));
    })
    (counts_got counts (late_got slack best g) g)
one_counts slack best counts at got.Blank = λ i. record { lines = counts.lines + 1; accepted = none counts.accepted i; late = none counts.late i; rejected = none counts.rejected i; first = same counts.first i }
  where
    none : (n : ℕ) → n + 0 ≡ n
    none n = omega arith

    same : (f : Option FirstBad) → first_or f None ≡ f
    same None = refl
    same (Some bad) = refl
one_counts slack best counts at (got.Bad reason) = λ i. record { lines = counts.lines + 1; accepted = none counts.accepted i; late = none counts.late i; rejected = counts.rejected + 1; first = first_or counts.first (Some (record { line = swap counts.lines i; reason = reason })) }
  where
    none : (n : ℕ) → n + 0 ≡ n
    none n = omega arith

    swap : (n : ℕ) → 1 + n ≡ n + 1
    swap n = omega arith
one_counts slack best counts at (got.Item item) =
    by_late (late_by slack best (placed_at at item)) ∙ ap (λ (late : Bool). counts_got counts late (got.Item item)) (late_placed slack best at item)
  where
    none : (n : ℕ) → n + 0 ≡ n
    none n = omega arith

    same : (f : Option FirstBad) → first_or f None ≡ f
    same None = refl
    same (Some bad) = refl

    by_late : (late : Bool) → ◌≡◌ {A = Counts}
        (record {
          lines = counts.lines + 1;
          accepted = counts.accepted + length (cond late [] (placed_at at item ∷ []));
          late = counts.late + length (cond late (placed_at at item ∷ []) []);
          rejected = counts.rejected + 0;
          first = first_or counts.first None;
        })
        (counts_got counts late (got.Item item))
    by_late true = λ i. record { lines = counts.lines + 1; accepted = none counts.accepted i; late = counts.late + 1; rejected = none counts.rejected i; first = same counts.first i }
    by_late false = λ i. record { lines = counts.lines + 1; accepted = counts.accepted + 1; late = none counts.late i; rejected = none counts.rejected i; first = same counts.first i }

-- what is kept once a line of so many bytes was read too, with which the bytes that were read have this digest
abbrev pub got_on : Option ℤ → LaneCut → LineGot → (width : ℕ) → Digest → LaneCut
got_on slack cut g width digest = cut_with digest (kept_on (kept_of slack cut) g width)

-- reading one line on
pub line_is : (set : Setting) (cut : LaneCut) (line more : List ℕ) (width : ℕ) (digest : Digest) → lines_of more ≡ line ∷ [] → length more ≡ width → digest ≡ with_bytes cut.digest more
    → read_on set cut more ≡ got_on set.slack cut (set.reads set.shard (1 + cut.counts.lines) line) width digest
line_is set cut line more width digest one wide same =
    (λ i. lines_on set cut (one i) more)
    ∙ (λ i. let g : LineGot = set.reads set.shard (1 + cut.counts.lines) line in
    record {
      offset = cut.offset + wide i;
      digest = sym same i;
      closed = cut.closed;
      best = one_best cut.best cut.offset g i;
      counts = one_counts set.slack cut.best cut.counts cut.offset g i;
      items = sorted_items (cut.items ++ one_held set.slack cut.best cut.offset g i);
    })

-- ---- lines after lines
module _ (set : Setting) (cut : LaneCut) (b c : List ℕ) (ends : IsTrue (ends_line b)) where
  abbrev one : List Line
  one = numbered_lines (1 + cut.counts.lines) cut.offset (lines_of b)

  abbrev two : List Line
  two = numbered_lines (1 + (cut.counts.lines + length one)) (cut.offset + length b) (lines_of c)

  abbrev xs : List Item
  xs = readable set.reads set.shard one

  abbrev ys : List Item
  ys = readable set.reads set.shard two

  on_by : (n k l : ℕ) → k ≡ l → 1 + n + k ≡ 1 + (n + l)
  on_by n k l e = omega (arith, e)

  both : numbered_lines (1 + cut.counts.lines) cut.offset (lines_of (b ++ c)) ≡ one ++ two
  both = numbered_go_on (1 + cut.counts.lines) cut.offset b c (ends_before b c ends)
      ∙ (λ i. one ++ numbered_lines (on_by cut.counts.lines (length (lines_of b)) (length one) (sym (length_numbered (1 + cut.counts.lines) cut.offset (lines_of b))) i) (cut.offset + length b) (lines_of c))

  read_both : readable set.reads set.shard (one ++ two) ≡ xs ++ ys
  read_both = filter_map-append _ one two

  sums : (n : ℕ) (k l m : ℕ) → m ≡ k + l → n + k + l ≡ n + m
  sums n k l m e = omega (arith, e)

  -- reading bytes on, and then further ones, is reading all of them on
  pub read_both_on : read_on set (read_on set cut b) c ≡ read_on set cut (b ++ c)
  read_both_on =
      (λ i. record {
        offset = sums cut.offset (length b) (length c) (length (b ++ c)) (length-append b c) i;
        digest = sym (with_bytes_append cut.digest b c) i;
        closed = cut.closed;
        best = sym (ap (best_from cut.best) read_both ∙ best_from_goes_on cut.best xs ys) i;
        counts = sym (counts_step_on set.reads set.slack set.shard cut.best cut.counts one two) i;
        items = (sorted_with_more (cut.items ++ accepted_by set.slack cut.best xs) (accepted_by set.slack (best_from cut.best xs) ys)
            ∙ ap sorted_items (append_assoc cut.items (accepted_by set.slack cut.best xs) (accepted_by set.slack (best_from cut.best xs) ys)
            ∙ ap (λ (l : List Item). cut.items ++ l) (sym (ap (accepted_by set.slack cut.best) read_both ∙ accepted_split set.slack cut.best xs ys)))) i;
      })
      ∙ (λ i. let next : List Line = sym both i in
      record {
        offset = cut.offset + length (b ++ c);
        digest = with_bytes cut.digest (b ++ c);
        closed = cut.closed;
        best = best_from cut.best (readable set.reads set.shard next);
        counts = counts_from set.reads set.slack set.shard cut.best cut.counts next;
        items = sorted_items (cut.items ++ accepted_by set.slack cut.best (readable set.reads set.shard next));
      })
