-- The counts of lines that are read on.
use Rattle.std.proofs.Common.{◌≡◌, ℕ, suc, ◌+◌, ℤ, Bool, true, false, cond, List, [], ◌∷◌, ◌++◌, length, Option, Some, None, refl, sym, ap, ◌∙◌, arith, length-append}
use Rattle.std.specs.Prelude.{IsTrue}
use Rattle.std.proofs.lemmas.List.Elements.{filter_map-append}
use Rattle.eql_values.specs.declared.item.Item.{Item}
use Rattle.eql_values.specs.declared.cut.Counts.{Counts}
use Rattle.eql_values.specs.declared.cut.FirstBad.{FirstBad}
use Rattle.eql_values.specs.Accepted.{Reads, readable}
use Rattle.eql_values.specs.Lines.{Line, lines_of, numbered_lines, lines_in}
use Rattle.eql_laws.specs.Counting.{counts_of, late_from, rejections, first_in, first_or, counts_from, KeptTellsLate, CountsGoOn, CountsStepOn}
use Rattle.eql_laws.specs.Lateness.{larger, late_by, best_of, best_from, accepted_by}
use Rattle.eql_laws.specs.Places.{is_line_end, lines_after}
use Rattle.eql_laws.proofs.Kept.{late_by_best, accepted_by_best, accepted_split, best_is_from}
use Rattle.eql_laws.proofs.LineLemmas.{lines_go_on}

length-numbered_lines : (number at : ℕ) (lines : List (List ℕ)) → length (numbered_lines number at lines) ≡ length lines
length-numbered_lines number at [] = refl
length-numbered_lines number at (line ∷ lines) = ap suc (length-numbered_lines (number + 1) (at + length line + 1) lines)

pub late_by_kept : KeptTellsLate
late_by_kept slack earlier [] = refl
late_by_kept slack earlier (item ∷ items) = λ i.
    cond (late_by_best slack earlier item i) (item ∷ late_by_kept slack (item ∷ earlier) items i) (late_by_kept slack (item ∷ earlier) items i)

late_one : (late : Bool) (item : Item) (xs ys zs : List Item) → xs ≡ ys ++ zs → cond late (item ∷ xs) xs ≡ cond late (item ∷ ys) ys ++ zs
late_one true item xs ys zs e = ap (λ (l : List Item). item ∷ l) e
late_one false item xs ys zs e = e

late_splits : (slack best : Option ℤ) (a b : List Item) → late_from slack best (a ++ b) ≡ late_from slack best a ++ late_from slack (best_from best a) b
late_splits slack best [] b = refl
late_splits slack best (item ∷ a) b =
    late_one (late_by slack best item) item (late_from slack (Some (larger item.order.ts best)) (a ++ b)) (late_from slack (Some (larger item.order.ts best)) a)
    (late_from slack (best_from (Some (larger item.order.ts best)) a) b) (late_splits slack (Some (larger item.order.ts best)) a b)

first_more : (a b : List FirstBad) → first_in (a ++ b) ≡ first_or (first_in a) (first_in b)
first_more [] b = refl
first_more (x ∷ a) b = refl

first_of_three : (o p q : Option FirstBad) → first_or (first_or o p) q ≡ first_or o (first_or p q)
first_of_three (Some bad) p q = refl
first_of_three None p q = refl

-- two lists counted on from a number
counted_both : {X : Type 0} (n : ℕ) (whole xs ys : List X) → whole ≡ xs ++ ys → n + length whole ≡ n + length xs + length ys
counted_both n whole xs ys e = let a = ap (λ (l : List _). length l) e in let b = length-append xs ys in omega (arith, a, b)

module _ (reads : Reads) (slack : Option ℤ) (shard : ℕ) where
  read_both : (a b : List Line) → readable reads shard (a ++ b) ≡ readable reads shard a ++ readable reads shard b
  read_both a b = filter_map-append _ a b

  bad_both : (a b : List Line) → rejections reads shard (a ++ b) ≡ rejections reads shard a ++ rejections reads shard b
  bad_both a b = filter_map-append _ a b

  pub counts_step : (best : Option ℤ) (counts : Counts) (a b : List Line)
      → counts_from reads slack shard best counts (a ++ b)
      ≡ counts_from reads slack shard (best_from best (readable reads shard a)) (counts_from reads slack shard best counts a) b
  counts_step best counts a b =
      let xs : List Item = readable reads shard a in
      let ys : List Item = readable reads shard b in
      let kept = ap (accepted_by slack best) (read_both a b) ∙ accepted_split slack best xs ys in
      let late = ap (late_from slack best) (read_both a b) ∙ late_splits slack best xs ys in
      λ i. record {
        lines = counted_both counts.lines (a ++ b) a b refl i;
        accepted = counted_both counts.accepted (accepted_by slack best (readable reads shard (a ++ b))) (accepted_by slack best xs) (accepted_by slack (best_from best xs) ys) kept i;
        late = counted_both counts.late (late_from slack best (readable reads shard (a ++ b))) (late_from slack best xs) (late_from slack (best_from best xs) ys) late i;
        rejected = counted_both counts.rejected (rejections reads shard (a ++ b)) (rejections reads shard a) (rejections reads shard b) (bad_both a b) i;
        first = (ap (λ (l : List FirstBad). first_or counts.first (first_in l)) (bad_both a b)
            ∙ ap (first_or counts.first) (first_more (rejections reads shard a) (rejections reads shard b))
            ∙ sym (first_of_three counts.first (first_in (rejections reads shard a)) (first_in (rejections reads shard b)))) i;
      }

  -- the counts of a text are those of its lines, from none
  counts_are : (text : List ℕ)
      → counts_of reads slack shard text ≡ counts_from reads slack shard None (record { lines = 0; accepted = 0; late = 0; rejected = 0; first = None }) (lines_in text)
  counts_are text = λ i. record {
    lines = (sym (length-numbered_lines 1 0 (lines_of text)) ∙ from_none (length (lines_in text))) i;
    accepted = (ap length (accepted_by_best slack [] (readable reads shard (lines_in text))) ∙ from_none (length (accepted_by slack None (readable reads shard (lines_in text))))) i;
    late = (ap length (late_by_kept slack [] (readable reads shard (lines_in text))) ∙ from_none (length (late_from slack None (readable reads shard (lines_in text))))) i;
    rejected = from_none (length (rejections reads shard (lines_in text))) i;
    first = first_in (rejections reads shard (lines_in text));
  }
    where
      from_none : (n : ℕ) → n ≡ 0 + n
      from_none n = omega arith

  pub counts_on : (a b : List ℕ) → IsTrue (is_line_end a b)
      → counts_of reads slack shard (a ++ b)
      ≡ counts_from reads slack shard (best_of (readable reads shard (lines_in a))) (counts_of reads slack shard a) (lines_after a b)
  counts_on a b h =
      let none : Counts = record { lines = 0; accepted = 0; late = 0; rejected = 0; first = None } in
      counts_are (a ++ b)
      ∙ ap (counts_from reads slack shard None none) (lines_go_on a b h)
      ∙ counts_step None none (lines_in a) (lines_after a b)
      ∙ (λ i. counts_from reads slack shard (best_is_from (readable reads shard (lines_in a)) i) (sym (counts_are a) i) (lines_after a b))

pub counts_go_on : CountsGoOn
counts_go_on reads slack shard a b h = counts_on reads slack shard a b h

pub counts_step_on : CountsStepOn
counts_step_on reads slack shard best counts a b = counts_step reads slack shard best counts a b
