-- What lies between marks, what it gives, and what a book writes of it, one after another.
use Rattle.std.proofs.Common.{◌≡◌, ℕ, ℤ, List, [], ◌++◌, Option, sym, ap, ◌∙◌, append_assoc}
use Rattle.std.proofs.lemmas.List.{append_cancel_left, append-nil}
use Rattle.std.proofs.lemmas.Grind.{flat_map-append}
use Rattle.eql_values.specs.declared.item.Item.{Item}
use Rattle.eql_values.specs.declared.found.Match.{Match}
use Rattle.eql_values.specs.declared.found.Holder.{Holder}
use Rattle.eql_values.specs.declared.order.Mark.{Mark}
use Rattle.eql_values.specs.declared.order.Mark.TheVariants.{Start, At, End}
use Rattle.eql_values.specs.Accepted.{Reads, below}
use Rattle.eql_laws.specs.Belows.{between}
use Rattle.eql_laws.specs.Lateness.{IsAtMost}
use Rattle.eql_laws.proofs.BelowLemmas.{below_grows}
use Rattle.eql_laws.proofs.MarkLemmas.{at_most_self, at_most_trans}
use Rattle.eql_laws.proofs.Splitting.{after_split, matches_split}
use Rattle.eql_book.specs.Books.{BookState, book_after, held_back, kept_after, let_out}
use Rattle.eql_book.specs.Listing.{listing, match_line}
use Rattle.eql_book.proofs.Wholes.{adds_go_on}
use Rattle.eql_parts.specs.PartSteps.{Rules}
use Rattle.eql_conductor.specs.PartRounds.{pending_after}
use Rattle.eql_conductor.specs.Rounds.{found_by}
use Rattle.eql_conductor.specs.Runs.{lines_before_end, lines_by, whole_lines}

-- ---- marks
module _ (reads : Reads) (slack : Option ℤ) (texts : List (List ℕ)) where
  pub between_joins : (a b c : Mark) → IsAtMost a b → IsAtMost b c → between reads slack texts a c ≡ between reads slack texts a b ++ between reads slack texts b c
  between_joins a b c ab bc =
      let from : List Item = below reads slack texts a in
      let first : List Item = between reads slack texts a b in
      let second : List Item = between reads slack texts b c in
      append_cancel_left from (between reads slack texts a c) (first ++ second)
      (sym (below_grows reads slack texts a c (at_most_trans a b c ab bc))
      ∙ below_grows reads slack texts b c bc
      ∙ ap (λ (l : List Item). l ++ second) (below_grows reads slack texts a b ab)
      ∙ append_assoc from first second)

  pub between_self : (a : Mark) → between reads slack texts a a ≡ []
  between_self a =
      let from : List Item = below reads slack texts a in
      append_cancel_left from (between reads slack texts a a) [] (sym (below_grows reads slack texts a a (at_most_self a)) ∙ sym (append-nil from))

-- ---- events
module _ (rules : Rules) (all : List Holder) (a b : List Item) where
  pub found_joins : found_by rules all (a ++ b) ≡ found_by rules all a ++ found_by rules (pending_after rules all a) b
  found_joins = matches_split rules.stages rules.span all a b

  pub pending_joins : pending_after rules all (a ++ b) ≡ pending_after rules (pending_after rules all a) b
  pending_joins = after_split rules.stages rules.span all a b

-- ---- matches
module _ (book : BookState) (a b : List Match) where
  pub book_joins : book_after book (a ++ b) ≡ book_after (book_after book a) b
  book_joins = (adds_go_on book a b).book_is

  -- what is kept, of another book that has the pipes
  pub kept_joins : kept_after book.pipes book.kept (a ++ b) ≡ kept_after book.pipes (kept_after book.pipes book.kept a) b
  kept_joins = ap (λ (after : BookState). after.kept) book_joins

  pub lines_join : lines_before_end book (a ++ b) ≡ lines_before_end book a ++ lines_before_end (book_after book a) b
  lines_join =
      ap (listing book.places) (adds_go_on book a b).lines_are
      ∙ flat_map-append (match_line book.places) (let_out book.pipes book.kept a) (let_out book.pipes (kept_after book.pipes book.kept a) b)

  pub whole_joins : whole_lines book (a ++ b) ≡ lines_before_end book a ++ whole_lines (book_after book a) b
  whole_joins =
      (λ i. lines_join i ++ listing book.places (held_back (book_joins i)))
      ∙ append_assoc (lines_before_end book a) (lines_before_end (book_after book a) b) (listing book.places (held_back (book_after (book_after book a) b)))

  pub lines_by_joins : (mark : Mark) → lines_by mark book (a ++ b) ≡ lines_before_end book a ++ lines_by mark (book_after book a) b
  lines_by_joins Start = lines_join
  lines_by_joins (At time) = lines_join
  lines_by_joins End = whole_joins
