-- Two lanes of which nothing was read are as a search may begin with them.
use Rattle.std.proofs.Common.{◌≡◌, List, [], ◌∷◌, length, refl, sym, ap, ◌∙◌, subst}
use Rattle.std.specs.Prelude.{All}
use Rattle.std.proofs.lemmas.List.Elements.{All-cons, All-nil}
use Rattle.eql_values.specs.declared.cut.BookCut.{BookCut}
use Rattle.eql_values.specs.declared.cut.LaneCut.{LaneCut}
use Rattle.eql_values.specs.declared.cut.Pipe.{Pipe}
use Rattle.eql_values.specs.declared.found.Holder.{Holder}
use Rattle.eql_values.specs.declared.order.Mark.{Mark}
use Rattle.eql_values.specs.declared.order.Mark.TheVariants.{Start}
use Rattle.eql_values.specs.Accepted.{Reads}
use Rattle.eql_lane.specs.Lanes.{fresh_cut as fresh_lane}
use Rattle.eql_lane.specs.Views.{LaneView}
use Rattle.eql_book.specs.Laws.{fresh_cut as fresh_book}
use Rattle.eql_search.specs.Beginnings.{MayBegin, cuts_of}
use Rattle.eql_search.specs.Searches.{AreBegun, Rules}
use Rattle.eql_hands_tests.specs.Fresh.{AreTwo}

module _ {S L : Type 0} (read_of : L → Reads) (lanes : List (LaneView S L)) (two : AreTwo read_of lanes) where
  pub are_two : length lanes ≡ 2
  are_two = ap length two.are

  pub are_begun : AreBegun read_of lanes
  are_begun = subst (λ (l : List (LaneView S L)). AreBegun read_of l) (sym two.are) (
    record { shard_is = two.first_is.shard_is; slack_is = refl; reads_are = refl; state_is = two.first_is.state_is },
    (
      record {
        shard_is = two.second_is.shard_is;
        slack_is = two.second_is.slack_is ∙ sym two.first_is.slack_is;
        reads_are = two.second_is.reads_are ∙ sym two.first_is.reads_are;
        state_is = two.second_is.state_is;
      },
      tt,
    ),
  )

  abbrev are_fresh : All (λ (cut : LaneCut). cut ≡ fresh_lane) (cuts_of lanes)
  are_fresh = subst (λ (l : List (LaneView S L)). All (λ (cut : LaneCut). cut ≡ fresh_lane) (cuts_of l)) (sym two.are)
      (All-cons (λ (cut : LaneCut). cut ≡ fresh_lane) two.first.state.cut (two.second.state.cut ∷ []) two.first_is.cut_is
      (All-cons (λ (cut : LaneCut). cut ≡ fresh_lane) two.second.state.cut [] two.second_is.cut_is (All-nil (λ (cut : LaneCut). cut ≡ fresh_lane))))

  pub may_begin : (rules : Rules) (pipes : List Pipe) (mark : Mark) (holders : List Holder) (book : BookCut) → mark ≡ Start → holders ≡ [] → book ≡ fresh_book pipes
      → MayBegin rules pipes mark (cuts_of lanes) holders book
  may_begin rules pipes mark holders book start none fresh =
      subst (λ (m : Mark). MayBegin rules pipes m (cuts_of lanes) holders book) (sym start) (record { lanes_are = are_fresh; none = none; book_is = fresh })
