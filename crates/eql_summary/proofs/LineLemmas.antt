-- The lines of a text, one after the other, and their ends.
use Rattle.std.proofs.Common.{◌≡◌, ℕ, suc, ◌+◌, ◌-◌, ◌≤◌, ◌<◌, false, List, [], ◌∷◌, ◌++◌, length, take, drop, Option, Some, None, refl, sym, ap, ◌∙◌, arith, subst, append_assoc, length-append}
use Rattle.std.proofs.lemmas.Bool.{false≢true}
use Rattle.std.proofs.lemmas.List.{append-nil, take_all, length-drop}
use Rattle.memchr.specs.Find.{IsFirstByte, is_byte}
use Rattle.std.specs.Prelude.{Bool, IfSome, ◌==◌}
use Rattle.eql_values.specs.Lines.{lines_of}
use Rattle.eql_laws.proofs.LineLemmas.{lines_are_one}
use Rattle.eql_lane.specs.Buffers.{HasFeedAt, IsOneLine}
use Rattle.eql_lane.proofs.Feeds.{found_if, found_none}
use Rattle.eql_runs.specs.Summaries.{first_or_none, last_or_none}
use Rattle.eql_runs.proofs.ListingLines.{line_fed}
use Rattle.eql_summary.specs.declared.ends.Ends.{Ends}
use Rattle.eql_summary.specs.Ends.{AreEnds}

pub next_fed : (end : ℕ) (text rest : List ℕ) → HasFeedAt end text → rest ≡ drop (suc end) text
    → lines_of text ≡ take end text ∷ lines_of rest
next_fed end text rest at is =
    ap lines_of at.parts ∙ line_fed (take end text) (drop (suc end) text) at.one
    ∙ ap (λ (r : List ℕ). take end text ∷ lines_of r) (sym is)

pub next_alone : (text : List ℕ) → IsOneLine text → (text ≡ [] → ⊥) → lines_of text ≡ text ∷ []
next_alone text one some = (lines_are_one text one).without some

-- what stands behind a place
behind_place : (end : ℕ) (text : List ℕ) → take (length text - (end + 1)) (drop (end + 1) text) ≡ drop (suc end) text
behind_place end text =
    let next : end + 1 ≡ suc end = omega arith in
    let count : length (drop (suc end) text) ≡ length text - (end + 1) = length-drop (suc end) text ∙ ap (λ (n : ℕ). length text - n) (sym next) in
    ap (λ (n : ℕ). take (length text - (end + 1)) (drop n text)) next
    ∙ take_all (length text - (end + 1)) (drop (suc end) text) (omega (arith, count))

pub next_found : (found : Option ℕ) (end : ℕ) (text : List ℕ) → IsFirstByte (is_byte 10) text found → found ≡ Some end
    → lines_of text ≡ take end text ∷ lines_of (take (length text - (end + 1)) (drop (end + 1) text))
next_found found end text h is =
    let at : HasFeedAt end text = subst (λ (o : Option ℕ). IfSome o (λ (e : ℕ). HasFeedAt e text)) is (found_if found text h) in
    next_fed end text _ at (behind_place end text)

pub next_none : (found : Option ℕ) (text : List ℕ) (empty : Bool) → IsFirstByte (is_byte 10) text found → found ≡ None
    → empty ≡ (length text == 0) → empty ≡ false → lines_of text ≡ text ∷ []
next_none found text empty h is empty_is some =
    next_alone text (found_none found text h is)
    (λ e. false≢true (sym some ∙ empty_is ∙ ap (λ (t : List ℕ). length t == 0) e))

-- of a text these lines were gone over, and the rest is left
pub record GoneOver (text rest : List ℕ) (ends : Ends) : Type 0 where
  pub lines : List (List ℕ)
  pub are : lines_of text ≡ lines ++ lines_of rest
  pub ends_are : AreEnds lines ends
  pub few : length lines + length rest ≤ length text

pub none_gone : (text : List ℕ) (ends : Ends) → AreEnds [] ends → GoneOver text text ends
none_gone text ends are = record { lines = []; are = refl; ends_are = are; few = omega arith }

last_of : (lines : List (List ℕ)) (line : List ℕ) → line ≡ last_or_none (lines ++ line ∷ [])
last_of [] line = refl
last_of (one ∷ []) line = refl
last_of (one ∷ next ∷ lines) line = last_of (next ∷ lines) line

first_stays : (lines : List (List ℕ)) (line : List ℕ) → (length lines ≡ 0 → ⊥)
    → first_or_none lines ≡ first_or_none (lines ++ line ∷ [])
first_stays [] line some = absurd (some refl)
first_stays (one ∷ lines) line some = refl

first_begins : (lines : List (List ℕ)) (line : List ℕ) → length lines ≡ 0 → line ≡ first_or_none (lines ++ line ∷ [])
first_begins [] line none = refl
first_begins (one ∷ lines) line none = absurd (omega (arith, none))

one_more : (lines : List (List ℕ)) (line : List ℕ) (n : ℕ) → n ≡ length lines → n + 1 ≡ length (lines ++ line ∷ [])
one_more lines line n e = omega (arith, e, length-append lines (line ∷ []))

module _ (text rest line others : List ℕ) (old : Ends) (gone : GoneOver text rest old)
    (next : lines_of rest ≡ line ∷ lines_of others) (shorter : length others < length rest) where
  -- with the next line
  more_gone : (new : Ends) → AreEnds (gone.lines ++ line ∷ []) new → GoneOver text others new
  more_gone new are = record {
    lines = gone.lines ++ line ∷ [];
    are = gone.are ∙ ap (λ (l : List (List ℕ)). gone.lines ++ l) next ∙ sym (append_assoc gone.lines (line ∷ []) (lines_of others));
    ends_are = are;
    few = omega (arith, gone.few, shorter, length-append gone.lines (line ∷ []));
  }

  pub first_gone : (new : Ends) → old.count ≡ 0 → new.count ≡ old.count + 1 → new.first.now ≡ line → new.last.now ≡ line
      → GoneOver text others new
  first_gone new none count first last =
      let zero_lines : length gone.lines ≡ 0 = sym gone.ends_are.count ∙ none in
      more_gone new (record {
        count = count ∙ one_more gone.lines line old.count gone.ends_are.count;
        first = first ∙ first_begins gone.lines line zero_lines;
        last = last ∙ last_of gone.lines line;
      })

  pub next_gone : (new : Ends) → (old.count ≡ 0 → ⊥) → new.count ≡ old.count + 1 → new.first.now ≡ old.first.now → new.last.now ≡ line
      → GoneOver text others new
  next_gone new some count first last =
      more_gone new (record {
        count = count ∙ one_more gone.lines line old.count gone.ends_are.count;
        first = first ∙ gone.ends_are.first ∙ first_stays gone.lines line (λ e. some (gone.ends_are.count ∙ e));
        last = last ∙ last_of gone.lines line;
      })

-- where nothing is left, these are the ends of the text
pub all_gone : (text rest : List ℕ) (ends : Ends) → GoneOver text rest ends → rest ≡ [] → AreEnds (lines_of text) ends
all_gone text rest ends gone e = by gone.ends_are
  where
    all : gone.lines ≡ lines_of text
    all = sym (append-nil gone.lines) ∙ ap (λ (r : List ℕ). gone.lines ++ lines_of r) (sym e) ∙ sym gone.are

    by : AreEnds gone.lines ends → AreEnds (lines_of text) ends
    by are = subst (λ (l : List (List ℕ)). AreEnds l ends) all are
