-- Lanes that begin, and the texts that are told of them.
use Rattle.std.proofs.Common.{◌≡◌, ℕ, zero, suc, ◌+◌, ℤ, List, [], ◌∷◌, Option, None, Some, All, length, refl, sym, ap, ◌∙◌, arith, subst}
use Rattle.std.specs.Prelude.{IfSome, slice_get}
use Rattle.std.proofs.lemmas.List.Elements.{All-cons, All-nil}
use Rattle.eql_values.specs.Accepted.{Reads}
use Rattle.eql_lane.specs.Views.{IsTextOf, LaneView}
use Rattle.eql_conductor.specs.GoingOn.{AreOfTexts}
use Rattle.eql_conductor.specs.LaneRounds.{text_at}
use Rattle.eql_search.specs.Searches.{AreBegunFrom, AreTextsOf, IsBegunLane}

-- what holds of the one that there may be
pub for_some : {A : Type 0} (o : Option A) (P : A → Type 0) → ((a : A) → o ≡ Some a → P a) → IfSome o P
for_some None P each = tt
for_some (Some a) P each = each a refl

pub of_some : {A : Type 0} (o : Option A) (P : A → Type 0) (a : A) → o ≡ Some a → IfSome o P → P a
of_some o P a e h = let Q : Option _ → Type 0 = λ x. IfSome x P in subst Q e h

-- the text in each place of told texts
pub named : (told : Option (List (List ℕ))) (texts : List (List ℕ)) → told ≡ Some texts → (s : ℕ) → text_at told s ≡ slice_get texts s
named told texts e s = ap (λ (o : Option (List (List ℕ))). text_at o s) e

-- ---- lanes by their places
module _ {S L : Type 0} (read_of : L → Reads) (reads : Reads) (slack : Option ℤ) where
  begun_from : (shard : ℕ) (lanes : List (LaneView S L)) → AreBegunFrom read_of reads slack shard lanes → (k : ℕ) (lane : LaneView S L) → slice_get lanes k ≡ Some lane
      → IsBegunLane read_of reads slack (shard + k) lane
  begun_from shard [] begun k lane there = absurd cc
  begun_from shard (first ∷ lanes) begun zero lane there =
      let same : first ≡ lane = cc in
      let place : shard ≡ shard + 0 = omega arith in
      subst (λ (n : ℕ). IsBegunLane read_of reads slack n lane) place (subst (IsBegunLane read_of reads slack shard) same begun.0)
  begun_from shard (first ∷ lanes) begun (suc k) lane there =
      let place : (shard + 1) + k ≡ shard + suc k = omega arith in
      subst (λ (n : ℕ). IsBegunLane read_of reads slack n lane) place (begun_from (shard + 1) lanes begun.1 k lane there)

  pub begun_at : (lanes : List (LaneView S L)) → AreBegunFrom read_of reads slack 0 lanes → (k : ℕ) (lane : LaneView S L) → slice_get lanes k ≡ Some lane
      → IsBegunLane read_of reads slack k lane
  begun_at lanes begun k lane there =
      let place : 0 + k ≡ k = omega arith in
      subst (λ (n : ℕ). IsBegunLane read_of reads slack n lane) place (begun_from 0 lanes begun k lane there)

-- ---- texts that are told
module _ {S L : Type 0} (left : S → Option (List ℕ)) where
  pub told_count : (texts : List (List ℕ)) (lanes : List (LaneView S L)) → AreTextsOf left texts lanes → length texts ≡ length lanes
  told_count [] [] are = refl
  told_count [] (lane ∷ lanes) are = absurd are
  told_count (text ∷ texts) [] are = absurd are
  told_count (text ∷ texts) (lane ∷ lanes) are = ap suc (told_count texts lanes are.1)

  pub told_at : (texts : List (List ℕ)) (lanes : List (LaneView S L)) → AreTextsOf left texts lanes → (k : ℕ) (lane : LaneView S L) → slice_get lanes k ≡ Some lane
      → IsTextOf left (slice_get texts k) lane
  told_at [] [] are k lane there = absurd cc
  told_at [] (first ∷ lanes) are k lane there = absurd are
  told_at (text ∷ texts) [] are k lane there = absurd are
  told_at (text ∷ texts) (first ∷ lanes) are zero lane there =
      let same : first ≡ lane = cc in subst (IsTextOf left (Some text)) same are.0
  told_at (text ∷ texts) (first ∷ lanes) are (suc k) lane there = told_at texts lanes are.1 k lane there

  pub told_by : (texts : List (List ℕ)) (lanes : List (LaneView S L)) → length texts ≡ length lanes
      → ((k : ℕ) (lane : LaneView S L) → slice_get lanes k ≡ Some lane → IsTextOf left (slice_get texts k) lane) → AreTextsOf left texts lanes
  told_by [] [] e each = tt
  told_by [] (lane ∷ lanes) e each = absurd (omega (arith, e))
  told_by (text ∷ texts) [] e each = absurd (omega (arith, e))
  told_by (text ∷ texts) (lane ∷ lanes) e each = (each 0 lane refl, told_by texts lanes (omega (arith, e)) (λ k. each (suc k)))

  -- each lane is of its own
  pub are_of_texts : (told : Option (List (List ℕ))) (lanes : List (LaneView S L)) → IfSome told (λ (texts : List (List ℕ)). AreTextsOf left texts lanes) → AreOfTexts left (text_at told) lanes
  are_of_texts None lanes are = record { each = λ s lane there. tt }
  are_of_texts (Some texts) lanes are = record { each = λ s lane there. told_at texts lanes are s lane there }

  -- and lanes that are each of their own are of all
  pub told_again : (told : Option (List (List ℕ))) (olds news : List (LaneView S L)) → length news ≡ length olds → IfSome told (λ (texts : List (List ℕ)). AreTextsOf left texts olds)
      → AreOfTexts left (text_at told) news → IfSome told (λ (texts : List (List ℕ)). AreTextsOf left texts news)
  told_again None olds news many were are = tt
  told_again (Some texts) olds news many were are = told_by texts news (told_count texts olds were ∙ sym many) are.each

  -- what holds of the text of each lane holds of all texts
  pub all_told : (P : List ℕ → Type 0) (texts : List (List ℕ)) (lanes : List (LaneView S L)) → AreTextsOf left texts lanes
      → ((k : ℕ) (lane : LaneView S L) (t : List ℕ) → slice_get lanes k ≡ Some lane → slice_get texts k ≡ Some t → P t) → All P texts
  all_told P [] lanes are each = All-nil P
  all_told P (text ∷ texts) [] are each = absurd are
  all_told P (text ∷ texts) (lane ∷ lanes) are each =
      All-cons P text texts (each 0 lane text refl refl) (all_told P texts lanes are.1 (λ k. each (suc k)))
