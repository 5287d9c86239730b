-- The places of the lines of a text, and of its events.
use Rattle.std.proofs.Common.{◌≡◌, ◌<◌, ◌≤◌, ◌+◌, eqb, cond, Bool, true, false, ℕ, suc, ℤ, List, [], ◌∷◌, ◌++◌, length, Option, refl, sym, ap, subst, ◌∙◌, ⊎_elim, arith}
use Rattle.std.specs.Prelude.{All, IfSome}
use Rattle.std.proofs.lemmas.Bool.{eq-eqb, ne_eqb, cases_eq}
use Rattle.std.proofs.lemmas.List.Elements.{All-nil, All-cons, All-weaker}
use Rattle.eql_values.specs.declared.item.Item.{Item}
use Rattle.eql_values.specs.declared.reader.LineGot.{LineGot}
use Rattle.eql_values.specs.declared.reader.LineGot.TheVariants as got
use Rattle.eql_values.specs.Accepted.{Reads, event_at, readable, accepted_items}
use Rattle.eql_values.specs.Lines.{Line, begin_with, lines_of, numbered_lines, lines_in}
use Rattle.eql_values.specs.Reading.{IsReadAt}
use Rattle.eql_laws.specs.Belows.{IsReading}
use Rattle.eql_laws.proofs.BelowLemmas.{All-accepted}
use Rattle.eql_laws.proofs.Elements.{All-filter_map}
use Rattle.eql_cut.specs.Placed.{place_of_line, IsLineAt}

-- among lines from this number on, of which there are so many, that of a number has this place
pub record StandsAt (lines : List Line) (from many number at : ℕ) : Type 0 where
  pub number_from : from ≤ number
  pub number_to : number < from + many
  pub place_is : place_of_line lines number ≡ at

abbrev LineStands : List Line → (from many : ℕ) → Line → Type 0
LineStands lines from many line = StandsAt lines from many line.number line.at

-- a line behind the first
one_more : (first : Line) (lines : List Line) (from many : ℕ) → first.number ≡ from → (line : Line) → LineStands lines (from + 1) many line
    → LineStands (first ∷ lines) from (suc many) line
one_more first lines from many is line h =
    let above : from + 1 ≤ line.number = h.number_from in
    record {
      number_from = omega (arith, above);
      number_to = (let to = h.number_to in omega (arith, to));
      place_is = ap (λ (b : Bool). cond b first.at (place_of_line lines line.number)) (ne_eqb first.number line.number (λ e. omega (arith, is, e, above))) ∙ h.place_is;
    }

each_stands : (number at : ℕ) (lines : List (List ℕ)) → All (LineStands (numbered_lines number at lines) number (length lines)) (numbered_lines number at lines)
each_stands number at [] = All-nil _
each_stands number at (bytes ∷ lines) =
    let first : Line = record { number = number; at = at; bytes = bytes } in
    let rest : List Line = numbered_lines (number + 1) (at + length bytes + 1) lines in
    All-cons (LineStands (first ∷ rest) number (suc (length lines))) first rest
    (record {
      number_from = omega arith;
      number_to = omega arith;
      place_is = ap (λ (b : Bool). cond b at (place_of_line rest number)) (eq-eqb number number refl);
    })
    (All-weaker (LineStands rest (number + 1) (length lines)) (LineStands (first ∷ rest) number (suc (length lines))) (one_more first rest number (length lines) refl) rest
    (each_stands (number + 1) (at + length bytes + 1) lines))

-- a line of a text has its place
pub line_stands : (text : List ℕ) (entry : ℕ × ℕ) → IsLineAt text entry → StandsAt (lines_in text) 1 (length (lines_of text)) entry.0 entry.1
line_stands text entry is = record { number_from = is.0.0; number_to = (let to = is.0.1 in omega (arith, to)); place_is = is.1 }

-- an event of the shard's text stands at one of its lines, and has its place
pub record IsEventOf (shard : ℕ) (text : List ℕ) (item : Item) : Type 0 where
  pub shard_is : item.order.shard ≡ shard
  pub stands : StandsAt (lines_in text) 1 (length (lines_of text)) item.order.line item.order.at

module _ (reads : Reads) (shard : ℕ) (text : List ℕ) (reading : IsReading reads) where
  event_stands : (line : Line) (g : LineGot) → reads shard line.number line.bytes ≡ g → LineStands (lines_in text) 1 (length (lines_of text)) line
      → IfSome (event_at line.at g) (IsEventOf shard text)
  event_stands line (got.Item item) e h =
      let r : IsReadAt shard line.number item = reading shard line.number line.bytes item e in
      record { shard_is = r.shard_is; stands = subst (λ (n : ℕ). StandsAt (lines_in text) 1 (length (lines_of text)) n line.at) (sym r.line_is) h }
  event_stands line got.Blank e h = tt
  event_stands line (got.Bad reason) e h = tt

  pub accepted_stand : (slack : Option ℤ) → All (IsEventOf shard text) (accepted_items reads slack shard text)
  accepted_stand slack =
      All-accepted (IsEventOf shard text) slack [] (readable reads shard (lines_in text))
      (All-filter_map (LineStands (lines_in text) 1 (length (lines_of text))) (IsEventOf shard text) (λ (line : Line). event_at line.at (reads shard line.number line.bytes))
      (λ line h. event_stands line (reads shard line.number line.bytes) refl h) (lines_in text) (each_stands 1 0 (lines_of text)))

-- lines below the first have no place
none_before : (number at : ℕ) (lines : List (List ℕ)) (k : ℕ) → k < number → place_of_line (numbered_lines number at lines) k ≡ 0
none_before number at [] k lt = refl
none_before number at (bytes ∷ lines) k lt =
    ap (λ (b : Bool). cond b at (place_of_line (numbered_lines (number + 1) (at + length bytes + 1) lines) k)) (ne_eqb number k (λ e. omega (arith, lt, e)))
    ∙ none_before (number + 1) (at + length bytes + 1) lines k (omega (arith, lt))

-- a byte before the first line moves its place alone
twice : (b : Bool) (x y z : ℕ) → cond b x z ≡ cond b x (cond b y z)
twice true x y z = refl
twice false x y z = refl

begun : (number at byte : ℕ) (lines : List (List ℕ)) (k : ℕ)
    → place_of_line (numbered_lines number at (begin_with byte lines)) k ≡ cond (eqb number k) at (place_of_line (numbered_lines number (at + 1) lines) k)
begun number at byte [] k = refl
begun number at byte (line ∷ lines) k =
    ap (λ (n : ℕ). cond (eqb number k) at (place_of_line (numbered_lines (number + 1) n lines) k)) (same at (length line))
    ∙ twice (eqb number k) at (at + 1) (place_of_line (numbered_lines (number + 1) (at + 1 + length line + 1) lines) k)
  where
    same : (n l : ℕ) → n + suc l + 1 ≡ n + 1 + l + 1
    same n l = omega arith

not_first : (number byte k : ℕ) (lines : List (List ℕ)) → k < number + length (begin_with byte lines) → (number ≡ k → ⊥) → k < number + length lines
not_first number byte k [] lt apart = grind arith
not_first number byte k (line ∷ lines) lt apart = lt

-- of lines that have the same places, those with one byte more before them
by_byte : (number at byte : ℕ) (feed : Bool) (xs ys : List (List ℕ))
    → ((k : ℕ) → k < number + 1 + length ys → place_of_line (numbered_lines (number + 1) (at + 0 + 1) xs) k ≡ place_of_line (numbered_lines (number + 1) (at + 0 + 1) ys) k)
    → ((k : ℕ) → k < number + length ys → place_of_line (numbered_lines number (at + 1) xs) k ≡ place_of_line (numbered_lines number (at + 1) ys) k)
    → (k : ℕ) → k < number + length (cond feed ([] ∷ ys) (begin_with byte ys))
    → place_of_line (numbered_lines number at (cond feed ([] ∷ xs) (begin_with byte xs))) k ≡ place_of_line (numbered_lines number at (cond feed ([] ∷ ys) (begin_with byte ys))) k
by_byte number at byte true xs ys next same k lt = ap (λ (n : ℕ). cond (eqb number k) at n) (next k (omega (arith, lt)))
by_byte number at byte false xs ys next same k lt =
    begun number at byte xs k
    ∙ ⊎_elim
    (λ (is : number ≡ k). ap (λ (b : Bool). cond b at (place_of_line (numbered_lines number (at + 1) xs) k)) (eq-eqb number k is)
    ∙ sym (ap (λ (b : Bool). cond b at (place_of_line (numbered_lines number (at + 1) ys) k)) (eq-eqb number k is)))
    (λ (apart : number ≡ k → ⊥). ap (λ (n : ℕ). cond (eqb number k) at n) (same k (not_first number byte k ys lt apart)))
    (cases_eq number k)
    ∙ sym (begun number at byte ys k)

front_place : (number at : ℕ) (first rest : List ℕ) (k : ℕ) → k < number + length (lines_of first)
    → place_of_line (numbered_lines number at (lines_of (first ++ rest))) k ≡ place_of_line (numbered_lines number at (lines_of first)) k
front_place number at [] rest k lt = none_before number at (lines_of rest) k (omega (arith, lt))
front_place number at (byte ∷ first) rest k lt =
    by_byte number at byte (eqb byte 10) (lines_of (first ++ rest)) (lines_of first) (front_place (number + 1) (at + 0 + 1) first rest) (front_place number (at + 1) first rest) k lt

-- what stands in the front of a text has its place in the whole
pub in_whole : (first rest : List ℕ) (number at : ℕ) → StandsAt (lines_in first) 1 (length (lines_of first)) number at → place_of_line (lines_in (first ++ rest)) number ≡ at
in_whole first rest number at h = front_place 1 0 first rest number h.number_to ∙ h.place_is
