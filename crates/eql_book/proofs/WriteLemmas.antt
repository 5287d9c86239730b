-- What is printed of a list of matches, one after the other.
use Rattle.std.proofs.Common.{◌≡◌, ℕ, ◌+◌, ◌-◌, ◌<◌, ◌≤◌, arith, Bool, List, [], ◌∷◌, ◌++◌, length, take, drop, Option, Some, None, sym, ap, ◌∙◌, subst}
use Rattle.std.specs.Prelude.{OnErr, Result, Ok, Err, slice_get}
use Rattle.std.proofs.Math.Seq.{take-add}
use Rattle.std.proofs.lemmas.List.{append-nil, append_assoc}
use Rattle.eql_values.specs.declared.found.Match.{Match}
use Rattle.eql_values.specs.declared.found.Numbered.{Numbered}
use Rattle.eql_values.specs.declared.cut.BookCut.{BookCut}
use Rattle.eql_values.specs.declared.cut.Pipe.{Pipe}
use Rattle.eql_outside.specs.Written.{WroteAll, WroteFront, WroteBut}
use Rattle.eql_book.specs.Books.{kept_after, let_out}
use Rattle.eql_book.specs.Listing.{match_line, listing}
use Rattle.eql_book.proofs.Going.{out_on, flat_map_on}
use Rattle.eql_book.proofs.RangeLemmas.{one_more}
use Rattle.eql_book.proofs.Printing.{printed_more, printed_whole, part_more}

-- the line of the one match that comes out
pub one_line : (places : Bool) (n : Numbered) (out : List Numbered) → n ∷ [] ≡ out → match_line places n ≡ listing places out
one_line places n out is = sym (append-nil (match_line places n)) ∙ ap (listing places) is

-- a text and no more
pub no_line : (places : Bool) (waiting : List ℕ) (out : List Numbered) (before : Option (List ℕ)) → [] ≡ out → WroteBut waiting (waiting ++ listing places out) before before
no_line places waiting out None is = tt
no_line places waiting out (Some w) is =
    ([], ap Some (sym (append-nil w)), sym (append-nil waiting) ∙ ap (λ (l : List Numbered). waiting ++ listing places l) is)

module _ (pipes : List Pipe) (kept : BookCut) (places : Bool) (start : List ℕ) where
  abbrev lines : List Match → List ℕ
  lines matches = listing places (let_out pipes kept matches)

  abbrev next_lines : List Match → List Match → List ℕ
  next_lines done matches = listing places (let_out pipes (kept_after pipes kept done) matches)

  lines_on : (a b : List Match) → lines (a ++ b) ≡ lines a ++ next_lines a b
  lines_on a b =
      ap (listing places) (out_on pipes kept a b)
      ∙ flat_map_on (match_line places) (let_out pipes kept a) (let_out pipes (kept_after pipes kept a) b)

  -- one more match was printed
  pub line_more : (done : List Match) (m : Match) (waiting left more : List ℕ) (before now next : Option (List ℕ)) → more ≡ next_lines done (m ∷ [])
      → WroteBut waiting (start ++ lines done) before now → WroteBut left (waiting ++ more) now next → WroteBut left (start ++ lines (done ++ m ∷ [])) before next
  line_more done m waiting left more before now next is so further =
      subst (λ (text : List ℕ). WroteBut left text before next)
      (append_assoc start (lines done) more ∙ ap (λ (l : List ℕ). start ++ (lines done ++ l)) is ∙ ap (λ (l : List ℕ). start ++ l) (sym (lines_on done (m ∷ []))))
      (printed_more before now next waiting left (start ++ lines done) more so further)

  -- and where that was refused, a front was
  pub line_part : (done : List Match) (m : Match) (rest : List Match) (waiting more : List ℕ) (before now next : Option (List ℕ)) → more ≡ next_lines done (m ∷ [])
      → WroteBut waiting (start ++ lines done) before now → WroteFront (waiting ++ more) now next → WroteFront (start ++ lines (done ++ m ∷ rest)) before next
  line_part done m rest waiting more before now next is so part =
      let later : List ℕ = listing places (let_out pipes (kept_after pipes (kept_after pipes kept done) (m ∷ [])) rest) in
      let split : next_lines done (m ∷ rest) ≡ next_lines done (m ∷ []) ++ later =
      ap (listing places) (out_on pipes (kept_after pipes kept done) (m ∷ []) rest)
      ∙ flat_map_on (match_line places) (let_out pipes (kept_after pipes kept done) (m ∷ [])) (let_out pipes (kept_after pipes (kept_after pipes kept done) (m ∷ [])) rest) in
      subst (λ (text : List ℕ). WroteFront text before next)
      (append_assoc start (lines done) (more ++ later) ∙ ap (λ (l : List ℕ). start ++ (lines done ++ (l ++ later))) is
      ∙ ap (λ (l : List ℕ). start ++ (lines done ++ l)) (sym split) ∙ ap (λ (l : List ℕ). start ++ l) (sym (lines_on done (m ∷ rest))))
      (part_more before now next waiting (start ++ lines done) more later so part)

-- what holds anyway holds on an error
pub on_err : {T E : Type 0} (r : Result T E) {P : Type 0} → P → OnErr r P
on_err (Ok x) p = tt
on_err (Err e) p = p

-- what waits is sent: then all of a text is written, and a front of it where that is refused
pub sent_whole : (start text whole waiting left : List ℕ) (before mid now : Option (List ℕ)) → start ≡ [] → text ≡ whole → WroteBut waiting (start ++ text) before mid
    → WroteBut left waiting mid now → left ≡ [] → WroteAll whole before now
sent_whole start text whole waiting left before mid now empty is so further none =
    let more : WroteBut left (waiting ++ []) mid now = subst (λ (t : List ℕ). WroteBut left t mid now) (sym (append-nil waiting)) further in
    subst (λ (t : List ℕ). WroteAll t before now) (append-nil (start ++ text) ∙ ap (λ (l : List ℕ). l ++ text) empty ∙ is)
    (printed_whole before now left ((start ++ text) ++ []) none (printed_more before mid now waiting left (start ++ text) [] so more))

pub sent_part : (start text whole waiting : List ℕ) (before mid now : Option (List ℕ)) → start ≡ [] → text ≡ whole → WroteBut waiting (start ++ text) before mid
    → WroteFront waiting mid now → WroteFront whole before now
sent_part start text whole waiting before mid now empty is so part =
    let more : WroteFront (waiting ++ []) mid now = subst (λ (t : List ℕ). WroteFront t mid now) (sym (append-nil waiting)) part in
    subst (λ (t : List ℕ). WroteFront t before now) (append-nil (start ++ text) ∙ ap (λ (l : List ℕ). l ++ text) empty ∙ is)
    (part_more before mid now waiting (start ++ text) [] [] so more)

module _ (places : Bool) (start : List ℕ) (items : List Numbered) (from : ℕ) where
  abbrev range : ℕ → List ℕ
  range to = listing places (take (to - from) (drop from items))

  -- one more item of a range was printed
  pub range_more : (index : ℕ) (x : Numbered) (waiting left more : List ℕ) (before now next : Option (List ℕ)) → from ≤ index → slice_get items index ≡ Some x → index < length items
      → more ≡ match_line places x → WroteBut waiting (start ++ range index) before now → WroteBut left (waiting ++ more) now next → WroteBut left (start ++ range (index + 1)) before next
  range_more index x waiting left more before now next order there within is so further =
      let on : range (index + 1) ≡ range index ++ more =
      ap (listing places) (one_more from index items x order there within)
      ∙ flat_map_on (match_line places) (take (index - from) (drop from items)) (x ∷ [])
      ∙ ap (λ (l : List ℕ). range index ++ l) (append-nil (match_line places x) ∙ sym is) in
      subst (λ (text : List ℕ). WroteBut left text before next) (append_assoc start (range index) more ∙ ap (λ (l : List ℕ). start ++ l) (sym on))
      (printed_more before now next waiting left (start ++ range index) more so further)

  -- and where that was refused, a front was
  pub range_part : (index to : ℕ) (x : Numbered) (waiting more : List ℕ) (before now next : Option (List ℕ)) → from ≤ index → index < to → slice_get items index ≡ Some x → index < length items
      → more ≡ match_line places x → WroteBut waiting (start ++ range index) before now → WroteFront (waiting ++ more) now next → WroteFront (start ++ range to) before next
  range_part index to x waiting more before now next order below there within is so part =
      let on : range (index + 1) ≡ range index ++ more =
      ap (listing places) (one_more from index items x order there within)
      ∙ flat_map_on (match_line places) (take (index - from) (drop from items)) (x ∷ [])
      ∙ ap (λ (l : List ℕ). range index ++ l) (append-nil (match_line places x) ∙ sym is) in
      let sum : to - from ≡ (index + 1 - from) + (to - (index + 1)) = omega (arith, order, below) in
      let rest : List Numbered = take (to - (index + 1)) (drop (index + 1 - from) (drop from items)) in
      let later : List ℕ = listing places rest in
      let all : range to ≡ (range index ++ more) ++ later =
      ap (λ (n : ℕ). listing places (take n (drop from items))) sum
      ∙ ap (listing places) (take-add (index + 1 - from) (to - (index + 1)) (drop from items))
      ∙ flat_map_on (match_line places) (take (index + 1 - from) (drop from items)) rest
      ∙ ap (λ (l : List ℕ). l ++ later) on in
      subst (λ (text : List ℕ). WroteFront text before next)
      (append_assoc start (range index) (more ++ later) ∙ ap (λ (l : List ℕ). start ++ l) (sym (append_assoc (range index) more later) ∙ sym all))
      (part_more before now next waiting (start ++ range index) more later so part)
