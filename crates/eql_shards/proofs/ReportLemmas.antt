-- The lines of a report, one after the other.
use native.Mathlib.Omega.{arith}
use Rattle.std.proofs.Common.{◌≡◌, ℕ, ◌<◌, ◌+◌, List, [], ◌∷◌, ◌++◌, take, length, get_or, sym, ap, ◌∙◌}
use Rattle.std.specs.Prelude.{codes, encode_utf8_all}
use Rattle.std.specs.Str.{chars, IsUtf8}
use Rattle.std.proofs.lemmas.Str.{encodes-chars}
use Rattle.std.proofs.lemmas.List.{append-nil, append_assoc, length-map, length-take-le, map-append, take_more}
use Rattle.eql_values.specs.declared.cut.Counts.{Counts}
use Rattle.eql_book.specs.Report.{report_text}
use Rattle.eql_lane.specs.Views.{LaneView}
use Rattle.eql_runs.specs.Searches.{report_lines}
use Rattle.eql_shards.specs.Reports.{counts_in}
use Rattle.eql_shards.proofs.PlainText.{report_plain}

-- the bytes of a line by its characters
pub line_bytes : (bytes : List ℕ) (shard : ℕ) (counts : Counts) → IsUtf8 bytes → chars bytes ≡ chars (report_text shard counts) → bytes ≡ report_text shard counts
line_bytes bytes shard counts utf8 is =
    sym (encodes-chars bytes utf8) ∙ ap encode_utf8_all is ∙ encodes-chars (report_text shard counts) (report_plain shard counts)

-- one line more
one_more : (from : ℕ) (all : List Counts) (counts : Counts)
    → report_lines from (all ++ counts ∷ []) ≡ report_lines from all ++ (report_text (from + length all) counts ++ codes "\n")
one_more from [] counts =
    append-nil (report_text from counts ++ codes "\n")
    ∙ ap (λ (shard : ℕ). report_text shard counts ++ codes "\n") (let none : List Counts = [] in let e : from ≡ from + length none = omega arith in e)
one_more from (first ∷ all) counts =
    let next : from + 1 + length all ≡ from + length (first ∷ all) = omega arith in
    let own : List ℕ = report_text from first ++ codes "\n" in
    ap (λ (rest : List ℕ). own ++ rest) (one_more (from + 1) all counts)
    ∙ sym (append_assoc own (report_lines (from + 1) all) (report_text (from + 1 + length all) counts ++ codes "\n"))
    ∙ ap (λ (shard : ℕ). own ++ report_lines (from + 1) all ++ (report_text shard counts ++ codes "\n")) next

pub line_more : {S L : Type 0} (lanes : List (LaneView S L)) (shard : ℕ) (lane : LaneView S L) (counts : Counts) (before now : List ℕ)
    → shard < length lanes → lane ≡ get_or lanes shard lane → counts ≡ lane.state.cut.counts
    → before ≡ report_lines 0 (counts_in (take shard lanes)) → now ≡ before ++ report_text shard counts ++ codes "\n"
    → now ≡ report_lines 0 (counts_in (take (shard + 1) lanes))
line_more lanes shard lane counts before now within is counts_are was e =
    let front : length (counts_in (take shard lanes)) ≡ shard = length-map (take shard lanes) (λ l. l.state.cut.counts) ∙ length-take-le shard lanes (omega (arith, within)) in
    let place : shard ≡ 0 + length (counts_in (take shard lanes)) = omega (arith, front) in
    let next : counts_in (take (shard + 1) lanes) ≡ counts_in (take shard lanes) ++ counts ∷ [] =
    ap counts_in (take_more lanes shard lane within)
    ∙ map-append (λ l. l.state.cut.counts) (take shard lanes) (get_or lanes shard lane ∷ [])
    ∙ ap (λ (c : Counts). counts_in (take shard lanes) ++ c ∷ []) (ap (λ l. l.state.cut.counts) (sym is) ∙ sym counts_are) in
    e ∙ ap (λ (b : List ℕ). b ++ report_text shard counts ++ codes "\n") was
    ∙ append_assoc (report_lines 0 (counts_in (take shard lanes))) (report_text shard counts) (codes "\n")
    ∙ ap (λ (n : ℕ). report_lines 0 (counts_in (take shard lanes)) ++ (report_text n counts ++ codes "\n")) place
    ∙ sym (one_more 0 (counts_in (take shard lanes)) counts)
    ∙ ap (report_lines 0) (sym next)
