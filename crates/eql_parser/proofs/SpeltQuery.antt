-- The canonical text of a query reads as its tokens.
use Rattle.std.proofs.Common.{◌≡◌, ℕ, zero, suc, ℤ, pos, negsuc, false, List, [], ◌∷◌, ◌++◌, refl, sym, subst, arith, append_assoc, inl, Option, Some, None}
use Rattle.std.specs.Prelude.{codes}
use Rattle.std.specs.Fmt.{signed_decimal, decimal}
use lib.Utf8.{encodes}
use Rattle.eql_lexer.specs.declared.token.Sign.TheVariants as sign
use Rattle.eql_lexer.specs.declared.token.Tok.{Tok}
use Rattle.eql_lexer.specs.declared.token.Tok.TheVariants as tok
use Rattle.eql_lexer.specs.Bytes.{begins}
use Rattle.eql_query.specs.declared.expr.FieldRef.{FieldRef}
use Rattle.eql_query.specs.declared.query.Span.{Span}
use Rattle.eql_query.specs.declared.query.Unit.{Unit as TimeUnit}
use Rattle.eql_query.specs.declared.query.Unit.TheVariants as unit
use Rattle.eql_query.specs.declared.query.PipeText.{PipeText}
use Rattle.eql_query.specs.declared.query.PipeText.TheVariants as pipe
use Rattle.eql_query.specs.QueryTree.{TermTree, BodyTree, event, sequence, QueryTree}
use Rattle.eql_parser.specs.Printed.{tree_shown, fields_shown, by_shown, category_shown, term_shown, bracketed_shown, runs_shown, items_shown, unit_text, span_shown, until_shown, body_shown, pipes_shown, query_shown}
use Rattle.eql_parser.proofs.Canonical.{comma_tok, toks, IsCount, IsWord}
use Rattle.eql_parser.proofs.CanonicalQuery.{fields_toks, by_toks, category_toks, term_toks, bracketed_toks, runs_toks, items_toks, span_toks, until_toks, body_toks, pipes_toks, query_toks, GoodKeys, GoodCategory, GoodTerm, GoodTerms, GoodSpan, GoodUntil, GoodBody, GoodPipes}
use Rattle.eql_parser.proofs.Spelt as b
use Rattle.eql_parser.proofs.Spelt.{AfterWord}
use Rattle.eql_parser.proofs.SpeltText.{AfterNumber, decimal_begins}
use Rattle.eql_parser.proofs.SpeltExpr.{Spelt, open_item_s, close_item_s, comma_s, bar_s, space_s, word_s, quoted_s, Ends, ends_space, ends_comma, spaced_s, count_s, field_s, shown_s}

fields_s : (fs : List FieldRef) (rest : List ℕ) (us : List Tok) → GoodKeys fs → Ends rest → Spelt rest us → Spelt (fields_shown fs rest) (fields_toks fs us)
fields_s [] rest us h e k = k
fields_s (f ∷ []) rest us h e k = field_s f.name f.optional rest us h.0 e k
fields_s (f ∷ g ∷ fs) rest us h e k =
    field_s f.name f.optional (codes ", " ++ fields_shown (g ∷ fs) rest) (comma_tok ∷ fields_toks (g ∷ fs) us) h.0 (ends_comma []) (comma_s (space_s (fields_s (g ∷ fs) rest us h.1 e k)))

by_s : (fs : List FieldRef) (rest : List ℕ) (us : List Tok) → GoodKeys fs → Ends rest → Spelt rest us → Spelt (by_shown fs rest) (by_toks fs us)
by_s [] rest us h e k = k
by_s (f ∷ fs) rest us h e k = spaced_s (codes "by") (fields_shown (f ∷ fs) rest) (fields_toks (f ∷ fs) us) (refl, inl refl) (fields_s (f ∷ fs) rest us h e k)

category_s : (c : Option (List ℕ)) (rest : List ℕ) (us : List Tok) → GoodCategory c → Ends rest → Spelt rest us → Spelt (category_shown c rest) (category_toks c us)
category_s None rest us h e k = word_s (codes "any") rest (refl, (refl, inl refl)) e.0 k
category_s (Some c) rest us h e k = quoted_s c h e.2 k

term_s : (i : TermTree) (rest : List ℕ) (us : List Tok) → GoodTerm i → Ends rest → Spelt rest us → Spelt (term_shown i rest) (term_toks i us)
term_s i rest us h e k =
    category_s i.category (codes " where " ++ tree_shown i.cond rest) (tok.Word (codes "where") ∷ toks i.cond us) h.0 (ends_space [])
    (spaced_s (codes "where") (tree_shown i.cond rest) (toks i.cond us) (refl, (refl, (refl, (refl, inl refl)))) (shown_s i.cond rest us h.1 e k))

ends_item : Ends (93 ∷ [])
ends_item = ((omega arith, refl, refl), (omega arith, refl, refl), (omega arith, refl, refl))

bracketed_s : (i : TermTree) (rest : List ℕ) (us : List Tok) → GoodTerm i → Ends rest → Spelt rest us → Spelt (bracketed_shown i rest) (bracketed_toks i us)
bracketed_s i rest us h e k =
    open_item_s (term_s i (93 ∷ by_shown i.by rest) (tok.Sign sign.CloseBracket ∷ by_toks i.by us) h ends_item (close_item_s (by_s i.by rest us h.2 e k)))

after_assign : AfterWord (61 ∷ [])
after_assign = (omega arith, refl, refl)

-- `with W=` and what follows
with_s : (w rest : List ℕ) (us : List Tok) → IsWord w → begins 61 (encodes rest) ≡ false → Spelt rest us
    → Spelt (32 ∷ (codes "with" ++ 32 ∷ (w ++ 61 ∷ rest))) (tok.Word (codes "with") ∷ tok.Word w ∷ tok.Sign sign.Assign ∷ us)
with_s w rest us h e k =
    let assigned : Spelt (61 ∷ rest) (tok.Sign sign.Assign ∷ us) = record { lexes = b.assign_s rest us e k.lexes } in
    space_s (word_s (codes "with") (32 ∷ (w ++ 61 ∷ rest)) (refl, (refl, (refl, inl refl))) (ends_space []).0 (space_s (word_s w (61 ∷ rest) h after_assign assigned)))

count_begins : (n : ℤ) (rest : List ℕ) → IsCount n → begins 61 (encodes (signed_decimal n ++ rest)) ≡ false
count_begins (pos n) rest h = decimal_begins n rest h
count_begins (negsuc n) rest h = absurd h

runs_word : IsWord (codes "runs")
runs_word = (refl, (refl, (refl, inl refl)))

runs_s : (n : ℤ) (rest : List ℕ) (us : List Tok) → IsCount n → Ends rest → Spelt rest us → Spelt (runs_shown n rest) (runs_toks n us)
runs_s (pos zero) rest us h e k = with_s (codes "runs") (decimal 0 ++ rest) (tok.Num (pos 0) ∷ us) runs_word (count_begins (pos 0) rest h) (count_s (pos 0) rest us h e.1 k)
runs_s (pos (suc zero)) rest us h e k = k
runs_s (pos (suc (suc n))) rest us h e k =
    with_s (codes "runs") (decimal (suc (suc n)) ++ rest) (tok.Num (pos (suc (suc n))) ∷ us) runs_word (count_begins (pos (suc (suc n))) rest h) (count_s (pos (suc (suc n))) rest us h e.1 k)
runs_s (negsuc n) rest us h e k = absurd h

runs_end : (n : ℤ) (rest : List ℕ) → Ends rest → Ends (runs_shown n rest)
runs_end (pos zero) rest e = ends_space []
runs_end (pos (suc zero)) rest e = e
runs_end (pos (suc (suc n))) rest e = ends_space []
runs_end (negsuc n) rest e = ends_space []

items_end : (is : List TermTree) (rest : List ℕ) → Ends rest → Ends (items_shown is rest)
items_end [] rest e = e
items_end (i ∷ is) rest e = ends_space []

items_s : (is : List TermTree) (rest : List ℕ) (us : List Tok) → GoodTerms is → Ends rest → Spelt rest us → Spelt (items_shown is rest) (items_toks is us)
items_s [] rest us h e k = k
items_s (i ∷ is) rest us h e k =
    let more = items_end is rest e in
    space_s (bracketed_s i (runs_shown i.runs (items_shown is rest)) (runs_toks i.runs (items_toks is us)) h.0 (runs_end i.runs (items_shown is rest) more)
    (runs_s i.runs (items_shown is rest) (items_toks is us) h.0.3 more (items_s is rest us h.1 e k)))

unit_word : (u : TimeUnit) → IsWord (unit_text u)
unit_word unit.Ms = (refl, inl refl)
unit_word unit.S = (refl, tt)
unit_word unit.M = (refl, tt)
unit_word unit.H = (refl, tt)
unit_word unit.D = (refl, tt)

unit_after : (u : TimeUnit) (rest : List ℕ) → AfterNumber (unit_text u ++ rest)
unit_after unit.Ms rest = (omega arith, refl, refl)
unit_after unit.S rest = (omega arith, refl, refl)
unit_after unit.M rest = (omega arith, refl, refl)
unit_after unit.H rest = (omega arith, refl, refl)
unit_after unit.D rest = (omega arith, refl, refl)

maxspan_word : IsWord (codes "maxspan")
maxspan_word = (refl, (refl, (refl, (refl, (refl, (refl, inl refl))))))

span_s : (s : Option Span) (rest : List ℕ) (us : List Tok) → GoodSpan s → Ends rest → Spelt rest us → Spelt (span_shown s rest) (span_toks s us)
span_s None rest us h e k = k
span_s (Some s) rest us h e k =
    let same = sym (append_assoc (signed_decimal s.count) (unit_text s.unit) rest) in
    with_s (codes "maxspan") ((signed_decimal s.count ++ unit_text s.unit) ++ rest) (tok.Num s.count ∷ tok.Word (unit_text s.unit) ∷ us) maxspan_word
    (subst (λ cs. begins 61 (encodes cs) ≡ false) same (count_begins s.count (unit_text s.unit ++ rest) h))
    (subst (λ cs. Spelt cs (tok.Num s.count ∷ tok.Word (unit_text s.unit) ∷ us)) same
    (count_s s.count (unit_text s.unit ++ rest) (tok.Word (unit_text s.unit) ∷ us) h (unit_after s.unit rest) (word_s (unit_text s.unit) rest (unit_word s.unit) e.0 k)))

span_end : (s : Option Span) (rest : List ℕ) → Ends rest → Ends (span_shown s rest)
span_end None rest e = e
span_end (Some s) rest e = ends_space []

until_s : (i : Option TermTree) (rest : List ℕ) (us : List Tok) → GoodUntil i → Ends rest → Spelt rest us → Spelt (until_shown i rest) (until_toks i us)
until_s None rest us h e k = k
until_s (Some i) rest us h e k = spaced_s (codes "until") (bracketed_shown i rest) (bracketed_toks i us) (refl, (refl, (refl, (refl, inl refl)))) (bracketed_s i rest us h.0 e k)

until_end : (i : Option TermTree) (rest : List ℕ) → Ends rest → Ends (until_shown i rest)
until_end None rest e = e
until_end (Some i) rest e = ends_space []

by_end : (fs : List FieldRef) (rest : List ℕ) → Ends rest → Ends (by_shown fs rest)
by_end [] rest e = e
by_end (f ∷ fs) rest e = ends_space []

body_s : (body : BodyTree) (rest : List ℕ) (us : List Tok) → GoodBody body → Ends rest → Spelt rest us → Spelt (body_shown body rest) (body_toks body us)
body_s (event i) rest us h e k = term_s i rest us h.0 e k
body_s (sequence by span items until) rest us h e k =
    let e1 = until_end until rest e in
    let e2 = items_end items (until_shown until rest) e1 in
    let e3 = span_end span (items_shown items (until_shown until rest)) e2 in
    let e4 = by_end by (span_shown span (items_shown items (until_shown until rest))) e3 in
    word_s (codes "sequence") (by_shown by (span_shown span (items_shown items (until_shown until rest)))) (refl, (refl, (refl, (refl, (refl, (refl, (refl, inl refl))))))) e4.0
    (by_s by (span_shown span (items_shown items (until_shown until rest))) (span_toks span (items_toks items (until_toks until us))) h.0 e3
    (span_s span (items_shown items (until_shown until rest)) (items_toks items (until_toks until us)) h.1 e2
    (items_s items (until_shown until rest) (until_toks until us) h.3 e1 (until_s until rest us h.4 e k))))

pipes_end : (ps : List PipeText) → Ends (pipes_shown ps [])
pipes_end [] = (tt, tt, tt)
pipes_end (pipe.Head n ∷ ps) = ends_space []
pipes_end (pipe.Tail n ∷ ps) = ends_space []

pipes_s : (ps : List PipeText) → GoodPipes ps → Spelt (pipes_shown ps []) (pipes_toks ps)
pipes_s [] h = record { lexes = refl }
pipes_s (pipe.Head n ∷ ps) h =
    space_s (bar_s (spaced_s (codes "head") (signed_decimal n ++ pipes_shown ps []) (tok.Num n ∷ pipes_toks ps) (refl, (refl, (refl, inl refl)))
    (count_s n (pipes_shown ps []) (pipes_toks ps) h.0 (pipes_end ps).1 (pipes_s ps h.1))))
pipes_s (pipe.Tail n ∷ ps) h =
    space_s (bar_s (spaced_s (codes "tail") (signed_decimal n ++ pipes_shown ps []) (tok.Num n ∷ pipes_toks ps) (refl, (refl, (refl, inl refl)))
    (count_s n (pipes_shown ps []) (pipes_toks ps) h.0 (pipes_end ps).1 (pipes_s ps h.1))))

pub query_s : (q : QueryTree) → GoodBody q.body → GoodPipes q.pipes → b.Lexes (encodes (query_shown q)) (query_toks q)
query_s q h k = (body_s q.body (pipes_shown q.pipes []) (pipes_toks q.pipes) h (pipes_end q.pipes) (pipes_s q.pipes k)).lexes
