-- The canonical tokens of a query: they are in the grammar and give the query.
use Rattle.std.proofs.Common.{◌≡◌, ℕ, zero, suc, ℤ, pos, negsuc, Bool, true, false, List, [], ◌∷◌, map, refl, sym, subst, Option, Some, None}
use Rattle.std.specs.Prelude.{codes, if◌then◌else◌}
use lib.Utf8.{scalars}
use Rattle.eql_lexer.specs.declared.token.Sign.TheVariants as sign
use Rattle.eql_lexer.specs.declared.token.Tok.{Tok}
use Rattle.eql_lexer.specs.declared.token.Tok.TheVariants as tok
use Rattle.eql_query.specs.declared.expr.FieldRef.{FieldRef}
use Rattle.eql_query.specs.declared.query.Span.{Span}
use Rattle.eql_query.specs.declared.query.Unit.{Unit as TimeUnit}
use Rattle.eql_query.specs.declared.query.Unit.TheVariants as unit
use Rattle.eql_query.specs.declared.query.PipeText.{PipeText}
use Rattle.eql_query.specs.declared.query.PipeText.TheVariants as pipe
use Rattle.eql_query.specs.QueryTree.{TermTree, BodyTree, event, sequence, QueryTree}
use Rattle.eql_parser.specs.Kinds.{kind}
use Rattle.eql_parser.specs.Grammar.{IsListed, last_one, next_one, ends, IsField, required, optional}
use Rattle.eql_parser.specs.QueryGrammar.{IsTerm, a_term, IsKey, a_key, IsBy, no_keys, by_keys, IsRuns, one_run, some_runs, IsSpan, no_span, a_span, IsBracketed, bracketed, IsItem, an_item, IsItems, last_item, next_item, IsUntil, no_until, an_until, IsBody, one_event, a_sequence, IsPipes, no_pipes, next_pipe, Reads, a_query}
use Rattle.eql_parser.specs.Printed.{unit_text, is_one}
use Rattle.eql_parser.proofs.Canonical.{comma_tok, field_toks, toks, IsCount, IsName, SomeOf, Good}
use Rattle.eql_parser.proofs.CanonicalReads.{expr_reads}

abbrev pub fields_toks : List FieldRef → List Tok → List Tok
fields_toks [] us = us
fields_toks (f ∷ []) us = field_toks f.name f.optional us
fields_toks (f ∷ g ∷ fs) us = field_toks f.name f.optional (comma_tok ∷ fields_toks (g ∷ fs) us)

abbrev pub by_toks : List FieldRef → List Tok → List Tok
by_toks [] us = us
by_toks (f ∷ fs) us = tok.Word (codes "by") ∷ fields_toks (f ∷ fs) us

abbrev pub category_toks : Option (List ℕ) → List Tok → List Tok
category_toks None us = tok.Word (codes "any") ∷ us
category_toks (Some c) us = tok.Str c ∷ us

abbrev pub term_toks : TermTree → List Tok → List Tok
term_toks i us = category_toks i.category (tok.Word (codes "where") ∷ toks i.cond us)

abbrev pub bracketed_toks : TermTree → List Tok → List Tok
bracketed_toks i us = tok.Sign sign.OpenBracket ∷ term_toks i (tok.Sign sign.CloseBracket ∷ by_toks i.by us)

abbrev pub runs_toks : ℤ → List Tok → List Tok
runs_toks n us = if is_one n then us else tok.Word (codes "with") ∷ tok.Word (codes "runs") ∷ tok.Sign sign.Assign ∷ tok.Num n ∷ us

abbrev pub items_toks : List TermTree → List Tok → List Tok
items_toks [] us = us
items_toks (i ∷ is) us = bracketed_toks i (runs_toks i.runs (items_toks is us))

abbrev pub span_toks : Option Span → List Tok → List Tok
span_toks None us = us
span_toks (Some s) us = tok.Word (codes "with") ∷ tok.Word (codes "maxspan") ∷ tok.Sign sign.Assign ∷ tok.Num s.count ∷ tok.Word (unit_text s.unit) ∷ us

abbrev pub until_toks : Option TermTree → List Tok → List Tok
until_toks None us = us
until_toks (Some i) us = tok.Word (codes "until") ∷ bracketed_toks i us

abbrev pub body_toks : BodyTree → List Tok → List Tok
body_toks (event i) us = term_toks i us
body_toks (sequence by span items until) us = tok.Word (codes "sequence") ∷ by_toks by (span_toks span (items_toks items (until_toks until us)))

abbrev pub pipes_toks : List PipeText → List Tok
pipes_toks [] = []
pipes_toks (pipe.Head n ∷ ps) = tok.Sign sign.Bar ∷ tok.Word (codes "head") ∷ tok.Num n ∷ pipes_toks ps
pipes_toks (pipe.Tail n ∷ ps) = tok.Sign sign.Bar ∷ tok.Word (codes "tail") ∷ tok.Num n ∷ pipes_toks ps

abbrev pub query_toks : QueryTree → List Tok
query_toks q = body_toks q.body (pipes_toks q.pipes)

-- the parts of a query that is read from a text
abbrev pub GoodKeys : List FieldRef → Type 0
GoodKeys [] = Unit {0}
GoodKeys (f ∷ fs) = IsName f.name × GoodKeys fs

abbrev pub GoodCategory : Option (List ℕ) → Type 0
GoodCategory None = Unit {0}
GoodCategory (Some c) = scalars c ≡ true

abbrev pub GoodTerm : TermTree → Type 0
GoodTerm i = GoodCategory i.category × Good i.cond × GoodKeys i.by × IsCount i.runs

abbrev pub GoodTerms : List TermTree → Type 0
GoodTerms [] = Unit {0}
GoodTerms (i ∷ is) = GoodTerm i × GoodTerms is

abbrev pub GoodSpan : Option Span → Type 0
GoodSpan None = Unit {0}
GoodSpan (Some s) = IsCount s.count

abbrev pub GoodUntil : Option TermTree → Type 0
GoodUntil None = Unit {0}
GoodUntil (Some i) = GoodTerm i × (i.runs ≡ pos 1)

abbrev pub GoodBody : BodyTree → Type 0
GoodBody (event i) = GoodTerm i × (i.by ≡ []) × (i.runs ≡ pos 1)
GoodBody (sequence by span items until) = GoodKeys by × GoodSpan span × SomeOf items × GoodTerms items × GoodUntil until

abbrev pub GoodPipes : List PipeText → Type 0
GoodPipes [] = Unit {0}
GoodPipes (pipe.Head n ∷ ps) = IsCount n × GoodPipes ps
GoodPipes (pipe.Tail n ∷ ps) = IsCount n × GoodPipes ps

field_reads : (n : List ℕ) (o : Bool) (us : List Tok) → IsField (map kind (field_toks n o us)) n o (map kind us)
field_reads n false us = required refl ends
field_reads n true us = optional refl ends

fields_read : (fs : List FieldRef) (us : List Tok) → SomeOf fs → IsListed IsKey (map kind (fields_toks fs us)) fs (map kind us)
fields_read [] us s = absurd s
fields_read (f ∷ []) us s = last_one (a_key (field_reads f.name f.optional us))
fields_read (f ∷ g ∷ fs) us s = next_one (a_key (field_reads f.name f.optional (comma_tok ∷ fields_toks (g ∷ fs) us))) (fields_read (g ∷ fs) us tt)

by_reads : (fs : List FieldRef) (us : List Tok) → IsBy (map kind (by_toks fs us)) fs (map kind us)
by_reads [] us = no_keys
by_reads (f ∷ fs) us = by_keys (fields_read (f ∷ fs) us tt)

term_reads : (i : TermTree) (us : List Tok) → Good i.cond → IsTerm (map kind (term_toks i us)) i.category i.cond (map kind us)
term_reads i us h = by_category i.category
  where
    by_category : (c : Option (List ℕ)) → IsTerm (map kind (category_toks c (tok.Word (codes "where") ∷ toks i.cond us))) c i.cond (map kind us)
    by_category None = a_term refl (expr_reads i.cond us h)
    by_category (Some c) = a_term refl (expr_reads i.cond us h)

bracketed_reads : (i : TermTree) (us : List Tok) → Good i.cond → IsBracketed (map kind (bracketed_toks i us)) i.category i.cond i.by (map kind us)
bracketed_reads i us h = bracketed (term_reads i (tok.Sign sign.CloseBracket ∷ by_toks i.by us) h) (by_reads i.by us)

runs_read : (n : ℤ) (us : List Tok) → IsRuns (map kind (runs_toks n us)) n (map kind us)
runs_read (pos zero) us = some_runs refl
runs_read (pos (suc zero)) us = one_run
runs_read (pos (suc (suc n))) us = some_runs refl
runs_read (negsuc n) us = some_runs refl

item_reads : (i : TermTree) (us : List Tok) → Good i.cond → IsItem (map kind (bracketed_toks i (runs_toks i.runs us))) i (map kind us)
item_reads i us h = an_item (bracketed_reads i (runs_toks i.runs us) h) (runs_read i.runs us)

items_read : (is : List TermTree) (us : List Tok) → SomeOf is → GoodTerms is → IsItems (map kind (items_toks is us)) is (map kind us)
items_read [] us s h = absurd s
items_read (i ∷ []) us s h = last_item (item_reads i us h.0.1)
items_read (i ∷ j ∷ is) us s h = next_item (item_reads i (items_toks (j ∷ is) us) h.0.1) (items_read (j ∷ is) us tt h.1)

unit_reads : (n : ℤ) (u : TimeUnit) (us : List Tok) → IsSpan (map kind (span_toks (Some (record { count = n; unit = u })) us)) (Some (record { count = n; unit = u })) (map kind us)
unit_reads n unit.Ms us = a_span refl
unit_reads n unit.S us = a_span refl
unit_reads n unit.M us = a_span refl
unit_reads n unit.H us = a_span refl
unit_reads n unit.D us = a_span refl

span_reads : (s : Option Span) (us : List Tok) → IsSpan (map kind (span_toks s us)) s (map kind us)
span_reads None us = no_span
span_reads (Some s) us = unit_reads s.count s.unit us

term_is : (i : TermTree) (fs : List FieldRef) (n : ℤ) → i.by ≡ fs → i.runs ≡ n → record { category = i.category; cond = i.cond; by = fs; runs = n } ≡ i
term_is i fs n e f = λ j. record { category = i.category; cond = i.cond; by = sym e j; runs = sym f j }

until_reads : (i : Option TermTree) (us : List Tok) → GoodUntil i → IsUntil (map kind (until_toks i us)) i (map kind us)
until_reads None us h = no_until
until_reads (Some i) us h =
    subst (λ x. IsUntil (map kind (until_toks (Some i) us)) (Some x) (map kind us)) (term_is i i.by (pos 1) refl h.1) (an_until (bracketed_reads i us h.0.1))

body_reads : (b : BodyTree) (us : List Tok) → GoodBody b → IsBody (map kind (body_toks b us)) b (map kind us)
body_reads (event i) us h = subst (λ x. IsBody (map kind (body_toks (event i) us)) (event x) (map kind us)) (term_is i [] (pos 1) h.1 h.2) (one_event (term_reads i us h.0.1))
body_reads (sequence by span items until) us h =
    a_sequence (by_reads by (span_toks span (items_toks items (until_toks until us)))) (span_reads span (items_toks items (until_toks until us)))
    (items_read items (until_toks until us) h.2 h.3) (until_reads until us h.4)

pipes_read : (ps : List PipeText) → IsPipes (map kind (pipes_toks ps)) ps
pipes_read [] = no_pipes
pipes_read (pipe.Head n ∷ ps) = next_pipe refl (pipes_read ps)
pipes_read (pipe.Tail n ∷ ps) = next_pipe refl (pipes_read ps)

pub query_reads : (q : QueryTree) → GoodBody q.body → Reads (map kind (query_toks q)) q
query_reads q h = a_query (body_reads q.body (pipes_toks q.pipes) h) (pipes_read q.pipes)
