-- The grammar of queries: kinds of tokens from here spell a part of a query and leave the rest.
use Rattle.std.specs.Prelude.{◌≡◌, ℕ, ℤ, pos, Bool, true, ◌||◌, List, [], ◌∷◌, Option, Some, None, codes}
use Rattle.std.specs.Str.{bytes_eq}
use Rattle.eql_lexer.specs.declared.token.Token.{Token}
use Rattle.eql_query.specs.declared.expr.FieldRef.{FieldRef}
use Rattle.eql_query.specs.declared.query.Span.{Span}
use Rattle.eql_query.specs.declared.query.Unit.{Unit as TimeUnit}
use Rattle.eql_query.specs.declared.query.Unit.TheVariants as unit
use Rattle.eql_query.specs.declared.query.PipeText.{PipeText}
use Rattle.eql_query.specs.declared.query.PipeText.TheVariants as pipe
use Rattle.eql_query.specs.Tree.{Tree}
use Rattle.eql_query.specs.QueryTree.{TermTree, BodyTree, event, sequence, QueryTree}
use Rattle.eql_parser.specs.Kinds.{Kind, any_, by_, maxspan_, sequence_, until_, where_, with_, name, text, number, open_item_, close_item_, bar_, assign_, word_in, kinds}
use Rattle.eql_parser.specs.Grammar.{IsListed, IsField, IsExpr}

-- "any", which is every category, a name, or a string
abbrev pub category : Kind → Option (Option (List ℕ))
category any_ = Some None
category (name w) = Some (Some w)
category (text s) = Some (Some s)
category _ = None

-- unit = "ms" | "s" | "m" | "h" | "d"
abbrev pub unit_of : List ℕ → Option TimeUnit
unit_of = word_in ((codes "ms", unit.Ms) ∷ (codes "s", unit.S) ∷ (codes "m", unit.M) ∷ (codes "h", unit.H) ∷ (codes "d", unit.D) ∷ [])

-- the units of time that the language has and this grammar leaves out
abbrev pub is_fine_unit : List ℕ → Bool
is_fine_unit w = bytes_eq w (codes "micros") || bytes_eq w (codes "nanos")

-- pipe = ( "head" | "tail" ) Num
abbrev pub pipe_of : List ℕ → Option (ℤ → PipeText)
pipe_of = word_in ((codes "head", pipe.Head) ∷ (codes "tail", pipe.Tail) ∷ [])

-- term = category "where" expr
pub data IsTerm : List Kind → Option (List ℕ) → Tree → List Kind → Type 0 where
  a_term : {k : Kind} {ts rest : List Kind} {c : Option (List ℕ)} {e : Tree} → category k ≡ Some c → IsExpr ts e rest → IsTerm (k ∷ where_ ∷ ts) c e rest

pub data IsKey : List Kind → FieldRef → List Kind → Type 0 where
  a_key : {ts rest : List Kind} {n : List ℕ} {o : Bool} → IsField ts n o rest → IsKey ts (record { name = n; optional = o }) rest

-- [ "by" field { "," field } ]
pub data IsBy : List Kind → List FieldRef → List Kind → Type 0 where
  no_keys : {rest : List Kind} → IsBy rest [] rest
  by_keys : {ts rest : List Kind} {fs : List FieldRef} → IsListed IsKey ts fs rest → IsBy (by_ ∷ ts) fs rest

-- [ "with" "runs" "=" Num ], and 1 run where it isn't said
pub data IsRuns : List Kind → ℤ → List Kind → Type 0 where
  one_run : {rest : List Kind} → IsRuns rest (pos 1) rest
  some_runs : {w : List ℕ} {n : ℤ} {rest : List Kind} → bytes_eq w (codes "runs") ≡ true → IsRuns (with_ ∷ name w ∷ assign_ ∷ number n ∷ rest) n rest

-- [ "with" "maxspan" "=" Num unit ]
pub data IsSpan : List Kind → Option Span → List Kind → Type 0 where
  no_span : {rest : List Kind} → IsSpan rest None rest
  a_span : {n : ℤ} {w : List ℕ} {u : TimeUnit} {rest : List Kind} → unit_of w ≡ Some u
      → IsSpan (with_ ∷ maxspan_ ∷ assign_ ∷ number n ∷ name w ∷ rest) (Some (record { count = n; unit = u })) rest

-- "[" term "]" [ "by" keys ]
pub data IsBracketed : List Kind → Option (List ℕ) → Tree → List FieldRef → List Kind → Type 0 where
  bracketed : {ts us rest : List Kind} {c : Option (List ℕ)} {e : Tree} {fs : List FieldRef} → IsTerm ts c e (close_item_ ∷ us) → IsBy us fs rest
      → IsBracketed (open_item_ ∷ ts) c e fs rest

-- item = "[" term "]" [ "by" keys ] [ "with" "runs" "=" Num ]
pub data IsItem : List Kind → TermTree → List Kind → Type 0 where
  an_item : {ts us rest : List Kind} {c : Option (List ℕ)} {e : Tree} {fs : List FieldRef} {n : ℤ} → IsBracketed ts c e fs us → IsRuns us n rest
      → IsItem ts (record { category = c; cond = e; by = fs; runs = n }) rest

-- item { item }
pub data IsItems : List Kind → List TermTree → List Kind → Type 0 where
  last_item : {ts rest : List Kind} {i : TermTree} → IsItem ts i rest → IsItems ts (i ∷ []) rest
  next_item : {ts us rest : List Kind} {i : TermTree} {is : List TermTree} → IsItem ts i us → IsItems us is rest → IsItems ts (i ∷ is) rest

-- [ "until" "[" term "]" [ "by" keys ] ]
pub data IsUntil : List Kind → Option TermTree → List Kind → Type 0 where
  no_until : {rest : List Kind} → IsUntil rest None rest
  an_until : {ts rest : List Kind} {c : Option (List ℕ)} {e : Tree} {fs : List FieldRef} → IsBracketed ts c e fs rest
      → IsUntil (until_ ∷ ts) (Some (record { category = c; cond = e; by = fs; runs = pos 1 })) rest

-- a term, or "sequence" [ "by" keys ] [ "with" "maxspan" "=" Num unit ] items [ until ]
pub data IsBody : List Kind → BodyTree → List Kind → Type 0 where
  one_event : {ts rest : List Kind} {c : Option (List ℕ)} {e : Tree} → IsTerm ts c e rest → IsBody ts (event (record { category = c; cond = e; by = []; runs = pos 1 })) rest
  a_sequence : {ts us vs ws rest : List Kind} {fs : List FieldRef} {span : Option Span} {items : List TermTree} {until : Option TermTree}
      → IsBy ts fs us → IsSpan us span vs → IsItems vs items ws → IsUntil ws until rest → IsBody (sequence_ ∷ ts) (sequence fs span items until) rest

-- { "|" pipe }, up to the end
pub data IsPipes : List Kind → List PipeText → Type 0 where
  no_pipes : IsPipes [] []
  next_pipe : {w : List ℕ} {n : ℤ} {make : ℤ → PipeText} {ts : List Kind} {ps : List PipeText} → pipe_of w ≡ Some make → IsPipes ts ps
      → IsPipes (bar_ ∷ name w ∷ number n ∷ ts) (make n ∷ ps)

-- query = ( term | sequence ) { "|" pipe }
pub data Reads : List Kind → QueryTree → Type 0 where
  a_query : {ts rest : List Kind} {body : BodyTree} {pipes : List PipeText} → IsBody ts body rest → IsPipes rest pipes → Reads ts (record { body = body; pipes = pipes })

-- the tokens are the query
abbrev pub IsQuery : List Token → QueryTree → Type 0
IsQuery tokens query = Reads (kinds tokens) query
