-- Queries as trees without pointers, and the tree that a query stands for.
use Rattle.std.specs.Prelude.{ℕ, ℤ, List, map, Option}
use Rattle.std.specs.Option.{option_map}
use Rattle.eql_query.specs.Tree.{Tree}
use Rattle.eql_query.specs.View.{tree}
use Rattle.eql_query.specs.declared.expr.FieldRef.{FieldRef}
use Rattle.eql_query.specs.declared.query.Term.{Term}
use Rattle.eql_query.specs.declared.query.Span.{Span}
use Rattle.eql_query.specs.declared.query.PipeText.{PipeText}
use Rattle.eql_query.specs.declared.query.Body.{Body}
use Rattle.eql_query.specs.declared.query.Body.TheVariants.{Event, Sequence}
use Rattle.eql_query.specs.declared.query.Query.{Query}

-- a category, where it isn't `any`, a condition, key fields and runs
pub record TermTree : Type 0 where
  pub category : Option (List ℕ)
  pub cond : Tree
  pub by : List FieldRef
  pub runs : ℤ

-- single events, or sequences
pub data BodyTree : Type 0 where
  event : TermTree → BodyTree
  sequence : (by : List FieldRef) (span : Option Span) (items : List TermTree) (until : Option TermTree) → BodyTree

pub record QueryTree : Type 0 where
  pub body : BodyTree
  pub pipes : List PipeText

abbrev pub term_tree : Term → TermTree
term_tree term = record { category = term.category; cond = tree term.cond; by = term.by; runs = term.runs }

abbrev pub body_tree : Body → BodyTree
body_tree (Event term) = event (term_tree term)
body_tree (Sequence by span items until) = sequence by span (map term_tree items) (option_map term_tree until)

-- the tree of a query
abbrev pub query_tree : Query → QueryTree
query_tree query = record { body = body_tree query.body; pipes = query.pipes }
