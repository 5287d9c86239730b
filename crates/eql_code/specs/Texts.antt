-- Expressions that make no text.
use Rattle.std.specs.Prelude.{Bool, false, ◌||◌, Option, Some, None}
use Rattle.eql_query.specs.Tree.{Tree, Trees, none, more}
use Rattle.eql_query.specs.Tree as t
use Rattle.eql_check.specs.declared.function.Function.{Function}
use Rattle.eql_check.specs.Names.{function_of}
use Rattle.eql_check.specs.Functions as f

abbrev pub call_makes_text : Option Function → Bool
call_makes_text None = false
call_makes_text (Some function) = f.makes_text function

-- whether a call of `concat`, `substring`, `between` or `string` stands in an expression
abbrev mutual
  pub makes_text_in : Tree → Bool
  makes_text_in (t.not a) = makes_text_in a
  makes_text_in (t.and es) = makes_text_among es
  makes_text_in (t.or es) = makes_text_among es
  makes_text_in (t.cmp how a b) = makes_text_in a || makes_text_in b
  makes_text_in (t.pattern how a patterns) = makes_text_in a
  makes_text_in (t.member fold negated a list) = makes_text_in a
  makes_text_in (t.neg a) = makes_text_in a
  makes_text_in (t.math how a b) = makes_text_in a || makes_text_in b
  makes_text_in (t.call name fold args) = call_makes_text (function_of name fold) || makes_text_among args
  makes_text_in _ = false

  pub makes_text_among : Trees → Bool
  makes_text_among none = false
  makes_text_among (more a es) = makes_text_in a || makes_text_among es
