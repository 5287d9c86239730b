-- The functions by their names.
use Rattle.std.specs.Prelude.{ℕ, List, Bool, true, false, Option, Some, None, if◌then◌else◌, codes}
use Rattle.std.specs.Str.{chars}
use Rattle.eql_values.specs.Orders.{text_eq}
use Rattle.eql_check.specs.declared.function.Function.{Function}
use Rattle.eql_check.specs.declared.function.Function.TheVariants.{Add, Subtract, Multiply, Divide, Modulo, Length, IndexOf, StartsWith, EndsWith, StringContains, Concat, Substring, Between, String, Number, CidrMatch}

-- the function with this name
abbrev pub function_named : List ℕ → Option Function
function_named name =
    if text_eq name (chars (codes "add")) then Some Add else
    if text_eq name (chars (codes "subtract")) then Some Subtract else
    if text_eq name (chars (codes "multiply")) then Some Multiply else
    if text_eq name (chars (codes "divide")) then Some Divide else
    if text_eq name (chars (codes "modulo")) then Some Modulo else
    if text_eq name (chars (codes "length")) then Some Length else
    if text_eq name (chars (codes "indexOf")) then Some IndexOf else
    if text_eq name (chars (codes "startsWith")) then Some StartsWith else
    if text_eq name (chars (codes "endsWith")) then Some EndsWith else
    if text_eq name (chars (codes "stringContains")) then Some StringContains else
    if text_eq name (chars (codes "concat")) then Some Concat else
    if text_eq name (chars (codes "substring")) then Some Substring else
    if text_eq name (chars (codes "between")) then Some Between else
    if text_eq name (chars (codes "string")) then Some String else
    if text_eq name (chars (codes "number")) then Some Number else
    if text_eq name (chars (codes "cidrMatch")) then Some CidrMatch else None

-- whether a function has a form with `~`, which compares with folding
abbrev pub has_folding : Function → Bool
has_folding IndexOf = true
has_folding StartsWith = true
has_folding EndsWith = true
has_folding StringContains = true
has_folding Between = true
has_folding _ = false

abbrev pub only_folding : Option Function → Option Function
only_folding None = None
only_folding (Some f) = if has_folding f then Some f else None

-- the function that a call names, with `~` or without
abbrev pub function_of : List ℕ → Bool → Option Function
function_of name fold = if fold then only_folding (function_named name) else function_named name
