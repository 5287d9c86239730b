-- The signs.
use Rattle.std.specs.Prelude.{ℕ, List, [], ◌∷◌, ◌==◌, Bool, false, Option, Some, None, if◌then◌else◌}
use Rattle.eql_lexer.specs.declared.token.Sign.{Sign}
use Rattle.eql_lexer.specs.declared.token.Sign.TheVariants.{Open, Close, OpenBracket, CloseBracket, Comma, Dot, Bar, Question, Bang, Assign, Equal, NotEqual, Less, AtMost, Greater, AtLeast, Colon, Plus, Minus, Star, Slash, Percent}
use Rattle.eql_lexer.specs.Bytes.{begins}

-- the bytes of a sign
abbrev pub spelling : Sign → List ℕ
spelling Open = 40 ∷ []
spelling Close = 41 ∷ []
spelling OpenBracket = 91 ∷ []
spelling CloseBracket = 93 ∷ []
spelling Comma = 44 ∷ []
spelling Dot = 46 ∷ []
spelling Bar = 124 ∷ []
spelling Question = 63 ∷ []
spelling Bang = 33 ∷ []
spelling Assign = 61 ∷ []
spelling Equal = 61 ∷ 61 ∷ []
spelling NotEqual = 33 ∷ 61 ∷ []
spelling Less = 60 ∷ []
spelling AtMost = 60 ∷ 61 ∷ []
spelling Greater = 62 ∷ []
spelling AtLeast = 62 ∷ 61 ∷ []
spelling Colon = 58 ∷ []
spelling Plus = 43 ∷ []
spelling Minus = 45 ∷ []
spelling Star = 42 ∷ []
spelling Slash = 47 ∷ []
spelling Percent = 37 ∷ []

-- with what follows it, the sign makes a longer one or begins a comment
abbrev pub grows : Sign → List ℕ → Bool
grows Bang rest = begins 61 rest
grows Assign rest = begins 61 rest
grows Less rest = begins 61 rest
grows Greater rest = begins 61 rest
grows Slash rest = begins 42 rest
grows _ rest = false

-- the longest sign that a text begins with
abbrev pub sign_at : List ℕ → Option Sign
sign_at [] = None
sign_at (b ∷ bs) =
    if b == 40 then Some Open else
    (if b == 41 then Some Close else
    (if b == 91 then Some OpenBracket else
    (if b == 93 then Some CloseBracket else
    (if b == 44 then Some Comma else
    (if b == 46 then Some Dot else
    (if b == 124 then Some Bar else
    (if b == 63 then Some Question else
    (if b == 33 then (if begins 61 bs then Some NotEqual else Some Bang) else
    (if b == 61 then (if begins 61 bs then Some Equal else Some Assign) else
    (if b == 60 then (if begins 61 bs then Some AtMost else Some Less) else
    (if b == 62 then (if begins 61 bs then Some AtLeast else Some Greater) else
    (if b == 58 then Some Colon else
    (if b == 43 then Some Plus else
    (if b == 45 then Some Minus else
    (if b == 42 then Some Star else
    (if b == 47 then (if begins 42 bs then None else Some Slash) else
    (if b == 37 then Some Percent else None)))))))))))))))))
