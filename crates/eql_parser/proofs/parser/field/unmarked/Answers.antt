use Rattle.std.proofs.Common.{◌≢◌, ◌∷◌, [], ◌++◌, ℕ, List, lit<}
use Rattle.std.proofs.lemmas.Str.Pattern.{strip_suffix_char}
use Rattle.eql_parser.proofs.Spellings.{marked_part, unmarked_part}
use Rattle.eql_parser.proofs.parser.field.unmarked.Goals as goal

pub returns-in-Some : goal.returns-in-Some
returns-in-Some c =
    let bytes = c.text-spelling.result.now in
    let cut = strip_suffix_char 126 bytes c.strip_suffix.result c.strip_suffix.ensures.cases (lit< tt) in
    let whole = rw c.in-Some.is at cut in
    marked_part _ bytes _ c.text-spelling.utf8 c.text-spelling.ensures whole

pub returns-in-None : goal.returns-in-None
returns-in-None c =
    let bytes = c.text-spelling.result.now in
    let cut = strip_suffix_char 126 bytes c.strip_suffix.result c.strip_suffix.ensures.cases (lit< tt) in
    let none : (front : List ℕ) → bytes ≢ front ++ 126 ∷ [] = rw c.in-None.is at cut in
    unmarked_part _ bytes c.text-spelling.utf8 c.text-spelling.ensures none
