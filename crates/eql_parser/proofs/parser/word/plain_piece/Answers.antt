use Rattle.std.proofs.Common.{◌≡◌, ◌≢◌, ◌∷◌, [], ◌++◌, ℕ, List, lit<}
use Rattle.std.proofs.lemmas.Str.Pattern.{strip_suffix_char}
use Rattle.eql_parser.proofs.Spellings.{with_tilde, without_tilde}
use Rattle.eql_parser.proofs.parser.word.plain_piece.Goals as goal

pub returns-in-Some : goal.returns-in-Some
returns-in-Some c =
    let bytes = c.text.result.now in
    let cut = strip_suffix_char 126 bytes c.strip_suffix.result c.strip_suffix.ensures.cases (lit< tt) in
    let whole : bytes ≡ c.in-Some.front.now ++ 126 ∷ [] = rw c.in-Some.is at cut in
    with_tilde _ bytes c.in-Some.front.now c.text.utf8 c.text.ensures whole

pub returns-in-None : goal.returns-in-None
returns-in-None c =
    let bytes = c.text.result.now in
    let cut = strip_suffix_char 126 bytes c.strip_suffix.result c.strip_suffix.ensures.cases (lit< tt) in
    let none : (front : List ℕ) → bytes ≢ front ++ 126 ∷ [] = rw c.in-None.is at cut in
    without_tilde _ bytes c.text.utf8 c.text.ensures none
