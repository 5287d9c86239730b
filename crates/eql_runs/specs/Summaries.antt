-- What a run of `made` writes: a summary of what one query finds in made-up texts. It needs no file.
use Rattle.std.specs.Prelude.{◌≡◌, ◌++◌, ℕ, false, List, [], ◌∷◌, length, map, None, Ok, codes}
use Rattle.std.specs.Fmt.{decimal}
use Rattle.eql_lexer.specs.declared.token.Token.{Token}
use Rattle.eql_check.specs.Kinds.{kind_at}
use Rattle.eql_check.specs.Mappings.{mapping_of}
use Rattle.eql_check.specs.Typing.{IsChecked}
use Rattle.eql_book.specs.Listing.{match_text}
use Rattle.eql_runs.specs.Made.{made_texts}
use Rattle.eql_runs.specs.Files.{HasTokens, ReadsAs}
use Rattle.eql_runs.specs.Searches.{Search, listed_of}

-- the text of the query
abbrev pub made_query : List ℕ
made_query =
    codes "sequence by user.name [process where process.name == \"attrib\"] [process where process.name == \"bash\"] [process where process.name == \"cat\"]"

-- the text of the mapping
abbrev pub made_mapping : List ℕ
made_mapping = codes "{\"process.name\":\"keyword\",\"user.name\":\"keyword\"}"

-- the search that these texts are, read and checked as those of files are; it has no tiebreaker, no
-- slack and no places
pub record IsMadeSearch (search : Search) : Type 0 where
  pub tokens : List Token
  pub spelled : HasTokens made_query tokens
  pub read : ReadsAs tokens search.query
  pub is_mapping : mapping_of made_mapping ≡ Ok search.mapping
  pub checked : IsChecked (kind_at search.mapping) search.query
  pub tie : search.tie ≡ None
  pub slack : search.slack ≡ None
  pub places : search.places ≡ false

-- the first of lines, and the last
abbrev pub first_or_none : List (List ℕ) → List ℕ
first_or_none [] = codes "none"
first_or_none (line ∷ lines) = line

abbrev pub last_or_none : List (List ℕ) → List ℕ
last_or_none [] = codes "none"
last_or_none (line ∷ []) = line
last_or_none (line ∷ next ∷ lines) = last_or_none (next ∷ lines)

-- the four lines of so many events, in which matches with these lines are found
abbrev pub summary : (events : ℕ) (lines : List (List ℕ)) → List ℕ
summary events lines =
    codes "events " ++ decimal events ++ codes "\nmatches " ++ decimal (length lines)
    ++ codes "\nfirst " ++ first_or_none lines ++ codes "\nlast " ++ last_or_none lines ++ codes "\n"

-- the line of each match that the search lists
abbrev pub listed_lines : Search → List (List ℕ) → List (List ℕ)
listed_lines search texts = map (match_text search.places) (listed_of search texts)

-- the summary of what the search lists over the made texts
abbrev pub made_lines : (events : ℕ) → Search → List ℕ
made_lines events search = summary events (listed_lines search (made_texts events))

-- a run of `made` over so many events writes its summary, and no report
pub record Makes (events : ℕ) (bytes report : List ℕ) : Type 0 where
  pub search : Search
  pub is_search : IsMadeSearch search
  pub bytes_are : bytes ≡ made_lines events search
  pub report_is : report ≡ []
