-- The query and the mapping of `made` are a search.
use Rattle.std.proofs.Common.{◌≡◌, ℕ, List, [], ◌∷◌, ◌++◌, true, refl, sym, ap, ◌∙◌, inr, arith}
use Rattle.std.specs.Prelude.{None, Ok, drop, codes}
use Rattle.std.specs.List.{list_all}
use Rattle.std.specs.Str.{is_utf8, chars}
use Rattle.std.proofs.lemmas.Bool.{false≢true}
use Rattle.std.proofs.lemmas.Str.{IsUtf8-from_is_utf8}
use Rattle.serde_json.proofs.OnLiterals.{serde_json_on_literals}
use Rattle.eql_laws.proofs.Facts.{both_true}
use Rattle.eql_lexer.specs.declared.token.Sign.{Sign}
use Rattle.eql_lexer.specs.declared.token.Sign.TheVariants as sign
use Rattle.eql_lexer.specs.declared.token.Tok.TheVariants as tok
use Rattle.eql_lexer.specs.declared.token.Token.{Token}
use Rattle.eql_lexer.specs.Bytes.{is_word}
use Rattle.eql_lexer.specs.Spelling.{Spells}
use Rattle.eql_lexer.specs.Strings.{IsContent, closed, plain, IsPlain}
use Rattle.eql_parser.specs.Kinds.{kinds}
use Rattle.eql_parser.specs.Reading.{separated, dotted, chain_from, unary, neg, expr}
use Rattle.eql_parser.specs.QueryReading.{items, pipes, query}
use Rattle.eql_parser.proofs.Parsed.{found_by, levels_by, opens_by}
use Rattle.eql_check.specs.Kinds.{kind_at}
use Rattle.eql_check.specs.Mappings.{mapping_of}
use Rattle.eql_check.specs.Rules.{first_broken}
use Rattle.eql_check.specs.Typing.{CheckIsExact}
use Rattle.eql_runs.specs.Files.{HasTokens, ReadsAs}
use Rattle.eql_runs.specs.SummaryExamples.{made_tree, made_kinds, made_search}
use Rattle.eql_runs.specs.RunLaws.{MadeIsASearch}
use Rattle.eql_runs.specs.Summaries.{made_query, made_mapping}

abbrev word_at : List ℕ → (start to : ℕ) → Token
word_at word start to = record { tok = tok.Word word; start = start; end = to }

abbrev text_at : List ℕ → (start to : ℕ) → Token
text_at text start to = record { tok = tok.Str text; start = start; end = to }

abbrev sign_at : Sign → (start to : ℕ) → Token
sign_at which start to = record { tok = tok.Sign which; start = start; end = to }

-- the tokens of the query
abbrev made_tokens : List Token
made_tokens =
    word_at (codes "sequence") 0 8 ∷ word_at (codes "by") 9 11 ∷ word_at (codes "user") 12 16
    ∷ sign_at sign.Dot 16 17 ∷ word_at (codes "name") 17 21 ∷ sign_at sign.OpenBracket 22 23
    ∷ word_at (codes "process") 23 30 ∷ word_at (codes "where") 31 36 ∷ word_at (codes "process") 37 44
    ∷ sign_at sign.Dot 44 45 ∷ word_at (codes "name") 45 49 ∷ sign_at sign.Equal 50 52
    ∷ text_at (codes "attrib") 53 61 ∷ sign_at sign.CloseBracket 61 62 ∷ sign_at sign.OpenBracket 63 64
    ∷ word_at (codes "process") 64 71 ∷ word_at (codes "where") 72 77 ∷ word_at (codes "process") 78 85
    ∷ sign_at sign.Dot 85 86 ∷ word_at (codes "name") 86 90 ∷ sign_at sign.Equal 91 93
    ∷ text_at (codes "bash") 94 100 ∷ sign_at sign.CloseBracket 100 101 ∷ sign_at sign.OpenBracket 102 103
    ∷ word_at (codes "process") 103 110 ∷ word_at (codes "where") 111 116 ∷ word_at (codes "process") 117 124
    ∷ sign_at sign.Dot 124 125 ∷ word_at (codes "name") 125 129 ∷ sign_at sign.Equal 130 132
    ∷ text_at (codes "cat") 133 138 ∷ sign_at sign.CloseBracket 138 139 ∷ []

-- the text of the query from a place on
abbrev behind : ℕ → List ℕ
behind place = drop place made_query

-- letters stand for themselves in quotes
letter_is_plain : (b : ℕ) → is_word b ≡ true → IsPlain b
letter_is_plain b h =
    (λ e. false≢true (sym (ap is_word e) ∙ h), λ e. false≢true (sym (ap is_word e) ∙ h), λ e. false≢true (sym (ap is_word e) ∙ h))

quoted : (word rest : List ℕ) → list_all is_word word ≡ true → IsContent (word ++ 34 ∷ rest) word rest
quoted [] rest h = closed refl
quoted (b ∷ word) rest h =
    let both = both_true (is_word b) (list_all is_word word) h in
    plain (letter_is_plain b both.0) (quoted word rest both.1)

-- each token with the text behind it
is_spelled : Spells made_query made_tokens
unfolding lib.Utf8.encode chars
is_spelled = (
  [],
  (
    behind 8,
    (refl, refl, refl),
    refl,
    refl,
    (
      behind 11,
      (refl, refl, refl),
      refl,
      refl,
      (
        behind 16,
        (refl, refl, refl),
        refl,
        refl,
        (
          behind 17,
          (refl, refl),
          refl,
          refl,
          (
            behind 21,
            (refl, refl, refl),
            refl,
            refl,
            (
              behind 23,
              (refl, refl),
              refl,
              refl,
              (
                behind 30,
                (refl, refl, refl),
                refl,
                refl,
                (
                  behind 36,
                  (refl, refl, refl),
                  refl,
                  refl,
                  (
                    behind 44,
                    (refl, refl, refl),
                    refl,
                    refl,
                    (
                      behind 45,
                      (refl, refl),
                      refl,
                      refl,
                      (
                        behind 49,
                        (refl, refl, refl),
                        refl,
                        refl,
                        (
                          behind 52,
                          (refl, refl),
                          refl,
                          refl,
                          (
                            behind 61,
                            (refl, inr (refl, (codes "attrib", quoted (codes "attrib") (behind 61) refl, refl))),
                            refl,
                            refl,
                            (
                              behind 62,
                              (refl, refl),
                              refl,
                              refl,
                              (
                                behind 64,
                                (refl, refl),
                                refl,
                                refl,
                                (
                                  behind 71,
                                  (refl, refl, refl),
                                  refl,
                                  refl,
                                  (
                                    behind 77,
                                    (refl, refl, refl),
                                    refl,
                                    refl,
                                    (
                                      behind 85,
                                      (refl, refl, refl),
                                      refl,
                                      refl,
                                      (
                                        behind 86,
                                        (refl, refl),
                                        refl,
                                        refl,
                                        (
                                          behind 90,
                                          (refl, refl, refl),
                                          refl,
                                          refl,
                                          (
                                            behind 93,
                                            (refl, refl),
                                            refl,
                                            refl,
                                            (
                                              behind 100,
                                              (refl, inr (refl, (codes "bash", quoted (codes "bash") (behind 100) refl, refl))),
                                              refl,
                                              refl,
                                              (
                                                behind 101,
                                                (refl, refl),
                                                refl,
                                                refl,
                                                (
                                                  behind 103,
                                                  (refl, refl),
                                                  refl,
                                                  refl,
                                                  (
                                                    behind 110,
                                                    (refl, refl, refl),
                                                    refl,
                                                    refl,
                                                    (
                                                      behind 116,
                                                      (refl, refl, refl),
                                                      refl,
                                                      refl,
                                                      (
                                                        behind 124,
                                                        (refl, refl, refl),
                                                        refl,
                                                        refl,
                                                        (
                                                          behind 125,
                                                          (refl, refl),
                                                          refl,
                                                          refl,
                                                          (
                                                            behind 129,
                                                            (refl, refl, refl),
                                                            refl,
                                                            refl,
                                                            (
                                                              behind 132,
                                                              (refl, refl),
                                                              refl,
                                                              refl,
                                                              (
                                                                behind 138,
                                                                (refl, inr (refl, (codes "cat", quoted (codes "cat") (behind 138) refl, refl))),
                                                                refl,
                                                                refl,
                                                                (
                                                                  behind 139,
                                                                  (refl, refl),
                                                                  refl,
                                                                  refl,
                                                                  refl,
                                                                ),
                                                              ),
                                                            ),
                                                          ),
                                                        ),
                                                      ),
                                                    ),
                                                  ),
                                                ),
                                              ),
                                            ),
                                          ),
                                        ),
                                      ),
                                    ),
                                  ),
                                ),
                              ),
                            ),
                          ),
                        ),
                      ),
                    ),
                  ),
                ),
              ),
            ),
          ),
        ),
      ),
    ),
  ),
  refl,
)

is_spelled_so : HasTokens made_query made_tokens
unfolding lib.Utf8.encode is_utf8 chars
is_spelled_so = record { short = omega arith; utf8 = IsUtf8-from_is_utf8 made_query refl; spells = is_spelled }

is_read : query (kinds made_tokens) ≡ Ok (made_tree, [])
unfolding lib.Utf8.encode separated dotted chain_from unary neg expr items pipes
is_read = refl

is_read_so : ReadsAs made_tokens made_tree
is_read_so = record {
  is_query = found_by made_tokens made_tree [] is_read;
  shallow = levels_by made_tokens made_tree [] is_read;
  few_open = opens_by made_tokens made_tree [] is_read;
}

is_mapping : mapping_of made_mapping ≡ Ok made_kinds
unfolding serde_json_on_literals is_utf8 chars
is_mapping = refl

keeps_rules : first_broken (kind_at made_kinds) made_tree ≡ None
unfolding lib.Utf8.encode
keeps_rules = refl

pub made_is_a_search : CheckIsExact → MadeIsASearch
made_is_a_search exact = (
  made_search,
  record {
    tokens = made_tokens;
    spelled = is_spelled_so;
    read = is_read_so;
    is_mapping = is_mapping;
    checked = (exact (kind_at made_kinds) made_tree).0 keeps_rules;
    tie = refl;
    slack = refl;
    places = refl;
  },
)
