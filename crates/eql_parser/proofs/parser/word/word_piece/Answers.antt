use Rattle.std.proofs.Common.{Some, None, ap, ◌∙◌}
use Rattle.eql_parser.specs.Kinds.{word_in, keywords}
use Rattle.eql_parser.specs.Pieces.{keyword_kind}
use Rattle.eql_parser.proofs.Spellings.{known_word}
use Rattle.eql_parser.proofs.parser.word.word_piece.Goals as goal

pub returns-in-Some : goal.returns-in-Some
unfolding lib.Utf8.encode
returns-in-Some c =
    c.keyword_piece.ensures ∙ known_word _ _ (Some (keyword_kind c.in-Some.keyword)) c.text.utf8 c.text.ensures (c.in-Some.ensures ∙ ap (word_in keywords) c.as_bytes.ensures.value)

pub returns-in-None : goal.returns-in-None
unfolding lib.Utf8.encode
returns-in-None c =
    c.plain_piece.ensures ∙ known_word _ _ None c.text.utf8 c.text.ensures (c.in-None.ensures ∙ ap (word_in keywords) c.as_bytes.ensures.value)
