use Rattle.std.proofs.Common.{ap, sym, ◌∙◌, string_bytes, encode_utf8_all}
use Rattle.std.proofs.lemmas.Str.{encodes-chars, IsUtf8-string_bytes}
use Rattle.eql_book.proofs.key.text_bytes.Goals as goal

pub returns : goal.returns
returns c =
    sym (encodes-chars (string_bytes c.in_ok-copy.copy) (IsUtf8-string_bytes c.in_ok-copy.copy))
    ∙ ap encode_utf8_all c.in_ok-copy.ensures
