use Rattle.std.proofs.Common.{sym, ap, ◌∙◌, encode_utf8_all}
use Rattle.std.proofs.lemmas.Str.{encodes-chars, IsUtf8-string_bytes}
use Rattle.eql_lines.proofs.scan.name_path.Goals as goal

pub returns : goal.returns
returns c =
    sym (ap encode_utf8_all (sym c.in_ok-path.ensures) ∙ encodes-chars _ (IsUtf8-string_bytes c.in_ok-path.path))
