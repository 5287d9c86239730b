use Rattle.std.proofs.Common.{subst, sym}
use Rattle.std.specs.Str.{IsUtf8}
use Rattle.eql_lexer.proofs.Utf8.{raw_utf8}
use Rattle.eql_lexer.proofs.scan.raw.Goals as goal

pub raw_string-requires : goal.raw_string-requires
raw_string-requires c = subst IsUtf8 (sym c.skip.ensures) (raw_utf8 _ _ _ c.requires.cons c.requires.quotes c.requires.utf8)
