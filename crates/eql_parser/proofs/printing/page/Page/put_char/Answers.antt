use Rattle.std.proofs.lemmas.Str.{IsUtf8-encode}
use Rattle.eql_parser.proofs.Pages.{page_grows, one_char}
use Rattle.eql_parser.proofs.printing.page.Page.put_char.Goals as goal

pub returns : goal.returns
returns c = page_grows c.self.inside.text _ _ _ _ c.self.view_is c.in_ok-push.ensures.bytes (one_char c.args.character (IsUtf8-encode c.args.character c.ranges.character.0))
