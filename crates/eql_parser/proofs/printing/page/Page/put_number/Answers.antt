use Rattle.std.specs.Fmt.{signed_decimal}
use Rattle.eql_parser.proofs.Pages.{page_grows, ascii_chars, ascii_number}
use Rattle.eql_parser.proofs.printing.page.Page.put_number.Goals as goal

pub returns : goal.returns
returns c = page_grows c.self.inside.text _ _ _ _ c.self.view_is c.in_ok-write.ensures.bytes (ascii_chars (signed_decimal c.args.number.now) (ascii_number c.args.number.now))
