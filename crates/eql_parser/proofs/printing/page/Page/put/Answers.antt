use Rattle.eql_parser.proofs.Pages.{page_grows, ascii_chars}
use Rattle.eql_parser.proofs.printing.page.Page.put.Goals as goal

pub returns : goal.returns
returns c = page_grows c.self.inside.text _ _ _ _ c.self.view_is c.in_ok-push_str.ensures.bytes (ascii_chars c.args.part.now c.requires)
