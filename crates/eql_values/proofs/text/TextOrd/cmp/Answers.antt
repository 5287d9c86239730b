use Rattle.eql_values.proofs.TextBytes.{bytes_from_chars}
use Rattle.eql_values.proofs.text.TextOrd.cmp.Goals as goal

pub returns : goal.returns
returns c =
    rw (bytes_from_chars _ _ c.text.utf8 c.text.ensures) (rw (bytes_from_chars _ _ c.text-2.utf8 c.text-2.ensures) cc)
