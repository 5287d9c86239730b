use Rattle.std.proofs.Common.{sym, length-drop, ◌∙◌}
use Rattle.eql_ckdisk.proofs.BlockMade.{head_put}
use Rattle.eql_ckdisk.proofs.puts.put_head.Goals as goal

pub returns : goal.returns
returns c =
    head_put c.args.generation _ c.args.made.now _ _ (c.copy_from_slice.ensures.after ∙ c.to_le_bytes.ensures)
    (c.copy_from_slice-2.ensures.after ∙ c.to_le_bytes-2.ensures) (sym (length-drop 16 c.args.made.now))
