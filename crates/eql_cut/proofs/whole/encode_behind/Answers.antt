use Rattle.eql_cut.proofs.Standing.{cut_orders}
use Rattle.eql_cut.proofs.WholeLaws.{encoded_behind}
use Rattle.eql_cut.proofs.whole.encode_behind.Goals as goal

pub write_whole-requires : goal.write_whole-requires
write_whole-requires c = cut_orders c.orders_told_alike.ensures.items c.args.cut.now c.requires

pub returns : goal.returns
returns c = encoded_behind c.args.head.now c.args.cut.now c.write_whole.result c.write_whole.ensures.text c.write_whole.ensures.fits
