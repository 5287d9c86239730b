use Rattle.eql_find.specs.Finding.{texts_told}
use Rattle.eql_find.proofs.find.run_shards.Given as goal

abbrev pub ghost-run_start : goal.ghost-run_start
ghost-run_start g a = texts_told (g.H.Shelf.files a.shelf.now) a.find.now.shards
