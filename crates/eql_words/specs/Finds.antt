-- A checkpoint as the words say it.
use Rattle.eql_words.specs.declared.values.KeptAt.{KeptAt}
use Rattle.eql_words.specs.declared.commands.Checkpoint.{Checkpoint}

abbrev pub as_checkpoint : KeptAt → Checkpoint
as_checkpoint kept = record { name = kept.name.now; every = kept.every }
