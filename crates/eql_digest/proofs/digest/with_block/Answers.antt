use Rattle.std.proofs.Common.{rules}
use Rattle.eql_digest.proofs.Blocks.{eight_words}
use Rattle.eql_digest.proofs.digest.with_block.Goals as goal

pub returns : goal.returns
returns c =
    rw (
      c.turned.ensures,
      c.turned-2.ensures,
      c.turned-3.ensures,
      c.turned-4.ensures,
      c.turned-5.ensures,
      c.turned-6.ensures,
      c.turned-7.ensures,
      c.turned-8.ensures,
      c.word_at.ensures,
      c.word_at-2.ensures,
      c.word_at-3.ensures,
      c.word_at-4.ensures,
      c.word_at-5.ensures,
      c.word_at-6.ensures,
      c.word_at-7.ensures,
      c.word_at-8.ensures,
    )
    (eight_words c.args.lanes c.args.block.now (search rules))
