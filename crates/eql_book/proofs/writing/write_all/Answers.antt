use Rattle.std.proofs.Common.{refl, rules}
use Rattle.std.specs.Prelude.{string_bytes}
use Rattle.eql_book.specs.Books.{let_out}
use Rattle.eql_book.specs.Gates.{pipes_of}
use Rattle.eql_book.specs.Ledgers.{kept_of}
use Rattle.eql_book.specs.Listing.{listing}
use Rattle.eql_book.proofs.WriteLemmas.{on_err, sent_part}
use Rattle.eql_book.proofs.writing.write_all.Goals as goal

pub returns-in_err-send-clause-part : goal.returns-in_err-send-clause-part
returns-in_err-send-clause-part g c =
    let text = listing c.args.page.now.places (let_out (pipes_of c.args.ledger.now.gates.items) (kept_of c.args.ledger.now) c.args.matches) in
    on_err c.from_residual-in_err-send.result
    (sent_part (string_bytes c.args.page.now.waiting) text text
    (string_bytes c.write_matches.new.page.waiting) (g.K.Sink.written c.args.sink.now) (g.K.Sink.written c.write_matches.new.sink) (g.K.Sink.written c.send.new.sink)
    c.requires refl (c.in_ok-write_matches.ensures {u = tt}).printed (c.in_err-send.ensures {u = tt}).part)

pub returns-clause-empty : goal.returns-clause-empty
returns-clause-empty g c = search rules
