use Rattle.std.proofs.Common.{◌-◌, take, drop, sym, ap}
use Rattle.std.specs.Prelude.{string_bytes}
use Rattle.eql_values.specs.Numbering.{pipe_output}
use Rattle.eql_book.specs.Gates.{pipes_of}
use Rattle.eql_book.specs.Listing.{listing}
use Rattle.eql_book.proofs.WriteLemmas.{on_err, sent_part, sent_whole}
use Rattle.eql_book.proofs.rest.write_tail.Goals as goal

pub returns-in_err-send-clause-part : goal.returns-in_err-send-clause-part
returns-in_err-send-clause-part g c =
    let items = c.args.tail.now.kept.items in
    let range = c.kept_range-from.result in
    let places = c.args.page.now.places in
    on_err c.from_residual-in_err-send.result
    (sent_part (string_bytes c.args.page.now.waiting) (listing places (take (range.1 - range.0) (drop range.0 items))) (listing places (pipe_output (pipes_of c.args.after.now) items))
    (string_bytes c.print_range.new.page.waiting) (g.K.Sink.written c.args.sink.now) (g.K.Sink.written c.print_range.new.sink) (g.K.Sink.written c.send.new.sink)
    c.requires (ap (listing places) (sym (c.kept_range-from.ensures.keeps items (sym c.len.ensures.len))))
    (c.in_ok-print_range.ensures {u = tt}).printed (c.in_err-send.ensures {u = tt}).part)

pub returns-clause-printed : goal.returns-clause-printed
returns-clause-printed g c =
    let items = c.args.tail.now.kept.items in
    let range = c.kept_range-from.result in
    let places = c.args.page.now.places in
    sent_whole (string_bytes c.args.page.now.waiting) (listing places (take (range.1 - range.0) (drop range.0 items))) (listing places (pipe_output (pipes_of c.args.after.now) items))
    (string_bytes c.print_range.new.page.waiting) (string_bytes c.send.new.self.waiting)
    (g.K.Sink.written c.args.sink.now) (g.K.Sink.written c.print_range.new.sink) (g.K.Sink.written c.send.new.sink)
    c.requires (ap (listing places) (sym (c.kept_range-from.ensures.keeps items (sym c.len.ensures.len))))
    (c.in_ok-print_range.ensures {u = tt}).printed (c.in_ok-send.ensures {u = tt}).printed (c.in_ok-send.ensures {u = tt}).empty
