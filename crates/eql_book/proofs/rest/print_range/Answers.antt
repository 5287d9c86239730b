use Rattle.std.proofs.Common.{Bool, sym, ap, ◌∙◌, arith}
use Rattle.std.specs.Prelude.{option_copied, string_bytes}
use Rattle.eql_book.specs.Listing.{match_line}
use Rattle.eql_book.proofs.RangeLemmas.{is_there}
use Rattle.eql_book.proofs.WriteLemmas.{on_err, range_more, range_part}
use Rattle.eql_book.proofs.rest.print_range.Goals as goal

pub unreachable-requires : goal.unreachable-requires
unreachable-requires g c =
    is_there c.args.kept.now.items c.loop-index.index (omega (arith, c.loop-index-test.true, c.requires.within))
    (sym c.get.ensures ∙ ap option_copied c.in-None.is)

pub loop-index-preserved : goal.loop-index-preserved
loop-index-preserved g c =
    let loop = c.loop-index in
    let added = c.in_ok-add-in-Some.ensures {u = tt} in
    let x = c.in-Some.found.now in
    record {
      places = c.add.ensures.places ∙ loop.invariant.places;
      printed = range_more c.args.page.now.places (string_bytes c.args.page.now.waiting) c.args.kept.now.items c.args.from loop.index x
          (string_bytes loop.page.waiting) (string_bytes c.add.new.self.waiting) (match_line loop.page.places x)
          (g.K.Sink.written c.args.sink.now) (g.K.Sink.written loop.sink) (g.K.Sink.written c.add.new.sink)
          loop.invariant.from (sym c.get.ensures ∙ ap option_copied c.in-Some.is) (omega (arith, c.loop-index-test.true, c.requires.within))
          (ap (λ (p : Bool). match_line p x) loop.invariant.places) loop.invariant.printed added.printed;
      keeps = c.add.ensures.keeps ∙ loop.invariant.keeps;
      silent = λ none. c.add.ensures.silent (loop.invariant.silent none);
      unfailing = λ never. (c.add.ensures.unfailing (loop.invariant.unfailing never)).1;
      steady = added.steady (λ e. cc) ∙ loop.invariant.steady;
      from = omega (arith, loop.invariant.from);
      to = omega (arith, c.loop-index-test.true);
    }

pub returns-in_err-add-in-Some-clause-part : goal.returns-in_err-add-in-Some-clause-part
returns-in_err-add-in-Some-clause-part g c =
    let loop = c.loop-index in
    let x = c.in-Some.found.now in
    on_err c.from_residual.result
    (range_part c.args.page.now.places (string_bytes c.args.page.now.waiting) c.args.kept.now.items c.args.from loop.index c.args.to x
    (string_bytes loop.page.waiting) (match_line loop.page.places x)
    (g.K.Sink.written c.args.sink.now) (g.K.Sink.written loop.sink) (g.K.Sink.written c.add.new.sink)
    loop.invariant.from c.loop-index-test.true (sym c.get.ensures ∙ ap option_copied c.in-Some.is) (omega (arith, c.loop-index-test.true, c.requires.within))
    (ap (λ (p : Bool). match_line p x) loop.invariant.places) loop.invariant.printed (c.in_err-add-in-Some.ensures {u = tt}).part)
