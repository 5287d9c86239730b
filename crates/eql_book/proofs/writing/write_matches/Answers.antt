use Rattle.std.proofs.Common.{◌++◌, ◌∷◌, [], List, length, refl, sym, ap, ◌∙◌, subst, arith}
use Rattle.std.specs.Prelude.{string_bytes}
use Rattle.std.specs.Vec.Iter.{into_iter_items}
use Rattle.std.proofs.lemmas.List.{append_assoc}
use Rattle.eql_values.specs.declared.found.Match.{Match}
use Rattle.eql_outside.specs.Written.{WroteFront}
use Rattle.eql_book.specs.Books.{kept_after, let_out}
use Rattle.eql_book.specs.Gates.{pipes_of}
use Rattle.eql_book.specs.Ledgers.{kept_of}
use Rattle.eql_book.specs.Listing.{listing}
use Rattle.eql_book.proofs.FitLemmas.{start_kept, start_out}
use Rattle.eql_book.proofs.Going.{kept_on}
use Rattle.eql_book.proofs.WriteLemmas.{line_more, line_part, no_line, on_err}
use Rattle.eql_book.proofs.writing.write_matches.Goals as goal

pub loop-found-init : goal.loop-found-init
loop-found-init g c =
    let gives = c.into_iter-found-iterator.ensures.into_iter_gives in
    let ok = c.into_items-found-items.result.ok.0 in
    let items = ap length gives.0 in
    record {
      pipes = refl;
      places = refl;
      kept = start_kept c.args.ledger.now;
      printed = no_line c.args.page.now.places (string_bytes c.args.page.now.waiting) _ (g.K.Sink.written c.args.sink.now) (start_out c.args.ledger.now);
      keeps = refl;
      silent = λ none. none;
      unfailing = λ never. never;
      steady = refl;
      parts = sym c.into_items-found-items.ensures ∙ sym gives.0;
      many = omega (arith, gives.1);
    }

pub loop-found-preserved : goal.loop-found-preserved
loop-found-preserved g c =
    let loop = c.loop-found in
    let inv = c.loop-found.invariant in
    let popped = (c.in-Some.ensures {u = tt}).steps in
    let left = into_iter_items c.next.new.self in
    let m = c.in-Some.found in
    let wrote = c.in_ok-write_match.ensures {u = tt} in
    let pipes = pipes_of c.args.ledger.now.gates.items in
    let kept = kept_of c.args.ledger.now in
    let many = c.loop-found.invariant.many in
    let items = ap length popped.0 in
    record {
      pipes = c.write_match.ensures.pipes ∙ inv.pipes;
      places = c.write_match.ensures.places ∙ inv.places;
      kept = wrote.kept ∙ (λ i. kept_after (inv.pipes i) (inv.kept i) (m ∷ [])) ∙ sym (kept_on pipes kept loop.yielded (m ∷ []));
      printed = line_more pipes kept c.args.page.now.places (string_bytes c.args.page.now.waiting) loop.yielded m
          (string_bytes loop.page.waiting) (string_bytes c.write_match.new.page.waiting)
          (listing loop.page.places (let_out (pipes_of loop.ledger.gates.items) (kept_of loop.ledger) (m ∷ [])))
          (g.K.Sink.written c.args.sink.now) (g.K.Sink.written loop.sink) (g.K.Sink.written c.write_match.new.sink)
          (λ i. listing (inv.places i) (let_out (inv.pipes i) (inv.kept i) (m ∷ []))) inv.printed wrote.printed;
      keeps = c.write_match.ensures.keeps ∙ inv.keeps;
      silent = λ none. c.write_match.ensures.silent (inv.silent none);
      unfailing = λ never. (c.write_match.ensures.unfailing (inv.unfailing never)).1;
      steady = wrote.steady (λ e. cc) ∙ inv.steady;
      parts = inv.parts ∙ ap (λ (l : List Match). loop.yielded ++ l) popped.0 ∙ sym (append_assoc loop.yielded (m ∷ []) left);
      many = omega (arith, popped.1);
    }

pub returns-in_err-write_match-clause-part : goal.returns-in_err-write_match-clause-part
returns-in_err-write_match-clause-part g c =
    let loop = c.loop-found in
    let inv = c.loop-found.invariant in
    let popped = (c.in-Some.ensures {u = tt}).steps in
    let left = into_iter_items c.next.new.self in
    let m = c.in-Some.found in
    let pipes = pipes_of c.args.ledger.now.gates.items in
    let kept = kept_of c.args.ledger.now in
    on_err c.from_residual.result
    (subst (λ (all : List Match). WroteFront (string_bytes c.args.page.now.waiting ++ listing c.args.page.now.places (let_out pipes kept all)) (g.K.Sink.written c.args.sink.now) (g.K.Sink.written c.write_match.new.sink))
    (sym (inv.parts ∙ ap (λ (l : List Match). loop.yielded ++ l) popped.0))
    (line_part pipes kept c.args.page.now.places (string_bytes c.args.page.now.waiting) loop.yielded m left
    (string_bytes loop.page.waiting)
    (listing loop.page.places (let_out (pipes_of loop.ledger.gates.items) (kept_of loop.ledger) (m ∷ [])))
    (g.K.Sink.written c.args.sink.now) (g.K.Sink.written loop.sink) (g.K.Sink.written c.write_match.new.sink)
    (λ i. listing (inv.places i) (let_out (inv.pipes i) (inv.kept i) (m ∷ []))) inv.printed (c.in_err-write_match.ensures {u = tt}).part))
