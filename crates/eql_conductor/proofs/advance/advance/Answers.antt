use Rattle.std.proofs.Common.{List, inl, inr, refl, subst}
use Rattle.std.proofs.lemmas.Result.{err_from_is_err_and, on_err_weaker, on_ok_weaker, IfErr-weaker}
use Rattle.eql_values.specs.declared.found.Match.{Match}
use Rattle.eql_outside.specs.Written.{WroteFront}
use Rattle.eql_book.specs.Books.{let_out}
use Rattle.eql_book.specs.Listing.{listing}
use Rattle.eql_conductor.specs.Rounds.{Gave, StopsAt, StopsOut, found_by}
use Rattle.eql_conductor.proofs.Broken.{is_spoilt, on_err, sink_still, wrote_none}
use Rattle.eql_conductor.proofs.advance.advance.Goals as goal

pub returns-in_err-found-clause-kept : goal.returns-in_err-found-clause-kept
returns-in_err-found-clause-kept g c =
    on_err c.from_residual.result (λ e. refl)

pub returns-in_err-found-clause-front : goal.returns-in_err-found-clause-front
returns-in_err-found-clause-front g c =
    λ rules all was. on_err c.from_residual.result (wrote_none (listing c.args.book.now.places (let_out c.args.book.now.pipes c.args.book.now.kept (found_by rules all c.args.taken.now.items))) (g.K.Sink.written c.args.sink.now))

pub returns-in_err-found-clause-stops : goal.returns-in_err-found-clause-stops
returns-in_err-found-clause-stops g c =
    let p = err_from_is_err_and c.from_residual.result c.from_residual.ensures.1 in
    rw (p.1, p.2) (inl c.in_err-found.ensures.stops)

pub returns-in_err-found-clause-faults : goal.returns-in_err-found-clause-faults
returns-in_err-found-clause-faults g c =
    let p = err_from_is_err_and c.from_residual.result c.from_residual.ensures.1 in
    rw (p.1, p.2)
    (sink_still g.K.Sink c.args.sink.now c.in_err-found.field-0.0 (g.B.Bench.known c.args.bench.now) (g.B.Bench.known c.play_parts.new.bench) c.in_err-found.ensures.stops)

pub returns-clause-played : goal.returns-clause-played
returns-clause-played g c =
    λ rules all was.
    on_ok_weaker c.add_found.result
    (λ gave. record {
      parts = c.in_ok-found.ensures.parts rules all was;
      gave = subst (λ (l : List Match). Gave l c.args.book.now c.add_found.new.book (g.K.Sink.written c.args.sink.now) (g.K.Sink.written c.add_found.new.sink)) (c.in_ok-found.ensures.found rules all was) gave;
    })
    c.add_found.ensures.gave

pub returns-clause-kept : goal.returns-clause-kept
returns-clause-kept g c =
    on_err_weaker c.add_found.result (λ spoilt e. is_spoilt c.add_found.new.book.whole spoilt e) c.add_found.ensures.spoilt

pub returns-clause-front : goal.returns-clause-front
returns-clause-front g c =
    λ rules all was.
    on_err_weaker c.add_found.result
    (λ front. subst (λ (l : List Match). WroteFront (listing c.args.book.now.places (let_out c.args.book.now.pipes c.args.book.now.kept l)) (g.K.Sink.written c.args.sink.now) (g.K.Sink.written c.add_found.new.sink))
    (c.in_ok-found.ensures.found rules all was) front)
    c.add_found.ensures.front

pub returns-clause-stops : goal.returns-clause-stops
returns-clause-stops g c =
    IfErr-weaker c.add_found.result StopsOut (λ stop. StopsAt stop (g.B.Bench.known c.args.bench.now) (g.B.Bench.known c.play_parts.new.bench)) (λ stop out. inr (out, c.in_ok-found.ensures.went)) c.add_found.ensures.out
