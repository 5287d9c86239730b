use Rattle.std.proofs.Common.{◌≡◌, ◌+◌, ℕ, Bool, Ok, [], refl, sym, ap, ◌∙◌, subst, arith}
use Rattle.std.specs.Prelude.{IfSome}
use Rattle.eql_digest.specs.declared.digest.Digest.{Digest}
use Rattle.eql_lane.specs.Passing.{PassesOver, ReadsOver}
use Rattle.eql_lane.proofs.Starting.{end_rest, passed_join, passed_none}
use Rattle.eql_lane.proofs.Seeking.{traces_of, cause_of, other_told, both_ok, map_ok, map_err, by_end, to_offset, not_closed}
use Rattle.eql_lane.proofs.pass.seek.Goals as goal

pub returns-clause-passed : goal.returns-clause-passed
returns-clause-passed g c ok =
    let whole = c.judge.ensures.whole ok in
    let ends = c.in-Ok-ends_here.ensures {u = tt} in
    let over = c.in-Ok-pass_over.ensures {u = tt} in
    let last : PassesOver g.S.Source.left g.S.Source.lent_as 0 c.pass_over.new.source c.ends_here.new.source =
    by_end _ c.in-Ok-ends_here.ended (λ e. (ends.ended (ap (λ (b : Bool). Ok b) e)).1) (λ e. ends.same (not_closed c.args.closed c.in-Ok-ends_here.ended whole.0 e) (whole.1 e)) in
    to_offset (λ n. PassesOver g.S.Source.left g.S.Source.lent_as n c.args.source.now c.ends_here.new.source) c.in-Ok-pass_over.had c.args.offset over.few c.if-had-offset.false
    (passed_none g.S.Source.left g.S.Source.lent_as c.in-Ok-pass_over.had 0 c.args.source.now c.pass_over.new.source c.ends_here.new.source refl over.passed last)

pub returns-clause-finds : goal.returns-clause-finds
returns-clause-finds g c =
    let over = c.in-Ok-pass_over.ensures {u = tt} in
    let ends = c.in-Ok-ends_here.ensures {u = tt} in
    let start = c.in-Ok.ensures {u = tt} in
    let read : ReadsOver (g.S.Source.left c.args.source.now) c.args.offset c.in-Ok.trace c.pass_over.new.trace =
    to_offset (λ (n : ℕ). ReadsOver (g.S.Source.left c.args.source.now) n c.in-Ok.trace c.pass_over.new.trace) c.in-Ok-pass_over.had c.args.offset over.few c.if-had-offset.false over.read in
    let passed : PassesOver g.S.Source.left g.S.Source.lent_as c.args.offset c.args.source.now c.pass_over.new.source =
    to_offset (λ (n : ℕ). PassesOver g.S.Source.left g.S.Source.lent_as n c.args.source.now c.pass_over.new.source) c.in-Ok-pass_over.had c.args.offset over.few c.if-had-offset.false over.passed in
    map_ok c.judge.result _ _ (λ found both.
    traces_of (g.S.Source.left c.args.source.now) (g.S.Source.left c.pass_over.new.source) c.args.offset c.in-Ok-ends_here.ended c.in-Ok.trace c.pass_over.new.trace c.args.wanted found start.wanted start.noted start.digest both.1 read passed.rest
    (λ e. (ends.ended (ap (λ (b : Bool). Ok b) e)).0) both.0) (both_ok c.judge.result _ _ c.judge.ensures.located c.judge.ensures.digest)

pub returns-clause-cause : goal.returns-clause-cause
returns-clause-cause g c =
    let over = c.in-Ok-pass_over.ensures {u = tt} in
    let ends = c.in-Ok-ends_here.ensures {u = tt} in
    let start = c.in-Ok.ensures {u = tt} in
    let read : ReadsOver (g.S.Source.left c.args.source.now) c.args.offset c.in-Ok.trace c.pass_over.new.trace =
    to_offset (λ (n : ℕ). ReadsOver (g.S.Source.left c.args.source.now) n c.in-Ok.trace c.pass_over.new.trace) c.in-Ok-pass_over.had c.args.offset over.few c.if-had-offset.false over.read in
    let passed : PassesOver g.S.Source.left g.S.Source.lent_as c.args.offset c.args.source.now c.pass_over.new.source =
    to_offset (λ (n : ℕ). PassesOver g.S.Source.left g.S.Source.lent_as n c.args.source.now c.pass_over.new.source) c.in-Ok-pass_over.had c.args.offset over.few c.if-had-offset.false over.passed in
    map_err c.judge.result _ _ (λ refused judged.
    cause_of refused (g.S.Source.left c.args.source.now) (g.S.Source.left c.pass_over.new.source) (g.S.Source.fault_count c.args.source.now) (g.S.Source.fault_count c.ends_here.new.source)
    c.args.offset c.in-Ok-ends_here.ended c.args.closed c.args.known c.in-Ok.trace c.pass_over.new.trace c.args.wanted start.wanted start.noted start.digest (c.agrees.ensures.same c.if-not-agrees.false) read passed.rest
    (λ e. (ends.ended (ap (λ (b : Bool). Ok b) e)).0) (λ e. ends.further (ap (λ (b : Bool). Ok b) e)) judged) c.judge.ensures.refused

pub returns-clause-gives : goal.returns-clause-gives
returns-clause-gives g c =
    let first = c.in-Ok-pass_over.ensures {u = tt} in
    let next = c.in-Ok-ends_here.ensures {u = tt} in
    let a = first.few in
    let b = next.passed.1 in
    λ _. record {
      taken = c.in-Ok-pass_over.had + next.passed.0;
      few = omega (arith, a, b);
      passed = passed_join g.S.Source.left g.S.Source.lent_as c.in-Ok-pass_over.had next.passed.0 c.args.source.now c.pass_over.new.source c.ends_here.new.source first.passed next.passed.2;
      counts = let d = c.pass_over.ensures.counts in let e = c.ends_here.ensures.counts in omega (arith, d, e);
    }

pub returns-clause-known : goal.returns-clause-known
returns-clause-known g c =
    map_ok c.judge.result _ _ (λ found digest. subst (λ (d : Digest). IfSome c.args.known (λ own. own ≡ d)) (sym digest) (c.agrees.ensures.same c.if-not-agrees.false)) c.judge.ensures.digest

pub returns-then-not-agrees-clause-cause : goal.returns-then-not-agrees-clause-cause
returns-then-not-agrees-clause-cause g c =
    let over = c.in-Ok-pass_over.ensures {u = tt} in
    let start = c.in-Ok.ensures {u = tt} in
    let read : ReadsOver (g.S.Source.left c.args.source.now) c.args.offset c.in-Ok.trace c.pass_over.new.trace =
    to_offset (λ (n : ℕ). ReadsOver (g.S.Source.left c.args.source.now) n c.in-Ok.trace c.pass_over.new.trace) c.in-Ok-pass_over.had c.args.offset over.few c.if-had-offset.false over.read in
    let passed : PassesOver g.S.Source.left g.S.Source.lent_as c.args.offset c.args.source.now c.pass_over.new.source =
    to_offset (λ (n : ℕ). PassesOver g.S.Source.left g.S.Source.lent_as n c.args.source.now c.pass_over.new.source) c.in-Ok-pass_over.had c.args.offset over.few c.if-had-offset.false over.passed in
    other_told c.args.known c.pass_over.new.trace.digest c.args.offset (g.S.Source.left c.args.source.now) (g.S.Source.left c.pass_over.new.source) read.bytes (read.digest [] start.digest)
    (c.agrees.ensures.other c.if-not-agrees.true) passed.rest read.told

pub returns-clause-of_bytes : goal.returns-clause-of_bytes
returns-clause-of_bytes g c =
    let start = c.in-Ok.ensures {u = tt} in
    let read = (c.in-Ok-pass_over.ensures {u = tt}).read in
    map_ok c.judge.result _ _ (λ found digest. (read.bytes, digest ∙ read.digest [] start.digest)) c.judge.ensures.digest

pub returns-then-had-offset-clause-cause : goal.returns-then-had-offset-clause-cause
returns-then-had-offset-clause-cause g c =
    let over = c.in-Ok-pass_over.ensures {u = tt} in (
      refl,
      c.if-had-offset.true,
      end_rest (g.S.Source.left c.args.source.now) (g.S.Source.left c.pass_over.new.source) c.in-Ok-pass_over.had over.passed.rest (over.end c.if-had-offset.true),
    )
