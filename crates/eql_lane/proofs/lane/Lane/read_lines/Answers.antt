use Rattle.std.proofs.Common.{rules, inl, inr, ℕ, None, Bool, true, false, cond, refl, sym, ◌∙◌, ap, subst, arith}
use Rattle.std.proofs.lemmas.Grind.{common_steps}
use Rattle.eql_outside.specs.Outside.{Rose}
use Rattle.eql_lane.specs.Lanes.{LaneState, ReadsOn}
use Rattle.eql_lane.specs.Views.{setting_of}
use Rattle.eql_lane.specs.Feeding.{ReadsAt}
use Rattle.eql_lane.proofs.Joining.{reads_none, same_self, same_both, step_on, none_on, failed_on}
use Rattle.eql_lane.proofs.lane.Lane.read_lines.Goals as goal

pub loop-lines-init : goal.loop-lines-init
loop-lines-init g c = record {
  reads = λ text told. record { reads = reads_none _ c.args.self.now.state c.args.self.now.state (c.requires.state text told) c.requires.was_open refl refl (omega arith) (omega arith); closed_is = c.requires.was_open; faults = refl };
  keeps = λ text told. told;
  is_open = c.requires.was_open;
  same = same_self g.S.Source.left g.S.Source.lent_as g.L.LineReader.read_of c.args.self.now;
  room = refl;
  most = omega arith;
  unfailing = λ never. never;
}

pub loop-lines-preserved-in-Line : goal.loop-lines-preserved-in-Line
loop-lines-preserved-in-Line g c =
    let inv = c.loop-lines.invariant in
    record {
      reads = λ text told. step_on g.S.Source.left g.S.Source.lent_as g.L.LineReader.read_of text c.args.self.now c.loop-lines.self c.step.new.self c.loop-lines.lines (inv.reads text told) inv.same 1 false (c.in-Line.ensures.steps text (inv.keeps text told)).did.0;
      keeps = λ text told. (c.in-Line.ensures.steps text (inv.keeps text told)).keeps;
      is_open = (c.in-Line.ensures.steps None tt).did.0.closed_is;
      same = same_both g.S.Source.left g.S.Source.lent_as g.L.LineReader.read_of c.args.self.now c.loop-lines.self c.step.new.self inv.same c.step.ensures.same;
      room = let a = (c.in-Line.ensures.steps None tt).did.1 in omega (arith, inv.room, a);
      most = omega (arith, c.loop-lines-test.true);
      unfailing = λ never. (c.in-Line.ensures.unfailing (inv.unfailing never)).1;
    }

pub loop-lines-preserved : goal.loop-lines-preserved
loop-lines-preserved g c =
    let inv = c.loop-lines.invariant in
    record {
      reads = λ text told. none_on g.S.Source.left g.S.Source.lent_as g.L.LineReader.read_of text c.args.self.now c.loop-lines.self c.step.new.self c.loop-lines.lines (inv.reads text told) inv.same false (c.in-Took.ensures.steps text (inv.keeps text told)).did.reads;
      keeps = λ text told. (c.in-Took.ensures.steps text (inv.keeps text told)).keeps;
      is_open = (c.in-Took.ensures.steps None tt).did.reads.closed_is;
      same = same_both g.S.Source.left g.S.Source.lent_as g.L.LineReader.read_of c.args.self.now c.loop-lines.self c.step.new.self inv.same c.step.ensures.same;
      room = let a = (c.in-Took.ensures.steps None tt).did.taken in omega (arith, inv.room, a, c.in-Took.ensures.room);
      most = inv.most;
      unfailing = λ never. (c.in-Took.ensures.unfailing (inv.unfailing never)).1;
    }

pub returns-then-last-clause-feeds : goal.returns-then-last-clause-feeds
returns-then-last-clause-feeds g c =
    let inv = c.loop-lines.invariant in
    λ text told.
    let ended = c.in-End.ensures.steps text (inv.keeps text told) in
    let last : ReadsAt (setting_of g.L.LineReader.read_of text c.loop-lines.self) c.loop-lines.self.state 1 true c.step.new.self.state =
    subst (λ (b : Bool). ReadsAt (setting_of g.L.LineReader.read_of text c.loop-lines.self) c.loop-lines.self.state (cond b 1 0) true c.step.new.self.state) c.if-last.true ended.did.0 in
    let all = step_on g.S.Source.left g.S.Source.lent_as g.L.LineReader.read_of text c.args.self.now c.loop-lines.self c.step.new.self c.loop-lines.lines (inv.reads text told) inv.same 1 true last in
    record {
      step = record {
        feeds = record { was_open = c.requires.was_open; not_full = c.requires.full text; most = omega (arith, c.loop-lines-test.true); reads = all.reads; bytes = let a = ended.did.1 in omega (arith, a, inv.room) };
        fewer = λ _. inl all.closed_is;
        none = λ e. absurd (omega (arith, e));
        faults = all.faults;
      };
      keeps = ended.keeps;
    }

pub returns-then-lines-eq0-clause-feeds : goal.returns-then-lines-eq0-clause-feeds
returns-then-lines-eq0-clause-feeds g c =
    let inv = c.loop-lines.invariant in
    λ text told.
    let ended = c.in-End.ensures.steps text (inv.keeps text told) in
    let last : ReadsAt (setting_of g.L.LineReader.read_of text c.loop-lines.self) c.loop-lines.self.state 0 true c.step.new.self.state =
    subst (λ (b : Bool). ReadsAt (setting_of g.L.LineReader.read_of text c.loop-lines.self) c.loop-lines.self.state (cond b 1 0) true c.step.new.self.state) c.if-last.false ended.did.0 in
    let all = none_on g.S.Source.left g.S.Source.lent_as g.L.LineReader.read_of text c.args.self.now c.loop-lines.self c.step.new.self c.loop-lines.lines (inv.reads text told) inv.same true last in
    record {
      step = record {
        not_full = c.requires.full text;
        reads = subst (λ (n : ℕ). ReadsOn (setting_of g.L.LineReader.read_of text c.args.self.now) c.args.self.now.state n c.step.new.self.state) c.if-lines-eq0.true all.reads;
        bytes = let a = ended.did.1 in omega (arith, a, inv.room);
        closed = all.closed_is;
        same = λ e. let a = sym c.requires.was_open ∙ e in cc;
        faults = all.faults;
      };
      keeps = ended.keeps;
    }

pub returns-in-End-clause-feeds : goal.returns-in-End-clause-feeds
returns-in-End-clause-feeds g c =
    let inv = c.loop-lines.invariant in
    λ text told.
    let ended = c.in-End.ensures.steps text (inv.keeps text told) in
    let last : ReadsAt (setting_of g.L.LineReader.read_of text c.loop-lines.self) c.loop-lines.self.state 0 true c.step.new.self.state =
    subst (λ (b : Bool). ReadsAt (setting_of g.L.LineReader.read_of text c.loop-lines.self) c.loop-lines.self.state (cond b 1 0) true c.step.new.self.state) c.if-last.false ended.did.0 in
    let all = none_on g.S.Source.left g.S.Source.lent_as g.L.LineReader.read_of text c.args.self.now c.loop-lines.self c.step.new.self c.loop-lines.lines (inv.reads text told) inv.same true last in
    record {
      step = record {
        feeds = record { was_open = c.requires.was_open; not_full = c.requires.full text; most = inv.most; reads = all.reads; bytes = let a = ended.did.1 in omega (arith, a, inv.room) };
        fewer = λ _. inl all.closed_is;
        none = λ e. absurd (omega (arith, e, c.if-lines-eq0.false));
        faults = all.faults;
      };
      keeps = ended.keeps;
    }

pub returns-in-Failed-clause-feeds : goal.returns-in-Failed-clause-feeds
returns-in-Failed-clause-feeds g c =
    let inv = c.loop-lines.invariant in
    λ text told.
    let failed = c.in-Failed.ensures.steps text (inv.keeps text told) in
    record {
      step = record {
        feeds = record {
          was_open = c.requires.was_open;
          not_full = c.requires.full text;
          most = inv.most;
          reads = failed_on g.S.Source.left g.S.Source.lent_as g.L.LineReader.read_of text c.args.self.now c.loop-lines.self c.step.new.self c.loop-lines.lines (inv.reads text told) inv.same failed.did.0;
          bytes = let a = failed.did.2 in omega (arith, a, inv.room);
        };
        closed = failed.did.1;
        faults = subst (λ (n : ℕ). Rose n c.step.new.self.state.faults) (inv.reads text told).faults failed.did.3;
      };
      keeps = failed.keeps;
    }

pub returns-in-Memory-clause-feeds : goal.returns-in-Memory-clause-feeds
returns-in-Memory-clause-feeds g c =
    let inv = c.loop-lines.invariant in
    λ text told.
    let lacked = c.in-Memory.ensures.steps text (inv.keeps text told) in
    let all : ReadsAt (setting_of g.L.LineReader.read_of text c.args.self.now) c.args.self.now.state c.loop-lines.lines false c.step.new.self.state =
    subst (λ (x : LaneState). ReadsAt (setting_of g.L.LineReader.read_of text c.args.self.now) c.args.self.now.state c.loop-lines.lines false x) (sym lacked.did) (inv.reads text told) in
    record {
      step = record {
        feeds = record { was_open = c.requires.was_open; not_full = c.requires.full text; most = inv.most; reads = all.reads; bytes = let a = ap (λ (x : LaneState). x.taken) lacked.did in omega (arith, a, inv.room) };
        closed = all.closed_is;
        faults = all.faults;
      };
      keeps = lacked.keeps;
    }

pub returns-then-room-eq0-clause-feeds : goal.returns-then-room-eq0-clause-feeds
returns-then-room-eq0-clause-feeds g c =
    let inv = c.loop-lines.invariant in
    λ text told. record {
      step = record {
        feeds = record { was_open = c.requires.was_open; not_full = c.requires.full text; most = inv.most; reads = (inv.reads text told).reads; bytes = omega (arith, inv.room) };
        fewer = λ _. inr (omega (arith, inv.room, c.if-room-eq0.true));
        none = λ _. omega (arith, inv.room, c.if-room-eq0.true);
        faults = (inv.reads text told).faults;
      };
      keeps = inv.keeps text told;
    }

pub returns-clause-feeds : goal.returns-clause-feeds
returns-clause-feeds g c =
    let inv = c.loop-lines.invariant in
    λ text told. record {
      step = record {
        feeds = record { was_open = c.requires.was_open; not_full = c.requires.full text; most = inv.most; reads = (inv.reads text told).reads; bytes = omega (arith, inv.room) };
        fewer = λ e. absurd (omega (arith, e, c.loop-lines-test.false));
        none = λ e. absurd (omega (arith, e, c.loop-lines-test.false, c.requires.some));
        faults = (inv.reads text told).faults;
      };
      keeps = inv.keeps text told;
    }

pub loop-lines-smaller : goal.loop-lines-smaller
loop-lines-smaller g c = let some = (c.in-Took.ensures.steps None tt).did.some in omega (arith, some, c.in-Took.ensures.room)

pub returns-in-Lines-clause-feeds : goal.returns-in-Lines-clause-feeds
returns-in-Lines-clause-feeds g c =
    let inv = c.loop-lines.invariant in
    λ text told.
    let limited = c.in-Lines.ensures.steps text (inv.keeps text told) in
    let all : ReadsAt (setting_of g.L.LineReader.read_of text c.args.self.now) c.args.self.now.state c.loop-lines.lines false c.step.new.self.state =
    subst (λ (x : LaneState). ReadsAt (setting_of g.L.LineReader.read_of text c.args.self.now) c.args.self.now.state c.loop-lines.lines false x) (sym limited.did.0) (inv.reads text told) in
    let taken = ap (λ (x : LaneState). x.taken) limited.did.0 in
    record {
      step = (
        first_of (search rules, grind (arith, common_steps)),
        record {
          n = c.loop-lines.lines;
          fewer = c.loop-lines-test.true;
          early = omega (arith, taken, inv.room, c.if-room-eq0.false);
          feeds = record { was_open = c.requires.was_open; not_full = c.requires.full text; most = inv.most; reads = all.reads; bytes = omega (arith, taken, inv.room) };
          closed = all.closed_is;
          faults = all.faults;
        },
        record { lines = limited.did.1.lines; byte = limited.did.1.byte },
      );
      keeps = limited.keeps;
    }

pub returns-in-Bytes-clause-feeds : goal.returns-in-Bytes-clause-feeds
returns-in-Bytes-clause-feeds g c =
    let inv = c.loop-lines.invariant in
    λ text told.
    let limited = c.in-Bytes.ensures.steps text (inv.keeps text told) in
    let all : ReadsAt (setting_of g.L.LineReader.read_of text c.args.self.now) c.args.self.now.state c.loop-lines.lines false c.step.new.self.state =
    subst (λ (x : LaneState). ReadsAt (setting_of g.L.LineReader.read_of text c.args.self.now) c.args.self.now.state c.loop-lines.lines false x) (sym limited.did.0) (inv.reads text told) in
    let taken = ap (λ (x : LaneState). x.taken) limited.did.0 in
    record {
      step = (
        first_of (search rules, grind (arith, common_steps)),
        record {
          n = c.loop-lines.lines;
          fewer = c.loop-lines-test.true;
          early = omega (arith, taken, inv.room, c.if-room-eq0.false);
          feeds = record { was_open = c.requires.was_open; not_full = c.requires.full text; most = inv.most; reads = all.reads; bytes = omega (arith, taken, inv.room) };
          closed = all.closed_is;
          faults = all.faults;
        },
        limited.did.1,
      );
      keeps = limited.keeps;
    }

pub returns-then-last-clause-unfailing : goal.returns-then-last-clause-unfailing
returns-then-last-clause-unfailing g c = λ never. (λ lines same. cc, (c.in-End.ensures.unfailing (c.loop-lines.invariant.unfailing never)).1)

pub returns-then-lines-eq0-clause-unfailing : goal.returns-then-lines-eq0-clause-unfailing
returns-then-lines-eq0-clause-unfailing g c = λ never. (λ lines same. cc, (c.in-End.ensures.unfailing (c.loop-lines.invariant.unfailing never)).1)

pub returns-in-End-clause-unfailing : goal.returns-in-End-clause-unfailing
returns-in-End-clause-unfailing g c = λ never. (λ lines same. cc, (c.in-End.ensures.unfailing (c.loop-lines.invariant.unfailing never)).1)

pub returns-in-Memory-clause-unfailing : goal.returns-in-Memory-clause-unfailing
returns-in-Memory-clause-unfailing g c = λ never. (λ lines same. cc, (c.in-Memory.ensures.unfailing (c.loop-lines.invariant.unfailing never)).1)

pub returns-in-Lines-clause-unfailing : goal.returns-in-Lines-clause-unfailing
returns-in-Lines-clause-unfailing g c = λ never. (λ lines same. cc, (c.in-Lines.ensures.unfailing (c.loop-lines.invariant.unfailing never)).1)

pub returns-in-Bytes-clause-unfailing : goal.returns-in-Bytes-clause-unfailing
returns-in-Bytes-clause-unfailing g c = λ never. (λ lines same. cc, (c.in-Bytes.ensures.unfailing (c.loop-lines.invariant.unfailing never)).1)

pub returns-in-Failed-clause-unfailing : goal.returns-in-Failed-clause-unfailing
returns-in-Failed-clause-unfailing g c = λ never. absurd ((c.in-Failed.ensures.unfailing (c.loop-lines.invariant.unfailing never)).0 refl)

pub returns-then-room-eq0-clause-unfailing : goal.returns-then-room-eq0-clause-unfailing
returns-then-room-eq0-clause-unfailing g c = λ never. (λ lines same. cc, c.loop-lines.invariant.unfailing never)

pub returns-clause-unfailing : goal.returns-clause-unfailing
returns-clause-unfailing g c = λ never. (λ lines same. cc, c.loop-lines.invariant.unfailing never)
