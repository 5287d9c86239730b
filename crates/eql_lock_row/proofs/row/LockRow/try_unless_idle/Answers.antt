use Rattle.std.proofs.Common.{◌≡◌, length, refl, sym, ap, ◌∙◌, arith}
use Rattle.std.specs.Prelude.{slice_get, slice_set}
use Rattle.std.proofs.lemmas.List.{length-map}
use Rattle.std.proofs.lemmas.Option.{slice_get_read}
use Rattle.eql_turn_lock.specs.Locks.{view_of}
use Rattle.eql_lock_row.specs.Rows.{AreOf, RowView, id_of_lock, id_of_pass}
use Rattle.eql_lock_row.proofs.Walks.{own_at, own_stays, view_at, views_set}
use Rattle.eql_lock_row.proofs.row.LockRow.try_unless_idle.Goals as goal

pub try_unless_idle-requires-clause-own : goal.try_unless_idle-requires-clause-own
try_unless_idle-requires-clause-own g c =
    let locks = c.self.inside.locks.items in let passes = c.passes.inside.passes.items in
    let own : AreOf locks passes = ap (λ (r : RowView _ _ _). r.locks) c.passes.view_is ∙ (c.requires.own ∙ sym c.self.view_is) in
    let count : length c.args.self.now ≡ length locks = sym (ap length c.self.view_is) ∙ length-map locks id_of_lock in
    let other : length passes ≡ length locks = sym (length-map passes id_of_pass) ∙ (ap length own ∙ length-map locks id_of_lock) in
    let h = c.requires.place in
    own_at locks passes c.args.place c.index.result.now c.index_mut.result.now own
    (slice_get_read locks (length locks) c.args.place c.index.result.now refl (omega (arith, h, count)) c.index.ensures)
    (slice_get_read passes (length passes) c.args.place c.index_mut.result.now refl (omega (arith, h, count, other)) c.index_mut.ensures.value)

pub try_unless_idle-requires-clause-may : goal.try_unless_idle-requires-clause-may
try_unless_idle-requires-clause-may g c =
    let locks = c.self.inside.locks.items in let passes = c.passes.inside.passes.items in
    let own : AreOf locks passes = ap (λ (r : RowView _ _ _). r.locks) c.passes.view_is ∙ (c.requires.own ∙ sym c.self.view_is) in
    let count : length c.args.self.now ≡ length passes = sym (ap length c.self.view_is) ∙ (sym (ap length own) ∙ length-map passes id_of_pass) in
    let h = c.requires.place in
    let there = slice_get_read passes (length passes) c.args.place c.index_mut.result.now refl (omega (arith, h, count)) c.index_mut.ensures.value in
    c.requires.may (view_of c.index_mut.result.now)
    (sym (ap (λ (r : RowView _ _ _). slice_get r.views c.args.place) c.passes.view_is) ∙ view_at passes c.args.place c.index_mut.result.now there)

pub returns-clause-own : goal.returns-clause-own
returns-clause-own g c =
    let locks = c.self.inside.locks.items in let passes = c.passes.inside.passes.items in
    let own : AreOf locks passes = ap (λ (r : RowView _ _ _). r.locks) c.passes.view_is ∙ (c.requires.own ∙ sym c.self.view_is) in
    let count : length c.args.self.now ≡ length locks = sym (ap length c.self.view_is) ∙ length-map locks id_of_lock in
    let h = c.requires.place in
    own_stays locks passes c.args.place c.index.result.now c.try_unless_idle.new.pass own
    (slice_get_read locks (length locks) c.args.place c.index.result.now refl (omega (arith, h, count)) c.index.ensures) c.try_unless_idle.ensures.own
    ∙ c.self.view_is

pub returns-clause-played : goal.returns-clause-played
returns-clause-played g c =
    let locks = c.self.inside.locks.items in let passes = c.passes.inside.passes.items in
    let own : AreOf locks passes = ap (λ (r : RowView _ _ _). r.locks) c.passes.view_is ∙ (c.requires.own ∙ sym c.self.view_is) in
    let count : length c.args.self.now ≡ length passes = sym (ap length c.self.view_is) ∙ (sym (ap length own) ∙ length-map passes id_of_pass) in
    let h = c.requires.place in
    let there = slice_get_read passes (length passes) c.args.place c.index_mut.result.now refl (omega (arith, h, count)) c.index_mut.ensures.value in
    record {
      before = view_of c.index_mut.result.now;
      after = view_of c.try_unless_idle.new.pass;
      was = sym (ap (λ (r : RowView _ _ _). slice_get r.views c.args.place) c.passes.view_is) ∙ view_at passes c.args.place c.index_mut.result.now there;
      is = views_set passes c.args.place c.try_unless_idle.new.pass
          ∙ ap (λ (r : RowView _ _ _). slice_set r.views c.args.place (view_of c.try_unless_idle.new.pass)) c.passes.view_is;
      changes = (c.try_unless_idle.ensures.played, c.try_unless_idle.ensures.knows);
    }
