use Rattle.std.proofs.Common.{◌≡◌, ◌<◌, ◌≤◌, ◌+◌, ◌++◌, ◌∷◌, [], ℕ, suc, cond, None, zero-add, length, List, Option, get_or, ap, ◌∙◌, sym, subst, arith, IfSome}
use Rattle.std.specs.Prelude.{is_some, ◌==◌}
use Rattle.std.specs.List.{All}
use Rattle.std.specs.List.Sorted.{IsPermutation}
use Rattle.std.specs.Option.{option_map, option_to_list}
use Rattle.eql_values.specs.Chains.{holder}
use Rattle.eql_values.specs.Masks.{has_after}
use Rattle.eql_laws.specs.Slots.{chain_coming}
use Rattle.eql_auto.specs.Kept.{IsRoom}
use Rattle.eql_auto.specs.Machine.{Machine, Sequence, ComesAfter, key_event_of, chains_of, slot_at, slot_after, stages, stages_in, tags_of}
use Rattle.eql_auto.specs.Moves.{chain_in, coming_to}
use Rattle.eql_auto.proofs.Turning.{few_tags, still_later, same_many, spare_left, tag_count, total, ceased_in_all, emptied_length, begun_length, turned, answered, chain_arrived, chain_after, slots_go_on, answer_goes_on, later_after, all_by_stage}
use Rattle.eql_auto.proofs.auto.Auto.turn.Goals as goal

pub empty_at_end-requires-clause-room : goal.empty_at_end-requires-clause-room
empty_at_end-requires-clause-room g c =
    let few = few_tags c.self.inside.table in
    let room = c.self.invariant.room in
    let none = ap length (ap (λ (a : Machine g.row.T.Denot). a.gone) c.self.view_is ∙ c.requires.read) in
    let ok = c.self.inside.gone.ok.0 in
    omega arith

pub advance_all-completed-requires-clause-later : goal.advance_all-completed-requires-clause-later
advance_all-completed-requires-clause-later g c = λ k.
    let all : All (ComesAfter c.args.order) c.self.inside.table =
    subst (λ (a : Machine g.row.T.Denot). All (ComesAfter c.args.order) a.slots) (sym c.self.view_is) c.requires.later in
    subst (λ (l : List (Option (Sequence g.row.T.Denot))). ComesAfter c.args.order (get_or l k _)) (sym c.empty_at_end.ensures.slots)
    (still_later c.args.order c.args.until c.self.inside.table all k)

pub begin_new-begun-requires-clause-spare : goal.begin_new-begun-requires-clause-spare
begin_new-begun-requires-clause-spare g c =
    let len : length c.advance_all-completed.new.table ≡ length c.self.inside.table =
    c.advance_all-completed.ensures.len ∙ ap length c.empty_at_end.ensures.slots ∙ emptied_length c.args.until c.self.inside.table in
    subst (λ (n : ℕ). IfSome c.self.inside.spare (IsRoom n)) (sym len) c.self.invariant.spare_room

pub begin_new-begun-requires-clause-room : goal.begin_new-begun-requires-clause-room
begin_new-begun-requires-clause-room g c =
    let few = few_tags c.self.inside.table in
    let room = c.self.invariant.room in
    let none = ap length (ap (λ (a : Machine g.row.T.Denot). a.gone) c.self.view_is ∙ c.requires.read) in
    let first = same_many c.empty_at_end.new.gone.items (tags_of c.empty_at_end.new.table) c.self.inside.gone.items (tags_of c.self.inside.table) c.empty_at_end.ensures.tags in
    let second = same_many c.advance_all-completed.new.gone.items (tags_of c.advance_all-completed.new.table) c.empty_at_end.new.gone.items (tags_of c.empty_at_end.new.table)
    c.advance_all-completed.ensures.tags in
    let grown = c.empty_at_end.ensures.room in
    let more = c.advance_all-completed.ensures.room in
    let ok = c.advance_all-completed.new.gone.ok.0 in
    omega arith

pub invariant_of-self : goal.invariant_of-self
invariant_of-self g c =
    let len : length c.begin_new-begun.new.table ≡ length c.self.inside.table =
    ap length c.begin_new-begun.ensures.slots ∙ begun_length c.args.order c.args.tag c.advance_all-completed.new.table
    ∙ c.advance_all-completed.ensures.len ∙ ap length c.empty_at_end.ensures.slots ∙ emptied_length c.args.until c.self.inside.table in
    let few = c.self.invariant.few in
    let room = c.self.invariant.room in
    let grown = c.empty_at_end.ensures.room in
    let more = c.advance_all-completed.ensures.room in
    let most = c.begin_new-begun.ensures.room in
    record {
      few = omega arith;
      spare_room = spare_left (IsRoom (length c.begin_new-begun.new.table)) (is_some c.args.tag) c.self.inside.spare c.begin_new-begun.new.spare c.begin_new-begun.ensures.spare
          (subst (λ (n : ℕ). IfSome c.self.inside.spare (IsRoom n)) (sym len) c.self.invariant.spare_room);
      room = omega arith;
    }

pub returns-clause-stages : goal.returns-clause-stages
returns-clause-stages g c =
    ap length c.begin_new-begun.ensures.slots ∙ begun_length c.args.order c.args.tag c.advance_all-completed.new.table
    ∙ c.advance_all-completed.ensures.len ∙ ap length c.empty_at_end.ensures.slots ∙ emptied_length c.args.until c.self.inside.table
    ∙ ap (λ (a : Machine g.row.T.Denot). length a.slots) c.self.view_is

pub returns-clause-sequences : goal.returns-clause-sequences
returns-clause-sequences g c =
    let emptied_len = ap length c.empty_at_end.ensures.slots ∙ emptied_length c.args.until c.self.inside.table in
    subst (λ (a : Machine g.row.T.Denot). (k : ℕ) → 1 ≤ k → k < stages a → slot_at c.begin_new-begun.new.table k ≡ slot_after a.span c.args.tag (key_event_of c.args.order c.args.mask c.args.until) a.slots k)
    c.self.view_is
    (turned c.self.inside.span c.args.order c.args.mask c.args.until c.self.inside.table c.empty_at_end.new.table c.empty_at_end.ensures.slots c.args.tag
    c.advance_all-completed.new.table c.begin_new-begun.new.table c.requires.tagged (c.advance_all-completed.ensures.len ∙ emptied_len)
    (λ k low most. c.advance_all-completed.ensures.slots k low (omega arith)) c.begin_new-begun.ensures.slots)

pub returns-clause-slots : goal.returns-clause-slots
returns-clause-slots g c = λ k low high.
    ap chain_in (returns-clause-sequences g c k low high) ∙ chain_after c.args.self.now.span c.args.tag (key_event_of c.args.order c.args.mask c.args.until) c.args.self.now.slots k c.requires.tagged

pub returns-clause-answer : goal.returns-clause-answer
returns-clause-answer g c =
    let emptied_len = ap length c.empty_at_end.ensures.slots ∙ emptied_length c.args.until c.self.inside.table in
    let advanced_len = c.advance_all-completed.ensures.len ∙ emptied_len in
    let key_event = key_event_of c.args.order c.args.mask c.args.until in
    subst (λ (a : Machine g.row.T.Denot). c.or.result ≡ chain_coming a.span (chains_of a.slots) key_event (stages a)) c.self.view_is
    (answered c.self.inside.span c.args.order c.args.mask c.args.until c.self.inside.table c.empty_at_end.new.table c.empty_at_end.ensures.slots
    (length c.self.inside.table) c.args.tag c.begin_new-begun.result c.advance_all-completed.result c.or.result c.requires.tagged
    (c.begin_new-begun.ensures.answer ∙ ap (λ (n : ℕ). cond (0 == n) (option_map (λ _. c.args.order ∷ []) c.args.tag) None) advanced_len)
    (c.advance_all-completed.ensures.answer ∙ ap (λ (n : ℕ). chain_in (coming_to c.self.inside.span c.args.order c.args.mask c.empty_at_end.new.table (suc n))) emptied_len) c.or.ensures
    ∙ chain_arrived c.self.inside.span c.args.tag key_event c.self.inside.table (suc (length c.self.inside.table)) c.requires.tagged)

pub returns-clause-after : goal.returns-clause-after
returns-clause-after g c = λ opening past holds.
    let key_event = key_event_of c.args.order c.args.mask c.args.until in
    let len = returns-clause-stages g c in (
      λ k low high. returns-clause-slots g c k low (omega arith)
          ∙ slots_go_on c.slot_step.ensures c.args.self.now.span opening (chains_of c.args.self.now.slots) key_event past k low (λ j from below. holds j from (omega arith))
          ∙ ap (λ (a : Machine g.row.T.Denot). holder a.span opening k (key_event ∷ past)) (sym c.self.view_is),
      returns-clause-answer g c ∙ answer_goes_on c.chain_step.ensures c.args.self.now.span opening (chains_of c.args.self.now.slots) key_event past (stages c.args.self.now) holds,
    )

pub returns-clause-gone : goal.returns-clause-gone
returns-clause-gone g c =
    let none = ap (λ (a : Machine g.row.T.Denot). a.gone) c.self.view_is ∙ c.requires.read in
    subst (λ (a : Machine g.row.T.Denot). IsPermutation (c.begin_new-begun.new.gone.items ++ tags_of c.begin_new-begun.new.table) (option_to_list c.args.tag ++ tags_of a.slots)) c.self.view_is
    (ceased_in_all (option_to_list c.args.tag) (tags_of c.self.inside.table) (tags_of c.empty_at_end.new.table) (tags_of c.advance_all-completed.new.table) (tags_of c.begin_new-begun.new.table)
    c.empty_at_end.new.gone.items c.advance_all-completed.new.gone.items c.begin_new-begun.new.gone.items
    (subst (λ (l : List g.row.T.Denot). IsPermutation (c.empty_at_end.new.gone.items ++ tags_of c.empty_at_end.new.table) (l ++ tags_of c.self.inside.table)) none c.empty_at_end.ensures.tags)
    c.advance_all-completed.ensures.tags c.begin_new-begun.ensures.tags)

pub returns-clause-probes : goal.returns-clause-probes
returns-clause-probes g c =
    let emptied_len = ap length c.empty_at_end.ensures.slots ∙ emptied_length c.args.until c.self.inside.table in
    subst (λ (a : Machine g.row.T.Denot). c.begin_new-begun.new.steps ≤ c.args.steps.now + stages_in c.args.mask (stages a) + cond c.args.until (length a.slots) 0) c.self.view_is
    (total c.args.steps.now c.empty_at_end.new.steps c.advance_all-completed.new.steps c.begin_new-begun.new.steps (length (option_to_list c.args.tag)) (stages_in c.args.mask 1)
    (stages_in c.args.mask (suc (length c.empty_at_end.new.table))) (stages_in c.args.mask (suc (length c.self.inside.table))) (cond c.args.until (length c.self.inside.table) 0)
    c.begin_new-begun.ensures.probes
    (tag_count c.args.tag (has_after 0 c.args.mask) c.requires.tagged ∙ sym (zero-add (cond (has_after 0 c.args.mask) 1 0))) c.advance_all-completed.ensures.probes (ap (λ n. stages_in c.args.mask (suc n)) emptied_len) c.empty_at_end.ensures.probes)

pub returns-clause-later : goal.returns-clause-later
returns-clause-later g c = λ next less.
    let key_event = key_event_of c.args.order c.args.mask c.args.until in
    let len = returns-clause-stages g c in
    all_by_stage (ComesAfter next) c.begin_new-begun.new.table (λ k low high.
    subst (ComesAfter next) (sym (returns-clause-sequences g c k low (omega arith)))
    (later_after c.args.self.now.span next key_event less c.args.self.now.slots c.requires.later c.args.tag k))
