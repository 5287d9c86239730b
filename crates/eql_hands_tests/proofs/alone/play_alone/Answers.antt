use Rattle.eql_hands_tests.proofs.Hubs.{is_first, joined_is_all, joined_is_first, split_is_first}
use Rattle.eql_hands_tests.proofs.alone.play_alone.Goals as goal

pub split_hand-requires-clause-first : goal.split_hand-requires-clause-first
split_hand-requires-clause-first g c = is_first _ _ c.in-Ok.first c.in-Ok.ensures.lanes c.in-Ok.ensures.parts

pub join_hand-requires-clause-first : goal.join_hand-requires-clause-first
join_hand-requires-clause-first g c =
    split_is_first _ _ c.in-Ok.first c.in-Ok.ensures.lanes c.in-Ok.ensures.parts c.split_hand.new.hand c.in-Ok-split_hand.ensures.lanes.0 c.in-Ok-split_hand.ensures.parts.0

pub close-lanes-requires-clause-first : goal.close-lanes-requires-clause-first
close-lanes-requires-clause-first g c =
    joined_is_first _ _ c.in-Ok.first c.in-Ok.ensures.lanes c.in-Ok.ensures.parts c.split_hand.new.hand c.in-Ok-split_hand.ensures.lanes.0 c.in-Ok-split_hand.ensures.parts.0
    c.run_hand-other.result.0 c.join_hand.new.hand c.join_hand.ensures.lanes c.join_hand.ensures.parts

pub close-lanes-requires-clause-all_joined : goal.close-lanes-requires-clause-all_joined
close-lanes-requires-clause-all_joined g c =
    joined_is_all _ _ c.in-Ok.first c.in-Ok.ensures.lanes c.in-Ok.ensures.parts c.split_hand.new.hand c.in-Ok-split_hand.ensures.lanes.0 c.in-Ok-split_hand.ensures.parts.0
    c.run_hand-other.result.0 c.join_hand.new.hand c.join_hand.ensures.lanes c.join_hand.ensures.parts
    c.in-Ok-split_hand.other c.in-Ok-split_hand.ensures.lanes.1 c.in-Ok-split_hand.ensures.parts.1 c.run_hand-other.ensures.same
