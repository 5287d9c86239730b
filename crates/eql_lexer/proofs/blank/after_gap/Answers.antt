use Rattle.std.proofs.Common.{sym, ◌∙◌}
use Rattle.eql_lexer.proofs.Gaps.{behind_within, le_through, past_white, at_line, at_block}
use Rattle.eql_lexer.proofs.blank.after_gap.Goals as goal

pub loop-rest-preserved-then-is_white_byte : goal.loop-rest-preserved-then-is_white_byte
loop-rest-preserved-then-is_white_byte c =
    (past_white c.loop-rest.rest.now c.in-len1-up.len_at_least (sym c.is_white_byte.ensures ∙ c.if-is_white_byte.true) ∙ c.loop-rest.invariant.0, behind_within c.loop-rest.rest.now c.args.text.now c.loop-rest.invariant.1)

pub loop-rest-preserved-then-begins_with : goal.loop-rest-preserved-then-begins_with
loop-rest-preserved-then-begins_with c =
    let s = c.after_line-rest.ensures in
    (s.value ∙ at_line c.loop-rest.rest.now c.in-len1-up.len_at_least (sym c.is_white_byte.ensures ∙ c.if-is_white_byte.false) c.if-b-eq47.true (sym c.begins_with.ensures ∙ c.if-begins_with.true) ∙ c.loop-rest.invariant.0, le_through _ _ _ s.within (behind_within c.loop-rest.rest.now c.args.text.now c.loop-rest.invariant.1))

pub loop-rest-preserved : goal.loop-rest-preserved
loop-rest-preserved c = (
  sym (c.in-Some.ensures.value c.loop-rest.rest.now)
      ∙ at_block c.loop-rest.rest.now c.in-len1-up.len_at_least (sym c.is_white_byte.ensures ∙ c.if-is_white_byte.false) c.if-b-eq47-2.true (sym c.begins_with-then-b-eq47-2.ensures ∙ c.if-begins_with-2.true) ∙ c.loop-rest.invariant.0,
  le_through _ _ _ c.in-Some.ensures.within (behind_within _ _ (behind_within c.loop-rest.rest.now c.args.text.now c.loop-rest.invariant.1)),
)

pub returns-in-None-clause-value : goal.returns-in-None-clause-value
returns-in-None-clause-value c =
    sym (c.in-None.ensures.value c.loop-rest.rest.now)
    ∙ at_block c.loop-rest.rest.now c.in-len1-up.len_at_least (sym c.is_white_byte.ensures ∙ c.if-is_white_byte.false) c.if-b-eq47-2.true (sym c.begins_with-then-b-eq47-2.ensures ∙ c.if-begins_with-2.true) ∙ c.loop-rest.invariant.0
