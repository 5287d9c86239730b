use Rattle.std.proofs.Common.{◌≡◌, ◌≢◌, ◌⊎◌, inl, inr, get_or, false, sym, ◌∙◌}
use Rattle.eql_lexer.specs.Bytes.{begins}
use Rattle.eql_lexer.proofs.Gaps.{behind_first, behind_within, past_within, at_block_end}
use Rattle.eql_lexer.proofs.blank.after_block.Goals.{else-b-eq42-via-then-b-eq42+else-begins_with, else-b-eq42-via-else-b-eq42}
use Rattle.eql_lexer.proofs.blank.after_block.Goals as goal

pub loop-rest-preserved : goal.loop-rest-preserved
loop-rest-preserved c =
    let rest = c.loop-rest.rest.now in
    let no_end : (get_or rest 0 0 ≢ 42) ⊎ (begins 47 (behind_first rest) ≡ false) = elim c.else-b-eq42.branch [
      | else-b-eq42-via-then-b-eq42+else-begins_with w ↦ inr (sym w.begins_with.ensures ∙ w.if-begins_with.false)
      | else-b-eq42-via-else-b-eq42 w ↦ inl w.if-b-eq42.false
    ] in
    (λ opening. past_within opening rest c.in-len1-up.len_at_least no_end ∙ c.loop-rest.invariant.0 opening, behind_within rest c.args.text.now c.loop-rest.invariant.1)

pub returns-then-begins_with-clause-value : goal.returns-then-begins_with-clause-value
returns-then-begins_with-clause-value c = λ opening.
    sym (c.loop-rest.invariant.0 opening)
    ∙ at_block_end opening c.loop-rest.rest.now c.in-len1-up.len_at_least c.if-b-eq42.true (sym c.begins_with.ensures ∙ c.if-begins_with.true)
