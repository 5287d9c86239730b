use Rattle.std.proofs.Common.{sym, ◌∙◌, rules}
use Rattle.eql_text.proofs.JsonLemmas.{json_of-none, json_of-utf8}
use Rattle.eql_check.proofs.json.read_json.Goals as goal

pub returns-in-Ok-clause-value : goal.returns-in-Ok-clause-value
returns-in-Ok-clause-value c = sym (json_of-utf8 c.args.bytes.now c.in-Ok.ensures.ok.0 ∙ c.in-Ok.ensures.ok.1)

pub returns-else-is_memory-clause-value : goal.returns-else-is_memory-clause-value
returns-else-is_memory-clause-value c =
    sym (json_of-none c.args.bytes.now (c.in-Err.ensures.err (λ memory. search (rules, c.is_memory.ensures.1 memory, c.if-is_memory.false))))

pub returns-then-is_memory-clause-value : goal.returns-then-is_memory-clause-value
returns-then-is_memory-clause-value c = search rules
