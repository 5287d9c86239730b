use Rattle.std.proofs.Common.{◌+◌, ◌∷◌, ◌++◌, [], List, ℕ, drop, sym, ap, ◌∙◌, append_assoc}
use Rattle.std.proofs.lemmas.List.{at_drop_more, map_push}
use Rattle.std.specs.Borrow.{Bor}
use Rattle.eql_check.specs.Entries.{names_seen}
use Rattle.eql_check.specs.Used.{key_names}
use Rattle.eql_check.proofs.used.add_key_names.Goals as goal

pub loop-key-preserved : goal.loop-key-preserved
loop-key-preserved c =
    let was = names_seen c.loop-key.names.items in
    let rest = key_names (drop (c.loop-key.key-index + 1) c.args.keys.now) in
    ap (λ names. names_seen names ++ rest) c.in_ok-push.ensures.items
    ∙ ap (λ names. names ++ rest) (map_push (λ (name : Bor (List ℕ)). name.now) c.loop-key.names.items _)
    ∙ append_assoc was (c.key-item.result.name ∷ []) rest
    ∙ ap (λ key. was ++ key_names (key ∷ drop (c.loop-key.key-index + 1) c.args.keys.now)) c.key-item.is
    ∙ sym (at_drop_more (λ keys. was ++ key_names keys) c.args.keys.now c.loop-key.key-index c.key-item.result c.loop-key-test.true)
    ∙ c.loop-key.invariant
