use Rattle.std.proofs.Common.{◌≡◌, ◌-◌, ℕ, min, List, length, take, drop, length-drop, ◌∙◌, ap, arith}
use Rattle.std.proofs.lemmas.List.{drop_min, take_all, take_min}
use Rattle.eql_outside.specs.Areas.{Store}
use Rattle.eql_outside.proofs.disk.memory.MemDiskDisk.read.Goals as goal

-- a piece of the bytes that are there, cut to what there is
piece_is :
    (seen bytes piece : List ℕ) (at len m n : ℕ) → bytes ≡ seen → m ≡ min at (length bytes) → n ≡ min len (length (take (length bytes - m) (drop m bytes)))
    → piece ≡ take n (take (length bytes - m) (drop m bytes)) → piece ≡ take len (drop at seen)
piece_is seen bytes piece at len m n same from much is =
    let rest : List ℕ = take (length bytes - m) (drop m bytes) in
    let all : rest ≡ drop at seen =
    take_all (length bytes - m) (drop m bytes) (omega (arith, length-drop m bytes)) ∙ ap (λ k. drop k bytes) from ∙ drop_min at bytes ∙ ap (drop at) same in
    is ∙ ap (λ k. take k rest) much ∙ take_min len rest ∙ ap (take len) all

pub returns-clause-bytes : goal.returns-clause-bytes
returns-clause-bytes c =
    let bytes = c.deref.result.now in
    let from : c.min-from.result ≡ min c.args.at (length bytes) = let low = c.min-from.ensures in let all = c.len.ensures in let len = c.deref.ensures.len in omega arith in
    piece_is _ bytes _ c.args.at c.args.len c.min-from.result c.min-n.result (c.deref.ensures.value ∙ c.seen-bytes.ensures ∙ ap (λ (s : Store). s.seen) c.store.ensures) from
    c.min-n.ensures (c.in_ok-from_slice.ensures {u = tt}).items
