use Rattle.std.proofs.Common.{◌≡◌, ◌+◌, ◌*◌, ◌++◌, ◌∷◌, [], List, length, sym, ap, ◌∙◌, subst, arith, get_or, map}
use Rattle.std.specs.Prelude.{slice_get}
use Rattle.std.proofs.lemmas.List.{length-append}
use Rattle.std.proofs.lemmas.Option.{slice_get-get_or}
use Rattle.eql_part.specs.declared.index.Slot.{Slot}
use Rattle.eql_part.specs.Indexed.{kept_at, place_under}
use Rattle.eql_part.proofs.Indexing.{IsDoubledTo, doubled_all, doubled_none, doubled_more}
use Rattle.eql_part.proofs.index.HashIndex.doubled.Goals.{then-count-eq0+in_ok-push-3, else-count-eq0}
use Rattle.eql_part.proofs.index.HashIndex.doubled.Goals as goal

pub loop-bucket-preserved : goal.loop-bucket-preserved
loop-bucket-preserved c =
    let old = c.args.self.now.buckets.items in let new = c.loop-bucket.buckets.items in let i = c.loop-bucket.bucket-index in
    let read = c.deref-bucket-items.result.now in
    let first = c.part_of.result in let last = c.part_of-in-loop-bucket.result in
    let bucket = get_or read i [] in
    let ok = c.loop-bucket.buckets.ok.0 in let len = c.len-number.ensures in
    let number : c.len-number.result ≡ length new = omega (arith, ok, len) in
    let old_ok = c.args.self.now.buckets.ok.0 in let old_len = c.len-count.ensures in
    let count : c.len-count.result ≡ length old = omega (arith, old_ok, old_len) in
    let at = ap (λ (l : List (List Slot)). slice_get l i) (sym c.deref-bucket-items.ensures.value) ∙ slice_get-get_or read i [] c.loop-bucket-test.true in
    let one = c.part_of.ensures ∙ (λ j. map (kept_at (number j) (count j * 2)) bucket) in
    let two = c.part_of-in-loop-bucket.ensures ∙ (λ j. map (kept_at (number j + 1) (count j * 2)) bucket) in
    let items = (c.in_ok-push-2.ensures {u = tt}).items ∙ ap (λ (l : List (List Slot)). l ++ last ∷ []) (c.in_ok-push.ensures {u = tt}).items in
    let long = ap (λ (l : List (List Slot)). length l) items ∙ length-append (new ++ first ∷ []) (last ∷ []) in
    let less = length-append new (first ∷ []) in
    let even = c.loop-bucket.invariant.0 in (
      omega (arith, long, less, even),
      c.loop-bucket.invariant.1,
      subst (IsDoubledTo old) (sym items) (doubled_more old new i bucket even at first last one two c.loop-bucket.invariant.2),
    )

pub returns : goal.returns
returns c =
    let old = c.args.self.now.buckets.items in let new = c.loop-bucket.buckets.items in
    let same = ap (λ (l : List (List Slot)). length l) c.deref-bucket-items.ensures.value in
    let even = c.loop-bucket.invariant.0 in let twice = c.loop-bucket.invariant.1 in
    let end : c.loop-bucket.bucket-index ≡ length old = omega (arith, c.loop-bucket-test.false, c.loop-bucket.auto, same) in
    elim c.if-count-eq0.branch [
      | then-count-eq0+in_ok-push-3 w ↦ λ hash.
          let none = w.if-count-eq0.true in
          ap (λ v. place_under v.items hash) w.buckets-is
          ∙ ap (λ (l : List (List Slot)). place_under l hash) (w.in_ok-push-3.ensures {u = tt}).items
          ∙ doubled_none old new 16 (omega (arith, none, twice)) (omega (arith, none, twice, even, end)) hash
      | else-count-eq0 w ↦ λ hash.
          let some = w.if-count-eq0.false in
          ap (λ v. place_under v.items hash) w.buckets-is
          ∙ doubled_all old new (omega (arith, even, end)) (omega (arith, some, twice)) c.loop-bucket.invariant.2 hash
    ]
