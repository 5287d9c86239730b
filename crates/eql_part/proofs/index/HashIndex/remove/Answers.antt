use Rattle.std.proofs.Common.{◌≡◌, ℕ, Bool, true, false, not, eqb, Option, None, Some, length, refl, sym, ap, ◌∙◌, subst, arith}
use Rattle.std.specs.Prelude.{slice_get, slice_set}
use Rattle.std.specs.Option.{option_eq}
use Rattle.std.proofs.lemmas.Bool.{eqb-true}
use Rattle.std.proofs.lemmas.Option.{slice_get_read}
use Rattle.eql_part.specs.Indexed.{Forgets, bucket_number, place_under}
use Rattle.eql_part.proofs.Indexing.{cleared_in}
use Rattle.eql_part.proofs.index.HashIndex.remove.Goals as goal

not_other : (o : Option ℕ) (place : ℕ) → false ≡ not (option_eq eqb o (Some place)) → o ≡ Some place
not_other None place e = cc
not_other (Some own) place e = by (eqb own place) refl e
  where
    by : (b : Bool) → eqb own place ≡ b → false ≡ not b → Some own ≡ Some place
    by true t same = ap Some (eqb-true own place t)
    by false t same = cc

pub returns-in-Some : goal.returns-in-Some
returns-in-Some c =
    let old = c.args.self.now.buckets.items in let hash = c.args.hash in
    let bucket = c.in-Some.bucket.now in
    let ok = c.args.self.now.buckets.ok.0 in let len = c.len.ensures in
    let count : c.len.result ≡ length old = omega (arith, ok, len) in
    let number : c.bucket_number-number.result ≡ bucket_number hash (length old) = c.bucket_number-number.ensures ∙ ap (λ (n : ℕ). bucket_number hash n) count in
    let at = slice_get_read old (length old) c.bucket_number-number.result bucket refl c.in-Some.ensures.item.3.0 c.in-Some.ensures.value in
    let there = sym c.find.ensures ∙ not_other c.find.result c.args.place (c.if-ne.ensures {u = tt}) in
    subst (λ (k : ℕ). Forgets c.args.place (place_under old) (place_under (slice_set old k c.clear_in.new.bucket))) (sym number)
    (cleared_in old hash bucket c.clear_in.new.bucket (ap (slice_get old) (sym number) ∙ at) c.args.place there c.clear_in.ensures)
