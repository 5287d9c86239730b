use Rattle.std.proofs.Common.{ℕ, ◌<◌, ◌^◌, List, ◌++◌, length, sym, ◌∙◌, ap, subst, arith, append_assoc}
use Rattle.std.specs.Int.{w64}
use Rattle.eql_cut.specs.Formats.{number_text}
use Rattle.eql_cut.proofs.TextBytes.{text_written, text_fits}
use Rattle.eql_cut.proofs.texts.TextCoded.write.Goals as goal

pub returns-clause-text : goal.returns-clause-text
returns-clause-text c =
    let b = c.as_bytes-bytes.ensures.value in
    c.in_ok-extend_from_slice.ensures.items ∙ ap (λ (l : List ℕ). l ++ c.as_bytes-bytes.result.now) c.in_ok-write.ensures.text
    ∙ append_assoc c.args.to.now.items (number_text w64 (length c.as_bytes-bytes.result.now)) c.as_bytes-bytes.result.now
    ∙ ap (λ (l : List ℕ). c.args.to.now.items ++ (number_text w64 (length l) ++ l)) b
    ∙ ap (λ (l : List ℕ). c.args.to.now.items ++ l) (sym (text_written _ c.args.self.now c.text.utf8 c.text.ensures))

pub returns-clause-fits : goal.returns-clause-fits
returns-clause-fits c =
    let b = c.as_bytes-bytes.ensures.value in
    let bytes = c.as_bytes-bytes.result.now in
    let short : length (c.text.result.now) < 2 ^ 64 = subst (λ (x : List ℕ). length x < 2 ^ 64) b c.in_ok-write.ensures.fits in
    text_fits (c.text.result.now) c.args.self.now c.write.new.to.items c.extend_from_slice.new.self.items c.text.utf8 c.text.ensures short
    (c.in_ok-extend_from_slice.ensures.items ∙ ap (λ (l : List ℕ). c.write.new.to.items ++ l) b) (λ i d lt. omega (arith, c.type_inv.to i d lt))
