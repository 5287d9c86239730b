use Rattle.std.proofs.Common.{◌≡◌, ℕ, true, false, List, ◌∷◌, string_bytes, sym, ap, ◌∙◌}
use Rattle.eql_words.specs.Words.{bytes_of, is_dashed}
use Rattle.eql_words.specs.Spelling.{before, line_of}
use Rattle.eql_words.proofs.Lines.{no_value, dashed_value, plain_value, shorter}
use Rattle.eql_words.proofs.line.with_value.Goals as goal

pub returns-in_default : goal.returns-in_default
returns-in_default c = no_value c.args.name c.args.words.now c.in_default.ensures.cases

pub returns-then-is_dashed : goal.returns-then-is_dashed
returns-then-is_dashed c =
    let e : c.args.words.now ≡ c.in-Some.value.now ∷ c.in-Some.after.now = cc (c.in-Some.ensures.cases.0, c.in-Some.value-is, c.in-Some.after-is) in
    let d : is_dashed (string_bytes c.in-Some.value.now) ≡ true = sym c.if-is_dashed.ensures in
    dashed_value c.args.name c.args.words.now c.in-Some.value.now c.in-Some.after.now e d

pub returns : goal.returns
returns c =
    let e : c.args.words.now ≡ c.in-Some.value.now ∷ c.in-Some.after.now = cc (c.in-Some.ensures.cases.0, c.in-Some.value-is, c.in-Some.after-is) in
    let d : is_dashed (string_bytes c.in-Some.value.now) ≡ false = sym c.if-is_dashed.ensures in (
      plain_value c.args.name c.args.words.now c.in-Some.value.now c.in-Some.after.now e d
          ∙ ap (λ (v : List ℕ). before (c.args.name, v) (line_of (bytes_of c.in-Some.after.now))) (sym c.as_str-value.ensures.value),
      shorter c.args.words.now c.in-Some.value.now c.in-Some.after.now e,
    )
