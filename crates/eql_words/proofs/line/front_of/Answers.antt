use Rattle.std.proofs.Common.{◌≡◌, ◌<◌, ◌∷◌, Some, length, string_bytes, ap, ◌∙◌, arith}
use Rattle.eql_words.specs.declared.options.Form.TheVariants as form
use Rattle.eql_words.specs.Words.{bytes_of}
use Rattle.eql_words.specs.Spelling.{form_of, line_from, line_of}
use Rattle.eql_words.proofs.Lines.{at_mixed, at_plain, front_same, line_at, line_of_none, shorter}
use Rattle.eql_words.proofs.line.front_of.Goals as goal

pub returns-in_default : goal.returns-in_default
returns-in_default c = line_of_none c.args.words.now c.in_default.ensures.cases

pub returns-in-Ends : goal.returns-in-Ends
returns-in-Ends c =
    let e : c.args.words.now ≡ c.in-Some.word.now ∷ c.in-Some.after.now = cc (c.in-Some.ensures.cases.0, c.in-Some.word-is, c.in-Some.after-is) in
    let h : form.Ends ≡ form_of (string_bytes c.in-Some.word.now) = c.in-Ends.ensures ∙ ap form_of c.as_str.ensures.value in
    line_at c.args.words.now c.in-Some.word.now c.in-Some.after.now form.Ends e h

pub returns-then-are_plain : goal.returns-then-are_plain
returns-then-are_plain c =
    let e : c.args.words.now ≡ c.in-Some.word.now ∷ c.in-Some.after.now = cc (c.in-Some.ensures.cases.0, c.in-Some.word-is, c.in-Some.after-is) in
    let h : form.Plain ≡ form_of (string_bytes c.in-Some.word.now) = c.in-Plain.ensures ∙ ap form_of c.as_str.ensures.value in
    at_plain c.args.words.now c.in-Some.word.now c.in-Some.after.now e h c.if-are_plain.ensures

pub returns-else-are_plain : goal.returns-else-are_plain
returns-else-are_plain c =
    let e : c.args.words.now ≡ c.in-Some.word.now ∷ c.in-Some.after.now = cc (c.in-Some.ensures.cases.0, c.in-Some.word-is, c.in-Some.after-is) in
    let h : form.Plain ≡ form_of (string_bytes c.in-Some.word.now) = c.in-Plain.ensures ∙ ap form_of c.as_str.ensures.value in
    at_mixed c.args.words.now c.in-Some.word.now c.in-Some.after.now e h c.if-are_plain.ensures

pub returns-in-Whole : goal.returns-in-Whole
returns-in-Whole c =
    let e : c.args.words.now ≡ c.in-Some.word.now ∷ c.in-Some.after.now = cc (c.in-Some.ensures.cases.0, c.in-Some.word-is, c.in-Some.after-is) in
    let h : form.Whole c.in-Whole.setting ≡ form_of (string_bytes c.in-Some.word.now) = c.in-Whole.ensures ∙ ap form_of c.as_str.ensures.value in (
      line_at c.args.words.now c.in-Some.word.now c.in-Some.after.now (form.Whole c.in-Whole.setting) e h,
      shorter c.args.words.now c.in-Some.word.now c.in-Some.after.now e,
    )

pub returns-in-Opens : goal.returns-in-Opens
returns-in-Opens c =
    let e : c.args.words.now ≡ c.in-Some.word.now ∷ c.in-Some.after.now = cc (c.in-Some.ensures.cases.0, c.in-Some.word-is, c.in-Some.after-is) in
    let h : form.Opens c.in-Opens.name ≡ form_of (string_bytes c.in-Some.word.now) = c.in-Opens.ensures ∙ ap form_of c.as_str.ensures.value in
    let less : length c.in-Some.after.now < length c.args.words.now = shorter c.args.words.now c.in-Some.word.now c.in-Some.after.now e in
    front_same (line_of (bytes_of c.args.words.now)) (line_from (Some c.in-Opens.name) (bytes_of c.in-Some.after.now))
    (length c.in-Some.after.now) (length c.args.words.now) c.with_value.result
    (line_at c.args.words.now c.in-Some.word.now c.in-Some.after.now (form.Opens c.in-Opens.name) e h)
    (omega (arith, less)) c.with_value.ensures

pub returns-in-Faulty : goal.returns-in-Faulty
returns-in-Faulty c =
    let e : c.args.words.now ≡ c.in-Some.word.now ∷ c.in-Some.after.now = cc (c.in-Some.ensures.cases.0, c.in-Some.word-is, c.in-Some.after-is) in
    let h : form.Faulty ≡ form_of (string_bytes c.in-Some.word.now) = c.in-Faulty.ensures ∙ ap form_of c.as_str.ensures.value in
    line_at c.args.words.now c.in-Some.word.now c.in-Some.after.now form.Faulty e h
