use Rattle.std.proofs.Common.{◌&&◌, drop, length, sym, ap, ◌∙◌}
use Rattle.std.specs.Str.{chars}
use Rattle.eql_text.specs.Comparing.{any_end, is_empty}
use Rattle.eql_text.specs.Wildcards.{wildcard}
use Rattle.eql_text.proofs.Fitting.{without_star, before_star}
use Rattle.eql_text.proofs.pattern.fits_whole.Goals as goal

pub returns-in-Some-fits_front : goal.returns-in-Some-fits_front
returns-in-Some-fits_front c =
    let p = chars c.args.pattern.now in
    let t = chars c.args.text.now in
    c.ended.ensures ∙ ap is_empty c.in-Some-fits_front.ensures.rest
    ∙ sym (without_star c.args.fold p t c.in-None.ensures ∙ ap (λ b. b && is_empty (drop (length p) t)) (sym c.in-Some-fits_front.ensures.found))

pub returns-in-None-fits_front : goal.returns-in-None-fits_front
returns-in-None-fits_front c =
    let p = chars c.args.pattern.now in
    let t = chars c.args.text.now in
    sym (without_star c.args.fold p t c.in-None.ensures ∙ ap (λ b. b && is_empty (drop (length p) t)) (sym c.in-None-fits_front.ensures.found))

pub returns-in-Some-fits_front-2 : goal.returns-in-Some-fits_front-2
returns-in-Some-fits_front-2 c =
    let p = chars c.in-Some.part.now in
    let q = chars c.in-Some.after.now in
    let t = chars c.args.text.now in
    c.fits_some_end.ensures ∙ ap (any_end (wildcard c.args.fold q)) c.in-Some-fits_front-2.ensures.rest
    ∙ sym (before_star c.args.fold p q t c.in-Some.ensures.0 ∙ ap (λ b. b && any_end (wildcard c.args.fold q) (drop (length p) t)) (sym c.in-Some-fits_front-2.ensures.found))
    ∙ ap (λ r. wildcard c.args.fold r t) (sym c.in-Some.ensures.1)

pub returns-in-None-fits_front-2 : goal.returns-in-None-fits_front-2
returns-in-None-fits_front-2 c =
    let p = chars c.in-Some.part.now in
    let q = chars c.in-Some.after.now in
    let t = chars c.args.text.now in
    sym (before_star c.args.fold p q t c.in-Some.ensures.0 ∙ ap (λ b. b && any_end (wildcard c.args.fold q) (drop (length p) t)) (sym c.in-None-fits_front-2.ensures.found))
    ∙ ap (λ r. wildcard c.args.fold r t) (sym c.in-Some.ensures.1)
