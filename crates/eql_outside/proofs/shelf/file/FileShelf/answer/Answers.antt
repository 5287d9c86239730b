use Rattle.std.proofs.Common.{◌≡◌, sym, subst}
use Rattle.std.specs.Prelude.{Err, IfErr, Result}
use Rattle.eql_outside.specs.Shelves.{SaysAbsent}
use Rattle.eql_outside.proofs.shelf.file.FileShelf.answer.Goals as goal

of_error : {T E : Type 0} (r : Result T E) (e : E) (P : E → Type 0) → r ≡ Err e → P e → IfErr r P
of_error {T} {E} r e P is h = subst (λ (q : Result T E). IfErr q P) (sym is) h

pub returns-then-says_absent-clause-failed : goal.returns-then-says_absent-clause-failed
returns-then-says_absent-clause-failed g c =
    of_error c.args.opened c.in-Err.error _ c.in-Err.is (λ no. absurd (no (subst SaysAbsent c.kind.ensures (c.says_absent.ensures.0 c.if-says_absent.true))))

pub returns-else-says_absent-clause-absent : goal.returns-else-says_absent-clause-absent
returns-else-says_absent-clause-absent g c =
    of_error c.args.opened c.in-Err.error _ c.in-Err.is
    (λ yes. let told = c.says_absent.ensures.1 (subst SaysAbsent (sym c.kind.ensures) yes) in let not = c.if-says_absent.false in cc)
