use Rattle.std.proofs.Common.{◌≡◌, ◌∷◌, Option, Some, None, rules, refl, sym, ap, subst, ◌∙◌}
use denote.Enum.Bare.{same_true, same_false}
use Rattle.eql_query.specs.declared.expr.MathOp.TheVariants.{Sub}
use Rattle.eql_parser.specs.contracts.parser.mark.Mark.{the_type}
use Rattle.eql_parser.specs.declared.parser.mark.Mark.{Mark}
use Rattle.eql_parser.specs.Kinds.{Kind, kinds, and_, by_, join_, maxspan_, not_, or_, sample_, sequence_, until_, where_, with_, open_, close_, open_item_, close_item_, comma_, dot_, bar_, question_, bang_, assign_, adds}
use Rattle.eql_parser.specs.Marks.{mark_kind, kind_mark, Lacks}
use Rattle.eql_parser.specs.Pieces.{piece_kind}
use Rattle.eql_parser.proofs.parser.mark.after.Goals.{in_default-via-in-Some+else-eq, in_default-via-in_default}
use Rattle.eql_parser.proofs.parser.mark.after.Goals as goal

-- a mark that is found is this kind's
abbrev Says : Kind → Option Mark → Type 0
Says k None = Unit {0}
Says k (Some m) = mark_kind m ≡ k

says : (k : Kind) → Says k (kind_mark k)
says and_ = refl
says by_ = refl
says join_ = refl
says maxspan_ = refl
says not_ = refl
says or_ = refl
says sample_ = refl
says sequence_ = refl
says until_ = refl
says where_ = refl
says with_ = refl
says open_ = refl
says close_ = refl
says open_item_ = refl
says close_item_ = refl
says comma_ = refl
says dot_ = refl
says bar_ = refl
says question_ = refl
says bang_ = refl
says assign_ = refl
says (adds Sub) = refl
says _ = tt

pub returns-in-Some : goal.returns-in-Some
returns-in-Some c =
    let first = piece_kind c.in_ok-first.first in
    let same = same_true the_type (search rules) _ _ (sym c.eq.ensures ∙ c.if-eq.true) in
    c.in_ok-first.ensures
    ∙ ap (λ k. k ∷ kinds c.in_ok-first.rest.now) (sym (subst (Says first) (sym c.mark_of.ensures ∙ c.in-Some.is ∙ ap Some same) (says first)))

pub returns-in_default : goal.returns-in_default
returns-in_default c =
    subst (Lacks c.args.mark) (sym c.in_ok-first.ensures)
    (λ h. elim c.in_default.branch [
      | in_default-via-in-Some+else-eq w ↦ same_false the_type w.in-Some.found c.args.mark (sym w.eq.ensures ∙ w.if-eq.false) (cc (h, w.in-Some.is, c.mark_of.ensures))
      | in_default-via-in_default w ↦ cc (h, w.in_default.is, c.mark_of.ensures)
    ])
