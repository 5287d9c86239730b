-- The text of a cut is that of no other cut, and in no other format.
use Rattle.std.proofs.Common.{◌≡◌, ℕ, List, Option, Some, refl, sym, ap, arith, ◌∙◌}
use Rattle.eql_cut.specs.declared.cut.Cut.{Cut}
use Rattle.eql_cut.specs.declared.reader.Version.{Version}
use Rattle.eql_cut.specs.declared.reader.Version.TheVariants as version
use Rattle.eql_cut.specs.CutValues.{header, closing, unclosed, number_of}
use Rattle.eql_cut.specs.Whole.{IsText, IsTextOf}
use Rattle.eql_cut.proofs.CutLaws.{unclosed_lawful}

header_fits : (v : Version) → header.Fits v
header_fits version.One = (((omega arith, refl), ((omega arith, refl), ((omega arith, refl), ((omega arith, refl), ((omega arith, refl), refl))))), refl)
header_fits version.Two = (((omega arith, refl), ((omega arith, refl), ((omega arith, refl), ((omega arith, refl), ((omega arith, refl), refl))))), refl)
header_fits version.Three = (((omega arith, refl), ((omega arith, refl), ((omega arith, refl), ((omega arith, refl), ((omega arith, refl), refl))))), refl)
header_fits version.Four = (((omega arith, refl), ((omega arith, refl), ((omega arith, refl), ((omega arith, refl), ((omega arith, refl), refl))))), refl)

-- what closes a text
abbrev closes : Version → Cut → List ℕ
closes v cut = (closing v (unclosed.text (v, cut))).text tt

-- a text is read as its cut, up to what closes it
text_reads : (format : ℕ) (cut : Cut) (bytes : List ℕ) (t : IsText format cut bytes)
    → unclosed.read bytes ≡ Some ((t.version, cut), closes t.version cut)
text_reads format cut bytes t =
    ap (λ (b : List ℕ). unclosed.read b) t.spelt
    ∙ unclosed_lawful.again (t.version, cut) (closes t.version cut) (header_fits t.version, t.fits)

same : (o : Option ((Version × Cut) × List ℕ)) (v w : Version) (c d : Cut) (x y : List ℕ) → o ≡ Some ((v, c), x) → o ≡ Some ((w, d), y)
    → (v ≡ w) × (c ≡ d)
same o v w c d x y first second =
    let e : Some ((v, c), x) ≡ Some ((w, d), y) = sym first ∙ second in
    let p : ((v, c), x) ≡ ((w, d), y) = cc in
    (ap (λ (z : (Version × Cut) × List ℕ). z.0.0) p, ap (λ (z : (Version × Cut) × List ℕ). z.0.1) p)

pub text_alone : (format : ℕ) (cut : Cut) (bytes : List ℕ) → IsText format cut bytes → IsTextOf format cut bytes
text_alone format cut bytes own = record {
  is = own;
  alone = λ other d t.
      let s = same (unclosed.read bytes) t.version own.version d cut (closes t.version d) (closes own.version cut)
      (text_reads other d bytes t) (text_reads format cut bytes own) in
      (sym t.number ∙ ap number_of s.0 ∙ own.number, s.1);
}
