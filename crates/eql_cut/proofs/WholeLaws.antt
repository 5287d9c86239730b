-- A lawful format read of all bytes.
use Rattle.std.proofs.Common.{◌≡◌, ◌⊎◌, inl, inr, ℕ, ◌-◌, ◌≤◌, List, [], ◌∷◌, ◌++◌, length, take, Option, Some, None, Result, Ok, Err, Vec, Global, IfOk, OnOk, refl, sym, ◌∙◌, ap, subst, arith}
use Rattle.std.proofs.Math.Seq.{take-append_seam}
use Rattle.eql_values.specs.declared.memory.Memory.{Memory}
use Rattle.eql_cut.specs.declared.reader.CutRefused.{CutRefused}
use Rattle.eql_cut.specs.declared.reader.CutRefused.TheVariants as cut_refused
use Rattle.eql_cut.specs.declared.cut.Cut.{Cut}
use Rattle.eql_cut.specs.declared.reader.Version.{Version}
use Rattle.eql_cut.specs.declared.reader.Version.TheVariants as version
use Rattle.eql_cut.specs.CutValues.{header, cut, closing, unclosed, cut_file, cut_text, number_of}
use Rattle.eql_cut.specs.Domain.{IsCut}
use Rattle.eql_cut.specs.Whole.{IsText, IsTextBehind, IsTextOf, IsNoText, TextsAreDecided}
use Rattle.eql_cut.specs.Formats.{IsBytes, ◌>>=◌, at_end, whole}
use Rattle.eql_cut.specs.Reading.{Refuses, IfDamaged}
use Rattle.eql_cut.proofs.Closings.{closing_fits}
use Rattle.eql_cut.proofs.CutLaws.{unclosed_lawful, cut_file_lawful}
use Rattle.eql_cut.proofs.Laws.{front_is_bytes as all_of_front, read_front, whole_again, whole_exact}
use Rattle.eql_cut.proofs.Standing.{ItemsBack, cut_stands}

header_fits : (v : Version) → header.Fits v
header_fits version.One = (((omega arith, refl), ((omega arith, refl), ((omega arith, refl), ((omega arith, refl), ((omega arith, refl), refl))))), refl)
header_fits version.Two = (((omega arith, refl), ((omega arith, refl), ((omega arith, refl), ((omega arith, refl), ((omega arith, refl), refl))))), refl)
header_fits version.Three = (((omega arith, refl), ((omega arith, refl), ((omega arith, refl), ((omega arith, refl), ((omega arith, refl), refl))))), refl)
header_fits version.Four = (((omega arith, refl), ((omega arith, refl), ((omega arith, refl), ((omega arith, refl), ((omega arith, refl), refl))))), refl)

pub front_is_bytes : (front rest : List ℕ) → IsBytes (front ++ rest) → IsBytes front
front_is_bytes front rest all = subst IsBytes (take-append_seam front rest) (all_of_front (length front) (front ++ rest) all)

file_fits : (v : Version) (c : Cut) (bytes : List ℕ) → IsBytes bytes → (cut v).Fits c → bytes ≡ cut_text v c → cut_file.Fits (v, c)
file_fits v c bytes all fits spelt =
    let plain = unclosed.text (v, c) in
    (((header_fits v, fits), closing_fits v plain (front_is_bytes plain ((closing v plain).text tt) (subst IsBytes spelt all))), refl)

-- a text is read as its cut
text_reads : (n : ℕ) (c : Cut) (bytes : List ℕ) → IsBytes bytes → (t : IsText n c bytes) → whole cut_file bytes ≡ Some (t.version, c)
text_reads n c bytes all t = whole_again cut_file cut_file_lawful (t.version, c) bytes (file_fits t.version c bytes all t.fits t.spelt) t.spelt

at_end_more : {A : Type 0} (a : A) (left : List ℕ) → (left ≡ [] → ⊥) → at_end a left ≡ None
at_end_more a [] more = absurd (more refl)
at_end_more a (b ∷ left) more = refl

-- what follows the reading of a cut and of what closes its text
abbrev without_closing : Option (((Version × Cut) × Unit {0}) × List ℕ) → Option ((Version × Cut) × List ℕ)
without_closing o = o >>= λ z. Some (z.0.0, z.1)

abbrev all_of : Option (((Version × Cut) × Unit {0}) × List ℕ) → Option (Version × Cut)
all_of o = without_closing o >>= λ w. at_end w.0 w.1

-- bytes of which a cut was read, up to what closes them, and which have as many left
module _ (bytes rest : List ℕ) (x : Version × Cut) (n : ℕ) (all : IsBytes bytes) (read : unclosed.read bytes ≡ Some (x, rest)) (left : n ≡ length rest) where
  pub none_too_many : n ≤ length bytes
  none_too_many = let f = (read_front unclosed unclosed_lawful bytes x rest all read).0 in omega (arith, f, left)

  -- the bytes before those that are left
  abbrev front : List ℕ
  front = take (length bytes - n) bytes

  front_is : front ≡ unclosed.text x
  front_is = ap (λ (k : ℕ). take (length bytes - k) bytes) left ∙ (read_front unclosed unclosed_lawful bytes x rest all read).1

  -- what follows the reading of what closes the text
  abbrev ends : Option (Unit {0} × List ℕ) → Option (Version × Cut)
  ends o = all_of (o >>= λ y. Some ((x, y.0), y.1))

  whole_is : whole cut_file bytes ≡ ends ((closing x.0 front).read rest)
  whole_is =
      ap (λ (o : Option ((Version × Cut) × List ℕ)). all_of (o >>= λ y. (closing y.0.0 (unclosed.text y.0)).read y.1 >>= λ z. Some ((y.0, z.0), z.1))) read
      ∙ ap (λ (b : List ℕ). ends ((closing x.0 b).read rest)) (sym front_is)

  pub is_closed : (behind : List ℕ) → (closing x.0 front).read rest ≡ Some (tt, behind) → behind ≡ [] → whole cut_file bytes ≡ Some x
  is_closed behind closes none = whole_is ∙ ap ends (closes ∙ ap (λ (l : List ℕ). Some (tt, l)) none)

  pub is_followed : (behind : List ℕ) → (closing x.0 front).read rest ≡ Some (tt, behind) → (behind ≡ [] → ⊥) → whole cut_file bytes ≡ None
  is_followed behind closes more = whole_is ∙ ap ends closes ∙ at_end_more x behind more

  pub is_unclosed : (e : CutRefused) → Refuses ((closing x.0 front).read rest) e → Refuses (whole cut_file bytes) e
  is_unclosed cut_refused.Memory none = tt
  is_unclosed (cut_refused.Damaged at) none = whole_is ∙ ap ends none

same : {A B : Type 0} (o : Option (A × B)) (a c : A) (b d : B) → o ≡ Some (a, b) → o ≡ Some (c, d) → (a ≡ c) × (b ≡ d)
same {A = A} {B = B} o a c b d first second =
    let e : Some (a, b) ≡ Some (c, d) = sym first ∙ second in
    let p : (a, b) ≡ (c, d) = cc in
    (ap (λ (x : A × B). x.0) p, ap (λ (x : A × B). x.1) p)

pub found : (v : Version) (c : Cut) (bytes : List ℕ) → IsBytes bytes → whole cut_file bytes ≡ Some (v, c) → IsTextOf (number_of v) c bytes
found v c bytes all is =
    let e = whole_exact cut_file cut_file_lawful (v, c) bytes all is in
    record {
      is = record { version = v; number = refl; fits = e.0.0.0.1; spelt = e.1 };
      alone = λ n d t. let s = same (whole cut_file bytes) t.version v d c (text_reads n d bytes all t) is in (sym t.number ∙ ap number_of s.0, s.1);
    }

pub stands : ItemsBack → (v : Version) (c : Cut) (bytes : List ℕ) → IsBytes bytes → whole cut_file bytes ≡ Some (v, c) → IsCut c
stands back v c bytes all is = cut_stands v back c (whole_exact cut_file cut_file_lawful (v, c) bytes all is).0.0.0.1

some_or_none : {A : Type 0} (o : Option A) (a : A) → o ≡ Some a → o ≡ None → ⊥
some_or_none o a is none = let e : Some a ≡ None = sym is ∙ none in absurd (cc)

pub damaged : (e : CutRefused) (bytes : List ℕ) → IsBytes bytes → Refuses (whole cut_file bytes) e → IfDamaged e (IsNoText bytes)
damaged cut_refused.Memory bytes all is = tt
damaged (cut_refused.Damaged at) bytes all is = λ n c t. some_or_none (whole cut_file bytes) (t.version, c) (text_reads n c bytes all t) is

-- bytes are a text by whether they are read
by_reading : (bytes : List ℕ) → IsBytes bytes → (read : Option (Version × Cut)) → whole cut_file bytes ≡ read
    → ((format : ℕ) × (c : Cut) × IsTextOf format c bytes) ⊎ IsNoText bytes
by_reading bytes all None none = inr (damaged (cut_refused.Damaged 0) bytes all none)
by_reading bytes all (Some x) is = inl (number_of x.0, x.1, found x.0 x.1 bytes all is)

pub texts_are_decided : TextsAreDecided
texts_are_decided bytes all = by_reading bytes all (whole cut_file bytes) refl

-- what was written is the text
pub encoded : (c : Cut) (r : Result (Vec ℕ Global) Memory) → IfOk r (λ v. v.items ≡ cut_text version.Four c) → OnOk r ((cut version.Four).Fits c)
    → IfOk r (λ v. IsText 4 c v.items)
encoded c (Ok v) text fits = record { version = version.Four; number = refl; fits = fits; spelt = text }
encoded c (Err e) text fits = tt

-- and so it is behind a head
pub encoded_behind : (head : List ℕ) (c : Cut) (r : Result (Vec ℕ Global) Memory) → IfOk r (λ v. v.items ≡ head ++ cut_text version.Four c)
    → OnOk r ((cut version.Four).Fits c) → IfOk r (λ v. IsTextBehind head c v.items)
encoded_behind head c (Ok v) text fits = (cut_text version.Four c, record { version = version.Four; number = refl; fits = fits; spelt = refl }, text)
encoded_behind head c (Err e) text fits = tt
