-- One more byte of a string or a name.
use Rattle.std.proofs.Common.{◌≡◌, ◌≢◌, ℕ, ◌<◌, List, [], ◌∷◌, ◌++◌, length, drop, Bool, cond, true, false, Option, Some, None, refl, ap, subst, sym, append_assoc, append-nil, ◌∙◌, arith, encode_utf8}
use Rattle.std.specs.Str.{IsUtf8}
use Rattle.std.proofs.lemmas.Str.{IsUtf8-append, IsUtf8-encode}
use Rattle.eql_lexer.specs.declared.refusal.Fault.{Fault}
use Rattle.eql_lexer.specs.declared.refusal.Fault.TheVariants as fault
use Rattle.eql_lexer.specs.declared.refusal.Rule.TheVariants as rule
use Rattle.eql_lexer.specs.Bytes.{begins}
use Rattle.eql_lexer.specs.Escapes.{escape}
use Rattle.eql_lexer.specs.Strings.{IsPlain, IsContent, closed, plain, escaped, IsBadEscape, bad_here, bad_after_plain, bad_after_escape, is_closed, with_byte, quoted_name, name_behind, is_name}
use Rattle.eql_lexer.specs.Refusing.{HasContentFault}
use Rattle.eql_lexer.proofs.Closing.{closed_plain, closed_escape, unequal, rest_after}
use Rattle.eql_lexer.proofs.Utf8.{split_utf8, escape_utf8, escape_scalar}

-- what is left completes the content
pub record Completes (bytes out rest : List ℕ) : Type 0 where
  pub content : (s stop : List ℕ) → IsContent rest s stop → IsContent bytes (out ++ s) stop
  pub closes : is_closed rest ≡ is_closed bytes
  pub bad : (place : List ℕ) → IsBadEscape rest place → IsBadEscape bytes place
  pub utf8 : IsUtf8 (out ++ rest)

pub completes_none : (bytes : List ℕ) → IsUtf8 bytes → Completes bytes [] bytes
completes_none bytes u = record { content = λ s stop k. k; closes = refl; bad = λ place k. k; utf8 = u }

one_more_utf8 : (out more : List ℕ) (b : ℕ) → IsUtf8 (out ++ b ∷ more) → IsUtf8 ((out ++ b ∷ []) ++ more)
one_more_utf8 out more b u = subst IsUtf8 (sym (append_assoc out (b ∷ []) more)) u

pub completes_plain : (bytes out rest more : List ℕ) (b : ℕ) → Completes bytes out rest → rest ≡ b ∷ more → IsPlain b → Completes bytes (out ++ b ∷ []) more
completes_plain bytes out rest more b h e p = record {
  content = λ s stop k. subst (λ l. IsContent bytes l stop) (sym (append_assoc out (b ∷ []) s)) (h.content _ _ (subst (λ l. IsContent l (b ∷ s) stop) (sym e) (plain p k)));
  closes = sym (closed_plain b more p) ∙ ap is_closed (sym e) ∙ h.closes;
  bad = λ place k. h.bad place (subst (λ l. IsBadEscape l place) (sym e) (bad_after_plain p k));
  utf8 = one_more_utf8 out more b (subst (λ l. IsUtf8 (out ++ l)) e h.utf8);
}

pub completes_escape : (bytes out rest more behind : List ℕ) (b c : ℕ) → Completes bytes out rest → rest ≡ b ∷ more → b ≡ 92 → escape more ≡ Some (c, behind)
    → Completes bytes (out ++ encode_utf8 c) behind
completes_escape bytes out rest more behind b c h e p q =
    let e' : rest ≡ 92 ∷ more = e ∙ ap (λ x. x ∷ more) p in
    let cut = split_utf8 out more 92 (omega arith) (subst (λ l. IsUtf8 (out ++ l)) e' h.utf8) in
    record {
      content = λ s stop k. subst (λ l. IsContent bytes l stop) (sym (append_assoc out (encode_utf8 c) s)) (h.content _ _ (subst (λ l. IsContent l (encode_utf8 c ++ s) stop) (sym e) (escaped p q refl k)));
      closes = sym (closed_escape more c behind q) ∙ ap is_closed (sym e') ∙ h.closes;
      bad = λ place k. h.bad place (subst (λ l. IsBadEscape l place) (sym e) (bad_after_escape p q k));
      utf8 = IsUtf8-append (out ++ encode_utf8 c) behind (IsUtf8-append out (encode_utf8 c) cut.0 (IsUtf8-encode c (escape_scalar more c behind q))) (escape_utf8 more c behind q cut.1);
    }

pub bad_escape_at : (rest more : List ℕ) (b : ℕ) → rest ≡ b ∷ more → b ≡ 92 → escape more ≡ None → IsBadEscape rest rest
bad_escape_at rest more b e p none = subst (λ l. IsBadEscape l l) (sym e) (bad_here p none)

pub closed_at : (bytes out rest more : List ℕ) (b : ℕ) → Completes bytes out rest → rest ≡ b ∷ more → b ≡ 34 → IsContent bytes out more
closed_at bytes out rest more b h e p = subst (λ l. IsContent bytes l more) (append-nil out) (h.content [] more (subst (λ l. IsContent l [] more) (sym e) (closed p)))

pub closed_utf8 : (bytes out rest more : List ℕ) (b : ℕ) → Completes bytes out rest → rest ≡ b ∷ more → b ≡ 34 → IsUtf8 out
closed_utf8 bytes out rest more b h e p = (split_utf8 out more b (omega (arith, p)) (subst (λ l. IsUtf8 (out ++ l)) e h.utf8)).0

pub line_at : (rest more : List ℕ) (b : ℕ) → rest ≡ b ∷ more → b ≡ 10 → is_closed rest ≡ false
line_at rest more b e p = rw (e, p) refl

-- what was gathered of a name, before what is read of it
abbrev pub put_all : List ℕ → Option (List ℕ × List ℕ) → Option (List ℕ × List ℕ)
put_all out None = None
put_all out (Some x) = Some (out ++ x.0, x.1)

put_all-put : (out : List ℕ) (b : ℕ) (o : Option (List ℕ × List ℕ)) → put_all (out ++ b ∷ []) o ≡ put_all out (with_byte b o)
put_all-put out b None = refl
put_all-put out b (Some x) = ap (λ l. Some (l, x.1)) (append_assoc out (b ∷ []) x.0)

put_all-none : (o : Option (List ℕ × List ℕ)) → put_all [] o ≡ o
put_all-none None = refl
put_all-none (Some x) = refl

-- what is left completes the name
pub record Gathers (bytes out rest : List ℕ) : Type 0 where
  pub name : put_all out (quoted_name rest) ≡ quoted_name bytes
  pub utf8 : IsUtf8 (out ++ rest)

pub gathers_none : (bytes : List ℕ) → IsUtf8 bytes → Gathers bytes [] bytes
gathers_none bytes u = record { name = put_all-none (quoted_name bytes); utf8 = u }

pub gathers_plain : (bytes out rest more : List ℕ) (b : ℕ) → Gathers bytes out rest → rest ≡ b ∷ more → b ≢ 96 → b ≢ 10 → Gathers bytes (out ++ b ∷ []) more
gathers_plain bytes out rest more b h e p q =
    let step : quoted_name (b ∷ more) ≡ with_byte b (quoted_name more) = rw (unequal b 96 p, unequal b 10 q) refl in
    record {
      name = put_all-put out b (quoted_name more) ∙ ap (put_all out) (sym step) ∙ ap (λ l. put_all out (quoted_name l)) (sym e) ∙ h.name;
      utf8 = one_more_utf8 out more b (subst (λ l. IsUtf8 (out ++ l)) e h.utf8);
    }

pub gathers_doubled : (bytes out rest more : List ℕ) (b : ℕ) → Gathers bytes out rest → rest ≡ b ∷ more → b ≡ 96 → begins 96 more ≡ true → Gathers bytes (out ++ b ∷ []) (drop 1 more)
unfolding lib.Utf8.encode
gathers_doubled bytes out rest more b h e p q =
    let two : rest ≡ 96 ∷ 96 ∷ drop 1 more = e ∙ ap (λ x. x ∷ more) p ∙ ap (λ l. 96 ∷ l) (rest_after 96 0 more q) in
    let cut = split_utf8 out (96 ∷ drop 1 more) 96 (omega arith) (subst (λ l. IsUtf8 (out ++ l)) two h.utf8) in
    let cut' = split_utf8 [] (drop 1 more) 96 (omega arith) cut.1 in
    rw p (record {
      name = put_all-put out 96 (quoted_name (drop 1 more)) ∙ ap (λ l. put_all out (quoted_name l)) (sym two) ∙ h.name;
      utf8 = IsUtf8-append (out ++ 96 ∷ []) (drop 1 more) (IsUtf8-append out (96 ∷ []) cut.0 (IsUtf8-encode 96 refl)) cut'.1;
    })

name_end : (more : List ℕ) → begins 96 more ≡ false → name_behind more ≡ Some ([], more)
name_end [] h = refl
name_end (b ∷ bs) h = rw h refl

pub name_found : (bytes out rest more : List ℕ) (b : ℕ) → Gathers bytes out rest → rest ≡ b ∷ more → b ≡ 96 → begins 96 more ≡ false → quoted_name bytes ≡ Some (out, more)
name_found bytes out rest more b h e p q =
    let one : rest ≡ 96 ∷ more = e ∙ ap (λ x. x ∷ more) p in
    sym h.name ∙ ap (λ l. put_all out (quoted_name l)) one ∙ ap (put_all out) (name_end more q) ∙ ap (λ l. Some (l, more)) (append-nil out)

pub name_utf8 : (bytes out rest more : List ℕ) (b : ℕ) → Gathers bytes out rest → rest ≡ b ∷ more → b ≡ 96 → IsUtf8 out
name_utf8 bytes out rest more b h e p = (split_utf8 out more b (omega (arith, p)) (subst (λ l. IsUtf8 (out ++ l)) e h.utf8)).0

pub no_name_line : (bytes out rest more : List ℕ) (b : ℕ) → Gathers bytes out rest → rest ≡ b ∷ more → b ≡ 10 → quoted_name bytes ≡ None
no_name_line bytes out rest more b h e p =
    let one : rest ≡ 10 ∷ more = e ∙ ap (λ x. x ∷ more) p in
    sym h.name ∙ ap (λ l. put_all out (quoted_name l)) one

pub no_name_end : (bytes out rest : List ℕ) → Gathers bytes out rest → rest ≡ [] → quoted_name bytes ≡ None
no_name_end bytes out rest h e = sym h.name ∙ ap (λ l. put_all out (quoted_name l)) e

bad_by : (t : Bool) (bytes out rest : List ℕ) (opening : ℕ) (f : Fault) → Completes bytes out rest → IsBadEscape rest rest → is_closed rest ≡ t
    → f ≡ cond t (fault.Broken rule.BadEscape (length rest)) (fault.Broken rule.OpenString opening) → HasContentFault bytes opening f
bad_by true bytes out rest opening f h bad e g = subst (HasContentFault bytes opening) (sym g) (sym h.closes ∙ e, (rest, h.bad rest bad, refl))
bad_by false bytes out rest opening f h bad e g = subst (HasContentFault bytes opening) (sym g) (sym h.closes ∙ e, refl)

pub bad_refused : (bytes out rest : List ℕ) (opening : ℕ) (f : Fault) → Completes bytes out rest → IsBadEscape rest rest
    → f ≡ cond (is_closed rest) (fault.Broken rule.BadEscape (length rest)) (fault.Broken rule.OpenString opening) → HasContentFault bytes opening f
bad_refused bytes out rest opening f h bad g = bad_by (is_closed rest) bytes out rest opening f h bad refl g

pub is_name_some : (o : Option (List ℕ × List ℕ)) (s rest : List ℕ) → o ≡ Some (s, rest) → 0 < length s → is_name o ≡ true
is_name_some o [] rest e h = absurd (omega (arith, h))
is_name_some o (b ∷ s) rest e h = rw e refl

pub is_name_empty : (o : Option (List ℕ × List ℕ)) (s rest : List ℕ) → o ≡ Some (s, rest) → length s ≡ 0 → is_name o ≡ false
is_name_empty o [] rest e h = rw e refl
is_name_empty o (b ∷ s) rest e h = absurd (omega (arith, h))
