-- Texts that are equal have as many bytes.
use Rattle.std.proofs.Common.{◌≡◌, ℕ, List, Bool, true, false, length, refl, sym, ap, arith, ◌==◌, ◌∙◌, encode_utf8_all}
use Rattle.std.specs.Ordering.{is_eq}
use Rattle.std.specs.Str.{chars, IsUtf8}
use Rattle.std.specs.declared.cmp.Ordering.{Ordering}
use Rattle.std.specs.declared.cmp.Ordering.TheVariants.{Less, Equal, Greater}
use Rattle.std.proofs.lemmas.Str.{encodes-chars}
use Rattle.std.proofs.lemmas.Bool.Decides.{nat_tests}
use Rattle.eql_values.specs.Orders.{text_cmp, text_eq}
use Rattle.eql_values.proofs.Same.{text_same}

is_equal : (o : Ordering) → is_eq o ≡ true → o ≡ Equal
is_equal Less e = cc
is_equal Equal e = refl
is_equal Greater e = cc

bytes_same : (x y s t : List ℕ) → IsUtf8 x → IsUtf8 y → chars x ≡ s → chars y ≡ t → text_eq s t ≡ true → x ≡ y
bytes_same x y s t u v is is' e =
    sym (encodes-chars x u) ∙ ap encode_utf8_all (is ∙ text_same s t (is_equal (text_cmp s t) e) ∙ sym is') ∙ encodes-chars y v

differ_if : (x y s t : List ℕ) → IsUtf8 x → IsUtf8 y → chars x ≡ s → chars y ≡ t → (length x ≡ length y → ⊥) → (b : Bool) → text_eq s t ≡ b → false ≡ text_eq s t
differ_if x y s t u v is is' h false e = sym e
differ_if x y s t u v is is' h true e = absurd (h (ap length (bytes_same x y s t u v is is' e)))

pub lengths_differ : (x y s t : List ℕ) → IsUtf8 x → IsUtf8 y → chars x ≡ s → chars y ≡ t → (length x ≡ length y → ⊥) → false ≡ text_eq s t
lengths_differ x y s t u v is is' h = differ_if x y s t u v is is' h (text_eq s t) refl

pub not_same : (n m : ℕ) → (n ≡ m → ⊥) → (n == m) ≡ false
not_same n m h = grind (arith, nat_tests)
