-- Texts as addresses.
use Rattle.std.proofs.Common.{◌≡◌, ℕ, List, false, ◌==◌, Option, Ok, ap, ◌∙◌, if◌then◌else◌}
use Rattle.std.specs.List.{list_any}
use Rattle.std.specs.Str.{chars}
use Rattle.eql_text.specs.Addresses.{parse_ip4}
use Rattle.eql_values.specs.declared.value.Value.TheVariants as is
use Rattle.eql_lines.specs.Reach.{text}
use Rattle.eql_lines.specs.Values.{as_address, or_kind}

-- without a colon a text is what `parse_ip4` reads in it
pub no_colon : (t : List ℕ) (o : Option ℕ) → false ≡ list_any (λ b. b == 58) t → o ≡ parse_ip4 (chars t) → or_kind o ≡ as_address (text t)
no_colon t o none e = ap or_kind e ∙ ap (λ b. if b then Ok is.Null else or_kind (parse_ip4 (chars t))) none
