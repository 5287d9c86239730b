-- The line of a shard is UTF-8: it has ASCII characters alone.
use native.Mathlib.Omega.{arith}
use Rattle.std.proofs.Common.{◌≡◌, ℕ, zero, suc, ◌<◌, ◌+◌, ◌/◌, ◌%◌, ◌==◌, Bool, true, false, List, [], ◌∷◌, ◌++◌, Option, Some, None, refl}
use Rattle.std.specs.Prelude.{nat_lt, if◌then◌else◌, codes}
use Rattle.std.specs.Fmt.{decimal, digits, digits_onto, digit_glyph}
use Rattle.std.specs.Str.{IsAscii, IsUtf8}
use Rattle.std.specs.List.{list_all}
use Rattle.std.proofs.lemmas.Str.{IsUtf8-append, IsUtf8-from_ascii, IsUtf8-nil}
use Rattle.std.proofs.lemmas.Bool.{and_parts}
use Rattle.std.proofs.lemmas.Bool.Decides.{nat_tests}
use Rattle.eql_values.specs.declared.cut.Counts.{Counts}
use Rattle.eql_values.specs.declared.cut.FirstBad.{FirstBad}
use Rattle.eql_values.specs.declared.cut.Reason.{Reason}
use Rattle.eql_values.specs.declared.cut.Reason.TheVariants as reason
use Rattle.eql_book.specs.Report.{reason_text, first_text, counts_text, report_text}

-- one more character
more : (c : ℕ) (text : List ℕ) → c < 128 → IsAscii text → IsAscii (c ∷ text)
more c text small ascii zero = small
more c text small ascii (suc i) = ascii i

glyph_small : (below : Bool) (d : ℕ) → d < 10 → (if below then 48 + d else 87 + d) < 128
glyph_small true d h = omega (arith, h)
glyph_small false d h = omega (arith, h)

digit_small : (n : ℕ) → digit_glyph false (n % 10) < 128
digit_small n = glyph_small (nat_lt (n % 10) 10) (n % 10) (omega arith)

either : (first : Bool) (one other : List ℕ) → IsAscii one → IsAscii other → IsAscii (if first then one else other)
either true one other p q = p
either false one other p q = q

digits_ascii : (k n : ℕ) (text : List ℕ) → IsAscii text → IsAscii (digits_onto k 10 false n text)
digits_ascii zero n text ascii = ascii
digits_ascii (suc k) n text ascii =
    let next : List ℕ = digit_glyph false (n % 10) ∷ text in
    let own : IsAscii next = more (digit_glyph false (n % 10)) text (digit_small n) ascii in
    either (n / 10 == 0) next (digits_onto k 10 false (n / 10) next) own (digits_ascii k (n / 10) next own)

decimal_ascii : (n : ℕ) → IsAscii (decimal n)
unfolding digits
decimal_ascii n = digits_ascii 64 n [] (λ i. omega arith)

decimal_plain : (n : ℕ) → IsUtf8 (decimal n)
decimal_plain n = IsUtf8-from_ascii (decimal n) (decimal_ascii n)

-- a text by a test of its characters
below : (c : ℕ) → nat_lt c 128 ≡ true → c < 128
below c e = grind (arith, nat_tests)

plain : (text : List ℕ) → list_all (λ b. nat_lt b 128) text ≡ true → IsAscii text
plain [] e = λ i. omega arith
plain (c ∷ text) e =
    let both = and_parts (nat_lt c 128) (list_all (λ b. nat_lt b 128) text) e in
    more c text (below c both.0) (plain text both.1)

word : (text : List ℕ) → list_all (λ b. nat_lt b 128) text ≡ true → IsUtf8 text
word text e = IsUtf8-from_ascii text (plain text e)

reason_plain : (r : Reason) → IsUtf8 (reason_text r)
reason_plain reason.Long = word (codes "Long") refl
reason_plain reason.NotJson = word (codes "NotJson") refl
reason_plain reason.NotObject = word (codes "NotObject") refl
reason_plain reason.NoTime = word (codes "NoTime") refl
reason_plain reason.BadTime = word (codes "BadTime") refl
reason_plain reason.Kind = word (codes "Kind") refl
reason_plain reason.Fraction = word (codes "Fraction") refl
reason_plain reason.Range = word (codes "Range") refl

-- one text after another
on : (xs ys : List ℕ) → IsUtf8 xs → IsUtf8 ys → IsUtf8 (xs ++ ys)
on xs ys p q = IsUtf8-append xs ys p q

first_plain : (rejected : ℕ) (first : Option FirstBad) → IsUtf8 (first_text rejected first)
first_plain zero first = IsUtf8-nil
first_plain (suc rejected) None = IsUtf8-nil
first_plain (suc rejected) (Some bad) =
    on _ _ (on _ _ (on _ _ (word (codes " first ") refl) (decimal_plain bad.line)) (word (codes " ") refl)) (reason_plain bad.reason)

counts_plain : (shard : ℕ) (counts : Counts) → IsUtf8 (counts_text shard counts)
counts_plain shard counts =
    let own = on (codes "shard " ++ decimal shard) (codes ": lines ") (on (codes "shard ") (decimal shard) (word (codes "shard ") refl) (decimal_plain shard)) (word (codes ": lines ") refl) in
    let lines = on _ (codes " accepted ") (on _ (decimal counts.lines) own (decimal_plain counts.lines)) (word (codes " accepted ") refl) in
    let accepted = on _ (codes " late ") (on _ (decimal counts.accepted) lines (decimal_plain counts.accepted)) (word (codes " late ") refl) in
    let late = on _ (codes " rejected ") (on _ (decimal counts.late) accepted (decimal_plain counts.late)) (word (codes " rejected ") refl) in
    on _ (decimal counts.rejected) late (decimal_plain counts.rejected)

pub report_plain : (shard : ℕ) (counts : Counts) → IsUtf8 (report_text shard counts)
report_plain shard counts = IsUtf8-append (counts_text shard counts) (first_text counts.rejected counts.first) (counts_plain shard counts) (first_plain counts.rejected counts.first)
