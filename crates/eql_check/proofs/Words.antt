-- Words by their bytes.
use Rattle.std.proofs.Common.{◌≡◌, ◌≢◌, ℕ, List, true, false, sym, encode_utf8_all}
use Rattle.std.specs.Str.{chars, bytes_eq, is_utf8, IsUtf8}
use Rattle.std.proofs.lemmas.Bool.{false_from_ne_true}
use Rattle.std.proofs.lemmas.Map.Text.{is_eq-slice_cmp}
use Rattle.std.proofs.lemmas.Slice.Eq.{bytes_eq-Decides}
use Rattle.std.proofs.lemmas.Str.{encodes-chars, IsUtf8-from_is_utf8}
use Rattle.eql_values.specs.Orders.{text_eq}

-- a text with other bytes than a word is another text
pub no_word : (bs cs : List ℕ) → IsUtf8 bs → chars bs ≡ cs → (word : List ℕ) → is_utf8 word ≡ true → bs ≢ word → text_eq cs (chars word) ≡ false
no_word bs cs u e word v other =
    let differ : bytes_eq bs word ≡ false = false_from_ne_true (bytes_eq bs word) (λ t. other ((bytes_eq-Decides bs word).0 t)) in
    rw (sym e, is_eq-slice_cmp (encode_utf8_all (chars bs)) (encode_utf8_all (chars word)), encodes-chars bs u, encodes-chars word (IsUtf8-from_is_utf8 word v), differ)
