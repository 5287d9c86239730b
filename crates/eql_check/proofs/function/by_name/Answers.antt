use Rattle.std.proofs.Common.{◌≡◌, ◌≢◌, ℕ, List, true, false, codes, refl, sym}
use Rattle.std.specs.Str.{chars, is_utf8}
use Rattle.eql_values.specs.Orders.{text_eq}
use Rattle.eql_check.proofs.Words.{no_word}
use Rattle.eql_check.proofs.function.by_name.Goals as goal

pub returns-in-add : goal.returns-in-add
unfolding chars lib.Utf8.encode
returns-in-add c = rw (sym c.text.ensures, c.in-add.is)

pub returns-in-subtract : goal.returns-in-subtract
unfolding chars lib.Utf8.encode
returns-in-subtract c = rw (sym c.text.ensures, c.in-subtract.is)

pub returns-in-multiply : goal.returns-in-multiply
unfolding chars lib.Utf8.encode
returns-in-multiply c = rw (sym c.text.ensures, c.in-multiply.is)

pub returns-in-divide : goal.returns-in-divide
unfolding chars lib.Utf8.encode
returns-in-divide c = rw (sym c.text.ensures, c.in-divide.is)

pub returns-in-modulo : goal.returns-in-modulo
unfolding chars lib.Utf8.encode
returns-in-modulo c = rw (sym c.text.ensures, c.in-modulo.is)

pub returns-in-length : goal.returns-in-length
unfolding chars lib.Utf8.encode
returns-in-length c = rw (sym c.text.ensures, c.in-length.is)

pub returns-in-indexOf : goal.returns-in-indexOf
unfolding chars lib.Utf8.encode
returns-in-indexOf c = rw (sym c.text.ensures, c.in-indexOf.is)

pub returns-in-startsWith : goal.returns-in-startsWith
unfolding chars lib.Utf8.encode
returns-in-startsWith c = rw (sym c.text.ensures, c.in-startsWith.is)

pub returns-in-endsWith : goal.returns-in-endsWith
unfolding chars lib.Utf8.encode
returns-in-endsWith c = rw (sym c.text.ensures, c.in-endsWith.is)

pub returns-in-stringContains : goal.returns-in-stringContains
unfolding chars lib.Utf8.encode
returns-in-stringContains c = rw (sym c.text.ensures, c.in-stringContains.is)

pub returns-in-concat : goal.returns-in-concat
unfolding chars lib.Utf8.encode
returns-in-concat c = rw (sym c.text.ensures, c.in-concat.is)

pub returns-in-substring : goal.returns-in-substring
unfolding chars lib.Utf8.encode
returns-in-substring c = rw (sym c.text.ensures, c.in-substring.is)

pub returns-in-between : goal.returns-in-between
unfolding chars lib.Utf8.encode
returns-in-between c = rw (sym c.text.ensures, c.in-between.is)

pub returns-in-string : goal.returns-in-string
unfolding chars lib.Utf8.encode
returns-in-string c = rw (sym c.text.ensures, c.in-string.is)

pub returns-in-number : goal.returns-in-number
unfolding chars lib.Utf8.encode
returns-in-number c = rw (sym c.text.ensures, c.in-number.is)

pub returns-in-cidrMatch : goal.returns-in-cidrMatch
unfolding chars lib.Utf8.encode
returns-in-cidrMatch c = rw (sym c.text.ensures, c.in-cidrMatch.is)

pub returns-in_default : goal.returns-in_default
unfolding is_utf8 chars lib.Utf8.encode
returns-in_default c =
    let not : (word : List ℕ) → is_utf8 word ≡ true → c.text.result.now ≢ word → text_eq c.args.name.now (chars word) ≡ false = no_word c.text.result.now c.args.name.now c.text.utf8 c.text.ensures in
    rw (
      not (codes "add") refl c.in_default.not-add,
      not (codes "subtract") refl c.in_default.not-subtract,
      not (codes "multiply") refl c.in_default.not-multiply,
      not (codes "divide") refl c.in_default.not-divide,
      not (codes "modulo") refl c.in_default.not-modulo,
      not (codes "length") refl c.in_default.not-length,
      not (codes "indexOf") refl c.in_default.not-indexOf,
      not (codes "startsWith") refl c.in_default.not-startsWith,
      not (codes "endsWith") refl c.in_default.not-endsWith,
      not (codes "stringContains") refl c.in_default.not-stringContains,
      not (codes "concat") refl c.in_default.not-concat,
      not (codes "substring") refl c.in_default.not-substring,
      not (codes "between") refl c.in_default.not-between,
      not (codes "string") refl c.in_default.not-string,
      not (codes "number") refl c.in_default.not-number,
      not (codes "cidrMatch") refl c.in_default.not-cidrMatch,
    )
