use Rattle.std.proofs.Common.{◌≡◌, ◌≢◌, ℕ, List, true, false, nat_lt, codes, refl, sym}
use Rattle.std.specs.List.{list_all}
use Rattle.std.specs.Str.{chars, bytes_eq}
use Rattle.eql_parser.proofs.Spellings.{no_word}
use Rattle.eql_parser.proofs.parser.sequence.unit_named.Goals as goal

pub returns-in-ms : goal.returns-in-ms
unfolding chars lib.Utf8.encode
returns-in-ms c = rw (sym c.text.ensures, c.in-ms.is)

pub returns-in-s : goal.returns-in-s
unfolding chars lib.Utf8.encode
returns-in-s c = rw (sym c.text.ensures, c.in-s.is)

pub returns-in-m : goal.returns-in-m
unfolding chars lib.Utf8.encode
returns-in-m c = rw (sym c.text.ensures, c.in-m.is)

pub returns-in-h : goal.returns-in-h
unfolding chars lib.Utf8.encode
returns-in-h c = rw (sym c.text.ensures, c.in-h.is)

pub returns-in-d : goal.returns-in-d
unfolding chars lib.Utf8.encode
returns-in-d c = rw (sym c.text.ensures, c.in-d.is)

pub returns-in_default : goal.returns-in_default
returns-in_default c =
    let not : (word : List ℕ) → list_all (λ b. nat_lt b 128) word ≡ true → c.text.result.now ≢ word → bytes_eq c.args.word.now word ≡ false = no_word c.text.result.now c.args.word.now c.text.utf8 c.text.ensures in
    rw (
      not (codes "ms") refl c.in_default.not-ms,
      not (codes "s") refl c.in_default.not-s,
      not (codes "m") refl c.in_default.not-m,
      not (codes "h") refl c.in_default.not-h,
      not (codes "d") refl c.in_default.not-d,
    )
