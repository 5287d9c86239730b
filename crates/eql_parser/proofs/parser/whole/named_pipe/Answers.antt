use Rattle.std.proofs.Common.{rules, ◌≡◌, ◌≢◌, ℕ, List, true, nat_lt, codes, refl, sym, false}
use Rattle.std.specs.List.{list_all}
use Rattle.std.specs.Str.{chars, bytes_eq}
use Rattle.eql_parser.proofs.Spellings.{no_word}
use Rattle.eql_parser.proofs.parser.whole.named_pipe.Goals as goal

pub returns-in-Ok : goal.returns-in-Ok
unfolding chars lib.Utf8.encode
returns-in-Ok c = rw (sym c.text.ensures, c.in-head.is) (search rules)

pub returns-in-Err : goal.returns-in-Err
unfolding chars lib.Utf8.encode
returns-in-Err c = rw (sym c.text.ensures, c.in-head.is) (search rules)

pub returns-in-Ok-number_of : goal.returns-in-Ok-number_of
unfolding chars lib.Utf8.encode
returns-in-Ok-number_of c = rw (sym c.text.ensures, c.in-tail.is) (search rules)

pub returns-in-Err-number_of : goal.returns-in-Err-number_of
unfolding chars lib.Utf8.encode
returns-in-Err-number_of c = rw (sym c.text.ensures, c.in-tail.is) (search rules)

pub returns-in-Ok-clone : goal.returns-in-Ok-clone
returns-in-Ok-clone c =
    let not : (word : List ℕ) → list_all (λ b. nat_lt b 128) word ≡ true → c.text.result.now ≢ word → bytes_eq c.args.word.now word ≡ false = no_word c.text.result.now c.args.word.now c.text.utf8 c.text.ensures in
    rw (not (codes "head") refl c.in_default.not-head, not (codes "tail") refl c.in_default.not-tail) (search rules)
