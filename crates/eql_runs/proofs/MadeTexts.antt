-- Each text of a run of `made` can be read to its end.
use Rattle.std.proofs.Common.{ℕ, zero, suc, ◌/◌, ◌%◌, ◌+◌, ◌*◌, ◌≤◌, ◌<◌, ◌==◌, Bool, true, false, cond, List, [], ◌∷◌, ◌++◌, length, length-append, arith}
use Rattle.std.specs.Prelude.{codes}
use Rattle.std.specs.Fmt.{decimal}
use Rattle.std.proofs.lemmas.Fmt.{length-decimal-le}
use Rattle.std.proofs.lemmas.List.Elements.{All-nil, All-cons}
use Rattle.eql_laws.proofs.Counted.{lines_by_bytes}
use Rattle.eql_runs.specs.Made.{process_name, made_line, made_text}
use Rattle.eql_runs.specs.Files.{IsWithin}
use Rattle.eql_runs.specs.RunLaws.{MadeIsWithin}

short_name : (a b : Bool) → length (cond a (codes "attrib") (cond b (codes "bash") (codes "cat"))) ≤ 6
unfolding lib.Utf8.encode
short_name true b = omega arith
short_name false true = omega arith
short_name false false = omega arith

seven : (a b c d e f g : List ℕ) → length a + length b + length c + length d + length e + length f + length g ≤ 200
    → length (a ++ b ++ c ++ d ++ e ++ f ++ g) ≤ 200
seven a b c d e f g h =
    omega (
      arith,
      h,
      length-append (a ++ b ++ c ++ d ++ e ++ f) g,
      length-append (a ++ b ++ c ++ d ++ e) f,
      length-append (a ++ b ++ c ++ d) e,
      length-append (a ++ b ++ c) d,
      length-append (a ++ b) c,
      length-append a b,
    )

-- a line has at most 200 bytes
short_line : (i : ℕ) → i < 1000000 → length (made_line i) ≤ 200
unfolding lib.Utf8.encode
short_line i few =
    let number = length-decimal-le 7 i (omega arith) (omega (arith, few)) (omega (arith, few)) in
    let user = length-decimal-le 2 (i % 100) (omega arith) (omega arith) (omega arith) in
    let name = short_name (i / 100 % 3 == 0) (i / 100 % 3 == 1) in
    seven (codes "{\"@timestamp\":") (decimal i) (codes ",\"event\":{\"category\":\"process\"},\"user\":{\"name\":\"u")
    (decimal (i % 100)) (codes "\"},\"process\":{\"name\":\"") (process_name i) (codes "\"}}\n")
    (omega (arith, number, user, name))

one_line : (c : Bool) (line : List ℕ) → length line ≤ 200 → length (cond c line []) ≤ 200
one_line true line h = h
one_line false line h = omega arith

short_text : (text n : ℕ) → n ≤ 1000000 → length (made_text text n) ≤ 200 * n
short_text text zero few = omega arith
short_text text (suc n) few =
    omega (
      arith,
      short_text text n (omega (arith, few)),
      one_line (n % 4 == text) (made_line n) (short_line n (omega (arith, few))),
      length-append (made_text text n) (cond (n % 4 == text) (made_line n) []),
    )

text_is_within : (text n : ℕ) → n ≤ 1000000 → IsWithin (made_text text n)
text_is_within text n few = record {
  lines = (let short = short_text text n few in let lines = lines_by_bytes (made_text text n) in omega (arith, short, lines, few));
  bytes = (let short = short_text text n few in omega (arith, short, few));
}

pub made_is_within : MadeIsWithin
made_is_within n few =
    let one = λ (text : ℕ). text_is_within text n few in
    All-cons IsWithin (made_text 0 n) (made_text 1 n ∷ made_text 2 n ∷ made_text 3 n ∷ []) (one 0)
    (All-cons IsWithin (made_text 1 n) (made_text 2 n ∷ made_text 3 n ∷ []) (one 1)
    (All-cons IsWithin (made_text 2 n) (made_text 3 n ∷ []) (one 2)
    (All-cons IsWithin (made_text 3 n) [] (one 3) (All-nil IsWithin))))
