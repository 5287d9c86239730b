-- Escapes of strings.
use Rattle.std.specs.Prelude.{ℕ, ◌+◌, List, [], ◌∷◌, drop, take, ◌&&◌, ◌==◌, nat_le, Option, Some, None, if◌then◌else◌}
use Rattle.std.specs.List.{prefix_len}
use lib.Utf8.{scalar}
use Rattle.eql_lexer.specs.Bytes.{begins, is_hex, hex_number}

-- The character of `{`, two to eight hexadecimal digits that name a Unicode scalar value, and `}`; and what follows.
abbrev pub unicode : List ℕ → Option (ℕ × List ℕ)
unicode [] = None
unicode (b ∷ bs) =
    let n = prefix_len is_hex bs in
    let c = hex_number 0 (take n bs) in
    if (b == 123) && nat_le 2 n && nat_le n 8 && begins 125 (drop n bs) && scalar c then Some (c, drop (n + 1) bs) else None

-- The character of an escape, from behind its backslash: `n`, `r`, `t`, a backslash, a quote, or `u` with a number;
-- and what follows it.
abbrev pub escape : List ℕ → Option (ℕ × List ℕ)
escape [] = None
escape (c ∷ bs) =
    if c == 110 then Some (10, bs) else
    (if c == 114 then Some (13, bs) else
    (if c == 116 then Some (9, bs) else
    (if c == 92 then Some (92, bs) else
    (if c == 34 then Some (34, bs) else
    (if c == 117 then unicode bs else None)))))
