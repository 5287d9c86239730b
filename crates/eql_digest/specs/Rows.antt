-- Worked rows of the checksum and the digest, computed. What is expected was worked out apart from the program: the checksum as the rest
-- of one long division, and the digest from whole words.
use Rattle.std.specs.Prelude.{◌≡◌, ℕ, zero, suc, List, [], ◌∷◌, ◌++◌, codes, refl}
use Rattle.eql_digest.specs.Checksums.{divided_by_bits, rest_after, checksum_of}
use Rattle.eql_digest.specs.Laws.{bits_of}
use Rattle.eql_digest.specs.Digests.{with_word, with_byte, with_bytes, mixed, digest_of}

-- of this text every table of checksums has it (CRC-64/XZ)
checksum_of_digits : checksum_of (codes "123456789") ≡ 0x995DC9BBDF1939FA
unfolding divided_by_bits rest_after
checksum_of_digits = refl

checksum_of_nothing : checksum_of [] ≡ 0
unfolding divided_by_bits rest_after
checksum_of_nothing = refl

digest_of_nothing : digest_of [] ≡ 0x7A50C3364310DE87
unfolding with_bytes mixed
digest_of_nothing = refl

-- a word and one byte more
digest_of_digits : digest_of (codes "123456789") ≡ 0xB653FD9058254228
unfolding with_word with_byte with_bytes mixed
digest_of_digits = refl

-- the bytes from 0 on
abbrev bytes_up_to : ℕ → List ℕ
bytes_up_to zero = []
bytes_up_to (suc n) = bytes_up_to n ++ n ∷ []

-- each lane takes a word, and one byte is left
digest_of_a_block : digest_of (bytes_up_to 65) ≡ 0x2BB9A76F0453C488
unfolding with_word with_byte with_bytes mixed
digest_of_a_block = refl

-- the first lane takes a second word
digest_of_more : digest_of (bytes_up_to 77) ≡ 0x2D30B0B6A4450642
unfolding with_word with_byte with_bytes mixed
digest_of_more = refl

-- two bytes as one number
bits_of_two : bits_of (1 ∷ 128 ∷ []) ≡ 0x8001
unfolding bits_of
bits_of_two = refl
