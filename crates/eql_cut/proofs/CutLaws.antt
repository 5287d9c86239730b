-- The formats of a whole cut are lawful.
use Rattle.std.proofs.Common.{◌≡◌, ◌⊎◌, inl, inr, ℕ, zero, suc, ◌<◌, ◌≤◌, true, ◌&&◌, ltb, leb, eqb, List, refl, sym, arith}
use Rattle.std.proofs.lemmas.Bool.{ltb-true, leb-true, eqb-true, and_parts}
use Rattle.std.specs.Int.{w32, w64}
use Rattle.eql_digest.specs.Checksums.{checksum_of}
use Rattle.eql_values.specs.OrderKeys.{events_ascend}
use Rattle.eql_values.specs.declared.found.Numbered.{Numbered}
use Rattle.eql_cut.specs.declared.cut.Cut.{Cut}
use Rattle.eql_cut.specs.declared.reader.Version.{Version}
use Rattle.eql_cut.specs.declared.reader.Version.TheVariants as version
use Rattle.eql_cut.specs.Formats.{number, both, by, only, option, list, byte, never, case}
use Rattle.eql_cut.specs.Values.{signed_16, order, text, field, lane}
use Rattle.eql_cut.specs.CutValues.{kind_of, rank_of, field_kind, names_ascend, mapping, chain, match_, is_full, holder, holders_ascend, holders, numbered_match, numbers_ascend, kept_matches, state_of, seen_by, pipe_state, book, head, has_lanes, cut, version_of, number_of, version_byte, exactly, header_of, header, closing, unclosed, cut_file}
use Rattle.eql_cut.proofs.Laws.{Lawful, eight, four, by_lawful, both_lawful, as_lawful, only_lawful, the_number_lawful, option_lawful, list_lawful, byte_lawful, empty_lawful, never_lawful, case_lawful}
use Rattle.eql_cut.proofs.ValueLaws.{signed_16_lawful, order_lawful, text_lawful, field_lawful, lane_lawful}

rank_back : (n : ℕ) → n < 4 → rank_of (kind_of n) ≡ n
rank_back zero lt = refl
rank_back (suc zero) lt = refl
rank_back (suc (suc zero)) lt = refl
rank_back (suc (suc (suc zero))) lt = refl
rank_back (suc (suc (suc (suc n)))) lt = absurd (omega arith)

kind_lawful : Lawful field_kind
kind_lawful = as_lawful kind_of rank_of (only (λ n. ltb n 4) byte) (only_lawful (λ n. ltb n 4) byte byte_lawful) (λ n fits. rank_back n (ltb-true n 4 fits.1))

mapping_lawful : Lawful mapping
mapping_lawful = only_lawful names_ascend (list (both text field_kind)) (list_lawful (both text field_kind) (both_lawful text field_kind text_lawful kind_lawful))

head_lawful : Lawful head
head_lawful = as_lawful _ _ (both text (both mapping (both (option text) (both (number w64) (number w32)))))
    (both_lawful _ _ text_lawful (both_lawful _ _ mapping_lawful (both_lawful _ _ (option_lawful text text_lawful) (both_lawful _ _ eight four)))) (λ x fits. refl)

seen_back : (x : ℕ ⊎ (List Numbered ⊎ ⊥)) → seen_by (state_of x) ≡ x
seen_back (inl passed) = refl
seen_back (inr (inl kept)) = refl
seen_back (inr (inr none)) = absurd none

module _ (v : Version) where
  chain_lawful : Lawful (chain v)
  chain_lawful = only_lawful events_ascend (list (order v)) (list_lawful (order v) (order_lawful v))

  match_lawful : Lawful (match_ v)
  match_lawful = as_lawful _ _ (both (list (field v)) (chain v)) (both_lawful _ _ (list_lawful (field v) (field_lawful v)) chain_lawful) (λ x fits. refl)

  holder_lawful : Lawful (holder v)
  holder_lawful = only_lawful is_full _ (as_lawful _ _ (both (list (field v)) (both (number w32) (chain v))) (both_lawful _ _ (list_lawful (field v) (field_lawful v)) (both_lawful _ _ four chain_lawful)) (λ x fits. refl))

  holders_lawful : Lawful (holders v)
  holders_lawful = only_lawful holders_ascend (list (holder v)) (list_lawful (holder v) holder_lawful)

  numbered_lawful : Lawful (numbered_match v)
  numbered_lawful = as_lawful _ _ (both (number w64) (match_ v)) (both_lawful _ _ eight match_lawful) (λ x fits. refl)

  kept_lawful : Lawful (kept_matches v)
  kept_lawful = only_lawful numbers_ascend (list (numbered_match v)) (list_lawful (numbered_match v) numbered_lawful)

  pipe_state_lawful : Lawful (pipe_state v)
  pipe_state_lawful =
      as_lawful state_of seen_by (case 0 (number w32) (case 1 (kept_matches v) never))
      (case_lawful 0 (number w32) _ four (case_lawful 1 (kept_matches v) never kept_lawful never_lawful (λ bytes. refl) refl) (λ bytes. refl) refl) (λ x fits. seen_back x)

  book_lawful : Lawful (book v)
  book_lawful = as_lawful _ _ (both (number w64) (both (number w64) (list (pipe_state v)))) (both_lawful _ _ eight (both_lawful _ _ eight (list_lawful (pipe_state v) pipe_state_lawful))) (λ x fits. refl)

  cut_lawful : Lawful (cut v)
  cut_lawful = only_lawful has_lanes _ (as_lawful _ _ (both head (both signed_16 (both (list (lane v)) (both (holders v) (book v)))))
      (both_lawful _ _ head_lawful (both_lawful _ _ signed_16_lawful (both_lawful _ _ (list_lawful (lane v) (lane_lawful v)) (both_lawful _ _ holders_lawful book_lawful)))) (λ x fits. refl))

number_back : (n : ℕ) → 1 ≤ n → n ≤ 4 → number_of (version_of n) ≡ n
number_back zero low high = absurd (omega arith)
number_back (suc zero) low high = refl
number_back (suc (suc zero)) low high = refl
number_back (suc (suc (suc zero))) low high = refl
number_back (suc (suc (suc (suc zero)))) low high = refl
number_back (suc (suc (suc (suc (suc n))))) low high = absurd (omega arith)

within : (n : ℕ) → (leb 1 n && leb n 4) ≡ true → number_of (version_of n) ≡ n
within n is = let p = and_parts (leb 1 n) (leb n 4) is in number_back n (leb-true 1 n p.0) (leb-true n 4 p.1)

version_byte_lawful : Lawful version_byte
version_byte_lawful = as_lawful version_of number_of _ (only_lawful (λ n. leb 1 n && leb n 4) byte byte_lawful) (λ n fits. within n fits.1)

exactly_lawful : (n : ℕ) → Lawful (exactly n)
exactly_lawful n = only_lawful (λ b. eqb b n) byte byte_lawful

header_lawful : Lawful header
header_lawful = as_lawful _ header_of _
    (both_lawful _ _ (exactly_lawful 0x45) (both_lawful _ _ (exactly_lawful 0x51) (both_lawful _ _ (exactly_lawful 0x4c) (both_lawful _ _ (exactly_lawful 0x43) version_byte_lawful))))
    (λ x fits.
    let a = eqb-true x.0 0x45 fits.0.1 in
    let b = eqb-true x.1.0 0x51 fits.1.0.1 in
    let c = eqb-true x.1.1.0 0x4c fits.1.1.0.1 in
    let d = eqb-true x.1.1.1.0 0x43 fits.1.1.1.0.1 in
    λ i. (sym a i, (sym b i, (sym c i, (sym d i, x.1.1.1.1)))))

pub unclosed_lawful : Lawful unclosed
unclosed_lawful = by_lawful header cut header_lawful cut_lawful

closing_lawful : (v : Version) (bytes : List ℕ) → Lawful (closing v bytes)
closing_lawful version.One bytes = empty_lawful
closing_lawful version.Two bytes = empty_lawful
closing_lawful version.Three bytes = empty_lawful
closing_lawful version.Four bytes = the_number_lawful w64 (checksum_of bytes) eight

pub cut_file_lawful : Lawful cut_file
cut_file_lawful =
    as_lawful _ _ (by unclosed (λ (x : Version × Cut). closing x.0 (unclosed.text x))) (by_lawful unclosed _ unclosed_lawful (λ x. closing_lawful x.0 (unclosed.text x)))
    (λ x fits. refl)
