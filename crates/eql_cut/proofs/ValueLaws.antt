-- The formats of a cut's values are lawful.
use Rattle.std.proofs.Common.{◌≡◌, ◌⊎◌, inl, inr, ℕ, zero, suc, ℤ, ◌+◌, ◌*◌, ◌/◌, ◌%◌, ◌^◌, ◌<◌, ◌≤◌, ltb, Bool, List, [], ◌++◌, length, take, drop, Some, None, refl, sym, ◌∙◌, ap, subst, arith}
use Rattle.std.proofs.lemmas.Bool.{ltb-true, ltb-false, le-ltb, cond-false}
use Rattle.std.proofs.lemmas.List.{take-append-drop, length-take-le}
use Rattle.std.proofs.lemmas.Nat.{be_bytes_4, from_be_bytes-to_be_bytes_4}
use Rattle.std.proofs.lemmas.Int.{of_z-to_z}
use Rattle.std.proofs.lemmas.Str.{encodes-chars, IsUtf8-from_is_utf8}
use Rattle.std.proofs.Math.Utf8.{encodes}
use Rattle.std.specs.Int.{w32, w64, w128, cast_signed, cast_unsigned, to_be_bytes, from_be_bytes}
use Rattle.std.specs.Str.{chars, is_utf8}
use Rattle.eql_digest.specs.Digests.{start, with_bytes}
use Rattle.eql_cut.specs.declared.reader.Version.{Version}
use Rattle.eql_cut.specs.declared.reader.Version.TheVariants as version
use Rattle.eql_cut.specs.Formats.{IsBytes, number, both, only, option, truth, list, so_many, byte, empty, never, case}
use Rattle.eql_cut.specs.Values.{sixteen, signed_16, signed_8, order_with_place, order_without, order, octets_text, octets_read, octets, in_front, mapped, address, text, value_of, parts_of, field, mask_of_two, mask_of_one, mask, route, routes_stand, routes, item, items_ascend, items, reason_of, reason_number, why, first_bad, counts, digest_of_ten, digest_of_none, digest, lane}
use Rattle.eql_cut.proofs.Laws.{Lawful, guard_some, front_is_bytes, eight, four, both_lawful, as_lawful, only_lawful, the_number_lawful, option_lawful, list_lawful, so_many_lawful, truth_lawful, byte_lawful, empty_lawful, never_lawful, case_lawful}

split_16 : (x : ℕ × ℕ) → (x.0 < 2 ^ 64) × (x.1 < 2 ^ 64) → ((x.1 * 2 ^ 64 + x.0) % 2 ^ 64, (x.1 * 2 ^ 64 + x.0) / 2 ^ 64) ≡ x
split_16 x fits =
    let low : (x.1 * 2 ^ 64 + x.0) % 2 ^ 64 ≡ x.0 = omega (arith, fits.0) in
    let high : (x.1 * 2 ^ 64 + x.0) / 2 ^ 64 ≡ x.1 = omega (arith, fits.0) in
    λ i. (low i, high i)

sixteen_lawful : Lawful sixteen
sixteen_lawful = as_lawful _ _ (both (number w64) (number w64)) (both_lawful (number w64) (number w64) eight eight) split_16

below_16 : (n : ℕ) → sixteen.Fits n → n < 2 ^ 128
below_16 n fits = omega (arith, fits.0.0, fits.0.1)

pub signed_16_lawful : Lawful signed_16
signed_16_lawful = as_lawful (cast_signed w128) (cast_unsigned w128) sixteen sixteen_lawful (λ n fits. of_z-to_z w128 n (below_16 n fits))

signed_8_lawful : Lawful signed_8
signed_8_lawful = as_lawful (cast_signed w64) (cast_unsigned w64) (number w64) eight (λ n fits. of_z-to_z w64 n fits)

order_with_place_lawful : Lawful order_with_place
order_with_place_lawful = as_lawful _ _ (both signed_16 (both (option signed_8) (both (number w32) (both (number w32) (number w64)))))
    (both_lawful _ _ signed_16_lawful (both_lawful _ _ (option_lawful _ signed_8_lawful) (both_lawful _ _ four (both_lawful _ _ four eight)))) (λ x fits. refl)

order_without_lawful : Lawful order_without
order_without_lawful = as_lawful _ _ (both signed_16 (both (option signed_8) (both (number w32) (number w32))))
    (both_lawful _ _ signed_16_lawful (both_lawful _ _ (option_lawful _ signed_8_lawful) (both_lawful _ _ four four))) (λ x fits. refl)

pub order_lawful : (v : Version) → Lawful (order v)
order_lawful version.One = order_without_lawful
order_lawful version.Two = order_with_place_lawful
order_lawful version.Three = order_with_place_lawful
order_lawful version.Four = order_with_place_lawful

pub text_lawful : Lawful text
text_lawful =
    as_lawful chars encodes (only is_utf8 (list byte)) (only_lawful is_utf8 (list byte) (list_lawful byte byte_lawful)) (λ bytes fits. encodes-chars bytes (IsUtf8-from_is_utf8 bytes fits.1))

parts_back : (x : Unit {0} ⊎ (Bool ⊎ (ℤ ⊎ (List ℕ ⊎ (ℕ ⊎ ⊥))))) → parts_of (value_of x) ≡ x
parts_back (inl u) = refl
parts_back (inr (inl b)) = refl
parts_back (inr (inr (inl n))) = refl
parts_back (inr (inr (inr (inl t)))) = refl
parts_back (inr (inr (inr (inr (inl ip))))) = refl
parts_back (inr (inr (inr (inr (inr none))))) = absurd none

octets_bound : (x : List ℕ) → IsBytes x → from_be_bytes w32 x < 2 ^ 32
octets_bound x all = omega (arith, all 0, all 1, all 2, all 3)

-- four bytes, the highest first
octets_lawful : Lawful octets
unfolding octets_text octets_read
octets_lawful = record {
  again = λ n rest fits.
      cond-false (ltb (length (to_be_bytes w32 n ++ rest)) 4) None (Some (from_be_bytes w32 (to_be_bytes w32 n), rest)) (le-ltb (length (to_be_bytes w32 n ++ rest)) 4 (omega arith))
      ∙ ap (λ m. Some (m, rest)) (from_be_bytes-to_be_bytes_4 n fits);
  exact = λ bytes n rest all is.
      let g = guard_some (ltb (length bytes) 4) (from_be_bytes w32 (take 4 bytes), drop 4 bytes) (n, rest) is in
      let long : 4 ≤ length bytes = ltb-false (length bytes) 4 g.0 in
      let value : from_be_bytes w32 (take 4 bytes) ≡ n = ap (λ (p : ℕ × List ℕ). p.0) g.1 in
      let behind : drop 4 bytes ≡ rest = ap (λ (p : ℕ × List ℕ). p.1) g.1 in
      let small : IsBytes (take 4 bytes) = front_is_bytes 4 bytes all in
      let back : to_be_bytes w32 n ≡ take 4 bytes = be_bytes_4 (take 4 bytes) n (length-take-le 4 bytes long) small (sym value) in
      (subst (λ m. m < 2 ^ 32) value (octets_bound (take 4 bytes) small), sym (take-append-drop 4 bytes) ∙ (λ i. sym back i ++ behind i));
}

mapped_lawful : Lawful mapped
mapped_lawful = as_lawful _ _ (both in_front octets) (both_lawful in_front octets (both_lawful _ _ (the_number_lawful w64 0 eight) (the_number_lawful w32 0xffff0000 four)) octets_lawful) (λ x fits. refl)

address_lawful : (v : Version) → Lawful (address v)
address_lawful version.One = four
address_lawful version.Two = four
address_lawful version.Three = four
address_lawful version.Four = mapped_lawful

pub field_lawful : (v : Version) → Lawful (field v)
field_lawful v =
    as_lawful value_of parts_of (case 0 empty (case 1 truth (case 2 signed_8 (case 3 text (case 4 (address v) never)))))
    (case_lawful 0 empty _ empty_lawful
    (case_lawful 1 truth _ truth_lawful
    (case_lawful 2 signed_8 _ signed_8_lawful (case_lawful 3 text _ text_lawful (case_lawful 4 (address v) never (address_lawful v) never_lawful (λ bytes. refl) refl) (λ bytes. refl) refl) (λ bytes. refl) refl)
    (λ bytes. refl) refl)
    (λ bytes. refl) refl)
    (λ x fits. parts_back x)

mask_of_two_lawful : Lawful mask_of_two
mask_of_two_lawful = as_lawful _ _ (both sixteen sixteen) (both_lawful sixteen sixteen sixteen_lawful sixteen_lawful) (λ x fits. refl)

mask_of_one_lawful : Lawful mask_of_one
mask_of_one_lawful = as_lawful _ _ sixteen sixteen_lawful (λ n fits. refl)

mask_lawful : (v : Version) → Lawful (mask v)
mask_lawful version.One = mask_of_one_lawful
mask_lawful version.Two = mask_of_one_lawful
mask_lawful version.Three = mask_of_two_lawful
mask_lawful version.Four = mask_of_two_lawful

module _ (v : Version) where
  route_lawful : Lawful (route v)
  route_lawful = as_lawful _ _ (both (list (field v)) (both (mask v) truth)) (both_lawful _ _ (list_lawful (field v) (field_lawful v)) (both_lawful (mask v) truth (mask_lawful v) truth_lawful)) (λ x fits. refl)

  routes_lawful : Lawful (routes v)
  routes_lawful = only_lawful routes_stand (list (route v)) (list_lawful (route v) route_lawful)

  item_lawful : Lawful (item v)
  item_lawful = as_lawful _ _ (both (order v) (routes v)) (both_lawful (order v) (routes v) (order_lawful v) routes_lawful) (λ x fits. refl)

  items_lawful : Lawful (items v)
  items_lawful = only_lawful items_ascend (list (item v)) (list_lawful (item v) item_lawful)

place_back : (n : ℕ) → n < 8 → reason_number (reason_of n) ≡ n
place_back zero lt = refl
place_back (suc zero) lt = refl
place_back (suc (suc zero)) lt = refl
place_back (suc (suc (suc zero))) lt = refl
place_back (suc (suc (suc (suc zero)))) lt = refl
place_back (suc (suc (suc (suc (suc zero))))) lt = refl
place_back (suc (suc (suc (suc (suc (suc zero)))))) lt = refl
place_back (suc (suc (suc (suc (suc (suc (suc zero))))))) lt = refl
place_back (suc (suc (suc (suc (suc (suc (suc (suc n)))))))) lt = absurd (omega arith)

why_lawful : Lawful why
why_lawful = as_lawful reason_of reason_number (only (λ n. ltb n 8) byte) (only_lawful (λ n. ltb n 8) byte byte_lawful) (λ n fits. place_back n (ltb-true n 8 fits.1))

first_bad_lawful : Lawful first_bad
first_bad_lawful = as_lawful _ _ (both (number w32) why) (both_lawful (number w32) why four why_lawful) (λ x fits. refl)

counts_lawful : Lawful counts
counts_lawful = as_lawful _ _ (both (number w32) (both (number w32) (both (number w32) (both (number w32) (option first_bad)))))
    (both_lawful _ _ four (both_lawful _ _ four (both_lawful _ _ four (both_lawful _ _ four (option_lawful first_bad first_bad_lawful))))) (λ x fits. refl)

digest_of_ten_lawful : Lawful digest_of_ten
digest_of_ten_lawful = as_lawful _ _ (both (so_many 8 (number w64)) (both (number w64) (number w64)))
    (both_lawful _ _ (so_many_lawful (number w64) eight 8) (both_lawful _ _ eight eight)) (λ x fits. refl)

digest_of_none_lawful : Lawful digest_of_none
digest_of_none_lawful = as_lawful (λ (u : Unit {0}). with_bytes start []) (λ d. tt) empty empty_lawful (λ u fits. refl)

digest_lawful : (v : Version) → Lawful (digest v)
digest_lawful version.One = digest_of_none_lawful
digest_lawful version.Two = digest_of_none_lawful
digest_lawful version.Three = digest_of_none_lawful
digest_lawful version.Four = digest_of_ten_lawful

pub lane_lawful : (v : Version) → Lawful (lane v)
lane_lawful v = as_lawful _ _ (both (number w64) (both (digest v) (both truth (both (option signed_16) (both counts (items v))))))
    (both_lawful _ _ eight
    (both_lawful _ _ (digest_lawful v) (both_lawful _ _ truth_lawful (both_lawful _ _ (option_lawful signed_16 signed_16_lawful) (both_lawful counts (items v) counts_lawful (items_lawful v))))))
    (λ x fits. refl)
