-- The tags of the pending sequences of a machine.
use Rattle.std.proofs.Common.{◌≡◌, ◌≤◌, ◌+◌, ℕ, zero, suc, List, [], ◌∷◌, ◌++◌, length, replicate, Option, Some, None, refl, sym, ap, ◌∙◌, arith, get_or}
use mir.Val.{bool_byte}
use Rattle.std.specs.Prelude.{All, is_some}
use Rattle.std.specs.List.{Contains}
use Rattle.std.specs.List.Sorted.{IsPermutation}
use Rattle.std.specs.Option.{option_to_list}
use Rattle.std.proofs.lemmas.List.{length-append}
use Rattle.std.proofs.lemmas.List.Elements.{All-contains, All-contains_itself, Contains-append_left}
use Rattle.std.proofs.lemmas.List.Sorted.{IsPermutation-sym, length_permutation, Contains-permutation}
use Rattle.eql_auto.specs.Machine.{Sequence, slot_at, tags_of}
use Rattle.eql_part.specs.Links.{Differ}
use Rattle.eql_part.proofs.Differing.{differ_permutation, differ_left}

module _ {T : Type 0} where
  pub no_tags : (n : ℕ) → tags_of {T = T} (replicate n None) ≡ []
  no_tags zero = refl
  no_tags (suc n) = no_tags n

  pub tags_few : (slots : List (Option (Sequence T))) → length (tags_of slots) ≤ length slots
  tags_few [] = omega arith
  tags_few (None ∷ slots) = let rest = tags_few slots in omega arith
  tags_few (Some s ∷ slots) = let rest = tags_few slots in omega arith

  -- a tag is that of the sequence of a slot
  pub tag_slot : (slots : List (Option (Sequence T))) (t : T) → Contains (tags_of slots) t → (k : ℕ) × (s : Sequence T) × (slot_at slots (suc k) ≡ Some s) × (s.1 ≡ t)
  tag_slot [] t c = let in' = c.1 in absurd (omega arith)
  tag_slot (None ∷ slots) t c = let on = tag_slot slots t c in (suc on.0, on.1, on.2, on.3)
  tag_slot (Some s ∷ slots) t (zero, l, is) = (0, s, refl, is)
  tag_slot (Some s ∷ slots) t (suc k, l, is) = let on = tag_slot slots t (k, omega arith, is) in (suc on.0, on.1, on.2, on.3)

  slot_tag_at : (slots : List (Option (Sequence T))) (k : ℕ) (s : Sequence T) → get_or slots k None ≡ Some s → Contains (tags_of slots) s.1
  slot_tag_at [] k s is = cc
  slot_tag_at (None ∷ slots) zero s is = cc
  slot_tag_at (None ∷ slots) (suc k) s is = slot_tag_at slots k s is
  slot_tag_at (Some r ∷ slots) zero s is = let same : r ≡ s = cc in (0, omega arith, ap (λ (x : Sequence T). x.1) same)
  slot_tag_at (Some r ∷ slots) (suc k) s is = let on = slot_tag_at slots k s is in (suc on.0, (let in' = on.1 in omega arith), on.2)

  pub slot_tag : (slots : List (Option (Sequence T))) (k : ℕ) (s : Sequence T) → slot_at slots k ≡ Some s → Contains (tags_of slots) s.1
  slot_tag slots zero s is = cc
  slot_tag slots (suc k) s is = slot_tag_at slots k s is

  none_at : (slots : List (Option (Sequence T))) (k : ℕ) → tags_of slots ≡ [] → get_or slots k None ≡ None
  none_at [] k e = refl
  none_at (None ∷ slots) zero e = refl
  none_at (None ∷ slots) (suc k) e = none_at slots k e
  none_at (Some s ∷ slots) k e = cc

  -- a machine without tags has no sequences
  pub no_sequence : (slots : List (Option (Sequence T))) (k : ℕ) → tags_of slots ≡ [] → slot_at slots k ≡ None
  no_sequence slots zero e = refl
  no_sequence slots (suc k) e = none_at slots k e

  -- what is gone of the tags before
  module _ (gone now before : List T) (moves : IsPermutation (gone ++ now) before) where
    pub gone_all : (P : T → Type 0) → All P before → All P gone
    gone_all P h k d l = All-contains P before _ h (Contains-permutation (gone ++ now) before _ moves (Contains-append_left gone now _ (All-contains_itself gone k d l)))

    pub gone_differ : Differ before → Differ gone
    gone_differ h = differ_left gone now (differ_permutation before (gone ++ now) (IsPermutation-sym (gone ++ now) before moves) h)

    pub gone_count : length gone + length now ≡ length before
    gone_count = sym (length-append gone now) ∙ sym (length_permutation (gone ++ now) before moves)

  pub tag_most : (tag : Option T) → length (option_to_list tag) ≤ 1
  tag_most None = omega arith
  tag_most (Some t) = omega arith

  pub tag_byte : (tag : Option T) (n : ℕ) → n ≡ bool_byte (is_some tag) → n ≡ length (option_to_list tag)
  tag_byte None n e = e
  tag_byte (Some t) n e = e
