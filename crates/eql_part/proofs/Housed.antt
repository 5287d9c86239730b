-- How each key's place stays right as rooms get and lose their keys.
use Rattle.std.proofs.Common.{◌≡◌, ◌⊎◌, ℕ, zero, suc, Bool, true, false, cond, List, [], ◌∷◌, ◌++◌, Option, Some, None, refl, sym, ap, ◌∙◌, subst, arith, inl, inr}
use Rattle.std.specs.Prelude.{slice_get, slice_set}
use Rattle.eql_values.specs.declared.value.Value.{Value}
use Rattle.eql_values.specs.Orders.{key_eq}
use Rattle.eql_part.specs.declared.table.Room.{Room}
use Rattle.eql_part.specs.Hashes.{key_hash}
use Rattle.eql_part.specs.Rooms.{IsHoused, IsNamed, IsUnnamed, is_key, is_there, key_at, key_in, place_by}
use Rattle.eql_part.proofs.Busy.{own_key}
use Rattle.eql_part.proofs.Linking.{same_key}

-- an element in place of another
pub get_here : {A : Type 0} (xs : List A) (p : ℕ) (x y : A) → slice_get xs p ≡ Some y → slice_get (slice_set xs p x) p ≡ Some x
get_here [] p x y e = cc
get_here (z ∷ xs) zero x y e = refl
get_here (z ∷ xs) (suc p) x y e = get_here xs p x y e

-- and the others
pub get_apart : {A : Type 0} (xs : List A) (p q : ℕ) (x : A) → (q ≡ p → ⊥) → slice_get (slice_set xs p x) q ≡ slice_get xs q
get_apart [] p q x ne = refl
get_apart (z ∷ xs) zero zero x ne = absurd (ne refl)
get_apart (z ∷ xs) zero (suc q) x ne = refl
get_apart (z ∷ xs) (suc p) zero x ne = refl
get_apart (z ∷ xs) (suc p) (suc q) x ne = get_apart xs p q x (λ e. ne (ap suc e))

-- two places are one or they aren't
pub one_or_two : (q p : ℕ) → (q ≡ p) ⊎ (q ≡ p → ⊥)
one_or_two zero zero = inl refl
one_or_two zero (suc p) = inr (λ e. absurd (omega (arith, e)))
one_or_two (suc q) zero = inr (λ e. absurd (omega (arith, e)))
one_or_two (suc q) (suc p) = by (one_or_two q p)
  where
    by : (q ≡ p) ⊎ (q ≡ p → ⊥) → (suc q ≡ suc p) ⊎ (suc q ≡ suc p → ⊥)
    by (inl e) = inl (ap suc e)
    by (inr ne) = inr (λ e. ne (omega (arith, e)))

pub key_is : (o : Option (List Value)) (q : List Value) → is_key o q ≡ true → o ≡ Some q
key_is None q e = cc
key_is (Some own) q e = ap Some (same_key own q e)

pub own_is : (q : List Value) → is_key (Some q) q ≡ true
own_is q = own_key q

-- where no room has the key under its hash, the place is that under the key
other_if : {A : Type 0} (b : Bool) (x y : A) → b ≡ false → cond b x y ≡ y
other_if b x y e = ap (λ (c : Bool). cond c x y) e

module _ {L : Type 0} where
  pub key_here : (rooms : List (Room L)) (p : ℕ) (room now : Room L) → slice_get rooms p ≡ Some room → key_at (slice_set rooms p now) p ≡ now.key
  key_here rooms p room now at = ap key_in (get_here rooms p now room at)

  pub key_apart : (rooms : List (Room L)) (p q : ℕ) (now : Room L) → (q ≡ p → ⊥) → key_at (slice_set rooms p now) q ≡ key_at rooms q
  key_apart rooms p q now ne = ap key_in (get_apart rooms p q now ne)

  under_alike : (rooms now : List (Room L)) (q : List Value) → ((p : ℕ) → is_key (key_at now p) q ≡ is_key (key_at rooms p) q) → (o : Option ℕ) → is_there now o q ≡ is_there rooms o q
  under_alike rooms now q alike None = refl
  under_alike rooms now q alike (Some p) = alike p

  module _ (under : ℕ → Option ℕ) (other : List Value → Option ℕ) (rooms : List (Room L)) where
    -- the room at a key's place has the key
    pub room_there : IsHoused under other rooms → (key : List Value) (p : ℕ) → place_by under other rooms key ≡ Some p → key_at rooms p ≡ Some key
    room_there h key p e = by (is_there rooms (under (key_hash key)) key) refl e
      where
        by : (b : Bool) → is_there rooms (under (key_hash key)) key ≡ b → cond b (under (key_hash key)) (other key) ≡ Some p → key_at rooms p ≡ Some key
        by true t u = key_is (key_at rooms p) key (sym (ap (λ (o : Option ℕ). is_there rooms o key) u) ∙ t)
        by false t u = h.other_is key p u

    none_other : (key : List Value) → place_by under other rooms key ≡ None → other key ≡ None
    none_other key e = by (is_there rooms (under (key_hash key)) key) refl e
      where
        by : (b : Bool) → is_there rooms (under (key_hash key)) key ≡ b → cond b (under (key_hash key)) (other key) ≡ None → other key ≡ None
        by true t u = let wrong = sym (ap (λ (o : Option ℕ). is_there rooms o key) u) ∙ t in cc
        by false t u = u

    -- rooms with the same keys at the same places
    module _ (now : List (Room L)) (same : (p : ℕ) → key_at now p ≡ key_at rooms p) where
      pub place_alike : (q : List Value) → place_by under other now q ≡ place_by under other rooms q
      place_alike q = ap (λ (b : Bool). cond b (under (key_hash q)) (other q)) (under_alike rooms now q (λ p. ap (λ (o : Option (List Value)). is_key o q) (same p)) (under (key_hash q)))

      pub housed_alike : IsHoused under other rooms → IsHoused under other now
      housed_alike h = record {
        other_is = λ key p e. same p ∙ h.other_is key p e;
        found = λ p key e. place_alike key ∙ h.found p key (sym (same p) ∙ e);
      }

    module _ (h : IsHoused under other rooms) (key : List Value) (p : ℕ) (room : Room L) (at : slice_get rooms p ≡ Some room)
        (now_under : ℕ → Option ℕ) (now_other : List Value → Option ℕ) where
      -- a key without a place gets the room at p
      module _ (named : IsNamed key p under now_under other now_other) (spare : key_at rooms p ≡ None) (absent : place_by under other rooms key ≡ None) where
        abbrev pub in_rooms : List (Room L)
        in_rooms = slice_set rooms p (record room { key = Some key })

        key_now : key_at in_rooms p ≡ Some key
        key_now = key_here rooms p room (record room { key = Some key }) at

        in_alike : (q : List Value) → key_eq key q ≡ false → (r : ℕ) → is_key (key_at in_rooms r) q ≡ is_key (key_at rooms r) q
        in_alike q ne r = by (one_or_two r p)
          where
            by : (r ≡ p) ⊎ (r ≡ p → ⊥) → is_key (key_at in_rooms r) q ≡ is_key (key_at rooms r) q
            by (inl e) =
                ap (λ (n : ℕ). is_key (key_at in_rooms n) q) e ∙ ap (λ (o : Option (List Value)). is_key o q) key_now ∙ ne
                ∙ sym (ap (λ (n : ℕ). is_key (key_at rooms n) q) e ∙ ap (λ (o : Option (List Value)). is_key o q) spare)
            by (inr apart) = ap (λ (o : Option (List Value)). is_key o q) (key_apart rooms p r (record room { key = Some key }) apart)

        pub in_others : (q : List Value) → key_eq key q ≡ false → place_by now_under now_other in_rooms q ≡ place_by under other rooms q
        in_others q ne = by (named.hashes (key_hash q))
          where
            u : Option ℕ
            u = under (key_hash q)

            by : (now_under (key_hash q) ≡ u) ⊎ ((u ≡ None) × (now_under (key_hash q) ≡ Some p)) → place_by now_under now_other in_rooms q ≡ place_by under other rooms q
            by (inl e) =
                (λ i. cond (is_there in_rooms (e i) q) (e i) (named.keys q ne i))
                ∙ ap (λ (b : Bool). cond b u (other q)) (under_alike rooms in_rooms q (in_alike q ne) u)
            by (inr both) =
                (λ i. cond (is_there in_rooms (both.1 i) q) (both.1 i) (named.keys q ne i))
                ∙ other_if (is_there in_rooms (Some p) q) (Some p) (other q) (ap (λ (o : Option (List Value)). is_key o q) key_now ∙ ne)
                ∙ sym (λ i. cond (is_there rooms (both.0 i) q) (both.0 i) (other q))

        only_here : (r : ℕ) → key_at in_rooms r ≡ Some key → r ≡ p
        only_here r is = by (one_or_two r p)
          where
            by : (r ≡ p) ⊎ (r ≡ p → ⊥) → r ≡ p
            by (inl e) = e
            by (inr apart) =
                let was = sym (key_apart rooms p r (record room { key = Some key }) apart) ∙ is in
                let wrong = sym absent ∙ h.found r key was in
                cc

        pub in_own : place_by now_under now_other in_rooms key ≡ Some p
        in_own = by named.there
          where
            here : (o : Option ℕ) → cond (is_there in_rooms o key) o (Some p) ≡ Some p
            here None = refl
            here (Some r) = one (is_key (key_at in_rooms r) key) refl
              where
                one : (b : Bool) → is_key (key_at in_rooms r) key ≡ b → cond b (Some r) (Some p) ≡ Some p
                one true t = ap Some (only_here r (key_is (key_at in_rooms r) key t))
                one false t = refl

            by : (now_under (key_hash key) ≡ Some p) ⊎ (now_other key ≡ Some p) → place_by now_under now_other in_rooms key ≡ Some p
            by (inl e) =
                (λ i. cond (is_there in_rooms (e i) key) (e i) (now_other key))
                ∙ ap (λ (b : Bool). cond b (Some p) (now_other key)) (ap (λ (o : Option (List Value)). is_key o key) key_now ∙ own_is key)
            by (inr e) = ap (λ (o : Option ℕ). cond (is_there in_rooms (now_under (key_hash key)) key) (now_under (key_hash key)) o) e ∙ here (now_under (key_hash key))

        in_other : (q : List Value) (r : ℕ) → now_other q ≡ Some r → key_at in_rooms r ≡ Some q
        in_other q r e = by (key_eq key q) refl
          where
            own : (now_other key ≡ other key) ⊎ (now_other key ≡ Some p) → now_other key ≡ Some r → key_at in_rooms r ≡ Some key
            own (inl same) is = let wrong = sym (none_other key absent) ∙ sym same ∙ is in cc
            own (inr same) is = let one : Some p ≡ Some r = sym same ∙ is in let two : p ≡ r = cc in ap (key_at in_rooms) (sym two) ∙ key_now

            by : (b : Bool) → key_eq key q ≡ b → key_at in_rooms r ≡ Some q
            by true t =
                let same = same_key key q t in
                subst (λ (k : List Value). key_at in_rooms r ≡ Some k) same (own named.own (ap now_other same ∙ e))
            by false t =
                let was = h.other_is q r (sym (named.keys q t) ∙ e) in
                key_apart rooms p r (record room { key = Some key }) (λ same. let wrong = sym spare ∙ ap (key_at rooms) (sym same) ∙ was in cc) ∙ was

        in_found : (r : ℕ) (q : List Value) → key_at in_rooms r ≡ Some q → place_by now_under now_other in_rooms q ≡ Some r
        in_found r q is = by (key_eq key q) refl
          where
            by : (b : Bool) → key_eq key q ≡ b → place_by now_under now_other in_rooms q ≡ Some r
            by true t =
                let same = same_key key q t in
                ap (place_by now_under now_other in_rooms) (sym same) ∙ in_own ∙ ap Some (sym (only_here r (is ∙ ap Some (sym same))))
            by false t =
                in_others q t
                ∙ h.found r q
                (sym
                (key_apart rooms p r (record room { key = Some key })
                (λ same.
                let one : Some key ≡ Some q = sym key_now ∙ ap (key_at in_rooms) (sym same) ∙ is in
                let two : key ≡ q = cc in
                let wrong = sym (own_key key) ∙ ap (key_eq key) two ∙ t in
                cc))
                ∙ is)

        pub in_housed : IsHoused now_under now_other in_rooms
        in_housed = record { other_is = in_other; found = in_found }

      -- a key with the room at p loses it
      module _ (unnamed : IsUnnamed key p under now_under other now_other) (placed : place_by under other rooms key ≡ Some p) where
        abbrev pub out_rooms : List (Room L)
        out_rooms = slice_set rooms p (record room { key = None })

        key_was : key_at rooms p ≡ Some key
        key_was = room_there h key p placed

        key_gone : key_at out_rooms p ≡ None
        key_gone = key_here rooms p room (record room { key = None }) at

        out_alike : (q : List Value) → key_eq key q ≡ false → (r : ℕ) → is_key (key_at out_rooms r) q ≡ is_key (key_at rooms r) q
        out_alike q ne r = by (one_or_two r p)
          where
            by : (r ≡ p) ⊎ (r ≡ p → ⊥) → is_key (key_at out_rooms r) q ≡ is_key (key_at rooms r) q
            by (inl e) =
                ap (λ (n : ℕ). is_key (key_at out_rooms n) q) e ∙ ap (λ (o : Option (List Value)). is_key o q) key_gone
                ∙ sym (ap (λ (n : ℕ). is_key (key_at rooms n) q) e ∙ ap (λ (o : Option (List Value)). is_key o q) key_was ∙ ne)
            by (inr apart) = ap (λ (o : Option (List Value)). is_key o q) (key_apart rooms p r (record room { key = None }) apart)

        pub out_others : (q : List Value) → key_eq key q ≡ false → place_by now_under now_other out_rooms q ≡ place_by under other rooms q
        out_others q ne = by (unnamed.hashes (key_hash q))
          where
            u : Option ℕ
            u = under (key_hash q)

            by : (now_under (key_hash q) ≡ u) ⊎ ((u ≡ Some p) × (now_under (key_hash q) ≡ None)) → place_by now_under now_other out_rooms q ≡ place_by under other rooms q
            by (inl e) =
                (λ i. cond (is_there out_rooms (e i) q) (e i) (unnamed.keys q ne i))
                ∙ ap (λ (b : Bool). cond b u (other q)) (under_alike rooms out_rooms q (out_alike q ne) u)
            by (inr both) =
                (λ i. cond (is_there out_rooms (both.1 i) q) (both.1 i) (unnamed.keys q ne i))
                ∙ sym
                ((λ i. cond (is_there rooms (both.0 i) q) (both.0 i) (other q))
                ∙ other_if (is_there rooms (Some p) q) (Some p) (other q) (ap (λ (o : Option (List Value)). is_key o q) key_was ∙ ne))

        none_here : (r : ℕ) → key_at out_rooms r ≡ Some key → ⊥
        none_here r is = by (one_or_two r p)
          where
            by : (r ≡ p) ⊎ (r ≡ p → ⊥) → ⊥
            by (inl e) = let wrong = sym key_gone ∙ ap (key_at out_rooms) (sym e) ∙ is in cc
            by (inr apart) =
                let was = sym (key_apart rooms p r (record room { key = None }) apart) ∙ is in
                let one : Some r ≡ Some p = sym (h.found r key was) ∙ placed in
                apart cc

        pub out_own : place_by now_under now_other out_rooms key ≡ None
        out_own = other_if (is_there out_rooms (now_under (key_hash key)) key) (now_under (key_hash key)) (now_other key) (gone (now_under (key_hash key))) ∙ unnamed.own
          where
            gone : (o : Option ℕ) → is_there out_rooms o key ≡ false
            gone None = refl
            gone (Some r) = one (is_key (key_at out_rooms r) key) refl
              where
                one : (b : Bool) → is_key (key_at out_rooms r) key ≡ b → b ≡ false
                one true t = absurd (none_here r (key_is (key_at out_rooms r) key t))
                one false t = refl

        out_other : (q : List Value) (r : ℕ) → now_other q ≡ Some r → key_at out_rooms r ≡ Some q
        out_other q r e = by (key_eq key q) refl
          where
            by : (b : Bool) → key_eq key q ≡ b → key_at out_rooms r ≡ Some q
            by true t = let wrong = sym unnamed.own ∙ ap now_other (same_key key q t) ∙ e in cc
            by false t =
                let was = h.other_is q r (sym (unnamed.keys q t) ∙ e) in
                key_apart rooms p r (record room { key = None })
                (λ same.
                let one : Some key ≡ Some q = sym key_was ∙ ap (key_at rooms) (sym same) ∙ was in
                let two : key ≡ q = cc in
                let wrong = sym (own_key key) ∙ ap (key_eq key) two ∙ t in
                cc)
                ∙ was

        out_found : (r : ℕ) (q : List Value) → key_at out_rooms r ≡ Some q → place_by now_under now_other out_rooms q ≡ Some r
        out_found r q is = by (key_eq key q) refl
          where
            by : (b : Bool) → key_eq key q ≡ b → place_by now_under now_other out_rooms q ≡ Some r
            by true t = absurd (none_here r (is ∙ ap Some (sym (same_key key q t))))
            by false t =
                out_others q t
                ∙ h.found r q (sym (key_apart rooms p r (record room { key = None }) (λ same. let wrong = sym key_gone ∙ ap (key_at out_rooms) (sym same) ∙ is in cc)) ∙ is)

        pub out_housed : IsHoused now_under now_other out_rooms
        out_housed = record { other_is = out_other; found = out_found }

  -- one more room without a key
  pub push_alike : (rooms : List (Room L)) (room : Room L) → room.key ≡ None → (p : ℕ) → key_at (rooms ++ room ∷ []) p ≡ key_at rooms p
  push_alike [] room none zero = none
  push_alike [] room none (suc p) = refl
  push_alike (r ∷ rooms) room none zero = refl
  push_alike (r ∷ rooms) room none (suc p) = push_alike rooms room none p

  -- a room with another machine
  pub write_alike : (rooms : List (Room L)) (p : ℕ) (room now : Room L) → slice_get rooms p ≡ Some room → now.key ≡ room.key → (q : ℕ) → key_at (slice_set rooms p now) q ≡ key_at rooms q
  write_alike rooms p room now at same q = by (one_or_two q p)
    where
      by : (q ≡ p) ⊎ (q ≡ p → ⊥) → key_at (slice_set rooms p now) q ≡ key_at rooms q
      by (inl e) = ap (key_at (slice_set rooms p now)) e ∙ key_here rooms p room now at ∙ same ∙ sym (ap (key_at rooms) e ∙ ap key_in at)
      by (inr apart) = key_apart rooms p q now apart
