-- Lists of lines and places that were noted of texts.
use Rattle.std.proofs.Common.{◌≡◌, ◌+◌, ◌++◌, eqb, cond, Bool, true, false, ℕ, zero, suc, List, [], ◌∷◌, map, refl, sym, ap, subst, ◌∙◌, arith}
use Rattle.std.specs.Prelude.{All, Contains}
use Rattle.std.proofs.lemmas.Bool.{eqb-true, eqb-false}
use Rattle.std.proofs.lemmas.List.Elements.{All-head, All-tail, All-weaker, All-map}
use Rattle.std.proofs.lemmas.Map.Made.{Contains-tail}
use Rattle.eql_values.specs.declared.order.OrderKey.{OrderKey}
use Rattle.eql_values.specs.Lines.{lines_in}
use Rattle.eql_laws.specs.Counting.{front}
use Rattle.eql_laws.specs.Places.{ReadTo, whole}
use Rattle.eql_laws.proofs.Lists.{map_back}
use Rattle.eql_cut.specs.declared.cut.Cut.{Cut}
use Rattle.eql_cut.specs.Placing.{NamesLine, place_in, listed_place, orders_in}
use Rattle.eql_cut.specs.Placed.{place_of_line, place_in_texts, HasLine, IsLineAt, EachWasNoted}
use Rattle.eql_cut.specs.PlacedLaws.{WantedWereNoted, NotedIsPlaced}
use Rattle.eql_cut.proofs.LinePlaces.{line_stands, in_whole}
use Rattle.eql_cut.proofs.Setting.{same_lifted, each_named}

-- the place of a line by a list that has it
place_noted : (first rest : List ℕ) (places : List (ℕ × ℕ)) (line : ℕ) → All (IsLineAt first) places → Contains (map (λ (e : ℕ × ℕ). e.0) places) line
    → place_in places line ≡ place_of_line (lines_in (first ++ rest)) line
place_noted first rest [] line are has = absurd (omega (arith, has.1))
place_noted first rest (entry ∷ places) line are has =
    one (eqb entry.0 line) refl (λ found. place_noted first rest places line (All-tail (IsLineAt first) entry places are) found)
  where
    one : (b : Bool) → eqb entry.0 line ≡ b
        → (Contains (map (λ (e : ℕ × ℕ). e.0) places) line → place_in places line ≡ place_of_line (lines_in (first ++ rest)) line)
        → cond b entry.1 (place_in places line) ≡ place_of_line (lines_in (first ++ rest)) line
    one true e behind =
        sym (in_whole first rest entry.0 entry.1 (line_stands first entry (All-head (IsLineAt first) entry places are)))
        ∙ ap (place_of_line (lines_in (first ++ rest))) (eqb-true entry.0 line e)
    one false e behind = behind (Contains-tail entry.0 (map (λ (x : ℕ × ℕ). x.0) places) line (eqb-false entry.0 line e) has)

-- of the shards from this one on
shard_noted : (cut : Cut) (shard : ℕ) (shards : List ReadTo) (lists : List (List (ℕ × ℕ))) → EachWasNoted cut shard (map front shards) lists
    → (k line : ℕ) → NamesLine cut (shard + k) line → listed_place lists k line ≡ place_in_texts (map whole shards) k line
shard_noted cut shard [] [] each k line named = refl
shard_noted cut shard [] (places ∷ lists) each k line named = absurd each
shard_noted cut shard (r ∷ shards) [] each k line named = absurd each
shard_noted cut shard (r ∷ shards) (places ∷ lists) each zero line named =
    place_noted r.first r.rest places line each.0.are_lines (each.0.has_all line (subst (λ (s : ℕ). NamesLine cut s line) (same shard) named))
  where
    same : (s : ℕ) → s + 0 ≡ s
    same s = omega arith
shard_noted cut shard (r ∷ shards) (places ∷ lists) each (suc k) line named =
    shard_noted cut (shard + 1) shards lists each.1 k line (subst (λ (s : ℕ). NamesLine cut s line) (same shard k) named)
  where
    same : (s n : ℕ) → s + suc n ≡ s + 1 + n
    same s n = omega arith

pub noted_is_placed : NotedIsPlaced
noted_is_placed shards cut lists each =
    same_lifted (listed_place lists) (place_in_texts (map whole shards)) cut
    (All-weaker (λ (o : OrderKey). NamesLine cut o.shard o.line) (λ (o : OrderKey). listed_place lists o.shard o.line ≡ place_in_texts (map whole shards) o.shard o.line)
    (λ o named. shard_noted cut 0 shards lists each o.shard o.line (subst (λ (s : ℕ). NamesLine cut s o.line) (same o.shard) named)) (orders_in cut) (each_named (orders_in cut)))
  where
    same : (s : ℕ) → s ≡ 0 + s
    same s = omega arith

pub wanted_were_noted : WantedWereNoted
wanted_were_noted cut shard text wanted there all = record {
  are_lines = All-map (IsLineAt text) (λ (line : ℕ). (line, place_of_line (lines_in text) line)) wanted
      (All-weaker (HasLine text) (λ (line : ℕ). IsLineAt text (line, place_of_line (lines_in text) line)) (λ line has. (has, refl)) wanted there);
  has_all = λ line named. subst (λ (l : List ℕ). Contains l line)
      (sym (map_back (λ (e : ℕ × ℕ). e.0) (λ (n : ℕ). (n, place_of_line (lines_in text) n)) (λ n. refl) wanted)) (all line named);
}
