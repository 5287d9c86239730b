-- The laws of matching in two parts.
use Rattle.std.proofs.Common.{◌≡◌, ℕ, zero, suc, ◌-◌, ◌<◌, ℤ, Bool, true, false, cond, List, [], ◌∷◌, ◌++◌, map, Option, None, refl, sym, ap, ◌∙◌, arith}
use Rattle.std.specs.Prelude.{◌&&◌, nat_le, nat_lt}
use Rattle.std.specs.FinMap.Entries.{same_entries}
use Rattle.std.proofs.lemmas.Bool.Decides.{nat_tests}
use Rattle.eql_values.specs.declared.order.OrderKey.{OrderKey}
use Rattle.eql_values.specs.declared.value.Value.{Value}
use Rattle.eql_values.specs.declared.item.Item.{Item}
use Rattle.eql_values.specs.declared.found.Match.{Match}
use Rattle.eql_values.specs.declared.found.Holder.{Holder}
use Rattle.eql_values.specs.declared.item.KeyEvent.{KeyEvent}
use Rattle.eql_values.specs.Chains.{holder}
use Rattle.eql_values.specs.Matching.{Openings, Slot, slot_cmp, key_events_of, onto, opening_of, held_after, after, matches}
use Rattle.eql_laws.specs.Merging.{holder_of}
use Rattle.eql_laws.specs.Splits.{MatchesSplit, AfterSplits}
use Rattle.eql_values.proofs.InOrder.{in_order-sorted}
use Rattle.eql_laws.proofs.Halves.{holder_append, holder_alike}
use Rattle.eql_laws.proofs.Onward.{split_openings, matches_alike, key_events_append}
use Rattle.eql_laws.proofs.Held.{all_entries, slot_same, up_to, find-held, find-after, slot_cmp_total}

stage_in : (m j : ℕ) → suc j < m → (nat_lt 0 (suc j) && nat_le (suc j) (m - 1)) ≡ true
stage_in m j lt = grind (arith, nat_tests)

-- at a stage below the last the list has what the look-back gives
pub opening_after : (m : ℕ) (span : Option ℤ) (holders : List Holder) (items : List Item) (key : List Value) (j : ℕ) → suc j < m
    → opening_of (after m span holders items) key (suc j) ≡ held_after span (opening_of holders) items key (suc j)
opening_after m span holders items key j lt =
    find-after m span holders items (key, suc j)
    ∙ ap (λ (b : Bool). cond b (held_after span (opening_of holders) items key (suc j)) None) (stage_in m j lt)

pub matches_split : MatchesSplit
matches_split m span holders a b =
    split_openings m span (opening_of holders) a b
    ∙ ap (λ (rest : List Match). matches m span holders a ++ rest)
    (sym (matches_alike m span (opening_of (after m span holders a)) (held_after span (opening_of holders) a) [] b (opening_after m span holders a)))

onto_append : (a b past : List Item) → onto (a ++ b) past ≡ onto b (onto a past)
onto_append [] b past = refl
onto_append (item ∷ a) b past = onto_append a b (item ∷ past)

onto_is : (items new past : List Item) → onto items (new ++ past) ≡ onto items new ++ past
onto_is [] new past = refl
onto_is (item ∷ items) new past = onto_is items (item ∷ new) past

held_split : (m : ℕ) (span : Option ℤ) (holders : List Holder) (a b : List Item) (key : List Value) (j : ℕ) → suc j < m
    → held_after span (opening_of holders) (a ++ b) key (suc j) ≡ held_after span (opening_of (after m span holders a)) b key (suc j)
held_split m span holders a b key j lt =
    ap (λ (past : List Item). holder span (opening_of holders key) (suc j) (key_events_of key past)) (onto_append a b [] ∙ onto_is b [] (onto a []))
    ∙ ap (λ (key_events : List KeyEvent). holder span (opening_of holders key) (suc j) key_events) (key_events_append m span key (onto b []) (onto a []))
    ∙ holder_append span (opening_of holders key) (key_events_of key (onto b [])) (key_events_of key (onto a [])) (suc j)
    ∙ holder_alike span (held_after span (opening_of holders) a key) (opening_of (after m span holders a) key) m (key_events_of key (onto b [])) j lt (λ i l. sym (opening_after m span holders a key i l))

guarded : (b : Bool) (x y : Option (List OrderKey)) → (b ≡ true → x ≡ y) → cond b x None ≡ cond b y None
guarded true x y same = same refl
guarded false x y same = refl

below : (m j : ℕ) → (nat_lt 0 (suc j) && nat_le (suc j) (m - 1)) ≡ true → suc j < m
below m j h = grind (arith, nat_tests)

up_to_split : (m : ℕ) (x y : Openings) (q : Slot) → ((key : List Value) (j : ℕ) → suc j < m → x key (suc j) ≡ y key (suc j))
    → up_to (m - 1) x q ≡ up_to (m - 1) y q
up_to_split m x y (key, zero) same = refl
up_to_split m x y (key, suc j) same = guarded (nat_lt 0 (suc j) && nat_le (suc j) (m - 1)) (x key (suc j)) (y key (suc j)) (λ h. same key j (below m j h))

pub after_split : AfterSplits
after_split m span holders a b =
    ap (map holder_of) (same_entries slot_cmp slot_cmp_total slot_same _ _ (in_order-sorted slot_cmp slot_cmp_total (all_entries m span holders (a ++ b))) (in_order-sorted slot_cmp slot_cmp_total (all_entries m span (after m span holders a) b)) (λ q.
    find-held m span holders (a ++ b) q
    ∙ up_to_split m (held_after span (opening_of holders) (a ++ b)) (held_after span (opening_of (after m span holders a)) b) q (held_split m span holders a b)
    ∙ sym (find-held m span (after m span holders a) b q)))
