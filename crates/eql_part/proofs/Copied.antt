-- Copies of the pending sequences of rows, one row after another.
use Rattle.std.proofs.Common.{◌≡◌, ◌∙◌, ℕ, zero, suc, ◌+◌, ◌-◌, ◌<◌, ◌≤◌, List, [], ◌∷◌, ◌++◌, map, take, length, get_or, sym, ap, subst, arith}
use Rattle.std.specs.Prelude.{Option, Some, None, IfSome}
use Rattle.std.specs.List.{AllAdjacentBelow}
use Rattle.std.specs.List.Sorted.{IsPermutation}
use Rattle.std.proofs.lemmas.List.{flat_map_more, map-append, take_all, take_more}
use Rattle.std.proofs.lemmas.List.Sorted.{all_adjacent_more}
use Rattle.eql_values.specs.declared.found.Holder.{Holder}
use Rattle.eql_values.specs.declared.value.Value.{Value}
use Rattle.eql_auto.specs.Machine.{Machine}
use Rattle.eql_span_list.specs.declared.node.Ticket.{Ticket}
use Rattle.eql_part.specs.KeyTables.{holders_in, holders_of}
use Rattle.eql_part.specs.Rooms.{AreInKeyOrder, AreUnsorted, Lent, NoneIsBefore, lent_entry}

pub copied_more : (rows : List Lent) (i : ℕ) (row : Lent) (found new : List Holder) → i < length rows → row ≡ get_or rows i row → found ≡ holders_in (map lent_entry (take i rows))
    → new ≡ found ++ holders_of (lent_entry row) → new ≡ holders_in (map lent_entry (take (i + 1) rows))
copied_more rows i row found new lt is copied more =
    let next : take (i + 1) rows ≡ take i rows ++ row ∷ [] = take_more rows i row lt ∙ ap (λ (e : Lent). take i rows ++ e ∷ []) (sym is) in
    more
    ∙ ap (λ (l : List Holder). l ++ holders_of (lent_entry row)) copied
    ∙ flat_map_more holders_of [] (map lent_entry (take i rows)) (lent_entry row)
    ∙ ap holders_in (sym (map-append lent_entry (take i rows) (row ∷ [])) ∙ ap (map lent_entry) (sym next))

pub all_copied : (rows : List Lent) (i : ℕ) (found : List Holder) → length rows ≤ i → found ≡ holders_in (map lent_entry (take i rows)) → found ≡ holders_in (map lent_entry rows)
all_copied rows i found past copied = copied ∙ ap (λ (l : List Lent). holders_in (map lent_entry l)) (take_all i rows past)

pub order_more : (rows : List Lent) (i : ℕ) → AllAdjacentBelow NoneIsBefore rows i → (0 < i → (d : Lent) → NoneIsBefore (get_or rows (i - 1) d) (get_or rows i d))
    → AllAdjacentBelow NoneIsBefore rows (i + 1)
order_more rows zero h here = λ k d m. absurd (omega arith)
order_more rows (suc i) h here = all_adjacent_more rows NoneIsBefore (suc i) (omega arith) h (here (omega arith))

pub all_in_order : (rows : List Lent) (i : ℕ) → length rows ≤ i → AllAdjacentBelow NoneIsBefore rows i → AllAdjacentBelow NoneIsBefore rows (length rows)
all_in_order rows i past h = λ k d m. h k d (omega arith)

pub if_some : {Y : Type 0} (o : Option Y) (x : Y) (P : Y → Type 0) → o ≡ Some x → IfSome o P → P x
if_some None x P e h = let no : ⊥ = cc in absurd no
if_some (Some y) x P e h = let same : y ≡ x = cc in subst P same h

-- what was copied of the rows in the order of keys is what is pending
pub holders_are : (entries : List (List Value × Machine Ticket)) (rows sorted : List Lent) (found holders : List Holder) → AreUnsorted entries rows → IsPermutation rows sorted
    → AreInKeyOrder sorted → found ≡ holders_in (map lent_entry sorted) → holders_in entries ≡ holders → found ≡ holders
holders_are entries rows sorted found holders are moved order copied is = copied ∙ ap holders_in (are sorted moved order) ∙ is
