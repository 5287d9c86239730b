-- What an event of one route does, by the machine of its key.
use Rattle.std.proofs.Common.{◌≡◌, ◌++◌, ◌∷◌, [], ℕ, ℤ, suc, Bool, List, Option, Some, None, length, get_or, refl, sym, ap, ◌∙◌, subst, arith}
use Rattle.std.specs.Prelude.{All, IfNone, IfSome}
use Rattle.std.specs.List.{cons_option}
use Rattle.std.specs.Option.{option_to_list}
use Rattle.std.specs.Result.{OnErr}
use Rattle.std.specs.declared.result.Result.{Result}
use Rattle.std.specs.declared.result.Result.TheVariants.{Ok, Err}
use Rattle.std.proofs.lemmas.List.{append-nil}
use Rattle.std.proofs.lemmas.List.Elements.{All-cons, All-nil}
use Rattle.std.proofs.lemmas.List.Sorted.{IsPermutation-sym}
use Rattle.eql_values.specs.declared.order.OrderKey.{OrderKey}
use Rattle.eql_values.specs.declared.item.Route.{Route}
use Rattle.eql_values.specs.declared.value.Value.{Value}
use Rattle.eql_values.specs.Matching.{key_event_by}
use Rattle.eql_auto.specs.Machine.{Machine, tags_of}
use Rattle.eql_span_list.specs.declared.node.Ticket.{Ticket}
use Rattle.eql_span_list.specs.Entries.{HasDistinctTickets, HasTicket}
use Rattle.eql_part.specs.KeyTables.{AreOf, IsLaterAt, IsOf, KeepsOtherKeys, KeepsSequences, machine_of, sequences_in}
use Rattle.eql_part.specs.Links.{Differ, IsLinked, LeaveList, Listed, begun_by}
use Rattle.eql_part.specs.Played.{IsPlayed, Joins}
use Rattle.eql_part.proofs.Differing.{differ_permutation, differ_right}
use Rattle.eql_part.proofs.Joining.{later_up, linked_more}
use Rattle.eql_part.proofs.Onward.{all_listed, all_differ, linked_onward}
use Rattle.eql_part.proofs.Rows.{Row}
use Rattle.eql_part.proofs.Stepped.{past_slots, after_comes, same_start, still_filled, begun_tickets, begun_here}
use Rattle.eql_part.proofs.Turned.{found_of}

pub on_err : {A E : Type 0} (r : Result A E) (X : Type 0) → X → OnErr r X
on_err (Ok a) X x = tt
on_err (Err e) X x = x

pub if_some_any : {A X : Type 0} (o : Option A) → X → IfSome o (λ _. X)
if_some_any None x = tt
if_some_any (Some a) x = x

pub some_of : {A : Type 0} (P : A → Type 0) (o : Option A) (a : A) → o ≡ Some a → IfSome o P → P a
some_of {A} P o a is h = subst (λ (p : Option A). IfSome p P) is h

pub none_of : {A : Type 0} (X : Type 0) (o : Option A) → o ≡ None → IfNone o X → X
none_of {A} X o is h = subst (λ (p : Option A). IfNone p X) is h

-- the list of one route
pub one_alone : (routes : List Route) (route : Route) → length routes ≡ 1 → route ≡ get_or routes 0 route → routes ≡ route ∷ []
one_alone [] route many is = absurd (omega arith)
one_alone (r ∷ []) route many is = ap (λ (x : Route). x ∷ []) (sym is)
one_alone (r ∷ q ∷ rest) route many is = absurd (omega arith)

pub one_cons : {A : Type 0} (o : Option A) → option_to_list o ≡ cons_option o []
one_cons None = refl
one_cons (Some a) = refl

-- what an event begins has its time
begun_time : (order : OrderKey) (route : Route) (tag : Option Ticket) → All (λ (e : Listed). e.1.time ≡ order.ts) (begun_by order route tag)
begun_time order route None = All-nil (λ (e : Listed). e.1.time ≡ order.ts)
begun_time order route (Some t) = All-cons (λ (e : Listed). e.1.time ≡ order.ts) _ [] refl (All-nil (λ (e : Listed). e.1.time ≡ order.ts))

-- room changes nothing of what a machine is
pub room_is_of : (m : ℕ) (span : Option ℤ) (machine w : Machine Ticket) (ready : Bool) → w ≡ record machine { is_ready = ready } → IsOf m span machine → IsOf m span w
room_is_of m span machine w ready is of =
    subst (IsOf m span) (sym is)
    (record { span_is = of.span_is; stages_are = of.stages_are; read = of.read; differ = of.differ; filled = of.filled })

module _ (m : ℕ) (span : Option ℤ) (es : List (Row Ticket)) (order : OrderKey) (route : Route) (list : List Listed) (machine : Machine Ticket)
    (of : AreOf m span es) (later : (key : List Value) → IsLaterAt order es key) (linked : IsLinked [] (sequences_in es) list) (found : machine_of es route.key ≡ Some machine) where
  joined : (tag : Option Ticket) → HasDistinctTickets (list ++ begun_by order route tag) → IsLinked (begun_by order route tag ++ []) (sequences_in es) (list ++ begun_by order route tag)
  joined tag distinct =
      let begun = begun_by order route tag in
      subst (λ (l : List Listed). IsLinked l (sequences_in es) (list ++ begun)) (sym (append-nil begun))
      (linked_more (sequences_in es) list begun (list ++ begun) order.ts linked refl distinct (later_up m span es order list of linked later) (begun_time order route tag))

  -- the ticket of what is begun is apart from those of the machine
  pub joins : Joins order route machine list
  joins tag distinct =
      let begun = begun_by order route tag in
      let is_of = found_of m span es route.key machine of found in (
        subst (λ (l : List Ticket). All (HasTicket (list ++ begun)) (l ++ tags_of machine.slots)) (begun_tickets order route tag)
            (all_listed es route.key machine found begun [] (list ++ begun) (joined tag distinct)),
        subst (λ (l : List Ticket). Differ (l ++ tags_of machine.slots)) (begun_tickets order route tag)
            (all_differ es route.key machine found begun [] (list ++ begun) (joined tag distinct) is_of.differ),
      )

  module _ (w : Machine Ticket) (after : List Listed) (played : IsPlayed m order route machine w list after) where
    -- the machine is still of its stages and its span
    pub played_of : IsOf m span w
    played_of =
        let is_of = found_of m span es route.key machine of found in
        let leave = played.left in let tag = option_to_list played.begun in
        record {
          span_is = played.span ∙ is_of.span_is;
          stages_are = ap suc played.stages ∙ is_of.stages_are;
          read = played.read;
          differ = differ_right leave.0 (tags_of w.slots)
              (differ_permutation (tag ++ tags_of machine.slots) (leave.0 ++ tags_of w.slots) (IsPermutation-sym (leave.0 ++ tags_of w.slots) (tag ++ tags_of machine.slots) leave.1)
              (joins played.begun played.distinct).1);
          filled = λ k s is.
              let past = past_slots w.slots k s is in
              let len = played.stages in let are = is_of.stages_are in
              still_filled route.key machine.slots is_of.filled order played.begun s
              (after_comes order played.begun machine.slots s machine.span (key_event_by order route) k refl (sym (played.sequences k past.0 (omega arith)) ∙ is));
        }

    -- the list names the pending sequences
    pub played_linked : (new : List (Row Ticket)) → machine_of new route.key ≡ Some w → KeepsOtherKeys route.key es new → IsLinked [] (sequences_in new) after
    played_linked new there others =
        let is_of = found_of m span es route.key machine of found in let news = begun_by order route played.begun in
        linked_onward es new route.key machine w news [] (list ++ news) after
        found there others (begun_here order route played.begun)
        (λ k s is.
        let past = past_slots w.slots k s is in
        let len = played.stages in let are = is_of.stages_are in
        same_start route.key machine.slots is_of.filled order route played.begun s refl
        (after_comes order played.begun machine.slots s machine.span (key_event_by order route) k refl (sym (played.sequences k past.0 (omega arith)) ∙ is)))
        (subst (λ (l : List Ticket). LeaveList (l ++ tags_of machine.slots) (tags_of w.slots) (list ++ news) after) (sym (begun_tickets order route played.begun)) played.left)
        is_of.differ played.distinct (joined played.begun played.distinct)

-- the sequences stay over two steps, of which the first changes nothing
pub onward : (es one two : List (Row Ticket)) → one ≡ es → KeepsSequences one two → KeepsSequences es two
onward es one two same keeps = subst (λ (l : List (Row Ticket)). KeepsSequences l two) same keeps
