-- The links once a node is taken out of the middle, or put in at the end.
use Rattle.std.proofs.Common.{◌≡◌, List, [], ◌∷◌, ◌++◌, refl, sym, ap, ◌∙◌, subst, append_assoc}
use Rattle.std.proofs.lemmas.List.{map-append}
use Rattle.std.specs.declared.option.Option.{Option}
use Rattle.std.specs.declared.option.Option.TheVariants.{None, Some}
use Rattle.eql_span_list.specs.declared.node.Node.{Node}
use Rattle.eql_span_list.specs.declared.node.Ticket.{Ticket}
use Rattle.eql_span_list.specs.PlacedNode.{PlacedNode, placed_node, places, IsApart, edit_at}
use Rattle.eql_span_list.specs.Chain.{ticket_of, entries, IsRun, IsChain, NamesNode, next_set, previous_set, end_set}
use Rattle.eql_span_list.proofs.Cuts.{cut_last}
use Rattle.eql_span_list.proofs.Apart.{edit_at-cut, apart_without}

module _ {T : Type 0} where
  pub entries-append : (xs ys : List (PlacedNode T)) → entries (xs ++ ys) ≡ entries xs ++ entries ys
  entries-append = map-append (λ (n : PlacedNode T). (ticket_of n, n.node.value))

  places-append : (xs ys : List (PlacedNode T)) → places (xs ++ ys) ≡ places xs ++ places ys
  places-append = map-append (λ (n : PlacedNode T). n.place)

  -- the nodes are a whole list where equal ones are, with equal ends
  pub chained_as : (ms ns : List (PlacedNode T)) (f f' e e' : Option Ticket) → ns ≡ ms → f ≡ f' → e ≡ e' → IsChain ms f' e' → IsChain ns f e
  chained_as ms ns f f' e e' p q r = subst (λ (z : List (PlacedNode T) × Option Ticket × Option Ticket). IsChain z.0 z.1 z.2) (λ i. (sym p i, sym q i, sym r i))

  -- a run is cut in two, where m ends the front and p begins the back
  run_cut : (b : Option Ticket) (xs ns : List (PlacedNode T)) (f e a : Option Ticket) → IsRun b (xs ++ ns) f e a
      → (m : Option Ticket) × (p : Option Ticket) × IsRun b xs f m p × IsRun m ns p e a
  run_cut b [] ns f e a r = (b, f, (refl, refl), r)
  run_cut b (x ∷ xs) ns f e a r = let on = run_cut (Some (ticket_of x)) xs ns x.node.next e a r.2 in (on.0, on.1, (r.0, r.1, on.2), on.3)

  run_glue : (b : Option Ticket) (xs ns : List (PlacedNode T)) (f m p e a : Option Ticket) → IsRun b xs f m p → IsRun m ns p e a → IsRun b (xs ++ ns) f e a
  run_glue b [] ns f m p e a q r = subst (λ (z : Option Ticket × Option Ticket). IsRun z.0 ns z.1 e a) (λ i. (q.1 i, sym q.0 i)) r
  run_glue b (x ∷ xs) ns f m p e a q r = (q.0, q.1, run_glue (Some (ticket_of x)) xs ns x.node.next m p e a q.2 r)

  -- the node with a as what follows it
  abbrev with_next : PlacedNode T → Option Ticket → PlacedNode T
  with_next k a = placed_node k.place (record k.node { next = a })

  -- the last of a run ends it, and may go before something else
  run_onto : (b : Option Ticket) (us : List (PlacedNode T)) (k : PlacedNode T) (f m a a' : Option Ticket) → IsRun b (us ++ k ∷ []) f m a
      → (m ≡ Some (ticket_of k)) × IsRun b (us ++ with_next k a' ∷ []) f m a'
  run_onto b [] k f m a a' r = (r.2.1, (r.0, r.1, (refl, r.2.1)))
  run_onto b (u ∷ us) k f m a a' r = let on = run_onto (Some (ticket_of u)) us k u.node.next m a a' r.2 in (on.0, (r.0, r.1, on.1))

  -- the front xs, which ends with m, goes before a' now
  record FrontJoined (xs ys : List (PlacedNode T)) (f m a' : Option Ticket) : Type 0 where
    pub front : List (PlacedNode T)
    pub made : next_set m a' (xs ++ ys) ≡ front ++ ys
    pub run : IsRun None front (end_set m a' f) m a'
    pub same_entries : entries front ≡ entries xs
    pub same_places : places front ≡ places xs
    pub named : NamesNode (xs ++ ys) m

  front_with_last : (us : List (PlacedNode T)) (k : PlacedNode T) (ys : List (PlacedNode T)) (f m a a' : Option Ticket) → IsRun None (us ++ k ∷ []) f m a
      → IsApart (places ((us ++ k ∷ []) ++ ys)) → FrontJoined (us ++ k ∷ []) ys f m a'
  front_with_last us k ys f m a a' r d =
      let on = run_onto None us k f m a a' r in let e = append_assoc us (k ∷ []) ys in let front = us ++ with_next k a' ∷ [] in
      let cut : next_set (Some (ticket_of k)) a' ((us ++ k ∷ []) ++ ys) ≡ front ++ ys =
      ap (edit_at k.place (λ n. record n { next = a' })) e
      ∙ edit_at-cut us k ys (λ n. record n { next = a' }) (subst (λ l. IsApart (places l)) e d)
      ∙ sym (append_assoc us (with_next k a' ∷ []) ys) in
      record {
        front = front;
        made = ap (λ z. next_set z a' ((us ++ k ∷ []) ++ ys)) on.0 ∙ cut;
        run = subst (λ z. IsRun None front z m a') (sym (ap (λ z. end_set z a' f) on.0)) on.1;
        same_entries = entries-append us (with_next k a' ∷ []) ∙ sym (entries-append us (k ∷ []));
        same_places = places-append us (with_next k a' ∷ []) ∙ sym (places-append us (k ∷ []));
        named = subst (NamesNode ((us ++ k ∷ []) ++ ys)) (sym on.0) (us, k, ys, e, refl);
      }

  front_joined : (xs ys : List (PlacedNode T)) (f m a a' : Option Ticket) → IsRun None xs f m a → IsApart (places (xs ++ ys)) → FrontJoined xs ys f m a'
  front_joined [] ys f m a a' r d = record {
    front = [];
    made = ap (λ z. next_set z a' ys) r.1;
    run = (ap (λ z. end_set z a' f) r.1, r.1);
    same_entries = refl;
    same_places = refl;
    named = subst (NamesNode ys) (sym r.1) tt;
  }
  front_joined (x ∷ xs) ys f m a a' r d =
      let on = cut_last x xs in
      subst (λ l. FrontJoined l ys f m a') (sym on.2)
      (front_with_last on.0 on.1 ys f m a a' (subst (λ l. IsRun None l f m a) on.2 r) (subst (λ l. IsApart (places (l ++ ys))) on.2 d))

  -- the back ys, which begins with p, follows b' now
  record BackJoined (xs ys : List (PlacedNode T)) (p e b' : Option Ticket) : Type 0 where
    pub back : List (PlacedNode T)
    pub made : previous_set p b' (xs ++ ys) ≡ xs ++ back
    pub run : IsRun b' back p (end_set p b' e) None
    pub same_entries : entries back ≡ entries ys
    pub named : NamesNode (xs ++ ys) p

  back_joined : (xs ys : List (PlacedNode T)) (p e b b' : Option Ticket) → IsRun b ys p e None → IsApart (places (xs ++ ys)) → BackJoined xs ys p e b'
  back_joined xs [] p e b b' r d = record {
    back = [];
    made = ap (λ z. previous_set z b' (xs ++ [])) r.0;
    run = (r.0, ap (λ z. end_set z b' e) r.0);
    same_entries = refl;
    named = subst (NamesNode (xs ++ [])) (sym r.0) tt;
  }
  back_joined xs (k ∷ ws) p e b b' r d = record {
    back = placed_node k.place (record k.node { previous = b' }) ∷ ws;
    made = ap (λ z. previous_set z b' (xs ++ k ∷ ws)) r.0 ∙ edit_at-cut xs k ws (λ n. record n { previous = b' }) d;
    run = (r.0, refl, subst (λ z. IsRun (Some (ticket_of k)) ws k.node.next z None) (sym (ap (λ z. end_set z b' e) r.0)) r.2);
    same_entries = refl;
    named = subst (NamesNode (xs ++ k ∷ ws)) (sym r.0) (xs, k, ws, refl, refl);
  }

  -- a node that was v is out, which leaves ms, and its neighbours are joined: the list is seen as l
  pub record Taken (ms : List (PlacedNode T)) (v : Node T) (f e : Option Ticket) (l : List (Ticket × T)) : Type 0 where
    pub previous_named : NamesNode ms v.previous
    pub next_named : NamesNode (next_set v.previous v.next ms) v.next
    pub chain : IsChain (previous_set v.next v.previous (next_set v.previous v.next ms)) (end_set v.previous v.next f) (end_set v.next v.previous e)
    pub seen : entries (previous_set v.next v.previous (next_set v.previous v.next ms)) ≡ l

  taken_at : (xs : List (PlacedNode T)) (n : PlacedNode T) (ys : List (PlacedNode T)) (f e : Option Ticket) → IsChain (xs ++ n ∷ ys) f e → IsApart (places (xs ++ n ∷ ys))
      → Taken (xs ++ ys) n.node f e (entries xs ++ entries ys)
  taken_at xs n ys f e r d =
      let b = n.node.previous in let a = n.node.next in let cut = run_cut None xs (n ∷ ys) f e None r in let apart = apart_without xs n ys d in
      let F = front_joined xs ys f b cut.1 a (subst (λ m. IsRun None xs f m cut.1) (sym cut.3.1) cut.2) apart in
      let at : places (F.front ++ ys) ≡ places (xs ++ ys) = places-append F.front ys ∙ ap (λ l. l ++ places ys) F.same_places ∙ sym (places-append xs ys) in
      let B = back_joined F.front ys a e (Some (ticket_of n)) b cut.3.2 (subst IsApart (sym at) apart) in
      let made : previous_set a b (next_set b a (xs ++ ys)) ≡ F.front ++ B.back = ap (previous_set a b) F.made ∙ B.made in
      record {
        previous_named = F.named;
        next_named = subst (λ l. NamesNode l a) (sym F.made) B.named;
        chain = subst (λ l. IsChain l (end_set b a f) (end_set a b e)) (sym made) (run_glue None F.front B.back (end_set b a f) b a (end_set a b e) None F.run B.run);
        seen = ap entries made ∙ entries-append F.front B.back ∙ (λ i. F.same_entries i ++ B.same_entries i);
      }

  pub taken : (ns : List (PlacedNode T)) (f e : Option Ticket) (ms : List (PlacedNode T)) (v : Node T) (xs : List (PlacedNode T)) (n : PlacedNode T) (ys : List (PlacedNode T)) → IsChain ns f e
      → IsApart (places ns) → ns ≡ xs ++ n ∷ ys → (ms ≡ xs ++ ys) × (v ≡ n.node) → Taken ms v f e (entries xs ++ entries ys)
  taken ns f e ms v xs n ys r d cut is =
      subst (λ (p : List (PlacedNode T) × Node T). Taken p.0 p.1 f e (entries xs ++ entries ys)) (λ i. (sym is.0 i, sym is.1 i))
      (taken_at xs n ys f e (subst (λ l. IsChain l f e) cut r) (subst (λ l. IsApart (places l)) cut d))

  -- a node that names e as the one in front of it is in behind ns, which makes ms, and e is joined to it
  pub record Added (ns ms : List (PlacedNode T)) (t : Ticket) (x : T) (f e : Option Ticket) : Type 0 where
    pub last_named : NamesNode ms e
    pub chain : IsChain (next_set e (Some t) ms) (end_set e (Some t) f) (Some t)
    pub seen : entries (next_set e (Some t) ms) ≡ entries ns ++ (t, x) ∷ []

  -- what lies in a node that is put in behind e
  abbrev pub last_node : Option Ticket → T → Node T
  last_node e x = record { previous = e; next = None; value = x }

  added_at : (ns : List (PlacedNode T)) (t : Ticket) (x : T) (f e : Option Ticket) → IsChain ns f e → IsApart (places (ns ++ placed_node t.pointer (last_node e x) ∷ []))
      → Added ns (ns ++ placed_node t.pointer (last_node e x) ∷ []) t x f e
  added_at ns t x f e r d =
      let n : PlacedNode T = placed_node t.pointer (last_node e x) in let F = front_joined ns (n ∷ []) f e None (Some t) r d in let f' = end_set e (Some t) f in
      record {
        last_named = F.named;
        chain = subst (λ l. IsChain l f' (Some t)) (sym F.made) (run_glue None F.front (n ∷ []) f' e (Some t) (Some t) None F.run (refl, refl, (refl, refl)));
        seen = ap entries F.made ∙ entries-append F.front (n ∷ []) ∙ ap (λ l. l ++ (t, x) ∷ []) F.same_entries;
      }

  pub added : (ns ms : List (PlacedNode T)) (t : Ticket) (x : T) (f e : Option Ticket) (v : Node T) → IsChain ns f e → IsApart (places ms) → ms ≡ ns ++ placed_node t.pointer v ∷ [] → v ≡ last_node e x
      → Added ns ms t x f e
  added ns ms t x f e v r d put is =
      let made : ms ≡ ns ++ placed_node t.pointer (last_node e x) ∷ [] = put ∙ ap (λ (w : Node T). ns ++ placed_node t.pointer w ∷ []) is in
      subst (λ ks. Added ns ks t x f e) (sym made) (added_at ns t x f e r (subst (λ ks. IsApart (places ks)) made d))
