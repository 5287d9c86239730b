-- The nodes lie at different places, so a pointer names one node.
use Rattle.std.proofs.Common.{◌≡◌, false, true≢false, cond, List, [], ◌∷◌, ◌++◌, refl, sym, ap, ◌∙◌, subst}
use Rattle.std.specs.List.{AllByRecursion, IsDistinct}
use denote.RawPtr.{Ptr}
use Rattle.eql_span_list.specs.declared.node.Node.{Node}
use Rattle.eql_span_list.specs.PlacedNode.{PlacedNode, placed_node, same_pointer, IsApart, HasNodeAt, HoldsAtNode, places, edit_at, with_node}
use Rattle.eql_span_list.proofs.Cuts.{cons_parts}
use Rattle.eql_span_list.proofs.Pointers.{same_pointer-refl, same_pointer-symm}

-- no nodes lie apart from one another
pub apart_none : (T : Type 0) → IsApart (places {T = T} [])
unfolding IsDistinct
apart_none T = tt

module _ {T : Type 0} where
  -- no node of the list lies at p
  abbrev pub IsFresh : Ptr → List (PlacedNode T) → Type 0
  IsFresh p = AllByRecursion (λ n. same_pointer p n.place ≡ false)

  fresh_left : (p : Ptr) (xs ys : List (PlacedNode T)) → IsFresh p (xs ++ ys) → IsFresh p xs
  fresh_left p [] ys h = tt
  fresh_left p (x ∷ xs) ys h = (h.0, fresh_left p xs ys h.1)

  fresh_right : (p : Ptr) (xs ys : List (PlacedNode T)) → IsFresh p (xs ++ ys) → IsFresh p ys
  fresh_right p [] ys h = h
  fresh_right p (x ∷ xs) ys h = fresh_right p xs ys h.1

  fresh_both : (p : Ptr) (xs ys : List (PlacedNode T)) → IsFresh p xs → IsFresh p ys → IsFresh p (xs ++ ys)
  fresh_both p [] ys g h = h
  fresh_both p (x ∷ xs) ys g h = (g.0, fresh_both p xs ys g.1 h)

  -- where no node lies at p, none does
  pub not_fresh : (p : Ptr) (us : List (PlacedNode T)) (k : PlacedNode T) (vs : List (PlacedNode T)) → IsFresh p (us ++ k ∷ vs) → k.place ≡ p → ⊥
  not_fresh p us k vs h at = true≢false (sym (same_pointer-refl p) ∙ ap (λ q. same_pointer p q) (sym at) ∙ (fresh_right p us (k ∷ vs) h).0)

  -- nodes lie apart where the first is fresh to the others, and these lie apart
  fresh_places : (p : Ptr) (ns : List (PlacedNode T)) → IsFresh p ns → AllByRecursion (λ q. same_pointer p q ≡ false) (places ns)
  fresh_places p [] h = tt
  fresh_places p (n ∷ ns) h = (h.0, fresh_places p ns h.1)

  places_fresh : (p : Ptr) (ns : List (PlacedNode T)) → AllByRecursion (λ q. same_pointer p q ≡ false) (places ns) → IsFresh p ns
  places_fresh p [] h = tt
  places_fresh p (n ∷ ns) h = (h.0, places_fresh p ns h.1)

  apart_cons : (n : PlacedNode T) (ns : List (PlacedNode T)) → IsFresh n.place ns → IsApart (places ns) → IsApart (places (n ∷ ns))
  unfolding IsDistinct
  apart_cons n ns h d = (fresh_places n.place ns h, d)

  apart_head : (n : PlacedNode T) (ns : List (PlacedNode T)) → IsApart (places (n ∷ ns)) → IsFresh n.place ns × IsApart (places ns)
  unfolding IsDistinct
  apart_head n ns d = (places_fresh n.place ns d.0, d.1)

  -- those that are left without one lie apart
  pub apart_without : (xs : List (PlacedNode T)) (n : PlacedNode T) (ys : List (PlacedNode T)) → IsApart (places (xs ++ n ∷ ys)) → IsApart (places (xs ++ ys))
  apart_without [] n ys d = (apart_head n ys d).1
  apart_without (x ∷ xs) n ys d =
      let h = apart_head x (xs ++ n ∷ ys) d in
      apart_cons x (xs ++ ys) (fresh_both x.place xs ys (fresh_left x.place xs (n ∷ ys) h.0) (fresh_right x.place xs (n ∷ ys) h.0).1) (apart_without xs n ys h.1)

  -- and the one is fresh to them
  pub apart_fresh : (xs : List (PlacedNode T)) (n : PlacedNode T) (ys : List (PlacedNode T)) → IsApart (places (xs ++ n ∷ ys)) → IsFresh n.place (xs ++ ys)
  apart_fresh [] n ys d = (apart_head n ys d).0
  apart_fresh (x ∷ xs) n ys d =
      let h = apart_head x (xs ++ n ∷ ys) d in
      (same_pointer-symm n.place x.place ∙ (fresh_right x.place xs (n ∷ ys) h.0).0, apart_fresh xs n ys h.1)

  -- with one more at the end that is fresh they lie apart too
  pub apart_push : (ns : List (PlacedNode T)) (n : PlacedNode T) → IsFresh n.place ns → IsApart (places ns) → IsApart (places (ns ++ n ∷ []))
  apart_push [] n f d = apart_cons n [] tt d
  apart_push (m ∷ ns) n f d =
      let h = apart_head m ns d in
      apart_cons m (ns ++ n ∷ []) (fresh_both m.place ns (n ∷ []) h.0 (same_pointer-symm m.place n.place ∙ f.0, tt)) (apart_push ns n f.1 h.1)

  same_cut : (xs : List (PlacedNode T)) (n : PlacedNode T) (ys us : List (PlacedNode T)) (m : PlacedNode T) (vs : List (PlacedNode T)) → IsApart (places (xs ++ n ∷ ys))
      → xs ++ n ∷ ys ≡ us ++ m ∷ vs → n.place ≡ m.place → (xs ≡ us) × (n ≡ m) × (ys ≡ vs)
  same_cut [] n ys [] m vs d e at = let parts = cons_parts n m ys vs e in (refl, parts.0, parts.1)
  same_cut [] n ys (u ∷ us) m vs d e at =
      absurd (not_fresh n.place us m vs (subst (IsFresh n.place) (cons_parts n u ys (us ++ m ∷ vs) e).1 (apart_head n ys d).0) (sym at))
  same_cut (x ∷ xs) n ys [] m vs d e at =
      absurd (not_fresh x.place xs n ys (apart_head x (xs ++ n ∷ ys) d).0 (at ∙ ap (λ (k : PlacedNode T). k.place) (sym (cons_parts x m (xs ++ n ∷ ys) vs e).0)))
  same_cut (x ∷ xs) n ys (u ∷ us) m vs d e at =
      let parts = cons_parts x u (xs ++ n ∷ ys) (us ++ m ∷ vs) e in
      let on = same_cut xs n ys us m vs (apart_head x (xs ++ n ∷ ys) d).1 parts.1 at in
      (λ i. parts.0 i ∷ on.0 i, on.1, on.2)

  -- two cuts at nodes that lie at one place are the same cut
  pub same_node : (ns xs : List (PlacedNode T)) (n : PlacedNode T) (ys us : List (PlacedNode T)) (m : PlacedNode T) (vs : List (PlacedNode T)) → IsApart (places ns)
      → ns ≡ xs ++ n ∷ ys → ns ≡ us ++ m ∷ vs → n.place ≡ m.place → (xs ≡ us) × (n ≡ m) × (ys ≡ vs)
  same_node ns xs n ys us m vs d a b at = same_cut xs n ys us m vs (subst (λ l. IsApart (places l)) a d) (sym a ∙ b) at

  -- an edit where no node lies changes nothing
  edit_at-elsewhere : (p : Ptr) (f : Node T → Node T) (ns : List (PlacedNode T)) → IsFresh p ns → edit_at p f ns ≡ ns
  unfolding edit_at
  edit_at-elsewhere p f [] h = refl
  edit_at-elsewhere p f (m ∷ ns) h = λ i. placed_node m.place (cond ((same_pointer-symm m.place p ∙ h.0) i) (f m.node) m.node) ∷ edit_at-elsewhere p f ns h.1 i

  edit_at-append : (p : Ptr) (f : Node T → Node T) (xs ys : List (PlacedNode T)) → edit_at p f (xs ++ ys) ≡ edit_at p f xs ++ edit_at p f ys
  unfolding edit_at
  edit_at-append p f [] ys = refl
  edit_at-append p f (x ∷ xs) ys = λ i. placed_node x.place (cond (same_pointer x.place p) (f x.node) x.node) ∷ edit_at-append p f xs ys i

  edit_at-cons : (n : PlacedNode T) (f : Node T → Node T) (ns : List (PlacedNode T)) → edit_at n.place f (n ∷ ns) ≡ placed_node n.place (f n.node) ∷ edit_at n.place f ns
  unfolding edit_at
  edit_at-cons n f ns = λ i. placed_node n.place (cond (same_pointer-refl n.place i) (f n.node) n.node) ∷ edit_at n.place f ns

  -- an edit changes the one node that lies there
  pub edit_at-cut : (xs : List (PlacedNode T)) (n : PlacedNode T) (ys : List (PlacedNode T)) (f : Node T → Node T) → IsApart (places (xs ++ n ∷ ys))
      → edit_at n.place f (xs ++ n ∷ ys) ≡ xs ++ placed_node n.place (f n.node) ∷ ys
  edit_at-cut xs n ys f d =
      let others = apart_fresh xs n ys d in
      edit_at-append n.place f xs (n ∷ ys) ∙ ap (λ l. edit_at n.place f xs ++ l) (edit_at-cons n f ys)
      ∙ (λ i. edit_at-elsewhere n.place f xs (fresh_left n.place xs ys others) i ++ placed_node n.place (f n.node) ∷ edit_at-elsewhere n.place f ys (fresh_right n.place xs ys others) i)

  pub with_node-cut : (xs : List (PlacedNode T)) (n : PlacedNode T) (ys : List (PlacedNode T)) (w : Node T) → IsApart (places (xs ++ n ∷ ys))
      → with_node n.place w (xs ++ n ∷ ys) ≡ xs ++ placed_node n.place w ∷ ys
  with_node-cut xs n ys w = edit_at-cut xs n ys (λ _. w)

  -- a change of the node that was read there is an edit
  pub edit_at-read : (p : Ptr) (f : Node T → Node T) (ns : List (PlacedNode T)) (v : Node T) → IsApart (places ns) → HasNodeAt ns p → HoldsAtNode ns p (λ _ n _. v ≡ n.node)
      → with_node p (f v) ns ≡ edit_at p f ns
  edit_at-read p f ns v d at read =
      let xs = at.0 in let n = at.1 in let ys = at.2 in let d' = subst (λ ms. IsApart (places ms)) at.3 d in
      (λ i. with_node (sym at.4 i) (f (read xs n ys at.3 at.4 i)) (at.3 i)) ∙ with_node-cut xs n ys (f n.node) d' ∙ sym (edit_at-cut xs n ys f d') ∙ (λ i. edit_at (at.4 i) f (sym at.3 i))
