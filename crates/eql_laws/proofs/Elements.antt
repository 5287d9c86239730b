-- What holds of each element of a list, where lists are made from lists.
use Rattle.std.proofs.Common.{◌≡◌, Bool, true, false, cond, List, [], ◌∷◌, Option, Some, None, refl, subst}
use Rattle.std.specs.Prelude.{All, IfSome, filter}
use Rattle.std.specs.List.{filter_map, flat_map, cons_option}
use Rattle.std.specs.FinMap.{IsAntisymmetric}
use Rattle.std.specs.FinMap.Entries.{put, by_order}
use Rattle.std.specs.declared.cmp.Ordering.{Ordering}
use Rattle.std.specs.declared.cmp.Ordering.TheVariants.{Less, Equal, Greater}
use Rattle.std.proofs.lemmas.List.Elements.{All-nil, All-cons, All-head, All-tail, All-append}
use Rattle.eql_values.specs.Ordered.{in_order}

-- what a fact of an option says of the value
pub some_is : {X : Type 0} (P : X → Type 0) (o : Option X) (x : X) → o ≡ Some x → IfSome o P → P x
some_is P o x e h = subst (λ (p : Option _). IfSome p P) e h

pub All-cons_option : {Y : Type 0} (Q : Y → Type 0) (o : Option Y) (ys : List Y) → IfSome o Q → All Q ys → All Q (cons_option o ys)
All-cons_option Q None ys h rest = rest
All-cons_option Q (Some y) ys h rest = All-cons Q y ys h rest

pub All-filter_map : {X Y : Type 0} (P : X → Type 0) (Q : Y → Type 0) (f : X → Option Y) → ((x : X) → P x → IfSome (f x) Q) → (xs : List X) → All P xs → All Q (filter_map f xs)
All-filter_map P Q f gives [] h = All-nil Q
All-filter_map P Q f gives (x ∷ xs) h =
    All-cons_option Q (f x) (filter_map f xs) (gives x (All-head P x xs h)) (All-filter_map P Q f gives xs (All-tail P x xs h))

pub All-flat_map : {X Y : Type 0} (P : X → Type 0) (Q : Y → Type 0) (f : X → List Y) → ((x : X) → P x → All Q (f x)) → (xs : List X) → All P xs → All Q (flat_map f xs)
All-flat_map P Q f gives [] h = All-nil Q
All-flat_map P Q f gives (x ∷ xs) h =
    All-append Q (f x) (flat_map f xs) (gives x (All-head P x xs h)) (All-flat_map P Q f gives xs (All-tail P x xs h))

-- what passes a test has passed it
pub All-passed : {X : Type 0} (P Q : X → Type 0) (p : X → Bool) → ((x : X) → P x → p x ≡ true → Q x) → (xs : List X) → All P xs → All Q (filter p xs)
All-passed P Q p gives [] h = All-nil Q
All-passed {X} P Q p gives (x ∷ xs) h = one (p x) refl (All-passed P Q p gives xs (All-tail P x xs h))
  where
    one : (b : Bool) → p x ≡ b → All Q (filter p xs) → All Q (cond b (x ∷ filter p xs) (filter p xs))
    one true e rest = All-cons Q x (filter p xs) (gives x (All-head P x xs h) e) rest
    one false e rest = rest

module _ {K X : Type 0} (R : K → K → Ordering) (same : IsAntisymmetric R) (P : K × X → Type 0) where
  All-put : (k : K) (v : X) (es : List (K × X)) → P (k, v) → All P es → All P (put R k v es)
  All-put k v [] p h = All-cons P (k, v) [] p (All-nil P)
  All-put k v (e ∷ es) p h = by_case (R k e.0) refl (All-put k v es p (All-tail P e es h))
    where
      by_case : (o : Ordering) → R k e.0 ≡ o → All P (put R k v es) → All P (by_order o ((k, v) ∷ e ∷ es) ((e.0, v) ∷ es) (e ∷ put R k v es))
      by_case Less q rest = All-cons P (k, v) (e ∷ es) p h
      by_case Equal q rest = All-cons P (e.0, v) es (subst (λ (x : K). P (x, v)) (same k e.0 q) p) (All-tail P e es h)
      by_case Greater q rest = All-cons P e (put R k v es) (All-head P e es h) rest

  pub All-in_order : (es : List (K × X)) → All P es → All P (in_order R es)
  All-in_order [] h = All-nil P
  All-in_order (e ∷ es) h = All-put e.0 e.1 (in_order R es) (All-head P e es h) (All-in_order es (All-tail P e es h))
