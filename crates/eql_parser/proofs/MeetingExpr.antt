-- Two runs of the descent over conditions that begin alike, where the second goes on with a left-out form.
use Rattle.std.proofs.Common.{◌≡◌, ℕ, zero, suc, ◌-◌, ◌<◌, ◌≤◌, Bool, true, false, inl, List, [], ◌∷◌, ◌++◌, length, Ok, Err, refl, sym, subst, arith, codes}
use Rattle.eql_query.specs.declared.expr.MathOp.TheVariants.{Sub}
use Rattle.eql_query.specs.declared.expr.PatOp.TheVariants.{Colon}
use Rattle.eql_query.specs.Tree.{Tree}
use Rattle.eql_query.specs.Tree as t
use Rattle.eql_query.specs.View.{trees_of}
use Rattle.eql_parser.specs.Kinds.{Kind, false_, in_, matches, not_, null_, regex_, true_, name, folding, back, text, number, open_, close_, question_, compares, adds}
use Rattle.eql_parser.specs.Reading.{Fail, Syntax, LeftOut, Res, then_do, res_map, closing, is_or, is_and, adds_of, multiplies_of, comma_list, named_field, field_tree, text_at, literal, at_level, call_of, joined_operands, expr}
use Rattle.eql_parser.specs.Reading as r
use Rattle.eql_parser.proofs.Told.{Told, upto_here, told_listed, told_text, told_literal, told_joined, room_for, inside}
use Rattle.eql_parser.proofs.ToldExpr.{told_unary, told_prod, told_sum, told_behind_sum, told_neg, told_conj, expr_told}
use Rattle.eql_parser.proofs.Agrees.{short, short_call}
use Rattle.eql_parser.proofs.AgreesExpr.{short_inner, short_listed, short_arguments}
use Rattle.eql_parser.proofs.MeetingCall.{shut_first, open_first}
use Rattle.eql_parser.proofs.Meeting.{Instead, for_regex, for_folding_regex, for_missing, for_unit, for_pipe, for_number, Met, met_stop, met_then, met_map, stays, met_at_level, met_above, met_closed, met_enter, met_named, met_text, met_literal, met_call_of, met_listed, met_chain, met_joined}

at_patterns : (room room' : Bool) (inner inner' : ℕ → List Kind → Res Tree) (x y : List Kind) (e : Fail) → Instead x y e → Met x y e (r.patterns room inner x) (r.patterns room' inner' y)
at_patterns room room' inner inner' _ _ _ for_regex = tt
at_patterns room room' inner inner' _ _ _ for_folding_regex = tt
at_patterns room room' inner inner' _ _ _ for_missing = tt
at_patterns room room' inner inner' _ _ _ (for_unit h) = tt
at_patterns room room' inner inner' _ _ _ (for_pipe h) = tt
at_patterns room room' inner inner' _ _ _ (for_number call c b h args) = tt

at_members : (room room' : Bool) (inner inner' : ℕ → List Kind → Res Tree) (x y : List Kind) (e : Fail) → Instead x y e → Met x y e (r.members room inner x) (r.members room' inner' y)
at_members room room' inner inner' _ _ _ for_regex = tt
at_members room room' inner inner' _ _ _ for_folding_regex = tt
at_members room room' inner inner' _ _ _ for_missing = tt
at_members room room' inner inner' _ _ _ (for_unit h) = tt
at_members room room' inner inner' _ _ _ (for_pipe h) = tt
at_members room room' inner inner' _ _ _ (for_number call c b h args) = tt

at_folding : (room room' : Bool) (inner inner' : ℕ → List Kind → Res Tree) (l : ℕ) (w : List ℕ) (x y : List Kind) (e : Fail) → Instead x y e → Met x y e (r.prim room inner l (folding w ∷ x)) (r.prim room' inner' l (folding w ∷ y))
at_folding room room' inner inner' zero w _ _ _ for_regex = tt
at_folding room room' inner inner' zero w _ _ _ for_folding_regex = tt
at_folding room room' inner inner' zero w _ _ _ for_missing = tt
at_folding room room' inner inner' zero w _ _ _ (for_unit h) = tt
at_folding room room' inner inner' zero w _ _ _ (for_pipe h) = tt
at_folding room room' inner inner' zero w _ _ _ (for_number call c b h args) = tt
at_folding room room' inner inner' (suc l) w _ _ _ for_regex = tt
at_folding room room' inner inner' (suc l) w _ _ _ for_folding_regex = tt
at_folding room room' inner inner' (suc l) w _ _ _ for_missing = tt
at_folding room room' inner inner' (suc l) w _ _ _ (for_unit h) = tt
at_folding room room' inner inner' (suc l) w _ _ _ (for_pipe h) = tt
at_folding room room' inner inner' (suc l) w _ _ _ (for_number call c b h args) = tt

unary_none : (room : Bool) (inner : ℕ → List Kind → Res Tree) (l : ℕ) (x y : List Kind) (e : Fail) → Instead x y e → (r.unary room inner l x ≡ r.prim room inner l x) × (r.unary room inner l y ≡ r.prim room inner l y)
unfolding r.unary
unary_none room inner zero _ _ _ for_regex = (refl, refl)
unary_none room inner zero _ _ _ for_folding_regex = (refl, refl)
unary_none room inner zero _ _ _ for_missing = (refl, refl)
unary_none room inner zero _ _ _ (for_unit h) = (refl, refl)
unary_none room inner zero _ _ _ (for_pipe h) = (refl, refl)
unary_none room inner zero _ _ _ (for_number call c b h args) = (refl, refl)
unary_none room inner (suc l) _ _ _ for_regex = (refl, refl)
unary_none room inner (suc l) _ _ _ for_folding_regex = (refl, refl)
unary_none room inner (suc l) _ _ _ for_missing = (refl, refl)
unary_none room inner (suc l) _ _ _ (for_unit h) = (refl, refl)
unary_none room inner (suc l) _ _ _ (for_pipe h) = (refl, refl)
unary_none room inner (suc l) _ _ _ (for_number call c b h args) = (refl, refl)

at_behind_not : (room room' : Bool) (inner inner' : ℕ → List Kind → Res Tree) (a : Tree) (x y : List Kind) (e : Fail) → Instead x y e → Met x y e (r.behind_not room inner a x) (r.behind_not room' inner' a y)
at_behind_not room room' inner inner' a _ _ _ for_regex = tt
at_behind_not room room' inner inner' a _ _ _ for_folding_regex = tt
at_behind_not room room' inner inner' a _ _ _ for_missing = tt
at_behind_not room room' inner inner' a _ _ _ (for_unit h) = tt
at_behind_not room room' inner inner' a _ _ _ (for_pipe h) = tt
at_behind_not room room' inner inner' a _ _ _ (for_number call c b h args) = tt

at_behind_sum : (room room' : Bool) (inner inner' : ℕ → List Kind → Res Tree) (l : ℕ) (a : Tree) (x y : List Kind) (e : Fail) → Instead x y e → Met x y e (r.behind_sum room inner l a x) (r.behind_sum room' inner' l a y)
at_behind_sum room room' inner inner' l a _ _ _ (for_regex {c = c} {b = b}) =
    met_stop (matches Colon ∷ c) (regex_ false ∷ b) (LeftOut (codes "regex") (suc (length b))) (r.behind_sum room inner l a (matches Colon ∷ c))
at_behind_sum room room' inner inner' l a _ _ _ (for_folding_regex {c = c} {b = b}) =
    met_stop (matches Colon ∷ c) (regex_ true ∷ b) (LeftOut (codes "regex~") (suc (length b))) (r.behind_sum room inner l a (matches Colon ∷ c))
at_behind_sum room room' inner inner' l a _ _ _ for_missing = inl ([], refl, refl)
at_behind_sum room room' inner inner' l a _ _ _ (for_unit h) = inl ([], refl, refl)
at_behind_sum room room' inner inner' l a _ _ _ (for_pipe h) = inl ([], refl, refl)
at_behind_sum room room' inner inner' l a _ _ _ (for_number call c b h args) = inl ([], refl, refl)

arguments_some : (room : Bool) (inner : ℕ → List Kind → Res Tree) (l : ℕ) (x y : List Kind) (e : Fail) → Instead x y e → (r.arguments room inner l x ≡ then_do (comma_list (inner l) x) closing) × (r.arguments room inner l y ≡ then_do (comma_list (inner l) y) closing)
arguments_some room inner l _ _ _ for_regex = (refl, refl)
arguments_some room inner l _ _ _ for_folding_regex = (refl, refl)
arguments_some room inner l _ _ _ for_missing = (refl, refl)
arguments_some room inner l _ _ _ (for_unit h) = (refl, refl)
arguments_some room inner l _ _ _ (for_pipe h) = (refl, refl)
arguments_some room inner l _ _ _ (for_number call c b h args) = (refl, refl)

name_alone : (room : Bool) (inner : ℕ → List Kind → Res Tree) (l : ℕ) (w : List ℕ) (x y : List Kind) (e : Fail) → Instead x y e → (r.prim room inner l (name w ∷ x) ≡ at_level l (suc (length x)) (res_map field_tree (named_field false (name w ∷ x)))) × (r.prim room inner l (name w ∷ y) ≡ at_level l (suc (length y)) (res_map field_tree (named_field false (name w ∷ y))))
name_alone room inner l w _ _ _ for_regex = (refl, refl)
name_alone room inner l w _ _ _ for_folding_regex = (refl, refl)
name_alone room inner l w _ _ _ for_missing = (refl, refl)
name_alone room inner l w _ _ _ (for_unit h) = (refl, refl)
name_alone room inner l w _ _ _ (for_pipe h) = (refl, refl)
name_alone room inner l w _ _ _ (for_number call c b h args) = (refl, refl)

neg_none : (room : Bool) (inner : ℕ → List Kind → Res Tree) (l : ℕ) (x y : List Kind) (e : Fail) → Instead x y e → (r.neg room inner l x ≡ r.pred room inner l x) × (r.neg room inner l y ≡ r.pred room inner l y)
unfolding r.neg
neg_none room inner zero _ _ _ for_regex = (refl, refl)
neg_none room inner zero _ _ _ for_folding_regex = (refl, refl)
neg_none room inner zero _ _ _ for_missing = (refl, refl)
neg_none room inner zero _ _ _ (for_unit h) = (refl, refl)
neg_none room inner zero _ _ _ (for_pipe h) = (refl, refl)
neg_none room inner zero _ _ _ (for_number call c b h args) = (refl, refl)
neg_none room inner (suc l) _ _ _ for_regex = (refl, refl)
neg_none room inner (suc l) _ _ _ for_folding_regex = (refl, refl)
neg_none room inner (suc l) _ _ _ for_missing = (refl, refl)
neg_none room inner (suc l) _ _ _ (for_unit h) = (refl, refl)
neg_none room inner (suc l) _ _ _ (for_pipe h) = (refl, refl)
neg_none room inner (suc l) _ _ _ (for_number call c b h args) = (refl, refl)

both_are : {A : Type 0} (x y : List Kind) (e : Fail) (r r' s s' : Res A) → r ≡ r' → s ≡ s' → Met x y e r' s' → Met x y e r s
both_are x y e r r' s s' h k i = subst (λ v. Met x y e v s) (sym h) (subst (λ v. Met x y e r' v) (sym k) i)

module _ (x y : List Kind) (e : Fail) (st : Instead x y e) (d d' : ℕ) (inner inner' : ℕ → List Kind → Res Tree) (le : d ≤ d') (told : (l : ℕ) (us : List Kind) → Told (inside d) us (inner l us))
    (agrees : 0 < d → (l : ℕ) (m : List Kind) → Met x y e (inner l (m ++ x)) (inner' l (m ++ y)))
    (first : (l : ℕ) → Met x y e (r.prim (room_for d) inner l x) (r.prim (room_for d') inner' l y)) where
  met_list : 0 < d → (l : ℕ) (m : List Kind) → Met x y e (then_do (comma_list (inner l) (m ++ x)) closing) (then_do (comma_list (inner' l) (m ++ y)) closing)
  met_list p l m =
      met_closed x y e st (length (m ++ x)) (comma_list (inner l) (m ++ x)) (comma_list (inner' l) (m ++ y)) (short_listed d inner told l (m ++ x))
      (met_listed x y e st (inside d) (inner l) (inner' l) (told l) (agrees p l) m)

  met_arguments : 0 < d → (l : ℕ) (m : List Kind) → Met x y e (r.arguments (room_for d) inner l (m ++ x)) (r.arguments (room_for d') inner' l (m ++ y))
  met_arguments p l [] =
      both_are x y e (r.arguments (room_for d) inner l x) (then_do (comma_list (inner l) x) closing) (r.arguments (room_for d') inner' l y) (then_do (comma_list (inner' l) y) closing)
      (arguments_some (room_for d) inner l x y e st).0 (arguments_some (room_for d') inner' l x y e st).1 (met_list p l [])
  met_arguments p l (close_ ∷ m) = stays x y e st [] m
  met_arguments p l (k ∷ m) = met_list p l (k ∷ m)

  met_patterns : (m : List Kind) → Met x y e (r.patterns (room_for d) inner (m ++ x)) (r.patterns (room_for d') inner' (m ++ y))
  met_patterns [] = at_patterns (room_for d) (room_for d') inner inner' x y e st
  met_patterns (text s ∷ m) = stays x y e st (s ∷ []) m
  met_patterns (open_ ∷ m) =
      met_enter x y e st d d' (suc (length (m ++ x))) (suc (length (m ++ y))) (then_do (comma_list text_at (m ++ x)) closing) (then_do (comma_list text_at (m ++ y)) closing) le
      (λ p. met_closed x y e st (length (m ++ x)) (comma_list text_at (m ++ x)) (comma_list text_at (m ++ y)) (short 0 (m ++ x) (comma_list text_at (m ++ x)) (told_listed 0 text_at (m ++ x) (told_text 0)))
      (met_listed x y e st 0 text_at text_at (told_text 0) (met_text x y e st) m))
  met_patterns (_ ∷ m) = tt

  met_members : (m : List Kind) → Met x y e (r.members (room_for d) inner (m ++ x)) (r.members (room_for d') inner' (m ++ y))
  met_members [] = at_members (room_for d) (room_for d') inner inner' x y e st
  met_members (open_ ∷ m) =
      met_enter x y e st d d' (suc (length (m ++ x))) (suc (length (m ++ y))) (then_do (comma_list literal (m ++ x)) closing) (then_do (comma_list literal (m ++ y)) closing) le
      (λ p. met_closed x y e st (length (m ++ x)) (comma_list literal (m ++ x)) (comma_list literal (m ++ y)) (short 0 (m ++ x) (comma_list literal (m ++ x)) (told_listed 0 literal (m ++ x) (told_literal 0)))
      (met_listed x y e st 0 literal literal (told_literal 0) (met_literal x y e st) m))
  met_members (_ ∷ m) = tt

  met_leaf : (l : ℕ) (a : Tree) (m : List Kind) → Met x y e (at_level l (suc (length (m ++ x))) (Ok (a, m ++ x))) (at_level l (suc (length (m ++ y))) (Ok (a, m ++ y)))
  met_leaf l a m = met_at_level x y e st l (suc (length (m ++ x))) (suc (length (m ++ y))) (Ok (a, m ++ x)) (Ok (a, m ++ y)) (stays x y e st a m)

  met_field_prim : (l : ℕ) (o : Bool) (place place' : ℕ) (m : List Kind) → Met x y e (at_level l place (res_map field_tree (named_field o (m ++ x)))) (at_level l place' (res_map field_tree (named_field o (m ++ y))))
  met_field_prim l o place place' m =
      met_at_level x y e st l place place' (res_map field_tree (named_field o (m ++ x))) (res_map field_tree (named_field o (m ++ y))) (met_map x y e st field_tree (named_field o (m ++ x)) (named_field o (m ++ y)) (met_named x y e st o m))

  met_call : (l : ℕ) (w : List ℕ) (m : List Kind) → Met x y e (r.prim (room_for d) inner l (name w ∷ open_ ∷ (m ++ x))) (r.prim (room_for d') inner' l (name w ∷ open_ ∷ (m ++ y)))
  met_call l w m =
      met_at_level x y e st l (suc (suc (length (m ++ x)))) (suc (suc (length (m ++ y))))
      (r.enter (room_for d) inner (m ++ x) (then_do (r.arguments (room_for d) inner (l - 1) (m ++ x)) (call_of w (suc (suc (length (m ++ x)))))))
      (r.enter (room_for d') inner' (m ++ y) (then_do (r.arguments (room_for d') inner' (l - 1) (m ++ y)) (call_of w (suc (suc (length (m ++ y)))))))
      (met_enter x y e st d d' (suc (length (m ++ x))) (suc (length (m ++ y))) (then_do (r.arguments (room_for d) inner (l - 1) (m ++ x)) (call_of w (suc (suc (length (m ++ x))))))
      (then_do (r.arguments (room_for d') inner' (l - 1) (m ++ y)) (call_of w (suc (suc (length (m ++ y)))))) le
      (λ p. met_then x y e st (length (m ++ x)) (r.arguments (room_for d) inner (l - 1) (m ++ x)) (r.arguments (room_for d') inner' (l - 1) (m ++ y)) (call_of w (suc (suc (length (m ++ x)))))
      (call_of w (suc (suc (length (m ++ y))))) (short_arguments d inner told (l - 1) (m ++ x)) (met_arguments p (l - 1) m)
      (λ es q b. met_call_of x y e st w (suc (suc (length (m ++ x)))) (suc (suc (length (m ++ y)))) es q) (short_call w (suc (suc (length (m ++ x)))))))

  met_folding_call : (l : ℕ) (w : List ℕ) (m : List Kind) → Met x y e (r.prim (room_for d) inner l (folding w ∷ open_ ∷ (m ++ x))) (r.prim (room_for d') inner' l (folding w ∷ open_ ∷ (m ++ y)))
  met_folding_call l w m =
      met_at_level x y e st l (suc (suc (length (m ++ x)))) (suc (suc (length (m ++ y))))
      (r.enter (room_for d) inner (m ++ x) (res_map (λ es. t.call w true (trees_of es)) (r.arguments (room_for d) inner (l - 1) (m ++ x))))
      (r.enter (room_for d') inner' (m ++ y) (res_map (λ es. t.call w true (trees_of es)) (r.arguments (room_for d') inner' (l - 1) (m ++ y))))
      (met_enter x y e st d d' (suc (length (m ++ x))) (suc (length (m ++ y))) (res_map (λ es. t.call w true (trees_of es)) (r.arguments (room_for d) inner (l - 1) (m ++ x)))
      (res_map (λ es. t.call w true (trees_of es)) (r.arguments (room_for d') inner' (l - 1) (m ++ y))) le
      (λ p. met_map x y e st (λ es. t.call w true (trees_of es)) (r.arguments (room_for d) inner (l - 1) (m ++ x)) (r.arguments (room_for d') inner' (l - 1) (m ++ y)) (met_arguments p (l - 1) m)))

  met_inside : (l : ℕ) (m : List Kind) → Met x y e (r.prim (room_for d) inner l (open_ ∷ (m ++ x))) (r.prim (room_for d') inner' l (open_ ∷ (m ++ y)))
  met_inside l m =
      met_enter x y e st d d' (suc (length (m ++ x))) (suc (length (m ++ y))) (then_do (inner l (m ++ x)) closing) (then_do (inner' l (m ++ y)) closing) le
      (λ p. met_closed x y e st (length (m ++ x)) (inner l (m ++ x)) (inner' l (m ++ y)) (short_inner d inner told l (m ++ x)) (agrees p l m))

  met_prim : (l : ℕ) (m : List Kind) → Met x y e (r.prim (room_for d) inner l (m ++ x)) (r.prim (room_for d') inner' l (m ++ y))
  met_prim l [] = first l
  met_prim l (null_ ∷ m) = met_leaf l t.null m
  met_prim l (true_ ∷ m) = met_leaf l (t.bool true) m
  met_prim l (false_ ∷ m) = met_leaf l (t.bool false) m
  met_prim l (number n ∷ m) = met_leaf l (t.long n) m
  met_prim l (text s ∷ m) = met_leaf l (t.str s) m
  met_prim l (name w ∷ []) =
      both_are x y e (r.prim (room_for d) inner l (name w ∷ x)) (at_level l (suc (length x)) (res_map field_tree (named_field false (name w ∷ x)))) (r.prim (room_for d') inner' l (name w ∷ y))
      (at_level l (suc (length y)) (res_map field_tree (named_field false (name w ∷ y)))) (name_alone (room_for d) inner l w x y e st).0 (name_alone (room_for d') inner' l w x y e st).1
      (met_field_prim l false (suc (length x)) (suc (length y)) (name w ∷ []))
  met_prim l (name w ∷ open_ ∷ m) = met_call l w m
  met_prim l (name w ∷ k ∷ m) = met_field_prim l false (suc (suc (length (m ++ x)))) (suc (suc (length (m ++ y)))) (name w ∷ k ∷ m)
  met_prim l (back w ∷ m) = met_field_prim l false (suc (length (m ++ x))) (suc (length (m ++ y))) (back w ∷ m)
  met_prim l (question_ ∷ m) = met_field_prim l true (suc (length (m ++ x))) (suc (length (m ++ y))) m
  met_prim l (folding w ∷ []) = at_folding (room_for d) (room_for d') inner inner' l w x y e st
  met_prim l (folding w ∷ open_ ∷ m) = met_folding_call l w m
  met_prim l (folding w ∷ k ∷ m) =
      met_at_level x y e st {A = Tree} l (suc (suc (length (m ++ x)))) (suc (suc (length (m ++ y)))) (Err (Syntax (suc (length (m ++ x))))) (Err (Syntax (suc (length (m ++ y))))) tt
  met_prim l (open_ ∷ m) = met_inside l m
  met_prim l (_ ∷ m) = tt

  met_unary_at : (l : ℕ) → Met x y e (r.unary (room_for d) inner l x) (r.unary (room_for d') inner' l y)
  met_unary_at l =
      both_are x y e (r.unary (room_for d) inner l x) (r.prim (room_for d) inner l x) (r.unary (room_for d') inner' l y) (r.prim (room_for d') inner' l y)
      (unary_none (room_for d) inner l x y e st).0 (unary_none (room_for d') inner' l x y e st).1 (first l)

  met_unary : (l : ℕ) (m : List Kind) → Met x y e (r.unary (room_for d) inner l (m ++ x)) (r.unary (room_for d') inner' l (m ++ y))
  unfolding r.unary
  met_unary zero [] = met_unary_at zero
  met_unary zero (adds Sub ∷ m) = tt
  met_unary zero (k ∷ m) = met_prim zero (k ∷ m)
  met_unary (suc l) [] = met_unary_at (suc l)
  met_unary (suc l) (adds Sub ∷ m) = met_map x y e st t.neg (r.unary (room_for d) inner l (m ++ x)) (r.unary (room_for d') inner' l (m ++ y)) (met_unary l m)
  met_unary (suc l) (k ∷ m) = met_prim (suc l) (k ∷ m)

  met_prod : (l : ℕ) (m : List Kind) → Met x y e (r.prod (room_for d) inner l (m ++ x)) (r.prod (room_for d') inner' l (m ++ y))
  met_prod = met_chain x y e st d (r.unary (room_for d) inner) (r.unary (room_for d') inner') (told_unary d inner told) met_unary multiplies_of refl refl (refl, refl, refl, refl, refl, refl, refl, λ w. refl, λ w. refl)

  met_sum : (l : ℕ) (m : List Kind) → Met x y e (r.sum (room_for d) inner l (m ++ x)) (r.sum (room_for d') inner' l (m ++ y))
  met_sum = met_chain x y e st d (r.prod (room_for d) inner) (r.prod (room_for d') inner') (told_prod d inner told) met_prod adds_of refl refl (refl, refl, refl, refl, refl, refl, refl, λ w. refl, λ w. refl)

  met_behind_not : (a : Tree) (m : List Kind) → Met x y e (r.behind_not (room_for d) inner a (m ++ x)) (r.behind_not (room_for d') inner' a (m ++ y))
  met_behind_not a [] = at_behind_not (room_for d) (room_for d') inner inner' a x y e st
  met_behind_not a (in_ f ∷ m) = met_map x y e st (t.member f true a) (r.members (room_for d) inner (m ++ x)) (r.members (room_for d') inner' (m ++ y)) (met_members m)
  met_behind_not a (_ ∷ m) = tt

  met_behind_sum : (l : ℕ) (a : Tree) (m : List Kind) → Met x y e (r.behind_sum (room_for d) inner l a (m ++ x)) (r.behind_sum (room_for d') inner' l a (m ++ y))
  met_behind_sum l a [] = at_behind_sum (room_for d) (room_for d') inner inner' l a x y e st
  met_behind_sum l a (compares o ∷ m) =
      met_above x y e st l a (suc (length (m ++ x))) (suc (length (m ++ y))) (res_map (t.cmp o a) (r.sum (room_for d) inner (l - 1) (m ++ x))) (res_map (t.cmp o a) (r.sum (room_for d') inner' (l - 1) (m ++ y)))
      (met_map x y e st (t.cmp o a) (r.sum (room_for d) inner (l - 1) (m ++ x)) (r.sum (room_for d') inner' (l - 1) (m ++ y)) (met_sum (l - 1) m))
  met_behind_sum l a (matches o ∷ m) =
      met_above x y e st l a (suc (length (m ++ x))) (suc (length (m ++ y))) (res_map (t.pattern o a) (r.patterns (room_for d) inner (m ++ x))) (res_map (t.pattern o a) (r.patterns (room_for d') inner' (m ++ y)))
      (met_map x y e st (t.pattern o a) (r.patterns (room_for d) inner (m ++ x)) (r.patterns (room_for d') inner' (m ++ y)) (met_patterns m))
  met_behind_sum l a (in_ f ∷ m) =
      met_above x y e st l a (suc (length (m ++ x))) (suc (length (m ++ y))) (res_map (t.member f false a) (r.members (room_for d) inner (m ++ x))) (res_map (t.member f false a) (r.members (room_for d') inner' (m ++ y)))
      (met_map x y e st (t.member f false a) (r.members (room_for d) inner (m ++ x)) (r.members (room_for d') inner' (m ++ y)) (met_members m))
  met_behind_sum l a (not_ ∷ m) =
      met_above x y e st l a (suc (length (m ++ x))) (suc (length (m ++ y))) (r.behind_not (room_for d) inner a (m ++ x)) (r.behind_not (room_for d') inner' a (m ++ y)) (met_behind_not a m)
  met_behind_sum l a (regex_ false ∷ m) = tt
  met_behind_sum l a (regex_ true ∷ m) = tt
  met_behind_sum l a (k ∷ m) = stays x y e st a (k ∷ m)

  met_pred : (l : ℕ) (m : List Kind) → Met x y e (r.pred (room_for d) inner l (m ++ x)) (r.pred (room_for d') inner' l (m ++ y))
  met_pred l m =
      met_then x y e st (length (m ++ x)) (r.sum (room_for d) inner l (m ++ x)) (r.sum (room_for d') inner' l (m ++ y)) (r.behind_sum (room_for d) inner l) (r.behind_sum (room_for d') inner' l)
      (short d (m ++ x) (r.sum (room_for d) inner l (m ++ x)) (told_sum d inner told l (m ++ x))) (met_sum l m)
      (λ a p b. met_behind_sum l a p) (λ a us. short d us (r.behind_sum (room_for d) inner l a us) (told_behind_sum d inner told l a us))

  met_neg_at : (l : ℕ) → Met x y e (r.neg (room_for d) inner l x) (r.neg (room_for d') inner' l y)
  met_neg_at l =
      both_are x y e (r.neg (room_for d) inner l x) (r.pred (room_for d) inner l x) (r.neg (room_for d') inner' l y) (r.pred (room_for d') inner' l y)
      (neg_none (room_for d) inner l x y e st).0 (neg_none (room_for d') inner' l x y e st).1 (met_pred l [])

  met_neg : (l : ℕ) (m : List Kind) → Met x y e (r.neg (room_for d) inner l (m ++ x)) (r.neg (room_for d') inner' l (m ++ y))
  unfolding r.neg
  met_neg zero [] = met_neg_at zero
  met_neg zero (not_ ∷ m) = tt
  met_neg zero (k ∷ m) = met_pred zero (k ∷ m)
  met_neg (suc l) [] = met_neg_at (suc l)
  met_neg (suc l) (not_ ∷ m) = met_map x y e st t.not (r.neg (room_for d) inner l (m ++ x)) (r.neg (room_for d') inner' l (m ++ y)) (met_neg l m)
  met_neg (suc l) (k ∷ m) = met_pred (suc l) (k ∷ m)

  met_conj : (l : ℕ) (m : List Kind) → Met x y e (r.conj (room_for d) inner l (m ++ x)) (r.conj (room_for d') inner' l (m ++ y))
  met_conj l m =
      met_then x y e st (length (m ++ x)) (r.neg (room_for d) inner l (m ++ x)) (r.neg (room_for d') inner' l (m ++ y)) (joined_operands is_and t.and (r.neg (room_for d) inner) l) (joined_operands is_and t.and (r.neg (room_for d') inner') l)
      (short d (m ++ x) (r.neg (room_for d) inner l (m ++ x)) (told_neg d inner told l (m ++ x))) (met_neg l m)
      (λ a p b. met_joined x y e st d (r.neg (room_for d) inner) (r.neg (room_for d') inner') (told_neg d inner told) met_neg is_and t.and refl refl (refl, refl, refl, refl, refl, refl, refl, λ w. refl, λ w. refl) l a p)
      (λ a us. short d us (joined_operands is_and t.and (r.neg (room_for d) inner) l a us) (told_joined d is_and t.and (r.neg (room_for d) inner) l a us refl refl (told_neg d inner told)))

  met_level : (l : ℕ) (m : List Kind) → Met x y e (r.level (room_for d) inner l (m ++ x)) (r.level (room_for d') inner' l (m ++ y))
  met_level l m =
      met_then x y e st (length (m ++ x)) (r.conj (room_for d) inner l (m ++ x)) (r.conj (room_for d') inner' l (m ++ y)) (joined_operands is_or t.or (r.conj (room_for d) inner) l) (joined_operands is_or t.or (r.conj (room_for d') inner') l)
      (short d (m ++ x) (r.conj (room_for d) inner l (m ++ x)) (told_conj d inner told l (m ++ x))) (met_conj l m)
      (λ a p b. met_joined x y e st d (r.conj (room_for d) inner) (r.conj (room_for d') inner') (told_conj d inner told) met_conj is_or t.or refl refl (refl, refl, refl, refl, refl, refl, refl, λ w. refl, λ w. refl) l a p)
      (λ a us. short d us (joined_operands is_or t.or (r.conj (room_for d) inner) l a us) (told_joined d is_or t.or (r.conj (room_for d) inner) l a us refl refl (told_conj d inner told)))

-- with as many parentheses allowed in the second run, or more
pub expr_met : (x y : List Kind) (e : Fail) → Instead x y e → (d d' l : ℕ) (m : List Kind) → d ≤ d' → Met x y e (expr d l (m ++ x)) (expr d' l (m ++ y))
unfolding expr
expr_met x y e st zero zero l m le =
    met_level x y e st zero zero (λ _ us. Err (Syntax (length us))) (λ _ us. Err (Syntax (length us))) le (λ k us. upto_here zero us)
    (λ p. absurd (omega (arith, p))) (λ k. shut_first false (λ _ us. Err (Syntax (length us))) (λ _ us. Err (Syntax (length us))) k x y e st) l m
expr_met x y e st zero (suc d') l m le =
    met_level x y e st zero (suc d') (λ _ us. Err (Syntax (length us))) (expr d') le (λ k us. upto_here zero us)
    (λ p. absurd (omega (arith, p))) (λ k. shut_first true (λ _ us. Err (Syntax (length us))) (expr d') k x y e st) l m
expr_met x y e st (suc d) zero l m le = absurd (omega (arith, le))
expr_met x y e st (suc d) (suc d') l m le =
    met_level x y e st (suc d) (suc d') (expr d) (expr d') le (expr_told d) (λ p k q. expr_met x y e st d d' k q (omega (arith, le))) (λ k. open_first d d' k (omega (arith, le)) x y e st) l m
