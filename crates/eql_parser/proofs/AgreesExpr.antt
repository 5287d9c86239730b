-- Two runs of the descent over conditions that begin alike.
use Rattle.std.proofs.Common.{ℕ, zero, suc, ◌-◌, ◌<◌, Bool, true, false, List, [], ◌∷◌, ◌++◌, length, Ok, Err, refl, length-append, arith}
use Rattle.eql_query.specs.declared.expr.MathOp.TheVariants.{Sub}
use Rattle.eql_query.specs.Tree.{Tree}
use Rattle.eql_query.specs.Tree as t
use Rattle.eql_query.specs.View.{trees_of}
use Rattle.eql_parser.specs.Kinds.{Kind, false_, in_, matches, not_, null_, regex_, true_, name, folding, back, text, number, open_, close_, question_, compares, adds}
use Rattle.eql_parser.specs.Reading.{Syntax, LeftOut, Res, then_do, res_map, closing, is_or, is_and, adds_of, multiplies_of, comma_list, dotted, named_field, field_tree, text_at, literal, at_level, call_of, joined_operands, expr}
use Rattle.eql_parser.specs.Reading as r
use Rattle.eql_parser.proofs.Told.{Told, upto_here, told_listed, told_dotted, told_text, told_literal, told_joined, room_for, inside}
use Rattle.eql_parser.proofs.ToldExpr.{told_patterns, told_members, told_prim, told_unary, told_prod, told_sum, told_behind_not, told_behind_sum, told_neg, told_conj, expr_told}
use Rattle.eql_parser.proofs.Agrees.{Short, short, shorter, short_call, short_then, short_map, short_closing, DeepBefore, Agree, AsMany, in_tail, both_deep, agree_then, agree_map, stays, agree_at_level, agree_above, agree_closed, agree_enter, agree_named, agree_text, agree_literal, agree_call_of, agree_listed, agree_chain, agree_joined}

module _ (room : Bool) (inner : ℕ → List Kind → Res Tree) where
  -- where no level is allowed, a name is refused whatever follows
  name_refused : (w : List ℕ) (us : List Kind) → DeepBefore us (r.prim room inner zero (name w ∷ us))
  name_refused w (open_ ∷ us) = omega arith
  name_refused w [] = omega arith
  name_refused w (_ ∷ us) = omega arith

  folding_refused : (w : List ℕ) (us : List Kind) → DeepBefore us (r.prim room inner zero (folding w ∷ us))
  folding_refused w (open_ ∷ us) = omega arith
  folding_refused w [] = omega arith
  folding_refused w (_ ∷ us) = omega arith

short_enter : {A : Type 0} (room : Bool) (inner : ℕ → List Kind → Res Tree) (us : List Kind) (s : Res A) → Short (suc (length us)) s → Short (suc (length us)) (r.enter room inner us s)
short_enter true inner us s h = h
short_enter false inner us s h = omega arith

short_name_field : (w : List ℕ) (us : List Kind) → Short (length us) (res_map field_tree (named_field false (name w ∷ us)))
short_name_field w us =
    short_map (length us) field_tree (named_field false (name w ∷ us))
    (short_map (length us) (λ n. record { name = n; optional = false }) (dotted (length us) w us) (short 0 us (dotted (length us) w us) (told_dotted 0 (length us) w us)))

module _ (d : ℕ) (inner : ℕ → List Kind → Res Tree) (told : (l : ℕ) (us : List Kind) → Told (inside d) us (inner l us)) where
  pub short_inner : (l : ℕ) (us : List Kind) → Short (length us) (inner l us)
  short_inner l us = short (inside d) us (inner l us) (told l us)

  pub short_listed : (l : ℕ) (us : List Kind) → Short (length us) (comma_list (inner l) us)
  short_listed l us = short (inside d) us (comma_list (inner l) us) (told_listed (inside d) (inner l) us (told l))

  short_closed : (l : ℕ) (us : List Kind) → Short (length us) (then_do (comma_list (inner l) us) closing)
  short_closed l us = short_then (length us) (comma_list (inner l) us) closing (short_listed l us) short_closing

  pub short_arguments : (l : ℕ) (us : List Kind) → Short (length us) (r.arguments (room_for d) inner l us)
  short_arguments l [] = short_closed l []
  short_arguments l (close_ ∷ us) = omega arith
  short_arguments l (k ∷ us) = short_closed l (k ∷ us)

  short_call_behind : (l : ℕ) (w : List ℕ) (us : List Kind) → Short (suc (length us)) (r.enter (room_for d) inner us (then_do (r.arguments (room_for d) inner l us) (call_of w (suc (suc (length us))))))
  short_call_behind l w us =
      short_enter (room_for d) inner us (then_do (r.arguments (room_for d) inner l us) (call_of w (suc (suc (length us)))))
      (shorter (length us) (suc (length us)) (then_do (r.arguments (room_for d) inner l us) (call_of w (suc (suc (length us))))) (omega arith)
      (short_then (length us) (r.arguments (room_for d) inner l us) (call_of w (suc (suc (length us)))) (short_arguments l us) (short_call w (suc (suc (length us))))))

  short_folding_behind : (l : ℕ) (w : List ℕ) (us : List Kind) → Short (suc (length us)) (r.enter (room_for d) inner us (res_map (λ es. t.call w true (trees_of es)) (r.arguments (room_for d) inner l us)))
  short_folding_behind l w us =
      short_enter (room_for d) inner us (res_map (λ es. t.call w true (trees_of es)) (r.arguments (room_for d) inner l us))
      (shorter (length us) (suc (length us)) (res_map (λ es. t.call w true (trees_of es)) (r.arguments (room_for d) inner l us)) (omega arith)
      (short_map (length us) (λ es. t.call w true (trees_of es)) (r.arguments (room_for d) inner l us) (short_arguments l us)))

  -- what follows a name alone
  short_name : (l : ℕ) (w : List ℕ) (us : List Kind) → Short (length us) (r.prim (room_for d) inner (suc l) (name w ∷ us))
  short_name l w (open_ ∷ us) = short_call_behind (suc l - 1) w us
  short_name l w [] = short_name_field w []
  short_name l w (k ∷ us) = short_name_field w (k ∷ us)

  short_folding : (l : ℕ) (w : List ℕ) (us : List Kind) → Short (length us) (r.prim (room_for d) inner (suc l) (folding w ∷ us))
  short_folding l w (open_ ∷ us) = short_folding_behind (suc l - 1) w us
  short_folding l w [] = omega arith
  short_folding l w (_ ∷ us) = omega arith

module _ (Same : Type 0) (x y : List Kind) (d d' : ℕ) (inner inner' : ℕ → List Kind → Res Tree) (le : AsMany Same d d') (told : (l : ℕ) (us : List Kind) → Told (inside d) us (inner l us))
    (agrees : 0 < d → (l : ℕ) (m : List Kind) → Agree Same x y (inner l (m ++ x)) (inner' l (m ++ y))) where
  agree_list : 0 < d → (l : ℕ) (m : List Kind) → Agree Same x y (then_do (comma_list (inner l) (m ++ x)) closing) (then_do (comma_list (inner' l) (m ++ y)) closing)
  agree_list p l m =
      agree_closed Same x y (length (m ++ x)) (comma_list (inner l) (m ++ x)) (comma_list (inner' l) (m ++ y)) (short_listed d inner told l (m ++ x))
      (agree_listed Same x y (inside d) (inner l) (inner' l) (told l) (agrees p l) m)

  agree_arguments : 0 < d → (l : ℕ) (m : List Kind) → Agree Same x y (r.arguments (room_for d) inner l (m ++ x)) (r.arguments (room_for d') inner' l (m ++ y))
  agree_arguments p l [] = in_tail Same x y (r.arguments (room_for d) inner l x) (r.arguments (room_for d') inner' l y) (short_arguments d inner told l x)
  agree_arguments p l (close_ ∷ m) = stays Same x y [] m
  agree_arguments p l (k ∷ m) = agree_list p l (k ∷ m)

  agree_patterns : (m : List Kind) → Agree Same x y (r.patterns (room_for d) inner (m ++ x)) (r.patterns (room_for d') inner' (m ++ y))
  agree_patterns [] = in_tail Same x y (r.patterns (room_for d) inner x) (r.patterns (room_for d') inner' y) (short d x (r.patterns (room_for d) inner x) (told_patterns d inner told x))
  agree_patterns (text s ∷ m) = stays Same x y (s ∷ []) m
  agree_patterns (open_ ∷ m) =
      agree_enter Same x y d d' (suc (length (m ++ x))) (suc (length (m ++ y))) (then_do (comma_list text_at (m ++ x)) closing) (then_do (comma_list text_at (m ++ y)) closing) le
      (λ p. agree_closed Same x y (length (m ++ x)) (comma_list text_at (m ++ x)) (comma_list text_at (m ++ y)) (short 0 (m ++ x) (comma_list text_at (m ++ x)) (told_listed 0 text_at (m ++ x) (told_text 0)))
      (agree_listed Same x y 0 text_at text_at (told_text 0) (agree_text Same x y) m))
  agree_patterns (_ ∷ m) = λ i. tt

  agree_members : (m : List Kind) → Agree Same x y (r.members (room_for d) inner (m ++ x)) (r.members (room_for d') inner' (m ++ y))
  agree_members [] = in_tail Same x y (r.members (room_for d) inner x) (r.members (room_for d') inner' y) (short d x (r.members (room_for d) inner x) (told_members d inner told x))
  agree_members (open_ ∷ m) =
      agree_enter Same x y d d' (suc (length (m ++ x))) (suc (length (m ++ y))) (then_do (comma_list literal (m ++ x)) closing) (then_do (comma_list literal (m ++ y)) closing) le
      (λ p. agree_closed Same x y (length (m ++ x)) (comma_list literal (m ++ x)) (comma_list literal (m ++ y)) (short 0 (m ++ x) (comma_list literal (m ++ x)) (told_listed 0 literal (m ++ x) (told_literal 0)))
      (agree_listed Same x y 0 literal literal (told_literal 0) (agree_literal Same x y) m))
  agree_members (_ ∷ m) = λ i. tt

  agree_leaf : (l : ℕ) (e : Tree) (m : List Kind) → Agree Same x y (at_level l (suc (length (m ++ x))) (Ok (e, m ++ x))) (at_level l (suc (length (m ++ y))) (Ok (e, m ++ y)))
  agree_leaf l e m = agree_at_level Same x y l (suc (length (m ++ x))) (suc (length (m ++ y))) (omega (arith, length-append m y)) (Ok (e, m ++ x)) (Ok (e, m ++ y)) (stays Same x y e m)

  agree_field_prim : (l : ℕ) (o : Bool) (place place' : ℕ) → length y < place' → (m : List Kind) → Agree Same x y (at_level l place (res_map field_tree (named_field o (m ++ x)))) (at_level l place' (res_map field_tree (named_field o (m ++ y))))
  agree_field_prim l o place place' behind m =
      agree_at_level Same x y l place place' behind (res_map field_tree (named_field o (m ++ x))) (res_map field_tree (named_field o (m ++ y))) (agree_map Same x y field_tree (named_field o (m ++ x)) (named_field o (m ++ y)) (agree_named Same x y o m))

  agree_last_name : (l : ℕ) (w : List ℕ) → Agree Same x y (r.prim (room_for d) inner l (name w ∷ x)) (r.prim (room_for d') inner' l (name w ∷ y))
  agree_last_name zero w =
      both_deep Same x y (r.prim (room_for d) inner zero (name w ∷ x)) (r.prim (room_for d') inner' zero (name w ∷ y)) (name_refused (room_for d) inner w x) (name_refused (room_for d') inner' w y)
  agree_last_name (suc l) w = in_tail Same x y (r.prim (room_for d) inner (suc l) (name w ∷ x)) (r.prim (room_for d') inner' (suc l) (name w ∷ y)) (short_name d inner told l w x)

  agree_last_folding : (l : ℕ) (w : List ℕ) → Agree Same x y (r.prim (room_for d) inner l (folding w ∷ x)) (r.prim (room_for d') inner' l (folding w ∷ y))
  agree_last_folding zero w =
      both_deep Same x y (r.prim (room_for d) inner zero (folding w ∷ x)) (r.prim (room_for d') inner' zero (folding w ∷ y)) (folding_refused (room_for d) inner w x) (folding_refused (room_for d') inner' w y)
  agree_last_folding (suc l) w = in_tail Same x y (r.prim (room_for d) inner (suc l) (folding w ∷ x)) (r.prim (room_for d') inner' (suc l) (folding w ∷ y)) (short_folding d inner told l w x)

  agree_call : (l : ℕ) (w : List ℕ) (m : List Kind) → Agree Same x y (r.prim (room_for d) inner l (name w ∷ open_ ∷ (m ++ x))) (r.prim (room_for d') inner' l (name w ∷ open_ ∷ (m ++ y)))
  agree_call l w m =
      agree_at_level Same x y l (suc (suc (length (m ++ x)))) (suc (suc (length (m ++ y)))) (omega (arith, length-append m y))
      (r.enter (room_for d) inner (m ++ x) (then_do (r.arguments (room_for d) inner (l - 1) (m ++ x)) (call_of w (suc (suc (length (m ++ x)))))))
      (r.enter (room_for d') inner' (m ++ y) (then_do (r.arguments (room_for d') inner' (l - 1) (m ++ y)) (call_of w (suc (suc (length (m ++ y)))))))
      (agree_enter Same x y d d' (suc (length (m ++ x))) (suc (length (m ++ y))) (then_do (r.arguments (room_for d) inner (l - 1) (m ++ x)) (call_of w (suc (suc (length (m ++ x))))))
      (then_do (r.arguments (room_for d') inner' (l - 1) (m ++ y)) (call_of w (suc (suc (length (m ++ y)))))) le
      (λ p. agree_then Same x y (length (m ++ x)) (r.arguments (room_for d) inner (l - 1) (m ++ x)) (r.arguments (room_for d') inner' (l - 1) (m ++ y)) (call_of w (suc (suc (length (m ++ x)))))
      (call_of w (suc (suc (length (m ++ y))))) (short_arguments d inner told (l - 1) (m ++ x)) (agree_arguments p (l - 1) m)
      (λ es q b. agree_call_of Same x y w (suc (suc (length (m ++ x)))) (suc (suc (length (m ++ y)))) es q) (short_call w (suc (suc (length (m ++ x)))))))

  agree_folding_call : (l : ℕ) (w : List ℕ) (m : List Kind) → Agree Same x y (r.prim (room_for d) inner l (folding w ∷ open_ ∷ (m ++ x))) (r.prim (room_for d') inner' l (folding w ∷ open_ ∷ (m ++ y)))
  agree_folding_call l w m =
      agree_at_level Same x y l (suc (suc (length (m ++ x)))) (suc (suc (length (m ++ y)))) (omega (arith, length-append m y))
      (r.enter (room_for d) inner (m ++ x) (res_map (λ es. t.call w true (trees_of es)) (r.arguments (room_for d) inner (l - 1) (m ++ x))))
      (r.enter (room_for d') inner' (m ++ y) (res_map (λ es. t.call w true (trees_of es)) (r.arguments (room_for d') inner' (l - 1) (m ++ y))))
      (agree_enter Same x y d d' (suc (length (m ++ x))) (suc (length (m ++ y))) (res_map (λ es. t.call w true (trees_of es)) (r.arguments (room_for d) inner (l - 1) (m ++ x)))
      (res_map (λ es. t.call w true (trees_of es)) (r.arguments (room_for d') inner' (l - 1) (m ++ y))) le
      (λ p. agree_map Same x y (λ es. t.call w true (trees_of es)) (r.arguments (room_for d) inner (l - 1) (m ++ x)) (r.arguments (room_for d') inner' (l - 1) (m ++ y)) (agree_arguments p (l - 1) m)))

  agree_inside : (l : ℕ) (m : List Kind) → Agree Same x y (r.prim (room_for d) inner l (open_ ∷ (m ++ x))) (r.prim (room_for d') inner' l (open_ ∷ (m ++ y)))
  agree_inside l m =
      agree_enter Same x y d d' (suc (length (m ++ x))) (suc (length (m ++ y))) (then_do (inner l (m ++ x)) closing) (then_do (inner' l (m ++ y)) closing) le
      (λ p. agree_closed Same x y (length (m ++ x)) (inner l (m ++ x)) (inner' l (m ++ y)) (short_inner d inner told l (m ++ x)) (agrees p l m))

  agree_prim : (l : ℕ) (m : List Kind) → Agree Same x y (r.prim (room_for d) inner l (m ++ x)) (r.prim (room_for d') inner' l (m ++ y))
  agree_prim l [] = in_tail Same x y (r.prim (room_for d) inner l x) (r.prim (room_for d') inner' l y) (short d x (r.prim (room_for d) inner l x) (told_prim d inner told l x))
  agree_prim l (null_ ∷ m) = agree_leaf l t.null m
  agree_prim l (true_ ∷ m) = agree_leaf l (t.bool true) m
  agree_prim l (false_ ∷ m) = agree_leaf l (t.bool false) m
  agree_prim l (number n ∷ m) = agree_leaf l (t.long n) m
  agree_prim l (text s ∷ m) = agree_leaf l (t.str s) m
  agree_prim l (name w ∷ []) = agree_last_name l w
  agree_prim l (name w ∷ open_ ∷ m) = agree_call l w m
  agree_prim l (name w ∷ k ∷ m) = agree_field_prim l false (suc (suc (length (m ++ x)))) (suc (suc (length (m ++ y)))) (omega (arith, length-append m y)) (name w ∷ k ∷ m)
  agree_prim l (back w ∷ m) = agree_field_prim l false (suc (length (m ++ x))) (suc (length (m ++ y))) (omega (arith, length-append m y)) (back w ∷ m)
  agree_prim l (question_ ∷ m) = agree_field_prim l true (suc (length (m ++ x))) (suc (length (m ++ y))) (omega (arith, length-append m y)) m
  agree_prim l (folding w ∷ []) = agree_last_folding l w
  agree_prim l (folding w ∷ open_ ∷ m) = agree_folding_call l w m
  agree_prim l (folding w ∷ k ∷ m) =
      agree_at_level Same x y {A = Tree} l (suc (suc (length (m ++ x)))) (suc (suc (length (m ++ y)))) (omega (arith, length-append m y)) (Err (Syntax (suc (length (m ++ x))))) (Err (Syntax (suc (length (m ++ y))))) (λ i. tt)
  agree_prim l (open_ ∷ m) = agree_inside l m
  agree_prim l (_ ∷ m) = λ i. tt

  agree_unary : (l : ℕ) (m : List Kind) → Agree Same x y (r.unary (room_for d) inner l (m ++ x)) (r.unary (room_for d') inner' l (m ++ y))
  unfolding r.unary
  agree_unary zero [] = in_tail Same x y (r.unary (room_for d) inner zero x) (r.unary (room_for d') inner' zero y) (short d x (r.unary (room_for d) inner zero x) (told_unary d inner told zero x))
  agree_unary zero (adds Sub ∷ m) = λ i. omega (arith, length-append m y)
  agree_unary zero (k ∷ m) = agree_prim zero (k ∷ m)
  agree_unary (suc l) [] =
      in_tail Same x y (r.unary (room_for d) inner (suc l) x) (r.unary (room_for d') inner' (suc l) y) (short d x (r.unary (room_for d) inner (suc l) x) (told_unary d inner told (suc l) x))
  agree_unary (suc l) (adds Sub ∷ m) = agree_map Same x y t.neg (r.unary (room_for d) inner l (m ++ x)) (r.unary (room_for d') inner' l (m ++ y)) (agree_unary l m)
  agree_unary (suc l) (k ∷ m) = agree_prim (suc l) (k ∷ m)

  agree_prod : (l : ℕ) (m : List Kind) → Agree Same x y (r.prod (room_for d) inner l (m ++ x)) (r.prod (room_for d') inner' l (m ++ y))
  agree_prod = agree_chain Same x y d (r.unary (room_for d) inner) (r.unary (room_for d') inner') (told_unary d inner told) agree_unary multiplies_of refl refl

  agree_sum : (l : ℕ) (m : List Kind) → Agree Same x y (r.sum (room_for d) inner l (m ++ x)) (r.sum (room_for d') inner' l (m ++ y))
  agree_sum = agree_chain Same x y d (r.prod (room_for d) inner) (r.prod (room_for d') inner') (told_prod d inner told) agree_prod adds_of refl refl

  agree_behind_not : (a : Tree) (m : List Kind) → Agree Same x y (r.behind_not (room_for d) inner a (m ++ x)) (r.behind_not (room_for d') inner' a (m ++ y))
  agree_behind_not a [] = in_tail Same x y (r.behind_not (room_for d) inner a x) (r.behind_not (room_for d') inner' a y) (short d x (r.behind_not (room_for d) inner a x) (told_behind_not d inner told a x))
  agree_behind_not a (in_ f ∷ m) = agree_map Same x y (t.member f true a) (r.members (room_for d) inner (m ++ x)) (r.members (room_for d') inner' (m ++ y)) (agree_members m)
  agree_behind_not a (_ ∷ m) = λ i. tt

  agree_behind_sum : (l : ℕ) (a : Tree) (m : List Kind) → Agree Same x y (r.behind_sum (room_for d) inner l a (m ++ x)) (r.behind_sum (room_for d') inner' l a (m ++ y))
  agree_behind_sum l a [] =
      in_tail Same x y (r.behind_sum (room_for d) inner l a x) (r.behind_sum (room_for d') inner' l a y) (short d x (r.behind_sum (room_for d) inner l a x) (told_behind_sum d inner told l a x))
  agree_behind_sum l a (compares o ∷ m) =
      agree_above Same x y l a (suc (length (m ++ x))) (suc (length (m ++ y))) (omega (arith, length-append m y)) (res_map (t.cmp o a) (r.sum (room_for d) inner (l - 1) (m ++ x))) (res_map (t.cmp o a) (r.sum (room_for d') inner' (l - 1) (m ++ y)))
      (agree_map Same x y (t.cmp o a) (r.sum (room_for d) inner (l - 1) (m ++ x)) (r.sum (room_for d') inner' (l - 1) (m ++ y)) (agree_sum (l - 1) m))
  agree_behind_sum l a (matches o ∷ m) =
      agree_above Same x y l a (suc (length (m ++ x))) (suc (length (m ++ y))) (omega (arith, length-append m y)) (res_map (t.pattern o a) (r.patterns (room_for d) inner (m ++ x))) (res_map (t.pattern o a) (r.patterns (room_for d') inner' (m ++ y)))
      (agree_map Same x y (t.pattern o a) (r.patterns (room_for d) inner (m ++ x)) (r.patterns (room_for d') inner' (m ++ y)) (agree_patterns m))
  agree_behind_sum l a (in_ f ∷ m) =
      agree_above Same x y l a (suc (length (m ++ x))) (suc (length (m ++ y))) (omega (arith, length-append m y)) (res_map (t.member f false a) (r.members (room_for d) inner (m ++ x))) (res_map (t.member f false a) (r.members (room_for d') inner' (m ++ y)))
      (agree_map Same x y (t.member f false a) (r.members (room_for d) inner (m ++ x)) (r.members (room_for d') inner' (m ++ y)) (agree_members m))
  agree_behind_sum l a (not_ ∷ m) =
      agree_above Same x y l a (suc (length (m ++ x))) (suc (length (m ++ y))) (omega (arith, length-append m y)) (r.behind_not (room_for d) inner a (m ++ x)) (r.behind_not (room_for d') inner' a (m ++ y)) (agree_behind_not a m)
  agree_behind_sum l a (regex_ false ∷ m) = λ i. tt
  agree_behind_sum l a (regex_ true ∷ m) = λ i. tt
  agree_behind_sum l a (k ∷ m) = stays Same x y a (k ∷ m)

  agree_pred : (l : ℕ) (m : List Kind) → Agree Same x y (r.pred (room_for d) inner l (m ++ x)) (r.pred (room_for d') inner' l (m ++ y))
  agree_pred l m =
      agree_then Same x y (length (m ++ x)) (r.sum (room_for d) inner l (m ++ x)) (r.sum (room_for d') inner' l (m ++ y)) (r.behind_sum (room_for d) inner l) (r.behind_sum (room_for d') inner' l)
      (short d (m ++ x) (r.sum (room_for d) inner l (m ++ x)) (told_sum d inner told l (m ++ x))) (agree_sum l m)
      (λ a p b. agree_behind_sum l a p) (λ a us. short d us (r.behind_sum (room_for d) inner l a us) (told_behind_sum d inner told l a us))

  agree_neg : (l : ℕ) (m : List Kind) → Agree Same x y (r.neg (room_for d) inner l (m ++ x)) (r.neg (room_for d') inner' l (m ++ y))
  unfolding r.neg
  agree_neg zero [] = in_tail Same x y (r.neg (room_for d) inner zero x) (r.neg (room_for d') inner' zero y) (short d x (r.neg (room_for d) inner zero x) (told_neg d inner told zero x))
  agree_neg zero (not_ ∷ m) = λ i. omega (arith, length-append m y)
  agree_neg zero (k ∷ m) = agree_pred zero (k ∷ m)
  agree_neg (suc l) [] = in_tail Same x y (r.neg (room_for d) inner (suc l) x) (r.neg (room_for d') inner' (suc l) y) (short d x (r.neg (room_for d) inner (suc l) x) (told_neg d inner told (suc l) x))
  agree_neg (suc l) (not_ ∷ m) = agree_map Same x y t.not (r.neg (room_for d) inner l (m ++ x)) (r.neg (room_for d') inner' l (m ++ y)) (agree_neg l m)
  agree_neg (suc l) (k ∷ m) = agree_pred (suc l) (k ∷ m)

  agree_conj : (l : ℕ) (m : List Kind) → Agree Same x y (r.conj (room_for d) inner l (m ++ x)) (r.conj (room_for d') inner' l (m ++ y))
  agree_conj l m =
      agree_then Same x y (length (m ++ x)) (r.neg (room_for d) inner l (m ++ x)) (r.neg (room_for d') inner' l (m ++ y)) (joined_operands is_and t.and (r.neg (room_for d) inner) l) (joined_operands is_and t.and (r.neg (room_for d') inner') l)
      (short d (m ++ x) (r.neg (room_for d) inner l (m ++ x)) (told_neg d inner told l (m ++ x))) (agree_neg l m)
      (λ e p b. agree_joined Same x y d (r.neg (room_for d) inner) (r.neg (room_for d') inner') (told_neg d inner told) agree_neg is_and t.and refl refl l e p)
      (λ e us. short d us (joined_operands is_and t.and (r.neg (room_for d) inner) l e us) (told_joined d is_and t.and (r.neg (room_for d) inner) l e us refl refl (told_neg d inner told)))

  agree_level : (l : ℕ) (m : List Kind) → Agree Same x y (r.level (room_for d) inner l (m ++ x)) (r.level (room_for d') inner' l (m ++ y))
  agree_level l m =
      agree_then Same x y (length (m ++ x)) (r.conj (room_for d) inner l (m ++ x)) (r.conj (room_for d') inner' l (m ++ y)) (joined_operands is_or t.or (r.conj (room_for d) inner) l) (joined_operands is_or t.or (r.conj (room_for d') inner') l)
      (short d (m ++ x) (r.conj (room_for d) inner l (m ++ x)) (told_conj d inner told l (m ++ x))) (agree_conj l m)
      (λ e p b. agree_joined Same x y d (r.conj (room_for d) inner) (r.conj (room_for d') inner') (told_conj d inner told) agree_conj is_or t.or refl refl l e p)
      (λ e us. short d us (joined_operands is_or t.or (r.conj (room_for d) inner) l e us) (told_joined d is_or t.or (r.conj (room_for d) inner) l e us refl refl (told_conj d inner told)))

-- with as many parentheses allowed in the second run, or more
pub expr_agrees : (Same : Type 0) (x y : List Kind) (d d' l : ℕ) (m : List Kind) → AsMany Same d d' → Agree Same x y (expr d l (m ++ x)) (expr d' l (m ++ y))
unfolding expr
expr_agrees Same x y zero zero l m le =
    agree_level Same x y zero zero (λ _ us. Err (Syntax (length us))) (λ _ us. Err (Syntax (length us))) le (λ k us. upto_here zero us)
    (λ p. absurd (omega (arith, p))) l m
expr_agrees Same x y zero (suc d') l m le =
    agree_level Same x y zero (suc d') (λ _ us. Err (Syntax (length us))) (expr d') le (λ k us. upto_here zero us)
    (λ p. absurd (omega (arith, p))) l m
expr_agrees Same x y (suc d) zero l m le = absurd (omega (arith, le.0))
expr_agrees Same x y (suc d) (suc d') l m le =
    agree_level Same x y (suc d) (suc d') (expr d) (expr d') le (expr_told d) (λ p k q. expr_agrees Same x y d d' k q (omega (arith, le.0), λ e. omega (arith, le.1 e))) l m
