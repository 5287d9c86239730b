-- What the descent returns for a condition, against the tokens that it was given.
use Rattle.std.proofs.Common.{ℕ, zero, suc, ◌-◌, ◌<◌, Bool, true, false, List, [], ◌∷◌, length, Ok, Err, refl, arith}
use Rattle.eql_query.specs.declared.expr.MathOp.TheVariants.{Sub}
use Rattle.eql_query.specs.Tree.{Tree, Trees}
use Rattle.eql_query.specs.Tree as t
use Rattle.eql_query.specs.View.{trees_of}
use Rattle.eql_parser.specs.Kinds.{Kind, false_, in_, matches, not_, null_, regex_, true_, name, folding, back, text, number, open_, close_, question_, compares, adds}
use Rattle.eql_parser.specs.Reading.{Syntax, Res, then_do, res_map, closing, is_or, is_and, adds_of, multiplies_of, comma_list, named_field, field_tree, text_at, literal, at_level, above, joined_operands, call_of, expr}
use Rattle.eql_parser.specs.Reading as r
use Rattle.eql_parser.proofs.Opens.{Plain}
use Rattle.eql_parser.proofs.Told.{Told, Upto, upto_here, upto_behind, told_then, told_map, told_here, told_plain, told_one, told_closing, told_pair, told_enter, told_enter_behind, told_at_level, told_above, told_listed, told_named, told_text, told_literal, told_chain, told_joined, told_call, room_for, inside}

module _ (d : ℕ) (inner : ℕ → List Kind → Res Tree) (told : (l : ℕ) (us : List Kind) → Told (inside d) us (inner l us)) where
  pub told_arguments : (l : ℕ) (ts : List Kind) → 0 < d → Told d (open_ ∷ ts) (r.arguments (room_for d) inner l ts)
  told_arguments l (close_ ∷ ts) p = told_pair {A = List Tree} d [] ts p
  told_arguments l ts p = told_closing d ts (comma_list (inner l) ts) p (told_listed (inside d) (inner l) ts (told l))

  pub told_patterns : (ts : List Kind) → Told d ts (r.patterns (room_for d) inner ts)
  told_patterns (text s ∷ ts) = told_one d (text s) (s ∷ []) ts tt
  told_patterns (open_ ∷ ts) = told_enter d ts (then_do (comma_list text_at ts) closing) (λ p. told_closing d ts (comma_list text_at ts) p (told_listed (inside d) text_at ts (told_text (inside d))))
  told_patterns [] = upto_here d _
  told_patterns (_ ∷ ts) = upto_here d _

  pub told_members : (ts : List Kind) → Told d ts (r.members (room_for d) inner ts)
  told_members (open_ ∷ ts) = told_enter d ts (then_do (comma_list literal ts) closing) (λ p. told_closing d ts (comma_list literal ts) p (told_listed (inside d) literal ts (told_literal (inside d))))
  told_members [] = upto_here d _
  told_members (_ ∷ ts) = upto_here d _

  told_leaf : (l : ℕ) (k : Kind) (e : Tree) (ts : List Kind) → Told d (k ∷ ts) (Ok (e, ts)) → Told d (k ∷ ts) (at_level l (suc (length ts)) (Ok (e, ts)))
  told_leaf l k e ts h = told_at_level d (k ∷ ts) l (suc (length ts)) (Ok (e, ts)) (omega arith) (upto_here d _) h

  told_field_prim : (l : ℕ) (o : Bool) (ts : List Kind) (place : ℕ) (us : List Kind) → 0 < place → Upto d us place → Told d us (named_field o ts)
      → Told d us (at_level l place (res_map field_tree (named_field o ts)))
  told_field_prim l o ts place us p q h = told_at_level d us l place (res_map field_tree (named_field o ts)) p q (told_map d us field_tree (named_field o ts) h)

  told_name_call : (l : ℕ) (w : List ℕ) (ts : List Kind) → Told d (name w ∷ open_ ∷ ts) (r.prim (room_for d) inner l (name w ∷ open_ ∷ ts))
  told_name_call l w ts =
      told_at_level d (name w ∷ open_ ∷ ts) l (suc (suc (length ts))) (r.enter (room_for d) inner ts (then_do (r.arguments (room_for d) inner (l - 1) ts) (call_of w (suc (suc (length ts))))))
      (omega arith) (upto_here d _)
      (told_enter_behind d (name w) ts (then_do (r.arguments (room_for d) inner (l - 1) ts) (call_of w (suc (suc (length ts))))) tt
      (λ p. told_call d w ts (r.arguments (room_for d) inner (l - 1) ts) (told_arguments (l - 1) ts p)))

  told_folding_call : (l : ℕ) (w : List ℕ) (ts : List Kind) → Told d (folding w ∷ open_ ∷ ts) (r.prim (room_for d) inner l (folding w ∷ open_ ∷ ts))
  told_folding_call l w ts =
      told_at_level d (folding w ∷ open_ ∷ ts) l (suc (suc (length ts))) (r.enter (room_for d) inner ts (res_map (λ es. t.call w true (trees_of es)) (r.arguments (room_for d) inner (l - 1) ts)))
      (omega arith) (upto_here d _)
      (told_enter_behind d (folding w) ts (res_map (λ es. t.call w true (trees_of es)) (r.arguments (room_for d) inner (l - 1) ts)) tt
      (λ p. told_plain d (folding w) (open_ ∷ ts) (res_map (λ es. t.call w true (trees_of es)) (r.arguments (room_for d) inner (l - 1) ts)) tt
      (told_map d (open_ ∷ ts) (λ es. t.call w true (trees_of es)) (r.arguments (room_for d) inner (l - 1) ts) (told_arguments (l - 1) ts p))))

  pub told_prim : (l : ℕ) (ts : List Kind) → Told d ts (r.prim (room_for d) inner l ts)
  told_prim l (null_ ∷ ts) = told_leaf l null_ t.null ts (told_one d null_ t.null ts tt)
  told_prim l (true_ ∷ ts) = told_leaf l true_ (t.bool true) ts (told_one d true_ (t.bool true) ts tt)
  told_prim l (false_ ∷ ts) = told_leaf l false_ (t.bool false) ts (told_one d false_ (t.bool false) ts tt)
  told_prim l (number n ∷ ts) = told_leaf l (number n) (t.long n) ts (told_one d (number n) (t.long n) ts tt)
  told_prim l (text s ∷ ts) = told_leaf l (text s) (t.str s) ts (told_one d (text s) (t.str s) ts tt)
  told_prim l (name w ∷ open_ ∷ ts) = told_name_call l w ts
  told_prim l (name w ∷ ts) = told_field_prim l false (name w ∷ ts) (suc (length ts)) (name w ∷ ts) (omega arith) (upto_here d _) (told_named d false (name w ∷ ts))
  told_prim l (back w ∷ ts) = told_field_prim l false (back w ∷ ts) (suc (length ts)) (back w ∷ ts) (omega arith) (upto_here d _) (told_named d false (back w ∷ ts))
  told_prim l (question_ ∷ ts) =
      told_field_prim l true ts (suc (length ts)) (question_ ∷ ts) (omega arith) (upto_here d _) (told_plain d question_ ts (named_field true ts) tt (told_named d true ts))
  told_prim l (folding w ∷ open_ ∷ ts) = told_folding_call l w ts
  told_prim l (folding w ∷ ts) = told_at_level {A = Tree} d (folding w ∷ ts) l (suc (length ts)) (Err (Syntax (length ts))) (omega arith) (upto_here d _) (upto_behind d (folding w) ts tt)
  told_prim l (open_ ∷ ts) = told_enter d ts (then_do (inner l ts) closing) (λ p. told_closing d ts (inner l ts) p (told l ts))
  told_prim l [] = upto_here d _
  told_prim l (_ ∷ ts) = upto_here d _

  pub told_unary : (l : ℕ) (ts : List Kind) → Told d ts (r.unary (room_for d) inner l ts)
  unfolding r.unary
  told_unary zero (adds Sub ∷ ts) = (omega arith, upto_here d _)
  told_unary zero ts = told_prim zero ts
  told_unary (suc l) (adds Sub ∷ ts) = told_plain d (adds Sub) ts (res_map t.neg (r.unary (room_for d) inner l ts)) tt (told_map d ts t.neg (r.unary (room_for d) inner l ts) (told_unary l ts))
  told_unary (suc l) ts = told_prim (suc l) ts

  pub told_prod : (l : ℕ) (ts : List Kind) → Told d ts (r.prod (room_for d) inner l ts)
  told_prod = told_chain d multiplies_of (r.unary (room_for d) inner) refl refl told_unary

  pub told_sum : (l : ℕ) (ts : List Kind) → Told d ts (r.sum (room_for d) inner l ts)
  told_sum = told_chain d adds_of (r.prod (room_for d) inner) refl refl told_prod

  pub told_behind_not : (a : Tree) (ts : List Kind) → Told d ts (r.behind_not (room_for d) inner a ts)
  told_behind_not a (in_ f ∷ ts) = told_plain d (in_ f) ts (res_map (t.member f true a) (r.members (room_for d) inner ts)) tt (told_map d ts (t.member f true a) (r.members (room_for d) inner ts) (told_members ts))
  told_behind_not a [] = upto_here d _
  told_behind_not a (_ ∷ ts) = upto_here d _

  told_operator : (l : ℕ) (a : Tree) (k : Kind) (ts : List Kind) (r : Res Tree) → Plain k → Told d ts r → Told d (k ∷ ts) (above l a (suc (length ts)) r)
  told_operator l a k ts r p h = told_above d (k ∷ ts) l a (suc (length ts)) r (omega arith) (upto_here d _) (told_plain d k ts r p h)

  pub told_behind_sum : (l : ℕ) (a : Tree) (ts : List Kind) → Told d ts (r.behind_sum (room_for d) inner l a ts)
  told_behind_sum l a (compares o ∷ ts) =
      told_operator l a (compares o) ts (res_map (t.cmp o a) (r.sum (room_for d) inner (l - 1) ts)) tt (told_map d ts (t.cmp o a) (r.sum (room_for d) inner (l - 1) ts) (told_sum (l - 1) ts))
  told_behind_sum l a (matches o ∷ ts) =
      told_operator l a (matches o) ts (res_map (t.pattern o a) (r.patterns (room_for d) inner ts)) tt (told_map d ts (t.pattern o a) (r.patterns (room_for d) inner ts) (told_patterns ts))
  told_behind_sum l a (in_ f ∷ ts) =
      told_operator l a (in_ f) ts (res_map (t.member f false a) (r.members (room_for d) inner ts)) tt (told_map d ts (t.member f false a) (r.members (room_for d) inner ts) (told_members ts))
  told_behind_sum l a (not_ ∷ ts) = told_operator l a not_ ts (r.behind_not (room_for d) inner a ts) tt (told_behind_not a ts)
  told_behind_sum l a (regex_ false ∷ ts) = (omega arith, upto_here d _)
  told_behind_sum l a (regex_ true ∷ ts) = (omega arith, upto_here d _)
  told_behind_sum l a [] = told_here d a []
  told_behind_sum l a (k ∷ ts) = told_here d a (k ∷ ts)

  pub told_pred : (l : ℕ) (ts : List Kind) → Told d ts (r.pred (room_for d) inner l ts)
  told_pred l ts = told_then d ts (r.sum (room_for d) inner l ts) (r.behind_sum (room_for d) inner l) (told_sum l ts) (told_behind_sum l)

  pub told_neg : (l : ℕ) (ts : List Kind) → Told d ts (r.neg (room_for d) inner l ts)
  unfolding r.neg
  told_neg zero (not_ ∷ ts) = (omega arith, upto_here d _)
  told_neg zero ts = told_pred zero ts
  told_neg (suc l) (not_ ∷ ts) = told_plain d not_ ts (res_map t.not (r.neg (room_for d) inner l ts)) tt (told_map d ts t.not (r.neg (room_for d) inner l ts) (told_neg l ts))
  told_neg (suc l) ts = told_pred (suc l) ts

  pub told_conj : (l : ℕ) (ts : List Kind) → Told d ts (r.conj (room_for d) inner l ts)
  told_conj l ts =
      told_then d ts (r.neg (room_for d) inner l ts) (joined_operands is_and t.and (r.neg (room_for d) inner) l) (told_neg l ts)
      (λ e us. told_joined d is_and t.and (r.neg (room_for d) inner) l e us refl refl told_neg)

  pub told_level : (l : ℕ) (ts : List Kind) → Told d ts (r.level (room_for d) inner l ts)
  told_level l ts =
      told_then d ts (r.conj (room_for d) inner l ts) (joined_operands is_or t.or (r.conj (room_for d) inner) l) (told_conj l ts)
      (λ e us. told_joined d is_or t.or (r.conj (room_for d) inner) l e us refl refl told_conj)

pub expr_told : (d l : ℕ) (ts : List Kind) → Told d ts (expr d l ts)
unfolding expr
expr_told zero l ts = told_level zero (λ _ us. Err (Syntax (length us))) (λ k us. upto_here zero us) l ts
expr_told (suc d) l ts = told_level (suc d) (expr d) (expr_told d) l ts
