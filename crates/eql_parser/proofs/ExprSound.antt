-- What the descent returns is in the grammar, and has no more levels than are allowed.
use Rattle.std.proofs.Common.{◌≡◌, ℕ, zero, suc, ◌-◌, ◌<◌, ◌≤◌, Bool, true, false, if◌then◌else◌, nat_lt, List, [], ◌∷◌, ◌++◌, length, Option, Some, None, Ok, Err, refl, subst, ltb-true, arith}
use Rattle.eql_query.specs.declared.expr.FieldRef.{FieldRef}
use Rattle.eql_query.specs.declared.expr.CmpOp.{CmpOp}
use Rattle.eql_query.specs.declared.expr.PatOp.{PatOp}
use Rattle.eql_query.specs.declared.expr.MathOp.{MathOp}
use Rattle.eql_query.specs.declared.expr.MathOp.TheVariants.{Sub}
use Rattle.eql_query.specs.Tree.{Tree, Trees, none, more}
use Rattle.eql_query.specs.Tree as t
use Rattle.eql_query.specs.View.{trees_of}
use Rattle.eql_parser.specs.Kinds.{Kind, false_, in_, matches, not_, null_, regex_, true_, name, folding, back, text, number, open_, close_, dot_, question_, compares, adds, multiplies}
use Rattle.eql_parser.specs.Grammar.{IsListed, first_part, part, IsDotted, ends, goes_on, IsField, required, optional, IsText, a_text, IsPatterns, one_text, some_texts, IsLiteral, is_number, is_negative, is_text, is_true, is_false, IsMembers, members, is_left_out_call, Joint, by_or, by_and, by_comma, between, IsExpr, conj, any_of, IsConj, neg, all_of, IsOperands, IsOperand, of_or, of_and, of_comma, IsNeg, negated, pred, IsPred, sum, compared, matched, is_in, is_not_in, IsSum, prod, added, IsProd, unary, multiplied, IsUnary, minus, prim, IsPrim, is_null, is_yes, is_no, is_long, is_str, is_field, is_call, is_folding_call, inside, IsArguments, no_arguments, some_arguments}
use Rattle.eql_parser.specs.QueryGrammar.{IsKey, a_key}
use Rattle.eql_parser.specs.Limits.{depth, deepest}
use Rattle.eql_parser.specs.Reading.{Fail, Syntax, Res, then_do, res_map, closing, is_or, is_and, is_comma, adds_of, multiplies_of, more_of, separated, comma_list, dotted_part, behind_dot, dotted, named_by, named_field, field, field_tree, text_at, negative_at, literal, at_level, above, chain_on, chain_from, chain, joined_operands, call_of, enter, arguments, expr}
use Rattle.eql_parser.specs.Reading as r
use Rattle.eql_parser.proofs.Rows.{Row, last_of, next_of, or_only, and_only, comma_only, row_listed, Within, row_operands}

-- what is returned is so
abbrev pub Gives : {A : Type 0} → (A → List Kind → Type 0) → Res A → Type 0
Gives P (Ok x) = P x.0 x.1
Gives P (Err e) = Unit {0}

pub gives_then : {A B : Type 0} (P : A → List Kind → Type 0) (Q : B → List Kind → Type 0) (r : Res A) (f : A → List Kind → Res B)
    → Gives P r → ((a : A) (us : List Kind) → P a us → Gives Q (f a us)) → Gives Q (then_do r f)
gives_then P Q (Ok x) f h k = k x.0 x.1 h
gives_then P Q (Err e) f h k = tt

pub gives_map : {A B : Type 0} (P : A → List Kind → Type 0) (Q : B → List Kind → Type 0) (r : Res A) (f : A → B)
    → Gives P r → ((a : A) (us : List Kind) → P a us → Q (f a) us) → Gives Q (res_map f r)
gives_map P Q (Ok x) f h k = k x.0 x.1 h
gives_map P Q (Err e) f h k = tt

pub gives_also : {A : Type 0} (P Q : A → List Kind → Type 0) (r : Res A) → Gives P r → ((a : A) (us : List Kind) → P a us → Q a us) → Gives Q r
gives_also P Q (Ok x) h k = k x.0 x.1 h
gives_also P Q (Err e) h k = tt

pub gives_if : {A : Type 0} (P : A → List Kind → Type 0) (b : Bool) (r s : Res A) → (b ≡ true → Gives P r) → (b ≡ false → Gives P s) → Gives P (if b then r else s)
gives_if P true r s h k = h refl
gives_if P false r s h k = k refl

gives_at_level : {A : Type 0} (P : A → List Kind → Type 0) (l place : ℕ) (r : Res A) → (1 ≤ l → Gives P r) → Gives P (at_level l place r)
gives_at_level P zero place r h = tt
gives_at_level P (suc l) place r h = h (omega arith)

gives_above : {A : Type 0} (P : A → List Kind → Type 0) (l : ℕ) (a : Tree) (place : ℕ) (r : Res A) → (depth a < l → Gives P r) → Gives P (above l a place r)
gives_above P l a place r h = gives_if P (nat_lt (depth a) l) r _ (λ t. h (ltb-true (depth a) l t)) (λ f. tt)

closed : {A : Type 0} (P Q : A → List Kind → Type 0) (a : A) (us : List Kind) → P a us → ((vs : List Kind) → P a (close_ ∷ vs) → Q a vs) → Gives Q (closing a us)
closed P Q a (close_ ∷ us) h k = k us h
closed P Q a _ h k = tt

more_good : {A : Type 0} (is_between : Kind → Bool) (Is : List Kind → A → List Kind → Type 0) (again : List Kind → Res (List A)) (ts : List Kind) (x : A) (us : List Kind)
    → ((vs : List Kind) → Gives (Row is_between Is vs) (again vs)) → Is ts x us → Gives (Row is_between Is ts) (more_of is_between again x us)
more_good is_between Is again ts x [] again_good h = last_of h
more_good is_between Is again ts x (k ∷ us) again_good h =
    gives_if (Row is_between Is ts) (is_between k) (res_map (λ xs. x ∷ xs) (again us)) (Ok (x ∷ [], k ∷ us))
    (λ t. gives_map (Row is_between Is us) (Row is_between Is ts) (again us) (λ xs. x ∷ xs) (again_good us) (λ xs vs r. next_of t h r))
    (λ f. last_of h)

separated_good : {A : Type 0} (is_between : Kind → Bool) (Is : List Kind → A → List Kind → Type 0) (read : List Kind → Res A)
    → ((ts : List Kind) → Gives (Is ts) (read ts)) → (n : ℕ) (ts : List Kind) → Gives (Row is_between Is ts) (separated is_between read n ts)
unfolding separated
separated_good is_between Is read good zero ts = tt
separated_good is_between Is read good (suc n) ts =
    gives_then (Is ts) (Row is_between Is ts) (read ts) (more_of is_between (separated is_between read n)) (good ts)
    (λ x us h. more_good is_between Is (separated is_between read n) ts x us (separated_good is_between Is read good n) h)

pub listed_good : {A : Type 0} (Is : List Kind → A → List Kind → Type 0) (read : List Kind → Res A)
    → ((ts : List Kind) → Gives (Is ts) (read ts)) → (ts : List Kind) → Gives (IsListed Is ts) (comma_list read ts)
listed_good Is read good ts = gives_also (Row is_comma Is ts) (IsListed Is ts) (comma_list read ts) (separated_good is_comma Is read good (length ts) ts) (row_listed Is ts)

part_good : (again : List ℕ → List Kind → Res (List ℕ)) (w : List ℕ) (k : Kind) (ts : List Kind) (o : Option (List ℕ)) → part k ≡ o
    → ((v : List ℕ) (us : List Kind) → Gives (IsDotted v us) (again v us)) → Gives (IsDotted w (dot_ ∷ k ∷ ts)) (dotted_part again w o ts)
part_good again w k ts None e again_good = tt
part_good again w k ts (Some p) e again_good =
    gives_also (IsDotted (w ++ 46 ∷ p) ts) (IsDotted w (dot_ ∷ k ∷ ts)) (again (w ++ 46 ∷ p) ts) (again_good (w ++ 46 ∷ p) ts) (λ n us h. goes_on e h)

dot_good : (again : List ℕ → List Kind → Res (List ℕ)) (w : List ℕ) (ts : List Kind)
    → ((v : List ℕ) (us : List Kind) → Gives (IsDotted v us) (again v us)) → Gives (IsDotted w (dot_ ∷ ts)) (behind_dot again w ts)
dot_good again w [] again_good = tt
dot_good again w (k ∷ ts) again_good = part_good again w k ts (part k) refl again_good

dotted_good : (n : ℕ) (w : List ℕ) (ts : List Kind) → Gives (IsDotted w ts) (dotted n w ts)
unfolding dotted
dotted_good zero w ts = ends
dotted_good (suc n) w (dot_ ∷ ts) = dot_good (dotted n) w ts (dotted_good n)
dotted_good (suc n) w _ = ends

-- a field's tokens behind its mark
abbrev pub marked : Bool → List Kind → List Kind
marked true ts = question_ ∷ ts
marked false ts = ts

pub key_of : (o : Bool) (k : Kind) (w n : List ℕ) (ts us : List Kind) → first_part k ≡ Some w → IsDotted w ts n us → IsKey (marked o (k ∷ ts)) (record { name = n; optional = o }) us
key_of true k w n ts us e h = a_key (optional e h)
key_of false k w n ts us e h = a_key (required e h)

named_by_good : (o : Bool) (k : Kind) (ts : List Kind) (p : Option (List ℕ)) → first_part k ≡ p → Gives (IsKey (marked o (k ∷ ts))) (named_by o p ts)
named_by_good o k ts None e = tt
named_by_good o k ts (Some w) e =
    gives_map (IsDotted w ts) (IsKey (marked o (k ∷ ts))) (dotted (length ts) w ts) (λ n. record { name = n; optional = o }) (dotted_good (length ts) w ts)
    (λ n us h. key_of o k w n ts us e h)

named_good : (o : Bool) (ts : List Kind) → Gives (IsKey (marked o ts)) (named_field o ts)
named_good o [] = tt
named_good o (k ∷ ts) = named_by_good o k ts (first_part k) refl

pub field_good : (ts : List Kind) → Gives (IsKey ts) (field ts)
field_good (question_ ∷ ts) = named_good true ts
field_good [] = tt
field_good (k ∷ ts) = named_good false (k ∷ ts)

pub key_field : (ts : List Kind) (f : FieldRef) (us : List Kind) → IsKey ts f us → IsField ts f.name f.optional us
key_field _ _ us (a_key h) = h

text_good : (ts : List Kind) → Gives (IsText ts) (text_at ts)
text_good (text s ∷ ts) = a_text
text_good _ = tt

negative_good : (ts : List Kind) → Gives (IsLiteral (adds Sub ∷ ts)) (negative_at ts)
negative_good (number n ∷ ts) = is_negative
negative_good _ = tt

literal_good : (ts : List Kind) → Gives (IsLiteral ts) (literal ts)
literal_good (number n ∷ ts) = is_number
literal_good (adds Sub ∷ ts) = negative_good ts
literal_good (text s ∷ ts) = is_text
literal_good (true_ ∷ ts) = is_true
literal_good (false_ ∷ ts) = is_false
literal_good _ = tt

pub adds_only : (k : Kind) (o : MathOp) → adds_of k ≡ Some o → k ≡ adds o
adds_only (adds p) o h = cc
adds_only _ o h = absurd cc

pub multiplies_only : (k : Kind) (o : MathOp) → multiplies_of k ≡ Some o → k ≡ multiplies o
multiplies_only (multiplies p) o h = cc
multiplies_only _ o h = absurd cc

-- operands from the left: `read` reads one, and what was read so far is `Whole`
module _ (operator : Kind → Option MathOp) (read : ℕ → List Kind → Res Tree) (One Whole : List Kind → Tree → List Kind → Type 0)
    (good : (l : ℕ) (ts : List Kind) → Gives (Within One l ts) (read l ts))
    (first : (ts : List Kind) (a : Tree) (us : List Kind) → One ts a us → Whole ts a us)
    (next : (ts : List Kind) (a : Tree) (k : Kind) (o : MathOp) (us : List Kind) (b : Tree) (rest : List Kind) → operator k ≡ Some o → Whole ts a (k ∷ us) → One us b rest → Whole ts (t.math o a b) rest) where
  chain_on_good : (l : ℕ) (again : Tree → List Kind → Res Tree) (ts : List Kind) (a : Tree) (p : Option MathOp) (k : Kind) (us : List Kind)
      → ((b : Tree) (vs : List Kind) → Within Whole l ts b vs → Gives (Within Whole l ts) (again b vs))
      → operator k ≡ p → Within Whole l ts a (k ∷ us) → Gives (Within Whole l ts) (chain_on read l again a p k us)
  chain_on_good l again ts a None k us again_good e h = h
  chain_on_good l again ts a (Some o) k us again_good e h =
      gives_above (Within Whole l ts) l a (suc (length us)) (then_do (read (l - 1) us) (λ b vs. again (t.math o a b) vs))
      (λ d. gives_then (Within One (l - 1) us) (Within Whole l ts) (read (l - 1) us) (λ b vs. again (t.math o a b) vs) (good (l - 1) us)
      (λ b vs i. again_good (t.math o a b) vs (next ts a k o us b vs e h.0 i.0, omega (arith, d, i.1))))

  chain_from_good : (l n : ℕ) (ts : List Kind) (a : Tree) (us : List Kind) → Within Whole l ts a us → Gives (Within Whole l ts) (chain_from operator read l n a us)
  unfolding chain_from
  chain_from_good l zero ts a us h = h
  chain_from_good l (suc n) ts a [] h = h
  chain_from_good l (suc n) ts a (k ∷ us) h = chain_on_good l (chain_from operator read l n) ts a (operator k) k us (λ b vs i. chain_from_good l n ts b vs i) refl h

  chain_good : (l : ℕ) (ts : List Kind) → Gives (Within Whole l ts) (chain operator read l ts)
  chain_good l ts =
      gives_then (Within One l ts) (Within Whole l ts) (read l ts) (λ a us. chain_from operator read l (length us) a us) (good l ts)
      (λ a us h. chain_from_good l (length us) ts a us (first ts a us h.0, h.1))

-- one operand, or several in one node
module _ (j : Joint) (is_between : Kind → Bool) (node : Trees → Tree) (read : ℕ → List Kind → Res Tree) (One Whole : List Kind → Tree → List Kind → Type 0)
    (only : (k : Kind) → is_between k ≡ true → k ≡ between j)
    (deep : (es : Trees) → depth (node es) ≡ suc (deepest es))
    (good : (l : ℕ) (ts : List Kind) → Gives (Within One l ts) (read l ts))
    (operand : (ts : List Kind) (e : Tree) (us : List Kind) → One ts e us → IsOperand j ts e us)
    (alone : (ts : List Kind) (e : Tree) (us : List Kind) → One ts e us → Whole ts e us)
    (several : (ts us : List Kind) (e : Tree) (es : Trees) (rest : List Kind) → One ts e (between j ∷ us) → IsOperands j us es rest → Whole ts (node (more e es)) rest) where
  joined_good : (l : ℕ) (ts : List Kind) (e : Tree) (us : List Kind) → Within One l ts e us → Gives (Within Whole l ts) (joined_operands is_between node read l e us)
  joined_good l ts e [] h = (alone ts e [] h.0, h.1)
  joined_good l ts e (k ∷ us) h =
      gives_if (Within Whole l ts) (is_between k) (above l e (suc (length us)) (res_map (λ es. node (more e (trees_of es))) (separated is_between (read (l - 1)) (length us) us))) (Ok (e, k ∷ us))
      (λ b. gives_above (Within Whole l ts) l e (suc (length us)) (res_map (λ es. node (more e (trees_of es))) (separated is_between (read (l - 1)) (length us) us))
      (λ d. gives_map (Row is_between (Within One (l - 1)) us) (Within Whole l ts) (separated is_between (read (l - 1)) (length us) us) (λ es. node (more e (trees_of es)))
      (separated_good is_between (Within One (l - 1)) (read (l - 1)) (good (l - 1)) (length us) us)
      (λ es vs row.
      let os = row_operands j is_between (Within One (l - 1)) (l - 1) only (λ xs x ys i. (operand xs x ys i.0, i.1)) us es vs row in
      (several ts us e (trees_of es) vs (subst (λ i. One ts e (i ∷ us)) (only k b) h.0) os.0, omega (arith, d, os.1, deep (more e (trees_of es)))))))
      (λ f. (alone ts e (k ∷ us) h.0, h.1))

module _ (room : Bool) (inner : ℕ → List Kind → Res Tree) (good : (l : ℕ) (ts : List Kind) → Gives (Within IsExpr l ts) (inner l ts)) where
  gives_enter : {A : Type 0} (P : A → List Kind → Type 0) (ts : List Kind) (r : Res A) → Gives P r → Gives P (enter room inner ts r)
  gives_enter P ts r h = gives_if P room r _ (λ e. h) (λ e. tt)

  some_arguments_good : (l : ℕ) (ts : List Kind) → Gives (λ es us. IsArguments ts (trees_of es) us × (deepest (trees_of es) ≤ l)) (then_do (comma_list (inner l) ts) closing)
  some_arguments_good l ts =
      gives_then (λ es us. IsOperands by_comma ts (trees_of es) us × (deepest (trees_of es) ≤ l)) (λ es us. IsArguments ts (trees_of es) us × (deepest (trees_of es) ≤ l))
      (comma_list (inner l) ts) closing
      (gives_also (Row is_comma (Within IsExpr l) ts) (λ es us. IsOperands by_comma ts (trees_of es) us × (deepest (trees_of es) ≤ l)) (comma_list (inner l) ts)
      (separated_good is_comma (Within IsExpr l) (inner l) (good l) (length ts) ts)
      (row_operands by_comma is_comma (Within IsExpr l) l comma_only (λ xs x ys i. (of_comma i.0, i.1)) ts))
      (λ es us h. closed (λ es us. IsOperands by_comma ts (trees_of es) us × (deepest (trees_of es) ≤ l)) (λ es us. IsArguments ts (trees_of es) us × (deepest (trees_of es) ≤ l)) es us h
      (λ vs i. (some_arguments i.0, i.1)))

  pub arguments_good : (l : ℕ) (ts : List Kind) → Gives (λ es us. IsArguments ts (trees_of es) us × (deepest (trees_of es) ≤ l)) (arguments room inner l ts)
  arguments_good l (close_ ∷ ts) = (no_arguments, omega arith)
  arguments_good l ts = some_arguments_good l ts

  patterns_good : (ts : List Kind) → Gives (IsPatterns ts) (r.patterns room inner ts)
  patterns_good (text s ∷ ts) = one_text
  patterns_good (open_ ∷ ts) =
      gives_enter (IsPatterns (open_ ∷ ts)) ts (then_do (comma_list text_at ts) closing)
      (gives_then (IsListed IsText ts) (IsPatterns (open_ ∷ ts)) (comma_list text_at ts) closing (listed_good IsText text_at text_good ts)
      (λ ss us h. closed (IsListed IsText ts) (IsPatterns (open_ ∷ ts)) ss us h (λ vs i. some_texts i)))
  patterns_good _ = tt

  members_good : (ts : List Kind) → Gives (IsMembers ts) (r.members room inner ts)
  members_good (open_ ∷ ts) =
      gives_enter (IsMembers (open_ ∷ ts)) ts (then_do (comma_list literal ts) closing)
      (gives_then (IsListed IsLiteral ts) (IsMembers (open_ ∷ ts)) (comma_list literal ts) closing (listed_good IsLiteral literal literal_good ts)
      (λ vs us h. closed (IsListed IsLiteral ts) (IsMembers (open_ ∷ ts)) vs us h (λ vs i. members i)))
  members_good _ = tt

  named_prim : (l : ℕ) (o : Bool) (ts : List Kind) → Gives (Within IsPrim l (marked o ts)) (at_level l (length (marked o ts)) (res_map field_tree (named_field o ts)))
  named_prim l o ts =
      gives_at_level (Within IsPrim l (marked o ts)) l (length (marked o ts)) (res_map field_tree (named_field o ts))
      (λ d. gives_map (IsKey (marked o ts)) (Within IsPrim l (marked o ts)) (named_field o ts) field_tree (named_good o ts) (λ f us h. (is_field (key_field (marked o ts) f us h), omega (arith, d))))

  leaf_good : (l : ℕ) (ts : List Kind) (e : Tree) (place : ℕ) (us : List Kind) → IsPrim ts e us → depth e ≡ 1 → Gives (Within IsPrim l ts) (at_level l place (Ok (e, us)))
  leaf_good l ts e place us h d = gives_at_level (Within IsPrim l ts) l place (Ok (e, us)) (λ i. (h, omega (arith, d, i)))

  call_of_good : (l : ℕ) (w : List ℕ) (place : ℕ) (ts : List Kind) (es : List Tree) (us : List Kind) → 1 ≤ l → IsArguments ts (trees_of es) us × (deepest (trees_of es) ≤ l - 1)
      → Gives (Within IsPrim l (name w ∷ open_ ∷ ts)) (call_of w place es us)
  call_of_good l w place ts es us i h =
      gives_if (Within IsPrim l (name w ∷ open_ ∷ ts)) (is_left_out_call w (trees_of es)) _ (Ok (t.call w false (trees_of es), us)) (λ b. tt) (λ b. (is_call h.0 b, omega (arith, i, h.1)))

  call_good : (l : ℕ) (w : List ℕ) (ts : List Kind) → Gives (Within IsPrim l (name w ∷ open_ ∷ ts)) (r.prim room inner l (name w ∷ open_ ∷ ts))
  call_good l w ts =
      gives_at_level (Within IsPrim l (name w ∷ open_ ∷ ts)) l (suc (suc (length ts))) (enter room inner ts (then_do (arguments room inner (l - 1) ts) (call_of w (suc (suc (length ts))))))
      (λ i. gives_enter (Within IsPrim l (name w ∷ open_ ∷ ts)) ts (then_do (arguments room inner (l - 1) ts) (call_of w (suc (suc (length ts)))))
      (gives_then (λ es us. IsArguments ts (trees_of es) us × (deepest (trees_of es) ≤ l - 1)) (Within IsPrim l (name w ∷ open_ ∷ ts)) (arguments room inner (l - 1) ts)
      (call_of w (suc (suc (length ts)))) (arguments_good (l - 1) ts) (λ es us h. call_of_good l w (suc (suc (length ts))) ts es us i h)))

  folding_good : (l : ℕ) (w : List ℕ) (ts : List Kind) → Gives (Within IsPrim l (folding w ∷ open_ ∷ ts)) (r.prim room inner l (folding w ∷ open_ ∷ ts))
  folding_good l w ts =
      gives_at_level (Within IsPrim l (folding w ∷ open_ ∷ ts)) l (suc (suc (length ts))) (enter room inner ts (res_map (λ es. t.call w true (trees_of es)) (arguments room inner (l - 1) ts)))
      (λ i. gives_enter (Within IsPrim l (folding w ∷ open_ ∷ ts)) ts (res_map (λ es. t.call w true (trees_of es)) (arguments room inner (l - 1) ts))
      (gives_map (λ es us. IsArguments ts (trees_of es) us × (deepest (trees_of es) ≤ l - 1)) (Within IsPrim l (folding w ∷ open_ ∷ ts)) (arguments room inner (l - 1) ts)
      (λ es. t.call w true (trees_of es)) (arguments_good (l - 1) ts) (λ es us h. (is_folding_call h.0, omega (arith, i, h.1)))))

  inside_good : (l : ℕ) (ts : List Kind) → Gives (Within IsPrim l (open_ ∷ ts)) (r.prim room inner l (open_ ∷ ts))
  inside_good l ts =
      gives_enter (Within IsPrim l (open_ ∷ ts)) ts (then_do (inner l ts) closing)
      (gives_then (Within IsExpr l ts) (Within IsPrim l (open_ ∷ ts)) (inner l ts) closing (good l ts)
      (λ e us h. closed (Within IsExpr l ts) (Within IsPrim l (open_ ∷ ts)) e us h (λ vs i. (inside i.0, i.1))))

  prim_good : (l : ℕ) (ts : List Kind) → Gives (Within IsPrim l ts) (r.prim room inner l ts)
  prim_good l (null_ ∷ ts) = leaf_good l (null_ ∷ ts) t.null (suc (length ts)) ts is_null refl
  prim_good l (true_ ∷ ts) = leaf_good l (true_ ∷ ts) (t.bool true) (suc (length ts)) ts is_yes refl
  prim_good l (false_ ∷ ts) = leaf_good l (false_ ∷ ts) (t.bool false) (suc (length ts)) ts is_no refl
  prim_good l (number n ∷ ts) = leaf_good l (number n ∷ ts) (t.long n) (suc (length ts)) ts is_long refl
  prim_good l (text s ∷ ts) = leaf_good l (text s ∷ ts) (t.str s) (suc (length ts)) ts is_str refl
  prim_good l (name w ∷ open_ ∷ ts) = call_good l w ts
  prim_good l (name w ∷ ts) = named_prim l false (name w ∷ ts)
  prim_good l (back w ∷ ts) = named_prim l false (back w ∷ ts)
  prim_good l (question_ ∷ ts) = named_prim l true ts
  prim_good l (folding w ∷ open_ ∷ ts) = folding_good l w ts
  prim_good l (folding w ∷ ts) = gives_at_level (Within IsPrim l (folding w ∷ ts)) l (suc (length ts)) (Err (Syntax (length ts))) (λ d. tt)
  prim_good l (open_ ∷ ts) = inside_good l ts
  prim_good l ts = tt

  prim_unary : (l : ℕ) (ts : List Kind) → Gives (Within IsUnary l ts) (r.prim room inner l ts)
  prim_unary l ts = gives_also (Within IsPrim l ts) (Within IsUnary l ts) (r.prim room inner l ts) (prim_good l ts) (λ e us h. (prim h.0, h.1))

  unary_good : (l : ℕ) (ts : List Kind) → Gives (Within IsUnary l ts) (r.unary room inner l ts)
  unfolding r.unary
  unary_good zero (adds Sub ∷ ts) = tt
  unary_good zero ts = prim_unary zero ts
  unary_good (suc l) (adds Sub ∷ ts) = gives_map (Within IsUnary l ts) (Within IsUnary (suc l) (adds Sub ∷ ts)) (r.unary room inner l ts) t.neg (unary_good l ts) (λ e us h. (minus h.0, omega (arith, h.1)))
  unary_good (suc l) ts = prim_unary (suc l) ts

  prod_good : (l : ℕ) (ts : List Kind) → Gives (Within IsProd l ts) (r.prod room inner l ts)
  prod_good = chain_good multiplies_of (r.unary room inner) IsUnary IsProd unary_good (λ ts a us h. unary h)
      (λ ts a k o us b rest e h i. multiplied (subst (λ j. IsProd ts a (j ∷ us)) (multiplies_only k o e) h) i)

  sum_good : (l : ℕ) (ts : List Kind) → Gives (Within IsSum l ts) (r.sum room inner l ts)
  sum_good = chain_good adds_of (r.prod room inner) IsProd IsSum prod_good (λ ts a us h. prod h)
      (λ ts a k o us b rest e h i. added (subst (λ j. IsSum ts a (j ∷ us)) (adds_only k o e) h) i)

  behind_not_good : (l : ℕ) (ts : List Kind) (a : Tree) (us : List Kind) → IsSum ts a (not_ ∷ us) → depth a < l → Gives (Within IsPred l ts) (r.behind_not room inner a us)
  behind_not_good l ts a (in_ f ∷ us) h d =
      gives_map (IsMembers us) (Within IsPred l ts) (r.members room inner us) (t.member f true a) (members_good us) (λ vs ws i. (is_not_in h i, omega (arith, d)))
  behind_not_good l ts a _ h d = tt

  compared_good : (l : ℕ) (ts : List Kind) (o : CmpOp) (a : Tree) (us : List Kind) → IsSum ts a (compares o ∷ us) → Gives (Within IsPred l ts) (r.behind_sum room inner l a (compares o ∷ us))
  compared_good l ts o a us h =
      gives_above (Within IsPred l ts) l a (suc (length us)) (res_map (t.cmp o a) (r.sum room inner (l - 1) us))
      (λ d. gives_map (Within IsSum (l - 1) us) (Within IsPred l ts) (r.sum room inner (l - 1) us) (t.cmp o a) (sum_good (l - 1) us) (λ b vs i. (compared h i.0, omega (arith, d, i.1))))

  matched_good : (l : ℕ) (ts : List Kind) (o : PatOp) (a : Tree) (us : List Kind) → IsSum ts a (matches o ∷ us) → Gives (Within IsPred l ts) (r.behind_sum room inner l a (matches o ∷ us))
  matched_good l ts o a us h =
      gives_above (Within IsPred l ts) l a (suc (length us)) (res_map (t.pattern o a) (r.patterns room inner us))
      (λ d. gives_map (IsPatterns us) (Within IsPred l ts) (r.patterns room inner us) (t.pattern o a) (patterns_good us) (λ ss vs i. (matched h i, omega (arith, d))))

  member_good : (l : ℕ) (ts : List Kind) (f : Bool) (a : Tree) (us : List Kind) → IsSum ts a (in_ f ∷ us) → Gives (Within IsPred l ts) (r.behind_sum room inner l a (in_ f ∷ us))
  member_good l ts f a us h =
      gives_above (Within IsPred l ts) l a (suc (length us)) (res_map (t.member f false a) (r.members room inner us))
      (λ d. gives_map (IsMembers us) (Within IsPred l ts) (r.members room inner us) (t.member f false a) (members_good us) (λ vs ws i. (is_in h i, omega (arith, d))))

  behind_sum_good : (l : ℕ) (ts : List Kind) (a : Tree) (us : List Kind) → Within IsSum l ts a us → Gives (Within IsPred l ts) (r.behind_sum room inner l a us)
  behind_sum_good l ts a (compares o ∷ us) h = compared_good l ts o a us h.0
  behind_sum_good l ts a (matches o ∷ us) h = matched_good l ts o a us h.0
  behind_sum_good l ts a (in_ f ∷ us) h = member_good l ts f a us h.0
  behind_sum_good l ts a (not_ ∷ us) h = gives_above (Within IsPred l ts) l a (suc (length us)) (r.behind_not room inner a us) (λ d. behind_not_good l ts a us h.0 d)
  behind_sum_good l ts a (regex_ false ∷ us) h = tt
  behind_sum_good l ts a (regex_ true ∷ us) h = tt
  behind_sum_good l ts a _ h = (sum h.0, h.1)

  pred_good : (l : ℕ) (ts : List Kind) → Gives (Within IsPred l ts) (r.pred room inner l ts)
  pred_good l ts = gives_then (Within IsSum l ts) (Within IsPred l ts) (r.sum room inner l ts) (r.behind_sum room inner l) (sum_good l ts) (behind_sum_good l ts)

  pred_neg : (l : ℕ) (ts : List Kind) → Gives (Within IsNeg l ts) (r.pred room inner l ts)
  pred_neg l ts = gives_also (Within IsPred l ts) (Within IsNeg l ts) (r.pred room inner l ts) (pred_good l ts) (λ e us h. (pred h.0, h.1))

  neg_good : (l : ℕ) (ts : List Kind) → Gives (Within IsNeg l ts) (r.neg room inner l ts)
  unfolding r.neg
  neg_good zero (not_ ∷ ts) = tt
  neg_good zero ts = pred_neg zero ts
  neg_good (suc l) (not_ ∷ ts) = gives_map (Within IsNeg l ts) (Within IsNeg (suc l) (not_ ∷ ts)) (r.neg room inner l ts) t.not (neg_good l ts) (λ e us h. (negated h.0, omega (arith, h.1)))
  neg_good (suc l) ts = pred_neg (suc l) ts

  conj_good : (l : ℕ) (ts : List Kind) → Gives (Within IsConj l ts) (r.conj room inner l ts)
  conj_good l ts =
      gives_then (Within IsNeg l ts) (Within IsConj l ts) (r.neg room inner l ts) (joined_operands is_and t.and (r.neg room inner) l) (neg_good l ts)
      (joined_good by_and is_and t.and (r.neg room inner) IsNeg IsConj and_only (λ es. refl) neg_good (λ us e vs h. of_and h) (λ us e vs h. neg h) (λ us vs e es rest h i. all_of h i) l ts)

  level_good : (l : ℕ) (ts : List Kind) → Gives (Within IsExpr l ts) (r.level room inner l ts)
  level_good l ts =
      gives_then (Within IsConj l ts) (Within IsExpr l ts) (r.conj room inner l ts) (joined_operands is_or t.or (r.conj room inner) l) (conj_good l ts)
      (joined_good by_or is_or t.or (r.conj room inner) IsConj IsExpr or_only (λ es. refl) conj_good (λ us e vs h. of_or h) (λ us e vs h. conj h) (λ us vs e es rest h i. any_of h i) l ts)

-- a condition that is returned is in the grammar, and has at most l levels
pub expr_good : (d l : ℕ) (ts : List Kind) → Gives (Within IsExpr l ts) (expr d l ts)
unfolding expr
expr_good zero l ts = level_good false (λ _ us. Err (Syntax (length us))) (λ _ us. tt) l ts
expr_good (suc d) l ts = level_good true (expr d) (expr_good d) l ts
