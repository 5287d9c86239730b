-- What the descent has read of a condition where it stops begins a condition.
use Rattle.std.proofs.Common.{◌≡◌, ℕ, zero, suc, ◌-◌, Bool, true, false, List, [], ◌∷◌, ◌++◌, length, Option, Some, None, Ok, Err, refl, sym, ap, subst, codes}
use Rattle.std.specs.Prelude.{pos}
use Rattle.eql_values.specs.declared.value.Value.TheVariants as value
use Rattle.eql_query.specs.declared.expr.FieldRef.{FieldRef}
use Rattle.eql_query.specs.declared.expr.PatOp.TheVariants.{Colon}
use Rattle.eql_query.specs.declared.expr.MathOp.TheVariants.{Sub}
use Rattle.eql_query.specs.Tree.{Tree, Trees, none, more}
use Rattle.eql_query.specs.Tree as t
use Rattle.eql_query.specs.View.{trees_of}
use Rattle.eql_parser.specs.Kinds.{Kind, false_, in_, matches, not_, null_, regex_, true_, name, folding, back, text, number, open_, close_, comma_, dot_, question_, compares, adds}
use Rattle.eql_parser.specs.Grammar.{IsListed, last_one, first_part, part, IsDotted, ends, goes_on, required, optional, IsText, a_text, IsPatterns, one_text, some_texts, IsLiteral, is_number, is_negative, is_text, is_true, is_false, IsMembers, members, is_left_out_call, Joint, by_or, by_and, by_comma, between, IsExpr, conj, any_of, IsConj, neg, all_of, IsOperands, last, next, IsOperand, of_or, of_and, of_comma, IsNeg, negated, pred, IsPred, sum, compared, matched, is_in, is_not_in, IsSum, prod, added, IsProd, unary, multiplied, IsUnary, minus, prim, IsPrim, is_null, is_yes, is_no, is_long, is_str, is_field, is_call, is_folding_call, inside, IsArguments, no_arguments, some_arguments}
use Rattle.eql_parser.specs.QueryGrammar.{IsKey}
use Rattle.eql_parser.specs.Refusing.{IsLeftOut, regex, folding_regex, number_with_base}
use Rattle.eql_parser.specs.Reading.{Fail, Syntax, LeftOut, Res, then_do, res_map, closing, is_or, is_and, is_comma, adds_of, multiplies_of, comma_list, dotted_part, behind_dot, dotted, named_by, named_field, field, field_tree, text_at, negative_at, literal, at_level, above, call_of, expr}
use Rattle.eql_parser.specs.Reading as r
use Rattle.eql_parser.proofs.Rows.{Row, last_of, next_of, or_only, and_only, comma_only, row_listed}
use Rattle.eql_parser.proofs.ExprSound.{marked, key_of, key_field, adds_only, multiplies_only}
use Rattle.eql_parser.proofs.Starts.{Free, Starts, TellsOf, Tells, Onto, stop_behind, stop_syntax, stop_left_out, stop_deep, stop_open, tells_map, tells_behind, tells_also, tells_token, tells_then, tells_here, tells_one, tells_if, tells_at_level, tells_above, tells_closing, tells_closing_of, tells_separated, tells_chain, tells_level}

-- what stands in a row is a row of operands
pub row_in : (j : Joint) (is_between : Kind → Bool) (Is : List Kind → Tree → List Kind → Type 0) → ((k : Kind) → is_between k ≡ true → k ≡ between j)
    → ((ts : List Kind) (e : Tree) (rest : List Kind) → Is ts e rest → IsOperand j ts e rest) → (ts : List Kind) (es : List Tree) (rest : List Kind) → Row is_between Is ts es rest
    → IsOperands j ts (trees_of es) rest
row_in j is_between Is only operand ts _ rest (last_of {x = e} h) = last (operand ts e rest h)
row_in j is_between Is only operand ts _ rest (next_of {us = us} {k = k} {x = e} {xs = es} b h i) =
    next (subst (λ l. IsOperand j ts e (l ∷ us)) (only k b) (operand ts e (k ∷ us) h)) (row_in j is_between Is only operand us es rest i)

-- two rows with a comma between
pub row_both : {A : Type 0} (Is : List Kind → A → List Kind → Type 0) (ts us : List Kind) (xs ys : List A) (rest : List Kind) → Row is_comma Is ts xs (comma_ ∷ us) → Row is_comma Is us ys rest
    → Row is_comma Is ts (xs ++ ys) rest
row_both Is ts us _ ys rest (last_of h) j = next_of refl h j
row_both Is ts us _ ys rest (next_of {us = vs} {xs = xs} b h i) j = next_of b h (row_both Is vs us xs ys rest i j)

tells_part : (again : List ℕ → List Kind → Res (List ℕ)) (w : List ℕ) (k : Kind) (ts : List Kind) (p : Option (List ℕ)) → part k ≡ p
    → ((v : List ℕ) (us : List Kind) → Tells (IsDotted v) us (again v us)) → Tells (IsDotted w) (dot_ ∷ k ∷ ts) (dotted_part again w p ts)
tells_part again w k ts None e h = stop_syntax (IsDotted w) (dot_ ∷ []) (k ∷ ts) (w ++ 46 ∷ codes "x", name (codes "x") ∷ [], λ rest. goes_on refl ends)
tells_part again w k ts (Some p) e h =
    tells_behind (IsDotted (w ++ 46 ∷ p)) (IsDotted w) (IsDotted (w ++ 46 ∷ p)) (IsDotted w) (dot_ ∷ k ∷ []) ts (again (w ++ 46 ∷ p) ts) (λ us n rest i. goes_on e i) (λ us n rest i. goes_on e i)
    (h (w ++ 46 ∷ p) ts)

tells_dot : (again : List ℕ → List Kind → Res (List ℕ)) (w : List ℕ) (ts : List Kind) → ((v : List ℕ) (us : List Kind) → Tells (IsDotted v) us (again v us))
    → Tells (IsDotted w) (dot_ ∷ ts) (behind_dot again w ts)
tells_dot again w [] h = stop_syntax (IsDotted w) (dot_ ∷ []) [] (w ++ 46 ∷ codes "x", name (codes "x") ∷ [], λ rest. goes_on refl ends)
tells_dot again w (k ∷ ts) h = tells_part again w k ts (part k) refl h

tells_dotted : (n : ℕ) (w : List ℕ) (ts : List Kind) → Tells (IsDotted w) ts (dotted n w ts)
unfolding dotted
tells_dotted zero w ts = tells_here (IsDotted w) (IsDotted w) w ts (λ rest. ends)
tells_dotted (suc n) w (dot_ ∷ ts) = tells_dot (dotted n) w ts (tells_dotted n)
tells_dotted (suc n) w ts = tells_here (IsDotted w) (IsDotted w) w ts (λ rest. ends)

-- a field behind its mark
abbrev pub IsNamed : Bool → List Kind → FieldRef → List Kind → Type 0
IsNamed o ts f rest = IsKey (marked o ts) f rest

a_name : (o : Bool) → Starts (IsNamed o) []
a_name o = (record { name = codes "x"; optional = o }, name (codes "x") ∷ [], λ rest. key_of o (name (codes "x")) (codes "x") (codes "x") rest rest refl ends)

tells_named_by : (o : Bool) (k : Kind) (ts : List Kind) (p : Option (List ℕ)) → first_part k ≡ p → Tells (IsNamed o) (k ∷ ts) (named_by o p ts)
tells_named_by o k ts None e = stop_syntax (IsNamed o) [] (k ∷ ts) (a_name o)
tells_named_by o k ts (Some w) e =
    tells_token (λ us f rest. IsNamed o (k ∷ us) f rest) (IsNamed o) k ts (res_map (λ n. record { name = n; optional = o }) (dotted (length ts) w ts)) (λ us f rest i. i)
    (tells_map (IsDotted w) (λ us f rest. IsNamed o (k ∷ us) f rest) ts (λ n. record { name = n; optional = o }) (dotted (length ts) w ts) (λ us n rest i. key_of o k w n us rest e i)
    (tells_dotted (length ts) w ts))

pub tells_named : (o : Bool) (ts : List Kind) → Tells (IsNamed o) ts (named_field o ts)
tells_named o [] = stop_syntax (IsNamed o) [] [] (a_name o)
tells_named o (k ∷ ts) = tells_named_by o k ts (first_part k) refl

pub tells_field : (ts : List Kind) → Tells IsKey ts (field ts)
tells_field (question_ ∷ ts) = tells_token (IsNamed true) IsKey question_ ts (named_field true ts) (λ us f rest i. i) (tells_named true ts)
tells_field [] = tells_named false []
tells_field (k ∷ ts) = tells_named false (k ∷ ts)

pub a_field : Starts IsKey []
a_field = a_name false

pub tells_listed : {A : Type 0} (Is : List Kind → A → List Kind → Type 0) (read : List Kind → Res A) → ((us : List Kind) → Tells Is us (read us)) → Starts Is [] → (ts : List Kind)
    → Tells (IsListed Is) ts (comma_list read ts)
tells_listed Is read tells one ts =
    tells_also (Row is_comma Is) (IsListed Is) ts (comma_list read ts) (λ us xs rest i. row_listed Is us xs rest i) (tells_separated is_comma Is read tells one (length ts) ts)

pub some_text : Starts IsText []
some_text = (codes "x", text (codes "x") ∷ [], λ rest. a_text)

tells_text : (ts : List Kind) → Tells IsText ts (text_at ts)
tells_text (text s ∷ ts) = tells_one IsText (text s) s ts (λ rest. a_text)
tells_text ts = stop_syntax IsText [] ts some_text

some_literal : Starts IsLiteral []
some_literal = (value.Bool true, true_ ∷ [], λ rest. is_true)

tells_negative : (ts : List Kind) → Tells IsLiteral (adds Sub ∷ ts) (negative_at ts)
tells_negative (number n ∷ ts) = (adds Sub ∷ number n ∷ [], refl, λ rest. is_negative)
tells_negative ts = stop_syntax IsLiteral (adds Sub ∷ []) ts (value.Long _, number (pos 1) ∷ [], λ rest. is_negative)

tells_literal : (ts : List Kind) → Tells IsLiteral ts (literal ts)
tells_literal (number n ∷ ts) = tells_one IsLiteral (number n) (value.Long n) ts (λ rest. is_number)
tells_literal (adds Sub ∷ ts) = tells_negative ts
tells_literal (text s ∷ ts) = tells_one IsLiteral (text s) (value.Text s) ts (λ rest. is_text)
tells_literal (true_ ∷ ts) = tells_one IsLiteral true_ (value.Bool true) ts (λ rest. is_true)
tells_literal (false_ ∷ ts) = tells_one IsLiteral false_ (value.Bool false) ts (λ rest. is_false)
tells_literal ts = stop_syntax IsLiteral [] ts some_literal

-- `null` is a condition
a_prim : Starts IsPrim []
a_prim = (t.null, null_ ∷ [], λ rest. is_null)

a_unary : Starts IsUnary []
a_unary = (t.null, null_ ∷ [], λ rest. prim is_null)

a_prod : Starts IsProd []
a_prod = (t.null, null_ ∷ [], λ rest. unary (prim is_null))

a_sum : Starts IsSum []
a_sum = (t.null, null_ ∷ [], λ rest. prod (unary (prim is_null)))

pub null_neg : (rest : List Kind) → IsNeg (null_ ∷ rest) t.null rest
null_neg rest = pred (sum (prod (unary (prim is_null))))

a_neg : Starts IsNeg []
a_neg = (t.null, null_ ∷ [], null_neg)

a_conj : Starts IsConj []
a_conj = (t.null, null_ ∷ [], λ rest. neg (null_neg rest))

pub null_expr : (rest : List Kind) → IsExpr (null_ ∷ rest) t.null rest
null_expr rest = conj (neg (null_neg rest))

pub an_expr : Starts IsExpr []
an_expr = (t.null, null_ ∷ [], null_expr)

-- arguments as a list
abbrev AreArguments : List Kind → List Tree → List Kind → Type 0
AreArguments ts es rest = IsArguments ts (trees_of es) rest

-- arguments of a call that is not left out
abbrev AreMore : List Kind → List Tree → List Kind → Type 0
AreMore ts es rest = IsArguments ts (trees_of es) rest × ((w : List ℕ) → is_left_out_call w (trees_of es) ≡ false)

-- a call with three arguments or more is not left out
pub not_left_out : (w : List ℕ) (es : List Tree) (x y z : Tree) → is_left_out_call w (trees_of (es ++ x ∷ y ∷ z ∷ [])) ≡ false
not_left_out w [] x y z = refl
not_left_out w (a ∷ []) x y z = refl
not_left_out w (a ∷ b ∷ []) x y z = refl
not_left_out w (a ∷ b ∷ c ∷ es) x y z = refl

pub row_arguments : (ts : List Kind) (es : List Tree) (rest : List Kind) → Row is_comma IsExpr ts es (close_ ∷ rest) → AreArguments ts es rest
row_arguments ts es rest h = some_arguments (row_in by_comma is_comma IsExpr comma_only (λ us e vs i. of_comma i) ts es (close_ ∷ rest) h)

null_rows : (rest : List Kind) → Row is_comma IsExpr (null_ ∷ comma_ ∷ null_ ∷ comma_ ∷ null_ ∷ rest) (t.null ∷ t.null ∷ t.null ∷ []) rest
null_rows rest = next_of refl (null_expr (comma_ ∷ null_ ∷ comma_ ∷ null_ ∷ rest)) (next_of refl (null_expr (comma_ ∷ null_ ∷ rest)) (last_of (null_expr rest)))

-- three arguments more
complete_arguments : (es : List Tree) → Starts (Onto (Row is_comma IsExpr) AreMore es) []
complete_arguments es = (
  es ++ t.null ∷ t.null ∷ t.null ∷ [],
  comma_ ∷ null_ ∷ comma_ ∷ null_ ∷ comma_ ∷ null_ ∷ close_ ∷ [],
  λ rest ts h. (
    row_arguments ts (es ++ t.null ∷ t.null ∷ t.null ∷ []) rest
        (row_both IsExpr ts (null_ ∷ comma_ ∷ null_ ∷ comma_ ∷ null_ ∷ close_ ∷ rest) es (t.null ∷ t.null ∷ t.null ∷ []) (close_ ∷ rest) h (null_rows (close_ ∷ rest))),
    λ w. not_left_out w es t.null t.null t.null,
  ),
)

-- a call of `number` with two arguments
number_left_out : (w : List ℕ) (before call us : List Kind) (es : Trees) → ((others : List Kind) → IsArguments (call ++ others) es others) → is_left_out_call w es ≡ true
    → IsLeftOut before (name w ∷ open_ ∷ (call ++ us)) (codes "number") (folding w ∷ open_ ∷ call)
number_left_out w before call us (more a (more b none)) h e = number_with_base call us e h
number_left_out w before call us none h e = absurd cc
number_left_out w before call us _ h e = absurd cc

a_call : (w : List ℕ) → Starts IsPrim (name w ∷ open_ ∷ [])
a_call w = (t.call w false none, close_ ∷ [], λ rest. is_call no_arguments refl)

a_folding_call : (w : List ℕ) → Starts IsPrim (folding w ∷ open_ ∷ [])
a_folding_call w = (t.call w true none, close_ ∷ [], λ rest. is_folding_call no_arguments)

tells_call_of : (w : List ℕ) (ts : List Kind) (es : List Tree) (front us : List Kind) → ts ≡ front ++ us → Free AreArguments front es
    → Tells IsPrim (name w ∷ open_ ∷ ts) (call_of w (suc (suc (length ts))) es us)
tells_call_of w ts es front us e h =
    tells_if IsPrim IsPrim (name w ∷ open_ ∷ ts) (is_left_out_call w (trees_of es)) (Err (LeftOut (codes "number") (suc (suc (length ts))))) (Ok (t.call w false (trees_of es), us))
    (λ b. stop_left_out IsPrim [] (name w ∷ open_ ∷ ts) (codes "number") (folding w ∷ open_ ∷ front) (t.call w true (trees_of es), [], λ rest. is_folding_call (h rest))
    (λ before. subst (λ l. IsLeftOut (before ++ []) (name w ∷ open_ ∷ l) (codes "number") (folding w ∷ open_ ∷ front)) (sym e) (number_left_out w (before ++ []) front us (trees_of es) h b)))
    (λ b. (name w ∷ open_ ∷ front, ap (λ l. name w ∷ open_ ∷ l) e, λ rest. is_call (h rest) b))

tells_call : (w : List ℕ) (ts : List Kind) (s : Res (List Tree)) → TellsOf AreArguments AreMore ts s → Tells IsPrim (name w ∷ open_ ∷ ts) (then_do s (call_of w (suc (suc (length ts)))))
tells_call w ts (Ok p) h = tells_call_of w ts p.0 h.0 p.1 h.1 h.2
tells_call w ts (Err e) h = stop_behind AreMore IsPrim (name w ∷ open_ ∷ []) (λ es. t.call w false (trees_of es)) (λ us es rest i. is_call i.0 (i.1 w)) ts e h

tells_folding : (w : List ℕ) (ts : List Kind) (s : Res (List Tree)) → TellsOf AreArguments AreMore ts s → Tells IsPrim (folding w ∷ open_ ∷ ts) (res_map (λ es. t.call w true (trees_of es)) s)
tells_folding w ts (Ok p) h = (folding w ∷ open_ ∷ h.0, ap (λ l. folding w ∷ open_ ∷ l) h.1, λ rest. is_folding_call (h.2 rest))
tells_folding w ts (Err e) h = stop_behind AreMore IsPrim (folding w ∷ open_ ∷ []) (λ es. t.call w true (trees_of es)) (λ us es rest i. is_folding_call i.0) ts e h

module _ (room : Bool) (inner : ℕ → List Kind → Res Tree) (tells : (l : ℕ) (ts : List Kind) → Tells IsExpr ts (inner l ts)) where
  -- behind some tokens a parenthesis opens
  tells_enter : {A : Type 0} (Q : List Kind → A → List Kind → Type 0) (m ts : List Kind) (s : Res A) → Starts Q (m ++ open_ ∷ []) → Tells Q (m ++ open_ ∷ ts) s
      → Tells Q (m ++ open_ ∷ ts) (r.enter room inner ts s)
  tells_enter Q m ts s begun h = tells_if Q Q (m ++ open_ ∷ ts) room s (Err (r.TooOpen (suc (length ts)))) (λ b. h) (λ b. stop_open Q m ts begun)

  tells_arguments : (l : ℕ) (ts : List Kind) → TellsOf AreArguments AreMore ts (r.arguments room inner l ts)
  tells_arguments l (close_ ∷ ts) = (close_ ∷ [], refl, λ rest. no_arguments)
  tells_arguments l ts =
      tells_closing_of (Row is_comma IsExpr) AreArguments AreMore ts (comma_list (inner l) ts) (λ us es rest i. row_arguments us es rest i) complete_arguments
      (tells_separated is_comma IsExpr (inner l) (tells l) an_expr (length ts) ts)

  pub tells_patterns : (ts : List Kind) → Tells IsPatterns ts (r.patterns room inner ts)
  tells_patterns (text s ∷ ts) = tells_one IsPatterns (text s) (s ∷ []) ts (λ rest. one_text)
  tells_patterns (open_ ∷ ts) =
      tells_enter IsPatterns [] ts (then_do (comma_list text_at ts) closing) (codes "x" ∷ [], text (codes "x") ∷ close_ ∷ [], λ rest. some_texts (last_one a_text))
      (tells_token (λ us ss rest. IsPatterns (open_ ∷ us) ss rest) IsPatterns open_ ts (then_do (comma_list text_at ts) closing) (λ us ss rest i. i)
      (tells_closing (IsListed IsText) (λ us ss rest. IsPatterns (open_ ∷ us) ss rest) ts (comma_list text_at ts) (λ us ss rest i. some_texts i) (tells_listed IsText text_at tells_text some_text ts)))
  tells_patterns ts = stop_syntax IsPatterns [] ts (codes "x" ∷ [], text (codes "x") ∷ [], λ rest. one_text)

  one_member : Starts IsMembers (open_ ∷ [])
  one_member = (value.Bool true ∷ [], true_ ∷ close_ ∷ [], λ rest. members (last_one is_true))

  pub tells_members : (ts : List Kind) → Tells IsMembers ts (r.members room inner ts)
  tells_members (open_ ∷ ts) =
      tells_enter IsMembers [] ts (then_do (comma_list literal ts) closing) one_member
      (tells_token (λ us vs rest. IsMembers (open_ ∷ us) vs rest) IsMembers open_ ts (then_do (comma_list literal ts) closing) (λ us vs rest i. i)
      (tells_closing (IsListed IsLiteral) (λ us vs rest. IsMembers (open_ ∷ us) vs rest) ts (comma_list literal ts) (λ us vs rest i. members i) (tells_listed IsLiteral literal tells_literal some_literal ts)))
  tells_members ts = stop_syntax IsMembers [] ts (one_member.0, open_ ∷ one_member.1, one_member.2)

  -- a leaf of one token
  tells_leaf : (l : ℕ) (k : Kind) (e : Tree) (ts : List Kind) → Free IsPrim (k ∷ []) e → Tells IsPrim (k ∷ ts) (at_level l (suc (length ts)) (Ok (e, ts)))
  tells_leaf l k e ts h = tells_at_level IsPrim k ts l (Ok (e, ts)) (e, [], h) (tells_one IsPrim k e ts h)

  name_prim : (w : List ℕ) → Free IsPrim (name w ∷ []) (t.field w false)
  name_prim w rest = is_field (required refl ends)

  tells_name : (l : ℕ) (k : Kind) (w : List ℕ) (ts : List Kind) → first_part k ≡ Some w → Tells IsPrim (k ∷ ts) (at_level l (suc (length ts)) (res_map field_tree (named_field false (k ∷ ts))))
  tells_name l k w ts e =
      tells_at_level IsPrim k ts l (res_map field_tree (named_field false (k ∷ ts))) (t.field w false, [], λ rest. is_field (required e ends))
      (tells_map (IsNamed false) IsPrim (k ∷ ts) field_tree (named_field false (k ∷ ts)) (λ us f rest i. is_field (key_field us f rest i)) (tells_named false (k ∷ ts)))

  tells_optional : (l : ℕ) (ts : List Kind) → Tells IsPrim (question_ ∷ ts) (at_level l (suc (length ts)) (res_map field_tree (named_field true ts)))
  tells_optional l ts =
      tells_at_level IsPrim question_ ts l (res_map field_tree (named_field true ts)) (t.field (codes "x") true, name (codes "x") ∷ [], λ rest. is_field (optional refl ends))
      (tells_token (λ us e rest. IsPrim (question_ ∷ us) e rest) IsPrim question_ ts (res_map field_tree (named_field true ts)) (λ us e rest i. i)
      (tells_map (IsNamed true) (λ us e rest. IsPrim (question_ ∷ us) e rest) ts field_tree (named_field true ts) (λ us f rest i. is_field (key_field (question_ ∷ us) f rest i)) (tells_named true ts)))

  tells_prim : (l : ℕ) (ts : List Kind) → Tells IsPrim ts (r.prim room inner l ts)
  tells_prim l (null_ ∷ ts) = tells_leaf l null_ t.null ts (λ rest. is_null)
  tells_prim l (true_ ∷ ts) = tells_leaf l true_ (t.bool true) ts (λ rest. is_yes)
  tells_prim l (false_ ∷ ts) = tells_leaf l false_ (t.bool false) ts (λ rest. is_no)
  tells_prim l (number n ∷ ts) = tells_leaf l (number n) (t.long n) ts (λ rest. is_long)
  tells_prim l (text s ∷ ts) = tells_leaf l (text s) (t.str s) ts (λ rest. is_str)
  tells_prim l (name w ∷ open_ ∷ ts) =
      tells_at_level IsPrim (name w) (open_ ∷ ts) l (r.enter room inner ts (then_do (r.arguments room inner (l - 1) ts) (call_of w (suc (suc (length ts)))))) (t.field w false, [], name_prim w)
      (tells_enter IsPrim (name w ∷ []) ts (then_do (r.arguments room inner (l - 1) ts) (call_of w (suc (suc (length ts))))) (a_call w)
      (tells_call w ts (r.arguments room inner (l - 1) ts) (tells_arguments (l - 1) ts)))
  tells_prim l (name w ∷ ts) = tells_name l (name w) w ts refl
  tells_prim l (back w ∷ ts) = tells_name l (back w) w ts refl
  tells_prim l (question_ ∷ ts) = tells_optional l ts
  tells_prim l (folding w ∷ open_ ∷ ts) =
      tells_at_level IsPrim (folding w) (open_ ∷ ts) l (r.enter room inner ts (res_map (λ es. t.call w true (trees_of es)) (r.arguments room inner (l - 1) ts)))
      (t.call w true none, open_ ∷ close_ ∷ [], λ rest. is_folding_call no_arguments)
      (tells_enter IsPrim (folding w ∷ []) ts (res_map (λ es. t.call w true (trees_of es)) (r.arguments room inner (l - 1) ts)) (a_folding_call w)
      (tells_folding w ts (r.arguments room inner (l - 1) ts) (tells_arguments (l - 1) ts)))
  tells_prim l (folding w ∷ ts) =
      tells_at_level IsPrim (folding w) ts l (Err (Syntax (length ts))) (t.call w true none, open_ ∷ close_ ∷ [], λ rest. is_folding_call no_arguments)
      (stop_syntax IsPrim (folding w ∷ []) ts (t.call w true none, open_ ∷ close_ ∷ [], λ rest. is_folding_call no_arguments))
  tells_prim l (open_ ∷ ts) =
      tells_enter IsPrim [] ts (then_do (inner l ts) closing) (t.null, null_ ∷ close_ ∷ [], λ rest. inside (null_expr (close_ ∷ rest)))
      (tells_token (λ us e rest. IsPrim (open_ ∷ us) e rest) IsPrim open_ ts (then_do (inner l ts) closing) (λ us e rest i. i)
      (tells_closing IsExpr (λ us e rest. IsPrim (open_ ∷ us) e rest) ts (inner l ts) (λ us e rest i. inside i) (tells l ts)))
  tells_prim l ts = stop_syntax IsPrim [] ts a_prim

  prim_unary : (l : ℕ) (ts : List Kind) → Tells IsUnary ts (r.prim room inner l ts)
  prim_unary l ts = tells_also IsPrim IsUnary ts (r.prim room inner l ts) (λ us e rest i. prim i) (tells_prim l ts)

  tells_unary : (l : ℕ) (ts : List Kind) → Tells IsUnary ts (r.unary room inner l ts)
  unfolding r.unary
  tells_unary zero (adds Sub ∷ ts) = stop_deep IsUnary (adds Sub) ts (t.neg t.null, null_ ∷ [], λ rest. minus (prim is_null))
  tells_unary zero ts = prim_unary zero ts
  tells_unary (suc l) (adds Sub ∷ ts) =
      tells_token (λ us e rest. IsUnary (adds Sub ∷ us) e rest) IsUnary (adds Sub) ts (res_map t.neg (r.unary room inner l ts)) (λ us e rest i. i)
      (tells_map IsUnary (λ us e rest. IsUnary (adds Sub ∷ us) e rest) ts t.neg (r.unary room inner l ts) (λ us e rest i. minus i) (tells_unary l ts))
  tells_unary (suc l) ts = prim_unary (suc l) ts

  tells_prod : (l : ℕ) (ts : List Kind) → Tells IsProd ts (r.prod room inner l ts)
  tells_prod = tells_chain multiplies_of (r.unary room inner) IsUnary IsProd tells_unary a_unary (λ ts a us h. unary h)
      (λ ts a k o us b rest e h i. multiplied (subst (λ j. IsProd ts a (j ∷ us)) (multiplies_only k o e) h) i)

  tells_sum : (l : ℕ) (ts : List Kind) → Tells IsSum ts (r.sum room inner l ts)
  tells_sum = tells_chain adds_of (r.prod room inner) IsProd IsSum tells_prod a_prod (λ ts a us h. prod h)
      (λ ts a k o us b rest e h i. added (subst (λ j. IsSum ts a (j ∷ us)) (adds_only k o e) h) i)

  -- a comparison behind its left side and an operator
  tells_operator : {A : Type 0} (P : List Kind → A → List Kind → Type 0) (l : ℕ) (a : Tree) (k : Kind) (f : A → Tree) (ts : List Kind) (s : Res A)
      → ((us : List Kind) (x : A) (rest : List Kind) → P us x rest → Onto IsSum IsPred a (k ∷ us) (f x) rest) → Starts P [] → Tells P ts s
      → Tells (Onto IsSum IsPred a) (k ∷ ts) (above l a (suc (length ts)) (res_map f s))
  tells_operator P l a k f ts s go one h =
      tells_above (Onto IsSum IsPred a) k ts l a (res_map f s) (f one.0, one.1, λ rest. go (one.1 ++ rest) one.0 rest (one.2 rest))
      (tells_token (λ us e rest. Onto IsSum IsPred a (k ∷ us) e rest) (Onto IsSum IsPred a) k ts (res_map f s) (λ us e rest i. i)
      (tells_map P (λ us e rest. Onto IsSum IsPred a (k ∷ us) e rest) ts f s go h))

  a_not_in : (a : Tree) → Starts (Onto IsSum IsPred a) (not_ ∷ [])
  a_not_in a = (t.member false true a (value.Bool true ∷ []), in_ false ∷ open_ ∷ true_ ∷ close_ ∷ [], λ rest ts h. is_not_in h (members (last_one is_true)))

  tells_behind_not : (a : Tree) (ts : List Kind) → Tells (Onto IsSum IsPred a) (not_ ∷ ts) (r.behind_not room inner a ts)
  tells_behind_not a (in_ f ∷ ts) =
      tells_behind (λ us e rest. Onto IsSum IsPred a (not_ ∷ in_ f ∷ us) e rest) (Onto IsSum IsPred a) (λ us e rest. Onto IsSum IsPred a (not_ ∷ in_ f ∷ us) e rest) (Onto IsSum IsPred a)
      (not_ ∷ in_ f ∷ []) ts (res_map (t.member f true a) (r.members room inner ts)) (λ us e rest i. i) (λ us e rest i. i)
      (tells_map IsMembers (λ us e rest. Onto IsSum IsPred a (not_ ∷ in_ f ∷ us) e rest) ts (t.member f true a) (r.members room inner ts) (λ us vs rest i xs h. is_not_in h i) (tells_members ts))
  tells_behind_not a ts = stop_syntax (Onto IsSum IsPred a) (not_ ∷ []) ts (a_not_in a)

  -- where a pattern may stand
  a_pattern : (a : Tree) → Starts (Onto IsSum IsPred a) (matches Colon ∷ [])
  a_pattern a = (t.pattern Colon a (codes "x" ∷ []), text (codes "x") ∷ [], λ rest ts h. matched h one_text)

  tells_behind_sum : (l : ℕ) (a : Tree) (ts : List Kind) → Tells (Onto IsSum IsPred a) ts (r.behind_sum room inner l a ts)
  tells_behind_sum l a (compares o ∷ ts) = tells_operator IsSum l a (compares o) (t.cmp o a) ts (r.sum room inner (l - 1) ts) (λ us b rest i xs h. compared h i) a_sum (tells_sum (l - 1) ts)
  tells_behind_sum l a (matches o ∷ ts) =
      tells_operator IsPatterns l a (matches o) (t.pattern o a) ts (r.patterns room inner ts) (λ us ss rest i xs h. matched h i) (codes "x" ∷ [], text (codes "x") ∷ [], λ rest. one_text) (tells_patterns ts)
  tells_behind_sum l a (in_ f ∷ ts) =
      tells_operator IsMembers l a (in_ f) (t.member f false a) ts (r.members room inner ts) (λ us vs rest i xs h. is_in h i) (one_member.0, open_ ∷ one_member.1, one_member.2) (tells_members ts)
  tells_behind_sum l a (not_ ∷ ts) = tells_above (Onto IsSum IsPred a) not_ ts l a (r.behind_not room inner a ts) (a_not_in a) (tells_behind_not a ts)
  tells_behind_sum l a (regex_ false ∷ ts) =
      stop_left_out (Onto IsSum IsPred a) [] (regex_ false ∷ ts) (codes "regex") (matches Colon ∷ []) (a_pattern a) (λ before. regex)
  tells_behind_sum l a (regex_ true ∷ ts) =
      stop_left_out (Onto IsSum IsPred a) [] (regex_ true ∷ ts) (codes "regex~") (matches Colon ∷ []) (a_pattern a) (λ before. folding_regex)
  tells_behind_sum l a ts = tells_here (Onto IsSum IsPred a) (Onto IsSum IsPred a) a ts (λ rest xs h. sum h)

  tells_pred : (l : ℕ) (ts : List Kind) → Tells IsPred ts (r.pred room inner l ts)
  tells_pred l ts = tells_then IsSum IsPred ts (r.sum room inner l ts) (r.behind_sum room inner l) (λ a. (a, [], λ rest us h. sum h)) (tells_sum l ts) (tells_behind_sum l)

  pred_neg : (l : ℕ) (ts : List Kind) → Tells IsNeg ts (r.pred room inner l ts)
  pred_neg l ts = tells_also IsPred IsNeg ts (r.pred room inner l ts) (λ us e rest i. pred i) (tells_pred l ts)

  tells_neg : (l : ℕ) (ts : List Kind) → Tells IsNeg ts (r.neg room inner l ts)
  unfolding r.neg
  tells_neg zero (not_ ∷ ts) = stop_deep IsNeg not_ ts (t.not t.null, null_ ∷ [], λ rest. negated (null_neg rest))
  tells_neg zero ts = pred_neg zero ts
  tells_neg (suc l) (not_ ∷ ts) =
      tells_token (λ us e rest. IsNeg (not_ ∷ us) e rest) IsNeg not_ ts (res_map t.not (r.neg room inner l ts)) (λ us e rest i. i)
      (tells_map IsNeg (λ us e rest. IsNeg (not_ ∷ us) e rest) ts t.not (r.neg room inner l ts) (λ us e rest i. negated i) (tells_neg l ts))
  tells_neg (suc l) ts = pred_neg (suc l) ts

  tells_conj : (l : ℕ) (ts : List Kind) → Tells IsConj ts (r.conj room inner l ts)
  tells_conj = tells_level is_and t.and (r.neg room inner) IsNeg IsConj tells_neg a_neg (λ ts e us h. neg h)
      (λ ts e k us es rest b h i. all_of (subst (λ j. IsNeg ts e (j ∷ us)) (and_only k b) h) (row_in by_and is_and IsNeg and_only (λ xs x ys j. of_and j) us es rest i))

  tells_or : (l : ℕ) (ts : List Kind) → Tells IsExpr ts (r.level room inner l ts)
  tells_or = tells_level is_or t.or (r.conj room inner) IsConj IsExpr tells_conj a_conj (λ ts e us h. conj h)
      (λ ts e k us es rest b h i. any_of (subst (λ j. IsConj ts e (j ∷ us)) (or_only k b) h) (row_in by_or is_or IsConj or_only (λ xs x ys j. of_or j) us es rest i))

pub expr_tells : (d l : ℕ) (ts : List Kind) → Tells IsExpr ts (expr d l ts)
unfolding expr
expr_tells zero l ts = tells_or false (λ _ us. Err (Syntax (length us))) (λ _ us. stop_syntax IsExpr [] us an_expr) l ts
expr_tells (suc d) l ts = tells_or true (expr d) (expr_tells d) l ts
