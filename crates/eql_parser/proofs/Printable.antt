-- What is read from a text is what can be printed: the parts of a query, by the kinds of its tokens.
use Rattle.std.proofs.Common.{◌≡◌, ℕ, zero, suc, ◌<◌, ℤ, pos, negsuc, neg_ℤ, Bool, true, false, cond, ◌&&◌, List, [], ◌∷◌, ◌++◌, refl, ap, subst, arith, Option, Some, None}
use Rattle.std.specs.Prelude.{codes, nat_lt}
use Rattle.std.specs.Str.{bytes_eq}
use Rattle.std.proofs.lemmas.Bool.{false≢true}
use Rattle.std.proofs.lemmas.Bool.Decides.{nat_tests}
use lib.Utf8.{scalar, scalars, low_scalar}
use Rattle.eql_values.specs.declared.value.Value.{Value}
use Rattle.eql_values.specs.declared.value.Value.TheVariants as value
use Rattle.eql_query.specs.declared.expr.FieldRef.{FieldRef}
use Rattle.eql_query.specs.declared.expr.PatOp.TheVariants.{Colon, Like, LikeFold}
use Rattle.eql_query.specs.declared.query.Span.{Span}
use Rattle.eql_query.specs.declared.query.PipeText.{PipeText}
use Rattle.eql_query.specs.declared.query.PipeText.TheVariants as pipe
use Rattle.eql_query.specs.Tree.{Tree, Trees, none, more}
use Rattle.eql_query.specs.QueryTree.{TermTree, BodyTree, QueryTree}
use Rattle.eql_parser.specs.Kinds.{Kind, and_, any_, by_, false_, in_, join_, matches, maxspan_, not_, null_, or_, regex_, sample_, sequence_, true_, until_, where_, with_, name, folding, back, text, number, open_, close_, open_item_, close_item_, comma_, dot_, bar_, question_, bang_, assign_, compares, adds, multiplies}
use Rattle.eql_parser.specs.Grammar as g
use Rattle.eql_parser.specs.Grammar.{IsListed, IsDotted, IsField, IsText, IsPatterns, IsLiteral, IsMembers, Joint, IsExpr, IsConj, IsOperands, IsOperand, IsNeg, IsPred, IsSum, IsProd, IsUnary, IsPrim, IsArguments, first_part, part}
use Rattle.eql_parser.specs.QueryGrammar as q
use Rattle.eql_parser.specs.QueryGrammar.{category, pipe_of, IsTerm, IsKey, IsBy, IsRuns, IsSpan, IsBracketed, IsItem, IsItems, IsUntil, IsBody, IsPipes, Reads}
use Rattle.eql_parser.proofs.Canonical.{IsCount, IsThere, OneLine, IsName, IsCalled, AreTexts, SomeOf, IsGoodLiteral, AreLiterals, Two, Good, AllGood}
use Rattle.eql_parser.proofs.CanonicalQuery.{GoodKeys, GoodCategory, GoodTerm, GoodTerms, GoodSpan, GoodUntil, GoodBody, GoodPipes}

-- a kind of token that a text can have
abbrev pub GoodKind : Kind → Type 0
GoodKind (name w) = IsCalled false w × IsName w
GoodKind (folding w) = IsCalled true w
GoodKind (back w) = IsName w
GoodKind (text s) = scalars s ≡ true
GoodKind (number n) = IsCount n
GoodKind and_ = Unit {0}
GoodKind any_ = Unit {0}
GoodKind by_ = Unit {0}
GoodKind false_ = Unit {0}
GoodKind join_ = Unit {0}
GoodKind maxspan_ = Unit {0}
GoodKind not_ = Unit {0}
GoodKind null_ = Unit {0}
GoodKind or_ = Unit {0}
GoodKind sample_ = Unit {0}
GoodKind sequence_ = Unit {0}
GoodKind true_ = Unit {0}
GoodKind until_ = Unit {0}
GoodKind where_ = Unit {0}
GoodKind with_ = Unit {0}
GoodKind open_ = Unit {0}
GoodKind close_ = Unit {0}
GoodKind open_item_ = Unit {0}
GoodKind close_item_ = Unit {0}
GoodKind comma_ = Unit {0}
GoodKind dot_ = Unit {0}
GoodKind bar_ = Unit {0}
GoodKind question_ = Unit {0}
GoodKind bang_ = Unit {0}
GoodKind assign_ = Unit {0}
GoodKind (compares o) = Unit {0}
GoodKind (adds o) = Unit {0}
GoodKind (multiplies o) = Unit {0}
GoodKind (in_ f) = Unit {0}
GoodKind (matches o) = Unit {0}
GoodKind (regex_ f) = Unit {0}

abbrev pub GoodKinds : List Kind → Type 0
GoodKinds [] = Unit {0}
GoodKinds (k ∷ ks) = GoodKind k × GoodKinds ks

both : (a b : Bool) → a && b ≡ true → (a ≡ true) × (b ≡ true)
both true b h = (refl, h)
both false b h = absurd (false≢true h)

-- printable characters of ASCII
abbrev pub printable : List ℕ → Bool
printable [] = true
printable (c ∷ cs) = (nat_lt 31 c && nat_lt c 128) && printable cs

scalar_small : (c : ℕ) → nat_lt c 128 ≡ true → scalar c ≡ true
scalar_small c h = low_scalar c (small c h)
  where
    small : (c : ℕ) → nat_lt c 128 ≡ true → c < 55296
    small c h = grind (arith, nat_tests)

no_line : (c : ℕ) → nat_lt 31 c ≡ true → c ≡ 10 → ⊥
no_line c h e = grind (arith, nat_tests)

printable_scalars : (cs : List ℕ) → printable cs ≡ true → scalars cs ≡ true
printable_scalars [] h = refl
printable_scalars (c ∷ cs) h =
    let a = both (nat_lt 31 c && nat_lt c 128) (printable cs) h in
    let one = scalar_small c (both (nat_lt 31 c) (nat_lt c 128) a.0).1 in
    rw one (printable_scalars cs a.1)

printable_line : (cs : List ℕ) → printable cs ≡ true → OneLine cs
printable_line [] h = tt
printable_line (c ∷ cs) h =
    let a = both (nat_lt 31 c && nat_lt c 128) (printable cs) h in
    (no_line c (both (nat_lt 31 c) (nat_lt c 128) a.0).0, printable_line cs a.1)

pub printable_name : (c : ℕ) (cs : List ℕ) → printable (c ∷ cs) ≡ true → IsName (c ∷ cs)
printable_name c cs h = (printable_scalars (c ∷ cs) h, printable_line (c ∷ cs) h, tt)

pub literal_name : (cs : List ℕ) → printable cs ≡ true → IsThere cs → IsName cs
literal_name cs h k = (printable_scalars cs h, printable_line cs h, k)

abbrev GoodPart : Option (List ℕ) → Type 0
GoodPart None = Unit {0}
GoodPart (Some p) = IsName p

abbrev GoodCategories : Option (Option (List ℕ)) → Type 0
GoodCategories None = Unit {0}
GoodCategories (Some c) = GoodCategory c

part_good : (k : Kind) → GoodKind k → GoodPart (part k)
part_good and_ h = literal_name (codes "and") refl tt
part_good any_ h = literal_name (codes "any") refl tt
part_good by_ h = literal_name (codes "by") refl tt
part_good false_ h = literal_name (codes "false") refl tt
part_good (in_ false) h = literal_name (codes "in") refl tt
part_good (in_ true) h = tt
part_good join_ h = literal_name (codes "join") refl tt
part_good (matches Like) h = literal_name (codes "like") refl tt
part_good (matches LikeFold) h = tt
part_good (matches Colon) h = tt
part_good maxspan_ h = literal_name (codes "maxspan") refl tt
part_good not_ h = literal_name (codes "not") refl tt
part_good null_ h = literal_name (codes "null") refl tt
part_good or_ h = literal_name (codes "or") refl tt
part_good (regex_ false) h = literal_name (codes "regex") refl tt
part_good (regex_ true) h = tt
part_good sample_ h = literal_name (codes "sample") refl tt
part_good sequence_ h = literal_name (codes "sequence") refl tt
part_good true_ h = literal_name (codes "true") refl tt
part_good until_ h = literal_name (codes "until") refl tt
part_good where_ h = literal_name (codes "where") refl tt
part_good with_ h = literal_name (codes "with") refl tt
part_good (name w) h = h.1
part_good (folding w) h = tt
part_good (back w) h = h
part_good (text w) h = tt
part_good (number n) h = tt
part_good open_ h = tt
part_good close_ h = tt
part_good open_item_ h = tt
part_good close_item_ h = tt
part_good comma_ h = tt
part_good dot_ h = tt
part_good bar_ h = tt
part_good question_ h = tt
part_good bang_ h = tt
part_good assign_ h = tt
part_good (compares o) h = tt
part_good (adds o) h = tt
part_good (multiplies o) h = tt

first_good : (k : Kind) → GoodKind k → GoodPart (first_part k)
first_good and_ h = tt
first_good any_ h = tt
first_good by_ h = tt
first_good false_ h = tt
first_good (in_ false) h = tt
first_good (in_ true) h = tt
first_good join_ h = tt
first_good (matches Like) h = tt
first_good (matches LikeFold) h = tt
first_good (matches Colon) h = tt
first_good maxspan_ h = tt
first_good not_ h = tt
first_good null_ h = tt
first_good or_ h = tt
first_good (regex_ false) h = tt
first_good (regex_ true) h = tt
first_good sample_ h = tt
first_good sequence_ h = tt
first_good true_ h = tt
first_good until_ h = tt
first_good where_ h = tt
first_good with_ h = tt
first_good (name w) h = h.1
first_good (folding w) h = tt
first_good (back w) h = h
first_good (text w) h = tt
first_good (number n) h = tt
first_good open_ h = tt
first_good close_ h = tt
first_good open_item_ h = tt
first_good close_item_ h = tt
first_good comma_ h = tt
first_good dot_ h = tt
first_good bar_ h = tt
first_good question_ h = tt
first_good bang_ h = tt
first_good assign_ h = tt
first_good (compares o) h = tt
first_good (adds o) h = tt
first_good (multiplies o) h = tt

category_good : (k : Kind) → GoodKind k → GoodCategories (category k)
category_good and_ h = tt
category_good any_ h = tt
category_good by_ h = tt
category_good false_ h = tt
category_good (in_ false) h = tt
category_good (in_ true) h = tt
category_good join_ h = tt
category_good (matches Like) h = tt
category_good (matches LikeFold) h = tt
category_good (matches Colon) h = tt
category_good maxspan_ h = tt
category_good not_ h = tt
category_good null_ h = tt
category_good or_ h = tt
category_good (regex_ false) h = tt
category_good (regex_ true) h = tt
category_good sample_ h = tt
category_good sequence_ h = tt
category_good true_ h = tt
category_good until_ h = tt
category_good where_ h = tt
category_good with_ h = tt
category_good (name w) h = h.1.0
category_good (folding w) h = tt
category_good (back w) h = tt
category_good (text w) h = h
category_good (number n) h = tt
category_good open_ h = tt
category_good close_ h = tt
category_good open_item_ h = tt
category_good close_item_ h = tt
category_good comma_ h = tt
category_good dot_ h = tt
category_good bar_ h = tt
category_good question_ h = tt
category_good bang_ h = tt
category_good assign_ h = tt
category_good (compares o) h = tt
category_good (adds o) h = tt
category_good (multiplies o) h = tt

scalars_append : (xs ys : List ℕ) → scalars xs ≡ true → scalars ys ≡ true → scalars (xs ++ ys) ≡ true
scalars_append [] ys h k = k
scalars_append (c ∷ cs) ys h k =
    let a = both (scalar c) (scalars cs) h in
    let one = a.0 in
    rw one (scalars_append cs ys a.1 k)

line_append : (xs ys : List ℕ) → OneLine xs → OneLine ys → OneLine (xs ++ ys)
line_append [] ys h k = k
line_append (c ∷ cs) ys h k = (h.0, line_append cs ys h.1 k)

there_append : (xs ys : List ℕ) → IsThere xs → IsThere (xs ++ ys)
there_append [] ys h = absurd h
there_append (c ∷ cs) ys h = tt

dotted_name : (w p : List ℕ) → IsName w → IsName p → IsName (w ++ 46 ∷ p)
dotted_name w p h k = (scalars_append w (46 ∷ p) h.0 k.0, line_append w (46 ∷ p) h.1 ((λ e. omega (arith, e)), k.1), there_append w (46 ∷ p) h.2)

dotted : (w : List ℕ) (ts : List Kind) (n : List ℕ) (rest : List Kind) → IsDotted w ts n rest → IsName w → GoodKinds ts → IsName n × GoodKinds rest
dotted _ _ _ _ g.ends h k = (h, k)
dotted w _ _ _ (g.goes_on {p = p} {k = k} e d) h good = dotted _ _ _ _ d (dotted_name w p h (subst GoodPart e (part_good k good.1.0))) good.1.1

field : (ts : List Kind) (n : List ℕ) (o : Bool) (rest : List Kind) → IsField ts n o rest → GoodKinds ts → IsName n × GoodKinds rest
field _ _ _ _ (g.required {k = k} e d) good = dotted _ _ _ _ d (subst GoodPart e (first_good k good.0)) good.1
field _ _ _ _ (g.optional {k = k} e d) good = dotted _ _ _ _ d (subst GoodPart e (first_good k good.1.0)) good.1.1

texts : (ts : List Kind) (ss : List (List ℕ)) (rest : List Kind) → IsListed IsText ts ss rest → GoodKinds ts → SomeOf ss × AreTexts ss × GoodKinds rest
texts _ _ _ (g.last_one g.a_text) good = (tt, (good.0, tt), good.1)
texts _ _ _ (g.next_one g.a_text d) good = let more = texts _ _ _ d good.1.1 in (tt, (good.0, more.1), more.2)

patterns : (ts : List Kind) (ss : List (List ℕ)) (rest : List Kind) → IsPatterns ts ss rest → GoodKinds ts → SomeOf ss × AreTexts ss × GoodKinds rest
patterns _ _ _ g.one_text good = (tt, (good.0, tt), good.1)
patterns _ _ _ (g.some_texts d) good = let more = texts _ _ _ d good.1 in (more.0, more.1, more.2.1)

count_literal : (n : ℤ) → IsCount n → IsGoodLiteral (value.Long n)
count_literal (pos n) h = h
count_literal (negsuc n) h = absurd h

negative_literal : (n : ℤ) → IsCount n → IsGoodLiteral (value.Long (neg_ℤ n))
negative_literal (pos zero) h = h
negative_literal (pos (suc n)) h = h
negative_literal (negsuc n) h = absurd h

literal : (ts : List Kind) (v : Value) (rest : List Kind) → IsLiteral ts v rest → GoodKinds ts → IsGoodLiteral v × GoodKinds rest
literal _ _ _ (g.is_number {n = n}) good = (count_literal n good.0, good.1)
literal _ _ _ (g.is_negative {n = n}) good = (negative_literal n good.1.0, good.1.1)
literal _ _ _ g.is_text good = (good.0, good.1)
literal _ _ _ g.is_true good = (tt, good.1)
literal _ _ _ g.is_false good = (tt, good.1)

literals : (ts : List Kind) (vs : List Value) (rest : List Kind) → IsListed IsLiteral ts vs rest → GoodKinds ts → SomeOf vs × AreLiterals vs × GoodKinds rest
literals _ _ _ (g.last_one d) good = let one = literal _ _ _ d good in (tt, (one.0, tt), one.1)
literals _ _ _ (g.next_one d ds) good =
    let one = literal _ _ _ d good in
    let more = literals _ _ _ ds one.1.1 in
    (tt, (one.0, more.1), more.2)

members : (ts : List Kind) (vs : List Value) (rest : List Kind) → IsMembers ts vs rest → GoodKinds ts → SomeOf vs × AreLiterals vs × GoodKinds rest
members _ _ _ (g.members d) good = let more = literals _ _ _ d good.1 in (more.0, more.1, more.2.1)

abbrev One : Trees → Type 0
One none = ⊥
One (more a es) = Unit {0}

two : (a : Tree) (es : Trees) → One es → Two (more a es)
two a none h = absurd h
two a (more b es) h = tt

mutual
  pub expr : (ts : List Kind) (e : Tree) (rest : List Kind) → IsExpr ts e rest → GoodKinds ts → Good e × GoodKinds rest
  expr _ _ _ (g.conj d) good = conj _ _ _ d good
  expr _ _ _ (g.any_of {e = e} {es = es} d ds) good =
      let a = conj _ _ _ d good in
      let b = operands _ _ _ _ ds a.1.1 in
      ((two e es b.0, (a.0, b.1)), b.2)

  conj : (ts : List Kind) (e : Tree) (rest : List Kind) → IsConj ts e rest → GoodKinds ts → Good e × GoodKinds rest
  conj _ _ _ (g.neg d) good = neg _ _ _ d good
  conj _ _ _ (g.all_of {e = e} {es = es} d ds) good =
      let a = neg _ _ _ d good in
      let b = operands _ _ _ _ ds a.1.1 in
      ((two e es b.0, (a.0, b.1)), b.2)

  operands : (j : Joint) (ts : List Kind) (es : Trees) (rest : List Kind) → IsOperands j ts es rest → GoodKinds ts → One es × AllGood es × GoodKinds rest
  operands _ _ _ _ (g.last d) good = let a = operand _ _ _ _ d good in (tt, (a.0, tt), a.1)
  operands _ _ _ _ (g.next d ds) good =
      let a = operand _ _ _ _ d good in
      let b = operands _ _ _ _ ds a.1.1 in
      (tt, (a.0, b.1), b.2)

  operand : (j : Joint) (ts : List Kind) (e : Tree) (rest : List Kind) → IsOperand j ts e rest → GoodKinds ts → Good e × GoodKinds rest
  operand _ _ _ _ (g.of_or d) good = conj _ _ _ d good
  operand _ _ _ _ (g.of_and d) good = neg _ _ _ d good
  operand _ _ _ _ (g.of_comma d) good = expr _ _ _ d good

  neg : (ts : List Kind) (e : Tree) (rest : List Kind) → IsNeg ts e rest → GoodKinds ts → Good e × GoodKinds rest
  neg _ _ _ (g.negated d) good = neg _ _ _ d good.1
  neg _ _ _ (g.pred d) good = pred _ _ _ d good

  pred : (ts : List Kind) (e : Tree) (rest : List Kind) → IsPred ts e rest → GoodKinds ts → Good e × GoodKinds rest
  pred _ _ _ (g.sum d) good = sum _ _ _ d good
  pred _ _ _ (g.compared d k) good =
      let a = sum _ _ _ d good in
      let b = sum _ _ _ k a.1.1 in
      ((a.0, b.0), b.1)
  pred _ _ _ (g.matched d k) good =
      let a = sum _ _ _ d good in
      let b = patterns _ _ _ k a.1.1 in
      ((a.0, b.0, b.1), b.2)
  pred _ _ _ (g.is_in d k) good =
      let a = sum _ _ _ d good in
      let b = members _ _ _ k a.1.1 in
      ((a.0, b.0, b.1), b.2)
  pred _ _ _ (g.is_not_in d k) good =
      let a = sum _ _ _ d good in
      let b = members _ _ _ k a.1.1.1 in
      ((a.0, b.0, b.1), b.2)

  sum : (ts : List Kind) (e : Tree) (rest : List Kind) → IsSum ts e rest → GoodKinds ts → Good e × GoodKinds rest
  sum _ _ _ (g.prod d) good = prod _ _ _ d good
  sum _ _ _ (g.added d k) good =
      let a = sum _ _ _ d good in
      let b = prod _ _ _ k a.1.1 in
      ((a.0, b.0), b.1)

  prod : (ts : List Kind) (e : Tree) (rest : List Kind) → IsProd ts e rest → GoodKinds ts → Good e × GoodKinds rest
  prod _ _ _ (g.unary d) good = unary _ _ _ d good
  prod _ _ _ (g.multiplied d k) good =
      let a = prod _ _ _ d good in
      let b = unary _ _ _ k a.1.1 in
      ((a.0, b.0), b.1)

  unary : (ts : List Kind) (e : Tree) (rest : List Kind) → IsUnary ts e rest → GoodKinds ts → Good e × GoodKinds rest
  unary _ _ _ (g.minus d) good = unary _ _ _ d good.1
  unary _ _ _ (g.prim d) good = prim _ _ _ d good

  prim : (ts : List Kind) (e : Tree) (rest : List Kind) → IsPrim ts e rest → GoodKinds ts → Good e × GoodKinds rest
  prim _ _ _ g.is_null good = (tt, good.1)
  prim _ _ _ g.is_yes good = (tt, good.1)
  prim _ _ _ g.is_no good = (tt, good.1)
  prim _ _ _ g.is_long good = (good.0, good.1)
  prim _ _ _ g.is_str good = (good.0, good.1)
  prim _ _ _ (g.is_field d) good = field _ _ _ _ d good
  prim _ _ _ (g.is_call d kept) good = let a = arguments _ _ _ d good.1.1 in ((good.0.0, kept, a.0), a.1)
  prim _ _ _ (g.is_folding_call d) good = let a = arguments _ _ _ d good.1.1 in ((good.0, tt, a.0), a.1)
  prim _ _ _ (g.inside d) good = let a = expr _ _ _ d good.1 in (a.0, a.1.1)

  arguments : (ts : List Kind) (es : Trees) (rest : List Kind) → IsArguments ts es rest → GoodKinds ts → AllGood es × GoodKinds rest
  arguments _ _ _ g.no_arguments good = (tt, good.1)
  arguments _ _ _ (g.some_arguments d) good = let a = operands _ _ _ _ d good in (a.1, a.2.1)

keys : (ts : List Kind) (fs : List FieldRef) (rest : List Kind) → IsListed IsKey ts fs rest → GoodKinds ts → GoodKeys fs × GoodKinds rest
keys _ _ _ (g.last_one (q.a_key d)) good = let a = field _ _ _ _ d good in ((a.0, tt), a.1)
keys _ _ _ (g.next_one (q.a_key d) ds) good =
    let a = field _ _ _ _ d good in
    let b = keys _ _ _ ds a.1.1 in
    ((a.0, b.0), b.1)

by_of : (ts : List Kind) (fs : List FieldRef) (rest : List Kind) → IsBy ts fs rest → GoodKinds ts → GoodKeys fs × GoodKinds rest
by_of _ _ _ q.no_keys good = (tt, good)
by_of _ _ _ (q.by_keys d) good = keys _ _ _ d good.1

term : (ts : List Kind) (c : Option (List ℕ)) (e : Tree) (rest : List Kind) → IsTerm ts c e rest → GoodKinds ts → GoodCategory c × Good e × GoodKinds rest
term _ _ _ _ (q.a_term {k = k} e d) good = let a = expr _ _ _ d good.1.1 in (subst GoodCategories e (category_good k good.0), a.0, a.1)

bracketed : (ts : List Kind) (c : Option (List ℕ)) (e : Tree) (fs : List FieldRef) (rest : List Kind) → IsBracketed ts c e fs rest → GoodKinds ts → GoodCategory c × Good e × GoodKeys fs × GoodKinds rest
bracketed _ _ _ _ _ (q.bracketed d k) good =
    let a = term _ _ _ _ d good.1 in
    let b = by_of _ _ _ k a.2.1 in
    (a.0, a.1, b.0, b.1)

runs : (ts : List Kind) (n : ℤ) (rest : List Kind) → IsRuns ts n rest → GoodKinds ts → IsCount n × GoodKinds rest
runs _ _ _ q.one_run good = (omega arith, good)
runs _ _ _ (q.some_runs e) good = (good.1.1.1.0, good.1.1.1.1)

item : (ts : List Kind) (i : TermTree) (rest : List Kind) → IsItem ts i rest → GoodKinds ts → GoodTerm i × GoodKinds rest
item _ _ _ (q.an_item d k) good =
    let a = bracketed _ _ _ _ _ d good in
    let b = runs _ _ _ k a.3 in
    ((a.0, a.1, a.2, b.0), b.1)

items : (ts : List Kind) (is : List TermTree) (rest : List Kind) → IsItems ts is rest → GoodKinds ts → SomeOf is × GoodTerms is × GoodKinds rest
items _ _ _ (q.last_item d) good = let a = item _ _ _ d good in (tt, (a.0, tt), a.1)
items _ _ _ (q.next_item d ds) good =
    let a = item _ _ _ d good in
    let b = items _ _ _ ds a.1 in
    (tt, (a.0, b.1), b.2)

span : (ts : List Kind) (s : Option Span) (rest : List Kind) → IsSpan ts s rest → GoodKinds ts → GoodSpan s × GoodKinds rest
span _ _ _ q.no_span good = (tt, good)
span _ _ _ (q.a_span e) good = (good.1.1.1.0, good.1.1.1.1.1)

until_of : (ts : List Kind) (i : Option TermTree) (rest : List Kind) → IsUntil ts i rest → GoodKinds ts → GoodUntil i × GoodKinds rest
until_of _ _ _ q.no_until good = (tt, good)
until_of _ _ _ (q.an_until d) good = let a = bracketed _ _ _ _ _ d good.1 in (((a.0, a.1, a.2, omega arith), refl), a.3)

body : (ts : List Kind) (b : BodyTree) (rest : List Kind) → IsBody ts b rest → GoodKinds ts → GoodBody b × GoodKinds rest
body _ _ _ (q.one_event d) good = let a = term _ _ _ _ d good in (((a.0, a.1, tt, omega arith), refl, refl), a.2)
body _ _ _ (q.a_sequence d k l m) good =
    let a = by_of _ _ _ d good.1 in
    let b = span _ _ _ k a.1 in
    let c = items _ _ _ l b.1 in
    let e = until_of _ _ _ m c.2 in
    ((a.0, b.0, c.0, c.1, e.0), e.1)

abbrev the_make : Option (ℤ → PipeText) → ℤ → PipeText
the_make None = pipe.Head
the_make (Some make) = make

made : (a b : Bool) (make : ℤ → PipeText) (n : ℤ) (ps : List PipeText) → cond a (Some pipe.Head) (cond b (Some pipe.Tail) None) ≡ Some make → IsCount n → GoodPipes ps → GoodPipes (make n ∷ ps)
made true b make n ps e h k = subst (λ m. GoodPipes (m n ∷ ps)) (ap (λ o. the_make o) e) (h, k)
made false true make n ps e h k = subst (λ m. GoodPipes (m n ∷ ps)) (ap (λ o. the_make o) e) (h, k)
made false false make n ps e h k = absurd (no_some make e)
  where
    no_some : (make : ℤ → PipeText) → None ≡ Some make → ⊥
    no_some make e = cc

pipes : (ts : List Kind) (ps : List PipeText) → IsPipes ts ps → GoodKinds ts → GoodPipes ps
pipes _ _ q.no_pipes good = tt
pipes _ _ (q.next_pipe {w = w} {n = n} {make = make} {ps = ps} e d) good =
    made (bytes_eq w (codes "head")) (bytes_eq w (codes "tail")) make n ps e good.1.1.0 (pipes _ _ d good.1.1.1)

pub query : (ts : List Kind) (tree : QueryTree) → Reads ts tree → GoodKinds ts → GoodBody tree.body × GoodPipes tree.pipes
query _ _ (q.a_query d k) good = let a = body _ _ _ d good in (a.0, pipes _ _ k a.1)
