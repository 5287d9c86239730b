-- Operators whose addresses and blocks were read beforehand give what the plain ones give.
use Rattle.std.proofs.Common.{◌≡◌, ℕ, List, [], ◌∷◌, ◌++◌, append_assoc, Bool, true, false, Option, Some, None, refl, sym, ap, ap₂, ◌∙◌, arith}
use Rattle.std.specs.Prelude.{◌||◌, ◌==◌, not, option_map}
use Rattle.std.specs.List.{list_any, cons_option}
use Rattle.std.specs.Ordering.{is_eq, nat_cmp}
use Rattle.std.proofs.lemmas.Bool.Decides.{nat_tests}
use Rattle.std.proofs.lemmas.Cmp.{eq_by_cmp_equiv}
use Rattle.eql_values.specs.declared.value.Value.{Value}
use Rattle.eql_values.specs.declared.value.Value.TheVariants as value
use Rattle.eql_values.specs.Orders.{text_eq}
use Rattle.eql_values.specs.Totals.{text_cmp_total}
use Rattle.eql_text.specs.Addresses.{parse_ip4, in_block}
use Rattle.eql_text.specs.declared.addresses.Block.{Block}
use Rattle.eql_query.specs.Tree.{Tree, Trees, none, more}
use Rattle.eql_query.specs.Tree as t
use Rattle.eql_query.specs.declared.expr.CmpOp.{CmpOp}
use Rattle.eql_query.specs.declared.expr.CmpOp.TheVariants.{Lt, Le, Eq, Ne, Ge, Gt}
use Rattle.eql_check.specs.declared.function.Function.{Function}
use Rattle.eql_check.specs.declared.function.Function.TheVariants.{Add, Subtract, Multiply, Divide, Modulo, Length, IndexOf, StartsWith, EndsWith, StringContains, Concat, Substring, Between, String, Number, CidrMatch}
use Rattle.eql_check.specs.Kinds.{holds_field}
use Rattle.eql_check.specs.ThreeValued.{truth}
use Rattle.eql_check.specs.Comparisons.{compares, says, is_among, is_this_address, is_one}
use Rattle.eql_check.specs.Functions as f
use Rattle.eql_check.specs.Truth.{means, values, is_literal_null}
use Rattle.eql_operators.specs.Prepared.{addresses_in, in_one, is_in_blocks, equality, equals_address, is_among_read}
use Rattle.eql_code.specs.declared.emit.Op.{Op}
use Rattle.eql_code.specs.declared.emit.Op.TheVariants as op
use Rattle.eql_code.specs.Code.{quoted_text, is_unequal, address_if, address_op, block_before, block_if, block_of, blocks_in, is_cidr}

some_same : {A : Type 0} (x y : A) → Some x ≡ Some y → x ≡ y
some_same x y e = cc

pub quoted_is : (a : Tree) (s' : List ℕ) → quoted_text a ≡ Some s' → a ≡ t.str s'
quoted_is t.null s' e = cc
quoted_is (t.bool b) s' e = cc
quoted_is (t.long n) s' e = cc
quoted_is (t.str s) s' e = ap t.str (some_same s s' e)
quoted_is (t.field name optional) s' e = cc
quoted_is (t.not a) s' e = cc
quoted_is (t.and es) s' e = cc
quoted_is (t.or es) s' e = cc
quoted_is (t.cmp how a b) s' e = cc
quoted_is (t.pattern how a patterns) s' e = cc
quoted_is (t.member fold turned a list) s' e = cc
quoted_is (t.neg a) s' e = cc
quoted_is (t.math how a b) s' e = cc
quoted_is (t.call name fold args) s' e = cc

pub not_null : (a : Tree) → holds_field a ≡ true → is_literal_null a ≡ false
not_null t.null e = cc
not_null (t.bool b) e = refl
not_null (t.long n) e = refl
not_null (t.str s) e = refl
not_null (t.field name optional) e = refl
not_null (t.not a) e = refl
not_null (t.and es) e = refl
not_null (t.or es) e = refl
not_null (t.cmp how a b) e = refl
not_null (t.pattern how a patterns) e = refl
not_null (t.member fold turned a list) e = refl
not_null (t.neg a) e = refl
not_null (t.math how a b) e = refl
not_null (t.call name fold args) e = refl

pub cidr_is : (o : Option Function) → is_cidr o ≡ true → o ≡ Some CidrMatch
cidr_is None e = cc
cidr_is (Some Add) e = cc
cidr_is (Some Subtract) e = cc
cidr_is (Some Multiply) e = cc
cidr_is (Some Divide) e = cc
cidr_is (Some Modulo) e = cc
cidr_is (Some Length) e = cc
cidr_is (Some IndexOf) e = cc
cidr_is (Some StartsWith) e = cc
cidr_is (Some EndsWith) e = cc
cidr_is (Some StringContains) e = cc
cidr_is (Some Concat) e = cc
cidr_is (Some Substring) e = cc
cidr_is (Some Between) e = cc
cidr_is (Some String) e = cc
cidr_is (Some Number) e = cc
cidr_is (Some CidrMatch) e = refl

eq_test : (a b : ℕ) → is_eq (nat_cmp a b) ≡ (a == b)
eq_test a b = grind (arith, nat_tests)

eq_back : (a b : ℕ) → is_eq (nat_cmp a b) ≡ is_eq (nat_cmp b a)
eq_back a b = grind (arith, nat_tests)

texts_back : (s u : List ℕ) → text_eq s u ≡ text_eq u s
texts_back s u = let laws = eq_by_cmp_equiv text_cmp_total in laws.symm s u

-- an address beside a text that writes one
pub same_equality : (negated : Bool) (v : Value) (s : List ℕ) (ip : ℕ) → parse_ip4 s ≡ Some ip →
    equals_address negated v (value.Text s) ip ≡ compares false (equality negated) v (value.Text s)
same_equality negated value.Null s ip e = refl
same_equality negated (value.Bool b) s ip e = refl
same_equality negated (value.Long n) s ip e = refl
same_equality negated (value.Text u) s ip e = refl
same_equality false (value.Ip other) s ip e =
    ap value.Bool (sym (eq_test other ip)) ∙ ap (λ o. truth (option_map (says Eq) (option_map (nat_cmp other) o))) (sym e)
same_equality true (value.Ip other) s ip e =
    ap (λ b. value.Bool (not b)) (sym (eq_test other ip)) ∙ ap (λ o. truth (option_map (says Ne) (option_map (nat_cmp other) o))) (sym e)

pub swapped : (negated : Bool) (v : Value) (s : List ℕ) (ip : ℕ) → parse_ip4 s ≡ Some ip →
    compares false (equality negated) v (value.Text s) ≡ compares false (equality negated) (value.Text s) v
swapped negated value.Null s ip e = refl
swapped negated (value.Bool b) s ip e = refl
swapped negated (value.Long n) s ip e = refl
swapped false (value.Text u) s ip e = ap value.Bool (texts_back u s)
swapped true (value.Text u) s ip e = ap (λ b. value.Bool (not b)) (texts_back u s)
swapped false (value.Ip other) s ip e =
    ap (λ o. truth (option_map (says Eq) (option_map (nat_cmp other) o))) e ∙ ap value.Bool (eq_back other ip)
    ∙ ap (λ o. truth (option_map (says Eq) (option_map (λ a. nat_cmp a other) o))) (sym e)
swapped true (value.Ip other) s ip e =
    ap (λ o. truth (option_map (says Ne) (option_map (nat_cmp other) o))) e ∙ ap (λ b. value.Bool (not b)) (eq_back other ip)
    ∙ ap (λ o. truth (option_map (says Ne) (option_map (λ a. nat_cmp a other) o))) (sym e)

-- what stands on a side where an address was read from it
pub record IsWritten (how : CmpOp) (a : Tree) (o : Op) : Type 0 where
  pub negated : Bool
  pub text : List ℕ
  pub ip : ℕ
  pub its_how : how ≡ equality negated
  pub its_tree : a ≡ t.str text
  pub its_ip : parse_ip4 text ≡ Some ip
  pub its_op : o ≡ op.Address negated (value.Text text) ip

pub mapped : {A : Type 0} {B : Type 0} (g : A → B) (x : Option A) (y : B) → option_map g x ≡ Some y → (a : A) × (x ≡ Some a) × (y ≡ g a)
mapped g None y e = cc
mapped g (Some a) y e = (a, refl, cc)

how_is : (how : CmpOp) (negated : Bool) → is_unequal how ≡ Some negated → how ≡ equality negated
how_is Eq false e = refl
how_is Eq true e = cc
how_is Ne true e = refl
how_is Ne false e = cc
how_is Lt negated e = cc
how_is Le negated e = cc
how_is Ge negated e = cc
how_is Gt negated e = cc

written_if : (how : CmpOp) (a : Tree) (o : Op) (n : Option Bool) (q : Option (List ℕ)) → is_unequal how ≡ n → quoted_text a ≡ q →
    address_if n q ≡ Some o → IsWritten how a o
written_if how a o None q is is' e = cc
written_if how a o (Some negated) None is is' e = cc
written_if how a o (Some negated) (Some s) is is' e =
    let x = mapped (op.Address negated (value.Text s)) (parse_ip4 s) o e in
    record {
      negated = negated;
      text = s;
      ip = x.0;
      its_how = how_is how negated is;
      its_tree = quoted_is a s is';
      its_ip = x.1;
      its_op = x.2;
    }

pub written : (how : CmpOp) (a : Tree) (o : Op) → address_op how a ≡ Some o → IsWritten how a o
written how a o e = written_if how a o (is_unequal how) (quoted_text a) refl refl e

-- blocks that were read before others
abbrev pub blocks_before : List Block → Option (List Block) → Option (List Block)
blocks_before blocks (Some others) = Some (blocks ++ others)
blocks_before blocks None = None

pub one_more_block : (blocks : List Block) (b : Block) (rest : Option (List Block)) →
    blocks_before (blocks ++ b ∷ []) rest ≡ blocks_before blocks (block_before (Some b) rest)
one_more_block blocks b None = refl
one_more_block blocks b (Some rest) = ap Some (append_assoc blocks (b ∷ []) rest)

-- blocks that texts in quotes write
blocks_are : (o : Option Block) (os : Option (List Block)) (bs : List Block) → block_before o os ≡ Some bs →
    (b : Block) × (rest : List Block) × (o ≡ Some b) × (os ≡ Some rest) × (bs ≡ b ∷ rest)
blocks_are None os bs e = cc
blocks_are (Some b) None bs e = cc
blocks_are (Some b) (Some rest) bs e = (b, rest, refl, refl, cc)

module _ (env : List ℕ → Value) where
  block_means : (a : Tree) (b : Block) (q : Option (List ℕ)) → quoted_text a ≡ q → block_if q ≡ Some b → f.block_of (means env a) ≡ Some b
  block_means a b None is e = cc
  block_means a b (Some s) is e = ap (λ a. f.block_of (means env a)) (quoted_is a s is) ∙ e

  lies_same : (ip : ℕ) (blocks : Trees) (bs : List Block) → blocks_in blocks ≡ Some bs → f.lies_in ip (values env blocks) ≡ Some (list_any (in_block ip) bs)
  lies_same ip none bs e = ap (λ bs. Some (list_any (in_block ip) bs)) (some_same [] bs e)
  lies_same ip (more a es) bs e =
      let x = blocks_are (block_of a) (blocks_in es) bs e in
      ap₂ (λ o p. f.one_of (option_map (in_block ip) o) p) (block_means a x.0 (quoted_text a) refl x.2) (lies_same ip es x.1 x.3)
      ∙ ap (λ bs. Some (list_any (in_block ip) bs)) (sym x.4)

  lies_in_same : (o : Option ℕ) (blocks : Trees) (bs : List Block) → blocks_in blocks ≡ Some bs → in_one o bs ≡ f.lies_in_one o (values env blocks)
  lies_in_same None blocks bs e = refl
  lies_in_same (Some ip) blocks bs e = ap truth (sym (lies_same ip blocks bs e))

  pub same_cidr : (v : Value) (blocks : Trees) (bs : List Block) → blocks_in blocks ≡ Some bs →
      is_in_blocks v bs ≡ f.cidr_match (v ∷ values env blocks)
  same_cidr v blocks bs e = lies_in_same (f.address_of v) blocks bs e

-- an address among literals
text_among : (ip : ℕ) (o : Option ℕ) (rest : List ℕ) (q : Bool) → list_any (λ other. ip == other) rest ≡ q →
    list_any (λ other. ip == other) (cons_option o rest) ≡ (is_this_address ip o || q)
text_among ip None rest q e = e
text_among ip (Some a) rest q e = ap (λ q. (ip == a) || q) e

among_same : (ip : ℕ) (fold : Bool) (list : List Value) → list_any (λ other. ip == other) (addresses_in list) ≡ is_one fold (value.Ip ip) list
among_same ip fold [] = refl
among_same ip fold (value.Null ∷ vs) = among_same ip fold vs
among_same ip fold (value.Bool b ∷ vs) = among_same ip fold vs
among_same ip fold (value.Long n ∷ vs) = among_same ip fold vs
among_same ip fold (value.Text s ∷ vs) = text_among ip (parse_ip4 s) (addresses_in vs) (is_one fold (value.Ip ip) vs) (among_same ip fold vs)
among_same ip fold (value.Ip b ∷ vs) = ap₂ (λ p q. p || q) (sym (eq_test ip b)) (among_same ip fold vs)

pub same_among : (fold negated : Bool) (v : Value) (list : List Value) → is_among_read fold negated v list (addresses_in list) ≡ is_among fold negated v list
same_among fold negated value.Null list = refl
same_among fold negated (value.Bool b) list = refl
same_among fold negated (value.Long n) list = refl
same_among fold negated (value.Text s) list = refl
same_among fold false (value.Ip ip) list = ap value.Bool (among_same ip fold list)
same_among fold true (value.Ip ip) list = ap (λ b. value.Bool (not b)) (among_same ip fold list)
