-- The code of a whole expression, that of the arguments of a call, and the blocks of `cidrMatch`.
use Rattle.std.proofs.Common.{◌≡◌, ℕ, suc, ◌+◌, ◌<◌, ◌≤◌, max, List, [], ◌∷◌, ◌++◌, length, map, get_or, drop, drop-cons, add-one, append_assoc, append-nil, reverse, Bool, Option, Some, None, refl, sym, ap, ◌∙◌, arith}
use Rattle.std.proofs.lemmas.List.{drop_all}
use Rattle.eql_values.specs.declared.value.Kind.{Kind}
use Rattle.eql_text.specs.declared.addresses.Block.{Block}
use Rattle.eql_query.specs.declared.expr.Expr.{Expr}
use Rattle.eql_query.specs.Tree.{Trees}
use Rattle.eql_query.specs.Tree as t
use Rattle.eql_query.specs.View.{tree, trees_of}
use Rattle.eql_check.specs.declared.function.Function.{Function}
use Rattle.eql_code.specs.declared.emit.Op.{Op}
use Rattle.eql_code.specs.declared.emit.Op.TheVariants as op
use Rattle.eql_code.specs.Code.{code, code_all, plain_call, count_of, depth, depth_all, block_before, block_of, blocks_in}
use Rattle.eql_code.proofs.Prepared.{blocks_before, one_more_block}

-- what was put together from its end, turned round
pub turned : (c before back all : List Op) → before ≡ [] → back ≡ c ++ reverse before → all ≡ back → all ≡ c
turned c before back all none appended is = is ∙ appended ∙ ap (λ x. c ++ reverse x) none ∙ append-nil c

-- the trees from a place on: that of the element there, and the others
from_place : (items : List Expr) (i : ℕ) (e : Expr) → i < length items → e ≡ get_or items i e →
    trees_of (map tree (drop i items)) ≡ t.more (tree e) (trees_of (map tree (drop (i + 1) items)))
from_place items i e h is =
    ap (λ es. trees_of (map tree es)) (drop-cons items i e h) ∙ ap (λ x. t.more (tree x) (trees_of (map tree (drop (suc i) items)))) (sym is)
    ∙ ap (λ n. t.more (tree e) (trees_of (map tree (drop n items)))) (sym (add-one i))

-- the arguments from one place further ahead
pub one_more : (fields : List (List ℕ × Kind)) (items : List Expr) (i k : ℕ) (e : Expr) (now new all : List Op) → i < length items → e ≡ get_or items i e →
    k ≡ i + 1 → new ≡ code fields (tree e) ++ now → now ≡ code_all fields (trees_of (map tree (drop k items))) ++ all →
    new ≡ code_all fields (trees_of (map tree (drop i items))) ++ all
one_more fields items i k e now new all h is next more was =
    more ∙ ap (λ x. code fields (tree e) ++ x) (was ∙ ap (λ n. code_all fields (trees_of (map tree (drop n items))) ++ all) next)
    ∙ sym (append_assoc (code fields (tree e)) (code_all fields (trees_of (map tree (drop (i + 1) items)))) all)
    ∙ ap (λ ts. code_all fields ts ++ all) (sym (from_place items i e h is))

pub one_deeper : (items : List Expr) (i k : ℕ) (e : Expr) (deepest d m : ℕ) → i < length items → e ≡ get_or items i e →
    k ≡ i + 1 → d ≡ depth (tree e) → m ≡ max deepest (i + d) → deepest ≡ depth_all k (trees_of (map tree (drop k items))) →
    m ≡ depth_all i (trees_of (map tree (drop i items)))
one_deeper items i k e deepest d m h is next deep most was =
    let others : deepest ≡ depth_all (suc i) (trees_of (map tree (drop (i + 1) items))) =
    was ∙ ap (λ n. depth_all n (trees_of (map tree (drop n items)))) next ∙ ap (λ n. depth_all n (trees_of (map tree (drop (i + 1) items)))) (add-one i) in
    let all : depth_all i (trees_of (map tree (drop i items))) ≡ max (i + depth (tree e)) (depth_all (suc i) (trees_of (map tree (drop (i + 1) items)))) =
    ap (depth_all i) (from_place items i e h is) in
    omega (arith, others, all, deep, most)

count_is : (items : List Expr) → count_of (trees_of (map tree items)) ≡ length items
count_is [] = refl
count_is (e ∷ es) = ap suc (count_is es)

-- the call behind its arguments
pub call_is : (fields : List (List ℕ × Kind)) (o : Option Function) (fold : Bool) (f : Function) (ts : Trees) (items : List Expr) (n : ℕ) (was now new : List Op) →
    Some f ≡ o → ts ≡ trees_of (map tree items) → n ≡ length items → now ≡ op.Call f fold n ∷ was →
    new ≡ code_all fields ts ++ now → new ≡ plain_call o fold (count_of ts) (code_all fields ts) ++ was
call_is fields o fold f ts items n was now new named is count call before =
    before ∙ ap (λ x. code_all fields ts ++ x) call
    ∙ ap (λ m. code_all fields ts ++ (op.Call f fold m ∷ was)) (count ∙ sym (ap count_of is ∙ count_is items))
    ∙ sym (append_assoc (code_all fields ts) (op.Call f fold (count_of ts) ∷ []) was)
    ∙ ap (λ o. plain_call o fold (count_of ts) (code_all fields ts) ++ was) named

-- the blocks that were read, and those of the texts from a place on
pub no_blocks : (blocks : List Block) (o : Option (List Block)) → blocks ≡ [] → blocks_before blocks o ≡ o
no_blocks blocks None e = refl
no_blocks blocks (Some others) e = ap (λ bs. Some (bs ++ others)) e

pub one_block : (items : List Expr) (i : ℕ) (e : Expr) (b : Block) (was now : List Block) (all : Option (List Block)) → i < length items → e ≡ get_or items i e →
    Some b ≡ block_of (tree e) → now ≡ was ++ b ∷ [] → blocks_before was (blocks_in (trees_of (map tree (drop i items)))) ≡ all →
    blocks_before now (blocks_in (trees_of (map tree (drop (i + 1) items)))) ≡ all
one_block items i e b was now all h is block pushed before =
    let rest = blocks_in (trees_of (map tree (drop (i + 1) items))) in
    ap (λ bs. blocks_before bs rest) pushed ∙ one_more_block was b rest ∙ ap (λ o. blocks_before was (block_before o rest)) block
    ∙ ap (λ ts. blocks_before was (blocks_in ts)) (sym (from_place items i e h is)) ∙ before

pub no_block : (items : List Expr) (i : ℕ) (e : Expr) (was : List Block) (all : Option (List Block)) → i < length items → e ≡ get_or items i e →
    None ≡ block_of (tree e) → blocks_before was (blocks_in (trees_of (map tree (drop i items)))) ≡ all → None ≡ all
no_block items i e was all h is block before =
    let rest = blocks_in (trees_of (map tree (drop (i + 1) items))) in
    ap (λ o. blocks_before was (block_before o rest)) block ∙ ap (λ ts. blocks_before was (blocks_in ts)) (sym (from_place items i e h is)) ∙ before

pub all_blocks : (items : List Expr) (i : ℕ) (was out : List Block) (all : Option (List Block)) → length items ≤ i → out ≡ was →
    blocks_before was (blocks_in (trees_of (map tree (drop i items)))) ≡ all → Some out ≡ all
all_blocks items i was out all past is before =
    ap Some (is ∙ sym (append-nil was)) ∙ ap (λ es. blocks_before was (blocks_in (trees_of (map tree es)))) (sym (drop_all i items past)) ∙ before
