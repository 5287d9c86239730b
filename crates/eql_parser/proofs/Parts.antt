-- What the descent returns at a token, by what the code does there.
use Rattle.std.proofs.Common.{◌≡◌, ◌≢◌, ◌⊎◌, inl, inr, ◌==◌, ℕ, suc, Bool, true, false, not, ◌&&◌, if◌then◌else◌, List, [], ◌∷◌, length, Some, None, Result, Ok, Err, codes, refl, sym, ap, ◌∙◌, subst, arith}
use Rattle.std.specs.Str.{bytes_eq, chars}
use Rattle.std.specs.Borrow.{Bor}
use Rattle.std.proofs.lemmas.Bool.{false≢true}
use Rattle.std.proofs.lemmas.Bool.Decides.{nat_tests}
use Rattle.eql_values.specs.declared.text.Text.{Text}
use Rattle.eql_lexer.specs.declared.token.Token.{Token}
use Rattle.eql_parser.specs.declared.parser.piece.Piece.{Piece}
use Rattle.eql_parser.specs.declared.parser.piece.Piece.TheVariants as p
use Rattle.eql_parser.specs.declared.parser.mark.Mark.TheVariants as m
use Rattle.eql_parser.specs.declared.parser.stop.Stop.{Stop}
use Rattle.eql_parser.specs.declared.parser.stop.Stop.TheVariants as stop
use Rattle.eql_parser.specs.Kinds.{Kind, kinds, open_, name, folding, regex_, null_, true_, false_, number, text}
use Rattle.eql_query.specs.Tree.{Tree}
use Rattle.eql_query.specs.Tree as t
use Rattle.eql_query.specs.View.{trees_of}
use Rattle.eql_parser.specs.Grammar.{is_left_out_call}
use Rattle.eql_parser.specs.Marks.{BeginsNoCall, Lacks}
use Rattle.eql_parser.specs.Pieces.{piece_kind}
use Rattle.eql_parser.specs.Limits.{depth}
use Rattle.eql_parser.specs.Answering.{Answers, Stops, StopLeavesOut, constant_tree, room, inner, call_read}
use Rattle.eql_parser.specs.Reading.{Syntax, LeftOut, Res, res_map, at_level, behind_not, behind_sum, field_tree, field, named_field, prim}
use Rattle.eql_parser.proofs.Defaults.{length_kinds, refused_here}

pub as_read : {A X : Type 0} (view : X → A) (x : Result (X × Bor (List Token)) Stop) (r s : Res A) → r ≡ s → Answers view x r → Answers view x s
as_read view x r s e h = subst (Answers view x) e h

-- a reading that names its place by the tokens from there on
pub at_place : {A : Type 0} (read : List Kind → Res A) (g : ℕ → Res A) (ts : List Token) (k : Kind) (us : List Kind) → kinds ts ≡ k ∷ us → read (k ∷ us) ≡ g (suc (length us))
    → g (length ts) ≡ read (kinds ts)
at_place read g ts k us e h = ap g (sym (length_kinds ts) ∙ ap length e) ∙ sym h ∙ sym (ap read e)

pub stops_by : {A : Type 0} (e : Stop) (w v : List ℕ) (n : ℕ) (r : Res A) → StopLeavesOut e w n → w ≡ v → r ≡ Err (LeftOut v n) → Stops e r
stops_by stop.Memory w v n r h f q = tt
stops_by (stop.Syntax m) w v n r h f q = absurd h
stops_by (stop.LeftOut u m) w v n r h f q = q ∙ ap (λ x. Err (LeftOut x n)) (sym (h.0 ∙ f)) ∙ ap (λ x. Err (LeftOut u x)) (sym h.1)
stops_by (stop.TooDeep m) w v n r h f q = absurd h
stops_by (stop.TooOpen m) w v n r h f q = absurd h

-- a name that isn't called
pub name_alone : (d l : ℕ) (w : List ℕ) (us : List Kind) → Lacks m.Open us
    → prim (room d) (inner d) l (name w ∷ us) ≡ at_level l (suc (length us)) (res_map field_tree (named_field false (name w ∷ us)))
name_alone d l w [] h = refl
name_alone d l w (open_ ∷ us) h = absurd (h refl)
name_alone d l w (_ ∷ us) h = refl

folding_alone : (d l : ℕ) (w : List ℕ) (us : List Kind) → Lacks m.Open us → prim (room d) (inner d) l (folding w ∷ us) ≡ at_level l (suc (length us)) (Err (Syntax (length us)))
folding_alone d l w [] h = refl
folding_alone d l w (open_ ∷ us) h = absurd (h refl)
folding_alone d l w (_ ∷ us) h = refl

-- a name stands alone where no call comes first
pub alone : (ts : List Kind) (w : List ℕ) (us : List Kind) → ts ≡ name w ∷ us → BeginsNoCall ts → Lacks m.Open us
alone ts w us e h = lacks_open us (subst BeginsNoCall e h)
  where
    lacks_open : (us : List Kind) → (⊥ ⊎ Lacks m.Open us) → Lacks m.Open us
    lacks_open us (inl h) = absurd h
    lacks_open us (inr h) = h

pub folding_by_itself : (ts : List Kind) (w : List ℕ) (us : List Kind) → ts ≡ folding w ∷ us → BeginsNoCall ts → Lacks m.Open us
folding_by_itself ts w us e h = lacks_open us (subst BeginsNoCall e h)
  where
    lacks_open : (us : List Kind) → (⊥ ⊎ Lacks m.Open us) → Lacks m.Open us
    lacks_open us (inl h) = absurd h
    lacks_open us (inr h) = h

pub folding_prim : (d l : ℕ) (ts : List Token) (w : List ℕ) (rest : List Token) → kinds ts ≡ folding w ∷ kinds rest → Lacks m.Open (kinds rest)
    → at_level {A = Tree} l (length ts) (Err (Syntax (length rest))) ≡ prim (room d) (inner d) l (kinds ts)
folding_prim d l ts w rest e h =
    ap (λ n. at_level {A = Tree} l (length ts) (Err (Syntax n))) (sym (length_kinds rest))
    ∙ at_place (prim (room d) (inner d) l) (λ n. at_level l n (Err (Syntax (length (kinds rest))))) ts (folding w) (kinds rest) e (folding_alone d l w (kinds rest) h)

-- constants
pub constant_prim : (d l : ℕ) (k : Kind) (us : List Kind) (e : Tree) → Some e ≡ constant_tree k → prim (room d) (inner d) l (k ∷ us) ≡ at_level l (suc (length us)) (Ok (e, us))
constant_prim d l null_ us e h = ap (λ x. at_level l (suc (length us)) (Ok (x, us))) (let f : t.null ≡ e = cc in f)
constant_prim d l true_ us e h = ap (λ x. at_level l (suc (length us)) (Ok (x, us))) (let f : t.bool true ≡ e = cc in f)
constant_prim d l false_ us e h = ap (λ x. at_level l (suc (length us)) (Ok (x, us))) (let f : t.bool false ≡ e = cc in f)
constant_prim d l (number n) us e h = ap (λ x. at_level l (suc (length us)) (Ok (x, us))) (let f : t.long n ≡ e = cc in f)
constant_prim d l (text s) us e h = ap (λ x. at_level l (suc (length us)) (Ok (x, us))) (let f : t.str s ≡ e = cc in f)
constant_prim d l _ us e h = absurd (let f : ⊥ = cc in f)

pub constant_depth : (k : Kind) (e : Tree) → Some e ≡ constant_tree k → depth e ≡ 1
constant_depth null_ e h = sym (ap depth (let f : t.null ≡ e = cc in f))
constant_depth true_ e h = sym (ap depth (let f : t.bool true ≡ e = cc in f))
constant_depth false_ e h = sym (ap depth (let f : t.bool false ≡ e = cc in f))
constant_depth (number n) e h = sym (ap depth (let f : t.long n ≡ e = cc in f))
constant_depth (text s) e h = sym (ap depth (let f : t.str s ≡ e = cc in f))
constant_depth _ e h = absurd (let f : ⊥ = cc in f)

no_leaf_first : (d l : ℕ) (x : Piece) (us : List Kind) → Lacks m.Open (piece_kind x ∷ us) → None ≡ constant_tree (piece_kind x)
    → ((s : Bor Text) → x ≡ p.Name s → ⊥) → ((s : Bor Text) → x ≡ p.Back s → ⊥) → (x ≡ p.Question → ⊥) → ((s : Bor (List ℕ)) → x ≡ p.Folding s → ⊥)
    → prim (room d) (inner d) l (piece_kind x ∷ us) ≡ Err (Syntax (suc (length us)))
no_leaf_first d l p.Null us o c g h i j = absurd (let f : ⊥ = cc in f)
no_leaf_first d l p.True us o c g h i j = absurd (let f : ⊥ = cc in f)
no_leaf_first d l p.False us o c g h i j = absurd (let f : ⊥ = cc in f)
no_leaf_first d l (p.Number n) us o c g h i j = absurd (let f : ⊥ = cc in f)
no_leaf_first d l (p.Str s) us o c g h i j = absurd (let f : ⊥ = cc in f)
no_leaf_first d l (p.Name s) us o c g h i j = absurd (g s refl)
no_leaf_first d l (p.Back s) us o c g h i j = absurd (h s refl)
no_leaf_first d l p.Question us o c g h i j = absurd (i refl)
no_leaf_first d l (p.Folding s) us o c g h i j = absurd (j s refl)
no_leaf_first d l p.Open us o c g h i j = absurd (o refl)
no_leaf_first d l _ us o c g h i j = refl

pub no_leaf : (d l : ℕ) (ts : List Token) (x : Piece) (us : List Kind) → kinds ts ≡ piece_kind x ∷ us → Lacks m.Open (kinds ts) → None ≡ constant_tree (piece_kind x)
    → ((s : Bor Text) → x ≡ p.Name s → ⊥) → ((s : Bor Text) → x ≡ p.Back s → ⊥) → (x ≡ p.Question → ⊥) → ((s : Bor (List ℕ)) → x ≡ p.Folding s → ⊥)
    → prim (room d) (inner d) l (kinds ts) ≡ Err (Syntax (length ts))
no_leaf d l ts x us e o c g h i j =
    refused_here ts (piece_kind x) us e (prim (room d) (inner d) l) (no_leaf_first d l x us (subst (Lacks m.Open) e o) c g h i j)

-- a field that begins here
pub field_prim : (d l : ℕ) (ts : List Token) (k : Kind) (us : List Kind) → kinds ts ≡ k ∷ us → prim (room d) (inner d) l (k ∷ us) ≡ at_level l (suc (length us)) (res_map field_tree (field (k ∷ us)))
    → at_level l (length ts) (res_map field_tree (field (kinds ts))) ≡ prim (room d) (inner d) l (kinds ts)
field_prim d l ts k us e h =
    ap (λ q. at_level l (length ts) (res_map field_tree (field q))) e ∙ at_place (prim (room d) (inner d) l) (λ n. at_level l n (res_map field_tree (field (k ∷ us)))) ts k us e h

-- calls
pub call_refused : (fold : Bool) (w : List ℕ) (n : ℕ) (es : List Tree) (ts : List Kind) → true ≡ (not fold && is_left_out_call w (trees_of es)) → call_read fold w n es ts ≡ Err (LeftOut (codes "number") n)
call_refused false w n es ts h = ap (λ b. if b then Err (LeftOut (codes "number") n) else Ok (t.call w false (trees_of es), ts)) (sym h)
call_refused true w n es ts h = absurd (false≢true (sym h))

pub call_done : (fold : Bool) (w : List ℕ) (n : ℕ) (es : List Tree) (ts : List Kind) → false ≡ (not fold && is_left_out_call w (trees_of es)) → call_read fold w n es ts ≡ Ok (t.call w fold (trees_of es), ts)
call_done false w n es ts h = ap (λ b. if b then Err (LeftOut (codes "number") n) else Ok (t.call w false (trees_of es), ts)) (sym h)
call_done true w n es ts h = refl

three_not_two : (n : ℕ) → (suc (suc (suc n)) == 2) ≡ false
three_not_two n = grind (arith, nat_tests)

pub two_arguments : (w : List ℕ) (es : List Tree) → is_left_out_call w (trees_of es) ≡ ((length es == 2) && bytes_eq w (codes "number"))
two_arguments w [] = refl
two_arguments w (a ∷ []) = refl
two_arguments w (a ∷ b ∷ []) = refl
two_arguments w (a ∷ b ∷ c ∷ es) = ap (λ t. t && bytes_eq w (codes "number")) (sym (three_not_two (length es)))

-- tests
no_in_first : (d : ℕ) (a : Tree) (x : Piece) (us : List Kind) → ((f : Bool) → x ≡ p.In f → ⊥) → behind_not (room d) (inner d) a (piece_kind x ∷ us) ≡ Err (Syntax (suc (length us)))
no_in_first d a (p.In f) us h = absurd (h f refl)
no_in_first d a _ us h = refl

pub no_in : (d : ℕ) (a : Tree) (ts : List Token) (x : Piece) (us : List Kind) → kinds ts ≡ piece_kind x ∷ us → ((f : Bool) → x ≡ p.In f → ⊥)
    → behind_not (room d) (inner d) a (kinds ts) ≡ Err (Syntax (length ts))
no_in d a ts x us e h = refused_here ts (piece_kind x) us e (behind_not (room d) (inner d) a) (no_in_first d a x us h)

pub regex_left : (d l : ℕ) (a : Tree) (f : Bool) (us : List Kind) → behind_sum (room d) (inner d) l a (regex_ f ∷ us) ≡ Err (LeftOut (if f then codes "regex~" else codes "regex") (suc (length us)))
regex_left d l a true us = refl
regex_left d l a false us = refl

pub number_word : chars (110 ∷ 117 ∷ 109 ∷ 98 ∷ 101 ∷ 114 ∷ []) ≡ codes "number"
unfolding chars lib.Utf8.encode
number_word = refl

pub not_folding : (fold : Bool) (w : List ℕ) (es : List Tree) → fold ≡ true → false ≡ (not fold && is_left_out_call w (trees_of es))
not_folding fold w es h = ap (λ f. not f && is_left_out_call w (trees_of es)) (sym h)

pub not_two_arguments : (fold : Bool) (w : List ℕ) (es : List Tree) → fold ≡ false → length es ≢ 2 → false ≡ (not fold && is_left_out_call w (trees_of es))
not_two_arguments fold w es h n =
    let other : (length es == 2) ≡ false = grind (arith, nat_tests) in
    sym (ap (λ f. not f && is_left_out_call w (trees_of es)) h ∙ two_arguments w es ∙ ap (λ t. t && bytes_eq w (codes "number")) other)

pub just_two_arguments : (fold : Bool) (w : List ℕ) (es : List Tree) (r : Bool) → fold ≡ false → length es ≡ 2 → r ≡ bytes_eq w (codes "number") → r ≡ (not fold && is_left_out_call w (trees_of es))
just_two_arguments fold w es r h n q =
    q ∙ sym (ap (λ f. not f && is_left_out_call w (trees_of es)) h ∙ two_arguments w es ∙ ap (λ k. (k == 2) && bytes_eq w (codes "number")) n)
