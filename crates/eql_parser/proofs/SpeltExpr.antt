-- The canonical text of an expression reads as its tokens, whatever follows.
use Rattle.std.proofs.Common.{◌≡◌, ℕ, ◌<◌, ◌^◌, ℤ, pos, negsuc, suc, Bool, true, false, List, [], ◌∷◌, ◌++◌, refl, sym, subst, ◌∙◌, arith, append_assoc, inl, inr}
use Rattle.std.specs.Prelude.{codes}
use Rattle.std.specs.Fmt.{signed_decimal, decimal}
use lib.Utf8.{scalars}
use Rattle.eql_values.specs.declared.value.Value.{Value}
use Rattle.eql_values.specs.declared.value.Value.TheVariants as value
use Rattle.eql_lexer.specs.declared.token.Sign.TheVariants as sign
use Rattle.eql_lexer.specs.declared.token.Tok.{Tok}
use Rattle.eql_lexer.specs.declared.token.Tok.TheVariants as tok
use Rattle.eql_query.specs.declared.expr.CmpOp.{CmpOp}
use Rattle.eql_query.specs.declared.expr.CmpOp.TheVariants as cmp
use Rattle.eql_query.specs.declared.expr.PatOp.{PatOp}
use Rattle.eql_query.specs.declared.expr.PatOp.TheVariants as pat
use Rattle.eql_query.specs.declared.expr.MathOp.{MathOp}
use Rattle.eql_query.specs.declared.expr.MathOp.TheVariants as math
use Rattle.eql_query.specs.Tree.{Tree, Trees, none, more}
use Rattle.eql_query.specs.Tree as t
use Rattle.eql_parser.specs.Grammar.{Joint, by_or, by_and, by_comma}
use Rattle.eql_parser.specs.Printed.{string_shown, name_shown, bool_text, cmp_text, pat_text, math_text, member_text, field_shown, texts_shown, patterns_shown, literal_shown, literals_shown, tree_shown, all_shown}
use Rattle.eql_parser.proofs.Canonical.{open_tok, close_tok, comma_tok, cmp_sign, pat_tok, math_sign, joint_tok, field_toks, texts_toks, patterns_toks, literal_toks, literals_toks, member_toks, toks, all_toks, called, IsCount, IsName, IsWord, IsCalled, AreTexts, IsGoodLiteral, AreLiterals, Good, AllGood}
use Rattle.eql_parser.proofs.Spelt as b
use Rattle.eql_parser.proofs.Spelt.{AfterWord}
use Rattle.eql_parser.proofs.SpeltText as m
use Rattle.eql_parser.proofs.SpeltText.{AfterNumber}
use Rattle.eql_parser.proofs.SpeltStrings as q
use Rattle.eql_parser.proofs.SpeltStrings.{AfterQuote}

-- the characters are these tokens
pub record Spelt (cs : List ℕ) (us : List Tok) : Type 0 where
  pub lexes : b.Spelt cs us

pub open_s : {rest : List ℕ} {us : List Tok} → Spelt rest us → Spelt (40 ∷ rest) (open_tok ∷ us)
open_s {rest} {us} k = record { lexes = b.open_s rest us k.lexes }

pub close_s : {rest : List ℕ} {us : List Tok} → Spelt rest us → Spelt (41 ∷ rest) (close_tok ∷ us)
close_s {rest} {us} k = record { lexes = b.close_s rest us k.lexes }

pub comma_s : {rest : List ℕ} {us : List Tok} → Spelt rest us → Spelt (44 ∷ rest) (comma_tok ∷ us)
comma_s {rest} {us} k = record { lexes = b.comma_s rest us k.lexes }

question_s : {rest : List ℕ} {us : List Tok} → Spelt rest us → Spelt (63 ∷ rest) (tok.Sign sign.Question ∷ us)
question_s {rest} {us} k = record { lexes = b.question_s rest us k.lexes }

minus_s : {rest : List ℕ} {us : List Tok} → Spelt rest us → Spelt (45 ∷ rest) (tok.Sign sign.Minus ∷ us)
minus_s {rest} {us} k = record { lexes = b.minus_s rest us k.lexes }

pub open_item_s : {rest : List ℕ} {us : List Tok} → Spelt rest us → Spelt (91 ∷ rest) (tok.Sign sign.OpenBracket ∷ us)
open_item_s {rest} {us} k = record { lexes = b.open_item_s rest us k.lexes }

pub close_item_s : {rest : List ℕ} {us : List Tok} → Spelt rest us → Spelt (93 ∷ rest) (tok.Sign sign.CloseBracket ∷ us)
close_item_s {rest} {us} k = record { lexes = b.close_item_s rest us k.lexes }

pub bar_s : {rest : List ℕ} {us : List Tok} → Spelt rest us → Spelt (124 ∷ rest) (tok.Sign sign.Bar ∷ us)
bar_s {rest} {us} k = record { lexes = b.bar_s rest us k.lexes }

pub space_s : {rest : List ℕ} {us : List Tok} → Spelt rest us → Spelt (32 ∷ rest) us
space_s {rest} {us} k = record { lexes = b.space_s rest us k.lexes }

cmp_s : (o : CmpOp) {rest : List ℕ} {us : List Tok} → Spelt rest us → Spelt (cmp_text o ++ rest) (tok.Sign (cmp_sign o) ∷ us)
cmp_s o {rest} {us} k = record { lexes = b.cmp_s o rest us k.lexes }

colon_s : {rest : List ℕ} {us : List Tok} → Spelt rest us → Spelt (codes " : " ++ rest) (tok.Sign sign.Colon ∷ us)
colon_s {rest} {us} k = record { lexes = b.colon_s rest us k.lexes }

math_s : (o : MathOp) {rest : List ℕ} {us : List Tok} → Spelt rest us → Spelt (math_text o ++ rest) (tok.Sign (math_sign o) ∷ us)
math_s o {rest} {us} k = record { lexes = b.math_s o rest us k.lexes }

pub word_s : (w rest : List ℕ) {us : List Tok} → IsWord w → AfterWord rest → Spelt rest us → Spelt (w ++ rest) (tok.Word w ∷ us)
word_s w rest {us} h e k = record { lexes = b.word_s w rest us h e k.lexes }

pub number_s : (n : ℕ) {rest : List ℕ} {us : List Tok} → n < 2 ^ 63 → AfterNumber rest → Spelt rest us → Spelt (decimal n ++ rest) (tok.Num (pos n) ∷ us)
number_s n {rest} {us} h e k = record { lexes = m.number_s n rest us h e k.lexes }

pub quoted_s : (s : List ℕ) {rest : List ℕ} {us : List Tok} → scalars s ≡ true → AfterQuote rest → Spelt rest us → Spelt (string_shown s rest) (tok.Str s ∷ us)
quoted_s s {rest} {us} h e k = record { lexes = q.quoted_s s rest us h e k.lexes }

back_s : (n : List ℕ) {rest : List ℕ} {us : List Tok} → IsName n → AfterQuote rest → Spelt rest us → Spelt (96 ∷ name_shown n (96 ∷ rest)) (tok.Back n ∷ us)
back_s n {rest} {us} h e k = record { lexes = q.back_s n rest us h e k.lexes }

-- what may follow any part
abbrev pub Ends : List ℕ → Type 0
Ends cs = AfterWord cs × AfterNumber cs × AfterQuote cs

pub ends_space : (cs : List ℕ) → Ends (32 ∷ cs)
ends_space cs = ((omega arith, refl, refl), (omega arith, refl, refl), (omega arith, refl, refl))

pub ends_close : (cs : List ℕ) → Ends (41 ∷ cs)
ends_close cs = ((omega arith, refl, refl), (omega arith, refl, refl), (omega arith, refl, refl))

pub ends_comma : (cs : List ℕ) → Ends (44 ∷ cs)
ends_comma cs = ((omega arith, refl, refl), (omega arith, refl, refl), (omega arith, refl, refl))

after_open : (cs : List ℕ) → AfterWord (40 ∷ cs)
after_open cs = (omega arith, refl, refl)

-- a word between blanks
pub spaced_s : (w rest : List ℕ) (us : List Tok) → IsWord w → Spelt rest us → Spelt (32 ∷ (w ++ 32 ∷ rest)) (tok.Word w ∷ us)
spaced_s w rest us h k = space_s (word_s w (32 ∷ rest) h (ends_space rest).0 (space_s k))

bool_s : (b : Bool) (rest : List ℕ) (us : List Tok) → Ends rest → Spelt rest us → Spelt (bool_text b ++ rest) (tok.Word (bool_text b) ∷ us)
bool_s true rest us e k = word_s (codes "true") rest (refl, (refl, (refl, inl refl))) e.0 k
bool_s false rest us e k = word_s (codes "false") rest (refl, (refl, (refl, (refl, inl refl)))) e.0 k

pub count_s : (n : ℤ) (rest : List ℕ) (us : List Tok) → IsCount n → AfterNumber rest → Spelt rest us → Spelt (signed_decimal n ++ rest) (tok.Num n ∷ us)
count_s (pos n) rest us h e k = number_s n h e k
count_s (negsuc n) rest us h e k = absurd h

pub field_s : (n : List ℕ) (o : Bool) (rest : List ℕ) (us : List Tok) → IsName n → Ends rest → Spelt rest us → Spelt (field_shown n o rest) (field_toks n o us)
field_s n false rest us h e k = back_s n h e.2 k
field_s n true rest us h e k = question_s (back_s n h e.2 k)

pat_s : (o : PatOp) (rest : List ℕ) (us : List Tok) → Spelt rest us → Spelt (pat_text o ++ rest) (pat_tok o ∷ us)
pat_s pat.Colon rest us k = colon_s k
pat_s pat.Like rest us k = spaced_s (codes "like") rest us (refl, (refl, (refl, inl refl))) k
pat_s pat.LikeFold rest us k = spaced_s (codes "like~") rest us (refl, (refl, (refl, (refl, inr refl)))) k

pat_ends : (o : PatOp) (rest : List ℕ) → Ends (pat_text o ++ rest)
pat_ends pat.Colon rest = ends_space []
pat_ends pat.Like rest = ends_space []
pat_ends pat.LikeFold rest = ends_space []

cmp_ends : (o : CmpOp) (rest : List ℕ) → Ends (cmp_text o ++ rest)
cmp_ends cmp.Lt rest = ends_space []
cmp_ends cmp.Le rest = ends_space []
cmp_ends cmp.Eq rest = ends_space []
cmp_ends cmp.Ne rest = ends_space []
cmp_ends cmp.Ge rest = ends_space []
cmp_ends cmp.Gt rest = ends_space []

math_ends : (o : MathOp) (rest : List ℕ) → Ends (math_text o ++ rest)
math_ends math.Add rest = ends_space []
math_ends math.Sub rest = ends_space []
math_ends math.Mul rest = ends_space []
math_ends math.Div rest = ends_space []
math_ends math.Mod rest = ends_space []

in_s : (w rest : List ℕ) (us : List Tok) → IsWord w → Spelt rest us → Spelt (32 ∷ (w ++ 32 ∷ 40 ∷ rest)) (tok.Word w ∷ open_tok ∷ us)
in_s w rest us h k = spaced_s w (40 ∷ rest) (open_tok ∷ us) h (open_s k)

member_s : (f n : Bool) (rest : List ℕ) (us : List Tok) → Spelt rest us → Spelt (member_text f n ++ rest) (member_toks f n us)
member_s false false rest us k = in_s (codes "in") rest us (refl, inl refl) k
member_s true false rest us k = in_s (codes "in~") rest us (refl, (refl, inr refl)) k
member_s false true rest us k =
    space_s (word_s (codes "not") (32 ∷ (codes "in" ++ 32 ∷ 40 ∷ rest)) (refl, (refl, inl refl)) (ends_space []).0 (in_s (codes "in") rest us (refl, inl refl) k))
member_s true true rest us k =
    space_s (word_s (codes "not") (32 ∷ (codes "in~" ++ 32 ∷ 40 ∷ rest)) (refl, (refl, inl refl)) (ends_space []).0 (in_s (codes "in~") rest us (refl, (refl, inr refl)) k))

member_ends : (f n : Bool) (rest : List ℕ) → Ends (member_text f n ++ rest)
member_ends false false rest = ends_space []
member_ends true false rest = ends_space []
member_ends false true rest = ends_space []
member_ends true true rest = ends_space []

comma_space : (rest : List ℕ) (us : List Tok) → Spelt rest us → Spelt (codes ", " ++ rest) (comma_tok ∷ us)
comma_space rest us k = comma_s (space_s k)

texts_s : (ss : List (List ℕ)) (rest : List ℕ) (us : List Tok) → AreTexts ss → Ends rest → Spelt rest us → Spelt (texts_shown ss rest) (texts_toks ss us)
texts_s [] rest us h e k = k
texts_s (s ∷ []) rest us h e k = quoted_s s h.0 e.2 k
texts_s (s ∷ u ∷ ss) rest us h e k = quoted_s s h.0 (ends_comma []).2 (comma_space (texts_shown (u ∷ ss) rest) (texts_toks (u ∷ ss) us) (texts_s (u ∷ ss) rest us h.1 e k))

literal_s : (v : Value) (rest : List ℕ) (us : List Tok) → IsGoodLiteral v → Ends rest → Spelt rest us → Spelt (literal_shown v rest) (literal_toks v us)
literal_s (value.Bool b) rest us h e k = bool_s b rest us e k
literal_s (value.Long (pos n)) rest us h e k = number_s n h e.1 k
literal_s (value.Long (negsuc n)) rest us h e k = minus_s (number_s (suc n) h e.1 k)
literal_s (value.Text s) rest us h e k = quoted_s s h e.2 k
literal_s value.Null rest us h e k = absurd h
literal_s (value.Ip a) rest us h e k = absurd h

literals_s : (vs : List Value) (rest : List ℕ) (us : List Tok) → AreLiterals vs → Ends rest → Spelt rest us → Spelt (literals_shown vs rest) (literals_toks vs us)
literals_s [] rest us h e k = k
literals_s (v ∷ []) rest us h e k = literal_s v rest us h.0 e k
literals_s (v ∷ w ∷ vs) rest us h e k = literal_s v (codes ", " ++ literals_shown (w ∷ vs) rest) (comma_tok ∷ literals_toks (w ∷ vs) us) h.0 (ends_comma []) (comma_space (literals_shown (w ∷ vs) rest) (literals_toks (w ∷ vs) us) (literals_s (w ∷ vs) rest us h.1 e k))

abbrev pub joint_text : Joint → List ℕ
joint_text by_or = codes " or "
joint_text by_and = codes " and "
joint_text by_comma = codes ", "

joint_s : (j : Joint) (rest : List ℕ) (us : List Tok) → Spelt rest us → Spelt (joint_text j ++ rest) (joint_tok j ∷ us)
joint_s by_or rest us k = spaced_s (codes "or") rest us (refl, inl refl) k
joint_s by_and rest us k = spaced_s (codes "and") rest us (refl, (refl, inl refl)) k
joint_s by_comma rest us k = comma_space rest us k

joint_ends : (j : Joint) (rest : List ℕ) → Ends (joint_text j ++ rest)
joint_ends by_or rest = ends_space []
joint_ends by_and rest = ends_space []
joint_ends by_comma rest = ends_comma []

call_s : (f : Bool) (w rest : List ℕ) (es : Trees) (us : List Tok) → IsCalled f w → Spelt (all_shown (codes ", ") es (41 ∷ rest)) us → Spelt (tree_shown (t.call w f es) rest) (tok.Word (called f w) ∷ open_tok ∷ us)
call_s false w rest es us h k =
    subst (λ cs. Spelt cs (tok.Word w ∷ open_tok ∷ us)) (sym (append_assoc w (codes "(") (all_shown (codes ", ") es (41 ∷ rest))))
    (word_s w (40 ∷ all_shown (codes ", ") es (41 ∷ rest)) h.0 (after_open []) (open_s k))
call_s true w rest es us h k =
    subst (λ cs. Spelt cs (tok.Word (w ++ codes "~") ∷ open_tok ∷ us))
    (append_assoc w (codes "~") (40 ∷ all_shown (codes ", ") es (41 ∷ rest)) ∙ sym (append_assoc w (codes "~(") (all_shown (codes ", ") es (41 ∷ rest))))
    (word_s (w ++ codes "~") (40 ∷ all_shown (codes ", ") es (41 ∷ rest)) h.0 (after_open []) (open_s k))

mutual
  pub shown_s : (e : Tree) (rest : List ℕ) (us : List Tok) → Good e → Ends rest → Spelt rest us → Spelt (tree_shown e rest) (toks e us)
  shown_s t.null rest us h e k = word_s (codes "null") rest (refl, (refl, (refl, inl refl))) e.0 k
  shown_s (t.bool b) rest us h e k = bool_s b rest us e k
  shown_s (t.long n) rest us h e k = count_s n rest us h e.1 k
  shown_s (t.str s) rest us h e k = quoted_s s h e.2 k
  shown_s (t.field n o) rest us h e k = field_s n o rest us h e k
  shown_s (t.not a) rest us h e k =
      open_s (word_s (codes "not") (32 ∷ tree_shown a (41 ∷ rest)) (refl, (refl, inl refl)) (ends_space []).0
      (space_s (shown_s a (41 ∷ rest) (close_tok ∷ us) h (ends_close rest) (close_s k))))
  shown_s (t.and es) rest us h e k = open_s (all_s by_and es (41 ∷ rest) (close_tok ∷ us) h.1 (ends_close rest) (close_s k))
  shown_s (t.or es) rest us h e k = open_s (all_s by_or es (41 ∷ rest) (close_tok ∷ us) h.1 (ends_close rest) (close_s k))
  shown_s (t.cmp o a b) rest us h e k =
      open_s (shown_s a (cmp_text o ++ tree_shown b (41 ∷ rest)) (tok.Sign (cmp_sign o) ∷ toks b (close_tok ∷ us)) h.0 (cmp_ends o (tree_shown b (41 ∷ rest)))
      (cmp_s o (shown_s b (41 ∷ rest) (close_tok ∷ us) h.1 (ends_close rest) (close_s k))))
  shown_s (t.pattern o a []) rest us h e k = absurd h.1
  shown_s (t.pattern o a (s ∷ [])) rest us h e k =
      open_s (shown_s a (pat_text o ++ patterns_shown (s ∷ []) (41 ∷ rest)) (pat_tok o ∷ patterns_toks (s ∷ []) (close_tok ∷ us)) h.0 (pat_ends o (patterns_shown (s ∷ []) (41 ∷ rest)))
      (pat_s o (patterns_shown (s ∷ []) (41 ∷ rest)) (patterns_toks (s ∷ []) (close_tok ∷ us)) (quoted_s s h.2.0 (ends_close rest).2 (close_s k))))
  shown_s (t.pattern o a (s ∷ u ∷ ss)) rest us h e k =
      open_s (shown_s a (pat_text o ++ patterns_shown (s ∷ u ∷ ss) (41 ∷ rest)) (pat_tok o ∷ patterns_toks (s ∷ u ∷ ss) (close_tok ∷ us)) h.0 (pat_ends o (patterns_shown (s ∷ u ∷ ss) (41 ∷ rest)))
      (pat_s o (patterns_shown (s ∷ u ∷ ss) (41 ∷ rest)) (patterns_toks (s ∷ u ∷ ss) (close_tok ∷ us)) (open_s (texts_s (s ∷ u ∷ ss) (41 ∷ 41 ∷ rest) (close_tok ∷ close_tok ∷ us) h.2 (ends_close []) (close_s (close_s k))))))
  shown_s (t.member f n a vs) rest us h e k =
      open_s (shown_s a (member_text f n ++ literals_shown vs (41 ∷ 41 ∷ rest)) (member_toks f n (literals_toks vs (close_tok ∷ close_tok ∷ us))) h.0 (member_ends f n (literals_shown vs (41 ∷ 41 ∷ rest)))
      (member_s f n (literals_shown vs (41 ∷ 41 ∷ rest)) (literals_toks vs (close_tok ∷ close_tok ∷ us)) (literals_s vs (41 ∷ 41 ∷ rest) (close_tok ∷ close_tok ∷ us) h.2 (ends_close []) (close_s (close_s k)))))
  shown_s (t.neg a) rest us h e k = open_s (minus_s (shown_s a (41 ∷ rest) (close_tok ∷ us) h (ends_close rest) (close_s k)))
  shown_s (t.math o a b) rest us h e k =
      open_s (shown_s a (math_text o ++ tree_shown b (41 ∷ rest)) (tok.Sign (math_sign o) ∷ toks b (close_tok ∷ us)) h.0 (math_ends o (tree_shown b (41 ∷ rest)))
      (math_s o (shown_s b (41 ∷ rest) (close_tok ∷ us) h.1 (ends_close rest) (close_s k))))
  shown_s (t.call w f es) rest us h e k = call_s f w rest es (all_toks by_comma es (close_tok ∷ us)) h.0 (all_s by_comma es (41 ∷ rest) (close_tok ∷ us) h.2 (ends_close rest) (close_s k))

  all_s : (j : Joint) (es : Trees) (rest : List ℕ) (us : List Tok) → AllGood es → Ends rest → Spelt rest us → Spelt (all_shown (joint_text j) es rest) (all_toks j es us)
  all_s j none rest us h e k = k
  all_s j (more a none) rest us h e k = shown_s a rest us h.0 e k
  all_s j (more a (more b es)) rest us h e k =
      shown_s a (joint_text j ++ all_shown (joint_text j) (more b es) rest) (joint_tok j ∷ all_toks j (more b es) us) h.0 (joint_ends j (all_shown (joint_text j) (more b es) rest)) (joint_s j (all_shown (joint_text j) (more b es) rest) (all_toks j (more b es) us) (all_s j (more b es) rest us h.1 e k))
