-- What the files of a command are is determined: a text has one list of tokens or none, tokens are one query or none.
use Rattle.std.proofs.Common.{◌≡◌, ℕ, List, [], ◌∷◌, Some, None, refl, ap, ap₂, sym, arith, ◌∙◌, subst}
use Rattle.std.specs.Prelude.{cond, is_none, Ok, Err, Result}
use Rattle.std.proofs.lemmas.Option.{same_Some, none-some}
use Rattle.eql_values.specs.declared.value.Kind.{Kind as FieldKind}
use Rattle.eql_outside.specs.Outside.{file_named}
use Rattle.eql_lexer.specs.declared.token.Token.{Token}
use Rattle.eql_lexer.specs.declared.refusal.Rule.{Rule}
use Rattle.eql_lexer.specs.declared.refusal.LexRefused.{LexRefused}
use Rattle.eql_lexer.specs.Spelling.{Spells}
use Rattle.eql_lexer.specs.Refusing.{BreaksAt, refusal_of}
use Rattle.eql_parser.specs.declared.refusal.ParseRefused.{ParseRefused}
use Rattle.eql_query.specs.QueryTree.{QueryTree}
use Rattle.eql_parser.specs.QueryGrammar.{IsQuery}
use Rattle.eql_parser.specs.Refusing.{RefusesTokens, IsMemory}
use Rattle.eql_parser.proofs.Refusals.{memory_alone}
use Rattle.eql_check.specs.declared.mapping.MapRefused.{MapRefused}
use Rattle.eql_check.specs.Mappings.{mapping_of}
use Rattle.eql_check.specs.Typing.{CheckIsExact}
use Rattle.eql_runs.specs.Files.{Files, first_missing, HasTokens, HasNoTokens, too_long, not_utf8, breaks, ReadsAs, IsNotRead, HasQueryTokens, HasQuery, HasMapping, HasTexts}

-- the laws of tokens, queries and checks on which the causes rest
pub record QueryLaws : Type 0 where
  pub one_list : (text : List ℕ) (ts us : List Token) → Spells text ts → Spells text us → ts ≡ us
  pub none_spelled : (text : List ℕ) (r : Rule) (at : ℕ) (us : List Token) → BreaksAt text r at → Spells text us → ⊥
  pub one_break : (text : List ℕ) (r s : Rule) (at to : ℕ) → BreaksAt text r at → BreaksAt text s to → (r ≡ s) × (at ≡ to)
  pub one_query : (tokens : List Token) (p q : QueryTree) → IsQuery tokens p → IsQuery tokens q → p ≡ q
  pub one_refusal : (tokens : List Token) (r s : ParseRefused) → (IsMemory r → ⊥) → (IsMemory s → ⊥) → RefusesTokens tokens r
      → RefusesTokens tokens s → r ≡ s
  pub exact : CheckIsExact

-- a file has one text
pub one_text : (name : List ℕ) (files : Files) (text other : List ℕ) → file_named name files ≡ Some text
    → file_named name files ≡ Some other → text ≡ other
one_text name files text other a b = same_Some text other (sym a ∙ b)

pub missing_text : (name : List ℕ) (files : Files) (text : List ℕ) → file_named name files ≡ None
    → file_named name files ≡ Some text → ⊥
missing_text name files text none there = none-some text (sym none ∙ there)

-- a text has tokens, or none for one cause
pub has_or_not : (laws : QueryLaws) (text : List ℕ) (r : LexRefused) (ts : List Token) → HasNoTokens text r
    → HasTokens text ts → ⊥
has_or_not laws text _ ts (too_long long) has = omega (arith, long, has.short)
has_or_not laws text _ ts (not_utf8 short denied) has = denied has.utf8
has_or_not laws text _ ts (breaks short utf8 rule at b) has = laws.none_spelled text rule at ts b has.spells

pub one_cause : (laws : QueryLaws) (text : List ℕ) (r s : LexRefused) → HasNoTokens text r → HasNoTokens text s → r ≡ s
one_cause laws text _ _ (too_long long) (too_long more) = refl
one_cause laws text _ _ (too_long long) (not_utf8 short denied) = absurd (omega (arith, long, short))
one_cause laws text _ _ (too_long long) (breaks short utf8 rule at b) = absurd (omega (arith, long, short))
one_cause laws text _ _ (not_utf8 short denied) (too_long long) = absurd (omega (arith, long, short))
one_cause laws text _ _ (not_utf8 short denied) (not_utf8 few none) = refl
one_cause laws text _ _ (not_utf8 short denied) (breaks few utf8 rule at b) = absurd (denied utf8)
one_cause laws text _ _ (breaks short utf8 rule at b) (too_long long) = absurd (omega (arith, long, short))
one_cause laws text _ _ (breaks short utf8 rule at b) (not_utf8 few denied) = absurd (denied utf8)
one_cause laws text _ _ (breaks short utf8 rule at b) (breaks few utf other to d) =
    let one = laws.one_break text rule other at to b d in
    ap (λ x. refusal_of x at) one.0 ∙ ap (λ n. refusal_of other n) one.1

-- tokens are a query within the limits, or they aren't
pub read_or_not : (tokens : List Token) (q : QueryTree) (r : ParseRefused) → ReadsAs tokens q → IsNotRead tokens r → ⊥
read_or_not tokens q r read (h, denied) = denied (memory_alone tokens q r read.is_query read.shallow read.few_open h)

-- two refusals of tokens are the same
pub agree : (laws : QueryLaws) (tokens : List Token) (r s : ParseRefused) → IsNotRead tokens r → IsNotRead tokens s → r ≡ s
agree laws tokens r s a b = laws.one_refusal tokens r s a.1 b.1 a.0 b.0

-- the query file has one list of tokens and is one query
pub one_tokens : (laws : QueryLaws) (name : List ℕ) (files : Files) (ts us : List Token)
    → HasQueryTokens name files ts → HasQueryTokens name files us → ts ≡ us
one_tokens laws name files ts us a b =
    laws.one_list b.text ts us
    (subst (λ (x : List ℕ). Spells x ts) (one_text name files a.text b.text a.there b.there) a.has.spells) b.has.spells

pub one_query : (laws : QueryLaws) (name : List ℕ) (files : Files) (p q : QueryTree) → HasQuery name files p
    → HasQuery name files q → p ≡ q
one_query laws name files p q a b =
    let same : a.tokens ≡ b.tokens = one_tokens laws name files a.tokens b.tokens a.spelled b.spelled in
    laws.one_query b.tokens p q (subst (λ (x : List Token). IsQuery x p) same a.read.is_query) b.read.is_query

-- a text is one mapping, or none for one cause
abbrev pub mapping_or : List (List ℕ × FieldKind) → Result (List (List ℕ × FieldKind)) MapRefused → List (List ℕ × FieldKind)
mapping_or d (Ok mapping) = mapping
mapping_or d (Err refused) = d

abbrev refused_or : MapRefused → Result (List (List ℕ × FieldKind)) MapRefused → MapRefused
refused_or d (Ok mapping) = d
refused_or d (Err refused) = refused

abbrev is_err : Result (List (List ℕ × FieldKind)) MapRefused → ℕ
is_err (Ok mapping) = 0
is_err (Err refused) = 1

pub one_mapping : (name : List ℕ) (files : Files) (ms ns : List (List ℕ × FieldKind)) → HasMapping name files ms
    → HasMapping name files ns → ms ≡ ns
one_mapping name files ms ns a b =
    ap (mapping_or ms)
    (sym a.is_mapping ∙ ap mapping_of (one_text name files a.text b.text a.there b.there) ∙ b.is_mapping)

pub one_bad_mapping : (name : List ℕ) (files : Files) (text other : List ℕ) (r s : MapRefused)
    → file_named name files ≡ Some text → mapping_of text ≡ Err r → file_named name files ≡ Some other
    → mapping_of other ≡ Err s → r ≡ s
one_bad_mapping name files text other r s a bad b worse =
    ap (refused_or r) (sym bad ∙ ap mapping_of (one_text name files text other a b) ∙ worse)

pub mapping_or_not : (name : List ℕ) (files : Files) (ms : List (List ℕ × FieldKind)) (text : List ℕ) (r : MapRefused)
    → HasMapping name files ms → file_named name files ≡ Some text → mapping_of text ≡ Err r → ⊥
mapping_or_not name files ms text r has there bad =
    let e : 0 ≡ 1 = ap is_err (sym has.is_mapping ∙ ap mapping_of (one_text name files has.text text has.there there) ∙ bad) in
    omega (arith, e)

-- shards have one list of texts, and then none is missing
pub one_texts : (names : List (List ℕ)) (files : Files) (ts us : List (List ℕ)) → HasTexts names files ts
    → HasTexts names files us → ts ≡ us
one_texts [] files [] [] a b = refl
one_texts [] files [] (u ∷ us) a b = elim b [ ]
one_texts [] files (t ∷ ts) us a b = elim a [ ]
one_texts (n ∷ ns) files [] us a b = elim a [ ]
one_texts (n ∷ ns) files (t ∷ ts) [] a b = elim b [ ]
one_texts (n ∷ ns) files (t ∷ ts) (u ∷ us) a b =
    ap₂ (λ x xs. x ∷ xs) (one_text n files t u a.0 b.0) (one_texts ns files ts us a.1 b.1)

pub none_missing : (names : List (List ℕ)) (files : Files) (texts : List (List ℕ)) → HasTexts names files texts
    → first_missing files names ≡ None
none_missing [] files [] has = refl
none_missing [] files (t ∷ ts) has = elim has [ ]
none_missing (n ∷ ns) files [] has = elim has [ ]
none_missing (n ∷ ns) files (t ∷ ts) has =
    ap (λ o. cond (is_none o) (Some n) (first_missing files ns)) has.0 ∙ none_missing ns files ts has.1
