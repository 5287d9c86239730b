-- Where the descent stops at a left-out form, no limit is passed anywhere in the tokens.
use Rattle.std.proofs.Common.{◌≡◌, ℕ, zero, suc, ◌<◌, ◌⊎◌, inl, inr, List, [], ◌∷◌, ◌++◌, length, Ok, Err, refl, sym, ap, subst, ◌∙◌, codes, arith, append_assoc, append-nil}
use Rattle.eql_lexer.specs.declared.token.Token.{Token}
use Rattle.eql_query.specs.QueryTree.{QueryTree}
use Rattle.eql_parser.specs.Kinds.{Kind, kinds, name, folding, open_}
use Rattle.eql_parser.specs.QueryGrammar.{Reads}
use Rattle.eql_parser.specs.Limits.{open_behind, FewAreOpen}
use Rattle.eql_parser.specs.Refusing.{Begins, IsNewTo, BeginsWithin, IsDeeperThan, through, IsLeftOut, samples, joins, missing_event, regex, folding_regex, fine_unit, other_pipe, number_with_base, IsTooDeep}
use Rattle.eql_parser.specs.Reading.{Fail, Syntax, LeftOut, TooDeep, TooOpen, Res}
use Rattle.eql_parser.specs.QueryReading.{query}
use Rattle.eql_parser.proofs.Sound.{query_sound}
use Rattle.eql_parser.proofs.Told.{Told, Because}
use Rattle.eql_parser.proofs.Agrees.{Passes, deep_passes}
use Rattle.eql_parser.proofs.New.{new_front, above_all, above_new}
use Rattle.eql_parser.proofs.Complete.{but_levels}
use Rattle.eql_parser.proofs.Local.{query_stops}
use Rattle.eql_parser.proofs.Opened.{told_of, opens_at_most, few_upto}
use Rattle.eql_parser.proofs.StartsQuery.{begun}
use Rattle.eql_parser.proofs.EndingQuery.{ended}
use Rattle.eql_parser.proofs.Causes.{kinds_both, none_begins, left_out_stops, stops_none}

-- a list that begins so goes on like this
abbrev pub IsFront : List Kind → List Kind → Type 0
IsFront front all = (more : List Kind) × (all ≡ front ++ more)

abbrev pub PassesLimit : List Kind → Type 0
PassesLimit front = (128 < open_behind 0 front) ⊎ IsDeeperThan 64 front

-- no limit is passed in tokens that begin at most 64 levels
pub none_passed : (front all : List Kind) → IsFront front all → PassesLimit front → BeginsWithin 64 all → FewAreOpen 128 all → ⊥
none_passed front all f (inl over) b few = omega (arith, over, few front f.0 f.1)
none_passed front all f (inr deep) b few =
    let more = deep b.unbegun (new_front b.unbegun front f.0 (subst (IsNewTo b.unbegun) f.1 b.new)) (f.0 ++ b.rest) b.query (subst (λ l. Reads l b.query) (ap (λ l. l ++ b.rest) f.1 ∙ append_assoc front f.0 b.rest) b.reads) in
    omega (arith, more, b.few)

-- a left-out form, with more tokens behind it
more_behind : (before from more : List Kind) (word : List ℕ) (instead : List Kind) → IsLeftOut before from word instead → IsLeftOut before (from ++ more) word instead
more_behind _ _ more _ _ samples = samples
more_behind _ _ more _ _ joins = joins
more_behind _ _ more _ _ missing_event = missing_event
more_behind _ _ more _ _ regex = regex
more_behind _ _ more _ _ folding_regex = folding_regex
more_behind _ _ more _ _ (fine_unit front n cut f) = fine_unit front n cut f
more_behind _ _ more _ _ (other_pipe front cut f) = other_pipe front cut f
more_behind before _ more _ _ (number_with_base {w = w} call rest e args) =
    subst (λ l. IsLeftOut before (name w ∷ open_ ∷ l) (codes "number") (folding w ∷ open_ ∷ call)) (sym (append_assoc call rest more)) (number_with_base call (rest ++ more) e args)

no_token : (l : List Kind) → length l ≡ 0 → l ≡ []
no_token [] h = refl
no_token (k ∷ l) h = absurd (omega (arith, h))

-- the tokens before a place where no query goes on
stuck_in : (front behind rest : List Kind) (n : ℕ) (q : QueryTree) → query (front ++ behind) ≡ Err (Syntax (suc n)) → length behind ≡ suc n → Reads ((front ++ behind) ++ rest) q → ⊥
stuck_in front [] rest n q h c reads = absurd (omega (arith, c))
stuck_in front (k ∷ behind) rest n q h c reads =
    let cut : front ++ k ∷ behind ≡ (front ++ k ∷ []) ++ behind = sym (append_assoc front (k ∷ []) behind) in
    none_begins (front ++ k ∷ []) behind (suc n) (ap query (sym cut) ∙ h) (omega (arith, c)) (behind ++ rest) q
    (subst (λ l. Reads l q) (ap (λ l. l ++ rest) cut ∙ append_assoc (front ++ k ∷ []) behind rest) reads)

passes_no : (r : Res QueryTree) (w : List ℕ) (n : ℕ) → r ≡ Err (LeftOut w n) → Passes r → ⊥
passes_no r w n h k = subst Passes h k

-- The tokens up to a place, at which a limit is passed, and those behind it.
module _ (m y : List Kind) (w : List ℕ) (n : ℕ) (left_out : query (m ++ y) ≡ Err (LeftOut w n)) (begins : Begins m) (passed : PassesLimit m) where
  whole_front : IsFront m m
  whole_front = ([], sym (append-nil m))

  told_there : (e : Fail) → query m ≡ Err e → Because 128 m e
  told_there e h = subst (λ r. Told 128 m r) h (told_of m)

  -- what the descent returns for the tokens up to the place
  by_answer : (r : Res QueryTree) → query m ≡ r → ⊥
  by_answer (Ok p) h =
      let sound = query_sound m p.0 p.1 h in
      let within : BeginsWithin 64 m =
      record {
        unbegun = above_all m;
        new = above_new m;
        rest = [];
        query = p.0;
        reads = subst (λ l. Reads l p.0) (sym (append-nil m)) sound.0;
        few = omega (arith, sound.2, but_levels (above_all m) p.0);
      } in
      none_passed m m whole_front passed within (opens_at_most m p.0 p.1 h)
  by_answer (Err (Syntax zero)) h =
      let b = ended m (Syntax 0) h in
      let u = few_upto m (Syntax 0) h in
      let all : u.0 ≡ m = sym (u.2 ∙ ap (λ l. u.0 ++ l) (no_token u.1 u.3) ∙ append-nil u.0) in
      let whole : b.front ≡ m = sym (b.cut ∙ ap (λ l. b.front ++ l) (no_token b.behind b.count) ∙ append-nil b.front) in
      none_passed m m whole_front passed (subst (BeginsWithin 64) whole b.begins) (subst (FewAreOpen 128) all u.4)
  by_answer (Err (Syntax (suc k))) h =
      let b = ended m (Syntax (suc k)) h in
      stuck_in b.front b.behind begins.rest k begins.query (ap query (sym b.cut) ∙ h) b.count (subst (λ l. Reads (l ++ begins.rest) begins.query) b.cut begins.reads)
  by_answer (Err (LeftOut v k)) h =
      let b = begun m (LeftOut v k) h in
      stops_none (b.front ++ (b.behind ++ begins.rest)) (LeftOut v (length (b.behind ++ begins.rest)))
      (left_out_stops b.front (b.behind ++ begins.rest) v b.follows (more_behind b.front b.behind begins.rest v b.follows b.why) b.begins) begins.query
      (subst (λ l. Reads l begins.query) (ap (λ l. l ++ begins.rest) b.cut ∙ append_assoc b.front b.behind begins.rest) begins.reads)
  by_answer (Err (TooDeep k)) h =
      let place = told_there (TooDeep k) h in
      passes_no (query (m ++ y)) w n left_out
      (deep_passes y (query (m ++ y)) (query_stops (Unit {0}) [] y 128 128 64 m (TooDeep k) (omega arith, λ e. refl) (ap query (append-nil m) ∙ h) (omega (arith, place.0))))
  by_answer (Err (TooOpen k)) h =
      let place = told_there (TooOpen k) h in
      passes_no (query (m ++ y)) w n left_out (query_stops (Unit {0}) [] y 128 128 64 m (TooOpen k) (omega arith, λ e. refl) (ap query (append-nil m) ∙ h) (omega (arith, place.3)) tt)

pub unpassed : (tokens : List Token) (w : List ℕ) (n : ℕ) → query (kinds tokens) ≡ Err (LeftOut w n) → (there : ℕ) → IsTooDeep tokens there → ⊥
unpassed tokens w n h there (s, b, within, few, passed) =
    let cut : kinds tokens ≡ through s ++ kinds s.behind = ap kinds s.whole ∙ kinds_both s.before (s.here ∷ s.behind) ∙ sym (append_assoc (kinds s.before) (kinds (s.here ∷ [])) (kinds s.behind)) in
    by_answer (through s) (kinds s.behind) w n (ap query (sym cut) ∙ h) b passed (query (through s)) refl
