-- The items of a reader that are made of those of a query.
use Rattle.std.proofs.Common.{◌≡◌, ◌<◌, ◌≤◌, ℕ, zero, suc, ◌+◌, Bool, true, false, List, [], ◌∷◌, ◌++◌, map, length, take, get_or, Some, None, refl, ap, sym, subst, ◌∙◌, arith}
use Rattle.std.specs.Prelude.{not, ◌&&◌, ◌||◌, if◌then◌else◌, replicate, min, ◌^◌, ◌-◌}
use Rattle.std.specs.List.{flat_map, list_all}
use Rattle.std.specs.Option.{option_map}
use Rattle.std.proofs.lemmas.Bool.{and_parts, and_from, leb-true, le-leb}
use Rattle.std.proofs.lemmas.Grind.{flat_map-append}
use Rattle.std.proofs.lemmas.List.Sums.{sum_by-cons, sum_by_push}
use Rattle.std.proofs.lemmas.List.{map-append, append-nil, length-append, length-replicate, take_more}
use Rattle.eql_values.specs.declared.value.Value.{Value}
use Rattle.eql_values.specs.declared.value.Kind.{Kind}
use Rattle.eql_values.specs.declared.item.Mask.{Mask}
use Rattle.eql_query.specs.declared.expr.FieldRef.{FieldRef}
use Rattle.eql_query.specs.declared.query.Term.{Term}
use Rattle.eql_query.specs.QueryTree.{TermTree, term_tree}
use Rattle.eql_check.specs.Rules.{has_runs}
use Rattle.eql_check.specs.Comparisons.{is_null}
use Rattle.eql_check.specs.ThreeValued.{is_true}
use Rattle.eql_check.specs.Truth.{value_at, means}
use Rattle.eql_code.specs.Stack.{gives}
use Rattle.eql_stages.specs.Given.{Given, routes_by}
use Rattle.eql_stages.specs.Stages.{Stage, has_category, key_of, key_at, count_of, stage_of, item_stages, stages_in, until_in}
use Rattle.eql_stages.specs.Keys.{key_by, values_of, is_given}
use Rattle.eql_stages.specs.Matching.{matched_key, given_by, stages_of, said_to, is_within, Reader, reads_by}
use Rattle.eql_stages.specs.Planned.{Planned, wanted_of, got_of, line_of}
use Rattle.eql_lines.specs.Reading.{line_read}
use Rattle.eql_stages.specs.Compiling.{key_field, MatchesStage, MatchStages, MatchesUntil}
use Rattle.eql_stages.specs.declared.matcher.ItemMatcher.{ItemMatcher}
use Rattle.eql_stages.proofs.Fits.{append-all}
use Rattle.eql_stages.proofs.Saying.{said-item, said-none, said-until}

one_key : (b o t : Bool) (v : Value) (vs : List Value)
    → (if (not b || o) && t then Some (v ∷ vs) else None) ≡ (if b && not o then None else option_map (λ (key : List Value). v ∷ key) (if t then Some vs else None))
one_key true true true v vs = refl
one_key true true false v vs = refl
one_key true false true v vs = refl
one_key true false false v vs = refl
one_key false true true v vs = refl
one_key false true false v vs = refl
one_key false false true v vs = refl
one_key false false false v vs = refl

-- the key of the slots is that of the key fields
pub keys_made : (fields : List (List ℕ × Kind)) (categories : List (List ℕ)) (slots : List Value) (keys : List FieldRef)
    → key_by slots (map (key_field fields) keys) ≡ key_of fields categories slots keys
keys_made fields categories slots [] = refl
keys_made fields categories slots (key ∷ keys) =
    one_key (is_null (value_at fields slots key.name)) key.optional (list_all (is_given slots) (map (key_field fields) keys))
    (value_at fields slots key.name) (values_of slots (map (key_field fields) keys))
    ∙ ap (λ (g : Given). if is_null (value_at fields slots key.name) && not key.optional then None
    else option_map (λ (key' : List Value). value_at fields slots key.name ∷ key') g) (keys_made fields categories slots keys)

-- an item of the stage's category, condition and keys judges as the stage does
pub matcher_made : (fields : List (List ℕ × Kind)) (stage : Stage) (matcher : ItemMatcher) → matcher.category ≡ stage.term.category
    → ((slots : List Value) → gives matcher.code slots ≡ means (value_at fields slots) stage.term.cond)
    → matcher.keys ≡ map (key_field fields) stage.keys → MatchesStage fields stage matcher
matcher_made fields stage matcher category code keys = record {
  same = λ categories slots.
      let key : key_by slots matcher.keys ≡ key_of fields categories slots stage.keys =
      ap (key_by slots) keys ∙ keys_made fields categories slots stage.keys in
      (λ i. if has_category categories (category i) && is_true (code slots i) then key i else None);
}

map-replicate : {A B : Type 0} (f : A → B) (n : ℕ) (x : A) → map f (replicate n x) ≡ replicate n (f x)
map-replicate f zero x = refl
map-replicate f (suc n) x = ap (λ l. f x ∷ l) (map-replicate f n x)

-- one item more stands for as many stages more
pub one_matcher_more : (fields : List (List ℕ × Kind)) (stages : List Stage) (stage : Stage) (n : ℕ) (matchers : List ItemMatcher) (matcher : ItemMatcher)
    → MatchStages fields stages matchers → MatchesStage fields stage matcher → matcher.runs ≡ n
    → MatchStages fields (stages ++ replicate n stage) (matchers ++ matcher ∷ [])
one_matcher_more fields stages stage n matchers matcher all one runs = record {
  same = λ categories slots.
      flat_map-append (λ (j : ItemMatcher). replicate j.runs (matched_key categories slots j)) matchers (matcher ∷ [])
      ∙ (λ i. all.same categories slots i ++ append-nil (replicate (runs i) (one.same categories slots i)) i)
      ∙ ap (λ (l : List Given). map (key_at fields categories slots) stages ++ l) (sym (map-replicate (key_at fields categories slots) n stage))
      ∙ sym (map-append (key_at fields categories slots) stages (replicate n stage));
  count =
      let more : stages_of (matchers ++ matcher ∷ []) ≡ stages_of matchers + matcher.runs = sum_by_push (λ (j : ItemMatcher). j.runs) matchers matcher in
      let old = all.count in
      let new = length-append stages (replicate n stage) in
      let some = length-replicate n stage in
      omega arith;
}

-- the same at an item of a query
pub one_term_more : (fields : List (List ℕ × Kind)) (shared : List FieldRef) (terms : List TermTree) (term : TermTree) (matchers : List ItemMatcher)
    (matcher : ItemMatcher) → MatchStages fields (flat_map (item_stages shared) terms) matchers → MatchesStage fields (stage_of shared term) matcher
    → matcher.runs ≡ count_of term.runs → MatchStages fields (flat_map (item_stages shared) (terms ++ term ∷ [])) (matchers ++ matcher ∷ [])
one_term_more fields shared terms term matchers matcher all one runs =
    let is : flat_map (item_stages shared) (terms ++ term ∷ []) ≡ flat_map (item_stages shared) terms ++ item_stages shared term =
    flat_map-append (item_stages shared) terms (term ∷ []) ∙ ap (λ (l : List Stage). flat_map (item_stages shared) terms ++ l) (append-nil (item_stages shared term)) in
    subst (λ (l : List Stage). MatchStages fields l (matchers ++ matcher ∷ [])) (sym is)
    (one_matcher_more fields (flat_map (item_stages shared) terms) (stage_of shared term) (count_of term.runs) matchers matcher all one runs)

pub length-given : (categories : List (List ℕ)) (slots : List Value) (matchers : List ItemMatcher) → length (given_by categories slots matchers) ≡ stages_of matchers
length-given categories slots [] = refl
length-given categories slots (matcher ∷ matchers) =
    let rest = length-given categories slots matchers in
    let whole : stages_of (matcher ∷ matchers) ≡ matcher.runs + stages_of matchers = sum_by-cons (λ (j : ItemMatcher). j.runs) matcher matchers in
    let both : length (given_by categories slots (matcher ∷ matchers)) ≡ length (replicate matcher.runs (matched_key categories slots matcher)) + length (given_by categories slots matchers) =
    length-append (replicate matcher.runs (matched_key categories slots matcher)) (given_by categories slots matchers) in
    let some = length-replicate matcher.runs (matched_key categories slots matcher) in
    omega arith

-- what an item's stages are given is said to its key
said_more : (given : List Given) (one : Given) (p n : ℕ) (mask : Mask) → length given ≡ p
    → mask.low ≡ 2 ^ min (p + suc n) 128 - 2 ^ min p 128 → mask.high ≡ 2 ^ (p + suc n - 128) - 2 ^ (p - 128)
    → said_to one mask false (routes_by given None) ≡ routes_by (given ++ replicate (suc n) one) None
said_more given None p n mask len low high = sym (said-none given (suc n))
said_more given (Some key) p n mask len low high = said-item given key p n mask len low high

pub said_matcher : (categories : List (List ℕ)) (slots : List Value) (matchers : List ItemMatcher) (matcher : ItemMatcher) (p r : ℕ) (mask : Mask)
    → stages_of matchers ≡ p → matcher.runs ≡ r → 1 ≤ r
    → mask.low ≡ 2 ^ min (p + r) 128 - 2 ^ min p 128 → mask.high ≡ 2 ^ (p + r - 128) - 2 ^ (p - 128)
    → said_to (matched_key categories slots matcher) mask false (routes_by (given_by categories slots matchers) None)
    ≡ routes_by (given_by categories slots (matchers ++ matcher ∷ [])) None
said_matcher categories slots matchers matcher p zero mask len runs some low high = absurd (omega arith)
said_matcher categories slots matchers matcher p (suc n) mask len runs some low high =
    said_more (given_by categories slots matchers) (matched_key categories slots matcher) p n mask (length-given categories slots matchers ∙ len) low high
    ∙ ap (λ (l : List Given). routes_by l None)
    (sym (flat_map-append (λ (j : ItemMatcher). replicate j.runs (matched_key categories slots j)) matchers (matcher ∷ [])
    ∙ (λ i. given_by categories slots matchers ++ append-nil (replicate (runs i) (matched_key categories slots matcher)) i)))

-- what lines give to a reader of a query's items is what they give to the query
pub reader_is : (reader : Reader) (planned : Planned) → reader.wanted ≡ wanted_of planned
    → MatchStages planned.fields (stages_in planned.query.body) reader.matchers
    → MatchesUntil planned.fields (until_in planned.query.body) reader.until
    → reads_by reader ≡ line_of planned
reader_is reader planned wanted matcher end =
    λ i shard line bytes.
    got_of (λ f. routes_by (matcher.same f.categories f.slots i) (end.same f.categories f.slots i)) shard line (line_read (wanted i) bytes)

take_within : (k : ℕ) (matchers : List ItemMatcher) → stages_of (take k matchers) ≤ stages_of matchers
take_within zero matchers = omega arith
take_within (suc k) [] = omega arith
take_within (suc k) (matcher ∷ matchers) =
    let rest = take_within k matchers in
    let whole : stages_of (matcher ∷ matchers) ≡ matcher.runs + stages_of matchers = sum_by-cons (λ (j : ItemMatcher). j.runs) matcher matchers in
    let part : stages_of (take (suc k) (matcher ∷ matchers)) ≡ matcher.runs + stages_of (take k matchers) = sum_by-cons (λ (j : ItemMatcher). j.runs) matcher (take k matchers) in
    omega arith

-- the items up to one, and it
pub items_on : (matchers : List ItemMatcher) (i : ℕ) (matcher : ItemMatcher) → i < length matchers → matcher ≡ get_or matchers i matcher
    → take (i + 1) matchers ≡ take i matchers ++ matcher ∷ []
items_on matchers i matcher h is = take_more matchers i matcher h ∙ (λ k. take i matchers ++ sym is k ∷ [])

-- the stages so far, and those of one item more, are no more than all
pub stages_on : (matchers : List ItemMatcher) (i : ℕ) (matcher : ItemMatcher) → i < length matchers → matcher ≡ get_or matchers i matcher
    → (stages_of (take (i + 1) matchers) ≡ stages_of (take i matchers) + matcher.runs) × (stages_of (take i matchers) + matcher.runs ≤ stages_of matchers)
stages_on matchers i matcher h is =
    let more : stages_of (take (i + 1) matchers) ≡ stages_of (take i matchers) + matcher.runs =
    ap stages_of (items_on matchers i matcher h is) ∙ sum_by_push (λ (j : ItemMatcher). j.runs) (take i matchers) matcher in
    let most = take_within (i + 1) matchers in
    (more, omega arith)

-- what holds of all items holds of each
pub one_of_all : (p : ItemMatcher → Bool) (matchers : List ItemMatcher) (i : ℕ) (matcher : ItemMatcher) → list_all p matchers ≡ true → i < length matchers
    → matcher ≡ get_or matchers i matcher → p matcher ≡ true
one_of_all p [] i matcher all h is = absurd (omega arith)
one_of_all p (j ∷ matchers) zero matcher all h is = ap p is ∙ (and_parts (p j) (list_all p matchers) all).0
one_of_all p (j ∷ matchers) (suc i) matcher all h is = one_of_all p matchers i matcher (and_parts (p j) (list_all p matchers) all).1 (omega arith) is

-- a stack that serves conditions serves them where it is deeper
pub deeper : (d e : ℕ) (matchers : List ItemMatcher) → d ≤ e → list_all (is_within d) matchers ≡ true → list_all (is_within e) matchers ≡ true
deeper d e [] h all = refl
deeper d e (matcher ∷ matchers) h all =
    let both = and_parts (is_within d matcher) (list_all (is_within d) matchers) all in
    let low = leb-true matcher.code.1 d both.0 in
    and_from (is_within e matcher) (list_all (is_within e) matchers) (le-leb matcher.code.1 e (omega arith)) (deeper d e matchers h both.1)

pub one_deeper : (matchers : List ItemMatcher) (i : ℕ) (matcher : ItemMatcher) (d e : ℕ) → i < length matchers → matcher ≡ get_or matchers i matcher → d ≤ e
    → matcher.code.1 ≤ e → list_all (is_within d) (take i matchers) ≡ true → list_all (is_within e) (take (i + 1) matchers) ≡ true
one_deeper matchers i matcher d e h is less within all =
    ap (list_all (is_within e)) (items_on matchers i matcher h is)
    ∙ append-all (is_within e) (take i matchers) (matcher ∷ []) (deeper d e (take i matchers) less all)
    (and_from (is_within e matcher) true (le-leb matcher.code.1 e within) refl)

-- each item of a checked query has its runs
pub term_runs : (terms : List Term) (i : ℕ) (term : Term) → list_all has_runs (map term_tree terms) ≡ true → i < length terms
    → term ≡ get_or terms i term → has_runs (term_tree term) ≡ true
term_runs [] i term all h is = absurd (omega arith)
term_runs (t ∷ terms) zero term all h is = ap (λ (x : Term). has_runs (term_tree x)) is ∙ (and_parts (has_runs (term_tree t)) (list_all has_runs (map term_tree terms)) all).0
term_runs (t ∷ terms) (suc i) term all h is = term_runs terms i term (and_parts (has_runs (term_tree t)) (list_all has_runs (map term_tree terms)) all).1 (omega arith) is

-- the items so far, and one more
pub terms_on : (fields : List (List ℕ × Kind)) (shared : List FieldRef) (terms : List Term) (i : ℕ) (term : Term) (matchers after : List ItemMatcher)
    (matcher : ItemMatcher) → i < length terms → term ≡ get_or terms i term → after ≡ matchers ++ matcher ∷ []
    → MatchStages fields (flat_map (item_stages shared) (map term_tree (take i terms))) matchers
    → MatchesStage fields (stage_of shared (term_tree term)) matcher → matcher.runs ≡ count_of term.runs
    → MatchStages fields (flat_map (item_stages shared) (map term_tree (take (i + 1) terms))) after
terms_on fields shared terms i term matchers after matcher h is pushed all one runs =
    let more : map term_tree (take (i + 1) terms) ≡ map term_tree (take i terms) ++ term_tree term ∷ [] =
    ap (map term_tree) (take_more terms i term h ∙ (λ k. take i terms ++ sym is k ∷ [])) ∙ map-append term_tree (take i terms) (term ∷ []) in
    subst (λ (l : List TermTree). MatchStages fields (flat_map (item_stages shared) l) after) (sym more)
    (subst (MatchStages fields (flat_map (item_stages shared) (map term_tree (take i terms) ++ term_tree term ∷ []))) (sym pushed)
    (one_term_more fields shared (map term_tree (take i terms)) (term_tree term) matchers matcher all one runs))

pub each_on : (p : ItemMatcher → Bool) (matchers after : List ItemMatcher) (matcher : ItemMatcher) → after ≡ matchers ++ matcher ∷ [] → list_all p matchers ≡ true
    → p matcher ≡ true → list_all p after ≡ true
each_on p matchers after matcher pushed all one =
    ap (list_all p) pushed ∙ append-all p matchers (matcher ∷ []) all (and_from (p matcher) true one refl)

-- one stage
pub one_stage : (fields : List (List ℕ × Kind)) (stage : Stage) (matcher : ItemMatcher) (matchers : List ItemMatcher) → matchers ≡ matcher ∷ [] → MatchesStage fields stage matcher
    → matcher.runs ≡ 1 → MatchStages fields (stage ∷ []) matchers
one_stage fields stage matcher matchers is one runs =
    let none : MatchStages fields [] [] = record { same = λ categories slots. refl; count = refl } in
    subst (MatchStages fields (stage ∷ [])) (sym is) (one_matcher_more fields [] stage 1 [] matcher none one runs)

-- the end of a key is said to it, where the item gives one
pub said_end : (given : List Given) (one : Given) → said_to one (record { low = 0; high = 0 }) true (routes_by given None) ≡ routes_by given one
said_end given None = refl
said_end given (Some key) = said-until given key
