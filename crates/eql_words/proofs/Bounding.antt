-- Why commands lie within their bounds.
use Rattle.std.proofs.Common.{◌≡◌, ℕ, ◌≤◌, Bool, true, false, cond, leb, List, [], ◌∷◌, length, Option, Some, None, refl, sym, subst, arith}
use Rattle.std.specs.Prelude.{◌&&◌, nat_eq, IfSome, option_map, is_some, codes}
use Rattle.std.specs.List.{list_all}
use Rattle.std.specs.Option.{option_and_then}
use Rattle.std.specs.Str.{bytes_eq, chars}
use Rattle.std.proofs.lemmas.Bool.{leb-true}
use Rattle.std.proofs.lemmas.Option.{option_and_then_some, cond_some, none-some}
use Rattle.eql_words.specs.declared.options.OptionName.{OptionName}
use Rattle.eql_words.specs.declared.options.OptionName.TheVariants as option
use Rattle.eql_words.specs.declared.commands.Command.{Command}
use Rattle.eql_words.specs.declared.commands.Command.TheVariants as command
use Rattle.eql_words.specs.declared.commands.Find.{Find}
use Rattle.eql_words.specs.declared.commands.Checkpoint.{Checkpoint}
use Rattle.eql_words.specs.Words.{Word, is_name}
use Rattle.eql_words.specs.Numbers.{within, number_of, number_in, milliseconds_of, time_of}
use Rattle.eql_words.specs.Spelling.{Setting, Parts, line_of, stand_once, value_of}
use Rattle.eql_words.specs.Commands.{are_among, name_of, name_in, if_given, or_else, hands_in, checkpoint_with, checkpoint_in, shards_of, find_of, check_of, made_of, only_word, command_named, command_from, command_of}
use Rattle.eql_words.specs.Bounds.{IsName, LiesBetween, KeptIsBounded, FindIsBounded, IsBounded}

pub both_true : (a b : Bool) → (a && b) ≡ true → (a ≡ true) × (b ≡ true)
both_true true b e = (refl, e)
both_true false b e = cc

option_map_some : {A B P : Type 0} (f : A → B) (o : Option A) (y : B) → option_map f o ≡ Some y → ((x : A) → o ≡ Some x → f x ≡ y → P) → P
option_map_some f None y e k = absurd (none-some y e)
option_map_some f (Some x) y e k = k x refl (cc)

-- words that read
name_read : (word value : Word) → name_of word ≡ Some value → IsName value
name_read word value e =
    let there = cond_some (is_name word) word value e in
    subst (λ (w : Word). is_name w ≡ true) there.1 there.0

name_is : (name : OptionName) (given : List Setting) (value : Word) → name_in name given ≡ Some value → IsName value
name_is name given value e = option_and_then_some name_of (value_of name given) value e (λ word is reads. name_read word value reads)

within_is : (least most n m : ℕ) → within least most n ≡ Some m → LiesBetween least most m
within_is least most n m e =
    let there = cond_some (leb least n && leb n most) n m e in
    let sides = both_true (leb least n) (leb n most) there.0 in
    let low : least ≤ n = leb-true least n sides.0 in
    let high : n ≤ most = leb-true n most sides.1 in
    let same : n ≡ m = there.1 in
    (omega arith, omega arith)

number_read : (least most : ℕ) (word : Word) (n : ℕ) → number_in least most word ≡ Some n → LiesBetween least most n
number_read least most word n e = option_and_then_some (within least most) (number_of 7 word) n e (λ m is fits. within_is least most m n fits)

time_read : (word : Word) (n : ℕ) → time_of word ≡ Some n → n ≤ 3153600000000
time_read word n e =
    option_and_then_some (within 0 3153600000000) (milliseconds_of word) n e (λ m is fits. (within_is 0 3153600000000 m n fits).1)

or_else_is : (other least most : ℕ) (o : Option Word) (n : ℕ) → least ≤ other → other ≤ most
    → or_else other (number_in least most) o ≡ Some n → LiesBetween least most n
or_else_is other least most None n low high e = let same : other ≡ n = cc in (omega arith, omega arith)
or_else_is other least most (Some word) n low high e = number_read least most word n e

if_given_is : {T : Type 0} (P : T → Type 0) (read : Word → Option T) (o : Option Word) (value : Option T)
    → ((word : Word) (x : T) → read word ≡ Some x → P x) → if_given read o ≡ Some value → IfSome value P
if_given_is P read None value reads e = let same : None ≡ value = cc in subst (λ (v : Option _). IfSome v P) same tt
if_given_is P read (Some word) value reads e =
    option_map_some (λ x. Some x) (read word) value e (λ x is same. subst (λ (v : Option _). IfSome v P) same (reads word x is))

tie_read : (word : Word) (text : List ℕ) → option_map chars (name_of word) ≡ Some text → (w : Word) × IsName w × (text ≡ chars w)
tie_read word text e = option_map_some chars (name_of word) text e (λ w is same. (w, name_read word w is, sym same))

kept_with : (slack : Option ℕ) (name : Option Word) (every : Option ℕ) (kept : Option Checkpoint) → IfSome name IsName
    → IfSome every (LiesBetween 1 1000000) → checkpoint_with slack name every ≡ Some kept
    → IfSome kept KeptIsBounded × (is_some kept ≡ true → is_some slack ≡ true)
kept_with None None None kept n m e = let same : None ≡ kept = cc in subst (λ (k : Option Checkpoint). IfSome k KeptIsBounded × (is_some k ≡ true → is_some {T = ℕ} None ≡ true)) same (tt, λ h. h)
kept_with (Some t) None None kept n m e = let same : None ≡ kept = cc in subst (λ (k : Option Checkpoint). IfSome k KeptIsBounded × (is_some k ≡ true → is_some (Some t) ≡ true)) same (tt, λ h. refl)
kept_with (Some t) (Some name) (Some every) kept n m e =
    let same : Some (record { name = name; every = every }) ≡ kept = cc in
    subst (λ (k : Option Checkpoint). IfSome k KeptIsBounded × (is_some k ≡ true → is_some (Some t) ≡ true)) same ((n, m), λ h. refl)
kept_with None (Some name) None kept n m e = absurd (none-some kept e)
kept_with None None (Some every) kept n m e = absurd (none-some kept e)
kept_with None (Some name) (Some every) kept n m e = absurd (none-some kept e)
kept_with (Some t) (Some name) None kept n m e = absurd (none-some kept e)
kept_with (Some t) None (Some every) kept n m e = absurd (none-some kept e)

kept_is : (slack : Option ℕ) (given : List Setting) (kept : Option Checkpoint) → checkpoint_in slack given ≡ Some kept
    → IfSome kept KeptIsBounded × (is_some kept ≡ true → is_some slack ≡ true)
kept_is slack given kept e =
    option_and_then_some _ _ kept e (λ name is_name_given e1.
    option_and_then_some _ _ kept e1 (λ every is_every_given last.
    kept_with slack name every kept
    (if_given_is IsName name_of (value_of option.Checkpoint given) name name_read is_name_given)
    (if_given_is (LiesBetween 1 1000000) (number_in 1 1000000) (value_of option.Every given) every (number_read 1 1000000) is_every_given)
    last))

shards_are : (plain shards : List Word) → shards_of plain ≡ Some shards → LiesBetween 1 256 (length shards) × (list_all is_name shards ≡ true)
shards_are plain shards e =
    let there = cond_some (leb 1 (length plain) && leb (length plain) 256 && list_all is_name plain) plain shards e in
    let last = both_true (leb 1 (length plain) && leb (length plain) 256) (list_all is_name plain) there.0 in
    let sides = both_true (leb 1 (length plain)) (leb (length plain) 256) last.0 in
    subst (λ (s : List Word). LiesBetween 1 256 (length s) × (list_all is_name s ≡ true)) there.1
    ((leb-true 1 (length plain) sides.0, leb-true (length plain) 256 sides.1), last.1)

find_is : (given : List Setting) (plain : List Word) (find : Find) → find_of given plain ≡ Some find → FindIsBounded find
find_is given plain find e =
    option_and_then_some _ _ find e (λ query query_is e1.
    option_and_then_some _ _ find e1 (λ fields fields_is e2.
    option_and_then_some _ _ find e2 (λ tie tie_is e3.
    option_and_then_some _ _ find e3 (λ slack slack_is e4.
    option_and_then_some _ _ find e4 (λ batch batch_is e5.
    option_and_then_some _ _ find e5 (λ hands hands_is e6.
    option_and_then_some _ _ find e6 (λ checkpoint checkpoint_is e7.
    option_map_some _ _ find e7 (λ shards shards_is same.
    let kept_bounds = kept_is slack given checkpoint checkpoint_is in
    let shard_bounds = shards_are plain shards shards_is in
    subst (λ (f : Find). FindIsBounded f) same (record {
      query = name_is option.Query given query query_is;
      fields = name_is option.Fields given fields fields_is;
      tie = if_given_is (λ (text : List ℕ). (w : Word) × IsName w × (text ≡ chars w)) (λ word. option_map chars (name_of word)) (value_of option.Tiebreaker given) tie tie_read tie_is;
      slack = if_given_is (λ (n : ℕ). n ≤ 3153600000000) time_of (value_of option.Slack given) slack time_read slack_is;
      batch = or_else_is 256 1 4096 (value_of option.Batch given) batch (omega arith) (omega arith) batch_is;
      hands = (or_else_is 1 0 16 (value_of option.Hands given) hands (omega arith) (omega arith) hands_is).1;
      kept = kept_bounds.0;
      slack_too = kept_bounds.1;
      count = shard_bounds.0;
      shards = shard_bounds.1;
    })))))))))

-- what either side of a choice gives
left_or_right : {A P : Type 0} (b : Bool) (x y : Option A) (v : A) → cond b x y ≡ Some v → (x ≡ Some v → P) → (y ≡ Some v → P) → P
left_or_right true x y v e l r = l e
left_or_right false x y v e l r = r e

-- the commands `check` and `made`, where their options are theirs alone
abbrev checked : List Setting → Option Command
checked given =
    option_and_then (λ (query : Word). option_map (λ (fields : Word). command.Check query fields) (name_in option.Fields given))
    (name_in option.Query given)

checked_is : (given : List Setting) (c : Command) → checked given ≡ Some c → IsBounded c
checked_is given c e =
    option_and_then_some (λ (query : Word). option_map (λ (fields : Word). command.Check query fields) (name_in option.Fields given))
    (name_in option.Query given) c e (λ query query_is e1.
    option_map_some (λ (fields : Word). command.Check query fields) (name_in option.Fields given) c e1 (λ fields fields_is same.
    let both : IsName query × IsName fields =
    (name_is option.Query given query query_is, name_is option.Fields given fields fields_is) in
    subst (λ (d : Command). IsBounded d) same both))

check_is : (given : List Setting) (plain : List Word) (c : Command) → check_of given plain ≡ Some c → IsBounded c
check_is given plain c e =
    left_or_right (nat_eq (length plain) 0 && are_among (option.Query ∷ option.Fields ∷ []) given) (checked given) None
    c e (checked_is given c) (λ bad. absurd (none-some c bad))

abbrev made_with : List Setting → Word → Option Command
made_with given word =
    option_and_then (λ (hands : ℕ). option_map (λ (events : ℕ). command.Made hands events) (number_in 0 1000000 word)) (hands_in given)

made_with_is : (given : List Setting) (word : Word) (c : Command) → made_with given word ≡ Some c → IsBounded c
made_with_is given word c e =
    option_and_then_some (λ (hands : ℕ). option_map (λ (events : ℕ). command.Made hands events) (number_in 0 1000000 word))
    (hands_in given) c e (λ hands hands_is e1.
    option_map_some (λ (events : ℕ). command.Made hands events) (number_in 0 1000000 word) c e1 (λ events events_is same.
    let both : (hands ≤ 16) × (events ≤ 1000000) = (
      (or_else_is 1 0 16 (value_of option.Hands given) hands (omega arith) (omega arith) hands_is).1,
      (number_read 0 1000000 word events events_is).1,
    ) in
    subst (λ (d : Command). IsBounded d) same both))

made_is : (given : List Setting) (plain : List Word) (c : Command) → made_of given plain ≡ Some c → IsBounded c
made_is given plain c e =
    left_or_right (are_among (option.Hands ∷ []) given) (option_and_then (made_with given) (only_word plain)) None c e (λ good.
    option_and_then_some (made_with given) (only_word plain) c good (λ word word_is e1. made_with_is given word c e1))
    (λ bad. absurd (none-some c bad))

-- the choices behind the first word `find`
abbrev made_or_none : Word → Parts → Option Command
made_or_none verb parts = cond (bytes_eq verb (codes "made")) (made_of parts.given parts.plain) None

abbrev check_or_made : Word → Parts → Option Command
check_or_made verb parts = cond (bytes_eq verb (codes "check")) (check_of parts.given parts.plain) (made_or_none verb parts)

found_is : (parts : Parts) (c : Command) → option_map (λ (find : Find). command.Find find) (find_of parts.given parts.plain) ≡ Some c → IsBounded c
found_is parts c e =
    option_map_some (λ (find : Find). command.Find find) (find_of parts.given parts.plain) c e (λ find there same.
    subst (λ (d : Command). IsBounded d) same (find_is parts.given parts.plain find there))

named_is : (verb : Word) (parts : Parts) (c : Command) → command_named verb parts ≡ Some c → IsBounded c
named_is verb parts c e =
    left_or_right (bytes_eq verb (codes "find")) (option_map (λ (find : Find). command.Find find) (find_of parts.given parts.plain)) (check_or_made verb parts)
    c e (found_is parts c) (λ e1.
    left_or_right (bytes_eq verb (codes "check")) (check_of parts.given parts.plain) (made_or_none verb parts)
    c e1 (check_is parts.given parts.plain c) (λ e2.
    left_or_right (bytes_eq verb (codes "made")) (made_of parts.given parts.plain) None
    c e2 (made_is parts.given parts.plain c) (λ bad. absurd (none-some c bad))))

from_is : (verb : Word) (parts : Parts) (c : Command) → command_from verb parts ≡ Some c → IsBounded c
from_is verb parts c e =
    left_or_right (stand_once parts.given) (command_named verb parts) None c e (named_is verb parts c) (λ bad. absurd (none-some c bad))

pub bounded : (words : List Word) (c : Command) → command_of words ≡ Some c → IsBounded c
bounded [] c e = absurd (none-some c e)
bounded (verb ∷ words) c e =
    option_and_then_some (command_from verb) (line_of words) c e (λ parts is made. from_is verb parts c made)
