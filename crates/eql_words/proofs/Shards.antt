-- One to 256 names.
use Rattle.std.proofs.Common.{◌≡◌, ℕ, ◌<◌, ◌≤◌, Bool, true, false, cond, leb, List, length, Option, Some, None, String, string_bytes, refl, sym, ap, ◌∙◌}
use Rattle.std.specs.Prelude.{◌&&◌}
use Rattle.std.specs.declared.alloc.Global.{Global}
use Rattle.std.specs.List.{list_all}
use Rattle.std.proofs.lemmas.Bool.{le-leb, lt-leb}
use Rattle.std.proofs.lemmas.List.{length-map}
use Rattle.eql_words.specs.Words.{Word, bytes_of, is_name}
use Rattle.eql_words.specs.Commands.{shards_of}
use Rattle.eql_words.proofs.Lines.{name_test}

abbrev Strings : Type 0
Strings = List (String Global)

abbrev have_names : Strings → Bool
have_names words = list_all (λ word. is_name (string_bytes word)) words

abbrev Answer : Type 0
Answer = Option (List Word)

shards_by : (plain : Strings)
    → shards_of (bytes_of plain) ≡ cond (leb 1 (length plain) && leb (length plain) 256 && have_names plain) (Some (bytes_of plain)) None
shards_by plain =
    ap (λ (n : ℕ). cond (leb 1 n && leb n 256 && list_all is_name (bytes_of plain)) (Some (bytes_of plain)) None)
    (length-map plain (λ (word : String Global). string_bytes word))
    ∙ ap (λ (b : Bool). cond (leb 1 (length plain) && leb (length plain) 256 && b) (Some (bytes_of plain)) None) (name_test plain)

pub shards_good : (plain : Strings) → 1 ≤ length plain → length plain ≤ 256 → true ≡ list_all (λ word. is_name (string_bytes word)) plain
    → Some (bytes_of plain) ≡ shards_of (bytes_of plain)
shards_good plain some few names =
    let is_some : leb 1 (length plain) ≡ true = le-leb 1 (length plain) some in
    let is_few : leb (length plain) 256 ≡ true = le-leb (length plain) 256 few in
    let are_names : have_names plain ≡ true = sym names in
    let whole : cond (leb 1 (length plain) && leb (length plain) 256 && have_names plain) (Some (bytes_of plain)) None ≡ Some (bytes_of plain) =
    rw (is_some, is_few, are_names) in
    sym (shards_by plain ∙ whole)

first_fails : (a b d : Bool) (x : Answer) → a ≡ false → cond (a && b && d) x None ≡ None
first_fails false b d x e = refl
first_fails true b d x e = cc

second_fails : (a b d : Bool) (x : Answer) → b ≡ false → cond (a && b && d) x None ≡ None
second_fails false b d x e = refl
second_fails true false d x e = refl
second_fails true true d x e = cc

third_fails : (a b d : Bool) (x : Answer) → d ≡ false → cond (a && b && d) x None ≡ None
third_fails false b d x e = refl
third_fails true false d x e = refl
third_fails true true false x e = refl
third_fails true true true x e = cc

pub none_there : (plain : Strings) → length plain < 1 → None ≡ shards_of (bytes_of plain)
none_there plain h =
    sym (shards_by plain ∙ first_fails (leb 1 (length plain)) (leb (length plain) 256) (have_names plain) (Some (bytes_of plain))
    (lt-leb 1 (length plain) h))

pub too_many : (plain : Strings) → 256 < length plain → None ≡ shards_of (bytes_of plain)
too_many plain h =
    sym (shards_by plain ∙ second_fails (leb 1 (length plain)) (leb (length plain) 256) (have_names plain) (Some (bytes_of plain))
    (lt-leb (length plain) 256 h))

pub no_name : (plain : Strings) → false ≡ list_all (λ word. is_name (string_bytes word)) plain → None ≡ shards_of (bytes_of plain)
no_name plain h =
    sym (shards_by plain ∙ third_fails (leb 1 (length plain)) (leb (length plain) 256) (have_names plain) (Some (bytes_of plain)) (sym h))
