-- Why words that spell options and plain words are read as these.
use Rattle.std.proofs.Common.{◌≡◌, Bool, true, false, not, ltb, List, [], ◌∷◌, ◌++◌, length, Option, Some, None, refl, sym, ap, ◌∙◌, arith}
use Rattle.std.specs.Prelude.{codes}
use Rattle.std.specs.Option.{option_and_then}
use Rattle.std.proofs.lemmas.Bool.{cond-true, cond-false, lt-ltb}
use Rattle.eql_words.specs.declared.options.OptionName.{OptionName}
use Rattle.eql_words.specs.declared.options.OptionName.TheVariants as option
use Rattle.eql_words.specs.declared.options.Form.{Form}
use Rattle.eql_words.specs.declared.options.Form.TheVariants as form
use Rattle.eql_words.specs.Words.{Word, is_dashed, are_plain}
use Rattle.eql_words.specs.Spelling.{Setting, Parts, before, form_of, line_from, line_of}
use Rattle.eql_words.specs.Spelled.{text_of, takes_value, Spells, plain_words, behind_dashes, flag, apart, joined}
use Rattle.eql_words.specs.Commands.{command_from, command_of}
use Rattle.eql_words.proofs.Bounding.{both_true}
use Rattle.eql_words.proofs.Lines.{by_form, line_by_form}

not_dashed : (b : Bool) → not b ≡ true → b ≡ false
not_dashed false e = refl
not_dashed true e = cc

plain_form : (word : Word) → is_dashed word ≡ false → form_of word ≡ form.Plain
plain_form [] e = refl
plain_form (byte ∷ bytes) e = rw e

open_form : (name : OptionName) → takes_value name ≡ true → form_of (text_of name) ≡ form.Opens name
open_form option.Query t = refl
open_form option.Fields t = refl
open_form option.Tiebreaker t = refl
open_form option.Slack t = refl
open_form option.Batch t = refl
open_form option.Hands t = refl
open_form option.Checkpoint t = refl
open_form option.Every t = refl
open_form option.Places t = cc

joined_form : (name : OptionName) (value : Word) → takes_value name ≡ true → form_of (text_of name ++ 61 ∷ value) ≡ form.Whole (name, value)
joined_form option.Query value t = let h : ltb 7 (length (text_of option.Query ++ 61 ∷ value)) ≡ true = lt-ltb 7 (length (text_of option.Query ++ 61 ∷ value)) (omega arith) in rw h
joined_form option.Fields value t = let h : ltb 8 (length (text_of option.Fields ++ 61 ∷ value)) ≡ true = lt-ltb 8 (length (text_of option.Fields ++ 61 ∷ value)) (omega arith) in rw h
joined_form option.Tiebreaker value t = let h : ltb 12 (length (text_of option.Tiebreaker ++ 61 ∷ value)) ≡ true = lt-ltb 12 (length (text_of option.Tiebreaker ++ 61 ∷ value)) (omega arith) in rw h
joined_form option.Slack value t = let h : ltb 7 (length (text_of option.Slack ++ 61 ∷ value)) ≡ true = lt-ltb 7 (length (text_of option.Slack ++ 61 ∷ value)) (omega arith) in rw h
joined_form option.Batch value t = let h : ltb 7 (length (text_of option.Batch ++ 61 ∷ value)) ≡ true = lt-ltb 7 (length (text_of option.Batch ++ 61 ∷ value)) (omega arith) in rw h
joined_form option.Hands value t = let h : ltb 7 (length (text_of option.Hands ++ 61 ∷ value)) ≡ true = lt-ltb 7 (length (text_of option.Hands ++ 61 ∷ value)) (omega arith) in rw h
joined_form option.Checkpoint value t = let h : ltb 12 (length (text_of option.Checkpoint ++ 61 ∷ value)) ≡ true = lt-ltb 12 (length (text_of option.Checkpoint ++ 61 ∷ value)) (omega arith) in rw h
joined_form option.Every value t = let h : ltb 7 (length (text_of option.Every ++ 61 ∷ value)) ≡ true = lt-ltb 7 (length (text_of option.Every ++ 61 ∷ value)) (omega arith) in rw h
joined_form option.Places value t = cc

abbrev ready : List Setting → List Word → Option Parts
ready given plain = Some (record { given = given; plain = plain })

step : (word : Word) (words : List Word) (f : Form) → form_of word ≡ f → line_of (word ∷ words) ≡ by_form word words f
step word words f e = line_by_form word words ∙ ap (by_form word words) e

plain_line : (plain : List Word) → are_plain plain ≡ true → line_of plain ≡ ready [] plain
unfolding line_from
plain_line [] p = refl
plain_line (word ∷ words) p =
    let sides = both_true (not (is_dashed word)) (are_plain words) p in
    step word words form.Plain (plain_form word (not_dashed (is_dashed word) sides.0))
    ∙ cond-true (are_plain words) (ready [] (word ∷ words)) None sides.1

value_line : (name : OptionName) (value : Word) (words : List Word) → is_dashed value ≡ false
    → line_from (Some name) (value ∷ words) ≡ before (name, value) (line_of words)
unfolding line_from
value_line name value words d = cond-false (is_dashed value) None (before (name, value) (line_of words)) d

pub read_spelled : (words : List Word) (given : List Setting) (plain : List Word) → Spells words given plain
    → line_of words ≡ Some (record { given = given; plain = plain })
read_spelled _ _ _ (plain_words plain p) = plain_line plain p
read_spelled _ _ _ (behind_dashes plain) = step (codes "--") plain form.Ends refl
read_spelled _ _ _ (flag words given plain rest) =
    step (text_of option.Places) words (form.Whole (option.Places, [])) refl ∙ ap (before (option.Places, [])) (read_spelled words given plain rest)
read_spelled _ _ _ (apart name value words given plain t d rest) =
    step (text_of name) (value ∷ words) (form.Opens name) (open_form name t)
    ∙ (value_line name value words d ∙ ap (before (name, value)) (read_spelled words given plain rest))
read_spelled _ _ _ (joined name value words given plain t rest) =
    step (text_of name ++ 61 ∷ value) words (form.Whole (name, value)) (joined_form name value t)
    ∙ ap (before (name, value)) (read_spelled words given plain rest)

pub alike : (verb : Word) (words other : List Word) (given : List Setting) (plain : List Word) → Spells words given plain
    → Spells other given plain → command_of (verb ∷ words) ≡ command_of (verb ∷ other)
alike verb words other given plain a b =
    ap (option_and_then (command_from verb)) (read_spelled words given plain a ∙ sym (read_spelled other given plain b))
