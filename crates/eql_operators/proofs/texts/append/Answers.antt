use Rattle.std.proofs.Common.{ap, sym, ◌++◌, ◌∙◌, Some, string_bytes, w64, FitsSigned, rules}
use Rattle.std.specs.Fmt.{signed_decimal}
use Rattle.std.specs.Str.{chars}
use Rattle.std.proofs.lemmas.Str.{IsUtf8-string_bytes}
use Rattle.std.proofs.lemmas.Int.{to_z-of_z}
use Rattle.eql_check.specs.Functions.{text_of, dotted_text}
use Rattle.eql_operators.proofs.Appending.{appended}
use Rattle.eql_operators.proofs.texts.append.Goals as goal

pub returns-in_ok-push_str-in-Bool : goal.returns-in_ok-push_str-in-Bool
returns-in_ok-push_str-in-Bool c =
    appended (string_bytes c.args.text.now) (string_bytes c.push_str.new.self) c.word.result.now c.args.value.now (IsUtf8-string_bytes c.args.text.now)
    c.in_ok-push_str-in-Bool.ensures.bytes (ap text_of c.in-Bool.is ∙ ap (λ t. Some (chars t)) (sym c.word.ensures))

pub returns-in_ok-append_number-in-Long : goal.returns-in_ok-append_number-in-Long
returns-in_ok-append_number-in-Long c =
    let fits : FitsSigned w64 c.in-Long.n = search rules in
    appended (string_bytes c.args.text.now) (string_bytes c.append_number.new.text) (signed_decimal c.in-Long.n) c.args.value.now (IsUtf8-string_bytes c.args.text.now)
    (c.in_ok-append_number-in-Long.ensures ∙ ap (λ z. string_bytes c.args.text.now ++ signed_decimal z) (to_z-of_z w64 c.in-Long.n fits)) (ap text_of c.in-Long.is)

pub returns-in_ok-push_str-in-Text : goal.returns-in_ok-push_str-in-Text
returns-in_ok-push_str-in-Text c =
    appended (string_bytes c.args.text.now) (string_bytes c.push_str-in-Text.new.self) c.text.result.now c.args.value.now (IsUtf8-string_bytes c.args.text.now)
    c.in_ok-push_str-in-Text.ensures.bytes (ap text_of c.in-Text.is ∙ ap Some (sym c.text.ensures))

pub returns-in_ok-append_address-in-Ip : goal.returns-in_ok-append_address-in-Ip
returns-in_ok-append_address-in-Ip c =
    appended (string_bytes c.args.text.now) (string_bytes c.append_address.new.text) (dotted_text c.in-Ip.ip) c.args.value.now (IsUtf8-string_bytes c.args.text.now)
    c.in_ok-append_address-in-Ip.ensures (ap text_of c.in-Ip.is)
