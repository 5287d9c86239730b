-- What refusals say: each is one line, here without its end.
use Rattle.std.specs.Prelude.{◌≡◌, ℕ, List, ◌∷◌, [], ◌++◌, codes, encode_utf8_all, refl}
use Rattle.std.specs.Fmt.{decimal, signed_decimal}
use Rattle.eql_values.specs.Shown.{shown_text}
use Rattle.eql_check.specs.declared.mapping.MapRefused.{MapRefused}
use Rattle.eql_check.specs.declared.mapping.MapRefused.TheVariants as map
use Rattle.eql_check.specs.declared.refused.CheckRefused.{CheckRefused}
use Rattle.eql_check.specs.declared.refused.CheckRefused.TheVariants as broken

-- a name or a text of the input, as it is printed
abbrev pub printed_bytes : List ℕ → List ℕ
printed_bytes text = encode_utf8_all (shown_text text)

-- why a mapping is refused
abbrev pub map_message : MapRefused → List ℕ
map_message map.MapLong = codes "mapping: MapLong"
map_message map.MapSyntax = codes "mapping: MapSyntax"
map_message map.MapMany = codes "mapping: MapMany"
map_message (map.MapKind name) = codes "mapping: MapKind " ++ printed_bytes name
map_message map.Memory = codes "out of memory"

-- the rule that a query breaks, with its name, text, item or count
abbrev pub check_message : CheckRefused → List ℕ
check_message (broken.UnknownField name) = codes "check: UnknownField " ++ printed_bytes name
check_message (broken.UnknownFunction name) = codes "check: UnknownFunction " ++ printed_bytes name
check_message (broken.Arity name) = codes "check: Arity " ++ printed_bytes name
check_message (broken.KindMismatch item) = codes "check: KindMismatch " ++ decimal item
check_message (broken.FieldToField item) = codes "check: FieldToField " ++ decimal item
check_message (broken.KeyCount item) = codes "check: KeyCount " ++ decimal item
check_message (broken.KeyKind item) = codes "check: KeyKind " ++ decimal item
check_message broken.FewStages = codes "check: FewStages"
check_message (broken.Runs count) = codes "check: Runs " ++ signed_decimal count
check_message (broken.ManyStages count) = codes "check: ManyStages " ++ signed_decimal count
check_message (broken.ManyKeys count) = codes "check: ManyKeys " ++ signed_decimal count
check_message (broken.ManyFields count) = codes "check: ManyFields " ++ signed_decimal count
check_message broken.Span = codes "check: Span"
check_message broken.Pipe = codes "check: Pipe"
check_message (broken.Cidr text) = codes "check: Cidr " ++ printed_bytes text
check_message broken.Memory = codes "out of memory"

a_name : check_message (broken.Arity (codes "length~")) ≡ codes "check: Arity length~"
unfolding lib.Utf8.encode
a_name = refl

a_rule : check_message broken.FewStages ≡ codes "check: FewStages"
a_rule = refl

-- a line feed in a name doesn't end the line
a_line_feed : map_message (map.MapKind (97 ∷ 10 ∷ 98 ∷ [])) ≡ codes "mapping: MapKind a\\nb"
unfolding lib.Utf8.encode
a_line_feed = refl
