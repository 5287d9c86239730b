-- Whether the value of a line is an object, and that nothing is both none and some.
use Rattle.std.proofs.Common.{◌≡◌, Option, Some, None, is_some, refl}
use Rattle.serde_json.specs.Data.{Data, null, boolean, number, string, array, object}
use Rattle.serde_json.specs.Find.{as_object}
use Rattle.eql_lines.specs.Objects.{is_object}

pub is_object-as_object : (d : Data) → is_some (as_object d) ≡ is_object d
is_object-as_object null = refl
is_object-as_object (boolean b) = refl
is_object-as_object (number n) = refl
is_object-as_object (string s) = refl
is_object-as_object (array ds) = refl
is_object-as_object (object ms) = refl

pub none_is_some : {A : Type 0} {P : Type 0} (o : Option A) (a : A) → o ≡ None → o ≡ Some a → P
none_is_some o a e f = absurd (cc (e, f))
