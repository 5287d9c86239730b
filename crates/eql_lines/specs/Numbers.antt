-- Numbers, by the reading of `serde_json`.
use Rattle.serde_json.specs.Data as json
use Rattle.eql_lines.specs.declared.number.Num.{Num}
use Rattle.eql_lines.specs.declared.number.Num.TheVariants.{Unsigned, Negative, Fractional}

abbrev pub num_of : json.Num → Num
num_of (json.unsigned n) = Unsigned n
num_of (json.negative z) = Negative z
num_of (json.float x) = Fractional
