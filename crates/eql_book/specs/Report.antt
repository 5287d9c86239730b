-- The line that tells what became of the lines of a shard.
use Rattle.std.specs.Prelude.{◌≡◌, ℕ, zero, suc, List, [], ◌++◌, Option, Some, None, codes, refl}
use Rattle.std.specs.Fmt.{decimal, digits}
use Rattle.eql_values.specs.declared.cut.Counts.{Counts}
use Rattle.eql_values.specs.declared.cut.FirstBad.{FirstBad}
use Rattle.eql_values.specs.declared.cut.Reason.{Reason}
use Rattle.eql_values.specs.declared.cut.Reason.TheVariants as reason

-- a reason by its name
abbrev pub reason_text : Reason → List ℕ
reason_text reason.Long = codes "Long"
reason_text reason.NotJson = codes "NotJson"
reason_text reason.NotObject = codes "NotObject"
reason_text reason.NoTime = codes "NoTime"
reason_text reason.BadTime = codes "BadTime"
reason_text reason.Kind = codes "Kind"
reason_text reason.Fraction = codes "Fraction"
reason_text reason.Range = codes "Range"

-- where lines were rejected, the first of them and why
abbrev pub first_text : ℕ → Option FirstBad → List ℕ
first_text zero first = []
first_text (suc rejected) None = []
first_text (suc rejected) (Some bad) =
    codes " first " ++ decimal bad.line ++ codes " " ++ reason_text bad.reason

-- a shard's number and its counts
abbrev pub counts_text : ℕ → Counts → List ℕ
counts_text shard counts =
    codes "shard " ++ decimal shard ++ codes ": lines " ++ decimal counts.lines
    ++ codes " accepted " ++ decimal counts.accepted ++ codes " late " ++ decimal counts.late
    ++ codes " rejected " ++ decimal counts.rejected

-- the same and the first line that was rejected, without a line feed
abbrev pub report_text : ℕ → Counts → List ℕ
report_text shard counts = counts_text shard counts ++ first_text counts.rejected counts.first

-- a shard of ten lines, of which one is blank and two were rejected
two_rejected :
    report_text 3 (record { lines = 10; accepted = 6; late = 1; rejected = 2; first = Some (record { line = 4; reason = reason.NoTime }) })
    ≡ codes "shard 3: lines 10 accepted 6 late 1 rejected 2 first 4 NoTime"
unfolding digits lib.Utf8.encode
two_rejected = refl

-- a shard of no lines
no_lines :
    report_text 0 (record { lines = 0; accepted = 0; late = 0; rejected = 0; first = None })
    ≡ codes "shard 0: lines 0 accepted 0 late 0 rejected 0"
unfolding digits lib.Utf8.encode
no_lines = refl
