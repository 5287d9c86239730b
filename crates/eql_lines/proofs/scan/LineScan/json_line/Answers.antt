use Rattle.std.proofs.Common.{◌≡◌, sym, subst, ap, ◌∙◌, length, map, string_bytes}
use Rattle.std.proofs.lemmas.Result.{IfOk-weaker}
use Rattle.eql_text.specs.Json.{json_of}
use Rattle.eql_lines.specs.Reading.{json_read, IsEventInTime}
use Rattle.eql_lines.specs.Gathered.{line_in_slots}
use Rattle.eql_lines.specs.PathTable.{names_of}
use Rattle.eql_lines.specs.WantedPaths.{wanted_paths}
use Rattle.eql_lines.proofs.EventTimes.{json_in_time}
use Rattle.eql_lines.proofs.Events.{line_is}
use Rattle.eql_lines.proofs.scan.LineScan.json_line.Goals as goal

pub returns-clause-line : goal.returns-clause-line
returns-clause-line c =
    let json = json_of c.args.bytes.now in
    let wanted = c.self.inside.wanted in
    let paths = names_of c.deref_mut.result.now.routes in
    let walk = c.read.new.self in
    let named : map string_bytes paths ≡ wanted_paths wanted = ap (λ w. map string_bytes (names_of w.routes)) c.deref_mut.ensures.value ∙ c.self.inside.paths_are in
    let same : length walk.slots.items ≡ length paths = walk.matched ∙ ap (λ r. length (names_of r)) c.in_ok-line.ensures.routes in
    let is = line_is c.in_ok-line.line wanted json paths walk.slots.items c.in_ok-line.ensures.line named same c.in_ok-line.ensures.slots in
    let here = ap (λ v. v.items) (c.slots.ensures ∙ ap (λ w. w.slots) c.deref.ensures) in
    IfOk-weaker c.line_in.result _ _
    (λ read e. e ∙ ap (λ s. line_in_slots c.in_ok-line.line wanted s) here ∙ is ∙ ap (λ w. json_read w json) c.self.view_is)
    c.line_in.ensures

pub returns-clause-in_time : goal.returns-clause-in_time
returns-clause-in_time c =
    IfOk-weaker c.line_in.result _ _ (λ read e. subst IsEventInTime (sym e) (json_in_time c.args.self.now (json_of c.args.bytes.now))) (returns-clause-line c)
