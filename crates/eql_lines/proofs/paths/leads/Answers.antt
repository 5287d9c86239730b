use Rattle.std.proofs.Common.{arith, ◌&&◌, bytes_eq, ap, sym, ◌∙◌, take, length, eq-eqb, ne_eqb}
use Rattle.eql_lines.proofs.Leads.{leads_long}
use Rattle.eql_lines.proofs.paths.leads.Goals as goal

pub returns-then-rest-len-eq46 : goal.returns-then-rest-len-eq46
returns-then-rest-len-eq46 c =
    let name = c.args.name.now in
    let long = leads_long name c.args.rest.now (grind arith) in
    c.eq-then-rest-len-eq46.ensures ∙ sym (long ∙ ap (λ b. b && bytes_eq name (take (length name) c.args.rest.now)) (eq-eqb _ _ c.if-rest-len-eq46.true))

pub returns-else-rest-len-eq46 : goal.returns-else-rest-len-eq46
returns-else-rest-len-eq46 c =
    let name = c.args.name.now in
    let long = leads_long name c.args.rest.now (grind arith) in
    let no = ne_eqb _ _ c.if-rest-len-eq46.false in
    no ∙ sym (long ∙ ap (λ b. b && bytes_eq name (take (length name) c.args.rest.now)) no)
