use Rattle.std.proofs.Common.{ap, ◌∙◌}
use Rattle.std.specs.Option.{option_to_list}
use Rattle.eql_part.proofs.Routing.{last_has, last_off, none_off}
use Rattle.eql_part.proofs.prepared.unlist.Goals as goal

pub remove-requires : goal.remove-requires
remove-requires c = last_has c.args.list.now c.requires.0 c.requires.1 c.in-Some.ticket c.requires.2 (c.requires.3 ∙ ap option_to_list c.in-Some.is)

pub returns-in-Some : goal.returns-in-Some
returns-in-Some c = λ base begun is tickets.
    last_off c.args.list.now c.remove.new.self base begun c.in-Some.ticket c.remove.result c.remove.ensures.taken is (tickets ∙ ap option_to_list c.in-Some.is)

pub returns-in_default : goal.returns-in_default
returns-in_default c = λ base begun is tickets. none_off c.args.list.now base begun is (tickets ∙ ap option_to_list c.in_default.is)
