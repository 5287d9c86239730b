use Rattle.eql_hub_run.specs.Conducted.{opened}
use Rattle.eql_hub_run.proofs.run.run_hub.Given as goal

abbrev pub ghost-split_off : goal.ghost-split_off
ghost-split_off g a = opened a.hand.now

abbrev pub ghosts-run_over : goal.ghosts-run_over
ghosts-run_over g a = record { hub = a.hub; hand = a.hand; text = g.T.HubOpening.text }
