use Rattle.std.proofs.lemmas.Result.{IfOk-weaker}
use Rattle.eql_summary.proofs.ListingLemmas.{summary_makes}
use Rattle.eql_summary.proofs.write.made_summary.Goals as goal

pub returns : goal.returns
returns g c =
    IfOk-weaker c.summary_of.result _ _
    (λ text is. summary_makes c.args.events _ c.bytes.result.now.items c.as_slice.result.now text.items c.in_ok-listing.ensures c.bytes.ensures c.as_slice.ensures.value is)
    c.summary_of.ensures
