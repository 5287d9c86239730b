-- The orders of matches and of pending sequences are total.
use Rattle.std.specs.Cmp.{IsTotalOrder}
use Rattle.std.proofs.lemmas.Cmp.{on_total, then_total, lists_total}
use Rattle.eql_values.specs.Totals.{key_cmp_total, order_cmp_total}
use Rattle.eql_laws.specs.Merging.{ending_cmp}

pub ending_cmp_total : IsTotalOrder ending_cmp
ending_cmp_total = then_total (on_total (λ e. e.0) (lists_total order_cmp_total)) (on_total (λ e. e.1) key_cmp_total)
