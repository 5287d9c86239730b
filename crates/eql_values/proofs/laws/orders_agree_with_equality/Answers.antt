use Rattle.eql_values.proofs.Same.{text_same, value_same, key_same, slot_same, order_same, mark_same, names_same}
use Rattle.eql_values.proofs.laws.orders_agree_with_equality.Goals as goal

pub returns-clause-texts : goal.returns-clause-texts
returns-clause-texts c = text_same

pub returns-clause-values : goal.returns-clause-values
returns-clause-values c = value_same

pub returns-clause-keys : goal.returns-clause-keys
returns-clause-keys c = key_same

pub returns-clause-events : goal.returns-clause-events
returns-clause-events c = order_same

pub returns-clause-marks : goal.returns-clause-marks
returns-clause-marks c = mark_same

pub returns-clause-slots : goal.returns-clause-slots
returns-clause-slots c = slot_same

pub returns-clause-names : goal.returns-clause-names
returns-clause-names c = names_same
