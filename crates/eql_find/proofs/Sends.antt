-- A reader by a plan may go to another thread, and threads may share it.
use denote.Param.Send.{IsSend, IsSync, sendable}
use Rattle.std.proofs.Crossing.{crosses}
use Rattle.eql_values.specs.contracts.text.Text as Text
use Rattle.eql_values.specs.contracts.value.Value as Value
use Rattle.eql_code.specs.contracts.emit.Op as Op
use Rattle.eql_code.specs.contracts.machine.Code as Code
use Rattle.eql_lines.specs.contracts.scan.LineScan as LineScan
use Rattle.eql_stages.specs.contracts.reader.PlanReader as PlanReader

pub text_send : IsSend Text.the_row
text_send = search (sendable, crosses) depth 30

pub text_sync : IsSync Text.the_row
text_sync = search (sendable, crosses) depth 30

pub value_send : IsSend Value.the_row
value_send = search (sendable, crosses, text_send) depth 30

pub value_sync : IsSync Value.the_row
value_sync = search (sendable, crosses, text_sync) depth 30

pub op_send : IsSend Op.the_row
op_send = search (sendable, crosses, value_send) depth 100 fits 20000

pub op_sync : IsSync Op.the_row
op_sync = search (sendable, crosses, value_sync) depth 100 fits 20000

pub code_send : IsSend Code.the_row
code_send = search (sendable, crosses, op_send) depth 30

pub code_sync : IsSync Code.the_row
code_sync = search (sendable, crosses, op_sync) depth 30

pub scan_send : IsSend LineScan.the_row
scan_send = search (sendable, crosses, text_send) depth 30

pub scan_sync : IsSync LineScan.the_row
scan_sync = search (sendable, crosses, text_sync) depth 30

pub reader_send : IsSend PlanReader.the_row
reader_send = search (sendable, crosses, text_send, value_send, code_send, scan_send) depth 30

pub reader_sync : IsSync PlanReader.the_row
reader_sync = search (sendable, crosses, text_sync, value_sync, code_sync, scan_sync) depth 30
