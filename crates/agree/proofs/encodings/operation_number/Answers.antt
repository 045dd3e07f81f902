-- No operation's number wraps: an opcode is below 255 and a modifier below 16, row by row of the table.
use Rattle.std.proofs.Common.{◌<◌, arith}
use Rattle.opcodes.proofs.Rows.{table}
use Rattle.agree.proofs.encodings.operation_number.Goals as goal

pub overflow_mul-result : goal.overflow_mul-result
overflow_mul-result c =
    let opcode : c.opcode_of.result < 255 = rw c.opcode_of.ensures (table c.args.op).opcode in
    omega arith

pub overflow_add-result : goal.overflow_add-result
overflow_add-result c =
    let opcode : c.opcode_of.result < 255 = rw c.opcode_of.ensures (table c.args.op).opcode in
    let modifier : c.modifier_of.result < 16 = rw c.modifier_of.ensures (table c.args.op).modifier in
    omega arith
