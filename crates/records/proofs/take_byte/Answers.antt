-- `take_byte` meets its contract. Assumes nothing.
use native.Mathlib.Omega.{arith}
use Rattle.records.proofs.Feeding.{part_done, whole_done}
use Rattle.rules.specs.Change.{tables}
use Rattle.records.proofs.take_byte.Goals as goal

pub returns-then-filled-lt-RECORD : goal.returns-then-filled-lt-RECORD
returns-then-filled-lt-RECORD c =
    let done = part_done (tables c.args.areas.now c.args.pages.now c.args.fed.count) c.args.bytes.now c.args.fed.filled c.args.byte
    c.told-bytes c.if-filled-lt-RECORD.true c.args.out.now c.args.fed.written c.requires.at_in_bounds in
    record { bytes_after = done.0; put = done.1.0; filled_value = done.1.1 }

pub returns : goal.returns
returns c =
    let done = whole_done (tables c.args.areas.now c.args.pages.now c.args.fed.count) c.args.bytes.now c.args.fed.filled c.args.byte
    c.told-bytes _ c.step-stepped.ensures (omega arith) c.put_line.ensures in
    record { bytes_after = done.0; put = done.1.0; filled_value = done.1.1 }
