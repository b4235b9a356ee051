-- `take_block` meets its contract: a block always finds room, and its bytes are run. Assumes nothing.
use Rattle.std.proofs.Common.{take, arith}
use lib.ListN.{length-take}
use Rattle.records.proofs.Feeding.{fed_ok, fed_leaves, fed_takes}
use Rattle.stream.proofs.Reading.{block_fits, part_of, runs_kept, runs_nothing, on_err}
use Rattle.stream.proofs.take_block.Goals as goal

pub unwrap-fed-requires : goal.unwrap-fed-requires
unwrap-fed-requires g c =
    let fits = block_fits _ _ _ c.args.at.part (omega (arith, c.read.auto.buf)) in
    fed_ok _ _ _ _ _ _ c.feed.result _ c.feed.ensures.bytes_after c.told-bytes c.args.at.part fits

pub returns-in_err-n-clause-err : goal.returns-in_err-n-clause-err
returns-in_err-n-clause-err g c = on_err c.from_residual.result (c.args.at, runs_kept _ _ _ c.in_err-n.ensures.bytes)

pub returns-then-n-eq0-clause-ok : goal.returns-then-n-eq0-clause-ok
returns-then-n-eq0-clause-ok g c = runs_nothing _ _ _ _ _ c.if-n-eq0.true c.in_ok-n.ensures.bytes.0

pub returns-in_err-tell-clause-err : goal.returns-in_err-tell-clause-err
returns-in_err-tell-clause-err g c =
    let fits = block_fits _ _ _ c.args.at.part (omega (arith, c.read.auto.buf)) in
    let done = rw c.unwrap-fed.ensures at c.feed.ensures.bytes_after in
    on_err c.from_residual-in_err-tell.result (
      record {
        count = c.unwrap-fed.result.count;
        filled = c.unwrap-fed.result.filled;
        part = part_of _ _ _ c.told-bytes c.feed.auto.bytes (fed_leaves _ _ _ _ _ _ _ done c.told-bytes c.args.at.part fits);
      },
      (
        take c.in_ok-n.n c.read.new.buf,
        c.in_ok-n.ensures.bytes.0,
        fed_takes _ _ _ _ _ _ _ done c.told-bytes c.args.at.part fits,
      ),
    )

pub invariant_of-result : goal.invariant_of-result
invariant_of-result g c =
    let fits = block_fits _ _ _ c.args.at.part (omega (arith, c.read.auto.buf)) in
    let done = rw c.unwrap-fed.ensures at c.feed.ensures.bytes_after in
    record { part = part_of _ _ _ c.told-bytes c.feed.auto.bytes (fed_leaves _ _ _ _ _ _ _ done c.told-bytes c.args.at.part fits) }

pub returns-clause-ok : goal.returns-clause-ok
returns-clause-ok g c =
    let fits = block_fits _ _ _ c.args.at.part (omega (arith, c.read.auto.buf)) in
    let done = rw c.unwrap-fed.ensures at c.feed.ensures.bytes_after in (
      (
        take c.in_ok-n.n c.read.new.buf,
        c.in_ok-n.ensures.bytes.0,
        fed_takes _ _ _ _ _ _ _ done c.told-bytes c.args.at.part fits,
      ),
      omega (arith, length-take c.in_ok-n.n c.read.new.buf, c.in_ok-n.ensures.bound, c.if-n-eq0.false),
    )
