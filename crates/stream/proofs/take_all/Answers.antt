-- `take_all` meets its contract: block by block, the input so far led to the tables. Assumes nothing.
use Rattle.std.proofs.Common.{rules, take, refl, arith}
use Rattle.std.proofs.KnownBytes.{Consumes-nil}
use Rattle.stream.proofs.Reading.{runs_none, runs_on, blocks_on, on_err}
use Rattle.stream.proofs.take_all.Goals as goal

pub loop-init : goal.loop-init
loop-init g c = record { part = search rules; whole = search rules; taken = (runs_none _ _ _ (Consumes-nil _), omega arith) }

pub returns-in_err-next-clause-err : goal.returns-in_err-next-clause-err
returns-in_err-next-clause-err g c =
    let left = c.in_err-next.ensures.err in
    on_err c.from_residual.result
    (left.0.count, _, (take left.0.filled c.take_block.new.bytes, runs_on _ _ _ _ _ _ c.loop.invariant.taken.0 left.1, refl))

pub loop-preserved : goal.loop-preserved
loop-preserved g c = record {
  part = c.in-Some.next.part;
  whole = search rules;
  taken = blocks_on _ _ _ _ _ _ _ c.loop.invariant.taken (rw c.in-Some.is at c.in_ok-next.ensures.ok);
}

pub returns-clause-ok : goal.returns-clause-ok
returns-clause-ok g c = (
  (take c.loop.at.1.0 c.loop.bytes, c.loop.invariant.taken.0, search rules),
  λ short. absurd (omega (arith, c.loop.invariant.taken.1, short)),
)

pub returns-in-None-clause-ok : goal.returns-in-None-clause-ok
returns-in-None-clause-ok g c =
    let ended = runs_on _ _ _ _ _ _ c.loop.invariant.taken.0 (rw c.in-None.is at c.in_ok-next.ensures.ok) in
    ((take c.loop.at.1.0 c.take_block.new.bytes, ended, search rules), λ _. rw c.in-None.is at c.in_ok-next.ensures.end)
