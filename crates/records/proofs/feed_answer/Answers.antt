-- `feed_answer` meets its contract. Assumes nothing.
use mathlib.Core.Path.{refl}
use Rattle.records.proofs.Feeding.{feed_filled, feed_room, feed_passes}
use Rattle.records.proofs.feed_answer.Goals as goal

pub returns-then-filled-ge-RECORD : goal.returns-then-filled-ge-RECORD
returns-then-filled-ge-RECORD c = feed_filled _ _ _ _ refl c.if-filled-ge-RECORD.true

pub returns-then-out-filled : goal.returns-then-out-filled
returns-then-out-filled c = feed_room _ _ _ _ refl c.if-filled-ge-RECORD.false c.if-out-filled.true

pub returns : goal.returns
returns c = feed_passes _ _ _ _ refl c.if-filled-ge-RECORD.false c.if-out-filled.false
