-- `Out::hex` meets its contract: the digits from k on are in, and those before k are what rest spells. Assumes nothing.
use Rattle.std.proofs.Common.{◌≡◌}
use Rattle.lines.proofs.Lines.{Spells}
use Rattle.lines.proofs.Out.hex.Given as goal

abbrev pub invariant-loop-k : goal.invariant-loop-k
invariant-loop-k l =
    Spells l.initial.self.bytes.now l.initial.self.at l.digits l.value l.self.bytes.now l.k l.rest
    × (l.self.at ≡ l.initial.self.at) × (l.self.bytes.ghost_name ≡ l.initial.self.bytes.ghost_name)
