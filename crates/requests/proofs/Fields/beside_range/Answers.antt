-- `Fields::beside_range` meets its contract. Assumes nothing.
use Rattle.requests.proofs.Requests.{one, both, handed}
use Rattle.requests.proofs.Fields.beside_range.Goals as goal

pub returns : goal.returns
returns c = both (handed c.from.ensures (both (both (both one one) one) one)) one
