-- `Fields::search` meets its contract. Assumes nothing.
use native.Mathlib.Omega.{arith}
use mathlib.Core.Path.{◌∙◌}
use lib.Pow.{shl_exact}
use Rattle.requests.proofs.Requests.{one, both, handed, unless_is, search_fits}
use Rattle.requests.proofs.Fields.search.Goals as goal

pub returns : goal.returns
returns c =
    c.unless.ensures ∙ unless_is _ (handed c.from.ensures (both (both one one) one))
    ∙ search_fits c.args.self _ (omega (arith, shl_exact {a = 1} 1 c.args.self.clear 64 (omega arith) (omega arith)))
    c.if-self-gt-MAX_EXPONENT.false
