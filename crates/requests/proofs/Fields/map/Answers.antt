-- `Fields::map` meets its contract. Assumes nothing.
use mathlib.Core.Path.{sym, ◌∙◌}
use Rattle.requests.proofs.Requests.{one, both, handed, unless_is, map_some, map_none}
use Rattle.requests.proofs.Fields.map.Goals as goal

pub returns-in-Some : goal.returns-in-Some
returns-in-Some c =
    c.unless.ensures ∙ unless_is _ (both (handed c.from.ensures one) one)
    ∙ map_some c.args.self _ (sym c.backend.ensures ∙ c.in-Some.is) c.args.replace

pub returns-in-None : goal.returns-in-None
returns-in-None c = map_none c.args.self (sym c.backend.ensures ∙ c.in-None.is) c.args.replace
