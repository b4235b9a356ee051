-- `Fields::asked` meets its contract: where more is unused than beside a range, the fields tested together are those of the rule.
-- Assumes nothing.
use mathlib.Core.Path.{sym, ◌∙◌}
use Rattle.requests.proofs.Requests.{one, both, handed, unless_is, by_op}
use Rattle.requests.specs.Request.{chosen}
use Rattle.requests.proofs.Fields.asked.Goals as goal

pub returns-in-4 : goal.returns-in-4
unfolding chosen
returns-in-4 c =
    c.unless-in-4.ensures ∙ unless_is _ (both (handed c.from.ensures (both one one)) one) ∙ sym (by_op c.args.self 4 c.in-4.is)

pub returns-in-5 : goal.returns-in-5
unfolding chosen
returns-in-5 c = c.unless-in-5.ensures ∙ unless_is _ (both one c.beside_range-in-5.ensures) ∙ sym (by_op c.args.self 5 c.in-5.is)

pub returns-in-8 : goal.returns-in-8
unfolding chosen
returns-in-8 c =
    c.unless-in-8.ensures ∙ unless_is _ (both (both one one) c.beside_range-in-8.ensures) ∙ sym (by_op c.args.self 8 c.in-8.is)
