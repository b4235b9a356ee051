-- `audit_next` meets its contract: the bytes lost are those of the length, and then those of the dump. Assumes nothing.
use Rattle.std.proofs.KnownBytes.{Consumes-trans}
use Rattle.audit_cases.proofs.audit_next.Goals as goal

pub returns-in_err-audit_part : goal.returns-in_err-audit_part
returns-in_err-audit_part g c = (_, Consumes-trans _ _ _ _ _ c.in_ok-n.ensures.ok.1 c.audit_part.ensures.1.1)

pub returns : goal.returns
returns g c = (_, Consumes-trans _ _ _ _ _ c.in_ok-n.ensures.ok.1 c.audit_part.ensures.1.1)
