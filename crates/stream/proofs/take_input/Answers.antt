-- `take_input` meets its contract: where a reader fails, what is promised of it stands for standard input too. Assumes nothing.
use Rattle.std.proofs.lemmas.Result.{on_err_weaker}
use Rattle.stream.proofs.Reading.{comes_unsaid}
use Rattle.stream.proofs.take_input.Goals as goal

pub returns-clause-err : goal.returns-clause-err
returns-clause-err g c =
    on_err_weaker c.take_all.result (λ p. (p.0, p.1, comes_unsaid _ _ _ _ _ p.2)) c.take_all.ensures.err
