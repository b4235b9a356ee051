-- `feed` meets its contract. Assumes nothing.
use mathlib.Core.Path.{◌≡◌, refl, sym}
use native.Mathlib.Omega.{arith}
use lib.ListN.{length}
use lib.Seq.{length-take-le}
use Rattle.std.proofs.lemmas.Result.{err_from_is_err_and}
use Rattle.area.proofs.Answers.{refusal_some}
use Rattle.rules.specs.Change.{tables}
use Prim.Native.Nat.{ℕ}
use Rattle.requests.specs.Request.{record_size}
use Rattle.records.specs.Feed.{feed_answer}
use Rattle.records.proofs.Feeding.{feed_size, feed_accepted, feed_refused, feed_done}
use Rattle.records.proofs.feed.Goals as goal

-- what is tested of 32 bytes is tested of those lent
tested : (size n filled input room : ℕ) → size ≡ record_size → n ≡ feed_answer record_size filled input room → n ≡ feed_answer size filled input room
tested size n filled input room long e = rw long e

pub returns-in_default : goal.returns-in_default
returns-in_default c =
    let done = feed_refused (tables c.args.areas.now c.args.pages.now c.args.count) c.args.bytes.now c.args.filled c.args.input.now c.args.out.now 3
    (feed_size _ _ _ _ c.in_default.ensures.cases) (λ z. omega arith) in
    record { bytes_after = done.0; put = done.1.0; filled_value = done.1.1 }

pub returns-in_err-feed_answer : goal.returns-in_err-feed_answer
returns-in_err-feed_answer c =
    let p = err_from_is_err_and c.from_residual.result c.from_residual.ensures.1 in
    let e = tested _ _ _ _ _ c.in-Some.ensures.cases.long c.in_err-feed_answer.ensures in
    let done = feed_refused (tables c.args.areas.now c.args.pages.now c.args.count) c.args.bytes.now c.args.filled c.args.input.now c.args.out.now _ e (refusal_some _) in
    rw (p.1, p.2, c.in-Some.ensures.cases.same) (record { bytes_after = done.0; put = done.1.0; filled_value = done.1.1 })

pub take_bytes-requires : goal.take_bytes-requires
take_bytes-requires c =
    let fits = feed_accepted _ c.args.filled (length c.args.input.now) (length c.args.out.now) (sym c.in_ok-feed_answer.ensures) in
    record { filled_lt_record_size = fits.1.0; input_in_bounds = fits.1.1 }

pub returns : goal.returns
returns c =
    let e = tested _ _ _ _ _ c.in-Some.ensures.cases.long c.in_ok-feed_answer.ensures in
    let held = length-take-le c.take_bytes.result.filled c.take_bytes.new.bytes (omega (arith, c.take_bytes.ensures.part_held, c.in-Some.ensures.cases.long)) in
    let done = feed_done (tables c.args.areas.now c.args.pages.now c.args.count) c.args.bytes.now c.args.filled c.args.input.now c.args.out.now
    0 e refl _ c.take_bytes.result.filled held _ _ (rw c.in-Some.ensures.cases.same at c.take_bytes.ensures.bytes_after) (rw c.in-Some.ensures.cases.same at c.take_bytes.ensures.put) in
    record { bytes_after = done.0; put = done.1.0; filled_value = done.1.1 }
