-- Laws of the reader: a byte more, many bytes, the room that they need, the listing. Assumes nothing.
use Prim.Native.Nat.{ℕ, zero, suc, ◌+◌, ◌≤◌, ◌<◌}
use mathlib.Core.Path.{◌≡◌, refl, sym, ap, ◌∙◌}
use mathlib.Core.List.{List, [], ◌∷◌, ◌++◌, append_assoc, append-nil}
use native.Mathlib.Numerals.{add-one}
use native.Mathlib.Omega.{arith}
use lib.Dec.{eqb, ltb}
use lib.ListN.{length, take, drop, set, get_or, length-set, length-append}
use lib.Seq.{take-suc-set, take_all, length-take-le, drop-cons, drop-length}
use borrow.Author.Tests.{lt-ltb, le-ltb, ltb-true, ltb-false, eq-eqb, ne_eqb, eqb-true, eqb-false}
use Rattle.lists.proofs.Every.{by_test}
use Rattle.lists.proofs.Over.{over_nothing}
use Rattle.area.specs.Answer.{answer, Reply, reply}
use Rattle.std.specs.Prelude.{Result, Ok, Err, IsOk}
use Rattle.area.proofs.Answers.{reply_accepted, reply_refused, reply_zero, refusal_some}
use Rattle.area.specs.declared.Refusal.{Refusal}
use Rattle.records.specs.declared.Fed.{Fed}
use Rattle.rules.specs.Change.{Tables}
use Rattle.lines.specs.Line.{Put}
use Rattle.requests.specs.Request.{record_size}
use Rattle.runs.specs.Step.{Ran, step_rule}
use Rattle.runs.proofs.Steps.{step_short}
use Rattle.records.specs.Feed.{Session, session, Heard, heard, whole_record, took, next_filled, after, takes, room_for, feed_answer, fed_outcome, feed_rule, settled, filled_after, fed_filled}
use Rattle.lines.proofs.Lines.{puts, put_then}

pub put_nothing : (out : List ℕ) (at : ℕ) → at ≤ length out → Put out at [] out at
put_nothing out at h = puts out at [] out at (omega arith) (sym (over_nothing out at)) (omega arith)

-- ---- a byte more

module _ (t : Tables) (bytes : List ℕ) (filled byte : ℕ) (long : length bytes ≡ record_size) where
  held_more : filled < record_size → take (filled + 1) (set bytes filled byte) ≡ take filled bytes ++ (byte ∷ [])
  held_more h = rw (add-one filled) (take-suc-set bytes filled byte (omega arith))

  held_length : filled < record_size → length (take filled bytes) ≡ filled
  held_length h = length-take-le filled bytes (omega arith)

  pub took_part : filled + 1 < record_size → took (session t (take filled bytes)) byte ≡ heard (session t (take (filled + 1) (set bytes filled byte))) []
  unfolding took
  took_part h = rw (held_length (omega arith), lt-ltb (filled + 1) record_size h, held_more (omega arith))

  pub took_whole : filled + 1 ≡ record_size → took (session t (take filled bytes)) byte ≡ whole_record (step_rule t (set bytes filled byte))
  unfolding took
  took_whole e =
      let whole : set bytes filled byte ≡ take filled bytes ++ (byte ∷ []) =
      sym (take_all (filled + 1) (set bytes filled byte) (omega (arith, length-set bytes filled byte))) ∙ held_more (omega arith) in
      rw (held_length (omega arith), le-ltb (filled + 1) record_size (omega arith), whole)

  pub part_done : filled + 1 < record_size → (out : List ℕ) (at : ℕ) → at ≤ length out
      → (session t (take (filled + 1) (set bytes filled byte)) ≡ (took (session t (take filled bytes)) byte).session)
      × (Put out at (took (session t (take filled bytes)) byte).said out at × (filled + 1 ≡ next_filled filled))
  part_done h out at r =
      (ap (λ (x : Heard). x.session) (sym (took_part h)), (rw (took_part h) (put_nothing out at r), rw (lt-ltb (filled + 1) record_size h)))

  pub whole_done : (r : Ran) → r ≡ step_rule t (set bytes filled byte) → filled + 1 ≡ record_size → {out out' : List ℕ} {at at' : ℕ} → Put out at r.line out' at'
      → (session r.tables [] ≡ (took (session t (take filled bytes)) byte).session)
      × (Put out at (took (session t (take filled bytes)) byte).said out' at' × (0 ≡ next_filled filled))
  whole_done r e h p =
      let said : whole_record r ≡ took (session t (take filled bytes)) byte = ap whole_record e ∙ sym (took_whole h) in
      (ap (λ (x : Heard). x.session) said, (rw (← said) p, rw (le-ltb (filled + 1) record_size (omega arith))))

-- room for a piece is room for its first byte and for the rest
pub took_room : (s : Session) (byte m filled : ℕ) → length s.held ≡ filled → filled < record_size
    → length (took s byte).said + room_for (next_filled filled + m) ≤ room_for (filled + suc m)
unfolding took
took_room s byte m filled e h =
    by_test (ltb (filled + 1) record_size)
    (λ p. rw (e, p) (omega arith))
    (λ p. rw (e, p) (omega (arith, step_short s.tables (s.held ++ (byte ∷ [])), ltb-false (filled + 1) record_size p)))

-- ---- many bytes

-- the loop over a piece: k bytes are taken, and what they said is put
pub record Feeds (s₀ : Session) (input out₀ : List ℕ) (s : Session) (out : List ℕ) (at k : ℕ) : Type 0 where
  pub said : List ℕ
  pub upto : k ≤ length input
  pub whole : takes s₀ input ≡ after said (takes s (drop k input))
  pub put : Put out₀ 0 said out at

pub feeds_begin : (s : Session) (input out : List ℕ) → Feeds s input out s out 0 0
feeds_begin s input out = record { said = []; upto = omega arith; whole = refl; put = put_nothing out 0 (omega arith) }

module _ {s₀ : Session} {input out₀ : List ℕ} {s : Session} {out : List ℕ} {at k : ℕ} (f : Feeds s₀ input out₀ s out at k) where
  next_byte : k < length input → (byte : ℕ) → byte ≡ get_or input k 0 → (s' : Session) → s' ≡ (took s byte).session
      → takes s (drop k input) ≡ after (took s byte).said (takes s' (drop (k + 1) input))
  unfolding takes
  next_byte h byte b s' e = rw (drop-cons input k 0 h, e, b, add-one k)

  pub feeds_on : k < length input → (byte : ℕ) → byte ≡ get_or input k 0 → (s' : Session) → s' ≡ (took s byte).session
      → {out' : List ℕ} {at' : ℕ} → Put out at (took s byte).said out' at' → Feeds s₀ input out₀ s' out' at' (k + 1)
  feeds_on h byte b s' e p =
      record {
        said = f.said ++ (took s byte).said;
        upto = omega arith;
        whole = f.whole ∙ rw (next_byte h byte b s' e, append_assoc f.said (took s byte).said (takes s' (drop (k + 1) input)).said);
        put = put_then f.put p;
      }

  ended : length input ≤ k → after f.said (takes s (drop k input)) ≡ heard s f.said
  unfolding takes
  ended h =
      let all : length input ≡ k = omega (arith, f.upto) in
      rw (← all, drop-length input, append-nil f.said)

  pub feeds_end : length input ≤ k → (s ≡ (takes s₀ input).session) × Put out₀ 0 (takes s₀ input).said out at
  feeds_end h =
      let all : takes s₀ input ≡ heard s f.said = f.whole ∙ ended h in
      (sym (ap (λ (x : Heard). x.session) all), rw all f.put)

pub next_part : (filled : ℕ) → next_filled filled < record_size
next_part filled = by_test (ltb (filled + 1) record_size) (λ p. rw p (ltb-true _ _ p)) (λ p. rw p (omega arith))

-- the room that is left does for the rest
pub room_on : (t : Tables) (bytes : List ℕ) (filled byte rest : ℕ) → length bytes ≡ record_size → filled < record_size
    → {out out' : List ℕ} {at at' filled' : ℕ} → Put out at (took (session t (take filled bytes)) byte).said out' at' → filled' ≡ next_filled filled
    → at' + room_for (filled' + rest) ≤ at + room_for (filled + suc rest)
room_on t bytes filled byte rest long part p e =
    rw e
    (omega (arith, took_room (session t (take filled bytes)) byte rest filled (length-take-le filled bytes (omega arith)) part, p.past))

-- ---- a piece of input

module _ (size filled input room : ℕ) where
  pub feed_size : (size ≡ record_size → ⊥) → 3 ≡ feed_answer size filled input room
  unfolding feed_answer answer
  feed_size h = sym (rw (ne_eqb size record_size h))

  module _ (whole : size ≡ record_size) where
    pub feed_filled : record_size ≤ filled → 3 ≡ feed_answer size filled input room
    unfolding feed_answer answer
    feed_filled h = sym (rw (eq-eqb size record_size whole, le-ltb filled record_size h))

    pub feed_room : filled < record_size → room < room_for (filled + input) → 6 ≡ feed_answer size filled input room
    unfolding feed_answer answer
    feed_room h r = sym (rw (eq-eqb size record_size whole, lt-ltb filled record_size h, lt-ltb room (room_for (filled + input)) r))

    pub feed_passes : filled < record_size → room_for (filled + input) ≤ room → 0 ≡ feed_answer size filled input room
    unfolding feed_answer answer
    feed_passes h r = sym (rw (eq-eqb size record_size whole, lt-ltb filled record_size h, le-ltb room (room_for (filled + input)) r))

  pub feed_accepted : feed_answer size filled input room ≡ 0 → (size ≡ record_size) × ((filled < record_size) × (room_for (filled + input) ≤ room))
  feed_accepted z =
      by_test (eqb size record_size)
      (λ p. by_test (ltb filled record_size)
      (λ q. by_test (ltb room (room_for (filled + input)))
      (λ r. absurd (omega (arith, z, feed_room (eqb-true _ _ p) (ltb-true _ _ q) (ltb-true _ _ r))))
      (λ r. (eqb-true _ _ p, (ltb-true _ _ q, ltb-false _ _ r))))
      (λ q. absurd (omega (arith, z, feed_filled (eqb-true _ _ p) (ltb-false _ _ q)))))
      (λ p. absurd (omega (arith, z, feed_size (eqb-false _ _ p))))

filled_kept : (filled n : ℕ) (s : Session) → (n ≡ 0 → ⊥) → filled ≡ filled_after filled n s
unfolding filled_after
filled_kept filled zero s h = absurd (h refl)
filled_kept filled (suc n) s h = refl

filled_held : (filled n : ℕ) (s : Session) → n ≡ 0 → length s.held ≡ filled_after filled n s
unfolding filled_after
filled_held filled n s z = sym (rw z)

module _ (t : Tables) (bytes : List ℕ) (filled : ℕ) (input out : List ℕ) (n : ℕ) (e : n ≡ feed_answer (length bytes) filled (length input) (length out)) where
  pub feed_refused : (n ≡ 0 → ⊥)
      → (reply n (session t (take filled bytes)) ≡ settled (feed_rule t bytes filled input (length out)))
      × (Put out 0 (feed_rule t bytes filled input (length out)).value.said out 0
      × (filled ≡ fed_filled filled (feed_rule t bytes filled input (length out))))
  unfolding feed_rule
  feed_refused h =
      let rule : reply n (heard (session t (take filled bytes)) []) ≡ feed_rule t bytes filled input (length out) =
      rw e (reply_refused (heard (session t (take filled bytes)) []) _ (takes (session t (take filled bytes)) input) (λ z. h (e ∙ z))) in
      (ap settled rule, (rw (← rule) (put_nothing out 0 (omega arith)), rw (← rule) (filled_kept filled n (session t (take filled bytes)) h)))

  pub feed_done : n ≡ 0 → (s : Session) (filled' : ℕ) → length s.held ≡ filled' → (out' : List ℕ) (at : ℕ)
      → s ≡ (takes (session t (take filled bytes)) input).session → Put out 0 (takes (session t (take filled bytes)) input).said out' at
      → (reply n s ≡ settled (feed_rule t bytes filled input (length out)))
      × (Put out 0 (feed_rule t bytes filled input (length out)).value.said out' at
      × (filled' ≡ fed_filled filled (feed_rule t bytes filled input (length out))))
  unfolding feed_rule
  feed_done z s filled' l out' at d p =
      let rule : reply n (takes (session t (take filled bytes)) input) ≡ feed_rule t bytes filled input (length out) =
      rw e (reply_accepted (heard (session t (take filled bytes)) []) _ (takes (session t (take filled bytes)) input) (sym e ∙ z)) in
      (rw d (ap settled rule), (rw (← rule) p, rw (← rule, ← d) (sym l ∙ filled_held filled n s z)))

-- ---- one piece of input after the other

pub takes_append : (s : Session) (input more : List ℕ) → (takes s (input ++ more)).session ≡ (takes (takes s input).session more).session
unfolding takes
takes_append s [] more = refl
takes_append s (byte ∷ input) more = takes_append (took s byte).session input more

-- ---- what is held is part of a record

took_holds : (s : Session) (byte : ℕ) → length (took s byte).session.held < record_size
unfolding took
took_holds s byte =
    by_test (ltb (length s.held + 1) record_size)
    (λ p. rw p (omega (arith, length-append s.held (byte ∷ []), ltb-true (length s.held + 1) record_size p)))
    (λ p. rw p (omega arith))

takes_holds : (s : Session) (input : List ℕ) → length s.held < record_size → length (takes s input).session.held < record_size
unfolding takes
takes_holds s [] h = h
takes_holds s (byte ∷ input) h = takes_holds (took s byte).session input (took_holds s byte)

-- a piece that finds room is accepted, and leaves part of a record again
module _ (t : Tables) (bytes : List ℕ) (filled : ℕ) (input : List ℕ) (room : ℕ)
    (long : length bytes ≡ record_size) (part : filled < record_size) (fits : room_for (filled + length input) ≤ room) where
  fed : reply 0 (takes (session t (take filled bytes)) input) ≡ feed_rule t bytes filled input room
  unfolding feed_rule
  fed =
      reply_zero (heard (session t (take filled bytes)) []) _ (takes (session t (take filled bytes)) input)
      (sym (feed_passes (length bytes) filled (length input) room long part fits))

  pub fed_answer : (feed_rule t bytes filled input room).answer ≡ 0
  fed_answer = ap (λ (r : Reply Heard). r.answer) (sym fed)

  fed_holds : length (feed_rule t bytes filled input room).value.session.held < record_size
  fed_holds = rw (← fed) (takes_holds (session t (take filled bytes)) input (omega (arith, length-take-le filled bytes (omega arith))))

pub fed_ok : (t : Tables) (bytes : List ℕ) (filled : ℕ) (input : List ℕ) (room count : ℕ) (r : Result Fed Refusal) (s : Session)
    → reply (fed_outcome count filled r).answer s ≡ settled (feed_rule t bytes filled input room)
    → length bytes ≡ record_size → filled < record_size → room_for (filled + length input) ≤ room → IsOk r
fed_ok t bytes filled input room count (Ok f) s e long part fits = refl
fed_ok t bytes filled input room count (Err refusal) s e long part fits =
    absurd (refusal_some refusal (ap (λ (r : Reply Session). r.answer) e ∙ fed_answer t bytes filled input room long part fits))

pub fed_leaves : (t : Tables) (bytes : List ℕ) (filled : ℕ) (input : List ℕ) (room n : ℕ) (s : Session)
    → reply n s ≡ settled (feed_rule t bytes filled input room)
    → length bytes ≡ record_size → filled < record_size → room_for (filled + length input) ≤ room → length s.held < record_size
fed_leaves t bytes filled input room n s e long part fits =
    rw (ap (λ (r : Reply Session). r.value.held) e) (fed_holds t bytes filled input room long part fits)

-- and its session is that of the bytes taken
pub fed_takes : (t : Tables) (bytes : List ℕ) (filled : ℕ) (input : List ℕ) (room n : ℕ) (s : Session)
    → reply n s ≡ settled (feed_rule t bytes filled input room)
    → length bytes ≡ record_size → filled < record_size → room_for (filled + length input) ≤ room
    → s ≡ (takes (session t (take filled bytes)) input).session
fed_takes t bytes filled input room n s e long part fits =
    ap (λ (r : Reply Session). r.value) (e ∙ ap settled (sym (fed t bytes filled input room long part fits)))
