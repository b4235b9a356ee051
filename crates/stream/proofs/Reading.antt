-- Laws of what reading leaves: nothing read yet, a read more, a failed read, one block after the other. Assumes nothing.
use Rattle.std.proofs.Common.{◌≡◌, ℕ, ◌+◌, ◌<◌, ◌≤◌, List, [], ◌++◌, Option, None, Result, Ok, Err, OnErr, length, take, refl, sym, ap, ◌∙◌, subst, arith, length-take-le}
use Rattle.std.proofs.lemmas.Slice.{take-put_mid}
use Rattle.std.specs.Io.KnownBytes.{Consumes, Keeps}
use Rattle.std.proofs.KnownBytes.{Consumes-nil, Consumes-trans, Consumes-kept}
use borrow.Rule.Slice.PartMut.{put_mid}
use lib.ListN.{length-append, length-take}
use lib.Seq.{take-take, take-append-add}
use Rattle.requests.specs.Request.{record_size}
use Rattle.rules.specs.Change.{Tables}
use Rattle.records.specs.Feed.{Session, takes, room_for}
use Rattle.records.proofs.Feeding.{takes_append}
use Rattle.stream.specs.Reading.{Runs, RunsSome, Comes, Fills}

-- ---- a buffer

-- a part with n bytes read is put after the k that are filled
module _ (a b c : Option (List ℕ)) (buf part : List ℕ) (k room : ℕ) (filled : Fills a b buf k) where
  more : (n : ℕ) → n ≤ length part → take (k + n) (put_mid k room buf part) ≡ take k buf ++ take n part
  more n fits =
      sym (take-take (k + n) (k + length part) (put_mid k room buf part) (omega arith))
      ∙ ap (take (k + n)) (take-put_mid k room buf part (k + length part) refl filled.0)
      ∙ ap (λ m. take (m + n) (take k buf ++ part)) (sym (length-take-le k buf filled.0))
      ∙ take-append-add (take k buf) part n

  pub fills_more : (n : ℕ) → n ≤ length part → k + n ≤ length (put_mid k room buf part) → Consumes b c (take n part)
      → Fills a c (put_mid k room buf part) (k + n)
  fills_more n fits within read =
      (within, subst (Consumes a c) (sym (more n fits)) (Consumes-trans a b c (take k buf) (take n part) filled.1 read))

-- ---- the records

-- the lines of a block fit, however much of it was read
pub block_fits : (filled n : ℕ) (buf : List ℕ) → filled < record_size → length buf ≤ 32768 → room_for (filled + length (take n buf)) ≤ 65536
block_fits filled n buf part long = omega (arith, length-take n buf)

-- as many bytes as are filled are held, so a part of a record is
pub part_of : (filled : ℕ) (old bytes : List ℕ) → length old ≡ record_size → length bytes ≡ length old → length (take filled bytes) < record_size
    → filled < record_size
part_of filled old bytes long kept part = omega (arith, length-take filled bytes)

-- no byte leads anywhere
pub runs_none : (a b : Option (List ℕ)) (s : Session) → Consumes a b [] → Runs a b s s
unfolding takes
runs_none a b s none = ([], none, refl)

pub runs_kept : (a b : Option (List ℕ)) (s : Session) → Keeps a b → Runs a b s s
runs_kept a b s kept = runs_none a b s (Consumes-kept a a b [] (Consumes-nil a) kept)

pub runs_nothing : (a b : Option (List ℕ)) (s : Session) (n : ℕ) (buf : List ℕ) → n ≡ 0 → Consumes a b (take n buf) → Runs a b s s
runs_nothing a b s n buf none read = runs_none a b s (subst (λ m. Consumes a b (take m buf)) none read)

-- a block more
abbrev pub runs_on : (a b c : Option (List ℕ)) (s s' s'' : Session) → Runs a b s s' → Runs b c s' s'' → Runs a c s s''
runs_on a b c s s' s'' f r =
    (f.0 ++ r.0, Consumes-trans a b c f.0 r.0 f.1 r.1, r.2 ∙ ap (λ t. (takes t r.0).session) f.2 ∙ sym (takes_append s f.0 r.0))

-- each a byte or more
pub blocks_on : (a b c : Option (List ℕ)) (s s' s'' : Session) (k : ℕ) → (f : Runs a b s s') × (k ≤ length f.0) → RunsSome b c s' s''
    → (r : Runs a c s s'') × (k + 1 ≤ length r.0)
blocks_on a b c s s' s'' k f r = (runs_on a b c s s' s'' f.0 r.0, omega (arith, f.1, r.1, length-append f.0.0 r.0.0))

-- what is promised of a reader holds too where nobody knows what it had
pub comes_unsaid : (a b : Option (List ℕ)) (s : Session) (t : Tables) (filled : ℕ) → Comes a b s t filled → Comes None None s t filled
comes_unsaid a b s t filled p = (p.0, (p.1.0, tt, p.1.2), p.2)

-- ---- an error

pub on_err : {A E : Type 0} (r : Result A E) {P : Type 0} → P → OnErr r P
on_err (Ok a) p = tt
on_err (Err e) p = p
