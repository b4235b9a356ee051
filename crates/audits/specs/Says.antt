-- What each verdict says of a dump, as facts: 02 (W1) in full. That the audit gives a verdict exactly when its facts hold is
-- `proofs/Verdicts.antt`. Assumes nothing.
use Rattle.std.specs.Prelude.{ℕ, suc, ◌<◌, ◌≡◌, true, false, List}
use Rattle.area_list.specs.Layout.{rows}
use Rattle.area_list.specs.Good.{space_of, good_rows, good_tables}
use Rattle.dumps.specs.Dump.{count_in, pages_in, words_in, entries_in}
use Rattle.agreement.specs.Agree.{Agrees}
use Rattle.audits.specs.Audit.{Sized}
use Rattle.audits.specs.declared.Verdict.{Verdict}
use Rattle.audits.specs.declared.Verdict.TheVariants.{Table, Area, Page, Good}

-- the tables of the dump are good
abbrev pub IsGoodDumped : List ℕ → Type 0
IsGoodDumped bytes = good_tables (words_in bytes) (count_in bytes) (pages_in bytes) ≡ true

-- a page's entry is what its area says, or 0 where no area lies
abbrev pub AgreesAt : List ℕ → ℕ → Type 0
AgreesAt bytes page = Agrees (rows (words_in bytes) (count_in bytes)) (entries_in bytes) page

-- `area N`: the N areas before are good, one after the other, and with this one they are not
pub record BreaksAt (bytes : List ℕ) (n : ℕ) : Type 0 where
  pub sized : Sized bytes
  pub within : n < count_in bytes
  pub before : good_rows (space_of (pages_in bytes)) 0 (words_in bytes) n ≡ true
  pub here : good_rows (space_of (pages_in bytes)) 0 (words_in bytes) (suc n) ≡ false

-- `page N`: the tables are good, every lower page agrees, and this one does not
pub record DisagreesAt (bytes : List ℕ) (n : ℕ) : Type 0 where
  pub sized : Sized bytes
  pub good : IsGoodDumped bytes
  pub within : n < pages_in bytes
  pub below : (page : ℕ) → page < n → AgreesAt bytes page
  pub here : AgreesAt bytes n → ⊥

-- `good`: "exactly when the tables are good and each page's entry is what its area says, or 0 where no area lies"
pub record GoodDump (bytes : List ℕ) : Type 0 where
  pub sized : Sized bytes
  pub good : IsGoodDumped bytes
  pub agree : (page : ℕ) → page < pages_in bytes → AgreesAt bytes page

abbrev pub Says : List ℕ → Verdict → Type 0
Says bytes Table = Sized bytes → ⊥
Says bytes (Area n) = BreaksAt bytes n
Says bytes (Page n) = DisagreesAt bytes n
Says bytes Good = GoodDump bytes
