-- 01, "Answer numbers": the numbers of the answers, and "Tests are made in this order; the first that applies is given, and none
-- is given otherwise". Laws: `proofs/Answers.antt`. Assumes nothing.
use Rattle.std.specs.Prelude.{ℕ, zero, suc, Bool, cond, List, [], ◌∷◌, Result, Ok, Err}
use Rattle.area.specs.declared.Refusal.{Refusal}
use Rattle.area.specs.declared.Refusal.TheVariants.{BadTables, NotAligned, InvalidParam, AlreadyExists, BadState, NoRoom, NotFound}

-- 01's table: No and Name of each refusal
abbrev pub number : Refusal → ℕ
number BadTables = 1
number NotAligned = 2
number InvalidParam = 3
number AlreadyExists = 4
number BadState = 5
number NoRoom = 6
number NotFound = 7

-- the number of an answer: "0 accepted", else the refusal's
abbrev pub number_of : {A : Type 0} → Result A Refusal → ℕ
number_of (Ok value) = 0
number_of (Err refusal) = number refusal

-- a row of 01's table: the number to refuse with, and when
pub record Test : Type 0 where
  pub gives : ℕ
  pub applies : Bool

abbrev pub refuse : ℕ → Bool → Test
refuse k applies = record { gives = k; applies = applies }

-- the first test that applies, else 0
unfoldable pub answer : List Test → ℕ
answer [] = 0
answer (t ∷ ts) = cond t.applies t.gives (answer ts)

-- ---- an answer with a value

pub record Reply (A : Type 0) : Type 0 where
  pub answer : ℕ
  pub value : A

abbrev pub reply : {A : Type 0} → ℕ → A → Reply A
reply n value = record { answer = n; value = value }

-- the value where the answer is 0, and what a refusal has in its place
unfoldable pub reply_by : {A : Type 0} → A → ℕ → A → Reply A
reply_by refused zero value = reply 0 value
reply_by refused (suc n) value = reply (suc n) refused

-- an answer as its number and its value; a refusal has another thing in the value's place
abbrev pub outcome : {A : Type 0} → A → Result A Refusal → Reply A
outcome refused (Ok value) = reply 0 value
outcome refused (Err refusal) = reply (number refusal) refused
