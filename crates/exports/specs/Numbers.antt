-- How the calls' arguments and answers are given as numbers, so that a C caller sees nothing else (01, "Answer numbers": an answer is
-- its number; "any other number in its answer is 0, and any yes or no is no").
-- Laws: `proofs/Numbers.antt`. Assumes nothing.
use Rattle.std.specs.Prelude.{ℕ, ◌-◌, Bool, cond, not, List, [], ◌∷◌, eqb}
use Rattle.page_table.specs.declared.Backend.{Backend}
use Rattle.page_table.specs.declared.Backend.TheVariants.{Lazy, Linear}
use Rattle.area.specs.Answer.{Reply, reply}
use Rattle.area.specs.Area.{first_page, end_page}
use Rattle.area.specs.declared.Area.{Area}
use Rattle.area_list.specs.Layout.{word_of}

-- the same answer, its value in numbers
abbrev pub in_numbers : {A B : Type 0} → (A → B) → Reply A → Reply B
in_numbers form r = reply r.answer (form r.value)

-- a yes or no: 1 or 0
unfoldable pub yes_number : Bool → ℕ
yes_number b = cond b 1 0

-- an area: its start, end and flags, and its backend's word, "0 for lazy, 2^32 + delta for linear"
abbrev pub area_numbers : Area → List ℕ
area_numbers a = a.start ∷ a.end ∷ a.flags ∷ word_of a.backend ∷ []

-- an area's part of the page table: its first page, and how many pages
abbrev pub part_of : Area → List ℕ
part_of a = first_page a ∷ (end_page a - first_page a) ∷ []

-- 01: "A backend is lazy, or linear with a 32-bit delta": 0 is lazy, whatever the delta
unfoldable pub backend_from : ℕ → ℕ → Backend
backend_from linear delta = cond (eqb linear 0) Lazy (Linear delta)

-- any number but 0 is a yes
abbrev pub is_yes : ℕ → Bool
is_yes n = not (eqb n 0)
