-- Laws of the calls on numbers: every number of a refusal is 0, the pages told are those that `entries` gives, and no second outcome
-- meets a promise. Assumes nothing.
use Prim.Native.Nat.{ℕ, zero, suc, ◌+◌, ◌≤◌}
use mathlib.Core.Path.{◌≡◌, refl, sym, ap, ◌∙◌}
use mathlib.Core.Bool.{Bool, true, false}
use mathlib.Core.List.{List, [], ◌∷◌}
use native.Mathlib.Omega.{arith}
use lib.ListN.{length, get_or, take, drop}
use Rattle.std.specs.Prelude.{Result, Ok, Err}
use Rattle.std.specs.Result.{result_unwrap_or}
use Rattle.std.specs.Int.{from_bool}
use Rattle.area.specs.Answer.{outcome, Reply, reply, reply_by}
use Rattle.area.specs.declared.Refusal.{Refusal}
use Rattle.area.specs.Area.{first_page, end_page, nothing}
use Rattle.area.specs.declared.Area.{Area}
use Rattle.area_list.specs.Layout.{word_of}
use Rattle.questions.specs.Question.{find_rule, entries_of, entries_rule}
use Rattle.questions.proofs.Questions.{find_inside}
use Rattle.exports.specs.Numbers.{in_numbers, yes_number, area_numbers, part_of}

-- ---- an answer

pub value_of : {A : Type 0} (refused : A) (r : Result A Refusal) → result_unwrap_or r refused ≡ (outcome refused r).value
value_of refused (Ok value) = refl
value_of refused (Err refusal) = refl

pub yes_is : (b : Bool) → from_bool b ≡ yes_number b
unfolding yes_number
yes_is true = refl
yes_is false = refl

-- ---- a refusal

-- a refused rule keeps its number, and its value is the refusal's in numbers
pub refused : {A B : Type 0} (form : A → B) (none value : A) (n : ℕ) → (n ≡ 0 → ⊥)
    → in_numbers form (reply_by none n value) ≡ reply n (form none)
unfolding reply_by
refused form none value zero h = absurd (h refl)
refused form none value (suc n) h = refl

-- and that is 0 throughout
pub no_is_0 : yes_number false ≡ 0
unfolding yes_number
no_is_0 = refl

pub nothing_is_0 : area_numbers nothing ≡ 0 ∷ 0 ∷ 0 ∷ 0 ∷ []
unfolding word_of
nothing_is_0 = refl

pub no_part_is_0 : part_of nothing ≡ 0 ∷ 0 ∷ []
no_part_is_0 = refl

-- ---- the pages of the area that find gives

-- it does not end before it starts
pub pages_ordered : (areas pages : List ℕ) (count address : ℕ) (a : Area) → a ≡ (find_rule areas pages count address).value → first_page a ≤ end_page a
pages_ordered areas pages count address a found = rw found (let i = find_inside areas pages count address in omega arith)

module _ (areas pages : List ℕ) (count address r first number : ℕ)
    (said : reply r (first ∷ number ∷ []) ≡ in_numbers part_of (find_rule areas pages count address)) where
  at : (k : ℕ) → get_or (first ∷ number ∷ []) k 0 ≡ get_or (part_of (find_rule areas pages count address).value) k 0
  at k = ap (λ (o : Reply (List ℕ)). get_or o.value k 0) said

  -- what is told is the part that `entries` gives
  pub told_entries : take number (drop first pages) ≡ entries_rule areas pages count address
  unfolding entries_rule entries_of
  told_entries = rw (at 0, at 1)

  pub told_inside : first + number ≤ length pages
  told_inside = let i = find_inside areas pages count address in omega (arith, at 0, at 1)

-- ---- no second outcome: each promise equates a number and a value with a rule, which fixes both

pub record OneReply {A : Type 0} (m n : ℕ) (v w : A) : Type 0 where
  pub numbers : m ≡ n
  pub values : v ≡ w

pub one_reply : {A : Type 0} (m n : ℕ) (v w : A) {rule : Reply A} → reply m v ≡ rule → reply n w ≡ rule → OneReply m n v w
one_reply m n v w e f = record { numbers = λ i. ((e ∙ sym f) i).answer; values = λ i. ((e ∙ sym f) i).value }
