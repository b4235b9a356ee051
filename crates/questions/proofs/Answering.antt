-- Laws of the tests that calls have in common: each answer from its test, and what passing them tells. Assumes nothing.
use Prim.Native.Nat.{ℕ, ◌+◌, ◌%◌, ◌≤◌, ◌<◌}
use mathlib.Core.Path.{◌≡◌, refl, sym, ◌∙◌}
use Rattle.lists.proofs.Every.{by_test}
use mathlib.Core.Bool.{Bool, true, false, and-false}
use mathlib.Core.List.{List, [], ◌∷◌, ◌++◌}
use native.Mathlib.Omega.{arith}
use native.Mathlib.Decide.{ℕ_discrete, dec_le}
use lib.Dec.{eqb}
use lib.ListN.{length}
use borrow.Author.Tests.{lt-ltb, le-ltb, eq-eqb, ne_eqb}
use Rattle.page_table.specs.Limits.{page_size, max_pages}
use Rattle.area.specs.Answer.{Test, refuse, answer}
use Rattle.area.specs.Area.{aligned}
use Rattle.area_list.specs.Good.{space_of, good_tables}
use Rattle.area_list.specs.Layout.{max_areas, capacity_of}
use Rattle.area_list.proofs.Goodness.{tables_are}
use Rattle.questions.specs.Tests.{tables_answer, range_tests, range_answer}

-- ---- a list of tests, each with one of 01's numbers from 1 to 7

pub record Refusal (k : ℕ) : Type 0 where
  pub some : 0 < k
  pub known : k ≤ 7

pub data Refuses : List Test → Type 0 where
  no_test : Refuses []
  one_test : (k : ℕ) (b : Bool) {ts : List Test} → Refusal k → Refuses ts → Refuses (refuse k b ∷ ts)

-- the answer is one of 01's numbers
pub answer_known : {ts : List Test} → Refuses ts → answer ts ≤ 7
unfolding answer
answer_known no_test = omega arith
answer_known (one_test k true p r) = p.known
answer_known (one_test k false p r) = answer_known r

-- tests after the list count where none of it applies
pub answer_then : {ts : List Test} (us : List Test) → Refuses ts → answer ts ≡ 0 → answer (ts ++ us) ≡ answer us
unfolding answer
answer_then us no_test e = refl
answer_then us (one_test k true p r) e = absurd (omega arith)
answer_then us (one_test k false p r) e = answer_then us r e

pub answer_stops : {ts : List Test} (us : List Test) → Refuses ts → (answer ts ≡ 0 → ⊥) → answer (ts ++ us) ≡ answer ts
unfolding answer
answer_stops us no_test h = absurd (h refl)
answer_stops us (one_test k true p r) h = refl
answer_stops us (one_test k false p r) h = answer_stops us r h

pub range_refuses : (areas pages : List ℕ) (count start size : ℕ) → Refuses (range_tests areas pages count start size)
range_refuses areas pages count start size = one_test 1 _ (omega arith) (one_test 2 _ (omega arith) (one_test 3 _ (omega arith) no_test))

-- ---- calls without arguments

module _ (areas pages : List ℕ) (count : ℕ) where
  pub tables_bad : good_tables areas count (length pages) ≡ false → tables_answer areas pages count ≡ 1
  unfolding tables_answer answer
  tables_bad g = rw g

  pub tables_good : good_tables areas count (length pages) ≡ true → tables_answer areas pages count ≡ 0
  unfolding tables_answer answer
  tables_good g = rw g

  pub tables_passed : tables_answer areas pages count ≡ 0 → good_tables areas count (length pages) ≡ true
  tables_passed z = by_test (good_tables areas count (length pages)) (λ g. g) (λ g. absurd (let e : tables_answer areas pages count ≡ 1 = tables_bad g in omega arith))

-- ---- calls on a range: each section adds that one more test did not apply

module _ (areas pages : List ℕ) (count start size : ℕ) where
  pub range_bad : good_tables areas count (length pages) ≡ false → range_answer areas pages count start size ≡ 1
  unfolding range_answer answer
  range_bad g = rw g

  -- tables that are refused are refused first
  pub range_first : (tables_answer areas pages count ≡ 0 → ⊥) → tables_answer areas pages count ≡ range_answer areas pages count start size
  range_first h =
      by_test (good_tables areas count (length pages)) (λ g. absurd (h (tables_good areas pages count g)))
      (λ g. tables_bad areas pages count g ∙ sym (range_bad g))

  module _ (g : good_tables areas count (length pages) ≡ true) where
    pub start_unaligned : (start % page_size ≡ 0 → ⊥) → range_answer areas pages count start size ≡ 2
    unfolding range_answer answer aligned
    start_unaligned u = rw (g, ne_eqb (start % page_size) 0 u)

    pub size_unaligned : (size % page_size ≡ 0 → ⊥) → range_answer areas pages count start size ≡ 2
    unfolding range_answer answer aligned
    size_unaligned u = rw (g, ne_eqb (size % page_size) 0 u, and-false (eqb (start % page_size) 0))

    module _ (s : start % page_size ≡ 0) (z : size % page_size ≡ 0) where
      pub range_past : space_of (length pages) < start + size → range_answer areas pages count start size ≡ 3
      unfolding range_answer answer aligned
      range_past h = rw (g, eq-eqb (start % page_size) 0 s, eq-eqb (size % page_size) 0 z, lt-ltb (space_of (length pages)) (start + size) h)

      pub range_inside : start + size ≤ space_of (length pages) → range_answer areas pages count start size ≡ 0
      unfolding range_answer answer aligned
      range_inside h = rw (g, eq-eqb (start % page_size) 0 s, eq-eqb (size % page_size) 0 z, le-ltb (space_of (length pages)) (start + size) h)

-- what an accepted range tells
pub record Range (areas pages : List ℕ) (count start size : ℕ) : Type 0 where
  pub tables : good_tables areas count (length pages) ≡ true
  pub start_aligned : start % page_size ≡ 0
  pub size_aligned : size % page_size ≡ 0
  pub inside : start + size ≤ space_of (length pages)

range_by : (areas pages : List ℕ) (count start size : ℕ) (b : Bool) → good_tables areas count (length pages) ≡ b
    → range_answer areas pages count start size ≡ 0 → Range areas pages count start size
range_by areas pages count start size false g e = absurd (let f : range_answer areas pages count start size ≡ 1 = range_bad areas pages count start size g in omega arith)
range_by areas pages count start size true g e =
    elim (ℕ_discrete (start % page_size) 0) [
      | no u ↦ absurd (let f : range_answer areas pages count start size ≡ 2 = start_unaligned areas pages count start size g u in omega arith)
      | yes s ↦ elim (ℕ_discrete (size % page_size) 0) [
        | no u ↦ absurd (let f : range_answer areas pages count start size ≡ 2 = size_unaligned areas pages count start size g u in omega arith)
        | yes z ↦ elim (dec_le (start + size) (space_of (length pages))) [
          | no h ↦ absurd (let f : range_answer areas pages count start size ≡ 3 = range_past areas pages count start size g s z (omega arith) in omega arith)
          | yes h ↦ record { tables = g; start_aligned = s; size_aligned = z; inside = h }
        ]
      ]
    ]

pub range_is : (areas pages : List ℕ) (count start size : ℕ) → range_answer areas pages count start size ≡ 0 → Range areas pages count start size
range_is areas pages count start size e = range_by areas pages count start size (good_tables areas count (length pages)) refl e

-- the numbers of an accepted range are small: no sum of them wraps
pub record Small (pages : List ℕ) (count start size : ℕ) : Type 0 where
  pub sum : start + size ≤ space_of max_pages
  pub areas : count ≤ max_areas

pub range_small : {areas pages : List ℕ} {count start size : ℕ} → Range areas pages count start size → Small pages count start size
unfolding capacity_of
range_small {areas} {pages} {count} {start} {size} r =
    let g = tables_are areas count (length pages) r.tables in
    record { sum = omega arith; areas = omega arith }
