-- Laws of the questions: the outcomes of find and of the search at each answer, what overlaps says, which area and entries are
-- found, and that no second result has a rule's outcome. Assumes nothing.
use Prim.Native.Nat.{ℕ, zero, suc, ◌+◌, ◌-◌, ◌%◌, ◌≤◌, ◌<◌, max}
use mathlib.Core.Path.{◌≡◌, refl, sym, ap, ◌∙◌}
use mathlib.Core.Logic.{◌↔◌}
use mathlib.Core.Bool.{Bool, true, false, true≢false}
use mathlib.Core.List.{List, [], ◌∷◌}
use native.Mathlib.Omega.{arith}
use native.Mathlib.Decide.{dec_lt, dec_le, ℕ_discrete}
use lib.ListN.{length, get_or, length-take, length-drop}
use borrow.Author.Tests.{le-leb, lt-leb, lt-ltb, le-ltb, eq-eqb, ne_eqb}
use Rattle.lists.proofs.Every.{by_test}
use Rattle.page_table.specs.Limits.{page_size}
use Rattle.area.specs.Answer.{answer, Reply, reply, reply_by}
use Rattle.area.specs.Area.{first_page, end_page, nothing}
use Rattle.area.specs.declared.Area.{Area}
use Rattle.area.proofs.Answers.{reply_zero, reply_suc, reply_refused, one_outcome}
use Rattle.area_list.specs.Layout.{rows}
use Rattle.area_list.specs.Good.{space_of, good_tables}
use Rattle.area_list.specs.Position.{first_where, contains}
use Rattle.area_list.specs.Meet.{shares, shares_any}
use Rattle.area_list.proofs.Goodness.{tables_are}
use Rattle.area_list.proofs.Ordered.{good_at}
use Rattle.area_list.proofs.Rows.{length_rows}
use Rattle.area_list.proofs.Meets.{Common, shares_common, common_shares, shares_nothing, any_yes, any_no}
use Rattle.search.specs.Free.{is_power_of_two, LegalSearch, asked, FreeOutcome, free_rule}
use Rattle.questions.specs.Tests.{tables_answer, range_answer}
use Rattle.questions.proofs.Answering.{tables_bad, tables_good}
use Rattle.questions.specs.Question.{len_outcome, told_outcome, overlaps_rule, found_outcome, holder, find_answer, find_rule, entries_of, entries_rule, search_tests, search_answer, placed_outcome, placed_by, free_area_rule}
use Rattle.std.specs.Prelude.{Result, Ok, Err}
use Rattle.area.specs.declared.Refusal.{Refusal}

-- ---- overlaps: yes exactly when some address is in both the range and an area

pub record Overlap (low high : ℕ) (xs : List Area) : Type 0 where
  pub slot : ℕ
  pub within : slot < length xs
  pub address : ℕ
  pub common : Common low high (get_or xs slot nothing) address

some_overlap : (low high : ℕ) (xs : List Area) → shares_any low high xs ≡ true → Overlap low high xs
unfolding shares_any
some_overlap low high [] e = absurd (true≢false (sym e))
some_overlap low high (a ∷ xs) e =
    by_test (shares low high a)
    (λ y. record { slot = 0; within = omega arith; address = max low a.start; common = shares_common low high a y })
    (λ n. let o = some_overlap low high xs (rw n at e) in
    record { slot = suc o.slot; within = omega arith; address = o.address; common = o.common })

overlap_some : (low high : ℕ) (xs : List Area) → Overlap low high xs → shares_any low high xs ≡ true
overlap_some low high xs o =
    any_yes low high xs o.slot o.within (common_shares low high (get_or xs o.slot nothing) o.address o.common)

-- a refusal says no, and so does an answer of no
told_no : (n : ℕ) (b : Bool) → b ≡ false → (reply_by false n b).value ≡ false
unfolding reply_by
told_no zero b e = e
told_no (suc n) b e = refl

module _ (areas pages : List ℕ) (count start size : ℕ) where
  pub overlaps_says : range_answer areas pages count start size ≡ 0
      → ((overlaps_rule areas pages count start size).value ≡ true) ↔ Overlap start (start + size) (rows areas count)
  unfolding overlaps_rule reply_by
  overlaps_says z = rw z (some_overlap start (start + size) (rows areas count), overlap_some start (start + size) (rows areas count))

  pub overlaps_empty : size ≡ 0 → (overlaps_rule areas pages count start size).value ≡ false
  unfolding overlaps_rule
  overlaps_empty z =
      told_no (range_answer areas pages count start size) (shares_any start (start + size) (rows areas count))
      (any_no start (start + size) (rows areas count) (λ i h. shares_nothing start (start + size) (get_or (rows areas count) i nothing) (omega arith)))

-- ---- find

module _ (areas pages : List ℕ) (count address : ℕ) where
  find_bad : good_tables areas count (length pages) ≡ false → find_answer areas pages count address ≡ 1
  unfolding find_answer answer
  find_bad g = rw g

  find_none : good_tables areas count (length pages) ≡ true → count ≤ holder (rows areas count) address → find_answer areas pages count address ≡ 7
  unfolding find_answer answer
  find_none g h = rw (g, le-leb count (holder (rows areas count) address) h)

  find_some : good_tables areas count (length pages) ≡ true → holder (rows areas count) address < count → find_answer areas pages count address ≡ 0
  unfolding find_answer answer
  find_some g h = rw (g, lt-leb count (holder (rows areas count) address) h)

  -- tables that are refused are refused first
  pub find_first : {k : ℕ} → k ≡ tables_answer areas pages count → (k ≡ 0 → ⊥) → k ≡ find_answer areas pages count address
  find_first e h =
      by_test (good_tables areas count (length pages)) (λ g. absurd (h (e ∙ tables_good areas pages count g)))
      (λ g. e ∙ tables_bad areas pages count g ∙ sym (find_bad g))

  -- ---- the outcome at each answer

  pub found_bad : (a : Area) → a ≡ nothing → good_tables areas count (length pages) ≡ false → reply 1 a ≡ find_rule areas pages count address
  unfolding find_rule
  found_bad a z g = rw z (reply_suc nothing (find_answer areas pages count address) (get_or (rows areas count) (holder (rows areas count) address) nothing) 0 (find_bad g))

  module _ (g : good_tables areas count (length pages) ≡ true) (slot : ℕ) (e : slot ≡ first_where (contains address) (rows areas count)) where
    pub found_none : (a : Area) → a ≡ nothing → count ≤ slot → reply 7 a ≡ find_rule areas pages count address
    unfolding find_rule holder
    found_none a z h = rw z (reply_suc nothing (find_answer areas pages count address) (get_or (rows areas count) (holder (rows areas count) address) nothing) 6 (find_none g (rw e at h)))

    pub found_at : (a : Area) → a ≡ get_or (rows areas count) slot nothing → slot < count → reply 0 a ≡ find_rule areas pages count address
    unfolding find_rule holder
    found_at a z h = rw (z, e) (reply_zero nothing (find_answer areas pages count address) (get_or (rows areas count) (holder (rows areas count) address) nothing) (find_some g (rw e at h)))

-- the value of find's answer, where it is found and where it is refused
module _ (areas pages : List ℕ) (count address : ℕ) (r : Result Area Refusal) (e : found_outcome r ≡ find_rule areas pages count address) where
  pub found_value : {a : Area} → r ≡ Ok a → (find_rule areas pages count address).value ≡ a
  found_value o = sym (ap (λ (o : Reply Area). o.value) (ap found_outcome (sym o) ∙ e))

  pub found_nothing : {d : Refusal} → r ≡ Err d → (find_rule areas pages count address).value ≡ nothing
  found_nothing o = sym (ap (λ (o : Reply Area). o.value) (ap found_outcome (sym o) ∙ e))

-- ---- an area found lies in the space; the all-zero area of a refusal does too

pub record Inside (space : ℕ) (a : Area) : Type 0 where
  pub ordered : a.start ≤ a.end
  pub ends : a.end ≤ space

find_inside_at : (areas pages : List ℕ) (count address : ℕ) (b : Bool) → good_tables areas count (length pages) ≡ b
    → Inside (space_of (length pages)) (find_rule areas pages count address).value
find_inside_at areas pages count address false g = rw (← found_bad areas pages count address nothing refl g) (record { ordered = omega arith; ends = omega arith })
find_inside_at areas pages count address true g =
    elim (dec_lt slot count) [
      | yes h ↦ rw (← found_at areas pages count address g slot refl (get_or (rows areas count) slot nothing) refl h)
          (let good = good_at (tables_are areas count (length pages) g).ordered slot (rw length_rows h) in
          record { ordered = omega arith; ends = good.inside })
      | no h ↦ rw (← found_none areas pages count address g slot refl nothing refl (omega arith)) (record { ordered = omega arith; ends = omega arith })
    ]
  where
    slot : ℕ
    slot = first_where (contains address) (rows areas count)

pub find_inside : (areas pages : List ℕ) (count address : ℕ) → Inside (space_of (length pages)) (find_rule areas pages count address).value
find_inside areas pages count address = find_inside_at areas pages count address (good_tables areas count (length pages)) refl

pub found_inside : (areas pages : List ℕ) (count address : ℕ) (r : Result Area Refusal) → found_outcome r ≡ find_rule areas pages count address
    → {a : Area} → r ≡ Ok a → Inside (space_of (length pages)) a
found_inside areas pages count address r e o = rw (← found_value areas pages count address r e o) (find_inside areas pages count address)

-- ---- entries: as many as the area found has pages, and none in a refusal

module _ (areas pages : List ℕ) (count address : ℕ) where
  pub entries_refused : (find_answer areas pages count address ≡ 0 → ⊥) → entries_rule areas pages count address ≡ []
  unfolding entries_rule entries_of find_rule
  entries_refused h =
      rw (← reply_refused nothing (find_answer areas pages count address) (get_or (rows areas count) (holder (rows areas count) address) nothing) h)

  pub entries_length : let a = (find_rule areas pages count address).value in length (entries_rule areas pages count address) ≡ end_page a - first_page a
  unfolding entries_rule entries_of
  entries_length = let i = find_inside areas pages count address in simp (length-take, length-drop) (omega arith)

-- ---- the search's tests: each section adds that one more did not apply

module _ (areas pages : List ℕ) (count size low high align : ℕ) where
  pub search_bad : good_tables areas count (length pages) ≡ false → search_answer areas pages count size low high align ≡ 1
  unfolding search_answer search_tests answer
  search_bad g = rw g

  -- tables that are refused are refused first
  pub search_first : {k : ℕ} → k ≡ tables_answer areas pages count → (k ≡ 0 → ⊥) → k ≡ search_answer areas pages count size low high align
  search_first e h =
      by_test (good_tables areas count (length pages)) (λ g. absurd (h (e ∙ tables_good areas pages count g)))
      (λ g. e ∙ tables_bad areas pages count g ∙ sym (search_bad g))

  module _ (g : good_tables areas count (length pages) ≡ true) where
    pub align_no_power : is_power_of_two align ≡ false → search_answer areas pages count size low high align ≡ 3
    unfolding search_answer search_tests answer
    align_no_power p = rw (g, p)

    module _ (p : is_power_of_two align ≡ true) where
      pub align_small : align < page_size → search_answer areas pages count size low high align ≡ 3
      unfolding search_answer search_tests answer
      align_small h = rw (g, p, lt-ltb align page_size h)

      module _ (a : page_size ≤ align) where
        pub size_zero : size ≡ 0 → search_answer areas pages count size low high align ≡ 3
        unfolding search_answer search_tests answer
        size_zero z = rw (g, p, le-ltb align page_size a, eq-eqb size 0 z)

        module _ (s : size ≡ 0 → ⊥) where
          pub limit_turned : high < low → search_answer areas pages count size low high align ≡ 3
          unfolding search_answer search_tests answer
          limit_turned h = rw (g, p, le-ltb align page_size a, ne_eqb size 0 s, lt-ltb high low h)

          module _ (l : low ≤ high) where
            pub size_uneven : (size % align ≡ 0 → ⊥) → search_answer areas pages count size low high align ≡ 2
            unfolding search_answer search_tests answer
            size_uneven u = rw (g, p, le-ltb align page_size a, ne_eqb size 0 s, le-ltb high low l, ne_eqb (size % align) 0 u)

            pub search_passes : size % align ≡ 0 → search_answer areas pages count size low high align ≡ 0
            unfolding search_answer search_tests answer
            search_passes e = rw (g, p, le-ltb align page_size a, ne_eqb size 0 s, le-ltb high low l, eq-eqb (size % align) 0 e)

-- what an accepted search tells
pub record Search (areas pages : List ℕ) (count size low high align : ℕ) : Type 0 where
  pub tables : good_tables areas count (length pages) ≡ true
  pub legal : LegalSearch size align
  pub align_pages : page_size ≤ align
  pub limit : low ≤ high

module _ (areas pages : List ℕ) (count size low high align : ℕ) (z : search_answer areas pages count size low high align ≡ 0) where
  -- no test applied
  never : {k : ℕ} → 0 < k → search_answer areas pages count size low high align ≡ k → ⊥
  never h e = omega arith

  numbers_ask : (g : good_tables areas count (length pages) ≡ true) (p : is_power_of_two align ≡ true) → Search areas pages count size low high align
  numbers_ask g p =
      elim (dec_le page_size align) [
        | no a ↦ absurd (never (omega arith) (align_small areas pages count size low high align g p (omega arith)))
        | yes a ↦ elim (ℕ_discrete size 0) [
          | yes s ↦ absurd (never (omega arith) (size_zero areas pages count size low high align g p a s))
          | no s ↦ elim (dec_le low high) [
            | no l ↦ absurd (never (omega arith) (limit_turned areas pages count size low high align g p a s (omega arith)))
            | yes l ↦ elim (ℕ_discrete (size % align) 0) [
              | no u ↦ absurd (never (omega arith) (size_uneven areas pages count size low high align g p a s l u))
              | yes u ↦ record { tables = g; legal = record { some = omega arith; power = p; whole = u }; align_pages = a; limit = l }
            ]
          ]
        ]
      ]

  pub search_asks : Search areas pages count size low high align
  search_asks =
      by_test (good_tables areas count (length pages))
      (λ g. by_test (is_power_of_two align) (numbers_ask g)
      (λ p. absurd (never (omega arith) (align_no_power areas pages count size low high align g p))))
      (λ g. absurd (never (omega arith) (search_bad areas pages count size low high align g)))

-- ---- the outcome of a search that is refused

placed_other : (n : ℕ) (found : FreeOutcome) → (n ≡ 0 → ⊥) → reply n 0 ≡ placed_by n found
unfolding placed_by
placed_other zero found h = absurd (h refl)
placed_other (suc n) found h = refl

module _ (areas pages : List ℕ) (count hint size low high align n : ℕ) (e : n ≡ search_answer areas pages count size low high align) where
  pub placed_refused : (n ≡ 0 → ⊥) → reply n 0 ≡ free_area_rule areas pages count hint size low high align
  unfolding free_area_rule
  placed_refused h =
      rw (← e) (placed_other n (free_rule (rows areas count) (asked hint size low high align (space_of (length pages)))) h)

-- ---- no second outcome: the answer's number and its value fix the result

pub counted_unique : (r s : Result ℕ Refusal) → len_outcome r ≡ len_outcome s → r ≡ s
counted_unique = one_outcome 0

pub told_unique : (r s : Result Bool Refusal) → told_outcome r ≡ told_outcome s → r ≡ s
told_unique = one_outcome false

pub found_unique : (r s : Result Area Refusal) → found_outcome r ≡ found_outcome s → r ≡ s
found_unique = one_outcome nothing

pub placed_unique : (r s : Result ℕ Refusal) → placed_outcome r ≡ placed_outcome s → r ≡ s
placed_unique = one_outcome 0
