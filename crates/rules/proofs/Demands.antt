-- Demand 1 for all calls at once: whatever the arguments and the tables hold, the answer is one of 01's numbers, and where it is
-- not 0 both tables and the count are as they were. And that no second outcome meets a change's promise. Assumes nothing.
use Prim.Native.Nat.{ℕ, zero, suc, ◌≤◌}
use mathlib.Core.Path.{◌≡◌, refl, ◌∙◌}
use mathlib.Core.Bool.{Bool, true, false, cond}
use mathlib.Core.List.{List}
use native.Mathlib.Omega.{arith}
use Rattle.std.specs.Prelude.{Result}
use Rattle.area.specs.Answer.{answer, Test, Reply, reply, reply_by}
use Rattle.area.specs.declared.Area.{Area}
use Rattle.area.specs.declared.Refusal.{Refusal}
use Rattle.area.proofs.Answers.{reply_answer, one_outcome}
use Rattle.search.specs.Free.{Ask, FreeOutcome, free_rule, is_free, lowest_free, free_gives}
use Rattle.questions.specs.Tests.{tables_answer, range_answer}
use Rattle.questions.specs.Question.{len_rule, empty_rule, overlaps_rule, find_answer, find_rule, search_tests, search_answer, placed_by, free_area_rule}
use Rattle.rules.specs.Change.{Tables, changed_outcome, unmap_rule, clear_rule, map_rule, protect_rule}
use Rattle.rules.specs.Calls.{Call, len_call, empty_call, overlaps_call, find_call, entries_call, search_call, map_call, unmap_call, clear_call, protect_call, called}
use Rattle.questions.proofs.Answering.{Refuses, no_test, one_test, answer_known, range_refuses}

pub record AllOrNothing (before : Tables) (r : Reply Tables) : Type 0 where
  pub known : r.answer ≤ 7
  pub refusal : (r.answer ≡ 0 → ⊥) → r.value ≡ before

-- a question leaves the tables as they are
asks : (t : Tables) (n : ℕ) → n ≤ 7 → AllOrNothing t (reply n t)
asks t n h = record { known = h; refusal = λ z. refl }

-- a change that is refused does too
kept : (t after : Tables) (n : ℕ) → (n ≡ 0 → ⊥) → (reply_by t n after).value ≡ t
unfolding reply_by
kept t after zero z = absurd (z refl)
kept t after (suc n) z = refl

does : (t after : Tables) {ts : List Test} → Refuses ts → AllOrNothing t (reply_by t (answer ts) after)
does t after {ts} r =
    record {
      known = rw (reply_answer t (answer ts) after) (answer_known r);
      refusal = λ z. kept t after (answer ts) (λ e. z (reply_answer t (answer ts) after ∙ e));
    }

-- ---- the numbers that questions answer

module _ (areas pages : List ℕ) (count : ℕ) where
  tables_known : tables_answer areas pages count ≤ 7
  unfolding tables_answer
  tables_known = answer_known (one_test 1 _ (omega arith) no_test)

  range_known : (start size : ℕ) → range_answer areas pages count start size ≤ 7
  unfolding range_answer
  range_known start size = answer_known (range_refuses areas pages count start size)

  find_known : (address : ℕ) → find_answer areas pages count address ≤ 7
  unfolding find_answer
  find_known address = answer_known (one_test 1 _ (omega arith) (one_test 7 _ (omega arith) no_test))

  search_known : (size low high align : ℕ) → search_answer areas pages count size low high align ≤ 7
  unfolding search_answer search_tests
  search_known size low high align =
      answer_known (one_test 1 _ (omega arith) (one_test 3 _ (omega arith) (one_test 3 _ (omega arith) (one_test 3 _ (omega arith) (one_test 3 _ (omega arith) (one_test 2 _ (omega arith) no_test))))))

free_by : (b : Bool) (at : ℕ) → (cond b (free_gives 0 at) (free_gives 7 0)).answer ≤ 7
free_by true at = omega arith
free_by false at = omega arith

free_known : (list : List Area) (q : Ask) → (free_rule list q).answer ≤ 7
unfolding free_rule
free_known list q = free_by (is_free list q (lowest_free list q)) (lowest_free list q)

placed_known : (n : ℕ) (f : FreeOutcome) → n ≤ 7 → f.answer ≤ 7 → (placed_by n f).answer ≤ 7
unfolding placed_by
placed_known zero f h g = g
placed_known (suc n) f h g = h

replied : {A : Type 0} (refused value : A) (n : ℕ) → n ≤ 7 → (reply_by refused n value).answer ≤ 7
replied refused value n h = rw (reply_answer refused n value) h

-- ---- every call

pub all_or_nothing : (c : Call) (t : Tables) → AllOrNothing t (called c t)
unfolding called len_rule empty_rule overlaps_rule find_rule free_area_rule map_rule unmap_rule clear_rule protect_rule tables_answer
all_or_nothing len_call t = asks t _ (replied _ _ _ (tables_known t.areas t.pages t.count))
all_or_nothing empty_call t = asks t _ (replied _ _ _ (tables_known t.areas t.pages t.count))
all_or_nothing (overlaps_call start size) t = asks t _ (replied _ _ _ (range_known t.areas t.pages t.count start size))
all_or_nothing (find_call address) t = asks t _ (replied _ _ _ (find_known t.areas t.pages t.count address))
all_or_nothing (entries_call address) t = asks t _ (replied _ _ _ (find_known t.areas t.pages t.count address))
all_or_nothing (search_call hint size low high align) t =
    asks t _ (placed_known _ _ (search_known t.areas t.pages t.count size low high align) (free_known _ _))
all_or_nothing (map_call start size flags backend replace) t =
    does t _ (one_test 1 _ (omega arith) (one_test 2 _ (omega arith) (one_test 3 _ (omega arith) (one_test 3 _ (omega arith) (one_test 3 _ (omega arith) (one_test 4 _ (omega arith) (one_test 5 _ (omega arith) (one_test 6 _ (omega arith) no_test))))))))
all_or_nothing (unmap_call start size) t = does t _ (one_test 1 _ (omega arith) (one_test 2 _ (omega arith) (one_test 3 _ (omega arith) (one_test 6 _ (omega arith) no_test))))
all_or_nothing clear_call t = does t _ (one_test 1 _ (omega arith) no_test)
all_or_nothing (protect_call start size set clear) t =
    does t _ (one_test 1 _ (omega arith) (one_test 2 _ (omega arith) (one_test 3 _ (omega arith) (one_test 3 _ (omega arith) (one_test 3 _ (omega arith) (one_test 6 _ (omega arith) no_test))))))

-- ---- no second outcome: what a change's promise says fixes the result and every word of both tables

pub record Same (r s : Result ℕ Refusal) (areas areas' pages pages' : List ℕ) : Type 0 where
  pub results : r ≡ s
  pub area_words : areas ≡ areas'
  pub page_entries : pages ≡ pages'

pub changed_unique : (old : ℕ) (r s : Result ℕ Refusal) (areas areas' pages pages' : List ℕ)
    → changed_outcome old r areas pages ≡ changed_outcome old s areas' pages' → Same r s areas areas' pages pages'
changed_unique old r s areas areas' pages pages' e =
    record {
      results = one_outcome old r s (λ i. reply (e i).answer (e i).value.count);
      area_words = λ i. (e i).value.areas;
      page_entries = λ i. (e i).value.pages;
    }
