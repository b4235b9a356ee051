-- What an accepted change tells: its arguments are legal and the new list has room. Assumes nothing.
use Prim.Native.Nat.{ℕ, zero, suc, ◌+◌, ◌/◌, ◌%◌, ◌≤◌}
use mathlib.Core.Path.{◌≡◌, refl}
use mathlib.Core.Bool.{Bool, true, false, not, ◌&&◌}
use mathlib.Core.List.{List, [], ◌∷◌, ◌++◌}
use native.Mathlib.Omega.{arith}
use lib.Dec.{ltb, eqb}
use lib.ListN.{length}
use borrow.Author.Tests.{ltb-false, eqb-true, eqb-false, not-false}
use Rattle.lists.proofs.Every.{and_left, and_right}
use Rattle.page_table.specs.Limits.{page_size, max_flags}
use Rattle.page_table.specs.Frames.{backend_fits}
use Rattle.page_table.specs.declared.Backend.{Backend}
use Rattle.area.specs.Answer.{Test, answer}
use Rattle.area.specs.Area.{aligned}
use Rattle.area.specs.declared.Area.{Area}
use Rattle.area.proofs.Areas.{Good}
use Rattle.area_list.specs.Layout.{capacity_of}
use Rattle.area_list.specs.Good.{space_of, good_tables}
use Rattle.questions.specs.Tests.{range_tests}
use Rattle.rules.specs.Change.{unmap_list, unmap_tests, mapped, map_list, map_tests, protect_list, protect_tests}
use Rattle.questions.proofs.Answering.{Refuses, no_test, one_test, Range}

-- the tests of a list by number; past its end none applies
applied : List Test → ℕ → Bool
applied [] i = false
applied (t ∷ ts) zero = t.applies
applied (t ∷ ts) (suc i) = applied ts i

-- an answer of 0: no test applied
none_applied : {ts : List Test} → Refuses ts → answer ts ≡ 0 → (i : ℕ) → applied ts i ≡ false
unfolding answer applied
none_applied no_test e i = refl
none_applied (one_test k true p r) e i = absurd (omega arith)
none_applied (one_test k false p r) e zero = refl
none_applied (one_test k false p r) e (suc i) = none_applied r e i

module _ (areas pages : List ℕ) (count start size : ℕ) where
  range_and : {us : List Test} → Refuses us → Refuses (range_tests areas pages count start size ++ us)
  range_and r = one_test 1 _ (omega arith) (one_test 2 _ (omega arith) (one_test 3 _ (omega arith) r))

  range_accepted : not (good_tables areas count (length pages)) ≡ false → not (aligned start && aligned size) ≡ false
      → ltb (space_of (length pages)) (start + size) ≡ false → Range areas pages count start size
  unfolding aligned
  range_accepted good even inside =
      let both : (eqb (start % page_size) 0 && eqb (size % page_size) 0) ≡ true = not-false (eqb (start % page_size) 0 && eqb (size % page_size) 0) even in
      record {
        tables = not-false (good_tables areas count (length pages)) good;
        start_aligned = eqb-true (start % page_size) 0 (and_left (eqb (start % page_size) 0) (eqb (size % page_size) 0) both);
        size_aligned = eqb-true (size % page_size) 0 (and_right (eqb (start % page_size) 0) (eqb (size % page_size) 0) both);
        inside = ltb-false (space_of (length pages)) (start + size) inside;
      }

  -- ---- unmap

  pub record UnmapAccepted : Type 0 where
    pub range : Range areas pages count start size
    pub room : length (unmap_list areas count start size) ≤ capacity_of (length areas)

  pub unmap_accepted : answer (unmap_tests areas pages count start size) ≡ 0 → UnmapAccepted
  unfolding applied
  unmap_accepted z =
      let e = none_applied (range_and (one_test 6 _ (omega arith) no_test)) z in
      record { range = range_accepted (e 0) (e 1) (e 2); room = ltb-false (capacity_of (length areas)) (length (unmap_list areas count start size)) (e 3) }

  -- ---- map

  module _ (flags : ℕ) (backend : Backend) (replace : Bool) where
    abbrev new_area : Area
    new_area = mapped start size flags backend

    pub record MapAccepted : Type 0 where
      pub range : Range areas pages count start size
      pub good : Good (space_of (length pages)) new_area
      pub room : length (map_list areas count new_area) ≤ capacity_of (length areas)

    pub map_accepted : answer (map_tests areas pages count start size flags backend replace) ≡ 0 → MapAccepted
    unfolding applied
    map_accepted z =
        let e = none_applied (range_and (one_test 3 _ (omega arith) (one_test 3 _ (omega arith) (one_test 4 _ (omega arith) (one_test 5 _ (omega arith) (one_test 6 _ (omega arith) no_test)))))) z in
        let r = range_accepted (e 0) (e 1) (e 2) in
        let some : size ≡ 0 → ⊥ = eqb-false size 0 (e 3) in
        record {
          range = r;
          good = record {
            nonempty = omega arith;
            inside = r.inside;
            start_aligned = r.start_aligned;
            end_aligned = omega (arith, r.start_aligned, r.size_aligned);
            flags_legal = ltb-false max_flags flags (e 4);
            frames_legal = not-false (backend_fits backend (start / page_size) ((start + size) / page_size)) (e 6);
          };
          room = ltb-false (capacity_of (length areas)) (length (map_list areas count new_area)) (e 7);
        }

  -- ---- protect

  module _ (set clear : ℕ) where
    pub record ProtectAccepted : Type 0 where
      pub range : Range areas pages count start size
      pub set_legal : set ≤ max_flags
      pub room : length (protect_list areas count start size set clear) ≤ capacity_of (length areas)

    pub protect_accepted : answer (protect_tests areas pages count start size set clear) ≡ 0 → ProtectAccepted
    unfolding applied
    protect_accepted z =
        let e = none_applied (range_and (one_test 3 _ (omega arith) (one_test 3 _ (omega arith) (one_test 6 _ (omega arith) no_test)))) z in
        record {
          range = range_accepted (e 0) (e 1) (e 2);
          set_legal = ltb-false max_flags set (e 3);
          room = ltb-false (capacity_of (length areas)) (length (protect_list areas count start size set clear)) (e 5);
        }
