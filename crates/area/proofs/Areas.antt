-- Laws of areas: the good test as facts, both ways, and what a part of a good area is. Assumes nothing.
use Prim.Native.Nat.{ℕ, ◌/◌, ◌%◌, ◌≤◌, ◌<◌}
use mathlib.Core.Path.{◌≡◌, refl, ◌∙◌}
use mathlib.Core.Bool.{true, false, ◌&&◌, ◌||◌, and-true}
use native.Mathlib.Omega.{arith}
use borrow.Author.Tests.{lt-ltb, le-leb, eq-eqb, ltb-true, leb-true, eqb-true}
use Rattle.lists.specs.Every.{every}
use Rattle.lists.proofs.Every.{every_at, refuted}
use Rattle.page_table.specs.Limits.{page_size, max_flags}
use Rattle.lists.proofs.Each.{range_parts, range_apart}
use Rattle.page_table.specs.Frames.{backend_fits}
use Rattle.page_table.proofs.Frames.{fits_part}
use Rattle.area.specs.Area.{aligned, first_page, end_page, area_tests, good_area, holds, area_entry, part}
use Rattle.area.specs.declared.Area.{Area}

pub record Good (space : ℕ) (a : Area) : Type 0 where
  pub nonempty : a.start < a.end
  pub inside : a.end ≤ space
  pub start_aligned : a.start % page_size ≡ 0
  pub end_aligned : a.end % page_size ≡ 0
  pub flags_legal : a.flags ≤ max_flags
  pub frames_legal : backend_fits a.backend (first_page a) (end_page a) ≡ true

-- with all other parts known, the frames decide
pub frames_decide : (space : ℕ) (a : Area) → a.start < a.end → a.end ≤ space → a.start % page_size ≡ 0 → a.end % page_size ≡ 0 → a.flags ≤ max_flags
    → good_area space a ≡ backend_fits a.backend (first_page a) (end_page a)
unfolding good_area every aligned
frames_decide space a n i s e f =
    rw (lt-ltb a.start a.end n, le-leb a.end space i, eq-eqb (a.start % page_size) 0 s, eq-eqb (a.end % page_size) 0 e, le-leb a.flags max_flags f)
    (and-true (backend_fits a.backend (first_page a) (end_page a)))

-- the facts make the test true
pub is_good : (space : ℕ) (a : Area) → Good space a → good_area space a ≡ true
is_good space a g =
    frames_decide space a g.nonempty g.inside g.start_aligned g.end_aligned g.flags_legal ∙ g.frames_legal

-- and the test tells the facts
pub good_is : (space : ℕ) (a : Area) → good_area space a ≡ true → Good space a
unfolding good_area aligned
good_is space a e =
    record {
      nonempty = ltb-true a.start a.end (every_at (area_tests space a) 0 e);
      inside = leb-true a.end space (every_at (area_tests space a) 1 e);
      start_aligned = eqb-true (a.start % page_size) 0 (every_at (area_tests space a) 2 e);
      end_aligned = eqb-true (a.end % page_size) 0 (every_at (area_tests space a) 3 e);
      flags_legal = leb-true a.flags max_flags (every_at (area_tests space a) 4 e);
      frames_legal = every_at (area_tests space a) 5 e;
    }

-- a test that a fact rules out
pub not_good : (space : ℕ) (a : Area) → (Good space a → ⊥) → good_area space a ≡ false
not_good space a h = refuted (good_area space a) (λ e. h (good_is space a e))

-- ---- parts

-- a part of a good area, cut at multiples of 4,096, is good
pub part_good : (space : ℕ) (a : Area) (start end : ℕ) → Good space a → a.start ≤ start → start < end → end ≤ a.end
    → start % page_size ≡ 0 → end % page_size ≡ 0 → Good space (part a start end)
part_good space a start end g s n e p q =
    record {
      nonempty = n;
      inside = omega arith;
      start_aligned = p;
      end_aligned = q;
      flags_legal = g.flags_legal;
      frames_legal = fits_part a.backend (first_page a) (end_page a) (start / page_size) (end / page_size) g.frames_legal (omega arith) (omega arith);
    }

-- what two areas side by side say of every page, when an area says it alone
pub record Halves (a left right : Area) : Type 0 where
  pub whole : (page : ℕ) → holds a page ≡ (holds left page || holds right page)
  pub apart : (page : ℕ) → (holds left page && holds right page) ≡ false
  pub left_entry : (page : ℕ) → area_entry left page ≡ area_entry a page
  pub right_entry : (page : ℕ) → area_entry right page ≡ area_entry a page

pub halves : (a : Area) (at : ℕ) → a.start ≤ at → at ≤ a.end → Halves a (part a a.start at) (part a at a.end)
unfolding holds area_entry
halves a at s e =
    record {
      whole = λ page. range_parts (first_page a) (at / page_size) (end_page a) page (omega arith) (omega arith);
      apart = λ page. range_apart (first_page a) (at / page_size) (end_page a) page;
      left_entry = λ page. refl;
      right_entry = λ page. refl;
    }
