-- Laws of the changes: the outcome at each exit of the code, over plain values. Assumes nothing.
use Prim.Native.Nat.{ℕ, ◌+◌, ◌-◌, ◌/◌, ◌≤◌, ◌<◌}
use mathlib.Core.Path.{◌≡◌, refl, sym, ap, ◌∙◌}
use mathlib.Core.Bool.{Bool, true, false, not, ◌&&◌}
use mathlib.Core.List.{List, [], ◌∷◌, ◌++◌}
use native.Mathlib.Omega.{arith}
use native.Mathlib.Decide.{dec_le, ℕ_discrete}
use lib.Dec.{ltb, eqb}
use lib.ListN.{length, drop_of_length-le}
use borrow.Author.Tests.{lt-ltb, le-ltb, eq-eqb, ne_eqb}
use Rattle.std.specs.Prelude.{Result, Ok, Err, IsErrAnd}
use Rattle.std.proofs.lemmas.Result.{err_from_is_err_and}
use Rattle.lists.specs.Each.{within}
use Rattle.lists.proofs.Each.{length_within, within_in, within_before, within_after, within_is, within_none}
use Rattle.page_table.specs.Limits.{page_size, max_flags}
use Rattle.page_writes.specs.Change.{writes}
use Rattle.page_table.specs.Frames.{backend_fits}
use Rattle.page_table.specs.declared.Backend.{Backend}
use Rattle.area.specs.Answer.{number, answer, Test, refuse, reply, reply_by}
use Rattle.area.specs.declared.Area.{Area}
use Rattle.area.specs.declared.Refusal.{Refusal}
use Rattle.area.specs.declared.Refusal.TheVariants.{NoRoom}
use Rattle.area.proofs.Answers.{reply_refused, reply_zero, reply_suc, refusal_some}
use Rattle.area_list.specs.Layout.{max_areas, capacity_of, rows}
use Rattle.area_list.specs.Good.{space_of}
use Rattle.area_list.specs.Meet.{shares_any}
use Rattle.area_list.specs.Store.{store, spliced}
use Rattle.std.specs.Prelude.{Some}
use Rattle.slots.specs.Splice.{parts_of}
use Rattle.area_list.proofs.Rows.{length_rows}
use Rattle.area_list.proofs.Goodness.{GoodTables, tables_are}
use Rattle.area_list.proofs.Positions.{sorted}
use Rattle.area_list.proofs.Stores.{store_same, length_spliced}
use Rattle.effects.specs.Pages.{on_areas, wipes_area, cut_pages, map_pages, protects_area, protect_pages}
use Rattle.effects.proofs.Cutting.{cut_empty}
use Rattle.effects.proofs.Protecting.{protect_empty}
use Rattle.changes.specs.Gap.{Cuts}
use Rattle.changes.specs.declared.Gap.{Gap}
use Rattle.changes.proofs.Gaps.{both_sides, sides_around, gap_cut, gap_insert}
use Rattle.questions.specs.Tests.{tables_answer, range_tests, range_answer}
use Rattle.rules.specs.Change.{Tables, tables, changed_outcome, listed, no_room, unmap_list, unmap_tests, unmap_rule, clear_rule, mapped, map_list, map_first_tests, map_first_answer, map_rule, protect_list, protect_first_tests, protect_first_answer, protect_tests, protect_rule}
use Rattle.questions.proofs.Answering.{Refuses, no_test, one_test, answer_then, answer_stops, range_refuses, Range, range_is, range_small}

-- ---- tests after those of the range

module _ (areas pages : List ℕ) (count start size : ℕ) (us : List Test) where
  range_then : range_answer areas pages count start size ≡ 0 → answer (range_tests areas pages count start size ++ us) ≡ answer us
  unfolding range_answer
  range_then e = answer_then us (range_refuses areas pages count start size) e

  range_stops : (range_answer areas pages count start size ≡ 0 → ⊥) → answer (range_tests areas pages count start size ++ us) ≡ range_answer areas pages count start size
  unfolding range_answer
  range_stops h = answer_stops us (range_refuses areas pages count start size) h

-- ---- a change makes some tests and then the one for room: its three exits

room_no : (areas : List ℕ) (list : List Area) → capacity_of (length areas) < length list → answer (no_room areas list ∷ []) ≡ 6
unfolding answer
room_no areas list h = rw (lt-ltb (capacity_of (length areas)) (length list) h)

room_yes : (areas : List ℕ) (list : List Area) → length list ≤ capacity_of (length areas) → answer (no_room areas list ∷ []) ≡ 0
unfolding answer
room_yes areas list h = rw (le-ltb (capacity_of (length areas)) (length list) h)

-- what the exit of a `?` returns: the refusal, as it came
abbrev pub Exit : Refusal → Result ℕ Refusal → Type 0
Exit refusal r = IsErrAnd r (λ e. e ≡ refusal)

exits : (areas pages : List ℕ) (count n : ℕ) (after : Tables) (refusal : Refusal) (r : Result ℕ Refusal)
    → Exit refusal r → number refusal ≡ n → changed_outcome count r areas pages ≡ reply_by (tables areas pages count) n after
exits areas pages count n after refusal r x e =
    let p = err_from_is_err_and r x in
    rw (p.1, p.2, ← e) (reply_refused _ _ _ (refusal_some refusal))

-- one of the tests applies
stops : {ts : List Test} (us : List Test) → Refuses ts
    → (refusal : Refusal) → number refusal ≡ answer ts → number refusal ≡ answer (ts ++ us)
stops us refuses refusal e = e ∙ sym (answer_stops us refuses (λ z. refusal_some refusal (e ∙ z)))

module _ {ts : List Test} (refuses : Refuses ts) (z : 0 ≡ answer ts) (before after : Tables) (areas : List ℕ) (list : List Area) where
  lacks_room : capacity_of (length areas) < length list
      → reply 6 before ≡ reply_by before (answer (ts ++ (no_room areas list ∷ []))) after
  lacks_room h = reply_suc _ _ _ 5 (answer_then _ refuses (sym z) ∙ room_no areas list h)

  goes_on : length list ≤ capacity_of (length areas)
      → reply 0 after ≡ reply_by before (answer (ts ++ (no_room areas list ∷ []))) after
  goes_on h = reply_zero _ _ _ (answer_then _ refuses (sym z) ∙ room_yes areas list h)

-- what the code needs of a range that the tests accept
pub range_accepted : (areas pages : List ℕ) (count start size : ℕ) → 0 ≡ range_answer areas pages count start size
    → Range areas pages count start size
range_accepted areas pages count start size z = range_is areas pages count start size (sym z)

-- nothing is cut out by an empty range
nothing_cut : (low high : ℕ) (list : List Area) (pages : List ℕ) → high ≤ low → cut_pages low high list pages ≡ pages
unfolding cut_pages
nothing_cut low high list pages h = within_none (on_areas wipes_area list) (low / page_size) (high / page_size) pages (omega arith)

-- a gap in the list that the tests give is one in the lent words
pub gap_listed : {areas words : List ℕ} {count n low high : ℕ} {g : Gap} → (words ≡ areas) × (n ≡ count)
    → Cuts (rows words n) low high g → Cuts (rows areas count) low high g
gap_listed e c = rw (e.0, e.1) at c

-- the numbers of a gap: no sum of them wraps
pub record GapFits (count low high : ℕ) : Type 0 where
  pub ordered : low ≤ high
  pub inside : high ≤ count
  pub small : count ≤ max_areas

pub gap_fits : {areas pages words : List ℕ} {count start size n low high : ℕ} {g : Gap} → Range areas pages count start size
    → (words ≡ areas) × (n ≡ count) → Cuts (rows words n) low high g → GapFits count g.low g.high
gap_fits {count = count} r e c =
    let cuts = gap_listed e c in
    record { ordered = cuts.ordered; inside = rw length_rows at cuts.inside; small = (range_small r).areas }

-- what takes a gap's place
abbrev without : Gap → List Area
without g = parts_of (g.left ∷ g.right ∷ [])

abbrev around : Gap → Area → List Area
around g a = parts_of (g.left ∷ Some a ∷ g.right ∷ [])

-- what was in a range does not matter to what is written over it
write_over : (f : ℕ → ℕ → ℕ) (backend : Backend) (flags first end : ℕ) (pages : List ℕ)
    → within (writes backend flags) first end (within f first end pages) ≡ within (writes backend flags) first end pages
unfolding writes
write_over f backend flags first end pages =
    within_is (writes backend flags) first end pages (within (writes backend flags) first end old) (length_within (writes backend flags) first end old ∙ length_within f first end pages)
    (λ k l a. within_before (writes backend flags) first end old k (long k l) a ∙ within_before f first end pages k l a)
    (λ k l a b. within_in (writes backend flags) first end old k (long k l) a b)
    (λ k l a. within_after (writes backend flags) first end old k (long k l) a ∙ within_after f first end pages k l a)
  where
    old : List ℕ
    old = within f first end pages

    long : (k : ℕ) → k < length pages → k < length (within f first end pages)
    long k l = omega (arith, length_within f first end pages)

-- ---- unmap

module _ (areas pages : List ℕ) (count start size : ℕ) where
  pub unmap_refused : (refusal : Refusal) (r : Result ℕ Refusal) → Exit refusal r
      → number refusal ≡ range_answer areas pages count start size → changed_outcome count r areas pages ≡ unmap_rule areas pages count start size
  unfolding unmap_rule range_answer
  unmap_refused refusal r x e = exits areas pages count _ _ refusal r x (stops _ (range_refuses areas pages count start size) refusal e)

  module _ (z : 0 ≡ range_answer areas pages count start size) where
    range : Range areas pages count start size
    range = range_accepted areas pages count start size z

    good : GoodTables areas count (length pages)
    good = tables_are areas count (length pages) range.tables

    unmap_goes : (after : Tables) → length (unmap_list areas count start size) ≤ capacity_of (length areas)
        → reply 0 after ≡ reply_by (tables areas pages count) (answer (unmap_tests areas pages count start size)) after
    unfolding range_answer
    unmap_goes after h = goes_on (range_refuses areas pages count start size) z _ after areas (unmap_list areas count start size) h

    pub unmap_nothing : size ≡ 0 → changed_outcome count (Ok count) areas pages ≡ unmap_rule areas pages count start size
    unfolding unmap_rule
    unmap_nothing s = ap (reply 0) (sym value) ∙ unmap_goes _ (rw (list, length_rows areas count) good.count_few)
      where
        list : unmap_list areas count start size ≡ rows areas count
        list = cut_empty start (start + size) (rows areas count) (omega arith)

        value : listed (unmap_list areas count start size) areas (cut_pages start (start + size) (rows areas count) pages) count ≡ tables areas pages count
        value = rw (list, store_same (sorted good), length_rows areas count, nothing_cut start (start + size) (rows areas count) pages (omega arith))

    module _ (some : 0 < size) (g : Gap) (c : Cuts (rows areas count) start (start + size) g) (new : ℕ) (k : new ≡ length (without g)) where
      list_is : spliced (rows areas count) g.low g.high (without g) ≡ unmap_list areas count start size
      list_is = gap_cut (rows areas count) start (start + size) good.ordered (omega arith) g c (g.left ∷ g.right ∷ []) (both_sides g.left g.right)

      pub unmap_count : length (unmap_list areas count start size) ≡ g.low + new + (count - g.high)
      unmap_count =
          ap length (sym list_is)
          ∙ length_spliced (rows areas count) g.low g.high (without g) c.ordered c.inside
          ∙ rw (k, length_rows areas count)

      pub unmap_no_room : capacity_of (length areas) < g.low + new + (count - g.high)
          → changed_outcome count (Err NoRoom) areas pages ≡ unmap_rule areas pages count start size
      unfolding unmap_rule range_answer
      unmap_no_room h = lacks_room (range_refuses areas pages count start size) z _ _ areas (unmap_list areas count start size) (rw unmap_count h)

      pub unmap_done : (areas' pages' : List ℕ) (count' : ℕ) → g.low + new + (count - g.high) ≤ capacity_of (length areas)
          → areas' ≡ store (spliced (rows areas count) g.low g.high (without g)) areas count
          → pages' ≡ cut_pages start (start + size) (rows areas count) pages → count' ≡ g.low + length (without g) + (count - g.high)
          → changed_outcome count (Ok count') areas' pages' ≡ unmap_rule areas pages count start size
      unfolding unmap_rule
      unmap_done areas' pages' count' h a b d = rw (a, b, d, ← k, ← unmap_count, list_is) (unmap_goes _ (rw unmap_count h))

-- ---- clear

module _ (areas pages : List ℕ) (count : ℕ) where
  pub clear_refused : (refusal : Refusal) (r : Result ℕ Refusal) → Exit refusal r
      → number refusal ≡ tables_answer areas pages count → changed_outcome count r areas pages ≡ clear_rule areas pages count
  unfolding clear_rule
  clear_refused refusal r x e = exits areas pages count _ _ refusal r x e

  pub clear_done : tables_answer areas pages count ≡ 0
      → (areas' pages' : List ℕ) (count' : ℕ) → areas' ≡ store (spliced (rows areas count) 0 count []) areas count
      → pages' ≡ cut_pages 0 (space_of (length pages)) (rows areas count) pages → count' ≡ 0 + 0 + (count - count)
      → changed_outcome count (Ok count') areas' pages' ≡ clear_rule areas pages count
  unfolding clear_rule
  clear_done g areas' pages' count' a b c =
      rw (a, b, counted, drop_of_length-le (rows areas count) {i = count} (omega (arith, length_rows areas count))) (reply_zero _ _ _ g)
    where
      counted : count' ≡ 0
      counted = c ∙ omega arith

-- ---- map: the tests before the one for room, each section adding that one more did not apply

module _ (areas pages : List ℕ) (count start size flags : ℕ) (backend : Backend) (replace : Bool) where
  abbrev map_first : ℕ
  map_first = map_first_answer areas pages count start size flags backend replace

  more_tests : List Test
  more_tests =
      refuse 3 (eqb size 0)
      ∷ refuse 3 (ltb max_flags flags)
      ∷ refuse 4 (not replace && shares_any start (start + size) (rows areas count))
      ∷ refuse 5 (not (backend_fits backend (start / page_size) ((start + size) / page_size)))
      ∷ []

  pub map_range : (range_answer areas pages count start size ≡ 0 → ⊥) → map_first ≡ range_answer areas pages count start size
  unfolding map_first_answer more_tests
  map_range h = range_stops areas pages count start size more_tests h

  -- the exit of the range's tests
  pub map_stops : (refusal : Refusal) → number refusal ≡ range_answer areas pages count start size
      → number refusal ≡ map_first
  unfolding map_first_answer range_answer
  map_stops refusal e = stops _ (range_refuses areas pages count start size) refusal e

  module _ (z : range_answer areas pages count start size ≡ 0) where
    others : map_first ≡ answer more_tests
    unfolding map_first_answer more_tests
    others = range_then areas pages count start size more_tests z

    pub map_empty : size ≡ 0 → map_first ≡ 3
    unfolding more_tests answer
    map_empty e = others ∙ rw (eq-eqb size 0 e)

    module _ (s : size ≡ 0 → ⊥) where
      pub map_flags : max_flags < flags → map_first ≡ 3
      unfolding more_tests answer
      map_flags h = others ∙ rw (ne_eqb size 0 s, lt-ltb max_flags flags h)

      module _ (f : flags ≤ max_flags) where
        pub map_exists : (not replace && shares_any start (start + size) (rows areas count)) ≡ true → map_first ≡ 4
        unfolding more_tests answer
        map_exists h = others ∙ rw (ne_eqb size 0 s, le-ltb max_flags flags f, h)

        module _ (x : (not replace && shares_any start (start + size) (rows areas count)) ≡ false) where
          pub map_frames : backend_fits backend (start / page_size) ((start + size) / page_size) ≡ false → map_first ≡ 5
          unfolding more_tests answer
          map_frames h = others ∙ rw (ne_eqb size 0 s, le-ltb max_flags flags f, x, h)

          pub map_passes : backend_fits backend (start / page_size) ((start + size) / page_size) ≡ true → map_first ≡ 0
          unfolding more_tests answer
          map_passes h = others ∙ rw (ne_eqb size 0 s, le-ltb max_flags flags f, x, h)

  -- the exits of the tests
  pub ruleset map_exits = (map_stops, map_empty, map_flags, map_exists, map_frames, map_passes)

  -- what passing them tells
  pub record MapPassed : Type 0 where
    pub range : Range areas pages count start size
    pub some : 0 < size

  pub map_passed : 0 ≡ map_first → MapPassed
  map_passed e =
      elim (ℕ_discrete (range_answer areas pages count start size) 0) [
        | no h ↦ absurd (h (sym (e ∙ map_range h)))
        | yes z ↦ elim (ℕ_discrete size 0) [
          | yes s ↦ absurd (let f : map_first ≡ 3 = map_empty z s in omega arith)
          | no s ↦ record { range = range_is areas pages count start size z; some = omega arith }
        ]
      ]

  -- ---- map's outcome at each exit

  first_refuses : Refuses (map_first_tests areas pages count start size flags backend replace)
  first_refuses =
      one_test 1 _ (omega arith) (one_test 2 _ (omega arith) (one_test 3 _ (omega arith)
      (one_test 3 _ (omega arith) (one_test 3 _ (omega arith) (one_test 4 _ (omega arith) (one_test 5 _ (omega arith) no_test))))))

  abbrev new_area : Area
  new_area = mapped start size flags backend

  pub map_refused : (refusal : Refusal) (r : Result ℕ Refusal) → Exit refusal r
      → number refusal ≡ map_first → changed_outcome count r areas pages ≡ map_rule areas pages count start size flags backend replace
  unfolding map_rule map_first_answer
  map_refused refusal r x e = exits areas pages count _ _ refusal r x (stops _ first_refuses refusal e)

  module _ (z : 0 ≡ map_first) where
    passed : MapPassed
    passed = map_passed z

    module _ (g : Gap) (c : Cuts (rows areas count) start (start + size) g) (new : ℕ) (k : new ≡ length (around g new_area)) where
      map_list_lem : spliced (rows areas count) g.low g.high (around g new_area) ≡ map_list areas count new_area
      map_list_lem =
          gap_insert (rows areas count) start (start + size) (tables_are areas count (length pages) passed.range.tables).ordered (omega (arith, passed.some)) g c
          (g.left ∷ Some new_area ∷ g.right ∷ []) new_area refl (sides_around new_area g.left g.right)

      map_count : length (map_list areas count new_area) ≡ g.low + new + (count - g.high)
      map_count =
          ap length (sym map_list_lem)
          ∙ length_spliced (rows areas count) g.low g.high (around g new_area) c.ordered c.inside
          ∙ rw (k, length_rows areas count)

      pub map_no_room : capacity_of (length areas) < g.low + new + (count - g.high)
          → changed_outcome count (Err NoRoom) areas pages ≡ map_rule areas pages count start size flags backend replace
      unfolding map_rule map_first_answer
      map_no_room h = lacks_room first_refuses z _ _ areas (map_list areas count new_area) (rw map_count h)

      pub map_done : (areas' pages' : List ℕ) (count' : ℕ) → g.low + new + (count - g.high) ≤ capacity_of (length areas)
          → areas' ≡ store (spliced (rows areas count) g.low g.high (around g new_area)) areas count
          → pages' ≡ within (writes backend flags) (start / page_size) ((start + size) / page_size) pages → count' ≡ g.low + length (around g new_area) + (count - g.high)
          → changed_outcome count (Ok count') areas' pages' ≡ map_rule areas pages count start size flags backend replace
      unfolding map_rule map_pages cut_pages map_first_answer
      map_done areas' pages' count' h a b d =
          rw (a, b, d, ← k, ← map_count, map_list_lem)
          (ap (reply 0) (ap (λ (ps : List ℕ). listed (map_list areas count new_area) areas ps count) (sym (write_over (on_areas wipes_area (rows areas count)) backend flags (start / page_size) ((start + size) / page_size) pages)))
          ∙ goes_on first_refuses z _ _ areas (map_list areas count new_area) (rw map_count h))

-- ---- protect

nothing_flagged : (low high set clear : ℕ) (list : List Area) (pages : List ℕ) → high ≤ low → protect_pages low high set clear list pages ≡ pages
unfolding protect_pages
nothing_flagged low high set clear list pages h = within_none (on_areas (protects_area set clear) list) (low / page_size) (high / page_size) pages (omega arith)

module _ (areas pages : List ℕ) (count start size set clear : ℕ) where
  abbrev protect_first : ℕ
  protect_first = protect_first_answer areas pages count start size set clear

  flag_tests : List Test
  flag_tests = refuse 3 (ltb max_flags set) ∷ refuse 3 (ltb max_flags clear) ∷ []

  pub protect_range : (range_answer areas pages count start size ≡ 0 → ⊥) → protect_first ≡ range_answer areas pages count start size
  unfolding protect_first_answer flag_tests
  protect_range h = range_stops areas pages count start size flag_tests h

  -- the exit of the range's tests
  pub protect_stops : (refusal : Refusal) → number refusal ≡ range_answer areas pages count start size
      → number refusal ≡ protect_first
  unfolding protect_first_answer range_answer
  protect_stops refusal e = stops _ (range_refuses areas pages count start size) refusal e

  module _ (z : range_answer areas pages count start size ≡ 0) where
    after_range : protect_first ≡ answer flag_tests
    unfolding protect_first_answer flag_tests
    after_range = range_then areas pages count start size flag_tests z

    pub protect_set : max_flags < set → protect_first ≡ 3
    unfolding flag_tests answer
    protect_set h = after_range ∙ rw (lt-ltb max_flags set h)

    module _ (s : set ≤ max_flags) where
      pub protect_clear : max_flags < clear → protect_first ≡ 3
      unfolding flag_tests answer
      protect_clear h = after_range ∙ rw (le-ltb max_flags set s, lt-ltb max_flags clear h)

      pub protect_passes : clear ≤ max_flags → protect_first ≡ 0
      unfolding flag_tests answer
      protect_passes h = after_range ∙ rw (le-ltb max_flags set s, le-ltb max_flags clear h)

  -- the exits of the tests
  pub ruleset protect_exits = (protect_stops, protect_set, protect_clear, protect_passes)

  -- what passing the tests tells
  pub record ProtectPassed : Type 0 where
    pub range : Range areas pages count start size
    pub set_legal : set ≤ max_flags
    pub clear_legal : clear ≤ max_flags

  pub protect_passed : 0 ≡ protect_first → ProtectPassed
  protect_passed e =
      elim (ℕ_discrete (range_answer areas pages count start size) 0) [
        | no h ↦ absurd (h (sym (e ∙ protect_range h)))
        | yes z ↦ elim (dec_le set max_flags) [
          | no s ↦ absurd (let f : protect_first ≡ 3 = protect_set z (omega arith) in omega arith)
          | yes s ↦ elim (dec_le clear max_flags) [
            | no h ↦ absurd (let f : protect_first ≡ 3 = protect_clear z s (omega arith) in omega arith)
            | yes h ↦ record { range = range_is areas pages count start size z; set_legal = s; clear_legal = h }
          ]
        ]
      ]

  flags_refuse : Refuses (protect_first_tests areas pages count start size set clear)
  flags_refuse = one_test 1 _ (omega arith) (one_test 2 _ (omega arith) (one_test 3 _ (omega arith) (one_test 3 _ (omega arith) (one_test 3 _ (omega arith) no_test))))

  pub protect_refused : (refusal : Refusal) (r : Result ℕ Refusal) → Exit refusal r
      → number refusal ≡ protect_first → changed_outcome count r areas pages ≡ protect_rule areas pages count start size set clear
  unfolding protect_rule protect_first_answer
  protect_refused refusal r x e = exits areas pages count _ _ refusal r x (stops _ flags_refuse refusal e)

  module _ (z : 0 ≡ protect_first) where
    pub protect_no_room : capacity_of (length areas) < length (protect_list areas count start size set clear)
        → changed_outcome count (Err NoRoom) areas pages ≡ protect_rule areas pages count start size set clear
    unfolding protect_rule protect_first_answer
    protect_no_room h = lacks_room flags_refuse z _ _ areas (protect_list areas count start size set clear) h

    protect_goes : (after : Tables) → length (protect_list areas count start size set clear) ≤ capacity_of (length areas)
        → reply 0 after ≡ reply_by (tables areas pages count) (answer (protect_tests areas pages count start size set clear)) after
    unfolding protect_first_answer
    protect_goes after h = goes_on flags_refuse z _ after areas (protect_list areas count start size set clear) h

    pub protect_done : (areas' pages' : List ℕ) (count' : ℕ) → length (protect_list areas count start size set clear) ≤ capacity_of (length areas)
        → areas' ≡ store (protect_list areas count start size set clear) areas count
        → pages' ≡ protect_pages start (start + size) set clear (rows areas count) pages → count' ≡ length (protect_list areas count start size set clear)
        → changed_outcome count (Ok count') areas' pages' ≡ protect_rule areas pages count start size set clear
    unfolding protect_rule
    protect_done areas' pages' count' h a b d = rw (a, b, d) (protect_goes _ h)

    pub protect_nothing : size ≡ 0 → changed_outcome count (Ok count) areas pages ≡ protect_rule areas pages count start size set clear
    unfolding protect_rule
    protect_nothing s = ap (reply 0) (sym value) ∙ protect_goes _ (rw (list, length_rows areas count) good_now_lem.count_few)
      where
        good_now_lem : GoodTables areas count (length pages)
        good_now_lem = tables_are areas count (length pages) (protect_passed z).range.tables

        list : protect_list areas count start size set clear ≡ rows areas count
        list = protect_empty start (start + size) set clear (rows areas count) (omega arith)

        value : listed (protect_list areas count start size set clear) areas (protect_pages start (start + size) set clear (rows areas count) pages) count ≡ tables areas pages count
        value = rw (list, store_same (sorted good_now_lem), length_rows areas count, nothing_flagged start (start + size) set clear (rows areas count) pages (omega arith))
