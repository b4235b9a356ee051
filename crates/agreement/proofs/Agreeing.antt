-- Laws of pages that agree with the areas: how the areas are gone through in order, and what the test says as facts.
-- Assumes nothing.
use Prim.Native.Nat.{ℕ, zero, suc, ◌+◌, ◌/◌, ◌≤◌, ◌<◌}
use mathlib.Core.Path.{◌≡◌, refl, sym, ◌∙◌}
use mathlib.Core.Bool.{true, false, true≢false}
use mathlib.Core.List.{List, [], ◌∷◌}
use native.Mathlib.Omega.{arith}
use native.Mathlib.Nat.{le_refl}
use native.Mathlib.Numerals.{add-one}
use lib.Dec.{eqb}
use lib.ListN.{length, get_or, drop, drop_of_length-le}
use lib.Seq.{drop-cons}
use borrow.Author.Tests.{eq-eqb, ne_eqb, eqb-true, not-false}
use Rattle.std.proofs.Common.{Some, None}
use Rattle.lists.specs.Found.{found_below}
use Rattle.lists.proofs.Found.{found_at, some_slot, none_slot}
use Rattle.lists.proofs.Every.{by_test}
use Rattle.page_table.specs.Limits.{page_size}
use Rattle.area.specs.Area.{first_page, end_page, holds, area_entry, nothing}
use Rattle.area.specs.declared.Area.{Area}
use Rattle.area_list.specs.Good.{space_of}
use Rattle.area_list.proofs.Ordered.{Ordered, one_more, starts_past}
use Rattle.history.proofs.Lookups.{held, held_not_yet, held_no_more, holding}
use Rattle.agreement.specs.Agree.{differs, unmapped, disagrees, lowest_in, first_wrong, Agrees}
use Rattle.agreement.proofs.Lowest.{lowest_here, lowest_later, lowest_same, lowest_stops, lowest_past}

-- ---- page by page

module _ (says : ℕ → ℕ) (entries : List ℕ) (page end entry : ℕ) (more : page < end) (e : entry ≡ says page) where
  pub first_differs : (get_or entries page 0 ≡ entry → ⊥) → lowest_in (differs says entries) page end ≡ page
  unfolding differs
  first_differs h = lowest_here (differs says entries) page end more (rw (← e, ne_eqb (get_or entries page 0) entry h))

  pub first_same : get_or entries page 0 ≡ entry → lowest_in (differs says entries) page end ≡ lowest_in (differs says entries) (page + 1) end
  unfolding differs
  first_same h = lowest_later (differs says entries) page end more (rw (← e, eq-eqb (get_or entries page 0) entry h))

-- ---- area by area

-- a page before all areas agrees when it is not mapped
none_before : {space before : ℕ} (xs : List Area) → Ordered space before xs → (entries : List ℕ) (page : ℕ) → page < before / page_size
    → disagrees xs entries page ≡ differs unmapped entries page
unfolding disagrees
none_before [] o entries page h = refl
none_before (a ∷ xs) (one_more g b o) entries page h =
    rw (held_not_yet a page (omega arith)) (none_before xs o entries page (omega (arith, g.nonempty)))

-- the pages below page agree: those that are left decide, with the areas from slot on
pub record Looked (areas : List Area) (entries : List ℕ) (slot page : ℕ) : Type 0 where
  pub before : ℕ
  pub ordered : Ordered (space_of (length entries)) before (drop slot areas)
  pub at : page ≡ before / page_size
  pub upto : page ≤ length entries
  pub rest : first_wrong areas entries ≡ lowest_in (disagrees (drop slot areas) entries) page (length entries)

pub look_begins : (areas : List Area) (entries : List ℕ) → Ordered (space_of (length entries)) 0 areas → Looked areas entries 0 0
unfolding first_wrong
look_begins areas entries o = record { before = 0; ordered = o; at = refl; upto = omega arith; rest = refl }

-- one area: its first page and the page after its last, and the lowest pages before it and in it that disagree
module _ {areas : List Area} {entries : List ℕ} {slot page : ℕ} (l : Looked areas entries slot page) (more : slot < length areas)
    (a : Area) (e : a ≡ get_or areas slot nothing) where
  abbrev later : List Area
  later = drop (slot + 1) areas

  from_here : drop slot areas ≡ a ∷ later
  from_here = rw (add-one slot, e) (drop-cons areas slot nothing more)

  here : Ordered (space_of (length entries)) l.before (a ∷ later)
  here = rw from_here at l.ordered

  pub starts : page ≤ first_page a
  starts = elim here [ one_more g b o ↦ omega (arith, l.at) ]

  pub ends : (first_page a ≤ end_page a) × (end_page a ≤ length entries)
  ends = elim here [ one_more g b o ↦ (omega (arith, g.nonempty), omega (arith, g.inside)) ]

  gap : (k : ℕ) → page ≤ k → k < first_page a → disagrees (a ∷ later) entries k ≡ differs unmapped entries k
  gap k c d = elim here [ one_more g b o ↦ none_before (a ∷ later) (one_more g (le_refl a.start) o) entries k d ]

  inside : (k : ℕ) → first_page a ≤ k → k < end_page a → disagrees (a ∷ later) entries k ≡ differs (area_entry a) entries k
  unfolding disagrees
  inside k c d = rw (held a k c d)

  after : (k : ℕ) → end_page a ≤ k → disagrees (a ∷ later) entries k ≡ disagrees later entries k
  unfolding disagrees
  after k c = rw (held_no_more a k c)

  rest_here : first_wrong areas entries ≡ lowest_in (disagrees (a ∷ later) entries) page (length entries)
  rest_here = l.rest ∙ rw from_here

  -- a page in the gap before the area is the answer
  pub stops_before : (wrong : ℕ) → Some wrong ≡ found_below (first_page a) (lowest_in (differs unmapped entries) page (first_page a))
      → Some wrong ≡ found_below (length entries) (first_wrong areas entries)
  stops_before wrong m =
      let f = some_slot (first_page a) (lowest_in (differs unmapped entries) page (first_page a)) wrong m in
      let stops = lowest_stops (disagrees (a ∷ later) entries) (differs unmapped entries) page (first_page a) (length entries) starts (omega (arith, ends)) gap wrong f.0 (omega (arith, f)) in
      found_at (length entries) (first_wrong areas entries) wrong (rest_here ∙ stops) (omega (arith, f, ends))

  module _ (none : None ≡ found_below (first_page a) (lowest_in (differs unmapped entries) page (first_page a))) where
    rest_inside : first_wrong areas entries ≡ lowest_in (disagrees (a ∷ later) entries) (first_page a) (length entries)
    rest_inside =
        let m : ℕ = lowest_in (differs unmapped entries) page (first_page a) in
        rest_here
        ∙ lowest_past (disagrees (a ∷ later) entries) (differs unmapped entries) page (first_page a) (length entries) starts (omega (arith, ends)) gap m refl (none_slot (first_page a) m none)

    -- a page of the area is the answer
    pub stops_inside : (wrong : ℕ) → Some wrong ≡ found_below (end_page a) (lowest_in (differs (area_entry a) entries) (first_page a) (end_page a))
        → Some wrong ≡ found_below (length entries) (first_wrong areas entries)
    stops_inside wrong w =
        let f = some_slot (end_page a) (lowest_in (differs (area_entry a) entries) (first_page a) (end_page a)) wrong w in
        let stops = lowest_stops (disagrees (a ∷ later) entries) (differs (area_entry a) entries) (first_page a) (end_page a) (length entries) ends.0 ends.1 inside wrong f.0 (omega (arith, f)) in
        found_at (length entries) (first_wrong areas entries) wrong (rest_inside ∙ stops) (omega (arith, f, ends))

    pub look_on : None ≡ found_below (end_page a) (lowest_in (differs (area_entry a) entries) (first_page a) (end_page a)) → Looked areas entries (slot + 1) (end_page a)
    look_on w =
        let m : ℕ = lowest_in (differs (area_entry a) entries) (first_page a) (end_page a) in
        record {
          before = a.end;
          ordered = elim here [ one_more g b o ↦ o ];
          at = refl;
          upto = ends.1;
          rest = rest_inside
              ∙ lowest_past (disagrees (a ∷ later) entries) (differs (area_entry a) entries) (first_page a) (end_page a) (length entries) ends.0 ends.1 inside m refl (none_slot (end_page a) m w)
              ∙ lowest_same (disagrees (a ∷ later) entries) (disagrees later entries) (end_page a) (length entries) (λ k c d. after k c);
        }

-- no area is left: every page that is left has to be unmapped
pub look_ends : {areas : List Area} {entries : List ℕ} {slot page : ℕ} → Looked areas entries slot page → length areas ≤ slot
    → first_wrong areas entries ≡ lowest_in (differs unmapped entries) page (length entries)
unfolding disagrees
look_ends {areas} {entries} {slot} l h = l.rest ∙ rw (drop_of_length-le areas h)

-- ---- one page, as facts

module _ (entries : List ℕ) (page : ℕ) where
  pub same_entry : (says : ℕ → ℕ) → differs says entries page ≡ false → get_or entries page 0 ≡ says page
  unfolding differs
  same_entry says e = eqb-true (get_or entries page 0) (says page) (not-false (eqb (get_or entries page 0) (says page)) e)

  pub entry_same : (says : ℕ → ℕ) → get_or entries page 0 ≡ says page → differs says entries page ≡ false
  unfolding differs
  entry_same says e = rw (eq-eqb (get_or entries page 0) (says page) e)

  -- what comes after an area does not hold its pages
  not_later : {space before : ℕ} (xs : List Area) → Ordered space before xs → page < before / page_size
      → (slot : ℕ) → slot < length xs → holds (get_or xs slot nothing) page ≡ false
  not_later xs o h slot l = held_not_yet (get_or xs slot nothing) page (omega (arith, starts_past o slot l))

  pub agrees_is : {space before : ℕ} (xs : List Area) → Ordered space before xs → disagrees xs entries page ≡ false → Agrees xs entries page
  unfolding disagrees
  agrees_is [] o e = record { in_area = λ slot l h. absurd (omega arith); in_none = λ h. same_entry unmapped e }
  agrees_is (a ∷ xs) (one_more g b o) e =
      by_test (holds a page)
      (λ h. alone h (same_entry (area_entry a) (rw h at e)))
      (λ h. later_on h (agrees_is xs o (rw h at e)))
    where
      alone : holds a page ≡ true → get_or entries page 0 ≡ area_entry a page → Agrees (a ∷ xs) entries page
      alone h is = record { in_area = first_one; in_none = λ none. absurd (true≢false (sym h ∙ none 0 (omega arith))) }
        where
          first_one : (slot : ℕ) → slot < length (a ∷ xs) → holds (get_or (a ∷ xs) slot nothing) page ≡ true
              → get_or entries page 0 ≡ area_entry (get_or (a ∷ xs) slot nothing) page
          first_one zero l y = is
          first_one (suc slot) l y = absurd (true≢false (sym y ∙ not_later xs o (holding a page h).upto slot (omega arith)))

      later_on : holds a page ≡ false → Agrees xs entries page → Agrees (a ∷ xs) entries page
      later_on h r = record { in_area = second_one; in_none = λ none. r.in_none (λ slot l. none (suc slot) (omega arith)) }
        where
          second_one : (slot : ℕ) → slot < length (a ∷ xs) → holds (get_or (a ∷ xs) slot nothing) page ≡ true
              → get_or entries page 0 ≡ area_entry (get_or (a ∷ xs) slot nothing) page
          second_one zero l y = absurd (true≢false (sym y ∙ h))
          second_one (suc slot) l y = r.in_area slot (omega arith) y

  pub is_agrees : (xs : List Area) → Agrees xs entries page → disagrees xs entries page ≡ false
  unfolding disagrees
  is_agrees [] a = entry_same unmapped (a.in_none (λ slot l. absurd (omega arith)))
  is_agrees (x ∷ xs) a =
      by_test (holds x page)
      (λ h. rw h (entry_same (area_entry x) (a.in_area 0 (omega arith) h)))
      (λ h. rw h (is_agrees xs (rest h)))
    where
      rest : holds x page ≡ false → Agrees xs entries page
      rest h =
          record {
            in_area = λ slot l y. a.in_area (suc slot) (omega arith) y;
            in_none = λ none. a.in_none (cases none);
          }
        where
          cases : ((slot : ℕ) → slot < length xs → holds (get_or xs slot nothing) page ≡ false)
              → (slot : ℕ) → slot < length (x ∷ xs) → holds (get_or (x ∷ xs) slot nothing) page ≡ false
          cases none zero l = h
          cases none (suc slot) l = none slot (omega arith)
