-- What a list of areas says of a page, and what a cut, an insertion and a protect make of it. Assumes nothing.
use Prim.Native.Nat.{ℕ, suc, ◌*◌, ◌/◌, ◌%◌, ◌≤◌, ◌<◌, min, max}
use mathlib.Core.Path.{◌≡◌, refl, sym, ap, ◌∙◌}
use mathlib.Core.Bool.{Bool, true, false, cond, true≢false}
use mathlib.Core.List.{List, [], ◌∷◌, ◌++◌, flat_map}
use native.Mathlib.Omega.{arith}
use native.Mathlib.Decide.{dec_lt, dec_le}
use lib.Dec.{leb, ltb}
use borrow.Author.Tests.{le-leb, lt-leb, ltb-true, leb-true}
use Rattle.lists.specs.Each.{in_range}
use Rattle.lists.proofs.Each.{in_range_lem, before_range, after_range, place}
use Rattle.lists.proofs.Every.{by_test, and_left, and_right, refuted}
use Rattle.page_table.specs.Limits.{page_size}
use Rattle.area.specs.Area.{first_page, end_page, holds, part}
use Rattle.area.specs.declared.Area.{Area}
use Rattle.area.proofs.Areas.{Good}
use Rattle.area_list.specs.Meet.{shares, shares_any}
use Rattle.area_list.proofs.Ordered.{Ordered, one_more}
use Rattle.area_list.proofs.Meets.{shares_common, common_shares, any_no, no_shares}
use Rattle.effects.specs.Lists.{left_piece, right_piece, outside, cut, insert, new_flags, changes, with_flags, protected, protect}
use Rattle.effects.proofs.Cutting.{left_no, left_yes, right_no, right_yes}
use Rattle.effects.proofs.Protecting.{same_flags, kept_apart, kept_same}
use Rattle.history.specs.Fate.{Fate, unmapped, mapped, reflagged}

-- what an area says of its own pages
abbrev pub fate_in : Area → Fate
fate_in a = mapped a.backend a.flags

-- the first area that holds the page says what it is; else it is as told
unfoldable pub seen : List Area → ℕ → Fate → Fate
seen [] page other = other
seen (a ∷ rest) page other = cond (holds a page) (fate_in a) (seen rest page other)

abbrev pub lookup : List Area → ℕ → Fate
lookup list page = seen list page unmapped

seen_append : (xs ys : List Area) (page : ℕ) (other : Fate) → seen (xs ++ ys) page other ≡ seen xs page (seen ys page other)
unfolding seen
seen_append [] ys page other = refl
seen_append (a ∷ xs) ys page other = ap (cond (holds a page) (fate_in a)) (seen_append xs ys page other)

-- a page is in the range or it is not
by_range : {X : Type 0} (low high page : ℕ)
    → (in_range (low / page_size) (high / page_size) page ≡ true → low / page_size ≤ page → page < high / page_size → X)
    → (in_range (low / page_size) (high / page_size) page ≡ false → X) → X
by_range low high page inside other =
    place (low / page_size) (high / page_size) page
    (λ l. other (before_range (low / page_size) (high / page_size) page l))
    (λ l h. inside (in_range_lem (low / page_size) (high / page_size) page l h) l h)
    (λ h. other (after_range (low / page_size) (high / page_size) page h))

-- where it is not, it lies before the range or after it
out_of_range : {X : Type 0} (low high page : ℕ) → in_range (low / page_size) (high / page_size) page ≡ false
    → (page < low / page_size → X) → (high / page_size ≤ page → X) → X
out_of_range low high page e before after =
    place (low / page_size) (high / page_size) page before
    (λ l h. absurd (true≢false (sym (in_range_lem (low / page_size) (high / page_size) page l h) ∙ e)))
    after

-- ---- an area and a page

pub held : (a : Area) (page : ℕ) → first_page a ≤ page → page < end_page a → holds a page ≡ true
unfolding holds
held a page s e = in_range_lem (first_page a) (end_page a) page s e

pub held_not_yet : (a : Area) (page : ℕ) → page < first_page a → holds a page ≡ false
unfolding holds
held_not_yet a page h = before_range (first_page a) (end_page a) page h

pub held_no_more : (a : Area) (page : ℕ) → end_page a ≤ page → holds a page ≡ false
unfolding holds
held_no_more a page h = after_range (first_page a) (end_page a) page h

pub record Holding (a : Area) (page : ℕ) : Type 0 where
  pub from : first_page a ≤ page
  pub upto : page < end_page a

pub holding : (a : Area) (page : ℕ) → holds a page ≡ true → Holding a page
unfolding holds in_range
holding a page e =
    record {
      from = leb-true (first_page a) page (and_left (leb (first_page a) page) (ltb page (end_page a)) e);
      upto = ltb-true page (end_page a) (and_right (leb (first_page a) page) (ltb page (end_page a)) e);
    }

-- a page in the range and in the area has its first address in both
in_common : (low high : ℕ) (a : Area) (page : ℕ) → low % page_size ≡ 0 → a.start % page_size ≡ 0 → low / page_size ≤ page → page < high / page_size
    → holds a page ≡ true → shares low high a ≡ true
in_common low high a page p s l h e =
    let k = holding a page e in
    common_shares low high a (page_size * page) (record { from = omega arith; upto = omega arith; starts = omega arith; ends = omega arith })

-- so a page in a range that the area does not meet is not the area's
not_held : (low high : ℕ) (a : Area) (page : ℕ) → low % page_size ≡ 0 → a.start % page_size ≡ 0 → low / page_size ≤ page → page < high / page_size
    → shares low high a ≡ false → holds a page ≡ false
not_held low high a page p s l h e = refuted (holds a page) (λ k. true≢false (sym (in_common low high a page p s l h k) ∙ e))

-- ---- pieces: what of an area lies before low says the same of the pages before low and nothing of others, and so at high

module _ (a : Area) (page : ℕ) (other : Fate) where
  left_before : (low : ℕ) → page < low / page_size → low < a.end → seen (left_piece low a) page other ≡ seen (a ∷ []) page other
  unfolding seen
  left_before low l e =
      elim (dec_lt page (first_page a)) [
        | yes b ↦ rw (held_not_yet a page b) (elim (dec_lt a.start low) [
          | yes h ↦ rw (left_yes low a h, held_not_yet (part a a.start low) page b)
          | no h ↦ rw (left_no low a (omega arith))
        ])
        | no b ↦ rw (held a page (omega arith) (omega arith), left_yes low a (omega arith), held (part a a.start low) page (omega arith) l)
      ]

  left_gone : (low : ℕ) → low / page_size ≤ page → seen (left_piece low a) page other ≡ other
  unfolding seen
  left_gone low l =
      elim (dec_lt a.start low) [
        | yes h ↦ rw (left_yes low a h, held_no_more (part a a.start low) page l)
        | no h ↦ rw (left_no low a (omega arith))
      ]

  right_after : (high : ℕ) → high / page_size ≤ page → a.start < high → seen (right_piece high a) page other ≡ seen (a ∷ []) page other
  unfolding seen
  right_after high h s =
      elim (dec_lt page (end_page a)) [
        | yes b ↦ rw (held a page (omega arith) b, right_yes high a (omega arith), held (part a high a.end) page h b)
        | no b ↦ rw (held_no_more a page (omega arith)) (elim (dec_lt high a.end) [
          | yes e ↦ rw (right_yes high a e, held_no_more (part a high a.end) page (omega arith))
          | no e ↦ rw (right_no high a (omega arith))
        ])
      ]

  right_gone : (high : ℕ) → page < high / page_size → seen (right_piece high a) page other ≡ other
  unfolding seen
  right_gone high h =
      elim (dec_lt high a.end) [
        | yes e ↦ rw (right_yes high a e, held_not_yet (part a high a.end) page h)
        | no e ↦ rw (right_no high a (omega arith))
      ]

-- ---- a cut: its range is unmapped, and other pages are as they were

module _ (low high : ℕ) (p : low % page_size ≡ 0) (page : ℕ) where
  module _ {space : ℕ} (a : Area) (g : Good space a) (other : Fate) where
    outside_inside : low / page_size ≤ page → page < high / page_size → seen (outside low high a) page other ≡ other
    unfolding outside seen
    outside_inside l h =
        by_test (shares low high a)
        (λ e. rw (e, seen_append (left_piece low a) (right_piece high a) page other, right_gone a page other high h) (left_gone a page other low l))
        (λ e. rw (e, not_held low high a page p g.start_aligned l h e))

    outside_before : page < low / page_size → seen (outside low high a) page other ≡ seen (a ∷ []) page other
    unfolding outside
    outside_before l =
        by_test (shares low high a)
        (λ e. let c = shares_common low high a e in
        rw (e, seen_append (left_piece low a) (right_piece high a) page other, right_gone a page other high (omega arith)) (left_before a page other low l (omega arith)))
        (λ e. rw e)

    outside_after : high / page_size ≤ page → seen (outside low high a) page other ≡ seen (a ∷ []) page other
    unfolding outside
    outside_after h =
        by_test (shares low high a)
        (λ e. let c = shares_common low high a e in
        rw (e, seen_append (left_piece low a) (right_piece high a) page other)
        (left_gone a page (seen (right_piece high a) page other) low (omega arith) ∙ right_after a page other high h (omega arith)))
        (λ e. rw e)

    outside_other : in_range (low / page_size) (high / page_size) page ≡ false → seen (outside low high a) page other ≡ seen (a ∷ []) page other
    outside_other e = out_of_range low high page e outside_before outside_after

  cut_inside : {space before : ℕ} (xs : List Area) → Ordered space before xs → low / page_size ≤ page → page < high / page_size
      → lookup (cut low high xs) page ≡ unmapped
  unfolding cut flat_map seen
  cut_inside [] o l h = refl
  cut_inside (a ∷ xs) (one_more g b o) l h =
      seen_append (outside low high a) (cut low high xs) page unmapped ∙ rw (cut_inside xs o l h) (outside_inside a g unmapped l h)

  cut_other : {space before : ℕ} (xs : List Area) → Ordered space before xs → in_range (low / page_size) (high / page_size) page ≡ false
      → lookup (cut low high xs) page ≡ lookup xs page
  unfolding cut flat_map seen
  cut_other [] o e = refl
  cut_other (a ∷ xs) (one_more g b o) e =
      seen_append (outside low high a) (cut low high xs) page unmapped ∙ rw (cut_other xs o e) (outside_other a g (lookup xs page) e)

  pub lookup_cut : {space before : ℕ} (xs : List Area) → Ordered space before xs
      → lookup (cut low high xs) page ≡ cond (in_range (low / page_size) (high / page_size) page) unmapped (lookup xs page)
  lookup_cut xs o =
      by_range low high page
      (λ e l h. rw e (cut_inside xs o l h))
      (λ e. rw e (cut_other xs o e))

-- ---- an insertion: the new area's pages are its own

-- where only one of two tests can hold, their order does not matter
either_first : {A : Type 0} (b c : Bool) (x y z : A) → (b ≡ true → c ≡ false) → cond b x (cond c y z) ≡ cond c y (cond b x z)
either_first true c x y z h = rw (h refl)
either_first false c x y z h = refl

pub lookup_insert : {space before : ℕ} (a : Area) (xs : List Area) (page : ℕ) → Ordered space before xs → a.start % page_size ≡ 0
    → shares_any a.start a.end xs ≡ false → lookup (insert a xs) page ≡ cond (holds a page) (fate_in a) (lookup xs page)
unfolding insert seen shares_any
lookup_insert a [] page o s c = refl
lookup_insert a (b ∷ xs) page (one_more g d o) s c =
    elim (dec_le a.start b.start) [
      | yes l ↦ rw (le-leb a.start b.start l)
      | no l ↦ rw (lt-leb a.start b.start (omega arith))
          (ap (cond (holds b page) (fate_in b)) (lookup_insert a xs page o s (any_no a.start a.end xs (λ i h. no_shares a.start a.end (b ∷ xs) c (suc i) (omega arith))))
          ∙ either_first (holds b page) (holds a page) (fate_in b) (fate_in a) (lookup xs page) apart)
    ]
  where
    apart : holds b page ≡ true → holds a page ≡ false
    apart e =
        refuted (holds a page)
        (λ k. let h = holding a page k in
        true≢false (sym e ∙ not_held a.start a.end b page s g.start_aligned h.from h.upto (no_shares a.start a.end (b ∷ xs) c 0 (omega arith))))

-- ---- a protect: the flags in its range change, and other pages are as they were

-- the area alone, with the flags that a protect gives
reflagged_alone : (set clear : ℕ) (a : Area) (page : ℕ) (other : Fate)
    → cond (holds a page) (mapped a.backend (new_flags set clear a.flags)) (reflagged set clear other) ≡ reflagged set clear (seen (a ∷ []) page other)
unfolding seen reflagged
reflagged_alone set clear a page other = by_test (holds a page) (λ e. rw e) (λ e. rw e)

module _ (low high set clear : ℕ) (p : low % page_size ≡ 0) (page : ℕ) where
  module _ (a : Area) where
    -- the part inside
    abbrev middle : Area
    middle = with_flags (new_flags set clear a.flags) (part a (max low a.start) (min high a.end))

    by_pieces : (other : Fate) → shares low high a ≡ true → changes set clear a ≡ true
        → seen (protected low high set clear a) page other
        ≡ seen (left_piece low a) page (cond (holds middle page) (fate_in middle) (seen (right_piece high a) page other))
    unfolding protected seen
    by_pieces other e c = rw (e, c) (seen_append (left_piece low a) (middle ∷ right_piece high a) page other)

    middle_holds : low / page_size ≤ page → page < high / page_size → holds middle page ≡ holds a page
    middle_holds l h =
        place (first_page a) (end_page a) page
        (λ b. held_not_yet middle page (omega arith) ∙ sym (held_not_yet a page b))
        (λ b e. held middle page (omega arith) (omega arith) ∙ sym (held a page b e))
        (λ e. held_no_more middle page (omega arith) ∙ sym (held_no_more a page e))

  module _ {space : ℕ} (a : Area) (g : Good space a) (other : Fate) where
    protected_inside : low / page_size ≤ page → page < high / page_size
        → seen (protected low high set clear a) page (reflagged set clear other) ≡ reflagged set clear (seen (a ∷ []) page other)
    unfolding seen reflagged
    protected_inside l h =
        by_test (changes set clear a)
        (λ c. by_test (shares low high a)
        (λ e. by_pieces a (reflagged set clear other) e c
        ∙ left_gone a page (cond (holds (middle a) page) (fate_in (middle a)) (seen (right_piece high a) page (reflagged set clear other))) low l
        ∙ rw (right_gone a page (reflagged set clear other) high h, middle_holds a l h) (reflagged_alone set clear a page other))
        (λ e. rw (kept_apart low high set clear a e, not_held low high a page p g.start_aligned l h e)))
        (λ c. rw (kept_same low high set clear a c) (rw (same_flags set clear a c) at (reflagged_alone set clear a page other)))

    protected_before : page < low / page_size → seen (protected low high set clear a) page other ≡ seen (a ∷ []) page other
    protected_before l =
        by_test (changes set clear a)
        (λ c. by_test (shares low high a)
        (λ e. let k = shares_common low high a e in
        by_pieces a other e c
        ∙ rw (right_gone a page other high (omega arith), held_not_yet (middle a) page (omega arith)) (left_before a page other low l (omega arith)))
        (λ e. rw (kept_apart low high set clear a e)))
        (λ c. rw (kept_same low high set clear a c))

    protected_after : high / page_size ≤ page → seen (protected low high set clear a) page other ≡ seen (a ∷ []) page other
    protected_after h =
        by_test (changes set clear a)
        (λ c. by_test (shares low high a)
        (λ e. let k = shares_common low high a e in
        by_pieces a other e c
        ∙ left_gone a page (cond (holds (middle a) page) (fate_in (middle a)) (seen (right_piece high a) page other)) low (omega arith)
        ∙ rw (held_no_more (middle a) page (omega arith)) (right_after a page other high h (omega arith)))
        (λ e. rw (kept_apart low high set clear a e)))
        (λ c. rw (kept_same low high set clear a c))

    protected_other : in_range (low / page_size) (high / page_size) page ≡ false → seen (protected low high set clear a) page other ≡ seen (a ∷ []) page other
    protected_other e = out_of_range low high page e protected_before protected_after

  protect_inside : {space before : ℕ} (xs : List Area) → Ordered space before xs → low / page_size ≤ page → page < high / page_size
      → lookup (protect low high set clear xs) page ≡ reflagged set clear (lookup xs page)
  unfolding protect flat_map seen reflagged
  protect_inside [] o l h = refl
  protect_inside (a ∷ xs) (one_more g b o) l h =
      seen_append (protected low high set clear a) (protect low high set clear xs) page unmapped
      ∙ rw (protect_inside xs o l h) (protected_inside a g (lookup xs page) l h)

  protect_other : {space before : ℕ} (xs : List Area) → Ordered space before xs → in_range (low / page_size) (high / page_size) page ≡ false
      → lookup (protect low high set clear xs) page ≡ lookup xs page
  unfolding protect flat_map seen
  protect_other [] o e = refl
  protect_other (a ∷ xs) (one_more g b o) e =
      seen_append (protected low high set clear a) (protect low high set clear xs) page unmapped
      ∙ rw (protect_other xs o e) (protected_other a g (lookup xs page) e)

  pub lookup_protect : {space before : ℕ} (xs : List Area) → Ordered space before xs
      → lookup (protect low high set clear xs) page
      ≡ cond (in_range (low / page_size) (high / page_size) page) (reflagged set clear (lookup xs page)) (lookup xs page)
  lookup_protect xs o =
      by_range low high page
      (λ e l h. rw e (protect_inside xs o l h))
      (λ e. rw e (protect_other xs o e))
