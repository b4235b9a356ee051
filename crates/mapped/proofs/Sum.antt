-- Laws of the number of pages under areas: it is at most the number of pages, no second outcome has it, and how it adds up slot by
-- slot. Assumes nothing.
use Prim.Native.Nat.{ℕ, ◌+◌, ◌-◌, ◌/◌, ◌≤◌, ◌<◌}
use mathlib.Core.Path.{◌≡◌, sym, ap, ◌∙◌}
use mathlib.Core.Bool.{true, false, true≢false}
use mathlib.Core.List.{List}
use native.Mathlib.Omega.{arith}
use native.Mathlib.Decide.{dec_lt}
use native.Mathlib.Numerals.{add-one}
use lib.ListN.{length, get_or, drop, drop_of_length-le}
use lib.Seq.{drop-cons}
use Rattle.lists.proofs.Every.{by_test}
use Rattle.page_table.specs.Limits.{page_size}
use Rattle.std.specs.Borrow.{Bor}
use Rattle.area.specs.Answer.{number, Reply, reply}
use Rattle.area.specs.Area.{nothing}
use Rattle.area.specs.declared.Area.{Area}
use Rattle.area.proofs.Answers.{reply_zero, reply_suc, reply_answer, one_outcome}
use Rattle.area_list.specs.Layout.{rows}
use Rattle.area_list.specs.Good.{good_tables}
use Rattle.area_list.specs.Item.{item_at}
use Rattle.area_list.proofs.Ordered.{Ordered, none_left, one_more}
use Rattle.area_list.proofs.Goodness.{tables_are}
use Rattle.area_list.proofs.Items.{past_count}
use Rattle.area_list.proofs.Rows.{length_rows}
use Rattle.questions.specs.Question.{len_outcome, len_rule}
use Rattle.questions.specs.Tests.{tables_answer}
use Rattle.questions.proofs.Answering.{tables_bad, tables_good}
use Rattle.std.specs.Prelude.{Result, Ok, Err, Option, Some, None, is_none}
use Rattle.walk.specs.Walking.{Place, walk_outcome, walk_rule, count_of, after, yielded, Steps}
use Rattle.walk.specs.declared.Walk.{Walk}
use Rattle.mapped.specs.Mapped.{pages_of, pages_under, mapped_outcome, mapped_rule}
use Rattle.area.specs.declared.Refusal.{Refusal}
use Rattle.walk.proofs.Yields.{Full, len_good, len_bad, len_full, walk_number}

-- areas in order in a space have no more pages than it has
within : {space before : ℕ} {xs : List Area} → Ordered space before xs → pages_under xs ≤ space / page_size - before / page_size
unfolding pages_under
within none_left = omega arith
within (one_more g b o) = let r = within o in omega (arith, g.nonempty, g.inside)

module _ (areas pages : List ℕ) (count : ℕ) where
  -- by what len says: its number, and the pages under the areas that it counts
  pub mapped_is : reply (len_rule areas pages count).answer (pages_under (rows areas (len_rule areas pages count).value)) ≡ mapped_rule areas pages count
  unfolding mapped_rule pages_under rows
  mapped_is =
      by_test (good_tables areas count (length pages))
      (λ g. rw (len_good areas pages count g) (reply_zero 0 _ (pages_under (rows areas count)) (tables_good areas pages count g)))
      (λ g. rw (len_bad areas pages count g) (reply_suc 0 _ (pages_under (rows areas count)) 0 (tables_bad areas pages count g)))

  pub mapped_few : pages_under (rows areas (len_rule areas pages count).value) ≤ length pages
  unfolding pages_under rows
  mapped_few =
      by_test (good_tables areas count (length pages))
      (λ g. rw (len_good areas pages count g) (omega (arith, within (tables_are areas count (length pages) g).ordered)))
      (λ g. rw (len_bad areas pages count g) (omega arith))

-- what a walk says of the tables it was made of: refused as they are, or none of their tests applies
module _ (w : Walk) (areas : Bor (List ℕ)) (pages : List ℕ) (count : ℕ) (e : walk_outcome w ≡ walk_rule areas pages count) where
  pub walk_refused : (r : Refusal) → Err r ≡ w.len → number r ≡ tables_answer areas.now pages count
  unfolding len_rule
  walk_refused r l =
      ap (λ (len : Result ℕ Refusal). (len_outcome len).answer) l
      ∙ walk_number w areas pages count e ∙ reply_answer 0 (tables_answer areas.now pages count) count

  pub walk_accepted : (n : ℕ) → Ok n ≡ w.len
      → reply 0 (pages_under (rows areas.now (len_rule areas.now pages count).value)) ≡ mapped_rule areas.now pages count
  walk_accepted n l =
      ap (λ (k : ℕ). reply k (pages_under (rows areas.now (len_rule areas.now pages count).value)))
      (ap (λ (len : Result ℕ Refusal). (len_outcome len).answer) l ∙ walk_number w areas pages count e)
      ∙ mapped_is areas.now pages count

-- no second outcome
pub mapped_unique : (r s : Result ℕ Refusal) → mapped_outcome r ≡ mapped_outcome s → r ≡ s
mapped_unique = one_outcome 0

-- ---- one turn of `mapped_pages`

module _ (ws : List ℕ) (n : ℕ) (full : Full ws n) (slot : ℕ) where
  abbrev left : ℕ
  left = pages_under (drop slot (rows ws n))

  pub some_below : is_none (item_at ws n slot) ≡ false → slot < n
  some_below e = elim (dec_lt slot n) [ yes h ↦ h | no h ↦ absurd (true≢false (rw (past_count ws n slot (omega arith)) at e)) ]

  -- an area: its pages are no longer left after it
  pub one_less : (a : Area) → item_at ws n slot ≡ Some a → pages_of a + pages_under (drop (slot + 1) (rows ws n)) ≡ left
  unfolding pages_under
  one_less a e =
      let h : slot < n = some_below (ap is_none e) in
      let l : slot < length (rows ws n) = rw (length_rows ws n) h in
      let same : get_or (rows ws n) slot nothing ≡ a = let both = sym (full slot h) ∙ e in cc in
      rw (← same, drop-cons (rows ws n) slot nothing l, add-one slot)

  -- none: nothing is left
  pub none_left_over : is_none (item_at ws n slot) ≡ true → left ≡ 0
  unfolding pages_under
  none_left_over e =
      elim (dec_lt slot n) [
        | yes h ↦ absurd (true≢false (sym (rw (full slot h) at e)))
        | no h ↦ let l : length (rows ws n) ≤ slot = rw (length_rows ws n) (omega arith) in rw (drop_of_length-le (rows ws n) l)
      ]

-- what the loop keeps: the walk is on the words lent and counts as len says, and the sum and what is left are all the pages
pub record Summing (areas pages : List ℕ) (count : ℕ) (w : Walk) (sum : ℕ) : Type 0 where
  pub words : w.areas.now ≡ areas
  pub counted : count_of w ≡ (len_rule areas pages count).value
  pub summed : sum + pages_under (drop w.slot (rows areas (count_of w))) ≡ pages_under (rows areas (count_of w))

pub sum_begins : (areas : Bor (List ℕ)) (pages : List ℕ) (count : ℕ) (w : Walk) → walk_outcome w ≡ walk_rule areas pages count → Summing areas.now pages count w 0
unfolding walk_rule
sum_begins areas pages count w e =
    let at : w.slot ≡ 0 = ap (λ (r : Reply Place). r.value.slot) e in
    record {
      words = ap (λ (r : Reply Place). r.value.areas.now) e;
      counted = ap (λ (r : Reply Place). r.value.count) e;
      summed = rw at (omega arith);
    }

module _ {areas pages : List ℕ} {count : ℕ} {w : Walk} {sum : ℕ} (s : Summing areas pages count w sum) where
  full : Full areas (count_of w)
  full = rw s.counted (len_full areas pages count)

  item_is : (item : Option Area) → item ≡ yielded w → item_at areas (count_of w) w.slot ≡ item
  item_is item e = sym (e ∙ ap (λ (ws : List ℕ). item_at ws (count_of w) w.slot) s.words)

  module _ (a : Area) (w' : Walk) (t : Steps w (Some a) w') where
    -- a walk that yielded an area is nearer to its end
    pub sum_nearer : count_of w' - w'.slot < count_of w - w.slot
    sum_nearer =
        let further : w'.slot ≡ w.slot + 1 = ap (λ (v : Walk). v.slot) t.1 ∙ ap (λ (i : Option Area). after i w.slot) (sym t.0) in
        let same : count_of w' ≡ count_of w = ap (λ (v : Walk). count_of v) t.1 in
        let below : w.slot < count_of w = some_below areas (count_of w) full w.slot (ap is_none (item_is (Some a) t.0)) in
        omega (arith, further, same, below)

    step : pages_of a + pages_under (drop (w.slot + 1) (rows areas (count_of w))) ≡ pages_under (drop w.slot (rows areas (count_of w)))
    step = one_less areas (count_of w) full w.slot a (item_is (Some a) t.0)

    -- the sum stays within the number of pages
    pub sum_small : sum + pages_of a ≤ length pages
    sum_small =
        let few : pages_under (rows areas (count_of w)) ≤ length pages = rw s.counted (mapped_few areas pages count) in
        omega (arith, step, s.summed, few)

    pub sum_goes_on : Summing areas pages count w' (sum + pages_of a)
    sum_goes_on =
        let further : w'.slot ≡ w.slot + 1 = ap (λ (v : Walk). v.slot) t.1 ∙ ap (λ (i : Option Area). after i w.slot) (sym t.0) in
        let same : count_of w' ≡ count_of w = ap (λ (v : Walk). count_of v) t.1 in
        record {
          words = ap (λ (v : Walk). v.areas.now) t.1 ∙ s.words;
          counted = same ∙ s.counted;
          summed = rw (same, further) (omega (arith, step, s.summed));
        }

  pub sum_ends : (w' : Walk) → Steps w None w' → sum ≡ pages_under (rows areas (len_rule areas pages count).value)
  sum_ends w' t =
      let over : pages_under (drop w.slot (rows areas (count_of w))) ≡ 0 = none_left_over areas (count_of w) full w.slot (ap is_none (item_is None t.0)) in
      rw (← s.counted) (omega (arith, over, s.summed))
