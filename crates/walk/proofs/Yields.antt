-- Laws of the walk: from its start it yields every area of good tables, in order, each once, and nothing more; from refused tables it
-- yields none. Assumes nothing.
use Prim.Native.Nat.{ℕ, zero, suc, ◌+◌, ◌≤◌, ◌<◌}
use mathlib.Core.Path.{◌≡◌, refl, sym, ap, ◌∙◌}
use mathlib.Core.Bool.{true, false}
use mathlib.Core.List.{List, []}
use native.Mathlib.Omega.{arith}
use native.Mathlib.Decide.{dec_lt}
use native.Mathlib.Numerals.{add-one}
use lib.ListN.{length, get_or, take, drop, drop_of_length-le}
use lib.Seq.{drop-cons, take_all, take-nil}
use denote.Ref.{Bor}
use Rattle.lists.proofs.Every.{by_test}
use Rattle.area.specs.Answer.{Reply, reply}
use Rattle.area.specs.Area.{nothing}
use Rattle.area.specs.declared.Refusal.{Refusal}
use Rattle.area.specs.declared.Area.{Area}
use Rattle.area.proofs.Answers.{reply_zero, reply_suc, one_outcome}
use Rattle.area_list.specs.Layout.{rows}
use Rattle.area_list.specs.Good.{good_tables}
use Rattle.area_list.specs.Item.{item_at}
use Rattle.std.specs.Prelude.{Result, Option, Some, None}
use Rattle.area_list.proofs.Goodness.{tables_are}
use Rattle.area_list.proofs.Items.{good_item, past_count}
use Rattle.area_list.proofs.Rows.{length_rows}
use Rattle.questions.specs.Question.{len_outcome, len_rule}
use Rattle.questions.proofs.Answering.{tables_bad, tables_good}
use Rattle.walk.specs.Walking.{place, walk_outcome, walk_rule, after, yielded, moved, yields}
use Rattle.walk.specs.declared.Walk.{Walk}

-- a walk, by its parts
abbrev pub walk_at : Bor (List ℕ) → Result ℕ Refusal → ℕ → Walk
walk_at areas len slot = record { areas = areas; len = len; slot = slot }

-- ---- len, good and refused

module _ (areas pages : List ℕ) (count : ℕ) where
  pub len_good : good_tables areas count (length pages) ≡ true → len_rule areas pages count ≡ reply 0 count
  unfolding len_rule
  len_good g = sym (reply_zero 0 _ count (tables_good areas pages count g))

  pub len_bad : good_tables areas count (length pages) ≡ false → len_rule areas pages count ≡ reply 1 0
  unfolding len_rule
  len_bad g = sym (reply_suc 0 _ count 0 (tables_bad areas pages count g))

-- ---- a walk that was made of tables

-- what `new` makes of what len said
pub begun_is : (areas : Bor (List ℕ)) (pages : List ℕ) (count : ℕ) (len : Result ℕ Refusal) → len_outcome len ≡ len_rule areas.now pages count
    → walk_outcome (walk_at areas len 0) ≡ walk_rule areas pages count
unfolding walk_rule
begun_is areas pages count len e = ap (λ (o : Reply ℕ). reply o.answer (place areas o.value 0)) e

module _ (w : Walk) (areas : Bor (List ℕ)) (pages : List ℕ) (count : ℕ) (e : walk_outcome w ≡ walk_rule areas pages count) where
  -- "its number is the one len gives"
  pub walk_number : (len_outcome w.len).answer ≡ (len_rule areas.now pages count).answer
  unfolding walk_rule
  walk_number = λ i. (e i).answer

  -- it is what len answers, and at slot 0 of the caller's words
  pub walk_len : len_outcome w.len ≡ len_rule areas.now pages count
  unfolding walk_rule
  walk_len = λ i. reply (e i).answer (e i).value.count

  pub walk_is : w ≡ walk_at areas w.len 0
  unfolding walk_rule
  walk_is = λ i. walk_at (e i).value.areas w.len (e i).value.slot

-- no second outcome
pub walk_unique : (w v : Walk) → walk_outcome w ≡ walk_outcome v → w ≡ v
walk_unique w v e =
    let len : w.len ≡ v.len = one_outcome 0 w.len v.len (λ i. reply (e i).answer (e i).value.count) in
    λ i. walk_at (e i).value.areas (len i) (e i).value.slot

-- ---- what it yields

-- any walk, also one that nobody made of tables: once it yields none it stays as it is, and so yields none again
pub stays_ended : (w : Walk) → yielded w ≡ None → moved w ≡ w
stays_ended w e = ap (λ (i : Option Area). walk_at w.areas w.len (after i w.slot)) e

-- each slot below n has its area
abbrev pub Full : List ℕ → ℕ → Type 0
Full ws n = (slot : ℕ) → slot < n → item_at ws n slot ≡ Some (get_or (rows ws n) slot nothing)

pub len_full : (areas pages : List ℕ) (count : ℕ) → Full areas (len_rule areas pages count).value
len_full areas pages count =
    by_test (good_tables areas count (length pages))
    (λ g. rw (len_good areas pages count g) (λ slot h. good_item areas count slot (tables_are areas count (length pages) g) h))
    (λ g. rw (len_bad areas pages count g) (λ slot h. absurd (omega arith)))

-- from any slot on
module _ (areas : Bor (List ℕ)) (len : Result ℕ Refusal) where
  abbrev n : ℕ
  n = (len_outcome len).value

  yields_from : Full areas.now n → (k slot : ℕ) → yields k (walk_at areas len slot) ≡ take k (drop slot (rows areas.now n))
  unfolding yields
  yields_from full zero slot = refl
  yields_from full (suc k) slot =
      elim (dec_lt slot n) [
        | yes h ↦ let l : slot < length (rows areas.now n) = rw (length_rows areas.now n) h in
            rw (full slot h, drop-cons (rows areas.now n) slot nothing l, ← add-one slot, yields_from full k (slot + 1))
        | no h ↦ let l : length (rows areas.now n) ≤ slot = rw (length_rows areas.now n) (omega arith) in
            rw (past_count areas.now n slot (omega arith), drop_of_length-le (rows areas.now n) l)
      ]

module _ (w : Walk) (areas : Bor (List ℕ)) (pages : List ℕ) (count : ℕ) (e : walk_outcome w ≡ walk_rule areas pages count) where
  -- k steps yield the first k areas of those that len counts
  pub walk_yields : (k : ℕ) → yields k w ≡ take k (rows areas.now (len_rule areas.now pages count).value)
  walk_yields k =
      let says : (len_outcome w.len).value ≡ (len_rule areas.now pages count).value = λ i. (walk_len w areas pages count e i).value in
      ap (yields k) (walk_is w areas pages count e)
      ∙ yields_from areas w.len (rw says (len_full areas.now pages count)) k 0
      ∙ ap (λ (n : ℕ). take k (rows areas.now n)) says

  -- "every area in order", each once, and nothing more however often it is asked
  pub every_area : good_tables areas.now count (length pages) ≡ true → (k : ℕ) → count ≤ k → yields k w ≡ rows areas.now count
  every_area g k h = walk_yields k ∙ rw (len_good areas.now pages count g) (take_all k (rows areas.now count) (rw (length_rows areas.now count) h))

  -- "A refused walk yields no area"
  pub no_area : good_tables areas.now count (length pages) ≡ false → (k : ℕ) → yields k w ≡ []
  unfolding rows
  no_area g k = walk_yields k ∙ rw (len_bad areas.now pages count g) (take-nil k)
