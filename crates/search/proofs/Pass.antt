-- The search's pass over the areas, turn by turn: what is known of the address that it has come to, and of the slot.
-- Assumes nothing.
use Prim.Native.Nat.{ℕ, ◌+◌, ◌%◌, ◌^◌, ◌≤◌, ◌<◌, min, max}
use mathlib.Core.Path.{◌≡◌, sym, ap}
use mathlib.Core.Bool.{true}
use mathlib.Core.List.{List}
use native.Mathlib.Omega.{arith}
use native.Mathlib.Decide.{dec_lt, ℕ_discrete}
use native.Mathlib.Nat.{le_trans, zero-mod}
use lib.ListN.{length, get_or}
use borrow.Author.Tests.{ltb-false}
use Rattle.area.specs.Area.{nothing}
use Rattle.area.specs.declared.Area.{Area}
use Rattle.area_list.specs.Good.{good_tables, space_of}
use Rattle.area_list.specs.Layout.{rows}
use Rattle.area_list.specs.Position.{first_where, ends_past}
use Rattle.area_list.proofs.Goodness.{tables_are}
use Rattle.area_list.proofs.Ordered.{Ordered, good_at, starts_rise}
use Rattle.area_list.proofs.Positions.{first}
use Rattle.area_list.proofs.Rows.{length_rows}
use Rattle.search.specs.declared.Wanted.{Wanted}
use Rattle.search.specs.Free.{up_to, Ask, wanted_in, LegalSearch, free_gives, free_rule}
use Rattle.search.proofs.Multiples.{steps_apart, up_multiple, up_from, up_lowest}
use Rattle.search.proofs.Powers.{power_is, power_positive}
use Rattle.search.proofs.Search.{Fits, none_is, lowest_is}

-- what does not change: good areas, a search that passed its tests, and the last address with room below limit end and the space
pub record Setting (xs : List Area) (count : ℕ) (q : Ask) (last : ℕ) : Type 0 where
  pub ordered : Ordered q.space 0 xs
  pub counted : length xs ≡ count
  pub small : q.space < 2 ^ 32
  pub legal : LegalSearch q.size q.align
  pub room : last + q.size ≡ min q.high q.space

-- the pass has come to the address at: nothing below it fits, and the areas before the slot end no later
pub record Pass (xs : List Area) (count : ℕ) (q : Ask) (last at slot : ℕ) : Type 0 where
  pub setting : Setting xs count q last
  pub multiple : at % q.align ≡ 0
  pub from_hint : q.hint ≤ at
  pub from_low : q.low ≤ at
  pub below : (b : ℕ) → b < at → Fits xs q b → ⊥
  pub within : slot ≤ count
  pub ended : (i : ℕ) → i < slot → (get_or xs i nothing).end ≤ at

pub align_positive : {size align : ℕ} → LegalSearch size align → 0 < align
align_positive {size} {align} l = power_positive (power_is align l.power)

pub align_fits : {size align : ℕ} → LegalSearch size align → align ≤ size
align_fits {size} {align} l = omega (arith, steps_apart align 0 size (zero-mod align) l.whole l.some)

-- good tables are such a setting
pub setting_of : (ws : List ℕ) (count pages : ℕ) (w : Wanted) (last : ℕ) → good_tables ws count pages ≡ true → LegalSearch w.size w.align
    → last + w.size ≡ min w.high (space_of pages) → Setting (rows ws count) count (wanted_in w (space_of pages)) last
setting_of ws count pages w last good legal room =
    let tables = tables_are ws count pages good in
    record {
      ordered = tables.ordered;
      counted = length_rows ws count;
      small = omega (arith, tables.pages_few);
      legal = legal;
      room = room;
    }

module _ {xs : List Area} {count : ℕ} {q : Ask} {last : ℕ} where
  pub pass_begins : (from at slot : ℕ) → Setting xs count q last → from ≡ max q.hint q.low → at ≡ up_to q.align from
      → slot ≡ first_where (ends_past at) xs → Pass xs count q last at slot
  unfolding ends_past
  pass_begins from at slot s f a e =
      let positive = align_positive s.legal in
      let start : from ≤ at = omega (arith, up_from q.align from positive) in
      let place = first (ends_past at) xs in
      record {
        setting = s;
        multiple = rw a (up_multiple q.align from positive);
        from_hint = omega arith;
        from_low = omega arith;
        below = λ b h fits. omega (arith, up_lowest q.align from positive b fits.multiple (omega arith));
        within = omega (arith, place.in_list, s.counted);
        ended = λ i h. ltb-false at (get_or xs i nothing).end (place.fails i (omega arith));
      }

  module _ {at slot : ℕ} (p : Pass xs count q last at slot) where
    -- no address from here on has room
    pub pass_none : last < at → free_gives 7 0 ≡ free_rule xs q
    pass_none over =
        sym (none_is xs q
        (λ b f. elim (dec_lt b at) [ yes h ↦ p.below b h f | no h ↦ omega (arith, p.setting.room, f.below_high, f.inside) ]))

    -- the address has room, and every area from the slot on starts past it
    here : at ≤ last → ((i : ℕ) → slot ≤ i → i < count → at + q.size ≤ (get_or xs i nothing).start) → free_gives 0 at ≡ free_rule xs q
    here h later = sym (lowest_is xs q at fits p.below)
      where
        fits : Fits xs q at
        fits =
            record {
              multiple = p.multiple;
              from_hint = p.from_hint;
              from_low = p.from_low;
              below_high = omega (arith, p.setting.room);
              inside = omega (arith, p.setting.room);
              meets_none = λ i address l c. elim (dec_lt i slot)
                  [ yes m ↦ omega (arith, p.ended i m) | no m ↦ omega (arith, later i (omega arith) (omega (arith, p.setting.counted))) ];
            }

    pub pass_ends : at ≤ last → count ≤ slot → free_gives 0 at ≡ free_rule xs q
    pass_ends h e = here h (λ i a b. absurd (omega arith))

    -- the area at the slot
    module _ (a : Area) (more : slot < count) (is : a ≡ get_or xs slot nothing) where
      listed : slot < length xs
      listed = omega (arith, p.setting.counted)

      starts : a.start ≡ (get_or xs slot nothing).start
      starts = ap (λ (x : Area). x.start) is

      ends : a.end ≡ (get_or xs slot nothing).end
      ends = ap (λ (x : Area). x.end) is

      pub pass_found : at ≤ last → at + q.size ≤ a.start → free_gives 0 at ≡ free_rule xs q
      pass_found h room =
          here h (λ i l m. omega (arith, starts, starts_rise p.setting.ordered slot i l (omega (arith, p.setting.counted))))

      -- a multiple past its end is still a small number
      pub end_small : a.end + q.align < 2 ^ 64
      end_small = omega (arith, ends, (good_at p.setting.ordered slot listed).inside, p.setting.small, p.setting.room, align_fits p.setting.legal)

      -- with it, the areas so far end no later than an address from its end on
      ended_too : (next : ℕ) → at ≤ next → a.end ≤ next → (i : ℕ) → i < slot + 1 → (get_or xs i nothing).end ≤ next
      ended_too next h l i m =
          elim (ℕ_discrete i slot) [
            | yes e ↦ rw (e, ← ends) l
            | no e ↦ le_trans (p.ended i (omega arith)) h
          ]

      -- an address before its end, with room that reaches its start, does not fit
      meets_it : (b : ℕ) → at ≤ b → b < a.end → a.start < at + q.size → Fits xs q b → ⊥
      meets_it b h l m f =
          let nonempty = (good_at p.setting.ordered slot listed).nonempty in
          let some = p.setting.legal.some in
          f.meets_none slot (max b a.start) listed
          (record { from = omega arith; upto = omega arith; starts = omega (arith, starts); ends = omega (arith, starts, ends) })

      pub pass_skips : (next : ℕ) → a.end ≤ at → next ≡ at → Pass xs count q last next (slot + 1)
      pass_skips next h e =
          rw e
          (record {
            setting = p.setting;
            multiple = p.multiple;
            from_hint = p.from_hint;
            from_low = p.from_low;
            below = p.below;
            within = omega arith;
            ended = ended_too at (omega arith) h;
          })

      pub pass_moves : (next : ℕ) → a.start < at + q.size → at < a.end → next ≡ up_to q.align a.end → Pass xs count q last next (slot + 1)
      pass_moves next meets past e =
          let positive = align_positive p.setting.legal in
          let start : a.end ≤ next = omega (arith, up_from q.align a.end positive) in
          record {
            setting = p.setting;
            multiple = rw e (up_multiple q.align a.end positive);
            from_hint = omega (arith, p.from_hint);
            from_low = omega (arith, p.from_low);
            below = λ b h f. elim (dec_lt b at) [
              | yes l ↦ p.below b l f
              | no l ↦ elim (dec_lt b a.end) [
                | yes m ↦ meets_it b (omega arith) m meets f
                | no m ↦ omega (arith, up_lowest q.align a.end positive b f.multiple (omega arith))
              ]
            ];
            within = omega arith;
            ended = ended_too next (omega arith) start;
          }
