-- Demand 3: after any sequence of calls on fresh tables, everything that `Follows` says follows from the history of accepted calls
-- alone. Assumes nothing.
use Prim.Native.Nat.{ℕ, ◌+◌, ◌-◌, ◌/◌, ◌≤◌, ◌<◌}
use mathlib.Core.Path.{◌≡◌, refl, sym, ap, ◌∙◌}
use mathlib.Core.Bool.{true}
use mathlib.Core.List.{List}
use native.Mathlib.Omega.{arith}
use lib.ListN.{length, get_or, drop}
use lib.Seq.{get_or-take, get_or-drop}
use Rattle.page_table.specs.Limits.{page_size, max_pages}
use Rattle.page_table.specs.declared.Backend.{Backend}
use Rattle.area.specs.Answer.{reply}
use Rattle.area.specs.Area.{first_page, end_page, holds, nothing}
use Rattle.area.specs.declared.Area.{Area}
use Rattle.area_list.specs.Good.{good_tables}
use Rattle.area_list.specs.Position.{first_where, contains}
use Rattle.area_list.proofs.Ordered.{apart}
use Rattle.area_list.proofs.Positions.{first}
use Rattle.area_list.proofs.Rows.{length_rows}
use Rattle.questions.specs.Question.{entries_of, entries_rule}
use Rattle.rules.specs.Change.{Tables}
use Rattle.rules.specs.Calls.{Call}
use Rattle.questions.proofs.Questions.{found_at, found_none, find_inside, entries_length}
use Rattle.history.specs.Fate.{unmapped, mapped, fate, entry_for}
use Rattle.history.specs.Follow.{areas_of, find_in, entries_in, Finds, Follows}
use Rattle.history.specs.Legal.{legal_calls}
use Rattle.history.specs.Runs.{fresh, after, accepted}
use Rattle.history.proofs.Finding.{found_slot, found_nowhere, held_mapped, mapped_held}
use Rattle.history.proofs.Following.{Kept, facts, kept}
use Rattle.history.proofs.Lookups.{holding}

-- an entry of an area's part of the page table
entry_in : (a : Area) (pages : List ℕ) (page : ℕ) → first_page a ≤ page → page < end_page a → get_or (entries_of a pages) (page - first_page a) 0 ≡ get_or pages page 0
unfolding entries_of
entry_in a pages page s e =
    let here : first_page a + (page - first_page a) ≡ page = omega arith in
    get_or-take (end_page a - first_page a) (drop (first_page a) pages) (page - first_page a) 0 (omega arith)
    ∙ get_or-drop (first_page a) pages (page - first_page a) 0
    ∙ ap (λ (n : ℕ). get_or pages n 0) here

module _ {words p : ℕ} {t : Tables} {h : List Call} (k : Kept words p t h) where
  good_now_lem : good_tables t.areas t.count (length t.pages) ≡ true
  good_now_lem = rw k.pages_long k.good

  finds : (address : ℕ) (backend : Backend) (flags : ℕ) → fate h (address / page_size) ≡ mapped backend flags → Finds t address backend flags
  finds address backend flags e =
      let slot : ℕ = first_where (contains address) (areas_of t) in
      let f = found_slot address (areas_of t) (facts k).ordered backend flags (k.says (address / page_size) ∙ e) in
      let said : reply 0 (get_or (areas_of t) slot nothing) ≡ find_in t address =
      found_at t.areas t.pages t.count address good_now_lem slot refl (get_or (areas_of t) slot nothing) refl (omega (arith, f.within, length_rows t.areas t.count)) in
      record {
        accepted = rw (← said);
        here = rw (← said) ((first (contains address) (areas_of t)).passes f.within);
        backend_is = rw (← said) f.backend_is;
        flags_are = rw (← said) f.flags_are;
      }

  finds_none : (address : ℕ) → fate h (address / page_size) ≡ unmapped → find_in t address ≡ reply 7 nothing
  finds_none address e =
      sym (found_none t.areas t.pages t.count address good_now_lem (first_where (contains address) (areas_of t)) refl nothing refl
      (omega (arith, found_nowhere address (areas_of t) (facts k).ordered (k.says (address / page_size) ∙ e), length_rows t.areas t.count)))

  shows : (address page : ℕ) → holds (find_in t address).value page ≡ true
      → get_or (entries_in t address) (page - first_page (find_in t address).value) 0 ≡ entry_for page (fate h page)
  unfolding entries_rule
  shows address page e =
      let a : Area = (find_in t address).value in
      let i = find_inside t.areas t.pages t.count address in
      let l = holding a page e in
      entry_in a t.pages page l.from l.upto ∙ k.entries page (omega (arith, i.ends, l.upto, k.pages_long))

  follows_kept : Follows words p t h
  follows_kept =
      record {
        areas_long = k.areas_long;
        pages_long = k.pages_long;
        good = k.good;
        entries = k.entries;
        finds = finds;
        finds_none = finds_none;
        shows_all = entries_length t.areas t.pages t.count;
        shows = shows;
        apart = λ i j l m. apart (facts k).ordered i j l (omega (arith, length_rows t.areas t.count));
        cover = λ page. (
          λ s e. held_mapped (areas_of t) page s.slot s.within s.holds_it (k.says page ∙ e),
          λ m. mapped_held (areas_of t) page (λ e. m (sym (k.says page) ∙ e)),
        );
        few = k.few;
        fits = rw k.areas_long at (facts k).count_few;
      }

pub follows : (words p : ℕ) → p ≤ max_pages → (cs : List Call) → legal_calls cs ≡ true
    → Follows words p (after (fresh words p) cs) (accepted (fresh words p) cs)
follows words p few cs legal = follows_kept (kept words p few cs legal)
