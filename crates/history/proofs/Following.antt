-- The statement that every call keeps: the tables are good, their areas say of each page what the history says, its entry is the
-- one that this gives, and there are at most two areas for each accepted call. Assumes nothing.
use Prim.Native.Nat.{ℕ, ◌+◌, ◌*◌, ◌/◌, ◌%◌, ◌^◌, ◌≤◌, ◌<◌, max}
use mathlib.Core.Path.{◌≡◌, refl, sym, ap, ◌∙◌}
use mathlib.Core.Bool.{Bool, true, false, cond}
use mathlib.Core.List.{List, [], ◌∷◌}
use native.Mathlib.Omega.{arith}
use native.Mathlib.Decide.{ℕ_discrete}
use lib.Dec.{eqb}
use lib.ListN.{length, get_or, length-replicate, get_or-replicate}
use borrow.Author.Tests.{eq-eqb, ne_eqb, ltb-true}
use Rattle.lists.proofs.Each.{in_range_lem}
use Rattle.lists.proofs.Every.{and_left, and_right}
use Rattle.page_table.specs.Limits.{page_size, max_pages}
use Rattle.page_table.specs.declared.Backend.{Backend}
use Rattle.page_table.specs.declared.Backend.TheVariants.{Lazy, Linear}
use Rattle.area.specs.Answer.{answer, reply_by}
use Rattle.area.specs.Area.{holds}
use Rattle.area.specs.declared.Area.{Area}
use Rattle.area.proofs.Areas.{Good}
use Rattle.area.proofs.Answers.{reply_zero, reply_answer}
use Rattle.area_list.specs.Layout.{words_per_area, capacity_of, rows}
use Rattle.area_list.specs.Good.{space_of, good_rows, good_tables}
use Rattle.area_list.specs.Store.{Storable}
use Rattle.area_list.proofs.Goodness.{GoodTables, tables_are, rows_decide, count_fits}
use Rattle.area_list.proofs.Ordered.{Ordered, none_left}
use Rattle.area_list.proofs.Positions.{sorted}
use Rattle.area_list.proofs.Rows.{length_rows}
use Rattle.area_list.proofs.Stores.{length_store, rows_store, store_good, rows_storable, lazy_storable, linear_storable}
use Rattle.effects.specs.Lists.{cut, insert, protect}
use Rattle.effects.specs.Pages.{cut_pages, map_pages, protect_pages}
use Rattle.effects.proofs.Cutting.{cut_ordered, cut_clear, insert_ordered}
use Rattle.effects.proofs.Protecting.{AllStorable, protect_ordered, protect_storable}
use Rattle.questions.specs.Tests.{tables_answer}
use Rattle.rules.specs.Change.{Tables, listed, unmap_tests, unmap_rule, clear_rule, mapped, map_tests, map_rule, protect_tests, protect_rule}
use Rattle.rules.specs.Calls.{Call, len_call, empty_call, overlaps_call, find_call, entries_call, search_call, map_call, unmap_call, clear_call, protect_call, called}
use Rattle.rules.proofs.Demands.{all_or_nothing}
use Rattle.history.specs.Fate.{unmapped, reflagged, covers, fate_after, fate, entry_for}
use Rattle.history.specs.Legal.{legal_backend, legal_call, legal_calls}
use Rattle.history.specs.Runs.{fresh, after, accepted}
use Rattle.history.proofs.Accepting.{unmap_accepted, map_accepted, protect_accepted}
use Rattle.history.proofs.Counting.{length_cut, length_insert, length_protected, cut_storable, insert_storable}
use Rattle.history.proofs.Entries.{cut_entry, map_entry, protect_entry, cut_pages_long, map_pages_long, protect_pages_long}
use Rattle.history.proofs.Lookups.{fate_in, seen, lookup, lookup_cut, lookup_insert, lookup_protect}

pub record Kept (words p : ℕ) (t : Tables) (h : List Call) : Type 0 where
  pub areas_long : length t.areas ≡ words
  pub pages_long : length t.pages ≡ p
  pub good : good_tables t.areas t.count p ≡ true
  pub says : (page : ℕ) → lookup (rows t.areas t.count) page ≡ fate h page
  pub entries : (page : ℕ) → page < p → get_or t.pages page 0 ≡ entry_for page (fate h page)
  pub few : t.count ≤ 2 * length h

-- ---- fresh tables

kept_fresh : (words p : ℕ) → p ≤ max_pages → Kept words p (fresh words p) []
unfolding fate entry_for seen rows good_rows
kept_fresh words p l =
    record {
      areas_long = length-replicate words 0;
      pages_long = length-replicate p 0;
      good = rows_decide (fresh words p).areas 0 p l (omega arith);
      says = λ page. refl;
      entries = λ page h. get_or-replicate p page 0 0 h;
      few = omega arith;
    }

backend_storable : (start size flags : ℕ) (backend : Backend) → legal_backend backend ≡ true → Storable (mapped start size flags backend)
unfolding legal_backend
backend_storable start size flags Lazy e = lazy_storable refl
backend_storable start size flags (Linear delta) e = linear_storable refl (ltb-true delta (2 ^ 32) e)

-- what a map writes over does not matter
cond_again : {A : Type 0} (b : Bool) (x y z : A) → cond b x (cond b y z) ≡ cond b x z
cond_again true x y z = refl
cond_again false x y z = refl

module _ {words p : ℕ} {t : Tables} {h : List Call} (k : Kept words p t h) where
  abbrev list : List Area
  list = rows t.areas t.count

  pub facts : GoodTables t.areas t.count p
  facts = tables_are t.areas t.count p k.good

  storable : AllStorable list
  storable i l = rows_storable (sorted facts) i (omega (arith, length_rows t.areas t.count))

  entry_now : (page : ℕ) → page < p → get_or t.pages page 0 ≡ entry_for page (lookup list page)
  entry_now page l = rw (k.says page) (k.entries page l)

  -- a question
  asked : (c : Call) → ((page : ℕ) → fate_after c page (fate h page) ≡ fate h page) → Kept words p t (c ∷ h)
  unfolding fate
  asked c same =
      record {
        areas_long = k.areas_long;
        pages_long = k.pages_long;
        good = k.good;
        says = λ page. rw (same page) (k.says page);
        entries = λ page l. rw (same page) (k.entries page l);
        few = omega arith;
      }

  -- a change: what its list and its entries have to be
  changed : (c : Call) (new : List Area) (pages : List ℕ) → Ordered (space_of p) 0 new → AllStorable new
      → length new ≤ capacity_of (length t.areas) → length new ≤ t.count + 2 → length pages ≡ p
      → ((page : ℕ) → lookup new page ≡ fate_after c page (lookup list page))
      → ((page : ℕ) → page < p → get_or pages page 0 ≡ entry_for page (lookup new page))
      → Kept words p (listed new t.areas pages t.count) (c ∷ h)
  unfolding fate
  changed c new pages o s room most long says entries =
      record {
        areas_long = length_store new t.areas t.count fits ∙ k.areas_long;
        pages_long = long;
        good = store_good new t.areas t.count p facts.pages_few room fits o s;
        says = λ page. rw (rows_store new t.areas t.count) (told page);
        entries = λ page l. entries page l ∙ ap (entry_for page) (told page);
        few = omega (arith, k.few);
      }
    where
      fits : words_per_area * max t.count (length new) ≤ length t.areas
      fits = omega (arith, count_fits t.areas t.count facts.count_few, count_fits t.areas (length new) room)

      told : (page : ℕ) → lookup new page ≡ fate_after c page (fate h page)
      told page = says page ∙ ap (fate_after c page) (k.says page)

  -- the tables after an accepted change
  by_reply : (old new : Tables) (n : ℕ) (c : Call) → n ≡ 0 → Kept words p new (c ∷ h) → Kept words p (reply_by old n new).value (c ∷ h)
  by_reply old new n c z now = rw (← reply_zero old n new z) now

  -- ---- one accepted call each

  unmap_keeps : (start size : ℕ) → answer (unmap_tests t.areas t.pages t.count start size) ≡ 0
      → Kept words p (unmap_rule t.areas t.pages t.count start size).value (unmap_call start size ∷ h)
  unfolding unmap_rule fate_after
  unmap_keeps start size z =
      let a = unmap_accepted t.areas t.pages t.count start size z in
      let end : ℕ = start + size in
      let aligned : (start % page_size ≡ 0) × (end % page_size ≡ 0) = (a.range.start_aligned, omega (arith, a.range.start_aligned, a.range.size_aligned)) in
      let cuts : (page : ℕ) → lookup (cut start end list) page ≡ cond (covers start size page) unmapped (lookup list page) =
      λ page. lookup_cut start end aligned.0 page list facts.ordered in
      by_reply _ _ _ (unmap_call start size) z
      (changed (unmap_call start size) (cut start end list) (cut_pages start end list t.pages)
      (cut_ordered start end aligned.0 aligned.1 list facts.ordered)
      (cut_storable start end list storable)
      a.room
      (omega (arith, length_cut start end list facts.ordered, length_rows t.areas t.count))
      (cut_pages_long start end list t.pages ∙ k.pages_long)
      cuts
      (λ page l. rw (cuts page) (cut_entry list t.pages page (omega (arith, k.pages_long)) (entry_now page l) start end)))

  clear_keeps : tables_answer t.areas t.pages t.count ≡ 0
      → Kept words p (clear_rule t.areas t.pages t.count).value (clear_call ∷ h)
  unfolding clear_rule fate_after seen
  clear_keeps z =
      by_reply _ _ _ clear_call z
      (changed clear_call [] (cut_pages 0 (space_of (length t.pages)) list t.pages)
      none_left
      (λ i l. absurd (omega arith))
      (omega arith)
      (omega arith)
      (cut_pages_long 0 (space_of (length t.pages)) list t.pages ∙ k.pages_long)
      (λ page. refl)
      (λ page l. cut_entry list t.pages page (omega (arith, k.pages_long)) (entry_now page l) 0 (space_of (length t.pages))
      ∙ rw (in_range_lem (0 / page_size) (space_of (length t.pages) / page_size) page (omega arith) (omega (arith, k.pages_long)))))

  map_keeps : (start size flags : ℕ) (backend : Backend) (replace : Bool) → legal_backend backend ≡ true
      → answer (map_tests t.areas t.pages t.count start size flags backend replace) ≡ 0
      → Kept words p (map_rule t.areas t.pages t.count start size flags backend replace).value (map_call start size flags backend replace ∷ h)
  unfolding map_rule fate_after holds
  map_keeps start size flags backend replace legal z =
      let a = map_accepted t.areas t.pages t.count start size flags backend replace z in
      let end : ℕ = start + size in
      let new : Area = mapped start size flags backend in
      let good : Good (space_of p) new = rw k.pages_long at a.good in
      let rest : List Area = cut start end list in
      let rest-ordered : Ordered (space_of p) 0 rest = cut_ordered start end good.start_aligned good.end_aligned list facts.ordered in
      let cuts : (page : ℕ) → lookup rest page ≡ cond (covers start size page) unmapped (lookup list page) =
      λ page. lookup_cut start end good.start_aligned page list facts.ordered in
      let maps : (page : ℕ) → lookup (insert new rest) page ≡ cond (covers start size page) (fate_in new) (lookup list page) =
      λ page. lookup_insert new rest page rest-ordered good.start_aligned (cut_clear start end list) ∙ rw (cuts page) (cond_again (covers start size page) (fate_in new) unmapped (lookup list page)) in
      by_reply _ _ _ (map_call start size flags backend replace) z
      (changed (map_call start size flags backend replace) (insert new rest) (map_pages new (cut_pages start end list t.pages))
      (insert_ordered new rest rest-ordered good (omega arith) (cut_clear start end list))
      (insert_storable new rest (backend_storable start size flags backend legal) (cut_storable start end list storable))
      a.room
      (omega (arith, length_insert new rest, length_cut start end list facts.ordered, length_rows t.areas t.count))
      (map_pages_long new (cut_pages start end list t.pages) ∙ cut_pages_long start end list t.pages ∙ k.pages_long)
      maps
      (λ page l. map_entry new (cut_pages start end list t.pages) page (lookup rest page) (omega (arith, k.pages_long, cut_pages_long start end list t.pages))
      (rw (cuts page) (cut_entry list t.pages page (omega (arith, k.pages_long)) (entry_now page l) start end))
      ∙ ap (entry_for page) (sym (lookup_insert new rest page rest-ordered good.start_aligned (cut_clear start end list)))))

  protect_keeps : (start size set clear : ℕ) → answer (protect_tests t.areas t.pages t.count start size set clear) ≡ 0
      → Kept words p (protect_rule t.areas t.pages t.count start size set clear).value (protect_call start size set clear ∷ h)
  unfolding protect_rule fate_after
  protect_keeps start size set clear z =
      let a = protect_accepted t.areas t.pages t.count start size set clear z in
      let end : ℕ = start + size in
      let aligned : (start % page_size ≡ 0) × (end % page_size ≡ 0) = (a.range.start_aligned, omega (arith, a.range.start_aligned, a.range.size_aligned)) in
      let flags : (page : ℕ) → lookup (protect start end set clear list) page ≡ cond (covers start size page) (reflagged set clear (lookup list page)) (lookup list page) =
      λ page. lookup_protect start end set clear aligned.0 page list facts.ordered in
      by_reply _ _ _ (protect_call start size set clear) z
      (changed (protect_call start size set clear) (protect start end set clear list) (protect_pages start end set clear list t.pages)
      (protect_ordered start end set clear list facts.ordered aligned.0 aligned.1 a.set_legal)
      (protect_storable start end set clear list facts.ordered storable)
      a.room
      (omega (arith, length_protected start end set clear list facts.ordered, length_rows t.areas t.count))
      (protect_pages_long start end set clear list t.pages ∙ k.pages_long)
      flags
      (λ page l. rw (flags page) (protect_entry list t.pages page (omega (arith, k.pages_long)) (entry_now page l) start end set clear)))

  -- ---- every call

  accepted_keeps : (c : Call) → legal_call c ≡ true → (called c t).answer ≡ 0 → Kept words p (called c t).value (c ∷ h)
  unfolding called legal_call fate_after unmap_rule clear_rule map_rule protect_rule
  accepted_keeps len_call legal z = asked len_call (λ page. refl)
  accepted_keeps empty_call legal z = asked empty_call (λ page. refl)
  accepted_keeps (overlaps_call start size) legal z = asked (overlaps_call start size) (λ page. refl)
  accepted_keeps (find_call address) legal z = asked (find_call address) (λ page. refl)
  accepted_keeps (entries_call address) legal z = asked (entries_call address) (λ page. refl)
  accepted_keeps (search_call hint size low high align) legal z = asked (search_call hint size low high align) (λ page. refl)
  accepted_keeps (map_call start size flags backend replace) legal z = map_keeps start size flags backend replace legal (sym (reply_answer _ _ _) ∙ z)
  accepted_keeps (unmap_call start size) legal z = unmap_keeps start size (sym (reply_answer _ _ _) ∙ z)
  accepted_keeps clear_call legal z = clear_keeps (sym (reply_answer _ _ _) ∙ z)
  accepted_keeps (protect_call start size set clear) legal z = protect_keeps start size set clear (sym (reply_answer _ _ _) ∙ z)

  -- a refused one changes neither the tables nor the history
  call_keeps : (c : Call) → legal_call c ≡ true → Kept words p (called c t).value (cond (eqb (called c t).answer 0) (c ∷ h) h)
  call_keeps c legal =
      elim (ℕ_discrete (called c t).answer 0) [
        | yes z ↦ rw (eq-eqb (called c t).answer 0 z) (accepted_keeps c legal z)
        | no z ↦ rw (ne_eqb (called c t).answer 0 z, (all_or_nothing c t).refusal z) k
      ]

pub kept : (words p : ℕ) → p ≤ max_pages → (cs : List Call) → legal_calls cs ≡ true
    → Kept words p (after (fresh words p) cs) (accepted (fresh words p) cs)
unfolding after accepted legal_calls
kept words p few [] legal = kept_fresh words p few
kept words p few (c ∷ cs) legal =
    call_keeps (kept words p few cs (and_right (legal_call c) (legal_calls cs) legal)) c (and_left (legal_call c) (legal_calls cs) legal)
