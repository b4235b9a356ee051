-- The audit gives a verdict exactly when its facts hold, so it gives one for every dump and never a second. Assumes nothing.
use Prim.Native.Nat.{ℕ, ◌-◌, ◌*◌, ◌≤◌, ◌<◌}
use mathlib.Core.Path.{◌≡◌, refl, sym, ◌∙◌, subst}
use mathlib.Core.Bool.{true, true≢false}
use mathlib.Core.List.{List}
use mathlib.Core.Logic.{◌↔◌}
use native.Mathlib.Omega.{arith}
use native.Mathlib.Decide.{dec_lt}
use lib.ListN.{length}
use borrow.Author.Tests.{eqb-true}
use Rattle.lists.proofs.Every.{by_test, lowest_fails}
use Rattle.page_table.specs.Limits.{max_pages}
use Rattle.area.specs.declared.Area.{Area as AreaOf}
use Rattle.area_list.specs.Layout.{words_per_area, capacity_of, rows}
use Rattle.area_list.specs.Good.{space_of, first_bad}
use Rattle.area_list.proofs.Goodness.{tables_are, good_before, bad_there, bad_only, first_decides}
use Rattle.area_list.proofs.Ordered.{Ordered}
use Rattle.dumps.specs.Dump.{word_size, entry_size, header_size, entries_at, count_in, pages_in, words_in, entries_in}
use Rattle.agreement.specs.Agree.{disagrees, first_wrong}
use Rattle.audits.specs.Audit.{tables_rule, sized_dump, Sized, audit_rule}
use Rattle.audits.specs.Says.{IsGoodDumped, AgreesAt, BreaksAt, DisagreesAt, GoodDump, Says}
use Rattle.audits.specs.declared.Verdict.{Verdict}
use Rattle.audits.specs.declared.Verdict.TheVariants.{Table, Area, Page, Good}
use Rattle.agreement.proofs.Agreeing.{agrees_is, is_agrees}
use Rattle.audits.proofs.Audits.{sized_is, is_sized, not_sized, table_verdict, area_verdict, good_then, page_verdict, good_verdict}
use Rattle.agreement.proofs.Lowest.{lowest_none, lowest_there, lowest_only}
use Rattle.audits.proofs.Reading.{length_numbers}

module _ (bytes : List ℕ) where
  abbrev count : ℕ
  count = count_in bytes

  abbrev words : List ℕ
  words = words_in bytes

  abbrev entries : List ℕ
  entries = entries_in bytes

  abbrev areas : List AreaOf
  areas = rows words count

  -- the first area that breaks the rule, and the lowest page that disagrees
  abbrev bad_area : ℕ
  bad_area = first_bad (space_of (pages_in bytes)) 0 words count

  abbrev wrong_page : ℕ
  wrong_page = first_wrong areas entries

  pub words_long : length words ≡ words_per_area * count
  unfolding words_in
  words_long = length_numbers bytes word_size (words_per_area * count) header_size

  pub entries_long : length entries ≡ pages_in bytes
  unfolding entries_in
  entries_long = length_numbers bytes entry_size (pages_in bytes) (entries_at count)

  bad_is : bad_area ≡ first_bad (space_of (length entries)) 0 words count
  bad_is = rw entries_long

  module _ (s : Sized bytes) where
    by_tables : audit_rule bytes ≡ tables_rule words entries count
    unfolding audit_rule
    by_tables = rw (is_sized bytes s)

    areas_few : count ≤ capacity_of (length words)
    unfolding capacity_of
    areas_few = omega (arith, words_long, s.few_areas)

    pages_few : length entries ≤ max_pages
    pages_few = omega (arith, entries_long, s.few_pages)

    good_all : IsGoodDumped bytes → count ≤ bad_area
    good_all g =
        let e : bad_area ≡ count = eqb-true bad_area count (first_decides words count (length entries) bad_area pages_few areas_few bad_is ∙ rw entries_long g) in
        omega arith

  ordered : IsGoodDumped bytes → Ordered (space_of (pages_in bytes)) 0 areas
  ordered g = (tables_are words count (pages_in bytes) g).ordered

  -- pages below the lowest that disagrees agree
  agree_below : IsGoodDumped bytes → (page : ℕ) → page < wrong_page → AgreesAt bytes page
  unfolding first_wrong
  agree_below g page h = agrees_is entries page areas (ordered g) (lowest_fails (disagrees areas entries) (length entries - 0) 0 page (omega arith) h)

  -- ---- the verdict says what is so

  told_pages : Sized bytes → IsGoodDumped bytes → count ≤ bad_area → Says bytes (audit_rule bytes)
  unfolding first_wrong
  told_pages s g all =
      elim (dec_lt wrong_page (length entries)) [
        | yes h ↦ subst (Says bytes) (page_verdict words entries count bad_area bad_is all wrong_page refl h ∙ sym (by_tables s)) (record {
          sized = s;
          good = g;
          within = omega (arith, entries_long);
          below = agree_below g;
          here = λ a. true≢false (sym (lowest_there (disagrees areas entries) (length entries) h) ∙ is_agrees entries wrong_page areas a);
        })
        | no h ↦ subst (Says bytes) (good_verdict words entries count bad_area bad_is all wrong_page refl (omega arith) ∙ sym (by_tables s)) (record {
          sized = s;
          good = g;
          agree = λ page l. agree_below g page (omega (arith, entries_long));
        })
      ]

  told_tables : Sized bytes → Says bytes (audit_rule bytes)
  told_tables s =
      elim (dec_lt bad_area count) [
        | yes h ↦ subst (Says bytes) (area_verdict words entries count bad_area bad_is h ∙ sym (by_tables s)) (record {
          sized = s;
          within = h;
          before = good_before (space_of (pages_in bytes)) 0 words count;
          here = bad_there (space_of (pages_in bytes)) 0 words count h;
        })
        | no h ↦ told_pages s (rw entries_long at (good_then words entries count bad_area bad_is (omega arith) (pages_few s) (areas_few s))) (omega arith)
      ]

  told : Says bytes (audit_rule bytes)
  told =
      by_test (sized_dump bytes)
      (λ e. told_tables (sized_is bytes e))
      (λ e. subst (Says bytes) (table_verdict bytes e) (λ s. true≢false (sym (is_sized bytes s) ∙ e)))

  -- ---- and what is so is the verdict

  said : (v : Verdict) → Says bytes v → audit_rule bytes ≡ v
  unfolding first_wrong
  said Table h = sym (table_verdict bytes (not_sized bytes h))
  said (Area n) b =
      let e : bad_area ≡ n = bad_only (space_of (pages_in bytes)) 0 words count n b.within b.before b.here in
      by_tables b.sized ∙ sym (area_verdict words entries count n (sym e ∙ bad_is) b.within)
  said (Page n) d =
      let differ : disagrees areas entries n ≡ true =
      by_test (disagrees areas entries n) (λ e. e) (λ e. absurd (d.here (agrees_is entries n areas (ordered d.good) e))) in
      let here : n < length entries = omega (arith, entries_long, d.within) in
      let lowest : wrong_page ≡ n = lowest_only (disagrees areas entries) (length entries) n here (λ page l. is_agrees entries page areas (d.below page l)) differ in
      by_tables d.sized ∙ sym (page_verdict words entries count bad_area bad_is (good_all d.sized d.good) n (sym lowest) here)
  said Good g =
      let none : wrong_page ≡ length entries =
      lowest_none (disagrees areas entries) (length entries) (λ page l. is_agrees entries page areas (g.agree page (omega (arith, entries_long)))) in
      by_tables g.sized ∙ sym (good_verdict words entries count bad_area bad_is (good_all g.sized g.good) wrong_page refl (omega arith))

-- each verdict is given exactly when it says what is so
pub audit_says : (bytes : List ℕ) (v : Verdict) → (audit_rule bytes ≡ v) ↔ Says bytes v
audit_says bytes v = (λ e. subst (Says bytes) e (told bytes), said bytes v)

-- 02: it "accepts exactly when the tables are good and each page's entry is what its area says, or 0 where no area lies"
pub audit_good : (bytes : List ℕ) → (audit_rule bytes ≡ Good) ↔ GoodDump bytes
audit_good bytes = audit_says bytes Good

-- the first area that breaks the rule, and the lowest page that disagrees
pub audit_area : (bytes : List ℕ) (n : ℕ) → (audit_rule bytes ≡ Area n) ↔ BreaksAt bytes n
audit_area bytes n = audit_says bytes (Area n)

pub audit_page : (bytes : List ℕ) (n : ℕ) → (audit_rule bytes ≡ Page n) ↔ DisagreesAt bytes n
audit_page bytes n = audit_says bytes (Page n)

-- no dump has two verdicts whose facts hold
pub one_verdict : (bytes : List ℕ) (v w : Verdict) → Says bytes v → Says bytes w → v ≡ w
one_verdict bytes v w a b = sym (said bytes v a) ∙ said bytes w b

-- and the promise of `audit` admits no second
pub audit_unique : (bytes : List ℕ) (v w : Verdict) → v ≡ audit_rule bytes → w ≡ audit_rule bytes → v ≡ w
audit_unique bytes v w p q = p ∙ sym q
