-- What a lookup in a list of areas finds, from what the list says of the address's page. Assumes nothing.
use Prim.Native.Nat.{ℕ, zero, suc, ◌/◌, ◌≤◌, ◌<◌}
use mathlib.Core.Path.{◌≡◌, refl, sym, ◌∙◌}
use mathlib.Core.Bool.{true}
use mathlib.Core.List.{List, [], ◌∷◌}
use native.Mathlib.Omega.{arith}
use lib.ListN.{length, get_or}
use Rattle.lists.proofs.Each.{place}
use Rattle.lists.proofs.Every.{by_test}
use Rattle.page_table.specs.Limits.{page_size}
use Rattle.page_table.specs.declared.Backend.{Backend}
use Rattle.area.specs.Area.{first_page, end_page, holds, nothing}
use Rattle.area.specs.declared.Area.{Area}
use Rattle.area.proofs.Areas.{Good}
use Rattle.area_list.specs.Position.{first_where, contains}
use Rattle.area_list.proofs.Ordered.{Ordered, one_more}
use Rattle.area_list.proofs.Positions.{first_yes, first_no, contains_yes, contains_before, contains_after}
use Rattle.history.specs.Fate.{unmapped, mapped}
use Rattle.history.specs.Follow.{Held}
use Rattle.history.proofs.Lookups.{seen, lookup, held, held_not_yet, held_no_more}

-- a good area holds an address exactly when it holds its page
by_page : {space : ℕ} (address : ℕ) (a : Area) → Good space a → contains address a ≡ holds a (address / page_size)
by_page address a g =
    place (first_page a) (end_page a) (address / page_size)
    (λ h. contains_after address a (omega arith) ∙ sym (held_not_yet a (address / page_size) h))
    (λ h l. contains_yes address a (omega (arith, g.start_aligned)) (omega arith) ∙ sym (held a (address / page_size) h l))
    (λ l. contains_before address a (omega (arith, g.end_aligned)) ∙ sym (held_no_more a (address / page_size) l))

never : (backend : Backend) (flags : ℕ) → mapped backend flags ≡ unmapped → ⊥
never backend flags e = let z : ◌≡◌ {A = ℕ} 0 1 = cc in omega arith

-- ---- the first area that holds the address

pub record FoundSlot (list : List Area) (slot : ℕ) (backend : Backend) (flags : ℕ) : Type 0 where
  pub within : slot < length list
  pub backend_is : (get_or list slot nothing).backend ≡ backend
  pub flags_are : (get_or list slot nothing).flags ≡ flags

module _ {space : ℕ} (address : ℕ) where
  pub found_slot : {before : ℕ} (xs : List Area) → Ordered space before xs → (backend : Backend) (flags : ℕ) → lookup xs (address / page_size) ≡ mapped backend flags
      → FoundSlot xs (first_where (contains address) xs) backend flags
  unfolding seen
  found_slot [] o backend flags e = absurd (never backend flags (sym e))
  found_slot (a ∷ xs) (one_more g b o) backend flags e =
      by_test (holds a (address / page_size))
      (λ h. let same : mapped a.backend a.flags ≡ mapped backend flags = rw h at e in
      rw (first_yes (contains address) a xs (by_page address a g ∙ h)) (record { within = omega arith; backend_is = cc; flags_are = cc }))
      (λ h. let f = found_slot xs o backend flags (rw h at e) in
      rw (first_no (contains address) a xs (by_page address a g ∙ h)) (record { within = omega arith; backend_is = f.backend_is; flags_are = f.flags_are }))

  pub found_nowhere : {before : ℕ} (xs : List Area) → Ordered space before xs → lookup xs (address / page_size) ≡ unmapped
      → length xs ≤ first_where (contains address) xs
  unfolding seen
  found_nowhere [] o e = omega arith
  found_nowhere (a ∷ xs) (one_more g b o) e =
      by_test (holds a (address / page_size))
      (λ h. absurd (never a.backend a.flags (rw h at e)))
      (λ h. rw (first_no (contains address) a xs (by_page address a g ∙ h)) (omega (arith, found_nowhere xs o (rw h at e))))

-- ---- the pages that areas hold are the mapped ones

pub held_mapped : (xs : List Area) (page slot : ℕ) → slot < length xs → holds (get_or xs slot nothing) page ≡ true → lookup xs page ≡ unmapped → ⊥
unfolding seen
held_mapped [] page slot l h e = omega arith
held_mapped (a ∷ xs) page zero l h e = never a.backend a.flags (rw h at e)
held_mapped (a ∷ xs) page (suc slot) l h e =
    by_test (holds a page) (λ y. never a.backend a.flags (rw y at e)) (λ n. held_mapped xs page slot (omega arith) h (rw n at e))

pub mapped_held : (xs : List Area) (page : ℕ) → (lookup xs page ≡ unmapped → ⊥) → Held xs page
unfolding seen
mapped_held [] page h = absurd (h refl)
mapped_held (a ∷ xs) page h =
    by_test (holds a page)
    (λ y. record { slot = 0; within = omega arith; holds_it = y })
    (λ n. let r = mapped_held xs page (λ e. h (rw n e)) in record { slot = suc r.slot; within = omega arith; holds_it = r.holds_it })
