-- What a page is, from the history of accepted calls alone: the last accepted map, unmap or clear that covers it, and the accepted
-- protects that cover it since, in order. No table is looked at. Laws: `proofs/`. Assumes nothing.
use Rattle.std.specs.Prelude.{ℕ, ◌+◌, ◌/◌, Bool, cond, List, [], ◌∷◌}
use Rattle.lists.specs.Each.{in_range}
use Rattle.page_table.specs.Limits.{page_size}
use Rattle.page_table.specs.Entry.{entry_of}
use Rattle.page_table.specs.declared.Backend.{Backend}
use Rattle.effects.specs.Lists.{new_flags}
use Rattle.rules.specs.Calls.{Call, len_call, empty_call, overlaps_call, find_call, entries_call, search_call, map_call, unmap_call, clear_call, protect_call}

pub data Fate : Type 0 where
  unmapped : Fate
  mapped : (backend : Backend) (flags : ℕ) → Fate

-- the page lies in the range of addresses
abbrev pub covers : ℕ → ℕ → ℕ → Bool
covers start size page = in_range (start / page_size) ((start + size) / page_size) page

-- a protect changes the flags of a mapped page
unfoldable pub reflagged : ℕ → ℕ → Fate → Fate
reflagged set clear unmapped = unmapped
reflagged set clear (mapped backend flags) = mapped backend (new_flags set clear flags)

-- what one accepted call makes of a page
unfoldable pub fate_after : Call → ℕ → Fate → Fate
fate_after len_call page old = old
fate_after empty_call page old = old
fate_after (overlaps_call start size) page old = old
fate_after (find_call address) page old = old
fate_after (entries_call address) page old = old
fate_after (search_call hint size low high align) page old = old
fate_after (map_call start size flags backend replace) page old = cond (covers start size page) (mapped backend flags) old
fate_after (unmap_call start size) page old = cond (covers start size page) unmapped old
fate_after clear_call page old = unmapped
fate_after (protect_call start size set clear) page old = cond (covers start size page) (reflagged set clear old) old

-- after a history, the latest call first; before any call no page is mapped
unfoldable pub fate : List Call → ℕ → Fate
fate [] page = unmapped
fate (call ∷ earlier) page = fate_after call page (fate earlier page)

-- the entry that such a page has
unfoldable pub entry_for : ℕ → Fate → ℕ
entry_for page unmapped = 0
entry_for page (mapped backend flags) = entry_of backend flags page
