-- The calls that a caller can make: a linear backend's delta has 32 bits (01: "linear with a 32-bit delta"), as the code's u32 has by
-- itself. The rules take any number there, and a map with a longer delta could be accepted and leave tables that are not good.
-- Assumes nothing.
use Rattle.std.specs.Prelude.{◌^◌, Bool, true, ◌&&◌, List, [], ◌∷◌, ltb}
use Rattle.page_table.specs.declared.Backend.{Backend}
use Rattle.page_table.specs.declared.Backend.TheVariants.{Lazy, Linear}
use Rattle.rules.specs.Calls.{Call, len_call, empty_call, overlaps_call, find_call, entries_call, search_call, map_call, unmap_call, clear_call, protect_call}

unfoldable pub legal_backend : Backend → Bool
legal_backend Lazy = true
legal_backend (Linear delta) = ltb delta (2 ^ 32)

unfoldable pub legal_call : Call → Bool
legal_call len_call = true
legal_call empty_call = true
legal_call (overlaps_call start size) = true
legal_call (find_call address) = true
legal_call (entries_call address) = true
legal_call (search_call hint size low high align) = true
legal_call (map_call start size flags backend replace) = legal_backend backend
legal_call (unmap_call start size) = true
legal_call clear_call = true
legal_call (protect_call start size set clear) = true

unfoldable pub legal_calls : List Call → Bool
legal_calls [] = true
legal_calls (call ∷ earlier) = legal_call call && legal_calls earlier
