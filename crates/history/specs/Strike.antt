-- Striking from a sequence of calls what cannot change the tables. Laws: `proofs/Striking.antt`. Assumes nothing.
use Rattle.std.specs.Prelude.{Bool, true, false, cond, List, [], ◌∷◌}
use Rattle.rules.specs.Calls.{Call, len_call, empty_call, overlaps_call, find_call, entries_call, search_call, map_call, unmap_call, clear_call, protect_call}

-- calls that only ask
unfoldable pub asks : Call → Bool
asks len_call = true
asks empty_call = true
asks (overlaps_call start size) = true
asks (find_call address) = true
asks (entries_call address) = true
asks (search_call hint size low high align) = true
asks (map_call start size flags backend replace) = false
asks (unmap_call start size) = false
asks clear_call = false
asks (protect_call start size set clear) = false

-- the sequence without them
unfoldable pub without_questions : List Call → List Call
without_questions [] = []
without_questions (call ∷ earlier) = cond (asks call) (without_questions earlier) (call ∷ without_questions earlier)
