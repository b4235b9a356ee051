-- How a new list of areas is written over the words (01: "Slots between a smaller new count and the old one become 0; slots at or
-- past both counts keep their words"). Laws: `proofs/Stores.antt`. Assumes nothing.
use Rattle.std.specs.Prelude.{ℕ, ◌-◌, ◌*◌, max, ◌≡◌, true, List, [], ◌∷◌, ◌++◌, length, take, drop, replicate}
use Rattle.area.specs.declared.Area.{Area}
use Rattle.area_list.specs.Layout.{words_per_area, legal_word, word_of, words_of}

-- an area whose backend has a legal word: it can be stored, and good tables can have it
pub record Storable (a : Area) : Type 0 where
  pub word_legal : legal_word (word_of a.backend) ≡ true

-- the words of a list of areas, one after the other
unfoldable pub flat : List Area → List ℕ
flat [] = []
flat (a ∷ rest) = words_of a ++ flat rest

-- the words ws, which held count areas, after the list went in
unfoldable pub store : List Area → List ℕ → ℕ → List ℕ
store list ws count =
    flat list
    ++ (replicate (words_per_area * (count - length list)) 0 ++ drop (words_per_area * max count (length list)) ws)

-- the list after slots low up to high gave way to other areas
abbrev pub spliced : List Area → ℕ → ℕ → List Area → List Area
spliced list low high parts = take low list ++ (parts ++ drop high list)
