-- A dump (02, W1): "count and P as u64, the area words, then the page entries, little-endian". Laws: `proofs/Dumps.antt`,
-- `proofs/Back.antt`. Assumes nothing.
use Rattle.std.specs.Prelude.{ℕ, zero, suc, ◌+◌, ◌*◌, List, [], ◌∷◌, ◌++◌, length, take}
use Rattle.area_list.specs.Layout.{words_per_area}
use Rattle.little_endian.specs.Number.{number_at, bytes_of}
use Rattle.rules.specs.Change.{Tables}

-- "at most 256 areas and 4,096 pages"
abbrev pub most_areas : ℕ
most_areas = 256

abbrev pub most_pages : ℕ
most_pages = 4096

-- bytes of a word, of an entry, and of count and P together
abbrev pub word_size : ℕ
word_size = 8

abbrev pub entry_size : ℕ
entry_size = 4

abbrev pub header_size : ℕ
header_size = 16

-- ---- reading

-- n numbers of so many bytes each, from a place on
unfoldable pub numbers_at : List ℕ → ℕ → ℕ → ℕ → List ℕ
numbers_at bytes at size zero = []
numbers_at bytes at size (suc n) = number_at bytes at size ∷ numbers_at bytes (at + size) size n

-- where the entries begin, and how long the whole is
abbrev pub entries_at : ℕ → ℕ
entries_at count = header_size + word_size * (words_per_area * count)

abbrev pub dump_length : ℕ → ℕ → ℕ
dump_length count p = entries_at count + entry_size * p

-- "count and P as u64, the area words, then the page entries"
unfoldable pub count_in : List ℕ → ℕ
count_in bytes = number_at bytes 0 word_size

unfoldable pub pages_in : List ℕ → ℕ
pages_in bytes = number_at bytes word_size word_size

unfoldable pub words_in : List ℕ → List ℕ
words_in bytes = numbers_at bytes header_size word_size (words_per_area * count_in bytes)

unfoldable pub entries_in : List ℕ → List ℕ
entries_in bytes = numbers_at bytes (entries_at (count_in bytes)) entry_size (pages_in bytes)

-- ---- writing

-- numbers one after the other
unfoldable pub all_bytes : ℕ → List ℕ → List ℕ
all_bytes size [] = []
all_bytes size (n ∷ ns) = bytes_of size n ++ all_bytes size ns

-- count, P and the words of the areas; then the entries
unfoldable pub dump_of : Tables → List ℕ
dump_of t = all_bytes word_size (t.count ∷ length t.pages ∷ take (words_per_area * t.count) t.areas) ++ all_bytes entry_size t.pages
