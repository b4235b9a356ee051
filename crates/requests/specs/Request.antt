-- What a record asks for (01, "The record program"): "32-byte records without header, little-endian. .. Byte 0: 1 map, 2 map
-- replacing, 3 unmap, 4 protect, 5 find, 6 overlaps, 7 search, 8 clear. Byte 1: flags or set. Byte 2: clear, or for search
-- align's exponent. Byte 3: 0 lazy, 1 linear. Bytes 4–7 delta; 8–15 start, address or hint; 16–23 size; 24–31 limit end of a
-- search (its limit start is 0)." Laws: `proofs/Requests.antt`. Assumes nothing.
use Rattle.std.specs.Prelude.{ℕ, ◌^◌, ◌≡◌, Bool, true, false, ◌&&◌, cond, List, [], ◌∷◌, Option, Some, None, eqb, leb, length, get_or}
use Rattle.little_endian.specs.Number.{number_at}
use Rattle.page_table.specs.declared.Backend.{Backend}
use Rattle.page_table.specs.declared.Backend.TheVariants.{Lazy, Linear}
use Rattle.requests.specs.declared.Fields.{Fields}
use Rattle.requests.specs.declared.Request.{Request}
use Rattle.requests.specs.declared.Request.TheVariants.{Map, Unmap, Protect, Find, Overlaps, Search, Clear, Bad}

-- bytes in a record
abbrev pub record_size : ℕ
record_size = 32

-- the fields, each where it lies
unfoldable pub fields_of : List ℕ → Fields
fields_of bytes = record {
  op = get_or bytes 0 0;
  flags = get_or bytes 1 0;
  clear = get_or bytes 2 0;
  backend = get_or bytes 3 0;
  delta = number_at bytes 4 4;
  start = number_at bytes 8 8;
  size = number_at bytes 16 8;
  limit = number_at bytes 24 8;
}

-- "Fields a request doesn't use must be 0 .., else .. the line is bad": the request, unless one of these is not 0
unfoldable pub all_zero : List ℕ → Bool
all_zero [] = true
all_zero (field ∷ fields) = eqb field 0 && all_zero fields

-- bits that are 0 exactly when every field is
pub record Blank (bits : ℕ) (fields : List ℕ) : Type 0 where
  pub same : eqb bits 0 ≡ all_zero fields

unfoldable pub unless : List ℕ → Request → Request
unless unused request = cond (all_zero unused) request Bad

-- what a request with a start and a size, and no more, doesn't use
abbrev pub beside_range : Fields → List ℕ
beside_range f = f.flags ∷ f.clear ∷ f.backend ∷ f.delta ∷ f.limit ∷ []

abbrev pub map_with : Fields → Backend → Bool → Request
map_with f backend replace = Map f.start f.size f.flags backend replace

-- "0 lazy, 1 linear", with none for "another .. backend" and for a delta "with lazy"
unfoldable pub backend_by : Fields → Option Backend
backend_by f = cond (eqb f.backend 1) (Some (Linear f.delta)) (cond (all_zero (f.backend ∷ f.delta ∷ [])) (Some Lazy) None)

-- "0 lazy, 1 linear", "another .. backend" is bad, and so is a delta "with lazy"
unfoldable pub map_by : Fields → Bool → Request
map_by f replace =
    unless (f.clear ∷ f.limit ∷ [])
    (cond (eqb f.backend 1) (map_with f (Linear f.delta) replace)
    (unless (f.backend ∷ f.delta ∷ []) (map_with f Lazy replace)))

-- "align's exponent"; "an exponent above 63" is bad
unfoldable pub search_by : Fields → Request
search_by f =
    unless (f.flags ∷ f.backend ∷ f.delta ∷ [])
    (cond (leb f.clear 63) (Search f.start f.size f.limit (2 ^ f.clear)) Bad)

-- what an op asks for
pub record Choice : Type 0 where
  pub op : ℕ
  pub request : Request

abbrev pub when : ℕ → Request → Choice
when op request = record { op = op; request = request }

-- the request of an op; "another op" is bad
unfoldable pub chosen : ℕ → List Choice → Request
chosen op [] = Bad
chosen op (c ∷ cs) = cond (eqb op c.op) c.request (chosen op cs)

abbrev pub choices : Fields → List Choice
choices f =
    when 1 (map_by f false)
    ∷ when 2 (map_by f true)
    ∷ when 3 (unless (beside_range f) (Unmap f.start f.size))
    ∷ when 4 (unless (f.backend ∷ f.delta ∷ f.limit ∷ []) (Protect f.start f.size f.flags f.clear))
    ∷ when 5 (unless (f.size ∷ beside_range f) (Find f.start))
    ∷ when 6 (unless (beside_range f) (Overlaps f.start f.size))
    ∷ when 7 (search_by f)
    ∷ when 8 (unless (f.start ∷ f.size ∷ beside_range f) Clear)
    ∷ []

unfoldable pub request_by : Fields → Request
request_by f = chosen f.op (choices f)

-- what the bytes of a record ask for; bytes of another number are no record
unfoldable pub request_of : List ℕ → Request
request_of bytes = cond (eqb (length bytes) record_size) (request_by (fields_of bytes)) Bad
