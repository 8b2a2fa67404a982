-- The fields of a system file, and what each may hold, over the document that the `toml` crate's definition gives.
use Rattle.std.specs.Prelude.{ℕ, pos, ◌%◌, ◌==◌, ◌&&◌, ◌||◌, Bool, true, List, [], ◌∷◌, length, codes, nat_le, if◌then◌else◌, Option, Some, None, option_map, option_and_then}
use Rattle.std.specs.Str.{bytes_eq}
use Rattle.outside_io.specs.Names.{is_name}
use Rattle.toml.specs.Data.{Data, string, integer, array, Items, no_items, item, Members, no_members, member, get_member}
use Rattle.system_file.specs.declared.system.System.{System}

infixl 10 ◌>>=◌
abbrev pub ◌>>=◌ : {A B : Type 0} → Option A → (A → Option B) → Option B
o >>= f = option_and_then f o

-- a version of the rule that picks among ready threads of equal priority: 1, by arrival, or 2, by the due
abbrev pub is_version : ℕ → Bool
is_version n = n == 1 || n == 2

abbrev pub version_of : Data → Option ℕ
version_of (integer (pos n)) = if is_version n then Some n else None
version_of _ = None

-- a name: a text of 1 to 255 bytes
abbrev pub name_of : Data → Option (List ℕ)
name_of (string text) = if is_name text then Some text else None
name_of _ = None

-- a size: from 65,536 to `most`, and a multiple of 4,096
abbrev pub is_size : ℕ → ℕ → Bool
is_size most n = (nat_le 65536 n && nat_le n most) && n % 4096 == 0

abbrev pub size_of : ℕ → Data → Option ℕ
size_of most (integer (pos n)) = if is_size most n then Some n else None
size_of most _ = None

-- an array of at most 16 names
abbrev pub names_in : Items → Option (List (List ℕ))
names_in no_items = Some []
names_in (item d ds) = name_of d >>= λ name. option_map (λ names. name ∷ names) (names_in ds)

abbrev pub names_of : Data → Option (List (List ℕ))
names_of (array ds) = names_in ds >>= λ names. if nat_le (length names) 16 then Some names else None
names_of _ = None

-- a field that must be there, and one that may be
abbrev pub required : {A : Type 0} → (Data → Option A) → Option Data → Option A
required read None = None
required read (Some d) = read d

abbrev pub optional : {A : Type 0} → (Data → Option A) → A → Option Data → Option A
optional read absent None = Some absent
optional read absent (Some d) = read d

-- the names of the fields
abbrev pub is_field : List ℕ → Bool
is_field key = bytes_eq key (codes "version") || bytes_eq key (codes "image") || bytes_eq key (codes "guest_memory")
    || bytes_eq key (codes "real_time_memory") || bytes_eq key (codes "modules") || bytes_eq key (codes "script")

abbrev pub has_only_fields : Members → Bool
has_only_fields no_members = true
has_only_fields (member key d rest) = is_field key && has_only_fields rest

-- the fields, where none is wrong or missing
unfoldable pub fields_of : Members → Option System
fields_of ms = do
  version ← required version_of (get_member (codes "version") ms)
  image ← required name_of (get_member (codes "image") ms)
  guest ← required (size_of 16777216) (get_member (codes "guest_memory") ms)
  real_time ← required (size_of 4194304) (get_member (codes "real_time_memory") ms)
  modules ← optional names_of [] (get_member (codes "modules") ms)
  script ← optional (λ d. option_map Some (name_of d)) None (get_member (codes "script") ms)
  Some (record { version = version; image = image; guest_memory = guest; real_time_memory = real_time; modules = modules; script = script })

-- what the members of a document make: nothing where a field is wrong, missing or unknown
abbrev pub system_of : Members → Option System
system_of ms = if has_only_fields ms then fields_of ms else None
