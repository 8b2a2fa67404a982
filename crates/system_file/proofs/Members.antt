-- Members and items beside the map and the values that they stand for.
use Rattle.std.proofs.Common.{◌≡◌, ℕ, List, [], ◌∷◌, ◌++◌, Option, option_map, string_bytes, refl}
use Rattle.std.specs.List.{list_all}
use Rattle.std.specs.Map.{keys_of}
use Rattle.toml.specs.View.{members_view}
use Rattle.toml.proofs.Views.{Entry}
use Rattle.system_file.specs.Fields.{is_field, has_only_fields}

pub only_fields_of_keys : (es : List Entry) → has_only_fields (members_view es) ≡ list_all (λ key. is_field (string_bytes key)) (keys_of es)
only_fields_of_keys [] = refl
only_fields_of_keys (e ∷ es) = rw (only_fields_of_keys es) refl

-- the names that were read, before those that are still to come
abbrev pub with_front : List (List ℕ) → Option (List (List ℕ)) → Option (List (List ℕ))
with_front front = option_map (λ names. front ++ names)
