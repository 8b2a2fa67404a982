-- What the fields of an accepted system keep.
use Rattle.std.proofs.Common.{◌≡◌, ℕ, ◌≤◌, pos, negsuc, Bool, true, false, List, [], ◌∷◌, Option, Some, None, Ok, Err, arith, refl, ap, ◌∙◌, codes, option_map}
use Rattle.std.specs.Prelude.{if◌then◌else◌, IfSome, IfOk, Result, All, length, nat_le}
use Rattle.std.proofs.lemmas.List.Elements.{All-nil, All-cons}
use Rattle.std.proofs.lemmas.Bool.Decides.{nat_tests}
use Rattle.toml.specs.Data.{Data, string, integer, float, boolean, datetime, array, table, Items, no_items, item, Members, get_member}
use Rattle.system_file.specs.declared.system.System.{System}
use Rattle.system_file.specs.Fields.{required, optional, is_version, size_of, is_size, name_of, names_in, names_of, version_of, fields_of, system_of, has_only_fields, ◌>>=◌}
use Rattle.system_file.specs.Read.{document_of}
use Rattle.run_files.specs.declared.cause.Refusal.{Refusal}
use Rattle.outside_io.specs.Names.{is_name, IsName}
use Rattle.run_files.specs.Refusal.{Accepts}
use Rattle.run_files.specs.Verdict.{about}
use Rattle.run_files.specs.declared.cause.Cause.{Cause}
use Rattle.run_files.specs.Files.{IsAccepted, system_in, members_in, fields_in}

required_good : {A : Type 0} (P : A → Type 0) (read : Data → Option A) (o : Option Data) (x : A)
    → ((d : Data) (y : A) → read d ≡ Some y → P y) → required read o ≡ Some x → P x
required_good P read None x good same = absurd cc
required_good P read (Some d) x good same = good d x same

test : {A : Type 0} (b : Bool) (x y : A) → (if b then Some x else None) ≡ Some y → (b ≡ true) × (x ≡ y)
test false x y same = absurd cc
test true x y same = (refl, cc)

version_good : (d : Data) (n : ℕ) → version_of d ≡ Some n → is_version n ≡ true
version_good (integer (pos m)) n same = let got = test (is_version m) m n same in rw (← got.1) got.0
version_good (integer (negsuc m)) n same = absurd cc
version_good (string text) n same = absurd cc
version_good (float x) n same = absurd cc
version_good (boolean b) n same = absurd cc
version_good (datetime x) n same = absurd cc
version_good (array ds) n same = absurd cc
version_good (table ms) n same = absurd cc

size_good : (most : ℕ) (d : Data) (n : ℕ) → size_of most d ≡ Some n → (65536 ≤ n) × (n ≤ most)
size_good most (integer (pos m)) n same = let got = test (is_size most m) m n same in (grind (arith, nat_tests), grind (arith, nat_tests))
size_good most (integer (negsuc m)) n same = absurd cc
size_good most (string text) n same = absurd cc
size_good most (float x) n same = absurd cc
size_good most (boolean b) n same = absurd cc
size_good most (datetime x) n same = absurd cc
size_good most (array ds) n same = absurd cc
size_good most (table ms) n same = absurd cc

name_good : (d : Data) (name : List ℕ) → name_of d ≡ Some name → IsName name
name_good (string text) name same = let got = test (is_name text) text name same in (grind (arith, nat_tests), grind (arith, nat_tests))
name_good (integer n) name same = absurd cc
name_good (float x) name same = absurd cc
name_good (boolean b) name same = absurd cc
name_good (datetime x) name same = absurd cc
name_good (array ds) name same = absurd cc
name_good (table ms) name same = absurd cc

script_good : (o : Option Data) (script : Option (List ℕ)) → optional (λ d. option_map Some (name_of d)) None o ≡ Some script → IfSome script IsName
script_good None None same = tt
script_good None (Some name) same = absurd cc
script_good (Some d) script same = go (name_of d) refl script same
  where
    go : (named : Option (List ℕ)) → name_of d ≡ named → (script : Option (List ℕ)) → option_map Some named ≡ Some script → IfSome script IsName
    go None is script same = absurd cc
    go (Some name) is None same = absurd cc
    go (Some name) is (Some other) same = let equal : name ≡ other = cc in name_good d other (is ∙ ap Some equal)

-- names, one before others
front_good : (first : Option (List ℕ)) (rest : Option (List (List ℕ))) (names : List (List ℕ))
    → ((name : List ℕ) → first ≡ Some name → IsName name) → ((others : List (List ℕ)) → rest ≡ Some others → All IsName others)
    → (first >>= λ name. option_map (λ others. name ∷ others) rest) ≡ Some names → All IsName names
front_good None rest names first_good rest_good same = absurd cc
front_good (Some name) None names first_good rest_good same = absurd cc
front_good (Some name) (Some others) names first_good rest_good same =
    let is : name ∷ others ≡ names = cc in
    rw (← is) (All-cons IsName name others (first_good name refl) (rest_good others refl))

items_good : (ds : Items) (names : List (List ℕ)) → names_in ds ≡ Some names → All IsName names
items_good no_items names same = let is : [] ≡ names = cc in rw (← is) (All-nil IsName)
items_good (item d ds) names same =
    front_good (name_of d) (names_in ds) names (λ name is. name_good d name is) (λ others is. items_good ds others is) same

-- an array of names, at most 16
abbrev IsNames : List (List ℕ) → Type 0
IsNames names = All IsName names × (length names ≤ 16)

few_good : (o : Option (List (List ℕ))) (names : List (List ℕ)) → ((read : List (List ℕ)) → o ≡ Some read → All IsName read)
    → (o >>= λ read. if nat_le (length read) 16 then Some read else None) ≡ Some names → IsNames names
few_good None names good same = absurd cc
few_good (Some read) names good same =
    let got = test (nat_le (length read) 16) read names same in
    (rw (← got.1) (good read refl), rw (← got.1) (grind (arith, nat_tests)))

names_good : (d : Data) (names : List (List ℕ)) → names_of d ≡ Some names → IsNames names
names_good (array ds) names same = few_good (names_in ds) names (λ read is. items_good ds read is) same
names_good (string text) names same = absurd cc
names_good (integer n) names same = absurd cc
names_good (float x) names same = absurd cc
names_good (boolean b) names same = absurd cc
names_good (datetime x) names same = absurd cc
names_good (table ms) names same = absurd cc

modules_good : (o : Option Data) (names : List (List ℕ)) → optional names_of [] o ≡ Some names → IsNames names
modules_good None names same = let is : [] ≡ names = cc in rw (← is) (All-nil IsName, omega arith)
modules_good (Some d) names same = names_good d names same

abbrev made : ℕ → List ℕ → ℕ → ℕ → List (List ℕ) → Option (List ℕ) → System
made version image guest real_time modules script =
    record { version = version; image = image; guest_memory = guest; real_time_memory = real_time; modules = modules; script = script }

-- the system that is made keeps what its fields keep
whole : (version : ℕ) (image : List ℕ) (guest real_time : ℕ) (modules : List (List ℕ)) (script : Option (List ℕ)) (s : System)
    → Some (made version image guest real_time modules script) ≡ Some s
    → IsAccepted (made version image guest real_time modules script) → IsAccepted s
whole version image guest real_time modules script s same keeps =
    let is : made version image guest real_time modules script ≡ s = cc in rw (← is) keeps

abbrev IsGuestSize : ℕ → Type 0
IsGuestSize n = (65536 ≤ n) × (n ≤ 16777216)

abbrev IsRealTimeSize : ℕ → Type 0
IsRealTimeSize n = (65536 ≤ n) × (n ≤ 4194304)

-- the chain of the fields, each by what it reads
abbrev chain : Option ℕ → Option (List ℕ) → Option ℕ → Option ℕ → Option (List (List ℕ)) → Option (Option (List ℕ)) → Option System
chain v i g r m c = do
  version ← v
  image ← i
  guest ← g
  real_time ← r
  modules ← m
  script ← c
  Some (made version image guest real_time modules script)

chain_keeps : (v : Option ℕ) (i : Option (List ℕ)) (g r : Option ℕ) (m : Option (List (List ℕ))) (c : Option (Option (List ℕ))) (s : System)
    → ((n : ℕ) → v ≡ Some n → is_version n ≡ true) → ((x : List ℕ) → i ≡ Some x → IsName x) → ((n : ℕ) → g ≡ Some n → IsGuestSize n) → ((n : ℕ) → r ≡ Some n → IsRealTimeSize n)
    → ((x : List (List ℕ)) → m ≡ Some x → IsNames x) → ((x : Option (List ℕ)) → c ≡ Some x → IfSome x IsName)
    → chain v i g r m c ≡ Some s → IsAccepted s
chain_keeps None i g r m c s vk ik gk rk mk ck same = absurd cc
chain_keeps (Some v) None g r m c s vk ik gk rk mk ck same = absurd cc
chain_keeps (Some v) (Some i) None r m c s vk ik gk rk mk ck same = absurd cc
chain_keeps (Some v) (Some i) (Some g) None m c s vk ik gk rk mk ck same = absurd cc
chain_keeps (Some v) (Some i) (Some g) (Some r) None c s vk ik gk rk mk ck same = absurd cc
chain_keeps (Some v) (Some i) (Some g) (Some r) (Some m) None s vk ik gk rk mk ck same = absurd cc
chain_keeps (Some v) (Some i) (Some g) (Some r) (Some m) (Some c) s vk ik gk rk mk ck same =
    let names = mk m refl in
    whole v i g r m c s same (record { version = vk v refl; image = ik i refl; script = ck c refl; guest = gk g refl; real_time = rk r refl; modules = names.0; few = names.1 })

fields_keep : (ms : Members) (s : System) → fields_of ms ≡ Some s → IsAccepted s
unfolding fields_of
fields_keep ms s same = chain_keeps
    (required version_of (get_member (codes "version") ms))
    (required name_of (get_member (codes "image") ms))
    (required (size_of 16777216) (get_member (codes "guest_memory") ms))
    (required (size_of 4194304) (get_member (codes "real_time_memory") ms))
    (optional names_of [] (get_member (codes "modules") ms))
    (optional (λ d. option_map Some (name_of d)) None (get_member (codes "script") ms))
    s
    (λ n is. required_good (λ (k : ℕ). is_version k ≡ true) version_of (get_member (codes "version") ms) n (λ d y h. version_good d y h) is)
    (λ x is. required_good IsName name_of (get_member (codes "image") ms) x (λ d y h. name_good d y h) is)
    (λ n is. required_good IsGuestSize (size_of 16777216) (get_member (codes "guest_memory") ms) n (λ d y h. size_good 16777216 d y h) is)
    (λ n is. required_good IsRealTimeSize (size_of 4194304) (get_member (codes "real_time_memory") ms) n (λ d y h. size_good 4194304 d y h) is)
    (λ x is. modules_good (get_member (codes "modules") ms) x is)
    (λ x is. script_good (get_member (codes "script") ms) x is)
    same

system_keeps : (ms : Members) (s : System) → system_of ms ≡ Some s → IsAccepted s
system_keeps ms s same = go (has_only_fields ms) same
  where
    go : (b : Bool) → (if b then fields_of ms else None) ≡ Some s → IsAccepted s
    go true h = fields_keep ms s h
    go false h = absurd cc

in_fields : (o : Option System) (s : System) → ((t : System) → o ≡ Some t → IsAccepted t) → fields_in o ≡ Ok s → IsAccepted s
in_fields None s keeps same = absurd cc
in_fields (Some t) s keeps same = let is : t ≡ s = cc in rw (← is) (keeps t refl)

in_members : (o : Option Members) (s : System) → members_in o ≡ Ok s → IsAccepted s
in_members None s same = absurd cc
in_members (Some ms) s same = in_fields (system_of ms) s (λ t is. system_keeps ms t is) same

unnamed : (name : List ℕ) (made : Result System Cause) (s : System) → about name made ≡ Ok s → made ≡ Ok s
unnamed name (Ok t) s same = cc
unnamed name (Err why) s same = absurd cc

pub accepted_keeps : (name bytes : List ℕ) (result : Result System Refusal) → Accepts result (about name (system_in bytes)) → IfOk result IsAccepted
unfolding system_in
accepted_keeps name bytes (Ok s) same = in_members (document_of bytes) s (unnamed name (members_in (document_of bytes)) s same)
accepted_keeps name bytes (Err refusal) same = tt
