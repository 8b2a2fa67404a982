-- What a test chooses.
use Rattle.std.proofs.Common.{◌≡◌, Bool, true, false, if◌then◌else◌, Option, refl}

pub taken : {A : Type 0} (test : Bool) (x y : Option A) → test ≡ true → (if test then x else y) ≡ x
taken test x y holds = rw holds refl

pub passed : {A : Type 0} (test : Bool) (x y : Option A) → test ≡ false → (if test then x else y) ≡ y
passed test x y fails = rw fails refl
