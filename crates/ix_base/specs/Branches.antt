-- Laws on tests, by how they come out.
use Rattle.std.specs.Prelude.{◌≡◌, Bool, true, false, if◌then◌else◌, Result, Err, IfOk}
use Rattle.std.proofs.Common.{refl}

pub if_true : {A : Type 0} (b : Bool) (x y : A) → b ≡ true → (if b then x else y) ≡ x
if_true true x y e = refl
if_true false x y e = absurd (cc)

pub if_false : {A : Type 0} (b : Bool) (x y : A) → b ≡ false → (if b then x else y) ≡ y
if_false true x y e = absurd (cc)
if_false false x y e = refl

-- past a test that fails
pub past : {A : Type 0} (b : Bool) (x y z : A) → b ≡ false → y ≡ z → (if b then x else y) ≡ z
past true x y z e f = absurd (cc)
past false x y z e f = f

-- what holds of an Ok past a test that gives an Err
pub if_ok : {A E : Type 0} (P : A → Type 0) (b : Bool) (e : E) (y : Result A E) → (b ≡ false → IfOk y P) → IfOk (if b then Err e else y) P
if_ok P true e y h = tt
if_ok P false e y h = h refl
