-- What an option holds.
use Rattle.std.proofs.Common.{◌≡◌, Option, Some, None, true, false, refl}
use Rattle.std.specs.Prelude.{is_some}

pub some-found : {A : Type 0} (o : Option A) → is_some o ≡ true → (x : A) × (o ≡ Some x)
some-found None is = absurd (let e : false ≡ true = is in cc)
some-found (Some x) is = (x, refl)
