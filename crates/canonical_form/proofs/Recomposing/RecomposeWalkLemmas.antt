-- A walk that recomposes: it reads and replaces the starter in what was emitted.
use Rattle.std.proofs.Common.{◌≡◌, List, [], ◌∷◌, ◌++◌, length, get_or, set, refl, ap}

pub at_split : {A : Type 0} (done ms : List A) (s d : A) → get_or (done ++ s ∷ ms) (length done) d ≡ s
at_split [] ms s d = refl
at_split (x ∷ done) ms s d = at_split done ms s d

pub set_split : {A : Type 0} (done ms : List A) (s d : A) → set (done ++ s ∷ ms) (length done) d ≡ done ++ d ∷ ms
set_split [] ms s d = refl
set_split (x ∷ done) ms s d = ap (λ l. x ∷ l) (set_split done ms s d)
