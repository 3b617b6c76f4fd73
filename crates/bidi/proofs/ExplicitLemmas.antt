-- The levels of X1 to X8, one character on.
use Rattle.std.proofs.Common.{◌≡◌, ℕ, ◌+◌, ◌<◌, Bool, false, List, [], ◌∷◌, ◌++◌, length, get_or, drop, ap, ap₂, subst, sym, ◌∙◌, append_assoc}
use Rattle.std.proofs.lemmas.List.{drop_more}
use Rattle.ucd_bidi.specs.declared.BidiClass.{BidiClass}
use Rattle.ucd_bidi.specs.declared.BidiClass.TheVariants.{ArabicLetter}
use Rattle.bidi.specs.Explicit.{Stack, explicit_from, first_is_right, placed, stepped}
use Rattle.bidi.specs.Weak.{next_class}
use Rattle.bidi.specs.declared.explicit.Placed.{Placed}
use Rattle.bidi.proofs.WeakLemmas.{first_at}

pub explicit_step : (base n : ℕ) (cs : List BidiClass) (stack new : Stack) (right : Bool) (v : Placed) (all : List Placed) → n < length cs
    → ((b : ℕ) → stepped b right (next_class (drop n cs)) stack ≡ stepped b (first_is_right false 0 (drop (n + 1) cs)) (next_class (drop n cs)) stack)
    → new ≡ stepped base right (get_or cs n ArabicLetter) stack → v ≡ placed base stack.top new.top (get_or cs n ArabicLetter)
    → (all ++ v ∷ []) ++ explicit_from base new (drop (n + 1) cs) ≡ all ++ explicit_from base stack (drop n cs)
explicit_step base n cs stack new right v all lt first is_new is_placed =
    let x = get_or cs n ArabicLetter in
    let rest = drop (n + 1) cs in
    let after = stepped base (first_is_right false 0 rest) x stack in
    let same : new ≡ after =
    is_new ∙ subst (λ w. stepped base right w stack ≡ stepped base (first_is_right false 0 rest) w stack) (first_at cs n lt) (first base) in
    append_assoc all (v ∷ []) (explicit_from base new rest)
    ∙ ap (λ l. all ++ l)
    (ap₂ (λ w z. w ∷ explicit_from base z rest) (is_placed ∙ ap (λ z. placed base stack.top z.top x) same) same
    ∙ ap (explicit_from base stack) (sym (drop_more cs n ArabicLetter lt)))
