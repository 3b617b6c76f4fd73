-- The rules N1 and N2, one character on.
use Rattle.std.proofs.Common.{◌≡◌, ℕ, ◌+◌, ◌<◌, true, List, ◌∷◌, length, get_or, drop, refl, ap, ap₂, sym, ◌∙◌, inl, inr}
use Rattle.std.proofs.lemmas.Bool.{cases_Bool, cond-true}
use Rattle.std.proofs.lemmas.List.{drop_more}
use Rattle.ucd_bidi.specs.declared.BidiClass.{BidiClass}
use Rattle.ucd_bidi.specs.declared.BidiClass.TheVariants.{ArabicLetter}
use Rattle.bidi.specs.Classes.{is_neutral}
use Rattle.bidi.specs.Neutral.{direction_after, direction_then, n1_class, neutral}
use Rattle.bidi.specs.Weak.{next_class}

-- among neutral characters the direction after each is the same
pub after_on : (eos : BidiClass) (cs : List BidiClass) (n : ℕ) → n < length cs → is_neutral (next_class (drop n cs)) ≡ true
    → direction_after eos (drop n cs) ≡ direction_after eos (drop (n + 1) cs)
after_on eos cs n lt on =
    let e = drop_more cs n ArabicLetter lt in
    ap (direction_after eos) e ∙ cond-true (is_neutral (get_or cs n ArabicLetter)) _ _ (sym (ap (λ l. is_neutral (next_class l)) e) ∙ on)

-- only a neutral character asks what is after it
asks : (embedding before class after known : BidiClass) → (is_neutral class ≡ true → after ≡ known)
    → n1_class embedding before known class ≡ n1_class embedding before after class
asks embedding before class after known h = elim (cases_Bool (is_neutral class)) [
  | inl on ↦ ap (λ a. n1_class embedding before a class) (sym (h on))
  | inr off ↦ rw off refl
]

pub neutral_step : (embedding eos before class after v next : BidiClass) (rest : List BidiClass)
    → (is_neutral class ≡ true → after ≡ direction_after eos rest) → v ≡ n1_class embedding before after class
    → next ≡ direction_then before class → neutral embedding eos before (class ∷ rest) ≡ v ∷ neutral embedding eos next rest
neutral_step embedding eos before class after v next rest h e f =
    ap₂ (λ d s. d ∷ neutral embedding eos s rest) (asks embedding before class after (direction_after eos rest) h ∙ sym e) (sym f)
