-- The rules W4 and W5, one character on.
use Rattle.std.proofs.Common.{◌≡◌, ℕ, ◌+◌, ◌<◌, Bool, true, List, ◌∷◌, length, get_or, drop, refl, ap, sym, ◌∙◌, inl, inr}
use Rattle.std.proofs.lemmas.Bool.{cases_Bool, cond-true}
use Rattle.std.proofs.lemmas.List.{drop_more}
use Rattle.ucd_bidi.specs.declared.BidiClass.{BidiClass}
use Rattle.ucd_bidi.specs.declared.BidiClass.TheVariants.{ArabicLetter, EuropeanTerminator}
use Rattle.bidi.specs.Classes.{is}
use Rattle.bidi.specs.Weak.{leads_to_number, next_class, w5, w5_class}

-- within a sequence of terminators all lead to the same
pub leads_on : (cs : List BidiClass) (n : ℕ) → n < length cs → is (next_class (drop n cs)) EuropeanTerminator ≡ true
    → leads_to_number (drop n cs) ≡ leads_to_number (drop (n + 1) cs)
leads_on cs n lt on =
    let e = drop_more cs n ArabicLetter lt in
    ap leads_to_number e ∙ cond-true (is (get_or cs n ArabicLetter) EuropeanTerminator) _ _ (sym (ap (λ l. is (next_class l) EuropeanTerminator) e) ∙ on)

pub first_at : (cs : List BidiClass) (n : ℕ) → n < length cs → next_class (drop n cs) ≡ get_or cs n ArabicLetter
first_at cs n lt = ap next_class (drop_more cs n ArabicLetter lt)

-- only a terminator asks what comes after it
w5-asks : (before class : BidiClass) (leads known : Bool) → (is class EuropeanTerminator ≡ true → leads ≡ known)
    → w5_class before class known ≡ w5_class before class leads
w5-asks before class leads known h = elim (cases_Bool (is class EuropeanTerminator)) [
  | inl on ↦ ap (w5_class before class) (sym (h on))
  | inr off ↦ rw off refl
]

pub w5_step : (before class v : BidiClass) (leads : Bool) (rest : List BidiClass)
    → (is class EuropeanTerminator ≡ true → leads ≡ leads_to_number rest) → v ≡ w5_class before class leads
    → w5 before (class ∷ rest) ≡ v ∷ w5 v rest
w5_step before class v leads rest h e =
    ap (λ d. d ∷ w5 d rest) (w5-asks before class leads (leads_to_number rest) h ∙ sym e)
