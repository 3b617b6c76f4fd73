-- The rules W2 to W7 where there is no number: W3 and W6 are all that change anything.
use Rattle.std.proofs.Common.{◌≡◌, false, Bool, List, [], ◌∷◌, refl, ap, ap₂, sym, ◌∙◌}
use Rattle.std.specs.Prelude.{⊤, if◌then◌else◌}
use Rattle.std.proofs.lemmas.Bool.{or_parts}
use Rattle.std.specs.List.{list_any}
use Rattle.ucd_bidi.specs.declared.BidiClass.{BidiClass}
use Rattle.ucd_bidi.specs.declared.BidiClass.TheVariants.{ArabicLetter, ArabicNumber, CommonSeparator, EuropeanNumber, EuropeanSeparator, EuropeanTerminator}
use Rattle.bidi.specs.Classes.{is, is_number}
use Rattle.bidi.specs.Weak.{leads_to_number, next_class, strong_then, w2, w2_class, w3, w3_class, w4, w4_class, w5, w5_class, w6, w6_class, w7, w7_class}

abbrev HasNone : List BidiClass → Type 0
HasNone [] = ⊤
HasNone (c ∷ cs) = (is_number c ≡ false) × HasNone cs

has_none : (cs : List BidiClass) → list_any is_number cs ≡ false → HasNone cs
has_none [] h = tt
has_none (c ∷ cs) h = let parts = or_parts (is_number c) (list_any is_number cs) h in (parts.0, has_none cs parts.1)

w2_none : (strong c : BidiClass) → is_number c ≡ false → w2_class strong c ≡ c
w2_none strong EuropeanNumber h = cc
w2_none strong _ h = refl

w2_same : (strong : BidiClass) (cs : List BidiClass) → HasNone cs → w2 strong cs ≡ cs
w2_same strong [] h = refl
w2_same strong (c ∷ cs) h = ap₂ (λ a l. a ∷ l) (w2_none strong c h.0) (w2_same (strong_then strong c) cs h.1)

w3_one : (c : BidiClass) → is_number c ≡ false → is_number (w3_class c) ≡ false
w3_one ArabicLetter h = refl
w3_one _ h = h

w3_none : (cs : List BidiClass) → HasNone cs → HasNone (w3 cs)
w3_none [] h = tt
w3_none (c ∷ cs) h = (w3_one c h.0, w3_none cs h.1)

w4_none : (before c after : BidiClass) → is_number before ≡ false → w4_class before c after ≡ c
w4_none EuropeanNumber c after h = cc
w4_none ArabicNumber c after h = cc
w4_none _ CommonSeparator after h = refl
w4_none _ EuropeanSeparator after h = refl
w4_none _ _ after h = refl

w4_same : (before : BidiClass) (cs : List BidiClass) → is_number before ≡ false → HasNone cs → w4 before cs ≡ cs
w4_same before [] hb h = refl
w4_same before (c ∷ cs) hb h = ap₂ (λ a l. a ∷ l) (w4_none before c (next_class cs) hb) (w4_same c cs h.0 h.1)

leads_one : (c : BidiClass) (leads : Bool) → is_number c ≡ false → leads ≡ false → (if is c EuropeanTerminator then leads else is c EuropeanNumber) ≡ false
leads_one EuropeanTerminator leads h e = e
leads_one EuropeanNumber leads h e = cc
leads_one _ leads h e = refl

leads_none : (cs : List BidiClass) → HasNone cs → leads_to_number cs ≡ false
leads_none [] h = refl
leads_none (c ∷ cs) h = leads_one c (leads_to_number cs) h.0 (leads_none cs h.1)

w5_none : (before c : BidiClass) (leads : Bool) → is_number before ≡ false → leads ≡ false → w5_class before c leads ≡ c
w5_none EuropeanNumber c leads h e = cc
w5_none before EuropeanTerminator leads h e = w5_before before leads h e
  where
    w5_before : (before : BidiClass) (leads : Bool) → is_number before ≡ false → leads ≡ false → w5_class before EuropeanTerminator leads ≡ EuropeanTerminator
    w5_before EuropeanNumber leads h e = cc
    w5_before _ leads h e = rw e refl
w5_none _ _ leads h e = refl

w5_same : (before : BidiClass) (cs : List BidiClass) → is_number before ≡ false → HasNone cs → w5 before cs ≡ cs
w5_same before [] hb h = refl
w5_same before (c ∷ cs) hb h =
    let one = w5_none before c (leads_to_number cs) hb (leads_none cs h.1) in
    ap (λ v. v ∷ w5 v cs) one ∙ ap (λ l. c ∷ l) (w5_same c cs h.0 h.1)

w6_one : (c : BidiClass) → is_number c ≡ false → is_number (w6_class c) ≡ false
w6_one EuropeanSeparator h = refl
w6_one EuropeanTerminator h = refl
w6_one CommonSeparator h = refl
w6_one _ h = h

w6_none : (cs : List BidiClass) → HasNone cs → HasNone (w6 cs)
w6_none [] h = tt
w6_none (c ∷ cs) h = (w6_one c h.0, w6_none cs h.1)

w7_none : (strong c : BidiClass) → is_number c ≡ false → w7_class strong c ≡ c
w7_none strong EuropeanNumber h = cc
w7_none strong _ h = refl

w7_same : (strong : BidiClass) (cs : List BidiClass) → HasNone cs → w7 strong cs ≡ cs
w7_same strong [] h = refl
w7_same strong (c ∷ cs) h = ap₂ (λ a l. a ∷ l) (w7_none strong c h.0) (w7_same (strong_then strong c) cs h.1)

pub no_numbers : (sos : BidiClass) (cs : List BidiClass) → is_number sos ≡ false → list_any is_number cs ≡ false
    → w6 (w3 cs) ≡ w7 sos (w6 (w5 sos (w4 sos (w3 (w2 sos cs)))))
no_numbers sos cs hs hc =
    let none = has_none cs hc in
    let three = w3_none cs none in
    sym (
    ap (λ l. w7 sos (w6 (w5 sos (w4 sos (w3 l))))) (w2_same sos cs none)
    ∙ ap (λ l. w7 sos (w6 (w5 sos l))) (w4_same sos (w3 cs) hs three)
    ∙ ap (λ l. w7 sos (w6 l)) (w5_same sos (w3 cs) hs three)
    ∙ w7_same sos (w6 (w3 cs)) (w6_none (w3 cs) three)
    )
