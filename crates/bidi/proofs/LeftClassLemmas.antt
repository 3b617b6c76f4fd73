-- Classes of texts in which nothing is right to left: what each rule makes of them.
use Rattle.std.proofs.Common.{◌≡◌, ℕ, zero, suc, ◌+◌, ◌-◌, ◌&&◌, Bool, true, false, None, Some, List, [], ◌∷◌, length, take, drop, refl, ap, ap₂, subst, sym, ◌∙◌, inl, inr, if◌then◌else◌}
use Rattle.std.specs.Prelude.{⊤, nat_lt, slice_set}
use Rattle.std.proofs.lemmas.Bool.{cases_Bool, cond-true, cond-false}
use Rattle.ucd_bidi.specs.declared.BidiClass.{BidiClass}
use Rattle.ucd_bidi.specs.declared.BidiClass.TheVariants.{ArabicLetter, ArabicNumber, CommonSeparator, EuropeanNumber, EuropeanSeparator}
use Rattle.ucd_bidi.specs.declared.BidiClass.TheVariants.{EuropeanTerminator, LeftToRight, NonspacingMark, OtherNeutral, ParagraphSeparator}
use Rattle.ucd_bidi.specs.declared.BidiClass.TheVariants.{RightToLeft, SegmentSeparator, WhiteSpace}
use Rattle.bidi.specs.Brackets.{closes_of, directed_then, has_directed, has_direction, n0, n0_from, with_bracket, with_brackets, with_marks, with_pair}
use Rattle.bidi.specs.Classes.{is, is_isolate}
use Rattle.bidi.specs.Neutral.{direction_after, direction_then, implicit_level, n1_class, neutral}
use Rattle.bidi.specs.Weak.{leads_to_number, next_class, strong_then, w1, w1_class, w2, w2_class, w3, w3_class, w4, w4_class, w5, w5_class, w6, w6_class, w7, w7_class, weak}
use Rattle.bidi.specs.declared.members.Member.{Member}

abbrev pub AllTrue : (BidiClass → Bool) → List BidiClass → Type 0
AllTrue p [] = ⊤
AllTrue p (c ∷ cs) = (p c ≡ true) × AllTrue p cs

-- what X9 leaves
abbrev pub is_kept : BidiClass → Bool
is_kept NonspacingMark = true
is_kept LeftToRight = true
is_kept EuropeanNumber = true
is_kept EuropeanSeparator = true
is_kept EuropeanTerminator = true
is_kept CommonSeparator = true
is_kept ParagraphSeparator = true
is_kept SegmentSeparator = true
is_kept WhiteSpace = true
is_kept OtherNeutral = true
is_kept _ = false

-- what W1 leaves
abbrev is_unmarked : BidiClass → Bool
is_unmarked LeftToRight = true
is_unmarked EuropeanNumber = true
is_unmarked EuropeanSeparator = true
is_unmarked EuropeanTerminator = true
is_unmarked CommonSeparator = true
is_unmarked ParagraphSeparator = true
is_unmarked SegmentSeparator = true
is_unmarked WhiteSpace = true
is_unmarked OtherNeutral = true
is_unmarked _ = false

-- what W6 leaves
abbrev is_numbered : BidiClass → Bool
is_numbered LeftToRight = true
is_numbered EuropeanNumber = true
is_numbered ParagraphSeparator = true
is_numbered SegmentSeparator = true
is_numbered WhiteSpace = true
is_numbered OtherNeutral = true
is_numbered _ = false

-- what W7 leaves
abbrev is_lettered : BidiClass → Bool
is_lettered LeftToRight = true
is_lettered ParagraphSeparator = true
is_lettered SegmentSeparator = true
is_lettered WhiteSpace = true
is_lettered OtherNeutral = true
is_lettered _ = false

-- what N2 leaves
abbrev pub is_letter : BidiClass → Bool
is_letter LeftToRight = true
is_letter _ = false

either : (p : BidiClass → Bool) (t : Bool) (a b : BidiClass) → p a ≡ true → p b ≡ true → p (if t then a else b) ≡ true
either p true a b ha hb = ha
either p false a b ha hb = hb

-- ---- W1 to W7

w1_one : (before class : BidiClass) → is_unmarked before ≡ true → is_kept class ≡ true → is_unmarked (w1_class before class) ≡ true
w1_one before NonspacingMark hb h = either is_unmarked (is_isolate before) OtherNeutral before refl hb
w1_one before _ hb h = h

w1_left : (before : BidiClass) (cs : List BidiClass) → is_unmarked before ≡ true → AllTrue is_kept cs → AllTrue is_unmarked (w1 before cs)
w1_left before [] hb h = tt
w1_left before (c ∷ cs) hb h = let one = w1_one before c hb h.0 in (one, w1_left (w1_class before c) cs one h.1)

strong_same : (c : BidiClass) → is_unmarked c ≡ true → strong_then LeftToRight c ≡ LeftToRight
strong_same RightToLeft h = cc
strong_same ArabicLetter h = cc
strong_same _ h = refl

w2_id : (c : BidiClass) → w2_class LeftToRight c ≡ c
w2_id EuropeanNumber = refl
w2_id _ = refl

w2_same : (cs : List BidiClass) → AllTrue is_unmarked cs → w2 LeftToRight cs ≡ cs
w2_same [] h = refl
w2_same (c ∷ cs) h = ap₂ (λ a s. a ∷ w2 s cs) (w2_id c) (strong_same c h.0) ∙ ap (λ l. c ∷ l) (w2_same cs h.1)

w3_id : (c : BidiClass) → is_unmarked c ≡ true → w3_class c ≡ c
w3_id ArabicLetter h = cc
w3_id _ h = refl

w3_same : (cs : List BidiClass) → AllTrue is_unmarked cs → w3 cs ≡ cs
w3_same [] h = refl
w3_same (c ∷ cs) h = ap₂ (λ a l. a ∷ l) (w3_id c h.0) (w3_same cs h.1)

no_arabic : (c : BidiClass) → is_unmarked c ≡ true → is c ArabicNumber ≡ false
no_arabic ArabicNumber h = cc
no_arabic _ h = refl

and_false : (b : Bool) → (b && false) ≡ false
and_false true = refl
and_false false = refl

w4_rest : (t u : Bool) (class : BidiClass) → u ≡ false → is_unmarked class ≡ true
    → is_unmarked (if t then EuropeanNumber else if u then ArabicNumber else class) ≡ true
w4_rest true u class e h = refl
w4_rest false u class e h = subst (λ v. is_unmarked (if v then ArabicNumber else class) ≡ true) (sym e) h

w4_one : (before class after : BidiClass) → is_unmarked before ≡ true → is_unmarked class ≡ true → is_unmarked (w4_class before class after) ≡ true
w4_one before class after hb h =
    w4_rest _ (is class CommonSeparator && (is before ArabicNumber && is after ArabicNumber)) class
    (ap (λ b. is class CommonSeparator && (b && is after ArabicNumber)) (no_arabic before hb) ∙ and_false (is class CommonSeparator)) h

w4_left : (before : BidiClass) (cs : List BidiClass) → is_unmarked before ≡ true → AllTrue is_unmarked cs → AllTrue is_unmarked (w4 before cs)
w4_left before [] hb h = tt
w4_left before (c ∷ cs) hb h = (w4_one before c (next_class cs) hb h.0, w4_left c cs h.0 h.1)

w5_left : (before : BidiClass) (cs : List BidiClass) → AllTrue is_unmarked cs → AllTrue is_unmarked (w5 before cs)
w5_left before [] h = tt
w5_left before (c ∷ cs) h =
    (either is_unmarked _ EuropeanNumber c refl h.0, w5_left (w5_class before c (leads_to_number cs)) cs h.1)

w6_one : (c : BidiClass) → is_unmarked c ≡ true → is_numbered (w6_class c) ≡ true
w6_one EuropeanSeparator h = refl
w6_one EuropeanTerminator h = refl
w6_one CommonSeparator h = refl
w6_one _ h = h

w6_left : (cs : List BidiClass) → AllTrue is_unmarked cs → AllTrue is_numbered (w6 cs)
w6_left [] h = tt
w6_left (c ∷ cs) h = (w6_one c h.0, w6_left cs h.1)

w7_one : (c : BidiClass) → is_numbered c ≡ true → is_lettered (w7_class LeftToRight c) ≡ true
w7_one EuropeanNumber h = refl
w7_one _ h = h

strong_kept : (c : BidiClass) → is_numbered c ≡ true → strong_then LeftToRight c ≡ LeftToRight
strong_kept RightToLeft h = cc
strong_kept ArabicLetter h = cc
strong_kept _ h = refl

w7_left : (cs : List BidiClass) → AllTrue is_numbered cs → AllTrue is_lettered (w7 LeftToRight cs)
w7_left [] h = tt
w7_left (c ∷ cs) h =
    (w7_one c h.0, subst (λ s. AllTrue is_lettered (w7 s cs)) (sym (strong_kept c h.0)) (w7_left cs h.1))

weak_left : (cs : List BidiClass) → AllTrue is_kept cs → AllTrue is_lettered (weak LeftToRight cs)
weak_left cs h =
    let one = w1_left LeftToRight cs refl h in
    let first = w1 LeftToRight cs in
    let same : w3 (w2 LeftToRight first) ≡ first = ap w3 (w2_same first one) ∙ w3_same first one in
    let three : AllTrue is_unmarked (w3 (w2 LeftToRight first)) = subst (AllTrue is_unmarked) (sym same) one in
    w7_left _ (w6_left _ (w5_left LeftToRight _ (w4_left LeftToRight (w3 (w2 LeftToRight first)) refl three)))

-- ---- N0

set_left : (cs : List BidiClass) (n : ℕ) (v : BidiClass) → is_lettered v ≡ true → AllTrue is_lettered cs → AllTrue is_lettered (slice_set cs n v)
set_left [] n v hv h = tt
set_left (c ∷ cs) zero v hv h = (hv, h.1)
set_left (c ∷ cs) (suc n) v hv h = (h.0, set_left cs n v hv h.1)

drop_left : (n : ℕ) (cs : List BidiClass) → AllTrue is_lettered cs → AllTrue is_lettered (drop n cs)
drop_left zero cs h = h
drop_left (suc n) [] h = tt
drop_left (suc n) (c ∷ cs) h = drop_left n cs h.1

next_left : (cs : List BidiClass) → AllTrue is_lettered cs → is_lettered (next_class cs) ≡ true
next_left [] h = refl
next_left (c ∷ cs) h = h.0

marks_left : (place : ℕ) (ms : List Member) (cs : List BidiClass) → AllTrue is_lettered cs → AllTrue is_lettered (with_marks LeftToRight place ms cs)
marks_left place [] cs h = h
marks_left place (m ∷ ms) cs h = elim (cases_Bool (is m.class NonspacingMark)) [
  | inl on ↦ subst (AllTrue is_lettered) (sym (cond-true (is m.class NonspacingMark) _ _ on))
      (marks_left (place + 1) ms (slice_set cs place LeftToRight) (set_left cs place LeftToRight refl h))
  | inr off ↦ subst (AllTrue is_lettered) (sym (cond-false (is m.class NonspacingMark) _ _ off)) h
]

bracket_left : (ms : List Member) (place : ℕ) (cs : List BidiClass) → AllTrue is_lettered cs → AllTrue is_lettered (with_bracket LeftToRight ms place cs)
bracket_left ms place cs h = marks_left (place + 1) (drop (place + 1) ms) (slice_set cs place LeftToRight) (set_left cs place LeftToRight refl h)

brackets_left : (t u : Bool) (ms : List Member) (place close : ℕ) (cs : List BidiClass) → AllTrue is_lettered cs
    → AllTrue is_lettered (with_brackets (if t then Some LeftToRight else if u then Some LeftToRight else None) ms place close cs)
brackets_left true u ms place close cs h = bracket_left ms close (with_bracket LeftToRight ms place cs) (bracket_left ms place cs h)
brackets_left false true ms place close cs h = bracket_left ms close (with_bracket LeftToRight ms place cs) (bracket_left ms place cs h)
brackets_left false false ms place close cs h = h

within_left : (t : Bool) (xs cs : List BidiClass) → AllTrue is_lettered xs → AllTrue is_lettered cs → AllTrue is_lettered (if t then xs else cs)
within_left true xs cs hx h = hx
within_left false xs cs hx h = h

pair_left : (ms : List Member) (place close : ℕ) (cs : List BidiClass) → AllTrue is_lettered cs
    → AllTrue is_lettered (with_pair LeftToRight LeftToRight ms place close cs)
pair_left ms place close cs h =
    let between = take (close - (place + 1)) (drop (place + 1) cs) in
    let here = has_direction LeftToRight between in
    let there = has_directed between in
    within_left (nat_lt place close && nat_lt close (length cs))
    (with_brackets (if here then Some LeftToRight else if there then Some LeftToRight else None) ms place close cs) cs
    (brackets_left here there ms place close cs h) h

directed_same : (c : BidiClass) → is_lettered c ≡ true → directed_then LeftToRight c ≡ LeftToRight
directed_same RightToLeft h = cc
directed_same EuropeanNumber h = cc
directed_same ArabicNumber h = cc
directed_same _ h = refl

n0_left : (ms : List Member) (place : ℕ) (closes : List ℕ) (cs : List BidiClass) → AllTrue is_lettered cs
    → AllTrue is_lettered (n0_from LeftToRight ms place LeftToRight closes cs)
n0_left ms place [] cs h = h
n0_left ms place (close ∷ closes) cs h =
    let new = with_pair LeftToRight LeftToRight ms place close cs in
    let hn = pair_left ms place close cs h in
    subst (λ s. AllTrue is_lettered (n0_from LeftToRight ms (place + 1) s closes new))
    (sym (directed_same (next_class (drop place new)) (next_left (drop place new) (drop_left place new hn))))
    (n0_left ms (place + 1) closes new hn)

-- ---- N1 and N2

n1_one : (after c : BidiClass) → is_lettered c ≡ true → is_letter (n1_class LeftToRight LeftToRight after c) ≡ true
n1_one after ParagraphSeparator h = either is_letter _ LeftToRight LeftToRight refl refl
n1_one after SegmentSeparator h = either is_letter _ LeftToRight LeftToRight refl refl
n1_one after WhiteSpace h = either is_letter _ LeftToRight LeftToRight refl refl
n1_one after OtherNeutral h = either is_letter _ LeftToRight LeftToRight refl refl
n1_one after LeftToRight h = refl
n1_one after _ h = cc

direction_same : (c : BidiClass) → is_lettered c ≡ true → direction_then LeftToRight c ≡ LeftToRight
direction_same LeftToRight h = refl
direction_same ParagraphSeparator h = refl
direction_same SegmentSeparator h = refl
direction_same WhiteSpace h = refl
direction_same OtherNeutral h = refl
direction_same _ h = cc

neutral_left : (eos : BidiClass) (cs : List BidiClass) → AllTrue is_lettered cs → AllTrue is_letter (neutral LeftToRight eos LeftToRight cs)
neutral_left eos [] h = tt
neutral_left eos (c ∷ cs) h = (
  n1_one (direction_after eos cs) c h.0,
  subst (λ s. AllTrue is_letter (neutral LeftToRight eos s cs)) (sym (direction_same c h.0)) (neutral_left eos cs h.1),
)

-- ---- a whole sequence, and I1

pub resolved_left : (eos : BidiClass) (ms : List Member) (cs : List BidiClass) → AllTrue is_kept cs
    → AllTrue is_letter (neutral LeftToRight eos LeftToRight (n0 LeftToRight LeftToRight ms (weak LeftToRight cs)))
resolved_left eos ms cs h =
    neutral_left eos _ (n0_left ms 0 (closes_of ms (weak LeftToRight cs)) (weak LeftToRight cs) (weak_left cs h))

pub letter_level : (c : BidiClass) → is_letter c ≡ true → implicit_level 0 c ≡ 0
letter_level LeftToRight h = refl
letter_level _ h = cc
