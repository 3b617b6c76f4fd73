-- Units and verdicts, one more unit on.
use Rattle.std.proofs.Common.{◌≡◌, ℕ, zero, suc, ◌+◌, ◌<◌, ◌≤◌, ◌==◌, true, false, List, [], ◌∷◌, ◌++◌, length, get_or, take, drop, reverse, refl, ap, ap₂, sym, ◌∙◌, arith, append_assoc}
use Rattle.std.proofs.lemmas.Bool.{cond-true, cond-false}
use Rattle.std.proofs.lemmas.List.{take_more, drop_more, get_or-drop, reverse-append, length-reverse, length-take-le}
use Rattle.ucd_breaks.specs.declared.LineBreak.TheVariants.{Ambiguous, Space}
use Rattle.line_breaks.specs.Around.{before_of, letter_at}
use Rattle.line_breaks.specs.Breaks.{verdict_between, verdicts_of, verdict_number, offsets_of, spaces_of}
use Rattle.line_breaks.specs.Letters.{is, edge}
use Rattle.line_breaks.specs.Rules.{verdict_of}
use Rattle.line_breaks.specs.declared.letters.Letter.{Letter}
use Rattle.line_breaks.specs.declared.rules.Around.{Around}
use Rattle.line_breaks.specs.declared.rules.Before.{Before}
use Rattle.line_breaks.specs.declared.rules.Verdict.{Verdict}
use Rattle.line_breaks.specs.declared.units.Unit.{Unit}

-- what is read past the end of a list
abbrev pub no_unit : Unit
no_unit = record {
  offset = 0;
  letter = record { class = Ambiguous; opens = false; closes = false; wide = false; reserved = false; circle = false };
  after_joiner = false;
}

pub letter-get : (us : List Unit) (k : ℕ) (d : Unit) → k < length us → (get_or us k d).letter ≡ letter_at us k
letter-get [] k d lt = absurd (omega arith)
letter-get (u ∷ us) zero d lt = refl
letter-get (u ∷ us) (suc k) d lt = letter-get us k d (omega arith)

pub letter-past : (us : List Unit) (k : ℕ) → length us ≤ k → edge ≡ letter_at us k
letter-past [] k le = refl
letter-past (u ∷ us) zero le = absurd (omega arith)
letter-past (u ∷ us) (suc k) le = letter-past us k (omega arith)

pub letter-drop : (us : List Unit) (n k : ℕ) → letter_at (drop n us) k ≡ letter_at us (n + k)
letter-drop us zero k = let e : zero + k ≡ k = omega arith in rw e refl
letter-drop [] (suc n) k = refl
letter-drop (u ∷ us) (suc n) k = let e : suc n + k ≡ suc (n + k) = omega arith in rw e (letter-drop us n k)

pub reverse-more : (us : List Unit) (n : ℕ) (d : Unit) → n < length us → reverse (take (n + 1) us) ≡ get_or us n d ∷ reverse (take n us)
reverse-more us n d lt = ap reverse (take_more us n d lt) ∙ reverse-append (take n us) (get_or us n d ∷ [])

-- the verdicts, one on
pub verdicts_step : (us : List Unit) (n : ℕ) (d : Unit) (v : Verdict) (done : List Verdict) → n < length us
    → v ≡ verdict_between (reverse (take n us)) (get_or us n d) (drop (n + 1) us)
    → (done ++ v ∷ []) ++ verdicts_of (reverse (take (n + 1) us)) (drop (n + 1) us) ≡ done ++ verdicts_of (reverse (take n us)) (drop n us)
verdicts_step us n d v done lt said =
    append_assoc done (v ∷ []) (verdicts_of (reverse (take (n + 1) us)) (drop (n + 1) us))
    ∙ ap (λ l. done ++ (v ∷ verdicts_of l (drop (n + 1) us))) (reverse-more us n d lt)
    ∙ ap (λ w. done ++ (w ∷ verdicts_of (get_or us n d ∷ reverse (take n us)) (drop (n + 1) us))) said
    ∙ ap (λ l. done ++ verdicts_of (reverse (take n us)) l) (sym (drop_more us n d lt))

pub length-done : (us : List Unit) (n : ℕ) → n ≤ length us → length (reverse (take n us)) ≡ n
length-done us n le = length-reverse (take n us) ∙ length-take-le n us le

pub length-verdicts : (before us : List Unit) → length (verdicts_of before us) ≡ length us
length-verdicts before [] = refl
length-verdicts before (u ∷ us) = ap suc (length-verdicts (u ∷ before) us)

-- the offsets, one on: with one more, or as they were
module _ (wanted : Verdict) (us : List Unit) (vs : List Verdict) (n : ℕ) (d : Unit) (e : Verdict) (done : List ℕ) (lt : n < length us)
    (lt' : n < length vs) where
  at : offsets_of wanted (drop n us) (drop n vs) ≡ offsets_of wanted (get_or us n d ∷ drop (n + 1) us) (get_or vs n e ∷ drop (n + 1) vs)
  at = ap₂ (offsets_of wanted) (drop_more us n d lt) (drop_more vs n e lt')

  pub offsets_one : (verdict_number (get_or vs n e) == verdict_number wanted) ≡ true
      → (done ++ (get_or us n d).offset ∷ []) ++ offsets_of wanted (drop (n + 1) us) (drop (n + 1) vs) ≡ done ++ offsets_of wanted (drop n us) (drop n vs)
  offsets_one test =
      append_assoc done ((get_or us n d).offset ∷ []) (offsets_of wanted (drop (n + 1) us) (drop (n + 1) vs))
      ∙ ap (λ l. done ++ l) (sym (at ∙ cond-true (verdict_number (get_or vs n e) == verdict_number wanted) _ _ test))

  pub offsets_none : (verdict_number (get_or vs n e) == verdict_number wanted) ≡ false
      → done ++ offsets_of wanted (drop (n + 1) us) (drop (n + 1) vs) ≡ done ++ offsets_of wanted (drop n us) (drop n vs)
  offsets_none test = ap (λ l. done ++ l) (sym (at ∙ cond-false (verdict_number (get_or vs n e) == verdict_number wanted) _ _ test))

module _ (us : List Unit) (n : ℕ) (d : Unit) (done : List ℕ) (lt : n < length us) where
  pub spaces_one : is (get_or us n d).letter Space ≡ true → (done ++ (get_or us n d).offset ∷ []) ++ spaces_of (drop (n + 1) us) ≡ done ++ spaces_of (drop n us)
  spaces_one test =
      append_assoc done ((get_or us n d).offset ∷ []) (spaces_of (drop (n + 1) us))
      ∙ ap (λ l. done ++ l) (sym (ap spaces_of (drop_more us n d lt) ∙ cond-true (is (get_or us n d).letter Space) _ _ test))

  pub spaces_none : is (get_or us n d).letter Space ≡ false → done ++ spaces_of (drop (n + 1) us) ≡ done ++ spaces_of (drop n us)
  spaces_none test = ap (λ l. done ++ l) (sym (ap spaces_of (drop_more us n d lt) ∙ cond-false (is (get_or us n d).letter Space) _ _ test))

-- ---- the verdict of a place past the first unit

abbrev pub around : Before → Unit → Letter → Letter → Around
around before unit next third = record { before = before; joined = unit.after_joiner; after = unit.letter; next = next; third = third }

pub verdict_step : (us done rest : List Unit) (u d : Unit) (place : ℕ) (b : Before) (next third : Letter) → (place ≡ 0 → ⊥) → b ≡ before_of done
    → length done ≡ place → drop place us ≡ u ∷ rest → next ≡ letter_at us (place + 1) → third ≡ letter_at us (place + 2)
    → verdict_of (around b (get_or us place d) next third) ≡ verdict_between done u rest
verdict_step us [] rest u d place b next third some is_before long drops is_next is_third = absurd (some (sym long))
verdict_step us (x ∷ xs) rest u d place b next third some is_before long drops is_next is_third =
    let none : place + 0 ≡ place = omega arith in
    let at : get_or us place d ≡ u = sym (get_or-drop place us 0 d ∙ ap (λ k. get_or us k d) none) ∙ ap (λ l. get_or l 0 d) drops in
    let one : next ≡ letter_at rest 0 = is_next ∙ sym (letter-drop us place 1) ∙ ap (λ l. letter_at l 1) drops in
    let two : third ≡ letter_at rest 1 = is_third ∙ sym (letter-drop us place 2) ∙ ap (λ l. letter_at l 2) drops in
    ap₂ (λ v w. verdict_of (around v w next third)) is_before at ∙ ap₂ (λ v w. verdict_of (around (before_of (x ∷ xs)) u v w)) one two
