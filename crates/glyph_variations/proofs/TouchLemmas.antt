-- what one step along a contour does
use Rattle.std.proofs.Common.{◌≡◌, ◌∙◌, ℕ, suc, ◌<◌, ◌+◌, ◌-◌, Bool, true, false, List, Option, Some, None, refl, sym, ap, ap₂, arith}
use Rattle.std.specs.Option.{unwrap_or}
use Rattle.glyf_points.specs.declared.simple.GlyphPoint.{GlyphPoint}
use Rattle.glyph_variations.specs.Inferred.{last_touched, first_touched, listed_at, size_of, before, after, spread_step, with_pending, inferred, place_at, neighbor}
use Rattle.glyph_variations.specs.Times.{steps}
use Rattle.glyph_variations.proofs.TimesLemmas.{steps_next}
use Rattle.glyph_variations.specs.declared.inferred.Listed.{Listed}
use Rattle.glyph_variations.specs.declared.inferred.Contour.{Contour}
use Rattle.glyph_variations.specs.declared.sums.Moving.{Moving}

pub last_here : (xs : List Listed) (start n : ℕ) → (listed_at xs (start + n)).touched ≡ true → last_touched xs start (n + 1) ≡ Some (start + n)
last_here xs start n is =
    let e : n + 1 ≡ suc n = omega arith in
    rw e (rw (is, last_touched) refl)

pub last_next : (xs : List Listed) (start n : ℕ) → (listed_at xs (start + n)).touched ≡ false
    → last_touched xs start (n + 1) ≡ last_touched xs start n
last_next xs start n is =
    let e : n + 1 ≡ suc n = omega arith in
    rw e (rw (is, last_touched) refl)

pub first_next : (xs : List Listed) (start n k : ℕ) → k < n → (listed_at xs (start + k)).touched ≡ false
    → first_touched xs (start + k) (n - k) ≡ first_touched xs (start + (k + 1)) (n - (k + 1))
first_next xs start n k h is =
    let e : n - k ≡ suc (n - (k + 1)) = omega arith in
    let s : start + k + 1 ≡ start + (k + 1) = omega arith in
    rw e (rw (is, first_touched) (rw s refl))

pub first_here : (xs : List Listed) (start n k : ℕ) → k < n → (listed_at xs (start + k)).touched ≡ true
    → first_touched xs (start + k) (n - k) ≡ Some (start + k)
first_here xs start n k h is =
    let e : n - k ≡ suc (n - (k + 1)) = omega arith in
    rw e (rw (is, first_touched) refl)

pub first_end : (xs : List Listed) (start n : ℕ) → first_touched xs start (n - n) ≡ None
first_end xs start n =
    let e : n - n ≡ 0 = omega arith in
    rw e refl

-- the touched points before and after the next point
pub before_begun : (xs : List Listed) (c : Contour) (last : ℕ) → last_touched xs c.start (size_of c) ≡ Some last → last ≡ before xs c 0
before_begun xs c last is = sym (ap (λ o. unwrap_or o 0) is)

pub after_begun : (xs : List Listed) (c : Contour) → unwrap_or (first_touched xs c.start (size_of c)) 0 ≡ after xs c 0
after_begun xs c =
    let e : c.start + 0 ≡ c.start = omega arith in
    let f : size_of c - 0 ≡ size_of c = omega arith in
    either (first_touched xs c.start (size_of c))
    ∙ ap₂ (λ i n. unwrap_or (first_touched xs i n) (unwrap_or (first_touched xs c.start (size_of c)) 0)) (sym e) (sym f)
  where
    either : (o : Option ℕ) → unwrap_or o 0 ≡ unwrap_or o (unwrap_or o 0)
    either None = refl
    either (Some i) = refl

pub before_here : (xs : List Listed) (c : Contour) (k : ℕ) → (listed_at xs (c.start + k)).touched ≡ true → c.start + k ≡ before xs c (k + 1)
before_here xs c k is = sym (ap (λ o. unwrap_or o (unwrap_or (last_touched xs c.start (size_of c)) 0)) (last_here xs c.start k is))

pub before_next : (xs : List Listed) (c : Contour) (k b : ℕ) → (listed_at xs (c.start + k)).touched ≡ false → b ≡ before xs c k
    → b ≡ before xs c (k + 1)
before_next xs c k b is there =
    there ∙ sym (ap (λ o. unwrap_or o (unwrap_or (last_touched xs c.start (size_of c)) 0)) (last_next xs c.start k is))

pub after_next : (xs : List Listed) (c : Contour) (k a : ℕ) → k < size_of c → (listed_at xs (c.start + k)).touched ≡ false → a ≡ after xs c k
    → a ≡ after xs c (k + 1)
after_next xs c k a h is there =
    there ∙ ap (λ o. unwrap_or o (unwrap_or (first_touched xs c.start (size_of c)) 0)) (first_next xs c.start (size_of c) k h is)

-- the step itself
pub spread_over : (points : List GlyphPoint) (vertical : Bool) (c : Contour) (xs : List Listed) (k : ℕ) (m first : List Moving)
    → (listed_at xs (c.start + k)).touched ≡ true → m ≡ steps (spread_step points vertical c xs) k first
    → m ≡ steps (spread_step points vertical c xs) (k + 1) first
spread_over points vertical c xs k m first is there =
    let same : spread_step points vertical c xs k m ≡ m = rw is refl in
    sym same ∙ steps_next (spread_step points vertical c xs) k first m there

pub spread_next : (points : List GlyphPoint) (vertical : Bool) (c : Contour) (xs : List Listed) (k b a : ℕ) (m first : List Moving)
    → (listed_at xs (c.start + k)).touched ≡ false → b ≡ before xs c k → a ≡ after xs c k → m ≡ steps (spread_step points vertical c xs) k first
    → with_pending m (c.start + k) (inferred (place_at points vertical (c.start + k)) (neighbor points vertical xs b) (neighbor points vertical xs a))
    ≡ steps (spread_step points vertical c xs) (k + 1) first
spread_next points vertical c xs k b a m first is from to there =
    let same : spread_step points vertical c xs k m ≡ with_pending m (c.start + k) (inferred (place_at points vertical (c.start + k))
    (neighbor points vertical xs (before xs c k)) (neighbor points vertical xs (after xs c k))) = rw is refl in
    ap₂ (λ b a. with_pending m (c.start + k) (inferred (place_at points vertical (c.start + k)) (neighbor points vertical xs b) (neighbor points vertical xs a)))
    from to ∙ sym same ∙ steps_next (spread_step points vertical c xs) k first m there
