-- The split falls along the height: U+17C1 is below the five vowels, and they are below all others, so that splitting ends.
use Rattle.std.specs.Prelude.{◌≡◌, ℕ, ◌+◌, ◌<◌, ◌≤◌, ◌==◌, Bool, true, false, if◌then◌else◌, Some, None}
use Rattle.std.proofs.Common.{ap, subst, arith}
use Rattle.canonical_form.specs.Chain.{FallsAlong}
use Rattle.shape_common.specs.Unicode.{UnicodeMeaning, LawfulUnicode}
use Rattle.khmer_shaper.specs.Splitting.{is_split, split, height}

height-le : (unicode : UnicodeMeaning) (a : ℕ) → height unicode a ≤ unicode.height a + 2
height-le unicode a = by (is_split a) (a == 0x17C1)
  where
    by : (s t : Bool) → (if s then 1 else if t then 0 else unicode.height a + 2) ≤ unicode.height a + 2
    by true t = omega arith
    by false true = omega arith
    by false false = omega arith

falls-by : (unicode : UnicodeMeaning) → LawfulUnicode unicode → (c a b : ℕ) (s t : Bool)
    → (if s then Some (0x17C1, c) else if t then None else unicode.split c) ≡ Some (a, b)
    → height unicode a < (if s then 1 else if t then 0 else unicode.height c + 2)
falls-by unicode lawful c a b true t e =
    let pair : ◌≡◌ {A = ℕ × ℕ} (0x17C1, c) (a, b) = cc in
    let same : 0x17C1 ≡ a = ap (λ (p : ℕ × ℕ). p.0) pair in
    let low : height unicode 0x17C1 < 1 = omega arith in
    subst (λ x. height unicode x < 1) same low
falls-by unicode lawful c a b false true e = absurd (cc)
falls-by unicode lawful c a b false false e =
    let less = lawful.splits_fall.height_falls.falls c a b e in
    let most = height-le unicode a in
    omega (arith, less, most)

pub split-falls : (unicode : UnicodeMeaning) → LawfulUnicode unicode → FallsAlong (split unicode) (height unicode)
split-falls unicode lawful = record { falls = λ c a b e. falls-by unicode lawful c a b (is_split c) (c == 0x17C1) e }
