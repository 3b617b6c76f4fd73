-- a search by midpoints, by what is read at the middle place of those left
use Rattle.std.proofs.Common.{◌≡◌, ℕ, List, ◌<◌, ◌≤◌, ◌+◌, ◌-◌, ◌*◌, ◌/◌, length, true, false, Option, Some, None, nat_lt, refl, sym, ap, ◌∙◌, arith}
use Rattle.std.proofs.lemmas.Bool.Decides.{nat_tests}
use Rattle.std.specs.declared.cmp.Ordering.TheVariants.{Less, Equal, Greater}
use Rattle.shape_font.specs.Bytes.{u16_of, fitting}
use Rattle.shape_font.specs.Search.{side_of, found_in}
use Rattle.shape_font.proofs.MidpointLemmas.{found_in-none, step_less, step_equal, step_greater}

-- where a number stands to a range
pub side_less : (n first last : ℕ) → n < first → side_of n first last ≡ Less
side_less n first last h = let t : nat_lt n first ≡ true = grind (arith, nat_tests) in rw t refl

pub side_greater : (n first last : ℕ) → first ≤ n → last < n → side_of n first last ≡ Greater
side_greater n first last h k =
    let t : nat_lt n first ≡ false = grind (arith, nat_tests) in
    let u : nat_lt last n ≡ true = grind (arith, nat_tests) in
    rw t (rw u refl)

pub side_equal : (n first last : ℕ) → first ≤ n → n ≤ last → side_of n first last ≡ Equal
side_equal n first last h k =
    let t : nat_lt n first ≡ false = grind (arith, nat_tests) in
    let u : nat_lt last n ≡ false = grind (arith, nat_tests) in
    rw t (rw u refl)

-- of the places from `from` to `end`, counted from 1, by their middle: the first half is left, or the second, or the middle is
-- found
pub before : (first last : ℕ → ℕ) (n from end middle : ℕ) (sought : Option ℕ) → 0 < from → from ≤ end
    → middle ≡ from + (end - from) / 2 → n < first (middle - 1)
    → found_in (λ i. side_of n (first i) (last i)) (end - (from - 1)) (from - 1) end ≡ sought
    → found_in (λ i. side_of n (first i) (last i)) (middle - 1 - (from - 1)) (from - 1) (middle - 1) ≡ sought
before first last n from end middle sought one some at h is =
    let more : from - 1 < end = omega (arith, one, some) in
    let there : middle - 1 ≡ from - 1 + (end - (from - 1) - 1) / 2 = omega (arith, one, some, at) in
    sym (step_less (λ i. side_of n (first i) (last i)) (from - 1) end (middle - 1) more there
    (side_less n (first (middle - 1)) (last (middle - 1)) h)) ∙ is

pub behind : (first last : ℕ → ℕ) (n from end middle : ℕ) (sought : Option ℕ) → 0 < from → from ≤ end
    → middle ≡ from + (end - from) / 2 → first (middle - 1) ≤ n → last (middle - 1) < n
    → found_in (λ i. side_of n (first i) (last i)) (end - (from - 1)) (from - 1) end ≡ sought
    → found_in (λ i. side_of n (first i) (last i)) (end - (middle + 1 - 1)) (middle + 1 - 1) end ≡ sought
behind first last n from end middle sought one some at h k is =
    let more : from - 1 < end = omega (arith, one, some) in
    let there : middle - 1 ≡ from - 1 + (end - (from - 1) - 1) / 2 = omega (arith, one, some, at) in
    let next : middle + 1 - 1 ≡ middle - 1 + 1 = omega (arith, one, at) in
    ap (λ m. found_in (λ i. side_of n (first i) (last i)) (end - m) m end) next
    ∙ sym (step_greater (λ i. side_of n (first i) (last i)) (from - 1) end (middle - 1) more there
    (side_greater n (first (middle - 1)) (last (middle - 1)) h k)) ∙ is

pub there : (first last : ℕ → ℕ) (n from end middle : ℕ) (sought : Option ℕ) → 0 < from → from ≤ end
    → middle ≡ from + (end - from) / 2 → first (middle - 1) ≤ n → n ≤ last (middle - 1)
    → found_in (λ i. side_of n (first i) (last i)) (end - (from - 1)) (from - 1) end ≡ sought → Some (middle - 1) ≡ sought
there first last n from end middle sought one some at h k is =
    let more : from - 1 < end = omega (arith, one, some) in
    let there : middle - 1 ≡ from - 1 + (end - (from - 1) - 1) / 2 = omega (arith, one, some, at) in
    sym (step_equal (λ i. side_of n (first i) (last i)) (from - 1) end (middle - 1) more there
    (side_equal n (first (middle - 1)) (last (middle - 1)) h k)) ∙ is

pub nowhere : (first last : ℕ → ℕ) (n from end : ℕ) (sought : Option ℕ) → end < from
    → found_in (λ i. side_of n (first i) (last i)) (end - (from - 1)) (from - 1) end ≡ sought → None ≡ sought
nowhere first last n from end sought none is =
    let over : end ≤ from - 1 = omega (arith, none) in
    sym (found_in-none (λ i. side_of n (first i) (last i)) (end - (from - 1)) (from - 1) end over) ∙ is

-- ---- places counted from 1

pub glyph_from_one : (t : List ℕ) (start i : ℕ) → 0 < i → u16_of t (start + 2 + 2 * i) ≡ u16_of t (start + 4 + 2 * (i - 1))
glyph_from_one t start i one =
    let e : start + 2 + 2 * i ≡ start + 4 + 2 * (i - 1) = omega (arith, one) in
    ap (u16_of t) e

pub first_from_one : (t : List ℕ) (start i : ℕ) → 0 < i → u16_of t (start + 6 * i - 2) ≡ u16_of t (start + 4 + 6 * (i - 1))
first_from_one t start i one =
    let e : start + 6 * i - 2 ≡ start + 4 + 6 * (i - 1) = omega (arith, one) in
    ap (u16_of t) e

pub last_from_one : (t : List ℕ) (start i : ℕ) → 0 < i → u16_of t (start + 6 * i) ≡ u16_of t (start + 4 + 6 * (i - 1) + 2)
last_from_one t start i one =
    let e : start + 6 * i ≡ start + 4 + 6 * (i - 1) + 2 = omega (arith, one) in
    ap (u16_of t) e

-- ---- counts that the table has room for

pub glyphs_fit : (t : List ℕ) (said start : ℕ) → start + 4 + 2 * said ≤ length t → said ≡ fitting t said (start + 4) 2
glyphs_fit t said start h =
    let room : said ≤ (length t - (start + 4)) / 2 = omega (arith, h) in
    grind (arith, nat_tests, room)

pub ranges_fit : (t : List ℕ) (said start : ℕ) → start + 4 + 6 * said ≤ length t → said ≡ fitting t said (start + 4) 6
ranges_fit t said start h =
    let room : said ≤ (length t - (start + 4)) / 6 = omega (arith, h) in
    grind (arith, nat_tests, room)
