-- what is at the default instance
use Prim.Native.Nat.{zero}
use Rattle.std.proofs.Common.{◌≡◌, ℕ, suc, ℤ, pos, negsuc, ◌<◌, ◌≤◌, ◌+◌, ◌*◌, ◌/◌, ◌%◌, ◌^◌, ◌≤ℤ◌, ◌-ℤ◌, Bool, true, false, cond, List, [], Some, None, length, drop, refl, sym, ap, subst, ◌∙◌, arith}
use Rattle.std.specs.Prelude.{◌≢◌, ◌&&◌, ◌||◌, T, nat_lt, nat_le, slice_index}
use Rattle.std.specs.Option.{unwrap_or}
use Rattle.std.specs.Ordering.{int_eq}
use Rattle.std.specs.Float.{Float, binary32, nan, inf, fin, round_with}
use Rattle.std.proofs.lemmas.Bool.Decides.{nat_tests}
use Rattle.std.proofs.lemmas.Int.{ints}
use Rattle.std.proofs.lemmas.List.{get_or_past}
use Rattle.std.proofs.lemmas.List.Elements.{All-drop}
use lib.Count.{count_trailing_zeros}
use lib.Ieee.{unlike, up, down, low, prec, round, size, span, climb, units, odd, of_int, mul, add, sum, le, lt, eq, of_bits, of_fields, to_signed}
use lib.Ieee.Exact.{HasValue, units_val}
use lib.Ieee.Fits.{down_pos, round_is}
use lib.Ieee.Order.{drop as dropped, kept, round_mono}
use lib.Ieee.Scale.{finite, grid, overflow, round_same, round_under}
use mathlib.Core.Bool.{true≢false}
use native.Mathlib.Nat.{mul-pos}
use Rattle.font_bytes.specs.Bytes.{u16_of, u32_of, i8_of, i16_of, i32_of}
use Rattle.font_variations.specs.Deltas.{column_count, data_at, delta_in, delta_of, has_data, are_rows, has_long_words, part_of, row_at, row_delta, row_steps, rounded, sum_from, sum_of, wide_count}
use Rattle.font_variations.specs.IndexMaps.{mapped}
use Rattle.font_variations.specs.Laws.{AreBytes, AreDefault, IsElsewhere, IsGlyphElsewhere, AxesAtDefault, RegionsAtDefault, DeltasAtDefault, FewDeltasAtDefault, AdvancesAtDefault, BearingsAtDefault, OriginsAtDefault}
use Rattle.font_variations.specs.Metrics.{has_metrics, metric_delta}
use Rattle.font_variations.specs.Parts.{part_at}
use Rattle.font_variations.specs.declared.metrics.TheConstants.{MOST_ROW_STEPS}
use Rattle.font_variations.specs.Regions.{axis_scalar, coordinate_of, is_whole, product_from, region_at, region_scalar}
use Rattle.font_variations.specs.Tents.{nothing, whole, tent}
use Rattle.font_variations.proofs.PartLemmas.{byte_small, u16_small}

-- ---- axes

equal_to_zero : (n : ℤ) → int_eq (pos 0) n ≡ int_eq n (pos 0)
equal_to_zero (pos n) = grind (arith, nat_tests)
equal_to_zero (negsuc n) = refl

or_same : (x y : Bool) → y ≡ x → (x || y) ≡ x
or_same true y e = refl
or_same false y e = e

pub axes_at_default : AxesAtDefault
unfolding tent
axes_at_default start peak end = rw (or_same (int_eq peak (pos 0)) (int_eq (pos 0) peak) (equal_to_zero peak)) refl

-- a product in which one scalar is 0

another : (p : ℕ → Float) (i k : ℕ) → eq (p k) nothing ≡ true → eq (p i) nothing ≡ false → i ≢ k
another p i k h t e = true≢false (sym h ∙ ap (λ (j : ℕ). eq (p j) nothing) (sym e) ∙ t)

later : (i k : ℕ) → i ≤ k → i ≢ k → suc i ≤ k
later i k l d = omega (arith, l, d)

pub product_with_none : (p : ℕ → Float) (n i k : ℕ) (x : Float) → i ≤ k → k < i + n → eq (p k) nothing ≡ true → product_from p n i x ≡ nothing
product_with_none p zero i k x from_i before h = absurd (omega (arith, from_i, before))
product_with_none p (suc n) i k x from_i before h =
    let P : Bool → Type 0 = λ t. eq (p i) nothing ≡ t → cond t nothing (product_from p n (suc i) (mul binary32 x (p i))) ≡ nothing in
    let cases : P (eq (p i) nothing) = elim (eq (p i) nothing) as P [
      | true ↦ λ t. refl
      | false ↦ λ t. product_with_none p n (suc i) k (mul binary32 x (p i)) (later i k from_i (another p i k h t)) (omega (arith, before)) h
    ] in
    cases refl

nothing_is_none : eq nothing nothing ≡ true
unfolding eq of_bits of_fields odd count_trailing_zeros
nothing_is_none = refl

not_zero_test : (n : ℤ) → n ≢ pos 0 → int_eq n (pos 0) ≡ false
not_zero_test (pos zero) h = absurd (h refl)
not_zero_test (pos (suc n)) h = grind (arith, nat_tests)
not_zero_test (negsuc n) h = refl

pub default_coordinate : (coordinates : List ℤ) (axis : ℕ) → AreDefault coordinates → coordinate_of coordinates axis ≡ pos 0
default_coordinate coordinates axis default = tested (nat_lt axis (length coordinates)) refl
  where
    tested : (b : Bool) → nat_lt axis (length coordinates) ≡ b → coordinate_of coordinates axis ≡ pos 0
    tested true h = default axis (pos 0) (grind (arith, nat_tests))
    tested false h =
        let past : length coordinates ≤ axis = grind (arith, nat_tests) in
        get_or_past coordinates axis (pos 0) past

pub regions_at_default : RegionsAtDefault
unfolding region_scalar axis_scalar
regions_at_default t list region coordinates default h =
    let at = region_at t list region in
    let p : ℕ → Float = axis_scalar t coordinates at in
    let start = i16_of t (at + 6 * h.axis) in
    let peak = i16_of t (at + 6 * h.axis + 2) in
    let end = i16_of t (at + 6 * h.axis + 4) in
    let there : p h.axis ≡ nothing =
    ap (tent start peak end) (default_coordinate coordinates h.axis default)
    ∙ axes_at_default start peak end ∙ ap (λ b. cond b whole nothing) (not_zero_test peak h.elsewhere) in
    let none : eq (p h.axis) nothing ≡ true = ap (λ x. eq x nothing) there ∙ nothing_is_none in
    rw (product_with_none p (u16_of t list) 0 h.axis whole (omega arith) (omega (arith, h.within)) none) (same (is_whole t list && nat_lt region (u16_of t (list + 2))))
  where
    same : (b : Bool) → cond b nothing nothing ≡ nothing
    same true = refl
    same false = refl

-- ---- integers of 32 bits are finite

nought_over_one : (s : Bool) → round binary32 s 0 1 ≡ fin s 0 (pos 0)
unfolding round size span climb units odd count_trailing_zeros
nought_over_one true = refl
nought_over_one false = refl

most_over_one : round binary32 false (2 ^ 32) 1 ≡ fin false 1 (pos 32)
unfolding round size span climb units odd count_trailing_zeros
most_over_one = refl

between_ends : (x : Float) → T (le (fin false 0 (pos 0)) x) → T (le x (fin false 1 (pos 32))) → T (finite x)
unfolding le lt eq
between_ends nan a b = absurd b
between_ends (inf true) a b = absurd a
between_ends (inf false) a b = absurd b
between_ends (fin s m e) a b = tt

few_units : (n : ℕ) → n ≤ 2 ^ 32 → grid binary32 n 1 < overflow binary32
few_units n h =
    let x = round binary32 false n 1 in
    let low_side : T (le (fin false 0 (pos 0)) x)
    = subst (λ (z : Float). T (le z x)) (nought_over_one false) (round_mono binary32 0 1 n 1 (omega arith) (omega arith) (omega arith)) in
    let high_side : T (le x (fin false 1 (pos 32)))
    = subst (λ (z : Float). T (le x z)) most_over_one (round_mono binary32 n 1 (2 ^ 32) 1 (omega arith) (omega arith) (omega (arith, h))) in
    round_under binary32 n 1 (between_ends x low_side high_side)

valued : (x : Float) (s : Bool) (a c : ℕ) → HasValue x s a c → T (finite x)
valued nan s a c v = absurd v
valued (inf t) s a c v = absurd v
valued (fin t m e) s a c v = tt

round_finite : (s : Bool) (n : ℕ) → n ≤ 2 ^ 32 → T (finite (round binary32 s n 1))
round_finite s n h = subst (λ (z : Float). T (finite z)) (sym (round_is binary32 s n 1))
    (valued _ s (grid binary32 n 1) (2 ^ low binary32)
    (units_val binary32 s (kept (prec binary32) (n * 2 ^ low binary32) 1) (dropped (prec binary32) (n * 2 ^ low binary32) 1) (few_units n h)))

pub int_finite : (n : ℤ) → negsuc 4294967295 ≤ℤ n → n ≤ℤ pos 4294967296 → T (finite (of_int binary32 n))
unfolding of_int
int_finite (pos n) low high = round_finite false n (omega (arith, ints, high))
int_finite (negsuc n) low high = round_finite true (suc n) (omega (arith, ints, low))

-- ---- nothing times a number is 0 with either sign, and nothing more than nothing

pub data IsZero : Float → Type 0 where
  zero_of : (s : Bool) → IsZero (fin s 0 (pos 0))

nought_over : (s : Bool) (a c : ℕ) → a ≡ 0 → 0 < c → round binary32 s a c ≡ fin s 0 (pos 0)
nought_over s a c e h = round_same binary32 s a c 0 1 h (omega arith) (omega (arith, e)) ∙ nought_over_one s

nothing_times : (x : Float) → T (finite x) → IsZero (mul binary32 nothing x)
unfolding mul of_bits of_fields odd count_trailing_zeros
nothing_times nan h = absurd h
nothing_times (inf s) h = absurd h
nothing_times (fin s m e) h =
    let c : 0 < 1 * down e = mul-pos (omega arith) (down_pos e) in
    subst IsZero (sym (nought_over (unlike false s) (0 * 1 * (m * up e)) (1 * down e) (omega arith) c)) (zero_of (unlike false s))

nothing_and : (x : Float) → IsZero x → add binary32 nothing x ≡ nothing
unfolding add sum round size span climb units odd count_trailing_zeros of_bits of_fields
nothing_and _ (zero_of true) = refl
nothing_and _ (zero_of false) = refl

pub sum_of_nothing : (p : ℕ → Float) (n i : ℕ) (x : Float) → x ≡ nothing → ((k : ℕ) → i ≤ k → k < i + n → IsZero (p k)) → sum_from p n i x ≡ nothing
sum_of_nothing p zero i x e each = e
sum_of_nothing p (suc n) i x e each = sum_of_nothing p n (suc i) (add binary32 x (p i))
    (ap (λ (y : Float). add binary32 y (p i)) e ∙ nothing_and (p i) (each i (omega arith) (omega arith)))
    (λ k a b. each k (omega (arith, a)) (omega (arith, b)))

-- ---- numbers of a row have 32 bits at most

abbrev Small : ℤ → Type 0
Small n = (negsuc 4294967295 ≤ℤ n) × (n ≤ℤ pos 4294967296)

less_some : (n m : ℕ) (b : Bool) → n ≤ 4294967296 → m ≤ 4294967296 → Small (cond b (pos n) (pos n -ℤ pos m))
less_some n m true h k = (omega (arith, ints), omega (arith, ints, h))
less_some n m false h k = (omega (arith, ints, k), omega (arith, ints, h))

byte_signed : (t : List ℕ) (at : ℕ) → AreBytes t → Small (i8_of t at)
unfolding i8_of
byte_signed t at bytes =
    let few = byte_small t at bytes in
    less_some (slice_index t at) 256 (nat_lt (slice_index t at) 128) (omega (arith, few)) (omega arith)

word_signed : (t : List ℕ) (at : ℕ) → AreBytes t → Small (i16_of t at)
unfolding i16_of
word_signed t at bytes =
    let few = u16_small t at bytes in
    less_some (u16_of t at) 65536 (nat_lt (u16_of t at) 32768) (omega (arith, few)) (omega arith)

long_signed : (t : List ℕ) (at : ℕ) → AreBytes t → Small (i32_of t at)
unfolding i32_of
long_signed t at bytes =
    let upper = u16_small t at bytes in
    let lower = u16_small t (at + 2) bytes in
    less_some (u32_of t at) 4294967296 (nat_lt (u32_of t at) 2147483648) (omega (arith, upper, lower)) (omega arith)

delta_small : (t : List ℕ) (long : Bool) (wide start column : ℕ) → AreBytes t → Small (delta_in t long wide start column)
unfolding delta_in
delta_small t true wide start column bytes =
    elim (nat_lt column wide) as (λ b. Small (cond b (i32_of t (start + 2 * 2 * column)) (i16_of t (start + 2 * (wide + column))))) [
      | true ↦ long_signed t (start + 2 * 2 * column) bytes
      | false ↦ word_signed t (start + 2 * (wide + column)) bytes
    ]
delta_small t false wide start column bytes =
    elim (nat_lt column wide) as (λ b. Small (cond b (i16_of t (start + 2 * 1 * column)) (i8_of t (start + 1 * (wide + column))))) [
      | true ↦ word_signed t (start + 2 * 1 * column) bytes
      | false ↦ byte_signed t (start + 1 * (wide + column)) bytes
    ]

-- ---- delta sets, and what is added to metrics

chosen : {A : Type 0} (b : Bool) (x y : A) → x ≡ y → cond b x y ≡ y
chosen true x y e = e
chosen false x y e = refl

part_is_zero : (t : List ℕ) (coordinates : List ℤ) (at start column : ℕ) → AreBytes t → AreDefault coordinates
    → IsElsewhere t (u32_of t 2) (u16_of t (at + 6 + 2 * column)) → IsZero (part_of t coordinates at start column)
unfolding part_of
part_is_zero t coordinates at start column bytes default h =
    let d = delta_in t (has_long_words t at) (wide_count t at) start column in
    let few = delta_small t (has_long_words t at) (wide_count t at) start column bytes in
    let none = regions_at_default t (u32_of t 2) (u16_of t (at + 6 + 2 * column)) coordinates default h in
    subst (λ (x : Float). IsZero (mul binary32 x (of_int binary32 d))) (sym none) (nothing_times (of_int binary32 d) (int_finite d few.0 few.1))

chosen_where : {A : Type 0} (b : Bool) (x y : A) → (b ≡ true → x ≡ y) → cond b x y ≡ y
chosen_where true x y e = e refl
chosen_where false x y e = refl

pub deltas_at_default : DeltasAtDefault
unfolding delta_of
deltas_at_default t index coordinates bytes default elsewhere =
    let at = data_at t (index / 65536) in
    let row = index % 65536 in
    let start = row_at t at row in
    chosen_where (has_data t (index / 65536)) (row_delta t coordinates at row) nothing
    (λ there. chosen (nat_lt row (u16_of t at) && are_rows t at) (sum_of t coordinates at start (column_count t at)) nothing
    (sum_of_nothing (part_of t coordinates at start) (column_count t at) 0 nothing refl
    (λ k from_first before. part_is_zero t coordinates at start k bytes default (elsewhere there k (omega (arith, before))))))

pub few_deltas_at_default : FewDeltasAtDefault
few_deltas_at_default most t index coordinates bytes default elsewhere =
    chosen (nat_le (row_steps t index) most) (delta_of t coordinates index) nothing (deltas_at_default t index coordinates bytes default elsewhere)

no_bytes : AreBytes []
no_bytes k d h = absurd (omega (arith, h))

part_bytes : (t : List ℕ) (offset : ℕ) → AreBytes t → AreBytes (part_at t offset)
part_bytes t offset bytes = tested (nat_lt 0 offset) (nat_le offset (length t))
  where
    tested : (a b : Bool) → AreBytes (cond a (cond b (drop offset t) []) [])
    tested true true = All-drop (λ n. n < 256) offset t bytes
    tested true false = no_bytes
    tested false b = no_bytes

rounded_nothing : rounded nothing ≡ pos 0
unfolding rounded round_with add sum round size span climb units odd count_trailing_zeros of_bits of_fields to_signed
rounded_nothing = refl

metric_at_default : (t : List ℕ) (at glyph : ℕ) (coordinates : List ℤ) → AreBytes t → AreDefault coordinates → IsGlyphElsewhere t at glyph
    → metric_delta t coordinates at glyph ≡ pos 0
unfolding metric_delta
metric_at_default t at glyph coordinates bytes default h =
    let store = part_at t (u32_of t 4) in
    let index = mapped (part_at t (u32_of t at)) glyph in
    ap rounded (few_deltas_at_default MOST_ROW_STEPS store index coordinates (part_bytes t (u32_of t 4) bytes) default h) ∙ rounded_nothing

pub advances_at_default : AdvancesAtDefault
advances_at_default t glyph coordinates bytes default h =
    chosen (has_metrics t) (metric_delta t coordinates 8 glyph) (pos 0) (metric_at_default t 8 glyph coordinates bytes default h)

mapped_at_default : (b : Bool) (n : ℤ) → n ≡ pos 0 → unwrap_or (cond b (Some n) None) (pos 0) ≡ pos 0
mapped_at_default true n e = e
mapped_at_default false n e = refl

pub bearings_at_default : BearingsAtDefault
bearings_at_default t glyph coordinates bytes default h = mapped_at_default (has_metrics t && nat_lt 0 (u32_of t 12))
    (metric_delta t coordinates 12 glyph) (metric_at_default t 12 glyph coordinates bytes default h)

pub origins_at_default : OriginsAtDefault
origins_at_default t glyph coordinates bytes default h = mapped_at_default (has_metrics t && nat_lt 0 (u32_of t 20))
    (metric_delta t coordinates 20 glyph) (metric_at_default t 20 glyph coordinates bytes default h)
