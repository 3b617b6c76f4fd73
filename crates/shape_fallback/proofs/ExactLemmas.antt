-- If all numbers fit, the exact ones are taken.
use Rattle.std.proofs.Common.{◌≡◌, ℕ, suc, ℤ, pos, negsuc, ◌+ℤ◌, ◌-ℤ◌, ◌*ℤ◌, neg_ℤ, int_div, Bool, true, false, not, ◌&&◌, ◌||◌, ◌<◌, ◌≤◌, ◌+◌, ◌/◌, refl, ap, ◌∙◌, inl, inr, arith}
use Prim.Native.Nat.{zero}
use Rattle.std.specs.Prelude.{if◌then◌else◌, ◌==◌, ◌*◌, ◌≤ℤ◌, int_le, unsigned_abs}
use Rattle.std.specs.Int.{w32, int_wrap}
use Rattle.std.proofs.lemmas.Bool.{cases_Bool}
use Rattle.std.proofs.lemmas.Int.{ints, SFits-int_wrap, int_wrap_fits, int_wrap-add_left, int_wrap-sub_right, int_wrap-add_same}
use Rattle.std.proofs.lemmas.Nat.{div_below}
use Rattle.shape_common.specs.Wrapping.{◌+ʷ◌, ◌-ʷ◌, neg_w, +ʷ-exact, -ʷ-exact, *ʷ-exact, neg_w-exact}
use Rattle.shape_common.specs.Face.{FaceMeaning}
use Rattle.shape_items.specs.Items.{Item}
use Rattle.shape_common.specs.declared.positions.GlyphPosition.{GlyphPosition}
use Rattle.shape_fallback.specs.Exact.{Fits32, exact_x_offset, XOffsetFits, hung_at, exact_hung, piled_at, pushed_up, exact_piled, StackedFits, exact_component, ExactRound, ExactMarks, ExactSpaces}
use Rattle.shape_fallback.specs.Extents.{Extents}
use Rattle.shape_fallback.specs.MarkState.{component_of, place_of, component_extents, moved_past, moved}
use Rattle.shape_fallback.specs.Marks.{base_of, first_state, zeroed_position}
use Rattle.shape_fallback.specs.OneMark.{mark_x_offset, is_double, is_left, is_right, is_attached, agree, hung, piled, lowered, raised}
use Rattle.shape_fallback.specs.Spaces.{em_fraction, em_advance}
use Rattle.shape_fallback.specs.declared.ot_shape_fallback.mark_state.Base.{Base}
use Rattle.shape_fallback.specs.declared.ot_shape_fallback.mark_state.MarkState.{MarkState}
use Rattle.shape_fallback.specs.declared.ot_shape_fallback.marks.MarkFrame.{MarkFrame}
use Rattle.shape_fallback.specs.declared.ot_shape_fallback.one_mark.Stacked.{Stacked}

-- ---- sums of three and four: it is enough that the last one fits

-- a + b - c
sum_difference : (a b c : ℤ) → Fits32 (a +ℤ b -ℤ c) → a +ʷ b -ʷ c ≡ a +ℤ b -ℤ c
unfolding ◌+ʷ◌ ◌-ʷ◌
sum_difference a b c fits = int_wrap-add_left w32 (a +ℤ b) (neg_ℤ c) ∙ int_wrap_fits w32 _ fits

-- a - b + c
difference_sum : (a b c : ℤ) → Fits32 (a -ℤ b +ℤ c) → a -ʷ b +ʷ c ≡ a -ℤ b +ℤ c
unfolding ◌+ʷ◌ ◌-ʷ◌
difference_sum a b c fits = int_wrap-add_left w32 (a -ℤ b) c ∙ int_wrap_fits w32 _ fits

-- a + b - c - d
sum_differences : (a b c d : ℤ) → Fits32 (a +ℤ b -ℤ c -ℤ d) → a +ʷ b -ʷ c -ʷ d ≡ a +ℤ b -ℤ c -ℤ d
unfolding ◌+ʷ◌ ◌-ʷ◌
sum_differences a b c d fits =
    int_wrap-add_left w32 (int_wrap w32 (a +ℤ b) -ℤ c) (neg_ℤ d)
    ∙ int_wrap-add_same w32 (int_wrap w32 (a +ℤ b) -ℤ c) (a +ℤ b -ℤ c) (neg_ℤ d) (int_wrap-add_left w32 (a +ℤ b) (neg_ℤ c))
    ∙ int_wrap_fits w32 _ fits

-- a - b - c
difference_difference : (a b c : ℤ) → Fits32 (a -ℤ b -ℤ c) → a -ʷ b -ʷ c ≡ a -ℤ b -ℤ c
unfolding ◌-ʷ◌
difference_difference a b c fits = int_wrap-add_left w32 (a -ℤ b) (neg_ℤ c) ∙ int_wrap_fits w32 _ fits

-- a - (b + c)
difference_of_sum : (a b c : ℤ) → Fits32 (a -ℤ (b +ℤ c)) → a -ʷ (b +ʷ c) ≡ a -ℤ (b +ℤ c)
unfolding ◌+ʷ◌ ◌-ʷ◌
difference_of_sum a b c fits = int_wrap-sub_right w32 a (b +ℤ c) ∙ int_wrap_fits w32 _ fits

-- ---- one mark

pub x_offset-exact : (horizontal forward : Bool) (ccc : ℕ) (B E : Extents) → XOffsetFits horizontal forward ccc B E
    → mark_x_offset horizontal forward ccc B E ≡ exact_x_offset horizontal forward ccc B E
x_offset-exact horizontal forward ccc B E fits =
    by_side (horizontal && is_double ccc) (is_left ccc) (is_right ccc) fits.margin fits.offset
  where
    by_side : (double left right : Bool) → (not (double || left || right) ≡ true → Fits32 (B.width -ℤ E.width))
        → Fits32 (if double then B.x_bearing +ℤ (if forward then B.width else pos 0) -ℤ int_div E.width (pos 2) -ℤ E.x_bearing
        else if left then B.x_bearing -ℤ E.x_bearing
        else if right then B.x_bearing +ℤ B.width -ℤ E.width -ℤ E.x_bearing
        else B.x_bearing +ℤ int_div (B.width -ℤ E.width) (pos 2) -ℤ E.x_bearing)
        → (if double then B.x_bearing +ʷ (if forward then B.width else pos 0) -ʷ int_div E.width (pos 2) -ʷ E.x_bearing
        else if left then B.x_bearing -ʷ E.x_bearing
        else if right then B.x_bearing +ʷ B.width -ʷ E.width -ʷ E.x_bearing
        else B.x_bearing +ʷ int_div (B.width -ʷ E.width) (pos 2) -ʷ E.x_bearing)
        ≡ (if double then B.x_bearing +ℤ (if forward then B.width else pos 0) -ℤ int_div E.width (pos 2) -ℤ E.x_bearing
        else if left then B.x_bearing -ℤ E.x_bearing
        else if right then B.x_bearing +ℤ B.width -ℤ E.width -ℤ E.x_bearing
        else B.x_bearing +ℤ int_div (B.width -ℤ E.width) (pos 2) -ℤ E.x_bearing)
    by_side true left right margin offset = sum_differences B.x_bearing _ (int_div E.width (pos 2)) E.x_bearing offset
    by_side false true right margin offset = -ʷ-exact B.x_bearing E.x_bearing offset
    by_side false false true margin offset = sum_differences B.x_bearing B.width E.width E.x_bearing offset
    by_side false false false margin offset =
        ap (λ z. B.x_bearing +ʷ int_div z (pos 2) -ʷ E.x_bearing) (-ʷ-exact B.width E.width (margin refl))
        ∙ sum_difference B.x_bearing (int_div (B.width -ℤ E.width) (pos 2)) E.x_bearing offset

abbrev stack_at : ℤ → Extents → Stacked
stack_at y base = record { y_offset = y; base = base }

-- by the place below the base, and whether it is kept from moving up
abbrev hung_of : Extents → Extents → Bool → ℤ → Stacked
hung_of E B kept y =
    if kept then stack_at (pos 0) (record B { height = B.height -ʷ y +ʷ E.height })
    else stack_at y (record B { height = B.height +ʷ E.height })

abbrev exact_hung_of : Extents → Extents → Bool → ℤ → Stacked
exact_hung_of E B kept y =
    if kept then stack_at (pos 0) (record B { height = B.height -ℤ y +ℤ E.height })
    else stack_at y (record B { height = B.height +ℤ E.height })

hung_of-exact : (E B : Extents) (kept : Bool) (y : ℤ) → Fits32 (exact_hung_of E B kept y).base.height
    → hung_of E B kept y ≡ exact_hung_of E B kept y
hung_of-exact E B true y fits = ap (λ (h : ℤ). stack_at (pos 0) (record B { height = h })) (difference_sum B.height y E.height fits)
hung_of-exact E B false y fits = ap (λ (h : ℤ). stack_at y (record B { height = h })) (+ʷ-exact B.height E.height fits)

pub hung-exact : (gap : ℤ) (E B : Extents) → Fits32 (hung_at E B) → StackedFits (exact_hung gap E B) → hung gap E B ≡ exact_hung gap E B
hung-exact gap E B unmoved fits =
    ap (λ (y : ℤ). hung_of E B (agree gap y) y) (sum_difference B.y_bearing B.height E.y_bearing unmoved)
    ∙ hung_of-exact E B (agree gap (hung_at E B)) (hung_at E B) fits.height

-- by the place above the base, half of the way back, and whether it is kept
abbrev piled_of : Extents → Extents → Bool → ℤ → ℤ → Stacked
piled_of E B kept y k =
    if kept then stack_at y (record B { y_bearing = B.y_bearing -ʷ E.height; height = B.height +ʷ E.height })
    else stack_at (y +ʷ k) (record B { y_bearing = B.y_bearing +ʷ k -ʷ E.height; height = B.height -ʷ k +ʷ E.height })

abbrev exact_piled_of : Extents → Extents → Bool → ℤ → ℤ → Stacked
exact_piled_of E B kept y k =
    if kept then stack_at y (record B { y_bearing = B.y_bearing -ℤ E.height; height = B.height +ℤ E.height })
    else stack_at (y +ℤ k) (record B { y_bearing = B.y_bearing +ℤ k -ℤ E.height; height = B.height -ℤ k +ℤ E.height })

piled_of-exact : (E B : Extents) (kept : Bool) (y k : ℤ) → StackedFits (exact_piled_of E B kept y k)
    → piled_of E B kept y k ≡ exact_piled_of E B kept y k
piled_of-exact E B true y k fits =
    ap (λ (z : ℤ). stack_at y (record B { y_bearing = z; height = B.height +ʷ E.height })) (-ʷ-exact B.y_bearing E.height fits.y_bearing)
    ∙ ap (λ (h : ℤ). stack_at y (record B { y_bearing = B.y_bearing -ℤ E.height; height = h })) (+ʷ-exact B.height E.height fits.height)
piled_of-exact E B false y k fits =
    ap (λ (o : ℤ). stack_at o (record B { y_bearing = B.y_bearing +ʷ k -ʷ E.height; height = B.height -ʷ k +ʷ E.height }))
    (+ʷ-exact y k fits.y_offset)
    ∙ ap (λ (z : ℤ). stack_at (y +ℤ k) (record B { y_bearing = z; height = B.height -ʷ k +ʷ E.height }))
    (sum_difference B.y_bearing k E.height fits.y_bearing)
    ∙ ap (λ (h : ℤ). stack_at (y +ℤ k) (record B { y_bearing = B.y_bearing +ℤ k -ℤ E.height; height = h }))
    (difference_sum B.height k E.height fits.height)

pub piled-exact : (gap : ℤ) (E B : Extents) → Fits32 (piled_at E B) → Fits32 (neg_ℤ (piled_at E B)) → StackedFits (exact_piled gap E B)
    → piled gap E B ≡ exact_piled gap E B
piled-exact gap E B unmoved reversed fits =
    ap (λ (y : ℤ). piled_of E B (agree gap y) y (int_div (neg_w y) (pos 2))) (difference_of_sum B.y_bearing E.y_bearing E.height unmoved)
    ∙ ap (λ (z : ℤ). piled_of E B (agree gap (piled_at E B)) (piled_at E B) (int_div z (pos 2))) (neg_w-exact (piled_at E B) reversed)
    ∙ piled_of-exact E B (agree gap (piled_at E B)) (piled_at E B) (pushed_up E B) fits

gap_below-exact : (gap : ℤ) (ccc : ℕ) (B : Extents) → is_attached ccc ≡ false → Fits32 (B.height -ℤ gap)
    → lowered gap ccc B ≡ record B { height = B.height -ℤ gap }
unfolding lowered
gap_below-exact gap ccc B apart fits = rw apart (ap (λ (h : ℤ). record B { height = h }) (-ʷ-exact B.height gap fits))

gap_above-exact : (gap : ℤ) (ccc : ℕ) (B : Extents) → is_attached ccc ≡ false → Fits32 (B.y_bearing +ℤ gap) → Fits32 (B.height -ℤ gap)
    → raised gap ccc B ≡ record B { y_bearing = B.y_bearing +ℤ gap; height = B.height -ℤ gap }
unfolding raised
gap_above-exact gap ccc B apart up down =
    rw apart (ap (λ (z : ℤ). record B { y_bearing = z; height = B.height -ʷ gap }) (+ʷ-exact B.y_bearing gap up)
    ∙ ap (λ (h : ℤ). record B { y_bearing = B.y_bearing +ℤ gap; height = h }) (-ʷ-exact B.height gap down))

moved_right-exact : (p : GlyphPosition) (s : MarkState) → Fits32 (p.x_offset +ℤ s.x_offset)
    → (moved p s).x_offset ≡ p.x_offset +ℤ s.x_offset
unfolding moved
moved_right-exact p s fits = +ʷ-exact p.x_offset s.x_offset fits

moved_up-exact : (p : GlyphPosition) (s : MarkState) → Fits32 (p.y_offset +ℤ s.y_offset) → (moved p s).y_offset ≡ p.y_offset +ℤ s.y_offset
unfolding moved
moved_up-exact p s fits = +ʷ-exact p.y_offset s.y_offset fits

zeroed_right-exact : (p : GlyphPosition) → Fits32 (p.x_offset -ℤ p.x_advance)
    → (zeroed_position true p).x_offset ≡ p.x_offset -ℤ p.x_advance
unfolding zeroed_position
zeroed_right-exact p fits = -ʷ-exact p.x_offset p.x_advance fits

zeroed_up-exact : (p : GlyphPosition) → Fits32 (p.y_offset -ℤ p.y_advance) → (zeroed_position true p).y_offset ≡ p.y_offset -ℤ p.y_advance
unfolding zeroed_position
zeroed_up-exact p fits = -ʷ-exact p.y_offset p.y_advance fits

component-exact : (base : Base) (c : ℤ) → Fits32 (place_of base c *ℤ base.extents.width)
    → Fits32 (base.extents.x_bearing +ℤ int_div (place_of base c *ℤ base.extents.width) (pos base.number_of_components))
    → (component_extents base c).x_bearing
    ≡ base.extents.x_bearing +ℤ int_div (place_of base c *ℤ base.extents.width) (pos base.number_of_components)
unfolding component_extents
component-exact base c product sum =
    ap (λ (z : ℤ). base.extents.x_bearing +ʷ int_div z (pos base.number_of_components))
    (*ʷ-exact (place_of base c) base.extents.width product)
    ∙ +ʷ-exact base.extents.x_bearing (int_div (place_of base c *ℤ base.extents.width) (pos base.number_of_components)) sum

pub marks-exact : ExactMarks
marks-exact = record {
  across = x_offset-exact;
  below = hung-exact;
  above = piled-exact;
  gap_below = gap_below-exact;
  gap_above = gap_above-exact;
  moved_right = moved_right-exact;
  moved_up = moved_up-exact;
  zeroed_right = zeroed_right-exact;
  zeroed_up = zeroed_up-exact;
  component = component-exact;
}

-- ---- round a base

base_above-exact : (face : FaceMeaning) (s : MarkFrame) (x : Item) (p : GlyphPosition) (E : Extents) → Fits32 (E.y_bearing +ℤ p.y_offset)
    → (base_of face s x p E).extents.y_bearing ≡ E.y_bearing +ℤ p.y_offset
unfolding base_of
base_above-exact face s x p E fits = +ʷ-exact E.y_bearing p.y_offset fits

first_across-exact : (base : Base) (p : GlyphPosition) → base.surroundings.forward ≡ true → Fits32 (neg_ℤ p.x_advance)
    → (first_state base p).x_offset ≡ neg_ℤ p.x_advance
unfolding first_state
first_across-exact base p forward fits = rw forward (neg_w-exact p.x_advance fits)

first_up-exact : (base : Base) (p : GlyphPosition) → base.surroundings.forward ≡ true → Fits32 (neg_ℤ p.y_advance)
    → (first_state base p).y_offset ≡ neg_ℤ p.y_advance
unfolding first_state
first_up-exact base p forward fits = rw forward (neg_w-exact p.y_advance fits)

forward_across-exact : (p : GlyphPosition) (s : MarkState) → Fits32 (s.x_offset -ℤ p.x_advance)
    → (moved_past true p s).x_offset ≡ s.x_offset -ℤ p.x_advance
unfolding moved_past
forward_across-exact p s fits = -ʷ-exact s.x_offset p.x_advance fits

forward_up-exact : (p : GlyphPosition) (s : MarkState) → Fits32 (s.y_offset -ℤ p.y_advance)
    → (moved_past true p s).y_offset ≡ s.y_offset -ℤ p.y_advance
unfolding moved_past
forward_up-exact p s fits = -ʷ-exact s.y_offset p.y_advance fits

backward_across-exact : (p : GlyphPosition) (s : MarkState) → Fits32 (s.x_offset +ℤ p.x_advance)
    → (moved_past false p s).x_offset ≡ s.x_offset +ℤ p.x_advance
unfolding moved_past
backward_across-exact p s fits = +ʷ-exact s.x_offset p.x_advance fits

backward_up-exact : (p : GlyphPosition) (s : MarkState) → Fits32 (s.y_offset +ℤ p.y_advance)
    → (moved_past false p s).y_offset ≡ s.y_offset +ℤ p.y_advance
unfolding moved_past
backward_up-exact p s fits = +ʷ-exact s.y_offset p.y_advance fits

-- a number of u8 less 1 always fits
less_one-exact : (k : ℕ) → k < 256 → pos k -ʷ pos 1 ≡ pos k -ℤ pos 1
less_one-exact k byte = -ʷ-exact (pos k) (pos 1) (omega (arith, ints))

abbrev component_by : Base → Item → ℤ → ℤ → ℤ
component_by base item last component =
    if base.ligature_id == 0 || not (base.ligature_id == item.properties.ligature_id)
    || int_le (pos base.number_of_components) component then last
    else component

number-exact : (base : Base) (x : Item) → base.number_of_components < 256 → x.properties.ligature_component < 256
    → component_of base x ≡ exact_component base x
unfolding component_of
number-exact base x components component =
    ap (λ (last : ℤ). component_by base x last (pos x.properties.ligature_component -ʷ pos 1))
    (less_one-exact base.number_of_components components)
    ∙ ap (λ (own : ℤ). component_by base x (pos base.number_of_components -ℤ pos 1) own)
    (less_one-exact x.properties.ligature_component component)

from_left-exact : (base : Base) (c : ℤ) → base.left_to_right ≡ false → Fits32 (pos base.number_of_components -ℤ pos 1 -ℤ c)
    → place_of base c ≡ pos base.number_of_components -ℤ pos 1 -ℤ c
unfolding place_of
from_left-exact base c leftward fits = rw leftward (difference_difference (pos base.number_of_components) (pos 1) c fits)

pub round-exact : ExactRound
round-exact = record {
  base_above = base_above-exact;
  first_across = first_across-exact;
  first_up = first_up-exact;
  forward_across = forward_across-exact;
  forward_up = forward_up-exact;
  backward_across = backward_across-exact;
  backward_up = backward_up-exact;
  component = number-exact;
  from_left = from_left-exact;
}

-- ---- spaces

-- a quotient has a negative if the number lies nearer to 0 than 2^31 times the divisor
quotient_turns : (s : ℤ) (t : ℕ) → 0 < t → unsigned_abs s < 2147483648 * t → Fits32 (neg_ℤ (int_div s (pos t)))
quotient_turns (pos a) t some less =
    let small : a / t < 2147483648 = div_below a t 2147483648 some less in
    omega (arith, ints)
quotient_turns (negsuc a) t some less =
    let small : suc a / t < 2147483648 = div_below (suc a) t 2147483648 some less in
    omega (arith, ints)

four_times : (side : ℤ) → negsuc 2147483646 ≤ℤ side → side ≤ℤ pos 2147483647 → unsigned_abs (side *ℤ pos 4) < 2147483648 * 18
four_times (pos a) low high = omega (arith, ints)
four_times (negsuc a) low high = omega (arith, ints)

near : (side : ℤ) → negsuc 2147483646 ≤ℤ side → side ≤ℤ pos 2147483647 → unsigned_abs side < 2147483648 * 1
near (pos a) low high = omega (arith, ints)
near (negsuc a) low high = omega (arith, ints)

twice : (s : ℤ) (k : ℕ) → Fits32 s → unsigned_abs s < 2147483648 * suc (suc k)
twice (pos a) k fits = omega (arith, ints)
twice (negsuc a) k fits = omega (arith, ints)

sum_fits : (a b : ℤ) → Fits32 (a +ʷ b)
unfolding ◌+ʷ◌
sum_fits a b = SFits-int_wrap w32 (a +ℤ b)

-- the sum may wrap only where it is divided by more than 1
part_added : (side : ℤ) (t : ℕ) → negsuc 2147483646 ≤ℤ side → side ≤ℤ pos 2147483647 → 0 < t
    → unsigned_abs (side +ʷ pos (t / 2)) < 2147483648 * t
part_added side zero low high some = absurd (omega arith)
part_added side (suc zero) low high some =
    let same : side +ʷ pos 0 ≡ side = +ʷ-exact side (pos 0) (omega (arith, ints)) ∙ omega (arith, ints) in
    rw same (near side low high)
part_added side (suc (suc k)) low high some =
    twice (side +ʷ pos (suc (suc k) / 2)) k (sum_fits side (pos (suc (suc k) / 2)))

-- a part of an em square is no further from 0 than the square is
em_fraction-small : (side : ℤ) (t : ℕ) → negsuc 2147483646 ≤ℤ side → side ≤ℤ pos 2147483647 → 0 < t → Fits32 (neg_ℤ (em_fraction side t))
unfolding em_fraction
em_fraction-small side t low high some =
    elim (cases_Bool (t == 17)) [
      | inl em_18 ↦ rw em_18 (quotient_turns (side *ℤ pos 4) 18 (omega arith) (four_times side low high))
      | inr other ↦ rw other (quotient_turns (side +ʷ pos (t / 2)) t some (part_added side t low high some))
    ]

pub down-exact : (side : ℤ) (t : ℕ) → negsuc 2147483646 ≤ℤ side → side ≤ℤ pos 2147483647 → 0 < t
    → em_advance false (em_fraction side t) ≡ neg_ℤ (em_fraction side t)
unfolding em_advance
down-exact side t low high some = neg_w-exact (em_fraction side t) (em_fraction-small side t low high some)

pub spaces-exact : ExactSpaces
spaces-exact = record { down = down-exact }
