-- records of no number, and of the advance along a horizontal line alone
use Rattle.std.proofs.Common.{◌≡◌, ℕ, ℤ, ◌+◌, ◌+ℤ◌, pos, Bool, refl, sym, ap, subst, ◌∙◌, arith, not, ◌&&◌, ◌||◌, nat_eq, true, false, Option, Some, None, if◌then◌else◌}
use Rattle.std.specs.Prelude.{is_some, FitsSigned}
use Rattle.std.specs.Int.{w32}
use Rattle.std.specs.Option.{option_map_or}
use Rattle.std.proofs.lemmas.Bool.Decides.{nat_tests}
use Rattle.std.proofs.lemmas.Int.{ints}
use Rattle.font_sizes.specs.declared.scales.Scale.{Scale}
use Rattle.font_sizes.proofs.SizeLemmas.{times_zero}
use Rattle.shape_common.specs.Wrapping.{◌+ʷ◌, +ʷ-exact}
use Rattle.shape_font.specs.Bytes.{i16_of, u16_of}
use Rattle.layout_matching.specs.declared.lookup.Lookup.{Lookup}
use Rattle.layout_positions.specs.Devices.{delta_by, is_default}
use Rattle.layout_positions.specs.Pairs.{is_advance_alone, values_of, advance_values}
use Rattle.layout_positions.specs.Sizes.{axis_across}
use Rattle.layout_positions.specs.Values.{advance_only, none_counted, plain_value, sized_at, sized, value_at, value_size, varied_value}
use Rattle.layout_positions.specs.declared.pairs.PairRecords.{PairRecords}
use Rattle.layout_positions.specs.declared.values.Adjustment.{Adjustment}

-- numbers that are 0 stay so at a size, and none of them vanishes
zero_sized : (s : Scale) → advance_only (pos 0) ≡ sized_at s (advance_only (pos 0))
zero_sized s = λ i. record {
  x_placement = sym (times_zero s.across) i;
  y_placement = sym (times_zero s.up) i;
  x_advance = sym (times_zero s.across) i;
  y_advance = sym (times_zero s.up) i;
  counted = none_counted;
}

pub none_said : (l : Lookup) (format base at : ℕ) → format ≡ 0 → advance_only (pos 0) ≡ value_at l format base at
none_said l format base at is =
    elim l.scale as (λ (o : Option Scale). advance_only (pos 0) ≡ option_map_or (λ s. sized_at s (advance_only (pos 0))) o (advance_only (pos 0))) [
      | None ↦ refl
      | Some s ↦ zero_sized s
    ]
    ∙ ap (λ n. value_at l n base at) (sym is)

-- at no size
pub sizeless : (l : Lookup) → is_some l.scale ≡ false → l.scale ≡ None
sizeless l is = by_scale l.scale is
  where
    by_scale : (o : Option Scale) → is_some o ≡ false → o ≡ None
    by_scale None none = refl
    by_scale (Some s) none = absurd (let both : true ≡ false = none in cc)

plainly : (l : Lookup) (v : Adjustment) → l.scale ≡ None → sized l v ≡ v
plainly l v none = ap (λ (o : Option Scale). option_map_or (λ s. sized_at s v) o v) none

pub advance_said : (l : Lookup) (format base at : ℕ) → format ≡ 4 → l.scale ≡ None
    → advance_only (i16_of l.table.now at) ≡ value_at l format base at
unfolding lib.Count.ones
advance_said l format base at is scale =
    let here : at ≡ at + 0 = omega arith in
    let v : Adjustment = plain_value l.table.now 4 at in
    let plain : advance_only (i16_of l.table.now at) ≡ v = ap (λ k. advance_only (i16_of l.table.now k)) here in
    let four : v ≡ value_at l 4 base at = sym (plainly l v scale) in
    plain ∙ four ∙ ap (λ n. value_at l n base at) (sym is)

-- a sum with nothing
sum_none : (x : ℤ) → FitsSigned w32 x → x +ʷ pos 0 ≡ x
sum_none x fits =
    let same : x +ℤ pos 0 ≡ x = omega (arith, ints) in
    +ʷ-exact x (pos 0) (subst (λ n. FitsSigned w32 n) (sym same) fits) ∙ same

-- an advance whose device is none
undeviced : (l : Lookup) (base at : ℕ) (x : ℤ) → u16_of l.table.now (at + 2) ≡ 0 → FitsSigned w32 x
    → varied_value l 0x44 base at (advance_only x) ≡ advance_only x
unfolding lib.Count.ones
undeviced l base at x none fits =
    let zero : pos 0 +ʷ pos 0 ≡ pos 0 = sum_none (pos 0) (omega (arith, ints)) in
    let advance : x +ʷ delta_by l (axis_across l) base (u16_of l.table.now (at + 2)) ≡ x =
    ap (λ n. x +ʷ delta_by l (axis_across l) base n) none ∙ sum_none x fits in
    let counts : not (nat_eq (u16_of l.table.now (at + 2)) 0) ≡ false = ap (λ n. not (nat_eq n 0)) none in
    λ i. record {
      x_placement = zero i;
      y_placement = zero i;
      x_advance = advance i;
      y_advance = zero i;
      counted = record { placement = false; x_advance = counts i; y_advance = false };
    }

-- the record of an advance and its device, of which none is read
device_said : (l : Lookup) (base at : ℕ) (x : ℤ) → l.scale ≡ None → (is_default l || nat_eq (u16_of l.table.now (at + 2)) 0) ≡ true
    → x ≡ i16_of l.table.now at → FitsSigned w32 x → advance_only x ≡ value_at l 0x44 base at
unfolding lib.Count.ones
device_said l base at x scale unread is fits =
    let here : at ≡ at + 0 = omega arith in
    let v : Adjustment = plain_value l.table.now 0x44 at in
    let plain : advance_only x ≡ v = ap advance_only (is ∙ ap (i16_of l.table.now) here) in
    let whole : value_at l 0x44 base at ≡ (if is_default l then v else varied_value l 0x44 base at v) =
    ap (λ (w : Adjustment). if is_default l then w else varied_value l 0x44 base at w) (plainly l v scale) in
    sym (whole ∙ by_default v (is_default l) unread plain)
  where
    by_default : (v : Adjustment) (d : Bool) → (d || nat_eq (u16_of l.table.now (at + 2)) 0) ≡ true → advance_only x ≡ v
        → (if d then v else varied_value l 0x44 base at v) ≡ advance_only x
    by_default v true read plain = sym plain
    by_default v false read plain =
        let none : u16_of l.table.now (at + 2) ≡ 0 = grind (arith, nat_tests, read) in
        ap (varied_value l 0x44 base at) (sym plain) ∙ undeviced l base at x none fits

-- records of a pair that say the advance of its first glyph alone
pub alone_said : (l : Lookup) (r : PairRecords) (x : ℤ) → is_advance_alone l r ≡ true → x ≡ i16_of l.table.now r.at → FitsSigned w32 x
    → values_of l r ≡ advance_values x
alone_said l r x alone is fits =
    let plain = and_left (nat_eq r.second 0 && not (is_some l.scale)) _ alone in
    let second : nat_eq r.second 0 ≡ true = and_left _ _ plain in
    let scale : l.scale ≡ None = sizeless l (not_true _ (and_right (nat_eq r.second 0) _ plain)) in
    let none : r.second ≡ 0 = grind (arith, nat_tests, second) in
    let one : advance_only x ≡ value_at l r.first r.base r.at = by_first (nat_eq r.first 4) (nat_eq r.first 0x44) refl refl
    (and_right (nat_eq r.second 0 && not (is_some l.scale)) _ alone) scale in
    let two : value_at l r.second r.base (r.at + value_size r.first) ≡ advance_only (pos 0) =
    sym (none_said l r.second r.base (r.at + value_size r.first) none) in
    let last : not (nat_eq r.second 0) ≡ false = ap not second in
    λ i. record { first = sym one i; second = two i; has_second = last i }
  where
    and_left : (a b : Bool) → (a && b) ≡ true → a ≡ true
    and_left true b both = refl
    and_left false b both = both

    and_right : (a b : Bool) → (a && b) ≡ true → b ≡ true
    and_right true b both = both
    and_right false b both = absurd (let wrong : false ≡ true = both in cc)

    not_true : (a : Bool) → not a ≡ true → a ≡ false
    not_true false is = refl
    not_true true is = sym is

    by_first : (plain deviced : Bool) → nat_eq r.first 4 ≡ plain → nat_eq r.first 0x44 ≡ deviced
        → (plain || deviced && (is_default l || nat_eq (u16_of l.table.now (r.at + 2)) 0)) ≡ true → l.scale ≡ None
        → advance_only x ≡ value_at l r.first r.base r.at
    by_first true deviced four more says scale =
        let same : r.first ≡ 4 = grind (arith, nat_tests, four) in
        ap advance_only is ∙ advance_said l r.first r.base r.at same scale
    by_first false true four more says scale =
        let same : r.first ≡ 0x44 = grind (arith, nat_tests, more) in
        device_said l r.base r.at x scale says is fits ∙ ap (λ n. value_at l n r.base r.at) (sym same)
    by_first false false four more says scale = absurd (let wrong : false ≡ true = says in cc)
