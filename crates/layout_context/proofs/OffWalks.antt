-- Lookups that apply no others leave the glyphs for which they are off.
use Prim.Native.Nat.{zero}
use Rattle.std.proofs.Common.{◌≡◌, ℕ, suc, ◌-◌, ◌&&◌, Bool, true, false, Option, Some, None, length, nat_eq, nat_lt, not, refl, sym, ◌∙◌, subst, if◌then◌else◌}
use Rattle.std.specs.Option.{option_map_or}
use Rattle.shape_items.specs.Buffer.{Buffer}
use Rattle.layout_matching.specs.Found.{is_context}
use Rattle.layout_matching.specs.Loops.{times}
use Rattle.layout_matching.specs.Skipping.{shares, is_skipped, is_on}
use Rattle.layout_matching.specs.Work.{lookup_charged, walk_work}
use Rattle.layout_matching.specs.declared.lookup.Lookup.{Lookup}
use Rattle.layout_substitution.specs.Applied.{Applied, unapplied}
use Rattle.layout_substitution.specs.Edits.{item_at, is_inside, is_past, broken, concat_marked}
use Rattle.layout_substitution.specs.Kinds.{lookup_applied}
use Rattle.layout_substitution.specs.Off.{off_glyphs, HasNoFlag}
use Rattle.layout_substitution.specs.Replaced.{replaced}
use Rattle.layout_substitution.specs.declared.apply.Spot.{Spot}
use Rattle.layout_substitution.proofs.AppliedLemmas.{like-replaced}
use Rattle.layout_substitution.proofs.OffKinds.{lookup-off}
use Rattle.layout_substitution.proofs.OffLemmas.{same-broken, same-concat_marked, on_at, same-off, same-on, put-off}
use Rattle.layout_context.specs.Nested.{origin_of, place_charged, tried_marked, first_rule_applied, level_applied, nested_applied}
use Rattle.layout_context.specs.Reverse.{Backwards, reversal_found, reversal_reach, reversed_by, first_reversed, reversed_at, reversed_within, reverse_step, reversed, is_reverse}
use Rattle.layout_context.specs.Stages.{Walk, passed, with_left, tried_within, tried, lookup_step, first_walk, walked, gone_back, gone_over, walk_charged, looked_up}
use Rattle.layout_context.specs.declared.reverse.Reversal.{Reversal}

and_left : (a b : Bool) → (a && b) ≡ true → a ≡ true
and_left true b e = refl
and_left false b e = e

applied-off : (l : Lookup) (b : Buffer) (t : Bool) (x y : Applied) → off_glyphs l x.buffer.items ≡ off_glyphs l b.items
    → off_glyphs l y.buffer.items ≡ off_glyphs l b.items → off_glyphs l (if t then x else y).buffer.items ≡ off_glyphs l b.items
applied-off l b true x y k m = k
applied-off l b false x y k m = m

nested-off : (level : ℕ) (l : Lookup) (spot : Spot) (b : Buffer) → is_context l ≡ false → HasNoFlag l → on_at l b spot.at ≡ true
    → off_glyphs l (nested_applied level l spot b).buffer.items ≡ off_glyphs l b.items
nested-off zero l spot b kind pure on = refl
nested-off (suc level) l spot b kind pure on =
    let here : off_glyphs l (level_applied (nested_applied level) l spot b).buffer.items ≡ off_glyphs l b.items =
    subst (λ t. off_glyphs l (if t then first_rule_applied (nested_applied level) l spot (tried_marked l spot b)
    else lookup_applied l spot b).buffer.items
    ≡ off_glyphs l b.items) (sym kind) (lookup-off l spot b pure on) in
    applied-off l b (is_past b) (unapplied b) _ refl
    (applied-off l b (is_inside spot.at b) (level_applied (nested_applied level) l spot b) (unapplied b) here refl)

walk-off : (l : Lookup) (b : Buffer) (t : Bool) (x y : Walk) → (t ≡ true → off_glyphs l x.buffer.items ≡ off_glyphs l b.items)
    → off_glyphs l y.buffer.items ≡ off_glyphs l b.items → off_glyphs l (if t then x else y).buffer.items ≡ off_glyphs l b.items
walk-off l b true x y k m = k refl
walk-off l b false x y k m = m

tried-off : (levels : ℕ) (l : Lookup) (s : Walk) → is_context l ≡ false → HasNoFlag l → on_at l s.buffer s.spot.at ≡ true
    → off_glyphs l (tried (nested_applied levels l) l s).buffer.items ≡ off_glyphs l s.buffer.items
tried-off levels l s kind pure on = by_charge (place_charged l s.buffer.items (origin_of s.spot s.buffer) s.spot.left)
  where
    by_charge : (o : Option ℕ)
        → off_glyphs l (option_map_or (tried_within (nested_applied levels l) s) o (passed (with_left 0 s))).buffer.items
        ≡ off_glyphs l s.buffer.items
    by_charge None = refl
    by_charge (Some left) = nested-off levels l (with_left left s).spot s.buffer kind pure on

step-off : (levels : ℕ) (l : Lookup) (s : Walk) → is_context l ≡ false → HasNoFlag l
    → off_glyphs l (lookup_step (nested_applied levels l) l s).buffer.items ≡ off_glyphs l s.buffer.items
step-off levels l s kind pure =
    let item = item_at s.buffer s.spot.at in
    walk-off l s.buffer (is_past s.buffer) s _ (λ t. refl)
    (walk-off l s.buffer (is_inside s.spot.at s.buffer) _ s
    (λ t. walk-off l s.buffer (is_on l item) (tried (nested_applied levels l) l s) (passed s)
    (λ on. tried-off levels l s kind pure (and_left (shares item.mask l.mask) (not (is_skipped l item)) on)) refl) refl)

walked-off : (levels : ℕ) (l : Lookup) (n : ℕ) (s : Walk) → is_context l ≡ false → HasNoFlag l
    → off_glyphs l (times (lookup_step (nested_applied levels l) l) n s).buffer.items ≡ off_glyphs l s.buffer.items
walked-off levels l zero s kind pure = refl
walked-off levels l (suc n) s kind pure =
    step-off levels l (times (lookup_step (nested_applied levels l) l) n s) kind pure ∙ walked-off levels l n s kind pure

-- ---- backwards

first-off : (l : Lookup) (at : ℕ) (b : Buffer) → HasNoFlag l → on_at l b at ≡ true
    → off_glyphs l (first_reversed l at b).items ≡ off_glyphs l b.items
first-off l at b pure on = by_found (reversal_found l b.items at)
  where
    by_found : (o : Option Reversal) → off_glyphs l (option_map_or (reversed_by l at b) o b).items ≡ off_glyphs l b.items
    by_found None = refl
    by_found (Some r) =
        let c = broken r.start r.end b in
        let same = same-broken r.start r.end b in
        put-off l at (replaced l 0 r.glyph (item_at c at)) c (like-replaced l 0 r.glyph (item_at c at)).mask (same-on l b c at pure same on)
        ∙ same-off l b c pure same

at-off : (l : Lookup) (at : ℕ) (b : Buffer) → HasNoFlag l → off_glyphs l (reversed_at l at b).items ≡ off_glyphs l b.items
at-off l at b pure =
    let item = item_at b at in
    let r = reversal_reach l b.items at in
    let c = concat_marked r b in
    let P : Bool → Type 0 = λ t. is_on l item ≡ t → off_glyphs l (if t then first_reversed l at c else b).items ≡ off_glyphs l b.items in
    let cases : P (is_on l item) = elim (is_on l item) as P [
      | true ↦ λ t.
          let on : on_at l b at ≡ true = and_left (shares item.mask l.mask) (not (is_skipped l item)) t in
          first-off l at c pure (same-on l b c at pure (same-concat_marked r b) on) ∙ same-off l b c pure (same-concat_marked r b)
      | false ↦ λ t. refl
    ] in
    cases refl

within-off : (l : Lookup) (s : Backwards) (o : Option ℕ) → HasNoFlag l
    → off_glyphs l (option_map_or (reversed_within l s) o (record s { at = s.at - 1; left = 0 })).buffer.items
    ≡ off_glyphs l s.buffer.items
within-off l s None pure = refl
within-off l s (Some left) pure = at-off l (s.at - 1) s.buffer pure

reverse-off : (l : Lookup) (n : ℕ) (s : Backwards) → HasNoFlag l
    → off_glyphs l (times (reverse_step l) n s).buffer.items ≡ off_glyphs l s.buffer.items
reverse-off l zero s pure = refl
reverse-off l (suc n) s pure =
    let here = times (reverse_step l) n s in
    let o = lookup_charged l here.buffer.items (here.at - 1) here.left in
    let step : off_glyphs l (reverse_step l here).buffer.items ≡ off_glyphs l here.buffer.items =
    elim (nat_eq here.at 0) as (λ t.
    off_glyphs l (if t then here else option_map_or (reversed_within l here) o (record here { at = here.at - 1; left = 0 })).buffer.items
    ≡ off_glyphs l here.buffer.items) [
      | true ↦ refl
      | false ↦ within-off l here o pure
    ] in
    step ∙ reverse-off l n s pure

over-off : (levels : ℕ) (l : Lookup) (s : Walk) → is_context l ≡ false → HasNoFlag l
    → off_glyphs l (gone_over levels l s).buffer.items ≡ off_glyphs l s.buffer.items
over-off levels l s kind pure =
    walk-off l s.buffer (is_reverse l) (gone_back s (reversed l s.spot.left s.buffer)) (walked (nested_applied levels l) l s)
    (λ t. reverse-off l (length s.buffer.items) (record { buffer = s.buffer; at = length s.buffer.items; left = s.spot.left }) pure)
    (walked-off levels l (length s.buffer.items) (first_walk s) kind pure)

pub looked-off : (levels : ℕ) (l : Lookup) (s : Walk) → is_context l ≡ false → HasNoFlag l
    → off_glyphs l (looked_up levels l s).buffer.items ≡ off_glyphs l s.buffer.items
looked-off levels l s kind pure =
    walk-off l s.buffer (nat_lt s.spot.left (walk_work l (length s.buffer.items))) (walk_charged l s)
    (gone_over levels l (walk_charged l s)) (λ t. refl) (over-off levels l (walk_charged l s) kind pure)
