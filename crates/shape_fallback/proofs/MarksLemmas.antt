-- Lemmas on placing marks in a buffer.
use Rattle.std.proofs.Common.{◌≡◌, ℕ, ◌+◌, ◌-◌, ◌<◌, ◌≤◌, List, [], ◌∷◌, ◌++◌, length, get_or, take, set, refl, ap, sym, ◌∙◌, arith, slice_range, append_assoc}
use Rattle.std.specs.Prelude.{Option, Some, None}
use Rattle.shape_fallback.specs.Extents.{Extents}
use Rattle.std.proofs.lemmas.List.{take-append-drop, take_more, drop-set-lt}
use Rattle.shape_items.specs.Items.{Item}
use Rattle.shape_items.specs.Buffer.{Buffer}
use Rattle.shape_common.specs.declared.positions.GlyphPosition.{GlyphPosition}
use Rattle.shape_buffer.specs.PositionWalks.{positions_over}
use Rattle.shape_common.specs.Positions.{zero_position}
use Rattle.shape_common.specs.Face.{FaceMeaning}
use Rattle.shape_fallback.specs.MarkState.{place_mark}
use Rattle.shape_fallback.specs.declared.ot_shape_fallback.marks.MarkFrame.{MarkFrame}
use Rattle.shape_fallback.specs.Marks.{marks_placed, zeroed, around_base, after_base, base_of, first_state}
use Rattle.shape_fallback.specs.Positions.{with_positions}
use Rattle.shape_fallback.proofs.PositionsLemmas.{slice_range-cons, placed_step}
use Rattle.shape_fallback.specs.declared.ot_shape_fallback.mark_state.Base.{Base}
use Rattle.shape_fallback.specs.declared.ot_shape_fallback.mark_state.MarkState.{MarkState}

-- one more mark placed
pub marks_step : (face : FaceMeaning) (base : Base) (s : MarkState) (i to : ℕ) (b : Buffer) (x : Item) (p : GlyphPosition)
    → i < to → i < length b.items → i < length b.positions → x ≡ get_or b.items i x → p ≡ get_or b.positions i zero_position
    → with_positions (marks_placed face base s) i to b
    ≡ with_positions (marks_placed face base (place_mark face base s x p).state) (i + 1) to
    (record b { positions = set b.positions i (place_mark face base s x p).position })
unfolding marks_placed
marks_step face base s i to b x p lt items positions is_x is_p =
    let step = place_mark face base s x p in
    let xs = slice_range-cons b.items i to x x lt items is_x in
    let ps = slice_range-cons b.positions i to p zero_position lt positions is_p in
    let after : slice_range (set b.positions i step.position) (i + 1) to
    ≡ slice_range b.positions (i + 1) to = ap (take (to - (i + 1))) (drop-set-lt (i + 1) b.positions i step.position (omega arith)) in
    ap (λ (list : List GlyphPosition). record b { positions = list })
    (rw (
      xs,
      ps,
      after,
      placed_step (marks_placed face base step.state (slice_range b.items (i + 1) to)
          (slice_range b.positions (i + 1) to)) b.positions i to step.position lt positions,
    ) refl)

-- no mark is left to place
pub marks_end : (face : FaceMeaning) (base : Base) (s : MarkState) (i to : ℕ) (b : Buffer) → to ≤ i → i ≤ to
    → with_positions (marks_placed face base s) i to b ≡ b
unfolding marks_placed
marks_end face base s i to b over within =
    let none : to - i ≡ 0 = omega arith in
    let same : to ≡ i = omega arith in
    ap (λ (list : List GlyphPosition). record b { positions = list }) (rw (none, same) (take-append-drop i b.positions))

-- the base of a span keeps its position
pub span_start : (face : FaceMeaning) (s : MarkFrame) (i to : ℕ) (b : Buffer) (x : Item) (p : GlyphPosition)
    → i < to → i < length b.items → i < length b.positions → x ≡ get_or b.items i x → p ≡ get_or b.positions i zero_position
    → with_positions (around_base face s) i to b
    ≡ with_positions (after_base face s x p (face.extents (record { 0 = x.glyph_id }))) (i + 1) to b
unfolding around_base
span_start face s i to b x p lt items positions is_x is_p =
    let xs = slice_range-cons b.items i to x x lt items is_x in
    let ps = slice_range-cons b.positions i to p zero_position lt positions is_p in
    let more : take (i + 1) b.positions ≡ take i b.positions ++ (p ∷ []) = take_more b.positions i zero_position positions
    ∙ ap (λ (q : GlyphPosition). take i b.positions ++ (q ∷ [])) (sym is_p) in
    ap (λ (list : List GlyphPosition). record b { positions = list }) (rw (xs, ps, more, append_assoc) refl)

-- a span whose base has extents
pub span_some : (face : FaceMeaning) (s : MarkFrame) (i to : ℕ) (b : Buffer) (x : Item) (p : GlyphPosition) (E : Extents)
    → i < to → i < length b.items → i < length b.positions → x ≡ get_or b.items i x → p ≡ get_or b.positions i zero_position
    → face.extents (record { 0 = x.glyph_id }) ≡ Some E
    → with_positions (around_base face s) i to b
    ≡ with_positions (marks_placed face (base_of face s x p E) (first_state (base_of face s x p E) p)) (i + 1) to b
span_some face s i to b x p E lt items positions is_x is_p e =
    span_start face s i to b x p lt items positions is_x is_p
    ∙ ap (λ (o : Option Extents). with_positions (after_base face s x p o) (i + 1) to b) e

-- a span whose base has none
pub span_none : (face : FaceMeaning) (s : MarkFrame) (i to : ℕ) (b : Buffer) (x : Item) (p : GlyphPosition)
    → i < to → i < length b.items → i < length b.positions → x ≡ get_or b.items i x → p ≡ get_or b.positions i zero_position
    → face.extents (record { 0 = x.glyph_id }) ≡ None
    → with_positions (around_base face s) i to b ≡ with_positions (positions_over (zeroed s.adjust)) (i + 1) to b
span_none face s i to b x p lt items positions is_x is_p e =
    span_start face s i to b x p lt items positions is_x is_p
    ∙ ap (λ (o : Option Extents). with_positions (after_base face s x p o) (i + 1) to b) e
