-- Lemmas on loops that write the positions of a buffer.
use Rattle.std.proofs.Common.{◌≡◌, ℕ, suc, ◌+◌, ◌-◌, ◌<◌, ◌≤◌, List, ◌∷◌, ◌++◌, length, get_or, take, drop, set, refl, ap, arith, slice_range, append_assoc}
use Rattle.std.proofs.lemmas.List.{take-append-drop, take_more_set, drop-set-lt}
use Rattle.std.proofs.Math.Seq.{drop-cons}
use Rattle.shape_items.specs.Buffer.{Buffer}
use Rattle.shape_items.specs.Items.{Item}
use Rattle.shape_buffer.specs.PositionWalks.{positions_over}
use Rattle.shape_common.specs.Positions.{zero_position}
use Rattle.shape_common.specs.declared.positions.GlyphPosition.{GlyphPosition}
use Rattle.shape_fallback.specs.Positions.{with_positions}

-- the part of a list from i on, at its first element
pub slice_range-cons : {X : Type 0} (xs : List X) (i to : ℕ) (x d : X) → i < to → i < length xs → x ≡ get_or xs i d
    → slice_range xs i to ≡ x ∷ slice_range xs (i + 1) to
slice_range-cons xs i to x d lt within is =
    let n : to - i ≡ suc (to - (i + 1)) = omega arith in
    let next : suc i ≡ i + 1 = omega arith in
    rw (n, drop-cons xs i d within, ← is, next) refl

-- one more element is written in a list whose elements before i are written
pub placed_step : (f : List GlyphPosition) (ps : List GlyphPosition) (i to : ℕ) (p : GlyphPosition) → i < to → i < length ps
    → take (i + 1) (set ps i p) ++ (f ++ drop to (set ps i p)) ≡ take i ps ++ (p ∷ f ++ drop to ps)
placed_step f ps i to p lt within =
    rw (take_more_set ps i p within, drop-set-lt to ps i p lt, append_assoc) refl

-- one more position made
pub each_step : (f : Item → GlyphPosition → GlyphPosition) (i to : ℕ) (b : Buffer) (x : Item) (p : GlyphPosition)
    → i < to → i < length b.items → i < length b.positions → x ≡ get_or b.items i x → p ≡ get_or b.positions i zero_position
    → with_positions (positions_over f) i to b
    ≡ with_positions (positions_over f) (i + 1) to (record b { positions = set b.positions i (f x p) })
each_step f i to b x p lt items positions is_x is_p =
    let q = f x p in
    let xs = slice_range-cons b.items i to x x lt items is_x in
    let ps = slice_range-cons b.positions i to p zero_position lt positions is_p in
    let after : slice_range (set b.positions i q) (i + 1) to
    ≡ slice_range b.positions (i + 1) to = ap (take (to - (i + 1))) (drop-set-lt (i + 1) b.positions i q (omega arith)) in
    ap (λ (list : List GlyphPosition). record b { positions = list })
    (rw (
      xs,
      ps,
      after,
      placed_step (positions_over f (slice_range b.items (i + 1) to)
          (slice_range b.positions (i + 1) to)) b.positions i to q lt positions,
    ) refl)

-- none is left to make
pub each_end : (f : Item → GlyphPosition → GlyphPosition) (i to : ℕ) (b : Buffer) → to ≤ i → i ≤ to
    → with_positions (positions_over f) i to b ≡ b
each_end f i to b over within =
    let none : to - i ≡ 0 = omega arith in
    let same : to ≡ i = omega arith in
    ap (λ (list : List GlyphPosition). record b { positions = list }) (rw (none, same) (take-append-drop i b.positions))
