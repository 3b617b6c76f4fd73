-- a mark's anchor comes to stand on that of the glyph that it follows, and anchors of a cursive line come to stand as high
use Rattle.std.proofs.Common.{◌≡◌, ℕ, ℤ, pos, ◌+ℤ◌, ◌<◌, ◌≤◌, ◌+◌, Bool, true, false, List, [], ◌∷◌, fold, length, min, nat_eq, nat_lt, slice_range, refl, sym, ap, ◌∙◌, arith, if◌then◌else◌}
use Rattle.std.specs.Int.{w32, int_wrap}
use Rattle.std.proofs.lemmas.Int.{ints, int_wrap-add_left, int_wrap-add_right}
use Rattle.shape_common.specs.Direction.{is_horizontal, is_forward}
use Rattle.shape_common.specs.Wrapping.{◌+ʷ◌, ◌-ʷ◌}
use Rattle.shape_common.specs.declared.positions.GlyphPosition.{GlyphPosition}
use Rattle.shape_common.specs.declared.text_types.Direction.{Direction}
use Rattle.shape_items.specs.Buffer.{Buffer}
use Rattle.layout_positions.specs.Attachment.{CURSIVE_ATTACHED, hung, carried, offsets_finished}
use Rattle.layout_positions.specs.Cursive.{gap_across}
use Rattle.layout_positions.specs.Edits.{position_at}
use Rattle.layout_positions.specs.Forest.{IsForest, IsMarkOn, IsJoinedTo, loose, moved_with, pen_before, point_of, across_of, height_of}
use Rattle.layout_positions.specs.Turning.{offset_across}
use Rattle.layout_positions.specs.Ways.{pen_on, no_way, way, way_between}
use Rattle.layout_positions.specs.declared.anchors.Anchor.{Anchor}
use Rattle.layout_positions.specs.declared.ways.Pen.{Pen}
use Rattle.layout_positions.proofs.ForestLemmas.{finished-follows, finished-ways, finished-count, finished-direction}
use Rattle.layout_positions.proofs.WayLemmas.{way_goes_on}
use Rattle.layout_positions.proofs.WrapLemmas.{put_on_again, put_on_after, forward_origin, backward_origin}

-- ---- a way and one that goes on from it, in one coordinate

module _ (part : Pen → ℤ) (advance : GlyphPosition → ℤ) (none : part no_way ≡ pos 0)
    (more : (pen : Pen) (p : GlyphPosition) → part (pen_on pen p) ≡ part pen +ʷ advance p) where
  fold-part : (pen : Pen) (ps : List GlyphPosition)
      → int_wrap w32 (part (fold pen_on pen ps)) ≡ int_wrap w32 (part pen +ℤ part (fold pen_on no_way ps))
  unfolding ◌+ʷ◌
  fold-part pen [] = ap (int_wrap w32) (omega (arith, ints, none))
  fold-part pen (p ∷ ps) =
      let rest = part (fold pen_on no_way ps) in
      fold-part (pen_on pen p) ps
      ∙ ap (λ z. int_wrap w32 (z +ℤ rest)) (more pen p)
      ∙ int_wrap-add_left w32 (part pen +ℤ advance p) rest
      ∙ ap (int_wrap w32) (later rest)
      ∙ sym (int_wrap-add_right w32 (part pen) ((pos 0 +ℤ advance p) +ℤ rest))
      ∙ ap (λ z. int_wrap w32 (part pen +ℤ z)) (sym (int_wrap-add_left w32 (pos 0 +ℤ advance p) rest)
      ∙ ap (λ z. int_wrap w32 (int_wrap w32 (z +ℤ advance p) +ℤ rest)) (sym none)
      ∙ ap (λ z. int_wrap w32 (z +ℤ rest)) (sym (more no_way p))
      ∙ sym (fold-part (pen_on no_way p) ps))
      ∙ int_wrap-add_right w32 (part pen) (part (fold pen_on (pen_on no_way p) ps))
    where
      later : (rest : ℤ) → (part pen +ℤ advance p) +ℤ rest ≡ part pen +ℤ ((pos 0 +ℤ advance p) +ℤ rest)
      later rest = omega (arith, ints)

  way-joined : (b : Buffer) (from mid to : ℕ) → from ≤ mid → mid ≤ to → to ≤ length b.items
      → int_wrap w32 (part (way b from to)) ≡ int_wrap w32 (part (way b from mid) +ℤ part (way b mid to))
  way-joined b from mid to first later inside =
      ap (λ pen. int_wrap w32 (part pen)) (sym on) ∙ by_end (nat_lt mid to) ∙ ap (λ pen. int_wrap w32 (part start +ℤ part pen)) (sym rest)
    where
      start : Pen
      start = way b from mid

      end : to ≡ min to (length b.items)
      end = grind (arith, inside)

      on : (if nat_lt mid to then fold pen_on start (slice_range b.positions mid to) else start) ≡ way b from to
      on = way_goes_on b (record { from = from; to = mid; pen = start }) from to to (record { pen = refl }) refl first later end

      rest : way b mid to ≡ (if nat_lt mid to then fold pen_on no_way (slice_range b.positions mid to) else no_way)
      rest = ap (λ n. if nat_lt mid n then fold pen_on no_way (slice_range b.positions mid n) else no_way) (sym end)

      by_end : (t : Bool) → int_wrap w32 (part (if t then fold pen_on start (slice_range b.positions mid to) else start))
          ≡ int_wrap w32 (part start +ℤ part (if t then fold pen_on no_way (slice_range b.positions mid to) else no_way))
      by_end true = fold-part start (slice_range b.positions mid to)
      by_end false = ap (int_wrap w32) (omega (arith, ints, none))

  -- ---- marks

  -- by the direction: the point of the mark is that of the glyph
  mark-forward : (b : Buffer) (i j : ℕ) (there base mark : ℤ) → j < i → i < length b.items
      → part (way b 0 i) +ʷ ((base -ʷ mark) +ʷ there -ʷ part (way b j i)) +ʷ mark ≡ part (way b 0 j) +ʷ there +ʷ base
  mark-forward b i j there base mark before inside =
      ap (λ z. z +ʷ mark) (forward_origin (part (way b 0 j)) (part (way b 0 i)) (part (way b j i)) (base -ʷ mark) there
      (way-joined b 0 j i (omega arith) (omega (arith, before)) (omega (arith, inside))))
      ∙ put_on_again (part (way b 0 j) +ʷ there) base mark

  mark-backward : (b : Buffer) (i j : ℕ) (there base mark : ℤ) → j < i → i < length b.items
      → part (way b (i + 1) (length b.items)) +ʷ ((base -ʷ mark) +ʷ there +ʷ part (way b (j + 1) (i + 1))) +ʷ mark
      ≡ part (way b (j + 1) (length b.items)) +ʷ there +ʷ base
  mark-backward b i j there base mark before inside =
      ap (λ z. z +ʷ mark) (backward_origin (part (way b (j + 1) (length b.items))) (part (way b (i + 1) (length b.items)))
      (part (way b (j + 1) (i + 1))) (base -ʷ mark) there
      (way-joined b (j + 1) (i + 1) (length b.items) (omega (arith, before)) (omega (arith, inside)) (omega arith)))
      ∙ put_on_again (part (way b (j + 1) (length b.items)) +ʷ there) base mark

  -- where a mark stands once all have followed
  module _ (offset : GlyphPosition → ℤ) (still : (p : GlyphPosition) → offset (loose p) ≡ offset p)
      (on : (w : Pen) (q p : GlyphPosition) → offset (hung true w q p) ≡ offset p +ʷ offset q -ʷ part w)
      (back : (w : Pen) (q p : GlyphPosition) → offset (hung false w q p) ≡ offset p +ʷ offset q +ʷ part w) where
    pub mark-meets : (b after : Buffer) (i j : ℕ) (mark base : ℤ) → j < i → i < length b.items → after.direction ≡ b.direction
        → length after.items ≡ length b.items → ((from to : ℕ) → way after from to ≡ way b from to)
        → nat_eq (position_at b i).attach_type CURSIVE_ATTACHED ≡ false → offset (position_at b i) ≡ base -ʷ mark
        → position_at after i ≡ moved_with b i j (position_at after j)
        → part (pen_before after i) +ʷ offset (position_at after i) +ʷ mark ≡ part (pen_before after j) +ʷ offset (position_at after j) +ʷ base
    mark-meets b after i j mark base before inside direction count ways type own is =
        ap (λ (p : GlyphPosition). part (pen_before after i) +ʷ offset p +ʷ mark)
        (is ∙ ap (λ t. if t then carried (is_horizontal b.direction) there (loose (position_at b i))
        else hung (is_forward b.direction) (way_between b i j) there (loose (position_at b i))) type)
        ∙ by_side (is_forward b.direction) refl
      where
        there : GlyphPosition
        there = position_at after j

        pens : (k : ℕ) → pen_before after k ≡ (if is_forward b.direction then way b 0 k else way b (k + 1) (length b.items))
        pens k =
            ap (λ (d : Direction). if is_forward d then way after 0 k else way after (k + 1) (length after.items)) direction
            ∙ ap (λ n. if is_forward b.direction then way after 0 k else way after (k + 1) n) count
            ∙ ap (λ w. if is_forward b.direction then w else way after (k + 1) (length b.items)) (ways 0 k)
            ∙ ap (λ w. if is_forward b.direction then way b 0 k else w) (ways (k + 1) (length b.items))

        pen : (t : Bool) → is_forward b.direction ≡ t → (k : ℕ)
            → pen_before after k ≡ (if t then way b 0 k else way b (k + 1) (length b.items))
        pen t e k = pens k ∙ ap (λ u. if u then way b 0 k else way b (k + 1) (length b.items)) e

        by_side : (t : Bool) → is_forward b.direction ≡ t
            → part (pen_before after i)
            +ʷ offset (hung t (if t then way b j i else way b (j + 1) (i + 1)) there (loose (position_at b i))) +ʷ mark
            ≡ part (pen_before after j) +ʷ offset there +ʷ base
        by_side true e =
            ap (λ z. part (pen_before after i) +ʷ z +ʷ mark) (on (way b j i) there (loose (position_at b i)))
            ∙ ap (λ (p : Pen). part p +ʷ (offset (loose (position_at b i)) +ʷ offset there -ʷ part (way b j i)) +ʷ mark) (pen true e i)
            ∙ ap (λ z. part (way b 0 i) +ʷ (z +ʷ offset there -ʷ part (way b j i)) +ʷ mark) (still (position_at b i) ∙ own)
            ∙ mark-forward b i j (offset there) base mark before inside
            ∙ ap (λ (p : Pen). part p +ʷ offset there +ʷ base) (sym (pen true e j))
        by_side false e =
            let w = way b (j + 1) (i + 1) in
            ap (λ z. part (pen_before after i) +ʷ z +ʷ mark) (back w there (loose (position_at b i)))
            ∙ ap (λ (p : Pen). part p +ʷ (offset (loose (position_at b i)) +ʷ offset there +ʷ part w) +ʷ mark) (pen false e i)
            ∙ ap (λ z. part (way b (i + 1) (length b.items)) +ʷ (z +ʷ offset there +ʷ part w) +ʷ mark) (still (position_at b i) ∙ own)
            ∙ mark-backward b i j (offset there) base mark before inside
            ∙ ap (λ (p : Pen). part p +ʷ offset there +ʷ base) (sym (pen false e j))

-- ---- anchors

pub marks-meet : (b : Buffer) → IsForest b → (i j : ℕ) (mark base : Anchor) → IsMarkOn b i j mark base
    → point_of (offsets_finished b) i mark ≡ point_of (offsets_finished b) j base
marks-meet b forest i j mark base on =
    let after = offsets_finished b in
    let type : nat_eq (position_at b i).attach_type CURSIVE_ATTACHED ≡ false = ap (λ n. nat_eq n CURSIVE_ATTACHED) on.type in
    let moved = finished-follows b forest i j on.inside on.follows in
    let x = mark-meets (λ (p : Pen). p.x) (λ (p : GlyphPosition). p.x_advance) refl (λ pen p. refl)
    (λ (p : GlyphPosition). p.x_offset) (λ p. refl) (λ w q p. refl) (λ w q p. refl) b after i j mark.x base.x on.after on.inside
    (finished-direction b forest) (finished-count b forest) (finished-ways b forest) type on.x moved in
    let y = mark-meets (λ (p : Pen). p.y) (λ (p : GlyphPosition). p.y_advance) refl (λ pen p. refl)
    (λ (p : GlyphPosition). p.y_offset) (λ p. refl) (λ w q p. refl) (λ w q p. refl) b after i j mark.y base.y on.after on.inside
    (finished-direction b forest) (finished-count b forest) (finished-ways b forest) type on.y moved in
    λ k. record { x = x k; y = y k }

carried-across : (h : Bool) (q p : GlyphPosition) → offset_across h (carried h q p) ≡ offset_across h p +ʷ offset_across h q
carried-across true q p = refl
carried-across false q p = refl

gap-is : (h : Bool) (a b : Anchor) → gap_across h a b ≡ across_of h a -ʷ across_of h b
gap-is true a b = refl
gap-is false a b = refl

loose-across : (h : Bool) (p : GlyphPosition) → offset_across h (loose p) ≡ offset_across h p
loose-across true p = refl
loose-across false p = refl

pub lines-meet : (b : Buffer) → IsForest b → (i j : ℕ) (own other : Anchor) → IsJoinedTo b i j own other
    → height_of (offsets_finished b) i own ≡ height_of (offsets_finished b) j other
lines-meet b forest i j own other on =
    ap (λ (d : Direction). offset_across (is_horizontal d) (position_at after i) +ʷ across_of (is_horizontal d) own) direction
    ∙ ap (λ (p : GlyphPosition). offset_across h p +ʷ across_of h own)
    (finished-follows b forest i j on.inside on.follows
    ∙ ap (λ t. if t then carried h there (loose (position_at b i))
    else hung (is_forward b.direction) (way_between b i j) there (loose (position_at b i))) type)
    ∙ ap (λ z. z +ʷ across_of h own)
    (carried-across h there (loose (position_at b i))
    ∙ ap (λ z. z +ʷ offset_across h there) (loose-across h (position_at b i) ∙ on.across ∙ gap-is h other own))
    ∙ put_on_after (across_of h other) (across_of h own) (offset_across h there)
    ∙ ap (λ (d : Direction). offset_across (is_horizontal d) there +ʷ across_of (is_horizontal d) other) (sym direction)
  where
    after : Buffer
    after = offsets_finished b

    h : Bool
    h = is_horizontal b.direction

    there : GlyphPosition
    there = position_at after j

    direction : after.direction ≡ b.direction
    direction = finished-direction b forest

    type : nat_eq (position_at b i).attach_type CURSIVE_ATTACHED ≡ true
    type = ap (λ n. nat_eq n CURSIVE_ATTACHED) on.type
