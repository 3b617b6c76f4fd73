-- what marking a span and putting a position keep, every lookup keeps
use Prim.Native.Nat.{zero}
use Rattle.std.proofs.Common.{ℕ, suc, ◌+◌, ◌&&◌, Bool, true, false, Option, Some, None, is_some, length, min, nat_eq, if◌then◌else◌}
use Rattle.std.specs.Prelude.{ℤ}
use Rattle.std.specs.Option.{option_map_or, option_and_then}
use Rattle.shape_common.specs.Direction.{is_horizontal}
use Rattle.shape_common.specs.declared.positions.GlyphPosition.{GlyphPosition}
use Rattle.shape_font.specs.Bytes.{u16_of}
use Rattle.shape_items.specs.Buffer.{Buffer}
use Rattle.layout_tables.specs.Lookups.{subtable_count_of, subtable_of}
use Rattle.layout_tables.specs.Offsets.{offset16_of}
use Rattle.layout_tables.specs.declared.lookups.LookupSubtable.{LookupSubtable}
use Rattle.layout_matching.specs.Loops.{times}
use Rattle.layout_matching.specs.Skipping.{nth, shares}
use Rattle.layout_matching.specs.declared.lookup.Lookup.{Lookup}
use Rattle.layout_positions.specs.Anchors.{number_at, anchor_of_mark}
use Rattle.layout_positions.specs.Attachment.{parent_of, freed, followed, settled, each, MOST_LINKS, offsets_finished}
use Rattle.layout_positions.specs.Cursive.{joined_across, joined_along, cursive_put, cursive_with, cursive_at, cursive_applied, entry_of, exit_of, left_at}
use Rattle.layout_positions.specs.Sizes.{apart, footing, placed}
use Rattle.layout_positions.specs.Edits.{position_at, position_put, broken, concat_marked}
use Rattle.layout_positions.specs.Lookups.{Applied, unapplied, glyph_after, end_after, glyph_before, start_before}
use Rattle.layout_positions.specs.Marks.{mark_met, mark_put, mark_array, base_anchor, mark_attached, mark_number, row_of, mark_on_row, mark_on_glyph}
use Rattle.layout_positions.specs.Marks.{mark_base_at, mark_base_applied, ligature_matrix, component_of, mark_on_matrix, mark_on_ligature}
use Rattle.layout_positions.specs.Marks.{mark_ligature_at, mark_ligature_applied, for_marks, are_together, mark_on_mark, mark_mark_at}
use Rattle.layout_positions.specs.Marks.{mark_mark_applied}
use Rattle.layout_positions.specs.Pairs.{glyph_adjusted, single_of, single_put, single_applied, pair_of, pair_marked, pair_ended, pair_moves, pair_put, pair_with, pair_at_number, has_pairs, pair_applied}
use Rattle.layout_positions.specs.Turning.{Turn, turn_next, turn_at, turn_step, first_turn, turned, follows, parent_freed, link_put, attached}
use Rattle.layout_positions.specs.Subtables.{if_first_format, kind_applied, unplaced, sought, kind_placed, Trial, trial_of, subtable_tried, next_tried, trial_step, lookup_tried}
use Rattle.layout_positions.specs.declared.anchors.Anchor.{Anchor}
use Rattle.layout_positions.specs.declared.bases.BaseSeen.{BaseSeen}
use Rattle.layout_positions.specs.declared.pairs.PairValues.{PairValues}
use Rattle.layout_positions.specs.declared.values.Adjustment.{Adjustment}

module _ (P : Buffer → Buffer → Type 0) (same : (b : Buffer) → P b b) (after : (a b c : Buffer) → P a b → P b c → P a c)
    (by_break : (start end : ℕ) (b : Buffer) → P b (broken start end b))
    (by_concat : (start end : ℕ) (b : Buffer) → P b (concat_marked start end b))
    (by_position : (i : ℕ) (p : GlyphPosition) (b : Buffer) → P b (position_put i p b)) where
  step-if : (t : Bool) (b c d : Buffer) → P b c → P b d → P b (if t then c else d)
  step-if true b c d x y = x
  step-if false b c d x y = y

  applied-if : (t : Bool) (b : Buffer) (x y : Applied) → P b x.buffer → P b y.buffer → P b (if t then x else y).buffer
  applied-if true b x y k m = k
  applied-if false b x y k m = m

  -- if there is something, what is made of it; else what is marked
  step-or : {X : Type 0} (f : X → Applied) (b c : Buffer) → ((x : X) → P b (f x).buffer) → P b c
      → (o : Option X) → P b (option_map_or f o (unapplied c)).buffer
  step-or f b c some none None = none
  step-or f b c some none (Some x) = some x

  step-times : {S : Type 0} (view : S → Buffer) (f : S → S) → ((s : S) → P (view s) (view (f s)))
      → (n : ℕ) (s : S) → P (view s) (view (times f n s))
  step-times view f one zero s = same (view s)
  step-times view f one (suc n) s =
      after (view s) (view (times f n s)) (view (f (times f n s))) (step-times view f one n s) (one (times f n s))

  -- ---- single and pair adjustment

  step-adjusted : (v : Adjustment) (i : ℕ) (b : Buffer) → P b (glyph_adjusted v i b)
  step-adjusted v i b = by_position i _ b

  pub step-single : (l : Lookup) (start i : ℕ) (b : Buffer) → P b (single_applied l start i b).buffer
  step-single l start i b =
      step-or (single_put i b) b b (λ v. step-adjusted v i b) (same b) (single_of l start (nth b.items i).glyph_id)

  step-marked : (listed moved : Bool) (i j : ℕ) (b : Buffer) → P b (pair_marked listed moved i j b)
  step-marked listed moved i j b =
      step-if moved b (broken i (j + 1) b) (if listed then b else concat_marked i (j + 1) b) (by_break i (j + 1) b)
      (step-if listed b b (concat_marked i (j + 1) b) (same b) (by_concat i (j + 1) b))

  step-ended : (v : PairValues) (i j : ℕ) (b : Buffer) → P b (pair_ended v i j b).buffer
  step-ended v i j b =
      applied-if v.has_second b (record { buffer = broken i (min (j + 2) (length b.items)) b; next = Some (j + 1) })
      (record { buffer = b; next = Some j }) (by_break i (min (j + 2) (length b.items)) b) (same b)

  step-pair_put : (listed : Bool) (i j : ℕ) (b : Buffer) (v : PairValues) → P b (pair_put listed i j b v).buffer
  step-pair_put listed i j b v =
      let first = glyph_adjusted v.first i b in
      let second = glyph_adjusted v.second j first in
      let third = pair_marked listed (pair_moves (is_horizontal b.direction) v) i j second in
      after b first (pair_ended v i j third).buffer (step-adjusted v.first i b)
      (after first second (pair_ended v i j third).buffer (step-adjusted v.second j first)
      (after second third (pair_ended v i j third).buffer (step-marked listed _ i j second) (step-ended v i j third)))

  step-pair_with : (l : Lookup) (start i number : ℕ) (b : Buffer) (j : ℕ) → P b (pair_with l start i number b j).buffer
  step-pair_with l start i number b j =
      step-or (pair_put (nat_eq (u16_of l.table.now start) 1) i j b) b (concat_marked i (j + 1) b)
      (step-pair_put (nat_eq (u16_of l.table.now start) 1) i j b) (by_concat i (j + 1) b)
      (pair_of l start number (nth b.items i).glyph_id (nth b.items j).glyph_id)

  step-pair_at : (l : Lookup) (start i : ℕ) (b : Buffer) (number : ℕ) → P b (pair_at_number l start i b number).buffer
  step-pair_at l start i b number =
      step-or (pair_with l start i number b) b (concat_marked i (end_after l b.items i) b) (step-pair_with l start i number b)
      (by_concat i (end_after l b.items i) b) (glyph_after l b.items i)

  pub step-pair : (l : Lookup) (start i : ℕ) (b : Buffer) → P b (pair_applied l start i b).buffer
  step-pair l start i b =
      applied-if (has_pairs l.table.now start) b _ (unapplied b)
      (step-or (pair_at_number l start i b) b b (step-pair_at l start i b) (same b)
      (number_at l.table.now start (start + 2) (nth b.items i).glyph_id)) (same b)

  -- ---- cursive attachment

  step-turn_or : (s : Turn) (o : Option ℕ) → P s.buffer (option_map_or (turn_at s) o s).buffer
  step-turn_or s None = same s.buffer
  step-turn_or s (Some j) = by_position j _ s.buffer

  step-turned : (child end : ℕ) (b : Buffer) → P b (turned child end b)
  step-turned child end b =
      after b (freed child b) (turned child end b) (by_position child _ b)
      (step-times (λ (s : Turn). s.buffer) (turn_step end) (λ s. step-turn_or s (turn_next end s)) (length b.items)
      (first_turn child b))

  step-attached : (child parent : ℕ) (v : ℤ) (b : Buffer) → P b (attached child parent v b)
  step-attached child parent v b =
      let first = turned child parent b in
      let second = link_put child parent v first in
      after b first (parent_freed child parent second) (step-turned child parent b)
      (after first second (parent_freed child parent second) (by_position child _ first)
      (step-if (follows parent child second) second _ second (by_position parent _ second) (same second)))

  step-across : (reversed : Bool) (i j : ℕ) (entry exit : Anchor) (b : Buffer) → P b (joined_across reversed i j entry exit b)
  step-across true i j entry exit b = step-attached i j _ b
  step-across false i j entry exit b = step-attached j i _ b

  step-along : (i j : ℕ) (entry exit : Anchor) (b : Buffer) → P b (joined_along i j entry exit b)
  step-along i j entry exit b =
      let first = broken i (j + 1) b in
      let second = position_put i (left_at b.direction exit (position_at first i)) first in
      after b first (joined_along i j entry exit b) (by_break i (j + 1) b)
      (after first second (joined_along i j entry exit b) (by_position i _ first) (by_position j _ second))

  step-cursive_put : (l : Lookup) (i j : ℕ) (entry : Anchor) (b : Buffer) (exit : Anchor) → P b (cursive_put l i j entry b exit).buffer
  step-cursive_put l i j entry b exit =
      let along = joined_along i j (placed l entry) (placed l exit) b in
      after b along (joined_across (shares l.flags 1) i j (apart l entry exit) (footing l exit) along)
      (step-along i j (placed l entry) (placed l exit) b) (step-across (shares l.flags 1) i j (apart l entry exit) (footing l exit) along)

  step-cursive_with : (l : Lookup) (start j : ℕ) (entry : Anchor) (b : Buffer) (i : ℕ) → P b (cursive_with l start j entry b i).buffer
  step-cursive_with l start j entry b i =
      step-or (cursive_put l i j entry b) b (concat_marked i (j + 1) b) (step-cursive_put l i j entry b) (by_concat i (j + 1) b)
      (exit_of l start (nth b.items i).glyph_id)

  step-cursive_at : (l : Lookup) (start j : ℕ) (b : Buffer) (entry : Anchor) → P b (cursive_at l start j b entry).buffer
  step-cursive_at l start j b entry =
      step-or (cursive_with l start j entry b) b (concat_marked (start_before l b.items j) (j + 1) b) (step-cursive_with l start j entry b)
      (by_concat (start_before l b.items j) (j + 1) b) (glyph_before l b.items j)

  pub step-cursive : (l : Lookup) (start j : ℕ) (b : Buffer) → P b (cursive_applied l start j b).buffer
  step-cursive l start j b =
      step-or (cursive_at l start j b) b b (step-cursive_at l start j b) (same b) (entry_of l start (nth b.items j).glyph_id)

  -- ---- marks

  step-mark_put : (i j : ℕ) (mark : Anchor) (b : Buffer) (base : Anchor) → P b (mark_put i j mark b base).buffer
  step-mark_put i j mark b base =
      after b (broken j (i + 1) b) (mark_put i j mark b base).buffer (by_break j (i + 1) b) (by_position i _ (broken j (i + 1) b))

  step-attach_mark : (l : Lookup) (start i j number row : ℕ) (matrix : Option ℕ) (b : Buffer)
      → P b (mark_attached l start i j number row matrix b).buffer
  step-attach_mark l start i j number row matrix b =
      let mark = anchor_of_mark l number (mark_array l.table.now start) in
      step-or (mark_met l i j mark b) b b (λ base. step-mark_put i j (footing l mark) b (apart l base mark)) (same b)
      (option_and_then (base_anchor l start number row) matrix)

  step-on_glyph : (l : Lookup) (start i number : ℕ) (b : Buffer) (j : ℕ) → P b (mark_on_glyph l start i number b j).buffer
  step-on_glyph l start i number b j =
      step-or (mark_on_row l start i j number b) b (concat_marked j (i + 1) b)
      (λ row. step-attach_mark l start i j number row (offset16_of l.table.now start (start + 10)) b) (by_concat j (i + 1) b)
      (row_of l start j b)

  step-base_at : (l : Lookup) (start : ℕ) (base : Option ℕ) (i : ℕ) (b : Buffer) (number : ℕ)
      → P b (mark_base_at l start base i b number).buffer
  step-base_at l start base i b number =
      step-or (mark_on_glyph l start i number b) b (concat_marked 0 (i + 1) b) (step-on_glyph l start i number b) (by_concat 0 (i + 1) b) base

  pub step-base : (l : Lookup) (start : ℕ) (base : Option ℕ) (i : ℕ) (b : Buffer) → P b (mark_base_applied l start base i b).buffer
  step-base l start base i b =
      step-or (mark_base_at l start base i b) b b (step-base_at l start base i b) (same b) (mark_number l start i b)

  step-on_matrix : (l : Lookup) (start i j number : ℕ) (b : Buffer) (matrix : ℕ) → P b (mark_on_matrix l start i j number b matrix).buffer
  step-on_matrix l start i j number b matrix =
      let count = u16_of l.table.now matrix in
      applied-if (nat_eq count 0) b (unapplied (concat_marked j (i + 1) b)) _ (by_concat j (i + 1) b)
      (step-attach_mark l start i j number (component_of count (nth b.items j) (nth b.items i)) (Some matrix) b)

  step-on_ligature : (l : Lookup) (start i number : ℕ) (b : Buffer) (j : ℕ) → P b (mark_on_ligature l start i number b j).buffer
  step-on_ligature l start i number b j =
      step-or (mark_on_matrix l start i j number b) b (concat_marked j (i + 1) b) (step-on_matrix l start i j number b) (by_concat j (i + 1) b)
      (option_and_then (ligature_matrix l.table.now start) (row_of l start j b))

  step-ligature_at : (l : Lookup) (start : ℕ) (base : Option ℕ) (i : ℕ) (b : Buffer) (number : ℕ)
      → P b (mark_ligature_at l start base i b number).buffer
  step-ligature_at l start base i b number =
      step-or (mark_on_ligature l start i number b) b (concat_marked 0 (i + 1) b) (step-on_ligature l start i number b) (by_concat 0 (i + 1) b) base

  pub step-ligature : (l : Lookup) (start : ℕ) (base : Option ℕ) (i : ℕ) (b : Buffer) → P b (mark_ligature_applied l start base i b).buffer
  step-ligature l start base i b =
      step-or (mark_ligature_at l start base i b) b b (step-ligature_at l start base i b) (same b) (mark_number l start i b)

  step-on_mark : (l : Lookup) (start i number : ℕ) (b : Buffer) (j : ℕ) → P b (mark_on_mark l start i number b j).buffer
  step-on_mark l start i number b j =
      applied-if (shares (nth b.items j).properties.glyph_class.0 8 && are_together (nth b.items i) (nth b.items j)) b _
      (unapplied (concat_marked j (i + 1) b)) (step-on_glyph l start i number b j) (by_concat j (i + 1) b)

  step-mark_at : (l : Lookup) (start i : ℕ) (b : Buffer) (number : ℕ) → P b (mark_mark_at l start i b number).buffer
  step-mark_at l start i b number =
      step-or (mark_on_mark l start i number b) b (concat_marked (start_before (for_marks l) b.items i) (i + 1) b)
      (step-on_mark l start i number b) (by_concat (start_before (for_marks l) b.items i) (i + 1) b) (glyph_before (for_marks l) b.items i)

  pub step-mark : (l : Lookup) (start i : ℕ) (b : Buffer) → P b (mark_mark_applied l start i b).buffer
  step-mark l start i b = step-or (mark_mark_at l start i b) b b (step-mark_at l start i b) (same b) (mark_number l start i b)

  -- ---- a lookup

  step-format : (l : Lookup) (start : ℕ) (b : Buffer) (made : Applied) → P b made.buffer → P b (if_first_format l start b made).buffer
  step-format l start b made preserves = applied-if (nat_eq (u16_of l.table.now start) 1) b made (unapplied b) preserves (same b)

  step-kind : (l : Lookup) (subtable : LookupSubtable) (base : Option ℕ) (i : ℕ) (b : Buffer) → P b (kind_applied l subtable base i b).buffer
  step-kind l subtable base i b =
      applied-if (nat_eq subtable.kind 1) b _ _ (step-single l subtable.start i b)
      (applied-if (nat_eq subtable.kind 2) b _ _ (step-pair l subtable.start i b)
      (applied-if (nat_eq subtable.kind 3) b _ _ (step-format l subtable.start b _ (step-cursive l subtable.start i b))
      (applied-if (nat_eq subtable.kind 4) b _ _ (step-format l subtable.start b _ (step-base l subtable.start base i b))
      (applied-if (nat_eq subtable.kind 5) b _ _ (step-format l subtable.start b _ (step-ligature l subtable.start base i b))
      (applied-if (nat_eq subtable.kind 6) b _ _ (step-format l subtable.start b _ (step-mark l subtable.start i b)) (same b))))))

  step-sought : (l : Lookup) (subtable : LookupSubtable) (i : ℕ) (b : Buffer) (seen : BaseSeen) (o : Option ℕ)
      → P b (option_map_or (kind_placed l subtable i b seen) o (unplaced 0 seen b)).buffer
  step-sought l subtable i b seen None = same b
  step-sought l subtable i b seen (Some left) = step-kind l subtable seen.place i b

  step-next : (l : Lookup) (i : ℕ) (s : Trial) (o : Option LookupSubtable)
      → P s.buffer (option_map_or (subtable_tried l i s) o (trial_of s (unplaced s.left s.seen s.buffer))).buffer
  step-next l i s None = same s.buffer
  step-next l i s (Some subtable) =
      let found = sought l subtable i s.buffer s.seen s.left in step-sought l subtable i s.buffer found.seen found.left

  trial-if : (t : Bool) (b : Buffer) (x y : Trial) → P b x.buffer → P b y.buffer → P b (if t then x else y).buffer
  trial-if true b x y k m = k
  trial-if false b x y k m = m

  pub step-trial : (l : Lookup) (i : ℕ) (s : Trial) → P s.buffer (trial_step l i s).buffer
  step-trial l i s =
      trial-if (is_some s.next) s.buffer (record s { subtable = s.subtable + 1 }) (next_tried l i s) (same s.buffer)
      (step-next l i s (subtable_of l.table.now 9 l.place s.subtable))

  pub step-tried : (l : Lookup) (i left : ℕ) (seen : BaseSeen) (b : Buffer) → P b (lookup_tried l i left seen b).buffer
  step-tried l i left seen b =
      step-times (λ (s : Trial). s.buffer) (trial_step l i) (step-trial l i) (subtable_count_of l.table.now l.place)
      (record { buffer = b; next = None; seen = seen; left = left; subtable = 0 })

  -- ---- offsets

  step-parent : (level i : ℕ) (b : Buffer) → ((j : ℕ) (c : Buffer) → P c (settled level j c)) → (o : Option ℕ)
      → P b (option_map_or (λ j. followed i j (settled level j (freed i b))) o (freed i b))
  step-parent level i b before None = by_position i _ b
  step-parent level i b before (Some j) =
      let there = settled level j (freed i b) in
      after b (freed i b) (followed i j there) (by_position i _ b)
      (after (freed i b) there (followed i j there) (before j (freed i b)) (by_position i _ there))

  step-settled : (level i : ℕ) (b : Buffer) → P b (settled level i b)
  step-settled zero i b = by_position i _ b
  step-settled (suc level) i b = step-parent level i b (λ j c. step-settled level j c) (parent_of b i)

  step-each : (n : ℕ) (b : Buffer) → P b (each (settled MOST_LINKS) n b)
  step-each zero b = same b
  step-each (suc n) b =
      let before = each (settled MOST_LINKS) n b in
      after b before (settled MOST_LINKS n before) (step-each n b) (step-settled MOST_LINKS n before)

  pub step-finished : (b : Buffer) → P b (offsets_finished b)
  step-finished b = step-each (length b.items) b
