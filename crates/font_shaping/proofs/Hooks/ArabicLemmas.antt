-- what the shaper of Arabic does doesn't raise what lookups may ask for: forms of fonts without lookups pay for what they look at
use Rattle.std.proofs.Common.{◌≡◌, ℕ, zero, suc, ◌+◌, ◌-◌, ◌*◌, ◌≤◌, ◌==◌, ◌&&◌, ◌||◌, not, nat_le, nat_lt, Bool, true, false, if◌then◌else◌, Option, None, Some, List, drop, length, set, slice_range, refl, ◌∙◌, arith}
use Rattle.std.specs.List.{list_any}
use Rattle.shape_common.specs.Face.{FaceMeaning}
use Rattle.shape_items.specs.Buffer.{Buffer, limit_of}
use Rattle.shape_items.specs.BufferClusters.{merge_clusters, unsafe_to_break, unsafe_to_concat}
use Rattle.shape_items.specs.Items.{Item}
use Rattle.shape_items.specs.Merging.{merged_beside}
use Rattle.shape_buffer.specs.Layout.{MapMeaning}
use Rattle.shape_buffer.specs.Walks.{items_mapped}
use Rattle.shape_plan.specs.Reorder.{exchanged}
use Rattle.arabic_fallback.specs.Fallback.{ligated_by, fallback_shaped}
use Rattle.arabic_fallback.specs.Forms.{formed_by}
use Rattle.arabic_fallback.specs.Ligating.{id_given, ligation_of, put_at, merged, joined_to, joined_item, followers, ligature_made, FOLLOWED, total_of}
use Rattle.arabic_fallback.specs.Ligating.{following_charged, ligature_given, ligature_put, Walked, tried_at, with_left, tried_with, searched_at, ligated_at, ligated_to}
use Rattle.arabic_fallback.specs.Ligatures.{found_in, ligature_rows, Row}
use Rattle.arabic_fallback.specs.Merging.{MERGED, merging_charged}
use Rattle.arabic_fallback.specs.Replaced.{as_ligature}
use Rattle.arabic_fallback.specs.Seeking.{nth, is_on}
use Rattle.arabic_fallback.specs.Vain.{count_of, vain_end, vain_marked}
use Rattle.arabic_fallback.specs.Work.{looks, search_work, count_charged, search_charged}
use Rattle.arabic_fallback.specs.declared.classes.GlyphClass.{GlyphClass}
use Rattle.arabic_fallback.specs.declared.fallback.FallbackMasks.{FallbackMasks}
use Rattle.arabic_fallback.specs.declared.forms.Form.{Form}
use Rattle.arabic_fallback.specs.declared.forms.Form.TheVariants.{Init, Medi, Fina, Isol}
use Rattle.arabic_fallback.specs.declared.ligating.Ligation.{Ligation}
use Rattle.arabic_fallback.specs.declared.ligatures.Found.{Found}
use Rattle.arabic_fallback.specs.declared.ligatures.LigatureGlyphs.{LigatureGlyphs}
use Rattle.arabic_fallback.specs.declared.seeking.Rule.{Rule}
use Rattle.arabic_fallback.specs.declared.tables.TheConstants.{TRIPLES, PAIRS, MARKS}
use Rattle.arabic_stretching.specs.Stretching.{laid_out, is_leftward, turned, laid_within, stretched_in, stretched}
use Rattle.arabic_stretching.specs.Tiles.{recorded, tiles_recorded, is_tile, begins_at, span_len, span_marked_at, spans_marked_to, spans_marked}
use Rattle.script_shapers.specs.ArabicPauses.{lacks_forms, masks_of, tiles_noted, forms_made, made_by_pause}
use Rattle.script_shapers.specs.Modifiers.{count_below, count_modifiers, stepped_before, reclassed, brought_before, modifiers_moved, modifiers_reordered}
use Rattle.script_shapers.specs.declared.arabic.requests.TheConstants.{FALLBACK, STRETCH, STCH}
use Rattle.opentype_layout.specs.Tries.{NeverRaises}
use Rattle.font_shaping.proofs.SameWorkLemmas.{Same, Stays, never, same-if, same-less, same-break, same-merge, same-concat, same-mapped}

-- ---- modifier marks

same-stepped_before : (place n : ℕ) → Stays (stepped_before place n)
same-stepped_before place zero b = refl
same-stepped_before place (suc n) b = same-stepped_before place n (exchanged (place + n) (place + suc n) b)

same-brought_before : (ccc count n place : ℕ) → Stays (brought_before ccc count n place)
same-brought_before ccc zero n place b = refl
same-brought_before ccc (suc count) n place b =
    let stepped = stepped_before place n b in
    same-brought_before ccc count n (place + 1) (reclassed ccc place stepped) ∙ same-stepped_before place n b

same-modifiers_moved : (ccc other : ℕ) (b : Buffer) (start end : ℕ) → Same b (modifiers_moved ccc other b start end)
same-modifiers_moved ccc other b start end =
    let run = slice_range b.items start end in
    let n = count_below ccc run in
    let count = count_modifiers ccc run in
    let merged = merge_clusters start (start + n + count) b in
    same-if (count == 0) b b (brought_before other count n start merged) refl
    (same-brought_before other count n start merged ∙ same-merge start (start + n + count) b)

pub same-modifiers : (b : Buffer) (start end : ℕ) → Same b (modifiers_reordered b start end)
same-modifiers b start end =
    let below = modifiers_moved 220 25 b start end in
    let count = count_modifiers 220 (slice_range b.items start end) in
    same-modifiers_moved 230 26 below (start + count) end ∙ same-modifiers_moved 220 25 b start end

-- ---- stretching

same-span_marked : (i : ℕ) → Stays (span_marked_at i)
same-span_marked i b =
    let to = i + span_len (drop i b.items) in
    same-if (begins_at b.items i) b (unsafe_to_break i to b) b (same-break i to b) refl

same-spans_marked : (n : ℕ) → Stays (spans_marked_to n)
same-spans_marked zero b = refl
same-spans_marked (suc i) b = same-span_marked i (spans_marked_to i b) ∙ same-spans_marked i b

same-turned : (right_to_left : Bool) → Stays (turned right_to_left)
same-turned true b = refl
same-turned false b = refl

same-laid_within : (face : FaceMeaning) (right_to_left : Bool) → Stays (laid_within face right_to_left)
same-laid_within face right_to_left b =
    let laid = laid_out face right_to_left b in
    same-if (nat_lt (limit_of b) (length laid.items)) b b (spans_marked laid) refl (same-spans_marked (length laid.items) laid)

same-stretched_in : (face : FaceMeaning) (right_to_left : Bool) → Stays (stretched_in face right_to_left)
same-stretched_in face right_to_left b =
    let one = turned right_to_left b in
    same-turned right_to_left (laid_within face right_to_left one) ∙ same-laid_within face right_to_left one ∙ same-turned right_to_left b

pub same-stretched : (face : FaceMeaning) → Stays (stretched face)
same-stretched face b =
    let leftward = is_leftward b.direction in
    same-if (list_any is_tile b.items) b (stretched_in face leftward b) b (same-stretched_in face leftward b) refl

-- ---- one ligature

same-put_at : (i : ℕ) (item : Item) → Stays (put_at i item)
same-put_at i item b = same-if (nat_lt i (length b.items)) b (record b { items = set b.items i item }) b refl refl

same-merged : (start end : ℕ) → Stays (merged start end)
same-merged start end b =
    same-if (nat_le start end && nat_le end (length b.items)) b (merge_clusters start end b) b (same-merge start end b) refl

same-joined_to : (made : Ligation) (n : ℕ) → Stays (joined_to made n)
same-joined_to made zero b = refl
same-joined_to made (suc i) b =
    let k = made.at + 1 + i in
    let c = joined_to made i b in
    same-put_at k (joined_item made k (nth c.items k)) c ∙ same-joined_to made i b

same-made : (made : Ligation) → Stays (ligature_made made)
same-made made b =
    let one = merged made.at (made.found.last + 1) b in
    let count = made.found.last - made.at + followers made b.items in
    let two = joined_to made count one in
    same-put_at made.at (as_ligature made.own made.id (total_of made.counts) made.found.ligature (nth two.items made.at)) two
    ∙ same-joined_to made count one ∙ same-merged made.at (made.found.last + 1) b

minus-less : (a b : ℕ) → a - b ≤ a
minus-less a b = omega arith

zero-less : (a : ℕ) → 0 ≤ a
zero-less a = omega arith

self-less : (a : ℕ) → a ≤ a
self-less a = omega arith

same-id : (own : Bool) → Stays (id_given own)
same-id true b = refl
same-id false b = refl

less-given : (made : Ligation) → NeverRaises (ligature_given made)
less-given made b =
    let own = id_given made.own b in
    let paid = following_charged made own in
    let one : (ligature_made made paid).max_ops ≡ paid.max_ops = same-made made paid in
    let two : own.max_ops ≡ b.max_ops = same-id made.own b in
    let three : paid.max_ops ≤ own.max_ops = minus-less own.max_ops (followers made own.items * FOLLOWED) in
    let whole : (ligature_made made paid).max_ops ≤ b.max_ops = omega (arith, one, two, three) in whole

less-put : (at : ℕ) (found : Found) → NeverRaises (ligature_put at found)
less-put at found b =
    let paid = merging_charged at found.last b in
    let made = ligation_of at found paid in
    let one : (ligature_given made paid).max_ops ≤ paid.max_ops = less-given made paid in
    let two : paid.max_ops ≤ b.max_ops = minus-less b.max_ops (merged_beside at found.last b * MERGED) in
    let whole : (ligature_given made paid).max_ops ≤ b.max_ops = omega (arith, one, two) in whole

-- ---- the search for it

less-tried_at : (at : ℕ) (found : Option Found) (b : Buffer) → (tried_at at found b).buffer.max_ops ≤ b.max_ops
less-tried_at at None b = same-less b b refl
less-tried_at at (Some found) b = less-put at found b

same-vain : (rule : Rule) (rows : List LigatureGlyphs) (at : ℕ) → Stays (vain_marked rule rows at)
same-vain rule rows at b =
    let end = vain_end rule rows b.items at in
    same-if (nat_lt at end && nat_le end (length b.items)) b (unsafe_to_concat at end b) b (same-concat at end b) refl

abbrev AtMost : ℕ → Option ℕ → Type 0
AtMost most None = Unit {0}
AtMost most (Some left) = left ≤ most

at_most-if : (t : Bool) (most : ℕ) (x y : Option ℕ) → AtMost most x → AtMost most y → AtMost most (if t then x else y)
at_most-if true most x y one two = one
at_most-if false most x y one two = two

charged-less : (rule : Rule) (items : List Item) (at left count : ℕ) → AtMost left (count_charged rule items at left count)
charged-less rule items at left count =
    let work = search_work count (looks rule items at) in
    let lacks = left == 0 || nat_lt left work in
    at_most-if (count == 0) left (Some left) (if lacks then None else Some (left - work)) (self-less left)
    (at_most-if lacks left None (Some (left - work)) tt (minus-less left work))

less-tried_with : (rule : Rule) (rows : List LigatureGlyphs) (at : ℕ) (b : Buffer) (left : Option ℕ) → AtMost b.max_ops left
    → (tried_with rule rows at b left).buffer.max_ops ≤ b.max_ops
less-tried_with rule rows at b None most = zero-less b.max_ops
less-tried_with rule rows at b (Some left) most =
    let paid = with_left left b in
    let marked = vain_marked rule rows at paid in
    let found = found_in rule rows b.items at in
    let tried : (tried_at at found marked).buffer.max_ops ≤ marked.max_ops = less-tried_at at found marked in
    let same : marked.max_ops ≡ left = same-vain rule rows at paid in
    let less : left ≤ b.max_ops = most in
    let whole : (tried_at at found marked).buffer.max_ops ≤ b.max_ops = omega (arith, tried, same, less) in whole

less-ligated_at : (rule : Rule) (rows : List LigatureGlyphs) (at : ℕ) (s : Walked)
    → (ligated_at rule rows at s).buffer.max_ops ≤ s.buffer.max_ops
less-ligated_at rule rows at s =
    elim (not (nat_lt at s.next) && is_on rule (nth s.buffer.items at))
    as (λ t. (if t then searched_at rule rows at s.buffer else s).buffer.max_ops ≤ s.buffer.max_ops) [
      | true ↦ less-tried_with rule rows at s.buffer (search_charged rule rows s.buffer.items at s.buffer.max_ops)
          (charged-less rule s.buffer.items at s.buffer.max_ops (count_of rows (nth s.buffer.items at).glyph_id))
      | false ↦ same-less s.buffer s.buffer refl
    ]

less-ligated_to : (rule : Rule) (rows : List LigatureGlyphs) (n : ℕ) (b : Buffer)
    → (ligated_to rule rows n b).buffer.max_ops ≤ b.max_ops
less-ligated_to rule rows zero b = same-less b b refl
less-ligated_to rule rows (suc at) b =
    let s = ligated_to rule rows at b in
    let so_far : s.buffer.max_ops ≤ b.max_ops = less-ligated_to rule rows at b in
    let next : (ligated_at rule rows at s).buffer.max_ops ≤ s.buffer.max_ops = less-ligated_at rule rows at s in
    let whole : (ligated_at rule rows at s).buffer.max_ops ≤ b.max_ops = omega (arith, so_far, next) in whole

less-ligated : (face : FaceMeaning) (classes : ℕ → Option GlyphClass) (rule : Rule) (table : List Row)
    → NeverRaises (ligated_by face classes rule table)
unfolding ligated_by
less-ligated face classes rule table b = less-ligated_to rule (ligature_rows face classes table) (length b.items) b

-- ---- the pauses

module _ (face : FaceMeaning) (classes : ℕ → Option GlyphClass) where
  same-formed : (form : Form) (mask : ℕ) → Stays (formed_by face classes form mask)
  unfolding formed_by items_mapped
  same-formed form mask b = refl

  less-shaped : (masks : FallbackMasks) → NeverRaises (fallback_shaped face classes masks)
  less-shaped masks b =
      let init = formed_by face classes Init masks.init b in
      let medi = formed_by face classes Medi masks.medi init in
      let fina = formed_by face classes Fina masks.fina medi in
      let isol = formed_by face classes Isol masks.isol fina in
      let over : Rule = record { mask = masks.rlig; ignores_marks = true } in
      let marks : Rule = record { mask = masks.rlig; ignores_marks = false } in
      let triples = ligated_by face classes over TRIPLES isol in
      let pairs = ligated_by face classes over PAIRS triples in
      let same : isol.max_ops ≡ b.max_ops = same-formed Isol masks.isol fina ∙ same-formed Fina masks.fina medi
      ∙ same-formed Medi masks.medi init ∙ same-formed Init masks.init b in
      let one : triples.max_ops ≤ isol.max_ops = less-ligated face classes over TRIPLES isol in
      let two : pairs.max_ops ≤ triples.max_ops = less-ligated face classes over PAIRS triples in
      let alone = ligated_by face classes marks MARKS pairs in
      let three : alone.max_ops ≤ pairs.max_ops = less-ligated face classes marks MARKS pairs in
      let whole : alone.max_ops ≤ b.max_ops = omega (arith, same, one, two, three) in whole

less-if : (t : Bool) (b x y : Buffer) → x.max_ops ≤ b.max_ops → y.max_ops ≤ b.max_ops → (if t then x else y).max_ops ≤ b.max_ops
less-if true b x y one two = one
less-if false b x y one two = two

pub less-arabic_pause : (n : ℕ) (map : MapMeaning) (face : FaceMeaning) (classes : ℕ → Option GlyphClass)
    → NeverRaises (made_by_pause n map face classes)
less-arabic_pause n map face classes b =
    let noted = tiles_noted map b in
    let formed = forms_made map face classes b in
    let shaped = fallback_shaped face classes (masks_of map.one_mask) b in
    less-if (n == STRETCH) b noted (if n == FALLBACK then formed else b)
    (never (tiles_noted map)
    (λ c. same-if (map.one_mask STCH == 0) c c (tiles_recorded c) refl (same-mapped recorded c)) b)
    (less-if (n == FALLBACK) b formed b
    (less-if (lacks_forms map) b shaped b (less-shaped face classes (masks_of map.one_mask) b) (same-less b b refl)) (same-less b b refl))
