-- Forms and ligatures preserve clusters and flags: a ligature merges the clusters of its components, and other items change in
-- place.
use Rattle.std.proofs.Common.{◌≡◌, ◌≤◌, ◌&&◌, ◌||◌, ◌==◌, not, ◌+◌, bit_and, ◌-◌, ℕ, zero, suc, Bool, true, false, nat_lt, nat_le, Option, None, Some, List, length, set, refl, ap, sym, inl, ◌∙◌, subst, arith, if◌then◌else◌}
use Rattle.std.proofs.lemmas.Bool.Decides.{nat_tests}
use Rattle.std.proofs.Math.Seq.{map-set_same}
use Rattle.std.specs.Option.{option_map_or}
use Rattle.shape_common.specs.Face.{FaceMeaning}
use Rattle.shape_items.specs.Buffer.{Buffer}
use Rattle.shape_items.specs.BufferClusters.{merge_clusters, merge_at, unsafe_to_concat, with_glyph_flags}
use Rattle.shape_items.proofs.Merging.KeyLemmas.{keys-map_range}
use Rattle.shape_items.specs.ClusterOrder.{IsMonotoneLevel, PreservesClusters}
use Rattle.shape_items.specs.Clusters.{clusters, map_range, mark_concat}
use Rattle.shape_items.specs.Items.{Item, new_item}
use Rattle.shape_items.specs.PreservesFlags.{PreservesFlags, some_has}
use Rattle.shape_items.proofs.Deletion.DeletePreserves.{merged_preserves}
use Rattle.shape_items.proofs.Flags.FlagLemmas.{PreservesFlags-same, PreservesFlags-then}
use Rattle.shape_items.proofs.Order.DrawsInOrder.{PreservesClusters-from_draws}
use Rattle.arabic_fallback.proofs.KeptLemmas.{staying, kept-staying, staying-draws, staying-some}
use Rattle.shape_items.proofs.Merging.ClusterLemmas.{merge_clusters-monotone}
use Rattle.shape_buffer.specs.Preservation.{PreservesOrder, IsClusterPreserving, IsFlagPreserving}
use Rattle.shape_buffer.proofs.Steps.PreservationLemmas.{PreservesClusters-equal, PreservesClusters-same, PreservesOrder-same, PreservesOrder-then, order-items_mapped, flags-items_mapped, flags-same_masks, flags-unsafe_to_concat}
use Rattle.arabic_fallback.specs.Replaced.{with_glyph, classed_by, with_components, as_component, as_ligature, replaced, gone, LIGATURE_CLASS}
use Rattle.arabic_fallback.specs.Seeking.{nth, is_on}
use Rattle.arabic_fallback.specs.Forms.{listed, formed, form_rows, formed_by}
use Rattle.arabic_fallback.specs.Ligatures.{Row, found_in, ligature_rows}
use Rattle.arabic_fallback.specs.Ligating.{put_at, merged, is_component, component_among, joined_item, joined_at, joined_to, followers, total_of}
use Rattle.arabic_fallback.specs.Ligating.{put_over, ligature_made, id_given, ligation_of, following_charged, ligature_given, ligature_put, Walked}
use Rattle.arabic_fallback.specs.Ligating.{tried_at, with_left, tried_with, searched_at, ligated_at, ligated_to, each_ligated, cleared_away}
use Rattle.arabic_fallback.specs.Merging.{merging_charged}
use Rattle.arabic_fallback.specs.Vain.{vain_end, concat_marked, vain_marked}
use Rattle.arabic_fallback.specs.Work.{search_charged}
use Rattle.arabic_fallback.specs.Fallback.{ligated_by, all_formed, all_ligated, fallback_shaped}
use Rattle.arabic_fallback.specs.declared.classes.GlyphClass.{GlyphClass}
use Rattle.arabic_fallback.specs.declared.fallback.FallbackMasks.{FallbackMasks}
use Rattle.arabic_fallback.specs.declared.forms.Form.{Form}
use Rattle.arabic_fallback.specs.declared.forms.Form.TheVariants.{Init, Medi, Fina, Isol}
use Rattle.arabic_fallback.specs.declared.forms.FormGlyphs.{FormGlyphs}
use Rattle.arabic_fallback.specs.declared.ligating.Ligation.{Ligation}
use Rattle.arabic_fallback.specs.declared.ligatures.Found.{Found}
use Rattle.arabic_fallback.specs.declared.ligatures.LigatureGlyphs.{LigatureGlyphs}
use Rattle.arabic_fallback.specs.declared.replaced.NewGlyph.{NewGlyph}
use Rattle.arabic_fallback.specs.declared.seeking.Rule.{Rule}
use Rattle.arabic_fallback.specs.declared.tables.TheConstants.{TRIPLES, PAIRS, MARKS, FORMS}

-- ---- items in the same cluster, with the same mask

abbrev Same : Item → Item → Type 0
Same x y = (y.cluster ≡ x.cluster) × (y.mask ≡ x.mask)

classed_by-same : (c guess : Option GlyphClass) (x : Item) → Same x (classed_by c guess x)
classed_by-same (Some c) guess x = (refl, refl)
classed_by-same None (Some c) x = (refl, refl)
classed_by-same None None x = (refl, refl)

formed-same : (rule : Rule) (rows : List FormGlyphs) (x : Item) → Same x (formed rule rows x)
formed-same rule rows x = elim (is_on rule x) as (λ t. Same x (if t then option_map_or (λ form. replaced form None x) (listed rows x.glyph_id) x else x)) [
  | true ↦ by_form (listed rows x.glyph_id)
  | false ↦ (refl, refl)
]
  where
    by_form : (o : Option NewGlyph) → Same x (option_map_or (λ form. replaced form None x) o x)
    by_form None = (refl, refl)
    by_form (Some form) = classed_by-same form.class None (with_glyph form.glyph x)

joined-same : (made : Ligation) (k : ℕ) (x : Item) → Same x (joined_item made k x)
joined-same made k x =
    let inner : Item = if made.own || nat_lt made.found.last k then as_component made.id (component_among made k x) x else x in
    let kept : Same x inner = elim (made.own || nat_lt made.found.last k) as (λ t. Same x (if t then as_component made.id (component_among made k x) x else x)) [
      | true ↦ (refl, refl)
      | false ↦ (refl, refl)
    ] in
    elim (is_component made.found k) as (λ t. Same x (if t then gone x else inner)) [ true ↦ (refl, refl) | false ↦ kept ]

ligature-same : (own : Bool) (id components : ℕ) (new : NewGlyph) (x : Item) → Same x (as_ligature own id components new x)
unfolding as_ligature
ligature-same true id components new x = classed_by-same new.class (Some LIGATURE_CLASS) (with_glyph new.glyph (with_components id components x))
ligature-same false id components new x = classed_by-same new.class None (with_glyph new.glyph x)

-- ---- an item put in the place of one like it

put-order : (i : ℕ) (y : Item) (b : Buffer) → Same (nth b.items i) y → PreservesOrder b (put_at i y b)
put-order i y b same =
    let P : Bool → Type 0 = λ t. PreservesOrder b (if t then record b { items = set b.items i y } else b) in
    elim (nat_lt i (length b.items)) as P [
      | true ↦ record {
        clusters = PreservesClusters-equal _ _ (map-set_same (λ (x : Item). x.cluster) b.items i y (new_item 0 0) same.0);
        direction = refl;
        flags = refl;
        level = refl;
      }
      | false ↦ PreservesOrder-same b
    ]

put-flags : (i : ℕ) (y : Item) (b : Buffer) → Same (nth b.items i) y → PreservesFlags b (put_at i y b)
put-flags i y b same =
    let P : Bool → Type 0 = λ t. PreservesFlags b (if t then record b { items = set b.items i y } else b) in
    elim (nat_lt i (length b.items)) as P [
      | true ↦ flags-same_masks b (set b.items i y) (map-set_same (λ (x : Item). x.mask) b.items i y (new_item 0 0) same.1)
      | false ↦ PreservesFlags-same b
    ]

-- ---- clusters merged

merged-order : (start end : ℕ) → IsClusterPreserving (merged start end)
merged-order start end b monotone =
    let P : Bool → Type 0 = λ t. (nat_le start end && nat_le end (length b.items)) ≡ t → PreservesOrder b (if t then merge_clusters start end b else b) in
    let cases : P (nat_le start end && nat_le end (length b.items)) = elim (nat_le start end && nat_le end (length b.items)) as P [
      | true ↦ λ e.
          let within : end ≤ length b.items = grind (arith, nat_tests, e) in
          let at : merge_clusters start end b ≡ merge_at start end b = merge_clusters-monotone start end b monotone in
          record {
            clusters = (merged_preserves start end b (merge_clusters start end b) within refl).0;
            direction = ap (λ (m : Buffer). m.direction) at;
            flags = ap (λ (m : Buffer). m.flags) at;
            level = ap (λ (m : Buffer). m.cluster_level) at;
          }
      | false ↦ λ e. PreservesOrder-same b
    ] in
    cases refl

merged-flags : (start end : ℕ) → IsFlagPreserving (merged start end)
merged-flags start end b =
    let P : Bool → Type 0 = λ t. (nat_le start end && nat_le end (length b.items)) ≡ t → PreservesFlags b (if t then merge_clusters start end b else b) in
    let cases : P (nat_le start end && nat_le end (length b.items)) = elim (nat_le start end && nat_le end (length b.items)) as P [
      | true ↦ λ e.
          let within : end ≤ length b.items = grind (arith, nat_tests, e) in
          (merged_preserves start end b (merge_clusters start end b) within refl).1
      | false ↦ λ e. PreservesFlags-same b
    ] in
    cases refl

-- ---- a ligature

joined_to-order : (made : Ligation) (n : ℕ) (b : Buffer) → PreservesOrder b (joined_to made n b)
joined_to-order made zero b = PreservesOrder-same b
joined_to-order made (suc i) b =
    let c = joined_to made i b in
    let k = made.at + 1 + i in
    PreservesOrder-then b c (joined_at made k c) (joined_to-order made i b)
    (put-order k (joined_item made k (nth c.items k)) c (joined-same made k (nth c.items k)))

joined_to-flags : (made : Ligation) (n : ℕ) (b : Buffer) → PreservesFlags b (joined_to made n b)
joined_to-flags made zero b = PreservesFlags-same b
joined_to-flags made (suc i) b =
    let c = joined_to made i b in
    let k = made.at + 1 + i in
    PreservesFlags-then b c (joined_at made k c) (joined_to-flags made i b)
    (put-flags k (joined_item made k (nth c.items k)) c (joined-same made k (nth c.items k)))

over-order : (made : Ligation) (b : Buffer) → PreservesOrder b (put_over made b)
over-order made b = put-order made.at _ b (ligature-same made.own made.id (total_of made.counts) made.found.ligature (nth b.items made.at))

over-flags : (made : Ligation) (b : Buffer) → PreservesFlags b (put_over made b)
over-flags made b = put-flags made.at _ b (ligature-same made.own made.id (total_of made.counts) made.found.ligature (nth b.items made.at))

made-order : (made : Ligation) → IsClusterPreserving (ligature_made made)
made-order made b monotone =
    let c = merged made.at (made.found.last + 1) b in
    let d = joined_to made (made.found.last - made.at + followers made b.items) c in
    PreservesOrder-then b c (put_over made d) (merged-order made.at (made.found.last + 1) b monotone)
    (PreservesOrder-then c d (put_over made d) (joined_to-order made _ c) (over-order made d))

made-flags : (made : Ligation) → IsFlagPreserving (ligature_made made)
made-flags made b =
    let c = merged made.at (made.found.last + 1) b in
    let d = joined_to made (made.found.last - made.at + followers made b.items) c in
    PreservesFlags-then b c (put_over made d) (merged-flags made.at (made.found.last + 1) b)
    (PreservesFlags-then c d (put_over made d) (joined_to-flags made _ c) (over-flags made d))

given-order : (own : Bool) (b : Buffer) → PreservesOrder b (id_given own b)
given-order true b = record { clusters = PreservesClusters-same _; direction = refl; flags = refl; level = refl }
given-order false b = PreservesOrder-same b

given-flags : (own : Bool) (b : Buffer) → PreservesFlags b (id_given own b)
given-flags true b = record { flags = refl; stays_set = λ e. e; none_new = λ flag is some. inl some }
given-flags false b = PreservesFlags-same b

left-order : (left : ℕ) (b : Buffer) → PreservesOrder b (with_left left b)
left-order left b = record { clusters = PreservesClusters-same _; direction = refl; flags = refl; level = refl }

left-flags : (left : ℕ) (b : Buffer) → PreservesFlags b (with_left left b)
left-flags left b = record { flags = refl; stays_set = λ e. e; none_new = λ flag is some. inl some }

ligature_given-order : (made : Ligation) → IsClusterPreserving (ligature_given made)
ligature_given-order made b monotone =
    let c = id_given made.own b in
    let d = following_charged made c in
    let given = given-order made.own b in
    PreservesOrder-then b c _ given
    (PreservesOrder-then c d _ (left-order d.max_ops c) (made-order made d (subst IsMonotoneLevel (sym given.level) monotone)))

ligature_given-flags : (made : Ligation) → IsFlagPreserving (ligature_given made)
ligature_given-flags made b =
    let c = id_given made.own b in
    let d = following_charged made c in
    PreservesFlags-then b c _ (given-flags made.own b) (PreservesFlags-then c d _ (left-flags d.max_ops c) (made-flags made d))

put_ligature-order : (at : ℕ) (found : Found) → IsClusterPreserving (ligature_put at found)
put_ligature-order at found b monotone =
    let c = merging_charged at found.last b in
    PreservesOrder-then b c _ (left-order c.max_ops b) (ligature_given-order (ligation_of at found c) c monotone)

put_ligature-flags : (at : ℕ) (found : Found) → IsFlagPreserving (ligature_put at found)
put_ligature-flags at found b =
    let c = merging_charged at found.last b in
    PreservesFlags-then b c _ (left-flags c.max_ops b) (ligature_given-flags (ligation_of at found c) c)

-- ---- all ligatures

-- marks of what was looked at in vain
order-unsafe_to_concat : (start end : ℕ) (b : Buffer) → start ≤ end → PreservesOrder b (unsafe_to_concat start end b)
order-unsafe_to_concat start end b ordered =
    let marked = map_range mark_concat start end b.items in
    elim (bit_and b.flags.0 64 == 64) as (λ t. PreservesOrder b (if t then record (with_glyph_flags b) { items = marked } else b)) [
      | true ↦ record {
        clusters = PreservesClusters-equal _ _ (keys-map_range (λ (x : Item). x.cluster) mark_concat (λ x. refl) start end b.items ordered);
        direction = refl;
        flags = refl;
        level = refl;
      }
      | false ↦ PreservesOrder-same b
    ]

concat-order : (start end : ℕ) (b : Buffer) → PreservesOrder b (concat_marked start end b)
concat-order start end b =
    let P : Bool → Type 0 = λ t. (nat_lt start end && nat_le end (length b.items)) ≡ t → PreservesOrder b (if t then unsafe_to_concat start end b else b) in
    let cases : P (nat_lt start end && nat_le end (length b.items)) = elim (nat_lt start end && nat_le end (length b.items)) as P [
      | true ↦ λ e. order-unsafe_to_concat start end b (grind (arith, nat_tests, e))
      | false ↦ λ e. PreservesOrder-same b
    ] in
    cases refl

concat-flags : (start end : ℕ) (b : Buffer) → PreservesFlags b (concat_marked start end b)
concat-flags start end b =
    elim (nat_lt start end && nat_le end (length b.items)) as (λ t. PreservesFlags b (if t then unsafe_to_concat start end b else b)) [
      | true ↦ flags-unsafe_to_concat start end b
      | false ↦ PreservesFlags-same b
    ]

module _ (rule : Rule) (rows : List LigatureGlyphs) where
  found-order : (at : ℕ) (o : Option Found) (b : Buffer) → IsMonotoneLevel b.cluster_level → PreservesOrder b (tried_at at o b).buffer
  found-order at None b monotone = PreservesOrder-same b
  found-order at (Some found) b monotone = put_ligature-order at found b monotone

  found-flags : (at : ℕ) (o : Option Found) (b : Buffer) → PreservesFlags b (tried_at at o b).buffer
  found-flags at None b = PreservesFlags-same b
  found-flags at (Some found) b = put_ligature-flags at found b

  tried-order : (at : ℕ) (o : Option ℕ) (b : Buffer) → IsMonotoneLevel b.cluster_level → PreservesOrder b (tried_with rule rows at b o).buffer
  tried-order at None b monotone = left-order 0 b
  tried-order at (Some left) b monotone =
      let found = found_in rule rows b.items at in
      let d = with_left left b in
      let c = vain_marked rule rows at d in
      let marked : PreservesOrder d c = concat-order at (vain_end rule rows b.items at) d in
      PreservesOrder-then b d _ (left-order left b)
      (PreservesOrder-then d c _ marked (found-order at found c (subst IsMonotoneLevel (sym marked.level) monotone)))

  tried-flags : (at : ℕ) (o : Option ℕ) (b : Buffer) → PreservesFlags b (tried_with rule rows at b o).buffer
  tried-flags at None b = left-flags 0 b
  tried-flags at (Some left) b =
      let found = found_in rule rows b.items at in
      let d = with_left left b in
      let c = vain_marked rule rows at d in
      let marked : PreservesFlags d c = concat-flags at (vain_end rule rows b.items at) d in
      PreservesFlags-then b d _ (left-flags left b) (PreservesFlags-then d c _ marked (found-flags at found c))

  at-order : (at : ℕ) (s : Walked) → IsMonotoneLevel s.buffer.cluster_level → PreservesOrder s.buffer (ligated_at rule rows at s).buffer
  at-order at s monotone =
      elim (not (nat_lt at s.next) && is_on rule (nth s.buffer.items at)) as (λ t. PreservesOrder s.buffer (if t then searched_at rule rows at s.buffer else s).buffer) [
        | true ↦ tried-order at (search_charged rule rows s.buffer.items at s.buffer.max_ops) s.buffer monotone
        | false ↦ PreservesOrder-same s.buffer
      ]

  at-flags : (at : ℕ) (s : Walked) → PreservesFlags s.buffer (ligated_at rule rows at s).buffer
  at-flags at s =
      elim (not (nat_lt at s.next) && is_on rule (nth s.buffer.items at)) as (λ t. PreservesFlags s.buffer (if t then searched_at rule rows at s.buffer else s).buffer) [
        | true ↦ tried-flags at (search_charged rule rows s.buffer.items at s.buffer.max_ops) s.buffer
        | false ↦ PreservesFlags-same s.buffer
      ]

  to-order : (n : ℕ) → IsClusterPreserving (λ b. (ligated_to rule rows n b).buffer)
  to-order zero b monotone = PreservesOrder-same b
  to-order (suc n) b monotone =
      let before = to-order n b monotone in
      let s = ligated_to rule rows n b in
      PreservesOrder-then b s.buffer (ligated_at rule rows n s).buffer before (at-order n s (subst IsMonotoneLevel (sym before.level) monotone))

  to-flags : (n : ℕ) → IsFlagPreserving (λ b. (ligated_to rule rows n b).buffer)
  to-flags zero b = PreservesFlags-same b
  to-flags (suc n) b =
      let s = ligated_to rule rows n b in
      PreservesFlags-then b s.buffer (ligated_at rule rows n s).buffer (to-flags n b) (at-flags n s)

-- ---- components that go

cleared-order : (b : Buffer) → PreservesOrder b (cleared_away b)
cleared-order b = record {
  clusters = subst (λ (xs : List Item). PreservesClusters (clusters b.items) (clusters xs)) (sym (kept-staying b.items))
      (PreservesClusters-from_draws (clusters b.items) (clusters (staying b.items)) (staying-draws b.items));
  direction = refl;
  flags = refl;
  level = refl;
}

cleared-flags : (b : Buffer) → PreservesFlags b (cleared_away b)
cleared-flags b = record {
  flags = refl;
  stays_set = λ e. e;
  none_new = λ flag is some. inl (staying-some flag b.items (ap (some_has flag) (sym (kept-staying b.items)) ∙ some));
}

-- ---- the whole

by-order : (face : FaceMeaning) (classes : ℕ → Option GlyphClass) (rule : Rule) (table : List Row)
    → IsClusterPreserving (ligated_by face classes rule table)
unfolding ligated_by
by-order face classes rule table b monotone =
    let rows = ligature_rows face classes table in
    let c = each_ligated rule rows b in
    PreservesOrder-then b c (cleared_away c) (to-order rule rows (length b.items) b monotone) (cleared-order c)

by-flags : (face : FaceMeaning) (classes : ℕ → Option GlyphClass) (rule : Rule) (table : List Row)
    → IsFlagPreserving (ligated_by face classes rule table)
unfolding ligated_by
by-flags face classes rule table b =
    let rows = ligature_rows face classes table in
    let c = each_ligated rule rows b in
    PreservesFlags-then b c (cleared_away c) (to-flags rule rows (length b.items) b) (cleared-flags c)

formed-order : (face : FaceMeaning) (classes : ℕ → Option GlyphClass) (form : Form) (mask : ℕ) → IsClusterPreserving (formed_by face classes form mask)
unfolding formed_by
formed-order face classes form mask =
    let rule : Rule = record { mask = mask; ignores_marks = true } in
    let rows = form_rows face classes form FORMS in
    order-items_mapped (formed rule rows) (λ x. (formed-same rule rows x).0)

formed-flags : (face : FaceMeaning) (classes : ℕ → Option GlyphClass) (form : Form) (mask : ℕ) → IsFlagPreserving (formed_by face classes form mask)
unfolding formed_by
formed-flags face classes form mask =
    let rule : Rule = record { mask = mask; ignores_marks = true } in
    let rows = form_rows face classes form FORMS in
    flags-items_mapped (formed rule rows) (λ x. (formed-same rule rows x).1)

-- one after the other
then-order : (f g : Buffer → Buffer) → IsClusterPreserving f → IsClusterPreserving g → IsClusterPreserving (λ b. g (f b))
then-order f g first later b monotone =
    let before = first b monotone in
    PreservesOrder-then b (f b) (g (f b)) before (later (f b) (subst IsMonotoneLevel (sym before.level) monotone))

then-flags : (f g : Buffer → Buffer) → IsFlagPreserving f → IsFlagPreserving g → IsFlagPreserving (λ b. g (f b))
then-flags f g first later b = PreservesFlags-then b (f b) (g (f b)) (first b) (later (f b))

module _ (face : FaceMeaning) (classes : ℕ → Option GlyphClass) (masks : FallbackMasks) where
  all_formed-order : IsClusterPreserving (all_formed face classes masks)
  all_formed-order =
      let f = λ (form : Form) (mask : ℕ). formed_by face classes form mask in
      then-order _ (f Isol masks.isol) (then-order _ (f Fina masks.fina)
      (then-order (f Init masks.init) (f Medi masks.medi) (formed-order face classes Init masks.init) (formed-order face classes Medi masks.medi))
      (formed-order face classes Fina masks.fina)) (formed-order face classes Isol masks.isol)

  all_formed-flags : IsFlagPreserving (all_formed face classes masks)
  all_formed-flags =
      let f = λ (form : Form) (mask : ℕ). formed_by face classes form mask in
      then-flags _ (f Isol masks.isol) (then-flags _ (f Fina masks.fina)
      (then-flags (f Init masks.init) (f Medi masks.medi) (formed-flags face classes Init masks.init) (formed-flags face classes Medi masks.medi))
      (formed-flags face classes Fina masks.fina)) (formed-flags face classes Isol masks.isol)

  all_ligated-order : (mask : ℕ) → IsClusterPreserving (all_ligated face classes mask)
  all_ligated-order mask =
      let letters : Rule = record { mask = mask; ignores_marks = true } in
      let marks : Rule = record { mask = mask; ignores_marks = false } in
      then-order _ (ligated_by face classes marks MARKS)
      (then-order (ligated_by face classes letters TRIPLES) (ligated_by face classes letters PAIRS) (by-order face classes letters TRIPLES) (by-order face classes letters PAIRS))
      (by-order face classes marks MARKS)

  all_ligated-flags : (mask : ℕ) → IsFlagPreserving (all_ligated face classes mask)
  all_ligated-flags mask =
      let letters : Rule = record { mask = mask; ignores_marks = true } in
      let marks : Rule = record { mask = mask; ignores_marks = false } in
      then-flags _ (ligated_by face classes marks MARKS)
      (then-flags (ligated_by face classes letters TRIPLES) (ligated_by face classes letters PAIRS) (by-flags face classes letters TRIPLES) (by-flags face classes letters PAIRS))
      (by-flags face classes marks MARKS)

  pub fallback-order : IsClusterPreserving (fallback_shaped face classes masks)
  fallback-order = then-order (all_formed face classes masks) (all_ligated face classes masks.rlig) all_formed-order (all_ligated-order masks.rlig)

  pub fallback-flags : IsFlagPreserving (fallback_shaped face classes masks)
  fallback-flags = then-flags (all_formed face classes masks) (all_ligated face classes masks.rlig) all_formed-flags (all_ligated-flags masks.rlig)
