-- The first pauses bring no cluster but those of the text, and no flag; finding syllables keeps order, too.
use Rattle.std.proofs.Common.{◌≡◌, ℕ, zero, suc, ◌+◌, ◌-◌, ◌<◌, ◌≤◌, ◌==◌, ◌&&◌, ◌||◌, not, min, max, nat_lt, nat_le}
use Rattle.std.proofs.Common.{Bool, true, false, if◌then◌else◌, List, ◌++◌, length, take, drop, slice_range, bit_and}
use Rattle.std.proofs.Common.{bit_or, bit_xor, refl, sym, ap, subst, ◌∙◌, inl, inr, arith}
use Rattle.std.specs.Int.Bits.{and_zero_r}
use Rattle.std.proofs.lemmas.Nat.{and_assoc, and_xor_apart}
use Rattle.std.proofs.lemmas.Bool.Decides.{nat_tests}
use Rattle.std.proofs.lemmas.Bool.{cases_Bool, and_parts}
use Rattle.std.proofs.lemmas.List.{length-set, length-drop, length-take-le, length-append}
use Rattle.shape_common.specs.Face.{FaceMeaning}
use Rattle.shape_buffer.specs.Layout.{HasNoDefinedFlag, LookupMeaning}
use Rattle.shape_buffer.proofs.Flags.FeatureBitLemmas.{feature_flagless, feature-or, added_brings_none}
use Rattle.shape_items.specs.Buffer.{Buffer}
use Rattle.shape_items.specs.BufferClusters.{merge_clusters}
use Rattle.shape_items.specs.Items.{Item}
use Rattle.shape_items.specs.ClusterOrder.{IsMonotoneLevel}
use Rattle.shape_items.specs.PreservesFlags.{PreservesFlags, IsDefinedFlag}
use Rattle.shape_items.proofs.Flags.FlagLemmas.{PreservesFlags-then}
use Rattle.cluster_order.specs.Ordering.{HasNoNewCluster}
use Rattle.syllables.specs.Grammar.{first_syllable}
use Rattle.syllables.specs.IndicGrammar.{indic_grammar}
use Rattle.syllabic.specs.Scanning.{syllables_numbered}
use Rattle.syllabic.specs.Circles.{with_circles}
use Rattle.syllabic.specs.Moving.{exchanged}
use Rattle.syllabic.specs.Walking.{item_at, kind_of_byte, syllable_of, marked}
use Rattle.syllabic.proofs.CircleLemmas.{Preserved-circles}
use Rattle.syllabic.proofs.PreservationLemmas.{Keeps, Keeps-same, Keeps-then, Keeps-mapped, Keeps-merge}
use Rattle.syllabic.proofs.PreservationLemmas.{Keeps-each_syllable, Keeps-marked}
use Rattle.syllabic.proofs.ScanningLemmas.{Keeps-syllables}
use Rattle.indic_shaper.specs.Attaching as attaching
use Rattle.indic_shaper.specs.Bases.{find_base}
use Rattle.indic_shaper.specs.Categories as categories
use Rattle.indic_shaper.specs.Consonants as consonants
use Rattle.indic_shaper.specs.Cutting.{syllables_found, circled, is_new_circle, as_circle}
use Rattle.indic_shaper.specs.Glyphs.{with_position, with_mask}
use Rattle.indic_shaper.specs.Initial as initial
use Rattle.indic_shaper.specs.Initial.{Ordering}
use Rattle.indic_shaper.specs.Masking as masking
use Rattle.indic_shaper.specs.Flagless.{FactsFlagless}
use Rattle.indic_shaper.specs.Sorting as sorting
use Rattle.indic_shaper.specs.declared.config.TheConstants.{KANNADA}
use Rattle.indic_shaper.specs.declared.cutting.TheConstants.{OTHER}
use Rattle.indic_shaper.specs.declared.engine.Facts.{Facts}
use Rattle.indic_shaper.specs.declared.initial.masking.Masked.{Masked}
use Rattle.indic_shaper.proofs.BringingLemmas.{Brings, Brings-kept, Brings-same, Brings-then, Brings-exchanged}
use Rattle.indic_shaper.proofs.BringingLemmas.{Brings-each_syllable, BringsSyllables, HasNoNewCluster-then}
use Rattle.indic_shaper.proofs.DrawnLemmas.{Draws, Copies, Copies-same, Brings-drawn, drawn-copy_at, draws-same}
use Rattle.indic_shaper.proofs.DrawnLemmas.{draws-then, draws-append, draws-take, draws-drop, draws-set, draws-walked}
use Rattle.indic_shaper.proofs.DrawnLemmas.{length-walked}
use Rattle.indic_shaper.proofs.PositionLemmas.{Makes, Makes-same, Makes-then, Makes-positioned, Makes-sorted}

-- ---- masks

copies-with_mask : (x : Item) (mask : ℕ) → HasNoDefinedFlag mask → Copies x (with_mask x mask)
copies-with_mask x mask none = record {
  cluster = refl;
  flags = λ flag defined has. sym (ap (nat_lt 0) (added_brings_none mask x.mask flag none defined)) ∙ has;
}

-- bits of features that go take no flag with them
without-flags : (mask bits flag : ℕ) → HasNoDefinedFlag bits → IsDefinedFlag flag
    → bit_and (bit_xor mask (bit_and mask bits)) flag ≡ bit_and mask flag
without-flags mask bits flag none defined =
    let gone : bit_and (bit_and mask bits) flag ≡ 0 = and_assoc flag mask bits
    ∙ ap (bit_and mask) (feature_flagless bits flag none defined) ∙ and_zero_r mask in
    and_xor_apart flag mask (bit_and mask bits) gone

copies-without_mask : (x : Item) (mask : ℕ) → HasNoDefinedFlag mask → Copies x (masking.without_mask x mask)
copies-without_mask x mask none = record {
  cluster = refl;
  flags = λ flag defined has. sym (ap (nat_lt 0) (without-flags x.mask mask flag none defined)) ∙ has;
}

flagless-or_0 : (t : Bool) (mask : ℕ) → HasNoDefinedFlag mask → HasNoDefinedFlag (masking.or_0 t mask)
flagless-or_0 true mask none = none
flagless-or_0 false mask none = refl

module _ (facts : Facts) (none : FactsFlagless facts) where
  flagless-before : HasNoDefinedFlag (masking.before_mask facts)
  flagless-before =
      feature-or facts.masks.half (masking.or_0 (not facts.is_old && facts.config.below_before_base) facts.masks.blwf) none.half
      (flagless-or_0 (not facts.is_old && facts.config.below_before_base) facts.masks.blwf none.blwf)

  flagless-after : HasNoDefinedFlag (masking.after_mask facts)
  flagless-after =
      feature-or (bit_or facts.masks.blwf facts.masks.abvf) facts.masks.pstf
      (feature-or facts.masks.blwf facts.masks.abvf none.blwf none.abvf) none.pstf

  flagless-side : (masked : Masked) → HasNoDefinedFlag (masking.side_mask facts masked)
  flagless-side masked =
      elim (nat_lt 0 masked.left) as (λ t. HasNoDefinedFlag (if t then masking.before_mask facts
      else masking.or_0 masked.is_after (masking.after_mask facts))) [
        | true ↦ flagless-before
        | false ↦ flagless-or_0 masked.is_after (masking.after_mask facts) flagless-after
      ]

  flagless-mask_at : (masked : Masked) (x : Item) (eyelash : Bool) → HasNoDefinedFlag (masking.mask_at facts masked x eyelash)
  flagless-mask_at masked x eyelash =
      let reph = masking.or_0 (masking.is_reph masked x) facts.masks.rphf in
      let side = masking.side_mask facts masked in
      let below = masking.or_0 (masked.after_eyelash || eyelash) facts.masks.blwf in
      feature-or (bit_or reph side) below
      (feature-or reph side (flagless-or_0 (masking.is_reph masked x) facts.masks.rphf none.rphf) (flagless-side masked))
      (flagless-or_0 (masked.after_eyelash || eyelash) facts.masks.blwf none.blwf)

  Makes-places_masked : (base : ℕ) (items : List Item) → Makes items (masking.places_masked facts base items)
  Makes-places_masked base items = record {
    draws = draws-walked (masking.masked_by facts) (masking.masked_after facts)
        (λ masked x rest. copies-with_mask x (masking.mask_at facts masked x (masking.begins_eyelash facts masked x rest))
        (flagless-mask_at masked x (masking.begins_eyelash facts masked x rest))) (masking.first_masked base) items;
    count = length-walked (masking.masked_by facts) (masking.masked_after facts) (masking.first_masked base) items;
  }

  Makes-masked_item : (mask : ℕ) → HasNoDefinedFlag mask → (i : ℕ) (items : List Item) → i < length items
      → Makes items (masking.masked_item mask i items)
  Makes-masked_item mask flagless i items inside =
      let y = with_mask (item_at items i) mask in
      record {
        draws = draws-set items i y items
            (drawn-copy_at items i y inside (copies-with_mask (item_at items i) mask flagless)) (draws-same items);
        count = length-set items i y;
      }

  Makes-pair_masked : (mask : ℕ) → HasNoDefinedFlag mask → (i : ℕ) (items : List Item) → Makes items (masking.pair_masked mask i items)
  Makes-pair_masked mask flagless i items = elim (cases_Bool (nat_lt (i + 1) (length items))) [
    | inl is ↦
        let inside : i + 1 < length items = (let e = is in grind (arith, nat_tests, e)) in
        let one = masking.masked_item mask i items in
        let first = Makes-masked_item mask flagless i items (omega (arith, inside)) in
        rw is (Makes-then items one (masking.masked_item mask (i + 1) one) first
        (Makes-masked_item mask flagless (i + 1) one (omega (arith, inside, first.count))))
    | inr not_is ↦ rw not_is (Makes-same items)
  ]

  Makes-pref_masked : (lookups : LookupMeaning) (base : ℕ) (items : List Item) → Makes items (masking.pref_masked lookups facts base items)
  Makes-pref_masked lookups base items =
      let from = masking.pref_from lookups facts base 0 items in
      elim (facts.masks.pref == 0) as (λ t. Makes items (if t then items else masking.pair_masked facts.masks.pref from items)) [
        | true ↦ Makes-same items
        | false ↦ Makes-pair_masked facts.masks.pref none.pref from items
      ]

  copies-joiner : (x : Item) (rest : List Item) → Copies x (masking.joiner_masked facts tt x rest)
  copies-joiner x rest =
      elim (masking.is_before_zwnj rest) as (λ t. Copies x (if t then masking.without_mask x facts.masks.half else x)) [
        | true ↦ copies-without_mask x facts.masks.half none.half
        | false ↦ Copies-same x
      ]

  Makes-joiners_masked : (items : List Item) → Makes items (masking.joiners_masked facts items)
  Makes-joiners_masked items = record {
    draws = draws-walked (masking.joiner_masked facts) masking.no_state (λ state x rest. copies-joiner x rest) tt items;
    count = length-walked (masking.joiner_masked facts) masking.no_state tt items;
  }

  Makes-all_masked : (lookups : LookupMeaning) (base : ℕ) (items : List Item) → Makes items (masking.all_masked lookups facts base items)
  Makes-all_masked lookups base items =
      let one = masking.places_masked facts base items in
      let two = masking.pref_masked lookups facts base one in
      Makes-then items one (masking.joiners_masked facts two) (Makes-places_masked base items)
      (Makes-then one two (masking.joiners_masked facts two) (Makes-pref_masked lookups base one) (Makes-joiners_masked two))

  -- ---- a syllable

  copies-placed : (lookups : LookupMeaning) (several : Bool) (x : Item) → Copies x (consonants.placed lookups facts several x)
  copies-placed lookups several x =
      let two = with_position x (consonants.consonant_position lookups facts x.glyph_id) in
      elim (is_new_circle x) as (λ t. Copies x (if t then as_circle x else if several && consonants.is_candidate facts x then two else x)) [
        | true ↦ record { cluster = refl; flags = λ flag defined has. has }
        | false ↦ elim (several && consonants.is_candidate facts x) as (λ t. Copies x (if t then two else x)) [
          | true ↦ record { cluster = refl; flags = λ flag defined has. has }
          | false ↦ Copies-same x
        ]
      ]

  Makes-letters_placed : (lookups : LookupMeaning) (items : List Item) → Makes items (consonants.letters_placed lookups facts items)
  Makes-letters_placed lookups items = record {
    draws = draws-walked (consonants.placed_in lookups facts) consonants.several_still (λ several x rest. copies-placed lookups several x)
        (consonants.has_several items) items;
    count = length-walked (consonants.placed_in lookups facts) consonants.several_still (consonants.has_several items) items;
  }

  Makes-ordering : (lookups : LookupMeaning) (items : List Item) → Makes items (initial.ordering lookups facts items).items
  Makes-ordering lookups items =
      let placed = consonants.letters_placed lookups facts items in
      let found = find_base lookups facts placed in
      let one = attaching.positioned facts found placed in
      let two = sorting.sorted one in
      let all = masking.all_masked lookups facts (sorting.base_in two) two in
      Makes-then items placed all (Makes-letters_placed lookups items)
      (Makes-then placed one all (Makes-positioned facts found placed)
      (Makes-then one two all (Makes-sorted one) (Makes-all_masked lookups (sorting.base_in two) two)))

  -- a list in place of as many items that it is drawn from
  Brings-put_back : (start end : ℕ) (items : List Item) (b : Buffer) → start ≤ end → end ≤ length b.items
      → Makes (slice_range b.items start end) items → Brings b (initial.put_back start items b)
  Brings-put_back start end items b ordered within makes =
      let xs = b.items in
      let slice = slice_range xs start end in
      let long : length slice ≡ end - start
      = length-take-le (end - start) (drop start xs) (rw (length-drop start xs) (omega (arith, within))) in
      let few : length items ≡ end - start = makes.count ∙ long in
      let rest = drop (start + length items) xs in
      let front : length (take start xs) ≡ start = length-take-le start xs (omega (arith, ordered, within)) in
      let last : length rest ≡ length xs - (start + length items) = length-drop (start + length items) xs in
      let both : length (items ++ rest) ≡ length items + length rest = length-append items rest in
      let all : length (take start xs ++ (items ++ rest)) ≡ length (take start xs) + length (items ++ rest)
      = length-append (take start xs) (items ++ rest) in
      let drawn : Draws xs slice = draws-take xs (end - start) (drop start xs) (draws-drop xs start xs (draws-same xs)) in
      Brings-drawn b (take start xs ++ (items ++ rest))
      (draws-append xs (take start xs) (items ++ rest) (draws-take xs start xs (draws-same xs))
      (draws-append xs items rest (draws-then xs slice items drawn makes.draws) (draws-drop xs (start + length items) xs (draws-same xs))))
      (omega (arith, all, both, last, front, few, ordered, within))

  Keeps-merged_to : (start base count : ℕ) (order : List ℕ) (n : ℕ) (b : Buffer) → start + count ≤ length b.items
      → Keeps b (sorting.merged_to start base count order n b)
  Keeps-merged_to start base count order zero b within = Keeps-same b
  Keeps-merged_to start base count order (suc i) b within =
      let c = sorting.merged_to start base count order i b in
      let first = Keeps-merged_to start base count order i b within in
      let span = sorting.span_at order i in
      let from = start + max base span.least in
      let to = start + min (span.most + 1) count in
      Keeps-then b c (sorting.merged_at start base count order i c) first
      (elim (nat_le base i) as (λ t. Keeps c (if t then merge_clusters from to c else c)) [
        | true ↦ Keeps-merge from to c (omega (arith, within, first.count))
        | false ↦ Keeps-same c
      ])

  Keeps-joined : (start : ℕ) (o : Ordering) (b : Buffer) → start + length o.items ≤ length b.items
      → Keeps b (initial.joined facts start o b)
  Keeps-joined start o b within =
      let all = merge_clusters (start + o.base) (start + length o.items) b in
      let some = sorting.moved_merged start o.base (length o.items) o.order b in
      let moving = sorting.merged_to start o.base (length o.items) o.order (length o.items) b in
      elim (facts.is_old || nat_lt 127 (length o.items)) as (λ t. Keeps b (if t then all else some)) [
        | true ↦ Keeps-merge (start + o.base) (start + length o.items) b within
        | false ↦ elim (length o.order == 0) as (λ t. Keeps b (if t then b else moving)) [
          | true ↦ Keeps-same b
          | false ↦ Keeps-merged_to start o.base (length o.items) o.order (length o.items) b within
        ]
      ]

  Brings-ordered_from : (lookups : LookupMeaning) → BringsSyllables (initial.ordered_from lookups facts)
  Brings-ordered_from lookups b start end ordered within =
      let slice = slice_range b.items start end in
      let o = initial.ordering lookups facts slice in
      let makes = Makes-ordering lookups slice in
      let c = initial.put_back start o.items b in
      let first = Brings-put_back start end o.items b ordered within makes in
      let long : length slice ≡ end - start = length-take-le (end - start) (drop start b.items)
      (rw (length-drop start b.items) (omega (arith, within))) in
      let few : length o.items ≡ end - start = makes.count ∙ long in
      Brings-then b c (initial.joined facts start o c) first
      (Brings-kept c (initial.joined facts start o c) (Keeps-joined start o c (omega (arith, few, ordered, within, first.count))))

  Brings-joiner_swapped : BringsSyllables (initial.joiner_swapped facts)
  Brings-joiner_swapped b start end ordered within = elim (cases_Bool (initial.has_joiner_last facts b.items start end)) [
    | inl is ↦
        let parts = and_parts (facts.tag == KANNADA) _ is in
        let some = and_parts (nat_le (start + 3) end) _ parts.1 in
        let long : start + 3 ≤ end = (let e = some.0 in grind (arith, nat_tests, e)) in
        let c = merge_clusters (start + 1) (start + 1 + 2) b in
        let first = Keeps-merge (start + 1) (start + 1 + 2) b (omega (arith, long, within)) in
        rw is (Brings-then b c (exchanged (start + 1) (start + 1 + 1) c) (Brings-kept b c first)
        (Brings-exchanged (start + 1) (start + 1 + 1) c (omega (arith, long, within, first.count))
        (omega (arith, long, within, first.count))))
    | inr not_is ↦ rw not_is (Brings-same b)
  ]

  Brings-syllable_ordered : (lookups : LookupMeaning) → BringsSyllables (initial.syllable_ordered lookups facts)
  Brings-syllable_ordered lookups b start end ordered within =
      let c = initial.joiner_swapped facts b start end in
      let first = Brings-joiner_swapped b start end ordered within in
      elim (initial.is_ordered_kind (kind_of_byte (syllable_of (item_at b.items start))))
      as (λ t. Brings b (if t then initial.ordered_from lookups facts c start end else b)) [
        | true ↦ Brings-then b c (initial.ordered_from lookups facts c start end) first
            (Brings-ordered_from lookups c start end ordered (omega (arith, within, first.count)))
        | false ↦ Brings-same b
      ]

  -- ---- all of them

  pub Brings-each_ordered : (lookups : LookupMeaning) (b : Buffer) → Brings b (initial.each_ordered lookups facts b)
  Brings-each_ordered lookups b = Brings-each_syllable (initial.syllable_ordered lookups facts) (Brings-syllable_ordered lookups) b

-- of the whole pause the number of items isn't kept: broken syllables get circles
pub record Brought (b c : Buffer) : Type 0 where
  pub none : IsMonotoneLevel b.cluster_level → HasNoNewCluster b c
  pub flags : PreservesFlags b c

pub Brought-brings : (b c : Buffer) → Brings b c → Brought b c
Brought-brings b c brings = record { none = brings.none; flags = brings.flags }

pub Brought-ordered : (facts : Facts) → FactsFlagless facts → (face : FaceMeaning) (lookups : LookupMeaning) (b : Buffer)
    → Brought b (initial.ordered face lookups facts b)
Brought-ordered facts none face lookups b =
    let c = with_circles face circled b in
    let first = Preserved-circles face circled b in
    let later = Brings-each_ordered facts none lookups c in
    record {
      none = λ monotone.
          let order = first.order monotone in
          let one : HasNoNewCluster b c
          = record { none_new = order.clusters.none_new; direction = order.direction; flags = order.flags; level = order.level } in
          HasNoNewCluster-then b c (initial.ordered face lookups facts b) one
          (later.none (subst IsMonotoneLevel (sym order.level) monotone));
      flags = PreservesFlags-then b c (initial.ordered face lookups facts b) first.flags later.flags;
    }

-- finding syllables keeps all of it
pub Keeps-syllables_found : (b : Buffer) → Keeps b (syllables_found b)
Keeps-syllables_found b =
    let one = categories.categorized b in
    let cut = first_syllable indic_grammar OTHER in
    let two = syllables_numbered cut 0 one in
    Keeps-then b one (syllables_found b) (Keeps-mapped categories.with_sort (λ x. refl) (λ x. refl) b)
    (Keeps-then one two (syllables_found b) (Keeps-syllables cut 0 one) (Keeps-each_syllable marked Keeps-marked two))
