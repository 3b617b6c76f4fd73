-- What the steps come to.
use Rattle.std.proofs.Common.{◌≡◌, ◌≢◌, ℕ, ◌==◌, ◌&&◌, ◌<◌, ◌≤◌, inl, inr, subst, Result, Ok, Err, Bool, true, false, not, List, [], ◌∷◌, length, map, replicate, refl, sym, ap, ap₂, ◌∙◌, arith, bit_and, fold}
use Rattle.std.proofs.lemmas.Bool.{cases_Bool}
use Rattle.std.proofs.lemmas.List.{length-map}
use Rattle.canonical_form.specs.Expanded.{begins_with_mark}
use Rattle.shape_items.specs.Buffer.{Buffer, limit_of}
use Rattle.shape_items.specs.BufferClusters.{merge_clusters, unsafe_to_break}
use Rattle.shape_common.specs.Face.{FaceMeaning}
use Rattle.shape_items.specs.Flags.{with_mask}
use Rattle.shape_items.specs.Items.{Item, is_mark_item}
use Rattle.shape_buffer.specs.Outcome.{Made, Outcome, Refused, for_length, for_memory, step}
use Rattle.shape_buffer.specs.declared.buffer.error.ShapeError.{ShapeError}
use Rattle.shape_buffer.specs.declared.buffer.error.ShapeError.TheVariants.{Memory, Length}
use Rattle.shape_prepare.specs.DottedCircle.{dotted_circled, with_circle, takes_circle}
use Rattle.shape_common.specs.Positions.{zero_position}
use Rattle.shape_common.specs.Unicode.{UnicodeMeaning}
use Rattle.shape_buffer.specs.Walks.{items_mapped}
use Rattle.shape_common.specs.declared.text_types.BufferClusterLevel.{BufferClusterLevel}
use Rattle.shape_common.specs.declared.text_types.BufferClusterLevel.TheVariants.{MonotoneGraphemes, MonotoneCharacters, Characters}
use Rattle.shape_common.specs.declared.text_types.Direction.{Direction}
use Rattle.shape_plan.specs.declared.decisions.Decisions.{Decisions}
use Rattle.shape_prepare.specs.Begun.{begun}
use Rattle.shape_items.specs.GraphemeSpans.{grapheme_spans}
use Rattle.shape_prepare.specs.ClustersFormed.{clusters_formed, over_graphemes}
use Rattle.shape_prepare.specs.NativeOrder.{natively_ordered, native_direction, is_against, merged_to_reverse, graphemes_reversed}
use Rattle.shape_prepare.specs.Rotated.{rotated, rotated_item, in_forms}
use Rattle.shape_common.specs.Direction.{is_backward, is_vertical}

-- a step that leaves the buffer as it was
pub Made-same : (f : Buffer → Buffer) (b : Buffer) → f b ≡ b → Made f b b
Made-same f b e = record { made = sym e; no_longer = omega arith; same_limit = refl }

-- masks, and then positions
pub Made-begun : (mask : ℕ) (old mid new : Buffer) → Made (items_mapped (with_mask mask)) old mid
    → new ≡ record mid { positions = replicate (length mid.items) zero_position } → Made (begun mask) old new
unfolding begun items_mapped
Made-begun mask old mid new masked cleared =
    let whole : new ≡ record old { items = map (with_mask mask) old.items; positions = replicate (length old.items) zero_position } =
    cleared ∙ ap (λ (b : Buffer). record b { positions = replicate (length b.items) zero_position }) masked.made
    ∙ ap (λ n. record old { items = map (with_mask mask) old.items; positions = replicate n zero_position })
    (length-map old.items (with_mask mask)) in
    let size : length new.items ≡ length mid.items = ap (λ (b : Buffer). length b.items) cleared in
    record { made = whole; no_longer = omega (arith, masked.no_longer); same_limit = ap limit_of whole }

-- no form changes an item
idle_item : (unicode : UnicodeMeaning) (face : FaceMeaning) (mask : ℕ) (item : Item) (mirrors is_upright : Bool)
    → (not mirrors && not is_upright) ≡ true → in_forms unicode face mirrors mask is_upright item ≡ item
idle_item unicode face mask item true is_upright e = absurd (let f : false ≡ true = e in cc)
idle_item unicode face mask item false true e = absurd (let f : false ≡ true = e in cc)
idle_item unicode face mask item false false e = refl

map-same : (f : Item → Item) → ((item : Item) → f item ≡ item) → (items : List Item) → map f items ≡ items
map-same f same [] = refl
map-same f same (item ∷ items) = ap₂ (λ (x : Item) (xs : List Item). x ∷ xs) (same item) (map-same f same items)

pub rotated-idle : (unicode : UnicodeMeaning) (face : FaceMeaning) (decisions : Decisions) (target : Direction) (b : Buffer)
    → (not (is_backward target) && not (is_vertical target && not decisions.has_vert)) ≡ true → rotated unicode face decisions target b ≡ b
unfolding rotated items_mapped
rotated-idle unicode face decisions target b idle =
    ap (λ (items : List Item). record b { items = items })
    (map-same (rotated_item unicode face decisions target) (λ item. idle_item unicode face decisions.rtlm_mask item (is_backward target)
    (is_vertical target && not decisions.has_vert) idle) b.items)

-- ---- a walk over graphemes, and the steps that take one

-- what each call of a walk keeps, the walk keeps
pub over_graphemes-preserved : (P : Buffer → Type 0) (f : ℕ → ℕ → Buffer → Buffer) → ((start end : ℕ) (b : Buffer) → P b → P (f start end b))
    → (b : Buffer) → P b → P (over_graphemes f b)
over_graphemes-preserved P f preserves b = over_spans (grapheme_spans b.items) b
  where
    over_spans : (spans : List (ℕ × ℕ)) (b : Buffer) → P b → P (fold (λ b span. f span.0 span.1 b) b spans)
    over_spans [] b holds = holds
    over_spans (span ∷ spans) b holds = over_spans spans (f span.0 span.1 b) (preserves span.0 span.1 b holds)

pub clusters_formed-cases : (P : Buffer → Type 0) (b : Buffer) → P (over_graphemes merge_clusters b) → P (over_graphemes unsafe_to_break b)
    → P b → P (clusters_formed b)
unfolding clusters_formed
clusters_formed-cases P b merged marked same = elim (cases_Bool (bit_and b.scratch_flags.0 1 == 1)) [
  | inl seen ↦ rw seen (at_level b.cluster_level)
  | inr unseen ↦ rw unseen same
]
  where
    at_level : (level : BufferClusterLevel) → P (elim level as (λ v. Buffer) [
      | MonotoneGraphemes ↦ over_graphemes merge_clusters b
      | MonotoneCharacters ↦ over_graphemes unsafe_to_break b
      | Characters ↦ over_graphemes unsafe_to_break b
    ])
    at_level MonotoneGraphemes = merged
    at_level MonotoneCharacters = marked
    at_level Characters = marked

abbrev pub at_level_to_reverse : Buffer → BufferClusterLevel → Buffer
at_level_to_reverse b level = elim level [ MonotoneGraphemes ↦ b | MonotoneCharacters ↦ over_graphemes merge_clusters b | Characters ↦ b ]

pub merged_to_reverse-cases : (P : Buffer → Type 0) (b : Buffer) → P b → P (over_graphemes merge_clusters b) → P (merged_to_reverse b)
merged_to_reverse-cases P b same merged = at_level b.cluster_level
  where
    at_level : (level : BufferClusterLevel) → P (at_level_to_reverse b level)
    at_level MonotoneGraphemes = same
    at_level MonotoneCharacters = merged
    at_level Characters = same

-- a circle goes before a first item, if at all
pub dotted_circled-cases : (P : Buffer → Type 0) (unicode : UnicodeMeaning) (face : FaceMeaning) (b : Buffer) → P b
    → ((first : Item) (rest : List Item) → b.items ≡ first ∷ rest → P (with_circle unicode (first ∷ rest) b))
    → P (dotted_circled unicode face b)
unfolding dotted_circled
dotted_circled-cases P unicode face b same put = elim (cases_Bool (takes_circle face b && begins_with_mark is_mark_item b.items)) [
  | inl on ↦ rw on (before b.items refl)
  | inr off ↦ rw off same
]
  where
    before : (items : List Item) → b.items ≡ items → P (with_circle unicode items b)
    before [] is = same
    before (first ∷ rest) is = put first rest is

-- clusters if no character past ASCII was seen, and if one was
pub clusters_formed-unseen : (b : Buffer) → (bit_and b.scratch_flags.0 1 == 1) ≡ false → clusters_formed b ≡ b
unfolding clusters_formed
clusters_formed-unseen b unseen = rw unseen refl

pub clusters_formed-merged : (b : Buffer) → (bit_and b.scratch_flags.0 1 == 1) ≡ true → b.cluster_level ≡ MonotoneGraphemes
    → clusters_formed b ≡ over_graphemes merge_clusters b
unfolding clusters_formed
clusters_formed-merged b seen level = rw seen (
    ap (λ l. elim l as (λ v. Buffer) [ MonotoneGraphemes ↦ over_graphemes merge_clusters b | MonotoneCharacters ↦ over_graphemes unsafe_to_break b | Characters ↦ over_graphemes unsafe_to_break b ]) level
    )

pub clusters_formed-marked : (b : Buffer) → (bit_and b.scratch_flags.0 1 == 1) ≡ true → b.cluster_level ≢ MonotoneGraphemes
    → clusters_formed b ≡ over_graphemes unsafe_to_break b
unfolding clusters_formed
clusters_formed-marked b seen level = rw seen (at_level b.cluster_level level)
  where
    at_level : (l : BufferClusterLevel) → l ≢ MonotoneGraphemes
        → (elim l as (λ v. Buffer) [ MonotoneGraphemes ↦ over_graphemes merge_clusters b | MonotoneCharacters ↦ over_graphemes unsafe_to_break b | Characters ↦ over_graphemes unsafe_to_break b ]) ≡ over_graphemes unsafe_to_break b
    at_level MonotoneGraphemes other = absurd (other refl)
    at_level MonotoneCharacters other = refl
    at_level Characters other = refl

-- the outcome of a step is that of any other step that makes the same of the buffer at hand
pub Outcome-alike : {T : Type 0} (f g : Buffer → Buffer) (old new : Buffer) (result : Result T ShapeError) → g old ≡ f old
    → Outcome (step g) old new result → Outcome (step f) old new result
Outcome-alike f g old new (Ok _) same ran = record {
  made = ran.made ∙ same;
  each_within = (let P : Buffer → Type 0 = λ b. length b.items ≤ limit_of old in subst P same ran.each_within.0, tt);
  within = ran.within;
  same_limit = ran.same_limit;
}
Outcome-alike f g old new (Err _) same refused = refused_alike refused
  where
    refused_alike : {error : ShapeError} → Refused (step g ∷ []) old error → Refused (step f ∷ []) old error
    refused_alike (for_length (inl past)) =
        for_length (inl (let P : Buffer → Type 0 = λ b. limit_of old < length b.items in subst P same past))
    refused_alike (for_length (inr none)) = absurd none
    refused_alike for_memory = for_memory

length-with_circle : (unicode : UnicodeMeaning) (items : List Item) (b : Buffer) → 0 < length items
    → length b.items < length (with_circle unicode items b).items
length-with_circle unicode [] b some = absurd (omega arith)
length-with_circle unicode (first ∷ rest) b some = omega arith

-- a circle is refused for its length only if the list is at its limit
pub Refused-circle : (unicode : UnicodeMeaning) (b : Buffer) (error : ShapeError) → (error ≡ Length → limit_of b ≤ length b.items)
    → 0 < length b.items
    → Refused (step (λ b. with_circle unicode b.items b) ∷ []) b error
Refused-circle unicode b Memory full some = for_memory
Refused-circle unicode b Length full some =
    let limit : limit_of b ≤ length b.items = full refl in
    let longer = length-with_circle unicode b.items b some in
    for_length (inl (omega (arith, longer)))

pub dotted_circled-put : (unicode : UnicodeMeaning) (face : FaceMeaning) (b : Buffer) → takes_circle face b ≡ true
    → begins_with_mark is_mark_item b.items ≡ true → with_circle unicode b.items b ≡ dotted_circled unicode face b
unfolding dotted_circled
dotted_circled-put unicode face b takes mark = rw (takes, mark) refl

pub dotted_circled-none : (unicode : UnicodeMeaning) (face : FaceMeaning) (b : Buffer) → takes_circle face b ≡ false
    → dotted_circled unicode face b ≡ b
unfolding dotted_circled
dotted_circled-none unicode face b takes = rw takes refl

pub dotted_circled-no_mark : (unicode : UnicodeMeaning) (face : FaceMeaning) (b : Buffer) → takes_circle face b ≡ true
    → begins_with_mark is_mark_item b.items ≡ false → dotted_circled unicode face b ≡ b
unfolding dotted_circled
dotted_circled-no_mark unicode face b takes mark = rw (takes, mark) refl

-- a text in its native direction stays, any other is reversed
pub natively_ordered-kept : (unicode : UnicodeMeaning) (b : Buffer) → is_against (native_direction unicode b) b.direction ≡ false
    → natively_ordered unicode b ≡ b
unfolding natively_ordered
natively_ordered-kept unicode b native = rw native refl

pub natively_ordered-reversed : (unicode : UnicodeMeaning) (b : Buffer) → is_against (native_direction unicode b) b.direction ≡ true
    → natively_ordered unicode b ≡ graphemes_reversed (merged_to_reverse b)
unfolding natively_ordered
natively_ordered-reversed unicode b against = rw against refl

pub merged_to_reverse-merged : (b : Buffer) → b.cluster_level ≡ MonotoneCharacters → merged_to_reverse b ≡ over_graphemes merge_clusters b
merged_to_reverse-merged b level = ap (at_level_to_reverse b) level

pub merged_to_reverse-kept : (b : Buffer) → b.cluster_level ≢ MonotoneCharacters → merged_to_reverse b ≡ b
merged_to_reverse-kept b level = kept b.cluster_level level
  where
    kept : (l : BufferClusterLevel) → l ≢ MonotoneCharacters → at_level_to_reverse b l ≡ b
    kept MonotoneGraphemes other = refl
    kept MonotoneCharacters other = absurd (other refl)
    kept Characters other = refl
