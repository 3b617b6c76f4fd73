-- Preparing leaves the characters of a text if no circle goes in, nothing is reversed, and no character has another
-- form.
use Rattle.std.proofs.Common.{◌≡◌, ℕ, ◌&&◌, Bool, true, false, List, [], ◌∷◌, map, Option, None, Some, unwrap_or, refl, sym, ap, ap₂, ◌∙◌, subst}
use Rattle.std.proofs.lemmas.List.Elements.{recursion_from_All}
use Rattle.std.specs.Prelude.{All}
use Rattle.std.specs.List.{AllByRecursion}
use Rattle.canonical_form.specs.Expanded.{begins_with_mark}
use Rattle.shape_items.specs.Buffer.{Buffer}
use Rattle.shape_items.specs.BufferClusters.{merge_clusters, unsafe_to_break}
use Rattle.shape_common.specs.Direction.{is_backward}
use Rattle.shape_common.specs.Face.{FaceMeaning}
use Rattle.shape_items.specs.Flags.{with_mask}
use Rattle.shape_items.specs.Items.{Item, new_item, char_of, is_mark_item}
use Rattle.shape_common.specs.Unicode.{UnicodeMeaning, is_mark}
use Rattle.shape_items.specs.UnicodeProps.{with_unicode_props}
use Rattle.shape_buffer.specs.Walks.{items_mapped}
use Rattle.shape_common.specs.declared.text_types.Direction.{Direction}
use Rattle.shape_items.proofs.Merging.KeyLemmas.{IsKey, keys-merge_clusters, keys-unsafe_to_break}
use Rattle.shape_plan.specs.Run.{hook_if}
use Rattle.shape_plan.specs.declared.decisions.Decisions.{Decisions}
use Rattle.shape_plan.proofs.PreservationLemmas.{preserving-hook}
use Rattle.shape_prepare.specs.Begun.{begun}
use Rattle.shape_prepare.specs.ClustersFormed.{clusters_formed, over_graphemes}
use Rattle.shape_prepare.specs.DottedCircle.{dotted_circled, takes_circle}
use Rattle.shape_prepare.specs.Graphemes.{graphemes_marked, continuations_marked, is_to_next}
use Rattle.shape_prepare.specs.PreservedCharacters.{PreservesCharacters, rotated_char, PreparingPreservesCharacters}
use Rattle.shape_prepare.specs.NativeOrder.{natively_ordered, native_direction, is_against}
use Rattle.shape_prepare.specs.Rotated.{rotated, rotated_item, in_forms, mirrored_or_masked, form_in}
use Rattle.shape_prepare.specs.declared.graphemes.Before.{Before}
use Rattle.shape_prepare.specs.declared.graphemes.Before.TheVariants.{Plain}
use Rattle.shape_prepare.proofs.StepLemmas.{over_graphemes-preserved, clusters_formed-cases}

-- ---- the beginning: masks, properties, no circle

marked-chars : (unicode : UnicodeMeaning) (mask : ℕ) (items : List Item) (before : Before)
    → map char_of (continuations_marked unicode before (map (with_unicode_props unicode) (map (with_mask mask) items))) ≡ map char_of items
marked-chars unicode mask [] before = refl
marked-chars unicode mask (item ∷ items) before =
    ap (λ (l : List ℕ). item.codepoint ∷ l)
    (marked-chars unicode mask items (is_to_next unicode before (with_unicode_props unicode (with_mask mask item))))

begun-chars : (unicode : UnicodeMeaning) (mask : ℕ) (b : Buffer)
    → map char_of (graphemes_marked unicode (begun mask b)).items ≡ map char_of b.items
unfolding begun graphemes_marked
begun-chars unicode mask b = marked-chars unicode mask b.items Plain

begins-marked : (unicode : UnicodeMeaning) (mask : ℕ) (items : List Item)
    → begins_with_mark is_mark_item (continuations_marked unicode Plain (map (with_unicode_props unicode) (map (with_mask mask) items)))
    ≡ begins_with_mark (is_mark unicode) (map char_of items)
begins-marked unicode mask [] = refl
begins-marked unicode mask (item ∷ items) = refl

circle-test : (unicode : UnicodeMeaning) (face : FaceMeaning) (mask : ℕ) (b : Buffer)
    → (takes_circle face (graphemes_marked unicode (begun mask b))
    && begins_with_mark is_mark_item (graphemes_marked unicode (begun mask b)).items)
    ≡ (takes_circle face b && begins_with_mark (is_mark unicode) (map char_of b.items))
unfolding begun graphemes_marked
circle-test unicode face mask b = ap (λ (t : Bool). takes_circle face b && t) (begins-marked unicode mask b.items)

no_circle-same : (unicode : UnicodeMeaning) (face : FaceMeaning) (b : Buffer)
    → (takes_circle face b && begins_with_mark is_mark_item b.items) ≡ false → dotted_circled unicode face b ≡ b
unfolding dotted_circled
no_circle-same unicode face b off = rw off refl

-- ---- clusters, and the native order

IsKey-char : IsKey char_of
IsKey-char = record { by_cluster = λ item cluster. refl; by_break = λ item. refl }

over-chars : (f : ℕ → ℕ → Buffer → Buffer)
    → ((start end : ℕ) (b : Buffer) → map char_of (f start end b).items ≡ map char_of b.items) → PreservesCharacters (over_graphemes f)
over-chars f same b =
    over_graphemes-preserved (λ c. map char_of c.items ≡ map char_of b.items) f (λ start end c so_far. same start end c ∙ so_far) b refl

formed-chars : PreservesCharacters clusters_formed
formed-chars b =
    clusters_formed-cases (λ c. map char_of c.items ≡ map char_of b.items) b
    (over-chars merge_clusters (keys-merge_clusters char_of IsKey-char) b)
    (over-chars unsafe_to_break (keys-unsafe_to_break char_of IsKey-char.by_break) b) refl

not_reversed-same : (unicode : UnicodeMeaning) (b : Buffer) → is_against (native_direction unicode b) b.direction ≡ false
    → natively_ordered unicode b ≡ b
unfolding natively_ordered
not_reversed-same unicode b off = rw off refl

-- ---- forms depend on characters alone

mirrored-char : (mask : ℕ) (item : Item) (answer : Option ℕ)
    → char_of (mirrored_or_masked mask item answer) ≡ char_of (mirrored_or_masked mask (new_item item.codepoint 0) answer)
mirrored-char mask item None = refl
mirrored-char mask item (Some c) = refl

forms-char : (unicode : UnicodeMeaning) (face : FaceMeaning) (mask : ℕ) (item : Item) (mirrors is_upright : Bool)
    → char_of (in_forms unicode face mirrors mask is_upright item)
    ≡ char_of (in_forms unicode face mirrors mask is_upright (new_item item.codepoint 0))
forms-char unicode face mask item true true =
    ap (λ c. unwrap_or (form_in face (unicode.vertical c)) c) (mirrored-char mask item (form_in face (unicode.mirrored item.codepoint)))
forms-char unicode face mask item true false = mirrored-char mask item (form_in face (unicode.mirrored item.codepoint))
forms-char unicode face mask item false true = refl
forms-char unicode face mask item false false = refl

mapped-chars : (f : Item → Item) (g : ℕ → ℕ) → ((item : Item) → char_of (f item) ≡ g item.codepoint) → (items : List Item)
    → AllByRecursion (λ c. g c ≡ c) (map char_of items) → map char_of (map f items) ≡ map char_of items
mapped-chars f g goes [] own = refl
mapped-chars f g goes (item ∷ items) own =
    ap₂ (λ (c : ℕ) (cs : List ℕ). c ∷ cs) (goes item ∙ own.0) (mapped-chars f g goes items own.1)

rotated-chars : (unicode : UnicodeMeaning) (face : FaceMeaning) (decisions : Decisions) (target : Direction) (b : Buffer)
    → All (λ c. rotated_char unicode face decisions target c ≡ c) (map char_of b.items)
    → map char_of (rotated unicode face decisions target b).items ≡ map char_of b.items
unfolding rotated items_mapped
rotated-chars unicode face decisions target b own =
    mapped-chars (rotated_item unicode face decisions target) (rotated_char unicode face decisions target)
    (λ item. forms-char unicode face decisions.rtlm_mask item (is_backward target) _) b.items
    (recursion_from_All (λ c. rotated_char unicode face decisions target c ≡ c) (map char_of b.items) own)

pub preparing_preserves_characters : PreparingPreservesCharacters
preparing_preserves_characters run target b leaves =
    let unicode = run.unicode in
    let marked = graphemes_marked unicode (begun run.map.global_mask b) in
    let circled = dotted_circled unicode run.face marked in
    let formed = clusters_formed circled in
    let ordered = natively_ordered unicode formed in
    let processed = hook_if run.constants.has_preprocess_text run.hooks (λ h. h.preprocess) ordered in
    let no_circle : circled ≡ marked =
    no_circle-same unicode run.face marked (circle-test unicode run.face run.map.global_mask b ∙ leaves.no_circle) in
    let same : ordered ≡ formed = not_reversed-same unicode formed leaves.not_reversed in
    let hook = preserving-hook PreservesCharacters (λ c. refl) run.constants.has_preprocess_text run.hooks (λ h. h.preprocess) leaves.preprocess in
    let before_forms : map char_of processed.items ≡ map char_of b.items =
    hook ordered ∙ ap (λ (c : Buffer). map char_of c.items) same ∙ formed-chars circled
    ∙ ap (λ (c : Buffer). map char_of c.items) no_circle ∙ begun-chars unicode run.map.global_mask b in
    let own = subst (λ (l : List ℕ). All (λ c. rotated_char unicode run.face run.decisions target c ≡ c) l) (sym before_forms) leaves.own_forms in
    rotated-chars unicode run.face run.decisions target processed own ∙ before_forms
