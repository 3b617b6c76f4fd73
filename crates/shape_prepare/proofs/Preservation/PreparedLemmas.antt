-- A text is prepared by its properties, and stays so.
use Rattle.std.proofs.Common.{◌≡◌, ℕ, Bool, true, false, if◌then◌else◌, List, [], ◌∷◌, ◌++◌, map, Option, None, Some, is_some, unwrap_or, refl, sym, ◌∙◌, subst, inl, inr}
use Rattle.std.proofs.lemmas.Bool.{cases_Bool}
use Rattle.std.proofs.lemmas.List.Elements.{All-from_recursion, recursion_from_All}
use Rattle.canonical_form.proofs.Lists.DividedLemmas.{whole, whole-divided}
use Rattle.shape_items.specs.Buffer.{Buffer}
use Rattle.shape_items.specs.BufferClusters.{merge_clusters, unsafe_to_break}
use Rattle.shape_common.specs.Direction.{is_backward}
use Rattle.shape_common.specs.Face.{FaceMeaning}
use Rattle.shape_items.specs.Items.{Item}
use Rattle.shape_items.specs.Prepared.{IsPreparedItem}
use Rattle.shape_common.specs.Unicode.{UnicodeMeaning, LawfulUnicode, FormsArePlain}
use Rattle.shape_items.specs.UnicodeProps.{with_unicode_props}
use Rattle.shape_buffer.specs.Walks.{items_mapped}
use Rattle.shape_common.specs.declared.text_types.Direction.{Direction}
use Rattle.shape_items.proofs.Merging.KeyLemmas.{keys-merge_clusters, keys-unsafe_to_break}
use Rattle.shape_items.proofs.PreparedLemmas.{ArePrepared, unmarked_ccc, ccc_with_props, prepared_key, IsKey-prepared_key, prepared_by_keys}
use Rattle.shape_plan.specs.Run.{hook_if}
use Rattle.shape_plan.specs.declared.decisions.Decisions.{Decisions}
use Rattle.shape_prepare.specs.Begun.{begun}
use Rattle.shape_prepare.specs.ClustersFormed.{clusters_formed, over_graphemes}
use Rattle.shape_prepare.specs.DottedCircle.{dotted_circled}
use Rattle.shape_items.specs.GraphemeSpans.{graphemes, is_continuation}
use Rattle.shape_prepare.specs.Graphemes.{graphemes_marked, continuations_marked, is_to_next}
use Rattle.shape_prepare.specs.NativeOrder.{natively_ordered, native_direction, is_against, merged_to_reverse, from_last}
use Rattle.shape_prepare.specs.PreparedPoint.{PreservesPrepared, PreparingPrepares}
use Rattle.shape_prepare.specs.Rotated.{rotated, rotated_item, in_forms, mirrored_or_masked, mirrored_item, form_in}
use Rattle.shape_prepare.specs.declared.graphemes.Before.{Before}
use Rattle.shape_prepare.specs.declared.graphemes.Before.TheVariants.{Plain}
use Rattle.shape_prepare.proofs.Preservation.PreservationLemmas.{from_last-first}
use Rattle.shape_prepare.proofs.StepLemmas.{dotted_circled-cases, over_graphemes-preserved, clusters_formed-cases, merged_to_reverse-cases}
use Rattle.shape_plan.proofs.PreservationLemmas.{preserving-hook}

append-prepared : (unicode : UnicodeMeaning) (xs ys : List Item) → ArePrepared unicode xs → ArePrepared unicode ys
    → ArePrepared unicode (xs ++ ys)
append-prepared unicode [] ys first last = last
append-prepared unicode (x ∷ xs) ys first last = (first.0, append-prepared unicode xs ys first.1 last)

left-prepared : (unicode : UnicodeMeaning) (xs ys : List Item) → ArePrepared unicode (xs ++ ys) → ArePrepared unicode xs
left-prepared unicode [] ys all = tt
left-prepared unicode (x ∷ xs) ys all = (all.0, left-prepared unicode xs ys all.1)

right-prepared : (unicode : UnicodeMeaning) (xs ys : List Item) → ArePrepared unicode (xs ++ ys) → ArePrepared unicode ys
right-prepared unicode [] ys all = all
right-prepared unicode (x ∷ xs) ys all = right-prepared unicode xs ys all.1

from_last-prepared : (unicode : UnicodeMeaning) (parts : List (List Item)) → ArePrepared unicode (whole parts)
    → ArePrepared unicode (from_last parts)
from_last-prepared unicode [] all = all
from_last-prepared unicode (part ∷ parts) all =
    subst (λ (l : List Item). ArePrepared unicode l) (sym (from_last-first part parts))
    (append-prepared unicode (from_last parts) part (from_last-prepared unicode parts (right-prepared unicode part (whole parts) all))
    (left-prepared unicode part (whole parts) all))

module _ (unicode : UnicodeMeaning) (lawful : LawfulUnicode unicode) where
  marked-prepared : (items : List Item) (before : Before)
      → ArePrepared unicode (continuations_marked unicode before (map (with_unicode_props unicode) items))
  marked-prepared [] before = tt
  marked-prepared (item ∷ items) before = (
    record { mark = refl; ccc = ccc_with_props unicode lawful item.codepoint },
    marked-prepared items (is_to_next unicode before (with_unicode_props unicode item)),
  )

  circled-prepared : (face : FaceMeaning) (b : Buffer) → ArePrepared unicode b.items
      → ArePrepared unicode (dotted_circled unicode face b).items
  circled-prepared face b all =
      dotted_circled-cases (λ c. ArePrepared unicode c.items) unicode face b all
      (λ first rest is. (record { mark = refl; ccc = ccc_with_props unicode lawful 0x25CC }, all))

  -- a character becomes a form of its own
  form-prepared : (form : ℕ → Option ℕ) → FormsArePlain unicode form → (item : Item) (d : ℕ) → IsPreparedItem unicode item
      → form item.codepoint ≡ Some d → IsPreparedItem unicode (record item { codepoint = d })
  form-prepared form plain item d prepared is =
      let both = plain item.codepoint d is in
      record {
        mark = prepared.mark ∙ both.0.no_mark ∙ sym both.1.no_mark;
        ccc = prepared.ccc ∙ unmarked_ccc unicode lawful item.codepoint both.0.no_mark
            ∙ sym (unmarked_ccc unicode lawful d both.1.no_mark);
      }

  mirrored-prepared : (face : FaceMeaning) (mask : ℕ) (item : Item) → IsPreparedItem unicode item → (answer : Option ℕ)
      → unicode.mirrored item.codepoint ≡ answer → IsPreparedItem unicode (mirrored_or_masked mask item (form_in face answer))
  mirrored-prepared face mask item prepared None is = record { mark = prepared.mark; ccc = prepared.ccc }
  mirrored-prepared face mask item prepared (Some d) is =
      elim (is_some (face.nominal_glyph d)) as (λ t. IsPreparedItem unicode (mirrored_or_masked mask item (if t then Some d else None))) [
        | true ↦ form-prepared unicode.mirrored lawful.mirrors_are_plain item d prepared is
        | false ↦ record { mark = prepared.mark; ccc = prepared.ccc }
      ]

  upright-prepared : (face : FaceMeaning) (item : Item) → IsPreparedItem unicode item → (answer : Option ℕ)
      → unicode.vertical item.codepoint ≡ answer
      → IsPreparedItem unicode (record item { codepoint = unwrap_or (form_in face answer) item.codepoint })
  upright-prepared face item prepared None is = prepared
  upright-prepared face item prepared (Some d) is =
      elim (is_some (face.nominal_glyph d)) as (λ t. IsPreparedItem unicode
      (record item { codepoint = unwrap_or (if t then Some d else None) item.codepoint })) [
        | true ↦ form-prepared unicode.vertical lawful.verticals_are_plain item d prepared is
        | false ↦ prepared
      ]

  forms-prepared : (face : FaceMeaning) (mask : ℕ) (item : Item) → IsPreparedItem unicode item → (mirrors is_upright : Bool)
      → IsPreparedItem unicode (in_forms unicode face mirrors mask is_upright item)
  forms-prepared face mask item prepared true true =
      let mirrored = mirrored_item unicode face mask item in
      upright-prepared face mirrored (mirrored-prepared face mask item prepared (unicode.mirrored item.codepoint) refl)
      (unicode.vertical mirrored.codepoint) refl
  forms-prepared face mask item prepared true false = mirrored-prepared face mask item prepared (unicode.mirrored item.codepoint) refl
  forms-prepared face mask item prepared false true = upright-prepared face item prepared (unicode.vertical item.codepoint) refl
  forms-prepared face mask item prepared false false = prepared

  mapped-prepared : (f : Item → Item) → ((item : Item) → IsPreparedItem unicode item → IsPreparedItem unicode (f item))
      → (items : List Item) → ArePrepared unicode items → ArePrepared unicode (map f items)
  mapped-prepared f preserves [] all = tt
  mapped-prepared f preserves (item ∷ items) all = (preserves item all.0, mapped-prepared f preserves items all.1)

  rotated-prepared : (face : FaceMeaning) (decisions : Decisions) (target : Direction) (b : Buffer) → ArePrepared unicode b.items
      → ArePrepared unicode (rotated unicode face decisions target b).items
  unfolding rotated items_mapped
  rotated-prepared face decisions target b all =
      mapped-prepared (rotated_item unicode face decisions target)
      (λ item prepared. forms-prepared face decisions.rtlm_mask item prepared (is_backward target) _) b.items all

over-prepared : (unicode : UnicodeMeaning) (f : ℕ → ℕ → Buffer → Buffer)
    → ((start end : ℕ) (b : Buffer) → map prepared_key (f start end b).items ≡ map prepared_key b.items)
    → (b : Buffer) → ArePrepared unicode b.items → ArePrepared unicode (over_graphemes f b).items
over-prepared unicode f same b all =
    let kept = over_graphemes-preserved (λ c. map prepared_key c.items ≡ map prepared_key b.items) f
    (λ start end c so_far. same start end c ∙ so_far) b refl in
    prepared_by_keys unicode b.items (over_graphemes f b).items kept all

merged-prepared : (unicode : UnicodeMeaning) (b : Buffer) → ArePrepared unicode b.items
    → ArePrepared unicode (over_graphemes merge_clusters b).items
merged-prepared unicode = over-prepared unicode merge_clusters (keys-merge_clusters prepared_key IsKey-prepared_key)

formed-prepared : (unicode : UnicodeMeaning) (b : Buffer) → ArePrepared unicode b.items → ArePrepared unicode (clusters_formed b).items
formed-prepared unicode b all =
    clusters_formed-cases (λ c. ArePrepared unicode c.items) b (merged-prepared unicode b all)
    (over-prepared unicode unsafe_to_break (keys-unsafe_to_break prepared_key IsKey-prepared_key.by_break) b all) all

to_reverse-prepared : (unicode : UnicodeMeaning) (b : Buffer) → ArePrepared unicode b.items → ArePrepared unicode (merged_to_reverse b).items
to_reverse-prepared unicode b all = merged_to_reverse-cases (λ c. ArePrepared unicode c.items) b all (merged-prepared unicode b all)

ordered-prepared : (unicode : UnicodeMeaning) (b : Buffer) → ArePrepared unicode b.items
    → ArePrepared unicode (natively_ordered unicode b).items
unfolding natively_ordered
ordered-prepared unicode b all = elim (cases_Bool (is_against (native_direction unicode b) b.direction)) [
  | inl on ↦ rw on (
      let merged = merged_to_reverse b in
      from_last-prepared unicode (graphemes merged.items)
      (subst (λ (l : List Item). ArePrepared unicode l) (sym (whole-divided is_continuation merged.items)) (to_reverse-prepared unicode b all))
      )
  | inr off ↦ rw off all
]

marked_text-prepared : (unicode : UnicodeMeaning) → LawfulUnicode unicode → (b : Buffer)
    → ArePrepared unicode (graphemes_marked unicode b).items
unfolding graphemes_marked
marked_text-prepared unicode lawful b = marked-prepared unicode lawful b.items Plain

pub preparing_prepares : PreparingPrepares
preparing_prepares run target b lawful preserves =
    let unicode = run.unicode in
    let marked = graphemes_marked unicode (begun run.map.global_mask b) in
    let circled = dotted_circled unicode run.face marked in
    let formed = clusters_formed circled in
    let ordered = natively_ordered unicode formed in
    let first = marked_text-prepared unicode lawful (begun run.map.global_mask b) in
    let before_hook = ordered-prepared unicode formed
    (formed-prepared unicode circled (circled-prepared unicode lawful run.face marked first)) in
    let hook = preserving-hook (PreservesPrepared unicode) (λ c all. all) run.constants.has_preprocess_text run.hooks (λ h. h.preprocess) preserves in
    let processed = hook_if run.constants.has_preprocess_text run.hooks (λ h. h.preprocess) ordered in
    let after_hook = hook ordered (All-from_recursion (IsPreparedItem unicode) ordered.items before_hook) in
    All-from_recursion (IsPreparedItem unicode) (rotated unicode run.face run.decisions target processed).items
    (rotated-prepared unicode lawful run.face run.decisions target processed
    (recursion_from_All (IsPreparedItem unicode) processed.items after_hook))
