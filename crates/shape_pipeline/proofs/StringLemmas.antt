-- From what is known of the glyphs of a text to what is known of those of a string.
use Rattle.std.proofs.Common.{◌≡◌, ◌∙◌, ℕ, suc, false, ◌+◌, ◌<◌, ◌≤◌, ◌*◌, Option, None, List, [], ◌∷◌, ◌++◌, length, refl, sym, subst, ap, arith}
use Rattle.std.specs.Prelude.{◌==◌, All}
use Rattle.std.specs.Char.{len_utf8}
use Rattle.std.specs.Int.RustNames.{bit_and}
use Rattle.std.specs.List.Sorted.{IsNonDecreasing}
use Rattle.std.specs.Str.{chars}
use Rattle.std.proofs.lemmas.List.{get_or-map, length-map}
use Rattle.std.proofs.lemmas.List.Elements.{All-contains}
use Rattle.shape_items.specs.Buffer.{Buffer, cleared, run_limit, new_buffer}
use Rattle.shape_items.specs.ClusterOrder.{IsMonotoneLevel, IsOrderedFor}
use Rattle.shape_items.specs.Clusters.{clusters}
use Rattle.shape_items.specs.Items.{Item, new_item}
use Rattle.shape_common.specs.Direction.{is_backward}
use Rattle.shape_common.specs.FlagNames.{PRODUCE_UNSAFE_TO_CONCAT}
use Rattle.shape_common.specs.Unicode.{UnicodeMeaning}
use Rattle.shape_common.specs.declared.positions.GlyphPosition.{GlyphPosition}
use Rattle.shape_common.specs.declared.text_types.Direction.{Direction}
use Rattle.shape_common.specs.declared.text_types.Direction.TheVariants.{Invalid}
use Rattle.shape_common.specs.declared.text_types.Script.{Script}
use Rattle.shape_buffer.specs.Guess.{direction_or, guessed_direction, guessed_script, script_or, first_script, script_or_ltr}
use Rattle.shape_buffer.specs.Text.{items_from, text_items, IsFirstByte}
use Rattle.shape_pipeline.specs.GlyphsOf.{AreGlyphsOf}
use Rattle.shape_pipeline.specs.Order.{RunOrdersClusters}
use Rattle.shape_pipeline.specs.Strings.{AreGlyphsOfString, IsPlaceIn, IsTextOf}
use Rattle.shape_plan.specs.Preservation.{RunPreservesFlags}
use Rattle.shape_plan.specs.Run.{Run}

-- the limit of a run, for few characters and for many
limit-few : (n : ℕ) → n ≤ 256 → run_limit n ≤ 16384
limit-few n few = omega arith

limit-many : (n : ℕ) → 256 ≤ n → run_limit n ≤ n * 64
limit-many n many = omega arith

items-length : (start : ℕ) (cs : List ℕ) → length (items_from start cs) ≡ length cs
items-length start [] = refl
items-length start (c ∷ cs) = ap (λ n. suc n) (items-length (start + len_utf8 c) cs)

places-items : (bytes : List ℕ) (items : List Item) → All (IsFirstByte bytes) items → All (IsPlaceIn bytes) (clusters items)
places-items bytes items each i d lt =
    let here : i < length items = omega (arith, length-map items (λ (item : Item). item.cluster), lt) in
    let first = each i (new_item 0 0) here in
    subst (IsPlaceIn bytes) (sym (get_or-map (λ (item : Item). item.cluster) items i (new_item 0 0) d here))
    (record { within = first.within; boundary = first.boundary })

-- a string that is appended to a new buffer
pub text_of-appended : (bytes : List ℕ) (old new : Buffer) (positions : List GlyphPosition) → old ≡ new_buffer
    → new ≡ record old { items = old.items ++ text_items bytes; positions = positions }
    → IsNonDecreasing (clusters (text_items bytes)) → All (IsFirstByte bytes) (text_items bytes) → IsTextOf bytes new
text_of-appended bytes old new positions begins is rising first =
    let appended : new ≡ record new_buffer { items = text_items bytes; positions = positions } =
    is ∙ ap (λ (b : Buffer). record b { items = b.items ++ text_items bytes; positions = positions }) begins in
    rw appended (record {
      items = refl;
      rest = refl;
      rising = rising;
      places = λ k has. All-contains (IsPlaceIn bytes) (clusters (text_items bytes)) k (places-items bytes (text_items bytes) first) has;
    })

module _ (bytes : List ℕ) (text : Buffer) (is : IsTextOf bytes text) where
  string-level : IsMonotoneLevel text.cluster_level
  string-level = subst IsMonotoneLevel (sym (ap (λ (b : Buffer). b.cluster_level) is.rest)) tt

  string-direction : (unicode : UnicodeMeaning)
      → guessed_direction unicode text ≡ script_or_ltr unicode (first_script unicode (text_items bytes))
  string-direction unicode =
      let direction : text.direction ≡ Invalid = ap (λ (b : Buffer). b.direction) is.rest in
      let script : text.script ≡ None = ap (λ (b : Buffer). b.script) is.rest in
      ap (λ (d : Direction). direction_or d (script_or_ltr unicode (guessed_script unicode text))) direction
      ∙ ap (λ (s : Option Script). script_or_ltr unicode (script_or s (first_script unicode text.items))) script
      ∙ ap (λ (items : List Item). script_or_ltr unicode (first_script unicode items)) is.items

  string-without_concat : (bit_and text.flags.0 PRODUCE_UNSAFE_TO_CONCAT == PRODUCE_UNSAFE_TO_CONCAT) ≡ false
  string-without_concat = ap (λ (b : Buffer). bit_and b.flags.0 PRODUCE_UNSAFE_TO_CONCAT == PRODUCE_UNSAFE_TO_CONCAT) is.rest

  string-length : length text.items ≡ length (chars bytes)
  string-length = ap (λ (items : List Item). length items) is.items ∙ items-length 0 (chars bytes)

  pub string-cleared : cleared text ≡ new_buffer
  string-cleared = ap (λ (b : Buffer). cleared b) is.rest

  string-few : (n : ℕ) → length (chars bytes) ≤ 256 → n ≤ run_limit (length text.items) → n ≤ 16384
  string-few n few within =
      let e = string-length in
      let limit : run_limit (length text.items) ≤ 16384 = limit-few (length text.items) (omega (arith, few, e)) in
      omega (arith, within, limit)

  string-many : (n : ℕ) → 256 ≤ length (chars bytes) → n ≤ run_limit (length text.items) → n ≤ length (chars bytes) * 64
  string-many n many within =
      let e = string-length in
      let limit : run_limit (length text.items) ≤ length text.items * 64 = limit-many (length text.items) (omega (arith, many, e)) in
      omega (arith, within, limit, e)

  pub string-glyphs : (run : Run) (glyphs : Buffer) → AreGlyphsOf run text glyphs → RunOrdersClusters run → RunPreservesFlags run
      → AreGlyphsOfString run.unicode bytes glyphs
  string-glyphs run glyphs are preserves preserves_flags =
      let come = are.clusters preserves string-level is.rising in
      let flagged = are.flags preserves_flags in
      record {
        direction = are.direction ∙ string-direction run.unicode;
        places = λ k has. is.places k (come.from_text k has);
        ordered = subst (λ (d : Direction). IsOrderedFor (is_backward d) (clusters glyphs.items)) (sym are.direction) come.ordered;
        one_set = flagged.one_set;
        concat = flagged.concat string-without_concat;
        few = λ few. string-few (length glyphs.items) few are.within;
        many = λ many. string-many (length glyphs.items) many are.within;
      }
