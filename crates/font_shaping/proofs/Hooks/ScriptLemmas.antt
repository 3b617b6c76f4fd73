-- what the shapers of Hangul, Hebrew and Thai do leaves what lookups may ask for as it is
use Rattle.std.proofs.Common.{ℕ, zero, suc, ◌+◌, ◌-◌, ◌==◌, not, min, Bool, true, false, if◌then◌else◌, Option, None, Some, drop, length, slice_range, refl, ◌∙◌}
use Rattle.std.specs.Option.{option_map_or}
use Rattle.shape_common.specs.Face.{FaceMeaning}
use Rattle.shape_common.specs.Unicode.{UnicodeMeaning}
use Rattle.shape_common.specs.declared.text_types.BufferClusterLevel.{BufferClusterLevel}
use Rattle.shape_common.specs.declared.text_types.BufferClusterLevel.TheVariants.{MonotoneGraphemes, MonotoneCharacters, Characters}
use Rattle.shape_items.specs.Buffer.{Buffer}
use Rattle.shape_items.specs.BufferClusters.{unsafe_to_break, merge_out_clusters}
use Rattle.shape_items.specs.Items.{Item}
use Rattle.script_shapers.specs.Hangul as hangul
use Rattle.script_shapers.specs.HebrewPoints.{third_place, step_before, points_reordered}
use Rattle.script_shapers.specs.Thai as thai
use Rattle.script_shapers.specs.ThaiForms as forms
use Rattle.script_shapers.specs.declared.hangul.syllables.Syllable.{Syllable}
use Rattle.script_shapers.specs.declared.hangul.syllables.Syllable.TheVariants as is
use Rattle.script_shapers.specs.declared.thai.forms.Mark.{Mark}
use Rattle.script_shapers.specs.declared.thai.forms.Walk.{Walk}
use Rattle.font_shaping.proofs.SameWorkLemmas.{Same, Stays, same-if, same-fold, same-break, same-merge, same-merge_out}

-- ---- Hangul

same-graphemes : (level : BufferClusterLevel) (f : Buffer → Buffer) → Stays f → Stays (hangul.at_graphemes level f)
same-graphemes MonotoneGraphemes f stays b = stays b
same-graphemes MonotoneCharacters f stays b = refl
same-graphemes Characters f stays b = refl

same-merged : (syllable : Syllable) (i end : ℕ) → Stays (hangul.merged_syllable syllable i end)
same-merged (is.Composed size whole) i end b = same-merge i end b
same-merged (is.Jamo size) i end b = same-graphemes b.cluster_level (merge_out_clusters i end) (same-merge_out i end) b
same-merged (is.Parts l v t) i end b = same-graphemes b.cluster_level (merge_out_clusters i end) (same-merge_out i end) b
same-merged (is.PartsBefore l v) i end b = same-graphemes b.cluster_level (merge_out_clusters i end) (same-merge_out i end) b
same-merged is.Whole i end b = same-graphemes b.cluster_level (merge_out_clusters i end) (same-merge_out i end) b
same-merged is.Nothing i end b = same-graphemes b.cluster_level (merge_out_clusters i end) (same-merge_out i end) b

same-joined_tone : (i end : ℕ) (zero_width : Bool) → Stays (hangul.joined_tone i end zero_width)
same-joined_tone i end zero_width b =
    let marked = unsafe_to_break i end b in
    same-if zero_width b marked (merge_out_clusters i (end + 1) marked) (same-break i end b)
    (same-merge_out i (end + 1) marked ∙ same-break i end b)

same-with_tone : (face : FaceMeaning) (i end : ℕ) (tone : Option Item) → Stays (hangul.with_tone face i end tone)
same-with_tone face i end None b = refl
same-with_tone face i end (Some tone) b = same-joined_tone i end (hangul.is_zero_width face tone.codepoint) b

same-first : (t : Bool) (b : Buffer) (x y : Buffer × ℕ) → Same b x.0 → Same b y.0
    → Same b (let next : Buffer × ℕ = if t then x else y in next.0)
same-first true b x y one two = one
same-first false b x y one two = two

module _ (unicode : UnicodeMeaning) (face : FaceMeaning) where
  same-joined_at : (i : ℕ) → Stays (hangul.joined_at unicode face i)
  same-joined_at i b =
      let rest = drop i b.items in
      let syllable = hangul.syllable_at unicode face rest in
      let end = i + min (hangul.taken_of syllable) (length rest) in
      let marked = i + min (hangul.marks_of unicode syllable rest) (length rest) in
      let joined = hangul.joined_syllable syllable i marked end b in
      same-with_tone face i end (hangul.tone_after syllable rest) joined ∙ same-merged syllable i end (unsafe_to_break i marked b)
      ∙ same-break i marked b

  same-joined_next : (i : ℕ) (b : Buffer) (skip : ℕ) → Same b (hangul.joined_next unicode face i (b, skip)).0
  same-joined_next i b skip =
      same-first (not (skip == 0)) b (b, skip - 1) (hangul.joined_at unicode face i b, hangul.taken_at unicode face (drop i b.items) - 1)
      refl (same-joined_at i b)

  same-joined_to : (n : ℕ) (b : Buffer) → Same b (hangul.joined_to unicode face n b).0
  same-joined_to zero b = refl
  same-joined_to (suc i) b =
      same-joined_next i (hangul.joined_to unicode face i b).0 (hangul.joined_to unicode face i b).1 ∙ same-joined_to i b

  pub same-hangul : Stays (hangul.composed_text unicode face)
  same-hangul b = same-joined_to (length b.items) b

-- ---- Hebrew

pub same-points : (b : Buffer) (start end : ℕ) → Same b (points_reordered b start end)
same-points b start end = at_place (third_place 0 0 0 (slice_range b.items start end))
  where
    at_place : (place : Option ℕ) → Same b (option_map_or (λ p. step_before (start + p) b) place b)
    at_place None = refl
    at_place (Some place) = same-merge (start + place - 1) (start + place + 1) b

-- ---- Thai

same-parted : Stays thai.sara_am_parted
same-parted b =
    same-fold (λ c span. merge_out_clusters span.0 span.1 c) (λ c span. same-merge_out span.0 span.1 c)
    (thai.am_spans b.cluster_level b.items (length b.items)) b

module _ (face : FaceMeaning) where
  same-spanned : (base i : ℕ) → Stays (forms.marks_spanned base i)
  same-spanned base i b =
      same-if (forms.ends_marks (drop i b.items)) b (unsafe_to_break (min base i) i b) b (same-break (min base i) i b) refl

  same-formed_by : (walk : Walk) (m : Option Mark) (i : ℕ) → Stays (forms.formed_by face walk m i)
  same-formed_by walk None i b = refl
  same-formed_by walk (Some m) i b = same-spanned walk.base i b

  same-formed_to : (n : ℕ) (b : Buffer) → Same b (forms.formed_to face n b).0
  same-formed_to zero b = refl
  same-formed_to (suc i) b =
      let c = (forms.formed_to face i b).0 in
      same-formed_by (forms.formed_to face i b).1 (forms.mark_of (forms.item_at c.items i).codepoint) i c ∙ same-formed_to i b

  pub same-thai : (due : Bool) → Stays (forms.thai_text due face)
  same-thai due b =
      let parted = thai.sara_am_parted b in
      same-if due b (forms.forms_put face parted) parted (same-formed_to (length parted.items) parted ∙ same-parted b) (same-parted b)
