-- what shapers of syllables share leaves what lookups may ask for as it is
use Rattle.std.proofs.Common.{ℕ, zero, suc, ◌+◌, ◌-◌, ◌==◌, Option, None, Some, length, refl, ◌∙◌}
use Rattle.shape_common.specs.Face.{FaceMeaning}
use Rattle.shape_common.specs.declared.text_types.GlyphId.{GlyphId}
use Rattle.shape_items.specs.Buffer.{Buffer}
use Rattle.shape_items.specs.BufferClusters.{merge_clusters}
use Rattle.syllabic.specs.Circles.{circles_by, due_glyph, with_circles}
use Rattle.syllabic.specs.Constraints.{tag_of, pairs_of, are_needed, circles_put, vowels_parted}
use Rattle.syllabic.specs.Moving.{exchanged, stepped_before, stepped_after, brought_before, sent_after, run_brought_before}
use Rattle.syllabic.specs.Scanning.{Cut, numbered_to, syllables_numbered}
use Rattle.syllabic.specs.Walking.{OfSyllable, begins_at, end_of, at_syllable, to_syllable, each_syllable, marked}
use Rattle.syllabic.specs.declared.circles.Circled.{Circled}
use Rattle.font_shaping.proofs.SameWorkLemmas.{Same, Stays, same-if, same-break, same-merge}

-- ---- walks

abbrev pub StaysIn : OfSyllable → Type 0
StaysIn does = (b : Buffer) (start end : ℕ) → Same b (does b start end)

same-at : (does : OfSyllable) → StaysIn does → (i : ℕ) → Stays (at_syllable does i)
same-at does stays i b = same-if (begins_at b.items i) b (does b i (end_of b.items i)) b (stays b i (end_of b.items i)) refl

same-to : (does : OfSyllable) → StaysIn does → (n : ℕ) → Stays (to_syllable does n)
same-to does stays zero b = refl
same-to does stays (suc i) b = same-at does stays i (to_syllable does i b) ∙ same-to does stays i b

pub same-each : (does : OfSyllable) → StaysIn does → Stays (each_syllable does)
same-each does stays b = same-to does stays (length b.items) b

pub stays-marked : StaysIn marked
stays-marked b start end = same-break start end b

-- ---- syllables, circles, vowels

same-numbered_to : (cut : Cut) (skipped n : ℕ) (b : Buffer) → Same b (numbered_to cut skipped n b).0
same-numbered_to cut skipped zero b = refl
same-numbered_to cut skipped (suc i) b = same-numbered_to cut skipped i b

pub same-numbered : (cut : Cut) (skipped : ℕ) → Stays (syllables_numbered cut skipped)
same-numbered cut skipped b = same-numbered_to cut skipped (length b.items) b

same-circles_by : (circled : Circled) (glyph : Option GlyphId) → Stays (circles_by circled glyph)
same-circles_by circled None b = refl
same-circles_by circled (Some glyph) b = refl

pub same-circles : (face : FaceMeaning) (circled : Circled) → Stays (with_circles face circled)
same-circles face circled b = same-circles_by circled (due_glyph face circled.kind b) b

pub same-vowels : Stays vowels_parted
same-vowels b =
    let tag = tag_of b.script in
    let pairs = pairs_of tag in
    let devanagari = tag == 0x4465_7661 in
    same-if (are_needed pairs devanagari b) b (circles_put pairs devanagari b) b refl refl

-- ---- items that change places

same-stepped_before : (place n : ℕ) → Stays (stepped_before place n)
same-stepped_before place zero b = refl
same-stepped_before place (suc n) b = same-stepped_before place n (exchanged (place + n) (place + suc n) b)

pub same-stepped_after : (place n : ℕ) → Stays (stepped_after place n)
same-stepped_after place zero b = refl
same-stepped_after place (suc n) b = same-stepped_after place n b

pub same-brought_before : (place from : ℕ) → Stays (brought_before place from)
same-brought_before place from b =
    same-stepped_before place (from - place) (merge_clusters place (from + 1) b) ∙ same-merge place (from + 1) b

pub same-sent_after : (place to : ℕ) → Stays (sent_after place to)
same-sent_after place to b = same-stepped_after place (to - place) (merge_clusters place (to + 1) b) ∙ same-merge place (to + 1) b

pub same-run_brought : (place from to : ℕ) → Stays (run_brought_before place from to)
same-run_brought place from to b = same-merge place to b
