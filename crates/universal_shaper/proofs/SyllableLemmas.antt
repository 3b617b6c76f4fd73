-- Finding syllables keeps clusters, flags and the number of items.
use Rattle.std.proofs.Common.{ℕ, zero, suc, ◌+◌, ◌==◌, ◌&&◌, true, false, if◌then◌else◌, length, set, drop, refl}
use Rattle.shape_items.specs.Buffer.{Buffer}
use Rattle.syllabic.specs.Walking.{item_at, category_of, marked}
use Rattle.syllabic.proofs.PreservationLemmas.{Keeps, Keeps-same, Keeps-then, Keeps-set, Keeps-mapped, Keeps-each_syllable, Keeps-marked, LeavesBoth, leaves-same_mask}
use Rattle.syllabic.proofs.ScanningLemmas.{Keeps-syllables}
use Rattle.universal_shaper.specs.Categories as categories
use Rattle.universal_shaper.specs.Categories.{categorized}
use Rattle.universal_shaper.specs.Syllables.{with_category, mark_follows, skipped_at, skipped_to, joiners_skipped, count_skipped, numbered, found}
use Rattle.syllables.specs.Grammar.{first_syllable}
use Rattle.syllables.specs.UniversalCategories.{CGJ, ZWNJ}
use Rattle.syllables.specs.UniversalGrammar.{universal_grammar}

pub leaves-with_category : (category : ℕ) → LeavesBoth (with_category category)
leaves-with_category category = leaves-same_mask (with_category category) (λ x. refl) (λ x. refl)

Keeps-skipped_at : (i : ℕ) (b : Buffer) → Keeps b (skipped_at i b)
Keeps-skipped_at i b =
    elim (category_of (item_at b.items i) == ZWNJ && mark_follows (drop (i + 1) b.items))
    as (λ t. Keeps b (if t then record b { items = set b.items i (with_category CGJ (item_at b.items i)) } else b)) [
      | true ↦ Keeps-set (with_category CGJ) (leaves-with_category CGJ) i b
      | false ↦ Keeps-same b
    ]

Keeps-skipped_to : (n : ℕ) (b : Buffer) → Keeps b (skipped_to n b)
Keeps-skipped_to zero b = Keeps-same b
Keeps-skipped_to (suc i) b =
    let before = skipped_to i b in
    Keeps-then b before (skipped_at i before) (Keeps-skipped_to i b) (Keeps-skipped_at i before)

pub Keeps-found : (b : Buffer) → Keeps b (found b)
Keeps-found b =
    let one = categorized b in
    let two = joiners_skipped one in
    let three = numbered two in
    Keeps-then b one (found b) (Keeps-mapped categories.with_category (λ x. refl) (λ x. refl) b)
    (Keeps-then one two (found b) (Keeps-skipped_to (length one.items) one)
    (Keeps-then two three (found b) (Keeps-syllables (first_syllable universal_grammar 8) (count_skipped two.items) two)
    (Keeps-each_syllable marked Keeps-marked three)))
