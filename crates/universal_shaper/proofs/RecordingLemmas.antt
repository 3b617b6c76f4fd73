-- Noting what lookups have made keeps clusters, flags and the number of items.
use Rattle.std.proofs.Common.{ℕ, ◌+◌, ◌&&◌, nat_lt, Bool, true, false, if◌then◌else◌, slice_range, refl}
use Rattle.shape_items.specs.Buffer.{Buffer}
use Rattle.syllables.specs.UniversalCategories.{R, VPre}
use Rattle.syllabic.specs.Walking.{item_at}
use Rattle.syllabic.proofs.PreservationLemmas.{Keeps, Keeps-same, Keeps-set, Keeps-mapped, Keeps-each_syllable}
use Rattle.universal_shaper.specs.Recording.{without_substitution, substitutions_cleared, category_set, has_mask, count_before, repha_recorded, rephas_recorded, count_own, prebase_recorded, prebases_recorded}
use Rattle.universal_shaper.specs.Syllables.{with_category}
use Rattle.universal_shaper.proofs.SyllableLemmas.{leaves-with_category}

pub Keeps-cleared : (b : Buffer) → Keeps b (substitutions_cleared b)
Keeps-cleared b = Keeps-mapped without_substitution (λ x. refl) (λ x. refl) b

Keeps-category_set : (category i : ℕ) (b : Buffer) → Keeps b (category_set category i b)
Keeps-category_set category i b = Keeps-set (with_category category) (leaves-with_category category) i b

keeps-if : (t : Bool) (category i : ℕ) (b : Buffer) → Keeps b (if t then category_set category i b else b)
keeps-if true category i b = Keeps-category_set category i b
keeps-if false category i b = Keeps-same b

pub Keeps-rephas_recorded : (mask : ℕ) (b : Buffer) → Keeps b (rephas_recorded mask b)
Keeps-rephas_recorded mask b =
    Keeps-each_syllable (repha_recorded mask) (λ c start end ordered within.
    let i = start + count_before mask (slice_range c.items start end) in
    keeps-if (nat_lt i end && has_mask mask (item_at c.items i)) R i c) b

pub Keeps-prebases_recorded : (b : Buffer) → Keeps b (prebases_recorded b)
Keeps-prebases_recorded b =
    Keeps-each_syllable prebase_recorded (λ c start end ordered within.
    let i = start + count_own (slice_range c.items start end) in keeps-if (nat_lt i end) VPre i c) b
