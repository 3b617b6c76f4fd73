-- what depends on no mask of an item stays in each lookup of positioning
use Rattle.std.proofs.Common.{◌≡◌, ℕ, ◌≤◌, ◌==◌, Bool, true, false, map, min, length, nat_le, nat_lt, slice_set, refl, ◌∙◌, arith, if◌then◌else◌}
use Rattle.std.proofs.lemmas.Bool.Decides.{nat_tests}
use Rattle.std.specs.Int.RustNames.{bit_and}
use Rattle.shape_common.specs.FlagNames.{PRODUCE_UNSAFE_TO_CONCAT}
use Rattle.shape_common.specs.declared.positions.GlyphPosition.{GlyphPosition}
use Rattle.shape_items.specs.Buffer.{Buffer}
use Rattle.shape_items.specs.BufferClusters.{unsafe_to_break, unsafe_to_concat, with_glyph_flags}
use Rattle.shape_items.specs.Clusters.{map_range, mark_concat}
use Rattle.shape_items.specs.Items.{Item}
use Rattle.shape_items.proofs.Merging.KeyLemmas.{keys-map_range, keys-unsafe_to_break}
use Rattle.layout_matching.specs.declared.lookup.Lookup.{Lookup}
use Rattle.layout_positions.specs.Edits.{position_put, broken, concat_marked}
use Rattle.layout_positions.specs.Subtables.{Trial, trial_step}
use Rattle.layout_positions.specs.Walk.{Budgeted, lookup_applied}
use Rattle.layout_positions.proofs.NestedSteps.{step-lookup}
use Rattle.layout_positions.proofs.StepLemmas.{step-tried, step-trial}

abbrev pub SameKeys : {B : Type 0} → (Item → B) → Buffer → Buffer → Type 0
SameKeys key b c = map key c.items ≡ map key b.items

module _ {B : Type 0} (key : Item → B) (by_mask : (item : Item) (mask : ℕ) → key (record item { mask = mask }) ≡ key item) where
  same-if : (t : Bool) (b c d : Buffer) → (t ≡ true → SameKeys key b c) → SameKeys key b d → SameKeys key b (if t then c else d)
  same-if true b c d x y = x refl
  same-if false b c d x y = y

  same-broken : (start end : ℕ) (b : Buffer) → SameKeys key b (broken start end b)
  same-broken start end b =
      let last = min end (length b.items) in
      same-if (nat_le start last) b (unsafe_to_break start last b) b
      (λ t. keys-unsafe_to_break key (λ (x : Item). by_mask x _) start last b) refl

  same-concat : (start end : ℕ) (b : Buffer) → start ≤ end → SameKeys key b (unsafe_to_concat start end b)
  same-concat start end b ordered =
      same-if (bit_and b.flags.0 PRODUCE_UNSAFE_TO_CONCAT == PRODUCE_UNSAFE_TO_CONCAT) b
      (record (with_glyph_flags b) { items = map_range mark_concat start end b.items }) b
      (λ t. keys-map_range key mark_concat (λ (x : Item). by_mask x _) start end b.items ordered) refl

  same-marked : (start end : ℕ) (b : Buffer) → SameKeys key b (concat_marked start end b)
  same-marked start end b =
      let last = min end (length b.items) in
      same-if (nat_le start last) b (unsafe_to_concat start last b) b
      (λ t. same-concat start last b (grind (arith, nat_tests, t))) refl

  same-put : (i : ℕ) (p : GlyphPosition) (b : Buffer) → SameKeys key b (position_put i p b)
  same-put i p b = same-if (nat_lt i (length b.items)) b (record b { positions = slice_set b.positions i p }) b (λ t. refl) refl

  same-after : (a b c : Buffer) → SameKeys key a b → SameKeys key b c → SameKeys key a c
  same-after a b c first later = later ∙ first

  pub keys-trial : (l : Lookup) (i : ℕ) (s : Trial) → SameKeys key s.buffer (trial_step l i s).buffer
  keys-trial = step-trial (SameKeys key) (λ b. refl) same-after same-broken same-marked same-put

  pub keys-applied : (l : Lookup) (s : Budgeted) → SameKeys key s.buffer (lookup_applied s l).buffer
  keys-applied = step-lookup (SameKeys key) (λ b. refl) same-after same-broken same-marked
      (λ l i left seen b. step-tried (SameKeys key) (λ b. refl) same-after same-broken same-marked same-put l i left seen b)
