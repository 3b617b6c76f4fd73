-- the first subtable that applies, as long as something is left
use Prim.Native.Nat.{zero}
use Rattle.std.proofs.Common.{◌≡◌, ℕ, suc, ◌<◌, ◌+◌, ◌&&◌, ◌||◌, Bool, true, false, Option, Some, None, is_some, nat_eq, refl, sym, ap, subst, ◌∙◌, arith, if◌then◌else◌}
use Rattle.std.specs.Option.{option_map_or}
use Rattle.shape_font.specs.Bytes.{u16_of}
use Rattle.shape_items.specs.Buffer.{Buffer}
use Rattle.shape_items.specs.Items.{Item}
use Rattle.layout_tables.specs.Lookups.{subtable_of}
use Rattle.layout_tables.specs.declared.lookups.LookupSubtable.{LookupSubtable}
use Rattle.layout_matching.specs.Loops.{times}
use Rattle.layout_matching.specs.Skipping.{nth}
use Rattle.layout_matching.specs.declared.lookup.Lookup.{Lookup}
use Rattle.layout_positions.specs.Attachment.{each}
use Rattle.layout_positions.specs.Cursive.{cursive_applied}
use Rattle.layout_positions.specs.Edits.{broken, concat_marked}
use Rattle.layout_positions.specs.Lookups.{Applied, unapplied}
use Rattle.layout_positions.specs.Marks.{is_base_at, is_base_seen, nearest_base, base_of, base_seen, mark_number, mark_base_at, mark_ligature_at, mark_mark_applied}
use Rattle.layout_positions.specs.Pairs.{single_applied, pair_applied}
use Rattle.layout_positions.specs.Stage.{by_subtable, by_number, unless_applied, LeavesFlags}
use Rattle.layout_positions.specs.Subtables.{if_first_format, kind_applied, looks_for_base, unplaced, sought_from, unsought, sought, kind_placed, Trial, trial_of, subtable_tried, next_tried, trial_step}
use Rattle.layout_positions.specs.declared.bases.BaseSeen.{BaseSeen}
use Rattle.layout_positions.proofs.KeyLemmas.{SameKeys}
use Rattle.layout_positions.proofs.GlyphLemmas.{key_by_keys}
use Rattle.layout_positions.proofs.LeftLemmas.{nothing-left, trial-left}
use Rattle.layout_positions.proofs.NearestLemmas.{nearest-afresh, nearest-kept, nearest-unique}
use Rattle.layout_positions.proofs.SightLemmas.{IsSight, IsReady, nearest-same, base-at-seen, components-same, flags-broken, flags-marked, flags-trial, break-same, concat-same}

-- ---- a subtable that looks for no base takes any

-- what a subtable makes, by its kind, whether it is of the first format, and the number of the mark
abbrev made-of : Lookup → LookupSubtable → ℕ → Buffer → Bool → Bool → Bool → Bool → Bool → Bool → Option ℕ → Option ℕ → Applied
made-of l subtable i b k1 k2 k3 k4 k5 first number base = let start = subtable.start in
    (if k1 then single_applied l start i b
    else (if k2 then pair_applied l start i b
    else (if k3 then if_first_format l start b (cursive_applied l start i b)
    else (if k4 then (if first then option_map_or (mark_base_at l start base i b) number (unapplied b) else unapplied b)
    else (if k5 then (if first then option_map_or (mark_ligature_at l start base i b) number (unapplied b) else unapplied b)
    else (if nat_eq subtable.kind 6 then if_first_format l start b (mark_mark_applied l start i b) else unapplied b))))))

base-free : (l : Lookup) (subtable : LookupSubtable) (x y : Option ℕ) (i : ℕ) (b : Buffer) → looks_for_base l subtable i b ≡ false
    → kind_applied l subtable x i b ≡ kind_applied l subtable y i b
base-free l subtable x y i b free =
    by_kind (nat_eq subtable.kind 1) (nat_eq subtable.kind 2) (nat_eq subtable.kind 3) (nat_eq subtable.kind 4) (nat_eq subtable.kind 5)
    (nat_eq (u16_of l.table.now subtable.start) 1) (mark_number l subtable.start i b) free
  where
    by_kind : (k1 k2 k3 k4 k5 first : Bool) (number : Option ℕ) → ((k4 || k5) && first && is_some number) ≡ false
        → made-of l subtable i b k1 k2 k3 k4 k5 first number x ≡ made-of l subtable i b k1 k2 k3 k4 k5 first number y
    by_kind true k2 k3 k4 k5 first number none = refl
    by_kind false true k3 k4 k5 first number none = refl
    by_kind false false true k4 k5 first number none = refl
    by_kind false false false true k5 true None none = refl
    by_kind false false false true k5 true (Some n) none = absurd (let bad : true ≡ false = none in cc)
    by_kind false false false true k5 false number none = refl
    by_kind false false false false true true None none = refl
    by_kind false false false false true true (Some n) none = absurd (let bad : true ≡ false = none in cc)
    by_kind false false false false true false number none = refl
    by_kind false false false false false first number none = refl

-- ---- what is ready stays ready

module _ (l : Lookup) (leaves : LeavesFlags l) where
  abbrev Ready : Buffer → BaseSeen → Type 0
  Ready b seen = IsReady l b.items seen

  ready-same : (b c : Buffer) (seen : BaseSeen) → SameKeys (is_base_seen l) b c → SameKeys (λ (x : Item). x.properties) b c
      → Ready b seen → Ready c seen
  ready-same b c seen same properties ready = record {
    components = components-same c.items b.items properties ready.components;
    sight = nearest-same (λ j. is_base_seen l (nth b.items j)) (λ j. is_base_seen l (nth c.items j))
        (λ j. sym (key_by_keys (is_base_seen l) c.items b.items j same)) seen.until seen.place ready.sight;
  }

  pub ready-broken : (start end : ℕ) (b : Buffer) (seen : BaseSeen) → Ready b seen → Ready (broken start end b) seen
  ready-broken start end b seen =
      ready-same b (broken start end b) seen
      (flags-broken (is_base_seen l) (break-same l leaves) (concat-same l leaves) start end b)
      (flags-broken (λ (x : Item). x.properties) (λ x. refl) (λ x. refl) start end b)

  pub ready-marked : (start end : ℕ) (b : Buffer) (seen : BaseSeen) → Ready b seen → Ready (concat_marked start end b) seen
  ready-marked start end b seen =
      ready-same b (concat_marked start end b) seen
      (flags-marked (is_base_seen l) (break-same l leaves) (concat-same l leaves) start end b)
      (flags-marked (λ (x : Item). x.properties) (λ x. refl) (λ x. refl) start end b)

  ready-trial : (other : Lookup) (i : ℕ) (s : Trial) (seen : BaseSeen) → Ready s.buffer seen → Ready (trial_step other i s).buffer seen
  ready-trial other i s seen =
      ready-same s.buffer (trial_step other i s).buffer seen
      (flags-trial (is_base_seen l) (break-same l leaves) (concat-same l leaves) other i s)
      (flags-trial (λ (x : Item). x.properties) (λ x. refl) (λ x. refl) other i s)

  -- another lookup of the table sees the glyphs that this one does
  abbrev SeesAs : Lookup → Type 0
  SeesAs other = (item : Item) → is_base_seen other item ≡ is_base_seen l item

  -- ---- a subtable

  -- the base that is sought
  sought-base : (other : Lookup) → SeesAs other → (subtable : LookupSubtable) (i : ℕ) (b : Buffer) (seen : BaseSeen) → Ready b seen
      → base_of other subtable b.items i seen ≡ nearest_base other subtable b.items 0 i
  sought-base other sees subtable i b seen ready =
      let p = is_base_at other subtable b.items in
      let same : (j : ℕ) → is_base_seen l (nth b.items j) ≡ p j =
      λ j. sym (sees (nth b.items j)) ∙ base-at-seen other subtable b.items ready.components j in
      nearest-unique p i (base_of other subtable b.items i seen) (nearest_base other subtable b.items 0 i)
      (nearest-kept p seen.until seen.place i (nearest-same (λ j. is_base_seen l (nth b.items j)) p same seen.until seen.place ready.sight))
      (nearest-afresh p i)

  -- what a search has seen
  ready-sought : (other : Lookup) → SeesAs other → (subtable : LookupSubtable) (i : ℕ) (b : Buffer) (seen : BaseSeen) (left : ℕ)
      → Ready b seen → Ready b (sought other subtable i b seen left).seen
  ready-sought other sees subtable i b seen left ready = by_looks (looks_for_base other subtable i b)
    where
      found : IsSight l b.items (base_seen other subtable b.items i seen)
      found =
          let p = is_base_at other subtable b.items in
          let same : (j : ℕ) → is_base_seen l (nth b.items j) ≡ p j =
          λ j. sym (sees (nth b.items j)) ∙ base-at-seen other subtable b.items ready.components j in
          nearest-same p (λ j. is_base_seen l (nth b.items j)) (λ j. sym (same j)) i (base_of other subtable b.items i seen)
          (nearest-kept p seen.until seen.place i (nearest-same (λ j. is_base_seen l (nth b.items j)) p same seen.until seen.place ready.sight))

      by_looks : (t : Bool) → Ready b (if t then sought_from other subtable b.items i seen left (base_seen other subtable b.items i seen)
          else record { seen = seen; left = unsought other subtable i b left }).seen
      by_looks true = record { components = ready.components; sight = found }
      by_looks false = ready

  -- it applies with that base
  sought-applies : (other : Lookup) → SeesAs other → (subtable : LookupSubtable) (i : ℕ) (b : Buffer) (seen : BaseSeen) (left : ℕ)
      → Ready b seen → kind_applied other subtable (sought other subtable i b seen left).seen.place i b ≡ by_subtable other i b subtable
  sought-applies other sees subtable i b seen left ready = by_looks (looks_for_base other subtable i b) refl
    where
      by_looks : (t : Bool) → looks_for_base other subtable i b ≡ t
          → kind_applied other subtable (if t then sought_from other subtable b.items i seen left (base_seen other subtable b.items i seen)
          else record { seen = seen; left = unsought other subtable i b left }).seen.place i b ≡ by_subtable other i b subtable
      by_looks true is = ap (λ o. kind_applied other subtable o i b) (sought-base other sees subtable i b seen ready)
      by_looks false is = base-free other subtable seen.place (nearest_base other subtable b.items 0 i) i b is

  -- ---- the subtables in order

  pub record TrialAgrees (s : Trial) (a : Applied) : Type 0 where
    pub buffer : s.buffer ≡ a.buffer
    pub next : s.next ≡ a.next
    pub ready : Ready s.buffer s.seen

  trial-seen : (other : Lookup) → SeesAs other → (i : ℕ) (s : Trial) → Ready s.buffer s.seen
      → Ready s.buffer (trial_step other i s).seen
  trial-seen other sees i s ready = by_next (is_some s.next)
    where
      by_charge : (subtable : LookupSubtable) (o : Option ℕ)
          → Ready s.buffer (option_map_or (kind_placed other subtable i s.buffer (sought other subtable i s.buffer s.seen s.left).seen) o
          (unplaced 0 (sought other subtable i s.buffer s.seen s.left).seen s.buffer)).seen
      by_charge subtable None = ready-sought other sees subtable i s.buffer s.seen s.left ready
      by_charge subtable (Some rest) = ready-sought other sees subtable i s.buffer s.seen s.left ready

      by_subtable : (o : Option LookupSubtable)
          → Ready s.buffer (option_map_or (subtable_tried other i s) o (trial_of s (unplaced s.left s.seen s.buffer))).seen
      by_subtable None = ready
      by_subtable (Some subtable) = by_charge subtable (sought other subtable i s.buffer s.seen s.left).left

      by_next : (t : Bool) → Ready s.buffer (if t then record s { subtable = s.subtable + 1 } else next_tried other i s).seen
      by_next true = ready
      by_next false = by_subtable (subtable_of other.table.now 9 other.place s.subtable)

  -- the step of a trial, as a subtable applies
  record StepAgrees (t : Trial) (a : Applied) : Type 0 where
    buffer : t.buffer ≡ a.buffer
    next : t.next ≡ a.next

  trial-agrees : (other : Lookup) → SeesAs other → (i : ℕ) (s : Trial) (a : Applied) → TrialAgrees s a → 0 < (trial_step other i s).left
      → TrialAgrees (trial_step other i s) (unless_applied other i s.subtable a)
  trial-agrees other sees i s a agrees some =
      let step = by_next (is_some s.next) refl some in
      record {
        buffer = step.buffer;
        next = step.next;
        ready = ready-trial other i s (trial_step other i s).seen (trial-seen other sees i s agrees.ready);
      }
    where
      by_charge : (subtable : LookupSubtable) (o : Option ℕ)
          → 0 < (option_map_or (kind_placed other subtable i s.buffer (sought other subtable i s.buffer s.seen s.left).seen) o
          (unplaced 0 (sought other subtable i s.buffer s.seen s.left).seen s.buffer)).left
          → StepAgrees (trial_of s (option_map_or (kind_placed other subtable i s.buffer (sought other subtable i s.buffer s.seen s.left).seen) o
          (unplaced 0 (sought other subtable i s.buffer s.seen s.left).seen s.buffer))) (by_subtable other i s.buffer subtable)
      by_charge subtable None more = nothing-left more
      by_charge subtable (Some rest) more =
          let same = sought-applies other sees subtable i s.buffer s.seen s.left agrees.ready in
          record { buffer = ap (λ (x : Applied). x.buffer) same; next = ap (λ (x : Applied). x.next) same }

      by_subtables_of : s.next ≡ None → (o : Option LookupSubtable)
          → 0 < (option_map_or (subtable_tried other i s) o (trial_of s (unplaced s.left s.seen s.buffer))).left
          → StepAgrees (option_map_or (subtable_tried other i s) o (trial_of s (unplaced s.left s.seen s.buffer)))
          (option_map_or (by_subtable other i s.buffer) o (unapplied s.buffer))
      by_subtables_of none None more = record { buffer = refl; next = refl }
      by_subtables_of none (Some subtable) more = by_charge subtable (sought other subtable i s.buffer s.seen s.left).left more

      none-of : (o : Option ℕ) → is_some o ≡ false → o ≡ None
      none-of None e = refl
      none-of (Some n) e = absurd (let bad : true ≡ false = e in cc)

      same-test : is_some a.next ≡ is_some s.next
      same-test = ap is_some (sym agrees.next)

      by_next : (t : Bool) → is_some s.next ≡ t → 0 < (if t then record s { subtable = s.subtable + 1 } else next_tried other i s).left
          → StepAgrees (if t then record s { subtable = s.subtable + 1 } else next_tried other i s) (unless_applied other i s.subtable a)
      by_next true is more =
          subst (StepAgrees (record s { subtable = s.subtable + 1 }))
          (sym (ap (λ t. if t then a else by_number other i s.subtable a.buffer) (same-test ∙ is)))
          (record { buffer = agrees.buffer; next = agrees.next })
      by_next false is more =
          subst (StepAgrees (next_tried other i s))
          (sym (ap (λ t. if t then a else by_number other i s.subtable a.buffer) (same-test ∙ is)
          ∙ ap (λ c. by_number other i s.subtable c) (sym agrees.buffer)))
          (by_subtables_of (none-of s.next is) (subtable_of other.table.now 9 other.place s.subtable) more)

  pub record TrialGoes (k : ℕ) (s : Trial) (a : Applied) : Type 0 where
    pub number : s.subtable ≡ k
    pub agrees : TrialAgrees s a

  trial-number : (other : Lookup) (i : ℕ) (s : Trial) → (trial_step other i s).subtable ≡ s.subtable + 1
  trial-number other i s = by_next (is_some s.next)
    where
      by_charge : (subtable : LookupSubtable) (o : Option ℕ)
          → (trial_of s (option_map_or (kind_placed other subtable i s.buffer (sought other subtable i s.buffer s.seen s.left).seen) o
          (unplaced 0 (sought other subtable i s.buffer s.seen s.left).seen s.buffer))).subtable ≡ s.subtable + 1
      by_charge subtable o = refl

      by_subtable_of : (o : Option LookupSubtable)
          → (option_map_or (subtable_tried other i s) o (trial_of s (unplaced s.left s.seen s.buffer))).subtable ≡ s.subtable + 1
      by_subtable_of None = refl
      by_subtable_of (Some subtable) = by_charge subtable (sought other subtable i s.buffer s.seen s.left).left

      by_next : (t : Bool) → (if t then record s { subtable = s.subtable + 1 } else next_tried other i s).subtable ≡ s.subtable + 1
      by_next true = refl
      by_next false = by_subtable_of (subtable_of other.table.now 9 other.place s.subtable)

  pub trials-agree : (other : Lookup) → SeesAs other → (i n : ℕ) (s : Trial) (a : Applied) → TrialGoes 0 s a
      → 0 < (times (trial_step other i) n s).left
      → TrialGoes n (times (trial_step other i) n s) (each (unless_applied other i) n a)
  trials-agree other sees i zero s a first some = first
  trials-agree other sees i (suc n) s a first some =
      let t : Trial = times (trial_step other i) n s in
      let before = trials-agree other sees i n s a first (trial-left other i t some) in
      let number = before.number in
      let next = trial-number other i t in
      record {
        number = omega (arith, number, next);
        agrees = subst (λ k. TrialAgrees (trial_step other i t) (unless_applied other i k (each (unless_applied other i) n a))) number
            (trial-agrees other sees i t (each (unless_applied other i) n a) before.agrees some);
      }
