-- Final reordering brings no cluster, and keeps flags and the number of items.
use Rattle.std.proofs.Common.{◌≡◌, ℕ, zero, suc, ◌+◌, ◌-◌, ◌<◌, ◌≤◌, ◌==◌, ◌&&◌, nat_lt, nat_le, Bool, true, false}
use Rattle.std.proofs.Common.{if◌then◌else◌, List, length, drop, slice_range, set, refl, ap, inl, inr, arith}
use Rattle.std.specs.List.{prefix_len}
use Rattle.std.proofs.lemmas.Bool.Decides.{nat_tests}
use Rattle.std.proofs.lemmas.Bool.{cases_Bool, and_parts}
use Rattle.std.proofs.lemmas.List.{length-take}
use Rattle.std.proofs.lemmas.List.Sums.{prefix_len-le-length}
use Rattle.shape_items.specs.Buffer.{Buffer}
use Rattle.shape_items.specs.BufferClusters.{merge_clusters, unsafe_to_break}
use Rattle.shape_items.specs.Items.{Item}
use Rattle.shape_buffer.specs.Layout.{HasNoDefinedFlag}
use Rattle.shape_buffer.proofs.Flags.FeatureBitLemmas.{added_brings_none}
use Rattle.syllabic.specs.Moving.{sent_after, stepped_after}
use Rattle.syllabic.specs.Walking.{item_at}
use Rattle.syllabic.proofs.PreservationLemmas.{Keeps, Keeps-same, Keeps-then, Keeps-set, Keeps-mapped, Keeps-merge}
use Rattle.syllabic.proofs.PreservationLemmas.{Keeps-sent_after, Keeps-brought_before, Keeps-unsafe_to_break}
use Rattle.syllabic.proofs.PreservationLemmas.{LeavesBoth, leaves-same_mask}
use Rattle.indic_shaper.specs.Glyphs.{position, with_position, with_mask, is_halant, is_joiner, is_ligature, is_matra, is_of}
use Rattle.indic_shaper.specs.Settling.Bases as bases
use Rattle.indic_shaper.specs.Settling.Matras as matras
use Rattle.indic_shaper.specs.Settling.Rephs as rephs
use Rattle.indic_shaper.specs.Settling.Prefs as prefs
use Rattle.indic_shaper.specs.Settling.Syllables.{begins_word, beginning_marked, moved, settled, settled_some, all_settled}
use Rattle.indic_shaper.specs.declared.config.TheConstants.{MALAYALAM}
use Rattle.indic_shaper.specs.declared.engine.Facts.{Facts}
use Rattle.indic_shaper.specs.declared.settling.base.Spot.{Spot}
use Rattle.indic_shaper.proofs.BringingLemmas.{Brings, Brings-kept, Brings-same, Brings-then, Brings-stepped_after}
use Rattle.indic_shaper.proofs.BringingLemmas.{Brings-each_syllable, BringsSyllables}

-- ---- the base

mended-cluster : (virama : ℕ) (x : Item) → (bases.mended virama x).cluster ≡ x.cluster
mended-cluster virama x = elim (bases.is_lost virama x) as (λ t. (if t then bases.as_halant x else x).cluster ≡ x.cluster) [
  | true ↦ refl
  | false ↦ refl
]

mended-mask : (virama : ℕ) (x : Item) → (bases.mended virama x).mask ≡ x.mask
mended-mask virama x = elim (bases.is_lost virama x) as (λ t. (if t then bases.as_halant x else x).mask ≡ x.mask) [
  | true ↦ refl
  | false ↦ refl
]

pub Keeps-viramas_mended : (virama : ℕ) (b : Buffer) → Keeps b (bases.viramas_mended virama b)
Keeps-viramas_mended virama b = elim (cases_Bool (virama == 0)) [
  | inl none ↦ rw none (Keeps-same b)
  | inr some ↦ rw some (Keeps-mapped (bases.mended virama) (mended-cluster virama) (mended-mask virama) b)
]

Keeps-placed : (i : ℕ) (b : Buffer) → Keeps b (bases.placed i b)
Keeps-placed i b =
    Keeps-set (λ x. with_position x 4) (leaves-same_mask (λ x. with_position x 4) (λ x. refl) (λ x. refl)) i b

Keeps-placed_when : (t : Bool) (i : ℕ) (b : Buffer) → Keeps b (if t then bases.placed i b else b)
Keeps-placed_when true i b = Keeps-placed i b
Keeps-placed_when false i b = Keeps-same b

Keeps-below_to : (base end n : ℕ) (b : Buffer) → Keeps b (bases.below_to base end n b).0
Keeps-below_to base end zero b = Keeps-same b
Keeps-below_to base end (suc k) b =
    let c = (bases.below_to base end k b).0 in
    let below = (bases.below_to base end k b).1 in
    let i = bases.letter_from c.items below.from end in
    Keeps-then b c (bases.below_placed end below c) (Keeps-below_to base end k b)
    (Keeps-placed_when (bases.below_at c.items i end) i c)

Keeps-spot_of : (start end : ℕ) (unformed malayalam : Bool) (base : ℕ) (b : Buffer)
    → Keeps b (bases.spot_of start end unformed (bases.below_skipped_if malayalam base end b)).0
Keeps-spot_of start end unformed true base b = Keeps-below_to base end (end - (base + 1)) b
Keeps-spot_of start end unformed false base b = Keeps-same b

pub Keeps-found : (facts : Facts) (start end : ℕ) (b : Buffer) → Keeps b (bases.found facts start end b).0
Keeps-found facts start end b =
    let first = bases.first_base b.items start end in
    let unformed = bases.is_unformed facts.masks.pref b.items first end in
    let base = bases.base_at unformed facts.masks.pref b.items first end in
    let c = bases.placed_if unformed base end b in
    Keeps-then b c (bases.found facts start end b).0 (Keeps-placed_when (unformed && nat_lt base end) base b)
    (Keeps-spot_of start end unformed (facts.tag == MALAYALAM) base c)

stepped_back-to : (items : List Item) (start base : ℕ) → bases.stepped_back items start base ≤ base
stepped_back-to items start base =
    elim (nat_lt start base && nat_lt 4 (position (item_at items base))) as (λ t. (if t then base - 1 else base) ≤ base) [
      | true ↦ omega arith
      | false ↦ omega arith
    ]

-- the base is in the syllable or at its end
settled_base-to : (items : List Item) (start end base : ℕ) → bases.settled_base items start end base ≤ end
settled_base-to items start end base = elim (cases_Bool (nat_lt base end)) [
  | inl is ↦
      let before : base < end = (let e = is in grind (arith, nat_tests, e)) in
      let back = stepped_back-to items start base in
      rw is (let fewer : bases.before_signs items start (bases.stepped_back items start base) ≤ bases.stepped_back items start base = omega arith in
      omega (arith, fewer, back, before))
  | inr none ↦ rw none (elim (nat_lt start end && is_of (item_at items (end - 1)) 6) as (λ t. (if t then end - 1 else end) ≤ end) [
    | true ↦ omega arith
    | false ↦ omega arith
  ])
]

found-to : (facts : Facts) (start end : ℕ) (b : Buffer) → (bases.found facts start end b).1.base ≤ end
found-to facts start end b =
    let first = bases.first_base b.items start end in
    let unformed = bases.is_unformed facts.masks.pref b.items first end in
    let base = bases.base_at unformed facts.masks.pref b.items first end in
    let c = bases.placed_if unformed base end b in
    elim (facts.tag == MALAYALAM) as (λ t. (bases.spot_of start end unformed (bases.below_skipped_if t base end c)).1.base ≤ end) [
      | true ↦ settled_base-to (bases.below_skipped base end c).0.items start end (bases.below_skipped base end c).1.base
      | false ↦ settled_base-to c.items start end base
    ]

-- ---- matras

back_while-to : (goes : ℕ → Bool) (start from : ℕ) → matras.back_while goes start from ≤ from
back_while-to goes start zero = omega arith
back_while-to goes start (suc k) =
    elim (nat_lt start (suc k) && goes (suc k)) as (λ t. (if t then matras.back_while goes start k else suc k) ≤ suc k) [
      | true ↦ let less = back_while-to goes start k in omega (arith, less)
      | false ↦ omega arith
    ]

last_before-to : (base end : ℕ) → 0 < base → matras.last_before base end < base
last_before-to base end some = elim (base == end) as (λ t. (if t then base - 2 else base - 1) < base) [
  | true ↦ omega (arith, some)
  | false ↦ omega (arith, some)
]

halant_before-to : (items : List Item) (start end from to : ℕ) → from < to → start < to → matras.halant_before items start end from < to
halant_before-to items start end from to inside room =
    let i = matras.back_while (matras.goes_on items end) start from in
    let less = back_while-to (matras.goes_on items end) start from in
    elim (matras.is_standing (item_at items i)) as (λ t. (if t then i else start) < to) [
      | true ↦ omega (arith, less, inside)
      | false ↦ room
    ]

matra_place-to : (tag : ℕ) (items : List Item) (start end base : ℕ) → start < base → matras.place tag items start end base < base
matra_place-to tag items start end base room =
    let last = last_before-to base end (omega (arith, room)) in
    elim (matras.has_half_forms tag)
    as (λ t. (if t then matras.halant_before items start end (matras.last_before base end) else matras.last_before base end) < base) [
      | true ↦ halant_before-to items start end (matras.last_before base end) base last room
      | false ↦ last
    ]

to_after-bounds : (i : ℕ) (b : Buffer) (to : ℕ) → (to ≤ matras.to_after i b to + 1) × (matras.to_after i b to ≤ to)
to_after-bounds i b to =
    elim (matras.is_before (item_at b.items i)) as (λ t. (to ≤ (if t then to - 1 else to) + 1) × ((if t then to - 1 else to) ≤ to)) [
      | true ↦ (omega arith, omega arith)
      | false ↦ (omega arith, omega arith)
    ]

moved_to-bounds : (until to n : ℕ) (b : Buffer) → (to ≤ (matras.moved_to until to n b).1 + n) × ((matras.moved_to until to n b).1 ≤ to)
moved_to-bounds until to zero b = (omega arith, omega arith)
moved_to-bounds until to (suc k) b =
    let c = (matras.moved_to until to k b).0 in
    let place = (matras.moved_to until to k b).1 in
    let before = moved_to-bounds until to k b in
    let step = to_after-bounds (to - k - 1) c place in
    (omega (arith, before.0, step.0), omega (arith, before.1, step.1))

Brings-moved_at : (until i : ℕ) (b : Buffer) (to : ℕ) → i ≤ to → to < length b.items → until ≤ length b.items
    → Brings b (matras.moved_at until i b to)
Brings-moved_at until i b to ordered inside within =
    let c = stepped_after i (to - i) b in
    let step = Brings-stepped_after i (to - i) b (omega (arith, ordered, inside)) in
    elim (matras.is_before (item_at b.items i)) as (λ t. Brings b (if t then merge_clusters to until c else b)) [
      | true ↦ Brings-then b c (merge_clusters to until c) step
          (Brings-kept c (merge_clusters to until c) (Keeps-merge to until c (omega (arith, within, step.count))))
      | false ↦ Brings-same b
    ]

Brings-moved_to : (until to n : ℕ) (b : Buffer) → n ≤ to → to < length b.items → until ≤ length b.items
    → Brings b (matras.moved_to until to n b).0
Brings-moved_to until to zero b fewer inside within = Brings-same b
Brings-moved_to until to (suc k) b fewer inside within =
    let c = (matras.moved_to until to k b).0 in
    let place = (matras.moved_to until to k b).1 in
    let bounds = moved_to-bounds until to k b in
    let first = Brings-moved_to until to k b (omega (arith, fewer)) inside within in
    Brings-then b c (matras.moved_at until (to - k - 1) c place) first
    (Brings-moved_at until (to - k - 1) c place (omega (arith, bounds.0, fewer)) (omega (arith, bounds.1, inside, first.count))
    (omega (arith, within, first.count)))

Brings-put : (start base end to : ℕ) (b : Buffer) → to < length b.items → end ≤ length b.items → Brings b (matras.put start base end to b)
Brings-put start base end to b inside within =
    let until = matras.base_end base end in
    let few : until ≤ length b.items = omega (arith, within) in
    let i = matras.first_matra b.items start base in
    elim (matras.may_move b.items start to)
    as (λ t. Brings b (if t then matras.moved start until to b else matras.merged start until base b)) [
      | true ↦ Brings-moved_to until to (to - start) b (omega arith) inside few
      | false ↦ elim (nat_lt i base) as (λ t. Brings b (if t then merge_clusters i until b else b)) [
        | true ↦ Brings-kept b (merge_clusters i until b) (Keeps-merge i until b few)
        | false ↦ Brings-same b
      ]
    ]

pub Brings-matras : (tag start end base : ℕ) (b : Buffer) → base ≤ end → end ≤ length b.items
    → Brings b (matras.settled tag start end base b)
Brings-matras tag start end base b ordered within = elim (cases_Bool (matras.has_room start base end)) [
  | inl is ↦
      let both = and_parts (nat_lt start base) (nat_lt (start + 1) end) is in
      let room : start < base = (let e = both.0 in grind (arith, nat_tests, e)) in
      let place = matra_place-to tag b.items start end base room in
      rw is (Brings-put start base end (matras.place tag b.items start end base) b (omega (arith, place, ordered, within)) within)
  | inr none ↦ rw none (Brings-same b)
]

-- ---- rephs

slice-most : (items : List Item) (from end : ℕ) → length (slice_range items from end) ≤ end - from
slice-most items from end = rw (length-take (end - from) (drop from items)) (omega arith)

prefix-most : (p : Item → Bool) (items : List Item) (from end : ℕ) → prefix_len p (slice_range items from end) ≤ end - from
prefix-most p items from end =
    let few : prefix_len p (slice_range items from end) ≤ length (slice_range items from end)
    = prefix_len-le-length p (slice_range items from end) in
    omega (arith, few, slice-most items from end)

before_matras-to : (items : List Item) (base to n : ℕ) → rephs.before_matras items base to n ≤ to
before_matras-to items base to zero = omega arith
before_matras-to items base to (suc k) =
    let less = before_matras-to items base to k in
    let place = rephs.before_matras items base to k in
    elim (nat_lt (base + 1 + k) place && is_matra (item_at items (base + 1 + k))) as (λ t. (if t then place - 1 else place) ≤ to) [
      | true ↦ omega (arith, less)
      | false ↦ less
    ]

last_place-to : (items : List Item) (start end base : ℕ) → start < end → rephs.last_place items start end base < end
last_place-to items start end base some =
    let to = rephs.before_last items start end in
    let last : to < end = omega (arith, some) in
    elim (is_halant (item_at items to)) as (λ t. (if t then rephs.before_matras items base to (to - (base + 1)) else to) < end) [
      | true ↦ let less = before_matras-to items base to (to - (base + 1)) in omega (arith, less, last)
      | false ↦ last
    ]

after_base-to : (reph : ℕ) (items : List Item) (start end base : ℕ) → start < end → rephs.after_base reph items start end base < end
after_base-to reph items start end base some = elim (cases_Bool (nat_lt base end)) [
  | inl is ↦
      let before : base < end = (let e = is in grind (arith, nat_tests, e)) in
      let main = prefix-most rephs.is_of_main items (base + 1) end in
      let sub = prefix-most rephs.is_of_sub items (base + 1) end in
      let last = last_place-to items start end base some in
      rw is (elim (reph == 5) as (λ t. (if t then rephs.after_main items base end
      else if reph == 9 then rephs.after_sub items base end else rephs.last_place items start end base) < end) [
        | true ↦ omega (arith, main, before)
        | false ↦ elim (reph == 9) as (λ t. (if t then rephs.after_sub items base end else rephs.last_place items start end base) < end) [
          | true ↦ omega (arith, sub, before)
          | false ↦ last
        ]
      ])
  | inr none ↦ rw none (last_place-to items start end base some)
]

after_joiner-to : (items : List Item) (halant base : ℕ) → halant < base → rephs.after_joiner items halant base < base
after_joiner-to items halant base inside = elim (cases_Bool (nat_lt (halant + 1) base)) [
  | inl is ↦
      let before : halant + 1 < base = (let e = is in grind (arith, nat_tests, e)) in
      rw is (elim (is_joiner (item_at items (halant + 1))) as (λ t. (if t then halant + 1 else halant) < base) [
        | true ↦ before
        | false ↦ inside
      ])
  | inr none ↦ rw none inside
]

reph_place-to : (reph : ℕ) (items : List Item) (start end base : ℕ) → start < end → base ≤ end
    → rephs.place reph items start end base < end
reph_place-to reph items start end base some ordered =
    let halant = rephs.first_halant items start base in
    elim (cases_Bool (nat_lt halant base)) [
      | inl is ↦
          let before : halant < base = (let e = is in grind (arith, nat_tests, e)) in
          let one = after_joiner-to items halant base before in
          rw is (omega (arith, one, ordered))
      | inr none ↦ rw none (after_base-to reph items start end base some)
    ]

-- an item that is sent no further than where it stands only merges
Keeps-sent : (place to : ℕ) (b : Buffer) → to < length b.items → Keeps b (sent_after place to b)
Keeps-sent place to b inside = elim (cases_Bool (nat_le place to)) [
  | inl is ↦ let ordered : place ≤ to = (let e = is in grind (arith, nat_tests, e)) in Keeps-sent_after place to b ordered inside
  | inr not_is ↦
      let past : to < place = (let e = not_is in grind (arith, nat_tests, e)) in
      let none : to - place ≡ 0 = omega (arith, past) in
      rw none (Keeps-merge place (to + 1) b (omega (arith, inside)))
]

pub Keeps-rephs : (reph start end base : ℕ) (b : Buffer) → start < end → base ≤ end → end ≤ length b.items
    → Keeps b (rephs.settled reph start end base b)
Keeps-rephs reph start end base b some ordered within =
    let to = rephs.place reph b.items start end base in
    let inside = reph_place-to reph b.items start end base some ordered in
    elim (rephs.begins_with_reph b.items start end) as (λ t. Keeps b (if t then sent_after start to b else b)) [
      | true ↦ Keeps-sent start to b (omega (arith, inside, within))
      | false ↦ Keeps-same b
    ]

-- ---- consonants before the base

pref_place-to : (tag : ℕ) (items : List Item) (start end base : ℕ) → prefs.place tag items start end base ≤ base + 1
pref_place-to tag items start end base =
    let to = prefs.before_base tag items start base in
    let signs : to ≤ base = elim (matras.has_half_forms tag) as (λ t. (if t then prefs.after_signs items start base else base) ≤ base) [
      | true ↦ omega arith
      | false ↦ omega arith
    ] in
    elim (prefs.follows_halant items start to && (nat_lt to end && is_joiner (item_at items to)))
    as (λ t. (if t then to + 1 else to) ≤ base + 1) [
      | true ↦ omega (arith, signs)
      | false ↦ omega (arith, signs)
    ]

pub Keeps-prefs : (tag mask start end base : ℕ) (b : Buffer) → end ≤ length b.items → Keeps b (prefs.settled tag mask start end base b)
Keeps-prefs tag mask start end base b within =
    let from = bases.asking_from mask b.items (base + 1) end in
    let place = pref_place-to tag b.items start end base in
    elim (cases_Bool (prefs.has_form mask b.items base end)) [
      | inl is ↦
          let parts = and_parts (nat_lt base end) (nat_lt from end && is_ligature (item_at b.items from)) is in
          let more = and_parts (nat_lt from end) (is_ligature (item_at b.items from)) parts.1 in
          let inside : from < end = (let e = more.0 in grind (arith, nat_tests, e)) in
          rw is (Keeps-brought_before (prefs.place tag b.items start end base) from b (omega (arith, place)) (omega (arith, inside, within)))
      | inr none ↦ rw none (Keeps-same b)
    ]

-- ---- the whole

leaves-with_mask : (mask : ℕ) → HasNoDefinedFlag mask → LeavesBoth (λ x. with_mask x mask)
leaves-with_mask mask none = record {
  cluster = λ x. refl;
  flags = λ flag defined x. ap (nat_lt 0) (added_brings_none mask x.mask flag none defined);
}

Keeps-beginning : (mask : ℕ) → HasNoDefinedFlag mask → (start : ℕ) (b : Buffer) → Keeps b (beginning_marked mask start b)
Keeps-beginning mask none start b =
    let one = record b { items = set b.items start (with_mask (item_at b.items start) mask) } in
    let two = unsafe_to_break (start - 1) (start + 1) b in
    elim (position (item_at b.items start) == 2) as (λ t. Keeps b (if t then if begins_word b start then one else two else b)) [
      | true ↦ elim (begins_word b start) as (λ t. Keeps b (if t then one else two)) [
        | true ↦ Keeps-set (λ x. with_mask x mask) (leaves-with_mask mask none) start b
        | false ↦ Keeps-unsafe_to_break (start - 1) (start + 1) b
      ]
      | false ↦ Keeps-same b
    ]

base_after-to : (reph : ℕ) (items : List Item) (start end base : ℕ) → rephs.base_after reph items start end base ≤ base
base_after-to reph items start end base =
    elim (rephs.begins_with_reph items start end && (nat_lt start base && nat_le base (rephs.place reph items start end base)))
    as (λ t. (if t then base - 1 else base) ≤ base) [
      | true ↦ omega arith
      | false ↦ omega arith
    ]

Brings-moved : (facts : Facts) (start end : ℕ) (b : Buffer) (spot : Spot) → start < end → spot.base ≤ end → end ≤ length b.items
    → Brings b (moved facts start end b spot)
Brings-moved facts start end b spot some ordered within =
    let one = matras.settled facts.tag start end spot.base b in
    let first = Brings-matras facts.tag start end spot.base b ordered within in
    let long : end ≤ length one.items = omega (arith, within, first.count) in
    let two = rephs.settled facts.config.reph_position start end spot.base one in
    let second = Keeps-rephs facts.config.reph_position start end spot.base one some ordered long in
    let both = Brings-then b one two first (Brings-kept one two second) in
    let base = rephs.base_after facts.config.reph_position one.items start end spot.base in
    let three = prefs.settled facts.tag facts.masks.pref start end base two in
    elim spot.try_pref as (λ t. Brings b (if t then three else two)) [
      | true ↦ Brings-then b two three both
          (Brings-kept two three (Keeps-prefs facts.tag facts.masks.pref start end base two (omega (arith, within, both.count))))
      | false ↦ both
    ]

module _ (facts : Facts) (init : HasNoDefinedFlag facts.masks.init) where
  Brings-settled : (b : Buffer) (start end : ℕ) → start < end → end ≤ length b.items → Brings b (settled facts b start end)
  unfolding settled
  Brings-settled b start end some within =
      let c = (bases.found facts start end b).0 in
      let spot = (bases.found facts start end b).1 in
      let one = Brings-kept b c (Keeps-found facts start end b) in
      let d = moved facts start end c spot in
      let two = Brings-moved facts start end c spot some (found-to facts start end b) (omega (arith, within, one.count)) in
      let e = beginning_marked facts.masks.init start d in
      Brings-then b d e (Brings-then b c d one two) (Brings-kept d e (Keeps-beginning facts.masks.init init start d))

  Brings-settled_some : BringsSyllables (settled_some facts)
  Brings-settled_some b start end ordered within = elim (cases_Bool (nat_lt start end)) [
    | inl is ↦ let some : start < end = (let e = is in grind (arith, nat_tests, e)) in rw is (Brings-settled b start end some within)
    | inr none ↦ rw none (Brings-same b)
  ]

  pub Brings-all_settled : (b : Buffer) → Brings b (all_settled facts b)
  Brings-all_settled b =
      let c = bases.viramas_mended facts.virama b in
      Brings-then b c (all_settled facts b) (Brings-kept b c (Keeps-viramas_mended facts.virama b))
      (Brings-each_syllable (settled_some facts) Brings-settled_some c)
