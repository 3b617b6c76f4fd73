-- Steps that may leave clusters out of order: they bring no cluster, and keep flags and the number of items.
use Rattle.std.proofs.Common.{◌≡◌, ℕ, zero, suc, ◌+◌, ◌-◌, ◌<◌, ◌≤◌, true, false, if◌then◌else◌, List, length, drop}
use Rattle.std.proofs.Common.{refl, sym, subst, ◌∙◌, arith}
use Rattle.std.proofs.lemmas.List.{length-drop}
use Rattle.std.proofs.lemmas.List.Sorted.{IsPermutation-swap, IsPermutation-map, IsPermutation-sym}
use Rattle.std.proofs.lemmas.List.Sorted.{Contains-permutation, length_permutation, list_any-IsPermutation}
use Rattle.std.proofs.lemmas.List.Sums.{prefix_len-le-length}
use Rattle.std.specs.List.Sorted.{IsPermutation}
use Rattle.cluster_order.specs.Ordering.{HasNoNewCluster}
use Rattle.shape_items.specs.Buffer.{Buffer}
use Rattle.shape_items.specs.Clusters.{clusters}
use Rattle.shape_items.specs.ClusterOrder.{IsMonotoneLevel}
use Rattle.shape_items.specs.Items.{Item}
use Rattle.shape_items.specs.PreservesFlags.{PreservesFlags, has_flag}
use Rattle.shape_items.proofs.Flags.FlagLemmas.{PreservesFlags-then, PreservesFlags-items}
use Rattle.syllabic.specs.Moving.{exchanged, stepped_after}
use Rattle.syllabic.specs.Walking.{item_at, begins_at, end_of, count_in, syllable_of, is_in, at_syllable, to_syllable}
use Rattle.syllabic.specs.Walking.{each_syllable, OfSyllable}
use Rattle.syllabic.proofs.PreservationLemmas.{Keeps, Keeps-same}

-- no cluster is new at the monotone levels, and flags and the number of items are kept
pub record Brings (b c : Buffer) : Type 0 where
  pub none : IsMonotoneLevel b.cluster_level → HasNoNewCluster b c
  pub flags : PreservesFlags b c
  pub count : length c.items ≡ length b.items

-- what keeps order brings none
pub Brings-kept : (b c : Buffer) → Keeps b c → Brings b c
Brings-kept b c keeps = record {
  none = λ monotone.
      let order = keeps.order monotone in
      record { none_new = order.clusters.none_new; direction = order.direction; flags = order.flags; level = order.level };
  flags = keeps.flags;
  count = keeps.count;
}

pub Brings-same : (b : Buffer) → Brings b b
Brings-same b = Brings-kept b b (Keeps-same b)

pub HasNoNewCluster-then : (a b c : Buffer) → HasNoNewCluster a b → HasNoNewCluster b c → HasNoNewCluster a c
HasNoNewCluster-then a b c first later = record {
  none_new = λ k has. first.none_new k (later.none_new k has);
  direction = later.direction ∙ first.direction;
  flags = later.flags ∙ first.flags;
  level = later.level ∙ first.level;
}

pub Brings-then : (a b c : Buffer) → Brings a b → Brings b c → Brings a c
Brings-then a b c first later = record {
  none = λ monotone.
      let one = first.none monotone in
      HasNoNewCluster-then a b c one (later.none (subst IsMonotoneLevel (sym one.level) monotone));
  flags = PreservesFlags-then a b c first.flags later.flags;
  count = later.count ∙ first.count;
}

-- ---- items that change places

pub Brings-permuted : (b : Buffer) (ys : List Item) → IsPermutation b.items ys → Brings b (record b { items = ys })
Brings-permuted b ys moves = record {
  none = λ monotone. record {
    none_new = λ k has. Contains-permutation (clusters ys) (clusters b.items) k
        (IsPermutation-sym (clusters b.items) (clusters ys) (IsPermutation-map (λ (x : Item). x.cluster) b.items ys moves)) has;
    direction = refl;
    flags = refl;
    level = refl;
  };
  flags = PreservesFlags-items b ys (λ flag defined some. list_any-IsPermutation (has_flag flag) b.items ys moves ∙ some);
  count = length_permutation b.items ys moves;
}

pub Brings-exchanged : (i j : ℕ) (b : Buffer) → i < length b.items → j < length b.items → Brings b (exchanged i j b)
Brings-exchanged i j b first second =
    let c = exchanged i j b in
    Brings-permuted b c.items (IsPermutation-swap b.items c.items i j first second refl)

pub Brings-stepped_after : (place n : ℕ) (b : Buffer) → place + n < length b.items → Brings b (stepped_after place n b)
Brings-stepped_after place zero b within = Brings-same b
Brings-stepped_after place (suc n) b within =
    let c = stepped_after place n b in
    let first = Brings-stepped_after place n b (omega (arith, within)) in
    Brings-then b c (exchanged (place + n) (place + suc n) c) first
    (Brings-exchanged (place + n) (place + suc n) c (omega (arith, within, first.count)) (omega (arith, within, first.count)))

-- ---- walks over syllables

abbrev pub BringsSyllables : OfSyllable → Type 0
BringsSyllables does = (b : Buffer) (start end : ℕ) → start ≤ end → end ≤ length b.items → Brings b (does b start end)

end_within : (items : List Item) (i : ℕ) → i < length items → (i ≤ end_of items i) × (end_of items i ≤ length items)
end_within items i within =
    let count = count_in (syllable_of (item_at items i)) (drop i items) in
    let few : count ≤ length (drop i items) = prefix_len-le-length (is_in (syllable_of (item_at items i))) (drop i items) in
    let long : length (drop i items) ≡ length items - i = length-drop i items in
    (omega arith, omega (arith, few, long, within))

Brings-at_syllable : (does : OfSyllable) → BringsSyllables does → (i : ℕ) (b : Buffer) → i < length b.items
    → Brings b (at_syllable does i b)
Brings-at_syllable does brings i b within =
    let inside = end_within b.items i within in
    elim (begins_at b.items i) as (λ t. Brings b (if t then does b i (end_of b.items i) else b)) [
      | true ↦ brings b i (end_of b.items i) inside.0 inside.1
      | false ↦ Brings-same b
    ]

-- a step may make the list no shorter, so that each place stays inside
Brings-to_syllable : (does : OfSyllable) → BringsSyllables does → (n : ℕ) (b : Buffer) → n ≤ length b.items
    → Brings b (to_syllable does n b)
Brings-to_syllable does brings zero b within = Brings-same b
Brings-to_syllable does brings (suc i) b within =
    let before = to_syllable does i b in
    let first = Brings-to_syllable does brings i b (omega (arith, within)) in
    Brings-then b before (at_syllable does i before) first
    (Brings-at_syllable does brings i before (omega (arith, within, first.count)))

pub Brings-each_syllable : (does : OfSyllable) → BringsSyllables does → (b : Buffer) → Brings b (each_syllable does b)
Brings-each_syllable does brings b = Brings-to_syllable does brings (length b.items) b (omega arith)
