-- The walk that counts down how many items of a cluster are left gives each cluster one set of flags.
use Rattle.std.proofs.Common.{◌≡◌, ℕ, ◌+◌, ◌-◌, true, List, [], ◌∷◌, refl, ap, arith, inl, inr, Some, None, nat_lt}
use Rattle.std.proofs.lemmas.Bool.{cases_Bool}
use Rattle.std.proofs.lemmas.Bool.Decides.{nat_tests}
use Rattle.std.specs.List.{prefix_len}
use Rattle.shape_items.specs.Items.{Item, has_cluster}
use Rattle.shape_items.specs.Flags.{with_mask, mask_after, flagged_from}
use Rattle.shape_common.specs.declared.flags.BufferFlags.{BufferFlags}
use Rattle.shape_glyphs.specs.FlagWalk.{handed_by, handed_by_run}
use Rattle.shape_glyphs.specs.declared.flags.HandedOn.{HandedOn}

-- the items with the masks that the walk gives them, after one that hands this on
unfoldable pub walked : BufferFlags → HandedOn → List Item → List Item
walked flags before [] = []
walked flags before (x ∷ xs) =
    let handed = handed_by flags before x.cluster (x ∷ xs) in
    with_mask handed.mask x ∷ walked flags handed xs

-- an item of a cluster with this mask, and what is left of its run
abbrev behind : ℕ → ℕ → List Item → HandedOn
behind cluster mask xs = record { mask = mask; left = prefix_len (has_cluster cluster) xs }

run-left : (flags : BufferFlags) (x : Item) (xs : List Item)
    → handed_by_run flags x.cluster (x ∷ xs) ≡ behind x.cluster (mask_after flags None x (x ∷ xs)) xs
run-left flags x xs =
    let own : has_cluster x.cluster x ≡ true = grind (arith, nat_tests) in
    let one_less : (1 + prefix_len (has_cluster x.cluster) xs) - 1 ≡ prefix_len (has_cluster x.cluster) xs = omega arith in
    rw (own, one_less) refl

walked-after : (flags : BufferFlags) (cluster mask : ℕ) (xs : List Item)
    → walked flags (behind cluster mask xs) xs ≡ flagged_from flags (Some (cluster, mask)) xs
unfolding walked flagged_from
walked-after flags cluster mask [] = refl
walked-after flags cluster mask (x ∷ xs) = elim (cases_Bool (has_cluster cluster x)) [
  | inl here ↦
      let same : x.cluster ≡ cluster = grind (arith, nat_tests) in
      let some : nat_lt 0 (1 + prefix_len (has_cluster cluster) xs) ≡ true = grind (arith, nat_tests) in
      let one_less : (1 + prefix_len (has_cluster cluster) xs) - 1 ≡ prefix_len (has_cluster cluster) xs = omega arith in
      rw (here, some, one_less, ← same) (ap (λ zs. with_mask mask x ∷ zs) (walked-after flags x.cluster mask xs))
  | inr other ↦
      let now = mask_after flags None x (x ∷ xs) in
      rw (other, run-left flags x xs) (ap (λ zs. with_mask now x ∷ zs) (walked-after flags x.cluster now xs))
]

-- the walk from its start
pub walked-flagged : (flags : BufferFlags) (xs : List Item)
    → walked flags (record { mask = 0; left = 0 }) xs ≡ flagged_from flags None xs
unfolding walked flagged_from
walked-flagged flags [] = refl
walked-flagged flags (x ∷ xs) =
    let now = mask_after flags None x (x ∷ xs) in
    rw (run-left flags x xs) (ap (λ zs. with_mask now x ∷ zs) (walked-after flags x.cluster now xs))
