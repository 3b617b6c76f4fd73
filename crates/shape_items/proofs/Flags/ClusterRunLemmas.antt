-- The walk that gives each cluster one set of flags.
use Rattle.std.proofs.Common.{◌≡◌, ◌==◌, ℕ, suc, ◌+◌, Bool, true, false, List, [], ◌∷◌, ◌++◌, map, take, if◌then◌else◌, refl, ap, sym, ◌∙◌, arith, inl, inr, Option, Some, None, IfSome, bit_and, nat_lt}
use Rattle.std.proofs.lemmas.Nat.{and_assoc}
use Rattle.std.specs.Int.Bits.{and_zero_r}
use Rattle.shape_items.specs.PreservesFlags.{some_has}
use Rattle.std.proofs.lemmas.Bool.{cases_Bool}
use Rattle.std.proofs.lemmas.Bool.Decides.{nat_tests}
use Rattle.std.specs.List.{flat_map, prefix_len}
use Rattle.shape_items.specs.Delete.{begins_in}
use Rattle.canonical_form.specs.Divided.{put_first}
use Rattle.shape_items.specs.Items.{Item, has_cluster}
use Rattle.shape_common.specs.declared.flags.BufferFlags.{BufferFlags}
use Rattle.shape_items.specs.Flags.{cluster_runs, run_flagged, with_mask, handed_flags, with_tatweel, first_united, united_flags, mask_after, flagged_from, HasOneSetOfFlags}

-- neighbours that the walk has written have one set of flags
pub one_set-flagged : (flags : BufferFlags) (before : Option (ℕ × ℕ)) (items : List Item)
    → HasOneSetOfFlags (flagged_from flags before items)
unfolding flagged_from
one_set-flagged flags before [] = tt
one_set-flagged flags before (x ∷ []) = tt
one_set-flagged flags before (x ∷ y ∷ rest) = (
  λ same. let here : has_cluster x.cluster y ≡ true = grind (arith, nat_tests, same) in rw here refl,
  one_set-flagged flags (Some (x.cluster, mask_after flags before x (x ∷ y ∷ rest))) (y ∷ rest),
)

-- ---- the walk makes of a list what its definition by runs says

abbrev pub first_of : List (List Item) → List Item
first_of [] = []
first_of (run ∷ runs) = run

first_of-put_first : (x : Item) (runs : List (List Item)) → first_of (put_first x runs) ≡ x ∷ first_of runs
first_of-put_first x [] = refl
first_of-put_first x (run ∷ runs) = refl

take-one_more : (y : Item) (ys : List Item) (n : ℕ) → take (1 + n) (y ∷ ys) ≡ y ∷ take n ys
take-one_more y ys n = let e : 1 + n ≡ suc n = omega arith in rw e refl

-- the first run goes on as long as the cluster does
first_run : (c : ℕ) (x : Item) (xs : List Item) → x.cluster ≡ c
    → first_of (cluster_runs (x ∷ xs)) ≡ x ∷ take (prefix_len (has_cluster c) xs) xs
first_run c x [] is = refl
first_run c x (y ∷ ys) is = elim (cases_Bool (has_cluster c y)) [
  | inl here ↦
      let same : y.cluster ≡ c = grind (arith, nat_tests) in
      let goes_on : has_cluster x.cluster y ≡ true = grind (arith, nat_tests) in
      rw (goes_on, here) (first_of-put_first x (cluster_runs (y ∷ ys))
      ∙ ap (λ zs. x ∷ zs) (first_run c y ys same ∙ sym (take-one_more y ys (prefix_len (has_cluster c) ys))))
  | inr here ↦ let ends : has_cluster x.cluster y ≡ false = grind (arith, nat_tests) in rw (ends, here) refl
]

-- what is made of the runs of a list, if its first run goes on with one of this mask
abbrev pub spread : BufferFlags → ℕ → Bool → List (List Item) → List Item
spread flags mask goes_on [] = []
spread flags mask true (run ∷ runs) = map (with_mask mask) run ++ flat_map (run_flagged flags) runs
spread flags mask false (run ∷ runs) = run_flagged flags run ++ flat_map (run_flagged flags) runs

spread-apart : (flags : BufferFlags) (mask : ℕ) (runs : List (List Item)) → spread flags mask false runs ≡ flat_map (run_flagged flags) runs
spread-apart flags mask [] = refl
spread-apart flags mask (run ∷ runs) = refl

-- one more item, whose run goes on after it or not, and with what is before it or not
spread-more : (flags : BufferFlags) (mask fresh : ℕ) (x : Item) (goes_on same : Bool) (runs : List (List Item))
    → fresh ≡ handed_flags flags (united_flags (first_of (if goes_on then put_first x runs else (x ∷ []) ∷ runs)))
    → with_mask (if same then mask else fresh) x ∷ spread flags (if same then mask else fresh) goes_on runs
    ≡ spread flags mask same (if goes_on then put_first x runs else (x ∷ []) ∷ runs)
spread-more flags mask fresh x true true [] is = refl
spread-more flags mask fresh x true false [] is = rw is refl
spread-more flags mask fresh x true true (run ∷ runs) is = refl
spread-more flags mask fresh x true false (run ∷ runs) is = rw is refl
spread-more flags mask fresh x false true runs is = ap (λ zs. with_mask mask x ∷ zs) (spread-apart flags mask runs)
spread-more flags mask fresh x false false runs is =
    ap (λ zs. with_mask fresh x ∷ zs) (spread-apart flags fresh runs) ∙ ap (λ m. with_mask m x ∷ flat_map (run_flagged flags) runs) is

-- the runs of one more item
abbrev one_more : Item → List Item → List (List Item)
one_more x xs = if begins_in x.cluster xs then put_first x (cluster_runs xs) else (x ∷ []) ∷ cluster_runs xs

runs-more : (x : Item) (xs : List Item) → one_more x xs ≡ cluster_runs (x ∷ xs)
runs-more x [] = refl
runs-more x (y ∷ ys) = refl

united-first : (x : Item) (xs : List Item) → first_united x.cluster (x ∷ xs) ≡ united_flags (first_of (one_more x xs))
united-first x xs =
    let own : has_cluster x.cluster x ≡ true = grind (arith, nat_tests) in
    rw own (ap united_flags (take-one_more x xs (prefix_len (has_cluster x.cluster) xs)
    ∙ sym (ap first_of (runs-more x xs) ∙ first_run x.cluster x xs refl)))

flagged-spread : (flags : BufferFlags) (c mask : ℕ) (xs : List Item)
    → flagged_from flags (Some (c, mask)) xs ≡ spread flags mask (begins_in c xs) (cluster_runs xs)
unfolding flagged_from
flagged-spread flags c mask [] = refl
flagged-spread flags c mask (x ∷ xs) =
    let now = mask_after flags (Some (c, mask)) x (x ∷ xs) in
    ap (λ zs. with_mask now x ∷ zs) (flagged-spread flags x.cluster now xs)
    ∙ spread-more flags mask (handed_flags flags (first_united x.cluster (x ∷ xs))) x (begins_in x.cluster xs) (has_cluster c x)
    (cluster_runs xs) (ap (handed_flags flags) (united-first x xs))
    ∙ ap (spread flags mask (has_cluster c x)) (runs-more x xs)

pub flagged-runs : (flags : BufferFlags) (xs : List Item) → flagged_from flags None xs ≡ flat_map (run_flagged flags) (cluster_runs xs)
unfolding flagged_from
flagged-runs flags [] = refl
flagged-runs flags (x ∷ xs) =
    let now = mask_after flags None x (x ∷ xs) in
    ap (λ zs. with_mask now x ∷ zs) (flagged-spread flags x.cluster now xs)
    ∙ spread-more flags 0 now x (begins_in x.cluster xs) false (cluster_runs xs) (ap (handed_flags flags) (united-first x xs))
    ∙ spread-apart flags 0 (one_more x xs) ∙ ap (flat_map (run_flagged flags)) (runs-more x xs)

-- ---- if unsafe to concat isn't asked for, no item has it

handed-concat : (flags : BufferFlags) (united : ℕ) → (bit_and flags.0 64 == 64) ≡ false
    → nat_lt 0 (bit_and (handed_flags flags united) 2) ≡ false
handed-concat flags united off = rw (off, and_assoc 2 (with_tatweel flags united) 5, and_zero_r (with_tatweel flags united)) refl

mask_after-concat : (flags : BufferFlags) → (bit_and flags.0 64 == 64) ≡ false → (before : Option (ℕ × ℕ))
    → IfSome before (λ r. nat_lt 0 (bit_and r.1 2) ≡ false)
    → (x : Item) (xs : List Item) → nat_lt 0 (bit_and (mask_after flags before x xs) 2) ≡ false
mask_after-concat flags off None had x xs = handed-concat flags (first_united x.cluster xs) off
mask_after-concat flags off (Some before) had x xs = elim (cases_Bool (has_cluster before.0 x)) [
  | inl same ↦ rw same had
  | inr other ↦ rw other (handed-concat flags (first_united x.cluster xs) off)
]

pub concat-flagged : (flags : BufferFlags) → (bit_and flags.0 64 == 64) ≡ false → (before : Option (ℕ × ℕ))
    → IfSome before (λ r. nat_lt 0 (bit_and r.1 2) ≡ false)
    → (xs : List Item) → some_has 2 (flagged_from flags before xs) ≡ false
unfolding flagged_from
concat-flagged flags off before had [] = refl
concat-flagged flags off before had (x ∷ xs) =
    let here = mask_after-concat flags off before had x (x ∷ xs) in
    rw (here, concat-flagged flags off (Some (x.cluster, mask_after flags before x (x ∷ xs))) here xs) refl
