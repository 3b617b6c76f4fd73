-- What a merge makes of the items before its span, if they stand as runs.
use Rattle.std.proofs.Common.{◌≡◌, ◌≢◌, ℕ, ◌+◌, ◌-◌, ◌<◌, true, false, nat_lt, List, [], ◌∷◌, ◌++◌, length, get_or, take, drop, map, refl, ap, ap₂, sym, ◌∙◌, arith, inl, inr, bit_and, bit_or, length-append}
use Rattle.std.proofs.lemmas.Bool.{cases_Bool}
use Rattle.std.proofs.lemmas.Bool.Decides.{nat_tests}
use Rattle.std.proofs.lemmas.List.{take-append-drop}
use Rattle.std.proofs.lemmas.List.Sums.{suffix_len_is}
use Rattle.std.specs.Int.Bits.{and_zero_l, or_zero_r}
use Rattle.std.specs.List.{suffix_len}
use Rattle.shape_items.specs.Items.{Item, has_cluster, put_in, feature_bits}
use Rattle.shape_items.specs.Clusters.{map_range}
use Rattle.shape_items.specs.Delete.{hand_over, give_to_kept}
use Rattle.shape_items.specs.Spans.{grown_left}
use Rattle.shape_items.specs.Unwritten.{UnwrittenRun, written, items_of, stored_runs, written_runs, AreRuns, StandsFor}
use Rattle.shape_items.proofs.Unwritten.GivenLemmas.{has_not, last_run_len, map_range-end, give_runs, length-given}
use Rattle.shape_items.proofs.Unwritten.UnwrittenLemmas.{StandsFor-empty}
use Rattle.shape_items.proofs.Unwritten.WrittenLemmas.{AreIn, written-in, last_stored, last_written, length-written_runs}

-- ---- nothing is taken in

pub map_range-none : (f : Item → Item) (a n : ℕ) (xs : List Item) → a ≡ n → map_range f a n xs ≡ xs
map_range-none f a n xs e =
    let none : n - a ≡ 0 = omega arith in
    ap (λ k. take a xs ++ (map f (take k (drop a xs)) ++ drop n xs)) none
    ∙ ap (λ k. take a xs ++ drop k xs) (sym e) ∙ take-append-drop a xs

grown_left-same : (first least : ℕ) (given : List Item) → suffix_len (has_cluster first) given ≡ 0 → grown_left first least given ≡ given
grown_left-same first least given none = elim (cases_Bool (nat_lt least first)) [
  | inl below ↦ rw (below, none) (map_range-none (put_in least) (length given - 0) (length given) given (omega arith))
  | inr not_below ↦ rw not_below refl
]

-- no item stands before the span
pub grown_left-none : (items : List Item) (places : List ℕ) (given : List Item) (first least : ℕ) → length items ≡ 0
    → StandsFor items places given → grown_left first least given ≡ given
grown_left-none items places given first least none s =
    grown_left-same first least given (ap (suffix_len (has_cluster first)) (StandsFor-empty items places given s none))

-- the last item stands in another cluster than the span's first one
pub grown_left-apart : (items : List Item) (places : List ℕ) (given : List Item) (x : Item) (n first least : ℕ) → n + 1 ≡ length items
    → x ≡ get_or items n x → x.cluster ≢ first → StandsFor items places given → grown_left first least given ≡ given
grown_left-apart items places given x n first least size ex apart s = in_runs s.runs s.items_are s.given_are where
  in_runs : (runs : List UnwrittenRun) → items ≡ stored_runs runs → given ≡ written_runs runs → grown_left first least given ≡ given
  in_runs [] ei eg = let none : length items ≡ 0 = ap length ei in absurd (omega arith)
  in_runs (run ∷ before) ei eg =
      let last : x ≡ run.last = ex ∙ ap (λ z. get_or z n x) ei ∙ last_stored run before x n (size ∙ ap length ei) in
      let long : length given ≡ length items = length-given items places given s in
      let read : get_or given (length given - 1) x ≡ run.last = ap (λ z. get_or z (length given - 1) x) eg
      ∙ last_written run before x (length given - 1) (omega (arith, ap length eg)) in
      let fails : has_cluster first (get_or given (length given - 1) x) ≡ false = has_not first (get_or given (length given - 1) x)
      (λ e. apart (ap (λ y. y.cluster) (last ∙ sym read) ∙ e)) in
      grown_left-same first least given
      (suffix_len_is (has_cluster first) given (length given) x (omega arith) (λ k le lt. absurd (omega arith)) (λ some. fails) ∙ omega arith)

-- ---- the last run is taken in

put-handed : (p x : Item) → p.mask ≡ 0 → x.cluster ≢ p.cluster → hand_over p x ≡ put_in p.cluster x
put-handed p x clear other =
    let flags : bit_or (feature_bits x.mask) (bit_and p.mask 7) ≡ feature_bits x.mask =
    ap (λ m. bit_or (feature_bits x.mask) (bit_and m 7)) clear ∙ ap (bit_or (feature_bits x.mask)) (and_zero_l 7)
    ∙ or_zero_r (feature_bits x.mask) in
    let differs : has_cluster p.cluster x ≡ false = has_not p.cluster x other in
    ap (λ m. record x { cluster = p.cluster; mask = m }) flags ∙ sym (rw differs refl)

put-all_handed : (p : Item) (c : ℕ) (xs : List Item) → p.mask ≡ 0 → p.cluster < c → AreIn c xs
    → map (hand_over p) xs ≡ map (put_in p.cluster) xs
unfolding AreIn
put-all_handed p c [] clear lt all = refl
put-all_handed p c (x ∷ xs) clear lt all =
    ap₂ ◌∷◌ (put-handed p x clear (λ e. absurd (omega (arith, all.0)))) (put-all_handed p c xs clear lt all.1)

grow_runs : (c least : ℕ) (run : UnwrittenRun) (before : List UnwrittenRun) → AreRuns (run ∷ before) → run.last.cluster ≡ c → least < c
    → grown_left c least (written_runs (run ∷ before)) ≡ written_runs before ++ map (put_in least) (written (items_of run))
grow_runs c least run before are in_it lt =
    let w = written_runs before in
    let r = written (items_of run) in
    let size : length (w ++ r) ≡ length w + length r = length-append w r in
    let below : nat_lt least c ≡ true = grind (arith, nat_tests) in
    let count : suffix_len (has_cluster c) (w ++ r) ≡ length (w ++ r) - length w =
    ap (λ k. suffix_len (has_cluster k) (w ++ r)) (sym in_it) ∙ last_run_len run before run.last are.0 are.1 in
    let from : length (w ++ r) - suffix_len (has_cluster c) (w ++ r) ≡ length w = omega arith in
    rw (below, from) (map_range-end (put_in least) w r (length w) (length (w ++ r)) refl refl)

-- the last run stands in the cluster of the span's first item, and takes a smaller one
pub grown_left-given : (items : List Item) (places : List ℕ) (given : List Item) (p x : Item) (n first : ℕ) → n + 1 ≡ length items
    → x ≡ get_or items n x → x.cluster ≡ first → p.cluster < first → p.mask ≡ 0
    → StandsFor items places given → give_to_kept (length items) p given ≡ grown_left first p.cluster given
grown_left-given items places given p x n first size ex in_it lt clear s = in_runs s.runs s.are_runs s.items_are s.given_are where
  in_runs : (runs : List UnwrittenRun) → AreRuns runs → items ≡ stored_runs runs → given ≡ written_runs runs
      → give_to_kept (length items) p given ≡ grown_left first p.cluster given
  in_runs [] are ei eg = let none : length items ≡ 0 = ap length ei in absurd (omega arith)
  in_runs (run ∷ before) are ei eg =
      let last : run.last.cluster ≡ first =
      ap (λ y. y.cluster) (sym (ex ∙ ap (λ z. get_or z n x) ei ∙ last_stored run before x n (size ∙ ap length ei))) ∙ in_it in
      ap (give_to_kept (length items) p) eg
      ∙ give_runs p run before (length items) are.0 are.1 (omega arith) (ap length ei ∙ sym (length-written_runs (run ∷ before)))
      ∙ ap (λ z. written_runs before ++ z)
      (put-all_handed p run.last.cluster (written (items_of run)) clear (omega arith) (written-in run.front run.last are.0))
      ∙ sym (grow_runs first p.cluster run before are last lt) ∙ ap (grown_left first p.cluster) (sym eg)
