-- Composing syllables, taking them apart and moving their tone marks preserves the order of clusters and the flags of
-- glyphs.
use Rattle.std.proofs.Common.{◌≡◌, ℕ, zero, suc, ◌+◌, ◌-◌, ◌<◌, ◌≤◌, ◌==◌, not, Bool, true, false, if◌then◌else◌, List, [], ◌∷◌, ◌++◌, Option, None, Some, length, min, drop, refl, ap, sym, subst, ◌∙◌, inl, inr, arith}
use Rattle.std.specs.Prelude.{slice_get}
use Rattle.std.proofs.Math.Dec.{eqb-suc-zero}
use Rattle.std.proofs.lemmas.Bool.{or_right, or_cases}
use Rattle.std.proofs.lemmas.List.{append_assoc, length-drop, drop_min}
use Rattle.std.proofs.lemmas.Option.{slice_get_within}
use Rattle.shape_common.specs.Face.{FaceMeaning}
use Rattle.shape_common.specs.Unicode.{UnicodeMeaning}
use Rattle.shape_common.specs.declared.text_types.BufferClusterLevel.{BufferClusterLevel}
use Rattle.shape_common.specs.declared.text_types.BufferClusterLevel.TheVariants.{MonotoneGraphemes, MonotoneCharacters, Characters}
use Rattle.shape_items.specs.Buffer.{Buffer}
use Rattle.shape_items.specs.BufferClusters.{merge_out_clusters, unsafe_to_break}
use Rattle.shape_items.specs.Clusters.{clusters}
use Rattle.shape_items.specs.ClusterOrder.{IsMonotoneLevel}
use Rattle.shape_items.specs.Items.{Item}
use Rattle.shape_items.specs.PreservesFlags.{has_flag, some_has}
use Rattle.shape_items.proofs.Flags.FlagLemmas.{PreservesFlags-then}
use Rattle.shape_items.proofs.Order.DrawsInOrder.{DrawsInOrder, DrawsInOrder-same, DrawsInOrder-after, DrawsInOrder-again}
use Rattle.shape_buffer.specs.Preservation.{IsClusterPreserving, IsFlagPreserving}
use Rattle.shape_buffer.proofs.Steps.PreservationLemmas.{PreservesOrder-then}
use Rattle.script_shapers.specs.Hangul.{at_graphemes, merged_syllable, joined_syllable, joined_tone, with_tone, is_zero_width, is_nothing, is_tone}
use Rattle.script_shapers.specs.Hangul.{if_tone, tone_after, taken_of, syllable_at, marks_of, joined_at, joined_next, joined_to, taken_at}
use Rattle.script_shapers.specs.Hangul.{glyphs_of, of_kind, with_circle, turned, both_of, glyphs_with, block_at, block_taken, one_more_if, built, wants_circle, composed_text}
use Rattle.script_shapers.specs.declared.hangul.syllables.Size.TheVariants.{Two, Three}
use Rattle.script_shapers.specs.declared.hangul.syllables.Syllable.{Syllable}
use Rattle.script_shapers.specs.declared.hangul.syllables.Syllable.TheVariants as is
use Rattle.script_shapers.proofs.PreservationLemmas.{PreservesAll, PreservesAll-same, PreservesAll-then, PreservesAll-merge, PreservesAll-merge_out, PreservesAll-unsafe_to_break, order-replaced, flags-replaced, BringsNone}

-- ---- what is marked and merged in place

graphemes_merged : (level : BufferClusterLevel) (start end : ℕ) (b : Buffer) → end ≤ length b.items
    → PreservesAll b (at_graphemes level (merge_out_clusters start end) b)
graphemes_merged MonotoneGraphemes start end b within = PreservesAll-merge_out start end b within
graphemes_merged MonotoneCharacters start end b within = PreservesAll-same b
graphemes_merged Characters start end b within = PreservesAll-same b

syllable_merged : (s : Syllable) (i end : ℕ) (b : Buffer) → end ≤ length b.items → PreservesAll b (merged_syllable s i end b)
syllable_merged (is.Composed size whole) i end b within = PreservesAll-merge i end b within
syllable_merged is.Nothing i end b within = graphemes_merged b.cluster_level i end b within
syllable_merged is.Whole i end b within = graphemes_merged b.cluster_level i end b within
syllable_merged (is.Jamo size) i end b within = graphemes_merged b.cluster_level i end b within
syllable_merged (is.Parts l v t) i end b within = graphemes_merged b.cluster_level i end b within
syllable_merged (is.PartsBefore l v) i end b within = graphemes_merged b.cluster_level i end b within

syllable_joined : (s : Syllable) (i marked end : ℕ) (b : Buffer) → end ≤ length b.items → PreservesAll b (joined_syllable s i marked end b)
syllable_joined s i marked end b within =
    let first = PreservesAll-unsafe_to_break i marked b in
    PreservesAll-then b (unsafe_to_break i marked b) _ first
    (syllable_merged s i end (unsafe_to_break i marked b) (omega (arith, within, first.count)))

tone_joined : (zero_width : Bool) (i end : ℕ) (b : Buffer) → end < length b.items → PreservesAll b (joined_tone i end zero_width b)
tone_joined true i end b within = PreservesAll-unsafe_to_break i end b
tone_joined false i end b within =
    let first = PreservesAll-unsafe_to_break i end b in
    PreservesAll-then b (unsafe_to_break i end b) _ first
    (PreservesAll-merge_out i (end + 1) (unsafe_to_break i end b) (omega (arith, within, first.count)))

tone_joined_after : (face : FaceMeaning) (tone : Option Item) (i end : ℕ) (b : Buffer)
    → ((t : Item) → tone ≡ Some t → end < length b.items) → PreservesAll b (with_tone face i end tone b)
tone_joined_after face None i end b within = PreservesAll-same b
tone_joined_after face (Some t) i end b within = tone_joined (is_zero_width face t.codepoint) i end b (within t refl)

-- a tone mark is the item after its syllable
if_tone-is : (found : Option Item) (t : Item) → if_tone found ≡ Some t → found ≡ Some t
if_tone-is None t = λ e. cc
if_tone-is (Some y) t =
    elim (is_tone y.codepoint) as (λ b. (if b then Some y else None) ≡ Some t → Some y ≡ Some t) [ true ↦ λ e. e | false ↦ λ e. cc ]

tone_after-is : (s : Syllable) (items : List Item) (t : Item) → tone_after s items ≡ Some t → slice_get items (taken_of s) ≡ Some t
tone_after-is s items t =
    elim (is_nothing s)
    as (λ b. (if b then None else if_tone (slice_get items (taken_of s))) ≡ Some t → slice_get items (taken_of s) ≡ Some t) [
      | true ↦ λ e. cc
      | false ↦ if_tone-is (slice_get items (taken_of s)) t
    ]

joined_here : (unicode : UnicodeMeaning) (face : FaceMeaning) (i : ℕ) (b : Buffer) → i < length b.items
    → PreservesAll b (joined_at unicode face i b)
joined_here unicode face i b within =
    let rest = drop i b.items in
    let s = syllable_at unicode face rest in
    let end = i + min (taken_of s) (length rest) in
    let count = length-drop i b.items in
    let first = syllable_joined s i (i + min (marks_of unicode s rest) (length rest)) end b (omega (arith, within, count)) in
    PreservesAll-then b _ _ first (tone_joined_after face (tone_after s rest) i end _ (λ t is.
    let inside = slice_get_within rest (taken_of s) t (tone_after-is s rest t is) in
    omega (arith, within, count, inside, first.count)))

joined_on : (unicode : UnicodeMeaning) (face : FaceMeaning) (i skip : ℕ) (b : Buffer) → i < length b.items
    → PreservesAll b (joined_next unicode face i (b, skip)).0
joined_on unicode face i skip b within =
    let taken = taken_at unicode face (drop i b.items) - 1 in
    elim (skip == 0)
    as (λ t. let next : Buffer × ℕ = if not t then (b, skip - 1) else (joined_at unicode face i b, taken) in PreservesAll b next.0) [
      | true ↦ joined_here unicode face i b within
      | false ↦ PreservesAll-same b
    ]

joined_preserves : (unicode : UnicodeMeaning) (face : FaceMeaning) (n : ℕ) (b : Buffer) → n ≤ length b.items
    → PreservesAll b (joined_to unicode face n b).0
joined_preserves unicode face zero b within = PreservesAll-same b
joined_preserves unicode face (suc i) b within =
    let first = joined_preserves unicode face i b (omega (arith, within)) in
    let mid = (joined_to unicode face i b).0 in
    let skip = (joined_to unicode face i b).1 in
    PreservesAll-then b mid _ first (joined_on unicode face i skip mid (omega (arith, within, first.count)))

-- ---- clusters of the new list

-- an item at the front, before what is drawn from the rest
once : (c : ℕ) (cs ds : List ℕ) → DrawsInOrder cs ds → DrawsInOrder (c ∷ cs) (c ∷ ds)
once c cs ds draws = DrawsInOrder-again c cs ds (DrawsInOrder-after c cs ds draws)

-- what is drawn from the end of a list is drawn from all of it
draws-drop : (k : ℕ) (xs : List Item) (ds : List ℕ) → DrawsInOrder (clusters (drop k xs)) ds → DrawsInOrder (clusters xs) ds
draws-drop zero xs ds draws = draws
draws-drop (suc k) [] ds draws = draws
draws-drop (suc k) (x ∷ xs) ds draws = DrawsInOrder-after x.cluster (clusters xs) ds (draws-drop k xs ds draws)

module _ (x : Item) (rest : List Item) where
  -- the items of a syllable, before what is drawn from those after it
  glyphs_draw : (s : Syllable) (xs : List Item) → DrawsInOrder (clusters (drop (taken_of s) (x ∷ xs))) (clusters rest)
      → DrawsInOrder (clusters (x ∷ xs)) (clusters (glyphs_of s x (x ∷ xs) ++ rest))
  glyphs_draw is.Nothing xs draws = once x.cluster (clusters xs) (clusters rest) draws
  glyphs_draw is.Whole xs draws = once x.cluster (clusters xs) (clusters rest) draws
  glyphs_draw (is.Composed Two whole) xs draws = once x.cluster (clusters xs) (clusters rest) (draws-drop 1 xs (clusters rest) draws)
  glyphs_draw (is.Composed Three whole) xs draws = once x.cluster (clusters xs) (clusters rest) (draws-drop 2 xs (clusters rest) draws)
  glyphs_draw (is.Jamo Two) [] draws = once x.cluster [] (clusters rest) draws
  glyphs_draw (is.Jamo Two) (y ∷ ys) draws =
      once x.cluster (y.cluster ∷ clusters ys) (y.cluster ∷ clusters rest) (once y.cluster (clusters ys) (clusters rest) draws)
  glyphs_draw (is.Jamo Three) [] draws = once x.cluster [] (clusters rest) draws
  glyphs_draw (is.Jamo Three) (y ∷ []) draws =
      once x.cluster (y.cluster ∷ []) (y.cluster ∷ clusters rest) (once y.cluster [] (clusters rest) draws)
  glyphs_draw (is.Jamo Three) (y ∷ z ∷ zs) draws =
      once x.cluster (y.cluster ∷ z.cluster ∷ clusters zs) (y.cluster ∷ z.cluster ∷ clusters rest)
      (once y.cluster (z.cluster ∷ clusters zs) (z.cluster ∷ clusters rest) (once z.cluster (clusters zs) (clusters rest) draws))
  glyphs_draw (is.Parts l v None) xs draws =
      DrawsInOrder-again x.cluster (clusters xs) (x.cluster ∷ clusters rest) (once x.cluster (clusters xs) (clusters rest) draws)
  glyphs_draw (is.Parts l v (Some t)) xs draws =
      DrawsInOrder-again x.cluster (clusters xs) (x.cluster ∷ x.cluster ∷ clusters rest)
      (DrawsInOrder-again x.cluster (clusters xs) (x.cluster ∷ clusters rest) (once x.cluster (clusters xs) (clusters rest) draws))
  glyphs_draw (is.PartsBefore l v) [] draws =
      DrawsInOrder-again x.cluster [] (x.cluster ∷ clusters rest) (once x.cluster [] (clusters rest) draws)
  glyphs_draw (is.PartsBefore l v) (y ∷ ys) draws =
      DrawsInOrder-again x.cluster (y.cluster ∷ clusters ys) (x.cluster ∷ y.cluster ∷ clusters rest)
      (once x.cluster (y.cluster ∷ clusters ys) (y.cluster ∷ clusters rest) (once y.cluster (clusters ys) (clusters rest) draws))

  circle_draws : (circle zero_width : Bool) (xs : List Item) → DrawsInOrder (clusters xs) (clusters rest)
      → DrawsInOrder (clusters (x ∷ xs)) (clusters (with_circle circle zero_width x ++ rest))
  circle_draws false zero_width xs draws = once x.cluster (clusters xs) (clusters rest) draws
  circle_draws true true xs draws =
      DrawsInOrder-again x.cluster (clusters xs) (x.cluster ∷ clusters rest) (once x.cluster (clusters xs) (clusters rest) draws)
  circle_draws true false xs draws =
      DrawsInOrder-again x.cluster (clusters xs) (x.cluster ∷ clusters rest) (once x.cluster (clusters xs) (clusters rest) draws)

turned-cluster : (level : BufferClusterLevel) → IsMonotoneLevel level → (x tone : Item) → (turned level x tone).cluster ≡ x.cluster
turned-cluster MonotoneGraphemes monotone x tone = refl
turned-cluster MonotoneCharacters monotone x tone = refl
turned-cluster Characters monotone x tone = absurd monotone

-- an item of a list, and those after it
drop-at : (k : ℕ) (xs : List Item) (t : Item) → slice_get xs k ≡ Some t → drop k xs ≡ t ∷ drop (suc k) xs
drop-at k [] t = λ e. cc
drop-at zero (x ∷ xs) t = λ e. let same : x ≡ t = cc in ap (λ (y : Item). y ∷ xs) same
drop-at (suc k) (x ∷ xs) t = drop-at k xs t

module _ (level : BufferClusterLevel) (monotone : IsMonotoneLevel level) (x : Item) (xs rest : List Item) (s : Syllable) where
  -- a syllable with its tone mark
  tone_draws : (zero_width : Bool) (t : Item) → slice_get (x ∷ xs) (taken_of s) ≡ Some t
      → DrawsInOrder (clusters (drop (suc (taken_of s)) (x ∷ xs))) (clusters rest)
      → DrawsInOrder (clusters (x ∷ xs))
      (clusters (both_of (glyphs_of s x (x ∷ xs)) (if zero_width then t else turned level x t) zero_width ++ rest))
  tone_draws true t is draws =
      let items = x ∷ xs in
      let whole = glyphs_of s x items in
      let last : DrawsInOrder (clusters (drop (taken_of s) items)) (clusters (t ∷ rest))
      = subst (λ ys. DrawsInOrder (clusters ys) (clusters (t ∷ rest))) (sym (drop-at (taken_of s) items t is))
      (once t.cluster (clusters (drop (suc (taken_of s)) items)) (clusters rest) draws) in
      subst (λ ys. DrawsInOrder (clusters items) (clusters ys)) (sym (append_assoc whole (t ∷ []) rest)) (glyphs_draw x (t ∷ rest) s xs last)
  tone_draws false t is draws =
      let items = x ∷ xs in
      let whole = glyphs_of s x items in
      let later : DrawsInOrder (clusters (drop (taken_of s) items)) (clusters rest)
      = subst (λ ys. DrawsInOrder (clusters ys) (clusters rest)) (sym (drop-at (taken_of s) items t is))
      (DrawsInOrder-after t.cluster (clusters (drop (suc (taken_of s)) items)) (clusters rest) draws) in
      rw (turned-cluster level monotone x t)
      (DrawsInOrder-again x.cluster (clusters xs) (clusters (whole ++ rest)) (glyphs_draw x rest s xs later))

  block_draws : (face : FaceMeaning) (found : Option Item) → ((t : Item) → found ≡ Some t → slice_get (x ∷ xs) (taken_of s) ≡ Some t)
      → DrawsInOrder (clusters (drop (one_more_if (min (taken_of s) (length (x ∷ xs))) found) (x ∷ xs))) (clusters rest)
      → DrawsInOrder (clusters (x ∷ xs)) (clusters (glyphs_with face level x (glyphs_of s x (x ∷ xs)) found ++ rest))
  block_draws face None is draws =
      glyphs_draw x rest s xs (subst (λ ys. DrawsInOrder (clusters ys) (clusters rest)) (drop_min (taken_of s) (x ∷ xs)) draws)
  block_draws face (Some t) is draws =
      let inside = slice_get_within (x ∷ xs) (taken_of s) t (is t refl) in
      let count : min (taken_of s) (length (x ∷ xs)) + 1 ≡ suc (taken_of s) = omega (arith, inside) in
      tone_draws (is_zero_width face t.codepoint) t (is t refl)
      (subst (λ k. DrawsInOrder (clusters (drop k (x ∷ xs))) (clusters rest)) count draws)

-- an item that belongs to what began before it brings nothing
built-skip : (unicode : UnicodeMeaning) (face : FaceMeaning) (level : BufferClusterLevel) (circle : Bool) (skip : ℕ) (x : Item) (xs : List Item)
    → built unicode face level circle (suc skip) (x ∷ xs) ≡ built unicode face level circle skip xs
built-skip unicode face level circle skip x xs =
    let some : (suc skip == 0) ≡ false = eqb-suc-zero skip in
    let less : suc skip - 1 ≡ skip = omega arith in
    rw (some, less) refl

module _ (unicode : UnicodeMeaning) (face : FaceMeaning) (level : BufferClusterLevel) (circle : Bool) where
  -- at least one item is taken
  taken-some : (s : Syllable) → 0 < taken_of s
  taken-some is.Nothing = omega arith
  taken-some is.Whole = omega arith
  taken-some (is.Composed Two whole) = omega arith
  taken-some (is.Composed Three whole) = omega arith
  taken-some (is.Jamo Two) = omega arith
  taken-some (is.Jamo Three) = omega arith
  taken-some (is.Parts l v t) = omega arith
  taken-some (is.PartsBefore l v) = omega arith

  one_more-some : (n : ℕ) (found : Option Item) → 0 < n → 0 < one_more_if n found
  one_more-some n None some = some
  one_more-some n (Some t) some = omega arith

  drop-next : (n : ℕ) (x : Item) (xs : List Item) → 0 < n → drop n (x ∷ xs) ≡ drop (n - 1) xs
  drop-next zero x xs some = absurd (omega arith)
  drop-next (suc n) x xs some = let less : n ≡ suc n - 1 = omega arith in ap (λ k. drop k xs) less

  here_draws : (x : Item) (xs rest : List Item) → IsMonotoneLevel level
      → DrawsInOrder (clusters (drop (block_taken unicode face x (x ∷ xs) - 1) xs)) (clusters rest)
      → DrawsInOrder (clusters (x ∷ xs)) (clusters (block_at unicode face level circle x (x ∷ xs) ++ rest))
  here_draws x xs rest monotone =
      let items = x ∷ xs in
      let s = syllable_at unicode face items in
      let tone = tone_after s items in
      let n = one_more_if (taken_at unicode face items) tone in
      elim (is_tone x.codepoint)
      as (λ t. DrawsInOrder (clusters (drop ((if t then 1 else n) - 1) xs)) (clusters rest)
      → DrawsInOrder (clusters items)
      (clusters ((if t then with_circle circle (is_zero_width face x.codepoint) x else glyphs_with face level x (glyphs_of s x items) tone) ++ rest))) [
        | true ↦ circle_draws x rest circle (is_zero_width face x.codepoint) xs
        | false ↦ λ draws.
            let some = taken-some s in
            block_draws level monotone x xs rest s face tone (tone_after-is s items)
            (subst (λ ys. DrawsInOrder (clusters ys) (clusters rest))
            (sym (drop-next n x xs (one_more-some (taken_at unicode face items) tone (omega (arith, some))))) draws)
      ]

  built_draws : IsMonotoneLevel level → (skip : ℕ) (xs : List Item)
      → DrawsInOrder (clusters (drop skip xs)) (clusters (built unicode face level circle skip xs))
  built_draws monotone zero [] = DrawsInOrder-same []
  built_draws monotone (suc skip) [] = DrawsInOrder-same []
  built_draws monotone (suc skip) (x ∷ xs) =
      subst (λ ys. DrawsInOrder (clusters (drop skip xs)) (clusters ys)) (sym (built-skip unicode face level circle skip x xs))
      (built_draws monotone skip xs)
  built_draws monotone zero (x ∷ xs) =
      let next = block_taken unicode face x (x ∷ xs) - 1 in
      here_draws x xs (built unicode face level circle next xs) monotone (built_draws monotone next xs)

pub composing_preserves_clusters : (unicode : UnicodeMeaning) (face : FaceMeaning) → IsClusterPreserving (composed_text unicode face)
composing_preserves_clusters unicode face b monotone =
    let mid = (joined_to unicode face (length b.items) b).0 in
    let first = joined_preserves unicode face (length b.items) b (omega arith) in
    let level : IsMonotoneLevel mid.cluster_level = subst IsMonotoneLevel (sym first.order.level) monotone in
    PreservesOrder-then b mid _ first.order
    (order-replaced mid _ (built_draws unicode face mid.cluster_level (wants_circle face mid.flags) level 0 mid.items))

-- ---- flags of the new list

module _ (flag : ℕ) where
  -- one more item of a list, before others that bring none
  one_more : (y : Item) (ys items : List Item) → (has_flag flag y ≡ true → some_has flag items ≡ true)
      → (some_has flag ys ≡ true → some_has flag items ≡ true) → some_has flag (y ∷ ys) ≡ true → some_has flag items ≡ true
  one_more y ys items here later some = elim (or_cases (has_flag flag y) (some_has flag ys) some) [ inl e ↦ here e | inr e ↦ later e ]

  at_front : (x : Item) (xs : List Item) → has_flag flag x ≡ true → some_has flag (x ∷ xs) ≡ true
  at_front x xs e = rw e refl

  after : (x : Item) (xs : List Item) → some_has flag xs ≡ true → some_has flag (x ∷ xs) ≡ true
  after x xs = or_right (has_flag flag x) (some_has flag xs)

  get-in : (k : ℕ) (xs : List Item) (t : Item) → slice_get xs k ≡ Some t → has_flag flag t ≡ true → some_has flag xs ≡ true
  get-in k [] t = λ e. cc
  get-in zero (x ∷ xs) t = λ is e. let same : x ≡ t = cc in at_front x xs (ap (has_flag flag) same ∙ e)
  get-in (suc k) (x ∷ xs) t = λ is e. after x xs (get-in k xs t is e)

  -- the items of a syllable
  module _ (x : Item) (rest : List Item) where
    glyphs_bring : (s : Syllable) (xs : List Item) → (some_has flag rest ≡ true → some_has flag (x ∷ xs) ≡ true)
        → some_has flag (glyphs_of s x (x ∷ xs) ++ rest) ≡ true → some_has flag (x ∷ xs) ≡ true
    glyphs_bring is.Nothing xs later = one_more x rest (x ∷ xs) (at_front x xs) later
    glyphs_bring is.Whole xs later = one_more x rest (x ∷ xs) (at_front x xs) later
    glyphs_bring (is.Composed size whole) xs later = one_more (of_kind x whole 0) rest (x ∷ xs) (at_front x xs) later
    glyphs_bring (is.Jamo Two) [] later = one_more (of_kind x x.codepoint 1) rest (x ∷ []) (at_front x []) later
    glyphs_bring (is.Jamo Two) (y ∷ ys) later =
        let items = x ∷ y ∷ ys in
        one_more (of_kind x x.codepoint 1) (of_kind y y.codepoint 2 ∷ rest) items (at_front x (y ∷ ys))
        (one_more (of_kind y y.codepoint 2) rest items (λ e. after x (y ∷ ys) (at_front y ys e)) later)
    glyphs_bring (is.Jamo Three) [] later = one_more (of_kind x x.codepoint 1) rest (x ∷ []) (at_front x []) later
    glyphs_bring (is.Jamo Three) (y ∷ []) later =
        let items = x ∷ y ∷ [] in
        one_more (of_kind x x.codepoint 1) (of_kind y y.codepoint 2 ∷ rest) items (at_front x (y ∷ []))
        (one_more (of_kind y y.codepoint 2) rest items (λ e. after x (y ∷ []) (at_front y [] e)) later)
    glyphs_bring (is.Jamo Three) (y ∷ z ∷ zs) later =
        let items = x ∷ y ∷ z ∷ zs in
        let last = of_kind z z.codepoint 3 in
        one_more (of_kind x x.codepoint 1) (of_kind y y.codepoint 2 ∷ last ∷ rest) items (at_front x (y ∷ z ∷ zs))
        (one_more (of_kind y y.codepoint 2) (last ∷ rest) items (λ e. after x (y ∷ z ∷ zs) (at_front y (z ∷ zs) e))
        (one_more last rest items (λ e. after x (y ∷ z ∷ zs) (after y (z ∷ zs) (at_front z zs e))) later))
    glyphs_bring (is.Parts l v None) xs later =
        one_more (of_kind x l 1) (of_kind x v 2 ∷ rest) (x ∷ xs) (at_front x xs)
        (one_more (of_kind x v 2) rest (x ∷ xs) (at_front x xs) later)
    glyphs_bring (is.Parts l v (Some t)) xs later =
        one_more (of_kind x l 1) (of_kind x v 2 ∷ of_kind x t 3 ∷ rest) (x ∷ xs) (at_front x xs)
        (one_more (of_kind x v 2) (of_kind x t 3 ∷ rest) (x ∷ xs) (at_front x xs)
        (one_more (of_kind x t 3) rest (x ∷ xs) (at_front x xs) later))
    glyphs_bring (is.PartsBefore l v) [] later =
        one_more (of_kind x l 1) (of_kind x v 2 ∷ rest) (x ∷ []) (at_front x [])
        (one_more (of_kind x v 2) rest (x ∷ []) (at_front x []) later)
    glyphs_bring (is.PartsBefore l v) (y ∷ ys) later =
        let items = x ∷ y ∷ ys in
        let last = of_kind y y.codepoint 3 in
        one_more (of_kind x l 1) (of_kind x v 2 ∷ last ∷ rest) items (at_front x (y ∷ ys))
        (one_more (of_kind x v 2) (last ∷ rest) items (at_front x (y ∷ ys))
        (one_more last rest items (λ e. after x (y ∷ ys) (at_front y ys e)) later))

    circle_brings : (circle zero_width : Bool) (xs : List Item) → (some_has flag rest ≡ true → some_has flag (x ∷ xs) ≡ true)
        → some_has flag (with_circle circle zero_width x ++ rest) ≡ true → some_has flag (x ∷ xs) ≡ true
    circle_brings false zero_width xs later = one_more x rest (x ∷ xs) (at_front x xs) later
    circle_brings true true xs later =
        one_more (of_kind x 0x25CC 0) (x ∷ rest) (x ∷ xs) (at_front x xs) (one_more x rest (x ∷ xs) (at_front x xs) later)
    circle_brings true false xs later =
        one_more x (of_kind x 0x25CC 0 ∷ rest) (x ∷ xs) (at_front x xs) (one_more (of_kind x 0x25CC 0) rest (x ∷ xs) (at_front x xs) later)

  turned-flag : (level : BufferClusterLevel) (x tone : Item) → has_flag flag (turned level x tone) ≡ has_flag flag tone
  turned-flag MonotoneGraphemes x tone = refl
  turned-flag MonotoneCharacters x tone = refl
  turned-flag Characters x tone = refl

  module _ (level : BufferClusterLevel) (x : Item) (xs rest : List Item) (s : Syllable) (later : some_has flag rest ≡ true → some_has flag (x ∷ xs) ≡ true) where
    tone_brings : (zero_width : Bool) (t : Item) → slice_get (x ∷ xs) (taken_of s) ≡ Some t
        → some_has flag (both_of (glyphs_of s x (x ∷ xs)) (if zero_width then t else turned level x t) zero_width ++ rest) ≡ true
        → some_has flag (x ∷ xs) ≡ true
    tone_brings true t is some =
        let items = x ∷ xs in
        glyphs_bring x (t ∷ rest) s xs (one_more t rest items (get-in (taken_of s) items t is) later)
        (ap (some_has flag) (sym (append_assoc (glyphs_of s x items) (t ∷ []) rest)) ∙ some)
    tone_brings false t is some =
        let items = x ∷ xs in
        one_more (turned level x t) (glyphs_of s x items ++ rest) items
        (λ e. get-in (taken_of s) items t is (sym (turned-flag level x t) ∙ e)) (glyphs_bring x rest s xs later) some

    block_brings : (face : FaceMeaning) (found : Option Item) → ((t : Item) → found ≡ Some t → slice_get (x ∷ xs) (taken_of s) ≡ Some t)
        → some_has flag (glyphs_with face level x (glyphs_of s x (x ∷ xs)) found ++ rest) ≡ true → some_has flag (x ∷ xs) ≡ true
    block_brings face None is = glyphs_bring x rest s xs later
    block_brings face (Some t) is = tone_brings (is_zero_width face t.codepoint) t (is t refl)

built_brings : (unicode : UnicodeMeaning) (face : FaceMeaning) (level : BufferClusterLevel) (circle : Bool) (skip : ℕ) (xs : List Item)
    → BringsNone xs (built unicode face level circle skip xs)
built_brings unicode face level circle skip [] flag = λ some. cc
built_brings unicode face level circle (suc skip) (x ∷ xs) flag = λ some.
    after flag x xs
    (built_brings unicode face level circle skip xs flag (ap (some_has flag) (sym (built-skip unicode face level circle skip x xs)) ∙ some))
built_brings unicode face level circle zero (x ∷ xs) flag =
    let items = x ∷ xs in
    let s = syllable_at unicode face items in
    let next = block_taken unicode face x items - 1 in
    let rest = built unicode face level circle next xs in
    let later : some_has flag rest ≡ true → some_has flag items ≡ true = λ e. after flag x xs (built_brings unicode face level circle next xs flag e) in
    elim (is_tone x.codepoint)
    as (λ t. some_has flag
    ((if t then with_circle circle (is_zero_width face x.codepoint) x else glyphs_with face level x (glyphs_of s x items) (tone_after s items)) ++ rest)
    ≡ true → some_has flag items ≡ true) [
      | true ↦ circle_brings flag x rest circle (is_zero_width face x.codepoint) xs later
      | false ↦ block_brings flag level x xs rest s later face (tone_after s items) (tone_after-is s items)
    ]

pub composing_preserves_flags : (unicode : UnicodeMeaning) (face : FaceMeaning) → IsFlagPreserving (composed_text unicode face)
composing_preserves_flags unicode face b =
    let mid = (joined_to unicode face (length b.items) b).0 in
    let first = joined_preserves unicode face (length b.items) b (omega arith) in
    PreservesFlags-then b mid _ first.flags
    (flags-replaced mid _ (built_brings unicode face mid.cluster_level (wants_circle face mid.flags) 0 mid.items))
