-- Circles between vowels preserve the order of clusters and the flags of glyphs.
use Rattle.std.proofs.Common.{◌≡◌, ℕ, ◌==◌, ◌||◌, Bool, true, false, if◌then◌else◌, List, [], ◌∷◌, ◌++◌, refl, inl, inr}
use Rattle.std.proofs.lemmas.Bool.{cases_Bool}
use Rattle.shape_items.specs.Buffer.{Buffer}
use Rattle.shape_items.specs.Clusters.{clusters}
use Rattle.shape_items.specs.Items.{Item}
use Rattle.shape_items.specs.PreservesFlags.{has_flag, some_has}
use Rattle.shape_items.proofs.Order.DrawsInOrder.{DrawsInOrder, DrawsInOrder-same, DrawsInOrder-after, DrawsInOrder-again}
use Rattle.syllabic.specs.Constraints.{pairs_of, tag_of, is_barred, no_before, before_next, piece, parted, are_needed, with_items, vowels_parted}
use Rattle.syllabic.specs.declared.constraints.Before.{Before}
use Rattle.syllabic.proofs.PreservationLemmas.{Preserved, Preserved-same, Preserved-replaced}

piece-draws : (barred : Bool) (x : Item) (xs : List ℕ) (rest : List Item) → DrawsInOrder xs (clusters rest)
    → DrawsInOrder (x.cluster ∷ xs) (clusters (piece barred x ++ rest))
piece-draws true x xs rest h =
    DrawsInOrder-again x.cluster xs (x.cluster ∷ clusters rest)
    (DrawsInOrder-again x.cluster xs (clusters rest) (DrawsInOrder-after x.cluster xs (clusters rest) h))
piece-draws false x xs rest h = DrawsInOrder-again x.cluster xs (clusters rest) (DrawsInOrder-after x.cluster xs (clusters rest) h)

parted-draws : (pairs : List (ℕ × ℕ)) (devanagari : Bool) (before : Before) (xs : List Item)
    → DrawsInOrder (clusters xs) (clusters (parted pairs devanagari before xs))
parted-draws pairs devanagari before [] = DrawsInOrder-same []
parted-draws pairs devanagari before (x ∷ xs) =
    let barred = is_barred pairs devanagari before x.codepoint in
    let next = before_next barred before x.codepoint in
    piece-draws barred x (clusters xs) (parted pairs devanagari next xs) (parted-draws pairs devanagari next xs)

piece-lacks : (flag : ℕ) (barred : Bool) (x : Item) → has_flag flag x ≡ false → (rest : List Item) → some_has flag rest ≡ false
    → some_has flag (piece barred x ++ rest) ≡ false
piece-lacks flag true x bare rest none = rw bare none
piece-lacks flag false x bare rest none = rw bare none

or-none : (s t : Bool) → (s || t) ≡ false → (s ≡ false) × (t ≡ false)
or-none false t e = (refl, e)
or-none true t e = absurd (cc)

parted-lacks : (flag : ℕ) (pairs : List (ℕ × ℕ)) (devanagari : Bool) (before : Before) (xs : List Item) → some_has flag xs ≡ false
    → some_has flag (parted pairs devanagari before xs) ≡ false
parted-lacks flag pairs devanagari before [] lacks = refl
parted-lacks flag pairs devanagari before (x ∷ xs) lacks =
    let barred = is_barred pairs devanagari before x.codepoint in
    let next = before_next barred before x.codepoint in
    let parts = or-none (has_flag flag x) (some_has flag xs) lacks in
    piece-lacks flag barred x parts.0 (parted pairs devanagari next xs) (parted-lacks flag pairs devanagari next xs parts.1)

parted-brings_none : (pairs : List (ℕ × ℕ)) (devanagari : Bool) (xs : List Item) (flag : ℕ)
    → some_has flag (parted pairs devanagari no_before xs) ≡ true → some_has flag xs ≡ true
parted-brings_none pairs devanagari xs flag some = elim (cases_Bool (some_has flag xs)) [
  | inl has ↦ has
  | inr lacks ↦ absurd (let none = parted-lacks flag pairs devanagari no_before xs lacks in cc)
]

pub Preserved-vowels : (b : Buffer) → Preserved b (vowels_parted b)
Preserved-vowels b =
    let tag = tag_of b.script in
    let pairs = pairs_of tag in
    let items = parted pairs (tag == 0x4465_7661) no_before b.items in
    elim (are_needed pairs (tag == 0x4465_7661) b) as (λ t. Preserved b (if t then with_items items b else b)) [
      | true ↦ Preserved-replaced b items (parted-draws pairs (tag == 0x4465_7661) no_before b.items)
          (parted-brings_none pairs (tag == 0x4465_7661) b.items)
      | false ↦ Preserved-same b
    ]
