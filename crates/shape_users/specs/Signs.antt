-- Signs that are typed after their letter and shown before it.
use Rattle.std.specs.Prelude.{ℕ, zero, suc, ◌+◌, ◌==◌, ◌&&◌, nat_le, Bool, if◌then◌else◌, List, [], ◌∷◌, length, map}
use Rattle.shape_items.specs.Buffer.{Buffer}
use Rattle.shape_items.specs.BufferClusters.{merge_clusters}
use Rattle.shape_items.specs.Items.{Item}
use Rattle.shape_plan.specs.Reorder.{exchanged}
use Rattle.shape_users.specs.Ligatures.{nth_item}

-- a letter of Buginese
abbrev pub is_letter : ℕ → Bool
is_letter c = nat_le 0x1A00 c && nat_le c 0x1A16

-- its vowel sign E
abbrev pub is_sign : ℕ → Bool
is_sign c = c == 0x1A19

-- a letter, and a sign typed after it
abbrev pub is_typed : ℕ → ℕ → Bool
is_typed c d = is_letter c && is_sign d

-- a character and those after it, with the signs typed right after a letter before that letter
abbrev pub shown_from : ℕ → List ℕ → List ℕ
shown_from c [] = c ∷ []
shown_from c (d ∷ cs) = if is_typed c d then d ∷ shown_from c cs else c ∷ shown_from d cs

-- a text as it is shown
abbrev pub signs_first : List ℕ → List ℕ
signs_first [] = []
signs_first (c ∷ cs) = shown_from c cs

-- ---- in a buffer, with clusters

abbrev pub characters : Buffer → List ℕ
characters b = map (λ item. item.codepoint) b.items

-- the item at a place is a letter, and the next one its sign
abbrev pub is_typed_at : List Item → ℕ → Bool
is_typed_at items i = is_typed (nth_item items i).codepoint (nth_item items (i + 1)).codepoint

-- the sign steps before its letter, once the two are one cluster
abbrev pub stepped_at : ℕ → Buffer → Buffer
stepped_at i b = if is_typed_at b.items i then exchanged i (i + 1) (merge_clusters i (i + 2) b) else b

-- the same at the first places, one after the other
abbrev pub stepped_to : ℕ → Buffer → Buffer
stepped_to zero b = b
stepped_to (suc i) b = stepped_at i (stepped_to i b)

abbrev pub signs_stepped : Buffer → Buffer
signs_stepped b = stepped_to (length b.items) b
