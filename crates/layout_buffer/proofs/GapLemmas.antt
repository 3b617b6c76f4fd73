-- What stands round a gap, as the gap moves, grows and shrinks.
use Rattle.std.proofs.Common.{◌≡◌, ℕ, suc, ◌+◌, ◌-◌, ◌≤◌, ◌<◌, List, [], ◌∷◌, ◌++◌, take, drop, length, replicate, insert, remove, slice_set, slice_index_or, refl, sym, ap, ◌∙◌, arith, rules}
use Rattle.std.specs.List.{copy_within}
use Rattle.std.proofs.lemmas.List.{places, same_lists, take-append-drop, append_assoc, take_at, drop_at, drop-drop, take_more_set, drop-set-lt, length-take-le, get_or-set_same}
use Rattle.std.proofs.lemmas.Bool.{cases_eq}
use Rattle.layout_buffer.specs.Gap.{around}

pub around_no_room : {T : Type 0} (at : ℕ) (xs : List T) → around at 0 xs ≡ xs
around_no_room at xs = let same : at + 0 ≡ at = omega arith in rw same (take-append-drop at xs)

pub length_around : {T : Type 0} (at room : ℕ) (xs : List T) → at + room ≤ length xs → length (around at room xs) ≡ length xs - room
length_around at room xs fits = grind (arith, places)

-- the gap goes left
pub gap_left : {T : Type 0} (to at room : ℕ) (xs : List T) → to ≤ at → at + room ≤ length xs
    → around to room (copy_within xs to at (to + room)) ≡ around at room xs
gap_left to at room xs le fits = same_lists _ _ (search (rules, places)) (λ k d h. grind (arith, places))

-- the gap goes right
pub gap_right : {T : Type 0} (to at room : ℕ) (xs : List T) → at ≤ to → to + room ≤ length xs
    → around to room (copy_within xs (at + room) (to + room) at) ≡ around at room xs
gap_right to at room xs le fits = same_lists _ _ (search (rules, places)) (λ k d h. grind (arith, places))

-- an item before the gap is replaced, and one after it
pub set_before : {T : Type 0} (at room i : ℕ) (item : T) (xs : List T) → i < at → at + room ≤ length xs
    → around at room (slice_set xs i item) ≡ slice_set (around at room xs) i item
set_before at room i item xs before fits =
    same_lists _ _ (search (rules, places)) (λ k d h. grind (arith, places, get_or-set_same, cases_eq k i))

pub set_after : {T : Type 0} (at room i : ℕ) (item : T) (xs : List T) → at ≤ i → i + room < length xs
    → around at room (slice_set xs (i + room) item) ≡ slice_set (around at room xs) i item
set_after at room i item xs after fits =
    same_lists _ _ (search (rules, places)) (λ k d h. grind (arith, places, get_or-set_same, cases_eq k i))

-- what stands before the gap and after it, of the list that is seen
pub front_of : {T : Type 0} (at room : ℕ) (xs : List T) → at + room ≤ length xs → take at (around at room xs) ≡ take at xs
front_of at room xs fits = take_at (take at xs) (drop (at + room) xs) at (length-take-le at xs (omega arith))

pub back_of : {T : Type 0} (at room : ℕ) (xs : List T) → at + room ≤ length xs → drop at (around at room xs) ≡ drop (at + room) xs
back_of at room xs fits = drop_at (take at xs) (drop (at + room) xs) at (length-take-le at xs (omega arith))

-- the gap takes the item after it in
pub gap_takes : {T : Type 0} (at room : ℕ) (xs : List T) → at + room < length xs
    → around at (room + 1) xs ≡ remove (around at room xs) at
gap_takes at room xs fits =
    let next : suc at ≡ at + 1 = omega arith in
    let sum : at + (room + 1) ≡ at + room + 1 = omega arith in
    let back : drop (at + 1) (around at room xs) ≡ drop (at + room + 1) xs =
    sym (drop-drop 1 at (around at room xs)) ∙ ap (drop 1) (back_of at room xs (omega arith)) ∙ drop-drop 1 (at + room) xs in
    rw (next, sum, front_of at room xs (omega arith), back) refl

-- storage with room at its end
pub gap_at_end : {T : Type 0} (room : ℕ) (filler : T) (xs : List T) → around (length xs) room (xs ++ replicate room filler) ≡ xs
gap_at_end room filler xs = same_lists _ _ (search (rules, places)) (λ k d h. grind (arith, places))

-- the gap gives its first place to an item
pub gap_gives : {T : Type 0} (at room : ℕ) (item : T) (xs : List T) → 0 < room → at + room ≤ length xs
    → around (at + 1) (room - 1) (slice_set xs at item) ≡ insert (around at room xs) at item
gap_gives at room item xs some fits =
    let sum : at + 1 + (room - 1) ≡ at + room = omega arith in
    let first : take (at + 1) (slice_set xs at item) ≡ take at xs ++ item ∷ [] = take_more_set xs at item (omega arith) in
    let rest : drop (at + room) (slice_set xs at item) ≡ drop (at + room) xs = drop-set-lt (at + room) xs at item (omega arith) in
    rw (sum, first, rest, front_of at room xs fits, back_of at room xs fits)
    (append_assoc (take at xs) (item ∷ []) (drop (at + room) xs))

-- a gap at the end of storage
pub around_end : {T : Type 0} (at room : ℕ) (xs : List T) → at + room ≡ length xs → around at room xs ≡ take at xs
around_end at room xs ends = same_lists _ _ (search (rules, places)) (λ k d h. grind (arith, places))

-- an item is taken out where the gap has gone
pub gap_removes : {T : Type 0} (at room : ℕ) (xs ys : List T) → at + room < length xs → around at room xs ≡ ys
    → around at (room + 1) xs ≡ remove ys at
gap_removes at room xs ys fits same = gap_takes at room xs fits ∙ ap (λ zs. remove zs at) same

-- the items from a place on, where it is before the gap and where it is after it
pub in_front : {T : Type 0} (xs ys : List T) (i j : ℕ) (d : T) → j < length (drop i xs)
    → slice_index_or (drop i xs) j d ≡ slice_index_or (xs ++ ys) (i + j) d
in_front xs ys i j d inside = grind (arith, places)

pub in_back : {T : Type 0} (xs ys : List T) (i j : ℕ) (d : T) → length xs ≤ i → j < length (drop (i - length xs) ys)
    → slice_index_or (drop (i - length xs) ys) j d ≡ slice_index_or (xs ++ ys) (i + j) d
in_back xs ys i j d after inside = grind (arith, places)
