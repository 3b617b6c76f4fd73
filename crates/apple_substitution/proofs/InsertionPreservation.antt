-- Insertion subtables preserve clusters and flags: an inserted glyph is in the cluster, and has the mask, of the one beside it.
use Prim.Native.Nat.{zero}
use Rattle.std.proofs.Common.{◌≡◌, ℕ, suc, ◌+◌, ◌-◌, ◌*◌, ◌<◌, ◌≤◌, ◌||◌, ◌&&◌, not, Bool, true, false, List, [], ◌∷◌, map, insert, length, min, nat_eq, nat_le, nat_lt}
use Rattle.std.proofs.Common.{refl, ap, ap₂, sym, ◌∙◌, subst, inl, inr, bit_and, arith, if◌then◌else◌, slice_index_or}
use Rattle.std.proofs.lemmas.Bool.{cases_Bool, or_cases, or_right}
use Rattle.std.proofs.lemmas.Bool.Decides.{nat_tests}
use Rattle.std.proofs.lemmas.List.Edits.{get_or-insert_at, get_or-insert_below, length-insert}
use Rattle.shape_common.specs.Positions.{zero_position}
use Rattle.shape_items.specs.Buffer.{Buffer}
use Rattle.shape_items.specs.Clusters.{clusters}
use Rattle.shape_items.specs.Items.{Item, new_item}
use Rattle.shape_items.specs.PreservesFlags.{has_flag, some_has}
use Rattle.shape_items.proofs.Flags.FlagLemmas.{PreservesFlags-items}
use Rattle.shape_items.proofs.Order.DrawsInOrder.{DrawsInOrder, DrawsInOrder-again, DrawsInOrder-after, DrawsInOrder-same, PreservesClusters-from_draws}
use Rattle.apple_tables.specs.declared.states.Entry.{Entry}
use Rattle.apple_substitution.specs.Driver.{Spot}
use Rattle.apple_substitution.specs.Edits.{broken, charged, item_at}
use Rattle.apple_substitution.specs.Insertion.{Placed, actions, both_done, copy, count_of, current_done, current_inserted, current_of, insert_at}
use Rattle.apple_substitution.specs.Insertion.{inserted, inserted_beside, is_inside, mark_after, marked_broken, marked_done, marked_of, place_of}
use Rattle.apple_substitution.specs.Insertion.{span_work, spot_of, work_of, NONE}
use Rattle.apple_substitution.specs.declared.insertion.Wanted.{Wanted}
use Rattle.apple_substitution.proofs.PreservedLemmas.{IsLike, IsLike-same, Preserves, Preserves-alike, Preserves-broken, Preserves-cases}
use Rattle.apple_substitution.proofs.PreservedLemmas.{Preserves-charged, Preserves-if, Preserves-same, Preserves-then}

-- ---- an item more, like the one before it

copy-draws : (xs : List Item) (i : ℕ) (y : Item) → i < length xs → y.cluster ≡ (slice_index_or xs i (new_item 0 0)).cluster
    → DrawsInOrder (clusters xs) (clusters (insert xs (suc i) y))
copy-draws [] i y inside same = absurd (omega (arith, inside))
copy-draws (x ∷ xs) zero y inside same =
    subst (λ c. DrawsInOrder (x.cluster ∷ clusters xs) (x.cluster ∷ c ∷ clusters xs)) (sym same)
    (DrawsInOrder-again x.cluster (clusters xs) (x.cluster ∷ clusters xs) (DrawsInOrder-same (x.cluster ∷ clusters xs)))
copy-draws (x ∷ xs) (suc i) y inside same =
    DrawsInOrder-again x.cluster (clusters xs) (clusters (insert xs (suc i) y))
    (DrawsInOrder-after x.cluster (clusters xs) (clusters (insert xs (suc i) y)) (copy-draws xs i y (omega (arith, inside)) same))

copy-some : (flag : ℕ) (xs : List Item) (i : ℕ) (y : Item) → i < length xs → y.mask ≡ (slice_index_or xs i (new_item 0 0)).mask
    → some_has flag (insert xs (suc i) y) ≡ true → some_has flag xs ≡ true
copy-some flag [] i y inside same some = absurd (omega (arith, inside))
copy-some flag (x ∷ xs) zero y inside same some = elim (or_cases (has_flag flag x) (has_flag flag y || some_has flag xs) some) [
  | inl here ↦ rw here refl
  | inr later ↦ ap (λ m. nat_lt 0 (bit_and m flag) || some_has flag xs) (sym same) ∙ later
]
copy-some flag (x ∷ xs) (suc i) y inside same some = elim (or_cases (has_flag flag x) (some_has flag (insert xs (suc i) y)) some) [
  | inl here ↦ rw here refl
  | inr later ↦ or_right (has_flag flag x) (some_has flag xs) (copy-some flag xs i y (omega (arith, inside)) same later)
]

after-preserves : (i : ℕ) (y : Item) (b : Buffer) → i < length b.items → IsLike (item_at b i) y
    → Preserves b (record b { items = insert b.items (suc i) y; positions = insert b.positions (suc i) zero_position })
after-preserves i y b inside like =
    let flags = PreservesFlags-items b (insert b.items (suc i) y) (λ flag defined some. copy-some flag b.items i y inside like.mask some) in
    record {
      order = λ monotone. PreservesClusters-from_draws (clusters b.items) (clusters (insert b.items (suc i) y))
          (copy-draws b.items i y inside like.cluster);
      flags = record { flags = refl; stays_set = flags.stays_set; none_new = flags.none_new };
      direction = refl;
      level = refl;
      limit = refl;
      left = omega arith;
    }

-- before an item that is like it, or after it, is the same of what is alike in both
keys-insert : {B : Type 0} (key : Item → B) (xs : List Item) (i : ℕ) (y : Item) → i < length xs
    → key y ≡ key (slice_index_or xs i (new_item 0 0)) → map key (insert xs i y) ≡ map key (insert xs (suc i) y)
keys-insert key [] i y inside same = absurd (omega (arith, inside))
keys-insert key (x ∷ xs) zero y inside same = ap₂ (λ a c. a ∷ c ∷ map key xs) same (sym same)
keys-insert key (x ∷ xs) (suc i) y inside same = ap (λ ks. key x ∷ ks) (keys-insert key xs i y (omega (arith, inside)) same)

before-preserves : (i : ℕ) (y : Item) (b : Buffer) → i < length b.items → IsLike (item_at b i) y
    → Preserves b (record b { items = insert b.items i y; positions = insert b.positions i zero_position })
before-preserves i y b inside like =
    let after : Buffer = record b { items = insert b.items (suc i) y; positions = insert b.positions (suc i) zero_position } in
    Preserves-then b after (record b { items = insert b.items i y; positions = insert b.positions i zero_position })
    (after-preserves i y b inside like)
    (Preserves-alike after (insert b.items i y) (insert b.positions i zero_position)
    (keys-insert (λ (x : Item). x.cluster) b.items i y inside like.cluster)
    (keys-insert (λ (x : Item). x.mask) b.items i y inside like.mask))

-- ---- glyphs of a list, one after the other

inserted-after : (t : List ℕ) (from i n : ℕ) (model : Item) (b : Buffer) → i < length b.items → IsLike (item_at b i) model
    → Preserves b (inserted t from model (suc i) n b)
inserted-after t from i zero model b inside like = Preserves-same b
inserted-after t from i (suc n) model b inside like =
    let y : Item = copy t (from + 2 * n) model in
    let there : Buffer = record b { items = insert b.items (suc i) y; positions = insert b.positions (suc i) zero_position } in
    let test : nat_le (suc i) (length b.items) ≡ true = grind (arith, nat_tests, inside) in
    let is : insert_at (suc i) y b ≡ there = rw test refl in
    let longer : length there.items ≡ length b.items + 1 = length-insert b.items (suc i) y (omega (arith, inside)) in
    let stays : item_at there i ≡ item_at b i =
    get_or-insert_below b.items (suc i) y (new_item 0 0) i (omega arith) (omega (arith, inside)) in
    let next : IsLike (item_at there i) model = subst (λ x. IsLike x model) (sym stays) like in
    subst (λ c. Preserves b (inserted t from model (suc i) n c)) (sym is)
    (Preserves-then b there (inserted t from model (suc i) n there)
    (after-preserves i y b inside (record { cluster = like.cluster; mask = like.mask }))
    (inserted-after t from i n model there (omega (arith, inside, longer)) next))

inserted-before : (t : List ℕ) (from i n : ℕ) (model : Item) (b : Buffer) → i < length b.items → IsLike (item_at b i) model
    → Preserves b (inserted t from model i n b)
inserted-before t from i zero model b inside like = Preserves-same b
inserted-before t from i (suc n) model b inside like =
    let y : Item = copy t (from + 2 * n) model in
    let there : Buffer = record b { items = insert b.items i y; positions = insert b.positions i zero_position } in
    let test : nat_le i (length b.items) ≡ true = grind (arith, nat_tests, inside) in
    let is : insert_at i y b ≡ there = rw test refl in
    let longer : length there.items ≡ length b.items + 1 = length-insert b.items i y (omega (arith, inside)) in
    let stays : item_at there i ≡ y = get_or-insert_at b.items i y (new_item 0 0) (omega (arith, inside)) in
    let next : IsLike (item_at there i) model =
    subst (λ x. IsLike x model) (sym stays) (record { cluster = refl; mask = refl }) in
    subst (λ c. Preserves b (inserted t from model i n c)) (sym is)
    (Preserves-then b there (inserted t from model i n there)
    (before-preserves i y b inside (record { cluster = like.cluster; mask = like.mask }))
    (inserted-before t from i n model there (omega (arith, inside, longer)) next))

-- past the end nothing is inserted
inserted-outside : (t : List ℕ) (from at n : ℕ) (model : Item) (b : Buffer) → length b.items < at → inserted t from model at n b ≡ b
inserted-outside t from at zero model b outside = refl
inserted-outside t from at (suc n) model b outside =
    let test : nat_le at (length b.items) ≡ false = grind (arith, nat_tests, outside) in
    let is : insert_at at (copy t (from + 2 * n) model) b ≡ b = rw test refl in
    ap (inserted t from model at n) is ∙ inserted-outside t from at n model b outside

-- ---- beside a glyph

-- the glyph at a place of the list, on either side
beside-inside : (t : List ℕ) (from at n : ℕ) (before : Bool) (b : Buffer) → at < length b.items
    → Preserves b (inserted t from (item_at b at) (if not before then at + 1 else at) n b)
beside-inside t from at n true b inside = inserted-before t from at n (item_at b at) b inside (IsLike-same (item_at b at))
beside-inside t from at n false b inside =
    let next : suc at ≡ at + 1 = omega arith in
    subst (λ k. Preserves b (inserted t from (item_at b at) k n b)) next
    (inserted-after t from at n (item_at b at) b inside (IsLike-same (item_at b at)))

-- at the end of the list after the last one; past it nothing
beside-outside : (t : List ℕ) (from at n : ℕ) (b : Buffer) → 0 < length b.items → length b.items ≤ at
    → Preserves b (inserted t from (item_at b (at - 1)) at n b)
beside-outside t from at n b some outside = elim (cases_Bool (nat_lt (length b.items) at)) [
  | inl past ↦ subst (λ c. Preserves b c)
      (sym (inserted-outside t from at n (item_at b (at - 1)) b (grind (arith, nat_tests, past)))) (Preserves-same b)
  | inr within ↦
      let end : at ≤ length b.items = grind (arith, nat_tests, within) in
      let next : suc (at - 1) ≡ at = omega (arith, some, outside) in
      subst (λ k. Preserves b (inserted t from (item_at b (at - 1)) k n b)) next
      (inserted-after t from (at - 1) n (item_at b (at - 1)) b (omega (arith, some, outside, end)) (IsLike-same (item_at b (at - 1))))
]

by_place : (t : List ℕ) (from : ℕ) (w : Wanted) (at n : ℕ) (b : Buffer) (inside : Bool) → is_inside at b ≡ inside → 0 < length b.items
    → Preserves b (inserted t from (if inside then item_at b at else item_at b (at - 1))
    (if inside && not w.is_before then at + 1 else at) n b)
by_place t from w at n b true is some = beside-inside t from at n w.is_before b (grind (arith, nat_tests, is))
by_place t from w at n b false is some = beside-outside t from at n b some (grind (arith, nat_tests, is))

beside-preserves : (t : List ℕ) (start : ℕ) (w : Wanted) (at : ℕ) (b : Buffer) → Preserves b (inserted_beside t start w at b)
unfolding inserted_beside
beside-preserves t start w at b =
    Preserves-cases (nat_eq (length b.items) 0) b b _ (λ none. Preserves-same b)
    (λ some. by_place t (place_of t start w) w at (count_of t start w) b (is_inside at b) refl (grind (arith, nat_tests, some)))

-- ---- a transition

marked-preserves : (t : List ℕ) (start : ℕ) (w : Wanted) (mark at : ℕ) (b : Buffer)
    → Preserves b (marked_done t start w mark at b).buffer
marked-preserves t start w mark at b =
    let there : Buffer = marked_broken w mark at b in
    Preserves-then b there (inserted_beside t start w mark there)
    (Preserves-if (nat_eq w.index NONE) b b (broken mark (min (at + 1) (length b.items)) b) (Preserves-same b)
    (Preserves-broken mark (min (at + 1) (length b.items)) b))
    (beside-preserves t start w mark there)

current-preserves : (t : List ℕ) (start : ℕ) (w : Wanted) (e : Entry) (p : Placed) → Preserves p.buffer (current_done t start w e p).buffer
unfolding current_done
current-preserves t start w e p =
    let paid : Buffer = charged (work_of w 0) p.buffer in
    let q : Placed = record p { buffer = paid } in
    elim (nat_lt p.buffer.max_ops (work_of w 0)) as
    (λ little. Preserves p.buffer (if little then q else current_inserted t start w e q).buffer) [
      | true ↦ Preserves-charged (work_of w 0) p.buffer
      | false ↦ Preserves-then p.buffer paid (inserted_beside t start w p.at paid) (Preserves-charged (work_of w 0) p.buffer)
          (beside-preserves t start w p.at paid)
    ]

both-preserves : (t : List ℕ) (start : ℕ) (e : Entry) (mark at : ℕ) (b : Buffer) → Preserves b (both_done t start e mark at b).buffer
both-preserves t start e mark at b =
    let p : Placed = marked_done t start (marked_of t e) mark at b in
    Preserves-then b p.buffer (current_done t start (current_of t e) e p).buffer (marked-preserves t start (marked_of t e) mark at b)
    (current-preserves t start (current_of t e) e p)

pub insertion-preserves : (t : List ℕ) (start : ℕ) (e : Entry) (s : Spot ℕ) → Preserves s.buffer ((actions t start).transition e s).buffer
insertion-preserves t start e s =
    let work : ℕ = span_work (marked_of t e) s.memory s.at s.buffer in
    let paid : Buffer = charged work s.buffer in
    elim (nat_lt s.buffer.max_ops work) as
    (λ little. Preserves s.buffer (if little then record s { buffer = paid }
    else spot_of (both_done t start e s.memory s.at paid) (mark_after e s.at s.memory)).buffer) [
      | true ↦ Preserves-charged work s.buffer
      | false ↦ Preserves-then s.buffer paid (both_done t start e s.memory s.at paid).buffer (Preserves-charged work s.buffer)
          (both-preserves t start e s.memory s.at paid)
    ]
