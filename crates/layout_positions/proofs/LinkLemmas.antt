-- what joins two glyphs makes one follow the other
use Prim.Native.Nat.{zero}
use Rattle.std.proofs.Common.{◌≡◌, ℕ, ℤ, pos, neg_ℤ, suc, ◌<◌, ◌≤◌, ◌+◌, ◌-◌, ◌||◌, Bool, true, false, Option, Some, None, length, min, nat_eq, nat_lt, nat_le, refl, sym, ap, ◌∙◌, arith, inl, inr, if◌then◌else◌}
use Rattle.std.specs.Prelude.{int_lt}
use Rattle.std.specs.Option.{option_map_or}
use Rattle.std.proofs.lemmas.Bool.{cases_order}
use Rattle.std.proofs.lemmas.Bool.Decides.{nat_tests}
use Rattle.std.proofs.lemmas.Int.{ints}
use Rattle.shape_common.specs.Direction.{is_horizontal}
use Rattle.shape_common.specs.declared.positions.GlyphPosition.{GlyphPosition}
use Rattle.shape_common.specs.declared.text_types.Direction.{Direction}
use Rattle.shape_items.specs.Buffer.{Buffer}
use Rattle.shape_items.specs.BufferClusters.{unsafe_to_break}
use Rattle.shape_items.proofs.Merging.KeyLemmas.{without_items-unsafe_to_break}
use Rattle.layout_matching.specs.Loops.{times}
use Rattle.layout_positions.specs.Attachment.{CURSIVE_ATTACHED, chain_to, place_at, freed}
use Rattle.layout_positions.specs.Cursive.{gap_across}
use Rattle.layout_positions.specs.Edits.{position_at, position_put, broken}
use Rattle.layout_positions.specs.Forest.{IsMarkOn, IsJoinedTo}
use Rattle.layout_positions.specs.Marks.{mark_position, mark_put}
use Rattle.layout_positions.specs.Turning.{offset_across, across, linked, Turn, turn_next, turn_at, turn_step, first_turn, turned, follows, parent_freed, link_put, attached}
use Rattle.layout_positions.specs.declared.anchors.Anchor.{Anchor}
use Rattle.layout_positions.proofs.CountLemmas.{length_broken}
use Rattle.layout_positions.proofs.FollowLemmas.{IsPut, put-is, put-then, put-here, put-other}

-- ---- a distance leads where it was measured to

near-back : (count i j k : ℕ) → i - j ≡ suc k → j < i → i - j ≤ 32767 → place_at count i (chain_to i j) ≡ Some j
near-back count i j k far before near =
    let less : nat_lt j i ≡ true = grind (arith, nat_tests, before) in
    let close : nat_lt 32767 (i - j) ≡ false = grind (arith, nat_tests, near) in
    let within : nat_le (suc k) i ≡ true = grind (arith, nat_tests, far) in
    let back : i - suc k ≡ j = omega (arith, far, before) in
    ap (place_at count i)
    (ap (λ t. if t then (if nat_lt 32767 (i - j) then pos 0 else neg_ℤ (pos (i - j)))
    else (if nat_lt 32767 (j - i) then pos 0 else pos (j - i))) less
    ∙ ap (λ t. if t then pos 0 else neg_ℤ (pos (i - j))) close ∙ ap (λ n. neg_ℤ (pos n)) far)
    ∙ ap (λ t. if t then Some (i - suc k) else None) within ∙ ap (λ n. Some n) back

near-on : (count i j : ℕ) → i < j → j < count → j - i ≤ 32767 → place_at count i (chain_to i j) ≡ Some j
near-on count i j before inside near =
    let n = j - i in
    let more : nat_lt j i ≡ false = grind (arith, nat_tests, before) in
    let close : nat_lt 32767 n ≡ false = grind (arith, nat_tests, near) in
    let ahead : int_lt (pos n) (pos 0) ≡ false = grind (arith, ints) in
    let some : nat_eq n 0 ≡ false = grind (arith, nat_tests, before) in
    let on : i + n ≡ j = omega (arith, before) in
    let within : nat_le count (i + n) ≡ false = grind (arith, nat_tests, inside, on) in
    ap (place_at count i)
    (ap (λ t. if t then (if nat_lt 32767 (i - j) then pos 0 else neg_ℤ (pos (i - j))) else (if nat_lt 32767 n then pos 0 else pos n)) more
    ∙ ap (λ t. if t then pos 0 else pos n) close)
    ∙ ap (λ t. if t then (if nat_le n i then Some (i - n) else None)
    else (if nat_eq n 0 || nat_le count (i + n) then None else Some (i + n))) ahead
    ∙ ap (λ t. if t || nat_le count (i + n) then None else Some (i + n)) some
    ∙ ap (λ t. if t then None else Some (i + n)) within ∙ ap (λ m. Some m) on

less-one : (n : ℕ) → 0 < n → n ≡ suc (n - 1)
less-one n some = omega (arith, some)

chain-leads : (count i j : ℕ) → (i ≡ j → ⊥) → j < count → i - j ≤ 32767 → j - i ≤ 32767 → place_at count i (chain_to i j) ≡ Some j
chain-leads count i j apart inside back on = elim (cases_order i j) [
  | inl same ↦ absurd (apart same)
  | inr (inl less) ↦ near-on count i j less inside on
  | inr (inr more) ↦ near-back count i j (i - j - 1) (less-one (i - j) (omega (arith, more))) more back
]

-- ---- marks

broken-positions : (start end : ℕ) (b : Buffer) → (broken start end b).positions ≡ b.positions
broken-positions start end b = by_span (nat_le start last)
  where
    last : ℕ
    last = min end (length b.items)

    by_span : (t : Bool) → (if t then unsafe_to_break start last b else b).positions ≡ b.positions
    by_span true = ap (λ (c : Buffer). c.positions) (without_items-unsafe_to_break start last b)
    by_span false = refl

pub mark-links : (i j : ℕ) (mark base : Anchor) (b : Buffer) → length b.positions ≡ length b.items → j < i → i < length b.items
    → i - j ≤ 32767 → IsMarkOn (mark_put i j mark b base).buffer i j mark base
mark-links i j mark base b whole before inside near =
    let c = broken j (i + 1) b in
    let p = mark_position i j mark base (position_at c i) in
    let count : length c.items ≡ length b.items = length_broken j (i + 1) b in
    let places : length c.positions ≡ length b.positions = ap length (broken-positions j (i + 1) b) in
    let in_items : i < length c.items = omega (arith, inside, count) in
    let here : position_at (position_put i p c) i ≡ p = put-here i p c in_items (omega (arith, inside, whole, places)) in
    let put = put-is i p c in
    let puts = put.count in
    let links = chain-leads (length (position_put i p c).items) i j (λ same. omega (arith, before, same))
    (omega (arith, before, in_items, puts)) near (omega (arith, before)) in
    record {
      inside = omega (arith, in_items, puts);
      after = before;
      follows = ap (λ (q : GlyphPosition). place_at (length (position_put i p c).items) i q.attach_chain) here ∙ links;
      type = ap (λ (q : GlyphPosition). q.attach_type) here;
      x = ap (λ (q : GlyphPosition). q.x_offset) here;
      y = ap (λ (q : GlyphPosition). q.y_offset) here;
    }

-- ---- cursive lines

turn-put : (s : Turn) (o : Option ℕ) → IsPut s.buffer (option_map_or (turn_at s) o s).buffer
turn-put s None = record { count = refl; places = refl; direction = refl }
turn-put s (Some j) = put-is j _ s.buffer

turns-put : (end n : ℕ) (s : Turn) → IsPut s.buffer (times (turn_step end) n s).buffer
turns-put end zero s = record { count = refl; places = refl; direction = refl }
turns-put end (suc n) s =
    let before : Turn = times (turn_step end) n s in
    put-then s.buffer before.buffer (turn_step end before).buffer (turns-put end n s) (turn-put before (turn_next end before))

turned-put : (child end : ℕ) (b : Buffer) → IsPut b (turned child end b)
turned-put child end b =
    let free = freed child b in
    put-then b free (turned child end b) (put-is child _ b) (turns-put end (length b.items) (first_turn child b))

across-is : (h : Bool) (v : ℤ) (p : GlyphPosition) → offset_across h (across h v p) ≡ v
across-is true v p = refl
across-is false v p = refl

across-chain : (h : Bool) (v : ℤ) (p : GlyphPosition) → (across h v p).attach_chain ≡ p.attach_chain
across-chain true v p = refl
across-chain false v p = refl

across-type : (h : Bool) (v : ℤ) (p : GlyphPosition) → (across h v p).attach_type ≡ p.attach_type
across-type true v p = refl
across-type false v p = refl

-- the glyph that is followed changes nothing of the one that follows
parent-freed-put : (child parent : ℕ) (b : Buffer) → IsPut b (parent_freed child parent b)
parent-freed-put child parent b = by_test (follows parent child b)
  where
    by_test : (t : Bool) → IsPut b (if t then position_put parent
        (across (is_horizontal b.direction) (pos 0) (record (position_at b parent) { attach_chain = pos 0 })) b else b)
    by_test true = put-is parent _ b
    by_test false = record { count = refl; places = refl; direction = refl }

parent-freed-child : (child parent : ℕ) (b : Buffer) → (child ≡ parent → ⊥)
    → position_at (parent_freed child parent b) child ≡ position_at b child
parent-freed-child child parent b apart = by_test (follows parent child b)
  where
    by_test : (t : Bool) → position_at (if t then position_put parent
        (across (is_horizontal b.direction) (pos 0) (record (position_at b parent) { attach_chain = pos 0 })) b else b) child
        ≡ position_at b child
    by_test true = put-other parent child _ b apart
    by_test false = refl

pub line-links : (child parent : ℕ) (own other : Anchor) (b : Buffer) → length b.positions ≡ length b.items → (child ≡ parent → ⊥)
    → child < length b.items → parent < length b.items → child - parent ≤ 32767 → parent - child ≤ 32767
    → IsJoinedTo (attached child parent (gap_across (is_horizontal b.direction) other own) b) child parent own other
line-links child parent own other b whole apart inside there back on =
    let h = is_horizontal b.direction in
    let v = gap_across h other own in
    let t = turned child parent b in
    let turn = turned-put child parent b in
    let t_count = turn.count in
    let t_places = turn.places in
    let p = linked (is_horizontal t.direction) child parent v (position_at t child) in
    let l = link_put child parent v t in
    let link = put-is child p t in
    let last = attached child parent v b in
    let end = parent-freed-put child parent l in
    let all = put-then b l last (put-then b t l turn link) end in
    let count = all.count in
    let here : position_at last child ≡ p =
    parent-freed-child child parent l apart
    ∙ put-here child p t (omega (arith, inside, t_count)) (omega (arith, inside, whole, t_places)) in
    let same : is_horizontal t.direction ≡ h = ap is_horizontal turn.direction in
    let k = is_horizontal t.direction in
    let q : GlyphPosition = record (position_at t child) { attach_chain = chain_to child parent; attach_type = CURSIVE_ATTACHED } in
    record {
      inside = omega (arith, inside, count);
      follows = ap (λ (r : GlyphPosition). place_at (length last.items) child r.attach_chain) here
          ∙ ap (place_at (length last.items) child) (across-chain k v q)
          ∙ chain-leads (length last.items) child parent apart (omega (arith, there, count)) back on;
      type = ap (λ (r : GlyphPosition). r.attach_type) here ∙ across-type k v q;
      across = ap (λ (d : Direction). offset_across (is_horizontal d) (position_at last child)) all.direction
          ∙ ap (offset_across h) here ∙ ap (λ t. offset_across h (across t v q)) same ∙ across-is h v q
          ∙ ap (λ (d : Direction). gap_across (is_horizontal d) other own) (sym all.direction);
    }
