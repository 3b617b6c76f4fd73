-- what putting a position changes, which glyph a glyph follows, and what makes a forest
use Rattle.std.proofs.Common.{◌≡◌, ℕ, ℤ, pos, ◌<◌, ◌+◌, ◌-◌, ◌||◌, Bool, true, false, Option, Some, None, length, nat_eq, nat_lt, nat_le, slice_set, refl, sym, ap, ◌∙◌, arith, inl, inr, if◌then◌else◌, suc, ◌≤◌}
use Rattle.std.specs.Prelude.{int_lt, unsigned_abs, not, is_some}
use Rattle.std.specs.Option.{option_map_or}
use Rattle.std.proofs.lemmas.Bool.{cases_lt}
use Rattle.std.proofs.lemmas.Bool.Decides.{nat_tests}
use Rattle.std.proofs.lemmas.List.{get_or-set_same, get_or-set_other, get_or_past, length-set}
use Rattle.shape_common.specs.Direction.{is_horizontal, is_forward}
use Rattle.shape_common.specs.Positions.{zero_position}
use Rattle.shape_common.specs.declared.positions.GlyphPosition.{GlyphPosition}
use Rattle.shape_common.specs.declared.text_types.Direction.{Direction}
use Rattle.shape_items.specs.Buffer.{Buffer}
use Rattle.layout_positions.specs.Attachment.{CURSIVE_ATTACHED, place_at, parent_of, freed, hung, carried, followed, MOST_LINKS}
use Rattle.layout_positions.specs.Edits.{position_at, position_put}
use Rattle.layout_positions.specs.Ways.{way, way_between}
use Rattle.layout_positions.specs.declared.ways.Measured.{Measured}
use Rattle.layout_positions.proofs.WayLemmas.{measured_freed, measured_carried, measured_hung}
use Prim.Native.Nat.{zero}
use Rattle.layout_positions.specs.Forest.{IsForest, ends_within}

-- ---- a position that is put

pub put-other : (i k : ℕ) (p : GlyphPosition) (b : Buffer) → (k ≡ i → ⊥) → position_at (position_put i p b) k ≡ position_at b k
put-other i k p b apart = by_place (nat_lt i (length b.items))
  where
    by_place : (t : Bool) → position_at (if t then record b { positions = slice_set b.positions i p } else b) k ≡ position_at b k
    by_place true = get_or-set_other b.positions i k p zero_position apart
    by_place false = refl

pub put-here : (i : ℕ) (p : GlyphPosition) (b : Buffer) → i < length b.items → i < length b.positions → position_at (position_put i p b) i ≡ p
put-here i p b item position =
    let inside : nat_lt i (length b.items) ≡ true = grind (arith, nat_tests, item) in
    rw inside (get_or-set_same b.positions i p zero_position position)

-- what putting a position leaves of a buffer
pub record IsPut (b c : Buffer) : Type 0 where
  pub count : length c.items ≡ length b.items
  pub places : length c.positions ≡ length b.positions
  pub direction : c.direction ≡ b.direction

pub put-is : (i : ℕ) (p : GlyphPosition) (b : Buffer) → IsPut b (position_put i p b)
put-is i p b = by_place (nat_lt i (length b.items))
  where
    by_place : (t : Bool) → IsPut b (if t then record b { positions = slice_set b.positions i p } else b)
    by_place true = record { count = refl; places = length-set b.positions i p; direction = refl }
    by_place false = record { count = refl; places = refl; direction = refl }

pub put-then : (a b c : Buffer) → IsPut a b → IsPut b c → IsPut a c
put-then a b c first later = record {
  count = later.count ∙ first.count;
  places = later.places ∙ first.places;
  direction = later.direction ∙ first.direction;
}

-- ---- ways stay, since advances do

abbrev pub SameWays : Buffer → Buffer → Type 0
SameWays b c = (from to : ℕ) → way c from to ≡ way b from to

abbrev as_measured : Buffer → ℕ → ℕ → Measured
as_measured b from to = record { from = from; to = to; pen = way b from to }

pub ways-freed : (i : ℕ) (b : Buffer) → SameWays b (freed i b)
ways-freed i b from to = sym (measured_freed i b (freed i b) (as_measured b from to) refl (record { pen = refl })).pen

pub ways-followed : (i j : ℕ) (b : Buffer) → SameWays b (followed i j b)
ways-followed i j b from to =
    let p = position_at b i in
    let q = position_at b j in
    let w = way_between b i j in
    elim (nat_eq p.attach_type CURSIVE_ATTACHED) as (λ t.
    way (position_put i (if t then carried (is_horizontal b.direction) q p else hung (is_forward b.direction) w q p) b) from to ≡ way b from to) [
      | true ↦ sym (measured_carried i (is_horizontal b.direction) q p (carried (is_horizontal b.direction) q p) b
          (position_put i (carried (is_horizontal b.direction) q p) b) (as_measured b from to) refl refl refl (record { pen = refl })).pen
      | false ↦ sym (measured_hung i (is_forward b.direction) w q p (hung (is_forward b.direction) w q p) b
          (position_put i (hung (is_forward b.direction) w q p) b) (as_measured b from to) refl refl refl (record { pen = refl })).pen
    ]

pub between-same : (b c : Buffer) (i j : ℕ) → c.direction ≡ b.direction → SameWays b c → way_between c i j ≡ way_between b i j
between-same b c i j direction ways =
    ap (λ (d : Direction). if is_forward d then way c j i else way c (j + 1) (i + 1)) direction ∙ by_side (is_forward b.direction)
  where
    by_side : (t : Bool) → (if t then way c j i else way c (j + 1) (i + 1)) ≡ (if t then way b j i else way b (j + 1) (i + 1))
    by_side true = ways j i
    by_side false = ways (j + 1) (i + 1)

-- ---- which glyph a glyph follows

-- a glyph that follows another one has a position
pub parent-has_place : (b : Buffer) (i j : ℕ) → parent_of b i ≡ Some j → i < length b.positions
parent-has_place b i j is = elim (cases_lt i (length b.positions)) [
  | inl less ↦ less
  | inr past ↦
      let none : parent_of b i ≡ None =
      ap (λ (p : GlyphPosition). place_at (length b.items) i p.attach_chain) (get_or_past b.positions i zero_position past) in
      absurd (let bad : ◌≡◌ {A = Option ℕ} None (Some j) = sym none ∙ is in cc)
]

-- the one that it follows is in the list
pub place-inside : (count i : ℕ) (chain : ℤ) (j : ℕ) → i < count → place_at count i chain ≡ Some j → j < count
place-inside count i chain j inside = by_sign (int_lt chain (pos 0))
  where
    n : ℕ
    n = unsigned_abs chain

    back : (t : Bool) → (if t then Some (i - n) else None) ≡ Some j → j < count
    back true is = let same : i - n ≡ j = ap (λ (o : Option ℕ). option_map_or (λ k. k) o 0) is in omega (arith, same, inside)
    back false is = absurd (let bad : ◌≡◌ {A = Option ℕ} None (Some j) = is in cc)

    on : (t : Bool) → nat_le count (i + n) ≡ t → (if nat_eq n 0 || t then None else Some (i + n)) ≡ Some j → j < count
    on true past is = past_on (nat_eq n 0) is
      where
        past_on : (u : Bool) → (if u || true then None else Some (i + n)) ≡ Some j → j < count
        past_on true e = absurd (let bad : ◌≡◌ {A = Option ℕ} None (Some j) = e in cc)
        past_on false e = absurd (let bad : ◌≡◌ {A = Option ℕ} None (Some j) = e in cc)
    on false within is = within_on (nat_eq n 0) is
      where
        within_on : (u : Bool) → (if u || false then None else Some (i + n)) ≡ Some j → j < count
        within_on true e = absurd (let bad : ◌≡◌ {A = Option ℕ} None (Some j) = e in cc)
        within_on false e =
            let same : i + n ≡ j = ap (λ (o : Option ℕ). option_map_or (λ k. k) o 0) e in
            let less : i + n < count = grind (arith, nat_tests, within) in
            omega (arith, same, less)

    by_sign : (t : Bool) → (if t then (if nat_le n i then Some (i - n) else None)
        else (if nat_eq n 0 || nat_le count (i + n) then None else Some (i + n))) ≡ Some j → j < count
    by_sign true is = back (nat_le n i) is
    by_sign false is = on (nat_le count (i + n)) refl is

-- ---- what makes a forest

ends-low : (b : Buffer) (height : ℕ → ℕ) → ((i j : ℕ) → parent_of b i ≡ Some j → height j < height i) → (first n i : ℕ) → height i ≤ n
    → ends_within b first n i ≡ true
ends-low b height falls first zero i low = by_order (nat_lt i first)
  where
    by_parent : (o : Option ℕ) → parent_of b i ≡ o → not (is_some o) ≡ true
    by_parent None is = refl
    by_parent (Some j) is = let less = falls i j is in absurd (omega (arith, less, low))

    by_order : (t : Bool) → (t || not (is_some (parent_of b i))) ≡ true
    by_order true = refl
    by_order false = by_parent (parent_of b i) refl
ends-low b height falls first (suc n) i low = by_order (λ j less. ends-low b height falls first n j less) (nat_lt i first)
  where
    by_parent : ((j : ℕ) → height j ≤ n → ends_within b first n j ≡ true) → (o : Option ℕ) → parent_of b i ≡ o
        → option_map_or (ends_within b first n) o true ≡ true
    by_parent deeper None is = refl
    by_parent deeper (Some j) is = let less = falls i j is in deeper j (omega (arith, less, low))

    by_order : ((j : ℕ) → height j ≤ n → ends_within b first n j ≡ true) → (t : Bool)
        → (t || option_map_or (ends_within b first n) (parent_of b i) true) ≡ true
    by_order deeper true = refl
    by_order deeper false = by_parent deeper (parent_of b i) refl

-- chains of at most 64 links
pub low-forest : (b : Buffer) (height : ℕ → ℕ) → ((i j : ℕ) → parent_of b i ≡ Some j → height j < height i)
    → ((i : ℕ) → height i ≤ MOST_LINKS) → IsForest b
low-forest b height falls low =
    record { height = height; falls = falls; short = λ i. ends-low b height falls i MOST_LINKS i (low i) }

-- each glyph follows one before it
pub backward-forest : (b : Buffer) → ((i j : ℕ) → parent_of b i ≡ Some j → j < i) → IsForest b
backward-forest b back = record {
  height = λ i. i;
  falls = back;
  short = λ i. by_order i (nat_lt i i);
}
  where
    before : (i j : ℕ) (later : Bool) → j < i → (nat_lt j i || later) ≡ true
    before i j later less = let yes : nat_lt j i ≡ true = grind (arith, nat_tests, less) in ap (λ t. t || later) yes

    by_parent : (i : ℕ) (o : Option ℕ) → parent_of b i ≡ o → option_map_or (ends_within b i 63) o true ≡ true
    by_parent i None is = refl
    by_parent i (Some j) is = before i j _ (back i j is)

    by_order : (i : ℕ) (t : Bool) → (t || option_map_or (ends_within b i 63) (parent_of b i) true) ≡ true
    by_order i true = refl
    by_order i false = by_parent i (parent_of b i) refl
