-- What unhiding CGJ keeps, and a walk over the items between the first and the last that unhides them.
use Rattle.std.proofs.Common.{◌≡◌, ℕ, zero, suc, ◌+◌, ◌<◌, ◌≤◌, ◌==◌, ◌&&◌, bit_and, if◌then◌else◌, true, false, List, [], ◌∷◌, ◌++◌, map, take, drop, length, get_or, set, refl, ap, ap₂, arith, add-one}
use Rattle.shape_items.specs.Items.{Item, ccc_of_item, char_of}
use Rattle.shape_items.specs.Buffer.{Buffer}
use Rattle.shape_normalize.specs.RoundTwo.{keeps_nothing_apart, unhidden, one_cgj_unhidden, cgj_unhidden_after, cgj_unhidden, cgj_unhidden_where_seen}

-- ---- what unhiding keeps

module _ {B : Type 0} (key : Item → B) (same : (item : Item) → key (unhidden item) ≡ key item) where
  key-one_cgj_unhidden : (before item after : Item) → key (one_cgj_unhidden before item after) ≡ key item
  key-one_cgj_unhidden before item after =
      elim (item.codepoint == 0x34F && keeps_nothing_apart before after) as
      (λ t. key (if t then unhidden item else item) ≡ key item) [ true ↦ same item | false ↦ refl ]

  keys-cgj_unhidden_after : (before : Item) (items : List Item) → map key (cgj_unhidden_after before items) ≡ map key items
  keys-cgj_unhidden_after before [] = refl
  keys-cgj_unhidden_after before (item ∷ []) = refl
  keys-cgj_unhidden_after before (item ∷ after ∷ rest) =
      ap₂ ◌∷◌ (key-one_cgj_unhidden before item after) (keys-cgj_unhidden_after item (after ∷ rest))

  keys-cgj_unhidden : (items : List Item) → map key (cgj_unhidden items) ≡ map key items
  keys-cgj_unhidden [] = refl
  keys-cgj_unhidden (first ∷ rest) = ap (λ l. key first ∷ l) (keys-cgj_unhidden_after first rest)

  -- what doesn't depend on the hidden bit stays
  pub keys-cgj_unhidden_where_seen : (b : Buffer) → map key (cgj_unhidden_where_seen b).items ≡ map key b.items
  keys-cgj_unhidden_where_seen b =
      elim (bit_and b.scratch_flags.0 8 == 8) as (λ t. map key (if t then record b { items = cgj_unhidden b.items } else b).items
      ≡ map key b.items) [ true ↦ keys-cgj_unhidden b.items | false ↦ refl ]

pub chars-cgj_unhidden_where_seen : (b : Buffer) → map char_of (cgj_unhidden_where_seen b).items ≡ map char_of b.items
chars-cgj_unhidden_where_seen b = keys-cgj_unhidden_where_seen char_of (λ item. refl) b

-- ---- the walk

-- of the item before only its ccc counts
unhidden_after_ccc : (before before' : Item) (items : List Item) → ccc_of_item before ≡ ccc_of_item before'
    → cgj_unhidden_after before items ≡ cgj_unhidden_after before' items
unhidden_after_ccc before before' [] same = refl
unhidden_after_ccc before before' (item ∷ []) same = refl
unhidden_after_ccc before before' (item ∷ after ∷ rest) same = rw same refl

unhidden_step : (k : ℕ) (items : List Item) (a b c : Item) → suc (suc k) < length items → a ≡ get_or items k a → b ≡ get_or items (suc k) b
    → c ≡ get_or items (suc (suc k)) c
    → take (suc k) (set items (suc k) (one_cgj_unhidden a b c)) ++ cgj_unhidden (drop (suc k) (set items (suc k) (one_cgj_unhidden a b c)))
    ≡ take k items ++ cgj_unhidden (drop k items)
unhidden_step k [] a b c within at_a at_b at_c = absurd (omega arith)
unhidden_step k (x ∷ []) a b c within at_a at_b at_c = absurd (omega arith)
unhidden_step k (x ∷ y ∷ []) a b c within at_a at_b at_c = absurd (omega arith)
unhidden_step zero (x ∷ y ∷ z ∷ rest) a b c within at_a at_b at_c =
    rw (at_a, at_b, at_c) (ap (λ zs. x ∷ one_cgj_unhidden x y z ∷ zs)
    (unhidden_after_ccc (one_cgj_unhidden x y z) y (z ∷ rest) (key-one_cgj_unhidden ccc_of_item (λ item. refl) x y z)))
unhidden_step (suc k) (x ∷ y ∷ z ∷ rest) a b c within at_a at_b at_c =
    ap (λ zs. x ∷ zs) (unhidden_step k (y ∷ z ∷ rest) a b c (omega arith) at_a at_b at_c)

-- a walk unhides the item after place k, whose neighbours are a and c, if it is to be unhidden
pub unhidden_more : (k : ℕ) (items : List Item) (a b c : Item) → k + 2 < length items → a ≡ get_or items k a → b ≡ get_or items (k + 1) b
    → c ≡ get_or items (k + 2) c
    → take (k + 1) (set items (k + 1) (one_cgj_unhidden a b c)) ++ cgj_unhidden (drop (k + 1) (set items (k + 1) (one_cgj_unhidden a b c)))
    ≡ take k items ++ cgj_unhidden (drop k items)
unhidden_more k items a b c within at_a at_b at_c =
    let two : k + 2 ≡ suc (suc k) = omega arith in
    rw (add-one k) (unhidden_step k items a b c (omega arith) at_a (rw (add-one k) at at_b) (rw two at at_c))

-- neither of the last two items changes
pub unhidden_all : (k : ℕ) (items : List Item) → length items ≤ k + 2 → take k items ++ cgj_unhidden (drop k items) ≡ items
unhidden_all zero [] over = refl
unhidden_all zero (x ∷ []) over = refl
unhidden_all zero (x ∷ y ∷ []) over = refl
unhidden_all zero (x ∷ y ∷ z ∷ rest) over = absurd (omega arith)
unhidden_all (suc k) [] over = refl
unhidden_all (suc k) (x ∷ rest) over = ap (λ zs. x ∷ zs) (unhidden_all k rest (omega arith))
