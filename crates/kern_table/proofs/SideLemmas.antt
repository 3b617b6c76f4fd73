-- two glyphs of which one stands in no pair have no value
use Prim.Native.Nat.{zero}
use Rattle.std.proofs.Common.{◌≡◌, ℕ, suc, ℤ, ◌<◌, ◌≤◌, ◌+◌, ◌-◌, ◌*◌, ◌/◌, Bool, true, false, ◌||◌, if◌then◌else◌, List, length, None, nat_lt, slice_index_or, refl, sym, ap, subst, ◌∙◌, arith}
use Rattle.std.specs.Prelude.{pos}
use Rattle.std.specs.Option.{option_map_or}
use Rattle.std.proofs.lemmas.Bool.Decides.{nat_tests}
use Rattle.std.specs.declared.cmp.Ordering.{Ordering}
use Rattle.std.specs.declared.cmp.Ordering.TheVariants.{Less, Equal, Greater}
use Rattle.shape_font.specs.Bytes.{u16_of, u32_of, i16_of, fitting}
use Rattle.shape_font.specs.Search.{side_of, found_in}
use Rattle.shape_font.proofs.MidpointLemmas.{found_in-none, found_in-less, found_in-greater}
use Rattle.kern_table.specs.declared.pairs.Subtable.{Subtable}
use Rattle.kern_table.specs.Headers.{format_of, body_of}
use Rattle.kern_table.specs.Pairs.{side_of_pair, pair_of, value_of, HoldSides, IsRead}
use Rattle.kern_table.specs.Sides.{glyph_of_pair, AreMarked}

-- a search finds nothing where no place is equal
none_found : (side : ℕ → Ordering) (count n start end : ℕ) → ((i : ℕ) → i < count → side i ≡ Equal → ⊥) → end ≤ count
    → found_in side n start end ≡ None
none_found side count zero start end none within = refl
none_found side count (suc n) start end none within =
    let middle = start + (end - start - 1) / 2 in
    let P : Bool → Type 0 = λ t. nat_lt start end ≡ t → found_in side (suc n) start end ≡ None in
    let cases : P (nat_lt start end) = elim (nat_lt start end) as P [
      | true ↦ λ t.
          let some : start < end = grind (arith, nat_tests, t) in
          let Q : Ordering → Type 0 = λ o. side middle ≡ o → found_in side (suc n) start end ≡ None in
          let sides : Q (side middle) = elim (side middle) as Q [
            | Less ↦ λ s. found_in-less side n start end middle some refl s
                ∙ none_found side count n start middle none (omega (arith, within, some))
            | Equal ↦ λ s. absurd (none middle (omega (arith, within, some)) s)
            | Greater ↦ λ s. found_in-greater side n start end middle some refl s ∙ none_found side count n (middle + 1) end none within
          ] in
          sides refl
      | false ↦ λ t.
          let past : end ≤ start = grind (arith, nat_tests, t) in
          found_in-none side (suc n) start end past
    ] in
    cases refl

-- a number stands at no side of itself alone
side_equal : (n a : ℕ) → side_of n a a ≡ Equal → n ≡ a
side_equal n a =
    let P : Bool → Type 0 = λ t. nat_lt n a ≡ t → (if t then Less else (if nat_lt a n then Greater else Equal)) ≡ Equal → n ≡ a in
    let below : P (nat_lt n a) = elim (nat_lt n a) as P [
      | true ↦ λ t e. absurd (let no : Less ≡ Equal = e in cc)
      | false ↦ λ t.
          let Q : Bool → Type 0 = λ u. nat_lt a n ≡ u → (if u then Greater else Equal) ≡ Equal → n ≡ a in
          let above : Q (nat_lt a n) = elim (nat_lt a n) as Q [
            | true ↦ λ u e. absurd (let no : Greater ≡ Equal = e in cc)
            | false ↦ λ u e. grind (arith, nat_tests, t, u)
          ] in
          above refl
    ] in
    below refl

none_past : (a b : Bool) (x : ℤ) → (b ≡ false → x ≡ pos 0) → (if a || b then pos 0 else x) ≡ pos 0
none_past true b x inside = refl
none_past false true x inside = refl
none_past false false x inside = inside refl

-- two glyphs that no pair lists have no value in a subtable of format 0
unlisted : (t : List ℕ) (start count left right : ℕ) → format_of t start ≡ 0
    → count ≡ fitting t (u16_of t (body_of t start)) (body_of t start + 8) 6
    → ((i : ℕ) → i < count → right < 65536 → u32_of t (body_of t start + 8 + 6 * i) ≡ left * 65536 + right → ⊥)
    → value_of t start left right ≡ pos 0
unfolding value_of
unlisted t start count left right listed counted none =
    let value : ℕ → ℤ = λ i. i16_of t (body_of t start + 12 + 6 * i) in
    let sought = option_map_or value (pair_of t start (left * 65536 + right)) (pos 0) in
    rw listed (none_past (nat_lt 0xFFFF left) (nat_lt 0xFFFF right) sought (λ low.
    let small : right < 65536 = grind (arith, nat_tests, low) in
    let missed : pair_of t start (left * 65536 + right) ≡ None =
    subst (λ n. found_in (side_of_pair t start (left * 65536 + right)) n 0 n ≡ None) counted
    (none_found (side_of_pair t start (left * 65536 + right)) count count 0 count
    (λ i within equal. none i within small (sym (side_equal (left * 65536 + right) (u32_of t (body_of t start + 8 + 6 * i)) equal))) (omega arith)) in
    ap (λ o. option_map_or value o (pos 0)) missed))

left_unmarked : (t : List ℕ) (start count left right : ℕ) (lefts : List Bool) → format_of t start ≡ 0
    → count ≡ fitting t (u16_of t (body_of t start)) (body_of t start + 8) 6 → AreMarked t start true count lefts
    → left < length lefts → slice_index_or lefts left false ≡ false → value_of t start left right ≡ pos 0
left_unmarked t start count left right lefts listed counted marked inside unmarked =
    unlisted t start count left right listed counted (λ i within small here.
    let same : glyph_of_pair t start true i ≡ left = omega (arith, here, small) in
    let set : slice_index_or lefts (glyph_of_pair t start true i) false ≡ true = marked i within (rw same inside) in
    let no : true ≡ false = sym set ∙ ap (λ g. slice_index_or lefts g false) same ∙ unmarked in
    absurd cc)

right_unmarked : (t : List ℕ) (start count left right : ℕ) (rights : List Bool) → format_of t start ≡ 0
    → count ≡ fitting t (u16_of t (body_of t start)) (body_of t start + 8) 6 → AreMarked t start false count rights
    → right < length rights → slice_index_or rights right false ≡ false → value_of t start left right ≡ pos 0
right_unmarked t start count left right rights listed counted marked inside unmarked =
    unlisted t start count left right listed counted (λ i within small here.
    let same : glyph_of_pair t start false i ≡ right = omega (arith, here, small) in
    let set : slice_index_or rights (glyph_of_pair t start false i) false ≡ true = marked i within (rw same inside) in
    let no : true ≡ false = sym set ∙ ap (λ g. slice_index_or rights g false) same ∙ unmarked in
    absurd cc)

counted : (s : Subtable) → IsRead s → s.count ≡ fitting s.kern.now (u16_of s.kern.now (body_of s.kern.now s.start)) (body_of s.kern.now s.start + 8) 6
counted s read = subst (λ body. s.count ≡ fitting s.kern.now (u16_of s.kern.now body) (body + 8) 6) read.body read.count

-- what is stored of a subtable of format 0 holds
pub HoldSides-marked : (s : Subtable) (lefts rights : List Bool) → IsRead s → s.format ≡ 0
    → AreMarked s.kern.now s.start true s.count lefts → AreMarked s.kern.now s.start false s.count rights
    → HoldSides s.kern.now s.start lefts rights
HoldSides-marked s lefts rights read listed at_left at_right = record {
  left = λ left right. left_unmarked s.kern.now s.start s.count left right lefts (sym read.format ∙ listed) (counted s read) at_left;
  right = λ left right. right_unmarked s.kern.now s.start s.count left right rights (sym read.format ∙ listed) (counted s read) at_right;
}
