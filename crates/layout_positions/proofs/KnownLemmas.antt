-- subtables that are known not to list a glyph
use Rattle.std.proofs.Common.{◌≡◌, ℕ, ◌+◌, ◌<◌, ◌/◌, ◌%◌, ◌^◌, ◌&&◌, ◌||◌, Bool, true, false, Option, Some, None, nat_eq, nat_lt, refl, ap, subst, ◌∙◌, arith, bit_and, bit_or}
use Rattle.std.proofs.lemmas.Bool.Decides.{nat_tests}
use Rattle.std.proofs.lemmas.Nat.Bits.{shr_and_one, bit_at_or, bit_at-zero, bit_at-pow_other}
use Rattle.std.specs.Int.{bit_at}
use Rattle.std.specs.Option.{option_map_or}
use Rattle.shape_items.specs.Buffer.{Buffer}
use Rattle.layout_tables.specs.Lookups.{subtable_of}
use Rattle.layout_tables.specs.declared.lookups.LookupSubtable.{LookupSubtable}
use Rattle.layout_matching.specs.Skipping.{nth}
use Rattle.layout_matching.specs.declared.lookup.Lookup.{Lookup}
use Rattle.layout_positions.specs.Known.{IsVain, IsOut, AreOut}
use Rattle.layout_positions.specs.Subtables.{Trial, subtable_tried, trial_of, unplaced, trial_step}
use Rattle.layout_positions.specs.declared.bases.BaseSeen.{BaseSeen}
use Rattle.layout_positions.proofs.GlyphLemmas.{key_by_keys}
use Rattle.layout_positions.proofs.KeyLemmas.{keys-trial}
use Rattle.layout_positions.proofs.SubtableLemmas.{listed, unlisted_unplaced}

-- ---- words

pub bit_tested : (word k : ℕ) → k < 64 → nat_eq (bit_and (word / 2 ^ (k % 64)) 1) 1 ≡ nat_eq (bit_at word k) 1
bit_tested word k below =
    let same : k % 64 ≡ k = omega (arith, below) in
    ap (λ x. nat_eq x 1) (shr_and_one word (k % 64) ∙ ap (bit_at word) same)

-- nothing is known by an empty word
pub none_out : (l : Lookup) (glyph : ℕ) → AreOut l glyph 0
none_out l glyph k below is =
    let zero = bit_at-zero k in
    absurd (omega (arith, zero, is))

-- one subtable more
pub one_out : (l : Lookup) (glyph word k : ℕ) → AreOut l glyph word → IsOut l glyph k → AreOut l glyph (bit_or word (2 ^ k))
one_out l glyph word k before new n below is = by_same (nat_eq n k) refl
  where
    by_same : (t : Bool) → nat_eq n k ≡ t → IsOut l glyph n
    by_same true e =
        let same : k ≡ n = grind (arith, nat_tests, e) in
        subst (IsOut l glyph) same new
    by_same false e =
        let none = bit_at-pow_other k n (λ same. absurd (grind (arith, nat_tests, e, same))) in
        let both = bit_at_or word (2 ^ k) n in
        before n below (omega (arith, none, both, is))

-- a subtable that has just been searched
pub vain_of : (l : Lookup) (subtable : LookupSubtable) (i k : ℕ) (b : Buffer)
    → (nat_eq subtable.kind 4 || nat_eq subtable.kind 5 || nat_eq subtable.kind 6) ≡ true
    → subtable_of l.table.now 9 l.place k ≡ Some subtable → listed l subtable i b ≡ None → IsOut l (nth b.items i).glyph_id k
vain_of l subtable i k b kind this none other is = record {
  kind = subst (λ (s : LookupSubtable). (nat_eq s.kind 4 || nat_eq s.kind 5 || nat_eq s.kind 6) ≡ true) (same-subtable this is) kind;
  unlisted = subst (λ (s : LookupSubtable). listed l s i b ≡ None) (same-subtable this is) none;
}
  where
    same-subtable : {o : Option LookupSubtable} {x y : LookupSubtable} → o ≡ Some x → o ≡ Some y → x ≡ y
    same-subtable p q = cc

-- ---- trials

by-subtable : (l : Lookup) (i k : ℕ) (b : Buffer) (seen : BaseSeen) (left : ℕ) → IsOut l (nth b.items i).glyph_id k
    → (o : Option LookupSubtable) → subtable_of l.table.now 9 l.place k ≡ o
    → record { buffer = b; next = None; seen = seen; left = left; subtable = k + 1 }
    ≡ option_map_or (subtable_tried l i (record { buffer = b; next = None; seen = seen; left = left; subtable = k })) o
    (trial_of (record { buffer = b; next = None; seen = seen; left = left; subtable = k }) (unplaced left seen b))
by-subtable l i k b seen left out None e = refl
by-subtable l i k b seen left out (Some subtable) e =
    let vain : IsVain l (nth b.items i).glyph_id subtable = out subtable e in
    ap (trial_of (record { buffer = b; next = None; seen = seen; left = left; subtable = k }))
    (unlisted_unplaced l subtable i b seen left None vain.kind vain.unlisted refl)

-- a subtable that doesn't list the glyph changes nothing
pub out_tried : (l : Lookup) (i k : ℕ) (b : Buffer) (next : Option ℕ) (seen : BaseSeen) (left : ℕ) → IsOut l (nth b.items i).glyph_id k
    → record { buffer = b; next = next; seen = seen; left = left; subtable = k + 1 }
    ≡ trial_step l i (record { buffer = b; next = next; seen = seen; left = left; subtable = k })
out_tried l i k b (Some n) seen left out = refl
out_tried l i k b None seen left out = by-subtable l i k b seen left out (subtable_of l.table.now 9 l.place k) refl

left-of : (s t : Bool) → (s && t) ≡ true → s ≡ true
left-of true t e = refl
left-of false t e = cc

right-of : (s t : Bool) → (s && t) ≡ true → t ≡ true
right-of true t e = e
right-of false t e = cc

-- nor does one whose bit is set
pub known_tried : (l : Lookup) (i k : ℕ) (b : Buffer) (next : Option ℕ) (seen : BaseSeen) (left word : ℕ)
    → AreOut l (nth b.items i).glyph_id word → (nat_lt k 64 && nat_eq (bit_at word k) 1) ≡ true
    → record { buffer = b; next = next; seen = seen; left = left; subtable = k + 1 }
    ≡ trial_step l i (record { buffer = b; next = next; seen = seen; left = left; subtable = k })
known_tried l i k b next seen left word out set =
    let below = left-of (nat_lt k 64) (nat_eq (bit_at word k) 1) set in
    let one = right-of (nat_lt k 64) (nat_eq (bit_at word k) 1) set in
    out_tried l i k b next seen left (out k (grind (arith, nat_tests, below)) (grind (arith, nat_tests, one)))

-- a trial keeps the glyph
pub glyph_tried : (l : Lookup) (i : ℕ) (s : Trial) → (nth (trial_step l i s).buffer.items i).glyph_id ≡ (nth s.buffer.items i).glyph_id
glyph_tried l i s =
    key_by_keys (λ x. x.glyph_id) (trial_step l i s).buffer.items s.buffer.items i (keys-trial (λ x. x.glyph_id) (λ x m. refl) l i s)
