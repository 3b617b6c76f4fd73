-- A text of syllables that the face has, with nothing after one that is part of it, stays as it is.
use Rattle.std.proofs.Common.{◌≡◌, ℕ, suc, zero, ◌+◌, ◌-◌, ◌≤◌, ◌<◌, ◌&&◌, ◌||◌, ◌⊎◌, Bool, true, false, not, Option, Some, None, List, [], ◌∷◌, ◌++◌}
use Rattle.std.proofs.Common.{drop, length, min, get_or, nat_lt, slice_get, refl, sym, ap, ap₂, ◌∙◌, arith, inl, inr, if◌then◌else◌}
use Rattle.std.proofs.lemmas.Bool.Decides.{nat_tests}
use Rattle.std.proofs.lemmas.List.{drop_more, length-drop}
use Rattle.shape_items.specs.Buffer.{Buffer, limit_of}
use Rattle.shape_items.specs.BufferClusters.{merge_out_clusters, unsafe_to_break}
use Rattle.shape_items.specs.Items.{Item}
use Rattle.shape_items.proofs.Merging.ClusterLemmas.{merge_short, merge_out-cases}
use Rattle.shape_buffer.specs.Outcome.{Ran, step}
use Rattle.shape_common.specs.Face.{FaceMeaning}
use Rattle.shape_common.specs.Unicode.{UnicodeMeaning}
use Rattle.shape_common.specs.declared.text_types.BufferClusterLevel.{BufferClusterLevel}
use Rattle.shape_common.specs.declared.text_types.BufferClusterLevel.TheVariants.{MonotoneGraphemes, MonotoneCharacters, Characters}
use Rattle.script_shapers.specs.declared.hangul.syllables.Syllable.{Syllable}
use Rattle.script_shapers.specs.declared.hangul.syllables.Syllable.TheVariants as is
use Rattle.script_shapers.specs.Hangul.{is_leading, is_trailing, is_tone, is_syllable, has, trailing_of, parts_of, by_parts, syllable_at}
use Rattle.script_shapers.specs.Hangul.{char_of_item, char_in, if_tone, tone_after, taken_of, without_trailing, open_trailing, marks_of, at_graphemes}
use Rattle.script_shapers.specs.Hangul.{merged_syllable, joined_syllable, with_tone, joined_at, joined_next, joined_to, taken_at, glyphs_of, block_at}
use Rattle.script_shapers.specs.Hangul.{block_taken, built, wants_circle, with_items, composed_text, is_part, is_alone, are_alone}

-- ---- tests

both : (s t : Bool) → (s && t) ≡ true → (s ≡ true) × (t ≡ true)
both true t e = (refl, e)
both false t e = cc

is-false : (t : Bool) → not t ≡ true → t ≡ false
is-false true e = cc
is-false false e = refl

neither : (s t : Bool) → (s || t) ≡ false → (s ≡ false) × (t ≡ false)
neither true t e = cc
neither false t e = (refl, e)

syllable-begins : (c : ℕ) → is_syllable c ≡ true → (is_leading c ≡ false) × (is_tone c ≡ false)
syllable-begins c is = (grind (arith, nat_tests, is), grind (arith, nat_tests, is))

no-trailing : (next : Option ℕ) → is_part next ≡ false → trailing_of next ≡ None
no-trailing None none = refl
no-trailing (Some c) none = let t = (neither (is_trailing c) (is_tone c) none).0 in rw t refl

-- ---- one place

abbrev IsStill : Syllable → Type 0
IsStill s = (s ≡ is.Nothing) ⊎ (s ≡ is.Whole)

whole-parts : (unicode : UnicodeMeaning) (face : FaceMeaning) (c : ℕ) (next : Option ℕ) → has face c ≡ true → trailing_of next ≡ None
    → (p : Option (ℕ × ℕ × Option ℕ)) → IsStill (by_parts unicode face c next p)
whole-parts unicode face c next there none None = inl refl
whole-parts unicode face c next there none (Some (l, v, None)) = inr (rw (none, there) refl)
whole-parts unicode face c next there none (Some (l, v, Some t)) = inr (rw there refl)

without-part : (p : Option (ℕ × ℕ × Option ℕ)) (next : Option ℕ) → trailing_of next ≡ None → without_trailing p next ≡ None
without-part None next none = refl
without-part (Some (l, v, None)) next none = none
without-part (Some (l, v, Some t)) next none = refl

-- what is known of the first item of a list
record Stays (unicode : UnicodeMeaning) (face : FaceMeaning) (x : Item) (xs : List Item) : Type 0 where
  still : IsStill (syllable_at unicode face (x ∷ xs))
  unfollowed : open_trailing unicode (x ∷ xs) ≡ None
  tone : tone_after (syllable_at unicode face (x ∷ xs)) (x ∷ xs) ≡ None
  begins : is_tone x.codepoint ≡ false

no-tone : (found : Option Item) → is_part (char_of_item found) ≡ false → if_tone found ≡ None
no-tone None none = refl
no-tone (Some y) none = let t = (neither (is_trailing y.codepoint) (is_tone y.codepoint) none).1 in rw t refl

still-tone : (s : Syllable) (items : List Item) → IsStill s → is_part (char_in items 1) ≡ false → tone_after s items ≡ None
still-tone s items (inl nothing) none = rw nothing refl
still-tone s items (inr whole) none = rw whole (no-tone (slice_get items 1) none)

alone-stays : (unicode : UnicodeMeaning) (face : FaceMeaning) (x : Item) (xs : List Item)
    → is_alone face x.codepoint (char_in (x ∷ xs) 1) ≡ true → Stays unicode face x xs
alone-stays unicode face x xs alone = by_kind (is_syllable x.codepoint) refl
  where
    by_kind : (t : Bool) → is_syllable x.codepoint ≡ t → Stays unicode face x xs
    by_kind true e =
        let c = x.codepoint in
        let next = char_in (x ∷ xs) 1 in
        let tests : (has face c && not (is_part next)) ≡ true =
        ap (λ t. if t then has face c && not (is_part next) else not (is_leading c) && not (is_tone c)) (sym e) ∙ alone in
        let there = (both (has face c) (not (is_part next)) tests).0 in
        let part = is-false (is_part next) (both (has face c) (not (is_part next)) tests).1 in
        let none = no-trailing next part in
        let begins = syllable-begins c e in
        let still : IsStill (syllable_at unicode face (x ∷ xs)) = rw begins.0 (whole-parts unicode face c next there none (parts_of unicode c)) in
        record {
          still = still;
          unfollowed = without-part (parts_of unicode c) next none;
          tone = still-tone (syllable_at unicode face (x ∷ xs)) (x ∷ xs) still part;
          begins = begins.1;
        }
    by_kind false e =
        let c = x.codepoint in
        let next = char_in (x ∷ xs) 1 in
        let tests : (not (is_leading c) && not (is_tone c)) ≡ true =
        ap (λ t. if t then has face c && not (is_part next) else not (is_leading c) && not (is_tone c)) (sym e) ∙ alone in
        let leading = is-false (is_leading c) (both (not (is_leading c)) (not (is_tone c)) tests).0 in
        let nothing : syllable_at unicode face (x ∷ xs) ≡ is.Nothing = rw (leading, e) refl in
        record {
          still = inl nothing;
          unfollowed = rw e refl;
          tone = ap (λ s. tone_after s (x ∷ xs)) nothing;
          begins = is-false (is_tone c) (both (not (is_leading c)) (not (is_tone c)) tests).1;
        }

-- ---- marked and merged in place

merge-none : (i end : ℕ) (b : Buffer) → end ≤ i + 1 → merge_out_clusters i end b ≡ b
merge-none i end b short =
    let one : nat_lt (i + 1) end ≡ false = grind (arith, nat_tests, short) in
    merge_out-cases (λ c. c ≡ b) i end b (ap (λ xs. record b { items = xs }) (merge_short i end b.items one)) refl

graphemes-none : (level : BufferClusterLevel) (i end : ℕ) (b : Buffer) → end ≤ i + 1 → at_graphemes level (merge_out_clusters i end) b ≡ b
graphemes-none MonotoneGraphemes i end b short = merge-none i end b short
graphemes-none MonotoneCharacters i end b short = refl
graphemes-none Characters i end b short = refl

still-merged : (s : Syllable) (i end : ℕ) (b : Buffer) → IsStill s → end ≤ i + 1 → merged_syllable s i end b ≡ b
still-merged s i end b (inl nothing) short = rw nothing (graphemes-none b.cluster_level i end b short)
still-merged s i end b (inr whole) short = rw whole (graphemes-none b.cluster_level i end b short)

still-taken : (s : Syllable) → IsStill s → taken_of s ≡ 1
still-taken s (inl nothing) = rw nothing refl
still-taken s (inr whole) = rw whole refl

still-marks : (unicode : UnicodeMeaning) (s : Syllable) (items : List Item) → IsStill s → open_trailing unicode items ≡ None
    → marks_of unicode s items ≡ 0
still-marks unicode s items (inl nothing) none = rw (nothing, none) refl
still-marks unicode s items (inr whole) none = rw (whole, none) refl

break-none : (i n : ℕ) (b : Buffer) → unsafe_to_break i (i + min 0 n) b ≡ b
break-none i n b =
    let short : nat_lt (i + 1) (i + min 0 n) ≡ false = grind (arith, nat_tests) in
    rw short refl

stays-joined : (unicode : UnicodeMeaning) (face : FaceMeaning) (i : ℕ) (b : Buffer) (x : Item) (xs : List Item) → drop i b.items ≡ x ∷ xs
    → Stays unicode face x xs → joined_at unicode face i b ≡ b
stays-joined unicode face i b x xs rest stays =
    let s = syllable_at unicode face (x ∷ xs) in
    let n = length (x ∷ xs) in
    let end : ℕ = i + min (taken_of s) n in
    let short : end ≤ i + 1 = omega (arith, still-taken s stays.still) in
    let marks : marks_of unicode s (x ∷ xs) ≡ 0 = still-marks unicode s (x ∷ xs) stays.still stays.unfollowed in
    ap (λ (l : List Item). with_tone face i (i + min (taken_of (syllable_at unicode face l)) (length l)) (tone_after (syllable_at unicode face l) l)
    (joined_syllable (syllable_at unicode face l) i (i + min (marks_of unicode (syllable_at unicode face l) l) (length l))
    (i + min (taken_of (syllable_at unicode face l)) (length l)) b)) rest
    ∙ ap (λ t. with_tone face i end t (joined_syllable s i (i + min (marks_of unicode s (x ∷ xs)) n) end b)) stays.tone
    ∙ ap (λ m. merged_syllable s i end (unsafe_to_break i (i + min m n) b)) marks
    ∙ ap (merged_syllable s i end) (break-none i n b)
    ∙ still-merged s i end b stays.still short

stays-taken : (unicode : UnicodeMeaning) (face : FaceMeaning) (x : Item) (xs : List Item) → Stays unicode face x xs
    → taken_at unicode face (x ∷ xs) ≡ 1
stays-taken unicode face x xs stays =
    let one = still-taken (syllable_at unicode face (x ∷ xs)) stays.still in
    rw one (omega arith)

alone-drop : (face : FaceMeaning) (n : ℕ) (xs : List Item) → are_alone face xs ≡ true → are_alone face (drop n xs) ≡ true
alone-drop face zero xs alone = alone
alone-drop face (suc n) [] alone = refl
alone-drop face (suc n) (x ∷ xs) alone =
    alone-drop face n xs (both (is_alone face x.codepoint (char_in (x ∷ xs) 1)) (are_alone face xs) alone).1

first-alone : (face : FaceMeaning) (x : Item) (xs : List Item) → are_alone face (x ∷ xs) ≡ true
    → is_alone face x.codepoint (char_in (x ∷ xs) 1) ≡ true
first-alone face x xs alone = (both (is_alone face x.codepoint (char_in (x ∷ xs) 1)) (are_alone face xs) alone).0

step-alone : (unicode : UnicodeMeaning) (face : FaceMeaning) (i : ℕ) (b : Buffer) (ys : List Item) → drop i b.items ≡ ys → 0 < length ys
    → are_alone face ys ≡ true → joined_next unicode face i (b, 0) ≡ (b, 0)
step-alone unicode face i b [] rest some alone = absurd (omega (arith, some))
step-alone unicode face i b (x ∷ xs) rest some alone =
    let stays = alone-stays unicode face x xs (first-alone face x xs alone) in
    let taken : taken_at unicode face (drop i b.items) - 1 ≡ 0 =
    ap (λ l. taken_at unicode face l - 1) rest ∙ ap (λ n. n - 1) (stays-taken unicode face x xs stays) in
    ap₂ (λ (c : Buffer) (n : ℕ). (c, n)) (stays-joined unicode face i b x xs rest stays) taken

alone-joined : (unicode : UnicodeMeaning) (face : FaceMeaning) (n : ℕ) (b : Buffer) → n ≤ length b.items → are_alone face b.items ≡ true
    → joined_to unicode face n b ≡ (b, 0)
alone-joined unicode face zero b within alone = refl
alone-joined unicode face (suc n) b within alone =
    let some : 0 < length (drop n b.items) = omega (arith, length-drop n b.items, within) in
    ap (joined_next unicode face n) (alone-joined unicode face n b (omega (arith, within)) alone)
    ∙ step-alone unicode face n b (drop n b.items) refl some (alone-drop face n b.items alone)

-- ---- the new list

still-glyphs : (s : Syllable) (x : Item) (items : List Item) → IsStill s → glyphs_of s x items ≡ x ∷ []
still-glyphs s x items (inl nothing) = rw nothing refl
still-glyphs s x items (inr whole) = rw whole refl

stays-block : (unicode : UnicodeMeaning) (face : FaceMeaning) (level : BufferClusterLevel) (circle : Bool) (x : Item) (xs : List Item)
    → Stays unicode face x xs → block_at unicode face level circle x (x ∷ xs) ≡ x ∷ []
stays-block unicode face level circle x xs stays =
    rw (stays.begins, stays.tone) (still-glyphs (syllable_at unicode face (x ∷ xs)) x (x ∷ xs) stays.still)

stays-skip : (unicode : UnicodeMeaning) (face : FaceMeaning) (x : Item) (xs : List Item) → Stays unicode face x xs
    → block_taken unicode face x (x ∷ xs) - 1 ≡ 0
stays-skip unicode face x xs stays = rw (stays.begins, stays.tone) (ap (λ n. n - 1) (stays-taken unicode face x xs stays))

alone-built : (unicode : UnicodeMeaning) (face : FaceMeaning) (level : BufferClusterLevel) (circle : Bool) (items : List Item)
    → are_alone face items ≡ true → built unicode face level circle 0 items ≡ items
alone-built unicode face level circle [] alone = refl
alone-built unicode face level circle (x ∷ xs) alone =
    let stays = alone-stays unicode face x xs (first-alone face x xs alone) in
    let rest = (both (is_alone face x.codepoint (char_in (x ∷ xs) 1)) (are_alone face xs) alone).1 in
    ap₂ (λ l r. l ++ r) (stays-block unicode face level circle x xs stays)
    (ap (λ n. built unicode face level circle n xs) (stays-skip unicode face x xs stays) ∙ alone-built unicode face level circle xs rest)

-- the whole text
pub alone_composed : (unicode : UnicodeMeaning) (face : FaceMeaning) (b : Buffer) → are_alone face b.items ≡ true
    → composed_text unicode face b ≡ with_items b.items b
alone_composed unicode face b alone =
    let joined : (joined_to unicode face (length b.items) b).0 ≡ b =
    ap (λ (p : Buffer × ℕ). p.0) (alone-joined unicode face (length b.items) b (omega arith) alone) in
    ap (λ (c : Buffer). with_items (built unicode face c.cluster_level (wants_circle face c.flags) 0 c.items) c) joined
    ∙ ap (λ xs. with_items xs b) (alone-built unicode face b.cluster_level (wants_circle face b.flags) b.items alone)

-- so nothing but its positions is cleared
pub alone_outcome : (unicode : UnicodeMeaning) (face : FaceMeaning) (b c : Buffer) → are_alone face b.items ≡ true
    → length b.items ≤ limit_of b → c ≡ with_items b.items b → Ran (step (composed_text unicode face) ∷ []) b c
alone_outcome unicode face b c alone within made =
    let whole = alone_composed unicode face b alone in
    let count : length c.items ≡ length b.items = ap (λ (d : Buffer). length d.items) made in
    let same : limit_of c ≡ limit_of b = ap limit_of made in
    let counted : length (composed_text unicode face b).items ≤ limit_of b = omega (arith, ap (λ (d : Buffer). length d.items) whole, within) in
    record {
      made = made ∙ sym whole;
      each_within = (counted, tt);
      within = omega (arith, count, same, within);
      same_limit = same;
    }

-- ---- the loop of the test

pub alone_next : (face : FaceMeaning) (i : ℕ) (xs : List Item) (x : Item) → i < length xs → x ≡ get_or xs i x
    → is_alone face x.codepoint (char_in (drop i xs) 1) ≡ true → are_alone face (drop i xs) ≡ are_alone face (drop (i + 1) xs)
alone_next face i xs x inside is first =
    let here : drop i xs ≡ x ∷ drop (i + 1) xs = drop_more xs i x inside ∙ ap (λ y. y ∷ drop (i + 1) xs) (sym is) in
    let test : is_alone face x.codepoint (char_in (x ∷ drop (i + 1) xs) 1) ≡ true =
    ap (λ l. is_alone face x.codepoint (char_in l 1)) (sym here) ∙ first in
    ap (are_alone face) here ∙ ap (λ t. t && are_alone face (drop (i + 1) xs)) test

pub alone_first : (face : FaceMeaning) (i : ℕ) (xs : List Item) (x : Item) → i < length xs → x ≡ get_or xs i x
    → is_alone face x.codepoint (char_in (drop i xs) 1) ≡ false → are_alone face (drop i xs) ≡ false
alone_first face i xs x inside is first =
    let here : drop i xs ≡ x ∷ drop (i + 1) xs = drop_more xs i x inside ∙ ap (λ y. y ∷ drop (i + 1) xs) (sym is) in
    let test : is_alone face x.codepoint (char_in (x ∷ drop (i + 1) xs) 1) ≡ false =
    ap (λ l. is_alone face x.codepoint (char_in l 1)) (sym here) ∙ first in
    ap (are_alone face) here ∙ ap (λ t. t && are_alone face (drop (i + 1) xs)) test
