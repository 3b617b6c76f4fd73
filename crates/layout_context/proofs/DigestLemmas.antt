-- a lookup whose digest holds no glyph of the list may be passed over, and a place whose glyph it doesn't hold
use Prim.Native.Nat.{zero}
use Rattle.std.proofs.Common.{◌≡◌, ℕ, suc, ◌+◌, ◌-◌, ◌<◌, ◌≤◌, ◌&&◌, Bool, true, false, List, [], ◌∷◌, length, nat_eq, nat_lt, not, refl, sym, ap, ◌∙◌, subst, arith, if◌then◌else◌}
use Rattle.std.proofs.lemmas.Bool.Decides.{nat_tests}
use Rattle.shape_items.specs.Buffer.{Buffer}
use Rattle.shape_items.specs.Items.{Item}
use Rattle.layout_matching.specs.Loops.{times}
use Rattle.layout_matching.specs.Skipping.{nth, shares, is_skipped, is_on}
use Rattle.layout_matching.specs.Work.{walk_work}
use Rattle.layout_matching.specs.declared.lookup.Lookup.{Lookup}
use Rattle.layout_digests.specs.Digests.{has, IsWithin}
use Rattle.layout_digests.specs.declared.digest.Digest.{Digest}
use Rattle.layout_digests.specs.declared.digested.Digested.{Digested}
use Rattle.layout_substitution.specs.Edits.{item_at, is_inside, is_past}
use Rattle.layout_substitution.specs.declared.apply.Spot.{Spot}
use Rattle.layout_context.specs.Covered.{IsUncovered, CoversNone}
use Rattle.layout_context.specs.Digested.{IsOut, IsDigested, IsApart, HoldsFirst, HoldsGlyphs, meets, MeetsNone}
use Rattle.layout_context.specs.Nested.{nested_applied}
use Rattle.layout_context.specs.Reverse.{Backwards, is_reverse, reversed, reverse_step}
use Rattle.layout_context.specs.Stages.{Walk, passed, tried, lookup_step, first_walk, walked, gone_back, gone_over, walk_charged, looked_up, all_looked_up, stage_ended}
use Rattle.layout_matching.proofs.LoopLemmas.{times_after, times_still}
use Rattle.layout_context.proofs.CoveredLemmas.{tried-uncovered-at, reversed-uncovered}
use Rattle.layout_context.proofs.StageLemmas.{past_still}

same-if : {X : Type 0} (t : Bool) (x y z : X) → x ≡ z → y ≡ z → (if t then x else y) ≡ z
same-if true x y z a b = a
same-if false x y z a b = b

-- ---- at a place

held_not : (a b c : Bool) → (a && b && c) ≡ false → (a && c) ≡ true → b ≡ false
held_not true true true e f = e
held_not true true false e f = sym f
held_not true false c e f = refl
held_not false true c e f = sym f
held_not false false c e f = refl

on_too : (a b c : Bool) → (a && b && c) ≡ true → (a && c) ≡ true
on_too true true c e = e
on_too true false true e = refl
on_too true false false e = e
on_too false b c e = e

pub met_on : (d : Digested) (item : Item) → meets d item ≡ true → is_on d.lookup item ≡ true
met_on d item e = on_too (shares item.mask d.lookup.mask) (has d.digest item.glyph_id) (not (is_skipped d.lookup item)) e

-- at an item that it doesn't meet the lookup does nothing
step-inside : (levels : ℕ) (l : Lookup) (s : Walk) → l.positioning ≡ false → IsUncovered l (item_at s.buffer s.spot.at).glyph_id
    → (if is_on l (item_at s.buffer s.spot.at) then tried (nested_applied levels l) l s else passed s) ≡ passed s
step-inside levels l s gsub out =
    same-if (is_on l (item_at s.buffer s.spot.at)) (tried (nested_applied levels l) l s) (passed s) (passed s)
    (tried-uncovered-at levels l s gsub out) refl

unmet-inside : (levels : ℕ) (d : Digested) (s : Walk) → IsDigested d → meets d (item_at s.buffer s.spot.at) ≡ false
    → (if is_on d.lookup (item_at s.buffer s.spot.at) then tried (nested_applied levels d.lookup) d.lookup s else passed s) ≡ passed s
unmet-inside levels d s said unmet = by_on (is_on d.lookup item) refl
  where
    item : Item
    item = item_at s.buffer s.spot.at

    by_on : (t : Bool) → is_on d.lookup item ≡ t
        → (if t then tried (nested_applied levels d.lookup) d.lookup s else passed s) ≡ passed s
    by_on false e = refl
    by_on true e =
        let out : IsOut d.lookup item.glyph_id = said.out item.glyph_id
        (held_not (shares item.mask d.lookup.mask) (has d.digest item.glyph_id) (not (is_skipped d.lookup item)) unmet e) in
        tried-uncovered-at levels d.lookup s out.substitutes out.uncovered

step-here : (levels : ℕ) (l : Lookup) (s : Walk) → is_past s.buffer ≡ false → is_inside s.spot.at s.buffer ≡ true
    → lookup_step (nested_applied levels l) l s
    ≡ (if is_on l (item_at s.buffer s.spot.at) then tried (nested_applied levels l) l s else passed s)
step-here levels l s within inside =
    ap (λ t. if t then s else (if is_inside s.spot.at s.buffer then
    (if is_on l (item_at s.buffer s.spot.at) then tried (nested_applied levels l) l s else passed s) else s)) within
    ∙ ap (λ t. if t then (if is_on l (item_at s.buffer s.spot.at) then tried (nested_applied levels l) l s else passed s)
    else s) inside

step_unmet : (levels : ℕ) (d : Digested) (s : Walk) → IsDigested d → meets d (item_at s.buffer s.spot.at) ≡ false
    → is_past s.buffer ≡ false → is_inside s.spot.at s.buffer ≡ true → lookup_step (nested_applied levels d.lookup) d.lookup s ≡ passed s
step_unmet levels d s said unmet within inside =
    step-here levels d.lookup s within inside ∙ unmet-inside levels d s said unmet

-- at one that it is on for it is tried
pub step_on : (levels : ℕ) (l : Lookup) (s : Walk) → is_on l (item_at s.buffer s.spot.at) ≡ true
    → is_past s.buffer ≡ false → is_inside s.spot.at s.buffer ≡ true
    → lookup_step (nested_applied levels l) l s ≡ tried (nested_applied levels l) l s
step_on levels l s on within inside =
    step-here levels l s within inside
    ∙ ap (λ t. if t then tried (nested_applied levels l) l s else passed s) on

-- past the limit and past the end no step does anything
pub steps_over : (levels : ℕ) (l : Lookup) (s : Walk) (n : ℕ) → is_past s.buffer ≡ true
    → s ≡ times (lookup_step (nested_applied levels l) l) n s
steps_over levels l s n past = sym (times_still (lookup_step (nested_applied levels l) l) n s (past_still (nested_applied levels l) l s past))

pub steps_outside : (levels : ℕ) (l : Lookup) (s : Walk) (n : ℕ) → is_inside s.spot.at s.buffer ≡ false
    → s ≡ times (lookup_step (nested_applied levels l) l) n s
steps_outside levels l s n outside = sym (times_still (lookup_step (nested_applied levels l) l) n s
    (ap (λ t. if is_past s.buffer then s else
    (if t then (if is_on l (item_at s.buffer s.spot.at) then tried (nested_applied levels l) l s else passed s) else s)) outside
    ∙ same-if (is_past s.buffer) s s s refl refl))

-- ---- the next items, which the lookup doesn't meet

pub one_unmet : (d : Digested) (items : List Item) (i : ℕ) → MeetsNone d items i → meets d (nth items i) ≡ false
    → MeetsNone d items (i + 1)
one_unmet d items i before new j below = by_last (nat_eq j i) refl
  where
    by_last : (t : Bool) → nat_eq j i ≡ t → meets d (nth items j) ≡ false
    by_last true is = let same : i ≡ j = grind (arith, nat_tests, is) in subst (λ k. meets d (nth items k) ≡ false) same new
    by_last false is = before j (grind (arith, nat_tests, is, below))

abbrev pub standing : Buffer → Spot → ℕ → Walk
standing b spot at = record { buffer = b; spot = record spot { at = at } }

pub steps_passed : (d : Digested) (b : Buffer) (spot : Spot) (n levels : ℕ) → IsDigested d → is_past b ≡ false
    → spot.at + n ≤ length b.items → ((j : ℕ) → j < n → meets d (nth b.items (spot.at + j)) ≡ false)
    → standing b spot (spot.at + n) ≡ times (lookup_step (nested_applied levels d.lookup) d.lookup) n (standing b spot spot.at)
steps_passed d b spot zero levels said within inside free = ap (standing b spot) (omega arith)
steps_passed d b spot (suc n) levels said within inside free =
    let here = standing b spot (spot.at + n) in
    let before = steps_passed d b spot n levels said within (omega (arith, inside)) (λ j below. free j (omega (arith, below))) in
    let at : is_inside (spot.at + n) b ≡ true = grind (arith, nat_tests, inside) in
    let same : spot.at + suc n ≡ spot.at + n + 1 = omega arith in
    ap (standing b spot) same
    ∙ sym (step_unmet levels d here said (free n (omega arith)) within at)
    ∙ ap (lookup_step (nested_applied levels d.lookup) d.lookup) before

pub gone_further : {S : Type 0} (f : S → S) (n i : ℕ) (first here there : S) → here ≡ times f i first → there ≡ times f n here
    → there ≡ times f (i + n) first
gone_further f n i first here there before now =
    let e : i + n ≡ n + i = omega arith in
    now ∙ ap (times f n) before ∙ sym (times_after f n i first) ∙ sym (ap (λ m. times f m first) e)

-- ---- the glyphs of a list

pub one_held : (items : List Item) (d e : Digest) (i : ℕ) → HoldsFirst d items i → IsWithin d e → has e (nth items i).glyph_id ≡ true
    → HoldsFirst e items (i + 1)
one_held items d e i before kept new j below = by_last (nat_eq j i) refl
  where
    by_last : (t : Bool) → nat_eq j i ≡ t → has e (nth items j).glyph_id ≡ true
    by_last true is = let same : i ≡ j = grind (arith, nat_tests, is) in subst (λ k. has e (nth items k).glyph_id ≡ true) same new
    by_last false is = kept (nth items j).glyph_id (before j (grind (arith, nat_tests, is, below)))

pub within_then : (d e f : Digest) → IsWithin d e → IsWithin e f → IsWithin d f
within_then d e f first second glyph is = second glyph (first glyph is)

-- a piece more of a list
pub piece_held : (items piece : List Item) (d e : Digest) (at : ℕ) → HoldsFirst d items at → IsWithin d e → HoldsGlyphs e piece
    → ((j : ℕ) → j < length piece → nth piece j ≡ nth items (at + j)) → HoldsFirst e items (at + length piece)
piece_held items piece d e at before kept held same j below = by_side (nat_lt j at) refl
  where
    by_side : (t : Bool) → nat_lt j at ≡ t → has e (nth items j).glyph_id ≡ true
    by_side true is = kept (nth items j).glyph_id (before j (grind (arith, nat_tests, is)))
    by_side false is =
        let inside : j - at < length piece = grind (arith, nat_tests, is, below) in
        let here : at + (j - at) ≡ j = grind (arith, nat_tests, is) in
        subst (λ (x : Item). has e x.glyph_id ≡ true) (same (j - at) inside ∙ ap (nth items) here) (held (j - at) inside)

-- ---- what later lookups see of a walk: the buffer, the random state, and what is left

abbrev settled : Walk → Walk
settled s = record { buffer = s.buffer; spot = record s.spot { at = 0; whole = 0 } }

over-settled : (levels : ℕ) (l : Lookup) (s : Walk) → settled (gone_over levels l s) ≡ settled (gone_over levels l (settled s))
over-settled levels l s = by_way (is_reverse l)
  where
    by_way : (t : Bool) → settled (if t then gone_back s (reversed l s.spot.left s.buffer) else walked (nested_applied levels l) l s)
        ≡ settled (if t then gone_back (settled s) (reversed l s.spot.left s.buffer) else walked (nested_applied levels l) l (settled s))
    by_way true = refl
    by_way false = refl

looked-settled : (levels : ℕ) (l : Lookup) (s : Walk) → settled (looked_up levels l s) ≡ settled (looked_up levels l (settled s))
looked-settled levels l s = by_charge (nat_lt s.spot.left (walk_work l (length s.buffer.items)))
  where
    by_charge : (t : Bool) → settled (if t then walk_charged l s else gone_over levels l (walk_charged l s))
        ≡ settled (if t then walk_charged l (settled s) else gone_over levels l (walk_charged l (settled s)))
    by_charge true = refl
    by_charge false = over-settled levels l (walk_charged l s) ∙ sym (over-settled levels l (walk_charged l (settled s)))

all-settled : (levels : ℕ) (ls : List Lookup) (s t : Walk) → settled s ≡ settled t
    → stage_ended (all_looked_up levels ls s) ≡ stage_ended (all_looked_up levels ls t)
all-settled levels [] s t same = ap stage_ended same
all-settled levels (l ∷ ls) s t same =
    all-settled levels ls (looked_up levels l s) (looked_up levels l t)
    (looked-settled levels l s ∙ ap (λ (w : Walk). settled (looked_up levels l w)) same ∙ sym (looked-settled levels l t))

-- ---- a lookup that covers no glyph

settled-if : (t : Bool) (x y s : Walk) → settled x ≡ settled s → settled y ≡ settled s → settled (if t then x else y) ≡ settled s
settled-if true x y s a b = a
settled-if false x y s a b = b

step-still : (levels : ℕ) (l : Lookup) (s : Walk) → l.positioning ≡ false → CoversNone l s.buffer.items
    → settled (lookup_step (nested_applied levels l) l s) ≡ settled s
step-still levels l s gsub none =
    settled-if (is_past s.buffer) s _ s refl (inside (is_inside s.spot.at s.buffer) refl)
  where
    inside : (t : Bool) → is_inside s.spot.at s.buffer ≡ t
        → settled (if t then (if is_on l (item_at s.buffer s.spot.at) then tried (nested_applied levels l) l s else passed s) else s)
        ≡ settled s
    inside false e = refl
    inside true e = ap settled (step-inside levels l s gsub (none s.spot.at (grind (arith, nat_tests, e))))

walk-still : (levels : ℕ) (l : Lookup) (s : Walk) → l.positioning ≡ false → CoversNone l s.buffer.items
    → (n : ℕ) → settled (times (lookup_step (nested_applied levels l) l) n s) ≡ settled s
walk-still levels l s gsub none zero = refl
walk-still levels l s gsub none (suc n) =
    let here = times (lookup_step (nested_applied levels l) l) n s in
    let same : settled here ≡ settled s = walk-still levels l s gsub none n in
    let buffer : here.buffer ≡ s.buffer = ap (λ (w : Walk). w.buffer) same in
    step-still levels l here gsub (subst (λ (b : Buffer). CoversNone l b.items) (sym buffer) none) ∙ same

over-still : (levels : ℕ) (l : Lookup) (s : Walk) → l.positioning ≡ false → CoversNone l s.buffer.items
    → settled (gone_over levels l s) ≡ settled s
over-still levels l s gsub none = by_way (is_reverse l) refl
  where
    by_way : (t : Bool) → is_reverse l ≡ t
        → settled (if t then gone_back s (reversed l s.spot.left s.buffer) else walked (nested_applied levels l) l s) ≡ settled s
    by_way true e = ap (λ (w : Backwards). settled (gone_back s w)) (reversed-uncovered l s.spot.left s.buffer gsub none)
    by_way false e = walk-still levels l (first_walk s) gsub none (length s.buffer.items)

-- ---- the loop over the lookups

none-covered : (d : Digested) (run : Digest) (items : List Item) → IsDigested d → HoldsGlyphs run items
    → IsApart run d → CoversNone d.lookup items
none-covered d run items said held apart at inside = (said.out (nth items at).glyph_id (apart (nth items at).glyph_id (held at inside))).uncovered

-- in an empty list nothing is done, whatever the lookup is
empty-still : (levels : ℕ) (l : Lookup) (s : Walk) → length s.buffer.items ≡ 0 → settled (gone_over levels l s) ≡ settled s
empty-still levels l s none = by_way (is_reverse l)
  where
    by_way : (t : Bool) → settled (if t then gone_back s (reversed l s.spot.left s.buffer) else walked (nested_applied levels l) l s)
        ≡ settled s
    by_way true =
        let first : Backwards = record { buffer = s.buffer; at = length s.buffer.items; left = s.spot.left } in
        ap (λ n. settled (gone_back s (times (reverse_step l) n first))) none
    by_way false = ap (λ n. settled (times (lookup_step (nested_applied levels l) l) n (first_walk s))) none

digest-over : (levels : ℕ) (d : Digested) (here : Walk) (run : Digest) → IsDigested d → HoldsGlyphs run here.buffer.items
    → IsApart run d → settled (gone_over levels d.lookup here) ≡ settled here
digest-over levels d here run said held apart = by_length (nat_eq (length here.buffer.items) 0) refl
  where
    by_length : (t : Bool) → nat_eq (length here.buffer.items) 0 ≡ t → settled (gone_over levels d.lookup here) ≡ settled here
    by_length true e = empty-still levels d.lookup here (grind (arith, nat_tests, e))
    by_length false e =
        let some : 0 < length here.buffer.items = grind (arith, nat_tests, e) in
        let glyph = (nth here.buffer.items 0).glyph_id in
        over-still levels d.lookup here (said.out glyph (apart glyph (held 0 some))).substitutes
        (none-covered d run here.buffer.items said held apart)

-- a walk that can be paid is made
pub looked_paid : (levels : ℕ) (l : Lookup) (s : Walk) (work : ℕ) → work ≡ walk_work l (length s.buffer.items) → work ≤ s.spot.left
    → looked_up levels l s ≡ gone_over levels l (record { buffer = s.buffer; spot = record s.spot { left = s.spot.left - work } })
looked_paid levels l s work is paid =
    let enough : nat_lt s.spot.left (walk_work l (length s.buffer.items)) ≡ false = grind (arith, nat_tests, is, paid) in
    ap (λ t. if t then walk_charged l s else gone_over levels l (walk_charged l s)) enough
    ∙ ap (λ n. gone_over levels l (record { buffer = s.buffer; spot = record s.spot { left = s.spot.left - n } })) (sym is)

-- one that can't be is charged for
pub looked_unpaid : (levels : ℕ) (l : Lookup) (s : Walk) (work : ℕ) → work ≡ walk_work l (length s.buffer.items) → s.spot.left < work
    → looked_up levels l s ≡ record { buffer = s.buffer; spot = record s.spot { left = s.spot.left - work } }
looked_unpaid levels l s work is unpaid =
    let short : nat_lt s.spot.left (walk_work l (length s.buffer.items)) ≡ true = grind (arith, nat_tests, is, unpaid) in
    ap (λ t. if t then walk_charged l s else gone_over levels l (walk_charged l s)) short
    ∙ ap (λ n. record { buffer = s.buffer; spot = record s.spot { left = s.spot.left - n } }) (sym is)

-- its walk is charged for all the same; one that can't be paid changes nothing, whatever glyphs there are
digest-still : (levels : ℕ) (d : Digested) (here : Walk) (run : Digest) → IsDigested d → HoldsGlyphs run here.buffer.items
    → (walk_work d.lookup (length here.buffer.items) ≤ here.spot.left → IsApart run d)
    → settled (looked_up levels d.lookup here) ≡ settled (walk_charged d.lookup here)
digest-still levels d here run said held apart = by_charge (nat_lt here.spot.left (walk_work d.lookup (length here.buffer.items))) refl
  where
    t : Walk
    t = walk_charged d.lookup here

    by_charge : (u : Bool) → nat_lt here.spot.left (walk_work d.lookup (length here.buffer.items)) ≡ u
        → settled (if u then t else gone_over levels d.lookup t) ≡ settled t
    by_charge true e = refl
    by_charge false e = digest-over levels d t run said held (apart (grind (arith, nat_tests, e)))

-- before other lookups such a one is as good as charged for
pub skipped_over : (levels : ℕ) (d : Digested) (ls : List Lookup) (b : Buffer) (spot : Spot) (run : Digest) → IsDigested d
    → HoldsGlyphs run b.items → (walk_work d.lookup (length b.items) ≤ spot.left → IsApart run d)
    → stage_ended (all_looked_up levels (d.lookup ∷ ls) (record { buffer = b; spot = spot }))
    ≡ stage_ended (all_looked_up levels ls (walk_charged d.lookup (record { buffer = b; spot = spot })))
skipped_over levels d ls b spot run said held apart =
    let here : Walk = record { buffer = b; spot = spot } in
    all-settled levels ls (looked_up levels d.lookup here) (walk_charged d.lookup here) (digest-still levels d here run said held apart)

-- one lookup, which goes forwards and meets no item
over-unmet : (levels : ℕ) (d : Digested) (s : Walk) → IsDigested d → is_reverse d.lookup ≡ false
    → MeetsNone d s.buffer.items (length s.buffer.items) → settled (gone_over levels d.lookup s) ≡ settled s
over-unmet levels d s said forwards none =
    ap (λ t. settled (if t then gone_back s (reversed d.lookup s.spot.left s.buffer) else walked (nested_applied levels d.lookup) d.lookup s))
    forwards ∙ by_past (is_past s.buffer) refl
  where
    count : ℕ
    count = length s.buffer.items

    free : (j : ℕ) → j < count → meets d (nth s.buffer.items (0 + j)) ≡ false
    free j below = let same : j ≡ 0 + j = omega arith in subst (λ k. meets d (nth s.buffer.items k) ≡ false) same (none j below)

    by_past : (t : Bool) → is_past s.buffer ≡ t
        → settled (times (lookup_step (nested_applied levels d.lookup) d.lookup) count (first_walk s)) ≡ settled s
    by_past true e = ap settled (sym (steps_over levels d.lookup (first_walk s) count e))
    by_past false e = ap settled (sym (steps_passed d s.buffer (first_walk s).spot count levels said e (omega arith) free))

looked-unmet : (levels : ℕ) (d : Digested) (s : Walk) → IsDigested d → is_reverse d.lookup ≡ false
    → MeetsNone d s.buffer.items (length s.buffer.items) → settled (looked_up levels d.lookup s) ≡ settled (walk_charged d.lookup s)
looked-unmet levels d s said forwards none = by_charge (nat_lt s.spot.left (walk_work d.lookup (length s.buffer.items)))
  where
    by_charge : (u : Bool) → settled (if u then walk_charged d.lookup s else gone_over levels d.lookup (walk_charged d.lookup s))
        ≡ settled (walk_charged d.lookup s)
    by_charge true = refl
    by_charge false = over-unmet levels d (walk_charged d.lookup s) said forwards none

pub unmet_over : (levels : ℕ) (d : Digested) (ls : List Lookup) (b : Buffer) (spot : Spot) → IsDigested d → is_reverse d.lookup ≡ false
    → MeetsNone d b.items (length b.items) → stage_ended (all_looked_up levels (d.lookup ∷ ls) (record { buffer = b; spot = spot }))
    ≡ stage_ended (all_looked_up levels ls (walk_charged d.lookup (record { buffer = b; spot = spot })))
unmet_over levels d ls b spot said forwards none =
    let here : Walk = record { buffer = b; spot = spot } in
    all-settled levels ls (looked_up levels d.lookup here) (walk_charged d.lookup here) (looked-unmet levels d here said forwards none)
