-- Taking out the last item of each of many spans: what the walk keeps, and that it leaves the items at the places of
-- what is emitted.
use Rattle.std.proofs.Common.{◌≡◌, ℕ, zero, suc, ◌+◌, ◌-◌, ◌<◌, ◌≤◌, ◌==◌, true, false, List, [], ◌∷◌, ◌++◌, length, map, get_or, take, drop, set}
use Rattle.std.proofs.Common.{replicate, Some, None, refl, sym, ap, ap₂, subst, ◌∙◌, arith, add-one, append_assoc, append-nil, drop-cons, drop-drop}
use Rattle.std.proofs.Common.{drop-set-lt, eq-eqb, ne_eqb}
use Rattle.std.specs.List.{slice_get}
use Rattle.std.proofs.lemmas.Bool.{cond-true, cond-false}
use Rattle.std.proofs.lemmas.List.{map-append, length-set, drop_all, drop_more, get_or_default, take_more_set}
use Rattle.shape_items.specs.Buffer.{Buffer}
use Rattle.shape_items.specs.Items.{Item}
use Rattle.shape_common.specs.Positions.{zero_position}
use Rattle.canonical_form.specs.Recompose.{is_blocked}
use Rattle.canonical_form.proofs.Recomposing.RecomposeLemmas.{by_steps}
use Rattle.shape_plan.specs.Rules.{Rules}
use Rattle.shape_normalize.specs.RoundThree.{Placed, placed, ccc_of_placed, is_mark_placed, compose_placed, recomposed_items, spans_between, chained_spans, ends_at, without_ends, ends_taken_out, Absorbed}
use Rattle.shape_normalize.proofs.RoundThree.RoundThreePlaceLemmas.{AreAbsorbedInOrder, AreFrom, AreFrom-placed, in_order-higher, in_order-push, absorbed_is}
use Rattle.shape_normalize.proofs.RoundThree.ChainedSpanLemmas.{AreUnabsorbed, AreFrom-fit, chained-unabsorbed}
use Rattle.shape_normalize.proofs.RoundThree.RoundThreeWalkLemmas.{after, item_at, made_with, spans_of, last_absorbed, spans_between-push}
use Rattle.canonical_form.proofs.Lists.EveryLemmas.{push_all}

-- ---- one step

taken-here : (place : ℕ) (spans : List (ℕ × ℕ)) (x : Item) (items : List Item) → ends_at (suc place) spans ≡ true
    → without_ends place spans (x ∷ items) ≡ without_ends (suc place) (drop 1 spans) items
taken-here place spans x items ends = cond-true _ _ _ ends

kept-here : (place : ℕ) (spans : List (ℕ × ℕ)) (x : Item) (items : List Item) → ends_at (suc place) spans ≡ false
    → without_ends place spans (x ∷ items) ≡ x ∷ without_ends (suc place) spans items
kept-here place spans x items goes_on = cond-false _ _ _ goes_on

-- ---- the walk of the code

-- if there is no span all stay
without-none : (place : ℕ) (items : List Item) → without_ends place [] items ≡ items
without-none place [] = refl
without-none place (x ∷ items) = ap (λ l. x ∷ l) (without-none (suc place) items)

pub nothing_taken_out : (spans : List (ℕ × ℕ)) (b : Buffer) → None ≡ slice_get spans 0
    → record b { positions = replicate (length b.items) zero_position } ≡ ends_taken_out spans b
nothing_taken_out [] b none =
    ap (λ (items : List Item). record b { items = items; positions = replicate (length items) zero_position }) (sym (without-none 0 b.items))
nothing_taken_out (span ∷ spans) b none = absurd (cc)

-- the items before the first that goes stay
without-before : (k place : ℕ) (span : ℕ × ℕ) (spans : List (ℕ × ℕ)) (items : List Item) → place + k ≤ span.1 - 1
    → without_ends place (span ∷ spans) items ≡ take k items ++ without_ends (place + k) (span ∷ spans) (drop k items)
without-before zero place span spans items le =
    let same : place ≡ place + zero = omega arith in
    ap (λ n. without_ends n (span ∷ spans) items) same
without-before (suc k) place span spans [] le = refl
without-before (suc k) place span spans (x ∷ items) le =
    let next : suc place + k ≡ place + suc k = omega arith in
    kept-here place (span ∷ spans) x items (ne_eqb span.1 (suc place) (λ e. absurd (omega (arith, le, e))))
    ∙ ap (λ l. x ∷ l) (without-before k (suc place) span spans items (omega (arith, le)))
    ∙ ap (λ n. x ∷ take k items ++ without_ends n (span ∷ spans) (drop k items)) next

-- the items before `place` were walked over, and those that stay of them are the first `kept`
pub record AreKept (spans : List (ℕ × ℕ)) (old : List Item) (place : ℕ) (now : List Item) (kept taken : ℕ) : Type 0 where
  pub behind : kept ≤ place
  pub size : length now ≡ length old
  pub whole : without_ends 0 spans old ≡ take kept now ++ without_ends place (drop taken spans) (drop place now)

pub AreKept-first : (spans : List (ℕ × ℕ)) (old : List Item) (span : ℕ × ℕ) (first : ℕ) → Some span ≡ slice_get spans 0 → first ≡ span.1 - 1
    → AreKept spans old first old first 0
AreKept-first [] old span first is first_is = cc
AreKept-first (one ∷ spans) old span first is first_is =
    let same : span ≡ one = cc in
    let sum : 0 + first ≡ first = omega arith in
    record {
      behind = omega arith;
      size = refl;
      whole =
          without-before first 0 one spans old (omega (arith, first_is ∙ ap (λ (s : ℕ × ℕ). s.1 - 1) same))
          ∙ ap (λ n. take first old ++ without_ends n (one ∷ spans) (drop first old)) sum;
    }

-- the item at a place
item_there : (xs : List Item) (k : ℕ) → k < length xs → (x : Item) × (x ≡ get_or xs k x)
item_there [] k lt = absurd (omega (arith, lt))
item_there (x ∷ xs) zero lt = (x, refl)
item_there (x ∷ xs) (suc k) lt = item_there xs k (omega (arith, lt))

module _ (spans : List (ℕ × ℕ)) (old : List Item) (place : ℕ) (now : List Item) (kept taken : ℕ) (lt : place < length now)
    (h : AreKept spans old place now kept taken) where
  here : (x : Item) → x ≡ get_or now place x → drop place now ≡ x ∷ drop (place + 1) now
  here x is = drop_more now place x lt ∙ ap (λ y. y ∷ drop (place + 1) now) (sym is)

  pub AreKept-taken : ends_at (place + 1) (drop taken spans) ≡ true → AreKept spans old (place + 1) now kept (taken + 1)
  AreKept-taken ends =
      let one = item_there now place lt in
      record {
        behind = omega (arith, h.behind);
        size = h.size;
        whole =
            h.whole ∙ ap (λ l. take kept now ++ l)
            (ap (without_ends place (drop taken spans)) (here one.0 one.1)
            ∙ taken-here place (drop taken spans) one.0 (drop (place + 1) now)
            (subst (λ n. ends_at n (drop taken spans) ≡ true) (add-one place) ends)
            ∙ ap₂ (λ n ss. without_ends n ss (drop (place + 1) now)) (sym (add-one place)) (drop-drop 1 taken spans));
      }

  pub AreKept-put : (x : Item) → x ≡ get_or now place x → ends_at (place + 1) (drop taken spans) ≡ false
      → AreKept spans old (place + 1) (set now kept x) (kept + 1) taken
  AreKept-put x is goes_on =
      let rest = without_ends (place + 1) (drop taken spans) in
      record {
        behind = omega (arith, h.behind);
        size = length-set now kept x ∙ h.size;
        whole =
            h.whole ∙ ap (λ l. take kept now ++ l)
            (ap (without_ends place (drop taken spans)) (here x is)
            ∙ kept-here place (drop taken spans) x (drop (place + 1) now)
            (subst (λ n. ends_at n (drop taken spans) ≡ false) (add-one place) goes_on)
            ∙ ap (λ n. x ∷ without_ends n (drop taken spans) (drop (place + 1) now)) (sym (add-one place)))
            ∙ sym (append_assoc (take kept now) (x ∷ []) (rest (drop (place + 1) now)))
            ∙ ap₂ (λ l r. l ++ rest r) (sym (take_more_set now kept x (omega (arith, lt, h.behind))))
            (sym (drop-set-lt (place + 1) now kept x (omega (arith, h.behind))));
      }

-- ---- what is left of a list whose marks were composed

-- the first of these spans ends after this place
abbrev EndsAfter : ℕ → List (ℕ × ℕ) → Type 0
EndsAfter k [] = Unit {0}
EndsAfter k (span ∷ spans) = k < span.1

ends_after-lower : (k n : ℕ) (spans : List (ℕ × ℕ)) → k ≤ n → EndsAfter n spans → EndsAfter k spans
ends_after-lower k n [] le h = tt
ends_after-lower k n (span ∷ spans) le h = omega (arith, h)

goes_on : (k : ℕ) (spans : List (ℕ × ℕ)) → EndsAfter (suc k) spans → ends_at (suc k) spans ≡ false
goes_on k [] h = refl
goes_on k (span ∷ spans) h = ne_eqb span.1 (suc k) (λ e. absurd (omega (arith, h, e)))

-- those of a starter end after its place
own_end_after : (from k : ℕ) (absorbed : List Absorbed) (more : List (ℕ × ℕ)) → AreAbsorbedInOrder from k absorbed
    → EndsAfter (suc from) more → EndsAfter (suc from) (spans_between from absorbed ++ more)
own_end_after from k [] more h later = later
own_end_after from k (mark ∷ absorbed) more h later = omega (arith, h.0)

module _ (rules : Rules) (n : ℕ) (ys : List Item) (size : length ys ≡ n) where
  -- the item at the place of one that is emitted
  abbrev there : Placed → Item
  there p = get_or ys p.place p.item

  -- the items from a starter up to place k, if the spans of the starter come first
  abbrev AreKeptTo : Placed → List Placed → ℕ → Type 0
  AreKeptTo s ms k = (more : List (ℕ × ℕ)) → EndsAfter k more
      → without_ends s.place (spans_of s ++ more) (drop s.place ys) ≡ there s ∷ map there ms ++ without_ends k more (drop k ys)

  abbrev AreLeft : Placed → List Placed → List Placed → List Placed → Type 0
  AreLeft s ms rest out = (k : ℕ) → s.place < k → AreAbsorbedInOrder s.place k s.absorbed → AreUnabsorbed ms → AreFrom n k rest
      → AreKeptTo s ms k
      → (without_ends s.place (chained_spans out) (drop s.place ys) ≡ map there out) × EndsAfter (suc s.place) (chained_spans out)

  -- an item with which nothing was composed
  kept_at : (c : Placed) (k : ℕ) (more : List (ℕ × ℕ)) → c.place ≡ k → k < n → EndsAfter (suc k) more
      → without_ends k more (drop k ys) ≡ there c ∷ without_ends (suc k) more (drop (suc k) ys)
  kept_at c k more is lt later =
      ap (without_ends k more) (drop-cons ys k c.item (omega (arith, size, lt)))
      ∙ kept-here k more (get_or ys k c.item) (drop (suc k) ys) (goes_on k more later)
      ∙ ap (λ p. get_or ys p c.item ∷ without_ends (suc k) more (drop (suc k) ys)) (sym is)

  left_ends : (s : Placed) (ms : List Placed) → AreLeft s ms [] (s ∷ ms)
  left_ends s ms k behind absorbed none from kept =
      let unabsorbed : chained_spans ms ≡ [] = ap chained_spans (sym (append-nil ms)) ∙ chained-unabsorbed ms [] none in
      let past : drop k ys ≡ [] = drop_all k ys (omega (arith, size, from)) in (
        ap (λ l. without_ends s.place (spans_of s ++ l) (drop s.place ys)) unabsorbed
            ∙ kept [] tt ∙ ap (λ l. there s ∷ map there ms ++ without_ends k [] l) past ∙ append-nil (there s ∷ map there ms),
        subst (λ l. EndsAfter (suc s.place) (spans_of s ++ l)) (sym unabsorbed) (own_end_after s.place k s.absorbed [] absorbed tt),
      )

  left_absorbs : (s mark d : Placed) (ms rest out : List Placed) → compose_placed rules s mark ≡ Some d → AreLeft d ms rest out
      → AreLeft s ms (mark ∷ rest) out
  left_absorbs s mark d ms rest out composes later k behind absorbed none from kept =
      let made = absorbed_is rules s mark d composes in
      let one : Placed = made_with rules s mark made.0 in
      let fit = AreFrom-fit n (suc k) rest from.2 in
      let span : ℕ × ℕ = (last_absorbed s.place s.absorbed, mark.place + 1) in
      let ends : (mark.place + 1 == suc k) ≡ true = eq-eqb (mark.place + 1) (suc k) (omega (arith, from.0)) in
      let more_absorbed : AreAbsorbedInOrder one.place (suc k) one.absorbed =
      in_order-push s.place k s.absorbed (record { place = mark.place; char = made.0 }) behind from.0 absorbed in
      let more_kept : AreKeptTo one ms (suc k) = λ more after_k.
      ap (λ l. without_ends s.place (l ++ more) (drop s.place ys))
      (spans_between-push s.place s.absorbed (record { place = mark.place; char = made.0 }))
      ∙ ap (λ l. without_ends s.place l (drop s.place ys)) (append_assoc (spans_of s) (span ∷ []) more)
      ∙ kept (span ∷ more) (omega (arith, from.0))
      ∙ ap (λ l. there s ∷ map there ms ++ l)
      (ap (without_ends k (span ∷ more)) (drop-cons ys k mark.item (omega (arith, size, fit)))
      ∙ taken-here k (span ∷ more) (get_or ys k mark.item) (drop (suc k) ys) ends)
      ∙ ap (λ y. y ∷ map there ms ++ without_ends (suc k) more (drop (suc k) ys))
      (get_or_default ys s.place s.item one.item (omega (arith, size, fit, behind))) in
      let all : AreLeft one ms rest out = subst (λ p. AreLeft p ms rest out) made.2 later in
      all (suc k) (omega (arith, behind)) more_absorbed none from.2 more_kept

  left_starts : (s c : Placed) (ms rest out : List Placed) → AreLeft c [] rest out → AreLeft s ms (c ∷ rest) (s ∷ ms ++ out)
  left_starts s c ms rest out later k behind absorbed none from kept =
      let fit = AreFrom-fit n (suc k) rest from.2 in
      let fresh : AreAbsorbedInOrder c.place (suc k) c.absorbed = subst (AreAbsorbedInOrder c.place (suc k)) (sym from.1) tt in
      let own : AreKeptTo c [] (suc k) = λ more after_k.
      ap₂ (λ (absorbed : List Absorbed) (p : ℕ). without_ends p (spans_between c.place absorbed ++ more) (drop p ys)) from.1 from.0
      ∙ kept_at c k more from.0 (omega (arith, fit)) after_k in
      let others = later (suc k) (omega (arith, from.0)) fresh tt from.2 own in
      let above : EndsAfter k (chained_spans out) = ends_after-lower k (suc c.place) (chained_spans out) (omega (arith, from.0)) others.1 in
      let spans_are : chained_spans (ms ++ out) ≡ chained_spans out = chained-unabsorbed ms out none in (
        ap (λ l. without_ends s.place (spans_of s ++ l) (drop s.place ys)) spans_are
            ∙ kept (chained_spans out) above
            ∙ ap (λ l. there s ∷ map there ms ++ l)
            (ap (λ p. without_ends p (chained_spans out) (drop p ys)) (sym from.0) ∙ others.0)
            ∙ ap (λ l. there s ∷ l) (sym (map-append there ms out)),
        subst (λ l. EndsAfter (suc s.place) (spans_of s ++ l)) (sym spans_are)
            (own_end_after s.place k s.absorbed (chained_spans out) absorbed
            (ends_after-lower (suc s.place) (suc c.place) (chained_spans out) (omega (arith, from.0, behind)) others.1)),
      )

  left_skips : (s c : Placed) (ms rest out : List Placed) → AreLeft s (ms ++ c ∷ []) rest out → AreLeft s ms (c ∷ rest) out
  left_skips s c ms rest out later k behind absorbed none from kept =
      let fit = AreFrom-fit n (suc k) rest from.2 in
      let more_kept : AreKeptTo s (ms ++ c ∷ []) (suc k) = λ more after_k.
      kept more (ends_after-lower k (suc k) more (omega arith) after_k)
      ∙ ap (λ l. there s ∷ map there ms ++ l) (kept_at c k more from.0 (omega (arith, fit)) after_k)
      ∙ ap (λ l. there s ∷ l) (sym (append_assoc (map there ms) (there c ∷ []) (without_ends (suc k) more (drop (suc k) ys)))
      ∙ ap (λ l. l ++ without_ends (suc k) more (drop (suc k) ys)) (sym (map-append there ms (c ∷ [])))) in
      later (suc k) (omega (arith, behind)) (in_order-higher s.place k (suc k) s.absorbed (omega arith) absorbed)
      (push_all (λ (m : Placed). m.absorbed ≡ []) ms c none from.1) from.2 more_kept

  left_after : (s : Placed) (ms rest : List Placed) → AreLeft s ms rest (after rules s ms rest)
  left_after =
      by_steps ccc_of_placed (is_blocked ccc_of_placed) is_mark_placed (compose_placed rules) AreLeft (record {
        ends = left_ends;
        composes = λ s ms c d rest out found free made later. left_absorbs s c d ms rest out made later;
        starts = λ s ms c rest out none start later. left_starts s c ms rest out later;
        passes = λ s ms c rest out none mark later. left_skips s c ms rest out later;
      })

-- the items at the places of those that are emitted are left
pub left_in_place : (rules : Rules) (items ys : List Item) → length ys ≡ length items
    → without_ends 0 (chained_spans (recomposed_items rules items)) ys
    ≡ map (λ (p : Placed). get_or ys p.place p.item) (recomposed_items rules items)
left_in_place rules [] [] size = refl
left_in_place rules [] (y ∷ ys) size = absurd (omega (arith, size))
left_in_place rules (x ∷ items) ys size =
    let n = suc (length items) in
    let first = item_at rules 0 x in
    (left_after rules n ys size first [] (placed 1 items) 1 (omega arith) tt tt (AreFrom-placed n 1 items (omega arith))
    (λ more after_k. kept_at rules n ys size first 0 more refl (omega arith) after_k)).0
