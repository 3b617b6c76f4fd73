-- what a ligature writes is the list that it makes
use Prim.Native.Nat.{zero}
use Rattle.std.proofs.Common.{◌≡◌, ℕ, suc, ◌<◌, ◌≤◌, ◌+◌, ◌-◌, ◌%◌, ◌&&◌, ◌||◌, not, Bool, true, false, List, [], ◌∷◌, ◌++◌, append_assoc, drop}
use Rattle.std.proofs.Common.{length, nat_eq, nat_le, nat_lt, remove, slice_set, take, refl, sym, ap, subst, ◌∙◌, arith, if◌then◌else◌}
use Rattle.std.proofs.Math.Seq.{set-append_seam}
use Rattle.std.proofs.lemmas.Bool.Decides.{nat_tests}
use Rattle.std.proofs.lemmas.List.{length-append, length-drop, length-take-le, take-append-drop}
use Rattle.std.proofs.lemmas.List.Edits.{remove-append_right}
use Rattle.shape_items.specs.Buffer.{Buffer}
use Rattle.shape_items.specs.BufferClusters.{merge_clusters}
use Rattle.shape_items.specs.Items.{Item, new_item}
use Rattle.shape_items.proofs.Merging.KeyLemmas.{length-merge_clusters}
use Rattle.layout_matching.specs.Loops.{times}
use Rattle.layout_matching.specs.Seeking.{fits}
use Rattle.layout_matching.specs.Skipping.{nth, is_skipped}
use Rattle.layout_matching.specs.declared.lookup.Lookup.{Lookup}
use Rattle.layout_matching.proofs.LoopLemmas.{times_still}
use Rattle.layout_substitution.specs.Edits.{item_at, is_inside, put_at, taken_out, merged}
use Rattle.layout_substitution.specs.LigatureList.{mark_on, with_component, stands_between, between_of, after_last, behind_of, rest_of, after_first, ligature_list}
use Rattle.layout_substitution.specs.Ligatures.{Joined, looked_for, component_among, between_stays, component_gone, stays, join_step, follows, follow_step, followed, first_joined, joined, ligature_over}
use Rattle.layout_substitution.specs.Replaced.{as_component, as_ligature}
use Rattle.layout_substitution.specs.Substitutes.{ligature_glyph, component_count}
use Rattle.layout_substitution.specs.declared.ligature.Components.{Components}
use Rattle.layout_substitution.specs.declared.ligature.Joining.{Joining}
use Rattle.layout_substitution.specs.declared.ligature.Ligation.{Ligation}

-- ---- a list at a seam

seam-item : (done rest : List Item) (x : Item) → nth (done ++ x ∷ rest) (length done) ≡ x
seam-item [] rest x = refl
seam-item (y ∷ done) rest x = seam-item done rest x

seam-remove : (done rest : List Item) (x : Item) → remove (done ++ x ∷ rest) (length done) ≡ done ++ rest
seam-remove done rest x =
    let none : length done - length done ≡ 0 = omega arith in
    remove-append_right done (x ∷ rest) (length done) (length done) refl (omega arith) ∙ ap (λ k. done ++ remove (x ∷ rest) k) none

seam-set : (done rest : List Item) (x y : Item) → slice_set (done ++ x ∷ rest) (length done) y ≡ done ++ y ∷ rest
seam-set done rest x y = set-append_seam done x rest y

seam-inside : (done rest : List Item) (x : Item) → nat_lt (length done) (length (done ++ x ∷ rest)) ≡ true
seam-inside done rest x =
    let long : length (done ++ x ∷ rest) ≡ length done + suc (length rest) = length-append done (x ∷ rest) in
    grind (arith, nat_tests, long)

-- a step made first, or last
times-first : {S : Type 0} (f : S → S) (n : ℕ) (s : S) → times f (suc n) s ≡ times f n (f s)
times-first f zero s = refl
times-first f (suc n) s = ap f (times-first f n s)

-- ---- the walk over the items behind the first component

-- what is done, what comes, and what is known
record Reached (s : Joined) (w : Joining) (done rest : List Item) : Type 0 where
  items : s.buffer.items ≡ done ++ rest
  walk : s.walk ≡ record w { at = length done }

-- an item stays, or is changed in its place
one-stays : (own : Bool) (made : Ligation) (s : Joined) (w : Joining) (done rest : List Item) (x : Item) → Reached s w done (x ∷ rest)
    → Reached (between_stays own made.id s) w (done ++ (if own then mark_on made w x else x) ∷ []) rest
one-stays own made s w done rest x here = record {
  items = by_own own
      ∙ sym (append_assoc done ((if own then mark_on made w x else x) ∷ []) rest);
  walk = ap (λ (v : Joining). record v { at = v.at + 1 }) here.walk
      ∙ ap (λ (k : ℕ). record w { at = k }) (sym (length-append done ((if own then mark_on made w x else x) ∷ [])));
}
  where
    place : s.walk.at ≡ length done
    place = ap (λ (v : Joining). v.at) here.walk

    item : item_at s.buffer s.walk.at ≡ x
    item = ap (λ xs. nth xs s.walk.at) here.items ∙ ap (nth (done ++ x ∷ rest)) place ∙ seam-item done rest x

    component : component_among s.walk (item_at s.buffer s.walk.at) ≡ component_among w x
    component = ap (λ v. component_among v (item_at s.buffer s.walk.at)) here.walk ∙ ap (component_among w) item

    new : as_component made.id (component_among s.walk (item_at s.buffer s.walk.at)) (item_at s.buffer s.walk.at) ≡ mark_on made w x
    new = ap (λ k. as_component made.id k (item_at s.buffer s.walk.at)) component ∙ ap (as_component made.id (component_among w x)) item

    inside : is_inside s.walk.at s.buffer ≡ true
    inside = ap (λ xs. nat_lt s.walk.at (length xs)) here.items ∙ ap (λ k. nat_lt k (length (done ++ x ∷ rest))) place ∙ seam-inside done rest x

    put : (y : Item) → (put_at s.walk.at y s.buffer).items ≡ done ++ y ∷ rest
    put y =
        ap (λ t. (if t then record s.buffer { items = slice_set s.buffer.items s.walk.at y } else s.buffer).items) inside
        ∙ ap (λ xs. slice_set xs s.walk.at y) here.items ∙ ap (λ k. slice_set (done ++ x ∷ rest) k y) place ∙ seam-set done rest x y

    by_own : (t : Bool) → (if t then put_at s.walk.at (as_component made.id (component_among s.walk (item_at s.buffer s.walk.at))
        (item_at s.buffer s.walk.at)) s.buffer else s.buffer).items ≡ done ++ (if t then mark_on made w x else x) ∷ rest
    by_own true = ap (λ y. (put_at s.walk.at y s.buffer).items) new ∙ put (mark_on made w x)
    by_own false = here.items

-- a component goes
one-gone : (s : Joined) (w : Joining) (done rest : List Item) (x : Item) → Reached s w done (x ∷ rest)
    → Reached (component_gone s) (with_component w x) done rest
one-gone s w done rest x here = record {
  items = ap (λ t. (if t then record s.buffer { items = remove s.buffer.items s.walk.at; positions = remove s.buffer.positions s.walk.at }
      else s.buffer).items) inside
      ∙ ap (λ xs. remove xs s.walk.at) here.items ∙ ap (remove (done ++ x ∷ rest)) place ∙ seam-remove done rest x;
  walk = ap (λ (y : Item). record (with_component s.walk y) { at = s.walk.at }) item
      ∙ ap (λ (v : Joining). record (with_component v x) { at = v.at }) here.walk;
}
  where
    place : s.walk.at ≡ length done
    place = ap (λ (v : Joining). v.at) here.walk

    item : item_at s.buffer s.walk.at ≡ x
    item = ap (λ xs. nth xs s.walk.at) here.items ∙ ap (nth (done ++ x ∷ rest)) place ∙ seam-item done rest x

    inside : is_inside s.walk.at s.buffer ≡ true
    inside = ap (λ xs. nat_lt s.walk.at (length xs)) here.items ∙ ap (λ k. nat_lt k (length (done ++ x ∷ rest))) place ∙ seam-inside done rest x

module _ (l : Lookup) (made : Ligation) where
  -- one step
  abbrev After : Bool → Joined → Joining → List Item → List Item → Item → Type 0
  After t s w done rest x = Reached s (if t then w else with_component w x)
      (if t then done ++ (if made.own then mark_on made w x else x) ∷ [] else done) rest

  step-reaches : (s : Joined) (w : Joining) (done rest : List Item) (x : Item) → Reached s w done (x ∷ rest)
      → After (stands_between l made w x) (join_step l made s) w done rest x
  step-reaches s w done rest x here = by_inside (is_inside s.walk.at s.buffer) inside
    where
      place : s.walk.at ≡ length done
      place = ap (λ (v : Joining). v.at) here.walk

      item : item_at s.buffer s.walk.at ≡ x
      item = ap (λ xs. nth xs s.walk.at) here.items ∙ ap (nth (done ++ x ∷ rest)) place ∙ seam-item done rest x

      inside : is_inside s.walk.at s.buffer ≡ true
      inside = ap (λ xs. nat_lt s.walk.at (length xs)) here.items ∙ ap (λ k. nat_lt k (length (done ++ x ∷ rest))) place ∙ seam-inside done rest x

      same : stays l made s ≡ stands_between l made w x
      same = ap (λ v. stands_between l made v (item_at s.buffer s.walk.at)) here.walk ∙ ap (stands_between l made w) item

      by_stays : (t u : Bool) → t ≡ u → After u (if t then between_stays made.own made.id s else component_gone s) w done rest x
      by_stays true true is = one-stays made.own made s w done rest x here
      by_stays false false is = one-gone s w done rest x here
      by_stays true false is = absurd (let bad : true ≡ false = is in cc)
      by_stays false true is = absurd (let bad : false ≡ true = is in cc)

      by_inside : (t : Bool) → t ≡ true
          → After (stands_between l made w x)
          (if t then (if stays l made s then between_stays made.own made.id s else component_gone s) else s) w done rest x
      by_inside true is = by_stays (stays l made s) (stands_between l made w x) same
      by_inside false never = absurd (let bad : false ≡ true = never in cc)

  -- all of them
  joins-reach : (middle rest done : List Item) (s : Joined) (w : Joining) → Reached s w done (middle ++ rest)
      → Reached (times (join_step l made) (length middle) s) (after_last l made w middle) (done ++ between_of l made w middle) rest
  joins-reach [] rest done s w here = record { items = here.items ∙ ap (λ xs. xs ++ rest) (sym (append-nothing done)); walk = walk-at }
    where
      append-nothing : (xs : List Item) → xs ++ [] ≡ xs
      append-nothing [] = refl
      append-nothing (x ∷ xs) = ap (λ ys. x ∷ ys) (append-nothing xs)

      walk-at : s.walk ≡ record w { at = length (done ++ []) }
      walk-at = here.walk ∙ ap (λ xs. record w { at = length xs }) (sym (append-nothing done))
  joins-reach (x ∷ middle) rest done s w here =
      by_first (joins-reach middle rest (done ++ (if made.own then mark_on made w x else x) ∷ []) (join_step l made s) w)
      (joins-reach middle rest done (join_step l made s) (with_component w x))
      (times-first (join_step l made) (length middle) s) (stands_between l made w x) (step-reaches s w done (middle ++ rest) x here)
    where
      step : Joined
      step = join_step l made s

      y : Item
      y = if made.own then mark_on made w x else x

      by_first : (Reached step w (done ++ y ∷ []) (middle ++ rest)
          → Reached (times (join_step l made) (length middle) step) (after_last l made w middle)
          ((done ++ y ∷ []) ++ between_of l made w middle) rest)
          → (Reached step (with_component w x) done (middle ++ rest)
          → Reached (times (join_step l made) (length middle) step) (after_last l made (with_component w x) middle)
          (done ++ between_of l made (with_component w x) middle) rest)
          → times (join_step l made) (suc (length middle)) s ≡ times (join_step l made) (length middle) step → (t : Bool)
          → After t step w done (middle ++ rest) x
          → Reached (times (join_step l made) (suc (length middle)) s)
          (if t then after_last l made w middle else after_last l made (with_component w x) middle)
          (done ++ (if t then y ∷ between_of l made w middle else between_of l made (with_component w x) middle)) rest
      by_first staying going turn true after =
          let more = staying after in
          let joined : (done ++ y ∷ []) ++ between_of l made w middle ≡ done ++ y ∷ between_of l made w middle =
          append_assoc done (y ∷ []) (between_of l made w middle) in
          record {
            items = ap (λ (j : Joined). j.buffer.items) turn ∙ more.items ∙ ap (λ xs. xs ++ rest) joined;
            walk = ap (λ (j : Joined). j.walk) turn ∙ more.walk ∙ ap (λ xs. record (after_last l made w middle) { at = length xs }) joined;
          }
      by_first staying going turn false after =
          let more = going after in
          record {
            items = ap (λ (j : Joined). j.buffer.items) turn ∙ more.items;
            walk = ap (λ (j : Joined). j.walk) turn ∙ more.walk;
          }

-- ---- marks behind the last component

follows-inside : (s : Joined) (w : Joining) (done rest : List Item) (x : Item) → Reached s w done (x ∷ rest)
    → follows s ≡ (nat_eq x.properties.ligature_id w.id && nat_lt 0 x.properties.ligature_component)
follows-inside s w done rest x here =
    ap (λ t. t && nat_eq (item_at s.buffer s.walk.at).properties.ligature_id s.walk.id
    && nat_lt 0 (item_at s.buffer s.walk.at).properties.ligature_component) inside
    ∙ ap (λ (y : Item). nat_eq y.properties.ligature_id s.walk.id && nat_lt 0 y.properties.ligature_component) item
    ∙ ap (λ (v : Joining). nat_eq x.properties.ligature_id v.id && nat_lt 0 x.properties.ligature_component) here.walk
  where
    place : s.walk.at ≡ length done
    place = ap (λ (v : Joining). v.at) here.walk

    item : item_at s.buffer s.walk.at ≡ x
    item = ap (λ xs. nth xs s.walk.at) here.items ∙ ap (nth (done ++ x ∷ rest)) place ∙ seam-item done rest x

    inside : is_inside s.walk.at s.buffer ≡ true
    inside = ap (λ xs. nat_lt s.walk.at (length xs)) here.items ∙ ap (λ k. nat_lt k (length (done ++ x ∷ rest))) place ∙ seam-inside done rest x

follows-outside : (s : Joined) (w : Joining) (done : List Item) → Reached s w done [] → follows s ≡ false
follows-outside s w done here =
    ap (λ t. t && nat_eq (item_at s.buffer s.walk.at).properties.ligature_id s.walk.id
    && nat_lt 0 (item_at s.buffer s.walk.at).properties.ligature_component) outside
  where
    place : s.walk.at ≡ length done
    place = ap (λ (v : Joining). v.at) here.walk

    long : length s.buffer.items ≡ length done + 0
    long = ap length here.items ∙ length-append done []

    outside : is_inside s.walk.at s.buffer ≡ false
    outside = grind (arith, nat_tests, place, long)

stays-still : (id : ℕ) (s : Joined) → follows s ≡ false → follow_step id s ≡ s
stays-still id s stops = ap (λ t. if t then between_stays true id s else s) stops

follow-reach : (made : Ligation) (rest done : List Item) (n : ℕ) (s : Joined) (w : Joining) → Reached s w done rest → length rest ≤ n
    → (times (follow_step made.id) n s).buffer.items ≡ done ++ behind_of made w rest
follow-reach made [] done n s w here few =
    ap (λ (j : Joined). j.buffer.items) (times_still (follow_step made.id) n s (stays-still made.id s (follows-outside s w done here)))
    ∙ here.items
follow-reach made (x ∷ rest) done zero s w here few = absurd (omega (arith, few))
follow-reach made (x ∷ rest) done (suc n) s w here few =
    by_test
    (follow-reach made rest (done ++ mark_on made w x ∷ []) n (between_stays true made.id s) w (one-stays true made s w done rest x here)
    (omega (arith, few)))
    (nat_eq x.properties.ligature_id w.id && nat_lt 0 x.properties.ligature_component) (follows-inside s w done rest x here)
  where
    by_test : (times (follow_step made.id) n (between_stays true made.id s)).buffer.items
        ≡ (done ++ mark_on made w x ∷ []) ++ behind_of made w rest
        → (t : Bool) → follows s ≡ t
        → (times (follow_step made.id) (suc n) s).buffer.items ≡ done ++ (if t then mark_on made w x ∷ behind_of made w rest else x ∷ rest)
    by_test more true goes =
        let step : follow_step made.id s ≡ between_stays true made.id s = ap (λ t. if t then between_stays true made.id s else s) goes in
        ap (λ (j : Joined). j.buffer.items) (times-first (follow_step made.id) n s)
        ∙ ap (λ (j : Joined). (times (follow_step made.id) n j).buffer.items) step
        ∙ more ∙ append_assoc done (mark_on made w x ∷ []) (behind_of made w rest)
    by_test more false stops =
        ap (λ (j : Joined). j.buffer.items) (times_still (follow_step made.id) (suc n) s (stays-still made.id s stops)) ∙ here.items

sums-stay : (id n : ℕ) (s : Joined) → (times (follow_step id) n s).walk.so_far ≡ s.walk.so_far
sums-stay id zero s = refl
sums-stay id (suc n) s = by_test (follows (times (follow_step id) n s)) ∙ sums-stay id n s
  where
    t : Joined
    t = times (follow_step id) n s

    by_test : (u : Bool) → (if u then between_stays true id t else t).walk.so_far ≡ t.walk.so_far
    by_test true = refl
    by_test false = refl

-- what `followed` leaves: the list, and the sum of components
record Followed (s : Joined) (w : Joining) (list : List Item) : Type 0 where
  items : s.buffer.items ≡ list
  so_far : s.walk.so_far ≡ w.so_far

followed-reach : (made : Ligation) (rest done : List Item) (s : Joined) (w : Joining) → Reached s w done rest
    → Followed (followed made s) w (done ++ rest_of made w rest)
followed-reach made rest done s w here =
    by_none (made.marks || nat_eq s.walk.id 0) (made.marks || nat_eq w.id 0) (ap (λ (v : Joining). made.marks || nat_eq v.id 0) here.walk)
  where
    n : ℕ
    n = length s.buffer.items

    few : length rest ≤ n
    few = let long : n ≡ length done + length rest = ap length here.items ∙ length-append done rest in omega (arith, long)

    by_none : (t u : Bool) → t ≡ u
        → Followed (if t then s else times (follow_step made.id) n s) w (done ++ (if u then rest else behind_of made w rest))
    by_none true true is = record { items = here.items; so_far = ap (λ (v : Joining). v.so_far) here.walk }
    by_none false false is = record {
      items = follow-reach made rest done n s w here few;
      so_far = sums-stay made.id n s ∙ ap (λ (v : Joining). v.so_far) here.walk;
    }
    by_none true false is = absurd (let bad : true ≡ false = is in cc)
    by_none false true is = absurd (let bad : false ≡ true = is in cc)

-- ---- the ligature

take-next : (xs : List Item) (i : ℕ) → i < length xs → take (i + 1) xs ≡ take i xs ++ nth xs i ∷ []
take-next [] i inside = absurd (omega (arith, inside))
take-next (x ∷ xs) zero inside = refl
take-next (x ∷ xs) (suc i) inside =
    let e : suc i + 1 ≡ suc (i + 1) = omega arith in
    ap (λ k. take k (x ∷ xs)) e ∙ ap (λ ys. x ∷ ys) (take-next xs i (omega (arith, inside)))

pub ligature-is-list : (l : Lookup) (made : Ligation) (m : Components) (at : ℕ) (b : Buffer) → at ≤ m.last → m.last < length b.items
    → (ligature_over l made m at (joined l made m at b)).items ≡ ligature_list l made m at b
ligature-is-list l made m at b ordered within =
    ap (λ y. (put_at at y end.buffer).items) new
    ∙ put (as_ligature l made.own made.id w.so_far (ligature_glyph l.table.now m.ligature) x)
  where
    c : Buffer
    c = merged at (m.last + 1) b

    items : List Item
    items = c.items

    long : length items ≡ length b.items
    long = by_test (nat_le at (m.last + 1) && nat_le (m.last + 1) (length b.items))
      where
        by_test : (t : Bool) → length (if t then merge_clusters at (m.last + 1) b else b).items ≡ length b.items
        by_test true = length-merge_clusters at (m.last + 1) b
        by_test false = refl

    behind : List Item
    behind = drop (at + 1) items

    middle : List Item
    middle = take (m.last - at) behind

    rest : List Item
    rest = drop (m.last - at) behind

    first : Joining
    first = after_first l m (item_at b at)

    w : Joining
    w = after_last l made first middle

    between : List Item
    between = between_of l made first middle

    x : Item
    x = item_at c at

    start : Joined
    start = first_joined l m at b

    long-middle : length middle ≡ m.last - at
    long-middle =
        let all : length behind ≡ length items - (at + 1) = length-drop (at + 1) items in
        length-take-le (m.last - at) behind (omega (arith, all, long, ordered, within))

    long-done : length (take (at + 1) items) ≡ at + 1
    long-done = length-take-le (at + 1) items (omega (arith, long, ordered, within))

    begun : Reached start first (take (at + 1) items) (middle ++ rest)
    begun = record {
      items = sym (ap (λ ys. take (at + 1) items ++ ys) (take-append-drop (m.last - at) behind) ∙ take-append-drop (at + 1) items);
      walk = ap (λ (k : ℕ). record first { at = k }) (sym long-done);
    }

    walked : Joined
    walked = times (join_step l made) (m.last - at) start

    reached : Reached walked w (take (at + 1) items ++ between) rest
    reached = subst (λ n. Reached (times (join_step l made) n start) w (take (at + 1) items ++ between) rest) long-middle
        (joins-reach l made middle rest (take (at + 1) items) start first begun)

    end : Joined
    end = followed made walked

    list : List Item
    list = between ++ rest_of made w rest

    ended : Followed end w ((take (at + 1) items ++ between) ++ rest_of made w rest)
    ended = followed-reach made rest (take (at + 1) items ++ between) walked w reached

    -- the first component is the seam
    seam : end.buffer.items ≡ take at items ++ x ∷ list
    seam =
        ended.items ∙ append_assoc (take (at + 1) items) between (rest_of made w rest)
        ∙ ap (λ ys. ys ++ list) (take-next items at (omega (arith, long, ordered, within)))
        ∙ append_assoc (take at items) (x ∷ []) list

    long-before : length (take at items) ≡ at
    long-before = length-take-le at items (omega (arith, long, ordered, within))

    there : item_at end.buffer at ≡ x
    there =
        ap (λ ys. nth ys at) seam ∙ ap (nth (take at items ++ x ∷ list)) (sym long-before) ∙ seam-item (take at items) list x

    new : as_ligature l made.own made.id end.walk.so_far (ligature_glyph l.table.now m.ligature) (item_at end.buffer at)
        ≡ as_ligature l made.own made.id w.so_far (ligature_glyph l.table.now m.ligature) x
    new =
        ap (λ k. as_ligature l made.own made.id k (ligature_glyph l.table.now m.ligature) (item_at end.buffer at)) ended.so_far
        ∙ ap (as_ligature l made.own made.id w.so_far (ligature_glyph l.table.now m.ligature)) there

    inside : is_inside at end.buffer ≡ true
    inside =
        ap (λ ys. nat_lt at (length ys)) seam ∙ ap (λ k. nat_lt k (length (take at items ++ x ∷ list))) (sym long-before)
        ∙ seam-inside (take at items) list x

    put : (y : Item) → (put_at at y end.buffer).items ≡ take at items ++ y ∷ list
    put y =
        ap (λ t. (if t then record end.buffer { items = slice_set end.buffer.items at y } else end.buffer).items) inside
        ∙ ap (λ ys. slice_set ys at y) seam ∙ ap (λ k. slice_set (take at items ++ x ∷ list) k y) (sym long-before)
        ∙ seam-set (take at items) list x y
