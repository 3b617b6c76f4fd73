-- What runs take of an item that goes.
use Rattle.std.proofs.Common.{◌≡◌, ◌≢◌, ℕ, ◌+◌, ◌-◌, ◌<◌, ◌≤◌, true, false, nat_lt, List, [], ◌∷◌, ◌++◌, length, get_or, take, drop, set, map, refl, ap, sym, ◌∙◌, arith, suc, zero, slice_index, append_assoc, length-append}
use Rattle.std.proofs.lemmas.Bool.Decides.{nat_tests}
use Rattle.std.proofs.lemmas.List.{length-map, map-append, take_all, drop_all, take_at, drop_at, append-nil}
use Rattle.std.proofs.Math.ListN.{get_or-append}
use Rattle.std.proofs.lemmas.List.Sums.{suffix_len_is}
use Rattle.std.proofs.Math.Seq.{set-append_seam, get_or-append_right}
use Rattle.std.specs.List.{suffix_len}
use Rattle.shape_items.specs.Items.{Item, has_cluster}
use Rattle.shape_items.specs.Clusters.{clusters, map_range}
use Rattle.shape_items.specs.Delete.{hand_over, give_to_kept}
use Rattle.shape_items.specs.Unwritten.{AreAbove, UnwrittenRun, written, items_of, stored_runs, written_runs, starts, IsApart, AreRuns, StandsFor}
use Rattle.shape_items.proofs.Unwritten.WrittenLemmas.{length-written, some_last, written-append, AreIn, written-in, written-hand_over, above-less}
use Rattle.shape_items.proofs.Unwritten.WrittenLemmas.{above-append, follow_run, at_end, stored-ends, written_runs-ends, length-written_runs}
use Rattle.shape_items.proofs.Unwritten.WrittenLemmas.{last_stored, last_written, apart_as}

in-at : (c : ℕ) (xs : List Item) (k : ℕ) (d : Item) → AreIn c xs → k < length xs → (get_or xs k d).cluster ≡ c
unfolding AreIn
in-at c [] k d all lt = absurd (omega arith)
in-at c (x ∷ xs) zero d all lt = all.0
in-at c (x ∷ xs) (suc k) d all lt = in-at c xs k d all.1 (omega arith)

has_it : (c : ℕ) (x : Item) → x.cluster ≡ c → has_cluster c x ≡ true
has_it c x e = grind (arith, nat_tests)

pub has_not : (c : ℕ) (x : Item) → x.cluster ≢ c → has_cluster c x ≡ false
has_not c x ne = grind (arith, nat_tests)

-- the cluster of the last item, as clauses read it
last_cluster : (ys : List Item) (x : Item) (n : ℕ) → n + 1 ≡ length (ys ++ x ∷ []) → slice_index (clusters (ys ++ x ∷ [])) n ≡ x.cluster
last_cluster ys x n e =
    let size : length (clusters ys ++ x.cluster ∷ []) ≡ length (ys ++ x ∷ []) =
    length-append (clusters ys) (x.cluster ∷ []) ∙ ap (λ k. k + 1) (length-map ys (λ y. y.cluster)) ∙ sym (length-append ys (x ∷ [])) in
    ap (λ cs. get_or cs n 0) (map-append (λ y. y.cluster) ys (x ∷ [])) ∙ at_end (clusters ys) x.cluster 0 n (e ∙ sym size)

written_last-differs : (before : List UnwrittenRun) (run : UnwrittenRun) (d : Item) → IsApart run before → 0 < length (written_runs before)
    → has_cluster run.last.cluster (get_or (written_runs before) (length (written_runs before) - 1) d) ≡ false
written_last-differs [] run d apart some = absurd (omega arith)
written_last-differs (other ∷ before) run d apart some =
    let at : get_or (written_runs (other ∷ before)) (length (written_runs (other ∷ before)) - 1) d
    ≡ other.last = last_written other before d _ (omega arith) in
    has_not run.last.cluster (get_or (written_runs (other ∷ before)) (length (written_runs (other ∷ before)) - 1) d)
    (λ e. apart (sym e ∙ ap (λ y. y.cluster) at))

-- how many written items at the end stand in the cluster of the last run
pub last_run_len : (run : UnwrittenRun) (before : List UnwrittenRun) (d : Item) → AreAbove run.last.cluster run.front → IsApart run before
    → suffix_len (has_cluster run.last.cluster) (written_runs (run ∷ before))
    ≡ length (written_runs (run ∷ before)) - length (written_runs before)
last_run_len run before d above apart =
    let w = written_runs before in
    let r = written (items_of run) in
    let size : length (w ++ r) ≡ length w + length r = length-append w r in
    suffix_len_is (has_cluster run.last.cluster) (w ++ r) (length w) d (omega arith)
    (λ k le lt. has_it run.last.cluster (get_or (w ++ r) k d)
    (ap (λ y. y.cluster) (get_or-append_right w r k d le)
    ∙ in-at run.last.cluster r (k - length w) d (written-in run.front run.last above) (omega arith)))
    (λ some. ap (has_cluster run.last.cluster) (get_or-append w r d (length w - 1) (omega arith))
    ∙ written_last-differs before run d apart some)

-- an edit of all that comes after a part
pub map_range-end : (f : Item → Item) (xs ys : List Item) (n m : ℕ) → n ≡ length xs → m ≡ length (xs ++ ys)
    → map_range f n m (xs ++ ys) ≡ xs ++ map f ys
map_range-end f xs ys n m en em =
    let size : length (xs ++ ys) ≡ length xs + length ys = length-append xs ys in
    let head : take n (xs ++ ys) ≡ xs = take_at xs ys n (sym en) in
    let tail : drop n (xs ++ ys) ≡ ys = drop_at xs ys n (sym en) in
    let part : take (m - n) (drop n (xs ++ ys)) ≡ ys = ap (take (m - n)) tail ∙ take_all (m - n) ys (omega arith) in
    let none : drop m (xs ++ ys) ≡ [] = drop_all m (xs ++ ys) (omega arith) in
    ap (λ z. z ++ (map f (take (m - n) (drop n (xs ++ ys))) ++ drop m (xs ++ ys))) head
    ∙ ap (λ z. xs ++ (map f z ++ drop m (xs ++ ys))) part
    ∙ ap (λ z. xs ++ (map f ys ++ z)) none ∙ ap (λ z. xs ++ z) (append-nil (map f ys))

-- what the kept items take, if the last run takes it
pub give_runs : (p : Item) (run : UnwrittenRun) (before : List UnwrittenRun) (k : ℕ) → AreAbove run.last.cluster run.front → IsApart run before
    → p.cluster < run.last.cluster
    → k ≡ length (written_runs (run ∷ before))
    → give_to_kept k p (written_runs (run ∷ before)) ≡ written_runs before ++ map (hand_over p) (written (items_of run))
give_runs p run before k above apart lt e =
    let w = written_runs before in
    let r = written (items_of run) in
    let end = written_runs-ends run before in
    let size : length (w ++ r) ≡ length w + length r = length-append w r in
    let some : 0 < length r = rw length-written (some_last run.front run.last) in
    let last : slice_index (clusters (w ++ r)) (k - 1) ≡ run.last.cluster =
    ap (λ z. slice_index (clusters z) (k - 1)) end.1 ∙ last_cluster end.0 run.last (k - 1) (omega (arith, ap length end.1)) in
    let whole : take k (w ++ r) ≡ w ++ r = take_all k (w ++ r) (omega arith) in
    let smaller : nat_lt p.cluster run.last.cluster ≡ true = grind (arith, nat_tests) in
    let count : k - suffix_len (has_cluster run.last.cluster) (w ++ r) ≡ length w = ap (λ n. k - n) (last_run_len run before p above apart)
    ∙ omega arith in
    rw (last, smaller, whole, count) (map_range-end (hand_over p) w r (length w) k refl e)

-- the last item is written
set_last : (run : UnwrittenRun) (before : List UnwrittenRun) (y : Item) (n : ℕ) → n + 1 ≡ length (stored_runs (run ∷ before))
    → set (stored_runs (run ∷ before)) n y ≡ stored_runs before ++ (run.front ++ y ∷ [])
set_last run before y n e =
    let size : length ((stored_runs before ++ run.front) ++ run.last ∷ [])
    ≡ length (stored_runs before ++ run.front) + 1 = length-append (stored_runs before ++ run.front) (run.last ∷ []) in
    let there : n ≡ length (stored_runs before ++ run.front) = omega (arith, ap length (stored-ends run before)) in
    ap (λ z. set z n y) (stored-ends run before) ∙ ap (λ k. set ((stored_runs before ++ run.front) ++ run.last ∷ []) k y) there
    ∙ set-append_seam (stored_runs before ++ run.front) run.last [] y ∙ append_assoc (stored_runs before) run.front (y ∷ [])

-- the last run takes the cluster of an item, and ends apart from the one before it
stays_apart : (run : UnwrittenRun) (before : List UnwrittenRun) (p : Item) → AreRuns (run ∷ before) → p.cluster < run.last.cluster
    → IsApart (record { front = run.front; last = hand_over p run.last }) before
    → StandsFor (stored_runs before ++ (run.front ++ hand_over p run.last ∷ [])) (starts (run ∷ before))
    (written_runs before ++ map (hand_over p) (written (items_of run)))
stays_apart run before p are lt apart = record {
  runs = record { front = run.front; last = hand_over p run.last } ∷ before;
  are_runs = (above-less run.last.cluster p.cluster run.front (omega arith) are.0, apart, are.2);
  items_are = refl;
  places_are = refl;
  given_are = ap (λ z. written_runs before ++ z) (sym (written-hand_over p run.front run.last are.0 lt));
}

-- or it joins that one
joins : (run other : UnwrittenRun) (before : List UnwrittenRun) (p : Item) → AreRuns (run ∷ other ∷ before) → p.cluster < run.last.cluster
    → other.last.cluster ≡ p.cluster
    → StandsFor (stored_runs (other ∷ before) ++ (run.front ++ hand_over p run.last ∷ [])) (starts (other ∷ before))
    (written_runs (other ∷ before) ++ map (hand_over p) (written (items_of run)))
joins run other before p are lt same =
    let y = hand_over p run.last in
    let both : UnwrittenRun = record { front = items_of other ++ run.front; last = y } in
    let above : AreAbove p.cluster run.front = above-less run.last.cluster p.cluster run.front (omega arith) are.0 in
    let split : (items_of other ++ run.front) ++ y ∷ []
    ≡ items_of other ++ (run.front ++ y ∷ []) = append_assoc (items_of other) run.front (y ∷ []) in
    let apart : IsApart other before = are.2.1 in
    record {
      runs = both ∷ before;
      are_runs = (
        above-append p.cluster (items_of other) run.front
            (above-append p.cluster other.front (other.last ∷ [])
            (above-less other.last.cluster p.cluster other.front (omega arith) are.2.0) (omega arith, tt)) above,
        apart_as other both before (sym same) apart,
        are.2.2,
      );
      items_are = append_assoc (stored_runs before) (items_of other) (run.front ++ y ∷ []) ∙ ap (λ z. stored_runs before ++ z) (sym split);
      places_are = refl;
      given_are = ap (λ z. written_runs (other ∷ before) ++ z) (sym (written-hand_over p run.front run.last are.0 lt))
          ∙ append_assoc (written_runs before) (written (items_of other)) (written (run.front ++ y ∷ []))
          ∙ ap (λ z. written_runs before
          ++ z) (sym (written-append other.front other.last (run.front ++ y ∷ []) (follow_run other.last run.front y above (sym same)))
          ∙ ap written (sym split));
    }

last_start : (run : UnwrittenRun) (before : List UnwrittenRun) (m : ℕ) → m + 1 ≡ length (starts (run ∷ before))
    → get_or (starts (run ∷ before)) m 0 ≡ length (stored_runs before)
last_start run before m e = at_end (starts before) (length (stored_runs before)) 0 m e

some_stored : (run : UnwrittenRun) (before : List UnwrittenRun) → 0 < length (stored_runs (run ∷ before))
some_stored run before =
    let size : length (stored_runs (run ∷ before)) ≡ length (stored_runs before ++ run.front) + 1 = ap length (stored-ends run before)
    ∙ length-append (stored_runs before ++ run.front) (run.last ∷ []) in
    omega arith

-- the item before the last run
before_last : (other : UnwrittenRun) (before : List UnwrittenRun) (ys : List Item) (d : Item)
    → get_or (stored_runs (other ∷ before) ++ ys) (length (stored_runs (other ∷ before)) - 1) d ≡ other.last
before_last other before ys d =
    let size : length (stored_runs (other ∷ before)) ≡ length (stored_runs before ++ other.front) + 1 = ap length (stored-ends other before)
    ∙ length-append (stored_runs before ++ other.front) (other.last ∷ []) in
    get_or-append (stored_runs (other ∷ before)) ys d _ (omega arith) ∙ last_stored other before d _ (omega arith)

-- runs are as many as their starts, and none begins past the items
pub some_start : (items : List Item) (places : List ℕ) (given : List Item) → StandsFor items places given → 0 < length items
    → 0 < length places
some_start items places given s some = counted s.runs s.items_are s.places_are where
  counted : (runs : List UnwrittenRun) → items ≡ stored_runs runs → places ≡ starts runs → 0 < length places
  counted [] ei ep = let none : length items ≡ 0 = ap length ei in absurd (omega arith)
  counted (run ∷ before) ei ep =
      let size : length places ≡ length (starts before) + 1 = ap length ep
      ∙ length-append (starts before) (length (stored_runs before) ∷ []) in
      omega arith

pub start_within : (items : List Item) (places : List ℕ) (given : List Item) (m : ℕ) → StandsFor items places given → m + 1 ≡ length places
    → get_or places m 0 < length items
start_within items places given m s e = within s.runs s.items_are s.places_are where
  within : (runs : List UnwrittenRun) → items ≡ stored_runs runs → places ≡ starts runs → get_or places m 0 < length items
  within [] ei ep = let none : length places ≡ 0 = ap length ep in absurd (omega arith)
  within (run ∷ before) ei ep =
      let start : get_or places m 0 ≡ length (stored_runs before) = ap (λ z. get_or z m 0) ep
      ∙ last_start run before m (e ∙ ap length ep) in
      let size : length items ≡ length (stored_runs before ++ run.front) + 1 = ap length (ei ∙ stored-ends run before)
      ∙ length-append (stored_runs before ++ run.front) (run.last ∷ []) in
      let front : length (stored_runs before ++ run.front)
      ≡ length (stored_runs before) + length run.front = length-append (stored_runs before) run.front in
      omega arith

pub length-given : (items : List Item) (places : List ℕ) (given : List Item) → StandsFor items places given → length given ≡ length items
length-given items places given s = ap length s.given_are ∙ length-written_runs s.runs ∙ sym (ap length s.items_are)

-- a picked item whose cluster isn't smaller changes nothing
pub give_nothing : (items : List Item) (places : List ℕ) (given : List Item) (p x : Item) (n : ℕ) → n + 1 ≡ length items
    → x ≡ get_or items n x → x.cluster ≤ p.cluster
    → StandsFor items places given → give_to_kept (length items) p given ≡ given
give_nothing items places given p x n size ex le s = unchanged s.runs s.items_are s.given_are where
  unchanged : (runs : List UnwrittenRun) → items ≡ stored_runs runs → given ≡ written_runs runs → give_to_kept (length items) p given ≡ given
  unchanged [] ei eg = let none : length items ≡ 0 = ap length ei in absurd (omega arith)
  unchanged (run ∷ before) ei eg =
      let end = written_runs-ends run before in
      let last : x ≡ run.last = ex ∙ ap (λ z. get_or z n x) ei ∙ last_stored run before x n (size ∙ ap length ei) in
      let long : length given ≡ length items = length-given items places given s in
      let read : slice_index (clusters given) (length items - 1) ≡ run.last.cluster =
      ap (λ z. slice_index (clusters z) (length items - 1)) (eg ∙ end.1)
      ∙ last_cluster end.0 run.last (length items - 1) (omega (arith, ap length (eg ∙ end.1))) in
      let same : run.last.cluster ≡ x.cluster = ap (λ y. y.cluster) (sym last) in
      let not_smaller : nat_lt p.cluster run.last.cluster ≡ false = grind (arith, nat_tests) in
      rw (read, not_smaller) refl

-- what a picked item of a smaller cluster leaves, if the last run begins the list or the item before it is in another
-- cluster
pub give_apart : (items : List Item) (places : List ℕ) (given : List Item) (p x d : Item) (n m : ℕ) → n + 1 ≡ length items
    → m + 1 ≡ length places
    → x ≡ get_or items n x → p.cluster < x.cluster
    → (0 < get_or places m 0 → (get_or (set items n (hand_over p x)) (get_or places m 0 - 1) d).cluster ≢ p.cluster)
    → StandsFor items places given → StandsFor (set items n (hand_over p x)) places (give_to_kept (length items) p given)
give_apart items places given p x d n m size count ex lt apart s = given_to s.runs s.are_runs s.items_are s.places_are s.given_are where
  given_to : (runs : List UnwrittenRun) → AreRuns runs → items ≡ stored_runs runs → places ≡ starts runs → given ≡ written_runs runs
      → StandsFor (set items n (hand_over p x)) places (give_to_kept (length items) p given)
  given_to [] are ei ep eg = let none : length items ≡ 0 = ap length ei in absurd (omega arith)
  given_to (run ∷ before) are ei ep eg =
      let last : x ≡ run.last = ex ∙ ap (λ z. get_or z n x) ei ∙ last_stored run before x n (size ∙ ap length ei) in
      let smaller : p.cluster < run.last.cluster = omega (arith, ap (λ y. y.cluster) last) in
      let stored : set items n (hand_over p x) ≡ stored_runs before ++ (run.front ++ hand_over p run.last ∷ []) =
      ap (λ z. set z n (hand_over p x)) ei ∙ ap (λ z. set (stored_runs (run ∷ before)) n (hand_over p z)) last
      ∙ set_last run before (hand_over p run.last) n (size ∙ ap length ei) in
      let start : get_or places m 0 ≡ length (stored_runs before) = ap (λ z. get_or z m 0) ep
      ∙ last_start run before m (count ∙ ap length ep) in
      let gives : give_to_kept (length items) p given ≡ written_runs before ++ map (hand_over p) (written (items_of run)) =
      ap (give_to_kept (length items) p) eg
      ∙ give_runs p run before (length items) are.0 are.1 smaller (ap length ei ∙ sym (length-written_runs (run ∷ before))) in
      rw (stored, ep, gives) (stays_apart run before p are smaller (before_differs before start stored))
    where
      before_differs : (others : List UnwrittenRun) → get_or places m 0 ≡ length (stored_runs others)
          → set items n (hand_over p x) ≡ stored_runs others ++ (run.front ++ hand_over p run.last ∷ [])
          → IsApart (record { front = run.front; last = hand_over p run.last }) others
      before_differs [] start stored = tt
      before_differs (other ∷ rest) start stored = λ same.
          let some : 0 < length (stored_runs (other ∷ rest)) = some_stored other rest in
          let read : get_or (set items n (hand_over p x)) (get_or places m 0 - 1) d ≡ other.last =
          ap (λ k. get_or (set items n (hand_over p x)) (k - 1) d) start
          ∙ ap (λ z. get_or z (length (stored_runs (other ∷ rest)) - 1) d) stored
          ∙ before_last other rest (run.front ++ hand_over p run.last ∷ []) d in
          apart (omega arith) (ap (λ y. y.cluster) read ∙ sym same)

-- and if the item before it is in that cluster, the two runs are one
pub give_joins : (items : List Item) (places : List ℕ) (given : List Item) (p x d : Item) (n m : ℕ) → n + 1 ≡ length items
    → m + 1 ≡ length places
    → x ≡ get_or items n x → p.cluster < x.cluster
    → 0 < get_or places m 0 → (get_or (set items n (hand_over p x)) (get_or places m 0 - 1) d).cluster ≡ p.cluster
    → StandsFor items places given → StandsFor (set items n (hand_over p x)) (take m places) (give_to_kept (length items) p given)
give_joins items places given p x d n m size count ex lt later same s =
    given_to s.runs s.are_runs s.items_are s.places_are s.given_are where
      given_to : (runs : List UnwrittenRun) → AreRuns runs → items ≡ stored_runs runs → places ≡ starts runs → given ≡ written_runs runs
          → StandsFor (set items n (hand_over p x)) (take m places) (give_to_kept (length items) p given)
      given_to [] are ei ep eg = let none : length items ≡ 0 = ap length ei in absurd (omega arith)
      given_to (run ∷ []) are ei ep eg =
          let start : get_or places m 0 ≡ 0 = ap (λ z. get_or z m 0) ep ∙ last_start run [] m (count ∙ ap length ep) in
          absurd (omega arith)
      given_to (run ∷ other ∷ before) are ei ep eg =
          let last : x ≡ run.last = ex ∙ ap (λ z. get_or z n x) ei ∙ last_stored run (other ∷ before) x n (size ∙ ap length ei) in
          let smaller : p.cluster < run.last.cluster = omega (arith, ap (λ y. y.cluster) last) in
          let stored : set items n (hand_over p x) ≡ stored_runs (other ∷ before) ++ (run.front ++ hand_over p run.last ∷ []) =
          ap (λ z. set z n (hand_over p x)) ei ∙ ap (λ z. set (stored_runs (run ∷ other ∷ before)) n (hand_over p z)) last
          ∙ set_last run (other ∷ before) (hand_over p run.last) n (size ∙ ap length ei) in
          let start : get_or places m 0 ≡ length (stored_runs (other ∷ before)) = ap (λ z. get_or z m 0) ep
          ∙ last_start run (other ∷ before) m (count ∙ ap length ep) in
          let read : get_or (set items n (hand_over p x)) (get_or places m 0 - 1) d ≡ other.last =
          ap (λ k. get_or (set items n (hand_over p x)) (k - 1) d) start
          ∙ ap (λ z. get_or z (length (stored_runs (other ∷ before)) - 1) d) stored
          ∙ before_last other before (run.front ++ hand_over p run.last ∷ []) d in
          let gives : give_to_kept (length items) p given ≡ written_runs (other ∷ before) ++ map (hand_over p) (written (items_of run)) =
          ap (give_to_kept (length items) p) eg
          ∙ give_runs p run (other ∷ before) (length items) are.0 are.1 smaller
          (ap length ei ∙ sym (length-written_runs (run ∷ other ∷ before))) in
          let counted : length (starts (run ∷ other ∷ before))
          ≡ length (starts (other ∷ before)) + 1 = length-append (starts (other ∷ before)) (length (stored_runs (other ∷ before)) ∷ []) in
          let fewer : take m places ≡ starts (other ∷ before) =
          ap (take m) ep ∙ take_at (starts (other ∷ before)) (length (stored_runs (other ∷ before)) ∷ []) m (omega (arith, ap length ep)) in
          rw (stored, fewer, gives) (joins run other before p are smaller (ap (λ y. y.cluster) (sym read) ∙ same))
