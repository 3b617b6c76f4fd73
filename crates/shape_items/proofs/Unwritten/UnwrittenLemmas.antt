-- Runs whose writing is put off: where they begin, and where they are written.
use Rattle.std.proofs.Common.{◌≡◌, ◌≢◌, ℕ, ◌+◌, ◌-◌, ◌<◌, ◌≤◌, List, [], ◌∷◌, ◌++◌, length, get_or, take, drop, set, refl, ap, sym, ◌∙◌, arith, append_assoc, length-append}
use borrow.Rule.Slice.PartMut.{put_mid}
use Rattle.std.proofs.lemmas.Slice.{between_is}
use Rattle.std.proofs.lemmas.List.{drop-drop, take_more, drop_more, take-take, get_or-take, length-take-le, length-drop, take-append-drop, take_all, drop_all, take_at, drop_at}
use Rattle.std.proofs.Math.Seq.{get_or-append_seam, set-append_seam}
use Rattle.shape_items.specs.Items.{Item}
use Rattle.shape_items.specs.Unwritten.{UnwrittenRun, follow, written, items_of, stored_runs, written_runs, starts, IsApart, AreRuns, StandsFor}
use Rattle.shape_items.proofs.Unwritten.WrittenLemmas.{follow_stays, length-written, written-append, above-less, above-append, at_end, stored-ends, last_stored, apart_as}
use Rattle.shape_items.proofs.Unwritten.GivenLemmas.{length-given}

-- an item opens a run
opens : (items : List Item) (places : List ℕ) (given : List Item) (x : Item) (s : StandsFor items places given)
    → IsApart (record { front = []; last = x }) s.runs
    → StandsFor (items ++ x ∷ []) (places ++ length items ∷ []) (given ++ x ∷ [])
opens items places given x s apart = record {
  runs = record { front = []; last = x } ∷ s.runs;
  are_runs = (tt, apart, s.are_runs);
  items_are = ap (λ z. z ++ x ∷ []) s.items_are;
  places_are = ap (λ z. z ++ length items ∷ []) s.places_are ∙ ap (λ z. starts s.runs ++ length z ∷ []) s.items_are;
  given_are = ap (λ z. z ++ x ∷ []) s.given_are;
}

pub open_first : (items : List Item) (places : List ℕ) (given : List Item) (x : Item) → length items ≡ 0 → StandsFor items places given
    → StandsFor (items ++ x ∷ []) (places ++ length items ∷ []) (given ++ x ∷ [])
open_first items places given x none s = opens items places given x s (apart s.runs s.items_are) where
  apart : (runs : List UnwrittenRun) → items ≡ stored_runs runs → IsApart (record { front = []; last = x }) runs
  apart [] e = tt
  apart (run ∷ before) e =
      let size : length (stored_runs (run ∷ before)) ≡ length (stored_runs before ++ run.front) + 1 = ap length (stored-ends run before)
      ∙ length-append (stored_runs before ++ run.front) (run.last ∷ []) in
      let zero_size : length (stored_runs (run ∷ before)) ≡ 0 = ap length (sym e) ∙ none in
      absurd (omega arith)

pub open_next : (items : List Item) (places : List ℕ) (given : List Item) (x d : Item) (n : ℕ) → n + 1 ≡ length items
    → x.cluster ≢ (get_or items n d).cluster → StandsFor items places given
    → StandsFor (items ++ x ∷ []) (places ++ length items ∷ []) (given ++ x ∷ [])
open_next items places given x d n size differs s = opens items places given x s (apart s.runs s.items_are) where
  apart : (runs : List UnwrittenRun) → items ≡ stored_runs runs → IsApart (record { front = []; last = x }) runs
  apart [] e = tt
  apart (run ∷ before) e =
      λ same. differs (same ∙ ap (λ y. y.cluster) (sym (ap (λ z. get_or z n d) e ∙ last_stored run before d n (size ∙ ap length e))))

-- an item goes on with the last run
pub more : (items : List Item) (places : List ℕ) (given : List Item) (x d : Item) (n : ℕ) → n + 1 ≡ length items
    → x.cluster ≡ (get_or items n d).cluster → StandsFor items places given
    → StandsFor (items ++ x ∷ []) places (given ++ x ∷ [])
more items places given x d n size same s = with_runs s.runs s.are_runs s.items_are s.places_are s.given_are where
  with_runs : (runs : List UnwrittenRun) → AreRuns runs → items ≡ stored_runs runs → places ≡ starts runs → given ≡ written_runs runs
      → StandsFor (items ++ x ∷ []) places (given ++ x ∷ [])
  with_runs [] are ei ep eg = let none : length items ≡ 0 = ap length ei in absurd (omega arith)
  with_runs (run ∷ before) are ei ep eg =
      let cluster : x.cluster ≡ run.last.cluster = same
      ∙ ap (λ y. y.cluster) (ap (λ z. get_or z n d) ei ∙ last_stored run before d n (size ∙ ap length ei)) in
      let longer : UnwrittenRun = record { front = items_of run; last = x } in
      let stays : follow run.last (x ∷ []) ≡ run.last = follow_stays run.last x [] (omega arith) in
      record {
        runs = longer ∷ before;
        are_runs = (
          above-append x.cluster run.front (run.last ∷ []) (above-less run.last.cluster x.cluster run.front (omega arith) are.0)
              (omega arith, tt),
          apart_as run longer before cluster are.1,
          are.2,
        );
        items_are = ap (λ z. z ++ x ∷ []) ei ∙ append_assoc (stored_runs before) (items_of run) (x ∷ []);
        places_are = ep;
        given_are = ap (λ z. z ++ x ∷ []) eg ∙ append_assoc (written_runs before) (written (items_of run)) (x ∷ [])
            ∙ ap (λ z. written_runs before ++ z) (sym (written-append run.front run.last (x ∷ []) stays));
      }

-- nothing is kept yet
pub StandsFor-none : StandsFor [] [] []
StandsFor-none = record { runs = []; are_runs = tt; items_are = refl; places_are = refl; given_are = refl }

pub StandsFor-empty : (items : List Item) (places : List ℕ) (given : List Item) → StandsFor items places given → length items ≡ 0
    → given ≡ []
StandsFor-empty items places given s none = length-zero given (length-given items places given s ∙ none) where
  length-zero : (xs : List Item) → length xs ≡ 0 → xs ≡ []
  length-zero [] e = refl
  length-zero (x ∷ xs) e = absurd (omega arith)

-- an item is written by the one after it
write_at : (xs w : List Item) (z x y : Item) (j : ℕ) → j ≡ length xs → 0 < length w → x ≡ get_or (xs ++ z ∷ w) j x
    → y ≡ get_or (xs ++ z ∷ w) (j + 1) y
    → set (xs ++ z ∷ w) j (follow x (y ∷ [])) ≡ xs ++ (follow z w ∷ w)
write_at xs [] z x y j ej some ex ey = absurd (omega arith)
write_at xs (u ∷ us) z x y j ej some ex ey =
    let x_is : x ≡ z = ex ∙ ap (λ k. get_or (xs ++ z ∷ u ∷ us) k x) ej ∙ get_or-append_seam xs z (u ∷ us) x in
    let next : j + 1 ≡ length (xs ++ z ∷ []) = ap (λ k. k + 1) ej ∙ sym (length-append xs (z ∷ [])) in
    let split : xs ++ z ∷ u ∷ us ≡ (xs ++ z ∷ []) ++ u ∷ us = sym (append_assoc xs (z ∷ []) (u ∷ us)) in
    let y_is : y ≡ u = ey ∙ ap (λ zs. get_or zs (j + 1) y) split ∙ ap (λ k. get_or ((xs ++ z ∷ []) ++ u ∷ us) k y) next
    ∙ get_or-append_seam (xs ++ z ∷ []) u us y in
    ap (λ k. set (xs ++ z ∷ u ∷ us) k (follow x (y ∷ []))) ej ∙ set-append_seam xs z (u ∷ us) (follow x (y ∷ []))
    ∙ ap (λ v. xs ++ (follow v (y ∷ []) ∷ u ∷ us)) x_is ∙ ap (λ v. xs ++ (follow z (v ∷ []) ∷ u ∷ us)) y_is

pub write_step : (old cur : List Item) (i : ℕ) (x y : Item) → 1 < i → i ≤ length old → cur ≡ take (i - 1) old ++ written (drop (i - 1) old)
    → y ≡ get_or cur (i - 1) y → x ≡ get_or cur (i - 1 - 1) x
    → set cur (i - 1 - 1) (follow x (y ∷ [])) ≡ take (i - 1 - 1) old ++ written (drop (i - 1 - 1) old)
write_step old cur i x y lt le e ey ex =
    let j = i - 1 - 1 in
    let z = get_or old j x in
    let at : i - 1 ≡ j + 1 = omega arith in
    let w = written (drop (j + 1) old) in
    let some : 0 < length w = rw (length-written, length-drop) (omega arith) in
    let split : cur ≡ take j old ++ z ∷ w =
    e ∙ ap (λ k. take k old ++ written (drop k old)) at ∙ ap (λ zs. zs ++ w) (take_more old j x (omega arith))
    ∙ append_assoc (take j old) (z ∷ []) w in
    let size : j ≡ length (take j old) = sym (length-take-le j old (omega arith)) in
    let more_dropped : drop j old ≡ z ∷ drop (j + 1) old = drop_more old j x (omega arith) in
    ap (λ zs. set zs j (follow x (y ∷ []))) split
    ∙ write_at (take j old) w z x y j size some (ex ∙ ap (λ zs. get_or zs j x) split)
    (ey ∙ ap (λ zs. get_or zs (i - 1) y) split ∙ ap (λ k. get_or (take j old ++ z ∷ w) k y) at)
    ∙ ap (λ zs. take j old ++ written zs) (sym more_dropped)

pub write_begins : (old : List Item) → old ≡ take (length old - 1) old ++ written (drop (length old - 1) old)
write_begins [] = refl
write_begins (x ∷ xs) =
    let old = x ∷ xs in
    let n = length old - 1 in
    let last : drop n old ≡ get_or old n x ∷ [] = drop_more old n x (omega arith)
    ∙ ap (λ zs. get_or old n x ∷ zs) (drop_all (n + 1) old (omega arith)) in
    sym (ap (λ zs. take n old ++ written zs) last ∙ sym (take_more old n x (omega arith)) ∙ take_all (n + 1) old (omega arith))

-- the last run is written
pub write_last : (infos given : List Item) (places : List ℕ) (e c : ℕ) (runs : List UnwrittenRun) → e ≤ length infos → c + 1 ≤ length places
    → take e infos ≡ stored_runs runs → take (c + 1) places ≡ starts runs → given ≡ written_runs runs ++ drop e infos
    → (before : List UnwrittenRun) × (get_or places c 0 ≤ e) × (take (get_or places c 0) infos ≡ stored_runs before)
    × (take c places ≡ starts before)
    × (given ≡ written_runs before ++ (written (drop (get_or places c 0) (take e infos)) ++ drop e infos))
write_last infos given places e c [] le lt ei ep eg =
    let none : length (take (c + 1) places) ≡ 0 = ap length ep in
    let size : length (take (c + 1) places) ≡ c + 1 = length-take-le (c + 1) places lt in
    absurd (omega arith)
write_last infos given places e c (run ∷ before) le lt ei ep eg =
    let start = length (stored_runs before) in
    let size : length (take (c + 1) places) ≡ c + 1 = length-take-le (c + 1) places lt in
    let counted : length (starts (run ∷ before)) ≡ length (starts before) + 1 = length-append (starts before) (start ∷ []) in
    let c_is : c ≡ length (starts before) = omega (arith, ap length ep) in
    let at : get_or places c 0 ≡ start = sym (get_or-take (c + 1) places c 0 (omega arith)) ∙ ap (λ z. get_or z c 0) ep
    ∙ at_end (starts before) start 0 c (omega arith) in
    let stored : length (take e infos) ≡ e = length-take-le e infos le in
    let parts : length (stored_runs (run ∷ before)) ≡ start + length (items_of run) = length-append (stored_runs before) (items_of run) in
    let fits : start ≤ e = omega (arith, ap length ei) in
    let head : take start infos ≡ stored_runs before =
    sym (take-take start e infos fits) ∙ ap (take start) ei ∙ take_at (stored_runs before) (items_of run) start refl in
    let tail : drop start (take e infos) ≡ items_of run = ap (drop start) ei ∙ drop_at (stored_runs before) (items_of run) start refl in
    let fewer : take c places ≡ starts before =
    sym (take-take c (c + 1) places (omega arith)) ∙ ap (take c) ep ∙ take_at (starts before) (start ∷ []) c (sym c_is) in (
      before,
      omega (arith, at),
      ap (λ k. take k infos) at ∙ head,
      fewer,
      eg ∙ append_assoc (written_runs before) (written (items_of run)) (drop e infos)
          ∙ ap (λ z. written_runs before ++ (written z ++ drop e infos)) (sym (ap (λ k. drop k (take e infos)) at ∙ tail)),
    )

pub write_ends : (infos given : List Item) (places : List ℕ) (e : ℕ) (runs : List UnwrittenRun) → e ≤ length infos
    → take e infos ≡ stored_runs runs → take 0 places ≡ starts runs → given ≡ written_runs runs ++ drop e infos → infos ≡ given
write_ends infos given places e [] le ei ep eg =
    sym (take-append-drop e infos) ∙ ap (λ z. z ++ drop e infos) ei ∙ sym eg
write_ends infos given places e (run ∷ before) le ei ep eg =
    let counted : length (starts (run ∷ before))
    ≡ length (starts before) + 1 = length-append (starts before) (length (stored_runs before) ∷ []) in
    let none : 0 ≡ length (starts (run ∷ before)) = ap length ep in
    absurd (omega arith)

-- the same, if the list was written in place
pub write_last-in_place : (infos given w : List Item) (places : List ℕ) (e c : ℕ) (runs : List UnwrittenRun) → e ≤ length infos
    → c + 1 ≤ length places
    → take e infos ≡ stored_runs runs → take (c + 1) places ≡ starts runs → given ≡ written_runs runs ++ drop e infos
    → w ≡ written (take (e - get_or places c 0) (drop (get_or places c 0) infos))
    → (before : List UnwrittenRun) × (take (get_or places c 0) (put_mid (get_or places c 0) (e - get_or places c 0) infos w) ≡ stored_runs before)
    × (take c places ≡ starts before)
    × (given ≡ written_runs before ++ drop (get_or places c 0) (put_mid (get_or places c 0) (e - get_or places c 0) infos w))
write_last-in_place infos given w places e c runs le lt ei ep eg ew =
    let found = write_last infos given places e c runs le lt ei ep eg in
    let start = get_or places c 0 in
    let fits : start ≤ e = found.1 in
    let size : length (take start infos) ≡ start = length-take-le start infos (omega arith) in
    let sum : start + (e - start) ≡ e = omega arith in
    let rest : drop (e - start) (drop start infos) ≡ drop e infos = drop-drop (e - start) start infos ∙ ap (λ k. drop k infos) sum in
    let written_is : w ≡ written (drop start (take e infos)) = ew ∙ ap written (between_is infos start e) in
    let head : take start (take start infos ++ (w ++ drop (e - start) (drop start infos))) ≡ stored_runs found.0 =
    take_at (take start infos) (w ++ drop (e - start) (drop start infos)) start size ∙ found.2 in
    let tail : drop start (take start infos ++ (w ++ drop (e - start) (drop start infos)))
    ≡ written (drop start (take e infos)) ++ drop e infos =
    drop_at (take start infos) (w ++ drop (e - start) (drop start infos)) start size
    ∙ ap (λ z. z ++ drop (e - start) (drop start infos)) written_is ∙ ap (λ z. written (drop start (take e infos)) ++ z) rest in
    (found.0, head, found.3, found.4 ∙ ap (λ z. written_runs found.0 ++ z) (sym tail))

pub start_before : (infos given : List Item) (places : List ℕ) (e c : ℕ) (runs : List UnwrittenRun) → e ≤ length infos → c + 1 ≤ length places
    → take e infos ≡ stored_runs runs → take (c + 1) places ≡ starts runs → given ≡ written_runs runs ++ drop e infos
    → get_or places c 0 ≤ e
start_before infos given places e c runs le lt ei ep eg = (write_last infos given places e c runs le lt ei ep eg).1
