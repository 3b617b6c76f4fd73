-- What a run is written as, once it is.
use Rattle.std.proofs.Common.{◌≡◌, ℕ, ◌+◌, ◌<◌, ◌≤◌, nat_lt, List, [], ◌∷◌, ◌++◌, length, get_or, map, refl, ap, sym, ◌∙◌, arith, suc, inl, inr, ◌⊎◌, bit_and, bit_or, append_assoc, length-append}
use Rattle.std.proofs.lemmas.Bool.{cases_Bool}
use Rattle.std.proofs.lemmas.Bool.Decides.{nat_tests}
use Rattle.std.proofs.lemmas.Nat.{and_assoc, and_or_apart, or_comm}
use Rattle.std.specs.Int.Bits.{and_zero_r}
use Rattle.std.proofs.Math.Seq.{get_or-append_seam}
use Rattle.shape_items.specs.Items.{Item, feature_bits}
use Rattle.shape_items.specs.Delete.{hand_over}
use Rattle.shape_items.specs.Unwritten.{AreAbove, UnwrittenRun, follow, written, items_of, stored_runs, written_runs, IsApart}

-- what was handed over replaces what was handed over before
twice_defined : (m n : ℕ) → bit_and (bit_or (feature_bits m) (bit_and n 7)) 7 ≡ bit_and n 7
twice_defined m n =
    ap (λ b. bit_and b 7) (or_comm (feature_bits m) (bit_and n 7))
    ∙ and_or_apart 7 (bit_and n 7) (feature_bits m) (and_assoc 7 m 4294967288 ∙ and_zero_r m) ∙ and_assoc 7 n 7

twice_features : (m n : ℕ) → feature_bits (bit_or (feature_bits m) (bit_and n 7)) ≡ feature_bits m
twice_features m n =
    and_or_apart 4294967288 (feature_bits m) (bit_and n 7) (and_assoc 4294967288 n 7 ∙ and_zero_r n) ∙ and_assoc 4294967288 m 4294967288

hand_over-from : (p x y : Item) → hand_over (hand_over p y) x ≡ hand_over p x
hand_over-from p x y = ap (λ b. record x { cluster = p.cluster; mask = bit_or (feature_bits x.mask) b }) (twice_defined y.mask p.mask)

hand_over-again : (p x y : Item) → hand_over p (hand_over y x) ≡ hand_over p x
hand_over-again p x y = ap (λ f. record x { cluster = p.cluster; mask = bit_or f (bit_and p.mask 7) }) (twice_features x.mask y.mask)

-- if what comes next has no smaller cluster, an item stays
pub follow_stays : (x y : Item) (ys : List Item) → x.cluster ≤ y.cluster → follow x (y ∷ ys) ≡ x
follow_stays x y ys le = grind (arith, nat_tests)

follow_takes : (x y : Item) (ys : List Item) → y.cluster < x.cluster → follow x (y ∷ ys) ≡ hand_over y x
follow_takes x y ys lt = grind (arith, nat_tests)

follow_cases : (x y : Item) (ys : List Item) → (follow x (y ∷ ys) ≡ x) ⊎ (follow x (y ∷ ys) ≡ hand_over y x)
follow_cases x y ys = elim (cases_Bool (nat_lt y.cluster x.cluster)) [
  | inl lt ↦ inr (rw lt refl)
  | inr ge ↦ inl (rw ge refl)
]

pub length-written : (xs : List Item) → length (written xs) ≡ length xs
length-written [] = refl
length-written (x ∷ xs) = ap suc (length-written xs)

-- a part whose next item stays apart is written by itself
follow_front : (x : Item) (xs ys : List Item) → 0 < length xs → follow x (xs ++ ys) ≡ follow x xs
follow_front x [] ys some = absurd (omega arith)
follow_front x (y ∷ xs) ys some = refl

pub some_last : (front : List Item) (x : Item) → 0 < length (front ++ x ∷ [])
some_last [] x = omega arith
some_last (y ∷ front) x = omega arith

pub written-append : (front : List Item) (x : Item) (ys : List Item) → follow x (written ys) ≡ x
    → written ((front ++ x ∷ []) ++ ys) ≡ written (front ++ x ∷ []) ++ written ys
written-append [] x ys stays = ap (λ z. z ∷ written ys) stays
written-append (y ∷ front) x ys stays =
    let later = written-append front x ys stays in
    let some : 0 < length (written (front ++ x ∷ [])) = rw length-written (some_last front x) in
    ap (λ z. follow y z ∷ z) later
    ∙ ap (λ z. z ∷ written (front ++ x ∷ []) ++ written ys) (follow_front y (written (front ++ x ∷ [])) (written ys) some)

-- every item stands in the cluster
unfoldable pub AreIn : ℕ → List Item → Type 0
AreIn c [] = Unit {0}
AreIn c (x ∷ xs) = (x.cluster ≡ c) × AreIn c xs

follow-in : (c : ℕ) (x : Item) (ys : List Item) → c ≤ x.cluster → 0 < length ys → AreIn c ys → (follow x ys).cluster ≡ c
unfolding AreIn
follow-in c x [] le some all = absurd (omega arith)
follow-in c x (y ∷ ys) le some all = grind (arith, nat_tests, all.0)

-- all of a run is written in its last cluster
pub written-in : (front : List Item) (x : Item) → AreAbove x.cluster front → AreIn x.cluster (written (front ++ x ∷ []))
unfolding AreIn
written-in [] x above = (refl, tt)
written-in (y ∷ front) x above =
    let later = written-in front x above.1 in
    let some : 0 < length (written (front ++ x ∷ [])) = rw length-written (some_last front x) in
    (follow-in x.cluster y (written (front ++ x ∷ [])) above.0 some later, later)

follow-hand_over : (p : Item) (c : ℕ) (y : Item) (ys : List Item) → c ≤ y.cluster → p.cluster < c → 0 < length ys
    → follow y (map (hand_over p) ys) ≡ hand_over p (follow y ys)
follow-hand_over p c y [] le lt some = absurd (omega arith)
follow-hand_over p c y (z ∷ ys) le lt some =
    let taken : follow y (map (hand_over p) (z ∷ ys)) ≡ hand_over p y = follow_takes y (hand_over p z) (map (hand_over p) ys) (omega arith)
    ∙ hand_over-from p y z in
    elim (follow_cases y z ys) [
      | inl stays ↦ taken ∙ ap (hand_over p) (sym stays)
      | inr takes ↦ taken ∙ sym (hand_over-again p y z) ∙ ap (hand_over p) (sym takes)
    ]

-- a run that takes a smaller cluster is written as if it had been written at once
pub written-hand_over : (p : Item) (front : List Item) (x : Item) → AreAbove x.cluster front → p.cluster < x.cluster
    → written (front ++ hand_over p x ∷ []) ≡ map (hand_over p) (written (front ++ x ∷ []))
written-hand_over p [] x above lt = refl
written-hand_over p (y ∷ front) x above lt =
    let later = written-hand_over p front x above.1 lt in
    let some : 0 < length (written (front ++ x ∷ [])) = rw length-written (some_last front x) in
    ap (λ z. follow y z ∷ z) later
    ∙ ap (λ z. z ∷ map (hand_over p) (written (front ++ x ∷ [])))
    (follow-hand_over p x.cluster y (written (front ++ x ∷ [])) above.0 lt some)

pub above-less : (c d : ℕ) (xs : List Item) → d ≤ c → AreAbove c xs → AreAbove d xs
above-less c d [] le above = tt
above-less c d (x ∷ xs) le above = (omega (arith, above.0), above-less c d xs le above.1)

pub above-append : (c : ℕ) (xs ys : List Item) → AreAbove c xs → AreAbove c ys → AreAbove c (xs ++ ys)
above-append c [] ys a b = b
above-append c (x ∷ xs) ys a b = (a.0, above-append c xs ys a.1 b)

-- the first item of a run is written in its last cluster
pub follow_run : (o : Item) (front : List Item) (x : Item) → AreAbove x.cluster front → x.cluster ≡ o.cluster
    → follow o (written (front ++ x ∷ [])) ≡ o
unfolding AreIn
follow_run o front x above e = stays (written (front ++ x ∷ [])) (written-in front x above) where
  stays : (ys : List Item) → AreIn x.cluster ys → follow o ys ≡ o
  stays [] all = refl
  stays (y ∷ ys) all = follow_stays o y ys (omega (arith, all.0))

-- reading the end of a list
pub at_end : {X : Type 0} (xs : List X) (x d : X) (n : ℕ) → n + 1 ≡ length (xs ++ x ∷ []) → get_or (xs ++ x ∷ []) n d ≡ x
at_end xs x d n e =
    let size : length (xs ++ x ∷ []) ≡ length xs + 1 = length-append xs (x ∷ []) in
    let there : n ≡ length xs = omega arith in
    ap (λ k. get_or (xs ++ x ∷ []) k d) there ∙ get_or-append_seam xs x [] d

pub stored-ends : (run : UnwrittenRun) (before : List UnwrittenRun) → stored_runs (run ∷ before) ≡ (stored_runs before ++ run.front) ++ run.last ∷ []
stored-ends run before = sym (append_assoc (stored_runs before) run.front (run.last ∷ []))

written-ends : (front : List Item) (x : Item) → (ys : List Item) × (written (front ++ x ∷ []) ≡ ys ++ x ∷ [])
written-ends [] x = ([], refl)
written-ends (y ∷ front) x =
    let later = written-ends front x in
    (follow y (written (front ++ x ∷ [])) ∷ later.0, ap (λ z. follow y (written (front ++ x ∷ [])) ∷ z) later.1)

pub written_runs-ends : (run : UnwrittenRun) (before : List UnwrittenRun) → (ys : List Item) × (written_runs (run ∷ before) ≡ ys ++ run.last ∷ [])
written_runs-ends run before =
    let end = written-ends run.front run.last in (
      written_runs before ++ end.0,
      ap (λ z. written_runs before ++ z) end.1
          ∙ sym (append_assoc (written_runs before) end.0 (run.last ∷ [])),
    )

pub length-written_runs : (runs : List UnwrittenRun) → length (written_runs runs) ≡ length (stored_runs runs)
length-written_runs [] = refl
length-written_runs (run ∷ before) =
    length-append (written_runs before) (written (items_of run))
    ∙ ap (λ n. n + length (written (items_of run))) (length-written_runs before)
    ∙ ap (λ n. length (stored_runs before) + n) (length-written (items_of run))
    ∙ sym (length-append (stored_runs before) (items_of run))

-- the last stored item is that of the last run
pub last_stored : (run : UnwrittenRun) (before : List UnwrittenRun) (d : Item) (n : ℕ) → n + 1 ≡ length (stored_runs (run ∷ before))
    → get_or (stored_runs (run ∷ before)) n d ≡ run.last
last_stored run before d n e =
    ap (λ z. get_or z n d) (stored-ends run before)
    ∙ at_end (stored_runs before ++ run.front) run.last d n (e ∙ ap length (stored-ends run before))

pub last_written : (run : UnwrittenRun) (before : List UnwrittenRun) (d : Item) (n : ℕ) → n + 1 ≡ length (written_runs (run ∷ before))
    → get_or (written_runs (run ∷ before)) n d ≡ run.last
last_written run before d n e =
    let end = written_runs-ends run before in
    ap (λ z. get_or z n d) end.1 ∙ at_end end.0 run.last d n (e ∙ ap length end.1)

pub apart_as : (a b : UnwrittenRun) (others : List UnwrittenRun) → b.last.cluster ≡ a.last.cluster → IsApart a others → IsApart b others
apart_as a b [] e apart = tt
apart_as a b (other ∷ _) e apart = λ same. apart (sym e ∙ same)
