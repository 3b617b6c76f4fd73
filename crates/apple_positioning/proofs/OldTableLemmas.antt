-- A run over the subtables of the older table, one by one; and one of a table that is kerned by pairs along the line alone.
use Prim.Native.Nat.{zero}
use Rattle.std.proofs.Common.{◌≡◌, ◌∙◌, ap, sym, ℕ, suc, ◌+◌, ◌-◌, ◌<◌, ◌≤◌, ◌&&◌, ◌||◌, Bool, true, false, not, nat_eq, nat_lt, List, length, refl, arith, if◌then◌else◌}
use Rattle.std.proofs.lemmas.Bool.Decides.{nat_tests}
use Rattle.kern_table.specs.Headers.{ends_table, first_start, length_of}
use Rattle.kern_table.specs.Tables.{charged, kerned_from, subtable_count_of, subtable_kerned, subtable_work, table_kerned}
use Rattle.shape_items.specs.Buffer.{Buffer}
use Rattle.apple_positioning.specs.OldTables.{Font, chained_after, ended, has_across, has_machine, is_across, is_machine, is_plain, kern_run}
use Rattle.apple_positioning.specs.OldTables.{one_more, runs_more, runs_on, some_from}

is_false : (t : Bool) → true ≡ not t → t ≡ false
is_false true e = cc
is_false false e = refl

is_true : (t : Bool) → false ≡ not t → t ≡ true
is_true true e = refl
is_true false e = cc

-- ---- what some subtable is

one_of_some : (p : ℕ → Bool) (t : List ℕ) (n start : ℕ) → ends_table t start ≡ false
    → some_from p t (suc n) start ≡ (p start || some_from p t n (start + length_of t start))
one_of_some p t n start goes = ap (λ (e : Bool). if e then false else (p start || some_from p t n (start + length_of t start))) goes

pub some_found : (p : ℕ → Bool) (t : List ℕ) (n i start : ℕ) (all : Bool) → i < n → ends_table t start ≡ false → p start ≡ true
    → some_from p t (n - i) start ≡ all → true ≡ all
some_found p t n i start all more goes here before =
    let e : n - i ≡ suc (n - (i + 1)) = omega (arith, more) in
    sym (ap (λ (b : Bool). b || some_from p t (n - (i + 1)) (start + length_of t start)) here)
    ∙ sym (one_of_some p t (n - (i + 1)) start goes) ∙ sym (ap (λ k. some_from p t k start) e) ∙ before

pub some_next : (p : ℕ → Bool) (t : List ℕ) (n i start : ℕ) (all : Bool) → i < n → ends_table t start ≡ false → p start ≡ false
    → some_from p t (n - i) start ≡ all → some_from p t (n - (i + 1)) (start + length_of t start) ≡ all
some_next p t n i start all more goes here before =
    let e : n - i ≡ suc (n - (i + 1)) = omega (arith, more) in
    sym (ap (λ (b : Bool). b || some_from p t (n - (i + 1)) (start + length_of t start)) here)
    ∙ sym (one_of_some p t (n - (i + 1)) start goes) ∙ sym (ap (λ k. some_from p t k start) e) ∙ before

none_ended : (p : ℕ → Bool) (t : List ℕ) (n start : ℕ) → ends_table t start ≡ true → some_from p t n start ≡ false
none_ended p t zero start ends = refl
none_ended p t (suc n) start ends = ap (λ (e : Bool). if e then false else (p start || some_from p t n (start + length_of t start))) ends

pub some_ended : (p : ℕ → Bool) (t : List ℕ) (n i start : ℕ) (all : Bool) → ends_table t start ≡ true
    → some_from p t (n - i) start ≡ all → false ≡ all
some_ended p t n i start all ends before = sym (none_ended p t (n - i) start ends) ∙ before

pub some_over : (p : ℕ → Bool) (t : List ℕ) (n i start : ℕ) (all : Bool) → n ≤ i → some_from p t (n - i) start ≡ all → false ≡ all
some_over p t n i start all over before =
    let none : n - i ≡ 0 = omega (arith, over) in
    sym (ap (λ k. some_from p t k start) none) ∙ before

-- ---- a run

abbrev go_on : Font → ℕ → ℕ → Bool → Buffer → Buffer
go_on f n start is_chained b = runs_on f n (start + length_of f.kern start) (chained_after f start (nat_eq n 0) is_chained (charged b))
    (one_more f start (nat_eq n 0) is_chained (charged b))

goes_on : (f : Font) (n start : ℕ) (is_chained : Bool) (b : Buffer) → ends_table f.kern start ≡ false
    → runs_on f (suc n) start is_chained b
    ≡ (if nat_lt b.max_ops (subtable_work (length b.items)) then ended is_chained (charged b) else go_on f n start is_chained b)
goes_on f n start is_chained b goes =
    ap (λ (e : Bool). if e then ended is_chained b
    else (if nat_lt b.max_ops (subtable_work (length b.items)) then ended is_chained (charged b) else go_on f n start is_chained b)) goes

pub runs_next : (f : Font) (n i start : ℕ) (is_last is_chained : Bool) (b end : Buffer) → i < n → is_last ≡ nat_eq (i + 1) n
    → ends_table f.kern start ≡ false → true ≡ not (nat_lt b.max_ops (subtable_work (length b.items)))
    → runs_on f (n - i) start is_chained b ≡ end
    → runs_on f (n - (i + 1)) (start + length_of f.kern start) (chained_after f start is_last is_chained (charged b))
    (one_more f start is_last is_chained (charged b)) ≡ end
runs_next f n i start is_last is_chained b end more last goes paid before =
    let e : n - i ≡ suc (n - (i + 1)) = omega (arith, more) in
    let suffices = is_false (nat_lt b.max_ops (subtable_work (length b.items))) paid in
    let same : is_last ≡ nat_eq (n - (i + 1)) 0 = last ∙ grind (arith, nat_tests, more) in
    let next : Bool → Buffer = λ l. runs_on f (n - (i + 1)) (start + length_of f.kern start) (chained_after f start l is_chained (charged b))
    (one_more f start l is_chained (charged b)) in
    ap next same ∙ sym (ap (λ (t : Bool). if t then ended is_chained (charged b) else go_on f (n - (i + 1)) start is_chained b) suffices)
    ∙ sym (goes_on f (n - (i + 1)) start is_chained b goes) ∙ sym (ap (λ k. runs_on f k start is_chained b) e) ∙ before

pub runs_on_step : (f : Font) (n i start : ℕ) (is_last is_chained after : Bool) (b paid there end : Buffer) (len : ℕ) → i < n
    → is_last ≡ nat_eq (i + 1) n → ends_table f.kern start ≡ false → true ≡ not (nat_lt b.max_ops (subtable_work (length b.items)))
    → paid ≡ charged b → there ≡ one_more f start is_last is_chained paid → after ≡ chained_after f start is_last is_chained paid
    → len ≡ length_of f.kern start → runs_on f (n - i) start is_chained b ≡ end → runs_on f (n - (i + 1)) (start + len) after there ≡ end
runs_on_step f n i start is_last is_chained after b paid there end len more last goes enough is made follows long before =
    ap (λ k. runs_on f (n - (i + 1)) (start + k) after there) long
    ∙ ap (λ t. runs_on f (n - (i + 1)) (start + length_of f.kern start) t there) follows
    ∙ ap (λ (c : Buffer). runs_on f (n - (i + 1)) (start + length_of f.kern start) (chained_after f start is_last is_chained paid) c) made
    ∙ ap (λ (p : Buffer). runs_on f (n - (i + 1)) (start + length_of f.kern start) (chained_after f start is_last is_chained p)
    (one_more f start is_last is_chained p)) is
    ∙ runs_next f n i start is_last is_chained b end more last goes enough before

pub runs_spent : (f : Font) (n i start : ℕ) (is_chained : Bool) (b end : Buffer) → i < n
    → ends_table f.kern start ≡ false → false ≡ not (nat_lt b.max_ops (subtable_work (length b.items)))
    → runs_on f (n - i) start is_chained b ≡ end → ended is_chained (charged b) ≡ end
runs_spent f n i start is_chained b end more goes lacks before =
    let e : n - i ≡ suc (n - (i + 1)) = omega (arith, more) in
    let spent = is_true (nat_lt b.max_ops (subtable_work (length b.items))) lacks in
    sym (ap (λ (t : Bool). if t then ended is_chained (charged b) else go_on f (n - (i + 1)) start is_chained b) spent)
    ∙ sym (goes_on f (n - (i + 1)) start is_chained b goes) ∙ sym (ap (λ k. runs_on f k start is_chained b) e) ∙ before

over_ended : (f : Font) (n start : ℕ) (is_chained : Bool) (b : Buffer) → ends_table f.kern start ≡ true
    → runs_on f n start is_chained b ≡ ended is_chained b
over_ended f zero start is_chained b ends = refl
over_ended f (suc n) start is_chained b ends =
    ap (λ (e : Bool). if e then ended is_chained b
    else (if nat_lt b.max_ops (subtable_work (length b.items)) then ended is_chained (charged b) else go_on f n start is_chained b)) ends

pub runs_ended : (f : Font) (n i start : ℕ) (is_chained : Bool) (b end : Buffer) → ends_table f.kern start ≡ true
    → runs_on f (n - i) start is_chained b ≡ end → ended is_chained b ≡ end
runs_ended f n i start is_chained b end ends before = sym (over_ended f (n - i) start is_chained b ends) ∙ before

pub runs_over : (f : Font) (n i start : ℕ) (is_chained : Bool) (b end : Buffer) → n ≤ i → runs_on f (n - i) start is_chained b ≡ end
    → ended is_chained b ≡ end
runs_over f n i start is_chained b end over before =
    let none : n - i ≡ 0 = omega (arith, over) in
    sym (ap (λ k. runs_on f k start is_chained b) none) ∙ before

-- ---- a table without a state table that moves no glyph across the line

left_of_or : (a b : Bool) → (a || b) ≡ false → a ≡ false
left_of_or true b e = cc
left_of_or false b e = refl

right_of_or : (a b : Bool) → (a || b) ≡ false → b ≡ false
right_of_or true b e = cc
right_of_or false b e = e

runs_less : (v m a : Bool) → m ≡ false → a ≡ false → (not v && (m || a)) ≡ false
runs_less true m a still along = refl
runs_less false m a still along = ap (λ t. t || a) still ∙ along

pairs_from : (f : Font) (n start : ℕ) (b : Buffer) → some_from (is_machine f.kern) f.kern n start ≡ false
    → some_from (is_across f.kern) f.kern n start ≡ false
    → runs_on f n start false b ≡ kerned_from f.scale f.kern f.mask n start b
pairs_from f zero start b still along = refl
pairs_from f (suc n) start b still along =
    let t : List ℕ = f.kern in
    let spent : Bool = nat_lt b.max_ops (subtable_work (length b.items)) in
    let there : ℕ = start + length_of t start in
    let P : Bool → Type 0 = λ e. ends_table t start ≡ e
    → (if e then ended false b else (if spent then ended false (charged b) else go_on f n start false b))
    ≡ (if e then b else (if spent then charged b else kerned_from f.scale t f.mask n there (subtable_kerned f.scale t start f.mask (charged b)))) in
    let cases : P (ends_table t start) = elim (ends_table t start) as P [
      | true ↦ λ e. refl
      | false ↦ λ e.
          let machines = sym (one_of_some (is_machine t) t n start e) ∙ still in
          let across = sym (one_of_some (is_across t) t n start e) ∙ along in
          let less : runs_more t start ≡ false = runs_less _ (is_machine t start) (is_across t start)
          (left_of_or (is_machine t start) (some_from (is_machine t) t n there) machines)
          (left_of_or (is_across t start) (some_from (is_across t) t n there) across) in
          let next : Buffer = subtable_kerned f.scale t start f.mask (charged b) in
          let same : go_on f n start false b ≡ runs_on f n there false next = rw less refl in
          ap (λ (c : Buffer). if spent then charged b else c)
          (same ∙ pairs_from f n there next (right_of_or (is_machine t start) (some_from (is_machine t) t n there) machines)
          (right_of_or (is_across t start) (some_from (is_across t) t n there) across))
    ] in
    cases refl

neither : (m a : Bool) → not (m || a) ≡ true → (m ≡ false) × (a ≡ false)
neither true a e = cc
neither false true e = cc
neither false false e = (refl, refl)

pub kern_of_pairs : (f : Font) (b : Buffer) → is_plain f.kern ≡ true → kern_run f b ≡ table_kerned f.scale f.kern f.mask b
unfolding kern_run
kern_of_pairs f b plain =
    let lacks = neither (has_machine f.kern) (has_across f.kern) plain in
    let same = pairs_from f (subtable_count_of f.kern) (first_start f.kern) b lacks.0 lacks.1 in
    rw plain (ap (λ (c : Buffer). if nat_eq f.mask 0 && true then b else c) same ∙ by_mask (nat_eq f.mask 0) b _)
  where
    by_mask : (t : Bool) (x y : Buffer) → (if t && true then x else y) ≡ (if t then x else y)
    by_mask true x y = refl
    by_mask false x y = refl

pub run_of_pairs : (f : Font) (b : Buffer) → has_machine f.kern ≡ false → has_across f.kern ≡ false
    → table_kerned f.scale f.kern f.mask b ≡ kern_run f b
run_of_pairs f b machine across =
    sym (kern_of_pairs f b (ap (λ (t : Bool). not (t || has_across f.kern)) machine ∙ ap (λ (t : Bool). not t) across))
