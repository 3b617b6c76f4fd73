-- A scan finds the syllable at its place, whatever is remembered, and what it leaves to remember was in vain.
use Rattle.std.proofs.Common.{◌≡◌, ℕ, zero, suc, ◌+◌, ◌-◌, ◌<◌, ◌≤◌, ◌==◌, ◌&&◌, nat_le, nat_lt, Bool, true, false, if◌then◌else◌, List, [], ◌∷◌, drop, None, refl, sym, ap, subst, ◌∙◌, arith}
use Rattle.std.proofs.lemmas.Bool.Decides.{nat_tests}
use Rattle.std.proofs.lemmas.Bool.{both_ways}
use Rattle.syllables.specs.Grammar.{better}
use Rattle.syllables.specs.Machines.{next_state, kind_at, kind_or_none, read_on, by_table}
use Rattle.syllables.specs.Reading.{nowhere, only, is_at, followed, begun, read_to, read_one, read_all, scan_at, remembered, IsVain}
use Rattle.syllables.specs.declared.reading.Scan.{Scan}
use Rattle.syllables.specs.declared.reading.Stretch.{Stretch}
use Rattle.syllables.specs.declared.scanner.Machine.{Machine}
use Rattle.syllables.specs.declared.scanner.Syllable.{Syllable}
use Rattle.syllables.proofs.MatchLemmas.{both, same_number}

abbrev empty : List ℕ
empty = []

drop-none : (n : ℕ) → empty ≡ drop n empty
drop-none zero = refl
drop-none (suc n) = refl

not_none : (c : ℕ) (cs : List ℕ) → empty ≡ c ∷ cs → ⊥
not_none c cs e = both_ways false refl (ap (λ (l : List ℕ). elim l [ [] ↦ false | x ∷ y ↦ true ]) e)

drop-next : (n : ℕ) (xs : List ℕ) (c : ℕ) (cs : List ℕ) → drop n xs ≡ c ∷ cs → drop (n + 1) xs ≡ cs
drop-next n [] c cs e = absurd (not_none c cs (drop-none n ∙ e))
drop-next zero (x ∷ xs) c cs e = ap (λ (l : List ℕ). elim l [ [] ↦ [] | y ∷ ys ↦ ys ]) e
drop-next (suc n) (x ∷ xs) c cs e =
    let count : suc n + 1 ≡ suc (n + 1) = omega arith in
    subst (λ k. drop k (x ∷ xs) ≡ cs) (sym count) (drop-next n xs c cs e)

-- ---- one step of reading on

step-some : (m : Machine) (s n : ℕ) (found : Syllable) (c : ℕ) (cs : List ℕ) → (next_state m s c == 0) ≡ false
    → read_on m s n found (c ∷ cs)
    ≡ read_on m (next_state m s c) (n + 1) (better (kind_or_none (kind_at m (next_state m s c))) (n + 1) found) cs
step-some m s n found c cs e = rw e refl

step-dead : (m : Machine) (s n : ℕ) (found : Syllable) (c : ℕ) (cs : List ℕ) → (next_state m s c == 0) ≡ true
    → read_on m s n found (c ∷ cs) ≡ found
step-dead m s n found c cs e = rw e refl

-- ---- stretches

-- the state of a stretch leads from each of its places to the present one, and nothing is found between
abbrev Leads : Machine → List ℕ → Stretch → (state place : ℕ) → Type 0
Leads m xs v state place =
    (p : ℕ) → v.from ≤ p → p ≤ v.to → (n : ℕ) (found : Syllable)
    → read_on m v.state n found (drop p xs) ≡ read_on m state (n + (place - p)) found (drop place xs)

record Follows (m : Machine) (xs : List ℕ) (v : Stretch) (state place : ℕ) : Type 0 where
  pub within : v.to ≤ place
  pub leads : Leads m xs v state place

follows-only : (m : Machine) (xs : List ℕ) (state place : ℕ) → Follows m xs (only state place) state place
follows-only m xs state place = record {
  within = omega arith;
  leads = λ p low high n found.
      let here : p ≡ place = omega arith in
      let none : n + (place - place) ≡ n = omega arith in
      subst (λ q. read_on m state n found (drop q xs) ≡ read_on m state (n + (place - q)) found (drop place xs)) (sym here)
      (sym (ap (λ k. read_on m state k found (drop place xs)) none));
}

-- where nothing was found at the next place, it leads there
leads-on : (m : Machine) (xs : List ℕ) (v : Stretch) (s place c : ℕ) (cs : List ℕ) → drop place xs ≡ c ∷ cs
    → (next_state m s c == 0) ≡ false → kind_or_none (kind_at m (next_state m s c)) ≡ None → Follows m xs v s place
    → Leads m xs v (next_state m s c) (place + 1)
leads-on m xs v s place c cs e some none follows p low high n found =
    let t = next_state m s c in
    let k = n + (place - p) in
    let within : v.to ≤ place = follows.within in
    let count : k + 1 ≡ n + (place + 1 - p) = omega arith in
    follows.leads p low high n found
    ∙ ap (λ l. read_on m s k found l) e
    ∙ step-some m s k found c cs some
    ∙ ap (λ o. read_on m t (k + 1) (better o (k + 1) found) cs) none
    ∙ ap (λ l. read_on m t (k + 1) found l) (sym (drop-next place xs c cs e))
    ∙ ap (λ i. read_on m t i found (drop (place + 1) xs)) count

-- the next place is taken in, as the state stays
leads-longer : (m : Machine) (xs : List ℕ) (v : Stretch) (t place : ℕ) → v.state ≡ t → v.to ≡ place → Leads m xs v t (place + 1)
    → (p : ℕ) → v.from ≤ p → p ≤ place + 1 → (n : ℕ) (found : Syllable) → (b : Bool) → nat_le p place ≡ b
    → read_on m t n found (drop p xs) ≡ read_on m t (n + (place + 1 - p)) found (drop (place + 1) xs)
leads-longer m xs v t place state to leads p low high n found true e =
    let before : p ≤ v.to = grind (arith, nat_tests) in
    subst (λ s. read_on m s n found (drop p xs) ≡ read_on m t (n + (place + 1 - p)) found (drop (place + 1) xs)) state
    (leads p low before n found)
leads-longer m xs v t place state to leads p low high n found false e =
    let past : place < p = grind (arith, nat_tests) in
    (follows-only m xs t (place + 1)).leads p (omega arith) (omega arith) n found

follows-kept : (m : Machine) (xs : List ℕ) (v : Stretch) (t place : ℕ) → v.to ≤ place → Leads m xs v t (place + 1)
    → (b : Bool) → Follows m xs (if b then v else only t (place + 1)) t (place + 1)
follows-kept m xs v t place within leads true = record { within = omega arith; leads = leads }
follows-kept m xs v t place within leads false = follows-only m xs t (place + 1)

follows-followed : (m : Machine) (xs : List ℕ) (v : Stretch) (t place : ℕ) → v.to ≤ place → Leads m xs v t (place + 1)
    → (b : Bool) → ((v.state == t) && (v.to == place + 1 - 1)) ≡ b
    → Follows m xs
    (if b then record { state = t; from = v.from; to = place + 1 } else if nat_lt v.from v.to then v else only t (place + 1))
    t (place + 1)
follows-followed m xs v t place within leads true e =
    let h = both (v.state == t) (v.to == place + 1 - 1) e in
    let state : v.state ≡ t = same_number v.state t h.0 in
    let at = same_number v.to (place + 1 - 1) h.1 in
    let to : v.to ≡ place = omega arith in
    record {
      within = omega arith;
      leads = λ p low high n found. leads-longer m xs v t place state to leads p low high n found (nat_le p place) refl;
    }
follows-followed m xs v t place within leads false e = follows-kept m xs v t place within leads (nat_lt v.from v.to)

follows-at : (m : Machine) (xs : List ℕ) (v : Stretch) (s place c : ℕ) (cs : List ℕ) → drop place xs ≡ c ∷ cs
    → (next_state m s c == 0) ≡ false → Follows m xs v s place → (b : Bool) → (kind_at m (next_state m s c) == 255) ≡ b
    → Follows m xs
    (if b then followed v (next_state m s c) (place + 1) else only (next_state m s c) (place + 1))
    (next_state m s c) (place + 1)
follows-at m xs v s place c cs e some follows true f =
    let t = next_state m s c in
    follows-followed m xs v t place follows.within (leads-on m xs v s place c cs e some (rw f refl) follows)
    ((v.state == t) && (v.to == place + 1 - 1)) refl
follows-at m xs v s place c cs e some follows false f = follows-only m xs (next_state m s c) (place + 1)

-- ---- scans

-- a scan at a place that will find the syllable
record Going (m : Machine) (xs : List ℕ) (goal : Syllable) (place : ℕ) (scan : Scan) : Type 0 where
  pub finds : read_on m scan.state (place - scan.start) scan.found (drop place xs) ≡ goal
  pub started : scan.start ≤ place
  pub follows : Follows m xs scan.stretch scan.state place

-- a scan that has found it
record Finished (m : Machine) (xs : List ℕ) (goal : Syllable) (scan : Scan) : Type 0 where
  pub found : scan.found ≡ goal
  pub vain : IsVain m xs scan.stretch

-- nothing more is found from the present place on
finish : (m : Machine) (xs : List ℕ) (goal : Syllable) (place : ℕ) (scan : Scan) (over : Bool) → Going m xs goal place scan
    → ((n : ℕ) (found : Syllable) → read_on m scan.state n found (drop place xs) ≡ found)
    → Finished m xs goal (record scan { over = over })
finish m xs goal place scan over going ends = record {
  found = sym (ends (place - scan.start) scan.found) ∙ going.finds;
  vain = λ p low high n found. going.follows.leads p low high n found ∙ ends (n + (place - p)) found;
}

go-on : (m : Machine) (xs : List ℕ) (goal : Syllable) (place : ℕ) (scan : Scan) (vain : Stretch) (c : ℕ) (cs : List ℕ)
    → drop place xs ≡ c ∷ cs → (next_state m scan.state c == 0) ≡ false → Going m xs goal place scan
    → Going m xs goal (place + 1) (read_to m vain scan (next_state m scan.state c) (place + 1))
go-on m xs goal place scan vain c cs e some going =
    let t = next_state m scan.state c in
    let started : scan.start ≤ place = going.started in
    let count : place + 1 - scan.start ≡ place - scan.start + 1 = omega arith in
    let k = place - scan.start in
    record {
      finds =
          ap (λ l. read_on m t (place + 1 - scan.start) (better (kind_or_none (kind_at m t)) (place + 1 - scan.start) scan.found) l)
          (drop-next place xs c cs e)
          ∙ ap (λ i. read_on m t i (better (kind_or_none (kind_at m t)) i scan.found) cs) count
          ∙ sym (step-some m scan.state k scan.found c cs some)
          ∙ ap (λ l. read_on m scan.state k scan.found l) (sym e)
          ∙ going.finds;
      started = omega arith;
      follows = follows-at m xs scan.stretch scan.state place c cs e some going.follows (kind_at m t == 255) refl;
    }

pub over-stays : (m : Machine) (vain : Stretch) (scan : Scan) (place : ℕ) (cs : List ℕ) → scan.over ≡ true
    → read_all m vain scan place cs ≡ scan
over-stays m vain scan place [] e = refl
over-stays m vain scan place (c ∷ cs) e = rw e refl

vain-at : (m : Machine) (xs : List ℕ) (vain : Stretch) → IsVain m xs vain → (state place : ℕ) → is_at vain state place ≡ true
    → (n : ℕ) (found : Syllable) → read_on m state n found (drop place xs) ≡ found
vain-at m xs vain is state place e n found =
    let h = both (state == vain.state) (nat_le vain.from place && nat_le place vain.to) e in
    let i = both (nat_le vain.from place) (nat_le place vain.to) h.1 in
    let low : vain.from ≤ place = grind (arith, nat_tests) in
    let high : place ≤ vain.to = grind (arith, nat_tests) in
    subst (λ s. read_on m s n found (drop place xs) ≡ found) (sym (same_number state vain.state h.0)) (is place low high n found)

-- the next scan is over, or goes on in the rest
run-next : (m : Machine) (xs : List ℕ) (vain : Stretch) (goal : Syllable) → IsVain m xs vain → (place : ℕ) (cs : List ℕ) (next : Scan)
    → Going m xs goal (place + 1) next → next.over ≡ is_at vain next.state (place + 1)
    → (next.over ≡ false → Finished m xs goal (read_all m vain next (place + 1) cs))
    → (b : Bool) → next.over ≡ b → Finished m xs goal (read_all m vain next (place + 1) cs)
run-next m xs vain goal is place cs next going over rest true e =
    subst (λ r. Finished m xs goal r) (sym (over-stays m vain next (place + 1) cs e))
    (finish m xs goal (place + 1) next next.over going (vain-at m xs vain is next.state (place + 1) (sym over ∙ e)))
run-next m xs vain goal is place cs next going over rest false e = rest e

run-one : (m : Machine) (xs : List ℕ) (vain : Stretch) (goal : Syllable) → IsVain m xs vain → (place c : ℕ) (cs : List ℕ) (scan : Scan)
    → drop place xs ≡ c ∷ cs → Going m xs goal place scan
    → ((next : Scan) → drop (place + 1) xs ≡ cs → next.over ≡ false → Going m xs goal (place + 1) next
    → Finished m xs goal (read_all m vain next (place + 1) cs))
    → (b : Bool) → (next_state m scan.state c == 0) ≡ b
    → Finished m xs goal
    (read_all m vain (if b then record scan { over = true } else read_to m vain scan (next_state m scan.state c) (place + 1)) (place + 1) cs)
run-one m xs vain goal is place c cs scan e going rest true f =
    subst (λ r. Finished m xs goal r) (sym (over-stays m vain (record scan { over = true }) (place + 1) cs refl))
    (finish m xs goal place scan true going
    (λ n found. ap (λ l. read_on m scan.state n found l) e ∙ step-dead m scan.state n found c cs f))
run-one m xs vain goal is place c cs scan e going rest false f =
    let next = read_to m vain scan (next_state m scan.state c) (place + 1) in
    let on = go-on m xs goal place scan vain c cs e f going in
    run-next m xs vain goal is place cs next on refl (λ g. rest next (drop-next place xs c cs e) g on) next.over refl

run : (m : Machine) (xs : List ℕ) (vain : Stretch) (goal : Syllable) → IsVain m xs vain → (cs : List ℕ) (place : ℕ) (scan : Scan)
    → drop place xs ≡ cs → scan.over ≡ false → Going m xs goal place scan → Finished m xs goal (read_all m vain scan place cs)
run m xs vain goal is [] place scan e over going =
    finish m xs goal place scan scan.over going (λ n found. ap (λ l. read_on m scan.state n found l) e)
run m xs vain goal is (c ∷ cs) place scan e over going =
    let first : read_all m vain scan place (c ∷ cs) ≡ read_all m vain (read_one m vain scan c (place + 1)) (place + 1) cs = rw over refl in
    subst (λ r. Finished m xs goal r) (sym first)
    (run-one m xs vain goal is place c cs scan e going (λ next f g on. run m xs vain goal is cs (place + 1) next f g on)
    (next_state m scan.state c == 0) refl)

scan-is : (m : Machine) (xs : List ℕ) (vain : Stretch) (place : ℕ) → IsVain m xs vain
    → Finished m xs (by_table m (drop place xs)) (scan_at m vain place xs)
scan-is m xs vain place is =
    let none : place - place ≡ 0 = omega arith in
    run m xs vain (by_table m (drop place xs)) is (drop place xs) place (begun m place) refl refl (record {
      finds = ap (λ k. read_on m 1 k (record { kind = m.other; count = 1 }) (drop place xs)) none;
      started = omega arith;
      follows = follows-only m xs 1 place;
    })

-- ---- of any text

pub vain-nowhere : (m : Machine) (xs : List ℕ) → IsVain m xs nowhere
vain-nowhere m xs p low high n found = absurd (omega arith)

pub scan-finds : (m : Machine) (xs : List ℕ) (vain : Stretch) (place : ℕ) → IsVain m xs vain
    → (scan_at m vain place xs).found ≡ by_table m (drop place xs)
scan-finds m xs vain place is = (scan-is m xs vain place is).found

vain-kept : (m : Machine) (xs : List ℕ) (own before : Stretch) → IsVain m xs own → IsVain m xs before → (b : Bool)
    → IsVain m xs (if b then own else before)
vain-kept m xs own before first second true = first
vain-kept m xs own before first second false = second

pub scan-remembers : (m : Machine) (xs : List ℕ) (vain : Stretch) (place : ℕ) → IsVain m xs vain
    → IsVain m xs (remembered (scan_at m vain place xs) vain)
scan-remembers m xs vain place is =
    let scan = scan_at m vain place xs in
    vain-kept m xs scan.stretch vain (scan-is m xs vain place is).vain is (nat_lt scan.stretch.from scan.stretch.to)
