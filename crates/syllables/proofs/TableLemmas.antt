-- A table that passes the tests is that of the grammar.
use Rattle.std.proofs.Common.{◌≡◌, ℕ, zero, suc, ◌+◌, ◌*◌, ◌<◌, ◌≤◌, ◌==◌, ◌&&◌, nat_le, nat_lt, Bool, true, false, if◌then◌else◌, List, [], ◌∷◌, length, drop, Option, None, Some, slice_get, refl, sym, ap, subst, ◌∙◌, arith}
use Rattle.std.proofs.lemmas.Bool.Decides.{nat_tests}
use Rattle.syllables.specs.Pattern.{Pattern, Nothing, Empty, One, Then, Or, Star, is_in}
use Rattle.syllables.specs.Derivatives.{nullable, same, either, seq, deriv}
use Rattle.syllables.specs.Grammar.{Grammar, with_rest, step, kind_of}
use Rattle.syllables.specs.Machines.{or_zero, or_none, kind_or_none, IsMachineOf}
use Rattle.syllables.specs.Tables.{state_in, same_grammar, row_holds, rows_hold, same_kind, kinds_hold, is_below, in_columns, rules_in_columns, all_in_columns}
use Rattle.syllables.specs.declared.scanner.Machine.{Machine}
use Rattle.syllables.proofs.MatchLemmas.{differ, both, same_number, same-is}

below-is : (x n : ℕ) → nat_lt x n ≡ true → x < n
below-is x n e = grind (arith, nat_tests)

-- ---- grammars that are written alike are the same

abbrev rule_of : ℕ → Pattern → ℕ × Pattern
rule_of kind p = (kind, p)

rule-is : (x y : ℕ × Pattern) → x.0 ≡ y.0 → x.1 ≡ y.1 → x ≡ y
rule-is x y e f = ap (λ (k : ℕ). rule_of k x.1) e ∙ ap (λ (p : Pattern). rule_of y.0 p) f

grammar-is : (g h : Grammar) → same_grammar g h ≡ true → g ≡ h
grammar-is [] [] e = refl
grammar-is [] (y ∷ ys) e = absurd (differ e)
grammar-is (x ∷ xs) [] e = absurd (differ e)
grammar-is (x ∷ xs) (y ∷ ys) e =
    let h = both (x.0 == y.0) (same x.1 y.1 && same_grammar xs ys) e in
    let i = both (same x.1 y.1) (same_grammar xs ys) h.1 in
    let first : x ≡ y = rule-is x y (same_number x.0 y.0 h.0) (same-is x.1 y.1 i.0) in
    let rest : xs ≡ ys = grammar-is xs ys i.1 in cc

kind-is : (j k : Option ℕ) → same_kind j k ≡ true → j ≡ k
kind-is None None e = refl
kind-is None (Some k) e = absurd (differ e)
kind-is (Some j) None e = absurd (differ e)
kind-is (Some j) (Some k) e = ap Some (same_number j k e)

-- ---- rows

slice_get-drop : (n : ℕ) (xs : List ℕ) (i : ℕ) → slice_get (drop n xs) i ≡ slice_get xs (n + i)
slice_get-drop zero xs i = let e : 0 + i ≡ i = omega arith in rw e refl
slice_get-drop (suc n) [] i = refl
slice_get-drop (suc n) (x ∷ xs) i =
    let e : suc n + i ≡ suc (n + i) = omega arith in
    subst (λ k. slice_get (drop n xs) i ≡ slice_get (x ∷ xs) k) (sym e) (slice_get-drop n xs i)

-- where a state goes by a category
record Goes (gs : List Grammar) (g : Grammar) (c : ℕ) (entry : Option ℕ) : Type 0 where
  pub within : or_zero entry < length gs
  pub next : step c g ≡ state_in gs (or_zero entry)

row-at : (gs : List Grammar) (g : Grammar) (c n : ℕ) (rows : List ℕ) → row_holds gs g c n rows ≡ true → (k : ℕ) → k < n
    → Goes gs g (c + k) (slice_get rows k)
row-at gs g c zero rows e k h = absurd (omega arith)
row-at gs g c (suc n) [] e k h = absurd (differ e)
row-at gs g c (suc n) (t ∷ ts) e zero h =
    let i = both (nat_lt t (length gs)) (same_grammar (step c g) (state_in gs t) && row_holds gs g (suc c) n ts) e in
    let j = both (same_grammar (step c g) (state_in gs t)) (row_holds gs g (suc c) n ts) i.1 in
    let z : c + 0 ≡ c = omega arith in
    subst (λ d. Goes gs g d (Some t)) (sym z)
    (record { within = below-is t (length gs) i.0; next = grammar-is (step c g) (state_in gs t) j.0 })
row-at gs g c (suc n) (t ∷ ts) e (suc k) h =
    let i = both (nat_lt t (length gs)) (same_grammar (step c g) (state_in gs t) && row_holds gs g (suc c) n ts) e in
    let j = both (same_grammar (step c g) (state_in gs t)) (row_holds gs g (suc c) n ts) i.1 in
    let z : suc c + k ≡ c + suc k = omega arith in
    subst (λ d. Goes gs g d (slice_get ts k)) z (row-at gs g (suc c) n ts j.1 k (omega arith))

rows-at : (gs : List Grammar) (n : ℕ) (part : List Grammar) (rows : List ℕ) → rows_hold gs n part rows ≡ true
    → (s : ℕ) → s < length part → (c : ℕ) → c < n → Goes gs (state_in part s) c (slice_get rows (s * n + c))
rows-at gs n [] rows e s h c i = absurd (omega arith)
rows-at gs n (g ∷ rest) rows e zero h c i =
    let j = both (row_holds gs g 0 n rows) (rows_hold gs n rest (drop n rows)) e in
    let z : 0 + c ≡ 0 * n + c = omega arith in
    let y : 0 + c ≡ c = omega arith in
    subst (λ k. Goes gs g c (slice_get rows k)) (sym y ∙ z) (subst (λ d. Goes gs g d (slice_get rows c)) y (row-at gs g 0 n rows j.0 c i))
rows-at gs n (g ∷ rest) rows e (suc s) h c i =
    let j = both (row_holds gs g 0 n rows) (rows_hold gs n rest (drop n rows)) e in
    let z : n + (s * n + c) ≡ suc s * n + c = omega arith in
    subst (λ k. Goes gs (state_in rest s) c (slice_get rows k)) z
    (subst (λ o. Goes gs (state_in rest s) c o) (slice_get-drop n rows (s * n + c))
    (rows-at gs n rest (drop n rows) j.1 s (omega arith) c i))

kinds-at : (gs : List Grammar) (kinds : List ℕ) → kinds_hold gs kinds ≡ true → (s : ℕ) → s < length gs
    → kind_of (state_in gs s) ≡ kind_or_none (or_none (slice_get kinds s))
kinds-at [] kinds e s h = absurd (omega arith)
kinds-at (g ∷ gs) [] e s h = absurd (differ e)
kinds-at (g ∷ gs) (k ∷ ks) e zero h =
    let i = both (same_kind (kind_of g) (kind_or_none k)) (kinds_hold gs ks) e in kind-is (kind_of g) (kind_or_none k) i.0
kinds-at (g ∷ gs) (k ∷ ks) e (suc s) h =
    let i = both (same_kind (kind_of g) (kind_or_none k)) (kinds_hold gs ks) e in kinds-at gs ks i.1 s (omega arith)

-- ---- categories that no pattern names

is_in-past : (n c : ℕ) (set : List ℕ) → is_below n set ≡ true → n ≤ c → is_in c set ≡ false
is_in-past n c [] e h = refl
is_in-past n c (x ∷ xs) e h =
    let i = both (nat_lt x n) (is_below n xs) e in
    let below : x < n = below-is x n i.0 in
    let other : (c == x) ≡ false = grind (arith, nat_tests) in
    rw (other, is_in-past n c xs i.1 h) refl

deriv-past : (n c : ℕ) (p : Pattern) → in_columns n p ≡ true → n ≤ c → deriv c p ≡ Nothing
deriv-past n c Nothing e h = refl
deriv-past n c Empty e h = refl
deriv-past n c (One set) e h = rw (is_in-past n c set e h) refl
deriv-past n c (Then p q) e h =
    let i = both (in_columns n p) (in_columns n q) e in
    let a = deriv-past n c p i.0 h in
    let b = deriv-past n c q i.1 h in
    subst (λ w. (if nullable p then either (seq w q) (deriv c q) else seq w q) ≡ Nothing) (sym a)
    (subst (λ w. (if nullable p then either Nothing w else Nothing) ≡ Nothing) (sym b)
    (elim (nullable p) as (λ o. (if o then Nothing else Nothing) ≡ Nothing) [ true ↦ refl | false ↦ refl ]))
deriv-past n c (Or p q) e h =
    let i = both (in_columns n p) (in_columns n q) e in
    let a = deriv-past n c p i.0 h in
    let b = deriv-past n c q i.1 h in
    subst (λ w. either w (deriv c q) ≡ Nothing) (sym a) b
deriv-past n c (Star p) e h = subst (λ w. seq w (Star p) ≡ Nothing) (sym (deriv-past n c p e h)) refl

step-past : (n c : ℕ) (g : Grammar) → rules_in_columns n g ≡ true → n ≤ c → step c g ≡ []
step-past n c [] e h = refl
step-past n c (rule ∷ rules) e h =
    let i = both (in_columns n rule.1) (rules_in_columns n rules) e in
    subst (λ w. with_rest rule.0 w (step c rules) ≡ []) (sym (deriv-past n c rule.1 i.0 h)) (step-past n c rules i.1 h)

columns-at : (n : ℕ) (gs : List Grammar) → all_in_columns n gs ≡ true → (s : ℕ) → s < length gs → rules_in_columns n (state_in gs s) ≡ true
columns-at n [] e s h = absurd (omega arith)
columns-at n (g ∷ gs) e zero h = (both (rules_in_columns n g) (all_in_columns n gs) e).0
columns-at n (g ∷ gs) e (suc s) h = columns-at n gs (both (rules_in_columns n g) (all_in_columns n gs) e).1 s (omega arith)

-- ---- the machine

goes-by : (m : Machine) (gs : List Grammar) → 0 < length gs → state_in gs 0 ≡ [] → rows_hold gs m.columns gs m.rows.now ≡ true
    → all_in_columns m.columns gs ≡ true → (s c : ℕ) → s < length gs → (b : Bool) → nat_le m.columns c ≡ b
    → ((if b then 0 else or_zero (slice_get m.rows.now (s * m.columns + c))) < length gs)
    × (step c (state_in gs s) ≡ state_in gs (if b then 0 else or_zero (slice_get m.rows.now (s * m.columns + c))))
goes-by m gs some dead rows columns s c h true e =
    let past : m.columns ≤ c = grind (arith, nat_tests) in
    (some, step-past m.columns c (state_in gs s) (columns-at m.columns gs columns s h) past ∙ sym dead)
goes-by m gs some dead rows columns s c h false e =
    let below : c < m.columns = grind (arith, nat_tests) in
    let goes = rows-at gs m.columns gs m.rows.now rows s h c below in
    (goes.within, goes.next)

machine-of : (m : Machine) (g : Grammar) (gs : List Grammar) → 1 < length gs → state_in gs 1 ≡ g → state_in gs 0 ≡ []
    → rows_hold gs m.columns gs m.rows.now ≡ true → all_in_columns m.columns gs ≡ true → kinds_hold gs m.kinds.now ≡ true
    → IsMachineOf m g
machine-of m g gs some start dead rows columns kinds = record {
  rests = state_in gs;
  states = length gs;
  some = some;
  start = start;
  dead = dead;
  next = λ s c h. (goes-by m gs (omega arith) dead rows columns s c h (nat_le m.columns c) refl).1;
  closed = λ s c h. (goes-by m gs (omega arith) dead rows columns s c h (nat_le m.columns c) refl).0;
  kinds = λ s h. kinds-at gs m.kinds.now kinds s h;
}

-- the same, where what the table has is written out
pub machine-by : (m : Machine) (n : ℕ) (rs ks : List ℕ) → m.columns ≡ n → m.rows.now ≡ rs → m.kinds.now ≡ ks
    → (g : Grammar) (gs : List Grammar) → 1 < length gs → state_in gs 1 ≡ g → state_in gs 0 ≡ []
    → rows_hold gs n gs rs ≡ true → all_in_columns n gs ≡ true → kinds_hold gs ks ≡ true → IsMachineOf m g
machine-by m n rs ks c r k g gs some start dead rows columns kinds =
    machine-of m g gs some start dead
    (subst (λ d. rows_hold gs d gs m.rows.now ≡ true) (sym c) (subst (λ l. rows_hold gs n gs l ≡ true) (sym r) rows))
    (subst (λ d. all_in_columns d gs ≡ true) (sym c) columns)
    (subst (λ l. kinds_hold gs l ≡ true) (sym k) kinds)
