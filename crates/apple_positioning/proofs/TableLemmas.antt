-- A run over the subtables of a table, one by one.
use Rattle.std.proofs.Common.{◌≡◌, ◌∙◌, ap, sym, ℕ, ◌+◌, ◌≤◌, Bool, true, false, not, nat_lt, ◌||◌, List, [], ◌∷◌, length, refl, arith, if◌then◌else◌}
use Rattle.kern_table.specs.Tables.{charged, subtable_work}
use Rattle.shape_items.specs.Buffer.{Buffer}
use Rattle.apple_positioning.specs.Chains.{rest_of, subtables_from}
use Rattle.apple_positioning.specs.Tables.{Font, chains, one_run, runs_from, source}
use Rattle.apple_positioning.specs.declared.chains.Chain.{Chain}

is_false : (t : Bool) → true ≡ not t → t ≡ false
is_false true e = cc
is_false false e = refl

is_true : (t : Bool) → false ≡ not t → t ≡ true
is_true true e = refl
is_true false e = cc

pub runs_next : (f : Font) (all rest : List (List ℕ)) (bytes : List ℕ) (is_chained : Bool) (b end : Buffer) → all ≡ bytes ∷ rest
    → true ≡ not (nat_lt b.max_ops (subtable_work (length b.items))) → runs_from f all is_chained b ≡ end
    → runs_from f rest (is_chained || chains (source f bytes) is_chained (charged b)) (one_run (source f bytes) is_chained (charged b)) ≡ end
runs_next f all rest bytes is_chained b end is paid before =
    let suffices = is_false (nat_lt b.max_ops (subtable_work (length b.items))) paid in
    let next = runs_from f rest (is_chained || chains (source f bytes) is_chained (charged b)) (one_run (source f bytes) is_chained (charged b)) in
    sym (ap (λ (t : Bool). if t then charged b else next) suffices) ∙ sym (ap (λ ts. runs_from f ts is_chained b) is) ∙ before

pub runs_spent : (f : Font) (all rest : List (List ℕ)) (bytes : List ℕ) (is_chained : Bool) (b end : Buffer) → all ≡ bytes ∷ rest
    → false ≡ not (nat_lt b.max_ops (subtable_work (length b.items))) → runs_from f all is_chained b ≡ end → charged b ≡ end
runs_spent f all rest bytes is_chained b end is lacks before =
    let spent = is_true (nat_lt b.max_ops (subtable_work (length b.items))) lacks in
    let next = runs_from f rest (is_chained || chains (source f bytes) is_chained (charged b)) (one_run (source f bytes) is_chained (charged b)) in
    sym (ap (λ (t : Bool). if t then charged b else next) spent) ∙ sym (ap (λ ts. runs_from f ts is_chained b) is) ∙ before

pub runs_none : (f : Font) (all : List (List ℕ)) (is_chained : Bool) (b end : Buffer) → all ≡ [] → runs_from f all is_chained b ≡ end → b ≡ end
runs_none f all is_chained b end is before = sym (ap (λ ts. runs_from f ts is_chained b) is) ∙ before

pub runs_over : (f : Font) (chain : Chain) (is_chained : Bool) (n i : ℕ) (b end : Buffer) → n ≤ i → chain.left + i ≡ n
    → runs_from f (rest_of chain) is_chained b ≡ end → b ≡ end
runs_over f chain is_chained n i b end over left before =
    let none : chain.left ≡ 0 = omega (arith, over, left) in
    runs_none f (rest_of chain) is_chained b end (ap (λ k. subtables_from chain.table.now k chain.start) none) before
