-- Components deleted and popped one by one.
use Prim.Native.Nat.{zero}
use Rattle.std.proofs.Common.{◌≡◌, ℕ, suc, ◌+◌, ◌-◌, ◌<◌, ◌≤◌, true, false, List, refl, sym, ap, ◌∙◌, arith, if◌then◌else◌}
use Rattle.shape_items.specs.Buffer.{Buffer}
use Rattle.apple_substitution.specs.Ligature.{Popped, deleted_at, deleted_from, place_in, popped, popped_one}
use Rattle.apple_substitution.specs.declared.ligature.Popping.{Popping}

-- one component more is deleted, and all are
pub deleted_next : (places : List ℕ) (k to at : ℕ) (b new end : Buffer) → k < to → deleted_from places k (to - k) b ≡ end
    → at ≡ place_in places k → new ≡ deleted_at at b → deleted_from places (k + 1) (to - (k + 1)) new ≡ end
deleted_next places k to at b new end more before there is =
    let e : to - k ≡ suc (to - (k + 1)) = omega (arith, more) in
    ap (deleted_from places (k + 1) (to - (k + 1))) (is ∙ ap (λ n. deleted_at n b) there)
    ∙ sym (ap (λ n. deleted_from places k n b) e) ∙ before

pub deleted_none : (places : List ℕ) (k to : ℕ) (b end : Buffer) → to ≤ k → deleted_from places k (to - k) b ≡ end → b ≡ end
deleted_none places k to b end over before =
    let none : to - k ≡ 0 = omega (arith, over) in
    sym (ap (λ n. deleted_from places k n b) none) ∙ before

-- one component more is popped
pub popped_next : (t : List ℕ) (start : ℕ) (places : List ℕ) (n i : ℕ) (here there end : Popped) → i < n
    → popped t start places (n - i) here ≡ end → here.popping.has_ended ≡ false → there ≡ popped_one t start places here
    → popped t start places (n - (i + 1)) there ≡ end
popped_next t start places n i here there end more before goes is =
    let e : n - i ≡ suc (n - (i + 1)) = omega (arith, more) in
    let one : (if here.popping.has_ended then here else popped_one t start places here) ≡ popped_one t start places here =
    ap (λ ends. if ends then here else popped_one t start places here) goes in
    ap (popped t start places (n - (i + 1))) (is ∙ sym one) ∙ sym (ap (λ k. popped t start places k here) e) ∙ before

-- actions that have ended change nothing any more
popped_still : (t : List ℕ) (start : ℕ) (places : List ℕ) (n : ℕ) (s : Popped) → s.popping.has_ended ≡ true
    → popped t start places n s ≡ s
popped_still t start places zero s is = refl
popped_still t start places (suc n) s is =
    let same : (if s.popping.has_ended then s else popped_one t start places s) ≡ s =
    ap (λ ends. if ends then s else popped_one t start places s) is in
    ap (popped t start places n) same ∙ popped_still t start places n s is

pub popped_ended : (t : List ℕ) (start : ℕ) (places : List ℕ) (n : ℕ) (b : Buffer) (p : Popping) (end : Popped)
    → popped t start places n (record { buffer = b; popping = p }) ≡ end → p.has_ended ≡ true
    → record { buffer = b; popping = p } ≡ end
popped_ended t start places n b p end made is =
    sym (popped_still t start places n (record { buffer = b; popping = p }) is) ∙ made

pub popped_all : (t : List ℕ) (start : ℕ) (places : List ℕ) (n i : ℕ) (b : Buffer) (p : Popping) (end : Popped)
    → popped t start places (n - i) (record { buffer = b; popping = p }) ≡ end → n ≤ i
    → record { buffer = b; popping = p } ≡ end
popped_all t start places n i b p end made over =
    let none : n - i ≡ 0 = omega (arith, over) in
    sym (ap (λ k. popped t start places k (record { buffer = b; popping = p })) none) ∙ made
