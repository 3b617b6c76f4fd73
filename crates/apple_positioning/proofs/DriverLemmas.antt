-- A walk step by step: a walk that has ended stays.
use Prim.Native.Nat.{zero}
use Rattle.std.proofs.Common.{◌≡◌, ℕ, suc, ◌+◌, ◌-◌, ◌<◌, ◌≤◌, true, false, ◌||◌, if◌then◌else◌, length, nat_eq, refl, sym, ap, ◌∙◌, arith}
use Rattle.shape_items.specs.Buffer.{Buffer, limit_of}
use Rattle.shape_items.specs.BufferClusters.{unsafe_to_break}
use Rattle.shape_items.proofs.Merging.KeyLemmas.{length-unsafe_to_break, without_items-unsafe_to_break}
use Rattle.apple_positioning.specs.Deeds.{Deeds}
use Rattle.apple_positioning.specs.Driver.{Drive, driven_on, is_safe_to_break, marked, stepped}
use Rattle.apple_positioning.specs.Runs.{Source}
use Rattle.apple_positioning.specs.declared.driver.Met.{Met}
use Rattle.apple_positioning.specs.declared.driver.Walk.{Walk}

-- ---- marking

pub length_marked : (s : Source) (at : ℕ) (met : Met) (b : Buffer) → length (marked s at met b).items ≡ length b.items
unfolding marked
length_marked s at met b =
    elim (nat_eq at 0 || (met.ends || is_safe_to_break s met)) as (λ t.
    length (if t then b else unsafe_to_break (at - 1) (at + 1) b).items ≡ length b.items) [
      | true ↦ refl
      | false ↦ length-unsafe_to_break (at - 1) (at + 1) b
    ]

pub limit_marked : (s : Source) (at : ℕ) (met : Met) (b : Buffer) → limit_of (marked s at met b) ≡ limit_of b
unfolding marked
limit_marked s at met b =
    elim (nat_eq at 0 || (met.ends || is_safe_to_break s met)) as (λ t.
    limit_of (if t then b else unsafe_to_break (at - 1) (at + 1) b) ≡ limit_of b) [
      | true ↦ refl
      | false ↦ ap limit_of (without_items-unsafe_to_break (at - 1) (at + 1) b)
    ]

-- ---- one step more

step_on : {T : Type 0} (s : Source) (deeds : Deeds T) (n : ℕ) (here : Drive T) → here.walk.has_ended ≡ false
    → driven_on s deeds (suc n) here ≡ driven_on s deeds n (stepped s deeds here)
step_on s deeds n here goes = ap (λ ends. driven_on s deeds n (if ends then here else stepped s deeds here)) goes

pub driven_next : {T : Type 0} (s : Source) (deeds : Deeds T) (n i : ℕ) (here there end : Drive T) → i < n
    → driven_on s deeds (n - i) here ≡ end → here.walk.has_ended ≡ false → there ≡ stepped s deeds here
    → driven_on s deeds (n - (i + 1)) there ≡ end
driven_next s deeds n i here there end more before goes is =
    let e : n - i ≡ suc (n - (i + 1)) = omega (arith, more) in
    ap (driven_on s deeds (n - (i + 1))) is ∙ sym (step_on s deeds (n - (i + 1)) here goes)
    ∙ sym (ap (λ k. driven_on s deeds k here) e) ∙ before

still : {T : Type 0} (s : Source) (deeds : Deeds T) (n : ℕ) (d : Drive T) → d.walk.has_ended ≡ true → driven_on s deeds n d ≡ d
still s deeds zero d is = refl
still s deeds (suc n) d is =
    ap (λ ends. driven_on s deeds n (if ends then d else stepped s deeds d)) is ∙ still s deeds n d is

-- a walk that has ended, and one whose steps are all made
pub all_ended : {T : Type 0} (s : Source) (deeds : Deeds T) (n i : ℕ) (b : Buffer) (memory : T) (walk : Walk) (end : Drive T)
    → driven_on s deeds (n - i) (record { buffer = b; memory = memory; walk = walk }) ≡ end → walk.has_ended ≡ true → b ≡ end.buffer
all_ended {T} s deeds n i b memory walk end made is =
    let here : Drive T = record { buffer = b; memory = memory; walk = walk } in
    ap (λ (d : Drive T). d.buffer) (sym (still s deeds (n - i) here is) ∙ made)

pub all_made : {T : Type 0} (s : Source) (deeds : Deeds T) (n i : ℕ) (b : Buffer) (memory : T) (walk : Walk) (end : Drive T)
    → driven_on s deeds (n - i) (record { buffer = b; memory = memory; walk = walk }) ≡ end → n ≤ i → b ≡ end.buffer
all_made {T} s deeds n i b memory walk end made over =
    let here : Drive T = record { buffer = b; memory = memory; walk = walk } in
    let none : n - i ≡ 0 = omega (arith, over) in
    ap (λ (d : Drive T). d.buffer) (sym (ap (λ k. driven_on s deeds k here) none) ∙ made)
