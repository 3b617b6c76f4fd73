-- A walk step by step: a refused step leaves a list past its limit to the end, and a walk that has ended stays.
use Prim.Native.Nat.{zero}
use Rattle.std.proofs.Common.{◌≡◌, ℕ, suc, ◌+◌, ◌-◌, ◌<◌, ◌≤◌, true, false, ◌||◌, refl, sym, ap, ◌∙◌, arith, if◌then◌else◌}
use Rattle.apple_tables.specs.declared.states.Entry.{Entry}
use Rattle.shape_items.specs.Buffer.{Buffer}
use Rattle.apple_substitution.specs.Driver.{Actions, Rules}
use Rattle.apple_substitution.specs.Drives.{Drive, advanced, drive_on, gone_on, looked_at, looks_again, step}
use Rattle.apple_substitution.specs.Edits.{charged, is_past}
use Rattle.apple_substitution.specs.Ranges.{STEP_WORK}
use Rattle.apple_substitution.specs.declared.driver.Walk.{Walk}

-- one step more
pub drive_next : {T : Type 0} (r : Rules) (a : Actions T) (n i : ℕ) (here there end : Drive T) → i < n
    → drive_on r a (n - i) here ≡ end → there ≡ step r a here → drive_on r a (n - (i + 1)) there ≡ end
drive_next r a n i here there end more before is =
    let e : n - i ≡ suc (n - (i + 1)) = omega (arith, more) in
    ap (drive_on r a (n - (i + 1))) is ∙ sym (ap (λ k. drive_on r a k here) e) ∙ before

-- a step that changes nothing any more
drive_still : {T : Type 0} (r : Rules) (a : Actions T) (n : ℕ) (d : Drive T) → step r a d ≡ d → drive_on r a n d ≡ d
drive_still r a zero d still = refl
drive_still r a (suc n) d still = ap (drive_on r a n) still ∙ drive_still r a n d still

ended_still : {T : Type 0} (r : Rules) (a : Actions T) (d : Drive T) → d.walk.has_ended ≡ true → step r a d ≡ d
unfolding step
ended_still r a d is = rw is refl

past_still : {T : Type 0} (r : Rules) (a : Actions T) (d : Drive T) → is_past d.buffer ≡ true → step r a d ≡ d
unfolding step
past_still r a d is = elim d.walk.has_ended as (λ t. (if t || is_past d.buffer then d
    else gone_on r a (record d { walk = looked_at r d.walk d.buffer })) ≡ d) [
      | true ↦ refl
      | false ↦ rw is refl
    ]

-- a walk that has ended, one whose steps are all made, and one that left a list past its limit
pub all_ended : {T : Type 0} (r : Rules) (a : Actions T) (n i : ℕ) (b : Buffer) (memory : T) (walk : Walk) (end : Drive T)
    → drive_on r a (n - i) (record { buffer = b; memory = memory; walk = walk }) ≡ end → walk.has_ended ≡ true → b ≡ end.buffer
all_ended {T} r a n i b memory walk end made is =
    let here : Drive T = record { buffer = b; memory = memory; walk = walk } in
    ap (λ (d : Drive T). d.buffer) (sym (drive_still r a (n - i) here (ended_still r a here is)) ∙ made)

pub all_made : {T : Type 0} (r : Rules) (a : Actions T) (n i : ℕ) (b : Buffer) (memory : T) (walk : Walk) (end : Drive T)
    → drive_on r a (n - i) (record { buffer = b; memory = memory; walk = walk }) ≡ end → n ≤ i → b ≡ end.buffer
all_made {T} r a n i b memory walk end made over =
    let here : Drive T = record { buffer = b; memory = memory; walk = walk } in
    let none : n - i ≡ 0 = omega (arith, over) in
    ap (λ (d : Drive T). d.buffer) (sym (ap (λ k. drive_on r a k here) none) ∙ made)

pub all_past : {T : Type 0} (r : Rules) (a : Actions T) (n i : ℕ) (here end : Drive T) → i < n
    → drive_on r a (n - i) here ≡ end → is_past (step r a here).buffer ≡ true → is_past end.buffer ≡ true
all_past {T} r a n i here end more made is =
    let e : n - i ≡ suc (n - (i + 1)) = omega (arith, more) in
    let still : drive_on r a (n - (i + 1)) (step r a here) ≡ step r a here =
    drive_still r a (n - (i + 1)) (step r a here) (past_still r a (step r a here) is) in
    ap (λ (d : Drive T). is_past d.buffer) (sym made ∙ ap (λ k. drive_on r a k here) e ∙ still) ∙ is

pub past_advanced : {T : Type 0} (e : Entry) (d : Drive T) → is_past d.buffer ≡ true → is_past (advanced e d).buffer ≡ true
past_advanced e d is = elim (looks_again e d.walk d.buffer) as (λ t. is_past (if t then charged STEP_WORK d.buffer else d.buffer) ≡ true) [
  | true ↦ is
  | false ↦ is
]
